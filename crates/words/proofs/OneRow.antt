-- A row is stored in a table, a row comes, a row goes: what the columns have then, and what every sum over the rows is. Assumes nothing.
use Rattle.std.specs.Prelude.{if◌then◌else◌, None}
use Prim.Native.Nat.{ℕ, zero, suc, ◌+◌, ◌-◌, ◌≤◌, ◌<◌}
use native.Mathlib.Omega.{arith}
use mathlib.Core.Bool.{Bool, true, false}
use mathlib.Core.List.{List, [], ◌∷◌}
use mathlib.Core.Logic.{◌≢◌}
use mathlib.Core.Path.{◌≡◌, refl, sym, ap, ◌∙◌}
use lib.ListN.{length, get_or, set, length-set}
use lib.Seq.{get_or-set_same, get_or-set_other}
use borrow.Author.Tests.{eqb-true}
use Rattle.plain.specs.Lists.{◌is◌, sum_below}
use Rattle.plain.proofs.Sums.{sum-none, sum_same, sum-last, sum_moved}
use Rattle.words.specs.Tables.{rows, key_at, place_of, sum_of, value_of, KeysOnce, Row, put_row, with_row}
use Rattle.words.proofs.Tables.{place_none, value_none}

-- ---- the words of a row

-- a row's columns lie one behind the other, each with room for w rows, none before a place
abbrev pub Apart : (w from : ℕ) → Row → Type 0
Apart w from [] = Unit {0}
Apart w from (cell ∷ row) = (from ≤ cell.0) × Apart w (cell.0 + w) row

-- where column m of a row starts, and the row's word there
abbrev pub column_of : Row → ℕ → ℕ
column_of row m = (get_or row m (0, 0)).0

abbrev pub word_of : Row → ℕ → ℕ
word_of row m = (get_or row m (0, 0)).1

put-long : (i : ℕ) (row : Row) (t : List ℕ) → length (put_row i row t) ≡ length t
put-long i [] t = refl
put-long i (cell ∷ row) t = put-long i row (set t (i + cell.0) cell.1) ∙ length-set t (i + cell.0) cell.1

-- with another number of rows beside it
pub row-long : (i : ℕ) (row : Row) (t : List ℕ) (number : ℕ) → length (set (put_row i row t) 0 number) ≡ length t
row-long i row t number = length-set (put_row i row t) 0 number ∙ put-long i row t

module _ (w i : ℕ) (inside : i < w) where
  -- no word before the first column is changed
  row_before : (row : Row) (from : ℕ) (t : List ℕ) (p : ℕ) → Apart w from row → p < from → get_or (put_row i row t) p 0 ≡ get_or t p 0
  row_before [] from t p apart h = refl
  row_before (cell ∷ row) from t p apart h =
      row_before row (cell.0 + w) (set t (i + cell.0) cell.1) p apart.1 (omega (arith, apart.0))
      ∙ get_or-set_other t (i + cell.0) p cell.1 0 (λ e. omega (arith, e, apart.0))

  column_behind : (row : Row) (from : ℕ) → Apart w from row → (m : ℕ) → m < length row → from ≤ column_of row m
  column_behind [] from apart m l = absurd (omega arith)
  column_behind (cell ∷ row) from apart zero l = apart.0
  column_behind (cell ∷ row) from apart (suc m) l = omega (arith, apart.0, column_behind row (cell.0 + w) apart.1 m (omega arith))

  -- the row itself
  row-stored :
      (row : Row) (from : ℕ) (t : List ℕ) → Apart w from row → (m : ℕ) → m < length row → i + column_of row m < length t
      → get_or (put_row i row t) (i + column_of row m) 0 ≡ word_of row m
  row-stored [] from t apart m l h = absurd (omega arith)
  row-stored (cell ∷ row) from t apart zero l h =
      row_before row (cell.0 + w) (set t (i + cell.0) cell.1) (i + cell.0) apart.1 (omega arith) ∙ get_or-set_same t (i + cell.0) cell.1 0 h
  row-stored (cell ∷ row) from t apart (suc m) l h =
      row-stored row (cell.0 + w) (set t (i + cell.0) cell.1) apart.1 m (omega arith) (rw length-set h)

  -- every other one
  row_other :
      (row : Row) (from : ℕ) (t : List ℕ) → Apart w from row → (m : ℕ) → m < length row → (k : ℕ) → k < w → k ≢ i
      → get_or (put_row i row t) (k + column_of row m) 0 ≡ get_or t (k + column_of row m) 0
  row_other [] from t apart m l k h d = absurd (omega arith)
  row_other (cell ∷ row) from t apart zero l k h d =
      row_before row (cell.0 + w) (set t (i + cell.0) cell.1) (k + cell.0) apart.1 (omega arith)
      ∙ get_or-set_other t (i + cell.0) (k + cell.0) cell.1 0 (λ e. d (omega (arith, e)))
  row_other (cell ∷ row) from t apart (suc m) l k h d =
      row_other row (cell.0 + w) (set t (i + cell.0) cell.1) apart.1 m (omega arith) k h d
      ∙ get_or-set_other t (i + cell.0) (k + column_of row m) cell.1 0
      (λ e. omega (arith, e, column_behind row (cell.0 + w) apart.1 m (omega arith)))

-- ---- a row comes, a row goes

-- `more` has the rows of `less` and one more, of a key that has a value in the column that starts at c
pub record OneMore (c : ℕ) (less more : List ℕ) (key value : ℕ) : Type 0 where
  pub number : rows more ≡ rows less + 1
  pub sums : (figure : ℕ → ℕ → ℕ) → sum_of c figure more ≡ sum_of c figure less + figure key value

module _
    (w : ℕ) (a : List ℕ) (key : ℕ) (rest : Row) (apart : Apart w 1 ((1, key) ∷ rest))
    (m : ℕ) (known : m < length ((1, key) ∷ rest)) (long : column_of ((1, key) ∷ rest) m + w ≤ length a)
  where
    abbrev row : Row
    row = (1, key) ∷ rest

    abbrev c : ℕ
    c = column_of row m

    -- the row is stored at i, and the number of rows
    module _ (i : ℕ) (inside : i < w) (number : ℕ) where
      abbrev r : List ℕ
      r = set (put_row i row a) 0 number

      size : rows r ≡ number
      size = get_or-set_same (put_row i row a) 0 number 0 (omega (arith, put-long i row a))

      behind : 1 ≤ c
      behind = column_behind w i inside row 1 apart m known

      shown : (k d : ℕ) → 1 ≤ d → get_or r (k + d) 0 ≡ get_or (put_row i row a) (k + d) 0
      shown k d l = get_or-set_other (put_row i row a) 0 (k + d) number 0 (λ e. omega (arith, e))

      key_here : key_at r i ≡ key
      key_here = shown i 1 (omega arith) ∙ row-stored w i inside row 1 a apart 0 (omega arith) (omega (arith, behind))

      key_other : (k : ℕ) → k < w → k ≢ i → key_at r k ≡ key_at a k
      key_other k l d = shown k 1 (omega arith) ∙ row_other w i inside row 1 a apart 0 (omega arith) k l d

      pub value_here : get_or r (i + c) 0 ≡ word_of row m
      value_here = shown i c behind ∙ row-stored w i inside row 1 a apart m known (omega arith)

      pub value_other : (k : ℕ) → k < w → k ≢ i → get_or r (k + c) 0 ≡ get_or a (k + c) 0
      value_other k l d = shown k c behind ∙ row_other w i inside row 1 a apart m known k l d

    -- behind the last
    pub row-comes : rows a < w → OneMore c a (with_row row a) key (word_of row m)
    unfolding sum_of
    row-comes room = record {
      number = size n room (n + 1);
      sums = λ figure.
          let f : ℕ → ℕ = λ k. figure (key_at a k) (get_or a (k + c) 0) in
          let g : ℕ → ℕ = λ k. figure (key_at (with_row row a) k) (get_or (with_row row a) (k + c) 0) in
          let same : sum_below n g ≡ sum_below n f = sum_same n f g (λ k l t. figure (key_as k l t) (value_as k l t)) in
          let new : g n ≡ figure key (word_of row m) = λ t. figure (key_here n room (n + 1) t) (value_here n room (n + 1) t) in
          let all : sum_below (rows (with_row row a)) g ≡ sum_below (n + 1) g = ap (λ (x : ℕ). sum_below x g) (size n room (n + 1)) in
          omega (arith, same, new, all, sum-last n g);
    }
      where
        n : ℕ
        n = rows a

        key_as : (k : ℕ) → k < n → key_at (with_row row a) k ≡ key_at a k
        key_as k l = key_other n room (n + 1) k (omega (arith, l, room)) (λ e. omega (arith, e, l))

        value_as : (k : ℕ) → k < n → get_or (with_row row a) (k + c) 0 ≡ get_or a (k + c) 0
        value_as k l = value_other n room (n + 1) k (omega (arith, l, room)) (λ e. omega (arith, e, l))

    -- the one at j: the last one, whose words the row has, comes into its place
    pub row_goes :
        (j : ℕ) → j < rows a → rows a ≤ w → key ≡ key_at a (rows a - 1) → word_of row m ≡ get_or a (rows a - 1 + c) 0
        → OneMore c (set (put_row j row a) 0 (rows a - 1)) a (key_at a j) (get_or a (j + c) 0)
    unfolding sum_of
    row_goes j low room last_key last_word = record {
      number = omega (arith, size j inside last);
      sums = λ figure.
          let f : ℕ → ℕ = λ k. figure (key_at a k) (get_or a (k + c) 0) in
          let g : ℕ → ℕ = λ k. figure (key_at gone k) (get_or gone (k + c) 0) in
          let moved : sum_below last g + f j ≡ sum_below (last + 1) f =
          sum_moved last j f g (omega (arith, low)) (λ k l d t. figure (key_as k l d t) (value_as k l d t))
          (λ l t. figure ((key_here j inside last ∙ last_key) t) ((value_here j inside last ∙ last_word) t))
          in
          let all : sum_below (last + 1) f ≡ sum_below (rows a) f = ap (λ (x : ℕ). sum_below x f) (omega (arith, low)) in
          let left : sum_below (rows gone) g ≡ sum_below last g = ap (λ (x : ℕ). sum_below x g) (size j inside last) in
          omega (arith, moved, all, left);
    }
      where
        last : ℕ
        last = rows a - 1

        inside : j < w
        inside = omega (arith, low, room)

        gone : List ℕ
        gone = set (put_row j row a) 0 last

        key_as : (k : ℕ) → k < last → k ≢ j → key_at gone k ≡ key_at a k
        key_as k l d = key_other j inside last k (omega (arith, l, room)) d

        value_as : (k : ℕ) → k < last → k ≢ j → get_or gone (k + c) 0 ≡ get_or a (k + c) 0
        value_as k l d = value_other j inside last k (omega (arith, l, room)) d

-- ---- what the keys have then

module _ (c : ℕ) (less more : List ℕ) (key value : ℕ) (one : OneMore c less more key value) where
  -- how many rows have a key, and what it has in the column
  abbrev count : List ℕ → ℕ → ℕ
  count table x = sum_below (rows table) (λ i. if key_at table i is x then 1 else 0)

  counts : (x : ℕ) → count more x ≡ count less x + (if key is x then 1 else 0)
  unfolding sum_of
  counts x = one.sums (λ k v. if k is x then 1 else 0)

  values : (x : ℕ) → value_of c more x ≡ value_of c less x + (if key is x then value else 0)
  unfolding value_of
  values x = one.sums (λ k v. if k is x then v else 0)

  -- the row has gone
  pub less_once : KeysOnce more → KeysOnce less
  less_once once x = omega (arith, once x, counts x)

  pub less_values : value_of c more key ≡ value → (x : ℕ) → value_of c less x ≡ (if key is x then 0 else value_of c more x)
  less_values own x = go (key is x) refl
    where
      go : (b : Bool) → (key is x) ≡ b → value_of c less x ≡ (if b then 0 else value_of c more x)
      go true e =
          let its : value_of c more x ≡ value = ap (value_of c more) (sym (eqb-true key x e)) ∙ own in
          let all : (if key is x then value else 0) ≡ value = rw e in
          omega (arith, values x, its, all)
      go false e = let none : ◌≡◌ {A = ℕ} (if key is x then value else 0) 0 = rw e in omega (arith, values x, none)

  -- the row has come, where no other had its key
  module _ (new : place_of key less ≡ None) where
    pub more-once : KeysOnce less → KeysOnce more
    more-once once x = go (key is x) refl
      where
        go : (b : Bool) → (key is x) ≡ b → count more x ≤ 1
        go true e =
            let none : count less key ≡ 0 =
            sum-none (rows less) (λ i. if key_at less i is key then 1 else 0) (λ i l. rw (place_none less key new i l)) in
            let its : count less x ≡ 0 = ap (count less) (sym (eqb-true key x e)) ∙ none in
            let own : ◌≡◌ {A = ℕ} (if key is x then 1 else 0) 1 = rw e in
            omega (arith, counts x, its, own)
        go false e = let none : ◌≡◌ {A = ℕ} (if key is x then 1 else 0) 0 = rw e in omega (arith, counts x, once x, none)

    pub more-values : (x : ℕ) → value_of c more x ≡ (if key is x then value else value_of c less x)
    more-values x = go (key is x) refl
      where
        go : (b : Bool) → (key is x) ≡ b → value_of c more x ≡ (if b then value else value_of c less x)
        go true e =
            let its : value_of c less x ≡ 0 = ap (value_of c less) (sym (eqb-true key x e)) ∙ value_none less key c new in
            let all : (if key is x then value else 0) ≡ value = rw e in
            omega (arith, values x, its, all)
        go false e = let none : ◌≡◌ {A = ℕ} (if key is x then value else 0) 0 = rw e in omega (arith, values x, none)
