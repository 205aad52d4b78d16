-- What is put into a row is what is read from it; the list of items after a row is put last, and after the rows behind one come down. Assumes nothing.
use Prim.Native.Nat.{ℕ, zero, suc, ◌+◌, ◌-◌, ◌*◌, ◌/◌, ◌%◌, ◌≤◌, ◌<◌}
use native.Mathlib.Numerals.{add-one}
use native.Mathlib.Omega.{arith}
use mathlib.Core.Bool.{Bool, true, false}
use mathlib.Core.List.{List, [], ◌∷◌, ◌++◌}
use mathlib.Core.Path.{◌≡◌, refl, sym, ap, ◌∙◌}
use lib.Dec.{ltb}
use borrow.Author.Tests.{ltb-true, ltb-false}
use lib.ListN.{length, get_or, set, take, drop, length-set, length-drop, take-append-drop}
use lib.Seq.{drop-set-lt, get_or-set_same, drop-drop, length-take-le, drop-append-le, take-append-le}
use borrow.Rule.Slice.PartMut.{put_mid}
use Rattle.plain.specs.Lists.{◌is◌}
use Rattle.words.specs.Places.{bit, list_from, remove_at}
use Rattle.words.specs.Tables.{rows}
use Rattle.words.proofs.Places.{from_get, from_same, from_set, from_push, from_remove, length_from}
use Rattle.words.proofs.Regions.{part_same, part-before, word_before, part-behind, part-inside, part_length}
use Rattle.waiting_list.specs.Waiting.{state_words, state_of, item_of, words_of, row_at, item_at, put_row, items_of, Sized}
use Rattle.waiting_list.specs.declared.StateWords.{StateWords}
use Rattle.rulebook.specs.declared.State.{State}
use Rattle.rulebook.specs.declared.State.TheVariants.{Single, Pair, Trade}
use Rattle.rulebook.specs.declared.Item.{Item}

-- ---- an item's words hold the item

state_back : (s : State) → state_of (state_words s).tag (state_words s).first (state_words s).second (state_words s).marks ≡ s
unfolding state_of
state_back (Single true r) = refl
state_back (Single false r) = refl
state_back (Pair d r true true) = refl
state_back (Pair d r true false) = refl
state_back (Pair d r false true) = refl
state_back (Pair d r false false) = refl
state_back (Trade r) = refl

-- a state's marks are below 4, and beside them stands whether the item is fixed

pub marks_low : (s : State) → (state_words s).marks < 4
marks_low (Single true r) = omega arith
marks_low (Single false r) = omega arith
marks_low (Pair d r true true) = omega arith
marks_low (Pair d r true false) = omega arith
marks_low (Pair d r false true) = omega arith
marks_low (Pair d r false false) = omega arith
marks_low (Trade r) = omega arith

pub marks_back : (m : ℕ) (b : Bool) → m < 4 → (m + 4 * bit b) % 4 ≡ m
marks_back m true l = omega arith
marks_back m false l = omega arith

pub sent_back : (m : ℕ) (b : Bool) → m < 4 → ((m + 4 * bit b) / 4 is 1) ≡ b
sent_back m true l = let e : (m + 4) / 4 ≡ 1 = omega arith in rw e
sent_back m false l = let e : (m + 0) / 4 ≡ 0 = omega arith in rw e

pub item_back : (i : Item) → item_of (words_of i) ≡ i
item_back i = let s : StateWords = state_words i.state in λ k. record {
  security = i.security;
  currency = i.currency;
  debited = i.debited;
  credited = i.credited;
  quantity = i.quantity;
  amount = i.amount;
  trade_day = i.trade_day;
  settlement_day = i.settlement_day;
  state = (ap (state_of s.tag s.first s.second) (marks_back s.marks i.sent (marks_low i.state)) ∙ state_back i.state) k;
  sent = sent_back s.marks i.sent (marks_low i.state) k;
}

-- ---- a row put in

module _ (w : List ℕ) (long : length w ≡ 1025) (i : ℕ) (low : i < 64) (item : Item) where
  -- THE LAW OF A ROW: what is put into row i is what is read from it
  pub item-put : item_at (put_row w i (words_of item)) i ≡ item
  item-put = ap item_of (part_same w (words_of item) (i * 16 + 1) 16 (omega arith) refl) ∙ item_back item

  -- and every other row is as it was
  pub item-other : (j : ℕ) → j < 64 → (j ≡ i → ⊥) → item_at (put_row w i (words_of item)) j ≡ item_at w j
  item-other j h ne = go (ltb j i) refl
    where
      go : (b : Bool) → ltb j i ≡ b → item_at (put_row w i (words_of item)) j ≡ item_at w j
      go true e = let l : j < i = ltb-true j i e in ap item_of (part-before w (words_of item) (i * 16 + 1) 16 (omega arith) refl (j * 16 + 1) 16 (omega arith))
      go false e =
          let l : i < j = omega (arith, ltb-false j i e, ne) in ap item_of
          (part-behind w (words_of item) (i * 16 + 1) 16 (omega arith) refl (j * 16 + 1) 16 (omega arith))

  pub put-long : length (put_row w i (words_of item)) ≡ 1025
  put-long = part_length w (words_of item) (i * 16 + 1) 16 (omega arith) refl ∙ long

-- the rows stands before the rows
counted : (w : List ℕ) (n j : ℕ) → item_at (set w 0 n) j ≡ item_at w j
counted w n j = ap (λ (l : List ℕ). item_of (take 16 l)) (drop-set-lt (j * 16 + 1) w 0 n (omega arith))

-- ---- an item put in the place of another

pub put_in :
    (w : List ℕ) (i : ℕ) (item : Item) → Sized w → i < rows w → Sized (put_row w i (words_of item))
    × (items_of (put_row w i (words_of item)) ≡ set (items_of w) i item)
unfolding items_of
put_in w i item sized low =
    let put : List ℕ = put_row w i (words_of item) in
    let in_rows : i < 64 = omega (arith, sized.size) in
    let size : rows put ≡ rows w = word_before w (words_of item) (i * 16 + 1) 16 (omega (arith, sized.long)) refl 0 (omega arith) in
    let z : 0 + i ≡ i = omega arith in
    let list : list_from (item_at put) 0 (rows w) ≡ set (list_from (item_at w) 0 (rows w)) i (item_at put (0 + i)) =
    from_set (item_at w) (item_at put) 0 (rows w) i low
    (λ k h ne. item-other w sized.long i in_rows item (0 + k) (omega (arith, sized.size)) (λ e. ne (omega (arith, e))))
    in (
      record { long = put-long w sized.long i in_rows item; size = rw size sized.size },
      ap (list_from (item_at put) 0) size ∙ list
          ∙ ap (λ (x : Item). set (list_from (item_at w) 0 (rows w)) i x) (ap (item_at put) z ∙ item-put w sized.long i in_rows item),
    )

-- ---- a push

pub pushed :
    (w : List ℕ) (item : Item) → Sized w → rows w < 64 → Sized (set (put_row w (rows w) (words_of item)) 0 (rows w + 1))
    × (items_of (set (put_row w (rows w) (words_of item)) 0 (rows w + 1)) ≡ items_of w ++ (item ∷ []))
unfolding items_of
pushed w item sized room =
    let put : List ℕ = put_row w (rows w) (words_of item) in
    let long : length put ≡ 1025 = put-long w sized.long (rows w) room item in
    let size : get_or (set put 0 (rows w + 1)) 0 0 ≡ rows w + 1 = get_or-set_same put 0 (rows w + 1) 0 (omega (arith, long)) in
    let last : item_at (set put 0 (rows w + 1)) (0 + rows w) ≡ item =
    let e : 0 + rows w ≡ rows w = omega arith in
    counted put (rows w + 1) (0 + rows w) ∙ ap (item_at put) e ∙ item-put w sized.long (rows w) room item
    in
    let list : list_from (item_at (set put 0 (rows w + 1))) 0 (suc (rows w))
    ≡ list_from (item_at w) 0 (rows w) ++ (item_at (set put 0 (rows w + 1)) (0 + rows w) ∷ []) =
    from_push (item_at w) (item_at (set put 0 (rows w + 1))) 0 (rows w)
    (λ k h. counted put (rows w + 1) (0 + k) ∙ item-other w sized.long (rows w) room item (0 + k) (omega arith) (λ e. omega (arith, e)))
    in (
      record { long = length-set put 0 (rows w + 1) ∙ long; size = rw size (omega arith) },
      ap (list_from (item_at (set put 0 (rows w + 1))) 0) (size ∙ add-one (rows w)) ∙ list ∙ ap (λ (x : Item). list_from (item_at w) 0 (rows w) ++ (x ∷ [])) last,
    )

-- ---- a removal: the rows behind row `at` come down by one

abbrev down : List ℕ → ℕ → List ℕ
down w at = put_mid (at * 16 + 1) ((rows w - 1 - at) * 16) w (take ((rows w - 1 - at) * 16) (drop (at * 16 + 1 + 16) w))

module _ (w : List ℕ) (sized : Sized w) (at : ℕ) (low : at < rows w) where
  bytes : (rows w - 1 - at) * 16 ≤ length (drop (at * 16 + 1 + 16) w)
  bytes = rw length-drop (omega (arith, sized.long, sized.size))

  wide : length (take ((rows w - 1 - at) * 16) (drop (at * 16 + 1 + 16) w)) ≡ (rows w - 1 - at) * 16
  wide = length-take-le ((rows w - 1 - at) * 16) (drop (at * 16 + 1 + 16) w) bytes

  fits : at * 16 + 1 + (rows w - 1 - at) * 16 ≤ length w
  fits = omega (arith, sized.long, sized.size)

  before : (k : ℕ) → k < at → row_at (down w at) k ≡ row_at w k
  before k h =
      part-before w (take ((rows w - 1 - at) * 16) (drop (at * 16 + 1 + 16) w)) (at * 16 + 1) ((rows w - 1 - at) * 16) fits wide (k * 16 + 1) 16 (omega arith)

  behind : (k : ℕ) → at ≤ k → k < rows w - 1 → row_at (down w at) k ≡ row_at w (suc k)
  behind k h l =
      let n : ℕ = (rows w - 1 - at) * 16 in
      let s : List ℕ = drop (at * 16 + 1 + 16) w in
      let m : ℕ = k * 16 + 1 - (at * 16 + 1) in
      let to : at * 16 + 1 + 16 + m ≡ suc k * 16 + 1 = omega arith in
      part-inside w (take n s) (at * 16 + 1) n fits wide (k * 16 + 1) 16 (omega arith) (omega arith)
      ∙ cut n s m (omega arith) bytes
      ∙ ap (take 16) (drop-drop m (at * 16 + 1 + 16) w ∙ ap (λ (x : ℕ). drop x w) to)
    where
      cut : (n : ℕ) (s : List ℕ) (m : ℕ) → m + 16 ≤ n → n ≤ length s → take 16 (drop m (take n s)) ≡ take 16 (drop m s)
      cut n s m h l =
          let long : length (take n s) ≡ n = length-take-le n s l in
          let in-m : m ≤ length (take n s) = omega arith in
          let in-r : 16 ≤ length (drop m (take n s)) = rw length-drop (omega arith) in
          sym
          (ap (λ (x : List ℕ). take 16 (drop m x)) (sym (take-append-drop n s)) ∙ ap (take 16) (drop-append-le m (take n s) (drop n s) in-m) ∙ take-append-le
          16 (drop m (take n s)) (drop n s) in-r)

  pub removed : Sized (set (down w at) 0 (rows w - 1)) × (items_of (set (down w at) 0 (rows w - 1)) ≡ remove_at at (items_of w))
  unfolding items_of
  removed =
      let n : ℕ = rows w - 1 in
      let long : length (down w at) ≡ 1025 =
      part_length w (take ((rows w - 1 - at) * 16) (drop (at * 16 + 1 + 16) w)) (at * 16 + 1) ((rows w - 1 - at) * 16) fits wide ∙ sized.long in
      let size : get_or (set (down w at) 0 n) 0 0 ≡ n = get_or-set_same (down w at) 0 n 0 (omega (arith, long)) in
      let list : list_from (item_at (set (down w at) 0 n)) 0 n ≡ remove_at at (list_from (item_at w) 0 (suc n)) =
      from_remove (item_at w) (item_at (set (down w at) 0 n)) 0 n at (omega arith) (λ k h. counted (down w at) n (0 + k) ∙ stay k h)
      (λ k h l. counted (down w at) n (0 + k) ∙ fall k h l)
      in
      let whole : suc n ≡ rows w = omega arith in (
        record { long = length-set (down w at) 0 n ∙ long; size = rw size (omega (arith, sized.size)) },
        ap (list_from (item_at (set (down w at) 0 n)) 0) size ∙ list ∙ ap (λ (m : ℕ). remove_at at (list_from (item_at w) 0 m)) whole,
      )
    where
      stay : (k : ℕ) → k < at → item_at (down w at) (0 + k) ≡ item_at w (0 + k)
      stay k h = let e : 0 + k ≡ k = omega arith in rw e (ap item_of (before k h))

      fall : (k : ℕ) → at ≤ k → k < rows w - 1 → item_at (down w at) (0 + k) ≡ item_at w (0 + suc k)
      fall k h l = let e : 0 + k ≡ k = omega arith in let f : 0 + suc k ≡ suc k = omega arith in rw (e, f) (ap item_of (behind k h l))

-- ---- the first rows alone

from_take : (f : ℕ → Item) (i m n : ℕ) → n ≤ m → take n (list_from f i m) ≡ list_from f i n
unfolding list_from
from_take f i m zero l = refl
from_take f i zero (suc n) l = absurd (omega arith)
from_take f i (suc m) (suc n) l = ap (λ (r : List Item). f i ∷ r) (from_take f (suc i) m n (omega arith))

pub cut_down : (w : List ℕ) (n : ℕ) → Sized w → n ≤ rows w → Sized (set w 0 n) × (items_of (set w 0 n) ≡ take n (items_of w))
unfolding items_of
cut_down w n sized low =
    let size : get_or (set w 0 n) 0 0 ≡ n = get_or-set_same w 0 n 0 (omega (arith, sized.long)) in (
      record { long = length-set w 0 n ∙ sized.long; size = rw size (omega (arith, sized.size)) },
      ap (list_from (item_at (set w 0 n)) 0) size ∙ from_same (item_at w) (item_at (set w 0 n)) 0 0 n (λ k h. counted w n (0 + k))
          ∙ sym (from_take (item_at w) 0 (rows w) n low),
    )

pub how_many : (w : List ℕ) → length (items_of w) ≡ rows w
unfolding items_of
how_many w = length_from (item_at w) 0 (rows w)

pub item-there : (w : List ℕ) (i : ℕ) (d : Item) → i < rows w → item_at w i ≡ get_or (items_of w) i d
unfolding items_of
item-there w i d h = let z : i ≡ 0 + i = omega arith in ap (item_at w) z ∙ sym (from_get (item_at w) 0 (rows w) i d h)
