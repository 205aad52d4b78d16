-- From the rows of the table of types to every type: what is computed of each row holds of the row of any number. Assumes nothing.
use Rattle.std.specs.Prelude.{if◌then◌else◌}
use mathlib.Core.Path.{◌≡◌, refl, sym, subst, ◌∙◌}
use mathlib.Core.Bool.{Bool, true, false, not, ◌&&◌, true≢false, false≢true}
use mathlib.Core.List.{List, [], ◌∷◌, map}
use Prim.Native.Nat.{ℕ}
use borrow.Author.Tests.{eqb-true, not-false}
use Rattle.plain.specs.Lists.{◌is◌, ◌one_of◌, some, Each}
use Rattle.plain.proofs.Lists.{each_none, one_of_lem}
use Rattle.plain.proofs.Tests.{neither}
use Rattle.rulebook.specs.TypeTable.{TypeRow, type_table, empty_row, row_in, type_row}
use Rattle.rulebook.specs.AccountTypes.{listed, become}

-- ---- rows

abbrev pub numbers : List (ℕ × TypeRow) → List ℕ
numbers rows = map (λ (row : ℕ × TypeRow). row.0) rows

-- what holds of each row, and of the empty row for a number that has none
pub by_row :
    (P : ℕ → TypeRow → Type 0) (rows : List (ℕ × TypeRow)) (t : ℕ) → Each (λ row. P row.0 row.1) rows
    → ((t one_of numbers rows) ≡ false → P t empty_row) → P t (row_in rows t)
by_row P [] t a other = other refl
by_row P (row ∷ rest) t a other = go (t is row.0) refl (by_row P rest t a.1)
  where
    go :
        (x : Bool) → (t is row.0) ≡ x → (((t one_of numbers rest) ≡ false → P t empty_row) → P t (row_in rest t))
        → P t (if x then row.1 else row_in rest t)
    go true p later = subst (λ (k : ℕ). P k row.1) (sym (eqb-true t row.0 p)) a.0
    go false p later = later (λ no. other (simp (p, no)))

-- a number without a row
pub no_row_in : (rows : List (ℕ × TypeRow)) (t : ℕ) → (t one_of numbers rows) ≡ false → row_in rows t ≡ empty_row
no_row_in [] t n = refl
no_row_in (row ∷ rest) t n =
    let apart = neither (t is row.0) (t one_of numbers rest) n in
    simp (apart.0, no_row_in rest t apart.1)

-- where every number of a list has a row, one that has no row is not in the list
pub unlisted :
    (types : List ℕ) (t : ℕ) → some (λ k. not (k one_of numbers type_table)) types ≡ false → (t one_of numbers type_table) ≡ false → (t one_of types) ≡ false
unlisted types t a n = go (t one_of types) refl
  where
    rowed : (x : ℕ) → not (x one_of numbers type_table) ≡ false → (x one_of numbers type_table) ≡ true
    rowed x = not-false (x one_of numbers type_table)

    go : (x : Bool) → (t one_of types) ≡ x → x ≡ false
    go true e =
        absurd (true≢false (sym (rowed t (one_of_lem (λ k. not (k one_of numbers type_table) ≡ false) types t (each_none _ types a) e)) ∙ n))
    go false e = refl

-- a test that no row passes
pub no_row :
    (test : ℕ → TypeRow → Bool) → some (λ row. test row.0 row.1) type_table ≡ false → (t : ℕ) → test t empty_row ≡ false → test t (type_row t) ≡ false
unfolding type_row
no_row test e t u = by_row (λ t row. test t row ≡ false) type_table t (each_none (λ (row : ℕ × TypeRow). test row.0 row.1) type_table e) (λ no. u)

-- ---- pairs

-- the types to which a number leads in a list of pairs
unfoldable pub targets : ℕ → List (ℕ × ℕ) → List ℕ
targets a [] = []
targets a (pair ∷ rest) = let later = targets a rest in if a is pair.0 then pair.1 ∷ later else later

pub listed-targets : (pairs : List (ℕ × ℕ)) (a b : ℕ) → listed pairs a b ≡ (b one_of targets a pairs)
unfolding listed targets
listed-targets [] a b = refl
listed-targets (pair ∷ rest) a b = go (a is pair.0) refl (listed-targets rest a b)
  where
    go : (x : Bool) → (a is pair.0) ≡ x → listed rest a b ≡ (b one_of targets a rest) → listed (pair ∷ rest) a b ≡ (b one_of targets a (pair ∷ rest))
    go true e later = simp (e, later)
    go false e later = simp (e, later)

-- what the other type of each pair is, with the row that the pair stands in
other_type :
    (how : ℕ) (test : ℕ → Bool) (pairs : List (ℕ × ℕ)) (t : ℕ) → some (λ pair. how is pair.0 && not (test pair.1)) pairs ≡ false
    → listed pairs how t ≡ true → test t ≡ true
unfolding listed
other_type how test [] t n e = absurd (false≢true e)
other_type how test (pair ∷ rest) t n e = go (how is pair.0) (t is pair.1) refl refl (other_type how test rest t apart.1)
  where
    apart : ((how is pair.0 && not (test pair.1)) ≡ false) × (some (λ pair. how is pair.0 && not (test pair.1)) rest ≡ false)
    apart = neither (how is pair.0 && not (test pair.1)) (some (λ pair. how is pair.0 && not (test pair.1)) rest) n

    go : (x y : Bool) → (how is pair.0) ≡ x → (t is pair.1) ≡ y → (listed rest how t ≡ true → test t ≡ true) → test t ≡ true
    go true true p q later = rw (eqb-true t pair.1 q) (not-false (test pair.1) (simp p at apart.0))
    go true false p q later = later (simp (p, q) at e)
    go false y p q later = later (simp (p, q) at e)

pub pair_of :
    (how : ℕ) (test : TypeRow → ℕ → Bool)
    → some (λ row. some (λ pair. how is pair.0 && not (test row.1 pair.1)) row.1.pairs) type_table ≡ false
    → (s t : ℕ) → become how s t ≡ true → test (type_row s) t ≡ true
unfolding become
pair_of how test e s t =
    other_type how (test (type_row s)) (type_row s).pairs t
    (no_row (λ k row. some (λ pair. how is pair.0 && not (test row pair.1)) row.pairs) e s refl)

-- where the other type of every such pair has a row, a number without a row is the other type of none
pub no_pair :
    (how : ℕ) (rows : List (ℕ × TypeRow)) (t : ℕ)
    → some (λ row. some (λ pair. how is pair.0 && not (pair.1 one_of numbers type_table)) row.1.pairs) rows ≡ false
    → (t one_of numbers type_table) ≡ false → some (λ row. listed row.1.pairs how t) rows ≡ false
no_pair how [] t e n = refl
no_pair how (row ∷ rest) t e n = simp (go (listed row.1.pairs how t) refl, no_pair how rest t apart.1 n)
  where
    rowless : ℕ × ℕ → Bool
    rowless pair = how is pair.0 && not (pair.1 one_of numbers type_table)

    apart : (some rowless row.1.pairs ≡ false) × (some (λ row. some rowless row.1.pairs) rest ≡ false)
    apart = neither (some rowless row.1.pairs) (some (λ row. some rowless row.1.pairs) rest) e

    go : (x : Bool) → listed row.1.pairs how t ≡ x → x ≡ false
    go true p = absurd (false≢true (sym n ∙ other_type how (λ t. t one_of numbers type_table) row.1.pairs t apart.0 p))
    go false p = refl
