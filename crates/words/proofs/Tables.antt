-- What a search of a table has found, and what the row of a key has in a column. Assumes nothing.
use Rattle.std.specs.Prelude.{IfSome, if◌then◌else◌, Option, Some, None}
use Prim.Native.Nat.{ℕ, ◌+◌, ◌-◌, ◌≤◌, ◌<◌}
use native.Mathlib.Omega.{arith}
use mathlib.Core.Bool.{false}
use mathlib.Core.List.{List}
use mathlib.Core.Path.{◌≡◌, refl, sym, ap, ◌∙◌}
use lib.ListN.{get_or, take, drop}
use lib.Seq.{get_or-take, get_or-drop}
use borrow.Author.Tests.{eq-eqb, ne_eqb, eqb-true}
use Rattle.plain.specs.Lists.{◌is◌}
use Rattle.plain.proofs.Sums.{sum-none, one_passes, sum_one}
use Rattle.words.specs.Places.{first_from}
use Rattle.words.specs.Tables.{rows, key_at, is_key, place_of, sum_of, value_of, KeysOnce}
use Rattle.words.proofs.Places.{hit, miss, first_next}

-- the words of the keys, as code lends them
abbrev pub keys_of : List ℕ → List ℕ
keys_of table = take (rows table + 1 - 1) (drop 1 table)

pub get_or-keys_of : (table : List ℕ) (k : ℕ) → k < rows table → get_or (keys_of table) k 0 ≡ key_at table k
get_or-keys_of table k l =
    let m : k < rows table + 1 - 1 = omega arith in
    let i : 1 + k ≡ k + 1 = omega arith in
    get_or-take (rows table + 1 - 1) (drop 1 table) k 0 m ∙ get_or-drop 1 table k 0 ∙ ap (λ (n : ℕ). get_or table n 0) i

module _ (table : List ℕ) (key : ℕ) where
  pub place_at : (j : ℕ) → place_of key table ≡ Some j → (j < rows table) × (key_at table j ≡ key)
  unfolding place_of
  place_at j e = let h = hit (is_key table key) (rows table) j e in (h.0, eqb-true (key_at table j) key h.1)

  pub place_inside : (found : Option ℕ) → found ≡ place_of key table → IfSome found (λ i. i < rows table)
  place_inside None e = tt
  place_inside (Some i) e = (place_at i (sym e)).0

  pub place_none : place_of key table ≡ None → (i : ℕ) → i < rows table → (key_at table i is key) ≡ false
  unfolding place_of
  place_none e i l = miss (is_key table key) (rows table) e i l

  -- what stands in a column where the search has ended
  pub value_at : (c : ℕ) → KeysOnce table → (j : ℕ) → j < rows table → key_at table j ≡ key → value_of c table key ≡ get_or table (j + c) 0
  unfolding value_of sum_of
  value_at c once j l e = sum_one (rows table) (is_key table key) (once key) j l (eq-eqb (key_at table j) key e) (λ i. get_or table (i + c) 0)

  pub value_none : (c : ℕ) → place_of key table ≡ None → value_of c table key ≡ 0
  unfolding value_of sum_of
  value_none c e = sum-none (rows table) (λ i. if key_at table i is key then get_or table (i + c) 0 else 0) (λ i l. rw (place_none e i l))

  -- no other row has the key
  pub key_once : KeysOnce table → (j : ℕ) → j < rows table → key_at table j ≡ key → (i : ℕ) → i < rows table → key_at table i ≡ key → i ≡ j
  key_once once j l e i m f = one_passes (rows table) (is_key table key) (once key) j l (eq-eqb (key_at table j) key e) i m (eq-eqb (key_at table i) key f)

  -- ---- four rows without the key are passed over

  module _ (n : ℕ) where
    abbrev from : ℕ → Option ℕ
    from i = first_from (is_key table key) i (n - i)

    next : (k j : ℕ) → k < n → j ≡ k + 1 → (get_or table j 0 ≡ key → ⊥) → from k ≡ from (k + 1)
    next k j l e d = first_next (is_key table key) n k l (ne_eqb (get_or table (k + 1) 0) key (λ f. d (ap (λ (x : ℕ). get_or table x 0) e ∙ f)))

    pub four-passed :
        (i : ℕ) → i + 4 ≤ n → (get_or table (i + 1) 0 ≡ key → ⊥) → (get_or table (i + 2) 0 ≡ key → ⊥) → (get_or table (i + 3) 0 ≡ key → ⊥)
        → (get_or table (i + 4) 0 ≡ key → ⊥) → from i ≡ from (i + 4)
    four-passed i l a b c d =
        let z : i + 1 + 1 + 1 + 1 ≡ i + 4 = omega arith in
        next i (i + 1) (omega arith) refl a
        ∙ next (i + 1) (i + 2) (omega arith) (omega arith) b
        ∙ next (i + 1 + 1) (i + 3) (omega arith) (omega arith) c
        ∙ next (i + 1 + 1 + 1) (i + 4) (omega arith) (omega arith) d
        ∙ ap from z
