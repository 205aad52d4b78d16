-- What is proved of the table of types: each form allows the types and the pairs that are written out here, and no others (RULES 5.5).
-- The claims are of all numbers, so of all types from 0 to 255, and of all 65,536 pairs of them.
use Rattle.std.specs.Prelude.{ℕ, false, not, ◌&&◌, ◌||◌, List, [], ◌∷◌, ◌≡◌}
use Rattle.plain.specs.Lists.{◌is◌, ◌one_of◌}
use Rattle.rulebook.specs.TypeTable.{in_transit}
use Rattle.rulebook.specs.AccountTypes.{state_of, alike, pledged_or_blocked, is_outside, account_type, has_paper, listed, ends, wrong_types}

-- the debited types that a form allows; the credited ones; the debited type with the credited one
abbrev pub Debits : (form : ℕ) → List ℕ → Type 0
Debits form types = (debited credited : ℕ) → wrong_types form debited credited ≡ not (debited one_of types)

abbrev pub Credits : (form : ℕ) → List ℕ → Type 0
Credits form types = (debited credited : ℕ) → wrong_types form debited credited ≡ not (credited one_of types)

abbrev pub Moves : (form : ℕ) → List (ℕ × ℕ) → Type 0
Moves form pairs = (debited credited : ℕ) → wrong_types form debited credited ≡ not (listed pairs debited credited)

abbrev pub free_types : List ℕ
free_types = 10 ∷ 20 ∷ 110 ∷ 120 ∷ []

abbrev pub alike_pairs : List (ℕ × ℕ)
alike_pairs =
    (10, 10) ∷ (10, 20) ∷ (20, 10) ∷ (20, 20)
    ∷ (110, 110) ∷ (110, 120) ∷ (120, 110) ∷ (120, 120) ∷ []

pub record AdmittedTypes : Type 0 where
  pub deposit : Credits 3 free_types
  pub withdrawal : Debits 4 free_types
  pub transfer : Moves 5 alike_pairs
  pub pledge : Moves 6 ((10, 11) ∷ (20, 21) ∷ (120, 121) ∷ [])
  pub release : Moves 7 ((11, 10) ∷ (21, 20) ∷ (121, 120) ∷ [])
  pub block : Moves 8 ((10, 12) ∷ (20, 22) ∷ (110, 112) ∷ (120, 122) ∷ [])
  pub unblock : Moves 9 ((12, 10) ∷ (22, 20) ∷ (112, 110) ∷ (122, 120) ∷ [])
  pub deliver : Debits 12 free_types
  pub receive : Credits 13 free_types
  pub trade : Moves 14 alike_pairs
  pub request : Debits 19 (10 ∷ 20 ∷ [])
  pub ending : Credits 20 (91 ∷ 110 ∷ 120 ∷ [])
  -- no other form is asked for a type
  pub others :
      (form debited credited : ℕ) → (form one_of (3 ∷ 4 ∷ 5 ∷ 6 ∷ 7 ∷ 8 ∷ 9 ∷ 12 ∷ 13 ∷ 14 ∷ 19 ∷ 20 ∷ [])) ≡ false
      → wrong_types form debited credited ≡ false
  -- RULES 5.10: what ends a request for shares of a type; and so what can be requested, with what then ends it
  pub ended : (came credited : ℕ) → ends came credited ≡ (credited is 91 || listed ((10, 110) ∷ (20, 120) ∷ []) came credited)
  pub endings : (came credited : ℕ) → (has_paper came && ends came credited) ≡ listed ((10, 91) ∷ (10, 110) ∷ (20, 91) ∷ (20, 120) ∷ []) came credited
  -- RULES 8.3: the types of a deliver and a receive that pair
  pub matched : (delivered received : ℕ) → alike delivered received ≡ listed alike_pairs delivered received
  -- RULES 5.1: the types that accounts have
  pub account_types : (typ : ℕ) → account_type typ ≡ (typ one_of (10 ∷ 11 ∷ 12 ∷ 20 ∷ 21 ∷ 22 ∷ 50 ∷ 110 ∷ 112 ∷ 120 ∷ 121 ∷ 122 ∷ []))
  -- RULES 5.4, 5.8, 5.9
  pub pledged_or_blocked_types : (typ : ℕ) → pledged_or_blocked typ ≡ (typ one_of (11 ∷ 12 ∷ 21 ∷ 22 ∷ 112 ∷ 121 ∷ 122 ∷ []))
  pub outside_type : (typ : ℕ) → is_outside typ ≡ (typ is 91)
  pub transit_type : (typ : ℕ) → (state_of typ is in_transit) ≡ (typ is 50)
