-- Each form allows the types and pairs of specs/AdmittedTypes, and no others: lists that the rows make, compared with those that are written out there.
-- Assumes nothing.
use Rattle.std.specs.Prelude.{if◌then◌else◌}
use mathlib.Core.Path.{◌≡◌, refl, sym, ap, ◌∙◌}
use mathlib.Core.Bool.{Bool, true, false, not, ◌&&◌, ◌||◌, beq, or-false, and_assoc}
use mathlib.Core.List.{List, [], ◌∷◌, map}
use Prim.Native.Nat.{ℕ}
use Rattle.plain.specs.Lists.{◌is◌, ◌one_of◌, some}
use Rattle.plain.proofs.Lists.{each_same, none_of}
use Rattle.plain.proofs.Tests.{neither}
use Rattle.rulebook.specs.TypeTable.{free, pledged, blocked, in_transit, outside, pledged_as, blocked_as, on_paper_as, TypeRow, type_table, empty_row, type_row}
use Rattle.rulebook.specs.AccountTypes.{state_of, is_free, alike, pledged_or_blocked, is_outside, account_states, account_type, listed, become, has_paper, is_paper, ends, wrong_types}
use Rattle.rulebook.specs.AdmittedTypes.{free_types, alike_pairs, AdmittedTypes}
use Rattle.rulebook.proofs.TypeTable.{numbers, by_row, unlisted, targets, listed-targets}

-- ---- lists of types and of pairs

no_target : (pairs : List (ℕ × ℕ)) (s : ℕ) → (s one_of map (λ (pair : ℕ × ℕ). pair.0) pairs) ≡ false → targets s pairs ≡ []
unfolding targets
no_target [] s n = refl
no_target (pair ∷ rest) s n =
    let apart = neither (s is pair.0) (s one_of map (λ (pair : ℕ × ℕ). pair.0) rest) n in
    simp (apart.0, no_target rest s apart.1)

gather : (x : Bool) (types : List ℕ) (t : ℕ) → (t one_of (if x then types else [])) ≡ (x && t one_of types)
gather true types t = refl
gather false types t = refl

-- ---- from rows to all types

-- a test of rows, over all types
types_by_row :
    (test : TypeRow → Bool) (types : List ℕ) → map (λ (row : ℕ × TypeRow). test row.1) type_table ≡ map (λ (row : ℕ × TypeRow). row.0 one_of types) type_table
    → test empty_row ≡ false → some (λ k. not (k one_of numbers type_table)) types ≡ false → (t : ℕ) → test (type_row t) ≡ (t one_of types)
unfolding type_row
types_by_row test types e u a t =
    by_row (λ t row. test row ≡ (t one_of types)) type_table t
    (each_same (λ (row : ℕ × TypeRow). test row.1) (λ (row : ℕ × TypeRow). row.0 one_of types) type_table e)
    (λ no. u ∙ sym (unlisted types t a no))

-- the types that a row leads to, over all pairs
pairs_by_row :
    (leads : TypeRow → List ℕ) (pairs : List (ℕ × ℕ))
    → map (λ (row : ℕ × TypeRow). leads row.1) type_table ≡ map (λ (row : ℕ × TypeRow). targets row.0 pairs) type_table → leads empty_row ≡ []
    → some (λ k. not (k one_of numbers type_table)) (map (λ (pair : ℕ × ℕ). pair.0) pairs) ≡ false
    → (s t : ℕ) → (t one_of leads (type_row s)) ≡ listed pairs s t
unfolding type_row
pairs_by_row leads pairs e u a s t =
    ap (λ (types : List ℕ). t one_of types)
    (by_row (λ s row. leads row ≡ targets s pairs) type_table s
    (each_same (λ (row : ℕ × TypeRow). leads row.1) (λ (row : ℕ × TypeRow). targets row.0 pairs) type_table e)
    (λ no. u ∙ sym (no_target pairs s (unlisted (map (λ (pair : ℕ × ℕ). pair.0) pairs) s a no))))
    ∙ sym (listed-targets pairs s t)

-- ---- the questions that forms ask

free-types : (t : ℕ) → is_free t ≡ (t one_of free_types)
unfolding is_free type_table
free-types = types_by_row (λ row. row.state is free) free_types refl refl refl

paper_types : (t : ℕ) → has_paper t ≡ (t one_of (10 ∷ 20 ∷ []))
unfolding has_paper type_table
paper_types = types_by_row (λ row. some (λ pair. on_paper_as is pair.0) row.pairs) (10 ∷ 20 ∷ []) refl refl refl

outside-type : (t : ℕ) → is_outside t ≡ (t is 91)
unfolding is_outside type_table
outside-type t = types_by_row (λ row. row.state is outside) (91 ∷ []) refl refl refl t ∙ or-false (t is 91)

transit_type_lem : (t : ℕ) → (state_of t is in_transit) ≡ (t is 50)
unfolding type_table
transit_type_lem t = types_by_row (λ row. row.state is in_transit) (50 ∷ []) refl refl refl t ∙ or-false (t is 50)

pledged-types : (t : ℕ) → pledged_or_blocked t ≡ (t one_of (11 ∷ 12 ∷ 21 ∷ 22 ∷ 112 ∷ 121 ∷ 122 ∷ []))
unfolding pledged_or_blocked type_table
pledged-types =
    types_by_row (λ row. row.state one_of (pledged ∷ blocked ∷ [])) (11 ∷ 12 ∷ 21 ∷ 22 ∷ 112 ∷ 121 ∷ 122 ∷ []) refl refl refl

account_types_lem : (t : ℕ) → account_type t ≡ (t one_of (10 ∷ 11 ∷ 12 ∷ 20 ∷ 21 ∷ 22 ∷ 50 ∷ 110 ∷ 112 ∷ 120 ∷ 121 ∷ 122 ∷ []))
unfolding account_type type_table
account_types_lem =
    types_by_row (λ row. row.state one_of account_states) (10 ∷ 11 ∷ 12 ∷ 20 ∷ 21 ∷ 22 ∷ 50 ∷ 110 ∷ 112 ∷ 120 ∷ 121 ∷ 122 ∷ []) refl refl refl

-- paper's types, from the other end of the pairs
papers : (t : ℕ) → is_paper t ≡ (t one_of (110 ∷ 120 ∷ []))
unfolding is_paper listed type_table
papers t = simp or-false

-- one way of becoming another type
become-pairs :
    (how : ℕ) (pairs : List (ℕ × ℕ))
    → map (λ (row : ℕ × TypeRow). targets how row.1.pairs) type_table ≡ map (λ (row : ℕ × TypeRow). targets row.0 pairs) type_table
    → some (λ k. not (k one_of numbers type_table)) (map (λ (pair : ℕ × ℕ). pair.0) pairs) ≡ false
    → (s t : ℕ) → become how s t ≡ listed pairs s t
unfolding become targets
become-pairs how pairs e a s t = listed-targets (type_row s).pairs how t ∙ pairs_by_row (λ row. targets how row.pairs) pairs e refl a s t

pledge_pairs : (s t : ℕ) → become pledged_as s t ≡ listed ((10, 11) ∷ (20, 21) ∷ (120, 121) ∷ []) s t
unfolding targets type_table
pledge_pairs = become-pairs pledged_as ((10, 11) ∷ (20, 21) ∷ (120, 121) ∷ []) refl refl

block_pairs : (s t : ℕ) → become blocked_as s t ≡ listed ((10, 12) ∷ (20, 22) ∷ (110, 112) ∷ (120, 122) ∷ []) s t
unfolding targets type_table
block_pairs = become-pairs blocked_as ((10, 12) ∷ (20, 22) ∷ (110, 112) ∷ (120, 122) ∷ []) refl refl

-- read from the other end
turned : List (ℕ × ℕ) → List (ℕ × ℕ)
turned [] = []
turned (pair ∷ rest) = (pair.1, pair.0) ∷ turned rest

listed-turned : (pairs : List (ℕ × ℕ)) (s t : ℕ) → listed pairs t s ≡ listed (turned pairs) s t
unfolding listed turned
listed-turned [] s t = refl
listed-turned (pair ∷ rest) s t = go (t is pair.0) (s is pair.1) (listed-turned rest s t)
  where
    go :
        (x y : Bool) → listed rest t s ≡ listed (turned rest) s t → ((x && y) || listed rest t s) ≡ ((y && x) || listed (turned rest) s t)
    go true true later = refl
    go true false later = later
    go false true later = later
    go false false later = later

-- free types of one nature
natured : (x : Bool) (t : ℕ) → (is_free t && beq x (type_row t).physical) ≡ (t one_of (if x then 110 ∷ 120 ∷ [] else 10 ∷ 20 ∷ []))
unfolding is_free type_table
natured true = types_by_row (λ row. row.state is free && beq true row.physical) (110 ∷ 120 ∷ []) refl refl refl
natured false = types_by_row (λ row. row.state is free && beq false row.physical) (10 ∷ 20 ∷ []) refl refl refl

alike-pairs : (s t : ℕ) → alike s t ≡ listed alike_pairs s t
unfolding alike is_free targets type_table
alike-pairs s t =
    and_assoc (is_free s) (is_free t) (beq (type_row s).physical (type_row t).physical)
    ∙ ap (λ (x : Bool). is_free s && x) (natured (type_row s).physical t) ∙ sym (gather (is_free s) (alike_to (type_row s).physical) t)
    ∙ pairs_by_row (λ row. if row.state is free then alike_to row.physical else []) alike_pairs refl refl refl s t
  where
    alike_to : Bool → List ℕ
    alike_to x = if x then 110 ∷ 120 ∷ [] else 10 ∷ 20 ∷ []

paper_pairs : (s t : ℕ) → become on_paper_as s t ≡ listed ((10, 110) ∷ (20, 120) ∷ []) s t
unfolding targets type_table
paper_pairs = become-pairs on_paper_as ((10, 110) ∷ (20, 120) ∷ []) refl refl

-- what ends a request for shares of a type
ended_pairs : (s t : ℕ) → ends s t ≡ (t is 91 || listed ((10, 110) ∷ (20, 120) ∷ []) s t)
unfolding ends
ended_pairs s t = rw (outside-type t, paper_pairs s t)

-- what can be requested, with what then ends it
ending-pairs : (s t : ℕ) → (has_paper s && ends s t) ≡ listed ((10, 91) ∷ (10, 110) ∷ (20, 91) ∷ (20, 120) ∷ []) s t
unfolding has_paper ends become targets type_table
ending-pairs s t =
    ap (λ (x : Bool). has_paper s && x) (ap (λ (x : Bool). x || become on_paper_as s t) (outside-type t)
    ∙ ap (λ (x : Bool). t is 91 || x) (listed-targets (type_row s).pairs on_paper_as t))
    ∙ sym (gather (has_paper s) (91 ∷ targets on_paper_as (type_row s).pairs) t)
    ∙ pairs_by_row (λ row. if some (λ pair. on_paper_as is pair.0) row.pairs then 91 ∷ targets on_paper_as row.pairs else [])
    ((10, 91) ∷ (10, 110) ∷ (20, 91) ∷ (20, 120) ∷ []) refl refl refl s t

-- ---- form by form

other_forms :
    (n d c : ℕ) → (n one_of (3 ∷ 4 ∷ 5 ∷ 6 ∷ 7 ∷ 8 ∷ 9 ∷ 12 ∷ 13 ∷ 14 ∷ 19 ∷ 20 ∷ [])) ≡ false → wrong_types n d c ≡ false
unfolding wrong_types
other_forms n d c e =
    let no = none_of (3 ∷ 4 ∷ 5 ∷ 6 ∷ 7 ∷ 8 ∷ 9 ∷ 12 ∷ 13 ∷ 14 ∷ 19 ∷ 20 ∷ []) n e in
    let late = no.1.1.1.1.1 in
    simp (
      no.0,
      no.1.0,
      no.1.1.0,
      no.1.1.1.0,
      no.1.1.1.1.0,
      late.0,
      late.1.0,
      late.1.1.0,
      late.1.1.1.0,
      late.1.1.1.1.0,
      late.1.1.1.1.1.0,
      late.1.1.1.1.1.1.0,
    )

pub admitted-types : AdmittedTypes
unfolding wrong_types turned
admitted-types = record {
  deposit = λ d c. simp (free-types c, or-false);
  withdrawal = λ d c. simp (free-types d, or-false);
  transfer = λ d c. simp (alike-pairs d c, or-false);
  pledge = λ d c. simp (pledge_pairs d c, or-false);
  release = λ d c. simp (pledge_pairs c d, listed-turned ((10, 11) ∷ (20, 21) ∷ (120, 121) ∷ []) d c, or-false);
  block = λ d c. simp (block_pairs d c, or-false);
  unblock = λ d c. simp (block_pairs c d, listed-turned ((10, 12) ∷ (20, 22) ∷ (110, 112) ∷ (120, 122) ∷ []) d c, or-false);
  deliver = λ d c. simp (free-types d, or-false);
  receive = λ d c. simp (free-types c, or-false);
  trade = λ d c. simp (alike-pairs d c, or-false);
  request = λ d c. simp (paper_types d, or-false);
  ending = λ d c. simp (outside-type c, papers c);
  others = other_forms;
  ended = ended_pairs;
  endings = ending-pairs;
  matched = alike-pairs;
  account_types = account_types_lem;
  pledged_or_blocked_types = pledged-types;
  outside_type = outside-type;
  transit_type = transit_type_lem;
}
