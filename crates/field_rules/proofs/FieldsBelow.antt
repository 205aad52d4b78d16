-- What 4 and 5 say of each place settles what they say of all fields. Assumes nothing.
use Rattle.std.specs.Prelude.{if◌then◌else◌}
use Rattle.std.specs.List.{find, list_all, range_with_len}
use Rattle.std.specs.Prelude.{Option, Some, None}
use Rattle.std.specs.Option.{option_map, unwrap_or}
use mathlib.Core.Path.{◌≡◌, refl, ap, ◌∙◌}
use mathlib.Core.Bool.{Bool, cond, true, false, not, ◌&&◌, and-false}
use mathlib.Core.List.{List, [], ◌∷◌, ◌++◌, map}
use Prim.Native.Nat.{ℕ, zero, suc, ◌+◌, ◌<◌}
use borrow.Author.Tests.{eqb-true, not-false}
use native.Mathlib.Omega.{arith}
use lib.ListN.{length, get_or}
use Rattle.plain.proofs.Tests.{both}
use Rattle.plain.proofs.Lists.{some-append}
use Rattle.plain.specs.Lists.{◌is◌, ◌is_not◌, within, some, first}
use Rattle.rulebook.specs.Field as Field
use Rattle.rulebook.specs.Field.{places, always, rule_in}
use Rattle.rulebook.specs.Forms.{Form, forms, row_of, used, least, most}
use Rattle.rulebook.specs.Record.{unused_not_zero, used_out_of_range}
use Rattle.rulebook.proofs.ByCall.{by_test_lem}
use Rattle.rulebook.proofs.Below.{any, none_passes}
use Rattle.field_rules.specs.Fields.{field_refusal, last_are_zero, first_place}

-- ---- what is found at some place

some_same : (f g : ℕ → Bool) → ((place : ℕ) → f place ≡ g place) → (l : List ℕ) → some f l ≡ some g l
some_same f g e [] = refl
some_same f g e (place ∷ rest) = rw (e place, some_same f g e rest)

-- a field is not both used and unused
which : (u a b : Bool)
    → ((first ((4, not u && a) ∷ (5, u && b) ∷ []) is 4) ≡ (not u && a)) × ((first ((4, not u && a) ∷ (5, u && b) ∷ []) is 5) ≡ (u && b))
which true a true = (refl, refl)
which true a false = (refl, refl)
which false true b = (refl, refl)
which false false b = (refl, refl)

module _ (fields : List ℕ) where
  abbrev form : ℕ
  form = get_or fields Field.form 0

  pub unused_found : some (λ place. field_refusal fields place is 4) places ≡ unused_not_zero fields
  unfolding field_refusal unused_not_zero
  unused_found =
      some_same _ _ (λ place. (which (used form place) (get_or fields place 0 is_not 0) (not (within (least form place) (most form place) (get_or fields place 0)))).0) places

  pub outside_found : some (λ place. field_refusal fields place is 5) places ≡ used_out_of_range fields
  unfolding field_refusal used_out_of_range
  outside_found =
      some_same _ _ (λ place. (which (used form place) (get_or fields place 0 is_not 0) (not (within (least form place) (most form place) (get_or fields place 0)))).1) places

-- the places are the numbers below how many there are
misplaced : ℕ → Bool
misplaced place = get_or places place 0 is_not place

none_misplaced : any (length places) misplaced ≡ false
unfolding misplaced places
none_misplaced = refl

get_d_map : (f : ℕ → ℕ) (l : List ℕ) (n : ℕ) → n < length l → get_or (map f l) n 0 ≡ f (get_or l n 0)
get_d_map f [] n h = absurd (omega arith)
get_d_map f (x ∷ xs) zero h = refl
get_d_map f (x ∷ xs) (suc n) h = get_d_map f xs n (omega arith)

pub at_place : (f : ℕ → ℕ) (place : ℕ) → place < length places → get_or (map f places) place 0 ≡ f place
unfolding misplaced places
at_place f place l =
    get_d_map f places place l ∙ ap f (eqb-true (get_or places place 0) place (not-false _ (none_passes (length places) misplaced none_misplaced place l)))

-- 0 is right behind the reference in every form
refuses_0 : Form → ℕ → Bool
refuses_0 f place =
    let rule = rule_in (always ++ f.fields) place in
    some (λ r. place is r.place) (always ++ f.fields) && not (within rule.least rule.most 0)

zero_right : (form k : ℕ) → k < 4 → (used form (15 + k) && not (within (least form (15 + k)) (most form (15 + k)) 0)) ≡ false
unfolding refuses_0 forms used least most
zero_right form k l = none_passes 4 (λ k. refuses_0 (row_of form) (15 + k)) (by_test_lem (λ n f. any 4 (λ k. refuses_0 f (15 + k))) refl (λ m. refl) form) k l

-- the fields before the last ones are not refused, and those are 0
quiet :
    (test other : ℕ → Bool) → ((place : ℕ) → test place ≡ true → other place ≡ false) → (l : List ℕ) → list_all test l ≡ true → some other l ≡ false
quiet test other h [] e = refl
quiet test other h (place ∷ rest) e =
    let e : (test place ≡ true) × (list_all test rest ≡ true) = both (test place) (list_all test rest) e in
    rw (h place e.0, quiet test other h rest e.1)

neither_applies :
    (u a b : Bool) → (first ((4, not u && a) ∷ (5, u && b) ∷ []) is 0) ≡ true → ((not u && a) ≡ false) × ((u && b) ≡ false)
neither_applies true a true e = cc
neither_applies true a false e = (refl, refl)
neither_applies false true b e = cc
neither_applies false false b e = (refl, refl)

module _ (fields : List ℕ) where
  -- the field at a place is unused and not zero; is used and outside its range
  abbrev unused : ℕ → Bool
  unused place = not (used (form fields) place) && get_or fields place 0 is_not 0

  abbrev outside : ℕ → Bool
  outside place = used (form fields) place && not (within (least (form fields) place) (most (form fields) place) (get_or fields place 0))

  no_refusal : (place : ℕ) → (field_refusal fields place is 0) ≡ true → (unused place ≡ false) × (outside place ≡ false)
  unfolding field_refusal
  no_refusal place = neither_applies (used (form fields) place) _ _

  four : last_are_zero fields ≡ true → (some unused (15 ∷ 16 ∷ 17 ∷ 18 ∷ []) ≡ false) × (some outside (15 ∷ 16 ∷ 17 ∷ 18 ∷ []) ≡ false)
  four p =
      let x = both ((get_or fields 15 0 is 0 && get_or fields 16 0 is 0) && get_or fields 17 0 is 0) (get_or fields 18 0 is 0) p in
      let y = both (get_or fields 15 0 is 0 && get_or fields 16 0 is 0) (get_or fields 17 0 is 0) x.0 in
      let w = both (get_or fields 15 0 is 0) (get_or fields 16 0 is 0) y.0 in
      let z = zero_right (form fields) in (
        simp (w.0, w.1, y.1, x.1, and-false),
        simp (eqb-true _ 0 w.0, eqb-true _ 0 w.1, eqb-true _ 0 y.1, eqb-true _ 0 x.1, z 0 (omega arith), z 1 (omega arith), z 2 (omega arith), z 3 (omega arith)),
      )

  pub none_refused :
      list_all (λ place. field_refusal fields place is 0) (range_with_len 0 15) ≡ true → last_are_zero fields ≡ true
      → (unused_not_zero fields ≡ false) × (used_out_of_range fields ≡ false)
  unfolding unused_not_zero used_out_of_range places
  none_refused all zeros =
      let last = four zeros in
      let first = range_with_len 0 15 in
      let a = quiet _ unused (λ place e. (no_refusal place e).0) first all in
      let b = quiet _ outside (λ place e. (no_refusal place e).1) first all in (
        some-append unused first (15 ∷ 16 ∷ 17 ∷ 18 ∷ []) ∙ rw (a, last.0),
        some-append outside first (15 ∷ 16 ∷ 17 ∷ 18 ∷ []) ∙ rw (b, last.1),
      )

-- ---- the first place that passes a test

first_of : (test : ℕ → Bool) (l : List ℕ) → unwrap_or (find test l) 19 ≡ first_place test l
unfolding first_place places
first_of test [] = refl
first_of test (place ∷ rest) = go (test place) (first_of test rest)
  where
    go :
        (t : Bool) → unwrap_or (find test rest) 19 ≡ first_place test rest
        → unwrap_or (cond t (Some place) (find test rest)) 19 ≡ (if t then place else first_place test rest)
    go true later = refl
    go false later = later

pub first_found : (test : ℕ → Bool) (found : Option ℕ) → option_map (λ place. place) found ≡ find test (range_with_len 0 19) → unwrap_or found 19 ≡ first_place test places
unfolding places
first_found test found e = same found ∙ ap (λ (r : Option ℕ). unwrap_or r 19) e ∙ first_of test (range_with_len 0 19)
  where
    same : (r : Option ℕ) → unwrap_or r 19 ≡ unwrap_or (option_map (λ place. place) r) 19
    same None = refl
    same (Some place) = refl
