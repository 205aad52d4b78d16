-- The refusals of a record's fields, which reader and writer share, and a form's rules as sets of fields.
use Rattle.std.specs.Prelude.{if◌then◌else◌, ℕ, ◌/◌, ◌^◌, ◌<◌, Bool, true, false, not, ◌&&◌, List, [], ◌∷◌, ◌≡◌, length, get_or, map}
use Rattle.std.specs.Int.Bits.{bit_and}
use Rattle.plain.specs.Lists.{◌is◌, ◌is_not◌, within, first}
use Rattle.rulebook.specs.Field as Field
use Rattle.rulebook.specs.Field.{places}
use Rattle.rulebook.specs.Forms as Forms
use Rattle.rulebook.specs.Record.{no_form, field_tests}
use Rattle.field_rules.specs.declared.Rule.{Rule}

-- a set of fields has the field at a place; the least that a field can be, by the set of those that may be 0
abbrev pub has : ℕ → ℕ → Bool
has set place = bit_and (set / 2 ^ place) 1 is 1

abbrev pub least_in : ℕ → ℕ → ℕ
least_in optional place = if has optional place then 0 else 1

-- the sets say what the form's row says
pub record Ruled (form : ℕ) (rule : Rule) : Type 0 where
  pub used : (place : ℕ) → place < length places → has rule.used place ≡ Forms.used form place
  pub optional : (place : ℕ) → place < length places → least_in rule.optional place ≡ Forms.least form place

-- a record's fields with the sets and the mosts of their form
pub record RuledBy (rule : Rule) (mosts fields : List ℕ) : Type 0 where
  pub sets : Ruled (get_or fields Field.form 0) rule
  pub most : mosts ≡ map (Forms.most (get_or fields Field.form 0)) places

-- and no field is used where there is no row
pub record RuleOf (form : ℕ) (rule : Rule) : Type 0 where
  pub none : rule.used ≡ 0 → within 1 (length Forms.forms) form ≡ false
  pub some : (rule.used ≡ 0 → ⊥) → (within 1 (length Forms.forms) form ≡ true) × Ruled form rule

-- the fields behind the reference are 0
abbrev pub last_are_zero : List ℕ → Bool
last_are_zero fields =
    ((get_or fields Field.operation 0 is 0 && get_or fields Field.original 0 is 0) && get_or fields Field.edition 0 is 0) && get_or fields Field.spare 0 is 0

-- the first of 3, 4, 5 that applies, or 0
unfoldable pub fields_refusal : List ℕ → ℕ
fields_refusal fields = first (field_tests fields)

-- what 4 and 5 say of the field at a place, or 0
unfoldable pub field_refusal : List ℕ → (place : ℕ) → ℕ
field_refusal fields place =
    let of_form = get_or fields Field.form 0 in
    let value = get_or fields place 0 in
    first
    ((4, not (Forms.used of_form place) && value is_not 0)
    ∷ (5, Forms.used of_form place && not (within (Forms.least of_form place) (Forms.most of_form place) value))
    ∷ [])

-- the first place that passes a test; how many there are, where none does
unfoldable pub first_place : (ℕ → Bool) → List ℕ → ℕ
first_place test [] = length places
first_place test (place ∷ rest) = let later = first_place test rest in if test place then place else later

-- the first field, in the order of the places, to which the refusal of some fields applies
unfoldable pub refused_place : List ℕ → ℕ
refused_place fields =
    let later = first_place (λ place. field_refusal fields place is fields_refusal fields) places in
    if no_form fields then Field.form else later
