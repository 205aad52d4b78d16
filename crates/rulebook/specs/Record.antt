-- The record of 40 bytes: what reading one gives, and what writing one gives (RULES 2).
use Rattle.std.specs.Prelude.{if◌then◌else◌, ℕ, Bool, not, ◌&&◌, List, [], ◌∷◌, ◌++◌, length, get_or, drop, Ok, Err}
use Rattle.plain.specs.Lists.{◌is◌, ◌is_not◌, ◌below◌, within, some, first}
use Rattle.rulebook.specs.Field as Field
use Rattle.rulebook.specs.Field.{places, widths}
use Rattle.rulebook.specs.Forms.{forms, used, least, most}
use Rattle.bits.specs.Bits.{bytes}
use Rattle.bits.specs.Layout.{pack, cut}
use Rattle.rulebook.specs.declared.Order.{Order}
use Rattle.rulebook.specs.Answers.{Read, Written, refusal_of, number_in}

-- an order's fields, by place
unfoldable pub fields_of : Order → List ℕ
fields_of o =
    o.form ∷ o.minute ∷ o.security ∷ o.currency ∷ o.debited.member ∷ o.debited.typ ∷ o.credited.member ∷ o.credited.typ ∷ o.debited.shareholder
    ∷ o.credited.shareholder ∷ o.quantity.0 ∷ o.amount.0 ∷ o.trade_day ∷ o.settlement_day ∷ o.reference
    ∷ o.operation ∷ o.original ∷ o.edition ∷ 0 ∷ []

-- and the order of such fields
unfoldable pub order_of : List ℕ → Order
order_of fields = record {
  form = get_or fields Field.form 0;
  minute = get_or fields Field.minute 0;
  security = get_or fields Field.security 0;
  currency = get_or fields Field.currency 0;
  debited =
      record { member = get_or fields Field.debited_member 0; typ = get_or fields Field.debited_type 0; shareholder = get_or fields Field.debited_shareholder 0 };
  credited =
      record
      { member = get_or fields Field.credited_member 0; typ = get_or fields Field.credited_type 0; shareholder = get_or fields Field.credited_shareholder 0 };
  quantity = record { 0 = get_or fields Field.quantity 0 };
  amount = record { 0 = get_or fields Field.amount 0 };
  trade_day = get_or fields Field.trade_day 0;
  settlement_day = get_or fields Field.settlement_day 0;
  reference = get_or fields Field.reference 0;
  operation = get_or fields Field.operation 0;
  original = get_or fields Field.original 0;
  edition = get_or fields Field.edition 0;
}

-- RULES 7.3: no row of the table of forms has that number
unfoldable pub no_form : List ℕ → Bool
no_form fields = not (within 1 (length forms) (get_or fields Field.form 0))

-- RULES 7.4: an unused field is not 0, or a bit that no field has
unfoldable pub unused_not_zero : List ℕ → Bool
unused_not_zero fields = some (λ place. not (used (get_or fields Field.form 0) place) && get_or fields place 0 is_not 0) places

-- RULES 7.5: a used field is below its least or above its most
unfoldable pub used_out_of_range : List ℕ → Bool
used_out_of_range fields =
    let of_form = get_or fields Field.form 0 in
    some (λ place. used of_form place && not (within (least of_form place) (most of_form place) (get_or fields place 0))) places

-- the tests that reader and writer share, in checking order
abbrev pub field_tests : List ℕ → List (ℕ × Bool)
field_tests fields = (3, no_form fields) ∷ (4, unused_not_zero fields) ∷ (5, used_out_of_range fields) ∷ []

-- the fields that a record's bytes hold
unfoldable pub fields_in : List ℕ → List ℕ
fields_in octets = cut octets 0 widths

-- RULES 2.8, 7.2: the reader's tests
abbrev pub read_tests : List ℕ → List (ℕ × Bool)
read_tests octets = (2, length octets is_not 40) ∷ field_tests (fields_in octets)

-- the first of them that applies; 0 where it reads
unfoldable pub read_refusal : List ℕ → ℕ
read_refusal octets = first (read_tests octets)

-- what the reader answers
unfoldable pub read_of : List ℕ → Read
read_of octets = if read_refusal octets is 0 then Ok (order_of (fields_in octets)) else Err (refusal_of (read_refusal octets))

-- the reader's answer as a number: 0 for an order, else the refusal's
unfoldable pub read_number : Read → ℕ
read_number answer = number_in answer

-- the 40 bytes of an order
unfoldable pub record_of : Order → List ℕ
record_of o = bytes 40 (pack 0 widths (fields_of o))

-- RULES 2.9, 7.1: the first of the writer's tests that applies; 0 where it writes
unfoldable pub write_refusal : Order → List ℕ → ℕ
write_refusal o area = first ((1, length area below 40) ∷ field_tests (fields_of o))

-- what the writer answers
unfoldable pub written_of : Order → List ℕ → Written
written_of o area = if write_refusal o area is 0 then Ok tt else Err (refusal_of (write_refusal o area))

-- the writer's answer as a number: 0 for a record, else the refusal's
unfoldable pub written_number : Written → ℕ
written_number answer = number_in answer

-- RULES 2.9: the area after it
unfoldable pub area_written : Order → List ℕ → List ℕ
area_written o area = if write_refusal o area is 0 then record_of o ++ drop 40 area else area
