-- What reader and writer answer, by the refusal of the fields. Assumes nothing.
use Rattle.std.specs.Prelude.{Ok, Err}
use mathlib.Core.Path.{◌≡◌, refl, sym, ap, ◌∙◌}
use mathlib.Core.Bool.{Bool, true, false}
use mathlib.Core.List.{List, [], ◌∷◌, ◌++◌}
use Prim.Native.Nat.{ℕ, ◌≤◌}
use borrow.Author.Tests.{eq-eqb, le-ltb}
use lib.ListN.{length, drop}
use Rattle.bits.specs.Layout.{Fit}
use Rattle.plain.specs.Lists.{first}
use Rattle.rulebook.specs.Field.{widths}
use Rattle.rulebook.specs.Record.{fields_in, fields_of, order_of, record_of, no_form, unused_not_zero, used_out_of_range}
use Rattle.rulebook.specs.Record.{read_refusal, read_of, read_number, write_refusal, written_of, written_number, area_written}
use Rattle.rulebook.specs.declared.Order.{Order}
use Rattle.rulebook.specs.declared.Refusal.{Refusal}
use Rattle.rulebook.specs.Answers.{Read, Written, number_of}
use Rattle.rulebook.proofs.Answers.{refusal-back, refused_by}
use Rattle.rulebook.proofs.RoundTrips.{fields_fit}
use Rattle.field_rules.specs.Fields.{fields_refusal}
use Rattle.record.specs.Answers.{ReadAs, WrittenAs}

-- the number of an answer follows from the answer
pub as_read : {octets : List ℕ} {answer : Read} → answer ≡ read_of octets → ReadAs octets answer
as_read e = record { answered = e; number = ap read_number e }

pub as_written :
    {order : Order} {area area' : List ℕ} {answer : Written} → (answer ≡ written_of order area) × (area' ≡ area_written order area)
    → WrittenAs order area answer area'
as_written e = record { answered = e.0; number = ap written_number e.0; written = e.1 }

module _ (octets : List ℕ) (l : length octets ≡ 40) where
  read_number_lem : read_refusal octets ≡ fields_refusal (fields_in octets)
  unfolding read_refusal fields_refusal
  read_number_lem = simp (eq-eqb _ _ l)

  pub read-refused : (refusal : Refusal) → number_of refusal ≡ fields_refusal (fields_in octets) → ReadAs octets (Err refusal)
  unfolding read_of
  read-refused refusal e = as_read (sym (refused_by _ _ refusal (e ∙ sym read_number_lem)))

  pub read_order : 0 ≡ fields_refusal (fields_in octets) → ReadAs octets (Ok (order_of (fields_in octets)))
  unfolding read_of
  read_order e = as_read (rw (read_number_lem, ← e))

module _ (order : Order) (area : List ℕ) (l : 40 ≤ length area) where
  write_number : write_refusal order area ≡ fields_refusal (fields_of order)
  unfolding write_refusal fields_refusal
  write_number = simp (le-ltb _ _ l)

  pub write_refused : (refusal : Refusal) → number_of refusal ≡ fields_refusal (fields_of order) → WrittenAs order area (Err refusal) area
  unfolding written_of area_written
  write_refused refusal e =
      let number : write_refusal order area ≡ number_of refusal = write_number ∙ sym e in
      as_written (sym (refused_by _ _ refusal (sym number)), rw (number, (refusal-back refusal).1))

  pub write_record : 0 ≡ fields_refusal (fields_of order) → (area' : List ℕ) → area' ≡ record_of order ++ drop 40 area → WrittenAs order area (Ok tt) area'
  unfolding written_of area_written
  write_record e area' is = as_written (rw (write_number, ← e), rw (write_number, ← e) is)

-- fields that are not refused fit their widths
pub write_fits : (order : Order) → 0 ≡ fields_refusal (fields_of order) → Fit widths (fields_of order)
unfolding fields_refusal
write_fits order e =
    let fields : List ℕ = fields_of order in
    let none : (unused_not_zero fields ≡ false) × (used_out_of_range fields ≡ false) = neither (no_form fields) (unused_not_zero fields) (used_out_of_range fields) (sym e) in
    fields_fit order none.0 none.1
  where
    neither : (a b c : Bool) → first ((3, a) ∷ (4, b) ∷ (5, c) ∷ []) ≡ 0 → (b ≡ false) × (c ≡ false)
    neither true b c h = (cc, cc)
    neither false true c h = (cc, cc)
    neither false false true h = (cc, cc)
    neither false false false h = (refl, refl)
