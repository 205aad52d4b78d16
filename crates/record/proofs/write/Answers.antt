-- Each way out by the tests that led there: what is packed from bit 0 on is the record's bytes.
use Rattle.std.proofs.Common.{◌≡◌, List, ℕ, ◌++◌, drop, refl, ap, ◌∙◌, arith, rules, lt-ltb}
use Rattle.std.proofs.lemmas.Result.{err_from_is_err_and}
use Rattle.bits.specs.Bits.{put}
use Rattle.bits.specs.Layout.{pack}
use Rattle.bits.proofs.Packing.{put_front}
use Rattle.rulebook.specs.Field.{widths}
use Rattle.rulebook.specs.Record.{fields_of, record_of, write_refusal, written_of, area_written}
use Rattle.rulebook.specs.Answers.{refusal_of, all_refusals}
use Rattle.field_rules.specs.Fields.{fields_refusal}
use Rattle.record.proofs.Answers.{as_written, write_refused, write_record, write_fits}
use Rattle.record.proofs.write.Goals as goal

pub returns-then-area-lt40 : goal.returns-then-area-lt40
unfolding written_of area_written write_refusal refusal_of all_refusals
returns-then-area-lt40 c = as_written (simp (lt-ltb _ _ c.if-area-lt40.true) (refl, refl))

pub returns-in_err-check : goal.returns-in_err-check
returns-in_err-check c =
    let p = err_from_is_err_and c.from_residual.result c.from_residual.ensures.1 in
    rw (p.1, p.2) (write_refused _ _ c.if-area-lt40.false _ (c.in_err-check.ensures ∙ ap fields_refusal c.fields_of-fields.ensures))

pub pack_bits-requires : goal.pack_bits-requires
unfolding widths
pack_bits-requires c = (
  omega arith,
  omega arith,
  omega arith,
  rw c.fields_of-fields.ensures (write_fits _ (c.in_ok-check.ensures ∙ ap fields_refusal c.fields_of-fields.ensures)),
)

pub returns : goal.returns
unfolding record_of widths
returns c =
    let order = c.args.order in
    let area : List ℕ = c.args.area.now in
    let packed : put area 0 320 (pack 0 widths c.fields_of-fields.result) ≡ record_of order ++ drop 40 area =
    ap (λ (values : List ℕ). put area 0 320 (pack 0 widths values)) c.fields_of-fields.ensures
    ∙ put_front area 40 (pack 0 widths (fields_of order)) (λ i. search rules) in
    write_record order area c.if-area-lt40.false (c.in_ok-check.ensures ∙ ap fields_refusal c.fields_of-fields.ensures) _ (c.pack_bits.ensures ∙ packed)
