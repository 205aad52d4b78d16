-- Each way out by the tests that led there.
use Rattle.std.proofs.Common.{ap, ◌∙◌, ne_eqb}
use Rattle.std.proofs.lemmas.Result.{err_from_is_err_and}
use Rattle.rulebook.specs.Record.{read_refusal, read_of}
use Rattle.rulebook.specs.Answers.{refusal_of, all_refusals}
use Rattle.field_rules.specs.Fields.{fields_refusal}
use Rattle.record.proofs.Answers.{as_read, read-refused, read_order}
use Rattle.record.proofs.read.Goals as goal

pub returns-then-record-ne40 : goal.returns-then-record-ne40
unfolding read_of read_refusal refusal_of all_refusals
returns-then-record-ne40 c = as_read (simp (ne_eqb _ _ c.if-record-ne40.true))

pub returns-in_err-check : goal.returns-in_err-check
returns-in_err-check c =
    let p = err_from_is_err_and c.from_residual.result c.from_residual.ensures.1 in
    rw (p.1, p.2) (read-refused _ c.if-record-ne40.false _ (c.in_err-check.ensures ∙ ap fields_refusal c.fields_in-fields.ensures))

pub returns : goal.returns
returns c =
    rw (c.order_of.ensures, c.fields_in-fields.ensures)
    (read_order _ c.if-record-ne40.false (c.in_ok-check.ensures ∙ ap fields_refusal c.fields_in-fields.ensures))
