-- The call, its answer's line, and behind it those of its rows.
use Rattle.std.proofs.Common.{rules, arith, ◌≡◌, length}
use mathlib.Core.Path.{ap, ◌∙◌}
use Rattle.rulebook.specs.Call.{answer_rows, call_of}
use Rattle.book.specs.Meaning.{ledger_of}
use Rattle.statements.proofs.Results.{rows_few}
use Rattle.statements.proofs.Walks.{stated_one}
use Rattle.statements.proofs.calls.put_record.Goals as goal

pub put_rows-requires : goal.put_rows-requires
put_rows-requires g c =
    let few = rows_few (ledger_of c.args.book.now) c.args.octets.now c.args.area.now c.requires.0.premise in
    let counted = c.rows_of.ensures ∙ ap answer_rows c.call-answer.ensures.answered in (
      search rules,
      (
        omega (arith, few.1, counted, ap length c.call-answer.ensures.written),
        omega (arith, few.0, counted, c.put_answer.ensures.upper_bound, c.requires.1),
      ),
    )

pub returns-clause-stated : goal.returns-clause-stated
returns-clause-stated g c =
    let lines = rw c.posts.ensures at c.put_rows.ensures.put in
    stated_one _ _ _ _ _ _ _ _ _ _ _ _ c.call-answer.ensures c.form_of-form.ensures c.rows_of.ensures c.put_answer.ensures.put lines

pub returns-clause-upper_bound : goal.returns-clause-upper_bound
returns-clause-upper_bound g c =
    let few = rows_few (ledger_of c.args.book.now) c.args.octets.now c.args.area.now c.requires.0.premise in
    let counted = c.rows_of.ensures ∙ ap answer_rows c.call-answer.ensures.answered in
    omega (arith, few.0, counted, c.put_answer.ensures.upper_bound, c.put_rows.ensures.upper_bound)
