-- `first_line::with_needed` meets its contract: form and minute are looked for. Assumes nothing.
use Rattle.std.proofs.Common.{ℕ, List, sym, ap, ◌∙◌, take, Err}
use Rattle.table.specs.declared.Columns.{Columns}
use Rattle.table.specs.Header.{header_from}
use Rattle.first_line.proofs.Heading.{contained}
use Rattle.first_line.proofs.with_needed.Goals as goal

abbrev named : Columns → List ℕ
named columns = take columns.count columns.places

pub returns-then-not-contains : goal.returns-then-not-contains
unfolding header_from
returns-then-not-contains c =
    ap Err c.wrong.ensures ∙ sym (simp (sym (contained (named c.args.columns) 0) ∙ sym c.contains.ensures.value ∙ c.if-not-contains.true))

pub returns-then-not-contains-2 : goal.returns-then-not-contains-2
unfolding header_from
returns-then-not-contains-2 c =
    ap Err c.wrong-then-not-contains-2.ensures
    ∙ sym (simp (
      sym (contained (named c.args.columns) 0) ∙ sym c.contains.ensures.value ∙ c.if-not-contains.false,
      sym (contained (named c.args.columns) 1) ∙ sym c.contains-2.ensures.value ∙ c.if-not-contains-2.true,
    ))

pub returns : goal.returns
unfolding header_from
returns c =
    sym (simp (
      sym (contained (named c.args.columns) 0) ∙ sym c.contains.ensures.value ∙ c.if-not-contains.false,
      sym (contained (named c.args.columns) 1) ∙ sym c.contains-2.ensures.value ∙ c.if-not-contains-2.false,
    ))
