-- `types::table::row_below_50` meets its contract: each arm is a row of the rulebook's table, and the page has no others. Assumes nothing.
use borrow.Author.Tests.{ne_eqb, lt-ltb}
use Rattle.plain.specs.Lists.{◌below◌}
use Rattle.rulebook.specs.TypeTable.{type_table, type_row}
use Rattle.rulebook.specs.AccountTypes.{listed, is_paper}
use Rattle.types.specs.Row.{word_of}
use Rattle.types.proofs.Rows.{no_word_on}
use Rattle.types.proofs.table.row_below_50.Statement.{statement}
use Rattle.types.proofs.table.row_below_50.Tie as tie

others : tie.Need-returns-in_default
unfolding type_table
others c =
    let t = c.args.typ in
    let rest = c.in_default.in_default-own.rest in
    no_word_on (λ n. n below 50) t (lt-ltb t 50 c.requires)
    (rw (
      ne_eqb t 10 rest.0.0.0.0.0.1,
      ne_eqb t 11 rest.0.0.0.0.1,
      ne_eqb t 12 rest.0.0.0.1,
      ne_eqb t 20 rest.0.0.1,
      ne_eqb t 21 rest.0.1,
      ne_eqb t 22 rest.1,
    ))

pub row_below_50_spec : {M : Type 1} → statement M
unfolding word_of is_paper listed type_row type_table
row_below_50_spec =
    tie.close
    (tie.spec
    (λ c. rw c.in-10.is)
    (λ c. rw c.in-11.is)
    (λ c. rw c.in-12.is)
    (λ c. rw c.in-20.is)
    (λ c. rw c.in-21.is)
    (λ c. rw c.in-22.is)
    others)
