-- `types::table::row_from_100` meets its contract: each arm is a row of the rulebook's table, and the page has no others. Assumes nothing.
use borrow.Author.Tests.{ne_eqb, le-leb}
use Rattle.plain.specs.Lists.{◌at_most◌}
use Rattle.rulebook.specs.TypeTable.{type_table, type_row}
use Rattle.rulebook.specs.AccountTypes.{listed, is_paper}
use Rattle.types.specs.Row.{word_of}
use Rattle.types.proofs.Rows.{no_word_on}
use Rattle.types.proofs.table.row_from_100.Statement.{statement}
use Rattle.types.proofs.table.row_from_100.Tie as tie

others : tie.Need-returns-in_default
unfolding type_table
others c =
    let t = c.args.typ in
    let rest = c.in_default.in_default-own.rest in
    no_word_on (λ n. 100 at_most n) t (le-leb 100 t c.requires)
    (rw (
      ne_eqb t 110 rest.0.0.0.0.1,
      ne_eqb t 112 rest.0.0.0.1,
      ne_eqb t 120 rest.0.0.1,
      ne_eqb t 121 rest.0.1,
      ne_eqb t 122 rest.1,
    ))

pub row_from_100_spec : {M : Type 1} → statement M
unfolding word_of is_paper listed type_row type_table
row_from_100_spec =
    tie.close
    (tie.spec
    (λ c. rw c.in-110.is)
    (λ c. rw c.in-112.is)
    (λ c. rw c.in-120.is)
    (λ c. rw c.in-121.is)
    (λ c. rw c.in-122.is)
    others)
