-- `types::table::row_below_100` meets its contract: each arm is a row of the rulebook's table, and the page has no others. Assumes nothing.
use mathlib.Core.Bool.{◌&&◌}
use borrow.Author.Tests.{ne_eqb, lt-ltb, le-leb}
use Rattle.plain.specs.Lists.{◌below◌, ◌at_most◌}
use Rattle.rulebook.specs.TypeTable.{requested, type_table, type_row}
use Rattle.rulebook.specs.AccountTypes.{listed, is_paper}
use Rattle.types.specs.Row.{word_of}
use Rattle.types.proofs.Rows.{no_word_on}
use Rattle.types.proofs.table.row_below_100.Statement.{statement}
use Rattle.types.proofs.table.row_below_100.Tie as tie

others : tie.Need-returns-in_default
unfolding type_table
others c =
    let t = c.args.typ in
    let rest = c.in_default.in_default-own.rest in
    no_word_on (λ n. 50 at_most n && n below 100) t (rw (le-leb 50 t c.requires.0, lt-ltb t 100 c.requires.1))
    (rw (ne_eqb t requested rest.0.1, ne_eqb t 91 rest.1))

pub row_below_100_spec : {M : Type 1} → statement M
unfolding word_of is_paper listed type_row type_table
row_below_100_spec =
    tie.close
    (tie.spec
    (λ c. rw c.in-50.is)
    (λ c. rw c.in-91.is)
    others)
