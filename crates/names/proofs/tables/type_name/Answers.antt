-- `names::tables::type_name` meets its contract: each arm is a row of the rulebook's table, and there are no others. Assumes nothing.
use Rattle.std.proofs.Common.{ap}
use borrow.Author.Tests.{ne_eqb}
use Rattle.rulebook.specs.TypeTable.{type_table, type_row}
use Rattle.text.specs.Text.{text}
use Rattle.names.proofs.Named.{no_type}
use Rattle.names.proofs.tables.type_name.Goals as goal

pub returns-in-10-clause-name : goal.returns-in-10-clause-name
unfolding type_row type_table
returns-in-10-clause-name c = rw c.in-10.is

pub returns-in-11-clause-name : goal.returns-in-11-clause-name
unfolding type_row type_table
returns-in-11-clause-name c = rw c.in-11.is

pub returns-in-12-clause-name : goal.returns-in-12-clause-name
unfolding type_row type_table
returns-in-12-clause-name c = rw c.in-12.is

pub returns-in-20-clause-name : goal.returns-in-20-clause-name
unfolding type_row type_table
returns-in-20-clause-name c = rw c.in-20.is

pub returns-in-21-clause-name : goal.returns-in-21-clause-name
unfolding type_row type_table
returns-in-21-clause-name c = rw c.in-21.is

pub returns-in-22-clause-name : goal.returns-in-22-clause-name
unfolding type_row type_table
returns-in-22-clause-name c = rw c.in-22.is

pub returns-in-50-clause-name : goal.returns-in-50-clause-name
unfolding type_row type_table
returns-in-50-clause-name c = rw c.in-50.is

pub returns-in-91-clause-name : goal.returns-in-91-clause-name
unfolding type_row type_table
returns-in-91-clause-name c = rw c.in-91.is

pub returns-in-110-clause-name : goal.returns-in-110-clause-name
unfolding type_row type_table
returns-in-110-clause-name c = rw c.in-110.is

pub returns-in-112-clause-name : goal.returns-in-112-clause-name
unfolding type_row type_table
returns-in-112-clause-name c = rw c.in-112.is

pub returns-in-120-clause-name : goal.returns-in-120-clause-name
unfolding type_row type_table
returns-in-120-clause-name c = rw c.in-120.is

pub returns-in-121-clause-name : goal.returns-in-121-clause-name
unfolding type_row type_table
returns-in-121-clause-name c = rw c.in-121.is

pub returns-in-122-clause-name : goal.returns-in-122-clause-name
unfolding type_row type_table
returns-in-122-clause-name c = rw c.in-122.is

pub returns-in_default-clause-name : goal.returns-in_default-clause-name
unfolding type_table
returns-in_default-clause-name c =
    let t = c.args.typ in
    let rest = c.in_default.in_default-own.rest in
    ap text (no_type t
    (rw (
      ne_eqb t 10 rest.0.0.0.0.0.0.0.0.0.0.0.0.1,
      ne_eqb t 11 rest.0.0.0.0.0.0.0.0.0.0.0.1,
      ne_eqb t 12 rest.0.0.0.0.0.0.0.0.0.0.1,
      ne_eqb t 20 rest.0.0.0.0.0.0.0.0.0.1,
      ne_eqb t 21 rest.0.0.0.0.0.0.0.0.1,
      ne_eqb t 22 rest.0.0.0.0.0.0.0.1,
      ne_eqb t 50 rest.0.0.0.0.0.0.1,
      ne_eqb t 91 rest.0.0.0.0.0.1,
      ne_eqb t 110 rest.0.0.0.0.1,
      ne_eqb t 112 rest.0.0.0.1,
      ne_eqb t 120 rest.0.0.1,
      ne_eqb t 121 rest.0.1,
      ne_eqb t 122 rest.1,
    )))
