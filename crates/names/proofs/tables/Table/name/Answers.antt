-- `names::tables::Table::name` meets its contract: each table is the rulebook's. Assumes nothing.
use Rattle.std.proofs.Common.{refl, map, ◌∙◌}
use Rattle.rulebook.specs.Forms.{forms}
use Rattle.rulebook.specs.Names.{field_names, currency_names, refusal_names, notice_names}
use Rattle.names.proofs.Named.{short, named, named_at, form-named}
use Rattle.names.proofs.tables.Table.name.Goals as goal

pub name_from1-requires-in-Refusals : goal.name_from1-requires-in-Refusals
unfolding refusal_names
name_from1-requires-in-Refusals c = short refusal_names _ refl refl

pub returns-in-Fields-clause-name : goal.returns-in-Fields-clause-name
unfolding field_names
returns-in-Fields-clause-name c = rw c.in-Fields.is (c.name_at.ensures.name ∙ named_at field_names _ refl c.args.number)

pub returns-in-Forms-clause-name : goal.returns-in-Forms-clause-name
unfolding forms
returns-in-Forms-clause-name c =
    rw (c.in-Forms.is, ← form-named c.args.number) (c.name_from1.ensures.name ∙ named (map (λ row. row.name) forms) _ refl c.args.number)

pub returns-in-Currencies-clause-name : goal.returns-in-Currencies-clause-name
unfolding currency_names
returns-in-Currencies-clause-name c = rw c.in-Currencies.is (c.name_from1-in-Currencies.ensures.name ∙ named currency_names _ refl c.args.number)

pub returns-in-Refusals-clause-name : goal.returns-in-Refusals-clause-name
unfolding refusal_names
returns-in-Refusals-clause-name c = rw c.in-Refusals.is (c.name_from1-in-Refusals.ensures.name ∙ named refusal_names _ refl c.args.number)

pub returns-in-Notices-clause-name : goal.returns-in-Notices-clause-name
unfolding notice_names
returns-in-Notices-clause-name c = rw c.in-Notices.is (c.name_from1-in-Notices.ensures.name ∙ named notice_names _ refl c.args.number)
