-- The names of the tables.
use Rattle.std.specs.Prelude.{ℕ}
use Prim.Native.String.{String}
use Rattle.rulebook.specs.Names.{field_name, form_name, currency_name, type_name, refusal_name, notice_name}
use Rattle.names.specs.declared.tables.Table.{Table}
use Rattle.names.specs.declared.tables.Table.TheVariants.{Fields, Forms, Currencies, Types, Refusals, Notices}

-- the name of a number in a table; no letters where it has none
abbrev pub name_of : Table → ℕ → String
name_of Fields place = field_name place
name_of Forms form = form_name form
name_of Currencies currency = currency_name currency
name_of Types typ = type_name typ
name_of Refusals refusal = refusal_name refusal
name_of Notices kind = notice_name kind
