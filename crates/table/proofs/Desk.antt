-- The tables of specs/Desk, each computed. Assumes nothing.
use mathlib.Core.Path.{refl}
use Rattle.plain.proofs.Lists.{each_same}
use Rattle.rulebook.specs.Field.{widths, places, ceiling}
use Rattle.rulebook.specs.Forms.{forms, row_of as form_row, used, least, most}
use Rattle.rulebook.specs.Names.{field_names}
use Rattle.rulebook.specs.Record.{order_of, fields_of, no_form, unused_not_zero, used_out_of_range}
use Rattle.field_rules.specs.Fields.{fields_refusal, field_refusal, first_place, refused_place}
use Rattle.text.specs.Parts.{up_to, joined, split, same_text, place_in}
use Rattle.names.specs.Numbers.{field_place, form_number}
use Rattle.cells.specs.Cells.{lines_of, front, before, back, trim, is_empty, leading, full_lines, strange, read_on, number_in}
use Rattle.table.specs.Header.{name_kind, header_from, header_of}
use Rattle.table.specs.Lines.{form_in, optional_in, field_number, with_number, fields_from, line_fields, column_from, ordered, row_of, more, with_row, rows_from}
use Rattle.table.specs.Import.{mark, unmarked, with_columns, import_lines, import_of}
use Rattle.table.specs.Desk.{tables, Tables}

pub worked : Tables
unfolding Tables tables widths places ceiling forms form_row used least most field_names order_of fields_of no_form unused_not_zero used_out_of_range fields_refusal
    field_refusal first_place refused_place up_to joined split same_text place_in field_place form_number lines_of front before back trim is_empty leading
    full_lines strange read_on number_in name_kind header_from header_of form_in optional_in field_number with_number fields_from line_fields column_from
    ordered row_of more with_row rows_from mark unmarked with_columns import_lines import_of
worked = each_same (λ table. import_of table.0) (λ table. table.1) tables refl
