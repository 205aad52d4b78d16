-- Two books that mean the same have the same sheet. Assumes nothing.
use mathlib.Core.Path.{ap}
use Rattle.sheets.specs.Sheet.{sheet_of, SameSheet}

pub same_sheet : SameSheet
unfolding SameSheet
same_sheet page one other e = ap (sheet_of page) e
