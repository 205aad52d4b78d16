-- A security's line of text is the one of the printing program (RULES 13.4).
use Rattle.std.specs.Prelude.{false, ◌≡◌}
use Rattle.rulebook.specs.declared.Security.{Security}
use Rattle.lines.specs.Lines.{custody_line}
use Rattle.sheet_custody.specs.Line.{security_line}

unfoldable pub AsPrinted : Type 0
AsPrinted = (security : Security) → security_line false security ≡ custody_line security
