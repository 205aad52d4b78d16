-- What a sign makes of a number.
use Rattle.std.specs.Prelude.{ℕ, List}
use Rattle.names.specs.Tables.{name_of}
use Rattle.text.specs.Text.{text, decimal}
use Rattle.wording.specs.declared.Sign.{Sign}
use Rattle.wording.specs.declared.Sign.TheVariants.{Digits, Name}

-- its digits, or its name in a table
abbrev pub meant : Sign → ℕ → List ℕ
meant Digits n = decimal n
meant (Name table) n = text (name_of table n)
