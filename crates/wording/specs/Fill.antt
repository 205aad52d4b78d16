-- A line is a pattern whose signs stand for the numbers that it is given, each in its turn.
use Rattle.std.specs.Prelude.{if◌then◌else◌, ℕ, Bool, true, false, List, [], ◌∷◌, ◌++◌}
use Prim.Native.String.{String}
use Rattle.plain.specs.Lists.{◌is◌, ◌one_of◌}
use Rattle.rulebook.specs.Names.{form_name, type_name, currency_name, refusal_name, notice_name}
use Rattle.text.specs.Text.{text, decimal}

-- The signs: `#` a number, `$` a currency, `%` an account type, `*` a kind of notice, `!` a refusal, `^` a form.
abbrev pub number : ℕ
number = 35

abbrev pub currency : ℕ
currency = 36

abbrev pub account_type : ℕ
account_type = 37

abbrev pub notice : ℕ
notice = 42

abbrev pub refusal : ℕ
refusal = 33

abbrev pub form : ℕ
form = 94

unfoldable pub is_sign : ℕ → Bool
is_sign b = b one_of (number ∷ currency ∷ account_type ∷ notice ∷ refusal ∷ form ∷ [])

-- what a sign says of a number: its digits, or the name that it has
unfoldable pub said : (sign : ℕ) → ℕ → List ℕ
said sign n =
    if sign is number then decimal n
    else if sign is currency then text (currency_name n)
    else if sign is account_type then text (type_name n)
    else if sign is notice then text (notice_name n)
    else if sign is refusal then text (refusal_name n)
    else text (form_name n)

-- what a byte of a pattern says: a sign the first of the numbers that are left, and nothing where none is left; any other byte itself
unfoldable pub part : (sign : Bool) → (byte : ℕ) → List ℕ → List ℕ
part false b numbers = b ∷ []
part true b [] = []
part true b (n ∷ numbers) = said b n

-- the numbers that are left behind it
unfoldable pub left : (sign : Bool) → List ℕ → List ℕ
left false numbers = numbers
left true [] = []
left true (n ∷ numbers) = numbers

unfoldable pub fill : (pattern : List ℕ) → (numbers : List ℕ) → List ℕ
fill [] numbers = []
fill (b ∷ rest) numbers = part (is_sign b) b numbers ++ fill rest (left (is_sign b) numbers)

-- a pattern that is written as a text
abbrev pub line : String → (numbers : List ℕ) → List ℕ
line pattern numbers = fill (text pattern) numbers
