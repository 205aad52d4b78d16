-- What things are called in tables and lines (RULES 15): fields, currencies, day kinds, refusals, notices. Forms and account types have their names in
-- their rows.
use Rattle.std.specs.Prelude.{ℕ, zero, suc, List, [], ◌∷◌, get_or}
use Prim.Native.String.{String}
use Rattle.rulebook.specs.TypeTable.{type_row}
use Rattle.rulebook.specs.Forms.{row_of}

-- RULES 2.1: the fields, by place
unfoldable pub field_names : List String
field_names =
    "form" ∷ "minute" ∷ "security" ∷ "currency" ∷ "debited member" ∷ "debited type" ∷ "credited member" ∷ "credited type" ∷ "debited shareholder"
    ∷ "credited shareholder" ∷ "quantity" ∷ "amount" ∷ "trade day" ∷ "settlement day" ∷ "reference" ∷ "operation" ∷ "original" ∷ "edition" ∷ []

-- RULES 2.1: from 1
unfoldable pub currency_names : List String
currency_names = "USD" ∷ "LBP" ∷ []

-- RULES 7: from 1
unfoldable pub refusal_names : List String
refusal_names =
    "the area is too short"
    ∷ "the record does not have 40 bytes"
    ∷ "there is no such form"
    ∷ "a field that the form does not use is not 0"
    ∷ "a field that the form uses is out of its range"
    ∷ "a day is open already, or none is open, or no day is left"
    ∷ "the day has had all its cycles, or has not had them yet"
    ∷ "the minute goes back"
    ∷ "the minute is outside the form's window"
    ∷ "the security is not admitted, or is admitted already"
    ∷ "the form does not allow these account types"
    ∷ "the form does not allow these parties"
    ∷ "the form does not allow these days"
    ∷ "the reference is taken already, or nothing waits under it"
    ∷ "this sender cannot cancel the item"
    ∷ "there is less than is asked for"
    ∷ "the currency's cash would pass its ceiling"
    ∷ "the book has no room"
    ∷ "the request is open already, or is not open, or does not end so"
    ∷ "the request was made today"
    ∷ "the book has sixteen requests already"
    ∷ "a sent cycle has not been answered"
    ∷ "no cycle is sent"
    ∷ "the trade is in a sent cycle"
    ∷ []

-- RULES 11.9: from 1
unfoldable pub notice_names : List String
notice_names = "deleted single" ∷ "aged pair" ∷ "suspended exchange trade" ∷ "cancelled pair" ∷ []

-- the name at a number from 1 on; none has no letters
unfoldable pub name_from1 : List String → ℕ → String
name_from1 names zero = ""
name_from1 names (suc n) = get_or names n ""

abbrev pub field_name : ℕ → String
field_name place = get_or field_names place ""

abbrev pub form_name : ℕ → String
form_name form = (row_of form).name

abbrev pub type_name : ℕ → String
type_name typ = (type_row typ).name

abbrev pub currency_name : ℕ → String
currency_name = name_from1 currency_names

abbrev pub refusal_name : ℕ → String
refusal_name = name_from1 refusal_names

abbrev pub notice_name : ℕ → String
notice_name = name_from1 notice_names
