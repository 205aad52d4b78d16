-- What reading a record, writing one and a call answer, and the numbers of the refusals (RULES 7).
use Rattle.std.specs.Prelude.{ℕ, ◌-◌, List, [], ◌∷◌, get_or, Option, Some, None, Result, Ok, Err}
use Rattle.rulebook.specs.declared.Counts.{Counts}
use Rattle.rulebook.specs.declared.Order.{Order}
use Rattle.rulebook.specs.declared.Refusal.{Refusal}

abbrev pub Read : Type 0
Read = Result Order Refusal

abbrev pub Written : Type 0
Written = Result (Unit {0}) Refusal

abbrev pub Answer : Type 0
Answer = Result Counts Refusal

-- from 1 on

abbrev pub number_of : Refusal → ℕ
number_of Refusal.ShortArea = 1
number_of Refusal.RecordLength = 2
number_of Refusal.NoForm = 3
number_of Refusal.UnusedField = 4
number_of Refusal.FieldRange = 5
number_of Refusal.WrongDay = 6
number_of Refusal.WrongCycle = 7
number_of Refusal.MinuteGoesBack = 8
number_of Refusal.OutsideWindow = 9
number_of Refusal.WrongSecurity = 10
number_of Refusal.WrongTypes = 11
number_of Refusal.WrongParties = 12
number_of Refusal.WrongDays = 13
number_of Refusal.WrongReference = 14
number_of Refusal.WrongCancel = 15
number_of Refusal.TooLittle = 16
number_of Refusal.OverCeiling = 17
number_of Refusal.NoSpace = 18
number_of Refusal.WrongRequest = 19
number_of Refusal.EndsTooSoon = 20
number_of Refusal.TooManyRequests = 21
number_of Refusal.AwaitsAnswer = 22
number_of Refusal.NothingSent = 23
number_of Refusal.CancelsSent = 24

-- the refusals, in the order of their numbers
unfoldable pub all_refusals : List Refusal
all_refusals =
    Refusal.ShortArea ∷ Refusal.RecordLength ∷ Refusal.NoForm ∷ Refusal.UnusedField ∷ Refusal.FieldRange ∷ Refusal.WrongDay
    ∷ Refusal.WrongCycle ∷ Refusal.MinuteGoesBack ∷ Refusal.OutsideWindow ∷ Refusal.WrongSecurity ∷ Refusal.WrongTypes ∷ Refusal.WrongParties
    ∷ Refusal.WrongDays ∷ Refusal.WrongReference ∷ Refusal.WrongCancel ∷ Refusal.TooLittle ∷ Refusal.OverCeiling ∷ Refusal.NoSpace
    ∷ Refusal.WrongRequest ∷ Refusal.EndsTooSoon ∷ Refusal.TooManyRequests ∷ Refusal.AwaitsAnswer ∷ Refusal.NothingSent ∷ Refusal.CancelsSent
    ∷ []

-- the refusal of a number from 1 to 24
unfoldable pub refusal_of : ℕ → Refusal
refusal_of number = get_or all_refusals (number - 1) Refusal.ShortArea

-- an answer as a number: 0, or that of the refusal
abbrev pub number_in : {A : Type 0} → Result A Refusal → ℕ
number_in (Ok value) = 0
number_in (Err refusal) = number_of refusal

-- 0 where no refusal was found
abbrev pub number_found : Option Refusal → ℕ
number_found None = 0
number_found (Some refusal) = number_of refusal
