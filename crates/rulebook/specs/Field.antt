-- The fields of a record: their places, their widths, and what a form may say of a field (RULES 2.1 to 2.4).
use Rattle.std.specs.Prelude.{if◌then◌else◌, ℕ, ◌-◌, ◌^◌, List, [], ◌∷◌, ◌++◌, get_or}
use Rattle.plain.specs.Lists.{◌is◌, ◌is_not◌, ◌one_of◌, keep}

-- RULES 2.1: the places of the fields, one behind the other
abbrev pub form : ℕ
form = 0

abbrev pub minute : ℕ
minute = 1

abbrev pub security : ℕ
security = 2

abbrev pub currency : ℕ
currency = 3

abbrev pub debited_member : ℕ
debited_member = 4

abbrev pub debited_type : ℕ
debited_type = 5

abbrev pub credited_member : ℕ
credited_member = 6

abbrev pub credited_type : ℕ
credited_type = 7

abbrev pub debited_shareholder : ℕ
debited_shareholder = 8

abbrev pub credited_shareholder : ℕ
credited_shareholder = 9

abbrev pub quantity : ℕ
quantity = 10

abbrev pub amount : ℕ
amount = 11

abbrev pub trade_day : ℕ
trade_day = 12

abbrev pub settlement_day : ℕ
settlement_day = 13

abbrev pub reference : ℕ
reference = 14

-- an operation on another trade, and that trade's reference
abbrev pub operation : ℕ
operation = 15

abbrev pub original : ℕ
original = 16

-- the edition of the pairs of account types
abbrev pub edition : ℕ
edition = 17

-- bits that no field has yet
abbrev pub spare : ℕ
spare = 18

unfoldable pub places : List ℕ
places =
    form ∷ minute ∷ security ∷ currency ∷ debited_member ∷ debited_type ∷ credited_member ∷ credited_type ∷ debited_shareholder
    ∷ credited_shareholder ∷ quantity ∷ amount ∷ trade_day ∷ settlement_day ∷ reference ∷ operation ∷ original ∷ edition ∷ spare ∷ []

-- The fields' widths in bits, by place: 40 bytes.
unfoldable pub widths : List ℕ
widths = 5 ∷ 11 ∷ 14 ∷ 2 ∷ 10 ∷ 8 ∷ 10 ∷ 8 ∷ 30 ∷ 30 ∷ 40 ∷ 40 ∷ 16 ∷ 16 ∷ 32 ∷ 3 ∷ 32 ∷ 1 ∷ 12 ∷ []

-- The most that a field can be: what its width holds, but a minute, a member and a currency are less.
unfoldable pub ceiling : ℕ → ℕ
ceiling place =
    if place is minute then 1439
    else if place one_of (debited_member ∷ credited_member ∷ []) then 64
    else if place is currency then 2
    else 2 ^ get_or widths place 0 - 1

-- What a form says of a field that it uses: from its least to its most. A field of which it says nothing is unused, and then 0.
pub record Rule : Type 0 where
  pub place : ℕ
  pub least : ℕ
  pub most : ℕ

-- used and at least 1; used, and may be 0; at least 1, and at most less than the place allows
abbrev pub from1 : ℕ → Rule
from1 place = record { place = place; least = 1; most = ceiling place }

abbrev pub from0 : ℕ → Rule
from0 place = record { place = place; least = 0; most = ceiling place }

abbrev pub from1_to : ℕ → ℕ → Rule
from1_to most place = record { place = place; least = 1; most = most }

-- what every form uses
abbrev pub always : List Rule
always = from1 form ∷ from0 minute ∷ []

-- the debited member, type, shareholder; the credited ones
abbrev pub D : List ℕ
D = debited_member ∷ debited_type ∷ debited_shareholder ∷ []

abbrev pub C : List ℕ
C = credited_member ∷ credited_type ∷ credited_shareholder ∷ []

-- all fields of an instruction, and all but one
abbrev pub all : List ℕ
all = security ∷ currency ∷ D ++ C ++ (quantity ∷ amount ∷ trade_day ∷ settlement_day ∷ reference ∷ [])

abbrev pub all_but : ℕ → List ℕ
all_but place = keep (λ other. other is_not place) all

-- the rule for a place among such rules, and from 1 where there is none
abbrev pub rule_in : List Rule → ℕ → Rule
rule_in [] place = from1 place
rule_in (rule ∷ rest) place = let later = rule_in rest place in if place is rule.place then rule else later
