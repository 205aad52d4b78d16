-- RULES 18: what a handover sheet lists, in order. The book's maps have no order of their own, so the lists go over all that a record's fields can name.
use Rattle.std.specs.Prelude.{if◌then◌else◌, ℕ, ◌+◌, ◌^◌, Bool, ◌&&◌, List, [], ◌∷◌}
use Rattle.plain.specs.Lists.{◌is_not◌, ◌one_of◌}
use Rattle.rulebook.specs.AccountTypes.{state_of}
use Rattle.rulebook.specs.Ledger.{Holdings, Requests}
use Rattle.rulebook.specs.TypeTable.{pledged, blocked, in_transit}
use Rattle.rulebook.specs.declared.Account.{Account}
use Rattle.listing.specs.InOrder.{each_below}

-- an element where a test says so, and else nothing
abbrev pub if_so : {A : Type 0} → Bool → A → List A
if_so test x = if test then x ∷ [] else []

-- the shares of a type are pledged, blocked or in transit
unfoldable pub held_back : (typ : ℕ) → Bool
held_back typ = state_of typ one_of (pledged ∷ blocked ∷ in_transit ∷ [])

unfoldable pub is_listed : Holdings → Account → Bool
is_listed h account = held_back account.typ && h.balance account is_not 0

-- the accounts whose shares are held back, by security, member, type and shareholder
unfoldable pub accounts_listed : Holdings → List Account
accounts_listed h =
    each_below (2 ^ 14) λ security. each_below (2 ^ 10) λ member. each_below (2 ^ 8) λ typ. each_below (2 ^ 30) λ shareholder.
    let account : Account = record { security = security; member = member; typ = typ; shareholder = shareholder } in
    if_so (is_listed h account) account

-- a member's cash in a currency is not 0, and a member's request under a reference is open
abbrev pub has_cash : Holdings → (member_and_currency : ℕ × ℕ) → Bool
has_cash h who = h.cash who.0 who.1 is_not 0

abbrev pub has_open : Requests → (member_and_reference : ℕ × ℕ) → Bool
has_open r who = (r.asked who.0 who.1).quantity.0 is_not 0

-- the members' cash that is not 0, by member and currency
unfoldable pub cash_listed : Holdings → List (ℕ × ℕ)
cash_listed h =
    each_below 64 λ m. each_below 2 λ c.
    if_so (has_cash h (m + 1, c + 1)) (m + 1, c + 1)

-- the open requests, by member and reference
unfoldable pub requests_listed : Requests → List (ℕ × ℕ)
requests_listed r =
    each_below (2 ^ 10) λ member. each_below (2 ^ 32) λ reference.
    if_so (has_open r (member, reference)) (member, reference)
