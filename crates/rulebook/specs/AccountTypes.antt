-- What the rules ask of account types. Every answer comes from the table of types (RULES 5).
use Rattle.std.specs.Prelude.{ℕ, Bool, not, ◌||◌, ◌&&◌, List, [], ◌∷◌}
use Rattle.std.specs.Bool.{beq}
use Rattle.plain.specs.Lists.{◌is◌, ◌one_of◌, some}
use Rattle.rulebook.specs.TypeTable.{free, pledged, blocked, in_transit, outside, pledged_as, blocked_as, on_paper_as, type_table, type_row}

abbrev pub state_of : ℕ → ℕ
state_of typ = (type_row typ).state

-- RULES 5.2
unfoldable pub is_free : ℕ → Bool
is_free typ = state_of typ is free

-- RULES 5.3: free types of one nature
unfoldable pub alike : ℕ → ℕ → Bool
alike a b = is_free a && is_free b && beq (type_row a).physical (type_row b).physical

-- RULES 5.4
unfoldable pub pledged_or_blocked : ℕ → Bool
pledged_or_blocked typ = state_of typ one_of (pledged ∷ blocked ∷ [])

-- RULES 5.8: of no account, but shares may leave to it
unfoldable pub is_outside : ℕ → Bool
is_outside typ = state_of typ is outside

-- RULES 5.1: the types that accounts have
abbrev pub account_states : List ℕ
account_states = free ∷ pledged ∷ blocked ∷ in_transit ∷ []

unfoldable pub account_type : ℕ → Bool
account_type typ = state_of typ one_of account_states

-- two numbers are a pair of the list
unfoldable pub listed : List (ℕ × ℕ) → ℕ → ℕ → Bool
listed pairs a b = some (λ pair. a is pair.0 && b is pair.1) pairs

-- RULES 5.5: shares of a type become, in some way, shares of another
unfoldable pub become : (how from to : ℕ) → Bool
become how from to = listed (type_row from).pairs how to

-- RULES 5.5: shares of the type can become paper, and a type that some shares have as paper
unfoldable pub has_paper : ℕ → Bool
has_paper typ = some (λ pair. on_paper_as is pair.0) (type_row typ).pairs

unfoldable pub is_paper : ℕ → Bool
is_paper typ = some (λ row. listed row.1.pairs on_paper_as typ) type_table

-- RULES 5.10: a credited type ends a request for shares of a type: its paper's, or the one for shares that leave
unfoldable pub ends : (came credited : ℕ) → Bool
ends came credited = is_outside credited || become on_paper_as came credited

-- RULES 5.5, 5.6: the types that an order names are not those of its form. A release and an unblock go the other way
unfoldable pub wrong_types : ℕ → ℕ → ℕ → Bool
wrong_types form debited credited =
    (form one_of (3 ∷ 13 ∷ []) && not (is_free credited))
    || (form one_of (4 ∷ 12 ∷ []) && not (is_free debited))
    || (form one_of (5 ∷ 14 ∷ []) && not (alike debited credited))
    || (form is 6 && not (become pledged_as debited credited))
    || (form is 7 && not (become pledged_as credited debited))
    || (form is 8 && not (become blocked_as debited credited))
    || (form is 9 && not (become blocked_as credited debited))
    || (form is 19 && not (has_paper debited))
    || (form is 20 && not (is_outside credited || is_paper credited))
