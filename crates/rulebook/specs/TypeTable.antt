-- The table of account types (RULES 5.1): one row says all that the rules know of a type.
use Rattle.std.specs.Prelude.{if◌then◌else◌, ℕ, Bool, true, false, List, [], ◌∷◌}
use Prim.Native.String.{String}
use Rattle.plain.specs.Lists.{◌is◌}

-- the state of a type's shares; a type that is unused is allowed nowhere
abbrev pub unused : ℕ
unused = 0

abbrev pub free : ℕ
free = 1

abbrev pub pledged : ℕ
pledged = 2

abbrev pub blocked : ℕ
blocked = 3

abbrev pub in_transit : ℕ
in_transit = 4

abbrev pub outside : ℕ
outside = 5

-- how shares of a type become shares of another
abbrev pub pledged_as : ℕ
pledged_as = 1

abbrev pub blocked_as : ℕ
blocked_as = 2

abbrev pub on_paper_as : ℕ
on_paper_as = 3

-- what the table says of a type
pub record TypeRow : Type 0 where
  pub name : String
  pub physical : Bool
  pub state : ℕ
  -- how, and the other type: each such pair stands once, in the row of the type that the shares are free in
  pub pairs : List (ℕ × ℕ)

abbrev row : (typ : ℕ) → (name : String) → (physical : Bool) → (state : ℕ) → List (ℕ × ℕ) → ℕ × TypeRow
row typ name physical state pairs = (typ, record { name = name; physical = physical; state = state; pairs = pairs })

abbrev book_entry : Bool
book_entry = false

abbrev physical : Bool
physical = true

-- RULES 5.9: the type of shares for which paper is requested, until the request ends
abbrev pub requested : ℕ
requested = 50

-- The rows: number, name, nature, state, and what shares of the type become.
unfoldable pub type_table : List (ℕ × TypeRow)
type_table =
    row 10 "own" book_entry free ((pledged_as, 11) ∷ (blocked_as, 12) ∷ (on_paper_as, 110) ∷ [])
    ∷ row 11 "own pledged" book_entry pledged []
    ∷ row 12 "own blocked" book_entry blocked []
    ∷ row 20 "clients'" book_entry free ((pledged_as, 21) ∷ (blocked_as, 22) ∷ (on_paper_as, 120) ∷ [])
    ∷ row 21 "clients' pledged" book_entry pledged []
    ∷ row 22 "clients' blocked" book_entry blocked []
    ∷ row requested "paper requested" book_entry in_transit []
    ∷ row 91 "outside" book_entry outside []
    -- RULES 5.7: a member's own physical holdings are never pledged
    ∷ row 110 "own physical" physical free ((blocked_as, 112) ∷ [])
    ∷ row 112 "own physical blocked" physical blocked []
    ∷ row 120 "clients' physical" physical free ((pledged_as, 121) ∷ (blocked_as, 122) ∷ [])
    ∷ row 121 "clients' physical pledged" physical pledged []
    ∷ row 122 "clients' physical blocked" physical blocked []
    ∷ []

-- the row of every other type
abbrev pub empty_row : TypeRow
empty_row = record { name = ""; physical = false; state = unused; pairs = [] }

abbrev pub row_in : List (ℕ × TypeRow) → ℕ → TypeRow
row_in [] typ = empty_row
row_in (row ∷ rest) typ = let later = row_in rest typ in if typ is row.0 then row.1 else later

-- the row of a type: every number has one
unfoldable pub type_row : ℕ → TypeRow
type_row typ = row_in type_table typ
