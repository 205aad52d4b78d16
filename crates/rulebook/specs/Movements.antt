-- Movements of shares and cash, which change the holdings and are written as posting rows (RULES 6.0, 11.4).
use Rattle.std.specs.Prelude.{ℕ, ◌+◌, ◌-◌, List, [], ◌∷◌}
use Rattle.rulebook.specs.Ledger.{Holdings, put_balance, put_cash, put_outside, put_held, outside_of, held_of}
use Rattle.rulebook.specs.declared.Account.{Account}

-- RULES 11.5 to 11.7: between what shares and cash move
pub data Place : Type 0 where
  -- a member's account
  account : Account → Place
  -- type 91 of a security, its outside count, and type 90, its issued count
  type91 : (security : ℕ) → Place
  type90 : (security : ℕ) → Place
  -- a member's cash in a currency, and member 0, who stands for cash that is not in the book
  cash_of : (member currency : ℕ) → Place
  member0 : (currency : ℕ) → Place

pub record Movement : Type 0 where
  pub from : Place
  pub to : Place
  pub number : ℕ

abbrev pub move : Place → Place → ℕ → Movement
move from to number = record { from = from; to = to; number = number }

-- what the book has at a place: nothing where it keeps none
abbrev pub book_has : Place → Holdings → ℕ
book_has (account a) h = h.balance a
book_has (type91 security) h = outside_of security h
book_has (type90 security) h = 0
book_has (cash_of member currency) h = h.cash member currency
book_has (member0 currency) h = 0

-- the holdings with that much at a place: no change where the book keeps none
abbrev pub put_at : Place → ℕ → Holdings → Holdings
put_at (account a) n h = put_balance a n h
put_at (type91 security) n h = put_outside security n h
put_at (type90 security) n h = h
put_at (cash_of member currency) n h = put_cash member currency n h
put_at (member0 currency) n h = h

unfoldable pub credit : Place → ℕ → Holdings → Holdings
credit place n h = put_at place (book_has place h + n) h

unfoldable pub debit : Place → ℕ → Holdings → Holdings
debit place n h = put_at place (book_has place h - n) h

unfoldable pub credits : List Movement → Holdings → Holdings
credits [] h = h
credits (m ∷ rest) h = credits rest (credit m.to m.number h)

unfoldable pub debits : List Movement → Holdings → Holdings
debits [] h = h
debits (m ∷ rest) h = debits rest (debit m.from m.number h)

-- more of a security is held, and less
abbrev pub add_held : (security n : ℕ) → Holdings → Holdings
add_held security n h = put_held security (held_of security h + n) h

abbrev pub take_held : (security n : ℕ) → Holdings → Holdings
take_held security n h = put_held security (held_of security h - n) h

-- RULES 3.19: the held counts after a movement from an account: what goes to type 91 is not held any more
abbrev pub leaving : (to : Place) → ℕ → Holdings → Holdings
leaving (account a) n h = h
leaving (type91 security) n h = take_held security n h
leaving (type90 security) n h = h
leaving (cash_of member currency) n h = h
leaving (member0 currency) n h = h

-- and after any: what comes from type 91 is held from then on; an issue from type 90 is outside, and cash is not counted
abbrev pub recount : (from to : Place) → ℕ → Holdings → Holdings
recount (account a) to n h = leaving to n h
recount (type91 security) to n h = add_held security n h
recount (type90 security) to n h = h
recount (cash_of member currency) to n h = h
recount (member0 currency) to n h = h

unfoldable pub recounted : List Movement → Holdings → Holdings
recounted [] h = h
recounted (m ∷ rest) h = recounted rest (recount m.from m.to m.number h)

-- RULES 9.9: movements booked together, all credits and then all debits, so that what one brings another may take; then held counts
unfoldable pub booked : List Movement → Holdings → Holdings
booked movements h = recounted movements (debits movements (credits movements h))
