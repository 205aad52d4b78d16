-- A book that has room for a movement between two accounts still has it once the first is debited; debited first, it is the same book. Assumes nothing.
use Prim.Native.Nat.{ℕ, ◌+◌, ◌-◌, ◌≤◌, ◌<◌}
use mathlib.Core.Path.{◌≡◌, refl, ap, ◌∙◌}
use mathlib.Core.Bool.{Bool, true, false, ◌&&◌}
use mathlib.Core.List.{List}
use native.Mathlib.Omega.{arith}
use lib.ListN.{length}
use borrow.Author.Tests.{ltb-false, eq-eqb, eqb-true}
use Rattle.plain.proofs.Tests.{not-second}
use Rattle.plain.specs.Lists.{◌is◌, ◌is_not◌, ◌below◌}
use Rattle.rulebook.specs.Ledger.{Ledger, Holdings, same_account, counted, put_balance, put_holdings}
use Rattle.rulebook.specs.Movements.{account, credit, debit}
use Rattle.rulebook.specs.declared.Account.{Account}
use Rattle.rulebook.proofs.Sizes.{counted-some, counted-most, counted_none}
use Rattle.rulebook.proofs.Space.{same_sym}
use Rattle.accounts.specs.Map.{CreditFits}
use Rattle.book.specs.Meaning.{ledger_of}
use Rattle.book.specs.Stored.{Stored}
use Rattle.book.proofs.Parts.{stored_counted}
use Rattle.booking.specs.Fits.{ShiftFits}
use Rattle.booking.proofs.Swap.{counted-among, debit-first}

module _ (book : List ℕ) (stored : Stored book) (from to : Account) (q : ℕ) (f : ShiftFits (ledger_of book) from to q) where
  abbrev b : Ledger
  b = ledger_of book

  listed : 1 ≤ b.holdings.accounts
  listed =
      let some = counted-some (b.holdings.balance from) (omega (arith, f.enough, f.some)) in
      omega (arith, stored_counted book stored, counted-among b.holdings from f.from_named, some)

  apart : same_account from to ≡ false
  apart = same_sym from to ∙ f.apart

  pub swap : credit (account to) q (debit (account from) q b.holdings) ≡ debit (account from) q (credit (account to) q b.holdings)
  swap = debit-first b.holdings from to q f.some f.enough f.apart apart listed

  abbrev opens : Bool
  opens = b.holdings.balance to is 0 && b.holdings.balance from is_not q

  abbrev room : ℕ
  room = b.holdings.accounts + length b.waiting

  abbrev debited : Holdings
  debited = debit (account from) q b.holdings

  debited_fits : CreditFits to (debited.balance to) debited.accounts q
  unfolding debit put_balance
  debited_fits = rw apart (record { named = f.to_named; some = f.some; word = f.word; room = λ z. left (b.holdings.balance from is q) refl (eq-eqb _ 0 z) })
    where
      -- the debited account is emptied, or there is room
      left :
          (same : Bool) → (b.holdings.balance from is q) ≡ same → (b.holdings.balance to is 0) ≡ true
          → b.holdings.accounts + counted (b.holdings.balance from - q) - counted (b.holdings.balance from) < 256
      left true e z =
          let gone : b.holdings.balance from - q ≡ 0 = omega (arith, eqb-true (b.holdings.balance from) q e) in
          let some = counted-some (b.holdings.balance from) (omega (arith, f.enough, f.some)) in
          omega (arith, ap counted gone ∙ counted_none, some, listed, f.size)
      left false e z =
          let some = counted-some (b.holdings.balance from) (omega (arith, f.enough, f.some)) in
          let space = ltb-false 255 room (not-second opens (255 below room) f.room (rw (z, e))) in
          omega (arith, space, counted-most (b.holdings.balance from - q), some)

  -- once the debited account is debited
  pub credit-fits :
      {now : Ledger} → now ≡ put_holdings (debit (account from) q b.holdings) b → CreditFits to (now.holdings.balance to) now.holdings.accounts q
  unfolding put_holdings
  credit-fits n = rw n debited_fits
