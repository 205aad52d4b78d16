-- `movements::admit` meets its contract. Assumes nothing.
use Prim.Native.Nat.{◌<◌}
use mathlib.Core.Path.{◌≡◌, sym, subst}
use mathlib.Core.Bool.{false}
use native.Mathlib.Omega.{arith}
use borrow.Author.Rules.{rules}
use lib.ListN.{length}
use Rattle.rulebook.specs.Ledger.{admitted}
use Rattle.rulebook.specs.Ranges.{AccountInRange}
use Rattle.book.specs.Meaning.{ledger_of}
use Rattle.checking.proofs.Orders.{fits}
use Rattle.movements.proofs.Known.{new_security_lem}
use Rattle.booking.proofs.Moved.{outside-row}
use Rattle.movements.proofs.Moved.{did_admit}
use Rattle.movements.proofs.admit.Statement.{statement}
use Rattle.movements.proofs.admit.Tie as tie

abbrev start : tie.After-admit → tie.Start
start c = c.before.before.before.before.before

abbrev booked : tie.After-issued_account-issued → tie.After-admit
booked c = c.before.before.before

new :
    (s : tie.Start) → let h = (ledger_of s.args.book.now).holdings in (length h.securities < 32) × (admitted s.args.order.security h ≡ false)
new s = new_security_lem _ _ s.requires.0.given s.requires.1

admit-requires : tie.Need-admit-requires
admit-requires c κs = let s = c.before.before.before in (s.requires.0.given.kept.stored, (new s.before).0, (new s.before).1)

write-shares-requires : tie.Need-write_shares-requires
write-shares-requires c κs =
    let issued = c.before.before in
    let s = start (booked issued.before) in
    let f = (fits _ s.requires.0.given.read).security in (
      omega (arith, s.requires.0.room),
      subst AccountInRange (sym issued.issued_account-issued.ensures) (outside-row 90 _ (omega arith) f),
      subst AccountInRange (sym c.before.outside_account-outside.ensures) (outside-row 91 _ (omega arith) f),
    )

returns : tie.Need-returns
returns c =
    let wrote = c.before.before.before in
    let outside = wrote.before.before in
    let booked = booked outside.before.before in
    did_admit _ _ c.two_rows.ensures (new (start booked)).1 booked.admit.ensures
    outside.before.issued_account-issued.ensures outside.outside_account-outside.ensures wrote.write_shares.ensures

pub admit_spec : {M : Type 1} → statement M
admit_spec =
    tie.close
    (tie.spec
    admit-requires
    (λ c κs. search rules)
    (λ c κs. search rules)
    write-shares-requires
    (λ c κs. search rules)
    (λ c. search rules)
    (λ c. search rules)
    returns)
