-- `booking::shift` meets its contract. Assumes nothing.
use borrow.Author.Rules.{rules}
use Rattle.book.specs.Meaning.{ledger_of}
use Rattle.booking.proofs.Room.{swap, credit-fits}
use Rattle.booking.proofs.Moved.{shifted}
use Rattle.booking.proofs.shift.Statement.{statement}
use Rattle.booking.proofs.shift.Tie as tie

abbrev start : tie.After-debit → tie.Start
start c = c.before.before.before.before

abbrev debited : tie.After-credit → tie.After-debit
debited c = c.before.before.before.before

abbrev credited : tie.After-write_shares-arg-1 → tie.After-credit
credited c = c.before.before.before

debit-requires : tie.Need-debit-requires
debit-requires c κs = let s = c.before.before.before in (s.requires.0, s.requires.2.some, s.requires.2.enough)

credit-requires : tie.Need-credit-requires
credit-requires c κs =
    let debited = c.before.before.before in
    let s = start debited in
    (debited.debit.ensures.stored, credit-fits _ s.requires.0 _ _ _ s.requires.2 debited.debit.ensures.ledger)

write-shares-requires : tie.Need-write_shares-requires
write-shares-requires c κs = let s = start (debited (credited c)) in (s.requires.1, s.requires.2.from_named, s.requires.2.to_named)

returns : tie.Need-returns
returns c =
    let wrote = c.before.before.before in
    let credited = credited wrote.before in
    let debited = debited credited in
    let s = start debited in
    shifted (ledger_of s.args.book.now) c.two_rows.ensures s.args.from s.args.to s.args.quantity.0
    (swap _ s.requires.0 _ _ _ s.requires.2) debited.debit.ensures credited.credit.ensures wrote.write_shares.ensures

pub shift_spec : {M : Type 1} → statement M
shift_spec =
    tie.close
    (tie.spec debit-requires credit-requires write-shares-requires (λ c κs. search rules) (λ c. search rules) (λ c. search rules) returns)
