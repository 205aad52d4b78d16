-- `booking::leave` meets its contract. Assumes nothing.
use mathlib.Core.Path.{sym, subst}
use native.Mathlib.Omega.{arith}
use borrow.Author.Rules.{rules}
use Rattle.rulebook.specs.Movements.{account, type91, debit}
use Rattle.rulebook.specs.Rows.{posting_rows, posting_of}
use Rattle.rulebook.specs.Ranges.{AccountInRange}
use Rattle.book.specs.Meaning.{ledger_of}
use Rattle.book.specs.Stored.{left}
use Rattle.booking.proofs.Moved.{balance_kept, either_order, stepwise, outside-row}
use Rattle.booking.proofs.leave.Statement.{statement}
use Rattle.booking.proofs.leave.Tie as tie

abbrev outside : tie.After-leave_custody → tie.After-outside_account-outside
outside c = c.before.before

abbrev start : tie.After-outside_account-outside → tie.Start
start c = c.before.before.before

abbrev gone : tie.After-debit → tie.After-leave_custody
gone c = c.before.before.before.before

abbrev debited : tie.After-write_shares-arg-1 → tie.After-debit
debited c = c.before.before.before

leave-custody-requires : tie.Need-leave_custody-requires
leave-custody-requires c κs = let s = start c.before in (s.requires.0, s.requires.2.word, s.requires.2.held)

debit-requires : tie.Need-debit-requires
debit-requires c κs =
    let credited = c.before.before.before in
    let s = start (outside credited) in
    let same = balance_kept (ledger_of s.args.book.now) _ s.args.from.security _ s.args.from credited.leave_custody.ensures in
    (credited.leave_custody.ensures.stored, s.requires.2.some, rw same s.requires.2.enough)

write-shares-requires : tie.Need-write_shares-requires
write-shares-requires c κs =
    let out = outside (gone (debited c)) in
    let s = start out in (
      s.requires.1,
      s.requires.2.named,
      subst AccountInRange (sym out.outside_account-outside.ensures) (outside-row 91 _ (omega arith) s.requires.2.named.security),
    )

returns : tie.Need-returns
unfolding posting_rows posting_of
returns c =
    let wrote = c.before.before.before in
    let debited = debited wrote.before in
    let credited = gone debited in
    let out = outside credited in
    let s = start out in
    let from = s.args.from in
    let q = s.args.quantity.0 in
    stepwise (ledger_of s.args.book.now) c.two_rows.ensures (account from) (type91 from.security) q
    (left from.security q) (debit (account from) q) (either_order _ from from.security q)
    credited.leave_custody.ensures debited.debit.ensures (rw out.outside_account-outside.ensures at wrote.write_shares.ensures)

pub leave_spec : {M : Type 1} → statement M
leave_spec =
    tie.close
    (tie.spec (λ c κs. search rules) leave-custody-requires debit-requires write-shares-requires (λ c κs. search rules) (λ c. search rules) (λ c. search rules)
    returns)
