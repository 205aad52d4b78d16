-- `legs::cash_leg` meets its contract: an item that is read can be booked. Assumes nothing.
use Rattle.std.proofs.Common.{ℕ, ◌<◌, ◌≡◌, length, sym, subst}
use Rattle.rulebook.specs.Ledger.{Ledger}
use Rattle.rulebook.specs.declared.Item.{Item}
use Rattle.book.specs.Meaning.{ledger_of}
use Rattle.marks.specs.Marks.{no_item, item_in}
use Rattle.legs.specs.Ready.{Bookable, Ready}
use Rattle.legs.proofs.cash_leg.Goals as goal

bookable : (b : Ledger) → Ready b → (i : ℕ) → i < length b.waiting → (t : Item) → t ≡ item_in b.waiting i → Bookable t
bookable b r i low t e = subst Bookable (sym e) (r.bookable i low)

pub cash_key-from-requires : goal.cash_key-from-requires
cash_key-from-requires c =
    let f = bookable (ledger_of c.args.book.now) c.requires.1 c.args.i c.requires.2 _ (c.item_at-trade.ensures no_item) in
    (f.pays.member_most, f.pays.currency_most)

pub cash_key-to-requires : goal.cash_key-to-requires
cash_key-to-requires c =
    let f = bookable (ledger_of c.args.book.now) c.requires.1 c.args.i c.requires.2 _ (c.item_at-trade.ensures no_item) in
    (f.paid.member_most, f.paid.currency_most)

pub cash-cash-requires : goal.cash-cash-requires
cash-cash-requires c =
    let f = bookable (ledger_of c.args.book.now) c.requires.1 c.args.i c.requires.2 _ (c.item_at-trade.ensures no_item) in (c.requires.0, f.pays)
