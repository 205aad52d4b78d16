-- `legs::share_leg` meets its contract: the accounts of an item that is read are in range. Assumes nothing.
use Rattle.std.proofs.Common.{ℕ, ◌<◌, ◌≡◌, length}
use Rattle.rulebook.specs.Shortfall.{seller, buyer}
use Rattle.rulebook.specs.Ledger.{Ledger}
use Rattle.rulebook.specs.Ranges.{AccountInRange}
use Rattle.rulebook.specs.declared.Account.{Account}
use Rattle.rulebook.specs.declared.Item.{Item}
use Rattle.book.specs.Meaning.{ledger_of}
use Rattle.marks.specs.Marks.{no_item, item_in}
use Rattle.legs.specs.Ready.{Ready}
use Rattle.legs.proofs.share_leg.Goals as goal

module _ (b : Ledger) (r : Ready b) (i : ℕ) (low : i < length b.waiting) (t : Item) (e : t ≡ item_in b.waiting i) (a : Account) where
  sells : a ≡ seller t → AccountInRange a
  sells f = rw (f, e) (r.bookable i low).sells

  buys : a ≡ buyer t → AccountInRange a
  buys f = rw (f, e) (r.bookable i low).buys

pub key_of-from-requires : goal.key_of-from-requires
key_of-from-requires c =
    sells (ledger_of c.args.book.now) c.requires.1 c.args.i c.requires.2 _ (c.item_at-trade.ensures no_item) _ c.seller_of-seller.ensures

pub key_of-to-requires : goal.key_of-to-requires
key_of-to-requires c = buys (ledger_of c.args.book.now) c.requires.1 c.args.i c.requires.2 _ (c.item_at-trade.ensures no_item) _ c.buyer_of.ensures

pub balance-balance-requires : goal.balance-balance-requires
balance-balance-requires c = (
  c.requires.0,
  sells (ledger_of c.args.book.now) c.requires.1 c.args.i c.requires.2 _ (c.item_at-trade.ensures no_item) _ c.seller_of-seller.ensures,
)
