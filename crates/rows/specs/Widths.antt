-- What fits a row: the bounds under which a row can be written.
use Rattle.std.specs.Prelude.{ℕ, ◌^◌, ◌<◌, [], ◌∷◌}
use Rattle.bits.specs.Layout.{Fit}
use Rattle.rulebook.specs.Shortfall.{seller, buyer}
use Rattle.rulebook.specs.Rows.{posting_widths, notice_widths}
use Rattle.rulebook.specs.declared.Item.{Item}
use Rattle.rulebook.specs.declared.Posting.{Posting}
use Rattle.rulebook.specs.declared.Notice.{Notice}
use Rattle.rulebook.specs.Ranges.{AccountInRange}

-- each field of a posting row fits its width
abbrev pub PostingFits : Posting → Type 0
PostingFits p = Fit posting_widths (p.credit ∷ p.cash ∷ p.what ∷ p.member ∷ p.typ ∷ p.shareholder ∷ p.number ∷ [])

-- each field of a notice fits its width
abbrev pub NoticeFits : Notice → Type 0
NoticeFits n = Fit notice_widths (n.kind ∷ n.deliverer ∷ n.receiver ∷ n.deliver_reference ∷ n.receive_reference ∷ 0 ∷ [])

-- a member's cash that a posting row can name
pub record CashInRange (member currency : ℕ) : Type 0 where
  pub member_fits : member < 2 ^ 10
  pub currency_fits : currency < 2 ^ 14

-- a trade whose four rows can be written
pub record TradeInRange (trade : Item) : Type 0 where
  pub debited : AccountInRange (seller trade)
  pub credited : AccountInRange (buyer trade)
  pub currency : trade.currency < 2 ^ 14
