-- `rows::reading::notice_in` meets its contract: field by field. Assumes nothing.
use borrow.Author.Rules.{rules}
use Rattle.rulebook.specs.Rows.{notice_widths, notice_in}
use Rattle.rows.proofs.reading.notice_in.Statement.{statement}
use Rattle.rows.proofs.reading.notice_in.Tie as tie

returns : tie.Need-returns
unfolding notice_in notice_widths
returns c = λ i. record {
  kind = c.before.before.before.before.get_bits.ensures i;
  deliverer = c.before.before.before.get_bits-2.ensures i;
  receiver = c.before.before.get_bits-3.ensures i;
  deliver_reference = c.before.get_bits-4.ensures i;
  receive_reference = c.get_bits-5.ensures i;
}

pub notice_in_spec : {M : Type 1} → statement M
notice_in_spec =
    tie.close
    (tie.spec (λ c κs. search rules) (λ c κs. search rules) (λ c κs. search rules) (λ c κs. search rules) (λ c κs. search rules) returns)
