-- `rows::reading::posting_in` meets its contract: field by field. Assumes nothing.
use borrow.Author.Rules.{rules}
use Rattle.rulebook.specs.Rows.{posting_widths, posting_in}
use Rattle.rows.proofs.reading.posting_in.Statement.{statement}
use Rattle.rows.proofs.reading.posting_in.Tie as tie

returns : tie.Need-returns
unfolding posting_in posting_widths
returns c = λ i. record {
  credit = c.before.before.before.before.before.before.get_bits.ensures i;
  cash = c.before.before.before.before.before.get_bits-2.ensures i;
  what = c.before.before.before.before.get_bits-3.ensures i;
  member = c.before.before.before.get_bits-4.ensures i;
  typ = c.before.before.get_bits-5.ensures i;
  shareholder = c.before.get_bits-6.ensures i;
  number = c.get_bits-7.ensures i;
}

pub posting_in_spec : {M : Type 1} → statement M
posting_in_spec =
    tie.close
    (tie.spec
    (λ c κs. search rules) (λ c κs. search rules) (λ c κs. search rules) (λ c κs. search rules)
    (λ c κs. search rules) (λ c κs. search rules) (λ c κs. search rules) returns)
