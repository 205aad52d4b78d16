-- `book_holdings::cash_total` meets its contract. Assumes nothing.
use native.Mathlib.Omega.{arith}
use borrow.Author.Rules.{rules}
use Rattle.rulebook.specs.Ledger.{cash_total}
use Rattle.cash.specs.Amounts.{total_in}
use Rattle.book.specs.Meaning.{CASH, holdings_of}
use Rattle.book.proofs.Parts.{part-long}
use Rattle.book_holdings.proofs.cash_total.Statement.{statement}
use Rattle.book_holdings.proofs.cash_total.Tie as tie

total-requires : tie.Need-total-requires
unfolding holdings_of cash_total total_in
total-requires c κs = let s = c.before.before in (part-long CASH (omega arith) s.args.book.now s.requires.0, s.requires.1, s.requires.2, s.requires.3)

returns : tie.Need-returns
unfolding holdings_of cash_total total_in
returns c = c.total.ensures

pub cash_total_spec : {M : Type 1} → statement M
cash_total_spec = tie.close (tie.spec (λ c. search rules) (λ c. search rules) (λ c. search rules) total-requires returns)
