-- `book_holdings::credit_cash` meets its contract. Assumes nothing.
use mathlib.Core.Path.{◌∙◌}
use native.Mathlib.Omega.{arith}
use borrow.Author.Rules.{rules}
use Rattle.book.specs.Meaning.{CASH, holdings_of}
use Rattle.book.proofs.Parts.{part-long, cash_step}
use Rattle.book_holdings.proofs.credit_cash.Statement.{statement}
use Rattle.book_holdings.proofs.credit_cash.Tie as tie

credit-requires : tie.Need-credit-requires
unfolding holdings_of
credit-requires c κs = let s = c.before.before in (part-long CASH (omega arith) s.args.book.now s.requires.0, s.requires.1, s.requires.2)

returns : tie.Need-returns
unfolding holdings_of
returns c =
    let s = c.before.before.before.before.before in
    let wide = c.before.before.credit.auto.cash ∙ part-long CASH (omega arith) s.args.book.now s.requires.0 in
    cash_step s.args.book.now s.requires.0 _ _ wide (c.before.before.credit.ensures (holdings_of s.args.book.now))

pub credit_cash_spec : {M : Type 1} → statement M
credit_cash_spec = tie.close (tie.spec (λ c. search rules) (λ c. search rules) (λ c. search rules) credit-requires (λ c. search rules) returns)
