-- `book_holdings::credit` meets its contract. Assumes nothing.
use borrow.Author.Rules.{rules}
use Rattle.book.specs.Meaning.{holdings_of}
use Rattle.book.proofs.Parts.{accounts_step}
use Rattle.book_holdings.proofs.credit.Statement.{statement}
use Rattle.book_holdings.proofs.credit.Tie as tie

credit-requires : tie.Need-credit-requires
unfolding holdings_of
credit-requires c κs = let s = c.before.before in (s.requires.0.parts.accounts, s.requires.1)

returns : tie.Need-returns
unfolding holdings_of
returns c =
    let s = c.before.before.before.before.before in
    let e = c.before.before.credit.ensures in
    accounts_step s.args.book.now s.requires.0 _ _ e.0 (e.1 (holdings_of s.args.book.now))

pub credit_spec : {M : Type 1} → statement M
credit_spec = tie.close (tie.spec (λ c. search rules) (λ c. search rules) (λ c. search rules) credit-requires (λ c. search rules) returns)
