-- `book_holdings::debit` meets its contract. Assumes nothing.
use borrow.Author.Rules.{rules}
use Rattle.book.specs.Meaning.{holdings_of}
use Rattle.book.proofs.Parts.{accounts_step}
use Rattle.book_holdings.proofs.debit.Statement.{statement}
use Rattle.book_holdings.proofs.debit.Tie as tie

debit-requires : tie.Need-debit-requires
unfolding holdings_of
debit-requires c κs = let s = c.before.before in (s.requires.0.parts.accounts, s.requires.1, s.requires.2)

returns : tie.Need-returns
unfolding holdings_of
returns c =
    let s = c.before.before.before.before.before in
    let e = c.before.before.debit.ensures in
    accounts_step s.args.book.now s.requires.0 _ _ e.0 (e.1 (holdings_of s.args.book.now))

pub debit_spec : {M : Type 1} → statement M
debit_spec = tie.close (tie.spec (λ c. search rules) (λ c. search rules) (λ c. search rules) debit-requires (λ c. search rules) returns)
