-- `book_holdings::securities` meets its contract. Assumes nothing.
use mathlib.Core.Path.{sym, ◌∙◌}
use borrow.Author.Rules.{rules}
use Rattle.securities.proofs.StoredSecurities.{how_many}
use Rattle.book.specs.Meaning.{SECURITIES, part, holdings_of}
use Rattle.book_holdings.proofs.securities.Statement.{statement}
use Rattle.book_holdings.proofs.securities.Tie as tie

returns : tie.Need-returns
unfolding holdings_of
returns c = c.rows.ensures ∙ sym (how_many (part SECURITIES c.before.before.before.args.book.now))

pub securities_spec : {M : Type 1} → statement M
securities_spec = tie.close (tie.spec (λ c. search rules) (λ c. search rules) (λ c. search rules) (λ c κs. search rules) returns)
