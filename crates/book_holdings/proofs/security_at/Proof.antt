-- `book_holdings::security_at` meets its contract. Assumes nothing.
use native.Mathlib.Omega.{arith}
use borrow.Author.Rules.{rules}
use Rattle.securities.proofs.StoredSecurities.{how_many}
use Rattle.book.specs.Meaning.{SECURITIES, part, holdings_of}
use Rattle.book_holdings.proofs.security_at.Statement.{statement}
use Rattle.book_holdings.proofs.security_at.Tie as tie

security-at-requires : tie.Need-security_at-requires
unfolding holdings_of
security-at-requires c κs =
    let s = c.before.before in (s.requires.0.parts.securities, omega (arith, how_many (part SECURITIES s.args.book.now), s.requires.1))

returns : tie.Need-returns
unfolding holdings_of
returns c = c.security_at.ensures

pub security_at_spec : {M : Type 1} → statement M
security_at_spec = tie.close (tie.spec (λ c. search rules) (λ c. search rules) (λ c. search rules) security-at-requires returns)
