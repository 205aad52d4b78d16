-- `securities::security_at` meets its contract. Assumes nothing.
use borrow.Author.Rules.{rules}
use Rattle.securities.proofs.StoredSecurities.{security-there}
use Rattle.securities.proofs.security_at.Statement.{statement}
use Rattle.securities.proofs.security_at.Tie as tie

returns : tie.Need-returns
returns c = let s = c.before.before.before.before in λ d. security-there s.args.securities.now s.args.i d s.requires.1

pub security_at_spec : {M : Type 1} → statement M
security_at_spec =
    tie.close
    (tie.spec (λ c. search rules) (λ c. search rules) (λ c. search rules) (λ c. search rules) (λ c. search rules) (λ c. search rules) (λ c. search rules)
    (λ c. search rules) (λ c. search rules) (λ c. search rules) (λ c. search rules) (λ c. search rules) returns)
