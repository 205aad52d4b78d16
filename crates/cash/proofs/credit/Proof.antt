-- `cash::credit` meets its contract. Assumes nothing.
use borrow.Author.Rules.{rules}
use native.Mathlib.Omega.{arith}
use Rattle.cash.proofs.StoredCash.{amount-at, credited}
use Rattle.cash.proofs.credit.Statement.{statement}
use Rattle.cash.proofs.credit.Tie as tie

returns : tie.Need-returns
returns c =
    let s = c.before.before.before.before in credited s.args.cash.now s.requires.0 s.args.member s.args.currency s.requires.1
    c.before.before.place_of-at.result c.before.before.place_of-at.ensures s.args.amount.0

pub credit_spec : {M : Type 1} → statement M
credit_spec =
    tie.close
    (tie.spec (λ c κs. search rules) (λ c. search rules) (λ c. search rules)
    (λ c. let s = c.before.before.before.before in omega (
      arith,
      s.requires.2,
      amount-at s.args.cash.now s.requires.0 s.args.member s.args.currency s.requires.1 c.before.before.place_of-at.result
          c.before.before.place_of-at.ensures,
    ))
    (λ c. search rules) (λ c. search rules) (λ c. search rules) returns)
