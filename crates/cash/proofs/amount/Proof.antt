-- `cash::amount` meets its contract. Assumes nothing.
use borrow.Author.Rules.{rules}
use Rattle.cash.proofs.StoredCash.{amount-at}
use Rattle.cash.proofs.amount.Statement.{statement}
use Rattle.cash.proofs.amount.Tie as tie

returns : tie.Need-returns
returns c =
    let s = c.before.before.before in amount-at s.args.cash.now s.requires.0 s.args.member s.args.currency s.requires.1
    c.before.place_of-at.result c.before.place_of-at.ensures

pub amount_spec : {M : Type 1} → statement M
amount_spec = tie.close (tie.spec (λ c κs. search rules) (λ c. search rules) (λ c. search rules) returns)
