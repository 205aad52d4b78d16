-- `day_tests::nothing_sent` meets its contract. Assumes nothing.
use borrow.Author.Rules.{rules}
use Rattle.rulebook.specs.Refusals.{nothing_sent}
use Rattle.day_tests.proofs.nothing_sent.Statement.{statement}
use Rattle.day_tests.proofs.nothing_sent.Tie as tie

pub nothing_sent_spec : {M : Type 1} → statement M
unfolding nothing_sent
nothing_sent_spec = tie.close (tie.spec (λ c. search rules))
