-- `day_tests::outside_window` meets its contract. Assumes nothing.
use borrow.Author.Rules.{rules}
use Rattle.rulebook.specs.Refusals.{outside_window}
use Rattle.day_tests.proofs.outside_window.Statement.{statement}
use Rattle.day_tests.proofs.outside_window.Tie as tie

pub outside_window_spec : {M : Type 1} → statement M
unfolding outside_window
outside_window_spec =
    tie.close
    (tie.spec (λ c κs. search rules) (λ c κs. search rules)
    (λ c. rw (c.is_within.ensures, c.before.window_of-window.ensures.0, c.before.window_of-window.ensures.1)))
