-- `room_tests::is_matched` meets its contract. Assumes nothing.
use mathlib.Core.Path.{ap, ◌∙◌}
use borrow.Author.Rules.{rules}
use Rattle.rulebook.specs.Waiting.{item_of}
use Rattle.std.specs.Prelude.{is_some}
use Rattle.search.proofs.Found.{found_some}
use Rattle.room_tests.proofs.is_matched.Statement.{statement}
use Rattle.room_tests.proofs.is_matched.Tie as tie

returns : tie.Need-returns
unfolding item_of
returns c = c.is_some.ensures ∙ ap is_some c.before.first_partner.ensures ∙ found_some _ 0 _ ∙ rw c.before.before.single_of.ensures

pub is_matched_spec : {M : Type 1} → statement M
is_matched_spec =
    tie.close (tie.spec (λ c κs. search rules) (λ c κs. let k = c.before.before.requires in (k.stored, k.premise.rate)) (λ c κs. search rules) returns)
