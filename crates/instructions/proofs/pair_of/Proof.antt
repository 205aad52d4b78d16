-- `instructions::pair_of` meets its contract. Assumes nothing.
use mathlib.Core.Path.{sym, ◌∙◌}
use borrow.Author.Rules.{rules}
use Rattle.instructions.specs.Paired.{paired}
use Rattle.instructions.proofs.pair_of.Statement.{statement}
use Rattle.instructions.proofs.pair_of.Tie as tie

pub pair_of_spec : {M : Type 1} → statement M
pair_of_spec =
    tie.close
    (tie.spec
    (λ c κs. search rules)
    (λ c κs. search rules)
    (λ c. unfold paired in c.pair_up.ensures ∙ simp (sym c.before.before.is_deliver.ensures ∙ c.before.if-is_deliver.true))
    (λ c κs. search rules)
    (λ c. unfold paired in c.pair_up-2.ensures ∙ simp (sym c.before.before.is_deliver.ensures ∙ c.before.if-is_deliver.false)))
