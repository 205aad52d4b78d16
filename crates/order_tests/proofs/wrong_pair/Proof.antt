-- `order_tests::wrong_pair` meets its contract: each arm has its own test. Assumes nothing.
use Prim.Native.Nat.{ℕ}
use mathlib.Core.Bool.{Bool, not, ◌||◌, or-false}
use mathlib.Core.List.{List, [], ◌∷◌, map}
use mathlib.Core.Path.{◌≡◌, refl, sym, ap, ◌∙◌}
use borrow.Author.Rules.{rules}
use borrow.Author.Tests.{ne_eqb}
use types.Run.{OneOf}
use Rattle.rulebook.specs.AccountTypes.{is_outside, is_paper, wrong_types}
use Rattle.rulebook.specs.Refusals.{wrong_pair}
use Rattle.rulebook.specs.declared.Order.{Order}
use Rattle.order_tests.proofs.Arms.{by_arm, not_arm}
use Rattle.order_tests.proofs.wrong_pair.Statement.{statement}
use Rattle.order_tests.proofs.wrong_pair.Tie as tie

-- the test at a form
abbrev at : Order → ℕ → Bool
at o form = wrong_types form o.debited.typ o.credited.typ

arm : (o : Order) (keys : List ℕ) (r right : Bool) → r ≡ right → map (at o) keys ≡ map (λ n. not right) keys → OneOf keys o.form → not r ≡ wrong_pair o
unfolding wrong_pair
arm o keys r right e same h = ap not e ∙ sym (by_arm (at o) (λ n. not right) keys same o.form h)

returns : tie.Need-returns-in-3
unfolding wrong_types
returns c = arm c.args.order (3 ∷ 13 ∷ []) _ _ c.is_free.ensures (simp or-false) c.in-3.is

returns-2 : tie.Need-returns-in-4
unfolding wrong_types
returns-2 c = arm c.args.order (4 ∷ 12 ∷ []) _ _ c.is_free-in-4.ensures (simp or-false) c.in-4.is

returns-3 : tie.Need-returns-in-5
unfolding wrong_types
returns-3 c = arm c.args.order (5 ∷ 14 ∷ []) _ _ c.are_alike.ensures (simp or-false) c.in-5.is

returns-4 : tie.Need-returns-in-6
unfolding wrong_types
returns-4 c = arm c.args.order (6 ∷ []) _ _ c.is_pledge.ensures (simp or-false) c.in-6.is

returns-5 : tie.Need-returns-in-7
unfolding wrong_types
returns-5 c = arm c.args.order (7 ∷ []) _ _ c.is_pledge-in-7.ensures (simp or-false) c.in-7.is

returns-6 : tie.Need-returns-in-8
unfolding wrong_types
returns-6 c = arm c.args.order (8 ∷ []) _ _ c.is_block.ensures (simp or-false) c.in-8.is

returns-7 : tie.Need-returns-in-9
unfolding wrong_types
returns-7 c = arm c.args.order (9 ∷ []) _ _ c.is_block-in-9.ensures (simp or-false) c.in-9.is

returns-8 : tie.Need-returns-in-19
unfolding wrong_types
returns-8 c = arm c.args.order (19 ∷ []) _ _ c.has_paper.ensures (simp or-false) c.in-19.is

returns-9 : tie.Need-returns-in-20
unfolding wrong_types
returns-9 c =
    let order = c.args.order in
    let credited = order.credited.typ in
    arm order (20 ∷ []) (c.is_outside.result || c.is_paper.result) (is_outside credited || is_paper credited)
    (rw (c.is_outside.ensures, c.is_paper.ensures)) refl c.in-20.is

-- the others have none
returns-10 : tie.Need-returns-in_default
unfolding wrong_pair wrong_types
returns-10 c =
    rw (
      not_arm (3 ∷ 13 ∷ []) _ c.in_default.in_default-own.rest.0.0.0.0.0.0.0.0.1,
      not_arm (4 ∷ 12 ∷ []) _ c.in_default.in_default-own.rest.0.0.0.0.0.0.0.1,
      not_arm (5 ∷ 14 ∷ []) _ c.in_default.in_default-own.rest.0.0.0.0.0.0.1,
      ne_eqb _ 6 c.in_default.in_default-own.rest.0.0.0.0.0.1,
      ne_eqb _ 7 c.in_default.in_default-own.rest.0.0.0.0.1,
      ne_eqb _ 8 c.in_default.in_default-own.rest.0.0.0.1,
      ne_eqb _ 9 c.in_default.in_default-own.rest.0.0.1,
      ne_eqb _ 19 c.in_default.in_default-own.rest.0.1,
      ne_eqb _ 20 c.in_default.in_default-own.rest.1,
    )

pub wrong_pair_spec : {M : Type 1} → statement M
wrong_pair_spec =
    tie.close
    (tie.spec (λ c κs. search rules) (λ c κs. search rules) (λ c κs. search rules) (λ c κs. search rules) (λ c κs. search rules) (λ c κs. search rules)
    (λ c κs. search rules) (λ c κs. search rules) (λ c κs. search rules) (λ c κs. search rules)
    returns returns-2 returns-3 returns-4 returns-5 returns-6 returns-7 returns-8 returns-9 returns-10)
