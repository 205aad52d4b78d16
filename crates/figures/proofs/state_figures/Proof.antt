-- `figures::state_figures` meets its contract. Assumes nothing.
use Rattle.std.specs.Prelude.{if◌then◌else◌}
use Prim.Native.Nat.{ℕ, ◌-◌}
use mathlib.Core.Bool.{Bool, true, false}
use mathlib.Core.Path.{◌≡◌, refl, sym, ap, ◌∙◌}
use borrow.Author.Rules.{rules}
use Rattle.words.specs.Places.{bit}
use Rattle.figures.specs.Figures.{state_figures}
use Rattle.figures.specs.declared.StateFigures.{StateFigures}
use Rattle.figures.proofs.state_figures.Statement.{statement}
use Rattle.figures.proofs.state_figures.Tie as tie

figures : ℕ → ℕ → ℕ → ℕ → ℕ → StateFigures
figures state reference second d r = record { state = state; reference = reference; second = second; deliver_marked = d; receive_marked = r }

single : (b : Bool) → 2 - bit b ≡ (if b then 1 else 2)
single true = refl
single false = refl

returns : tie.Need-returns-in-Single
unfolding figures
returns c =
    ap (λ (n : ℕ). figures (2 - n) c.in-Single.reference 0 0 0) c.bit_of.ensures.0
    ∙ ap (λ (n : ℕ). figures n c.in-Single.reference 0 0 0) (single c.in-Single.delivers) ∙ ap state_figures (sym c.in-Single.is)

returns-2 : tie.Need-returns-in-Pair
unfolding figures
returns-2 c =
    ap (λ (n : ℕ). figures 3 c.in-Pair.deliver_reference c.in-Pair.receive_reference n c.bit_of-in-Pair-2.result) c.bit_of-in-Pair.ensures.0
    ∙ ap (figures 3 c.in-Pair.deliver_reference c.in-Pair.receive_reference (bit c.in-Pair.deliver_marked)) c.bit_of-in-Pair-2.ensures.0 ∙ ap state_figures (sym c.in-Pair.is)

returns-3 : tie.Need-returns-in-Trade
returns-3 c = ap state_figures (sym c.in-Trade.is)

pub state_figures_spec : {M : Type 1} → statement M
state_figures_spec =
    tie.close
    (tie.spec (λ c. search rules) (λ c κs. search rules) (λ c. search rules) (λ c. search rules) (λ c κs. search rules) (λ c κs. search rules)
    (λ c. search rules) returns returns-2 returns-3)
