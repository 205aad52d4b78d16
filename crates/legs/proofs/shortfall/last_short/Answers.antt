-- `legs::shortfall::last_short` meets its contract: the trade at i - 1 is the last that passes, or none from i - 1 on does. Assumes nothing.
use Rattle.std.proofs.Common.{◌≡◌, ◌-◌, ℕ, Bool, true, false, refl, sym, ◌∙◌, arith}
use mathlib.Core.Bool.{◌&&◌, ◌||◌}
use Rattle.marks.specs.Marks.{is_on}
use Rattle.legs.specs.Figures.{short_at}
use Rattle.legs.specs.Legs.{figures_in}
use Rattle.legs.specs.declared.figures.Legs.{Legs}
use Rattle.legs.proofs.Searches.{last_here, last_before, last_nowhere}
use Rattle.legs.proofs.shortfall.last_short.Goals as goal
use Rattle.legs.proofs.shortfall.last_short.Goals.{then-is_short, else-is_short}
use Rattle.legs.proofs.shortfall.last_short.Goals.{else-is_on-via-then-is_on+else-is_short-2, else-is_on-via-else-is_on}

-- what the mark, the shares and the cash are asked
abbrev test : (marks : ℕ) (shares cash : Legs) → ℕ → Bool
test marks shares cash k = is_on marks k && (short_at (figures_in shares) k || short_at (figures_in cash) k)

by : (a b c x y z : Bool) → a ≡ x → b ≡ y → c ≡ z → (a && (b || c)) ≡ (x && (y || z))
by a b c x y z e f g = rw (e, f, g)

pub returns-then-is_short-2 : goal.returns-then-is_short-2
returns-then-is_short-2 c =
    let a = c.args in
    let l = c.loop-i in
    let i : ℕ = l.i - 1 in
    let marked = sym c.is_on.ensures ∙ c.if-is_on.true in
    let passes : test a.marks a.shares.now a.cash.now i ≡ true = elim c.if-is_short.branch [
      | then-is_short w ↦ by _ _ (short_at (figures_in a.cash.now) i) true true _ marked (sym c.is_short.ensures ∙ w.if-is_short.true) refl
      | else-is_short w ↦
          by _ _ _ true false true marked (sym c.is_short.ensures ∙ w.if-is_short.false)
          (sym w.is_short-else-is_short.ensures ∙ sym w.value-is ∙ c.if-is_short-2.true)
    ]
    in
    sym (l.invariant ∙ last_here (test a.marks a.shares.now a.cash.now) l.i c.loop-i-test.true passes)

pub loop-i-preserved : goal.loop-i-preserved
loop-i-preserved c =
    let a = c.args in
    let l = c.loop-i in
    let i : ℕ = l.i - 1 in
    let fails : test a.marks a.shares.now a.cash.now i ≡ false = elim c.else-is_on.branch [
      | else-is_on-via-then-is_on+else-is_short-2 w ↦
          let marked = sym c.is_on.ensures ∙ w.if-is_on.true in
          elim w.if-is_short.branch [
            | then-is_short x ↦ (let v = x.value-is in let u = w.if-is_short-2.false in cc)
            | else-is_short x ↦
                by _ _ _ true false false marked (sym w.is_short.ensures ∙ x.if-is_short.false)
                (sym x.is_short-else-is_short.ensures ∙ sym x.value-is ∙ w.if-is_short-2.false)
          ]
      | else-is_on-via-else-is_on w ↦
          by _ (short_at (figures_in a.shares.now) i) (short_at (figures_in a.cash.now) i) false _ _ (sym c.is_on.ensures ∙ w.if-is_on.false) refl refl
    ]
    in
    l.invariant ∙ last_before (test a.marks a.shares.now a.cash.now) l.i c.loop-i-test.true fails

pub returns : goal.returns
returns c =
    let a = c.args in
    let l = c.loop-i in
    sym (l.invariant ∙ last_nowhere (test a.marks a.shares.now a.cash.now) l.i (omega arith))
