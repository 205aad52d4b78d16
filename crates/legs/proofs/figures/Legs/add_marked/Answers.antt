-- `legs::figures::Legs::add_marked` meets its contract: the leg at j is added to the figures with the marked ones before it. Assumes nothing.
use Rattle.std.proofs.Common.{ℕ, Bool, ◌+◌, ◌<◌, ◌≡◌, sym, subst, ◌∙◌, arith}
use Rattle.marks.specs.Marks.{is_on}
use Rattle.legs.specs.Figures.{Room}
use Rattle.legs.specs.Legs.{figures_in, SameLegs}
use Rattle.legs.specs.Slots.{viewed, WithLeg}
use Rattle.legs.proofs.Adding.{Added, added_none, added_room, added_on, added_off}
use Rattle.legs.proofs.Same.{same_as, same_was, same_own, same_on}
use Rattle.legs.proofs.Slotted.{viewed-long}
use Rattle.legs.specs.declared.figures.Legs.{Legs}
use Rattle.legs.proofs.figures.Legs.add_marked.Goals as goal
use Rattle.legs.proofs.figures.Legs.add_marked.Goals.{then-is_on, else-is_on}

pub loop-j-init : goal.loop-j-init
loop-j-init c =
    let s = c.args.self.now in
    (same_own, added_none s.trades (is_on c.args.marks) s.legs (figures_in s) (viewed-long s.slots s.figures))

pub add_trade-requires : goal.add_trade-requires
add_trade-requires c =
    let s = c.args.self.now in
    let l = c.loop-j in
    let marked = sym c.is_on.ensures ∙ c.if-is_on.true in
    let low : l.j < s.trades = c.loop-j-test.true in
    same_as (λ n legs slots. (l.j < n) × Room n legs l.j (viewed slots l.self.figures)) l.invariant.0
    (low, added_room s.trades (is_on c.args.marks) s.legs (figures_in s) l.j low _ l.invariant.1 marked c.requires)

pub loop-j-preserved : goal.loop-j-preserved
loop-j-preserved c =
    let s = c.args.self.now in
    let l = c.loop-j in
    let low : l.j < s.trades = c.loop-j-test.true in
    let test = sym c.is_on.ensures in
    let on : ℕ → Bool = is_on c.args.marks in
    let Now : Legs → Type 0 = λ x. SameLegs s x × Added s.trades on s.legs (figures_in s) (l.j + 1) (viewed s.slots x.figures) in
    elim c.if-is_on.branch [
      | then-is_on w ↦
          let e = w.add_trade.ensures in
          let leg = same_was (λ n legs slots. WithLeg n legs slots l.j l.self.figures w.add_trade.new.self.figures) l.invariant.0 e.with_leg in
          subst Now (sym w.self-is)
          (same_on l.invariant.0 e.same, added_on s.trades on s.legs (figures_in s) l.j low _ l.invariant.1 (test ∙ w.if-is_on.true) _ leg)
      | else-is_on w ↦
          subst Now (sym w.self-is)
          (l.invariant.0, added_off s.trades on s.legs (figures_in s) l.j low _ l.invariant.1 (test ∙ w.if-is_on.false))
    ]

pub returns : goal.returns
returns c =
    let s = c.args.self.now in
    let l = c.loop-j in
    let on : ℕ → Bool = is_on c.args.marks in
    let all : l.j ≡ s.trades = omega (arith, c.loop-j-test.false) in
    record {
      same = l.invariant.0;
      with_marked = subst (λ (j : ℕ). Added s.trades on s.legs (figures_in s) j (viewed s.slots l.self.figures)) all l.invariant.1;
    }
