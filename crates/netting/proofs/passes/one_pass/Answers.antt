-- `netting::passes::one_pass` meets its contract: the trade that is looked at is added where it fits. Assumes nothing.
use Rattle.std.proofs.Common.{◌≡◌, ◌<◌, ℕ, not, if◌then◌else◌, refl, sym, subst, ◌∙◌, arith}
use mathlib.Core.Bool.{◌&&◌}
use mathlib.Core.Path.{ap₂}
use borrow.Author.Tests.{eq-eqb, ne_eqb}
use Rattle.plain.specs.Lists.{◌is◌}
use Rattle.marks.specs.Marks.{First, is_on, count_on}
use Rattle.marks.proofs.Marking.{count_less}
use Rattle.legs.specs.Slots.{WithLeg}
use Rattle.netting.proofs.Adding.{begins, there, tested, held-fine, funds_fine, held-room, funds_room, refused, added, done}
use Rattle.netting.proofs.passes.one_pass.Goals as goal
use Rattle.netting.proofs.passes.one_pass.Goals.{else-fits-via-then-fits+else-fits-2, else-fits-via-else-fits}

-- one less is out
fewer :
    (out now j : ℕ) → First out j → ((k : ℕ) → k < 64 → is_on now k ≡ (if k is j then not (is_on out j) else is_on out k))
    → count_on (is_on now) 64 < count_on (is_on out) 64
fewer out now j f e =
    count_less (is_on out) (is_on now) 64 j f.inside f.on (e j f.inside ∙ rw (eq-eqb j j refl, f.on)) (λ k l d. e k l ∙ rw (ne_eqb k j d))

pub loop-out-init : goal.loop-out-init
loop-out-init g c = λ r s. begins g.b r _ _ s _ _ _ c.differing-out.ensures c.requires.1

pub fits-requires : goal.fits-requires
fits-requires g c =
    let r = c.requires.0.0 in
    let s = c.requires.0.1 in
    let w = c.loop-out.invariant r s in
    let f = c.first-j.ensures in (
      omega (arith, there g.b r _ _ s w f, w.figured.share_trades),
      rw w.figured.share_trades (held-room g.b r _ _ s w f),
      held-fine g.b r _ _ s w f,
    )

pub fits-requires-then-fits : goal.fits-requires-then-fits
fits-requires-then-fits g c =
    let r = c.requires.0.0 in
    let s = c.requires.0.1 in
    let w = c.loop-out.invariant r s in
    let f = c.first-j.ensures in (
      omega (arith, there g.b r _ _ s w f, w.figured.cash_trades),
      rw w.figured.cash_trades (funds_room g.b r _ _ s w f),
      funds_fine g.b r _ _ s w f,
    )

pub add_trade-requires : goal.add_trade-requires
add_trade-requires g c =
    let r = c.requires.0.0 in
    let s = c.requires.0.1 in
    let w = c.loop-out.invariant r s in
    let f = c.first-j.ensures in
    (omega (arith, there g.b r _ _ s w f, w.figured.share_trades), rw w.figured.share_trades (held-room g.b r _ _ s w f))

pub add_trade-requires-then-fits-2 : goal.add_trade-requires-then-fits-2
add_trade-requires-then-fits-2 g c =
    let r = c.requires.0.0 in
    let s = c.requires.0.1 in
    let w = c.loop-out.invariant r s in
    let f = c.first-j.ensures in
    (omega (arith, there g.b r _ _ s w f, w.figured.cash_trades), rw w.figured.cash_trades (funds_room g.b r _ _ s w f))

pub loop-out-smaller-then-fits-2 : goal.loop-out-smaller-then-fits-2
loop-out-smaller-then-fits-2 g c = fewer c.loop-out.out c.flip-out.result c.first-j.result c.first-j.ensures c.flip-out.ensures

pub loop-out-smaller : goal.loop-out-smaller
loop-out-smaller g c = fewer c.loop-out.out c.flip-out.result c.first-j.result c.first-j.ensures c.flip-out.ensures

-- it fits
pub loop-out-preserved-then-fits-2 : goal.loop-out-preserved-then-fits-2
loop-out-preserved-then-fits-2 g c = λ r s.
    let l = c.loop-out in
    let w = l.invariant r s in
    let f = c.first-j.ensures in
    let e = sym c.fits.ensures ∙ c.if-fits.true in
    let d = sym c.fits-then-fits.ensures ∙ c.if-fits-2.true in
    let h = c.add_trade.ensures in
    let p = c.add_trade-then-fits-2.ensures in
    let more =
    subst (λ (m : ℕ). WithLeg m l.shares.legs l.shares.slots c.first-j.result l.shares.figures c.add_trade.new.self.figures) w.figured.share_trades
    h.with_leg
    in
    let richer =
    subst (λ (m : ℕ). WithLeg m l.cash.legs l.cash.slots c.first-j.result l.cash.figures c.add_trade-then-fits-2.new.self.figures) w.figured.cash_trades
    p.with_leg
    in
    added g.b r _ _ s w f c.flip-out.result c.flip-out.ensures (tested g.b r _ _ s w f ∙ ap₂ ◌&&◌ e d) c.flip-marks.result c.flip-marks.ensures _ _
    h.same p.same more richer

-- it does not: shares are not enough, or cash is not
pub loop-out-preserved : goal.loop-out-preserved
loop-out-preserved g c = λ r s.
    let w = c.loop-out.invariant r s in
    let f = c.first-j.ensures in
    elim c.else-fits.branch [
      | else-fits-via-then-fits+else-fits-2 v ↦
          let e = sym c.fits.ensures ∙ v.if-fits.true in
          let d = sym v.fits-then-fits.ensures ∙ v.if-fits-2.false in
          refused g.b r _ _ s w f c.flip-out.result c.flip-out.ensures (tested g.b r _ _ s w f ∙ ap₂ ◌&&◌ e d)
      | else-fits-via-else-fits v ↦
          let e = sym c.fits.ensures ∙ v.if-fits.false in
          refused g.b r _ _ s w f c.flip-out.result c.flip-out.ensures (tested g.b r _ _ s w f ∙ rw e)
    ]

pub returns-clause-passed : goal.returns-clause-passed
returns-clause-passed g c =
    let s = c.requires.0.1 in
    done g.b c.requires.0.0 _ _ s (c.loop-out.invariant c.requires.0.0 s) (omega (arith, c.loop-out-test.false))

pub returns-clause-figured_2 : goal.returns-clause-figured_2
returns-clause-figured_2 g c = (c.loop-out.invariant c.requires.0.0 c.requires.0.1).figured
