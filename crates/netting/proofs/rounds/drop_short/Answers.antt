-- `netting::rounds::drop_short` meets its contract: what is searched is enough, and the trade that is found goes in a round. Assumes nothing.
use Rattle.std.proofs.Common.{◌≡◌, ◌≤◌, ◌<◌, ℕ, Bool, List, Some, false, sym, subst, ◌∙◌, length, arith}
use mathlib.Core.Bool.{◌&&◌, ◌||◌}
use Rattle.rulebook.specs.Ledger.{Ledger}
use Rattle.marks.specs.Marks.{is_on}
use Rattle.legs.specs.Figures.{short_at, last_short}
use Rattle.legs.specs.Legs.{figures_in}
use Rattle.legs.specs.Slots.{WithoutLeg}
use Rattle.legs.proofs.Searches.{last_cut}
use Rattle.netting.proofs.Running.{starts, stops, inside, share_cover, cash_cover, fewer, behind_still, runs_on}
use Rattle.netting.proofs.rounds.drop_short.Goals as goal

-- what is searched is enough
cut :
    (b : Ledger) (on : ℕ → Bool) (held funds : List ℕ) (top : ℕ) → top ≤ length b.waiting
    → ((k : ℕ) → top ≤ k → k < length b.waiting → (on k && (short_at held k || short_at funds k)) ≡ false)
    → last_short on held funds (length b.waiting) ≡ last_short on held funds top
cut b on held funds top low none = last_cut _ top _ low none

pub loop-j-init : goal.loop-j-init
loop-j-init g c =
    let f = c.requires.1 in
    ((λ r. starts g.b r f), omega (arith, f.share_trades), (λ k a m. absurd (omega (arith, f.share_trades))))

pub last_short-requires : goal.last_short-requires
last_short-requires g c =
    let w = c.loop-j.invariant.0 c.requires.0 in
    (omega (arith, w.figured.share_trades, c.loop-j.invariant.1), omega (arith, w.figured.cash_trades, c.loop-j.invariant.1))

pub drop_trade-less-requires : goal.drop_trade-less-requires
drop_trade-less-requires g c =
    let l = c.loop-j in
    let r = c.requires.0 in
    let w = l.invariant.0 r in
    let found : last_short (is_on l.marks) (figures_in l.shares) (figures_in l.cash) (length g.b.waiting) ≡ Some c.in-Some.j =
    cut g.b (is_on l.marks) (figures_in l.shares) (figures_in l.cash) l.top l.invariant.1 l.invariant.2 ∙ sym c.last_short.ensures ∙ c.in-Some.is
    in
    (omega (arith, inside g.b r w found, w.figured.share_trades), rw w.figured.share_trades (share_cover g.b r w found))

pub drop_trade-poorer-requires : goal.drop_trade-poorer-requires
drop_trade-poorer-requires g c =
    let l = c.loop-j in
    let r = c.requires.0 in
    let w = l.invariant.0 r in
    let found : last_short (is_on l.marks) (figures_in l.shares) (figures_in l.cash) (length g.b.waiting) ≡ Some c.in-Some.j =
    cut g.b (is_on l.marks) (figures_in l.shares) (figures_in l.cash) l.top l.invariant.1 l.invariant.2 ∙ sym c.last_short.ensures ∙ c.in-Some.is
    in
    (omega (arith, inside g.b r w found, w.figured.cash_trades), rw w.figured.cash_trades (cash_cover g.b r w found))

pub flip-marks-requires : goal.flip-marks-requires
flip-marks-requires g c =
    let l = c.loop-j in
    let r = c.requires.0 in
    let found : last_short (is_on l.marks) (figures_in l.shares) (figures_in l.cash) (length g.b.waiting) ≡ Some c.in-Some.j =
    cut g.b (is_on l.marks) (figures_in l.shares) (figures_in l.cash) l.top l.invariant.1 l.invariant.2 ∙ sym c.last_short.ensures ∙ c.in-Some.is
    in
    omega (arith, inside g.b r (l.invariant.0 r) found, r.size)

pub loop-j-smaller : goal.loop-j-smaller
loop-j-smaller g c =
    let l = c.loop-j in
    let r = c.requires.0 in
    let found : last_short (is_on l.marks) (figures_in l.shares) (figures_in l.cash) (length g.b.waiting) ≡ Some c.in-Some.j =
    cut g.b (is_on l.marks) (figures_in l.shares) (figures_in l.cash) l.top l.invariant.1 l.invariant.2 ∙ sym c.last_short.ensures ∙ c.in-Some.is
    in
    fewer g.b r (l.invariant.0 r) found c.flip-marks.result c.flip-marks.ensures

pub loop-j-preserved : goal.loop-j-preserved
loop-j-preserved g c =
    let l = c.loop-j in
    let j : ℕ = c.in-Some.j in
    let ready = c.requires.0 in
    let w = l.invariant.0 ready in
    let found : last_short (is_on l.marks) (figures_in l.shares) (figures_in l.cash) (length g.b.waiting) ≡ Some j =
    cut g.b (is_on l.marks) (figures_in l.shares) (figures_in l.cash) l.top l.invariant.1 l.invariant.2 ∙ sym c.last_short.ensures ∙ c.in-Some.is
    in
    let h = c.drop_trade-less.ensures in
    let p = c.drop_trade-poorer.ensures in
    let less =
    subst (λ (m : ℕ). WithoutLeg m l.shares.legs l.shares.slots j l.shares.figures c.drop_trade-less.new.self.figures) w.figured.share_trades
    h.without_leg
    in
    let poorer =
    subst (λ (m : ℕ). WithoutLeg m l.cash.legs l.cash.slots j l.cash.figures c.drop_trade-poorer.new.self.figures) w.figured.cash_trades
    p.without_leg
    in
    let v = c.flip-marks in
    let below = inside g.b ready w found in (
      (λ r. runs_on g.b r (l.invariant.0 r) found v.result v.ensures _ _ h.same p.same less poorer),
      omega (arith, below, h.fine_from.inside, p.fine_from.inside, w.figured.share_trades, w.figured.cash_trades),
      (λ k a m.
          rw (h.same.slots, p.same.slots)
          (behind_still g.b ready w found v.result v.ensures _ _ less poorer k
          (h.fine_from.fine k (omega arith) (omega (arith, w.figured.share_trades)))
          (p.fine_from.fine k (omega arith) (omega (arith, w.figured.cash_trades))) (omega arith) m)),
    )

pub returns-clause-netted : goal.returns-clause-netted
returns-clause-netted g c =
    let l = c.loop-j in
    let r = c.requires.0 in
    let w = l.invariant.0 r in
    record {
      marked =
          stops g.b r w
          (cut g.b (is_on l.marks) (figures_in l.shares) (figures_in l.cash) l.top l.invariant.1 l.invariant.2 ∙ sym c.last_short.ensures ∙ c.in_default.is);
      within = w.within;
    }

pub returns-clause-figured_2 : goal.returns-clause-figured_2
returns-clause-figured_2 g c = (c.loop-j.invariant.0 c.requires.0).figured
