-- `marks::on_each` meets its contract: what is marked below i, and at i where it passes, is marked below i + 1. Assumes nothing.
use Rattle.std.proofs.Common.{ℕ, ◌+◌, ◌<◌, ◌∙◌, sym, ap, subst, Bool, arith}
use Rattle.marks.specs.Marks.{is_on}
use Rattle.marks.proofs.Masks.{none_on}
use Rattle.marks.proofs.ByTest.{AskedBelow, asked-not, asked-one}
use Rattle.marks.proofs.on_each.Goals as goal
use Rattle.marks.proofs.on_each.Goals.{then-test, else-test}

pub loop-i-init : goal.loop-i-init
loop-i-init g c = ((λ k h. absurd (omega arith)), (λ k h l. none_on k))

pub loop-i-preserved : goal.loop-i-preserved
loop-i-preserved g c =
    let l = c.loop-i in
    let Asked : ℕ → Bool → Type 0 = λ k b. g.F.Fn.post c.args.test (k, tt {0}) b in
    let low : l.i < 64 = omega (arith, c.requires.size) in
    elim c.if-test.branch [
      | then-test w ↦
          let yes = subst (Asked l.i) w.if-test.true c.test.ensures in
          asked-one Asked l.marks l.i low l.invariant c.if-test.marks (λ k h. ap (λ (m : ℕ). is_on m k) w.marks-is ∙ w.flip-marks.ensures k h) yes
      | else-test w ↦
          let no = subst (Asked l.i) w.if-test.false c.test.ensures in
          subst (λ (m : ℕ). AskedBelow Asked m (l.i + 1)) (sym w.marks-is) (asked-not Asked l.marks l.i low l.invariant no)
    ]
