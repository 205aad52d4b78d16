-- `legs::figures::Legs::drop_trade` meets its contract: what the leg moved is taken away at the slots of what it debits and credits. Assumes nothing.
use Rattle.std.proofs.Common.{ℕ, ◌-◌, ◌≤◌, ◌<◌, ◌≡◌, sym, ◌∙◌, length, rules, arith}
use mathlib.Core.Bool.{false≢true}
use borrow.Author.Tests.{le-ltb}
use Rattle.legs.specs.Figures.{owes_at}
use Rattle.legs.proofs.Changing.{to_leg, none_credited, none_behind, owes_fits, has-fits, changed-one, changed-two, credited_fine}
use Rattle.legs.proofs.Placed.{spot, to_below}
use Rattle.legs.proofs.figures.Legs.drop_trade.Goals as goal

by_none : (x : ℕ) → x - 0 ≡ x
by_none x = omega arith

pub overflow_sub-owes : goal.overflow_sub-owes
overflow_sub-owes c =
    let l = c.args.self.now in
    let long : length l.figures ≡ 128 = search rules in
    owes_fits (spot l c.args.j c.requires.0 long) (λ x m. m ≤ x) c.requires.1.owes

pub returns-then-to-eq-NOWHERE-clause-without_leg : goal.returns-then-to-eq-NOWHERE-clause-without_leg
returns-then-to-eq-NOWHERE-clause-without_leg c =
    let l = c.args.self.now in
    let long : length l.figures ≡ 128 = search rules in
    changed-one (spot l c.args.j c.requires.0 long) ◌-◌ by_none c.if-to-eq-NOWHERE.true

pub returns-then-to-eq-NOWHERE-clause-fine_from : goal.returns-then-to-eq-NOWHERE-clause-fine_from
returns-then-to-eq-NOWHERE-clause-fine_from c =
    let l = c.args.self.now in
    let long : length l.figures ≡ 128 = search rules in
    let p = spot l c.args.j c.requires.0 long in
    record { inside = omega arith; fine = λ k a h t. absurd (false≢true (sym (none_credited p c.if-to-eq-NOWHERE.true k h) ∙ t)) }

pub overflow_sub-has : goal.overflow_sub-has
overflow_sub-has c =
    let l = c.args.self.now in
    let long : length l.figures ≡ 128 = search rules in
    let low : owes_at l.slots c.args.j < 64 = omega (arith, to_below l c.args.j c.requires.0, c.if-to-eq-NOWHERE.false) in
    has-fits (spot l c.args.j c.requires.0 long) (λ x m. m ≤ x) c.requires.1.has low _

pub returns-then-has-self-clause-without_leg : goal.returns-then-has-self-clause-without_leg
returns-then-has-self-clause-without_leg c =
    let l = c.args.self.now in
    let long : length l.figures ≡ 128 = search rules in
    let low : owes_at l.slots c.args.j < 64 = omega (arith, to_below l c.args.j c.requires.0, c.if-to-eq-NOWHERE.false) in
    changed-two (spot l c.args.j c.requires.0 long) ◌-◌ by_none low

pub returns-then-has-self-clause-fine_from : goal.returns-then-has-self-clause-fine_from
returns-then-has-self-clause-fine_from c =
    let l = c.args.self.now in
    let long : length l.figures ≡ 128 = search rules in
    let low : owes_at l.slots c.args.j < 64 = omega (arith, to_below l c.args.j c.requires.0, c.if-to-eq-NOWHERE.false) in
    let p = spot l c.args.j c.requires.0 long in
    record { inside = omega (arith, (to_leg p low).0); fine = λ k a h t. absurd (none_behind p k a h t) }

pub returns-clause-without_leg : goal.returns-clause-without_leg
returns-clause-without_leg c =
    let l = c.args.self.now in
    let long : length l.figures ≡ 128 = search rules in
    let low : owes_at l.slots c.args.j < 64 = omega (arith, to_below l c.args.j c.requires.0, c.if-to-eq-NOWHERE.false) in
    changed-two (spot l c.args.j c.requires.0 long) ◌-◌ by_none low

pub returns-clause-fine_from : goal.returns-clause-fine_from
returns-clause-fine_from c =
    let l = c.args.self.now in
    let long : length l.figures ≡ 128 = search rules in
    let low : owes_at l.slots c.args.j < 64 = omega (arith, to_below l c.args.j c.requires.0, c.if-to-eq-NOWHERE.false) in
    let p = spot l c.args.j c.requires.0 long in
    record { inside = omega arith; fine = λ k a h t. credited_fine p ◌-◌ by_none low (le-ltb _ _ c.if-has-self.false) k h t }
