-- `legs::figures::Legs::add_trade` meets its contract: what the leg moves is added at the slots of what it debits and credits. Assumes nothing.
use Rattle.std.proofs.Common.{ℕ, ◌+◌, ◌^◌, ◌<◌, ◌≡◌, length, rules, arith}
use Rattle.legs.specs.Figures.{number_at, has_at, owes_at}
use Rattle.legs.proofs.Changing.{owes_fits, has-fits, changed-one, changed-two}
use Rattle.legs.proofs.Placed.{spot, to_below}
use Rattle.legs.proofs.figures.Legs.add_trade.Goals as goal

by_none : (x : ℕ) → x + 0 ≡ x
by_none x = omega arith

pub overflow_add-owes-2 : goal.overflow_add-owes-2
overflow_add-owes-2 c =
    let l = c.args.self.now in
    let long : length l.figures ≡ 128 = search rules in
    let p = spot l c.args.j c.requires.0 long in
    omega (arith, owes_fits p (λ x m. x + m < 2 ^ 64) c.requires.1.owes)

pub returns-then-to-eq-NOWHERE-clause-with_leg : goal.returns-then-to-eq-NOWHERE-clause-with_leg
returns-then-to-eq-NOWHERE-clause-with_leg c =
    let l = c.args.self.now in
    let long : length l.figures ≡ 128 = search rules in
    changed-one (spot l c.args.j c.requires.0 long) ◌+◌ by_none c.if-to-eq-NOWHERE.true

pub overflow_add-has : goal.overflow_add-has
overflow_add-has c =
    let l = c.args.self.now in
    let long : length l.figures ≡ 128 = search rules in
    let p = spot l c.args.j c.requires.0 long in
    let low : owes_at l.slots c.args.j < 64 = omega (arith, to_below l c.args.j c.requires.0, c.if-to-eq-NOWHERE.false) in
    omega (arith, has-fits p (λ x m. x + m < 2 ^ 64) c.requires.1.has low (owes_at l.figures (has_at l.slots c.args.j) + number_at l.legs c.args.j))

pub returns-clause-with_leg : goal.returns-clause-with_leg
returns-clause-with_leg c =
    let l = c.args.self.now in
    let long : length l.figures ≡ 128 = search rules in
    let low : owes_at l.slots c.args.j < 64 = omega (arith, to_below l c.args.j c.requires.0, c.if-to-eq-NOWHERE.false) in
    changed-two (spot l c.args.j c.requires.0 long) ◌+◌ by_none low
