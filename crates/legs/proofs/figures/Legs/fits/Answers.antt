-- `legs::figures::Legs::fits` meets its contract: it is tried at the slot of what the leg debits. Assumes nothing.
use Rattle.std.proofs.Common.{◌+◌, ◌^◌, ◌<◌, ◌≡◌, length, rules, arith}
use Rattle.legs.proofs.Changing.{owes_fits, covered, brings-back}
use Rattle.legs.proofs.Placed.{spot}
use Rattle.legs.proofs.figures.Legs.fits.Goals as goal

pub overflow_add-owes-3 : goal.overflow_add-owes-3
overflow_add-owes-3 c =
    let l = c.args.self.now in
    let long : length l.figures ≡ 128 = search rules in
    omega (arith, owes_fits (spot l c.args.j c.requires.0 long) (λ x m. x + m < 2 ^ 64) c.requires.1.owes)

pub returns-then-owes-self : goal.returns-then-owes-self
returns-then-owes-self c =
    let l = c.args.self.now in
    let long : length l.figures ≡ 128 = search rules in
    covered (spot l c.args.j c.requires.0 long) (omega (arith, c.if-owes-self.true))

pub returns : goal.returns
returns c =
    let l = c.args.self.now in
    let long : length l.figures ≡ 128 = search rules in
    brings-back (spot l c.args.j c.requires.0 long) (omega (arith, c.if-owes-self.false)) c.requires.2
