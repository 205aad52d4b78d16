-- `wording::sign_of` meets its contract: an arm for each sign. Assumes nothing.
use borrow.Author.Tests.{ne_eqb}
use Rattle.wording.specs.Fill.{is_sign, said}
use Rattle.wording.proofs.sign_of.Goals as goal

pub returns-in-35 : goal.returns-in-35
unfolding is_sign said
returns-in-35 c = (rw c.in-35.is, λ n. rw c.in-35.is)

pub returns-in-36 : goal.returns-in-36
unfolding is_sign said
returns-in-36 c = (rw c.in-36.is, λ n. rw c.in-36.is)

pub returns-in-37 : goal.returns-in-37
unfolding is_sign said
returns-in-37 c = (rw c.in-37.is, λ n. rw c.in-37.is)

pub returns-in-42 : goal.returns-in-42
unfolding is_sign said
returns-in-42 c = (rw c.in-42.is, λ n. rw c.in-42.is)

pub returns-in-33 : goal.returns-in-33
unfolding is_sign said
returns-in-33 c = (rw c.in-33.is, λ n. rw c.in-33.is)

pub returns-in-94 : goal.returns-in-94
unfolding is_sign said
returns-in-94 c = (rw c.in-94.is, λ n. rw c.in-94.is)

pub returns-in_default : goal.returns-in_default
unfolding is_sign
returns-in_default c =
    let b = c.args.b in
    let rest = c.in_default.in_default-own.rest in
    rw (
      ne_eqb b 35 rest.0.0.0.0.0.1,
      ne_eqb b 36 rest.0.0.0.0.1,
      ne_eqb b 37 rest.0.0.0.1,
      ne_eqb b 42 rest.0.0.1,
      ne_eqb b 33 rest.0.1,
      ne_eqb b 94 rest.1,
    )
