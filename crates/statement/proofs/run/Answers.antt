-- A block is called behind those before it, and is full where the loop goes on.
use Rattle.std.proofs.Common.{◌≡◌, Ok, refl, ap, ◌∙◌, length, take, arith}
use Rattle.std.proofs.lemmas.List.{length-take-le}
use Rattle.file.proofs.Walking.{records_length}
use Rattle.streams.specs.declared.Follows.TheVariants.{More}
use Rattle.statement.specs.Read.{BLOCK}
use Rattle.statement.proofs.Parts.{all-called, whole-none, file_read, whole-block, all_read}
use Rattle.statement.proofs.run.Goals as goal

pub loop-number-init : goal.loop-number-init
loop-number-init c = (rw c.requires.2 (whole-none _ _ _ c.requires.0), refl, refl, refl)

pub returns-in_default : goal.returns-in_default
returns-in_default c = file_read c.loop-number.invariant.0 c.state_block.ensures.called

pub loop-number-smaller : goal.loop-number-smaller
loop-number-smaller c =
    let stated = c.state_block in
    let more : stated.result ≡ Ok More = c.in-Ok-More.is ∙ rw c.in-Ok-More.field-0-is in
    let size = stated.ensures.whole more in
    let full : length (take stated.ensures.size stated.new.input) ≡ BLOCK =
    length-take-le _ _ (omega (arith, size, stated.auto.input, c.loop-number.invariant.3, c.requires.1)) ∙ size in
    let count = ap length (all-called stated.ensures.called more) ∙ records_length _ in
    omega (arith, stated.ensures.called.stated.numbered, count, full, c.loop-number-test.true)

pub loop-number-preserved : goal.loop-number-preserved
loop-number-preserved c =
    let stated = c.state_block in
    let before = c.loop-number.invariant in
    let more : stated.result ≡ Ok More = c.in-Ok-More.is ∙ rw c.in-Ok-More.field-0-is in
    let size = stated.ensures.whole more in
    let full : length (take stated.ensures.size stated.new.input) ≡ BLOCK =
    length-take-le _ _ (omega (arith, size, stated.auto.input, before.3, c.requires.1)) ∙ size in (
      whole-block before.0 stated.ensures.called full more,
      stated.auto.book ∙ before.1,
      stated.auto.area ∙ before.2,
      stated.auto.input ∙ before.3,
    )

pub returns : goal.returns
returns c = all_read c.loop-number.invariant.0
