-- A block is called behind those before it, and is full where the loop goes on.
use Rattle.std.proofs.Common.{◌≡◌, refl, ◌∙◌, length, take, arith}
use Rattle.std.proofs.lemmas.List.{length-take-le}
use Rattle.file.proofs.Walking.{records_length}
use Rattle.desk.specs.Printed.{BLOCK}
use Rattle.desk.proofs.Blocks.{whole_none, block_more, whole_more}
use Rattle.desk.proofs.run.Goals as goal

pub loop-number-init : goal.loop-number-init
loop-number-init c = (whole_none _ _ _ c.requires.0, refl, refl, refl)

pub returns-in_default : goal.returns-in_default
returns-in_default c = block_more c.loop-number.invariant.0 c.print_block.ensures.called

pub returns-in_default-2 : goal.returns-in_default-2
returns-in_default-2 c = block_more c.loop-number.invariant.0 c.print_block.ensures.called

pub loop-number-smaller : goal.loop-number-smaller
loop-number-smaller c =
    let printed = c.print_block in
    let size = printed.ensures.whole (c.in-Ok-More.is ∙ rw c.in-Ok-More.field-0-is) in
    let full : length (take printed.ensures.size printed.new.input) ≡ BLOCK =
    length-take-le _ _ (omega (arith, size, printed.auto.input, c.loop-number.invariant.3, c.requires.1)) ∙ size in
    omega (
      arith,
      printed.ensures.called.numbered,
      full,
      records_length (take printed.ensures.size printed.new.input),
      c.loop-number-test.true,
    )

pub loop-number-preserved : goal.loop-number-preserved
loop-number-preserved c =
    let printed = c.print_block in
    let before = c.loop-number.invariant in
    let size = printed.ensures.whole (c.in-Ok-More.is ∙ rw c.in-Ok-More.field-0-is) in
    let full : length (take printed.ensures.size printed.new.input) ≡ BLOCK =
    length-take-le _ _ (omega (arith, size, printed.auto.input, before.3, c.requires.1)) ∙ size in (
      whole_more before.0 printed.ensures.called full,
      printed.auto.book ∙ before.1,
      printed.auto.area ∙ before.2,
      printed.auto.input ∙ before.3,
    )
