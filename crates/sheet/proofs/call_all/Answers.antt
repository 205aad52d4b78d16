-- A block is called behind those before it, and is full where the loop goes on.
use Rattle.std.proofs.Common.{◌≡◌, refl, ◌∙◌, length, take, arith}
use Rattle.std.proofs.lemmas.Bool.{not-false}
use Rattle.std.proofs.lemmas.List.{length-take-le}
use Rattle.file.proofs.Walking.{records_length}
use Rattle.sheet.specs.HandedOver.{BLOCK}
use Rattle.sheet.proofs.Blocks.{whole_none, block_more, whole_more}
use Rattle.sheet.proofs.call_all.Goals as goal

pub loop-number-init : goal.loop-number-init
loop-number-init c = (whole_none _ _ _ c.requires.0, refl, refl, refl)

pub returns-in-Ended : goal.returns-in-Ended
returns-in-Ended c = block_more c.loop-number.invariant.0 c.call_block.ensures.called

pub returns-in-Failed : goal.returns-in-Failed
returns-in-Failed c = block_more c.loop-number.invariant.0 c.call_block.ensures.called

pub loop-number-smaller : goal.loop-number-smaller
loop-number-smaller c =
    let called = c.call_block in
    let size = called.ensures.whole c.in-More.is in
    let full : length (take called.ensures.size called.new.input) ≡ BLOCK =
    length-take-le _ _ (omega (arith, size, called.auto.input, c.loop-number.invariant.3, c.requires.1)) ∙ size in
    omega (
      arith,
      called.ensures.called.numbered,
      full,
      records_length (take called.ensures.size called.new.input),
      c.loop-number-test.true,
    )

pub loop-number-preserved : goal.loop-number-preserved
loop-number-preserved c =
    let called = c.call_block in
    let before = c.loop-number.invariant in
    let size = called.ensures.whole c.in-More.is in
    let full : length (take called.ensures.size called.new.input) ≡ BLOCK =
    length-take-le _ _ (omega (arith, size, called.auto.input, before.3, c.requires.1)) ∙ size in (
      whole_more before.0 called.ensures.called full,
      called.auto.book ∙ before.1,
      called.auto.area ∙ before.2,
      called.auto.input ∙ before.3,
    )
