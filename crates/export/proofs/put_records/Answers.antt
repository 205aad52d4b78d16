-- What stands in the buffer, once there is room in it, are the lines of the whole records that were read. A block's lines come behind them.
use Rattle.std.proofs.Common.{◌≡◌, refl, ◌∙◌, length, take, arith}
use Rattle.std.proofs.lemmas.List.{length-take-le}
use Rattle.file.proofs.Walking.{records_length}
use Rattle.export.specs.Written.{BLOCK}
use Rattle.export.proofs.Blocks.{whole-none, whole-printed, whole_written, block_more, whole-more}
use Rattle.export.proofs.put_records.Goals as goal

pub loop-records-init : goal.loop-records-init
loop-records-init c = (whole-none _ _, refl)

pub returns-then-is_err : goal.returns-then-is_err
returns-then-is_err c = whole_written (whole-printed c.loop-records.invariant.0 c.make_room.ensures.printed c.make_room.ensures.lines)

pub loop-records-smaller : goal.loop-records-smaller
loop-records-smaller c =
    let put = c.put_block in
    let size = put.ensures.whole c.in-More.is in
    let full : length (take put.ensures.size put.new.input) ≡ BLOCK =
    length-take-le _ _ (omega (arith, size, put.auto.input, c.loop-records.invariant.1, c.requires)) ∙ size in
    omega (arith, put.ensures.written.counted, records_length (take put.ensures.size put.new.input), full, c.loop-records-test.true)

pub loop-records-preserved : goal.loop-records-preserved
loop-records-preserved c =
    let put = c.put_block in
    let room = c.make_room.ensures in
    let l = c.loop-records in
    let size = put.ensures.whole c.in-More.is in
    let full : length (take put.ensures.size put.new.input) ≡ BLOCK =
    length-take-le _ _ (omega (arith, size, put.auto.input, l.invariant.1, c.requires)) ∙ size in
    (whole-more (whole-printed l.invariant.0 room.printed room.lines) put.ensures.written full, put.auto.input ∙ l.invariant.1)

pub returns-in_default : goal.returns-in_default
returns-in_default c =
    let room = c.make_room.ensures in
    block_more (whole-printed c.loop-records.invariant.0 room.printed room.lines) c.put_block.ensures.written

pub returns : goal.returns
returns c = whole_written c.loop-records.invariant.0
