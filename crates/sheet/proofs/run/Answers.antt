-- The book is fresh, and the buffers have their lengths.
use Rattle.sheet.proofs.run.Goals as goal

pub hand_over-requires : goal.hand_over-requires
hand_over-requires c = (c.fresh.ensures.kept c.if-fresh.true, c.zeros-input.ensures.len)
