-- The book is fresh, and the input buffer has its length.
use Rattle.statement.proofs.main.Goals as goal

pub run-requires : goal.run-requires
run-requires c = (c.fresh.ensures.kept c.if-fresh.true, c.zeros-input.ensures.len, c.new-out.ensures)
