-- `answer::counts_of` meets its contract: no more settle than wait. Assumes nothing.
use Rattle.std.proofs.Common.{arith}
use Rattle.rulebook.specs.Forms.{counts}
use Rattle.marks.specs.Marks.{is_on}
use Rattle.marks.proofs.Marking.{count_most}
use Rattle.answer.proofs.counts_of.Goals as goal

pub overflow_mul-result : goal.overflow_mul-result
overflow_mul-result c = omega (arith, c.count-number.ensures, count_most (is_on c.args.settled) c.args.n, c.requires)

pub overflow_mul-result-2 : goal.overflow_mul-result-2
overflow_mul-result-2 c = omega (arith, c.count-number.ensures, count_most (is_on c.args.settled) c.args.n, c.requires)

pub returns : goal.returns
unfolding counts
returns c = rw (c.no_counts.ensures, c.count-number.ensures)
