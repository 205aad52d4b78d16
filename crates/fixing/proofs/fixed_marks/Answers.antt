-- `fixing::fixed_marks` meets its contract: what is asked of each place is whether its item is fixed. Assumes nothing.
use Rattle.std.proofs.Common.{arith, rules}
use Rattle.book.specs.Meaning.{waiting_of}
use Rattle.marks.proofs.ByTest.{by_test_lem}
use Rattle.fixing.specs.Borne.{borne}
use Rattle.fixing.proofs.fixed_marks.Goals as goal

pub returns : goal.returns
unfolding borne
returns c = by_test_lem (λ item. item.sent) (waiting_of c.args.book.now) c.on_each.result (λ k h. let t = c.on_each.ensures.tested k (omega (arith, c.items.ensures)) in search rules)
