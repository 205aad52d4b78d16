-- `words::order::next_key`: with one key more, the least is the lesser of the two.
use Rattle.std.proofs.Common.{◌+◌, ap, subst, sym, arith, ◌∙◌}
use Rattle.words.specs.Order.{lesser_of, LeastOf}
use Rattle.words.proofs.Tables.{get_or-keys_of}
use Rattle.words.proofs.NextKeys.{least_more}
use Rattle.words.proofs.order.next_key.Goals as goal

pub loop-key-preserved : goal.loop-key-preserved
loop-key-preserved c =
    let e = c.lesser-least.ensures ∙ ap (lesser_of c.args.from c.loop-key.least) (get_or-keys_of c.args.table.now c.loop-key.key-index (omega arith)) in
    subst (LeastOf c.args.table.now (c.loop-key.key-index + 1) c.args.from c.args.limit) (sym e) (least_more _ _ _ _ _ c.loop-key.invariant)
