-- `closing::close_items` meets its contract: the item at i moves up, or leaves with its notice. Assumes nothing.
use Rattle.std.proofs.Common.{ℕ, ◌-◌, ◌*◌, ◌≤◌, length, drop, sym, ◌∙◌, rules, arith, length-drop}
use lib.Seq.{length-take-le}
use Rattle.closing.proofs.Closed.{closing_so, none_closed, items_there, rows_few, row_room, can_count}
use Rattle.closing.proofs.Closed.{settles-soon, one_stays, one_leaves, leaving-fits, all_closed}
use Rattle.closing.proofs.close_items.Goals as goal
use Rattle.closing.proofs.close_items.Goals.{then-kind-eq0, else-kind-eq0}

pub loop-i-init : goal.loop-i-init
loop-i-init c = none_closed _ _ _ c.requires.0 _ c.no_counts-counted.ensures

pub item_at-item-requires : goal.item_at-item-requires
item_at-item-requires c =
    let w = c.loop-i.invariant in
    (w.means.stored, omega (arith, c.items-n.ensures, items_there _ _ _ c.requires.0 c.requires.1 w))

pub close_kind-kind-requires : goal.close_kind-kind-requires
close_kind-kind-requires c =
    settles-soon _ _ _ c.requires.0 c.requires.1 c.loop-i.invariant (omega (arith, c.items-n.ensures)) c.item_at-item.ensures

pub put_item-requires : goal.put_item-requires
put_item-requires c =
    let w = c.loop-i.invariant in
    (w.means.stored, omega (arith, w.up, c.items-n.ensures, items_there _ _ _ c.requires.0 c.requires.1 w))

-- the next notice has room
pub overflow_mul-at : goal.overflow_mul-at
overflow_mul-at c = omega (arith, rows_few _ _ _ c.requires.0 c.requires.1 c.loop-i.invariant)

pub slice_bounds-write_notice-count : goal.slice_bounds-write_notice-count
slice_bounds-write_notice-count c = omega (arith, row_room _ _ _ c.requires.0 c.requires.1 c.loop-i.invariant)

pub slice_bounds-write_notice-start : goal.slice_bounds-write_notice-start
slice_bounds-write_notice-start c = let r = row_room _ _ _ c.requires.0 c.requires.1 c.loop-i.invariant in search rules

pub write_notice-requires : goal.write_notice-requires
write_notice-requires c =
    let w = c.loop-i.invariant in
    let r = row_room _ _ _ c.requires.0 c.requires.1 w in
    let at : ℕ = 16 * c.loop-i.counted.rows in
    let long : length c.loop-i.area - at ≤ length (drop at c.loop-i.area) = rw length-drop (omega arith) in (
      rw length-take-le (omega (arith, r)),
      leaving-fits _ _ _ c.requires.0 c.requires.1 w (omega (arith, c.items-n.ensures)) c.item_at-item.ensures _ c.close_kind-kind.ensures,
    )

pub count_leaving-counted-requires : goal.count_leaving-counted-requires
count_leaving-counted-requires c = can_count _ _ _ c.requires.0 c.requires.1 c.loop-i.invariant

pub loop-i-preserved : goal.loop-i-preserved
loop-i-preserved c =
    let x = c.item_at-item in
    let kind = c.close_kind-kind.ensures in
    elim c.if-kind-eq0.branch [
      | then-kind-eq0 w ↦
          closing_so _ _ _ w.book-is w.area-is w.counted-is w.j-is
          (one_stays _ _ _ c.requires.0 c.requires.1 c.loop-i.invariant (omega (arith, c.items-n.ensures)) x.ensures (sym kind ∙ w.if-kind-eq0.true) _
          w.unmark.ensures _ w.put_item.ensures)
      | else-kind-eq0 w ↦
          closing_so _ _ _ w.book-is w.area-is w.counted-is w.j-is
          (one_leaves _ _ _ c.requires.0 c.requires.1 c.loop-i.invariant (omega (arith, c.items-n.ensures)) x.ensures
          (λ e. w.if-kind-eq0.false (kind ∙ e)) _ kind _ w.write_notice.ensures _ w.count_leaving-counted.ensures)
    ]

pub keep_first-requires : goal.keep_first-requires
keep_first-requires c =
    let w = c.loop-i.invariant in
    (w.means.stored, omega (arith, w.up, w.within, items_there _ _ _ c.requires.0 c.requires.1 w))

pub returns : goal.returns
returns c = all_closed _ _ _ c.requires.0 c.requires.1 c.loop-i.invariant (omega (arith, c.items-n.ensures)) _ c.keep_first.ensures
