-- `line_blocks::convert_block` meets its contract. Assumes nothing.
use Rattle.std.proofs.Common.{◌≡◌, ℕ, ◌+◌, ◌<◌, rules, arith, sym, ap, ◌∙◌, length, drop, nat_eq, refl, length-drop}
use borrow.Author.Tests.{tests}
use Rattle.std.proofs.lemmas.Iterator.{YieldsList-from_slice}
use Rattle.std.proofs.lemmas.Iterator.Search.{position_from_yields_List}
use Rattle.std.proofs.lemmas.Result.{err_from_is_err_and}
use Rattle.text.specs.Parts.{line_feed, up_to}
use Rattle.text.proofs.Cutting.{up_le}
use Rattle.cells.proofs.Bytes.{rest_all}
use Rattle.line_blocks.proofs.Walking.{FeedAt, line_ends, no_end, walking_none, walking_tail, walking_on, walking_refused, wrote_short}
use Rattle.line_blocks.proofs.convert_block.Goals as goal
use Rattle.line_blocks.proofs.convert_block.Goals.{After-position, In-Some}

pub loop-size-init : goal.loop-size-init
loop-size-init c = walking_none _ _ _ _ _

-- where the next line feed stands
found : (c : After-position) → FeedAt (drop c.loop-size.checked.used c.args.block.now) c.position.result
found c =
    rw rest_all at
    (position_from_yields_List (λ b. nat_eq b line_feed) _ _ c.position.result c.position.ensures.ran (YieldsList-from_slice _ c.iter.ensures.rest)
    (λ x b q k. search (rules, tests)))

-- the line of this turn ends in the block
ends : (c : In-Some) → FeedAt (drop c.loop-size.checked.used c.args.block.now) c.position.result
    → (c.loop-size.checked.used + c.in-Some.size ≡ c.loop-size.checked.used + up_to line_feed (drop c.loop-size.checked.used c.args.block.now))
    × (c.loop-size.checked.used + c.in-Some.size < length c.args.block.now)
ends c at =
    let e = line_ends _ _ (sym c.in-Some.is ∙ at) in
    (ap (λ (n : ℕ). c.loop-size.checked.used + n) e.0, omega (arith, e.1, length-drop c.loop-size.checked.used c.args.block.now, c.loop-size.invariant.inside))

pub returns-in_err-next : goal.returns-in_err-next
returns-in_err-next c =
    let e = ends (goal.at.returns-in_err-next c).In-Some (found (goal.at.returns-in_err-next c).After-position) in
    let p = err_from_is_err_and c.from_residual.result c.from_residual.ensures.1 in
    let answers =
    walking_refused c.loop-size.invariant c.requires.2 (c.loop-size.checked.used + c.in-Some.size) e.0 e.1 _ c.step.ensures.out_after _
    (sym c.step.ensures.value ∙ c.in_err-next.was)
    in
    rw (p.1, p.2) (record { value = answers.0; out_after = answers.1 })

pub overflow_add-checked-in-Some-3 : goal.overflow_add-checked-in-Some-3
overflow_add-checked-in-Some-3 c =
    let e = ends (goal.at.overflow_add-checked-in-Some-3 c).In-Some (found (goal.at.overflow_add-checked-in-Some-3 c).After-position) in
    let short =
    wrote_short c.loop-size.invariant c.requires.2 (c.loop-size.checked.used + c.in-Some.size) e.0 e.1 _ c.step.ensures.out_after _
    (sym c.step.ensures.value ∙ c.in_ok-next.was)
    in
    omega (arith, short, e.1, c.requires.2)

pub loop-size-preserved : goal.loop-size-preserved
loop-size-preserved c =
    let e = ends (goal.at.loop-size-preserved c).In-Some (found (goal.at.loop-size-preserved c).After-position) in
    walking_on c.loop-size.invariant c.requires.2 (c.loop-size.checked.used + c.in-Some.size) e.0 e.1 _ c.step.ensures.out_after _
    (sym c.step.ensures.value ∙ c.in_ok-next.was)

pub returns : goal.returns
returns c =
    let most = no_end (drop c.loop-size.checked.used c.args.block.now) (sym c.in_default.is ∙ found (goal.at.returns c).After-position) in
    let answers =
    walking_tail c.loop-size.invariant c.requires.2 (length c.args.block.now)
    (omega (
      arith,
      most,
      up_le line_feed (drop c.loop-size.checked.used c.args.block.now),
      length-drop c.loop-size.checked.used c.args.block.now,
      c.loop-size.invariant.inside,
    ))
    refl
    in
    record { value = answers.0; out_after = answers.1 }
