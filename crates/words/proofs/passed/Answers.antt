-- `words::passed`: four rows without the key are passed over.
use Rattle.std.proofs.Common.{◌≡◌, ◌+◌, ◌-◌, ◌*◌, ℕ, arith, ap, ◌∙◌}
use Rattle.words.specs.Places.{first_from}
use Rattle.words.specs.Tables.{is_key}
use Rattle.words.proofs.Tables.{four-passed}
use Rattle.words.proofs.passed.Goals as goal

pub loop-four-preserved : goal.loop-four-preserved
loop-four-preserved c =
    let t = c.args.table.now in
    let further : 4 * c.loop-four.four + 4 ≡ 4 * (c.loop-four.four + 1) = omega arith in
    c.loop-four.invariant
    ∙ four-passed t c.args.key c.args.n (4 * c.loop-four.four) (omega arith) c.if-table-i.false c.if-table-i-2.false c.if-table-i-3.false
    c.if-table-i-4.false
    ∙ ap (λ (k : ℕ). first_from (is_key t c.args.key) k (c.args.n - k)) further
