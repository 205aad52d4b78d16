-- What was read stands behind the bytes held: as many bytes were lent as the buffer has room for, and not more than that were read.
use Rattle.std.proofs.Common.{◌≡◌, ◌+◌, ◌-◌, ◌≤◌, refl, length, take, drop, arith}
use Rattle.table_buffer.specs.declared.Rest.TheVariants.{More}
use Rattle.import.proofs.Laws.{read_behind}
use Rattle.import.proofs.rows.read_on.Goals as goal
use Rattle.import.proofs.rows.read_on.Goals.{in-More, in-Ended}
use borrow.Rule.Slice.PartMut.{mid_len}

pub returns : goal.returns
returns g c =
    let a = c.args in
    let filled = c.fill-filled in
    let room : length (take (16383 - a.held) (drop a.held a.input.now)) ≡ 16383 - a.held =
    mid_len a.held 16383 a.input.now (omega (arith, c.requires.0)) in
    let most : filled.result.size ≤ 16383 - a.held = omega (arith, filled.ensures.inside, room) in
    let all : c.match-filled.rest ≡ More → a.held + filled.result.size ≡ 16383 =
    elim c.match-filled.branch [ in-More w ↦ (λ e. omega (arith, filled.ensures.full w.in-More.is, room, c.requires.1)) | in-Ended w ↦ (λ e. cc (w.rest-is)) ] in
    record {
      more = take filled.result.size filled.new.input;
      bytes =
          read_behind a.held filled.result.size (16383 - a.held) a.input.now filled.new.input (omega (arith, c.requires.0, c.requires.1))
          (omega (arith, most, filled.auto.input, room));
      starts = refl;
      ends = omega (arith, most, c.requires.1);
      full = all;
      same_line = refl;
      same_empty = refl;
    }
