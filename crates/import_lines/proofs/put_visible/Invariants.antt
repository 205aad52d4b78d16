-- The first bytes are shown.
use Rattle.std.proofs.Common.{◌≡◌, ◌≤◌, ◌+◌, ◌++◌, length, take, map}
use Rattle.import_lines.specs.Told.{shown}
use Rattle.import_lines.proofs.put_visible.Given as goal

abbrev pub invariant-loop-b : goal.invariant-loop-b
invariant-loop-b g l =
    (l.out ≡ l.initial.out ++ map shown (take l.b-index l.bytes)) × (length l.out ≤ length l.initial.out + l.b-index)
