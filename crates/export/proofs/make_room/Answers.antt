-- What is printed leaves the buffer.
use Rattle.std.proofs.Common.{arith, append-nil}
use Rattle.export.proofs.make_room.Goals as goal

pub returns : goal.returns
returns c = record { printed = c.args.out.now; lines = rw c.clear.ensures (append-nil c.args.out.now); room = rw c.clear.ensures (omega arith) }
