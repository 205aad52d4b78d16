-- No name, one that is cut, or a whole one.
use Rattle.std.proofs.Common.{rules, arith, ◌++◌}
use mathlib.Core.List.{append-nil}
use mathlib.Core.Path.{sym, ap, ◌∙◌}
use lib.Seq.{length-take-le}
use Rattle.import_lines.proofs.Showing.{no_brackets, some-brackets, short_brackets}
use Rattle.import_lines.proofs.put_name.Goals as goal

pub returns-then-name-eq0-clause-put : goal.returns-then-name-eq0-clause-put
returns-then-name-eq0-clause-put g c =
    sym (ap (λ l. c.args.out.now ++ l) (no_brackets c.args.name.now c.if-name-eq0.true) ∙ append-nil c.args.out.now)

pub slice_bounds-put_brackets-end : goal.slice_bounds-put_brackets-end
slice_bounds-put_brackets-end g c = sym (length-take-le 80 c.args.name.now (omega arith))

pub put_brackets-requires : goal.put_brackets-requires
put_brackets-requires g c = (search rules, (c.requires, omega (arith, length-take-le 80 c.args.name.now (omega arith))))

pub returns-then-name-gt80-clause-put : goal.returns-then-name-gt80-clause-put
returns-then-name-gt80-clause-put g c = rw (some-brackets c.args.name.now c.if-name-eq0.false) c.put_brackets.ensures.put

pub returns-clause-put : goal.returns-clause-put
returns-clause-put g c = rw (short_brackets c.args.name.now c.if-name-eq0.false (omega arith)) c.put_brackets-2.ensures.put
