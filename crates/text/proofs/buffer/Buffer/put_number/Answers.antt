-- The library's digits are the number's.
use Rattle.std.proofs.Common.{◌++◌}
use mathlib.Core.Path.{sym, ap, ◌∙◌}
use Rattle.text.proofs.Digits.{decimal-is}
use Rattle.text.proofs.buffer.Buffer.put_number.Goals as goal

pub returns-clause-put : goal.returns-clause-put
returns-clause-put g c =
    c.put.ensures ∙ ap (λ l. c.args.self.now ++ l) (c.as_bytes.ensures.value ∙ c.format.ensures.text ∙ sym (decimal-is c.args.n c.ranges.n.fits))
