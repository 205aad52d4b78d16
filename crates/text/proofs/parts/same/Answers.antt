-- `text::parts::same` meets its contract: `==` compares from the first byte on. Assumes nothing.
use Rattle.std.proofs.Common.{◌∙◌, sym}
use Rattle.text.proofs.Cutting.{same-text}
use Rattle.text.proofs.parts.same.Goals as goal

pub returns : goal.returns
returns c = c.eq.ensures ∙ sym (same-text c.args.one.now c.args.other.now)
