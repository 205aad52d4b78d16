-- `figures::put_security` meets its contract. Assumes nothing.
use mathlib.Core.Path.{◌∙◌}
use borrow.Author.Rules.{rules}
use Rattle.words.proofs.Places.{whole}
use Rattle.figures.proofs.put_security.Statement.{statement}
use Rattle.figures.proofs.put_security.Tie as tie

returns : tie.Need-returns
returns c =
    let write = c.before.before in
    let s = write.before.before.before.before in
    write.write.ensures ∙ whole s.args.values.now _ 4 s.requires

pub put_security_spec : {M : Type 1} → statement M
put_security_spec = tie.close (tie.spec (λ c. search rules) (λ c κs. search rules) (λ c. search rules) returns)
