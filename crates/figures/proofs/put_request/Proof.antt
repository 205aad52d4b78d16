-- `figures::put_request` meets its contract. Assumes nothing.
use mathlib.Core.Path.{◌∙◌}
use borrow.Author.Rules.{rules}
use Rattle.words.proofs.Places.{whole}
use Rattle.figures.proofs.put_request.Statement.{statement}
use Rattle.figures.proofs.put_request.Tie as tie

returns : tie.Need-returns
returns c =
    let write = c.before.before in
    let s = write.before.before.before.before in
    write.write.ensures ∙ whole s.args.values.now _ 5 s.requires

pub put_request_spec : {M : Type 1} → statement M
put_request_spec = tie.close (tie.spec (λ c. search rules) (λ c κs. search rules) (λ c. search rules) returns)
