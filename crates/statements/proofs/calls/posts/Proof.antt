-- `statements::calls::posts` meets its contract: by the table of forms. Assumes nothing.
use Rattle.rulebook.specs.Forms.{forms, row_of}
use Rattle.statements.proofs.Results.{posts_else}
use Rattle.statements.proofs.calls.posts.Statement.{statement}
use Rattle.statements.proofs.calls.posts.Tie as tie

returns : tie.Need-returns-in-15
unfolding forms row_of
returns c = rw c.in-15.is

returns-2 : tie.Need-returns-in-17
unfolding forms row_of
returns-2 c = rw c.in-17.is

pub posts_spec : {M : Type 1} → statement M
posts_spec = tie.close (tie.spec returns returns-2 (λ c. posts_else c.args.form c.in_default.in_default-own.rest.0.1 c.in_default.in_default-own.rest.1))
