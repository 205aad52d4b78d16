-- `securities::admitted`: a security is admitted where the search finds it.
use Rattle.std.proofs.Common.{ap, ◌∙◌}
use Rattle.std.specs.Prelude.{is_some}
use Rattle.securities.proofs.StoredSecurities.{admitted-found}
use Rattle.securities.proofs.admitted.Goals as goal

pub returns : goal.returns
returns c = λ h. c.is_some.ensures ∙ ap is_some c.find.ensures.place ∙ admitted-found c.args.securities.now c.args.code h
