-- `names::tables::name_at` meets its contract: no name is long. Assumes nothing.
use Rattle.std.proofs.Common.{◌≡◌, [], map, get_or, arith}
use Rattle.std.proofs.lemmas.Grind.{common_steps}
use Rattle.names.proofs.tables.name_at.Goals as goal

pub returns-clause-short : goal.returns-clause-short
returns-clause-short c =
    let named : c.unwrap_or.result.now ≡ get_or (map (λ name. name.now) c.args.names.now) c.args.place [] = grind (arith, common_steps) in
    rw named (c.requires.each c.args.place)
