-- `names::field_place` meets its contract: the table is the fields' names. Assumes nothing.
use Rattle.std.proofs.Common.{rules, ◌≡◌, true, false, refl}
use Rattle.std.specs.Cmp.Lexicographic.{pointwise}
use Rattle.std.proofs.lemmas.Iterator.{YieldsList-from_slice, IsFirst-from_position}
use borrow.Author.Tests.{tests}
use lib.Dec.{eqb}
use Rattle.rulebook.specs.Names.{field_names}
use Rattle.names.proofs.Named.{field_placed}
use Rattle.names.proofs.field_place.Goals as goal

pub returns : goal.returns
unfolding field_names
returns c =
    field_placed c.args.name.now c.iter.result.rest.now c.position.result (rw c.iter.ensures.rest)
    (IsFirst-from_position _ _ c.position.result (λ known. pointwise eqb c.args.name.now known.now ≡ true)
    (λ known. pointwise eqb c.args.name.now known.now ≡ false) c.position.ensures.ran (YieldsList-from_slice c.iter.result.rest.now refl)
    (λ x q k. search (rules, tests)) (λ x q k. search (rules, tests)))
