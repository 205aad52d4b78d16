use Rattle.std.proofs.Common.{◌≡◌, ◌∙◌, arith, rules}
use Rattle.std.proofs.lemmas.Slice.Zip.{zip_end}
use Rattle.std.specs.Iterator.Adapters.{zip_first, zip_second}
use Rattle.std.specs.Slice.Iter.{iter_rest}
use Rattle.bits.proofs.Packing.{rest_none, rest_all, puts-front}
use Rattle.bits.proofs.pack_bits.Goals as goal

pub loop-width-init : goal.loop-width-init
loop-width-init c = (rest_none _ _ _ c.requires.0 c.requires.1 c.requires.2 c.requires.3, λ i. (c.type_inv.d i).fits)

pub returns : goal.returns
returns c =
    let i = c.loop-width.invariant in
    let f : iter_rest (zip_first c.into_iter-width-iterator.result) ≡ c.args.widths.now = search rules in
    let s : iter_rest (zip_second c.into_iter-width-iterator.result) ≡ c.args.values.now = search rules in
    let e = zip_end _ _ _ _ _ c.next.new.self _ f s c.loop-width.yielded_by c.in-None.is c.next.ensures.steps in
    rest_all _ _ _ _ _ _ i.0 (omega (arith, e, i.0.same)) ∙ puts-front _ c.args.widths.now c.args.values.now i.1 c.requires.2 c.requires.3
