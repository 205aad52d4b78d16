use Rattle.std.proofs.Common.{◌≡◌, ℕ, ◌+◌, ◌-◌, ◌/◌, ◌<◌, ◌∙◌, arith, get_or, add_assoc}
use Rattle.bits.specs.Bits.{whole_bytes}
use Rattle.bits.proofs.Numbers.{folded_more, folded_field, length_part, get_or_part}
use Rattle.bits.proofs.get_bits.Goals as goal

pub loop-b-preserved : goal.loop-b-preserved
loop-b-preserved c =
    let n : ℕ = whole_bytes (c.args.at + c.args.width) - c.args.at / 8 in
    let l : c.loop-b.b-index < n = omega (arith, length_part (c.args.at / 8) n c.args.s.now (omega arith)) in
    let e : c.from.result ≡ get_or c.args.s.now (c.args.at / 8 + c.loop-b.b-index) 0 = c.from.ensures ∙ get_or_part _ _ _ _ l in
    rw (e, ← add_assoc)
    (folded_more _ _ _ _ c.loop-b.invariant (omega arith) (c.type_inv.s _).fits (omega arith))

pub returns : goal.returns
returns c =
    let n : ℕ = whole_bytes (c.args.at + c.args.width) - c.args.at / 8 in
    let e : c.args.at / 8 + c.loop-b.b-index ≡ whole_bytes (c.args.at + c.args.width) = omega (arith, length_part (c.args.at / 8) n c.args.s.now (omega arith)) in
    folded_field _ _ _ _ (λ i. (c.type_inv.s i).fits) (omega arith) (omega arith) (rw e at c.loop-b.invariant)
