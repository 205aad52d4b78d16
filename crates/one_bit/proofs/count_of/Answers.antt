-- A turn counts one change more.
use Rattle.std.proofs.Common.{◌≡◌, ℕ, ◌+◌, List, Bool, true, false, refl, sym, ◌∙◌, arith, add-one, add-zero, eq-eqb, ne_eqb}
use Rattle.std.specs.Bool.{if◌then◌else◌}
use Rattle.plain.specs.Lists.{◌is◌}
use Rattle.one_bit.specs.Changes.{answer_to, count_of}
use Rattle.one_bit.proofs.count_of.Goals as goal
use Rattle.one_bit.proofs.count_of.Goals.{then-answer_to-number, else-answer_to-number}

one_more :
    (octets : List ℕ) (number n count : ℕ) (t : Bool) → (answer_to octets n is number) ≡ t → count ≡ count_of octets number n
    → count + (if t then 1 else 0) ≡ count_of octets number (n + 1)
unfolding count_of
one_more octets number n count t a e = rw (add-one n, a, e)

pub loop-bit-init : goal.loop-bit-init
unfolding count_of
loop-bit-init c = (omega arith, refl)

pub loop-bit-preserved : goal.loop-bit-preserved
loop-bit-preserved c =
    let told : answer_to c.args.record c.loop-bit.bit ≡ c.answer_to.result = sym c.answer_to.ensures in
    elim c.if-answer_to-number.branch [
      | then-answer_to-number w ↦ (
        omega (arith, w.count-is),
        w.count-is ∙ one_more _ _ _ _ true (eq-eqb _ _ (told ∙ w.if-answer_to-number.true)) c.loop-bit.invariant.1,
      )
      | else-answer_to-number w ↦ (
        omega (arith, w.count-is),
        w.count-is ∙ sym (add-zero _) ∙ one_more _ _ _ _ false (ne_eqb _ _ (λ e. w.if-answer_to-number.false (sym told ∙ e))) c.loop-bit.invariant.1,
      )
    ]
