-- Which forms can lack space. Assumes nothing.
use Prim.Native.Nat.{ℕ}
use mathlib.Core.Path.{◌≡◌, refl}
use mathlib.Core.Bool.{Bool, true, false, not, ◌||◌}
use borrow.Author.Tests.{not-false}
use Rattle.plain.specs.Lists.{◌is◌, ◌one_of◌, within}
use Rattle.rulebook.specs.Forms.{Form, forms}
use Rattle.rulebook.proofs.Sizes.{never_grows}
use Rattle.rulebook.proofs.ByCall.{HasForm, by_row}

-- each form is one that a test of space speaks of, or one that never grows
missed : ℕ → Form → Bool
missed n f = not (n is 2 || n is 3 || within 5 9 n || within 12 13 n || n is 14 || n is 19 || n is 20 || n one_of never_grows)

pub never :
    (n : ℕ) → HasForm n → (n is 2) ≡ false → (n is 3) ≡ false → within 5 9 n ≡ false → within 12 13 n ≡ false
    → (n is 14) ≡ false → (n is 19) ≡ false → (n is 20) ≡ false → (n one_of never_grows) ≡ true
unfolding missed
never n h a b c d e f g = not-false _ (simp (a, b, c, d, e, f, g) at (by_row missed (unfold forms in refl) n h))
