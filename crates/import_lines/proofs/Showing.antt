-- Bytes that are shown, and names in brackets. Assumes nothing.
use Prim.Native.Nat.{ℕ, ◌+◌, zero, suc, ◌≤◌, ◌<◌}
use native.Mathlib.Omega.{arith}
use native.Mathlib.Numerals.{add-one}
use mathlib.Core.List.{List, [], ◌∷◌, ◌++◌, map}
use mathlib.Core.Path.{◌≡◌, refl, ap}
use lib.ListN.{length, get_or, take}
use lib.Seq.{take_all}
use Rattle.text.specs.Text.{text}
use Rattle.import_lines.specs.Told.{shown, bracketed}

shown-suc : (l : List ℕ) (i : ℕ) → i < length l → map shown (take (suc i) l) ≡ map shown (take i l) ++ (shown (get_or l i 0) ∷ [])
shown-suc [] i h = absurd (omega arith)
shown-suc (b ∷ l) zero h = refl
shown-suc (b ∷ l) (suc i) h = ap (λ (m : List ℕ). shown b ∷ m) (shown-suc l i (omega arith))

pub shown-more : (l : List ℕ) (i : ℕ) → i < length l → map shown (take (i + 1) l) ≡ map shown (take i l) ++ (shown (get_or l i 0) ∷ [])
shown-more l i h = rw (add-one i) (shown-suc l i h)

pub no_brackets : (name : List ℕ) → length name ≡ 0 → bracketed name ≡ []
unfolding bracketed
no_brackets [] e = refl
no_brackets (b ∷ name) e = absurd (omega arith)

pub some-brackets : (name : List ℕ) → (length name ≡ 0 → ⊥) → bracketed name ≡ text " (" ++ map shown (take 80 name) ++ text ")"
unfolding bracketed
some-brackets [] n = absurd (n refl)
some-brackets (b ∷ name) n = refl

pub short_brackets : (name : List ℕ) → (length name ≡ 0 → ⊥) → length name ≤ 80 → bracketed name ≡ text " (" ++ map shown name ++ text ")"
short_brackets name n h = rw (some-brackets name n, take_all 80 name h)
