-- A new security goes last, and all of it is moved outside: it goes last with its outside count. Assumes nothing.
use Rattle.std.specs.Prelude.{if◌then◌else◌}
use Prim.Native.Nat.{ℕ, ◌+◌}
use native.Mathlib.Omega.{arith}
use mathlib.Core.Bool.{Bool, true, false, true≢false}
use mathlib.Core.List.{List, [], ◌∷◌, ◌++◌, map}
use mathlib.Core.Path.{◌≡◌, refl, ap, ◌∙◌}
use borrow.Author.Tests.{eq-eqb}
use Rattle.plain.specs.Lists.{◌is◌, some, total}
use Rattle.rulebook.specs.Ledger.{Holdings, admitted, outside_of, put_outside, put_securities, new_security, with_outside}
use Rattle.rulebook.specs.Movements.{credit, type91}
use Rattle.rulebook.specs.declared.Security.{Security}
use Rattle.rulebook.specs.declared.Shares.{Shares}

module _ (code : ℕ) (issued : Shares) where
  abbrev new : ℕ → Security
  new outside = with_outside outside (new_security code issued)

  abbrev figure : Security → ℕ
  figure s = if s.code is code then (s.outside).0 else 0

  abbrev changed : ℕ → Security → Security
  changed v s = if s.code is code then with_outside v s else s

  -- none of the securities has the code
  none_outside : (l : List Security) → some (λ s. s.code is code) l ≡ false → total figure (l ++ (new 0 ∷ [])) ≡ 0
  none_outside [] e = rw (eq-eqb code code refl)
  none_outside (s ∷ l) e = go (s.code is code) refl (none_outside l)
    where
      go :
          (b : Bool) → (s.code is code) ≡ b → (some (λ s. s.code is code) l ≡ false → total figure (l ++ (new 0 ∷ [])) ≡ 0)
          → figure s + total figure (l ++ (new 0 ∷ [])) ≡ 0
      go true t rest = absurd (true≢false (rw t at e))
      go false t rest = rw t (omega (arith, rest (rw t at e)))

  none_changed : (v : ℕ) (l : List Security) → some (λ s. s.code is code) l ≡ false → map (changed v) (l ++ (new 0 ∷ [])) ≡ l ++ (new v ∷ [])
  none_changed v [] e = rw (eq-eqb code code refl)
  none_changed v (s ∷ l) e = go (s.code is code) refl (none_changed v l)
    where
      go :
          (b : Bool) → (s.code is code) ≡ b → (some (λ s. s.code is code) l ≡ false → map (changed v) (l ++ (new 0 ∷ [])) ≡ l ++ (new v ∷ []))
          → changed v s ∷ map (changed v) (l ++ (new 0 ∷ [])) ≡ s ∷ (l ++ (new v ∷ []))
      go true t rest = absurd (true≢false (rw t at e))
      go false t rest = rw t (ap (λ (r : List Security). s ∷ r) (rest (rw t at e)))

  pub admitted-outside :
      (q : ℕ) (h : Holdings) → admitted code h ≡ false
      → credit (type91 code) q (put_securities (h.securities ++ (new 0 ∷ [])) h) ≡ put_securities (h.securities ++ (new q ∷ [])) h
  unfolding credit put_outside put_securities outside_of admitted
  admitted-outside q h e =
      let count : total figure (h.securities ++ (new 0 ∷ [])) + q ≡ q = omega (arith, none_outside h.securities e) in
      ap (λ (l : List Security). put_securities l h) (ap (λ (v : ℕ). map (changed v) (h.securities ++ (new 0 ∷ []))) count ∙ none_changed q h.securities e)
