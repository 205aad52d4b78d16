-- A pattern's bytes, one after the other, with the numbers that are left. Assumes nothing.
use Prim.Native.Nat.{ℕ, ◌+◌, ◌*◌, ◌≤◌, ◌<◌}
use native.Mathlib.Omega.{arith}
use native.Mathlib.Numerals.{add-one}
use Rattle.std.proofs.lemmas.List.{nil_from_length}
use mathlib.Core.Bool.{Bool, true, false}
use mathlib.Core.List.{List, [], ◌∷◌, ◌++◌, append_assoc, append-nil}
use mathlib.Core.Path.{◌≡◌, refl, sym, ap, ◌∙◌}
use lib.ListN.{length, get_or, drop, length-append, length-drop, drop_of_length-le}
use Rattle.text.proofs.Cutting.{here}
use Rattle.wording.specs.Fill.{is_sign, said, part, left, fill}

-- the bytes up to a place are put, and these numbers are left
pub record Filled (out pattern numbers now rest : List ℕ) (i : ℕ) : Type 0 where
  pub more : now ++ fill (drop i pattern) rest ≡ out ++ fill pattern numbers
  pub room : length now + length (drop i pattern) + 80 * length rest ≤ length out + length pattern + 80 * length numbers

pub none_filled : (out pattern numbers : List ℕ) → Filled out pattern numbers out numbers 0
none_filled out pattern numbers = record { more = refl; room = omega arith }

module _ {out pattern numbers now rest : List ℕ} {i : ℕ} (f : Filled out pattern numbers now rest i) where
  module _ (h : i < length pattern) where
    -- one byte more, whether it is a sign or not
    byte_filled :
        (sign : Bool) → is_sign (get_or pattern i 0) ≡ sign → (now' : List ℕ) → now' ≡ now ++ part sign (get_or pattern i 0) rest
        → length now' + 80 * length (left sign rest) ≤ length now + 1 + 80 * length rest → Filled out pattern numbers now' (left sign rest) (i + 1)
    unfolding fill
    byte_filled sign s now' put room = record {
      more =
          ap (λ (l : List ℕ). l ++ fill (drop (i + 1) pattern) (left sign rest)) put
          ∙ append_assoc now (part sign (get_or pattern i 0) rest) (fill (drop (i + 1) pattern) (left sign rest))
          ∙ ap (λ (later : List ℕ). now ++ later) (sym (ap (λ (p : List ℕ). fill p rest) (here pattern i h) ∙ rw s))
          ∙ f.more;
      room = omega (arith, f.room, length-drop i pattern, length-drop (i + 1) pattern, room);
    }

    -- it is no sign
    pub other_filled :
        is_sign (get_or pattern i 0) ≡ false → (now' : List ℕ) → now' ≡ now ++ (get_or pattern i 0 ∷ []) → Filled out pattern numbers now' rest (i + 1)
    unfolding part left
    other_filled s now' put = byte_filled false s now' put (omega (arith, ap length put, length-append now (get_or pattern i 0 ∷ [])))

    -- it is a sign, and no number is left
    pub bare_filled : is_sign (get_or pattern i 0) ≡ true → length rest ≡ 0 → Filled out pattern numbers now rest (i + 1)
    unfolding part left
    bare_filled s none =
        let empty : rest ≡ [] = nil_from_length rest none in
        let filled : Filled out pattern numbers now (left true rest) (i + 1) =
        byte_filled true s now (rw empty (sym (append-nil now))) (rw empty (omega arith))
        in
        rw empty (rw empty at filled)

    -- it is a sign, and says the next number
    pub sign_filled :
        is_sign (get_or pattern i 0) ≡ true → (n : ℕ) (others now' : List ℕ) → rest ≡ n ∷ others → now' ≡ now ++ said (get_or pattern i 0) n
        → length now' ≤ length now + 80 → Filled out pattern numbers now' others (i + 1)
    unfolding part left
    sign_filled s n others now' e put room =
        let long : length rest ≡ length others + 1 = rw (e, add-one) in
        let filled : Filled out pattern numbers now' (left true rest) (i + 1) =
        byte_filled true s now' (rw e put) (rw e (omega arith))
        in
        rw e at filled

  pub all-filled : length pattern ≤ i → now ≡ out ++ fill pattern numbers
  unfolding fill
  all-filled h =
      sym (append-nil now) ∙ ap (λ (later : List ℕ). now ++ later) (sym (ap (λ (p : List ℕ). fill p rest) (drop_of_length-le pattern h))) ∙ f.more
