-- Values packed without gaps by a list of widths, and cut again.
use Rattle.std.specs.Prelude.{ℕ, ◌+◌, ◌*◌, ◌/◌, ◌^◌, ◌≤◌, ◌<◌, List, [], ◌∷◌}
use Rattle.bits.specs.Bits.{field, put, whole_bytes}

-- n with the values behind it, each in its width
abbrev pub pack : ℕ → List ℕ → List ℕ → ℕ
pack n [] [] = n
pack n [] (v ∷ vs) = n
pack n (w ∷ ws) [] = n
pack n (w ∷ ws) (v ∷ vs) = pack (n * 2 ^ w + v) ws vs

-- the fields of those widths, from bit at
abbrev pub cut : List ℕ → ℕ → List ℕ → List ℕ
cut bs at [] = []
cut bs at (w ∷ ws) = field bs at w ∷ cut bs (at + w) ws

-- how many bits the widths take
abbrev pub total : List ℕ → ℕ
total [] = 0
total (w ∷ ws) = w + total ws

-- a value for each width, which it fits
abbrev pub Fit : List ℕ → List ℕ → Type 0
Fit [] [] = Unit
Fit [] (v ∷ vs) = ⊥
Fit (w ∷ ws) [] = ⊥
Fit (w ∷ ws) (v ∷ vs) = (v < 2 ^ w) × Fit ws vs

-- each of the widths, from bit at, is at least 1 and touches at most eight bytes
abbrev pub Spans : ℕ → List ℕ → Type 0
Spans at [] = Unit
Spans at (w ∷ ws) = (1 ≤ w) × (whole_bytes (at + w) ≤ at / 8 + 8) × Spans (at + w) ws

-- the values written one after the other: what the proofs say of a loop that packs
abbrev pub puts : List ℕ → ℕ → List ℕ → List ℕ → List ℕ
puts ds at [] [] = ds
puts ds at [] (v ∷ vs) = ds
puts ds at (w ∷ ws) [] = ds
puts ds at (w ∷ ws) (v ∷ vs) = puts (put ds at w v) (at + w) ws vs
