-- Bytes as one number, the first bits of it, a field, and a field written; most significant bit first.
use Rattle.std.specs.Prelude.{ℕ, zero, suc, ◌+◌, ◌-◌, ◌*◌, ◌/◌, ◌%◌, ◌^◌, ◌≤◌, ◌<◌, List, [], ◌∷◌, ◌++◌, length, get_or, drop}

-- each element is a byte
abbrev pub Octets : List ℕ → Type 0
Octets bs = (i : ℕ) → get_or bs i 0 < 2 ^ 8

-- the bytes as one number in base 256
unfoldable pub number : List ℕ → ℕ
number [] = 0
number (b ∷ bs) = b * 2 ^ (8 * length bs) + number bs

-- the last n bytes of a number
unfoldable pub bytes : ℕ → ℕ → List ℕ
bytes zero v = []
bytes (suc n) v = bytes n (v / 2 ^ 8) ++ (v % 2 ^ 8 ∷ [])

-- the number that the first n bits make
unfoldable pub leading : List ℕ → ℕ → ℕ
leading bs n = number bs / 2 ^ (8 * length bs - n)

-- the field of w bits at bit at
unfoldable pub field : List ℕ → ℕ → ℕ → ℕ
field bs at w = leading bs (at + w) % 2 ^ w

-- how many bytes n bits take
abbrev pub whole_bytes : ℕ → ℕ
whole_bytes n = (n + 7) / 8

-- bs with v in the w bits at bit at; what is left of v's last byte is zero, and the bytes after it are kept
unfoldable pub put : List ℕ → ℕ → ℕ → ℕ → List ℕ
put bs at w v = bytes (whole_bytes (at + w)) ((leading bs at * 2 ^ w + v) * 2 ^ (8 * whole_bytes (at + w) - (at + w))) ++ drop (whole_bytes (at + w)) bs

-- w bits at bit at lie in n bytes, and touch at most eight of them
abbrev pub Inside : ℕ → ℕ → ℕ → Type 0
Inside at w n = (1 ≤ w) × (at ≤ 65535) × (at + w ≤ 8 * n) × (whole_bytes (at + w) ≤ at / 8 + 8)
