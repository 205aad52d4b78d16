-- Texts as bytes, numbers in decimal digits, and bytes put into a buffer.
use Rattle.std.specs.Prelude.{if◌then◌else◌, ℕ, zero, suc, ◌+◌, ◌/◌, ◌%◌, ◌≤◌, List, [], ◌∷◌, ◌++◌, ◌≡◌, length, take, drop}
use Prim.Native.Char.{code}
use Prim.Native.String.{String}
use Prim.Native.String as Text
use Rattle.plain.specs.Lists.{◌below◌}

-- the bytes of a text of ASCII characters
abbrev pub text : String → List ℕ
text Text.[] = []
text (Text.◌∷◌ c rest) = code c ∷ text rest

-- a digit, which is below 10
abbrev pub digit : ℕ → List ℕ
digit d = (48 + d) ∷ []

-- the digits of n, the most significant first, where there are steps enough
unfoldable pub digits : (steps : ℕ) → ℕ → List ℕ
digits zero n = []
digits (suc steps) n =
    let before = digits steps (n / 10) in
    if n below 10 then digit n else before ++ digit (n % 10)

-- a number in decimal digits, with no leading zero
unfoldable pub decimal : ℕ → List ℕ
decimal n = digits (suc n) n

-- the buffer with these bytes from a place on
unfoldable pub put : List ℕ → ℕ → List ℕ → List ℕ
put out at bytes = take at out ++ bytes ++ drop (at + length bytes) out

-- bytes were put into a buffer that has room for them, and the next place is the one behind them
pub record Put (before : List ℕ) (at : ℕ) (bytes after : List ℕ) (next : ℕ) : Type 0 where
  pub room : at + length bytes ≤ length before
  pub contents : after ≡ put before at bytes
  pub place : next ≡ at + length bytes
