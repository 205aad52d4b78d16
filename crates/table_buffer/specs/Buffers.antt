-- Bytes of the buffers.
use Rattle.std.specs.Prelude.{ℕ}

-- of the lines, the last of which is kept for a line feed
abbrev pub INPUT : ℕ
INPUT = 16384

abbrev pub BLOCK : ℕ
BLOCK = 16383

-- of the records of these lines
abbrev pub OUT : ℕ
OUT = 327720
