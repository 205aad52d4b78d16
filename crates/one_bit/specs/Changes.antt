-- A record with one bit changed, and how many such changes get an answer.
use Rattle.std.specs.Prelude.{if◌then◌else◌, ℕ, zero, suc, ◌+◌, ◌/◌, ◌%◌, ◌^◌, List, get_or, set}
use Rattle.std.specs.Int.Bits.{bit_xor}
use Rattle.plain.specs.Lists.{◌is◌}
use Rattle.rulebook.specs.Record.{read_of, read_number}

-- the record with this bit changed
unfoldable pub changed : List ℕ → ℕ → List ℕ
changed octets bit = set octets (bit / 8) (bit_xor (get_or octets (bit / 8) 0) (2 ^ 7 / 2 ^ (bit % 8)))

-- the reader's answer to it: 0 for an order, else the refusal's number
unfoldable pub answer_to : List ℕ → ℕ → ℕ
answer_to octets bit = read_number (read_of (changed octets bit))

-- how many of the first n changes get this answer
unfoldable pub count_of : List ℕ → ℕ → ℕ → ℕ
count_of octets number zero = 0
count_of octets number (suc n) = count_of octets number n + (if answer_to octets n is number then 1 else 0)
