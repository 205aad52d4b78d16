-- The places of a record's fields.
use Rattle.std.specs.Prelude.{ℕ, ◌<◌, List, length, get_or}

-- how many fields a record has: the place of no field
abbrev pub no_place : ℕ
no_place = 18

-- places that name fields of a record
pub record Known (places : List ℕ) : Type 0 where
  pub field : (i : ℕ) → i < length places → get_or places i 0 < no_place
