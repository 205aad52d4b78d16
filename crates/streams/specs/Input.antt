-- How far a buffer was filled.
use Rattle.std.specs.Prelude.{ℕ, ◌%◌, ◌≤◌, ◌≡◌}
use Rattle.streams.specs.declared.Filled.{Filled}
use Rattle.streams.specs.declared.Follows.TheVariants.{More, Failed}

-- what was read lies inside the buffer, and is all of it where more may follow
pub record Within (filled : Filled) (size : ℕ) : Type 0 where
  pub inside : filled.size ≤ size
  pub full : filled.follows ≡ More → filled.size ≡ size

-- and it is whole records where the input could not be read
pub record RecordsWithin (filled : Filled) (size : ℕ) : Type 0 where
  pub within : Within filled size
  pub whole : filled.follows ≡ Failed → filled.size % 40 ≡ 0
