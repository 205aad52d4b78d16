-- The legs of each bucket as a list, so that a slot is found among few.
use Rattle.std.specs.Prelude.{ℕ, ◌+◌, ◌%◌, ◌<◌, List, ◌≡◌, length, get_or}
use Rattle.plain.specs.Lists.{◌is◌}
use Rattle.legs.specs.Figures.{from_at, last_below}
use Rattle.legs.specs.Slots.{slot_at}

unfoldable pub bucket_of : ℕ → ℕ
bucket_of key = key % 61

-- the last of n legs in a bucket; 64 where there is none
abbrev pub last_in : List ℕ → (n bucket : ℕ) → ℕ
last_in legs n bucket = slot_at (last_below (λ k. bucket_of (from_at legs k) is bucket) n)

-- two columns of 64 words: the leg before each leg in its bucket, and each bucket's last leg
pub record Linked (n : ℕ) (legs links : List ℕ) : Type 0 where
  pub long : length links ≡ 128
  pub next_as : (k : ℕ) → k < n → get_or links k 0 ≡ last_in legs k (bucket_of (from_at legs k))
  pub head_as : (bucket : ℕ) → bucket < 64 → get_or links (bucket + 64) 0 ≡ last_in legs n bucket

-- before any leg is linked
pub record Unlinked (links : List ℕ) : Type 0 where
  pub long : length links ≡ 128
  pub none : (k : ℕ) → k < 128 → get_or links k 0 ≡ 64
