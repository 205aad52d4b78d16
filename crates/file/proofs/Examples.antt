-- The records of some files, by computing. Assumes nothing.
use mathlib.Core.List.{[], ◌∷◌}
use mathlib.Core.Path.{◌≡◌, refl}
use lib.ListN.{replicate}
use Rattle.file.specs.Records.{parts, records_of}

pub empty : records_of [] ≡ []
unfolding records_of parts
empty = refl

pub two_and_a_tail : records_of (replicate 81 7) ≡ replicate 40 7 ∷ replicate 40 7 ∷ (7 ∷ []) ∷ []
unfolding records_of parts
two_and_a_tail = refl
