-- Slots: the figures of what a leg debits stand at the last leg that debits the same.
use Rattle.std.specs.Prelude.{if◌then◌else◌, ℕ, ◌+◌, ◌-◌, ◌≤◌, ◌<◌, Bool, true, false, List, ◌≡◌, length, Option, Some, None}
use Rattle.plain.specs.Lists.{◌is◌, ◌below◌}
use Rattle.words.specs.Places.{list_from}
use Rattle.legs.specs.Figures.{from_at, to_at, has_at, owes_at, brings, takes, brings_all, takes_all, Figures, short_at, last_below, last_short}

abbrev pub slot_at : Option ℕ → ℕ
slot_at (Some i) = i
slot_at None = 64

-- the last of n legs that debits the key; 64 where none does
unfoldable pub slot_of : List ℕ → (n key : ℕ) → ℕ
slot_of legs n key = slot_at (last_below (λ k. from_at legs k is key) n)

-- two columns of 64 words: the slots of what each leg debits, and of what it credits
abbrev pub Slots : (n : ℕ) → (legs slots : List ℕ) → Type 0
Slots n legs slots = Figures n (λ k. slot_of legs n (from_at legs k)) (λ k. slot_of legs n (to_at legs k)) slots

-- the figures of each leg, read through the slots
unfoldable pub viewed : (slots figures : List ℕ) → List ℕ
viewed slots figures = list_from (λ k. if k below 64 then has_at figures (has_at slots k) else owes_at figures (has_at slots (k - 64))) 0 128

-- slots of debits are places of figures
pub record Low (n : ℕ) (slots : List ℕ) : Type 0 where
  pub long : length slots ≡ 128
  pub low : (k : ℕ) → k < n → has_at slots k < 64

-- ---- figures before and after a change, read through the slots

-- leg j is added, or taken away
abbrev pub WithLeg : ℕ → (legs slots : List ℕ) → (j : ℕ) → (before after : List ℕ) → Type 0
WithLeg n legs slots j before after =
    let was = viewed slots before in Figures n (λ k. has_at was k + brings legs j k) (λ k. owes_at was k + takes legs j k) (viewed slots after)

abbrev pub WithoutLeg : ℕ → (legs slots : List ℕ) → (j : ℕ) → (before after : List ℕ) → Type 0
WithoutLeg n legs slots j before after =
    let was = viewed slots before in Figures n (λ k. has_at was k - brings legs j k) (λ k. owes_at was k - takes legs j k) (viewed slots after)

-- all marked legs are added
abbrev pub WithMarked : ℕ → (ℕ → Bool) → (legs slots : List ℕ) → (before after : List ℕ) → Type 0
WithMarked n on legs slots before after =
    let was = viewed slots before in
    Figures n (λ k. has_at was k + brings_all n on legs k) (λ k. owes_at was k + takes_all n on legs k) (viewed slots after)

-- from a place on, no leg debits what is short and leg j credits
pub record FineFrom (n : ℕ) (legs slots : List ℕ) (j : ℕ) (figures : List ℕ) (from : ℕ) : Type 0 where
  pub inside : from ≤ n
  pub fine : (k : ℕ) → from ≤ k → k < n → (to_at legs j is from_at legs k) ≡ true → short_at (viewed slots figures) k ≡ false

-- the last of n marked legs that debits a short account or short cash
abbrev pub LastShort : (ℕ → Bool) → (held_at held funds_at funds : List ℕ) → ℕ → Option ℕ → Type 0
LastShort on held_at held funds_at funds n found = found ≡ last_short on (viewed held_at held) (viewed funds_at funds) n
