-- A text cut at a mark, and a text found among others.
use Rattle.std.specs.Prelude.{if◌then◌else◌, ℕ, suc, ◌≤◌, Bool, true, false, ◌&&◌, List, [], ◌∷◌, ◌++◌, length, get_or}
use Rattle.plain.specs.Lists.{◌is◌}

abbrev pub line_feed : ℕ
line_feed = 10

-- how many bytes stand before the first mark; all of them where there is none
unfoldable pub up_to : (mark : ℕ) → List ℕ → ℕ
up_to mark [] = 0
up_to mark (b ∷ rest) = let others = up_to mark rest in if b is mark then 0 else suc others

-- a byte before the first part
unfoldable pub joined : ℕ → List (List ℕ) → List (List ℕ)
joined b [] = (b ∷ []) ∷ []
joined b (part ∷ parts) = (b ∷ part) ∷ parts

-- the parts of a text that marks separate: one more than it has marks
unfoldable pub split : (mark : ℕ) → List ℕ → List (List ℕ)
split mark [] = [] ∷ []
split mark (b ∷ rest) = let others = split mark rest in if b is mark then [] ∷ others else joined b others

-- the same bytes
unfoldable pub same_text : List ℕ → List ℕ → Bool
same_text [] [] = true
same_text [] (b ∷ other) = false
same_text (a ∷ one) [] = false
same_text (a ∷ one) (b ∷ other) = a is b && same_text one other

-- the place of a text among others; how many these are, where it is none of them
unfoldable pub place_in : List (List ℕ) → List ℕ → ℕ
place_in [] name = 0
place_in (known ∷ others) name = let later = place_in others name in if same_text name known then 0 else suc later

-- parts that have at most 80 bytes
pub record Short (parts : List (List ℕ)) : Type 0 where
  pub each : (place : ℕ) → length (get_or parts place []) ≤ 80

-- texts with a mark between them
unfoldable pub join : (mark : ℕ) → List (List ℕ) → List ℕ
join mark [] = []
join mark (part ∷ []) = part
join mark (part ∷ next ∷ others) = part ++ (mark ∷ join mark (next ∷ others))
