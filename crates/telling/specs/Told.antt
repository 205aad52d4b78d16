-- How a program is told what a book says: in words that it lends, each buffer by a pointer and a length.
use Rattle.std.specs.Prelude.{if◌then◌else◌, ℕ, List, ◌≡◌, length, get_or, Result, Ok, Err}
use Rattle.plain.specs.Lists.{◌is_not◌, ◌below◌}
use Rattle.book.specs.Meaning.{book_length}
use Rattle.book.specs.Stored.{Kept}
use Rattle.telling.specs.declared.Wrong.{Wrong}

-- what is answered for a book or values that are not as long as they should be, and for a place behind the last
abbrev pub wrong_book : ℕ
wrong_book = 1001

abbrev pub wrong_values : ℕ
wrong_values = 1004

abbrev pub no_such_place : ℕ
no_such_place = 1005

abbrev pub number_of : Wrong → ℕ
number_of Wrong.Book = wrong_book
number_of Wrong.Values = wrong_values
number_of Wrong.Place = no_such_place

-- 0 where all is told
abbrev pub number_in : Result (Unit {0}) Wrong → ℕ
number_in (Ok told) = 0
number_in (Err wrong) = number_of wrong

-- the one premise: a buffer of a book's length holds what a fresh book and calls left there. Nothing is asked of another
abbrev pub Lent : List ℕ → Type 0
Lent book = length book ≡ book_length → Kept book

-- by the lengths of the book and of the values, and how many values there are to tell
unfoldable pub lengths_number : (book values width : ℕ) → ℕ
lengths_number book values width = if book is_not book_length then wrong_book else if values is_not width then wrong_values else 0

-- the figures are told
pub record Tells (book values figures : List ℕ) (number : ℕ) (values' : List ℕ) : Type 0 where
  pub numbered : number ≡ lengths_number (length book) (length values) (length figures)
  pub told : number ≡ 0 → values' ≡ figures
  pub untouched : (number ≡ 0 → ⊥) → values' ≡ values

-- by a place in a list too
unfoldable pub place_number : (book values width place rows : ℕ) → ℕ
place_number book values width place rows =
    if lengths_number book values width is_not 0 then lengths_number book values width else if place below rows then 0 else no_such_place

-- the figures of what stands at a place of a list are told
pub record TellsAt {A : Type 0} (book values : List ℕ) (width : ℕ) (figures : A → List ℕ) (place : ℕ) (rows : List A) (number : ℕ) (values' : List ℕ)
    : Type 0 where
  pub numbered : number ≡ place_number (length book) (length values) width place (length rows)
  pub told : number ≡ 0 → (other : A) → values' ≡ figures (get_or rows place other)
  pub untouched : (number ≡ 0 → ⊥) → values' ≡ values
