-- What a C program lends: buffers of words, each by a pointer and a length. A wrong length is answered by a number of its own, above every refusal's.
use Rattle.std.specs.Prelude.{if◌then◌else◌, ℕ, List, ◌≡◌, length}
use Rattle.plain.specs.Lists.{◌is◌}
use Rattle.rulebook.specs.Ledger.{fresh}
use Rattle.book.specs.Meaning.{book_length, ledger_of}
use Rattle.telling.specs.Told.{wrong_book, Lent}

-- what is answered for counts and fields that are not as long as they should be
abbrev pub wrong_counts : ℕ
wrong_counts = 1002

abbrev pub wrong_fields : ℕ
wrong_fields = 1003

-- how many words the counts and the fields have
abbrev pub count_words : ℕ
count_words = 6

abbrev pub field_words : ℕ
field_words = 18

-- a fresh book
unfoldable pub fresh_number : List ℕ → ℕ
fresh_number book = if length book is book_length then 0 else wrong_book

pub record FreshIn (book : List ℕ) (number : ℕ) (book' : List ℕ) : Type 0 where
  pub numbered : number ≡ fresh_number book
  pub ledger : number ≡ 0 → ledger_of book' ≡ fresh
  pub kept : Lent book'
  pub untouched : (number ≡ 0 → ⊥) → book' ≡ book
