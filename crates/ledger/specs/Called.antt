-- What one call does: answer with its number, ledger and area are the rulebook's.
use Rattle.std.specs.Prelude.{ℕ, List, ◌≡◌, Err}
use Rattle.rulebook.specs.Call.{call_of, answer_number}
use Rattle.rulebook.specs.Answers.{Answer}
use Rattle.rulebook.specs.declared.Refusal.{Refusal}
use Rattle.book.specs.Meaning.{ledger_of}
use Rattle.book.specs.Stored.{Kept}

pub record Called (book octets area : List ℕ) (answer : Answer) (book' area' : List ℕ) : Type 0 where
  pub answered : answer ≡ (call_of (ledger_of book) octets area).answer
  -- 0 accepted, else the refusal's number
  pub number : answer_number answer ≡ answer_number (call_of (ledger_of book) octets area).answer
  pub ledger : ledger_of book' ≡ (call_of (ledger_of book) octets area).book
  pub written : area' ≡ (call_of (ledger_of book) octets area).area
  -- what calls keep true of a book
  pub kept : Kept book'
  -- a refusal changes no word of the book and no byte of the area
  pub refused : (refusal : Refusal) → answer ≡ Err refusal → (book' ≡ book) × (area' ≡ area)
