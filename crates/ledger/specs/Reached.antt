-- Books that came from the fresh one by calls, with what was called and answered.
use Rattle.std.specs.Prelude.{ℕ, true, List, [], ◌∷◌, ◌++◌, ◌≡◌}
use Rattle.rulebook.specs.TypeTable.{requested}
use Rattle.rulebook.specs.Ledger.{first_rate, asked_of}
use Rattle.rulebook.specs.Calls.{call, Made, accepted_calls, last_rate, Balanced}
use Rattle.rulebook.specs.Custody.{HeldCounts}
use Rattle.rulebook.specs.declared.Account.{Account}
use Rattle.rulebook.specs.Answers.{Answer}
use Rattle.book.specs.Meaning.{ledger_of}
use Rattle.book.specs.Fresh.{Freshened}
use Rattle.ledger.specs.Called.{Called}

pub data Reached : List ℕ → List Made → Type 0 where
  -- the words that `fresh` made
  made : {before book : List ℕ} → Freshened before true book → Reached book []
  -- the words that `call` left, with the call, its answer and its area when it returned
  called :
      {book book' : List ℕ} {history : List Made} (octets area : List ℕ) {answer : Answer} {area' : List ℕ} → Reached book history
      → Called book octets area answer book' area' → Reached book' (history ++ (record { made = call octets area; answer = answer; area = area' } ∷ []))

-- RULES 12.1: every book that was reached is balanced
unfoldable pub ReachedBalanced : Type 0
ReachedBalanced = (book : List ℕ) (history : List Made) → Reached book history → Balanced history (ledger_of book)

-- RULES 12.18: and its rate is that of the last accepted form 18, or the first one
unfoldable pub ReachedRate : Type 0
ReachedRate = (book : List ℕ) (history : List Made) → Reached book history → (ledger_of book).rate ≡ last_rate first_rate (accepted_calls history)

-- RULES 12.20: and its accounts of type 50 have what its open requests ask for
unfoldable pub ReachedAwaited : Type 0
ReachedAwaited =
    (book : List ℕ) (history : List Made) → Reached book history → (a : Account) → a.typ ≡ requested
    → (ledger_of book).holdings.balance a ≡ asked_of a (ledger_of book).requests

-- RULES 12.25, 12.26: and the held count that it keeps of each security is what the accounts hold
unfoldable pub ReachedHeld : Type 0
ReachedHeld = (book : List ℕ) (history : List Made) → Reached book history → HeldCounts history (ledger_of book)
