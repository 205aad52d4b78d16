-- Demand 3, held counts, the rate and the requests of the code's own books: from the rulebook's theorems, and what `fresh` and `call` promise. Assumes nothing.
use Prim.Native.Nat.{ℕ}
use mathlib.Core.Path.{◌≡◌, refl, sym, ap, subst, ◌∙◌}
use mathlib.Core.List.{List, [], ◌∷◌, ◌++◌}
use Rattle.rulebook.specs.Ledger.{Ledger, first_rate, fresh}
use Rattle.rulebook.specs.Call.{call_of}
use Rattle.rulebook.specs.Calls.{Call, call, Made, result_of, calls_on, book_after, accepted_calls, last_rate, Balanced, Demand3}
use Rattle.rulebook.specs.Custody.{HeldCounts, HeldOfCalls}
use Rattle.rulebook.specs.Rates.{RateOfCalls}
use Rattle.rulebook.proofs.Custody.{held-of_calls}
use Rattle.rulebook.proofs.Demand3.{demand3}
use Rattle.rulebook.proofs.Rates.{rate_of_calls_lem}
use Rattle.book.specs.Meaning.{ledger_of}
use Rattle.book.specs.Stored.{Kept}
use Rattle.ledger.specs.Reached.{Reached, made, called, ReachedBalanced, ReachedHeld, ReachedRate, ReachedAwaited}

-- a call, as it is answered on a book
abbrev made_on : Ledger → Call → Made
made_on b c = record { made = c; answer = (result_of b c).answer; area = (result_of b c).area }

-- a list of calls with one more
calls-more : (b : Ledger) (cs : List Call) (c : Call) → calls_on b (cs ++ (c ∷ [])) ≡ calls_on b cs ++ (made_on (book_after b cs) c ∷ [])
unfolding calls_on book_after
calls-more b [] c = refl
calls-more b (d ∷ cs) c = ap (λ (l : List Made). made_on b d ∷ l) (calls-more (result_of b d).book cs c)

after_more : (b : Ledger) (cs : List Call) (c : Call) → book_after b (cs ++ (c ∷ [])) ≡ (result_of (book_after b cs) c).book
unfolding book_after
after_more b [] c = refl
after_more b (d ∷ cs) c = after_more (result_of b d).book cs c

-- a book that was reached means what the rulebook's calls lead to
pub record Follows (book : List ℕ) (history : List Made) : Type 0 where
  pub calls : List Call
  pub kept : Kept book
  pub ledger : ledger_of book ≡ book_after fresh calls
  pub made : history ≡ calls_on fresh calls

pub follows : {book : List ℕ} {history : List Made} → Reached book history → Follows book history
unfolding book_after calls_on result_of
follows (made f) = record { calls = []; kept = f.kept refl; ledger = f.ledger refl; made = refl }
follows (called {book} {book'} {history} octets area {answer} {area'} r c) =
    let before = follows r in
    let one : Call = call octets area in
    let last = book_after fresh before.calls in
    let answered : answer ≡ (result_of last one).answer = c.answered ∙ ap (λ (b : Ledger). (call_of b octets area).answer) before.ledger in
    let written : area' ≡ (result_of last one).area = c.written ∙ ap (λ (b : Ledger). (call_of b octets area).area) before.ledger in
    record {
      calls = before.calls ++ (one ∷ []);
      kept = c.kept;
      ledger = c.ledger ∙ ap (λ (b : Ledger). (call_of b octets area).book) before.ledger ∙ sym (after_more fresh before.calls one);
      made =
          (λ i. before.made i ++ (record { made = one; answer = answered i; area = written i } ∷ [])) ∙ sym (calls-more fresh before.calls one);
    }

-- so what holds after every list of calls holds of it
by_calls :
    (P : List Made → Ledger → Type 0) → ((calls : List Call) → P (calls_on fresh calls) (book_after fresh calls))
    → (book : List ℕ) (history : List Made) → Reached book history → P history (ledger_of book)
by_calls P all book history r =
    let f = follows r in
    subst (λ (h : List Made). P h (ledger_of book)) (sym f.made) (subst (P (calls_on fresh f.calls)) (sym f.ledger) (all f.calls))

pub reached_balanced : ReachedBalanced
unfolding Demand3 ReachedBalanced
reached_balanced = by_calls Balanced demand3

pub reached_held : ReachedHeld
unfolding HeldOfCalls ReachedHeld
reached_held = by_calls HeldCounts held-of_calls

pub reached_rate : ReachedRate
unfolding RateOfCalls ReachedRate
reached_rate = by_calls (λ history last. last.rate ≡ last_rate first_rate (accepted_calls history)) rate_of_calls_lem

pub reached_awaited : ReachedAwaited
unfolding ReachedAwaited
reached_awaited book history r a e = (follows r).kept.premise.awaited a e
