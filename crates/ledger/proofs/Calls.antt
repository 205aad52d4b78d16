-- The four ways in which a call ends. Assumes nothing.
use Rattle.std.specs.Prelude.{Ok, Err}
use Prim.Native.Nat.{ℕ, ◌≤◌, ◌<◌}
use mathlib.Core.Path.{◌≡◌, refl, sym, ap, subst, ◌∙◌}
use mathlib.Core.List.{List}
use borrow.Author.Tests.{lt-ltb, le-ltb}
use lib.ListN.{length}
use Rattle.plain.specs.Lists.{first}
use Rattle.rulebook.specs.Ledger.{Ledger}
use Rattle.rulebook.specs.Premise.{Premise}
use Rattle.rulebook.specs.Record.{read_of}
use Rattle.rulebook.specs.Forms.{effect}
use Rattle.rulebook.specs.Refusals.{refusals}
use Rattle.rulebook.specs.Call.{Result, answer_number, refused, accepted, order_call, read_call, call_of, put_minute}
use Rattle.rulebook.specs.Calls.{call, result_of}
use Rattle.rulebook.specs.Answers.{Read, Answer, number_of}
use Rattle.rulebook.specs.declared.Counts.{Counts}
use Rattle.rulebook.specs.declared.Order.{Order}
use Rattle.rulebook.specs.declared.Refusal.{Refusal}
use Rattle.rulebook.proofs.Answers.{refusal-back}
use Rattle.rulebook.proofs.EveryCall.{call_premise}
use Rattle.book.specs.Meaning.{ledger_of}
use Rattle.book.specs.Stored.{Kept, Means}
use Rattle.book.specs.Handled.{Handled}
use Rattle.ledger.specs.Called.{Called}

module _ (book octets area : List ℕ) (kept : Kept book) where
  abbrev b : Ledger
  b = ledger_of book

  -- a refusal, which leaves everything as it was
  unchanged : (refusal : Refusal) → call_of b octets area ≡ refused refusal b area → Called book octets area (Err refusal) book area
  unfolding refused
  unchanged refusal e = record {
    answered = sym (ap (λ (r : Result). r.answer) e);
    number = sym (ap (λ (r : Result). answer_number r.answer) e);
    ledger = sym (ap (λ (r : Result). r.book) e);
    written = sym (ap (λ (r : Result). r.area) e);
    kept = kept;
    refused = λ refusal f. (refl, refl);
  }

  -- 1. Too short an area.
  pub too_short : length area < 4_096 → Called book octets area (Err Refusal.ShortArea) book area
  too_short l = unchanged Refusal.ShortArea (unfold call_of in rw (lt-ltb (length area) 4_096 l))

  module _ (room : 4_096 ≤ length area) where
    reads : (r : Read) → read_of octets ≡ r → call_of b octets area ≡ read_call b r area
    unfolding call_of
    reads r e = rw (le-ltb (length area) 4_096 room, e)

    -- 2 to 5. A record that does not read.
    pub unread : (refusal : Refusal) → read_of octets ≡ Err refusal → Called book octets area (Err refusal) book area
    unfolding read_call
    unread refusal e = unchanged refusal (reads (Err refusal) e)

    module _ (o : Order) (read : read_of octets ≡ Ok o) where
      -- 6 to 18. the first refusal that applies
      pub refuses : (refusal : Refusal) → number_of refusal ≡ first (refusals b o) → Called book octets area (Err refusal) book area
      unfolding read_call order_call
      refuses refusal e =
          let back = refusal-back refusal in
          unchanged refusal (reads (Ok o) read ∙ rw (← e, back.1, back.0))

      -- an accepted call
      pub accepts :
          0 ≡ first (refusals b o) → (first-book last : List ℕ) (area' : List ℕ) (c : Counts) → Handled (effect b o) first-book area area' c
          → Means last (put_minute o.minute (ledger_of first-book)) → Called book octets area (Ok c) last area'
      accepts e first-book last area' c handled means =
          let is : call_of b octets area ≡ accepted (effect b o) o.minute area =
          reads (Ok o) read ∙ (unfold read_call order_call in rw (← e)) in
          let ledger : ledger_of last ≡ (call_of b octets area).book =
          means.ledger ∙ ap (put_minute o.minute) handled.ledger ∙ sym (ap (λ (r : Result). r.book) is ∙ (unfold accepted in refl)) in
          let answered : ◌≡◌ {A = Answer} (Ok c) (call_of b octets area).answer =
          ap {B = Answer} Ok handled.counted ∙ sym (ap (λ (r : Result). r.answer) is ∙ (unfold accepted in refl)) in
          record {
            answered = answered;
            number = ap answer_number answered;
            ledger = ledger;
            written = handled.written ∙ sym (ap (λ (r : Result). r.area) is ∙ (unfold accepted in refl));
            kept = record { stored = means.stored; premise = subst Premise (sym ledger) (unfold result_of in call_premise b (call octets area) kept.premise) };
            refused = λ refusal f. cc;
          }
