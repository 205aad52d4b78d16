-- A declined cycle leaves everything as if it had not been sent, but that it has run. Assumes nothing.
use Rattle.std.specs.Prelude.{if◌then◌else◌, Ok, Err}
use mathlib.Core.Path.{◌≡◌, refl, sym, ap, ◌∙◌}
use mathlib.Core.Bool.{Bool, true, false, ◌&&◌, and-false}
use mathlib.Core.List.{List, [], ◌∷◌, map}
use Prim.Native.Nat.{ℕ}
use native.Mathlib.Omega.{arith}
use borrow.Author.Tests.{eqb-true, le-ltb}
use lib.ListN.{length-map}
use Rattle.plain.specs.Lists.{◌is◌, ◌below◌, ◌one_of◌, some, first, Each}
use Rattle.plain.proofs.Lists.{◌and◌, some-append}
use Rattle.plain.proofs.Tests.{neither}
use Rattle.rulebook.specs.Ledger.{Ledger, put_day, put_waiting, cycle_answered, account_of}
use Rattle.rulebook.specs.Waiting.{sender_of, sent_by, with_sent, not_cancellable}
use Rattle.rulebook.specs.Selection.{Entry, is_sent, selection}
use Rattle.rulebook.specs.Cycle.{fixing, declined, offers}
use Rattle.rulebook.specs.Forms.{outcome, silent, cycle, decline, answer_cycle, forms, row_of, window_of, effect}
use Rattle.rulebook.specs.Windows.{all_run}
use Rattle.rulebook.specs.Refusals.{wrong_day, wrong_cycle, awaits_answer, nothing_sent, goes_back, outside_window, wrong_reference, wrong_cancel, cancels_sent, debits_shares, too_little, no_space, day_tests, order_tests, item_tests, request_tests, room_tests, refusals}
use Rattle.rulebook.specs.Premise.{Premise}
use Rattle.rulebook.specs.SentCycles.{answers_cycle, unsent, is_accepted, only_accepted, one_more_run, DeclinedAsUnsent}
use Rattle.rulebook.specs.Record.{read_of}
use Rattle.rulebook.specs.Call.{Result, refused, put_minute, accepted as accepted_result, order_call, read_call, short_area, call_of}
use Rattle.rulebook.specs.Calls.{Call, call, result_of, record_in, calls_on, book_after, accepted_of, accepted_calls}
use Rattle.rulebook.specs.declared.Account.{Account}
use Rattle.rulebook.specs.Answers.{Read}
use Rattle.rulebook.specs.declared.Day.{Day}
use Rattle.rulebook.specs.declared.Item.{Item}
use Rattle.rulebook.specs.declared.Order.{Order}
use Rattle.rulebook.proofs.EveryCall.{call_premise}
use Rattle.rulebook.proofs.SentCycles.Staying.{call_keeps}
use Rattle.rulebook.proofs.ByCall.{AllForms, by_form, effect-at}
use Rattle.rulebook.proofs.Orders.{Accepted, accepted, little_parts, debit-enough}
use Rattle.rulebook.proofs.Selection.Fixing.{selection-items}
use Rattle.rulebook.proofs.EveryCall.Fixed.{none_in_fixed, all-unsent, declined-unsent}
use Rattle.rulebook.proofs.SentCycles.Between.{one_unsent, order_same}

-- ---- what a decline leaves

declines : (b : Ledger) (o : Order) → o.form ≡ 21 → (o.quantity.0 is 1) ≡ false → (effect b o).after ≡ unsent b
unfolding forms row_of answer_cycle decline silent outcome
declines b o e q = rw (effect-at 21 b o e) (simp q)

-- ---- sending, taken back

unsent-same : (ws : List Item) → Each (λ i. i.sent ≡ false) ws → declined ws ≡ ws
unfolding declined
unsent-same [] e = refl
unsent-same (w ∷ rest) e = rw (one_unsent w e.0, unsent-same rest e.1)

marks_declined : (test : Entry → Bool) (es : List Entry) → declined (map (λ e. with_sent (test e) e.item) es) ≡ declined (map (λ e. e.item) es)
unfolding declined with_sent
marks_declined test [] = refl
marks_declined test (e ∷ rest) = rw (marks_declined test rest)

selection-declined : (b : Ledger) → Premise b → b.day.sent ≡ false → declined (fixing (selection b)) ≡ b.waiting
unfolding fixing
selection-declined b p s = marks_declined (is_sent (selection b)) (selection b) ∙ ap declined (selection-items b) ∙ unsent-same b.waiting (all-unsent b p s)

sends : (b : Ledger) (o : Order) → Premise b → b.day.sent ≡ false → o.form ≡ 16 → unsent (effect b o).after ≡ put_day (one_more_run b.day) b
unfolding forms row_of cycle outcome put_day put_waiting
sends b o p s e = rw (effect-at 16 b o e) (rw (selection-declined b p s, s))

-- ---- what they meet

some-unsent : (test : Item → Bool) → ((i : Item) → test (with_sent false i) ≡ test i) → (ws : List Item) → some test (declined ws) ≡ some test ws
unfolding declined
some-unsent test same [] = refl
some-unsent test same (w ∷ rest) = rw (same w, some-unsent test same rest)

none_fixed_named : (named : Item → Bool) (ws : List Item) → some (λ item. named item && item.sent) (declined ws) ≡ false
unfolding declined with_sent
none_fixed_named named [] = refl
none_fixed_named named (w ∷ rest) = rw (and-false (named (with_sent false w)), none_fixed_named named rest)

no_change : (d : Day) (o : Order) → AllForms (λ n f. f.window (cycle_answered d) o ≡ f.window d o) 1 forms
unfolding forms all_run
no_change d o =
    refl and refl and refl and refl and refl and refl and refl and refl and refl and refl and refl and refl and refl and refl and refl and refl and refl
    and refl and refl and refl and refl and tt

module _ (b : Ledger) (o : Order) (p : Premise b) (a : Accepted b o) (s : b.day.sent ≡ true) (t : (o.form is 21) ≡ false) where
  same_window : window_of (cycle_answered b.day) o ≡ window_of b.day o
  unfolding window_of
  same_window = by_form (λ n f. f.window (cycle_answered b.day) o ≡ f.window b.day o) (no_change b.day o) (λ m none. refl) o.form

  -- an account offers no less
  enough : too_little b.holdings (declined b.waiting) o ≡ false
  unfolding too_little
  enough =
      let parts = little_parts b o a.little in
      let debited : (debits_shares o.form && offers b.holdings (declined b.waiting) from below o.quantity.0) ≡ false = go (debits_shares o.form) refl in
      simp (parts.0, debited, parts.2)
    where
      from : Account
      from = account_of o.security o.debited

      all : offers b.holdings (declined b.waiting) from ≡ b.holdings.balance from
      all = unfold offers in rw (none_in_fixed (declined b.waiting) (declined-unsent b.waiting)) (omega arith)

      go : (u : Bool) → debits_shares o.form ≡ u → (u && offers b.holdings (declined b.waiting) from below o.quantity.0) ≡ false
      go true e = le-ltb (offers b.holdings (declined b.waiting) from) o.quantity.0 (omega (arith, all, debit-enough b o a.little e))
      go false e = refl

  room : no_space (unsent b) o ≡ false
  unfolding no_space put_day put_waiting declined
  room =
      let k = (order_same b o p a s t).0 in
      rw k (rw (length-map (effect b o).after.waiting (with_sent false)) a.space)

  meets : first (refusals (unsent b) o) ≡ 0
  unfolding refusals day_tests order_tests item_tests request_tests room_tests put_day put_waiting
  meets = simp (
    day,
    cycles,
    answered,
    none,
    back,
    window,
    a.security,
    a.types,
    a.parties,
    a.days,
    reference,
    cancels,
    free,
    a.request,
    a.too_soon_lem,
    a.sixteen,
    enough,
    a.ceiling,
    room,
  )
    where
      day : wrong_day (cycle_answered b.day) o ≡ false
      day = unfold wrong_day in a.right_day

      cycles : wrong_cycle (cycle_answered b.day) o ≡ false
      cycles = unfold wrong_cycle all_run in a.cycle

      answered : awaits_answer (cycle_answered b.day) o ≡ false
      answered = unfold awaits_answer in and-false (o.form one_of (10 ∷ 11 ∷ 16 ∷ 17 ∷ []))

      none : nothing_sent (cycle_answered b.day) o ≡ false
      none = unfold nothing_sent in simp t

      back : goes_back (cycle_answered b.day) o ≡ false
      back = unfold goes_back in a.back

      window : outside_window (cycle_answered b.day) o ≡ false
      window = unfold outside_window in rw same_window a.window

      reference : wrong_reference (declined b.waiting) o ≡ false
      reference =
          unfold wrong_reference in
          rw (some-unsent (sent_by (sender_of o) o.reference) (λ i. unfold sent_by with_sent in refl) b.waiting) a.reference

      cancels : wrong_cancel (declined b.waiting) o ≡ false
      cancels =
          unfold wrong_cancel in
          rw
          (some-unsent (λ item. sent_by (sender_of o) o.reference item && not_cancellable (sender_of o) item) (λ i. unfold sent_by not_cancellable with_sent in refl)
          b.waiting)
          a.cancel

      free : cancels_sent (declined b.waiting) o ≡ false
      free = unfold cancels_sent in rw (none_fixed_named (sent_by (sender_of o) o.reference) b.waiting) (and-false (o.form is 15))

-- ---- lists of calls

-- a call that is accepted leads without the cycle to the same book; one that is refused leaves the book as it is
abbrev Led : Ledger → Read → Result → Result → Type 0
Led b r x without = some answers_cycle (accepted_of x.answer r x.area) ≡ false → (if is_accepted x.answer then without.book else unsent b) ≡ unsent x.book

module _ (b : Ledger) (p : Premise b) (s : b.day.sent ≡ true) where
  order-leads :
      (o : Order) (area bytes : List ℕ) → read_of bytes ≡ Ok o → Led b (Ok o) (order_call b o area) (order_call (unsent b) o area)
  unfolding order_call accepted_result refused accepted_of is_accepted put_minute put_day put_waiting
  order-leads o area bytes e = go (first (refusals b o) is 0) refl
    where
      go : (t : Bool) → (first (refusals b o) is 0) ≡ t → Led b (Ok o) (order_call b o area) (order_call (unsent b) o area)
      go true q =
          let a = accepted b o bytes e (eqb-true _ 0 q) in
          simp q λ w.
          let t = (neither (o.form is 21) false w).0 in
          rw (meets b o p a s t) (ap (put_minute o.minute) (order_same b o p a s t).0)
      go false q = simp q (λ w. refl)

  read_leads : (r : Read) (area bytes : List ℕ) → read_of bytes ≡ r → Led b r (read_call b r area) (read_call (unsent b) r area)
  unfolding read_call refused accepted_of is_accepted
  read_leads (Ok o) area bytes e = order-leads o area bytes e
  read_leads (Err n) area bytes e = λ w. refl

  call_leads : (c : Call) → Led b (record_in c) (result_of b c) (result_of (unsent b) c)
  unfolding result_of record_in call_of refused accepted_of is_accepted
  call_leads (call bytes area) = go (short_area area) refl
    where
      go : (t : Bool) → short_area area ≡ t → Led b (read_of bytes) (call_of b bytes area) (call_of (unsent b) bytes area)
      go true q = simp q (λ w. refl)
      go false q = simp q (read_leads (read_of bytes) area bytes refl)

meanwhile :
    (b : Ledger) (calls : List Call) → Premise b → b.day.sent ≡ true → some answers_cycle (accepted_calls (calls_on b calls)) ≡ false
    → unsent (book_after b calls) ≡ book_after (unsent b) (only_accepted b calls)
unfolding calls_on book_after accepted_calls only_accepted
meanwhile b [] p s w = refl
meanwhile b (c ∷ rest) p s w =
    let x : Result = result_of b c in
    let now = accepted_of x.answer (record_in c) x.area in
    let later = accepted_calls (calls_on x.book rest) in
    let t = neither (some answers_cycle now) (some answers_cycle later) (sym (some-append answers_cycle now later) ∙ w) in
    let k = call_keeps b c p s t.0 in
    meanwhile x.book rest (call_premise b c p) k.0 t.1 ∙ go (is_accepted x.answer) refl (call_leads b p s c t.0)
  where
    go :
        (t : Bool) → is_accepted (result_of b c).answer ≡ t
        → (if is_accepted (result_of b c).answer then (result_of (unsent b) c).book else unsent b) ≡ unsent (result_of b c).book
        → book_after (unsent (result_of b c).book) (only_accepted (result_of b c).book rest) ≡ book_after (unsent b) (only_accepted b (c ∷ rest))
    go true q e =
        let f : (result_of (unsent b) c).book ≡ unsent (result_of b c).book = simp q at e in
        simp q (ap (λ (x : Ledger). book_after x (only_accepted (result_of b c).book rest)) (sym f))
    go false q e =
        let f : unsent b ≡ unsent (result_of b c).book = simp q at e in
        simp q (ap (λ (x : Ledger). book_after x (only_accepted (result_of b c).book rest)) (sym f))

pub declined-as_unsent : DeclinedAsUnsent
declined-as_unsent = record {
  declines = declines;
  sends = sends;
  between = λ b o bytes p s r t z.
      let a = accepted b o bytes r z in
      let same = order_same b o p a s t in
      (same.0, same.1, same.2, meets b o p a s t);
  meanwhile = meanwhile;
}
