-- A day can always be finished: the sent cycle is answered, each cycle that is left is sent and answered, and the day is closed. Assumes nothing.
use Rattle.std.specs.Prelude.{if◌then◌else◌}
use mathlib.Core.Path.{◌≡◌, refl, ap, ◌∙◌}
use mathlib.Core.Bool.{Bool, true, false, not, ◌||◌, or-true, false≢true}
use mathlib.Core.List.{List, [], ◌∷◌, ◌++◌, map}
use Prim.Native.Nat.{ℕ, zero, suc, ◌≤◌}
use native.Mathlib.Omega.{arith}
use borrow.Author.Tests.{ltb-true, ltb-false, le-ltb, le-leb, lt-leb}
use lib.ListN.{length, get_or, replicate, length-replicate}
use Rattle.plain.specs.Lists.{◌is◌, ◌below◌, first}
use Rattle.rulebook.specs.AccountTypes.{wrong_types}
use Rattle.rulebook.specs.Field.{places, widths, ceiling}
use Rattle.rulebook.specs.Ledger.{Ledger, put_day, put_holdings, put_waiting, with_minute, cycle_sent, cycle_answered}
use Rattle.rulebook.specs.Windows.{by_kind, cycle_minutes, all_run, office_end}
use Rattle.rulebook.specs.Forms.{outcome, cycle, confirm, answer_cycle, close, forms, row_of, used, least, most, window_of, effect}
use Rattle.rulebook.specs.Record.{fields_of, no_form, unused_not_zero, used_out_of_range, record_of, write_refusal}
use Rattle.rulebook.specs.Refusals.{wrong_day, wrong_cycle, awaits_answer, nothing_sent, goes_back, outside_window, wrong_security, wrong_pair, wrong_parties, wrong_days, wrong_reference, wrong_cancel, cancels_sent, wrong_request, ends_too_soon, too_many_requests, too_little, over_ceiling, day_tests, order_tests, item_tests, request_tests, room_tests, refusals}
use Rattle.rulebook.specs.Call.{put_minute, accepted as accepted_result, order_call, read_call, call_of}
use Rattle.rulebook.specs.Calls.{result_of, book_after}
use Rattle.rulebook.specs.Premise.{Premise}
use Rattle.rulebook.specs.Desk.{party, nobody, order, runs, answers, closes, send}
use Rattle.rulebook.specs.SentCycles.{AnswerRefusals, cycles_left, cycles_to_run, last_minute, finishing, DayFinishes}
use Rattle.rulebook.specs.declared.Day.{Day}
use Rattle.rulebook.specs.declared.Order.{Order}
use Rattle.rulebook.proofs.RoundTrips.{write_read}
use Rattle.rulebook.proofs.Sizes.{never_grows_lem}
use Rattle.rulebook.proofs.EveryCall.{call_premise}
use Rattle.rulebook.proofs.SentCycles.Refusals.{answer_refusals_lem}

-- ---- the call of an order that is written and that nothing refuses

call_does :
    (b : Ledger) (o : Order) (area : List ℕ) → 4_096 ≤ length area → write_refusal o area ≡ 0 → first (refusals b o) ≡ 0
    → (call_of b (record_of o) area).book ≡ put_minute o.minute (effect b o).after
unfolding call_of read_call order_call accepted_result
call_does b o area room w z = simp (le-ltb (length area) 4_096 room, write_read o area w, z)

sent-does :
    (b : Ledger) (o : Order) → ((area : List ℕ) → 4_096 ≤ length area → write_refusal o area ≡ 0) → first (refusals b o) ≡ 0
    → (result_of b (send o)).book ≡ put_minute o.minute (effect b o).after
unfolding send result_of
sent-does b o w z = go (replicate 4_096 0) (omega (arith, length-replicate {A = ℕ} 4_096 0))
  where
    go : (area : List ℕ) → 4_096 ≤ length area → (call_of b (record_of o) area).book ≡ put_minute o.minute (effect b o).after
    go area room = call_does b o area room (w area room) z

-- ---- the three orders: their records, what they meet, and the day that they leave

abbrev Writes : Order → Type 0
Writes o = (area : List ℕ) → 4_096 ≤ length area → write_refusal o area ≡ 0

module _ (m : ℕ) (late : m ≤ 1439) where
  writes-run : Writes (runs m)
  unfolding runs order nobody party write_refusal fields_of no_form unused_not_zero used_out_of_range places widths ceiling used least most forms row_of
  writes-run area room = simp (le-ltb (length area) 40 (omega (arith, room)), le-leb 0 m (omega arith), le-leb m 1439 late)

  writes-answer : Writes (answers m 1)
  unfolding answers order nobody party write_refusal fields_of no_form unused_not_zero used_out_of_range places widths ceiling used least most forms row_of
  writes-answer area room = simp (le-ltb (length area) 40 (omega (arith, room)), le-leb 0 m (omega arith), le-leb m 1439 late)

  writes-close : Writes (closes m)
  unfolding closes order nobody party write_refusal fields_of no_form unused_not_zero used_out_of_range places widths ceiling used least most forms row_of
  writes-close area room = simp (le-ltb (length area) 40 (omega (arith, room)), le-leb 0 m (omega arith), le-leb m 1439 late)

-- no cycle's minute is behind the end of the office, which is from 480 to 960
in_office : (kind : ℕ) → ((cycles : ℕ) → get_or (cycle_minutes kind) cycles 0 ≤ office_end kind) × (480 ≤ office_end kind) × (office_end kind ≤ 960)
unfolding cycle_minutes office_end by_kind
in_office kind = go (kind is 1)
  where
    three : (n : ℕ) → get_or (585 ∷ 705 ∷ 825 ∷ []) n 0 ≤ 960
    three zero = omega arith
    three (suc zero) = omega arith
    three (suc (suc zero)) = omega arith
    three (suc (suc (suc n))) = omega arith

    two : (n : ℕ) → get_or (585 ∷ 705 ∷ []) n 0 ≤ 900
    two zero = omega arith
    two (suc zero) = omega arith
    two (suc (suc n)) = omega arith

    go :
        (t : Bool)
        → ((n : ℕ) → get_or (if t then 585 ∷ 705 ∷ 825 ∷ [] else 585 ∷ 705 ∷ []) n 0 ≤ (if t then 960 else 900))
        × (480 ≤ (if t then 960 else 900)) × ((if t then 960 else 900) ≤ 960)
    go true = (three, omega arith, omega arith)
    go false = (two, omega arith, omega arith)

-- a day in which they come: it is open, and its last minute has not passed theirs
record OpenAt (m : ℕ) (d : Day) : Type 0 where
  opened : d.opened ≡ true
  back : d.minute ≤ m

module _ (m : ℕ) (late : m ≤ 1439) (b : Ledger) (p : Premise b) (day : OpenAt m b.day) where
  -- the next cycle runs at the end of the office at the latest
  passes-run : b.day.sent ≡ false → all_run b.day ≡ false → m ≡ office_end b.day.kind → first (refusals b (runs m)) ≡ 0
  unfolding
      runs order refusals day_tests order_tests item_tests request_tests room_tests wrong_day wrong_cycle awaits_answer nothing_sent goes_back outside_window
      wrong_security wrong_pair wrong_types wrong_parties wrong_days wrong_reference wrong_cancel cancels_sent wrong_request ends_too_soon too_many_requests too_little
      over_ceiling window_of forms row_of
  passes-run s r e =
      let w : get_or (cycle_minutes b.day.kind) b.day.cycles 0 ≤ m = omega (arith, e, (in_office b.day.kind).0 b.day.cycles) in
      simp (
        day.opened,
        s,
        r,
        le-ltb m b.day.minute day.back,
        le-leb (get_or (cycle_minutes b.day.kind) b.day.cycles 0) m w,
        le-leb m (office_end b.day.kind) (omega (arith, e)),
        never_grows_lem b (runs m) (unfold runs order in refl) p.sizes,
      )

  -- an answer comes at any time from 480 on, and behind the office where no cycle is left
  passes-answer : b.day.sent ≡ true → m ≡ office_end b.day.kind → first (refusals b (answers m 1)) ≡ 0
  unfolding answers order wrong_day nothing_sent goes_back outside_window window_of forms row_of AnswerRefusals
  passes-answer s e =
      let o = in_office b.day.kind in
      answer_refusals_lem b (answers m 1) p refl
      ∙ simp (day.opened, s, le-ltb m b.day.minute day.back, le-leb 480 m (omega (arith, e, o.1)), le-leb m _ (until (all_run b.day)))
    where
      until : (t : Bool) → m ≤ (if t then 1439 else office_end b.day.kind)
      until true = late
      until false = omega (arith, e)

  passes-close : b.day.sent ≡ false → all_run b.day ≡ true → office_end b.day.kind ≤ m → first (refusals b (closes m)) ≡ 0
  unfolding
      closes order refusals day_tests order_tests item_tests request_tests room_tests wrong_day wrong_cycle awaits_answer nothing_sent goes_back outside_window
      wrong_security wrong_pair wrong_types wrong_parties wrong_days wrong_reference wrong_cancel cancels_sent wrong_request ends_too_soon too_many_requests too_little
      over_ceiling window_of forms row_of
  passes-close s r e =
      simp (
        day.opened,
        s,
        r,
        le-ltb m b.day.minute day.back,
        le-leb (office_end b.day.kind) m e,
        le-leb m 1439 late,
        never_grows_lem b (closes m) (unfold closes order in refl) p.sizes,
      )

  run_day :
      b.day.sent ≡ false → all_run b.day ≡ false → m ≡ office_end b.day.kind
      → (result_of b (send (runs m))).book.day ≡ with_minute m (cycle_sent b.day)
  unfolding runs order effect forms row_of cycle outcome put_minute put_day put_waiting
  run_day s r e = ap (λ (x : Ledger). x.day) (sent-does b (runs m) (writes-run m late) (passes-run s r e))

  answer_day : b.day.sent ≡ true → m ≡ office_end b.day.kind → (result_of b (send (answers m 1))).book.day ≡ with_minute m (cycle_answered b.day)
  unfolding answers order effect forms row_of answer_cycle confirm outcome put_minute put_day put_holdings put_waiting
  answer_day s e = ap (λ (x : Ledger). x.day) (sent-does b (answers m 1) (writes-answer m late) (passes-answer s e))

  close-day : b.day.sent ≡ false → all_run b.day ≡ true → office_end b.day.kind ≤ m → (result_of b (send (closes m))).book.day.opened ≡ false
  unfolding closes order effect forms row_of close outcome put_minute put_day put_waiting
  close-day s r e = ap (λ (x : Ledger). x.day.opened) (sent-does b (closes m) (writes-close m late) (passes-close s r e))

-- ---- one after the other

-- what is left of a day at a minute: the sent cycle's answer or not, and so many cycles, for which it is not too late
record Left (m n : ℕ) (waits : Bool) (b : Ledger) : Type 0 where
  premise : Premise b
  day : OpenAt m b.day
  sent : b.day.sent ≡ waits
  number : cycles_left b.day ≡ n
  office : office_end b.day.kind ≤ m
  answered : waits ≡ true → m ≡ office_end b.day.kind
  run : 1 ≤ n → m ≡ office_end b.day.kind

all-run : (d : Day) → cycles_left d ≡ 0 → all_run d ≡ true
unfolding all_run
all-run d e = le-leb (length (cycle_minutes d.kind)) d.cycles (omega (arith, e))

not_all_run : (d : Day) (n : ℕ) → cycles_left d ≡ suc n → all_run d ≡ false
unfolding all_run
not_all_run d n e = lt-leb (length (cycle_minutes d.kind)) d.cycles (omega (arith, e))

module _ (m : ℕ) (late : m ≤ 1439) where
  after_answer : (b : Ledger) (n : ℕ) → Left m n true b → Left m n false (result_of b (send (answers m 1))).book
  after_answer b n l =
      let e = answer_day m late b l.premise l.day l.sent (l.answered refl) in
      record {
        premise = call_premise b (send (answers m 1)) l.premise;
        day = rw e (record { opened = l.day.opened; back = omega arith });
        sent = rw e;
        number = rw e l.number;
        office = rw e l.office;
        answered = λ t. absurd (false≢true t);
        run = rw e l.run;
      }

  after_run : (b : Ledger) (n : ℕ) → Left m (suc n) false b → Left m n true (result_of b (send (runs m))).book
  after_run b n l =
      let o = l.run (omega arith) in
      let e = run_day m late b l.premise l.day l.sent (not_all_run b.day n l.number) o in
      record {
        premise = call_premise b (send (runs m)) l.premise;
        day = rw e (record { opened = l.day.opened; back = omega arith });
        sent = rw e;
        number = rw e (omega (arith, l.number));
        office = rw e l.office;
        answered = rw e (λ _. o);
        run = rw e (λ _. o);
      }

  closed : (b : Ledger) (n : ℕ) → Left m n false b → (book_after b (map send (cycles_to_run m n ++ (closes m ∷ [])))).day.opened ≡ false
  unfolding book_after cycles_to_run
  closed b zero l = close-day m late b l.premise l.day l.sent (all-run b.day l.number) l.office
  closed b (suc n) l =
      let sent = after_run b n l in
      let answered = after_answer (result_of b (send (runs m))).book n sent in
      closed (result_of (result_of b (send (runs m))).book (send (answers m 1))).book n answered

-- ---- from any open day on

module _ (b : Ledger) (p : Premise b) (opened : b.day.opened ≡ true) where
  last : (office_end b.day.kind ≤ last_minute b.day) × (b.day.minute ≤ last_minute b.day) × (last_minute b.day ≤ 1439)
  unfolding last_minute
  last = go (office_end b.day.kind below b.day.minute) refl
    where
      go :
          (t : Bool) → (office_end b.day.kind below b.day.minute) ≡ t
          → let x = if t then b.day.minute else office_end b.day.kind in
          (office_end b.day.kind ≤ x) × (b.day.minute ≤ x) × (x ≤ 1439)
      go true e = (omega (arith, ltb-true (office_end b.day.kind) b.day.minute e), omega arith, p.day.minute)
      go false e = (omega arith, ltb-false (office_end b.day.kind) b.day.minute e, omega (arith, (in_office b.day.kind).2))

  -- the minute has not passed the end of the office while an answer or a cycle is left
  in_time : (b.day.sent || not (all_run b.day)) ≡ true → last_minute b.day ≡ office_end b.day.kind
  unfolding last_minute
  in_time t = simp (le-ltb (office_end b.day.kind) b.day.minute (p.day.office opened t))

  left : (waits : Bool) → b.day.sent ≡ waits → Left (last_minute b.day) (cycles_left b.day) waits b
  left waits s = record {
    premise = p;
    day = record { opened = opened; back = last.1 };
    sent = s;
    number = refl;
    office = last.0;
    answered = λ t. in_time (simp (s, t));
    run = λ l. in_time (go (cycles_left b.day) refl l);
  }
    where
      go : (n : ℕ) → cycles_left b.day ≡ n → 1 ≤ n → (b.day.sent || not (all_run b.day)) ≡ true
      go zero e l = absurd (omega arith)
      go (suc n) e l = simp (not_all_run b.day n e) (or-true b.day.sent)

pub day_finishes_lem : DayFinishes
unfolding DayFinishes finishing book_after
day_finishes_lem b p opened = go b.day.sent refl
  where
    m : ℕ
    m = last_minute b.day

    n : ℕ
    n = cycles_left b.day

    late : m ≤ 1439
    late = (last b p opened).2

    go :
        (t : Bool) → b.day.sent ≡ t
        → (book_after b (map send ((if t then answers m 1 ∷ [] else []) ++ (cycles_to_run m n ++ (closes m ∷ []))))).day.opened ≡ false
    go true s = closed m late (result_of b (send (answers m 1))).book n (after_answer m late b n (left b p opened true s))
    go false s = closed m late b n (left b p opened false s)
