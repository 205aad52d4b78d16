-- The rate: that of a book which calls lead to, what pairs by it, and what form 18 does and meets. Assumes nothing.
use Rattle.std.specs.Prelude.{if◌then◌else◌}
use mathlib.Core.Path.{◌≡◌, refl, ap, sym, ◌∙◌}
use mathlib.Core.Bool.{Bool, true, false, ◌||◌, or-false}
use mathlib.Core.List.{List, [], ◌∷◌, ◌++◌}
use Prim.Native.Nat.{ℕ, ◌+◌, ◌-◌, ◌*◌}
use native.Mathlib.Omega.{arith}
use borrow.Author.Tests.{eqb-true, le-leb, lt-leb}
use Rattle.plain.specs.Lists.{◌is◌}
use Rattle.rulebook.specs.declared.Item.{Item}
use Rattle.rulebook.specs.declared.Order.{Order}
use Rattle.rulebook.specs.Ledger.{Ledger, fresh, put_day, put_waiting}
use Rattle.rulebook.specs.Waiting.{single_of, is_deliver, is_receive}
use Rattle.rulebook.specs.Matching.{tolerance, same_terms, agree, pairs_with, pair_of, arrive}
use Rattle.rulebook.specs.Forms.{counts, outcome, silent, instruct, set_rate, forms, row_of, effect}
use Rattle.rulebook.specs.Rows.{rows_bytes}
use Rattle.rulebook.specs.AccountTypes.{wrong_types}
use Rattle.rulebook.specs.Refusals.{wrong_cycle, awaits_answer, nothing_sent, wrong_security, wrong_pair, wrong_parties, wrong_days, wrong_reference, wrong_cancel, cancels_sent, wrong_request, ends_too_soon, too_many_requests, too_little, over_ceiling, day_tests, order_tests, item_tests, request_tests, room_tests, refusals}
use Rattle.rulebook.specs.Call.{put_minute, accepted, order_call}
use Rattle.rulebook.specs.Calls.{Call, Accepted, result_of, record_in, calls_on, book_after, accepted_of, accepted_calls, last_rate}
use Rattle.rulebook.specs.Rates.{RateOfCalls, deliver_of, receive_of, Facing, PairsWithin, Tolerances, RateAlone, RateRefusals}
use Rattle.rulebook.proofs.Sizes.{never_grows_lem}
use Rattle.rulebook.proofs.EveryCall.Rated.{effect-rate}
use Rattle.rulebook.proofs.EveryCall.Items.{deliver_not_receive, receive_not_deliver}
use Rattle.rulebook.proofs.ByCall.{by_answer, effect-at}

-- ---- the rate of a book

last_after : (before : ℕ) (first later : List Accepted) → last_rate before (first ++ later) ≡ last_rate (last_rate before first) later
unfolding last_rate
last_after before [] later = refl
last_after before (c ∷ rest) later = last_after (if c.order.form is 18 then c.order.quantity.0 else before) rest later

call_rate : (b : Ledger) (c : Call) → (result_of b c).book.rate ≡ last_rate b.rate (accepted_of (result_of b c).answer (record_in c) (result_of b c).area)
unfolding last_rate put_minute put_day
call_rate = by_answer (λ b calls after. after.rate ≡ last_rate b.rate calls) (λ b. refl) (λ b o bytes area e z. effect-rate b o)

calls-rate : (b : Ledger) (calls : List Call) → (book_after b calls).rate ≡ last_rate b.rate (accepted_calls (calls_on b calls))
unfolding book_after calls_on accepted_calls last_rate
calls-rate b [] = refl
calls-rate b (c ∷ rest) =
    calls-rate (result_of b c).book rest
    ∙ ap (λ (rate : ℕ). last_rate rate (accepted_calls (calls_on (result_of b c).book rest))) (call_rate b c)
    ∙ sym (last_after b.rate (accepted_of (result_of b c).answer (record_in c) (result_of b c).area) _)

pub rate_of_calls_lem : RateOfCalls
unfolding RateOfCalls fresh
rate_of_calls_lem calls = calls-rate fresh calls

-- ---- what pairs by it

-- two that have all terms in common agree just where the receive offers as much, and no more than the limit above it
module _ (limit : ℕ) (d r : Item) (terms : same_terms d r ≡ true) where
  agree_at : r.amount.0 ≡ d.amount.0 + limit → agree limit d r ≡ true
  unfolding agree
  agree_at e = simp (terms, le-leb d.amount.0 r.amount.0 (omega (arith, e)), le-leb (r.amount.0 - d.amount.0) limit (omega (arith, e)))

  agree-above : r.amount.0 ≡ d.amount.0 + limit + 1 → agree limit d r ≡ false
  unfolding agree
  agree-above e = simp (terms, le-leb d.amount.0 r.amount.0 (omega (arith, e)), lt-leb (r.amount.0 - d.amount.0) limit (omega (arith, e)))

-- whichever of the two comes second
module _ (limit : ℕ) (d r : Item) (delivers : is_deliver d.state ≡ true) (receives : is_receive r.state ≡ true) where
  deliver_second : arrive limit d (r ∷ []) ≡ (if agree limit d r then pair_of d r ∷ [] else r ∷ d ∷ [])
  unfolding arrive pairs_with
  deliver_second = simp (receive_not_deliver r.state receives, receives, delivers)

  receive_second : arrive limit r (d ∷ []) ≡ (if agree limit d r then pair_of d r ∷ [] else d ∷ r ∷ [])
  unfolding arrive pairs_with
  receive_second = simp (delivers, receives, deliver_not_receive d.state delivers, or-false)

second :
    (limit : ℕ) (t : Bool) (new w : Item) → is_deliver (if t then new else w).state ≡ true → is_receive (if t then w else new).state ≡ true
    → arrive limit new (w ∷ [])
    ≡ (if agree limit (if t then new else w) (if t then w else new) then pair_of (if t then new else w) (if t then w else new) ∷ [] else w ∷ new ∷ [])
second limit true new w delivers receives = deliver_second limit new w delivers receives
second limit false new w delivers receives = receive_second limit w new delivers receives

-- what the instruction leaves waiting
module _ (b : Ledger) (o : Order) (w : Item) (f : Facing b o w) where
  arrived : (effect b o).after.waiting ≡ arrive (tolerance b.rate o.currency) (single_of o) (w ∷ [])
  unfolding instruct silent outcome put_waiting forms row_of
  arrived = go (o.form is 12) refl f.instructs
    where
      alone : arrive (tolerance b.rate o.currency) (single_of o) b.waiting ≡ arrive (tolerance b.rate o.currency) (single_of o) (w ∷ [])
      alone = rw f.alone

      go :
          (t : Bool) → (o.form is 12) ≡ t → (o.form is 12 || (o.form is 13 || false)) ≡ true
          → (effect b o).after.waiting ≡ arrive (tolerance b.rate o.currency) (single_of o) (w ∷ [])
      go true p q = rw (effect-at 12 b o (eqb-true o.form 12 p)) alone
      go false p q = rw (effect-at 13 b o (eqb-true o.form 13 (simp (p, or-false) at q))) alone

  module _ (limit : ℕ) (e : tolerance b.rate o.currency ≡ limit) where
    by_agreement :
        (t : Bool) → agree limit (deliver_of o w) (receive_of o w) ≡ t
        → (effect b o).after.waiting ≡ (if t then pair_of (deliver_of o w) (receive_of o w) ∷ [] else w ∷ single_of o ∷ [])
    by_agreement t a =
        arrived ∙ ap (λ (n : ℕ). arrive n (single_of o) (w ∷ [])) e
        ∙ second limit (o.form is 12) (single_of o) w f.delivers f.receives ∙ rw a

    within-limit : PairsWithin limit b o w
    within-limit = record {
      equal = λ d. by_agreement true (agree_at limit (deliver_of o w) (receive_of o w) f.terms d);
      above = λ d. by_agreement false (agree-above limit (deliver_of o w) (receive_of o w) f.terms d);
    }

pub tolerances : Tolerances
unfolding Tolerances tolerance
tolerances b o w f = ((λ e. within-limit b o w f 2_000 (rw e)), (λ e. within-limit b o w f (20 * b.rate) (rw e)))

-- ---- form 18

pub rate_alone_lem : RateAlone
unfolding RateAlone order_call accepted
rate_alone_lem b o area e z = rw (z, effect-at 18 b o e) (unfold forms row_of set_rate silent outcome counts rows_bytes in refl)

pub rate_refusals_lem : RateRefusals
unfolding
    RateRefusals refusals day_tests order_tests item_tests request_tests room_tests wrong_cycle awaits_answer nothing_sent wrong_security wrong_pair wrong_types
    wrong_parties wrong_days wrong_reference wrong_cancel cancels_sent wrong_request ends_too_soon too_many_requests too_little over_ceiling
rate_refusals_lem b o e p = simp (e, never_grows_lem b o (simp e) p.sizes)
