-- What is proved of requests for paper. Assumes nothing.
use Rattle.std.specs.Prelude.{if◌then◌else◌, Ok}
use mathlib.Core.Path.{◌≡◌, refl, sym, ap, subst, ◌∙◌}
use mathlib.Core.Bool.{Bool, true, false, not, ◌&&◌, false≢true, or-true}
use mathlib.Core.List.{List, [], ◌∷◌}
use Prim.Native.Nat.{ℕ, zero, suc, ◌≤◌}
use native.Mathlib.Omega.{arith}
use borrow.Author.Tests.{eqb-true, ne_eqb, le-ltb, le-leb, not-true, not-false}
use lib.ListN.{length}
use Rattle.plain.specs.Lists.{◌is◌, ◌at_most◌, some, first}
use Rattle.plain.proofs.Lists.{some-append}
use Rattle.plain.proofs.Tests.{both, neither, not-second}
use Rattle.rulebook.specs.Ledger.{Ledger, Requests, fresh, request_account, put_day, put_request}
use Rattle.rulebook.specs.Record.{fields_of, no_form, unused_not_zero, used_out_of_range, read_of, write_refusal}
use Rattle.rulebook.specs.Forms.{ended_request, forms, row_of, used, least, most, window_of, effect}
use Rattle.rulebook.specs.Refusals.{wrong_day, wrong_cycle, awaits_answer, nothing_sent, goes_back, outside_window, wrong_security, wrong_pair, wrong_parties, wrong_days, wrong_reference, wrong_cancel, cancels_sent, wrong_request, ends_too_soon, too_many_requests, too_little, over_ceiling, no_space, day_tests, order_tests, item_tests, request_tests, room_tests, refusals}
use Rattle.rulebook.specs.TypeTable.{requested, outside, on_paper_as, type_table, type_row}
use Rattle.rulebook.specs.AccountTypes.{is_outside, listed, become, is_paper, ends, wrong_types}
use Rattle.rulebook.specs.Call.{Result, answer_number, put_minute, accepted as accepted_result, order_call, read_call, call_of}
use Rattle.rulebook.specs.Calls.{Call, result_of, record_in, calls_on, book_after, Accepted, accepted_of, accepted_calls}
use Rattle.rulebook.specs.Rematerialization.{AwaitedOfCalls, EndingCovered, ends_request, RequestStays, ending, LaterDay, EndingAccepted, RequestEnds, RequestRefusals, EndingRefusals}
use Rattle.rulebook.specs.Field.{places, widths, ceiling}
use Rattle.rulebook.specs.Windows.{by_kind}
use Rattle.rulebook.specs.Premise.{Premise}
use Rattle.rulebook.specs.declared.Order.{Order}
use Rattle.rulebook.specs.declared.Request.{Request}
use Rattle.rulebook.proofs.ByCall.{accepted_call, by_answer}
use Rattle.rulebook.proofs.Orders.{accepted, not_open}
use Rattle.rulebook.proofs.Requests.{covered}
use Rattle.rulebook.proofs.RoundTrips.{write_read}
use Rattle.rulebook.proofs.Space.{leaving-space}
use Rattle.rulebook.proofs.TypeTable.{pair_of, no_row}
use Rattle.rulebook.proofs.EveryCall.{fresh-premise, calls-premise}
use Rattle.rulebook.proofs.EveryCall.Requested.{requests_after, effect-requests}

pub awaited_of_calls_lem : AwaitedOfCalls
unfolding AwaitedOfCalls
awaited_of_calls_lem calls a e = (calls-premise fresh fresh-premise calls).awaited a e

pub ending-covered : EndingCovered
unfolding EndingCovered
ending-covered b o p = go (ended_request b o).quantity.0 refl
  where
    go :
        (n : ℕ) → (ended_request b o).quantity.0 ≡ n
        → (ended_request b o).quantity.0 ≤ b.holdings.balance (request_account requested o.debited.member (ended_request b o))
    go zero e = omega (arith, e)
    go (suc n) e = covered b o.debited.member o.reference p (omega (arith, e))

-- ---- an open request stays

module _ (m n : ℕ) where
  -- what a call does to it
  abbrev Keeps : Ledger → List Accepted → Ledger → Type 0
  Keeps b calls after =
      1 ≤ (b.requests.asked m n).quantity.0 → some (ends_request m n) calls ≡ false → after.requests.asked m n ≡ b.requests.asked m n

  order-keeps :
      (b : Ledger) (o : Order) (bytes area : List ℕ) → read_of bytes ≡ Ok o → first (refusals b o) ≡ 0
      → Keeps b (accepted_call b o area ∷ []) (put_minute o.minute (effect b o).after)
  unfolding put_minute put_day put_request
  order-keeps b o bytes area e z l w =
      ap (λ (r : Requests). r.asked m n) (effect-requests b o).0 ∙ go (o.form is 19) (o.form is 20) (o.debited.member is m && o.reference is n) refl refl refl
    where
      -- an open reference is not opened again
      other : o.form ≡ 19 → (o.debited.member is m && o.reference is n) ≡ true → ⊥
      other f s =
          let none = not_open b o f (accepted b o bytes e z).request in
          let k = both (o.debited.member is m) (o.reference is n) s in
          omega (
            arith,
            l,
            none,
            ap (λ (x : ℕ). (b.requests.asked x o.reference).quantity.0) (eqb-true o.debited.member m k.0),
            ap (λ (x : ℕ). (b.requests.asked m x).quantity.0) (eqb-true o.reference n k.1),
          )

      go :
          (x y t : Bool) → (o.form is 19) ≡ x → (o.form is 20) ≡ y → (o.debited.member is m && o.reference is n) ≡ t
          → (requests_after o.form b o).asked m n ≡ b.requests.asked m n
      go true y true u v s = absurd (other (eqb-true o.form 19 u) s)
      go true y false u v s = simp (u, s)
      go false true true u v s = absurd (false≢true (sym (simp (v, s) at w)))
      go false true false u v s = simp (u, v, s)
      go false false t u v s = simp (u, v)

  call_keeps : (b : Ledger) (c : Call) → Keeps b (accepted_of (result_of b c).answer (record_in c) (result_of b c).area) (result_of b c).book
  call_keeps = by_answer Keeps (λ b l w. refl) order-keeps

  calls-keep :
      (b : Ledger) (calls : List Call) → 1 ≤ (b.requests.asked m n).quantity.0 → some (ends_request m n) (accepted_calls (calls_on b calls)) ≡ false
      → (book_after b calls).requests.asked m n ≡ b.requests.asked m n
  unfolding calls_on book_after accepted_calls
  calls-keep b [] l w = refl
  calls-keep b (c ∷ rest) l w =
      let x : Result = result_of b c in
      let now = accepted_of x.answer (record_in c) x.area in
      let later = accepted_calls (calls_on x.book rest) in
      let t = neither (some (ends_request m n) now) (some (ends_request m n) later) (sym (some-append (ends_request m n) now later) ∙ w) in
      let k = call_keeps b c l t.0 in
      calls-keep x.book rest (subst (λ (r : Request). 1 ≤ r.quantity.0) (sym k) l) t.1 ∙ k

pub request_stays_lem : RequestStays
unfolding RequestStays
request_stays_lem b calls m n = calls-keep m n b calls

-- ---- what each form meets

pub request_refusals_lem : RequestRefusals
unfolding
    RequestRefusals refusals day_tests order_tests item_tests request_tests room_tests wrong_cycle awaits_answer nothing_sent wrong_parties wrong_days
    wrong_reference wrong_cancel cancels_sent ends_too_soon over_ceiling
request_refusals_lem b o e = simp e

pub ending-refusals : EndingRefusals
unfolding
    EndingRefusals refusals day_tests order_tests item_tests request_tests room_tests wrong_cycle awaits_answer nothing_sent wrong_security wrong_parties
    wrong_days wrong_reference wrong_cancel cancels_sent too_many_requests too_little over_ceiling
ending-refusals b o e = simp e

-- ---- a request can be ended on every later day

-- the types that end a request: a record has room for them, and the form allows them
record EndsSome (credited : ℕ) : Type 0 where
  least : (1 at_most credited) ≡ true
  most : (credited at_most 255) ≡ true
  right : not (wrong_types 20 0 credited) ≡ true

abbrev ends_some : ℕ → Bool
ends_some credited = 1 at_most credited && (credited at_most 255 && not (wrong_types 20 0 credited))

ends_some_lem : (credited : ℕ) → ends_some credited ≡ true → EndsSome credited
ends_some_lem credited e =
    let first = both (1 at_most credited) (credited at_most 255 && not (wrong_types 20 0 credited)) e in
    let second = both (credited at_most 255) (not (wrong_types 20 0 credited)) first.1 in
    record { least = first.0; most = second.0; right = second.1 }

outside-ends : (credited : ℕ) → is_outside credited ≡ true → EndsSome credited
unfolding is_outside wrong_types is_paper listed type_row type_table
outside-ends credited e =
    ends_some_lem credited
    (not-false (ends_some credited)
    (not-second (is_outside credited) (not (ends_some credited)) (no_row (λ t row. row.state is outside && not (ends_some t)) refl credited refl) e))

paper_ends : (came credited : ℕ) → become on_paper_as came credited ≡ true → EndsSome credited
unfolding is_outside wrong_types is_paper listed type_row type_table
paper_ends came credited e = ends_some_lem credited (pair_of on_paper_as (λ row t. ends_some t) refl came credited e)

module _ (b : Ledger) (m n c : ℕ) (area : List ℕ) (p : Premise b) (d : LaterDay b m n) (room : 4_096 ≤ length area) (t : EndsSome c) where
  abbrev order : Order
  order = ending m n c

  -- its record reads
  writes : write_refusal order area ≡ 0
  unfolding write_refusal fields_of no_form unused_not_zero used_out_of_range places widths ceiling used least most forms row_of
  writes =
      let f = p.requests m n d.some in
      simp (
        le-ltb (length area) 40 (omega (arith, room)),
        le-leb 1 m (f.named.member_least),
        le-leb m 64 (f.named.member_most),
        le-leb 1 n (f.referenced.least),
        le-leb n 4_294_967_295 (omega (arith, f.referenced.most)),
        t.least,
        t.most,
      )

  by_kind_lem : (k : ℕ) → 510 ≤ by_kind k 870 750
  unfolding by_kind
  by_kind_lem k = go (k is 1)
    where
      go : (x : Bool) → 510 ≤ (if x then 870 else 750)
      go true = omega arith
      go false = omega arith

  passes : ends (b.requests.asked m n).typ c ≡ true → no_space b order ≡ false → first (refusals b order) ≡ 0
  unfolding wrong_day goes_back outside_window window_of forms row_of wrong_pair wrong_request ends_too_soon EndingRefusals
  passes e space =
      ending-refusals b order refl
      ∙ simp (
        d.opened,
        le-ltb 510 b.day.minute d.early,
        le-leb 510 (by_kind b.day.kind 870 750) (by_kind_lem b.day.kind),
        not-true (wrong_types 20 0 c) t.right,
        ne_eqb (b.requests.asked m n).quantity.0 0 (λ z. omega (arith, z, d.some)),
        e,
        ne_eqb (b.requests.asked m n).day b.day.number (λ z. omega (arith, z, d.older)),
        space,
      )

  accepts : ends (b.requests.asked m n).typ c ≡ true → no_space b order ≡ false → EndingAccepted b m n c area
  unfolding call_of read_call order_call accepted_result answer_number
  accepts e space = simp (le-ltb (length area) 4_096 room, write_read order area writes, passes e space)

pub request_ends_lem : RequestEnds
unfolding RequestEnds ends
request_ends_lem b m n area p d room = (
  (λ c l. accepts b m n c area p d room (outside-ends c l) (simp l) (leaving-space b (ending m n c) p.sizes refl l)),
  (λ c l space. accepts b m n c area p d room (paper_ends (b.requests.asked m n).typ c l) (simp l (or-true (is_outside c))) space),
)
