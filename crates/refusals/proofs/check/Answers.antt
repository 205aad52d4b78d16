-- One stage behind the other.
use Rattle.std.proofs.Common.{◌≡◌, ℕ, List, ◌++◌, Bool, true, false, sym, ap, refl, ◌∙◌, arith}
use Rattle.std.proofs.lemmas.Result.{err_from_is_err_and}
use Rattle.plain.specs.Lists.{◌is◌, first}
use Rattle.rulebook.specs.Answers.{number_of}
use Rattle.rulebook.specs.Ledger.{Ledger}
use Rattle.rulebook.specs.Refusals.{refusals, day_tests, order_tests, item_tests, request_tests, room_tests}
use Rattle.rulebook.specs.declared.Day.{Day}
use Rattle.rulebook.specs.declared.Order.{Order}
use Rattle.rulebook.specs.declared.Refusal.{Refusal}
use Rattle.rulebook.proofs.Answers.{refusal-back}
use Rattle.rulebook.proofs.Checking.{Numbered, first_stops, first-goes_on, day_numbered, order-numbered, items_numbered, requests_numbered}
use Rattle.book.specs.Meaning.{ledger_of}
use Rattle.checking.proofs.Orders.{ranges}
use Rattle.refusals.proofs.check.Goals as goal

-- ---- a stage that refuses, and one that lets the order pass

refuses :
    (refusal : Refusal) (one other : List (ℕ × Bool)) → Numbered one → number_of refusal ≡ first one → number_of refusal ≡ first (one ++ other)
refuses refusal one other numbered e = first_stops one other numbered (number_of refusal) e (not-0 (number_of refusal) (refusal-back refusal).1)
  where
    not-0 : (n : ℕ) → (n is 0) ≡ false → n ≡ 0 → ⊥
    not-0 n e z = let f : true ≡ false = rw z at e in cc

module _ (book : Ledger) (order : Order) where
  abbrev by_day : List (ℕ × Bool)
  by_day = day_tests book.day order

  abbrev by_order : List (ℕ × Bool)
  by_order = order_tests book.holdings book.day.number order

  abbrev by_items : List (ℕ × Bool)
  by_items = item_tests book.waiting order

  abbrev by_requests : List (ℕ × Bool)
  by_requests = request_tests book.requests book.day.number order

  abbrev later : List (ℕ × Bool)
  later = by_requests ++ room_tests book order

  after-day : 0 ≡ first by_day → first (refusals book order) ≡ first (by_order ++ (by_items ++ later))
  unfolding refusals
  after-day e = first-goes_on by_day _ (day_numbered _ _) 0 e refl

  after-order : 0 ≡ first by_day → 0 ≡ first by_order → first (refusals book order) ≡ first (by_items ++ later)
  after-order d e = after-day d ∙ first-goes_on by_order _ (order-numbered _ _ _) 0 e refl

  after_items : 0 ≡ first by_day → 0 ≡ first by_order → 0 ≡ first by_items → first (refusals book order) ≡ first later
  after_items d o e = after-order d o ∙ first-goes_on by_items _ (items_numbered _ _) 0 e refl

  after-requests :
      0 ≡ first by_day → 0 ≡ first by_order → 0 ≡ first by_items → 0 ≡ first by_requests
      → first (refusals book order) ≡ first (room_tests book order)
  after-requests d o i e = after_items d o i ∙ first-goes_on by_requests _ (requests_numbered _ _ _) 0 e refl

-- ---- the book's day is what the stages are given

abbrev on_day : List ℕ → Order → Day → ℕ
on_day book order today = first (day_tests today order)

abbrev on_order : List ℕ → Order → Day → ℕ
on_order book order today = first (order_tests (ledger_of book).holdings today.number order)

abbrev on_requests : List ℕ → Order → Day → ℕ
on_requests book order today = first (request_tests (ledger_of book).requests today.number order)

pub check-requires : goal.check-requires
check-requires c = (ranges _ c.requires.1).form

-- today is at most 60,000
pub check-requires-2 : goal.check-requires-2
check-requires-2 c = (
  c.requires.0.stored,
  c.requires.1,
  omega (arith, ap (λ (x : Day). x.number) c.day-today.ensures, c.requires.0.premise.day.number),
)

pub check-requires-5 : goal.check-requires-5
check-requires-5 c = (
  c.requires.0,
  c.requires.1,
  sym (c.in_ok-check-2.ensures ∙ ap (on_order c.args.book.now c.args.order) c.day-today.ensures),
  sym (c.in_ok-check-4.ensures ∙ ap (on_requests c.args.book.now c.args.order) c.day-today.ensures),
)

pub returns-in_err-check : goal.returns-in_err-check
unfolding refusals
returns-in_err-check c =
    let p = err_from_is_err_and c.from_residual.result c.from_residual.ensures.1 in
    let e = c.in_err-check.ensures ∙ ap (on_day c.args.book.now c.args.order) c.day-today.ensures in
    rw (p.1, p.2) (refuses _ _ _ (day_numbered _ _) e)

pub returns-in_err-check-2 : goal.returns-in_err-check-2
returns-in_err-check-2 c =
    let p = err_from_is_err_and c.from_residual-in_err-check-2.result c.from_residual-in_err-check-2.ensures.1 in
    let d = c.in_ok-check.ensures ∙ ap (on_day c.args.book.now c.args.order) c.day-today.ensures in
    let e = c.in_err-check-2.ensures ∙ ap (on_order c.args.book.now c.args.order) c.day-today.ensures in
    rw (p.1, p.2) (refuses _ _ _ (order-numbered _ _ _) e ∙ sym (after-day _ _ d))

pub returns-in_err-check-3 : goal.returns-in_err-check-3
returns-in_err-check-3 c =
    let p = err_from_is_err_and c.from_residual-in_err-check-3.result c.from_residual-in_err-check-3.ensures.1 in
    let d = c.in_ok-check.ensures ∙ ap (on_day c.args.book.now c.args.order) c.day-today.ensures in
    let o = c.in_ok-check-2.ensures ∙ ap (on_order c.args.book.now c.args.order) c.day-today.ensures in
    rw (p.1, p.2) (refuses _ _ _ (items_numbered _ _) c.in_err-check-3.ensures ∙ sym (after-order _ _ d o))

pub returns-in_err-check-4 : goal.returns-in_err-check-4
returns-in_err-check-4 c =
    let p = err_from_is_err_and c.from_residual-in_err-check-4.result c.from_residual-in_err-check-4.ensures.1 in
    let d = c.in_ok-check.ensures ∙ ap (on_day c.args.book.now c.args.order) c.day-today.ensures in
    let o = c.in_ok-check-2.ensures ∙ ap (on_order c.args.book.now c.args.order) c.day-today.ensures in
    let e = c.in_err-check-4.ensures ∙ ap (on_requests c.args.book.now c.args.order) c.day-today.ensures in
    rw (p.1, p.2) (refuses _ _ _ (requests_numbered _ _ _) e ∙ sym (after_items _ _ d o c.in_ok-check-3.ensures))

pub returns : goal.returns
returns c =
    let d = c.in_ok-check.ensures ∙ ap (on_day c.args.book.now c.args.order) c.day-today.ensures in
    let o = c.in_ok-check-2.ensures ∙ ap (on_order c.args.book.now c.args.order) c.day-today.ensures in
    let r = c.in_ok-check-4.ensures ∙ ap (on_requests c.args.book.now c.args.order) c.day-today.ensures in
    c.check-5.ensures ∙ sym (after-requests _ _ d o c.in_ok-check-3.ensures r)
