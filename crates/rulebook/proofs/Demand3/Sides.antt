-- Sides taken in are sides settled, cancelled, deleted, suspended or waiting, over any list of calls. Assumes nothing.
use Rattle.std.specs.Prelude.{if◌then◌else◌}
use mathlib.Core.Path.{◌≡◌, refl}
use mathlib.Core.Bool.{Bool, true, false, not, ◌&&◌, ◌||◌, false≢true}
use mathlib.Core.List.{List, [], ◌∷◌, map}
use Prim.Native.Nat.{ℕ, zero, suc, ◌+◌, ◌≤◌, zero-le}
use Rattle.rulebook.specs.Calls.{Call, Made, calls_on, book_after, Accepted, accepted_calls, sum, sides_taken, sides_settled, sides_cancelled, sides_deleted, sides_suspended}
use Rattle.plain.proofs.Lists.{◌and◌, keep-split, total-append, total-map}
use Rattle.plain.specs.Lists.{◌is◌, ◌at_most◌, keep, total}
use Rattle.rulebook.proofs.Selection.Fixing.{fixing-total}
use Rattle.rulebook.proofs.Settled.{settled-total}
use Rattle.rulebook.proofs.ByCall.{Effect, AllForms, either_answer, by_form, by_call}
use Rattle.rulebook.specs.Call.{put_minute}
use native.Mathlib.Omega.{arith}
use Rattle.rulebook.specs.declared.Item.{Item}
use Rattle.rulebook.specs.declared.Order.{Order}
use Rattle.rulebook.specs.declared.State.{State}
use Rattle.rulebook.specs.declared.State.TheVariants.{Single, Pair, Trade}
use Rattle.rulebook.specs.Ledger.{Ledger, fresh, put_day, put_holdings, put_waiting, put_rate, put_requests}
use Rattle.rulebook.specs.Waiting.{sides_of, sides, is_deliver, is_receive, item_of, sender_of, with_state, marked, marking, cancelled, staying, unmarked, sent_by, single_of, with_sent}
use Rattle.rulebook.specs.Matching.{tolerance, pairs_with, pair_of, arrive}
use Rattle.rulebook.specs.Close.{close_kind, leaves, deleted_at_close, suspended_at_close}
use Rattle.rulebook.specs.Forms.{counts, outcome, moving, silent, open_day, admit, deposit, withdraw, transfer, pay_in, pay_out, instruct, trade, cancel, cycle, confirm, decline, answer_cycle, close, forms, effect, takes_in, set_rate, request_paper, end_request}
use Rattle.rulebook.specs.declared.Counts.{Counts}
use Rattle.rulebook.specs.Selection.{selection}
use Rattle.rulebook.specs.Cycle.{fixing, settled, not_settled, declined}

-- matching

single_pairs : (s : State) (x y x' y' : Bool) → ((is_deliver s && x && y) || (is_receive s && x' && y')) ≡ true → sides_of s ≡ 1
unfolding is_deliver is_receive sides_of
single_pairs (Single d r) x y x' y' e = refl
single_pairs (Pair d r dm rm) x y x' y' e = absurd (false≢true e)
single_pairs (Trade r) x y x' y' e = absurd (false≢true e)

pair-sides : (b : Bool) (x y : Item) → sides_of (if b then pair_of x y else pair_of y x).state ≡ 2
unfolding pair_of sides_of
pair-sides true x y = refl
pair-sides false x y = refl

waits-single : (limit : ℕ) (new w : Item) → pairs_with limit new w ≡ true → sides_of w.state ≡ 1
unfolding pairs_with
waits-single limit new w e = single_pairs w.state _ _ _ _ e

arrive-sides : (limit : ℕ) (new : Item) → sides_of new.state ≡ 1 → (ws : List Item) → sides (arrive limit new ws) ≡ sides ws + 1
unfolding arrive sides
arrive-sides limit new n [] = simp n
arrive-sides limit new n (w ∷ rest) = go (pairs_with limit new w) refl (arrive-sides limit new n rest)
  where
    go : (b : Bool) → pairs_with limit new w ≡ b → sides (arrive limit new rest) ≡ sides rest + 1 → sides (arrive limit new (w ∷ rest)) ≡ sides (w ∷ rest) + 1
    go true e ih =
        let w₁ = waits-single limit new w e in
        let w₂ = pair-sides (is_deliver w.state) w new in
        simp (e, total-append) (omega (arith, w₁, w₂))
    go false e ih = simp e (omega (arith, ih))

-- cancel

mark-sides : (sender : ℕ) (item : Item) (s : State) → sides_of (marked sender (with_state s item)).state ≡ sides_of s
unfolding marked with_state sides_of
mark-sides sender item (Single d r) = refl
mark-sides sender item (Pair d r dm rm) = go (sender is item.debited.member)
  where
    go : (b : Bool) → sides_of (if b then Pair d r true rm else Pair d r dm true) ≡ 2
    go true = refl
    go false = refl
mark-sides sender item (Trade r) = refl

marking-sides : (sender reference : ℕ) (ws : List Item) → sides (marking sender reference ws) ≡ sides ws
unfolding marking sides with_state
marking-sides sender reference ws = total-map _ _ _ (λ x. go x (sent_by sender reference x)) ws
  where
    go : (x : Item) (b : Bool) → sides_of (if b then marked sender x else x).state ≡ sides_of x.state
    go x true = mark-sides sender x x.state
    go x false = refl

cancel-sides : (ws : List Item) → sides (cancelled ws) + sides (staying ws) ≡ sides ws
unfolding cancelled staying sides
cancel-sides ws = keep-split _ _ ws

-- cycle

abbrev sides_at : Item → ℕ
sides_at i = sides_of i.state

cycle-sides : (book : Ledger) → sides (fixing (selection book)) ≡ sides book.waiting
unfolding sides with_sent
cycle-sides book = fixing-total sides_at (λ t i. refl) book

-- the answer

confirm-sides : (book : Ledger) → sides (settled book) + sides (not_settled book) ≡ sides book.waiting
unfolding sides
confirm-sides book = settled-total sides_at book

decline-sides : (ws : List Item) → sides (declined ws) ≡ sides ws
unfolding sides declined with_sent
decline-sides ws = total-map sides_at sides_at (with_sent false) (λ i. refl) ws

-- close

unmark_sides : (item : Item) (s : State) → sides_of (unmarked (with_state s item)).state ≡ sides_of s
unfolding unmarked with_state sides_of
unmark_sides item (Single d r) = refl
unmark_sides item (Pair d r dm rm) = refl
unmark_sides item (Trade r) = refl

unmarked-sides : (ws : List Item) → sides (map unmarked ws) ≡ sides ws
unfolding sides with_state
unmarked-sides ws = total-map sides_at sides_at unmarked (λ x. unmark_sides x x.state) ws

at_most_lem : (b : Bool) (n : ℕ) → n ≤ 3 → (if b then n else 0) ≤ 3
at_most_lem true n h = h
at_most_lem false n h = zero-le

kind_most : (day : ℕ) (item : Item) (s : State) → close_kind day (with_state s item) ≤ 3
unfolding close_kind with_state
kind_most day item (Single d r) = at_most_lem (item.settlement_day is day) 1 (omega arith)
kind_most day item (Pair d r dm rm) = at_most_lem (day is (item.settlement_day + 10)) 2 (omega arith)
kind_most day item (Trade r) = at_most_lem (item.settlement_day at_most day) 3 (omega arith)

gone-sides :
    (day : ℕ) (ws : List Item) → sides (keep (deleted_at_close day) (keep (leaves day) ws)) + sides (keep (suspended_at_close day) (keep (leaves day) ws))
    ≡ sides (keep (leaves day) ws)
unfolding leaves deleted_at_close suspended_at_close sides with_state
gone-sides day [] = refl
gone-sides day (w ∷ rest) = go (close_kind day w) refl (kind_most day w w.state) (gone-sides day rest)
  where
    go :
        (k : ℕ) → close_kind day w ≡ k → close_kind day w ≤ 3
        → sides (keep (deleted_at_close day) (keep (leaves day) rest)) + sides (keep (suspended_at_close day) (keep (leaves day) rest))
        ≡ sides (keep (leaves day) rest)
        → sides (keep (deleted_at_close day) (keep (leaves day) (w ∷ rest))) + sides (keep (suspended_at_close day) (keep (leaves day) (w ∷ rest)))
        ≡ sides (keep (leaves day) (w ∷ rest))
    go zero e h ih = simp e ih
    go (suc zero) e h ih = simp e (omega arith)
    go (suc (suc zero)) e h ih = simp e (omega arith)
    go (suc (suc (suc zero))) e h ih = simp e (omega arith)
    go (suc (suc (suc (suc k)))) e h ih = absurd (omega arith)

close-sides :
    (day : ℕ) (ws : List Item)
    → sides (keep (deleted_at_close day) (keep (leaves day) ws)) + sides (keep (suspended_at_close day) (keep (leaves day) ws)) + sides
    (map unmarked (keep (λ w. not (leaves day w)) ws))
    ≡ sides ws
close-sides day ws =
    let a = gone-sides day ws in
    let b = unmarked-sides (keep (λ w. not (leaves day w)) ws) in
    let c : sides (keep (leaves day) ws) + sides (keep (λ w. not (leaves day w)) ws) ≡ sides ws = unfold sides in keep-split sides_at (leaves day) ws in
    omega (arith, a, b, c)

-- forms

-- the sides that an answer says are gone
abbrev gone : Counts → ℕ
gone c = c.settled + c.cancelled + c.deleted + c.suspended

-- a form keeps the sides: those taken in and those waiting are those gone and those waiting after it
abbrev Keeps : ℕ → Effect → Type 0
Keeps takes f = (b : Ledger) (o : Order) → takes + sides b.waiting ≡ gone (f b o).counts + sides (f b o).after.waiting

instruct-keeps : Keeps 1 instruct
unfolding instruct silent outcome counts put_waiting item_of sides_of
instruct-keeps b o = omega (arith, arrive-sides (tolerance b.rate o.currency) (single_of o) refl b.waiting)

trade-keeps : Keeps 2 trade
unfolding trade silent outcome counts put_waiting sides item_of sides_of
trade-keeps b o = simp total-append (omega arith)

cancel-keeps : Keeps 0 cancel
unfolding cancel outcome counts put_waiting
cancel-keeps b o =
    let now = marking (sender_of o) o.reference b.waiting in
    omega (arith, cancel-sides now, marking-sides (sender_of o) o.reference b.waiting)

cycle-keeps : Keeps 0 cycle
unfolding cycle outcome counts put_day put_waiting
cycle-keeps b o = omega (arith, cycle-sides b)

answer_keeps : Keeps 0 answer_cycle
unfolding confirm decline silent outcome counts put_day put_holdings put_waiting
answer_keeps b o =
    either_answer (λ x. 0 + sides b.waiting ≡ gone x.counts + sides x.after.waiting) b o (omega (arith, confirm-sides b))
    (omega (arith, decline-sides b.waiting))

close-keeps : Keeps 0 close
unfolding close outcome counts put_day put_waiting
close-keeps b o = omega (arith, close-sides b.day.number b.waiting)

-- a form that leaves the waiting list as it was takes in none, and none is gone
forms-keep : AllForms (λ n f. Keeps f.takes f.effect) 1 forms
unfolding forms open_day admit deposit withdraw transfer pay_in pay_out set_rate request_paper end_request moving silent outcome counts put_day put_holdings
    put_rate put_requests
forms-keep =
    (λ b o. refl) and (λ b o. refl) and (λ b o. refl) and (λ b o. refl) and (λ b o. refl) and (λ b o. refl) and (λ b o. refl) and (λ b o. refl)
    and (λ b o. refl) and (λ b o. refl) and (λ b o. refl) and instruct-keeps and instruct-keeps and trade-keeps and cancel-keeps and cycle-keeps
    and close-keeps and (λ b o. refl) and (λ b o. refl) and (λ b o. refl) and answer_keeps and tt

effect-keeps : (b : Ledger) (o : Order) → takes_in o + sides b.waiting ≡ gone (effect b o).counts + sides (effect b o).after.waiting
unfolding effect takes_in
effect-keeps b o = by_form (λ n f. Keeps f.takes f.effect) forms-keep (λ m none b o. unfold silent outcome counts in refl) o.form b o

-- calls: nothing has to be known of the book

list_keeps :
    (calls : List Call)
    → sum (λ c. takes_in c.order) (calls_on fresh calls) + sides fresh.waiting
    ≡ sum (λ c. gone c.counts) (calls_on fresh calls) + sides (book_after fresh calls).waiting
unfolding put_minute put_day
list_keeps calls =
    by_call (λ b. Unit {0}) (λ b. sides b.waiting) (λ c. takes_in c.order) (λ c. gone c.counts) (λ b o bytes area i e f. (tt, effect-keeps b o)) fresh tt calls

-- in the words of the claim

gone-in : (h : List Made) → sum (λ c. gone c.counts) h ≡ sides_settled h + sides_cancelled h + sides_deleted h + sides_suspended h
unfolding sum sides_settled sides_cancelled sides_deleted sides_suspended
gone-in h = go (accepted_calls h)
  where
    go :
        (l : List Accepted)
        → total (λ c. gone c.counts) l
        ≡ total (λ c. c.counts.settled) l + total (λ c. c.counts.cancelled) l + total (λ c. c.counts.deleted) l + total (λ c. c.counts.suspended) l
    go [] = refl
    go (c ∷ rest) = omega (arith, go rest)

none_waiting : sides fresh.waiting ≡ 0
unfolding fresh sides
none_waiting = refl

pub sided :
    (calls : List Call)
    → sides_taken (calls_on fresh calls)
    ≡ sides_settled (calls_on fresh calls) + sides_cancelled (calls_on fresh calls) + sides_deleted (calls_on fresh calls) + sides_suspended (calls_on fresh calls)
    + sides (book_after fresh calls).waiting
unfolding sides_taken
sided calls = omega (arith, list_keeps calls, gone-in (calls_on fresh calls), none_waiting)
