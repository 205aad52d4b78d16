-- What others do while a cycle is sent they would have done the same without it. Assumes nothing.
use Rattle.std.specs.Prelude.{if◌then◌else◌}
use mathlib.Core.Path.{◌≡◌, refl, sym, ap, ◌∙◌}
use mathlib.Core.Bool.{Bool, true, false, not, false≢true}
use mathlib.Core.List.{List, [], ◌∷◌, ◌++◌, map}
use Prim.Native.Nat.{ℕ}
use lib.ListN.{length}
use Rattle.plain.specs.Lists.{◌is◌, keep}
use Rattle.plain.proofs.Lists.{◌and◌, total-map}
use Rattle.rulebook.specs.Ledger.{Ledger, put_day, put_holdings, put_waiting, put_rate, put_requests, cycle_answered}
use Rattle.rulebook.specs.Waiting.{is_deliver, item_of, single_of, sender_of, sent_by, with_state, with_sent, marked, marking, both_marked, cancelled, staying, sides, sides_of}
use Rattle.rulebook.specs.Matching.{tolerance, pairs_with, agree, same_terms, shared_terms, pair_of, arrive}
use Rattle.rulebook.specs.Cycle.{declined}
use Rattle.rulebook.specs.Forms.{Outcome, outcome, counts, moving, silent, admit, deposit, withdraw, transfer, instruct, trade, cancel, set_rate, request_paper, end_request, forms, effect}
use Rattle.rulebook.specs.Rows.{notice, notice_of}
use Rattle.rulebook.specs.Premise.{Premise}
use Rattle.rulebook.specs.SentCycles.{unsent}
use Rattle.rulebook.specs.declared.Item.{Item}
use Rattle.rulebook.specs.declared.Order.{Order}
use Rattle.rulebook.specs.declared.State.{State}
use Rattle.rulebook.specs.declared.State.TheVariants.{Trade}
use Rattle.rulebook.proofs.ByCall.{Effect, AllForms, not_read, by_form}
use Rattle.rulebook.proofs.SentCycles.Staying.{not_while_sent}
use Rattle.rulebook.proofs.Orders.{Accepted, opens-next, none_sent}

-- an item that is not fixed
pub one_unsent : (i : Item) → i.sent ≡ false → with_sent false i ≡ i
unfolding with_sent
one_unsent i e = ap (λ (t : Bool). with_sent t i) (sym e)

-- an order does the same, and writes and counts the same, without the cycle
abbrev Same : Outcome → Outcome → Type 0
Same without x = (without.after ≡ unsent x.after) × (without.rows ≡ x.rows) × (without.counts ≡ x.counts)

declined-last : (i : Item) → i.sent ≡ false → (ws : List Item) → declined ws ++ (i ∷ []) ≡ declined (ws ++ (i ∷ []))
unfolding declined
declined-last i e [] = rw (one_unsent i e)
declined-last i e (w ∷ rest) = rw (declined-last i e rest)

-- matching does not ask whether an item is fixed
pairs_unsent : (limit : ℕ) (new w : Item) → pairs_with limit new (with_sent false w) ≡ pairs_with limit new w
unfolding pairs_with agree same_terms shared_terms with_sent
pairs_unsent limit new w = refl

abbrev pair_with : Item → Item → Item
pair_with new w = if is_deliver w.state then pair_of w new else pair_of new w

pair-unsent : (new w : Item) → (pair_with new (with_sent false w) ≡ pair_with new w) × ((pair_with new w).sent ≡ false)
unfolding with_sent pair_of
pair-unsent new w = (refl, go (is_deliver w.state))
  where
    go : (t : Bool) → (if t then pair_of w new else pair_of new w).sent ≡ false
    go true = refl
    go false = refl

arrive-unsent :
    (limit : ℕ) (new : Item) → new.sent ≡ false → (ws : List Item) → arrive limit new (declined ws) ≡ declined (arrive limit new ws)
unfolding arrive declined
arrive-unsent limit new e [] = rw (one_unsent new e)
arrive-unsent limit new e (w ∷ rest) = go (pairs_with limit new w) refl (arrive-unsent limit new e rest)
  where
    go :
        (t : Bool) → pairs_with limit new w ≡ t → arrive limit new (declined rest) ≡ declined (arrive limit new rest)
        → arrive limit new (declined (w ∷ rest)) ≡ declined (arrive limit new (w ∷ rest))
    go true p ih =
        let u = pair-unsent new w in
        simp (pairs_unsent limit new w, p) (ap (λ (i : Item). declined rest ++ (i ∷ [])) u.0 ∙ declined-last (pair_with new w) u.1 rest)
    go false p ih = simp (pairs_unsent limit new w, p) (ap (λ (x : List Item). with_sent false w ∷ x) ih)

-- nor do marks

mark-unsent : (s r : ℕ) (i : Item) → (sent_by s r (with_sent false i) ≡ sent_by s r i) × (marked s (with_sent false i) ≡ with_sent false (marked s i))
unfolding sent_by marked with_state with_sent
mark-unsent s r i = (refl, refl)

marking-unsent : (s r : ℕ) (ws : List Item) → marking s r (declined ws) ≡ declined (marking s r ws)
unfolding marking declined
marking-unsent s r [] = refl
marking-unsent s r (w ∷ rest) = go (sent_by s r w) refl (marking-unsent s r rest)
  where
    go :
        (t : Bool) → sent_by s r w ≡ t → marking s r (declined rest) ≡ declined (marking s r rest)
        → marking s r (declined (w ∷ rest)) ≡ declined (marking s r (w ∷ rest))
    go true p ih = let m = mark-unsent s r w in simp (m.0, p, m.1) (ap (λ (x : List Item). with_sent false (marked s w) ∷ x) ih)
    go false p ih = let m = mark-unsent s r w in simp (m.0, p) (ap (λ (x : List Item). with_sent false w ∷ x) ih)

-- nor does a test of states choose otherwise
keep-unsent : (test : State → Bool) (ws : List Item) → keep (λ i. test i.state) (declined ws) ≡ declined (keep (λ i. test i.state) ws)
unfolding declined with_sent
keep-unsent test [] = refl
keep-unsent test (w ∷ rest) = go (test w.state) refl (keep-unsent test rest)
  where
    go :
        (t : Bool) → test w.state ≡ t → keep (λ i. test i.state) (declined rest) ≡ declined (keep (λ i. test i.state) rest)
        → keep (λ i. test i.state) (declined (w ∷ rest)) ≡ declined (keep (λ i. test i.state) (w ∷ rest))
    go true p ih = simp p (ap (λ (x : List Item). with_sent false w ∷ x) ih)
    go false p ih = simp p ih

notices-unsent : (ws : List Item) → map (λ item. notice (notice_of 4 item)) (declined ws) ≡ map (λ item. notice (notice_of 4 item)) ws
unfolding declined with_sent notice_of
notices-unsent [] = refl
notices-unsent (w ∷ rest) = rw (notices-unsent rest)

sides-unsent : (ws : List Item) → sides (declined ws) ≡ sides ws
unfolding sides declined
sides-unsent ws = total-map (λ item. sides_of item.state) (λ item. sides_of item.state) (with_sent false) (λ i. unfold with_sent in refl) ws

-- form by form
abbrev Acts : ℕ → Effect → Type 0
Acts n f =
    (b : Ledger) (o : Order) → o.form ≡ n → Premise b → Accepted b o → b.day.sent ≡ true → (n is 21) ≡ false → Same (f (unsent b) o) (f b o)

instruct-same : (b : Ledger) (o : Order) → Same (instruct (unsent b) o) (instruct b o)
unfolding instruct silent outcome put_day put_waiting
instruct-same b o =
    let a = arrive-unsent (tolerance b.rate o.currency) (single_of o) (unfold item_of in refl) b.waiting in
    (ap (λ (ws : List Item). put_day (cycle_answered b.day) (put_waiting ws b)) a, refl, refl)

trade-same : (b : Ledger) (o : Order) → Same (trade (unsent b) o) (trade b o)
unfolding trade silent outcome put_day put_waiting
trade-same b o =
    let a = declined-last (item_of (Trade o.reference) o) (unfold item_of in refl) b.waiting in
    (ap (λ (ws : List Item). put_day (cycle_answered b.day) (put_waiting ws b)) a, refl, refl)

cancel-same : (b : Ledger) (o : Order) → Same (cancel (unsent b) o) (cancel b o)
unfolding cancel outcome put_day put_waiting staying cancelled
cancel-same b o =
    let now = marking (sender_of o) o.reference b.waiting in
    let m = marking-unsent (sender_of o) o.reference b.waiting in
    let stay : staying (marking (sender_of o) o.reference (declined b.waiting)) ≡ declined (staying now) =
    ap staying m ∙ keep-unsent (λ x. not (both_marked x)) now in
    let gone : cancelled (marking (sender_of o) o.reference (declined b.waiting)) ≡ declined (cancelled now) = ap cancelled m ∙ keep-unsent both_marked now in
    let rows : map (λ item. notice (notice_of 4 item)) (cancelled (marking (sender_of o) o.reference (declined b.waiting)))
    ≡ map (λ item. notice (notice_of 4 item)) (cancelled now) = ap (map (λ item. notice (notice_of 4 item))) gone ∙ notices-unsent (cancelled now) in
    let gone-sides : sides (cancelled (marking (sender_of o) o.reference (declined b.waiting))) ≡ sides (cancelled now) =
    ap sides gone ∙ sides-unsent (cancelled now) in (
      ap (λ (ws : List Item). put_day (cycle_answered b.day) (put_waiting ws b)) stay,
      rows,
      ap (λ (n : ℕ). counts n 0 (sides (cancelled (marking (sender_of o) o.reference (declined b.waiting)))) 0 0 0) (ap length rows)
          ∙ ap (λ (n : ℕ). counts (length (map (λ item. notice (notice_of 4 item)) (cancelled now))) 0 n 0 0 0) gone-sides,
    )

forms-act : AllForms (λ n f. Acts n f.effect) 1 forms
unfolding forms admit deposit withdraw transfer set_rate request_paper end_request moving silent outcome put_day put_holdings put_waiting put_rate put_requests
forms-act =
    (λ b o e p a s t. absurd (false≢true (sym (opens-next b o e a.right_day).0 ∙ p.day.sent_open s)))
    and (λ b o e p a s t. (refl, refl, refl)) and (λ b o e p a s t. (refl, refl, refl)) and (λ b o e p a s t. (refl, refl, refl))
    and (λ b o e p a s t. (refl, refl, refl)) and (λ b o e p a s t. (refl, refl, refl)) and (λ b o e p a s t. (refl, refl, refl))
    and (λ b o e p a s t. (refl, refl, refl)) and (λ b o e p a s t. (refl, refl, refl))
    and (λ b o e p a s t. not_while_sent b (none_sent b o 10 e refl a.answered) s)
    and (λ b o e p a s t. not_while_sent b (none_sent b o 11 e refl a.answered) s)
    and (λ b o e p a s t. instruct-same b o) and (λ b o e p a s t. instruct-same b o) and (λ b o e p a s t. trade-same b o)
    and (λ b o e p a s t. cancel-same b o)
    and (λ b o e p a s t. not_while_sent b (none_sent b o 16 e refl a.answered) s)
    and (λ b o e p a s t. not_while_sent b (none_sent b o 17 e refl a.answered) s)
    and (λ b o e p a s t. (refl, refl, refl)) and (λ b o e p a s t. (refl, refl, refl)) and (λ b o e p a s t. (refl, refl, refl))
    and (λ b o e p a s t. absurd (false≢true (sym t))) and tt

pub order_same :
    (b : Ledger) (o : Order) → Premise b → Accepted b o → b.day.sent ≡ true → (o.form is 21) ≡ false → Same (effect (unsent b) o) (effect b o)
unfolding effect
order_same b o p a s t =
    by_form (λ n f. Acts n f.effect) forms-act (λ m none b o e p a s t. absurd (not_read none e a.ranges.form)) o.form b o refl p a s t
