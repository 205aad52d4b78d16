-- What a sent cycle has fixed: over it nothing is short after every call, whatever came since the cycle was sent. Assumes nothing.
use Rattle.std.specs.Prelude.{if◌then◌else◌}
use mathlib.Core.Path.{◌≡◌, refl, sym, ap, ◌∙◌}
use mathlib.Core.Bool.{Bool, true, false, not, ◌&&◌, ◌||◌, false≢true}
use mathlib.Core.List.{List, [], ◌∷◌, ◌++◌, map}
use Prim.Native.Nat.{ℕ}
use native.Mathlib.Omega.{arith}
use borrow.Author.Tests.{not-true}
use Rattle.rulebook.specs.declared.Day.{Day}
use Rattle.rulebook.specs.declared.Item.{Item}
use Rattle.rulebook.specs.declared.Order.{Order}
use Rattle.rulebook.specs.declared.State.{State}
use Rattle.rulebook.specs.declared.State.TheVariants.{Single, Pair, Trade}
use Rattle.plain.specs.Lists.{◌is◌, some, keep, Each}
use Rattle.plain.proofs.Lists.{◌and◌, each_so, each_append, each_map, each_kept}
use Rattle.plain.proofs.Tests.{neither}
use Rattle.rulebook.specs.Ledger.{Ledger, Holdings, put_day, put_holdings, put_waiting, put_rate, put_requests}
use Rattle.rulebook.specs.Movements.{account, cash_of}
use Rattle.rulebook.specs.Waiting.{is_trade, is_deliver, is_receive, item_of, single_of, sender_of, sent_by, with_state, with_sent, marked, marking, both_marked, staying, unmarked}
use Rattle.rulebook.specs.Matching.{tolerance, pairs_with, pair_of, arrive}
use Rattle.rulebook.specs.Shortfall.{missing, NothingShort}
use Rattle.rulebook.specs.Selection.{Entry, is_sent, trades_in, due, selection}
use Rattle.rulebook.specs.Cycle.{fixing, fixed, not_settled, declined, offers}
use Rattle.rulebook.specs.Close.{leaves}
use Rattle.rulebook.specs.Forms.{Outcome, outcome, moving, silent, open_day, admit, deposit, withdraw, transfer, pay_in, pay_out, instruct, trade, cancel, cycle, confirm, decline, answer_cycle, close, set_rate, request_paper, end_request, forms, effect}
use Rattle.rulebook.specs.Refusals.{cancels_sent}
use Rattle.rulebook.specs.Premise.{SentFits, Premise}
use Rattle.rulebook.proofs.ByCall.{Effect, AllForms, either_answer, not_read, by_form}
use Rattle.rulebook.proofs.Orders.{Accepted, opens-next, none_sent}
use Rattle.rulebook.proofs.Selection.Missing.{by_places}
use Rattle.rulebook.proofs.Selection.Alone.{sent-alone}
use Rattle.rulebook.proofs.Selection.Fixing.{nothing_short, selection-alone, IfIn, selection-due, is_due_lem, fixing-fixed, missing-sent}
use Rattle.rulebook.proofs.Halves.{Half}
use Rattle.rulebook.proofs.Steps.OneCall.{Step}
use Rattle.rulebook.proofs.EveryCall.Items.{pairs, arrive-each}

-- the premise of what is fixed
pub record Fixed (b : Ledger) : Type 0 where
  pub sent : Each (SentFits b.day) b.waiting
  pub covered : NothingShort b.holdings (fixed b.waiting)

-- ---- nothing is fixed

abbrev Unsent : Item → Type 0
Unsent i = i.sent ≡ false

pub none_in_fixed : (ws : List Item) → Each Unsent ws → fixed ws ≡ []
unfolding fixed
none_in_fixed [] e = refl
none_in_fixed (w ∷ rest) e = simp e.0 (none_in_fixed rest e.1)

pub none_fixed : (h : Holdings) (ws : List Item) → Each Unsent ws → NothingShort h (fixed ws)
unfolding missing
none_fixed h ws e p = rw (none_in_fixed ws e) (omega arith)

unsent-fixed : (b : Ledger) → Each Unsent b.waiting → Fixed b
unsent-fixed b e = record {
  sent = each_so Unsent (SentFits b.day) (λ i f s. absurd (false≢true (sym f ∙ s))) b.waiting e;
  covered = none_fixed b.holdings b.waiting e;
}

-- while no cycle is sent
pub all-unsent : (b : Ledger) → Premise b → b.day.sent ≡ false → Each Unsent b.waiting
all-unsent b p n = each_so (SentFits b.day) Unsent (λ i f. go i i.sent refl f) b.waiting p.sent
  where
    go : (i : Item) (t : Bool) → i.sent ≡ t → SentFits b.day i → Unsent i
    go i true e f = absurd (false≢true (sym n ∙ (f e).0))
    go i false e f = e

-- ---- what comes and goes beside the fixed trades

marked-last : (i : Item) → Unsent i → (ws : List Item) → fixed (ws ++ (i ∷ [])) ≡ fixed ws
unfolding fixed
marked-last i e [] = simp e
marked-last i e (w ∷ rest) = go w.sent refl (marked-last i e rest)
  where
    go : (t : Bool) → w.sent ≡ t → fixed (rest ++ (i ∷ [])) ≡ fixed rest → fixed (w ∷ (rest ++ (i ∷ []))) ≡ fixed (w ∷ rest)
    go true p ih = simp p (ap (λ (x : List Item). w ∷ x) ih)
    go false p ih = simp p ih

marked-cons : (w : Item) (xs ys : List Item) → fixed xs ≡ fixed ys → fixed (w ∷ xs) ≡ fixed (w ∷ ys)
unfolding fixed
marked-cons w xs ys e = go w.sent refl
  where
    go : (t : Bool) → w.sent ≡ t → fixed (w ∷ xs) ≡ fixed (w ∷ ys)
    go true p = simp p (ap (λ (x : List Item). w ∷ x) e)
    go false p = simp p e

marked-skip : (w : Item) (xs : List Item) → Unsent w → fixed (w ∷ xs) ≡ fixed xs
unfolding fixed
marked-skip w xs e = simp e

-- a single is not fixed
abbrev TradesOnly : Item → Type 0
TradesOnly i = i.sent ≡ true → is_trade i.state ≡ true

no_trade : (x : State) → (is_deliver x || is_receive x) ≡ true → is_trade x ≡ false
unfolding is_deliver is_receive is_trade
no_trade (Single d r) e = refl
no_trade (Pair d r dm rm) e = absurd (false≢true e)
no_trade (Trade r) e = absurd (false≢true e)

single_unsent : (i : Item) → (is_deliver i.state || is_receive i.state) ≡ true → TradesOnly i → Unsent i
single_unsent i e f = go i.sent refl
  where
    go : (t : Bool) → i.sent ≡ t → Unsent i
    go true s = absurd (false≢true (sym (no_trade i.state e) ∙ f s))
    go false s = s

pub arrive-marked :
    (limit : ℕ) (new : Item) → Unsent new → (ws : List Item) → Each TradesOnly ws → fixed (arrive limit new ws) ≡ fixed ws
unfolding arrive
arrive-marked limit new u [] e = marked-last new u []
arrive-marked limit new u (w ∷ rest) e = go (pairs_with limit new w) refl (arrive-marked limit new u rest e.1)
  where
    pair : Item
    pair = if is_deliver w.state then pair_of w new else pair_of new w

    pair-unsent : (t : Bool) → Unsent (if t then pair_of w new else pair_of new w)
    pair-unsent true = unfold pair_of in refl
    pair-unsent false = unfold pair_of in refl

    left : pairs_with limit new w ≡ true → Unsent w
    left p =
        pairs (Unsent w) limit new w p (λ q a. single_unsent w (simp q) e.0)
        (λ q a. single_unsent w (simp (q, a.receives)) e.0)

    go : (t : Bool) → pairs_with limit new w ≡ t → fixed (arrive limit new rest) ≡ fixed rest → fixed (arrive limit new (w ∷ rest)) ≡ fixed (w ∷ rest)
    go true p ih = simp p (marked-last pair (pair-unsent (is_deliver w.state)) rest ∙ sym (marked-skip w rest (left p)))
    go false p ih = simp p (marked-cons w (arrive limit new rest) rest ih)

-- a trade that is cancelled is not fixed, nor is one whose first half is

pub cancel-marked :
    (s r : ℕ) (ws : List Item) → some (λ item. sent_by s r item && item.sent) ws ≡ false → Each Half ws
    → fixed (staying (marking s r ws)) ≡ fixed ws
unfolding staying marking
cancel-marked s r [] n e = refl
cancel-marked s r (w ∷ rest) n e =
    let m = neither (sent_by s r w && w.sent) (some (λ item. sent_by s r item && item.sent) rest) n in
    go (sent_by s r w) refl (both_marked (marked s w).state) refl m.0 (cancel-marked s r rest m.1 e.1)
  where
    later : List Item
    later = staying (marking s r rest)

    go :
        (t : Bool) → sent_by s r w ≡ t → (u : Bool) → both_marked (marked s w).state ≡ u
        → (sent_by s r w && w.sent) ≡ false → fixed (staying (marking s r rest)) ≡ fixed rest
        → fixed (staying (marking s r (w ∷ rest))) ≡ fixed (w ∷ rest)
    go true p true q m ih = let z : Unsent w = simp p at m in simp (p, q) (ih ∙ sym (marked-skip w rest z))
    go true p false q m ih =
        let z : Unsent w = simp p at m in
        simp (p, q) (marked-skip (marked s w) later (unfold marked with_state in z) ∙ ih ∙ sym (marked-skip w rest z))
    go false p u q m ih = simp (p, e.0) (marked-cons w later rest ih)

mark-trade : (s : ℕ) (i : Item) (x : State) → is_trade (marked s (with_state x i)).state ≡ is_trade x
unfolding marked with_state is_trade
mark-trade s i (Single d r) = refl
mark-trade s i (Pair d r dm rm) = go (s is i.debited.member)
  where
    go : (t : Bool) → is_trade (if t then Pair d r true rm else Pair d r dm true) ≡ true
    go true = refl
    go false = refl
mark-trade s i (Trade r) = refl

mark-sent : (day : Day) (s r : ℕ) (i : Item) → SentFits day i → SentFits day (if sent_by s r i then marked s i else i)
unfolding due marked with_state
mark-sent day s r i f = go (sent_by s r i)
  where
    go : (t : Bool) → SentFits day (if t then marked s i else i)
    go true e = let m : is_trade (marked s i).state ≡ is_trade i.state = mark-trade s i i.state in ((f e).0, simp m (f e).1)
    go false e = f e

-- nothing is short with trades that are fixed where nothing is with them
short_sent : (h : Holdings) (ts : List Item) → NothingShort h ts → NothingShort h (map (with_sent true) ts)
short_sent h ts n p = missing-sent h true ts p ∙ n p

-- ---- form by form

abbrev Keeps : ℕ → Effect → Type 0
Keeps n f = (b : Ledger) (o : Order) → o.form ≡ n → Premise b → Accepted b o → Step n b o (f b o) → Fixed (f b o).after

-- what movements leave of an account while a cycle is sent is still enough for what is fixed
spared : (n : ℕ) → (n is 21) ≡ false → (b : Ledger) (o : Order) (x : Outcome) → Premise b → Step n b o x → b.day.sent ≡ true
    → NothingShort x.after.holdings (fixed b.waiting)
unfolding missing offers
spared n t b o x p step s =
    let free = step.spares t s in
    by_places x.after.holdings (fixed b.waiting) (λ a. omega (arith, p.covered (account a), free.shares a, step.changes (account a)))
    (λ m c. omega (arith, p.covered (cash_of m c), free.cash m c, step.changes (cash_of m c)))

-- forms that leave the waiting list as it is
same_list : (n : ℕ) → (n is 21) ≡ false → (b : Ledger) (o : Order) (x : Outcome) → Premise b → Step n b o x → x.after.day ≡ b.day → x.after.waiting ≡ b.waiting
    → Fixed x.after
same_list n t b o x p step d w = go (b.day.sent) refl
  where
    go : (u : Bool) → b.day.sent ≡ u → Fixed x.after
    go true s = record {
      sent = rw (d, w) p.sent;
      covered = rw w (spared n t b o x p step s);
    }
    go false s = unsent-fixed x.after (rw w (all-unsent b p s))

-- forms that change what waits beside the fixed trades
same_fixed : (b : Ledger) (ws : List Item) → Premise b → Each (SentFits b.day) ws → fixed ws ≡ fixed b.waiting → Fixed (put_waiting ws b)
unfolding put_waiting
same_fixed b ws p s e = record { sent = s; covered = rw e p.covered }

unsent-fits : (day : Day) (i : Item) → Unsent i → SentFits day i
unsent-fits day i e s = absurd (false≢true (sym e ∙ s))

trades_only : (b : Ledger) → Premise b → Each TradesOnly b.waiting
trades_only b p = each_so (SentFits b.day) TradesOnly (λ i f s. (is_due_lem b.day.number i (f s).1).0) b.waiting p.sent

abbrev pub KeepsFixed : ℕ → Effect → Type 0
KeepsFixed n f = (b : Ledger) (o : Order) → o.form ≡ n → Premise b → Accepted b o → fixed (f b o).after.waiting ≡ fixed b.waiting

pub instruct-fixed : (n : ℕ) → KeepsFixed n instruct
unfolding instruct silent outcome put_waiting
instruct-fixed n b o e p a =
    arrive-marked (tolerance b.rate o.currency) (single_of o) (unfold item_of in refl) b.waiting (trades_only b p)

pub trade-fixed : KeepsFixed 14 trade
unfolding trade silent outcome put_waiting
trade-fixed b o e p a = marked-last (item_of (Trade o.reference) o) (unfold item_of in refl) b.waiting

pub cancel-fixed : KeepsFixed 15 cancel
unfolding cancel outcome put_waiting cancels_sent
cancel-fixed b o e p a = cancel-marked (sender_of o) o.reference b.waiting (simp e at a.not_sent) p.halves

instruct-keeps : (n : ℕ) → Keeps n instruct
unfolding instruct silent outcome
instruct-keeps n b o e p a step =
    same_fixed b (arrive (tolerance b.rate o.currency) (single_of o) b.waiting) p
    (arrive-each (SentFits b.day) (λ d r g f s. unsent-fits b.day (pair_of d r) (unfold pair_of in refl)) (tolerance b.rate o.currency) (single_of o)
    (unsent-fits b.day (single_of o) (unfold item_of in refl)) b.waiting p.sent)
    (unfold instruct silent outcome put_waiting in instruct-fixed n b o e p a)

trade-keeps : Keeps 14 trade
unfolding trade silent outcome
trade-keeps b o e p a step =
    let new = item_of (Trade o.reference) o in
    same_fixed b (b.waiting ++ (new ∷ [])) p
    (each_append (SentFits b.day) b.waiting _ p.sent (unsent-fits b.day new (unfold item_of in refl), tt))
    (unfold trade silent outcome put_waiting in trade-fixed b o e p a)

cancel-keeps : Keeps 15 cancel
unfolding cancel outcome staying marking
cancel-keeps b o e p a step =
    same_fixed b (staying (marking (sender_of o) o.reference b.waiting)) p
    (each_kept (SentFits b.day) (SentFits b.day) (λ item. not (both_marked item.state)) (λ i t f. f) (marking (sender_of o) o.reference b.waiting)
    (each_map (SentFits b.day) (SentFits b.day) _ (mark-sent b.day (sender_of o) o.reference) b.waiting p.sent))
    (unfold cancel outcome put_waiting in cancel-fixed b o e p a)

-- forms that leave nothing fixed

open_keeps : Keeps 1 open_day
unfolding open_day silent outcome put_day
open_keeps b o e p a step = unsent-fixed (open_day b o).after (unfold open_day silent outcome put_day in all-unsent b p (go (b.day.sent) refl))
  where
    go : (t : Bool) → b.day.sent ≡ t → b.day.sent ≡ false
    go true s = absurd (false≢true (sym (opens-next b o e a.right_day).0 ∙ p.day.sent_open s))
    go false s = s

close-keeps : Keeps 17 close
unfolding close outcome put_day put_waiting
close-keeps b o e p a step =
    unsent-fixed (close b o).after
    (unfold close outcome put_day put_waiting in each_map Unsent Unsent unmarked (λ i f. unfold unmarked with_state in f)
    (keep (λ item. not (leaves b.day.number item)) b.waiting)
    (each_kept Unsent Unsent (λ item. not (leaves b.day.number item)) (λ i t f. f) b.waiting (all-unsent b p (none_sent b o 17 e refl a.answered))))

not_settled_unsent : (b : Ledger) → Each Unsent (not_settled b)
unfolding not_settled
not_settled_unsent b = each_kept (λ i. Unit {0}) Unsent (λ i. not i.sent) (λ i n u. not-true i.sent n) b.waiting (any b.waiting)
  where
    any : (ws : List Item) → Each (λ i. Unit {0}) ws
    any [] = tt
    any (w ∷ rest) = (tt, any rest)

pub declined-unsent : (ws : List Item) → Each Unsent (declined ws)
unfolding declined with_sent
declined-unsent [] = tt
declined-unsent (w ∷ rest) = (refl, declined-unsent rest)

answer_keeps : Keeps 21 answer_cycle
answer_keeps b o e p a step =
    either_answer (λ x. Fixed x.after) b o
    (unsent-fixed (confirm b).after (unfold confirm outcome put_day put_holdings put_waiting in not_settled_unsent b))
    (unsent-fixed (decline b).after (unfold decline silent outcome put_day put_waiting in declined-unsent b.waiting))

-- the cycle fixes what makes nothing short

cycle-keeps : Keeps 16 cycle
unfolding cycle outcome put_day put_waiting
cycle-keeps b o e p a step = record {
  sent =
      unfold fixing in each_map (IfIn b.day.number) (SentFits (cycle b o).after.day) (λ (x : Entry). with_sent (is_sent (selection b) x) x.item)
      (λ x f s. (refl, unfold due with_sent in f (sym (sent-alone (selection b) (selection-alone b) x) ∙ unfold with_sent in s))) (selection b) (selection-due b);
  covered = rw (fixing-fixed (selection b) (selection-alone b)) (short_sent b.holdings (trades_in (selection b)) (nothing_short b));
}

forms-keep : AllForms (λ n f. Keeps n f.effect) 1 forms
unfolding forms admit deposit withdraw transfer pay_in pay_out set_rate request_paper end_request moving silent outcome put_holdings put_rate put_requests
forms-keep =
    open_keeps
    and (λ b o e p a s. same_list 2 refl b o _ p s refl refl) and (λ b o e p a s. same_list 3 refl b o _ p s refl refl)
    and (λ b o e p a s. same_list 4 refl b o _ p s refl refl) and (λ b o e p a s. same_list 5 refl b o _ p s refl refl)
    and (λ b o e p a s. same_list 6 refl b o _ p s refl refl) and (λ b o e p a s. same_list 7 refl b o _ p s refl refl)
    and (λ b o e p a s. same_list 8 refl b o _ p s refl refl) and (λ b o e p a s. same_list 9 refl b o _ p s refl refl)
    and (λ b o e p a s. same_list 10 refl b o _ p s refl refl) and (λ b o e p a s. same_list 11 refl b o _ p s refl refl)
    and instruct-keeps 12 and instruct-keeps 13 and trade-keeps and cancel-keeps and cycle-keeps and close-keeps
    and (λ b o e p a s. same_list 18 refl b o _ p s refl refl) and (λ b o e p a s. same_list 19 refl b o _ p s refl refl)
    and (λ b o e p a s. same_list 20 refl b o _ p s refl refl) and answer_keeps and tt

-- an accepted order keeps it
pub order-fixed : (b : Ledger) (o : Order) → Premise b → Accepted b o → Step o.form b o (effect b o) → Fixed (effect b o).after
unfolding effect
order-fixed b o p a step =
    by_form (λ n f. Keeps n f.effect) forms-keep (λ m none b o e p a s. absurd (not_read none e a.ranges.form)) o.form b o refl p a step
