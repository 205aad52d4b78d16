-- Parts 3 to 7 of the premise, form by form. Assumes nothing.
use Rattle.std.specs.Prelude.{if◌then◌else◌}
use mathlib.Core.Path.{◌≡◌, refl, subst}
use mathlib.Core.Bool.{Bool, true, false, not, false≢true}
use mathlib.Core.List.{List, [], ◌∷◌, ◌++◌}
use Prim.Native.Nat.{ℕ, ◌+◌}
use native.Mathlib.Omega.{arith}
use Rattle.rulebook.specs.declared.Item.{Item}
use Rattle.rulebook.specs.declared.Order.{Order}
use Rattle.rulebook.specs.declared.Request.{Request}
use Rattle.rulebook.specs.declared.Security.{Security}
use Rattle.rulebook.specs.declared.State.{State}
use Rattle.rulebook.specs.declared.State.TheVariants.{Single, Pair, Trade}
use Rattle.plain.specs.Lists.{◌is◌, ◌one_of◌, within, keep, Each}
use Rattle.plain.proofs.Lists.{◌and◌, total-append, each_so, each_both, each_append, each_kept, each_map}
use Rattle.rulebook.specs.AccountTypes.{alike, is_outside, account_type, wrong_types}
use Rattle.rulebook.specs.Field as Field
use Rattle.rulebook.specs.Ledger.{Ledger, Holdings, Requests, account_of, request_account, admitted, put_day, put_holdings, put_waiting, put_requests, put_securities, new_security, put_rate}
use Rattle.rulebook.specs.Movements.{account, type91, Movement, booked}
use Rattle.rulebook.specs.Waiting.{is_trade, item_of, sender_of, sent_by, marking, staying, both_marked, single_of, with_sent}
use Rattle.rulebook.specs.Matching.{tolerance}
use Rattle.rulebook.specs.Shortfall.{buyer}
use Rattle.rulebook.specs.Cycle.{settled, not_settled, declined, legs}
use Rattle.rulebook.specs.Close.{leaves}
use Rattle.rulebook.specs.Forms.{outcome, moving, silent, open_day, admit, deposit, withdraw, transfer, pay_in, pay_out, instruct, trade, cancel, cycle, confirm, decline, answer_cycle, close, forms, row_of, used, least, effect, set_rate, ended_request, request_paper, end_request}
use Rattle.rulebook.specs.Refusals.{asks_security}
use Rattle.rulebook.specs.Call.{put_minute}
use Rattle.rulebook.specs.Premise.{SecurityFits, AccountFits, StateFits, ItemFits, RequestFits, Premise, today, sent}
use Rattle.rulebook.proofs.ByCall.{Effect, AllForms, either_answer, not_read, by_form}
use Rattle.rulebook.proofs.Selection.Fixing.{fixing-fits, Due}
use Rattle.rulebook.proofs.Settled.{settled-fits, not_settled-fits, settled-due}
use Rattle.rulebook.proofs.Types.{free-type, pledged-type, requested-type, ends-free, alike-free, deposit-free, transfer-free, pledge_types, release_types, block_types, unblock_types}
use Rattle.rulebook.proofs.Orders.{Accepted, needs, needed, is_admitted, right_types, is_open, opens-next, none_waits, is_ended}
use Rattle.rulebook.proofs.EveryCall.Owners.{Owned, Gets, AllGet, still_admitted, booked-admitted, account_admitted, booked-owned}
use Rattle.rulebook.proofs.EveryCall.References.{Once, arrive-sent, cancel-sent, close-sent, cycle-sent, confirm-sent, decline-sent, new_once}
use Rattle.rulebook.proofs.Halves.{Half, arrive-halves, kept-halves, closed_halves}
use Rattle.rulebook.proofs.EveryCall.Items.{item-later, marking-fits, close-fits, arrive-fits}
use Rattle.rulebook.proofs.EveryCall.Days.{DayAt, same_day, open_day_lem, cycle-day, answer_day, close-day}
use Rattle.rulebook.proofs.EveryCall.NewItems.{deliver_item, receive_item, trade-item, deliver_sender, receive_sender, trade-sender}

abbrev Waiting : Ledger → List Item → Type 0
Waiting b ws = Each (ItemFits b.day.number (today b.day) b.holdings) ws

-- what holds of the book that an accepted call leaves, once its minute is set
pub record Kept (minute : ℕ) (b : Ledger) : Type 0 where
  pub owned : Owned b.holdings
  pub items : Each (ItemFits b.day.number (today b.day) b.holdings) b.waiting
  pub references : Once b.waiting
  pub halves : Each Half b.waiting
  pub day : DayAt minute b

abbrev Keeps : ℕ → Effect → Type 0
Keeps n f = (b : Ledger) (o : Order) → o.form ≡ n → Premise b → Accepted b o → Kept o.minute (f b o).after

owned_of : (b : Ledger) → Premise b → Owned b.holdings
owned_of b p = record { securities = p.securities; accounts = p.accounts; cash = p.cash }

-- forms that move shares or cash

moving-kept :
    (b : Ledger) (minute : ℕ) (ms : List Movement) → Owned b.holdings → Waiting b b.waiting → Once b.waiting → Each Half b.waiting → DayAt minute b
    → AllGet b.holdings ms
    → Kept minute (moving ms b).after
unfolding moving outcome put_holdings put_minute put_day
moving-kept b minute ms w i r v d g = record {
  owned = booked-owned ms b.holdings g w;
  items =
      each_so _ _
      (item-later b.day.number b.day.number (today b.day) (today b.day) b.holdings (booked ms b.holdings) (omega arith) refl (booked-admitted ms b.holdings))
      b.waiting i;
  references = r;
  halves = v;
  day = d;
}

-- whatever becomes of the requests
moves_with :
    (n : ℕ) → (n one_of (17 ∷ 21 ∷ [])) ≡ false → (b : Ledger) (o : Order) (r : Requests) (ms : List Movement) → o.form ≡ n → Premise b → Accepted b o
    → AllGet b.holdings ms
    → Kept o.minute (moving ms (put_requests r b)).after
unfolding put_requests put_minute put_day
moves_with n l b o r ms e p a g =
    moving-kept (put_requests r b) o.minute ms (owned_of b p) p.items p.references p.halves (unfold put_minute put_day in same_day n b o e l p.day a) g

moves :
    (n : ℕ) → (n one_of (17 ∷ 21 ∷ [])) ≡ false → (b : Ledger) (o : Order) (ms : List Movement) → o.form ≡ n → Premise b → Accepted b o → AllGet b.holdings ms
    → Kept o.minute (moving ms b).after
unfolding put_requests
moves n l b o = moves_with n l b o b.requests

-- the credited account
credited_fits :
    (n : ℕ) (b : Ledger) (o : Order) → o.form ≡ n → Accepted b o → asks_security n ≡ true → (n is 2) ≡ false → needs n Field.credited_member
    ≡ true → needs n Field.credited_shareholder ≡ true
    → (wrong_types n o.debited.typ o.credited.typ ≡ false → account_type o.credited.typ ≡ true) → AccountFits b.holdings (account_of o.security o.credited)
unfolding account_of admitted
credited_fits n b o e a t t₂ u u₂ f =
    let c = a.ranges.credited (needed n 6 o e u) in
    record {
      security = is_admitted n b o e t t₂ a.security;
      named = record {
        member_least = c.0;
        member_most = c.1;
        shareholder_least = a.ranges.credited_holder (needed n 9 o e u₂);
        shareholder_most = a.fits.credited.shareholder;
      };
      typ = f (right_types n b o e a.types);
    }

deposit-keeps : Keeps 3 deposit
unfolding deposit used least forms row_of
deposit-keeps b o e p a =
    moves 3 refl b o _ e p a (credited_fits 3 b o e a refl refl refl refl (λ w. free-type o.credited.typ (deposit-free o.debited.typ o.credited.typ w)), tt)

withdraw-keeps : Keeps 4 withdraw
unfolding withdraw
withdraw-keeps b o e p a = moves 4 refl b o _ e p a (tt, tt)

transfer-keeps :
    (n : ℕ) → (n one_of (17 ∷ 21 ∷ [])) ≡ false → asks_security n ≡ true → (n is 2) ≡ false → needs n Field.credited_member ≡ true
    → needs n Field.credited_shareholder ≡ true
    → ((d c : ℕ) → wrong_types n d c ≡ false → account_type c ≡ true) → Keeps n transfer
unfolding transfer
transfer-keeps n l t t₂ u u₂ f b o e p a = moves n l b o _ e p a (credited_fits n b o e a t t₂ u u₂ (f o.debited.typ o.credited.typ), tt)

pay_in-keeps : Keeps 10 pay_in
unfolding pay_in used least forms row_of
pay_in-keeps b o e p a =
    let c = a.ranges.credited (needed 10 Field.credited_member o e refl) in
    let v = a.ranges.currency (needed 10 Field.currency o e refl) in
    moves 10 refl b o _ e p a (record { member_least = c.0; member_most = c.1; currency_least = v.0; currency_most = v.1 }, tt)

pay_out-keeps : Keeps 11 pay_out
unfolding pay_out
pay_out-keeps b o e p a = moves 11 refl b o _ e p a (tt, tt)

-- form 2

admit-more : (new : Security) (h : Holdings) (c : ℕ) → admitted c h ≡ true → admitted c (put_securities (h.securities ++ (new ∷ [])) h) ≡ true
unfolding put_securities
admit-more new h c = still_admitted c h (put_securities (h.securities ++ (new ∷ [])) h) (simp total-append (omega arith))

admit-keeps : Keeps 2 admit
unfolding admit put_holdings put_securities used least forms row_of
admit-keeps b o e p a =
    let new : Security = new_security o.security o.quantity in
    let h = put_securities (b.holdings.securities ++ (new ∷ [])) b.holdings in
    let f : SecurityFits new =
    record {
      code_least = a.ranges.security (needed 2 Field.security o e refl);
      code_most = a.fits.security;
      issued_least = (a.ranges.quantity (needed 2 Field.quantity o e refl)).0;
      issued_most = a.fits.quantity;
    }
    in
    let w : Owned h =
    record {
      securities = each_append SecurityFits b.holdings.securities _ p.securities (f, tt);
      accounts = λ x l. account_admitted b.holdings h (admit-more new b.holdings) x (p.accounts x l);
      cash = p.cash;
    }
    in
    moving-kept (put_holdings h b) o.minute _ w
    (each_so _ _ (item-later b.day.number b.day.number (today b.day) (today b.day) b.holdings h (omega arith) refl (admit-more new b.holdings)) b.waiting
    p.items)
    p.references p.halves (unfold put_minute put_day in same_day 2 b o e refl p.day a) (tt, tt)

-- forms that change what waits

waiting_kept : (b : Ledger) (minute : ℕ) (ws : List Item) → Premise b → DayAt minute b → Waiting b ws → Once ws → Each Half ws → Kept minute (put_waiting ws b)
unfolding put_waiting put_minute put_day
waiting_kept b minute ws p d i r v = record { owned = owned_of b p; items = i; references = r; halves = v; day = d }

instruct-keeps :
    (n : ℕ) → (n one_of (17 ∷ 21 ∷ [])) ≡ false → within 12 14 n ≡ true → (n is 15) ≡ false
    → ((b : Ledger) (o : Order) → Accepted b o → o.form ≡ n → ItemFits b.day.number (today b.day) b.holdings (single_of o))
    → ((b : Ledger) (o : Order) → Accepted b o → o.form ≡ n → (s r : ℕ) → sent_by s r (single_of o) ≡ true → (s ≡ sender_of o) × (r ≡ o.reference))
    → Keeps n instruct
unfolding instruct silent outcome
instruct-keeps n l t t₂ item sender b o e p a =
    waiting_kept b o.minute _ p (same_day n b o e l p.day a)
    (arrive-fits _ _ b.holdings (tolerance b.rate o.currency) (single_of o) (item b o a e) b.waiting p.items)
    (λ s r. omega (
      arith,
      arrive-sent s r (tolerance b.rate o.currency) (single_of o) b.waiting,
      new_once (sender_of o) o.reference (single_of o) b.waiting p.references
          (none_waits b o n e t t₂ a.reference) (sender b o a e) s r,
    ))
    (arrive-halves (tolerance b.rate o.currency) (single_of o) (unfold both_marked item_of in refl) b.waiting p.halves)

trade-keeps : Keeps 14 trade
unfolding trade silent outcome
trade-keeps b o e p a =
    let new = item_of (Trade o.reference) o in
    waiting_kept b o.minute _ p (same_day 14 b o e refl p.day a)
    (each_append _ b.waiting _ p.items (trade-item b o a e, tt))
    (λ s r. simp total-append
    (omega (arith, new_once (sender_of o) o.reference new b.waiting p.references (none_waits b o 14 e refl refl a.reference) (trade-sender b o a e) s r)))
    (each_append Half b.waiting _ p.halves ((unfold both_marked item_of in refl), tt))

cancel-keeps : Keeps 15 cancel
unfolding cancel outcome staying
cancel-keeps b o e p a =
    waiting_kept b o.minute _ p (same_day 15 b o e refl p.day a)
    (each_kept (ItemFits b.day.number (today b.day) b.holdings) (ItemFits b.day.number (today b.day) b.holdings) _ (λ i t f. f)
    (marking (sender_of o) o.reference b.waiting) (marking-fits _ _ b.holdings (sender_of o) o.reference b.waiting p.items))
    (λ s r. omega (arith, cancel-sent s r (sender_of o) o.reference b.waiting, p.references s r))
    (kept-halves (marking (sender_of o) o.reference b.waiting))

-- the days

open_keeps : Keeps 1 open_day
unfolding open_day silent outcome put_day
open_keeps b o e p a =
    let c = (opens-next b o e a.right_day).0 in
    record {
      owned = owned_of b p;
      items =
          each_so _ _ (item-later b.day.number (b.day.number + 1) (today b.day) (b.day.number + 1) b.holdings b.holdings (omega arith) (simp c) (λ c e. e))
          b.waiting p.items;
      references = p.references;
      halves = p.halves;
      day = unfold open_day silent outcome in open_day_lem b o e p.day a;
    }

close-keeps : Keeps 17 close
unfolding close outcome put_day put_waiting
close-keeps b o e p a =
    let t : today b.day ≡ b.day.number = simp (is_open b o 17 e refl a.right_day) in
    record {
      owned = owned_of b p;
      items = close-fits b.day.number b.holdings b.waiting (subst (λ (x : ℕ). Each (ItemFits b.day.number x b.holdings) b.waiting) t p.items);
      halves = closed_halves (keep (λ item. not (leaves b.day.number item)) b.waiting);
      references = λ s r. omega (arith, close-sent s r (λ item. not (leaves b.day.number item)) b.waiting, p.references s r);
      day = unfold close outcome put_day put_waiting in close-day b o e p.day a;
    }

-- the cycle: its buyers are such accounts, its sellers members with cash

trade-types : (σ : ℕ) (i : Item) (x : State) → is_trade x ≡ true → StateFits σ i.debited i.credited x → alike i.debited.typ i.credited.typ ≡ true
unfolding is_trade
trade-types σ i (Single d r) e f = absurd (false≢true e)
trade-types σ i (Pair d r dm rm) e f = f.types
trade-types σ i (Trade r) e f = f.types

legs-get : (n t d : ℕ) (h : Holdings) (ts : List Item) → Each (λ i. ItemFits n t h i × Due d i) ts → AllGet h (legs ts)
unfolding legs buyer account_of
legs-get n t d h [] e = tt
legs-get n t d h (i ∷ rest) e =
    let f = e.0.0 in
    let y = trade-types i.security i i.state e.0.1.0 f.state in (
      record {
        security = f.listed;
        named = f.terms.credited_named;
        typ = free-type i.credited.typ (alike-free i.debited.typ i.credited.typ y).1;
      },
      (
        record {
          member_least = f.terms.debited_named.member_least;
          member_most = f.terms.debited_named.member_most;
          currency_least = f.terms.currency_least;
          currency_most = f.terms.currency_most;
        },
        legs-get n t d h rest e.1,
      ),
    )

-- whether an item is fixed is no part of its terms
fixed-fits : (n t : ℕ) (h : Holdings) (x : Bool) (i : Item) → ItemFits n t h i → ItemFits n t h (with_sent x i)
unfolding with_sent
fixed-fits n t h x i f = record { listed = f.listed; terms = f.terms; days = f.days; state = f.state; due = f.due }

fixed-half : (x : Bool) (i : Item) → Half i → Half (with_sent x i)
unfolding with_sent
fixed-half x i f = f

cycle-keeps : Keeps 16 cycle
unfolding cycle outcome put_day put_waiting
cycle-keeps b o e p a = record {
  owned = owned_of b p;
  items = fixing-fits (ItemFits b.day.number (today b.day) b.holdings) (fixed-fits b.day.number (today b.day) b.holdings) b p.items;
  halves = fixing-fits Half fixed-half b p.halves;
  references = λ s r. omega (arith, cycle-sent s r b, p.references s r);
  day = unfold cycle outcome put_day put_waiting in cycle-day b o e p.day a;
}

-- the answer

confirm-kept : (b : Ledger) (minute : ℕ) → Premise b → DayAt minute (confirm b).after → Kept minute (confirm b).after
unfolding confirm outcome put_day put_holdings put_waiting
confirm-kept b minute p d =
    let ms = legs (settled b) in
    let P : Item → Type 0 = ItemFits b.day.number (today b.day) b.holdings in
    let g =
    legs-get b.day.number (today b.day) b.day.number b.holdings (settled b)
    (each_both P (Due b.day.number) (settled b) (settled-fits P b p.items) (settled-due b p.sent)) in
    record {
      owned = booked-owned ms b.holdings g (owned_of b p);
      items =
          each_so _ _
          (item-later b.day.number b.day.number (today b.day) (today b.day) b.holdings (booked ms b.holdings) (omega arith) refl
          (booked-admitted ms b.holdings))
          (not_settled b)
          (not_settled-fits P b p.items);
      halves = not_settled-fits Half b p.halves;
      references = λ s r. omega (arith, confirm-sent s r b, p.references s r);
      day = unfold confirm outcome put_day put_holdings put_waiting in d;
    }

decline-kept : (b : Ledger) (minute : ℕ) → Premise b → DayAt minute (decline b).after → Kept minute (decline b).after
unfolding decline silent outcome put_day put_waiting declined
decline-kept b minute p d =
    let P : Item → Type 0 = ItemFits b.day.number (today b.day) b.holdings in
    let same : (s r : ℕ) → sent s r (declined b.waiting) ≡ sent s r b.waiting = λ s r. decline-sent s r b.waiting in
    record {
      owned = owned_of b p;
      items = each_map P P (with_sent false) (fixed-fits b.day.number (today b.day) b.holdings false) b.waiting p.items;
      halves = each_map Half Half (with_sent false) (fixed-half false) b.waiting p.halves;
      references = λ s r. omega (arith, same s r, p.references s r);
      day = unfold decline silent outcome put_day put_waiting in d;
    }

answer_keeps : Keeps 21 answer_cycle
answer_keeps b o e p a = answer (answer_day b o e p.day a)
  where
    answer : DayAt o.minute (answer_cycle b o).after → Kept o.minute (answer_cycle b o).after
    answer = either_answer (λ x. DayAt o.minute x.after → Kept o.minute x.after) b o (confirm-kept b o.minute p) (decline-kept b o.minute p)

-- the rate

rate_keeps : Keeps 18 set_rate
unfolding set_rate silent outcome put_rate put_minute put_day
rate_keeps b o e p a =
    record { owned = owned_of b p; items = p.items; references = p.references; halves = p.halves; day = same_day 18 b o e refl p.day a }

-- requests

request_keeps : Keeps 19 request_paper
unfolding request_paper request_account admitted used least forms row_of
request_keeps b o e p a =
    let d = a.ranges.debited (needed 19 Field.debited_member o e refl) in
    moves_with 19 refl b o _ _ e p a (
      record {
        security = is_admitted 19 b o e refl refl a.security;
        named = record {
          member_least = d.0;
          member_most = d.1;
          shareholder_least = a.ranges.debited_holder (needed 19 Field.debited_shareholder o e refl);
          shareholder_most = a.fits.debited.shareholder;
        };
        typ = requested-type;
      },
      tt,
    )

end_keeps : Keeps 20 end_request
unfolding end_request request_account
end_keeps b o e p a = moves_with 20 refl b o _ _ e p a (place-gets (is_outside o.credited.typ) refl, tt)
  where
    ended : Request
    ended = ended_request b o

    fits : RequestFits b.day.number b.holdings o.debited.member o.reference ended
    fits = p.requests o.debited.member o.reference (is_ended b o e a.request).0

    place-gets :
        (t : Bool) → (is_outside o.credited.typ) ≡ t
        → Gets b.holdings (if t then type91 ended.security else account (request_account o.credited.typ o.debited.member ended))
    place-gets true n = tt
    place-gets false n = record {
      security = fits.listed;
      named = fits.named;
      typ = free-type o.credited.typ (ends-free ended.typ o.credited.typ n (is_ended b o e a.request).1);
    }

-- every form

forms-keep : AllForms (λ n f. Keeps n f.effect) 1 forms
unfolding forms row_of used least
forms-keep =
    open_keeps and admit-keeps and deposit-keeps and withdraw-keeps
    and transfer-keeps 5 refl refl refl refl refl (λ d c w. free-type c (transfer-free d c w).1)
    and transfer-keeps 6 refl refl refl refl refl (λ d c w. pledged-type c (pledge_types d c w).1)
    and transfer-keeps 7 refl refl refl refl refl (λ d c w. free-type c (release_types d c w).0)
    and transfer-keeps 8 refl refl refl refl refl (λ d c w. pledged-type c (block_types d c w).1)
    and transfer-keeps 9 refl refl refl refl refl (λ d c w. free-type c (unblock_types d c w).0)
    and pay_in-keeps and pay_out-keeps and instruct-keeps 12 refl refl refl deliver_item deliver_sender and instruct-keeps 13 refl refl refl receive_item
    receive_sender and trade-keeps and cancel-keeps and cycle-keeps and close-keeps and rate_keeps and request_keeps and end_keeps and answer_keeps and tt

-- no order that was read has another form
pub effect-keeps : (b : Ledger) (o : Order) → Premise b → Accepted b o → Kept o.minute (effect b o).after
unfolding effect
effect-keeps b o p a =
    by_form (λ n f. Keeps n f.effect) forms-keep (λ m none b o e p a. absurd (not_read none e a.ranges.form)) o.form b o refl p a
