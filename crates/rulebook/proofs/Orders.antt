-- What is known of an order that was read, and of one that no test refuses. Assumes nothing.
use Rattle.std.specs.Prelude.{if◌then◌else◌, Ok, Err}
use mathlib.Core.Path.{◌≡◌, refl, sym, ap, subst}
use mathlib.Core.Bool.{Bool, true, false, not, ◌&&◌, ◌||◌, false≢true}
use mathlib.Core.List.{List, [], ◌∷◌, ◌++◌}
use Prim.Native.Nat.{ℕ, zero, suc, ◌+◌, ◌≤◌, ◌<◌, ◌^◌}
use native.Mathlib.Nat.{mod-lt}
use native.Mathlib.Omega.{arith}
use lib.Pow.{pow_pos}
use lib.Dec.{leb}
use lib.ListN.{length, get_or}
use borrow.Author.Tests.{eqb-true, eqb-false, leb-true, leb-false, ltb-false, not-false}
use Rattle.bits.specs.Bits.{leading, field}
use Rattle.rulebook.specs.Answers.{refusal_of}
use Rattle.rulebook.specs.declared.Order.{Order}
use Rattle.rulebook.specs.declared.Refusal.{Refusal}
use Rattle.plain.specs.Lists.{◌is◌, ◌is_not◌, ◌below◌, ◌at_most◌, ◌one_of◌, within, some, first}
use Rattle.rulebook.specs.AccountTypes.{ends, wrong_types}
use Rattle.rulebook.specs.Field as Field
use Rattle.rulebook.specs.Field.{places, widths, ceiling, always, rule_in}
use Rattle.rulebook.proofs.ByCall.{by_test_lem}
use Rattle.rulebook.specs.Forms.{Form, ended_request, forms, used, least, most, window_of}
use Rattle.rulebook.specs.Record.{order_of, fields_in, no_form, unused_not_zero, used_out_of_range, field_tests, read_refusal, read_of}
use Rattle.rulebook.specs.Ledger.{Ledger, account_of, same_account, admitted, outside_of}
use Rattle.rulebook.specs.Windows.{cycle_minutes, all_run}
use Rattle.rulebook.specs.Waiting.{sender_of, sent_by}
use Rattle.rulebook.specs.Cycle.{offers}
use Rattle.rulebook.specs.Refusals.{wrong_day, wrong_cycle, awaits_answer, nothing_sent, goes_back, outside_window, wrong_security, wrong_pair, wrong_parties, wrong_days, wrong_reference, wrong_cancel, cancels_sent, wrong_request, ends_too_soon, too_many_requests, asks_security, debits_shares, too_little, over_ceiling, no_space, day_tests, order_tests, item_tests, request_tests, room_tests, refusals}
use Rattle.rulebook.proofs.Checking.{none_applies}
use Rattle.rulebook.specs.Ranges.{PartyInRange}

-- ---- an order that was read

pub record OrderFits (o : Order) : Type 0 where
  pub security : o.security < 2 ^ 14
  pub currency : o.currency < 2 ^ 2
  pub debited : PartyInRange o.debited
  pub credited : PartyInRange o.credited
  pub quantity : o.quantity.0 < 2 ^ 40
  pub amount : o.amount.0 < 2 ^ 40
  pub trade_day : o.trade_day < 2 ^ 16
  pub settlement_day : o.settlement_day < 2 ^ 16
  pub reference : o.reference < 2 ^ 32

field_fits : (octets : List ℕ) (at width : ℕ) → field octets at width < 2 ^ width
unfolding field
field_fits octets at width = mod-lt (leading octets (at + width)) (pow_pos width)

fields_fit : (octets : List ℕ) → OrderFits (order_of (fields_in octets))
unfolding order_of fields_in widths
fields_fit octets = record {
  security = field_fits octets _ 14;
  currency = field_fits octets _ 2;
  debited = record { member = field_fits octets _ 10; typ = field_fits octets _ 8; shareholder = field_fits octets _ 30 };
  credited = record { member = field_fits octets _ 10; typ = field_fits octets _ 8; shareholder = field_fits octets _ 30 };
  quantity = field_fits octets _ 40;
  amount = field_fits octets _ 40;
  trade_day = field_fits octets _ 16;
  settlement_day = field_fits octets _ 16;
  reference = field_fits octets _ 32;
}

pub read_is : (bytes : List ℕ) (o : Order) → read_of bytes ≡ Ok o → order_of (fields_in bytes) ≡ o
unfolding read_of
read_is bytes o e = go (read_refusal bytes is 0) (refusal_of (read_refusal bytes)) e
  where
    go : (t : Bool) (r : Refusal) → (if t then Ok (order_of (fields_in bytes)) else Err r) ≡ Ok o → order_of (fields_in bytes) ≡ o
    go true r p = cc
    go false r p = cc

-- the fields of an order that was read fit their widths
pub read_fits : (bytes : List ℕ) (o : Order) → read_of bytes ≡ Ok o → OrderFits o
read_fits bytes o e = subst OrderFits (read_is bytes o e) (fields_fit bytes)

-- the members of an order that was read are 1 to 64 where its form uses them, and a type is 0 where its form does not use it

-- used, and at least 1
abbrev pub needs : (form place : ℕ) → Bool
needs form place = used form place && 1 at_most least form place

pub record Ranges (o : Order) : Type 0 where
  pub debited : needs o.form Field.debited_member ≡ true → (1 ≤ o.debited.member) × (o.debited.member ≤ 64)
  pub credited : needs o.form Field.credited_member ≡ true → (1 ≤ o.credited.member) × (o.credited.member ≤ 64)
  pub no_debited_type : used o.form Field.debited_type ≡ false → o.debited.typ ≡ 0
  pub no_credited_type : used o.form Field.credited_type ≡ false → o.credited.typ ≡ 0
  -- the form has a row, the minute is at most 1439, and what a form needs is at least 1
  pub form : (1 ≤ o.form) × (o.form ≤ length forms)
  pub minute : o.minute ≤ 1439
  pub security : needs o.form Field.security ≡ true → 1 ≤ o.security
  pub currency : needs o.form Field.currency ≡ true → (1 ≤ o.currency) × (o.currency ≤ 2)
  pub debited_holder : needs o.form Field.debited_shareholder ≡ true → 1 ≤ o.debited.shareholder
  pub credited_holder : needs o.form Field.credited_shareholder ≡ true → 1 ≤ o.credited.shareholder
  pub quantity : needs o.form Field.quantity ≡ true → (1 ≤ o.quantity.0) × (o.quantity.0 ≤ most o.form Field.quantity)
  pub amount : needs o.form Field.amount ≡ true → 1 ≤ o.amount.0
  pub trade_day : needs o.form Field.trade_day ≡ true → 1 ≤ o.trade_day
  pub settlement_day : needs o.form Field.settlement_day ≡ true → 1 ≤ o.settlement_day
  pub reference : needs o.form Field.reference ≡ true → 1 ≤ o.reference

pub none_at : (test : ℕ → Bool) (xs : List ℕ) (i : ℕ) → i < length xs → some test xs ≡ false → test (get_or xs i 0) ≡ false
none_at test [] i l e = absurd (omega arith)
none_at test (x ∷ xs) zero l e = go (test x) (some test xs) e
  where
    go : (a b : Bool) → (a || b) ≡ false → a ≡ false
    go true b p = p
    go false b p = refl
none_at test (x ∷ xs) (suc i) l e = none_at test xs i (omega arith) (go (test x) (some test xs) e)
  where
    go : (a b : Bool) → (a || b) ≡ false → b ≡ false
    go true b p = cc
    go false b p = p

pub in_range_lem : (u : Bool) (a b n : ℕ) → (u && not (within a b n)) ≡ false → u ≡ true → (a ≤ n) × (n ≤ b)
in_range_lem true a b n e t = go (leb a n) (leb n b) refl refl (not-false _ e)
  where
    go : (x y : Bool) → leb a n ≡ x → leb n b ≡ y → (x && y) ≡ true → (a ≤ n) × (n ≤ b)
    go true true p q r = (leb-true a n p, leb-true n b q)
    go true false p q r = absurd (false≢true r)
    go false y p q r = absurd (false≢true r)
in_range_lem false a b n e t = absurd (false≢true t)

pub is_zero : (u : Bool) (n : ℕ) → (not u && n is_not 0) ≡ false → u ≡ false → n ≡ 0
is_zero false n e t = eqb-true n 0 (not-false _ e)
is_zero true n e t = absurd (false≢true (sym t))

-- what is used from 1 is at least 1, and at most its most
from_1 : (u : Bool) (a b n : ℕ) → (u && not (within a b n)) ≡ false → (u && 1 at_most a) ≡ true → (1 ≤ n) × (n ≤ b)
from_1 true a b n e t = let r = in_range_lem true a b n e refl in (omega (arith, r.0, leb-true 1 a t), r.1)
from_1 false a b n e t = absurd (false≢true t)

-- no row lets a field be more than its place does
above : Form → Bool
above f = some (λ place. ceiling place below (rule_in (always ++ f.fields) place).most) places

pub most-ceiling : (form i : ℕ) → i < length places → most form (get_or places i 0) ≤ ceiling (get_or places i 0)
unfolding above forms most ceiling widths places
most-ceiling form i l = ltb-false _ _ (none_at (λ place. ceiling place below most form place) places i l (by_test_lem (λ n f. above f) refl (λ m. refl) form))

fields_range : (fields : List ℕ) → no_form fields ≡ false → unused_not_zero fields ≡ false → used_out_of_range fields ≡ false → Ranges (order_of fields)
unfolding no_form unused_not_zero used_out_of_range order_of places widths ceiling
fields_range fields nf u r = record {
  debited = λ t. let x = field Field.debited_member (omega arith) t in (x.0, omega (arith, x.1, most-ceiling f Field.debited_member (omega arith)));
  credited = λ t. let x = field Field.credited_member (omega arith) t in (x.0, omega (arith, x.1, most-ceiling f Field.credited_member (omega arith)));
  no_debited_type = is_zero (used f Field.debited_type) (get_or fields Field.debited_type 0) (none_at idle places Field.debited_type (omega arith) u);
  no_credited_type = is_zero (used f Field.credited_type) (get_or fields Field.credited_type 0) (none_at idle places Field.credited_type (omega arith) u);
  form = in_range_lem true 1 (length forms) (get_or fields Field.form 0) nf refl;
  minute = unfold used least most in (in_range_lem true 0 1439 (get_or fields Field.minute 0) (none_at wide places Field.minute (omega arith) r) refl).1;
  security = λ t. (field Field.security (omega arith) t).0;
  currency = λ t. let x = field Field.currency (omega arith) t in (x.0, omega (arith, x.1, most-ceiling f Field.currency (omega arith)));
  debited_holder = λ t. (field Field.debited_shareholder (omega arith) t).0;
  credited_holder = λ t. (field Field.credited_shareholder (omega arith) t).0;
  quantity = λ t. field Field.quantity (omega arith) t;
  amount = λ t. (field Field.amount (omega arith) t).0;
  trade_day = λ t. (field Field.trade_day (omega arith) t).0;
  settlement_day = λ t. (field Field.settlement_day (omega arith) t).0;
  reference = λ t. (field Field.reference (omega arith) t).0;
}
  where
    f : ℕ
    f = get_or fields Field.form 0

    -- the tests 5 and 4, by place
    wide : ℕ → Bool
    wide place = used f place && not (within (least f place) (most f place) (get_or fields place 0))

    idle : ℕ → Bool
    idle place = not (used f place) && get_or fields place 0 is_not 0

    field :
        (i : ℕ) → i < length places → needs f (get_or places i 0) ≡ true → (1 ≤ get_or fields (get_or places i 0) 0)
        × (get_or fields (get_or places i 0) 0 ≤ most f (get_or places i 0))
    field i l t = let p = get_or places i 0 in from_1 (used f p) (least f p) (most f p) (get_or fields p 0) (none_at wide places i l r) t

read_passes : (bytes : List ℕ) (o : Order) → read_of bytes ≡ Ok o → read_refusal bytes ≡ 0
unfolding read_of
read_passes bytes o e = go (read_refusal bytes is 0) refl e
  where
    go :
        (t : Bool) → (read_refusal bytes is 0) ≡ t
        → (if read_refusal bytes is 0 then Ok (order_of (fields_in bytes)) else Err (refusal_of (read_refusal bytes))) ≡ Ok o
        → read_refusal bytes ≡ 0
    go true p q = eqb-true _ 0 p
    go false p q = let z : Err (refusal_of (read_refusal bytes)) ≡ Ok o = simp p at q in cc

-- where no test refuses a record's fields
pub record Passed (fields : List ℕ) : Type 0 where
  pub form : no_form fields ≡ false
  pub unused : unused_not_zero fields ≡ false
  pub ranges : used_out_of_range fields ≡ false

pub read_tests_lem : (bytes : List ℕ) (o : Order) → read_of bytes ≡ Ok o → (length bytes ≡ 40) × Passed (fields_in bytes)
unfolding read_refusal
read_tests_lem bytes o e =
    let fields = fields_in bytes in
    let n = none_applies ((2, length bytes is_not 40) ∷ field_tests fields) (omega arith) (read_passes bytes o e) in
    (eqb-true (length bytes) 40 (not-false _ (n 2)), record { form = n 3; unused = n 4; ranges = n 5 })

pub read_ranges : (bytes : List ℕ) (o : Order) → read_of bytes ≡ Ok o → Ranges o
read_ranges bytes o e = let p = (read_tests_lem bytes o e).1 in subst Ranges (read_is bytes o e) (fields_range (fields_in bytes) p.form p.unused p.ranges)

-- ---- an order that no test refuses

-- what is known of an order that was read and accepted
pub record Accepted (b : Ledger) (o : Order) : Type 0 where
  pub fits : OrderFits o
  pub ranges : Ranges o
  pub right_day : wrong_day b.day o ≡ false
  pub cycle : wrong_cycle b.day o ≡ false
  pub answered : awaits_answer b.day o ≡ false
  pub sent : nothing_sent b.day o ≡ false
  pub back : goes_back b.day o ≡ false
  pub window : outside_window b.day o ≡ false
  pub security : wrong_security b.holdings o ≡ false
  pub types : wrong_pair o ≡ false
  pub parties : wrong_parties o ≡ false
  pub days : wrong_days b.day.number o ≡ false
  pub reference : wrong_reference b.waiting o ≡ false
  pub cancel : wrong_cancel b.waiting o ≡ false
  pub not_sent : cancels_sent b.waiting o ≡ false
  pub request : wrong_request b.requests o ≡ false
  pub too_soon_lem : ends_too_soon b.day.number b.requests o ≡ false
  pub sixteen : too_many_requests b.requests o ≡ false
  pub little : too_little b.holdings b.waiting o ≡ false
  pub ceiling : over_ceiling b.holdings o ≡ false
  pub space : no_space b o ≡ false

pub accepted : (b : Ledger) (o : Order) (bytes : List ℕ) → read_of bytes ≡ Ok o → first (refusals b o) ≡ 0 → Accepted b o
unfolding refusals day_tests order_tests item_tests request_tests room_tests
accepted b o bytes e z =
    let passed = none_applies (refusals b o) (omega arith) z in
    record {
      fits = read_fits bytes o e;
      ranges = read_ranges bytes o e;
      right_day = passed 6;
      cycle = passed 7;
      answered = passed 22;
      sent = passed 23;
      back = passed 8;
      window = passed 9;
      security = passed 10;
      types = passed 11;
      parties = passed 12;
      days = passed 13;
      reference = passed 14;
      cancel = passed 15;
      not_sent = passed 24;
      request = passed 19;
      too_soon_lem = passed 20;
      sixteen = passed 21;
      little = passed 16;
      ceiling = passed 17;
      space = passed 18;
    }

-- the fields that a form uses
pub uses : (form place : ℕ) (o : Order) → o.form ≡ form → (t : Bool) → used form place ≡ t → used o.form place ≡ t
uses form place o e t u = subst (λ (k : ℕ). used k place ≡ t) (sym e) u

pub needed : (form place : ℕ) (o : Order) → o.form ≡ form → needs form place ≡ true → needs o.form place ≡ true
needed form place o e u = subst (λ (k : ℕ). needs k place ≡ true) (sym e) u

-- ---- what each test says, by form

module _ (b : Ledger) (o : Order) where
  -- 6
  pub is_open : (n : ℕ) → o.form ≡ n → (n is 1) ≡ false → wrong_day b.day o ≡ false → b.day.opened ≡ true
  unfolding wrong_day
  is_open n e t w = not-false _ (simp (e, t) at w)

  pub opens-next : o.form ≡ 1 → wrong_day b.day o ≡ false → (b.day.opened ≡ false) × ((b.day.number is 60_000) ≡ false)
  unfolding wrong_day
  opens-next e w = go (b.day.opened) (b.day.number is 60_000) (simp e at w)
    where
      go : (x y : Bool) → (x || y) ≡ false → (x ≡ false) × (y ≡ false)
      go true y p = absurd (false≢true (sym p))
      go false y p = (refl, p)

  -- 7
  pub cycles-left : o.form ≡ 16 → wrong_cycle b.day o ≡ false → b.day.cycles < length (cycle_minutes b.day.kind)
  unfolding wrong_cycle all_run
  cycles-left e w = leb-false _ _ (go (all_run b.day) (simp e at w))
    where
      go : (x : Bool) → (x || false) ≡ false → x ≡ false
      go true p = p
      go false p = refl

  -- 22: cash, cycles and the close come only where no cycle is sent
  pub none_sent : (n : ℕ) → o.form ≡ n → (n one_of (10 ∷ 11 ∷ 16 ∷ 17 ∷ [])) ≡ true → awaits_answer b.day o ≡ false → b.day.sent ≡ false
  unfolding awaits_answer
  none_sent n e t w = simp (e, t) at w

  -- 23: an answer only where one is
  pub one_sent : o.form ≡ 21 → nothing_sent b.day o ≡ false → b.day.sent ≡ true
  unfolding nothing_sent
  one_sent e w = not-false _ (simp e at w)

  -- 9
  pub in_window : outside_window b.day o ≡ false → o.minute ≤ (window_of b.day o).1
  unfolding outside_window
  in_window w = (in_range_lem true (window_of b.day o).0 (window_of b.day o).1 o.minute w refl).1

  first-not : (x y : Bool) → (not x || false || y || false) ≡ false → (x ≡ true) × (y ≡ false)
  first-not true true p = absurd (false≢true (sym p))
  first-not true false p = (refl, refl)
  first-not false y p = absurd (false≢true (sym p))

  -- 12, 13 and 14 of forms 12 and 13

  pub instruct-parties :
      (n : ℕ) → o.form ≡ n → within 5 9 n ≡ false → within 12 13 n ≡ true → within 6 9 n ≡ false → (n one_of (5 ∷ 14 ∷ [])) ≡ false → wrong_parties o ≡ false
      → (o.debited.shareholder ≡ o.credited.shareholder) × ((o.debited.member is o.credited.member) ≡ false)
  unfolding wrong_parties
  instruct-parties n e t₁ t₂ t₃ t₄ w =
      let p = first-not (o.debited.shareholder is o.credited.shareholder) (o.debited.member is o.credited.member) (simp (e, t₁, t₂, t₃, t₄) at w) in
      (eqb-true _ _ p.0, p.1)

  pub instruct-days :
      (n : ℕ) → o.form ≡ n → within 5 9 n ≡ false → within 12 13 n ≡ true → (n is 14) ≡ false → wrong_days b.day.number o ≡ false
      → (b.day.number ≤ o.settlement_day) × (o.settlement_day ≤ b.day.number + 20) × (o.trade_day ≤ b.day.number)
  unfolding wrong_days
  instruct-days n e t₁ t₂ t₃ w =
      let p = first-not (within b.day.number (b.day.number + 20) o.settlement_day) (b.day.number below o.trade_day) (simp (e, t₁, t₂, t₃) at w) in
      let q = in_range_lem true b.day.number (b.day.number + 20) o.settlement_day (ap not p.0) refl in
      (q.0, q.1, ltb-false _ _ p.1)

  pub none_waits :
      (n : ℕ) → o.form ≡ n → within 12 14 n ≡ true → (n is 15) ≡ false → wrong_reference b.waiting o ≡ false → some (sent_by (sender_of o) o.reference) b.waiting
      ≡ false
  unfolding wrong_reference
  none_waits n e t₁ t₂ w = go (some (sent_by (sender_of o) o.reference) b.waiting) (simp (e, t₁, t₂) at w)
    where
      go : (x : Bool) → (x || false) ≡ false → x ≡ false
      go true p = p
      go false p = refl

  -- 12 and 13 of form 14

  pub trade-parties : o.form ≡ 14 → wrong_parties o ≡ false → same_account (account_of o.security o.debited) (account_of o.security o.credited) ≡ false
  unfolding wrong_parties
  trade-parties e w = simp e at w

  pub trade-days : o.form ≡ 14 → wrong_days b.day.number o ≡ false → (o.settlement_day ≡ o.trade_day + 3) × (o.trade_day ≡ b.day.number)
  unfolding wrong_days
  trade-days e w =
      let p = go (o.settlement_day is (o.trade_day + 3)) (o.trade_day is b.day.number) (simp e at w) in
      (eqb-true _ _ p.0, eqb-true _ _ p.1)
    where
      go : (x y : Bool) → (not x || false || not y) ≡ false → (x ≡ true) × (y ≡ true)
      go true true p = (refl, refl)
      go true false p = absurd (false≢true (sym p))
      go false y p = absurd (false≢true (sym p))

-- 19, 20 and 21

-- a form 19's reference is not open
pub not_open : (b : Ledger) (o : Order) → o.form ≡ 19 → wrong_request b.requests o ≡ false → (ended_request b o).quantity.0 ≡ 0
unfolding wrong_request
not_open b o e w = go ((ended_request b o).quantity.0 is 0) refl (simp e at w)
  where
    go : (t : Bool) → ((ended_request b o).quantity.0 is 0) ≡ t → (not t || false) ≡ false → (ended_request b o).quantity.0 ≡ 0
    go true p q = eqb-true _ 0 p
    go false p q = absurd (false≢true (sym q))

-- a form 20's is, and its credited type ends the request
pub is_ended :
    (b : Ledger) (o : Order) → o.form ≡ 20 → wrong_request b.requests o ≡ false
    → (1 ≤ (ended_request b o).quantity.0) × (ends (ended_request b o).typ o.credited.typ ≡ true)
unfolding wrong_request
is_ended b o e w = go ((ended_request b o).quantity.0 is 0) (ends (ended_request b o).typ o.credited.typ) refl refl (simp e at w)
  where
    go :
        (t u : Bool) → ((ended_request b o).quantity.0 is 0) ≡ t → ends (ended_request b o).typ o.credited.typ ≡ u → not (not t && u) ≡ false
        → (1 ≤ (ended_request b o).quantity.0) × (ends (ended_request b o).typ o.credited.typ ≡ true)
    go true u p s q = absurd (false≢true (sym q))
    go false true p s q = (omega (arith, eqb-false (ended_request b o).quantity.0 0 p), s)
    go false false p s q = absurd (false≢true (sym q))

pub fewer_open : (b : Ledger) (o : Order) → o.form ≡ 19 → too_many_requests b.requests o ≡ false → b.requests.number ≤ 15
unfolding too_many_requests
fewer_open b o e w = ltb-false _ _ (simp e at w)

-- 10
pub is_admitted :
    (n : ℕ) (b : Ledger) (o : Order) → o.form ≡ n → asks_security n ≡ true → (n is 2) ≡ false → wrong_security b.holdings o ≡ false
    → some (λ x. x.code is o.security) b.holdings.securities ≡ true
unfolding wrong_security admitted
is_admitted n b o e t t₂ w = go (some (λ x. x.code is o.security) b.holdings.securities) (simp (e, t, t₂) at w)
  where
    go : (x : Bool) → (not x || false) ≡ false → x ≡ true
    go true p = refl
    go false p = cc

pub not_admitted : (b : Ledger) (o : Order) → o.form ≡ 2 → wrong_security b.holdings o ≡ false → some (λ x. x.code is o.security) b.holdings.securities ≡ false
unfolding wrong_security admitted
not_admitted b o e w = simp e at w

-- 11 and 16
none_of : (x y z : Bool) → (x || y || z) ≡ false → (x ≡ false) × (y ≡ false) × (z ≡ false)
none_of true y z e = (cc, cc, cc)
none_of false true z e = (refl, cc, cc)
none_of false false z e = (refl, refl, e)

-- test 16, its three parts
pub little_parts :
    (b : Ledger) (o : Order) → too_little b.holdings b.waiting o ≡ false
    → ((o.form is 3 && outside_of o.security b.holdings below o.quantity.0) ≡ false)
    × ((debits_shares o.form && offers b.holdings b.waiting (account_of o.security o.debited) below o.quantity.0) ≡ false)
    × ((o.form is 11 && b.holdings.cash o.debited.member o.currency below o.amount.0) ≡ false)
unfolding too_little
little_parts b o e =
    none_of (o.form is 3 && outside_of o.security b.holdings below o.quantity.0)
    (debits_shares o.form && offers b.holdings b.waiting (account_of o.security o.debited) below o.quantity.0)
    (o.form is 11 && b.holdings.cash o.debited.member o.currency below o.amount.0)
    e

-- what is debited is offered, and so it is there
pub debit-offered :
    (b : Ledger) (o : Order) → too_little b.holdings b.waiting o ≡ false → debits_shares o.form ≡ true
    → o.quantity.0 ≤ offers b.holdings b.waiting (account_of o.security o.debited)
debit-offered b o e w = ltb-false _ _ (simp w at (little_parts b o e).1)

pub debit-enough :
    (b : Ledger) (o : Order) → too_little b.holdings b.waiting o ≡ false → debits_shares o.form ≡ true
    → o.quantity.0 ≤ b.holdings.balance (account_of o.security o.debited)
unfolding offers
debit-enough b o e w = omega (arith, debit-offered b o e w)

pub right_types : (n : ℕ) (b : Ledger) (o : Order) → o.form ≡ n → wrong_pair o ≡ false → wrong_types n o.debited.typ o.credited.typ ≡ false
unfolding wrong_pair
right_types n b o e w = subst (λ (k : ℕ). wrong_types k o.debited.typ o.credited.typ ≡ false) e w
