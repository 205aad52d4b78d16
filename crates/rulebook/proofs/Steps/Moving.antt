-- Forms 2 to 11: each makes one movement. Assumes nothing.
use Rattle.std.specs.Prelude.{if◌then◌else◌}
use mathlib.Core.Path.{◌≡◌, refl, sym, ap, subst, ◌∙◌}
use mathlib.Core.Bool.{Bool, true, false, false≢true}
use mathlib.Core.List.{List, [], ◌∷◌, ◌++◌}
use Prim.Native.Nat.{ℕ, ◌+◌, ◌≤◌, ◌<◌, ◌^◌}
use native.Mathlib.Omega.{arith}
use borrow.Author.Tests.{ltb-false, eq-eqb, eqb-true}
use Rattle.rulebook.specs.declared.Party.{Party}
use Rattle.rulebook.specs.declared.Order.{Order}
use Rattle.rulebook.specs.declared.Security.{Security}
use Rattle.plain.specs.Lists.{◌is◌, Each}
use Rattle.plain.proofs.Lists.{◌and◌, total-append}
use Rattle.rulebook.specs.TypeTable.{requested}
use Rattle.rulebook.specs.AccountTypes.{pledged_or_blocked, wrong_types}
use Rattle.rulebook.specs.Field as Field
use Rattle.rulebook.specs.Ledger.{Ledger, Holdings, Requests, account_of, same_account, outside_of, held_of, put_holdings, put_securities, put_requests, new_security}
use Rattle.rulebook.specs.declared.Account.{Account}
use Rattle.rulebook.specs.Movements.{Place, account, type91, type90, cash_of, member0, move, recount, recounted, booked, book_has}
use Rattle.rulebook.specs.Cycle.{offers}
use Rattle.rulebook.specs.Forms.{outcome, counts, moving, admit, deposit, withdraw, transfer, pay_in, pay_out, forms, row_of, used, least}
use Rattle.rulebook.specs.Refusals.{asks_security, debits_shares, wrong_security}
use Rattle.rulebook.specs.Premise.{with_code, Premise}
use Rattle.rulebook.proofs.Accounts.{same_eq}
use Rattle.rulebook.proofs.Orders.{is_admitted, not_admitted, little_parts, debit-offered, debit-enough, right_types, needed, none_sent}
use Rattle.rulebook.proofs.Securities.{known, unknown, new_count, new_none, new_issued}
use Rattle.rulebook.proofs.Places.{brought, Known, Bears, booked-exact, one_enough}
use Rattle.rulebook.proofs.Reading.{Proper}
use Rattle.rulebook.proofs.Recounting.{held_stays, held_more, held-less}
use Rattle.rulebook.proofs.Bounds.{balance_counted}
use Rattle.rulebook.proofs.Types.{Account·type, Quiet, PutIn, free-quiet, pledged-account, pledged-not_requested, deposit-free, withdraw-free, transfer-free, pledge_types, release_types, block_types, unblock_types}
use Rattle.rulebook.proofs.Steps.OneCall.{shares_at, paper_at, put_in_at, released_at, writes_at, Figures, Recounts, Admits, admits-none, Spares, Step, Steps}
use Rattle.rulebook.specs.Ranges.{PartyInRange}

-- so much of a place may be moved while a cycle is sent
abbrev pub Offered : Ledger → Place → ℕ → Type 0
Offered b (account a) n = n ≤ offers b.holdings b.waiting a
Offered b (type91 security) n = Unit {0}
Offered b (type90 security) n = Unit {0}
Offered b (cash_of member currency) n = b.day.sent ≡ false
Offered b (member0 currency) n = Unit {0}

one_spared : (b : Ledger) (from to : Place) (n : ℕ) → Offered b from n → b.day.sent ≡ true → Spares b (move from to n ∷ [])
one_spared b (account d) to n l s = record { shares = λ a. go a (same_account d a) refl; cash = λ m c. refl }
  where
    go : (a : Account) (t : Bool) → same_account d a ≡ t → (if same_account d a then n else 0) + 0 ≤ offers b.holdings b.waiting a
    go a true e = simp e (omega (arith, subst (λ (x : Account). n ≤ offers b.holdings b.waiting x) (same_eq d a e) l))
    go a false e = simp e (omega arith)
one_spared b (type91 security) to n l s = record { shares = λ a. omega arith; cash = λ m c. refl }
one_spared b (type90 security) to n l s = record { shares = λ a. omega arith; cash = λ m c. refl }
one_spared b (cash_of member currency) to n l s = absurd (false≢true (sym l ∙ s))
one_spared b (member0 currency) to n l s = record { shares = λ a. omega arith; cash = λ m c. refl }

-- a form that makes one movement, after it admits a security or none, and opens or ends a request or none
moved :
    (n : ℕ) (b : Ledger) (o : Order) (xs : List Security) (r : Requests) (from to : Place) (k : ℕ) → Admits n o b.holdings xs → writes_at n ≡ 1
    → Known (put_securities xs b.holdings) from
    → Known (put_securities xs b.holdings) to → Bears (put_securities xs b.holdings) from k → Offered b from k → Proper from → Proper to → k < 2 ^ 40
    → Figures n b o (move from to k ∷ []) → Recounts n b o (put_securities xs b.holdings) (booked (move from to k ∷ []) (put_securities xs b.holdings))
    → Step n b o (moving (move from to k ∷ []) (put_requests r (put_holdings (put_securities xs b.holdings) b)))
unfolding moving outcome counts put_holdings put_requests
moved n b o xs r from to k a w kf kt l v pf pt u f c =
    let ms = move from to k ∷ [] in
    let h = put_securities xs b.holdings in
    record {
      listed = xs;
      admits = a;
      moves = ms;
      holds = refl;
      changes = λ p. booked-exact ms h (kf, kt, tt) (one_enough h from to k l) p ∙ ap (λ (n : ℕ). n + brought p ms) (a.keeps p);
      proper = (pf, pt, omega arith, tt);
      rows = λ _. refl;
      notices = λ z. absurd (omega (arith, z, w));
      counted = refl;
      figures = f;
      recounts = λ s. omega (arith, c s, a.held s);
      spares = λ _. one_spared b from to k v;
    }

-- and none but form 2 admits one
pub moves_with :
    (n : ℕ) (b : Ledger) (o : Order) (r : Requests) (from to : Place) (k : ℕ) → (n is 2) ≡ false → Premise b → writes_at n ≡ 1 → Known b.holdings from
    → Known b.holdings to
    → Bears b.holdings from k → Offered b from k → Proper from → Proper to → k < 2 ^ 40 → Figures n b o (move from to k ∷ [])
    → Recounts n b o b.holdings (booked (move from to k ∷ []) b.holdings) → Step n b o (moving (move from to k ∷ []) (put_requests r b))
unfolding put_holdings put_securities put_requests
moves_with n b o r from to k e p = moved n b o b.holdings.securities r from to k (admits-none n o b.holdings e p.codes)

moves_one :
    (n : ℕ) (b : Ledger) (o : Order) (from to : Place) (k : ℕ) → (n is 2) ≡ false → Premise b → writes_at n ≡ 1 → Known b.holdings from → Known b.holdings to
    → Bears b.holdings from k → Offered b from k → Proper from → Proper to → k < 2 ^ 40 → Figures n b o (move from to k ∷ [])
    → Recounts n b o b.holdings (booked (move from to k ∷ []) b.holdings) → Step n b o (moving (move from to k ∷ []) b)
unfolding put_requests
moves_one n b o = moves_with n b o b.requests

-- a movement that is not with type 91 changes no held count
pub inside :
    (n : ℕ) (b : Ledger) (o : Order) (from to : Place) (k : ℕ) (h : Holdings) → ((x : Holdings) → recount from to k x ≡ x)
    → ((s : ℕ) → shares_at 4 s n o + paper_at s n b o ≡ shares_at 3 s n o) → Recounts n b o h (booked (move from to k ∷ []) h)
unfolding recounted
inside n b o from to k h same none s = omega (arith, held_stays (move from to k ∷ []) same h s, none s)

pub one_code :
    (n : ℕ) (b : Ledger) (o : Order) → o.form ≡ n → asks_security n ≡ true → (n is 2) ≡ false → Premise b → wrong_security b.holdings o ≡ false
    → with_code o.security b.holdings.securities ≡ 1
one_code n b o e t t₂ p w = omega (arith, known o.security b.holdings.securities (is_admitted n b o e t t₂ w), p.codes o.security)

-- a party's account, as rows name it
pub account_proper : (security : ℕ) (p : Party) → security < 2 ^ 14 → PartyInRange p → Account·type p.typ → Proper (account (account_of security p))
unfolding account_of
account_proper security p s f t = (s, f.member, f.typ, f.shareholder, t)

-- an account is not another whose type a test tells from its own
pub apart : (test : ℕ → Bool) (a b : Account) → test a.typ ≡ true → test b.typ ≡ false → same_account b a ≡ false
apart test a b p q = go (same_account b a) refl
  where
    go : (t : Bool) → same_account b a ≡ t → same_account b a ≡ false
    go true e = absurd (false≢true (sym q ∙ ap (λ (x : Account). test x.typ) (same_eq b a e) ∙ p))
    go false e = e

pub party-apart :
    (test : ℕ → Bool) (security : ℕ) (p : Party) → test p.typ ≡ false → (k : ℕ) (a : Account) → test a.typ ≡ true
    → (if same_account (account_of security p) a then k else 0) ≡ 0
party-apart test security p t k a q = simp (apart test a (account_of security p) q (unfold account_of in t))

-- the type of requests, as such a test
abbrev pub awaits : ℕ → Bool
awaits typ = typ is requested

-- form 2: a security that is admitted changes nothing that is kept, as its outside count is still 0

kept_new : (new : Security) → new.outside.0 ≡ 0 → (h : Holdings) (p : Place) → book_has p (put_securities (h.securities ++ (new ∷ [])) h) ≡ book_has p h
unfolding put_securities outside_of
kept_new new z h (account a) = refl
kept_new new z h (type91 s) = new_none (λ x. x.outside) new z s h.securities
kept_new new z h (type90 s) = refl
kept_new new z h (cash_of m c) = refl
kept_new new z h (member0 c) = refl

none_held : (new : Security) → new.held.0 ≡ 0 → (h : Holdings) (s : ℕ) → held_of s (put_securities (h.securities ++ (new ∷ [])) h) ≡ held_of s h
unfolding held_of put_securities
none_held new z h s = new_none (λ x. x.held) new z s h.securities

pub admit-steps : Steps 2 admit
unfolding admit put_securities put_requests put_holdings forms row_of
admit-steps b o e p a =
    let xs = b.holdings.securities in
    let new : Security = new_security o.security o.quantity in
    let z = unknown o.security xs (not_admitted b o e a.security) in
    let k : with_code o.security (xs ++ (new ∷ [])) ≡ 1 = simp (total-append, eq-eqb o.security o.security refl) (omega (arith, z)) in
    moved 2 b o (xs ++ (new ∷ [])) b.requests (type90 o.security) (type91 o.security) o.quantity.0
    (record {
      keeps = kept_new new refl b.holdings;
      codes = λ c. new_count o.security c xs new refl z p.codes;
      still = λ c. simp total-append (omega arith);
      issued = λ s. omega (arith, new_issued s b.holdings new);
      held = none_held new refl b.holdings;
    })
    refl tt k tt tt a.fits.security a.fits.security a.fits.quantity
    (record { held = λ c. refl; outside = λ c. omega arith; cash = λ c. refl; pledged = λ x q. (refl, refl); awaited = λ x q. (refl, refl) })
    (inside 2 b o _ _ _ _ (λ k. refl) (λ s. refl))

-- forms 3 and 4

pub deposit-steps : Steps 3 deposit
unfolding deposit account_of forms row_of
deposit-steps b o e p a =
    let t = free-quiet o.credited.typ (deposit-free o.debited.typ o.credited.typ (right_types 3 b o e a.types)) in
    moves_one 3 b o (type91 o.security) (account (account_of o.security o.credited)) o.quantity.0 refl p refl (one_code 3 b o e refl refl p a.security) tt
    (ltb-false _ _ (simp e at (little_parts b o a.little).0)) tt a.fits.security
    (account_proper o.security o.credited a.fits.security a.fits.credited t.1) a.fits.quantity
    (record {
      held = λ c. omega arith;
      outside = λ c. omega arith;
      cash = λ c. refl;
      pledged = λ x q. (refl, omega (arith, party-apart pledged_or_blocked o.security o.credited t.0 o.quantity.0 x q));
      awaited = λ x q. (refl, omega (arith, party-apart awaits o.security o.credited t.2 o.quantity.0 x q));
    })
    (λ s. omega (arith, held_more (account_of o.security o.credited) o.security o.quantity.0 b.holdings (one_code 3 b o e refl refl p a.security) s))

-- what an account has is held, so what leaves it is taken off whole
pub left_less :
    (b : Ledger) → Premise b → (from : Account) (n : ℕ) → with_code from.security b.holdings.securities ≡ 1 → n ≤ b.holdings.balance from → (s : ℕ)
    → held_of s (booked (move (account from) (type91 from.security) n ∷ []) b.holdings) + (if from.security is s then n else 0) ≡ held_of s b.holdings
left_less b p from n k l s = go (from.security is s) refl
  where
    go :
        (t : Bool) → (from.security is s) ≡ t
        → held_of s (booked (move (account from) (type91 from.security) n ∷ []) b.holdings) + (if from.security is s then n else 0) ≡ held_of s b.holdings
    go true e =
        let less = held-less from from.security n b.holdings k s in
        let most = subst (λ (x : ℕ). b.holdings.balance from ≤ held_of x b.holdings) (eqb-true from.security s e) (balance_counted b p from) in
        simp e (omega (arith, simp e at less, most, l))
    go false e = simp e (omega (arith, rw e at (held-less from from.security n b.holdings k s)))

pub withdraw-steps : Steps 4 withdraw
unfolding withdraw account_of forms row_of
withdraw-steps b o e p a =
    let t = free-quiet o.debited.typ (withdraw-free o.debited.typ o.credited.typ (right_types 4 b o e a.types)) in
    moves_one 4 b o (account (account_of o.security o.debited)) (type91 o.security) o.quantity.0 refl p refl tt (one_code 4 b o e refl refl p a.security)
    (debit-enough b o a.little (simp e)) (debit-offered b o a.little (simp e))
    (account_proper o.security o.debited a.fits.security a.fits.debited t.1) a.fits.security a.fits.quantity
    (record {
      held = λ c. omega arith;
      outside = λ c. omega arith;
      cash = λ c. refl;
      pledged = λ x q. (omega (arith, party-apart pledged_or_blocked o.security o.debited t.0 o.quantity.0 x q), refl);
      awaited = λ x q. (omega (arith, party-apart awaits o.security o.debited t.2 o.quantity.0 x q), refl);
    })
    (λ s. omega (
      arith,
      left_less b p (account_of o.security o.debited) o.quantity.0 (one_code 4 b o e refl refl p a.security) (debit-enough b o a.little (simp e)) s,
    ))

-- forms 5 to 9: which types each moves between, and what of it is put in or released

abbrev debits_of : Account → Order → ℕ
debits_of a o = if same_account (account_of o.security o.debited) a then o.quantity.0 else 0

abbrev credits_of : Account → Order → ℕ
credits_of a o = if same_account (account_of o.security o.credited) a then o.quantity.0 else 0

-- what test 11 says of such a form: both types are accounts', and of a pledged or blocked account what it puts in or releases
record Shifts (n : ℕ) (o : Order) : Type 0 where
  from : Account·type o.debited.typ
  to : Account·type o.credited.typ
  out : (a : Account) → pledged_or_blocked a.typ ≡ true → debits_of a o ≡ released_at a n o
  into : (a : Account) → pledged_or_blocked a.typ ≡ true → credits_of a o ≡ put_in_at a n o
  -- and neither is that of requests
  from_other : awaits o.debited.typ ≡ false
  to_other : awaits o.credited.typ ≡ false

shifts :
    (n : ℕ) → debits_shares n ≡ true → writes_at n ≡ 1 → Each (λ k. (n is k) ≡ false) (2 ∷ 3 ∷ 4 ∷ 10 ∷ 11 ∷ 19 ∷ 20 ∷ [])
    → ((o : Order) → wrong_types n o.debited.typ o.credited.typ ≡ false → Shifts n o) → Steps n transfer
unfolding transfer account_of
shifts n t w off types b o e p a =
    let y = types o (right_types n b o e a.types) in
    moves_one n b o (account (account_of o.security o.debited)) (account (account_of o.security o.credited)) o.quantity.0 off.0 p w tt tt
    (debit-enough b o a.little (simp (e, t))) (debit-offered b o a.little (simp (e, t)))
    (account_proper o.security o.debited a.fits.security a.fits.debited y.from)
    (account_proper o.security o.credited a.fits.security a.fits.credited y.to) a.fits.quantity
    (record {
      held = λ c. simp (off.1.0, off.1.1.0, off.1.1.1.1.1.1.0);
      outside = λ c. simp (off.0, off.1.0, off.1.1.0, off.1.1.1.1.1.1.0);
      cash = λ c. simp (off.1.1.1.0, off.1.1.1.1.0);
      pledged = λ x q. (omega (arith, y.out x q), omega (arith, y.into x q));
      awaited = λ x q. (
        simp off.1.1.1.1.1.1.0 (omega (arith, party-apart awaits o.security o.debited y.from_other o.quantity.0 x q)),
        simp off.1.1.1.1.1.0 (omega (arith, party-apart awaits o.security o.credited y.to_other o.quantity.0 x q)),
      );
    })
    (inside n b o _ _ _ _ (λ k. refl) (λ s. simp (off.1.0, off.1.1.0, off.1.1.1.1.1.1.0)))

-- a party whose type is quiet is no such account
debited_apart : (o : Order) → Quiet o.debited.typ → (a : Account) → pledged_or_blocked a.typ ≡ true → debits_of a o ≡ 0
debited_apart o t a q = party-apart pledged_or_blocked o.security o.debited t.0 o.quantity.0 a q

credited_apart : (o : Order) → Quiet o.credited.typ → (a : Account) → pledged_or_blocked a.typ ≡ true → credits_of a o ≡ 0
credited_apart o t a q = party-apart pledged_or_blocked o.security o.credited t.0 o.quantity.0 a q

pub transfer-steps : Steps 5 transfer
unfolding forms row_of
transfer-steps = shifts 5 refl refl (refl and refl and refl and refl and refl and refl and refl and tt) λ o w.
    let f = transfer-free o.debited.typ o.credited.typ w in
    let d = free-quiet o.debited.typ f.0 in
    let c = free-quiet o.credited.typ f.1 in
    record { from = d.1; to = c.1; out = debited_apart o d; into = credited_apart o c; from_other = d.2; to_other = c.2 }

-- in and out again
puts-in :
    (n : ℕ) (o : Order) → PutIn o.debited.typ o.credited.typ → ((a : Account) → released_at a n o ≡ 0) → ((a : Account) → credits_of a o ≡ put_in_at a n o)
    → Shifts n o
puts-in n o t none all =
    let d = free-quiet o.debited.typ t.0 in
    record {
      from = d.1;
      to = pledged-account o.credited.typ t.1;
      out = λ a q. debited_apart o d a q ∙ sym (none a);
      into = λ a q. all a;
      from_other = d.2;
      to_other = pledged-not_requested o.credited.typ t.1;
    }

takes_out :
    (n : ℕ) (o : Order) → PutIn o.credited.typ o.debited.typ → ((a : Account) → debits_of a o ≡ released_at a n o) → ((a : Account) → put_in_at a n o ≡ 0)
    → Shifts n o
takes_out n o t all none =
    let c = free-quiet o.credited.typ t.0 in
    record {
      from = pledged-account o.debited.typ t.1;
      to = c.1;
      out = λ a q. all a;
      into = λ a q. credited_apart o c a q ∙ sym (none a);
      from_other = pledged-not_requested o.debited.typ t.1;
      to_other = c.2;
    }

pub pledge_steps : Steps 6 transfer
unfolding forms row_of
pledge_steps =
    shifts 6 refl refl (refl and refl and refl and refl and refl and refl and refl and tt)
    (λ o w. puts-in 6 o (pledge_types o.debited.typ o.credited.typ w) (λ a. refl) (λ a. refl))

pub release_steps : Steps 7 transfer
unfolding forms row_of
release_steps =
    shifts 7 refl refl (refl and refl and refl and refl and refl and refl and refl and tt)
    (λ o w. takes_out 7 o (release_types o.debited.typ o.credited.typ w) (λ a. refl) (λ a. refl))

pub block_steps : Steps 8 transfer
unfolding forms row_of
block_steps =
    shifts 8 refl refl (refl and refl and refl and refl and refl and refl and refl and tt)
    (λ o w. puts-in 8 o (block_types o.debited.typ o.credited.typ w) (λ a. refl) (λ a. refl))

pub unblock_steps : Steps 9 transfer
unfolding forms row_of
unblock_steps =
    shifts 9 refl refl (refl and refl and refl and refl and refl and refl and refl and tt)
    (λ o w. takes_out 9 o (unblock_types o.debited.typ o.credited.typ w) (λ a. refl) (λ a. refl))

-- forms 10 and 11

pub pay_in-steps : Steps 10 pay_in
unfolding pay_in used least forms row_of
pay_in-steps b o e p a =
    let m = a.ranges.credited (needed 10 Field.credited_member o e refl) in
    moves_one 10 b o (member0 o.currency) (cash_of o.credited.member o.currency) o.amount.0 refl p refl tt tt tt tt (omega (arith, a.fits.currency))
    (m.0, m.1, omega (arith, a.fits.currency)) a.fits.amount
    (record { held = λ c. refl; outside = λ c. refl; cash = λ c. omega arith; pledged = λ x q. (refl, refl); awaited = λ x q. (refl, refl) })
    (inside 10 b o _ _ _ _ (λ k. refl) (λ s. refl))

pub pay_out-steps : Steps 11 pay_out
unfolding pay_out used least forms row_of
pay_out-steps b o e p a =
    let m = a.ranges.debited (needed 11 Field.debited_member o e refl) in
    moves_one 11 b o (cash_of o.debited.member o.currency) (member0 o.currency) o.amount.0 refl p refl tt tt
    (ltb-false _ _ (simp e at (little_parts b o a.little).2)) (none_sent b o 11 e refl a.answered)
    (m.0, m.1, omega (arith, a.fits.currency)) (omega (arith, a.fits.currency)) a.fits.amount
    (record { held = λ c. refl; outside = λ c. refl; cash = λ c. omega arith; pledged = λ x q. (refl, refl); awaited = λ x q. (refl, refl) })
    (inside 11 b o _ _ _ _ (λ k. refl) (λ s. refl))
