-- What each form makes of the requests: form 19 opens one, form 20 ends one, and the others keep them; so the premise of requests is kept. Assumes nothing.
use Rattle.std.specs.Prelude.{if◌then◌else◌}
use mathlib.Core.Path.{◌≡◌, refl, sym, subst}
use mathlib.Core.Bool.{Bool, true, false, ◌&&◌}
use Prim.Native.Nat.{ℕ, ◌+◌, ◌≤◌, ◌<◌, ◌^◌}
use native.Mathlib.Omega.{arith}
use borrow.Author.Tests.{eqb-true, eq-eqb}
use Rattle.plain.specs.Lists.{◌is◌}
use Rattle.plain.proofs.Lists.{◌and◌}
use Rattle.plain.proofs.Tests.{both}
use Rattle.plain.proofs.Sums.{sum-none}
use Rattle.rulebook.specs.TypeTable.{requested}
use Rattle.rulebook.specs.Field as Field
use Rattle.rulebook.specs.Ledger.{Ledger, Holdings, Requests, fresh, no_request, request_account, same_account, counted, admitted, asked_of, put_day, put_holdings, put_waiting, put_rate, put_requests, put_request}
use Rattle.rulebook.specs.Movements.{account}
use Rattle.rulebook.specs.Forms.{outcome, moving, silent, open_day, admit, deposit, withdraw, transfer, pay_in, pay_out, instruct, trade, cancel, cycle, confirm, decline, close, set_rate, new_request, request_paper, end_request, forms, row_of, used, least, effect}
use Rattle.rulebook.specs.Premise.{request_count, RequestFits, Premise}
use Rattle.rulebook.specs.declared.Account.{Account}
use Rattle.rulebook.specs.declared.Order.{Order}
use Rattle.rulebook.specs.declared.Request.{Request}
use Rattle.rulebook.proofs.ByCall.{Effect, AllForms, HasForm, either_answer, by_form}
use Rattle.rulebook.proofs.Orders.{Accepted, needed, is_admitted, right_types, not_open, is_ended, fewer_open}
use Rattle.rulebook.proofs.Requests.{asked-put, number_put}
use Rattle.rulebook.proofs.Sizes.{counted-most, counted_none}
use Rattle.rulebook.proofs.Types.{request_paper_lem}
use Rattle.rulebook.proofs.Steps.OneCall.{Step, step_still}
use Rattle.rulebook.proofs.EveryCall.Owners.{still_admitted}

-- the requests after an order of a form
abbrev pub requests_after : ℕ → Ledger → Order → Requests
requests_after n b o =
    if n is 19 then put_request o.debited.member o.reference (new_request b.day.number o) b.requests
    else if n is 20 then put_request o.debited.member o.reference no_request b.requests
    else b.requests

abbrev Asks : ℕ → Effect → Type 0
Asks n f = (b : Ledger) (o : Order) → ((f b o).after.requests ≡ requests_after n b o) × (b.day.number ≤ (f b o).after.day.number)

all-ask : AllForms (λ n f. Asks n f.effect) 1 forms
unfolding
    forms open_day admit deposit withdraw transfer pay_in pay_out instruct trade cancel cycle confirm decline close set_rate request_paper end_request
    moving silent outcome put_day put_holdings put_waiting put_rate put_requests
all-ask =
    (λ b o. (refl, omega arith)) and (λ b o. (refl, omega arith)) and (λ b o. (refl, omega arith)) and (λ b o. (refl, omega arith))
    and (λ b o. (refl, omega arith)) and (λ b o. (refl, omega arith)) and (λ b o. (refl, omega arith)) and (λ b o. (refl, omega arith))
    and (λ b o. (refl, omega arith)) and (λ b o. (refl, omega arith)) and (λ b o. (refl, omega arith)) and (λ b o. (refl, omega arith))
    and (λ b o. (refl, omega arith)) and (λ b o. (refl, omega arith)) and (λ b o. (refl, omega arith)) and (λ b o. (refl, omega arith))
    and (λ b o. (refl, omega arith)) and (λ b o. (refl, omega arith)) and (λ b o. (refl, omega arith)) and (λ b o. (refl, omega arith))
    and (λ b o.
    either_answer (λ x. (x.after.requests ≡ b.requests) × (b.day.number ≤ x.after.day.number)) b o (refl, omega arith) (refl, omega arith)) and tt

pub effect-requests :
    (b : Ledger) (o : Order) → ((effect b o).after.requests ≡ requests_after o.form b o) × (b.day.number ≤ (effect b o).after.day.number)
unfolding effect silent outcome
effect-requests b o =
    by_form (λ n f. Asks n f.effect) all-ask (λ m none b o. (go m none b o (m is 19) (m is 20) refl refl, omega arith)) o.form b o
  where
    -- no form, so neither 19 nor 20
    go : (m : ℕ) → (HasForm m → ⊥) → (b : Ledger) (o : Order) (t u : Bool) → (m is 19) ≡ t → (m is 20) ≡ u → b.requests ≡ requests_after m b o
    go m none b o true u p q = absurd (none (subst HasForm (sym (eqb-true m 19 p)) (unfold forms in (omega arith, omega arith))))
    go m none b o false true p q = absurd (none (subst HasForm (sym (eqb-true m 20 q)) (unfold forms in (omega arith, omega arith))))
    go m none b o false false p q = simp (p, q)

-- the premise of requests, by the day's number, the holdings and the requests
pub record Requested (number : ℕ) (h : Holdings) (r : Requests) : Type 0 where
  pub sixteen : r.number ≤ 16
  pub numbered : r.number ≡ request_count r
  pub fits : (member reference : ℕ) → 1 ≤ (r.asked member reference).quantity.0 → RequestFits number h member reference (r.asked member reference)
  pub awaited : (a : Account) → a.typ ≡ requested → h.balance a ≡ asked_of a r

none_counts : (t : Bool) (n : ℕ) → n ≡ 0 → (if t then n else 0) ≡ 0
none_counts true n e = e
none_counts false n e = refl

pub fresh-requested : Requested fresh.day.number fresh.holdings fresh.requests
unfolding fresh request_count counted asked_of
fresh-requested = record {
  sixteen = omega arith;
  numbered = sym (sum-none (2 ^ 10) _ (λ m _. sum-none (2 ^ 32) _ (λ r _. refl)));
  fits = λ m r l. absurd (omega arith);
  awaited = λ a e. sym (sum-none (2 ^ 32) _ (λ r _. none_counts (0 is a.security && 0 is a.shareholder) 0 refl));
}

-- the request of a member and a reference, as it counts for an account of type 50
abbrev counts : Account → (member : ℕ) → Request → ℕ
counts a member x = if same_account (request_account requested member x) a then x.quantity.0 else 0

module _
    (number later : ℕ) (h k : Holdings) (r : Requests) (s : Requested number h r) (l : number ≤ later)
    (admits : (c : ℕ) → admitted c h ≡ true → admitted c k ≡ true)
  where
    still_fits : (m n : ℕ) (x : Request) → RequestFits number h m n x → RequestFits later k m n x
    still_fits m n x f = record {
      listed = admits x.security f.listed;
      security = f.security;
      named = f.named;
      referenced = f.referenced;
      typ = f.typ;
      quantity = f.quantity;
      day = omega (arith, f.day, l);
    }

    -- nothing becomes of the requests, nor of the accounts of type 50
    kept : ((a : Account) → (a.typ is requested) ≡ true → k.balance a ≡ h.balance a) → Requested later k r
    kept e = record {
      sixteen = s.sixteen;
      numbered = s.numbered;
      fits = λ m n p. still_fits m n _ (s.fits m n p);
      awaited = λ a t. omega (arith, e a (eq-eqb a.typ requested t), s.awaited a t);
    }

    -- one request takes the place of another, and the account changes by the difference
    put :
        (m n : ℕ) (q : Request) → m < 2 ^ 10 → n < 2 ^ 32 → (put_request m n q r).number ≤ 16 → (1 ≤ q.quantity.0 → RequestFits later k m n q)
        → ((a : Account) → (a.typ is requested) ≡ true → k.balance a + counts a m (r.asked m n) ≡ h.balance a + counts a m q)
        → Requested later k (put_request m n q r)
    unfolding put_request
    put m n q u v z f e = record {
      sixteen = z;
      numbered = number_put m n q r u v s.numbered;
      fits = λ i j p. go i j (m is i && n is j) refl p;
      awaited = λ a t.
          let w = eq-eqb a.typ requested t in omega (arith, e a w, s.awaited a t, asked-put m n q r a w v);
    }
      where
        go :
            (i j : ℕ) (t : Bool) → (m is i && n is j) ≡ t → 1 ≤ ((put_request m n q r).asked i j).quantity.0
            → RequestFits later k i j ((put_request m n q r).asked i j)
        go i j true e p =
            let b = both (m is i) (n is j) e in
            subst (λ (x : ℕ). RequestFits later k x j ((put_request m n q r).asked i j)) (eqb-true m i b.0)
            (subst (λ (x : ℕ). RequestFits later k m x ((put_request m n q r).asked i j)) (eqb-true n j b.1) (rw e (f (rw e at p))))
        go i j false e p = rw e (still_fits i j _ (s.fits i j (rw e at p)))

-- an accepted order keeps it
pub order-requested :
    (b : Ledger) (o : Order) → Premise b → Accepted b o → Step o.form b o (effect b o)
    → Requested (effect b o).after.day.number (effect b o).after.holdings (effect b o).after.requests
unfolding put_request used least forms row_of
order-requested b o p a t =
    subst (Requested (effect b o).after.day.number after) (sym (effect-requests b o).0) (go (o.form is 19) (o.form is 20) refl refl)
  where
    after : Holdings
    after = (effect b o).after.holdings

    member : ℕ
    member = o.debited.member

    before : Requested b.day.number b.holdings b.requests
    before = record { sixteen = p.sixteen; numbered = p.numbered; fits = p.requests; awaited = p.awaited }

    admits : (c : ℕ) → admitted c b.holdings ≡ true → admitted c after ≡ true
    admits c = still_admitted c b.holdings after (step_still o.form b o (effect b o) t c)

    old : Request
    old = b.requests.asked member o.reference

    opened : o.form ≡ 19 → Requested (effect b o).after.day.number after (put_request member o.reference (new_request b.day.number o) b.requests)
    opened e =
        let none = not_open b o e a.request in
        let d = a.ranges.debited (needed 19 Field.debited_member o e refl) in
        put b.day.number (effect b o).after.day.number b.holdings after b.requests before (effect-requests b o).1 admits
        member o.reference (new_request b.day.number o) a.fits.debited.member a.fits.reference
        (omega (arith, fewer_open b o e a.sixteen, counted-most o.quantity.0))
        (λ _. record {
          listed = admits o.security (unfold admitted in is_admitted 19 b o e refl refl a.security);
          security = a.fits.security;
          named = record {
            member_least = d.0;
            member_most = d.1;
            shareholder_least = a.ranges.debited_holder (needed 19 Field.debited_shareholder o e refl);
            shareholder_most = a.fits.debited.shareholder;
          };
          referenced = record { least = a.ranges.reference (needed 19 Field.reference o e refl); most = a.fits.reference };
          typ = request_paper_lem o.debited.typ o.credited.typ (right_types 19 b o e a.types);
          quantity = a.fits.quantity;
          day = (effect-requests b o).1;
        })
        (λ x w.
        let g = t.figures.awaited x w in
        omega (arith, t.changes (account x), simp e at g.0, simp e at g.1, none_counts (same_account (request_account requested member old) x) _ none))

    ended : o.form ≡ 20 → Requested (effect b o).after.day.number after (put_request member o.reference no_request b.requests)
    ended e =
        let l = (is_ended b o e a.request).0 in
        let f = p.requests member o.reference l in
        put b.day.number (effect b o).after.day.number b.holdings after b.requests before (effect-requests b o).1 admits
        member o.reference no_request (omega (arith, f.named.member_most)) f.referenced.most
        (omega (arith, p.sixteen, counted_none)) (λ n. absurd (omega (arith, n)))
        (λ x w.
        let g = t.figures.awaited x w in
        omega (
          arith,
          t.changes (account x),
          simp e at g.0,
          simp e at g.1,
          none_counts (same_account (request_account requested member no_request) x) 0
              refl,
        ))

    same : (o.form is 19) ≡ false → (o.form is 20) ≡ false → Requested (effect b o).after.day.number after b.requests
    same u v =
        kept b.day.number (effect b o).after.day.number b.holdings after b.requests before (effect-requests b o).1 admits
        (λ x w. let g = t.figures.awaited x w in omega (arith, t.changes (account x), simp v at g.0, simp u at g.1))

    go : (x y : Bool) → (o.form is 19) ≡ x → (o.form is 20) ≡ y → Requested (effect b o).after.day.number after (requests_after o.form b o)
    go true y u v = simp u (opened (eqb-true o.form 19 u))
    go false true u v = simp (u, v) (ended (eqb-true o.form 20 v))
    go false false u v = simp (u, v) (same u v)
