-- One request that is opened or ended: what is asked for of an account, and the number of requests, change by the difference. Assumes nothing.
use Rattle.std.specs.Prelude.{if◌then◌else◌}
use mathlib.Core.Path.{◌≡◌, refl, sym, ap, ◌∙◌}
use mathlib.Core.Logic.{◌≢◌}
use mathlib.Core.Bool.{Bool, true, false, ◌&&◌, and-false}
use Prim.Native.Nat.{ℕ, ◌+◌, ◌-◌, ◌≤◌, ◌<◌, ◌^◌}
use native.Mathlib.Omega.{arith}
use borrow.Author.Tests.{eqb-true, eq-eqb, ne_eqb}
use Rattle.plain.specs.Lists.{◌is◌}
use Rattle.plain.proofs.Sums.{sum_same, sum-differs, sum-least}
use Rattle.rulebook.specs.TypeTable.{requested}
use Rattle.rulebook.specs.Ledger.{Ledger, Requests, request_account, same_account, counted, put_request, asked_under, asked_of}
use Rattle.rulebook.specs.declared.Account.{Account}
use Rattle.rulebook.specs.declared.Request.{Request}
use Rattle.rulebook.specs.Premise.{request_count, Premise}
use Rattle.rulebook.proofs.Places.{is_sym}

-- a request counts for an account of type 50 that has its shares, and for no other
pub own_asked :
    (a : Account) → (a.typ is requested) ≡ true → (m : ℕ) (x : Request)
    → (if m is a.member then asked_under a x else 0) ≡ (if same_account (request_account requested m x) a then x.quantity.0 else 0)
unfolding same_account request_account
own_asked a t m x =
    let u : (requested is a.typ) ≡ true = is_sym requested a.typ ∙ t in
    rw u (go (x.security is a.security) (m is a.member) (x.shareholder is a.shareholder) x.quantity.0)
  where
    go : (s k h : Bool) (n : ℕ) → (if k then if s && h then n else 0 else 0) ≡ (if s && k && true && h then n else 0)
    go true true true n = refl
    go true true false n = refl
    go true false h n = refl
    go false true h n = refl
    go false false h n = refl

module _ (m n : ℕ) (q : Request) (r : Requests) where
  -- the request that is put is read back, and every other stays
  pub put-at : (k : ℕ) → m ≡ k → (put_request m n q r).asked k n ≡ q
  unfolding put_request
  put-at k e = rw (eq-eqb m k e, eq-eqb n n refl)

  pub put_other : (k l : ℕ) → (m is k && n is l) ≡ false → (put_request m n q r).asked k l ≡ r.asked k l
  unfolding put_request
  put_other k l e = rw e

  other_member : (k l : ℕ) → (m is k) ≡ false → (put_request m n q r).asked k l ≡ r.asked k l
  other_member k l e = put_other k l (rw e)

  other_reference : (k l : ℕ) → l ≢ n → (put_request m n q r).asked k l ≡ r.asked k l
  other_reference k l d = put_other k l (rw (ne_eqb n l (λ e. d (sym e))) (and-false (m is k)))

  -- what is asked for of an account of type 50
  pub asked-put :
      (a : Account) → (a.typ is requested) ≡ true → n < 2 ^ 32
      → asked_of a (put_request m n q r) + (if same_account (request_account requested m (r.asked m n)) a then (r.asked m n).quantity.0 else 0)
      ≡ asked_of a r + (if same_account (request_account requested m q) a then q.quantity.0 else 0)
  unfolding asked_of
  asked-put a t l = rw (← own_asked a t m (r.asked m n), ← own_asked a t m q) (go (m is a.member) refl)
    where
      go :
          (b : Bool) → (m is a.member) ≡ b
          → asked_of a (put_request m n q r) + (if b then asked_under a (r.asked m n) else 0) ≡ asked_of a r + (if b then asked_under a q else 0)
      go true e =
          let s = eqb-true m a.member e in
          sum-differs (2 ^ 32) n (asked_under a (r.asked m n)) (asked_under a q) _ _ l (λ j d. ap (asked_under a) (other_reference a.member j d))
          (omega (
            arith,
            ap (asked_under a) (put-at a.member s),
            ap (λ (k : ℕ). asked_under a (r.asked k n)) s,
          ))
      go false e = ap (λ (k : ℕ). k + 0) (sum_same (2 ^ 32) _ _ (λ j _. ap (asked_under a) (other_member a.member j e)))

  -- the number that a change of a request keeps is the number of those that are open
  count_put :
      m < 2 ^ 10 → n < 2 ^ 32
      → request_count (put_request m n q r) + counted (r.asked m n).quantity.0 ≡ request_count r + counted q.quantity.0
  unfolding request_count
  count_put l u =
      sum-differs (2 ^ 10) m (counted (r.asked m n).quantity.0) (counted q.quantity.0) _ _ l
      (λ j d. sum_same (2 ^ 32) _ _ (λ i _. ap (λ (x : Request). counted x.quantity.0) (other_member j i (ne_eqb m j (λ e. d (sym e))))))
      (sum-differs (2 ^ 32) n (counted (r.asked m n).quantity.0) (counted q.quantity.0) _ _ u
      (λ j d. ap (λ (x : Request). counted x.quantity.0) (other_reference m j d))
      (omega (arith, ap (λ (x : Request). counted x.quantity.0) (put-at m refl))))

  pub number_put :
      m < 2 ^ 10 → n < 2 ^ 32 → r.number ≡ request_count r → (put_request m n q r).number ≡ request_count (put_request m n q r)
  number_put l u e =
      let d : (put_request m n q r).number ≡ r.number + counted q.quantity.0 - counted (r.asked m n).quantity.0 = unfold put_request in refl in
      omega (arith, count_put l u, d, e)

-- what an open request asks for lies in its account of type 50, so that its ending never lacks balance
pub covered :
    (b : Ledger) (m n : ℕ) → Premise b → 1 ≤ (b.requests.asked m n).quantity.0
    → (b.requests.asked m n).quantity.0 ≤ b.holdings.balance (request_account requested m (b.requests.asked m n))
unfolding asked_of request_account
covered b m n p l = omega (arith, p.awaited (request_account requested m x) refl, least (p.requests m n l).referenced.most)
  where
    x : Request
    x = b.requests.asked m n

    least : n < 2 ^ 32 → x.quantity.0 ≤ asked_of (request_account requested m x) b.requests
    least u =
        let s = sum-least (2 ^ 32) n (λ j. asked_under (request_account requested m x) (b.requests.asked m j)) u in
        omega (arith, rw (eq-eqb x.security x.security refl, eq-eqb x.shareholder x.shareholder refl) at s)
