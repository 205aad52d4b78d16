-- The lists of a sheet are in ascending order, have everything that is to be listed, and nothing else: one law over what is listed by number, and its three
-- uses. Assumes nothing.
use Prim.Native.Nat.{ℕ, zero, suc, ◌<◌}
use native.Mathlib.Decide.{ℕ_discrete}
use native.Mathlib.Omega.{arith}
use mathlib.Core.Bool.{Bool, true, false, false≢true}
use mathlib.Core.List.{List, [], ◌∷◌, ◌++◌, append-nil}
use mathlib.Core.Path.{◌≡◌, refl, sym, ap, ap₂, ◌∙◌, subst}
use Rattle.plain.specs.Lists.{Each}
use Rattle.plain.proofs.Lists.{each_so, each_append}
use Rattle.rulebook.specs.Ledger.{Holdings, Requests}
use Rattle.rulebook.specs.Premise.{CashFits}
use Rattle.rulebook.specs.Ranges.{AccountInRange}
use Rattle.rulebook.specs.declared.Account.{Account}
use Rattle.accounts.specs.Keys.{key_of, key_limit, account_of}
use Rattle.accounts.proofs.Keys.{key_back, key_once, key_fits, account_range}
use Rattle.requests.specs.Packed.{ReferenceInRange}
use Rattle.book.specs.Keys.{request_limit}
use Rattle.listing.specs.InOrder.{each_below}
use Rattle.listing.specs.Listed.{if_so, is_listed, has_cash, has_open}
use Rattle.listing.specs.ByNumber.{cash_limit, cash_of, request_of}
use Rattle.listing.specs.Complete.{Ascending, Among, here, later, Complete, AccountsListed, cash_number, CashListed, request_number, RequestsListed}
use Rattle.listing.proofs.ByNumber.{accounts_listed_lem, cash_listed_lem, requests_listed_lem}

module _ {A : Type 0} where
  among_first : {x : A} {xs : List A} (ys : List A) → Among x xs → Among x (xs ++ ys)
  among_first ys here = here
  among_first ys (later m) = later (among_first ys m)

  among_last : {x : A} (xs : List A) → Among x (xs ++ (x ∷ []))
  among_last [] = here
  among_last (y ∷ xs) = later (among_last xs)

-- things by number: the thing of a number, and the number of a thing
module _ {A : Type 0} (at : ℕ → A) (number_of : A → ℕ) (back : (k : ℕ) → number_of (at k) ≡ k) (test : A → Bool) where
  -- one with a greater number goes last
  ascending_last : (xs : List A) (y : A) → Ascending number_of xs → Each (λ x. number_of x < number_of y) xs → Ascending number_of (xs ++ (y ∷ []))
  unfolding Ascending
  ascending_last [] y asc low = (tt, tt)
  ascending_last (x ∷ xs) y asc low =
      (each_append (λ z. number_of x < number_of z) xs (y ∷ []) asc.0 (low.0, tt), ascending_last xs y asc.1 low.1)

  -- those listed with numbers below n
  first : ℕ → List A
  first n = each_below n (λ k. if_so (test (at k)) (at k))

  -- what is true of one of them, and of all
  record Fits (n : ℕ) (x : A) : Type 0 where
    passes : test x ≡ true
    below : number_of x < n
    same : at (number_of x) ≡ x

  record Listed (n : ℕ) (xs : List A) : Type 0 where
    ordered : Ascending number_of xs
    fit : Each (Fits n) xs
    each : (k : ℕ) → k < n → test (at k) ≡ true → Among (at k) xs

  more : (n : ℕ) (xs : List A) → Each (Fits n) xs → Each (Fits (suc n)) xs
  more n = each_so (Fits n) (Fits (suc n)) (λ x f. record { passes = f.passes; below = omega (arith, f.below); same = f.same })

  next : (n : ℕ) (xs : List A) → Listed n xs → (b : Bool) → test (at n) ≡ b → Listed (suc n) (xs ++ if_so b (at n))
  next n xs so_far true e = record {
    ordered = ascending_last xs (at n) so_far.ordered
        (each_so (Fits n) (λ x. number_of x < number_of (at n)) (λ x f. rw (back n) f.below) xs so_far.fit);
    fit = each_append (Fits (suc n)) xs _ (more n xs so_far.fit) (record { passes = e; below = omega (arith, back n); same = ap at (back n) }, tt);
    each = λ k l passes. go k l passes (ℕ_discrete k n);
  }
    where
      go : (k : ℕ) → k < suc n → test (at k) ≡ true → Dec (k ≡ n) → Among (at k) (xs ++ (at n ∷ []))
      go k l passes (yes s) = subst (λ (m : ℕ). Among (at m) (xs ++ (at n ∷ []))) (sym s) (among_last xs)
      go k l passes (no d) = among_first (at n ∷ []) (so_far.each k (omega arith) passes)
  next n xs so_far false e = rw append-nil (record {
    ordered = so_far.ordered;
    fit = more n xs so_far.fit;
    each = λ k l passes. go k l passes (ℕ_discrete k n);
  })
    where
      go : (k : ℕ) → k < suc n → test (at k) ≡ true → Dec (k ≡ n) → Among (at k) xs
      go k l passes (yes s) = absurd (false≢true (sym e ∙ ap (λ (m : ℕ). test (at m)) (sym s) ∙ passes))
      go k l passes (no d) = so_far.each k (omega arith) passes

  all : (n : ℕ) → Listed n (first n)
  unfolding first each_below Ascending
  all zero = record { ordered = tt; fit = tt; each = λ k l. absurd (omega arith) }
  all (suc n) = next n (first n) (all n) (test (at n)) refl

  -- what can be named are the things of the numbers below a limit
  complete :
      (Named : A → Type 0) (limit : ℕ) → ((k : ℕ) → k < limit → Named (at k)) → ((x : A) → Named x → (number_of x < limit) × (at (number_of x) ≡ x))
      → Complete number_of Named test (each_below limit (λ k. if_so (test (at k)) (at k)))
  unfolding first
  complete Named limit names named =
      let whole = all limit in
      record {
        ordered = whole.ordered;
        each = λ x name passes.
            let n = named x name in
            subst (λ (y : A). Among y (first limit)) n.1 (whole.each (number_of x) n.0 (ap test n.1 ∙ passes));
        no_other = each_so (Fits limit) (λ x. Named x × (test x ≡ true)) (λ x f. (subst Named f.same (names (number_of x) f.below), f.passes))
            (first limit) whole.fit;
      }

pub accounts_complete : (h : Holdings) → AccountsListed h
accounts_complete h = rw (accounts_listed_lem h) (complete account_of key_of key_back (is_listed h) AccountInRange key_limit account_range named)
  where
    named : (a : Account) → AccountInRange a → (key_of a < key_limit) × (account_of (key_of a) ≡ a)
    named a range = (key_fits a range, key_once (account_of (key_of a)) a (account_range (key_of a) (key_fits a range)) range (key_back (key_of a)))

pub cash_complete : (h : Holdings) → CashListed h
cash_complete h = rw (cash_listed_lem h) (complete cash_of cash_number (λ k. omega arith) (has_cash h) (λ who. CashFits who.0 who.1) cash_limit names named)
  where
    names : (k : ℕ) → k < cash_limit → CashFits (cash_of k).0 (cash_of k).1
    names k l = record { member_least = omega arith; member_most = omega arith; currency_least = omega arith; currency_most = omega arith }

    named : (who : ℕ × ℕ) → CashFits who.0 who.1 → (cash_number who < cash_limit) × (cash_of (cash_number who) ≡ who)
    named (m, c) fits =
        let a : (cash_of (cash_number (m, c))).0 ≡ m = omega arith in
        let b : (cash_of (cash_number (m, c))).1 ≡ c = omega arith in
        (omega arith, ap₂ (λ (x y : ℕ). (x, y)) a b)

pub requests_complete : (r : Requests) → RequestsListed r
requests_complete r =
    rw (requests_listed_lem r)
    (complete request_of request_number (λ k. omega arith) (has_open r) (λ who. ReferenceInRange who.0 who.1) request_limit names named)
  where
    names : (k : ℕ) → k < request_limit → ReferenceInRange (request_of k).0 (request_of k).1
    names k l = record { member_most = omega arith; reference_most = omega arith }

    named : (who : ℕ × ℕ) → ReferenceInRange who.0 who.1 → (request_number who < request_limit) × (request_of (request_number who) ≡ who)
    named (m, n) range =
        let a : (request_of (request_number (m, n))).0 ≡ m = omega arith in
        let b : (request_of (request_number (m, n))).1 ≡ n = omega arith in
        (omega arith, ap₂ (λ (x y : ℕ). (x, y)) a b)
