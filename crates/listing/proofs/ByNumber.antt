-- Accounts by security, member, type and shareholder are accounts by their numbers, and requests by member and reference are too. Assumes nothing.
use Prim.Native.Nat.{ℕ, ◌+◌, ◌*◌, ◌/◌, ◌%◌, ◌^◌, ◌<◌}
use native.Mathlib.Omega.{arith}
use mathlib.Core.List.{List}
use mathlib.Core.Path.{◌≡◌, sym, ap, ap₂, ◌∙◌}
use Rattle.plain.specs.Lists.{sum_below}
use Rattle.plain.proofs.Sums.{sum_same}
use Rattle.rulebook.specs.Ledger.{Holdings, Requests, counted}
use Rattle.rulebook.specs.Premise.{account_count, request_count}
use Rattle.rulebook.specs.declared.Account.{Account}
use Rattle.book.specs.Keys.{account_limit, account_of, request_limit, member_of, reference_of}
use Rattle.listing.specs.InOrder.{each_below}
use Rattle.listing.specs.Listed.{if_so, is_listed, has_cash, has_open, accounts_listed, cash_listed, requests_listed}
use Rattle.listing.specs.ByNumber.{account_listed, cash_limit, cash_listed_at, request_listed}
use Rattle.listing.proofs.Below.{each_same, each_digits, sum-digits}

-- an account of four numbers
abbrev named : (security member typ shareholder : ℕ) → Account
named security member typ shareholder = record { security = security; member = member; typ = typ; shareholder = shareholder }

-- the account of their number
of-digits :
    (s m t h : ℕ) → m < 2 ^ 10 → t < 2 ^ 8 → h < 2 ^ 30 → account_of (s * 2 ^ 48 + (m * 2 ^ 38 + (t * 2 ^ 30 + h))) ≡ named s m t h
of-digits s m t h p q r =
    let a : (account_of (s * 2 ^ 48 + (m * 2 ^ 38 + (t * 2 ^ 30 + h)))).security ≡ s = omega arith in
    let b : (account_of (s * 2 ^ 48 + (m * 2 ^ 38 + (t * 2 ^ 30 + h)))).member ≡ m = omega arith in
    let c : (account_of (s * 2 ^ 48 + (m * 2 ^ 38 + (t * 2 ^ 30 + h)))).typ ≡ t = omega arith in
    let d : (account_of (s * 2 ^ 48 + (m * 2 ^ 38 + (t * 2 ^ 30 + h)))).shareholder ≡ h = omega arith in
    λ i. named (a i) (b i) (c i) (d i)

by_number :
    {A : Type 0} (g : Account → List A) → each_below account_limit (λ k. g (account_of k))
    ≡ each_below (2 ^ 14) (λ s. each_below (2 ^ 10) (λ m. each_below (2 ^ 8) (λ t. each_below (2 ^ 30) (λ h. g (named s m t h)))))
by_number g =
    each_digits (2 ^ 14) (2 ^ 48) (λ k. g (account_of k))
    ∙ each_same (2 ^ 14) _ _ (λ s l. each_digits (2 ^ 10) (2 ^ 38) (λ k. g (account_of (s * 2 ^ 48 + k)))
    ∙ each_same (2 ^ 10) _ _ (λ m p. each_digits (2 ^ 8) (2 ^ 30) (λ k. g (account_of (s * 2 ^ 48 + (m * 2 ^ 38 + k))))
    ∙ each_same (2 ^ 8) _ _ (λ t q. each_same (2 ^ 30) _ _ (λ h r. ap g (of-digits s m t h p q r)))))

-- a member and a reference, and their number
module _ {B : Type 0} (f : (member reference : ℕ) → B) where
  of-request : (m n : ℕ) → n < 2 ^ 32 → f (member_of (m * 2 ^ 32 + n)) (reference_of (m * 2 ^ 32 + n)) ≡ f m n
  of-request m n l =
      let a : member_of (m * 2 ^ 32 + n) ≡ m = omega arith in
      let b : reference_of (m * 2 ^ 32 + n) ≡ n = omega arith in
      ap₂ f a b

requests_by_number :
    {A : Type 0} (f : (member reference : ℕ) → List A)
    → each_below request_limit (λ k. f (member_of k) (reference_of k)) ≡ each_below (2 ^ 10) (λ m. each_below (2 ^ 32) (λ n. f m n))
requests_by_number f =
    each_digits (2 ^ 10) (2 ^ 32) (λ k. f (member_of k) (reference_of k))
    ∙ each_same (2 ^ 10) _ _ (λ m p. each_same (2 ^ 32) _ _ (λ n q. of-request f m n q))

-- ---- sums, in the same way

sums_by_number :
    (g : Account → ℕ) → sum_below account_limit (λ k. g (account_of k))
    ≡ sum_below (2 ^ 14) (λ s. sum_below (2 ^ 10) (λ m. sum_below (2 ^ 8) (λ t. sum_below (2 ^ 30) (λ h. g (named s m t h)))))
sums_by_number g =
    sum-digits (2 ^ 14) (2 ^ 48) (λ k. g (account_of k))
    ∙ sum_same (2 ^ 14) _ _ (λ s l. sum-digits (2 ^ 10) (2 ^ 38) (λ k. g (account_of (s * 2 ^ 48 + k)))
    ∙ sum_same (2 ^ 10) _ _ (λ m p. sum-digits (2 ^ 8) (2 ^ 30) (λ k. g (account_of (s * 2 ^ 48 + (m * 2 ^ 38 + k))))
    ∙ sum_same (2 ^ 8) _ _ (λ t q. sum_same (2 ^ 30) _ _ (λ h r. ap g (of-digits s m t h p q r)))))

request_sums_by_number :
    (f : (member reference : ℕ) → ℕ)
    → sum_below request_limit (λ k. f (member_of k) (reference_of k)) ≡ sum_below (2 ^ 10) (λ m. sum_below (2 ^ 32) (λ n. f m n))
request_sums_by_number f =
    sum-digits (2 ^ 10) (2 ^ 32) (λ k. f (member_of k) (reference_of k))
    ∙ sum_same (2 ^ 10) _ _ (λ m p. sum_same (2 ^ 32) _ _ (λ n q. of-request f m n q))

-- ---- the lists of a sheet, and how many accounts and requests there are

pub accounts_listed_lem : (h : Holdings) → accounts_listed h ≡ each_below account_limit (account_listed h)
unfolding accounts_listed
accounts_listed_lem h = sym (by_number (λ a. if_so (is_listed h a) a))

pub requests_listed_lem : (r : Requests) → requests_listed r ≡ each_below request_limit (request_listed r)
unfolding requests_listed
requests_listed_lem r = sym (requests_by_number (λ m n. if_so (has_open r (m, n)) (m, n)))

abbrev pub account_counted : Holdings → ℕ → ℕ
account_counted h k = counted (h.balance (account_of k))

abbrev pub request_counted : Requests → ℕ → ℕ
request_counted r k = counted (r.asked (member_of k) (reference_of k)).quantity.0

pub accounts_counted : (h : Holdings) → account_count h ≡ sum_below account_limit (account_counted h)
unfolding account_count
accounts_counted h = sym (sums_by_number (λ a. counted (h.balance a)))

pub requests_counted : (r : Requests) → request_count r ≡ sum_below request_limit (request_counted r)
unfolding request_count
requests_counted r = sym (request_sums_by_number (λ m n. counted (r.asked m n).quantity.0))

-- ---- cash

pub cash_listed_lem : (h : Holdings) → cash_listed h ≡ each_below cash_limit (cash_listed_at h)
unfolding cash_listed
cash_listed_lem h =
    sym (each_digits 64 2 (cash_listed_at h) ∙ each_same 64 _ _ (λ m p. each_same 2 _ _ (λ c q. of-cash m c q)))
  where
    of-cash : (m c : ℕ) → c < 2 → cash_listed_at h (m * 2 + c) ≡ if_so (has_cash h (m + 1, c + 1)) (m + 1, c + 1)
    of-cash m c l =
        let a : (m * 2 + c) / 2 ≡ m = omega arith in
        let b : (m * 2 + c) % 2 ≡ c = omega arith in
        ap₂ (λ (x y : ℕ). if_so (has_cash h (x + 1, y + 1)) (x + 1, y + 1)) a b
