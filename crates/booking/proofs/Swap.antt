-- A movement between two accounts may be debited first: the book is the same, and a full one has room for the account that is opened. Assumes nothing.
use Rattle.std.specs.Prelude.{if◌then◌else◌}
use Prim.Native.Nat.{ℕ, ◌+◌, ◌-◌, ◌≤◌, ◌^◌}
use mathlib.Core.Path.{◌≡◌, refl, sym, ap, ◌∙◌}
use mathlib.Core.Bool.{Bool, true, false, false≢true}
use native.Mathlib.Omega.{arith}
use Rattle.plain.specs.Lists.{sum_below}
use Rattle.rulebook.specs.Ledger.{Holdings, same_account, counted, put_balance}
use Rattle.rulebook.specs.Movements.{account, credit, debit}
use Rattle.rulebook.specs.Premise.{account_count}
use Rattle.rulebook.specs.declared.Account.{Account}
use Rattle.rulebook.proofs.Bounds.{part-most}
use Rattle.rulebook.proofs.Accounts.{same_eq}
use Rattle.rulebook.proofs.Sizes.{counted-some, counted-most}
use Rattle.rulebook.specs.Ranges.{AccountInRange}

-- an account with a balance is one of those that are counted
pub counted-among : (h : Holdings) (a : Account) → AccountInRange a → counted (h.balance a) ≤ account_count h
unfolding account_count
counted-among h a r =
    let at : ℕ → ℕ → ℕ → ℕ → ℕ = λ s m t k. counted (h.balance (record { security = s; member = m; typ = t; shareholder = k })) in
    let four = part-most (2 ^ 30) a.shareholder (λ k. at a.security a.member a.typ k) r.shareholder in
    let three = part-most (2 ^ 8) a.typ (λ t. sum_below (2 ^ 30) (λ k. at a.security a.member t k)) r.typ in
    let two = part-most (2 ^ 10) a.member (λ m. sum_below (2 ^ 8) (λ t. sum_below (2 ^ 30) (λ k. at a.security m t k))) r.member in
    let one = part-most (2 ^ 14) a.security (λ s. sum_below (2 ^ 10) (λ m. sum_below (2 ^ 8) (λ t. sum_below (2 ^ 30) (λ k. at s m t k)))) r.security in
    omega (arith, one, two, three, four)

module _
    (h : Holdings) (from to : Account) (q : ℕ) (some : 1 ≤ q) (enough : q ≤ h.balance from)
    (apart : same_account to from ≡ false) (apart' : same_account from to ≡ false) (listed : 1 ≤ h.accounts) where
  -- each balance
  balances : (a : Account) → (credit (account to) q (debit (account from) q h)).balance a ≡ (debit (account from) q (credit (account to) q h)).balance a
  unfolding credit debit put_balance
  balances a = rw (apart, apart') (go (same_account to a) (same_account from a) refl refl)
    where
      -- no account is both
      both : same_account to a ≡ true → same_account from a ≡ true → ⊥
      both e f = false≢true (sym apart' ∙ ap (same_account from) (same_eq to a e) ∙ f)

      go :
          (t f : Bool) → same_account to a ≡ t → same_account from a ≡ f
          → (if t then h.balance to + q else if f then h.balance from - q else h.balance a)
          ≡ (if f then h.balance from - q else if t then h.balance to + q else h.balance a)
      go true true e f = absurd (both e f)
      go true false e f = refl
      go false true e f = refl
      go false false e f = refl

  -- how many accounts there are
  numbers : (credit (account to) q (debit (account from) q h)).accounts ≡ (debit (account from) q (credit (account to) q h)).accounts
  unfolding credit debit put_balance
  numbers =
      let one = counted-some (h.balance from) (omega arith) in
      let two = counted-some (h.balance to + q) (omega arith) in
      rw (apart, apart') (omega (arith, one, two, counted-most (h.balance to), counted-most (h.balance from - q)))

  pub debit-first : credit (account to) q (debit (account from) q h) ≡ debit (account from) q (credit (account to) q h)
  unfolding credit debit put_balance
  debit-first = λ i. record { securities = h.securities; balance = λ a. balances a i; accounts = numbers i; cash = h.cash }
