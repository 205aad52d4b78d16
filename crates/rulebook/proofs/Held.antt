-- One change of a balance changes what is held by the difference. Assumes nothing.
use mathlib.Core.Path.{◌≡◌, refl, sym, ap, ◌∙◌}
use mathlib.Core.Logic.{◌≢◌}
use mathlib.Core.Bool.{true, false, and-false}
use Prim.Native.Nat.{ℕ, ◌+◌, ◌-◌, ◌<◌, ◌^◌}
use native.Mathlib.Nat.{add_comm}
use native.Mathlib.Omega.{arith}
use borrow.Author.Tests.{eq-eqb, ne_eqb}
use Rattle.plain.proofs.Sums.{sum_same, sum-differs}
use Rattle.rulebook.specs.Ledger.{Holdings, same_account, counted, put_balance, held}
use Rattle.rulebook.specs.declared.Account.{Account}
use Rattle.rulebook.specs.Premise.{account_count}

-- the account of four numbers
abbrev at : (security member typ shareholder : ℕ) → Account
at security member typ shareholder = record { security = security; member = member; typ = typ; shareholder = shareholder }

pub same_self : (a : Account) → same_account a a ≡ true
unfolding same_account
same_self a = simp (eq-eqb a.security a.security refl, eq-eqb a.member a.member refl, eq-eqb a.typ a.typ refl, eq-eqb a.shareholder a.shareholder refl)

module _ (a : Account) where
  other_security : (s m t k : ℕ) → s ≢ a.security → same_account a (at s m t k) ≡ false
  unfolding same_account
  other_security s m t k p = simp (ne_eqb a.security s (λ q. p (sym q)))

  other_member : (s m t k : ℕ) → m ≢ a.member → same_account a (at s m t k) ≡ false
  unfolding same_account
  other_member s m t k p = simp (ne_eqb a.member m (λ q. p (sym q)), and-false)

  other_type : (s m t k : ℕ) → t ≢ a.typ → same_account a (at s m t k) ≡ false
  unfolding same_account
  other_type s m t k p = simp (ne_eqb a.typ t (λ q. p (sym q)), and-false)

  other_shareholder : (s m t k : ℕ) → k ≢ a.shareholder → same_account a (at s m t k) ≡ false
  unfolding same_account
  other_shareholder s m t k p = simp (ne_eqb a.shareholder k (λ q. p (sym q)), and-false)

module _ (h : Holdings) (a : Account) (v : ℕ) where
  -- the balance that is put is read back
  pub put_same : (put_balance a v h).balance a ≡ v
  unfolding put_balance
  put_same = rw (same_self a)

  -- and every other stays
  pub put_other : (b : Account) → same_account a b ≡ false → (put_balance a v h).balance b ≡ h.balance b
  unfolding put_balance
  put_other b p = rw p

  -- the account is among those summed, and its security's held count changes by the difference
  pub held-put :
      a.member < 2 ^ 10 → a.typ < 2 ^ 8 → a.shareholder < 2 ^ 30 → held a.security (put_balance a v h) + h.balance a ≡ held a.security h + v
  unfolding held
  held-put m t k =
      sum-differs (2 ^ 10) a.member (h.balance a) v _ _ m
      (λ j p. sum_same (2 ^ 8) _ _ (λ i _. sum_same (2 ^ 30) _ _ (λ l _. put_other _ (other_member a a.security j i l p))))
      (sum-differs (2 ^ 8) a.typ (h.balance a) v _ _ t (λ j p. sum_same (2 ^ 30) _ _ (λ l _. put_other _ (other_type a a.security a.member j l p)))
      (sum-differs (2 ^ 30) a.shareholder (h.balance a) v _ _ k (λ j p. put_other _ (other_shareholder a a.security a.member a.typ j p))
      (ap (λ (n : ℕ). n + h.balance a) put_same ∙ add_comm v (h.balance a))))

  -- the held counts of other securities stay
  pub held-put_other : (security : ℕ) → security ≢ a.security → held security (put_balance a v h) ≡ held security h
  unfolding held
  held-put_other security p =
      sum_same (2 ^ 10) _ _ (λ m _. sum_same (2 ^ 8) _ _ (λ t _. sum_same (2 ^ 30) _ _ (λ k _. put_other _ (other_security a security m t k p))))

module _ (h : Holdings) (a : Account) (v : ℕ) where
  count_put :
      a.security < 2 ^ 14 → a.member < 2 ^ 10 → a.typ < 2 ^ 8 → a.shareholder < 2 ^ 30
      → account_count (put_balance a v h) + counted (h.balance a) ≡ account_count h + counted v
  unfolding account_count
  count_put s m t k =
      sum-differs (2 ^ 14) a.security old new _ _ s
      (λ j p. sum_same (2 ^ 10) _ _ (λ m _. sum_same (2 ^ 8) _ _ (λ t _. sum_same (2 ^ 30) _ _ (λ l _. same _ (other_security a j m t l p)))))
      (sum-differs (2 ^ 10) a.member old new _ _ m
      (λ j p. sum_same (2 ^ 8) _ _ (λ i _. sum_same (2 ^ 30) _ _ (λ l _. same _ (other_member a a.security j i l p))))
      (sum-differs (2 ^ 8) a.typ old new _ _ t (λ j p. sum_same (2 ^ 30) _ _ (λ l _. same _ (other_type a a.security a.member j l p)))
      (sum-differs (2 ^ 30) a.shareholder old new _ _ k (λ j p. same _ (other_shareholder a a.security a.member a.typ j p))
      (ap (λ (n : ℕ). counted n + old) (put_same h a v) ∙ add_comm new old))))
    where
      old : ℕ
      old = counted (h.balance a)

      new : ℕ
      new = counted v

      same : (b : Account) → same_account a b ≡ false → counted ((put_balance a v h).balance b) ≡ counted (h.balance b)
      same b p = ap counted (put_other h a v b p)

  -- the number that a change of a balance keeps is the number of accounts that have one
  pub accounts_put :
      a.security < 2 ^ 14 → a.member < 2 ^ 10 → a.typ < 2 ^ 8 → a.shareholder < 2 ^ 30 → h.accounts ≡ account_count h
      → (put_balance a v h).accounts ≡ account_count (put_balance a v h)
  accounts_put s m t k e =
      let c = count_put s m t k in
      let d : (put_balance a v h).accounts ≡ h.accounts + counted v - counted (h.balance a) = unfold put_balance in refl in
      omega (arith, c, d, e)
