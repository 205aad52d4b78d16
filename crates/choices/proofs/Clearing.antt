-- Pay-ins that clear trades: the least of them, and verdicts between two amounts. Assumes nothing.
use mathlib.Core.Path.{◌≡◌, refl, sym, ap, subst, ◌∙◌}
use mathlib.Core.Bool.{Bool, true, false, not, false≢true}
use mathlib.Core.List.{List, [], ◌∷◌}
use Prim.Native.Nat.{ℕ, zero, suc, ◌-◌, ◌≤◌, ◌<◌}
use native.Mathlib.Omega.{arith}
use borrow.Author.Tests.{eq-eqb}
use lib.ListN.{length}
use Rattle.rulebook.specs.declared.Account.{Account}
use Rattle.rulebook.specs.declared.Item.{Item}
use Rattle.plain.specs.Lists.{◌is_not◌, some}
use Rattle.rulebook.specs.Ledger.{Holdings}
use Rattle.rulebook.specs.Movements.{account, type91, type90, cash_of, member0}
use Rattle.plain.specs.Lists.{Each}
use Rattle.rulebook.specs.Shortfall.{seller}
use Rattle.plain.proofs.Tests.{or_cases}
use Rattle.rulebook.specs.Shortfall.{takes, missing, NothingShort, delivers, any_short}
use Rattle.rulebook.specs.Selection.{Entry, trades_in, count_left, one_pass, passes, rounds, dropping, selection_in, full_selection}
use Rattle.rulebook.specs.Selected.{NoneLeft}
use Rattle.choices.specs.Clearing.{Amounts, paid_in, Clears, clears, amounts, shares_short, SharesEnough, ClearingLaws}
use Rattle.choices.specs.Clearing.{ClearsLeast, passes_ceiling, clearing, nothing_clears, pay_ins}
use Rattle.choices.specs.Clearing.{SendsAll, Verdict, always, never, depends, verdict, Means, VerdictLaws}
use Rattle.rulebook.proofs.Selection.Passes.{Refused, pass-none}
use Rattle.rulebook.proofs.Selection.Missing.{above_zero, zero_above, no_takes, takes-seller}
use Rattle.rulebook.proofs.Selection.Missing.{some-takes, missing-taken, none_short, short_none}

-- ---- pay-ins leave accounts as they are, and take their amount off what is missing

paid_account : (h : Holdings) (ts : List Item) (pay : Amounts) (a : Account) → missing (paid_in pay h) ts (account a) ≡ missing h ts (account a)
unfolding missing paid_in
paid_account h ts pay a = refl

paid_cash : (h : Holdings) (ts : List Item) (pay : Amounts) (m c : ℕ) → missing (paid_in pay h) ts (cash_of m c) ≡ missing h ts (cash_of m c) - pay m c
unfolding missing paid_in
paid_cash h ts pay m c = omega arith

module _ (h : Holdings) (ts : List Item) where
  least : (pay : Amounts) → Clears h ts pay → SharesEnough h ts × ((m c : ℕ) → amounts h ts m c ≤ pay m c)
  unfolding amounts
  least pay q = ((λ a. sym (paid_account h ts pay a) ∙ q (account a)), (λ m c. omega (arith, paid_cash h ts pay m c, q (cash_of m c))))

  enough : (pay : Amounts) → SharesEnough h ts → ((m c : ℕ) → amounts h ts m c ≤ pay m c) → Clears h ts pay
  unfolding amounts takes
  enough pay s l (account a) = paid_account h ts pay a ∙ s a
  enough pay s l (type91 c) = no_takes (paid_in pay h) ts (type91 c) (λ t. refl)
  enough pay s l (type90 c) = no_takes (paid_in pay h) ts (type90 c) (λ t. refl)
  enough pay s l (cash_of m c) = omega (arith, paid_cash h ts pay m c, l m c)
  enough pay s l (member0 c) = no_takes (paid_in pay h) ts (member0 c) (λ t. refl)

  -- ---- accounts

  no_shares : not (shares_short h ts) ≡ true → SharesEnough h ts
  unfolding shares_short
  no_shares n a = go (missing h ts (account a)) refl
    where
      go : (k : ℕ) → missing h ts (account a) ≡ k → missing h ts (account a) ≡ 0
      go zero e = e
      go (suc k) e =
          let m : 0 < missing h ts (account a) = omega arith in
          let s =
          some-takes (account a) (λ t. missing h ts (delivers t) is_not 0) (λ t l. simp (takes-seller a t l, above_zero _ m)) ts
          (missing-taken h ts (account a) m)
          in
          absurd (false≢true (simp s at n))

  shares : shares_short h ts ≡ true → (a : Account) × (1 ≤ missing h ts (account a))
  unfolding shares_short
  shares e = find ts e
    where
      find : (us : List Item) → some (λ t. missing h ts (delivers t) is_not 0) us ≡ true → (a : Account) × (1 ≤ missing h ts (account a))
      find [] e = absurd (false≢true e)
      find (t ∷ us) e =
          or_cases ((a : Account) × (1 ≤ missing h ts (account a)))
          (missing h ts (delivers t) is_not 0) (some (λ t. missing h ts (delivers t) is_not 0) us) e (λ x. (seller t, zero_above _ x)) (find us)

  answer : (pay : Amounts) → clearing h ts ≡ pay_ins pay → ClearsLeast h ts pay
  unfolding clearing
  answer pay e = go (shares_short h ts) refl (passes_ceiling h (amounts h ts)) refl
    where
      given : SharesEnough h ts → amounts h ts ≡ pay → ClearsLeast h ts pay
      given s a = subst (ClearsLeast h ts) a (enough (amounts h ts) s (λ m c. omega arith), (λ other q. (least other q).1))

      never_so : nothing_clears ≡ pay_ins pay → ⊥
      never_so p = let z : ◌≡◌ {A = ℕ} 0 1 = cc in omega arith

      go : (a : Bool) → shares_short h ts ≡ a → (b : Bool) → passes_ceiling h (amounts h ts) ≡ b → ClearsLeast h ts pay
      go true j b k = absurd (never_so (simp j at e))
      go false j true k = absurd (never_so (simp (j, k) at e))
      go false j false k = let p : pay_ins (amounts h ts) ≡ pay_ins pay = simp (j, k) at e in given (no_shares (simp j)) (cc)

  pub clearing-laws : ClearingLaws h ts
  clearing-laws = record { least = least; enough = enough; answer = answer; shares = shares; no_shares = no_shares }

-- ---- what clears is taken whole

rounds-rest : (h : Holdings) (n : ℕ) (es : List Entry) → any_short h (trades_in es) ≡ false → rounds n h es ≡ es
unfolding rounds
rounds-rest h zero es q = refl
rounds-rest h (suc n) es q = simp q

passes-rest : (h : Holdings) (n : ℕ) (es : List Entry) → one_pass h es ≡ es → passes n h es ≡ es
unfolding passes
passes-rest h zero es e = refl
passes-rest h (suc n) es e = simp (eq-eqb (count_left (one_pass h es)) (count_left es) (ap count_left e))

none_refused : (h : Holdings) (now : List Item) (es : List Entry) → NoneLeft es → Each (Refused h now) es
none_refused h now [] u = tt
none_refused h now (e ∷ rest) u = ((λ l. absurd (false≢true (sym u.0 ∙ l))), none_refused h now rest u.1)

full-sent : (h : Holdings) (es : List Entry) → NoneLeft es → NothingShort h (trades_in es) → full_selection h es ≡ es
unfolding full_selection selection_in dropping
full-sent h es u q =
    rw (rounds-rest h (length es) es (short_none h (trades_in es) q))
    (passes-rest h (length es) es (pass-none h (trades_in es) es (none_refused h (trades_in es) es u)))

pub sends_all : (h : Holdings) (es : List Entry) → SendsAll h es
sends_all h es u s =
    let ts : List Item = trades_in es in
    full-sent (paid_in (amounts h ts) h) es u (enough h ts (amounts h ts) s (λ m c. omega arith))

-- ---- between two amounts

module _ (h : Holdings) (ts : List Item) where
  clears-so : (pay : Amounts) → clears h ts pay ≡ true → Clears h ts pay
  unfolding clears
  clears-so pay e = go (any_short (paid_in pay h) ts) refl
    where
      go : (b : Bool) → any_short (paid_in pay h) ts ≡ b → Clears h ts pay
      go true k = absurd (false≢true (simp k at e))
      go false k = none_short (paid_in pay h) ts k

  so_clears : (pay : Amounts) → Clears h ts pay → clears h ts pay ≡ true
  unfolding clears
  so_clears pay q = simp (short_none (paid_in pay h) ts q)

  fails_so : (pay : Amounts) → clears h ts pay ≡ false → ¬ Clears h ts pay
  fails_so pay e q = false≢true (sym e ∙ so_clears pay q)

  -- more cash never makes anything short
  more-clears : (pay more : Amounts) → ((m c : ℕ) → pay m c ≤ more m c) → Clears h ts pay → Clears h ts more
  more-clears pay more l q = let r = least h ts pay q in enough h ts more r.0 (λ m c. omega (arith, r.1 m c, l m c))

  module _ (low high : Amounts) where
    holds : Means h ts low high (verdict h ts low high)
    unfolding verdict
    holds = go (clears h ts low) refl (clears h ts high) refl
      where
        go : (a : Bool) → clears h ts low ≡ a → (b : Bool) → clears h ts high ≡ b → Means h ts low high (verdict h ts low high)
        go true k b j = simp k (λ pay w. more-clears low pay (λ m c. (w m c).0) (clears-so low k))
        go false k true j = simp (k, j) (fails_so low k, clears-so high j)
        go false k false j = simp (k, j) (λ pay w q. fails_so high j (more-clears pay high (λ m c. (w m c).1) q))

    only : ((m c : ℕ) → low m c ≤ high m c) → (v : Verdict) → Means h ts low high v → v ≡ verdict h ts low high
    unfolding verdict
    only l always f = simp (so_clears low (f low (λ m c. (omega arith, l m c))))
    only l never f = go (clears h ts low) refl (clears h ts high) refl
      where
        go : (a : Bool) → clears h ts low ≡ a → (b : Bool) → clears h ts high ≡ b → never ≡ verdict h ts low high
        go true k b j = absurd (f low (λ m c. (omega arith, l m c)) (clears-so low k))
        go false k true j = absurd (f high (λ m c. (l m c, omega arith)) (clears-so high j))
        go false k false j = simp (k, j)
    only l depends f = go (clears h ts low) refl
      where
        go : (a : Bool) → clears h ts low ≡ a → depends ≡ verdict h ts low high
        go true k = absurd (f.0 (clears-so low k))
        go false k = simp (k, so_clears high f.1)

    pub verdict-laws : VerdictLaws h ts low high
    verdict-laws = record { holds = holds; only = only }
