-- What the accounts hold once a row is put: the map, their number, and what is kept true. Assumes nothing.
use Rattle.std.specs.Prelude.{if◌then◌else◌, Option, Some, None}
use Prim.Native.Nat.{ℕ, ◌+◌, ◌-◌, ◌^◌, ◌≤◌, ◌<◌}
use native.Mathlib.Omega.{arith}
use mathlib.Core.Bool.{Bool, true, false}
use mathlib.Core.List.{List}
use mathlib.Core.Logic.{◌≢◌}
use mathlib.Core.Path.{◌≡◌, refl, sym, ap, ◌∙◌, fun_ext}
use lib.ListN.{set}
use borrow.Author.Tests.{eq-eqb, ne_eqb, eqb-true, lt-ltb}
use Rattle.plain.specs.Lists.{◌is◌, ◌below◌, sum_below}
use Rattle.plain.proofs.Sums.{sum-none, sum_one}
use Rattle.rulebook.specs.Ledger.{Holdings, counted, put_balance, same_account}
use Rattle.rulebook.specs.Movements.{credit, debit}
use Rattle.rulebook.specs.Movements.{account as place}
use Rattle.rulebook.specs.declared.Account.{Account}
use Rattle.rulebook.specs.Ranges.{AccountInRange}
use Rattle.words.specs.Tables.{rows, key_at, place_of, sum_of, value_of}
use Rattle.words.proofs.Tables.{place_at, place_none, value_none}
use Rattle.accounts.specs.Keys.{key_of, in_range}
use Rattle.accounts.specs.Map.{BALANCES, balance_at, opened, removed, balance_of, with_accounts, Kept}
use Rattle.accounts.proofs.Keys.{range_true, range_holds, key_fits, key_test, other_range}
use Rattle.accounts.proofs.Rows.{adds, Put, balance_some, value_here, put-stored, put-opened, put-removed}

module _ (a : List ℕ) (kept : Kept a) where
  -- an account has one row where it has a balance, and else none
  rows_of : (key : ℕ) → sum_below (rows a) (λ i. if key_at a i is key then 1 else 0) ≡ counted (value_of BALANCES a key)
  unfolding counted
  rows_of key = go (place_of key a) refl
    where
      go : (f : Option ℕ) → place_of key a ≡ f → sum_below (rows a) (λ i. if key_at a i is key then 1 else 0) ≡ (if value_of BALANCES a key is 0 then 0 else 1)
      go (Some j) e =
          let h = place_at a key j e in
          let some : (value_of BALANCES a key is 0) ≡ false =
          ne_eqb (value_of BALANCES a key) 0 (λ z. omega (arith, z, value_here a kept key j e 1 (omega arith), balance_some a kept j h.0)) in
          sum_one (rows a) (λ i. key_at a i is key) (kept.once key) j h.0 (eq-eqb _ _ h.1) (λ i. 1) ∙ rw some
      go None e =
          let none : (value_of BALANCES a key is 0) ≡ true = eq-eqb _ 0 (value_none a key BALANCES e) in
          sum-none (rows a) (λ i. if key_at a i is key then 1 else 0) (λ i l. rw (place_none a key e i l)) ∙ rw none

  module _ (r : List ℕ) (key v : ℕ) (fits : key < 2 ^ 62) (put : Put a r key v) where
    -- a figure that is 0 adds nothing
    adds_none : (figure : ℕ → ℕ → ℕ) (w : ℕ) → ((w is 0) ≡ false → figure key w ≡ 0) → adds figure key w ≡ 0
    adds_none figure w e = go (w is 0) refl
      where
        go : (b : Bool) → (w is 0) ≡ b → (if b then 0 else figure key w) ≡ 0
        go true f = refl
        go false f = e f

    -- a sum that is 0, of a figure that adds nothing, stays 0
    stays : (figure : ℕ → ℕ → ℕ) → ((w : ℕ) → (w is 0) ≡ false → figure key w ≡ 0) → sum_of BALANCES figure a ≡ 0 → sum_of BALANCES figure r ≡ 0
    stays figure none e = omega (arith, put.sums figure, adds_none figure v (none v), adds_none figure (value_of BALANCES a key) (none (value_of BALANCES a key)))

    once : (x : ℕ) → sum_below (rows r) (λ i. if key_at r i is x then 1 else 0) ≤ 1
    unfolding sum_of counted
    once x = go (key is x) refl
      where
        figure : ℕ → ℕ → ℕ
        figure k w = if k is x then 1 else 0

        counts : (b : Bool) → (if b then 0 else 1) ≤ 1
        counts true = omega arith
        counts false = omega arith

        go : (b : Bool) → (key is x) ≡ b → sum_below (rows r) (λ i. if key_at r i is x then 1 else 0) ≤ 1
        go true e =
            let adds_one : (w : ℕ) → adds figure key w ≡ counted w = λ w. rw e in
            let now : sum_below (rows a) (λ i. if key_at a i is x then 1 else 0) ≡ counted (value_of BALANCES a key) = rw (← eqb-true key x e) (rows_of key) in
            omega (arith, put.sums figure, adds_one v, adds_one (value_of BALANCES a key), now, counts (v is 0))
        go false e =
            let none : (w : ℕ) → adds figure key w ≡ 0 = λ w. adds_none figure w (λ f. rw e) in
            omega (arith, put.sums figure, none v, none (value_of BALANCES a key), kept.once x)

    pub put-kept : Kept r
    put-kept = record {
      long = put.long;
      size = put.size;
      once = once;
      some = stays (λ k w. if w is 0 then 1 else 0) (λ w f. rw f) kept.some;
      keys = stays (λ k w. if k below 2 ^ 62 then 0 else 1) (λ w f. rw (lt-ltb key (2 ^ 62) fits)) kept.keys;
    }

    pub put-value : (x : ℕ) → value_of BALANCES r x ≡ (if key is x then v else value_of BALANCES a x)
    unfolding value_of
    put-value x = go (key is x) refl
      where
        figure : ℕ → ℕ → ℕ
        figure k w = if k is x then w else 0

        whole : (w : ℕ) (b : Bool) → (w is 0) ≡ b → (if b then 0 else w) ≡ w
        whole w true e = sym (eqb-true w 0 e)
        whole w false e = refl

        go : (b : Bool) → (key is x) ≡ b → value_of BALANCES r x ≡ (if b then v else value_of BALANCES a x)
        go true e =
            let adds-all : (w : ℕ) → adds figure key w ≡ w = λ w. rw e (whole w (w is 0) refl) in
            let now : value_of BALANCES a x ≡ value_of BALANCES a key = ap (value_of BALANCES a) (sym (eqb-true key x e)) in
            omega (arith, put.sums figure, adds-all v, adds-all (value_of BALANCES a key), now)
        go false e =
            let none : (w : ℕ) → adds figure key w ≡ 0 = λ w. adds_none figure w (λ f. rw e) in
            omega (arith, put.sums figure, none v, none (value_of BALANCES a key))

-- the rulebook's own words
pub put-means :
    (a r : List ℕ) (account : Account) (v : ℕ) → Kept a → AccountInRange account → Put a r (key_of account) v → (h : Holdings) → with_accounts r h
    ≡ put_balance account v (with_accounts a h)
unfolding put_balance balance_of
put-means a r account v kept range put h = λ i. record { securities = h.securities; balance = fun_ext map i; accounts = number i; cash = h.cash }
  where
    number : rows r ≡ rows a + counted v - counted (if in_range account then value_of BALANCES a (key_of account) else 0)
    number = rw (range_true account range) (omega (arith, put.number))

    map :
        (other : Account) → (if in_range other then value_of BALANCES r (key_of other) else 0)
        ≡ (if same_account account other then v else if in_range other then value_of BALANCES a (key_of other) else 0)
    map other = go (in_range other) refl
      where
        go :
            (b : Bool) → in_range other ≡ b → (if b then value_of BALANCES r (key_of other) else 0)
            ≡ (if same_account account other then v else if b then value_of BALANCES a (key_of other) else 0)
        go true e = put-value a kept r (key_of account) v (key_fits account range) put (key_of other) ∙ rw (key_test account other range (range_holds other e))
        go false e = rw (other_range account other range e)

-- ---- as the code does it: by the place that the search answers

module _ (a : List ℕ) (kept : Kept a) (account : Account) (range : AccountInRange account) where
  pub balance_value : balance_of a account ≡ value_of BALANCES a (key_of account)
  unfolding balance_of
  balance_value = rw (range_true account range)

  pub balance_none : place_of (key_of account) a ≡ None → balance_of a account ≡ 0
  balance_none e = balance_value ∙ value_none a (key_of account) BALANCES e

  pub balance_here : (j : ℕ) → place_of (key_of account) a ≡ Some j → (j < rows a) × (balance_of a account ≡ balance_at a j)
  balance_here j e = ((place_at a (key_of account) j e).0, balance_value ∙ value_here a kept (key_of account) j e 1 (omega arith))

  -- the account's balance is put, and what is kept true stays so
  puts : (r : List ℕ) (v w : ℕ) → Put a r (key_of account) v → v ≡ w → Kept r × ((h : Holdings) → with_accounts r h ≡ put_balance account w (with_accounts a h))
  puts r v w put e = (
    put-kept a kept r (key_of account) v (key_fits account range) put,
    λ h. put-means a r account v kept range put h
        ∙ ap (λ (x : ℕ). put_balance account x (with_accounts a h)) e,
  )

  pub credited_at :
      (q j : ℕ) → place_of (key_of account) a ≡ Some j → 0 < q → Kept (set a (j + BALANCES) (balance_at a j + q))
      × ((h : Holdings) → with_accounts (set a (j + BALANCES) (balance_at a j + q)) h ≡ credit (place account) q (with_accounts a h))
  unfolding credit
  credited_at q j e some =
      puts _ (balance_at a j + q) (balance_of a account + q) (put-stored a kept (key_of account) j e (balance_at a j + q) (omega arith))
      (omega (arith, (balance_here j e).1))

  pub credited_new :
      (q : ℕ) → place_of (key_of account) a ≡ None → 0 < q → rows a < 256 → Kept (opened a (key_of account) q)
      × ((h : Holdings) → with_accounts (opened a (key_of account) q) h ≡ credit (place account) q (with_accounts a h))
  unfolding credit
  credited_new q e some room = puts _ q (balance_of a account + q) (put-opened a kept (key_of account) e room q some) (omega (arith, balance_none e))

  pub debited_part :
      (q j : ℕ) → place_of (key_of account) a ≡ Some j → q ≤ balance_of a account → balance_at a j ≢ q → Kept (set a (j + BALANCES) (balance_at a j - q))
      × ((h : Holdings) → with_accounts (set a (j + BALANCES) (balance_at a j - q)) h ≡ debit (place account) q (with_accounts a h))
  unfolding debit
  debited_part q j e enough ne =
      let here = (balance_here j e).1 in
      puts _ (balance_at a j - q) (balance_of a account - q) (put-stored a kept (key_of account) j e (balance_at a j - q) (omega (arith, here, ne)))
      (omega (arith, here))

  pub debited_whole :
      (q j : ℕ) → place_of (key_of account) a ≡ Some j → balance_at a j ≡ q → Kept (removed a j)
      × ((h : Holdings) → with_accounts (removed a j) h ≡ debit (place account) q (with_accounts a h))
  unfolding debit
  debited_whole q j e all = puts _ 0 (balance_of a account - q) (put-removed a kept (key_of account) j e) (omega (arith, (balance_here j e).1))

-- an account that has a balance is in range
pub balance_range : (a : List ℕ) (account : Account) → 0 < balance_of a account → AccountInRange account
unfolding balance_of
balance_range a account some = go (in_range account) refl some
  where
    go : (b : Bool) → in_range account ≡ b → 0 < (if b then value_of BALANCES a (key_of account) else 0) → AccountInRange account
    go true e s = range_holds account e
    go false e s = absurd (omega arith)
