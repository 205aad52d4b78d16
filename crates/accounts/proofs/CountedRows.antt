-- The rows are balances put one after the other into the holdings of the fresh book: so their number is that of the accounts with a balance. Assumes nothing.
use Rattle.std.specs.Prelude.{if◌then◌else◌}
use Prim.Native.Nat.{ℕ, zero, suc, ◌+◌, ◌-◌, ◌^◌, ◌≤◌, ◌<◌}
use native.Mathlib.Omega.{arith}
use mathlib.Core.Bool.{Bool, true, false}
use mathlib.Core.List.{List, []}
use mathlib.Core.Path.{◌≡◌, refl, sym, ap, ◌∙◌, fun_ext}
use borrow.Author.Tests.{eqb-true, ne_eqb, ltb-true}
use Rattle.plain.specs.Lists.{◌is◌, ◌below◌, sum_below}
use Rattle.plain.proofs.Sums.{sum-none, sum-suc, sum-least}
use Rattle.rulebook.specs.Ledger.{Holdings, fresh, counted, put_balance, same_account}
use Rattle.rulebook.specs.Premise.{account_count}
use Rattle.rulebook.specs.declared.Account.{Account}
use Rattle.rulebook.proofs.Held.{accounts_put}
use Rattle.rulebook.proofs.Sizes.{counted-some, counted_none}
use Rattle.rulebook.proofs.EveryCall.{fresh-premise}
use Rattle.rulebook.specs.Ranges.{AccountInRange}
use Rattle.words.specs.Tables.{rows, key_at, sum_of, value_of}
use Rattle.words.proofs.Tables.{key_once}
use Rattle.accounts.specs.Keys.{key_of, in_range, account_of}
use Rattle.accounts.specs.Map.{balance_at, balance_of, with_accounts, Kept}
use Rattle.accounts.proofs.Keys.{range_true, range_holds, account_range, key_back, key_test, other_range}
use Rattle.accounts.proofs.Rows.{balance_some}

-- how many accounts have a balance goes by the balances alone
same_count : (h k : Holdings) → h.balance ≡ k.balance → account_count h ≡ account_count k
unfolding account_count
same_count h k e =
    ap
    (λ (b : Account → ℕ). sum_below (2 ^ 14) λ security. sum_below (2 ^ 10) λ member. sum_below (2 ^ 8) λ typ. sum_below (2 ^ 30) λ shareholder. counted
    (b (record { security = security; member = member; typ = typ; shareholder = shareholder })))
    e

module _ (a : List ℕ) (kept : Kept a) where
  -- the holdings of the first m rows
  sum_to : ℕ → ℕ → ℕ
  sum_to m key = sum_below m (λ i. if key_at a i is key then balance_at a i else 0)

  first : ℕ → Holdings
  first m = record { securities = []; balance = λ account. if in_range account then sum_to m (key_of account) else 0; accounts = m; cash = λ member currency. 0 }

  first-none : first 0 ≡ fresh.holdings
  unfolding first sum_to fresh sum_below
  first-none = λ i. record { securities = []; balance = fun_ext (λ account. none (in_range account)) i; accounts = 0; cash = λ member currency. 0 }
    where
      none : (b : Bool) → ◌≡◌ {A = ℕ} (if b then 0 else 0) 0
      none true = refl
      none false = refl

  module _ (m : ℕ) (low : m < rows a) where
    fits : key_at a m < 2 ^ 62
    unfolding sum_of
    fits = go (key_at a m below 2 ^ 62) refl
      where
        go : (b : Bool) → (key_at a m below 2 ^ 62) ≡ b → key_at a m < 2 ^ 62
        go true e = ltb-true (key_at a m) (2 ^ 62) e
        go false e =
            let one : ◌≡◌ {A = ℕ} (if key_at a m below 2 ^ 62 then 0 else 1) 1 = rw e in
            absurd (omega (arith, one, sum-least (rows a) m (λ i. if key_at a i below 2 ^ 62 then 0 else 1) low, kept.keys))

    own : Account
    own = account_of (key_at a m)

    range : AccountInRange own
    unfolding own
    range = account_range (key_at a m) fits

    -- no row before has its key
    not_yet : sum_to m (key_at a m) ≡ 0
    unfolding sum_to
    not_yet = sum-none m _ (λ i l. rw (ne_eqb (key_at a i) (key_at a m) (λ e. omega (arith, l, key_once a (key_at a m) kept.once m low refl i (omega arith) e))))

    sum_more : (key : ℕ) → sum_to (suc m) key ≡ sum_to m key + (if key_at a m is key then balance_at a m else 0)
    unfolding sum_to
    sum_more key = sum-suc m (λ i. if key_at a i is key then balance_at a i else 0)

    own_key : key_of own ≡ key_at a m
    unfolding own
    own_key = key_back (key_at a m)

    own_none : (first m).balance own ≡ 0
    unfolding first
    own_none = rw (range_true own range) (ap (sum_to m) own_key ∙ not_yet)

    -- one row more is one balance put
    first_more : first (suc m) ≡ put_balance own (balance_at a m) (first m)
    unfolding put_balance first
    first_more = λ i. record { securities = []; balance = fun_ext map i; accounts = number i; cash = λ member currency. 0 }
      where
        number : suc m ≡ m + counted (balance_at a m) - counted ((first m).balance own)
        number = omega (arith, counted-some (balance_at a m) (balance_some a kept m low), ap counted own_none, counted_none)

        map :
            (other : Account) → (if in_range other then sum_to (suc m) (key_of other) else 0)
            ≡ (if same_account own other then balance_at a m else if in_range other then sum_to m (key_of other) else 0)
        map other = go (in_range other) refl
          where
            same :
                AccountInRange other → (b : Bool) → same_account own other ≡ b
                → sum_to (suc m) (key_of other) ≡ (if b then balance_at a m else sum_to m (key_of other))
            same r true e =
                let is_key : (key_at a m is key_of other) ≡ true = rw (← own_key) (key_test own other range r ∙ e) in
                let none : sum_to m (key_of other) ≡ 0 = ap (sum_to m) (sym (eqb-true (key_at a m) (key_of other) is_key)) ∙ not_yet in
                sum_more (key_of other) ∙ rw is_key (omega (arith, none))
            same r false e =
                let is_key : (key_at a m is key_of other) ≡ false = rw (← own_key) (key_test own other range r ∙ e) in
                sum_more (key_of other) ∙ rw is_key (omega arith)

            go :
                (b : Bool) → in_range other ≡ b → (if b then sum_to (suc m) (key_of other) else 0)
                ≡ (if same_account own other then balance_at a m else if b then sum_to m (key_of other) else 0)
            go true e = same (range_holds other e) (same_account own other) refl
            go false e = rw (other_range own other range e)

    counted-more : (first m).accounts ≡ account_count (first m) → (first (suc m)).accounts ≡ account_count (first (suc m))
    counted-more e = rw first_more (accounts_put (first m) own (balance_at a m) range.security range.member range.typ range.shareholder e)

  counted-to : (m : ℕ) → m ≤ rows a → (first m).accounts ≡ account_count (first m)
  counted-to zero l = rw first-none fresh-premise.counted
  counted-to (suc m) l = counted-more m (omega arith) (counted-to m (omega arith))

  same_balances : (h : Holdings) → (first (rows a)).balance ≡ (with_accounts a h).balance
  unfolding first sum_to balance_of value_of sum_of
  same_balances h = refl

  -- there are as many rows as accounts with a balance
  pub rows-counted : (h : Holdings) → rows a ≡ account_count (with_accounts a h)
  unfolding first
  rows-counted h = counted-to (rows a) (omega arith) ∙ same_count (first (rows a)) (with_accounts a h) (same_balances h)
