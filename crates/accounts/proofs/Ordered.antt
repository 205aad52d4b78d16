-- The accounts by their keys: the least key of the words is that of the first account that is not empty. Assumes nothing.
use Prim.Native.Nat.{ℕ, ◌<◌}
use native.Mathlib.Omega.{arith}
use mathlib.Core.Bool.{true, false, not}
use mathlib.Core.List.{List}
use mathlib.Core.Path.{◌≡◌, ap, ◌∙◌}
use borrow.Author.Tests.{eq-eqb, ne_eqb}
use Rattle.plain.specs.Lists.{◌is◌}
use Rattle.plain.proofs.Sums.{sum-none}
use Rattle.words.specs.Tables.{rows, key_at, sum_of, value_of}
use Rattle.words.specs.Order.{Next, NextKey, RowOf}
use Rattle.words.proofs.Tables.{value_at}
use Rattle.accounts.specs.Keys.{key_limit, account_of, has_balance}
use Rattle.accounts.specs.Map.{BALANCES, balance_of, Kept}
use Rattle.accounts.proofs.Keys.{range_true, account_range, key_back}
use Rattle.accounts.proofs.Rows.{balance_some}

module _ (a : List ℕ) (kept : Kept a) where
  -- what the account of a key holds
  of-key : (key : ℕ) → key < key_limit → balance_of a (account_of key) ≡ value_of BALANCES a key
  unfolding balance_of
  of-key key l = rw (range_true (account_of key) (account_range key l)) (ap (value_of BALANCES a) (key_back key))

  has-row : (key : ℕ) → key < key_limit → RowOf a (rows a) key → has_balance (balance_of a) key ≡ true
  has-row key l row =
      let here = value_at a key BALANCES kept.once row.place row.inside row.here in
      let some = balance_some a kept row.place row.inside in
      ap not (ne_eqb (balance_of a (account_of key)) 0 (λ z. omega (arith, z, of-key key l, here, some)))

  no_row : (key : ℕ) → key < key_limit → ((i : ℕ) → i < rows a → (key_at a i is key) ≡ false) → has_balance (balance_of a) key ≡ false
  unfolding value_of sum_of
  no_row key l none =
      let zero : value_of BALANCES a key ≡ 0 = sum-none (rows a) _ (λ i m. rw (none i m)) in
      ap not (eq-eqb (balance_of a (account_of key)) 0 (of-key key l ∙ zero))

  pub next_account_lem : (from next : ℕ) → NextKey a from key_limit next → Next (has_balance (balance_of a)) from key_limit next
  next_account_lem from next least = record {
    least = least.from_least;
    most = least.most;
    passes = λ l. has-row next l (least.row l);
    others = λ n f l.
        no_row n (omega (arith, l, least.most))
        (λ i m. ne_eqb (key_at a i) n (λ e. omega (arith, e, f, l, least.others i m (omega (arith, e, f)))));
  }
