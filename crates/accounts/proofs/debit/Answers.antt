-- `accounts::debit`, by the place that the search answers.
use Rattle.std.proofs.Common.{◌≡◌, ◌≤◌, ◌<◌, List, ℕ, arith, subst, sym}
use Rattle.rulebook.specs.Ledger.{Holdings}
use Rattle.rulebook.specs.Movements as movements
use Rattle.rulebook.specs.declared.Account.{Account}
use Rattle.rulebook.specs.Ranges.{AccountInRange}
use Rattle.accounts.specs.Map.{balance_of, with_accounts, Kept}
use Rattle.accounts.proofs.Map.{balance_range, balance_none, balance_here, debited_part, debited_whole}
use Rattle.accounts.proofs.debit.Goals as goal

-- what has a balance is an account in range
named : (a : List ℕ) (account : Account) (q : ℕ) → 0 < q → q ≤ balance_of a account → AccountInRange account
named a account q some enough = balance_range a account (omega arith)

pub find-requires : goal.find-requires
find-requires c = (c.requires.0, named _ _ _ c.requires.1 c.requires.2)

pub overflow_sub-accounts : goal.overflow_sub-accounts
overflow_sub-accounts c =
    let here =
    balance_here c.args.accounts.now c.requires.0 c.args.account (named _ _ _ c.requires.1 c.requires.2) c.in-Some.i (sym c.in-Some.ensures.place)
    in
    omega (arith, here.1, c.requires.2)

pub returns-then-held-quantity : goal.returns-then-held-quantity
returns-then-held-quantity c =
    let a = c.args.accounts.now in
    subst
    (λ (r : List ℕ). Kept r
    × ((h : Holdings) → with_accounts r h ≡ movements.debit (movements.account c.args.account) c.args.quantity.0 (with_accounts a h)))
    (sym c.remove_account.ensures)
    (debited_whole a c.requires.0 c.args.account (named _ _ _ c.requires.1 c.requires.2) c.args.quantity.0 c.in-Some.i (sym c.in-Some.ensures.place)
    c.if-held-quantity.true)

pub returns-else-held-quantity : goal.returns-else-held-quantity
returns-else-held-quantity c =
    debited_part c.args.accounts.now c.requires.0 c.args.account (named _ _ _ c.requires.1 c.requires.2) c.args.quantity.0 c.in-Some.i
    (sym c.in-Some.ensures.place) c.requires.2 c.if-held-quantity.false

-- an account that has a balance stands somewhere
pub returns-in_default : goal.returns-in_default
returns-in_default c =
    absurd
    (omega (
      arith,
      c.requires.1,
      c.requires.2,
      balance_none c.args.accounts.now c.requires.0 c.args.account (named _ _ _ c.requires.1 c.requires.2) (sym c.in_default.ensures.place),
    ))
