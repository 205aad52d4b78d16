-- `accounts::credit`, by the place that the search answers.
use Rattle.std.proofs.Common.{◌≡◌, List, ℕ, arith, subst, sym}
use Rattle.rulebook.specs.Ledger.{Holdings}
use Rattle.rulebook.specs.Movements as movements
use Rattle.accounts.specs.Map.{with_accounts, Kept}
use Rattle.accounts.proofs.Map.{balance_none, balance_here, credited_at, credited_new}
use Rattle.accounts.proofs.credit.Goals as goal

pub overflow_add-accounts-in-Some : goal.overflow_add-accounts-in-Some
overflow_add-accounts-in-Some c =
    let here = balance_here c.args.accounts.now c.requires.0 c.args.account c.requires.1.named c.in-Some.i (sym c.in-Some.ensures.place) in
    omega (arith, here.1, c.requires.1.word)

pub open_account-requires : goal.open_account-requires
open_account-requires c =
    let none = balance_none c.args.accounts.now c.requires.0 c.args.account c.requires.1.named (sym c.in-None.ensures.place) in
    (c.requires.0.long, c.requires.1.room none, c.requires.1.named)

pub returns-in-Some : goal.returns-in-Some
returns-in-Some c =
    credited_at c.args.accounts.now c.requires.0 c.args.account c.requires.1.named c.args.quantity.0 c.in-Some.i (sym c.in-Some.ensures.place)
    c.requires.1.some

pub returns-in-None : goal.returns-in-None
returns-in-None c =
    let a = c.args.accounts.now in
    let none = sym c.in-None.ensures.place in
    let room = c.requires.1.room (balance_none a c.requires.0 c.args.account c.requires.1.named none) in
    subst
    (λ (r : List ℕ). Kept r
    × ((h : Holdings) → with_accounts r h ≡ movements.credit (movements.account c.args.account) c.args.quantity.0 (with_accounts a h)))
    (sym c.open_account.ensures) (credited_new a c.requires.0 c.args.account c.requires.1.named c.args.quantity.0 none c.requires.1.some room)
