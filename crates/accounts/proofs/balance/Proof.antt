-- `accounts::balance` meets its contract: what the row of the account's key has. Assumes nothing.
use mathlib.Core.Path.{sym, ap, ◌∙◌}
use borrow.Author.Rules.{rules}
use Rattle.words.specs.Tables.{value_of}
use Rattle.accounts.specs.Map.{BALANCES}
use Rattle.accounts.proofs.Map.{balance_value}
use Rattle.accounts.proofs.balance.Statement.{statement}
use Rattle.accounts.proofs.balance.Tie as tie

returns : tie.Need-returns
returns c =
    let s = c.before.before.before in
    c.value.ensures ∙ ap (value_of BALANCES s.args.accounts.now) c.before.key_of-key.ensures
    ∙ sym (balance_value s.args.accounts.now s.requires.0 s.args.account s.requires.1)

pub balance_spec : {M : Type 1} → statement M
balance_spec = tie.close (tie.spec (λ c κs. search rules) (λ c κs. search rules) returns)
