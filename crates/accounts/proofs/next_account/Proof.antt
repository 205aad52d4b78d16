-- `accounts::next_account` meets its contract. Assumes nothing.
use borrow.Author.Rules.{rules}
use Rattle.accounts.proofs.Ordered.{next_account_lem}
use Rattle.accounts.proofs.next_account.Statement.{statement}
use Rattle.accounts.proofs.next_account.Tie as tie

returns : tie.Need-returns
returns c = let s = c.before.before in next_account_lem s.args.accounts.now s.requires.0 s.args.from c.next_key.result c.next_key.ensures

pub next_account_spec : {M : Type 1} → statement M
next_account_spec = tie.close (tie.spec (λ c κs. search rules) returns)
