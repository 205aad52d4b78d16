-- `waiting_list::is_sent` meets its contract. Assumes nothing.
use borrow.Author.Rules.{rules}
use Rattle.waiting_list.proofs.Sent.{is_sent_lem}
use Rattle.waiting_list.proofs.is_sent.Statement.{statement}
use Rattle.waiting_list.proofs.is_sent.Tie as tie

returns : tie.Need-returns
returns c = let s = c.before in is_sent_lem s.args.items.now s.args.i s.requires.1

pub is_sent_spec : {M : Type 1} → statement M
is_sent_spec = tie.close (tie.spec (λ c. search rules) (λ c. search rules) (λ c. search rules) (λ c. search rules) returns)
