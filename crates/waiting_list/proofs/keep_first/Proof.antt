-- `waiting_list::keep_first` meets its contract. Assumes nothing.
use borrow.Author.Rules.{rules}
use Rattle.waiting_list.proofs.StoredItems.{cut_down}
use Rattle.waiting_list.proofs.keep_first.Statement.{statement}
use Rattle.waiting_list.proofs.keep_first.Tie as tie

returns : tie.Need-returns
returns c = cut_down c.args.items.now c.args.n c.requires.0 c.requires.1

pub keep_first_spec : {M : Type 1} → statement M
keep_first_spec = tie.close (tie.spec (λ c. search rules) (λ c. search rules) returns)
