-- `book_holdings::enter_custody` meets its contract. Assumes nothing.
use borrow.Author.Rules.{rules}
use Rattle.rulebook.specs.Ledger.{outside_of, held_of}
use Rattle.book.specs.Meaning.{holdings_of}
use Rattle.book.proofs.Parts.{securities_step}
use Rattle.book_holdings.proofs.enter_custody.Statement.{statement}
use Rattle.book_holdings.proofs.enter_custody.Tie as tie

enter-custody-requires : tie.Need-enter_custody-requires
unfolding holdings_of outside_of held_of
enter-custody-requires c κs = let s = c.before.before in (s.requires.0.parts.securities, (λ h. s.requires.1), λ h. s.requires.2)

returns : tie.Need-returns
unfolding holdings_of
returns c =
    let s = c.before.before.before.before.before in
    let e = c.before.before.enter_custody.ensures in
    securities_step s.args.book.now s.requires.0 _ _ e.0 (e.1 (holdings_of s.args.book.now))

pub enter_custody_spec : {M : Type 1} → statement M
enter_custody_spec = tie.close (tie.spec (λ c. search rules) (λ c. search rules) (λ c. search rules) enter-custody-requires (λ c. search rules) returns)
