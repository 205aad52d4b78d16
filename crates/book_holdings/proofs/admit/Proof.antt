-- `book_holdings::admit` meets its contract. Assumes nothing.
use mathlib.Core.Path.{ap}
use mathlib.Core.List.{List}
use native.Mathlib.Omega.{arith}
use borrow.Author.Rules.{rules}
use Rattle.rulebook.specs.Ledger.{put_securities, admitted}
use Rattle.rulebook.specs.declared.Security.{Security}
use Rattle.securities.proofs.StoredSecurities.{how_many}
use Rattle.book.specs.Meaning.{SECURITIES, part, holdings_of}
use Rattle.book.proofs.Parts.{securities_step}
use Rattle.book_holdings.proofs.admit.Statement.{statement}
use Rattle.book_holdings.proofs.admit.Tie as tie

admit-requires : tie.Need-admit-requires
unfolding holdings_of admitted
admit-requires c κs =
    let s = c.before.before in (s.requires.0.parts.securities, omega (arith, how_many (part SECURITIES s.args.book.now), s.requires.1), λ h. s.requires.2)

returns : tie.Need-returns
unfolding holdings_of put_securities
returns c =
    let s = c.before.before.before.before.before in
    let e = c.before.before.admit.ensures in
    securities_step s.args.book.now s.requires.0 _ _ e.0 (ap (λ (l : List Security). put_securities l (holdings_of s.args.book.now)) e.1)

pub admit_spec : {M : Type 1} → statement M
admit_spec = tie.close (tie.spec (λ c. search rules) (λ c. search rules) (λ c. search rules) admit-requires (λ c. search rules) returns)
