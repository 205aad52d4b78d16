-- `reading::security_at` meets its contract. Assumes nothing.
use mathlib.Core.Path.{◌≡◌, sym, subst}
use borrow.Author.Rules.{rules}
use Rattle.rulebook.specs.Ledger.{held}
use Rattle.rulebook.specs.declared.Security.{Security}
use Rattle.rulebook.proofs.Bounds.{each_held}
use Rattle.rulebook.proofs.ByIndex.{each_at}
use Rattle.book.specs.Meaning.{ledger_of}
use Rattle.reading.proofs.security_at.Statement.{statement}
use Rattle.reading.proofs.security_at.Tie as tie

returns : tie.Need-returns
returns c =
    let s = c.before.before in
    let b = ledger_of s.args.book.now in
    let found : Security = c.security_at.result in
    let sums = each_at (λ x. x.held.0 ≡ held x.code b.holdings) b.holdings.securities s.args.i found (each_held b s.requires.0.premise) s.requires.1 in
    (c.security_at.ensures, subst (λ (x : Security). x.held.0 ≡ held x.code b.holdings) (sym (c.security_at.ensures found)) sums)

pub security_at_spec : {M : Type 1} → statement M
security_at_spec = tie.close (tie.spec (λ c κs. search rules) returns)
