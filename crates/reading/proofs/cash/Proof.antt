-- `reading::cash` meets its contract: no other member or currency has cash. Assumes nothing.
use mathlib.Core.Path.{sym, ◌∙◌}
use borrow.Author.Rules.{rules}
use Rattle.cash.specs.Amounts.{amount_of}
use Rattle.cash.proofs.StoredCash.{fits_kept}
use Rattle.book.specs.Meaning.{holdings_of}
use Rattle.reading.proofs.cash.Statement.{statement}
use Rattle.reading.proofs.cash.Tie as tie

pub cash_spec : {M : Type 1} → statement M
cash_spec =
    tie.close
    (tie.spec
    (λ c κs. search rules)
    (λ c κs. (c.before.before.before.requires.stored, fits_kept _ _ (sym c.before.is_kept.ensures ∙ c.if-is_kept.true)))
    (λ c. search rules)
    (λ c. unfold holdings_of amount_of in rw (sym c.before.is_kept.ensures ∙ c.if-is_kept.false)))
