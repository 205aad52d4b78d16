-- `reading::request` meets its contract: what no record can name is not open. Assumes nothing.
use mathlib.Core.Path.{sym, ◌∙◌}
use borrow.Author.Rules.{rules}
use Rattle.requests.specs.Map.{asked_of}
use Rattle.requests.proofs.Packed.{range_holds}
use Rattle.book.specs.Meaning.{requests_of}
use Rattle.reading.proofs.request.Statement.{statement}
use Rattle.reading.proofs.request.Tie as tie

pub request_spec : {M : Type 1} → statement M
request_spec =
    tie.close
    (tie.spec
    (λ c κs. search rules)
    (λ c κs. let named = range_holds _ _ (sym c.before.is_named.ensures ∙ c.if-is_named.true) in search rules)
    (λ c. search rules)
    (λ c. unfold requests_of asked_of in rw (sym c.before.is_named.ensures ∙ c.if-is_named.false)))
