-- `answer::decline_cycle` meets its contract. Assumes nothing.
use borrow.Author.Rules.{rules}
use Rattle.rulebook.specs.Forms.{decline}
use Rattle.book.specs.Meaning.{ledger_of}
use Rattle.book.proofs.Handled.{silent-handled}
use Rattle.answer.proofs.Whole.{let_go}
use Rattle.answer.proofs.decline_cycle.Statement.{statement}
use Rattle.answer.proofs.decline_cycle.Tie as tie

-- ---- places

abbrev entry : tie.After-fix → tie.Start
entry c = c.before.before.before

abbrev freed : tie.After-put_answered → tie.After-fix
freed c = c.before.before.before.before

returns : tie.Need-returns
unfolding decline
returns c =
    let o = c.before.before.before in
    let f = freed o in
    silent-handled _ _ _ (let_go (ledger_of (entry f).args.book.now) _ f.fix.ensures _ o.put_answered.ensures) c.no_counts.ensures

pub decline_cycle_spec : {M : Type 1} → statement M
decline_cycle_spec =
    tie.close
    (tie.spec (λ c κs. let s = c.before.before in (s.requires.stored, s.requires.premise.sizes.items))
    (λ c κs. c.before.before.before.fix.ensures.stored) (λ c κs. search rules) (λ c. search rules) returns)
