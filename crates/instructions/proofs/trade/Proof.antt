-- `instructions::trade` meets its contract. Assumes nothing.
use mathlib.Core.Path.{ap}
use mathlib.Core.List.{[], ◌∷◌, ◌++◌}
use borrow.Author.Rules.{rules}
use Rattle.rulebook.specs.Ledger.{put_waiting}
use Rattle.rulebook.specs.Forms.{trade}
use Rattle.rulebook.specs.declared.Item.{Item}
use Rattle.book.specs.Meaning.{ledger_of}
use Rattle.book.proofs.Handled.{silent-handled, means_so}
use Rattle.instructions.proofs.Roomy.{trade-room}
use Rattle.instructions.proofs.trade.Statement.{statement}
use Rattle.instructions.proofs.trade.Tie as tie

abbrev start : tie.After-item_of → tie.Start
start c = c.before.before.before

push-requires : tie.Need-push-requires
push-requires c κs = let s = start c in (s.requires.0.kept.stored, trade-room s.requires.0 s.requires.1)

returns : tie.Need-returns
unfolding trade
returns c =
    let pushed = c.before.before.before in
    let made = pushed.before in
    let b = ledger_of (start made).args.book.now in
    silent-handled _ _ _
    (means_so _ _ _ pushed.push.ensures (ap (λ (i : Item). put_waiting (b.waiting ++ (i ∷ [])) b) made.item_of.ensures))
    c.no_counts.ensures

pub trade_spec : {M : Type 1} → statement M
trade_spec = tie.close (tie.spec (λ c κs. search rules) push-requires (λ c κs. search rules) (λ c. search rules) returns)
