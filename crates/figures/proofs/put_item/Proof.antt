-- `figures::put_item` meets its contract. Assumes nothing.
use mathlib.Core.Path.{◌∙◌}
use borrow.Author.Rules.{rules}
use Rattle.figures.specs.Figures.{figures_with}
use Rattle.words.proofs.Places.{whole}
use Rattle.figures.proofs.put_item.Statement.{statement}
use Rattle.figures.proofs.put_item.Tie as tie

returns : tie.Need-returns
returns c =
    let write = c.before.before in
    let sent = write.before.before.before in
    let state = sent.before in
    let s = state.before.before in
    write.write.ensures ∙ whole s.args.values.now _ 18 s.requires
    ∙ (λ i. figures_with s.args.item (state.state_figures-s.ensures i) (sent.bit_of-sent.ensures.0 i))

pub put_item_spec : {M : Type 1} → statement M
put_item_spec = tie.close (tie.spec (λ c κs. search rules) (λ c κs. search rules) (λ c. search rules) (λ c κs. search rules) (λ c. search rules) returns)
