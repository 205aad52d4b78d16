-- `figures::put_day` meets its contract. Assumes nothing.
use mathlib.Core.Path.{◌∙◌}
use mathlib.Core.List.{[], ◌∷◌}
use borrow.Author.Rules.{rules}
use Rattle.words.proofs.Places.{whole}
use Rattle.figures.proofs.put_day.Statement.{statement}
use Rattle.figures.proofs.put_day.Tie as tie

returns : tie.Need-returns
returns c =
    let write = c.before.before in
    let sent = write.before.before.before in
    let opened = sent.before in
    let s = opened.before.before in
    let day = s.args.day in
    write.write.ensures ∙ whole s.args.values.now _ 6 s.requires
    ∙ (λ i. day.number ∷ opened.bit_of-opened.ensures.0 i ∷ day.kind ∷ day.cycles ∷ day.minute ∷ sent.bit_of-sent.ensures.0 i ∷ [])

pub put_day_spec : {M : Type 1} → statement M
put_day_spec = tie.close (tie.spec (λ c κs. search rules) (λ c κs. search rules) (λ c. search rules) (λ c κs. search rules) (λ c. search rules) returns)
