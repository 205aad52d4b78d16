-- `layout::fields_in` meets its contract: field by field. Assumes nothing.
use mathlib.Core.List.{[], ◌∷◌}
use borrow.Author.Rules.{rules}
use Rattle.rulebook.specs.Field.{widths}
use Rattle.rulebook.specs.Record.{fields_in}
use Rattle.layout.proofs.fields_in.Statement.{statement}
use Rattle.layout.proofs.fields_in.Tie as tie

-- the start, after six fields and after twelve
abbrev six : tie.After-get_bits-6 → tie.After-shared_slice_known-1
six c = c.before.before.before.before.before.before

abbrev twelve : tie.After-get_bits-12 → tie.Start
twelve c = (six c.before.before.before.before.before.before).before

returns : tie.Need-returns
unfolding fields_in widths
returns c = λ i.
    let middle = c.before.before.before.before.before.before in
    let first = middle.before.before.before.before.before.before in
    first.before.before.before.before.before.before.get_bits.ensures i
    ∷ first.before.before.before.before.before.get_bits-2.ensures i
    ∷ first.before.before.before.before.get_bits-3.ensures i
    ∷ first.before.before.before.get_bits-4.ensures i
    ∷ first.before.before.get_bits-5.ensures i
    ∷ first.before.get_bits-6.ensures i
    ∷ first.get_bits-7.ensures i
    ∷ middle.before.before.before.before.before.get_bits-8.ensures i
    ∷ middle.before.before.before.before.get_bits-9.ensures i
    ∷ middle.before.before.before.get_bits-10.ensures i
    ∷ middle.before.before.get_bits-11.ensures i
    ∷ middle.before.get_bits-12.ensures i
    ∷ middle.get_bits-13.ensures i
    ∷ c.before.before.before.before.before.get_bits-14.ensures i
    ∷ c.before.before.before.before.get_bits-15.ensures i
    ∷ c.before.before.before.get_bits-16.ensures i
    ∷ c.before.before.get_bits-17.ensures i
    ∷ c.before.get_bits-18.ensures i
    ∷ c.get_bits-19.ensures i
    ∷ []

pub fields_in_spec : {M : Type 1} → statement M
fields_in_spec =
    tie.close
    (tie.spec
    (λ c κs. search rules)
    (λ c κs. search rules)
    (λ c κs. search rules)
    (λ c κs. search rules)
    (λ c κs. search rules)
    (λ c κs. search rules)
    (λ c κs. search rules)
    (λ c κs. search rules)
    (λ c κs. search rules)
    (λ c κs. search rules)
    (λ c κs. search rules)
    (λ c κs. search rules)
    (λ c κs. search rules)
    (λ c κs. search rules)
    (λ c κs. search rules)
    (λ c κs. search rules)
    (λ c κs. search (rules, (twelve c.before.before.before.before).requires))
    (λ c κs. search (rules, (twelve c.before.before.before.before.before).requires))
    (λ c κs. search (rules, (twelve c.before.before.before.before.before.before).requires))
    returns)
