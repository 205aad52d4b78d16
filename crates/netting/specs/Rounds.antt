-- The rounds of a selection, by marks on the waiting list.
use Rattle.std.specs.Prelude.{if◌then◌else◌, ℕ, zero, suc, Bool, false, ◌&&◌, List, [], ◌∷◌}
use Rattle.plain.specs.Lists.{some}
use Rattle.rulebook.specs.Ledger.{Holdings}
use Rattle.rulebook.specs.Shortfall.{debits_short, any_short}
use Rattle.rulebook.specs.Selection.{Entry, is_taken}
use Rattle.rulebook.specs.Selected.{spot}
use Rattle.rulebook.specs.declared.Item.{Item}
use Rattle.marks.specs.Marks.{Marked, with_mark}

-- an entry by its mark: it is in
abbrev pub mark_of : Entry → Marked
mark_of e = (is_taken e.standing, e.item)

-- and by the mark of what is due: it is in or left
abbrev pub due_mark : Entry → Marked
due_mark e = ((spot e).is_due, e.item)

-- without the mark of the last marked item that passes a test
unfoldable pub unmark_last : (Item → Bool) → List Marked → List Marked
unmark_last test [] = []
unmark_last test (m ∷ rest) =
    let later = m ∷ unmark_last test rest in
    if some (λ l. l.0 && test l.1) rest then later
    else if m.0 && test m.1 then (false, m.1) ∷ rest
    else m ∷ rest

-- each round takes one mark, while something is short
unfoldable pub mark_rounds : ℕ → Holdings → List Marked → List Marked
mark_rounds zero h marked = marked
mark_rounds (suc more) h marked =
    let next = mark_rounds more h (unmark_last (debits_short h (with_mark marked)) marked) in
    if any_short h (with_mark marked) then next else marked
