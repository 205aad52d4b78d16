-- `import_lines::put_reason` meets its contract. Assumes nothing.
use Rattle.std.proofs.Common.{◌≡◌, ℕ, List, Bor, sym, ap, ◌∙◌}
use Rattle.import_lines.specs.Told.{reason}
use Rattle.import_lines.proofs.put_reason.Goals as goal
use Rattle.import_lines.proofs.put_reason.Goals.{in-NoHeader, in-TooManyColumns, in-UnknownName, in-RepeatedName, in-FormMissing, in-MinuteMissing}
use Rattle.import_lines.proofs.put_reason.Goals.{in-TooFewCells, in-TooManyCells, in-EmptyCell, in-NotANumber, in-TooLarge, in-Quoted}
use Rattle.import_lines.proofs.put_reason.Goals.{in-UnknownForm, in-EmptyLine, in-LongLine}

pub returns-in-Record-clause-put : goal.returns-in-Record-clause-put
unfolding reason
returns-in-Record-clause-put g c = rw c.in-Record.is c.put_filled.ensures.put

pub returns-clause-put : goal.returns-clause-put
unfolding reason
returns-clause-put g c =
    let same : c.match-kind.sentence.now ≡ reason c.args.kind =
    elim c.match-kind.branch [
      | in-NoHeader w ↦ ap (λ (b : Bor (List ℕ)). b.now) w.sentence-is ∙ ap reason (sym w.in-NoHeader.is)
      | in-TooManyColumns w ↦ ap (λ (b : Bor (List ℕ)). b.now) w.sentence-is ∙ ap reason (sym w.in-TooManyColumns.is)
      | in-UnknownName w ↦ ap (λ (b : Bor (List ℕ)). b.now) w.sentence-is ∙ ap reason (sym w.in-UnknownName.is)
      | in-RepeatedName w ↦ ap (λ (b : Bor (List ℕ)). b.now) w.sentence-is ∙ ap reason (sym w.in-RepeatedName.is)
      | in-FormMissing w ↦ ap (λ (b : Bor (List ℕ)). b.now) w.sentence-is ∙ ap reason (sym w.in-FormMissing.is)
      | in-MinuteMissing w ↦ ap (λ (b : Bor (List ℕ)). b.now) w.sentence-is ∙ ap reason (sym w.in-MinuteMissing.is)
      | in-TooFewCells w ↦ ap (λ (b : Bor (List ℕ)). b.now) w.sentence-is ∙ ap reason (sym w.in-TooFewCells.is)
      | in-TooManyCells w ↦ ap (λ (b : Bor (List ℕ)). b.now) w.sentence-is ∙ ap reason (sym w.in-TooManyCells.is)
      | in-EmptyCell w ↦ ap (λ (b : Bor (List ℕ)). b.now) w.sentence-is ∙ ap reason (sym w.in-EmptyCell.is)
      | in-NotANumber w ↦ ap (λ (b : Bor (List ℕ)). b.now) w.sentence-is ∙ ap reason (sym w.in-NotANumber.is)
      | in-TooLarge w ↦ ap (λ (b : Bor (List ℕ)). b.now) w.sentence-is ∙ ap reason (sym w.in-TooLarge.is)
      | in-Quoted w ↦ ap (λ (b : Bor (List ℕ)). b.now) w.sentence-is ∙ ap reason (sym w.in-Quoted.is)
      | in-UnknownForm w ↦ ap (λ (b : Bor (List ℕ)). b.now) w.sentence-is ∙ ap reason (sym w.in-UnknownForm.is)
      | in-EmptyLine w ↦ ap (λ (b : Bor (List ℕ)). b.now) w.sentence-is ∙ ap reason (sym w.in-EmptyLine.is)
      | in-LongLine w ↦ ap (λ (b : Bor (List ℕ)). b.now) w.sentence-is ∙ ap reason (sym w.in-LongLine.is)
    ]
    in
    rw (← same) c.put.ensures
