-- What is selected is what the book's ledger selects.
use Rattle.book.specs.Meaning.{ledger_of}
use Rattle.netting.proofs.select.Given as goal

abbrev pub ghost-selected_marks : goal.ghost-selected_marks
ghost-selected_marks a = ledger_of a.book.now
