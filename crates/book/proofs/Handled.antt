-- A form that writes no row, and a book that means an equal ledger. Assumes nothing.
use Prim.Native.Nat.{ℕ}
use mathlib.Core.List.{List}
use mathlib.Core.Path.{◌≡◌, refl, ◌∙◌}
use Rattle.rulebook.specs.Ledger.{Ledger}
use Rattle.rulebook.specs.Rows.{rows_bytes}
use Rattle.rulebook.specs.Forms.{counts, outcome, silent}
use Rattle.rulebook.specs.declared.Counts.{Counts}
use Rattle.book.specs.Stored.{Means}
use Rattle.book.specs.Handled.{Handled}

pub silent-handled : (b : Ledger) (book : List ℕ) (r : Counts) → Means book b → r ≡ counts 0 0 0 0 0 0 → (area : List ℕ) → Handled (silent b) book area area r
unfolding silent outcome rows_bytes
silent-handled b book r m e area = record { stored = m.stored; ledger = m.ledger; counted = e; written = refl }

pub means_so : (book : List ℕ) (b c : Ledger) → Means book b → b ≡ c → Means book c
means_so book b c m e = record { stored = m.stored; ledger = m.ledger ∙ e }
