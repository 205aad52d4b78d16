-- The bytes of rows behind one another. Assumes nothing.
use Prim.Native.Nat.{ℕ, ◌*◌}
use native.Mathlib.Omega.{arith}
use mathlib.Core.List.{List, [], ◌∷◌, ◌++◌, append_assoc}
use mathlib.Core.Path.{◌≡◌, refl, ap, sym, ◌∙◌}
use lib.ListN.{length, length-append}
use Rattle.bits.proofs.Numbers.{length_bytes}
use Rattle.rulebook.specs.Rows.{Row, posting, notice, notice_bytes, row_bytes, rows_bytes}
use Rattle.rows.proofs.Area.{posting_length}

row-length : (row : Row) → length (row_bytes row) ≡ 16
unfolding row_bytes notice_bytes
row-length (posting p) = posting_length p
row-length (notice n) = length_bytes 16 _

pub rows-length : (rows : List Row) → length (rows_bytes rows) ≡ 16 * length rows
unfolding rows_bytes
rows-length [] = refl
rows-length (row ∷ rest) = simp length-append (omega (arith, row-length row, rows-length rest))

pub rows_append : (xs ys : List Row) → rows_bytes (xs ++ ys) ≡ rows_bytes xs ++ rows_bytes ys
unfolding rows_bytes
rows_append [] ys = refl
rows_append (x ∷ rest) ys = ap (λ (l : List ℕ). row_bytes x ++ l) (rows_append rest ys) ∙ sym (append_assoc (row_bytes x) (rows_bytes rest) (rows_bytes ys))
