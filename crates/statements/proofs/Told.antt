-- A statement tells the rows of the rulebook's effects, of every record file. Assumes nothing.
use Prim.Native.Nat.{ℕ, ◌+◌}
use mathlib.Core.List.{List, [], ◌∷◌}
use mathlib.Core.Path.{◌≡◌, refl}
use Rattle.rulebook.specs.Call.{Result, call_of}
use Rattle.rulebook.specs.Calls.{call, result_of}
use Rattle.rulebook.specs.Ledger.{Ledger, fresh}
use Rattle.rulebook.specs.Premise.{Premise}
use Rattle.rulebook.proofs.EveryCall.{fresh-premise, call_premise}
use Rattle.file.specs.Records.{records_of}
use Rattle.statements.specs.Stated.{statement_lines}
use Rattle.statements.specs.Told.{told_lines, Told}
use Rattle.statements.proofs.Results.{call_told}

lines_told : (number : ℕ) (book : Ledger) (area : List ℕ) (records : List (List ℕ)) → Premise book
    → statement_lines number book area records ≡ told_lines number book area records
unfolding statement_lines told_lines result_of
lines_told number book area [] p = refl
lines_told number book area (octets ∷ rest) p =
    let result : Result = call_of book octets area in
    rw (call_told book octets area p number, lines_told (number + 1) result.book result.area rest (call_premise book (call octets area) p))

pub told : Told
unfolding Told
told number area file = lines_told number fresh area (records_of file) fresh-premise
