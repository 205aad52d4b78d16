-- What is printed as held is what the accounts hold, after every record file. Assumes nothing.
use mathlib.Core.List.{List, [], ◌∷◌, map}
use mathlib.Core.Path.{◌≡◌, refl, ap}
use Prim.Native.Nat.{ℕ}
use Rattle.plain.specs.Lists.{Each}
use Rattle.rulebook.specs.Ledger.{Ledger, Holdings, fresh, with_held, held}
use Rattle.rulebook.specs.Call.{call_of}
use Rattle.rulebook.specs.Calls.{call, result_of}
use Rattle.rulebook.specs.Premise.{Premise}
use Rattle.rulebook.specs.declared.Security.{Security}
use Rattle.rulebook.proofs.Bounds.{each_held}
use Rattle.rulebook.proofs.EveryCall.{fresh-premise, call_premise}
use Rattle.file.specs.Records.{records_of}
use Rattle.printing.specs.Printed.{book_after, custody_from, custody_lines}
use Rattle.printing.specs.HeldPrinted.{added_up, HeldPrinted}

-- what every call keeps holds after all of them
premise_after : (book : Ledger) (area : List ℕ) (records : List (List ℕ)) → Premise book → Premise (book_after book area records)
unfolding book_after result_of
premise_after book area [] p = p
premise_after book area (octets ∷ rest) p =
    premise_after (call_of book octets area).book (call_of book octets area).area rest (call_premise book (call octets area) p)

same_counts : (h : Holdings) (xs : List Security) → Each (λ s. s.held.0 ≡ held s.code h) xs → xs ≡ map (λ s. with_held (held s.code h) s) xs
same_counts h [] e = refl
same_counts h (x ∷ rest) e = λ i. record { code = x.code; issued = x.issued; outside = x.outside; held = record { 0 = e.0 i } } ∷ same_counts h rest e.1 i

pub held-printed : HeldPrinted
unfolding HeldPrinted custody_lines added_up
held-printed area file =
    let b : Ledger = book_after fresh area (records_of file) in
    ap custody_from (same_counts b.holdings b.holdings.securities (each_held b (premise_after fresh area (records_of file) fresh-premise)))
