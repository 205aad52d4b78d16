-- The sums so far with what is left are the whole.
use Rattle.book.specs.Meaning.{ledger_of}
use Rattle.room_tests.specs.Offered.{takes_from, brings_to}
use Rattle.room_tests.proofs.Offered.{Summed}
use Rattle.room_tests.proofs.offers.fixed_flows.Given as goal

abbrev pub invariant-loop-i : goal.invariant-loop-i
invariant-loop-i l =
    let waiting = (ledger_of l.book).waiting in
    Summed (takes_from l.account) waiting l.i l.taken × Summed (brings_to l.account) waiting l.i l.brought
