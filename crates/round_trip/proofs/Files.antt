-- A record file is its records, one behind the other, and the records of orders make such a file. Assumes nothing.
use Rattle.std.specs.Prelude.{Ok}
use Prim.Native.Nat.{ℕ, zero, suc, ◌+◌, ◌<◌}
use native.Mathlib.Omega.{arith}
use mathlib.Core.List.{List, [], ◌∷◌, ◌++◌, map}
use mathlib.Core.Path.{◌≡◌, refl, ap, ◌∙◌}
use lib.ListN.{length, replicate, take, drop, length-append, take-append-drop}
use lib.Dec.{lit<, lit≤}
use lib.Seq.{take_at, drop-append-add, get_or-drop}
use Rattle.bits.specs.Bits.{Octets}
use Rattle.rulebook.specs.Record.{read_of, record_of, write_refusal}
use Rattle.rulebook.specs.declared.Order.{Order}
use Rattle.rulebook.proofs.RoundTrips.{read-write, read_writable}
use Rattle.file.specs.Records as File
use Rattle.file.proofs.Walking.{no_records, first-record}
use Rattle.table.specs.Lines.{records_of}
use Rattle.table.specs.Export.{Writable}
use Rattle.table.proofs.Walking.{record_long}
use Rattle.round_trip.specs.RoundTrips.{EachReads}
use Rattle.round_trip.specs.RoundTrips.EachReads.{none, one}

-- ---- the file of orders

-- its records are those of the orders
file_records : (all : List Order) → File.records_of (records_of all) ≡ map record_of all
unfolding records_of
file_records [] = no_records [] refl
file_records (order ∷ all) =
    let long = record_long order in
    let some : 0 < length (record_of order ++ records_of all) = omega (arith, length-append (record_of order) (records_of all)) in
    let front : take 40 (record_of order ++ records_of all) ≡ record_of order = take_at (record_of order) (records_of all) 40 long in
    let forty : 40 ≡ length (record_of order) + 0 = omega arith in
    let rest : drop 40 (record_of order ++ records_of all) ≡ records_of all =
    ap (λ (n : ℕ). drop n (record_of order ++ records_of all)) forty ∙ drop-append-add (record_of order) (records_of all) 0
    in
    first-record (record_of order ++ records_of all) some ∙ rw (front, rest, file_records all)

each_reads : (all : List Order) → map (λ order. read_of (record_of order)) all ≡ map Ok all → EachReads (map record_of all) all
each_reads [] e = none
each_reads (order ∷ all) e = one (head e) (each_reads all (tail e))
  where
    head : map (λ order. read_of (record_of order)) (order ∷ all) ≡ map Ok (order ∷ all) → read_of (record_of order) ≡ Ok order
    head e = cc

    tail : map (λ order. read_of (record_of order)) (order ∷ all) ≡ map Ok (order ∷ all)
        → map (λ order. read_of (record_of order)) all ≡ map Ok all
    tail e = cc

pub orders_read : (all : List Order) → map (λ order. read_of (record_of order)) all ≡ map Ok all → EachReads (File.records_of (records_of all)) all
orders_read all e = rw (file_records all) (each_reads all e)

-- ---- a file whose records read

octets_take : (n : ℕ) (file : List ℕ) → Octets file → Octets (take n file)
octets_take zero file h i = lit< tt
octets_take (suc n) [] h i = lit< tt
octets_take (suc n) (b ∷ file) h zero = h 0
octets_take (suc n) (b ∷ file) h (suc i) = octets_take n file (λ j. h (suc j)) i

octets_drop : (n : ℕ) (file : List ℕ) → Octets file → Octets (drop n file)
octets_drop n file h i = rw (get_or-drop n file i 0) (h (n + i))

-- the records that read, one behind the other, are the file
joined-again :
    {records : List (List ℕ)} {all : List Order} → EachReads records all → (file : List ℕ) → records ≡ File.records_of file → Octets file
    → records_of all ≡ file
unfolding records_of
joined-again none [] e h = refl
joined-again none (b ∷ file) e h = absurd (omega (arith, ap length (e ∙ first-record (b ∷ file) (omega arith))))
joined-again (one read rest) [] e h = absurd (omega (arith, ap length (e ∙ no_records [] refl)))
joined-again (one {octets} {records} {order} {all} read rest) (b ∷ file) e h =
    let parts : octets ∷ records ≡ take 40 (b ∷ file) ∷ File.records_of (drop 40 (b ∷ file)) = e ∙ first-record (b ∷ file) (omega arith) in
    let first : octets ≡ take 40 (b ∷ file) = cc in
    let others : records ≡ File.records_of (drop 40 (b ∷ file)) = cc in
    let here : record_of order ≡ take 40 (b ∷ file) =
    read-write (take 40 (b ∷ file)) order (octets_take 40 (b ∷ file) h) (rw (← first) read)
    in
    rw (here, joined-again rest (drop 40 (b ∷ file)) others (octets_drop 40 (b ∷ file) h)) (take-append-drop 40 (b ∷ file))

pub same_bytes : (file : List ℕ) (all : List Order) → Octets file → EachReads (File.records_of file) all → records_of all ≡ file
same_bytes file all h each = joined-again each file refl h

-- orders that were read are such as the record writer takes
pub reads_writable : {records : List (List ℕ)} {all : List Order} → EachReads records all → Writable all
unfolding Writable write_refusal
reads_writable none = tt
reads_writable (one {octets} {order = order} read rest) = (read_writable octets order (replicate 40 0) read (lit≤ tt), reads_writable rest)
