-- Records to a table and back, and a table to records and back (RULES 16).
use Rattle.std.specs.Prelude.{ℕ, true, List, [], ◌∷◌, ◌≡◌, Ok, Err}
use Rattle.bits.specs.Bits.{Octets}
use Rattle.rulebook.specs.Record.{read_of}
use Rattle.rulebook.specs.declared.Order.{Order}
use Rattle.rulebook.specs.declared.Refusal.{Refusal}
use Rattle.file.specs.Records as File
use Rattle.table.specs.Lines.{records_of}
use Rattle.table.specs.Lines.Imported.{orders}
use Rattle.table.specs.Import.{import_of, is_refused}
use Rattle.table.specs.Export.{table_of}
use Rattle.table_lines.specs.Exported.{exported}

-- each record reads, and these are the orders
pub data EachReads : List (List ℕ) → List Order → Type 0 where
  none : EachReads [] []
  one : {octets : List ℕ} {records : List (List ℕ)} {order : Order} {all : List Order}
      → read_of octets ≡ Ok order → EachReads records all → EachReads (octets ∷ records) (order ∷ all)

-- a record file whose records read is exported as the canonical table of its orders, and import makes the same bytes of that
unfoldable pub SameBytes : Type 0
SameBytes = (file : List ℕ) (all : List Order) → Octets file → EachReads (File.records_of file) all
    → (exported file ≡ table_of all) × (import_of (exported file) ≡ orders all) × (records_of all ≡ file)

-- the records that import makes of a table are exported as the canonical table of its orders, and import makes the same orders of that
unfoldable pub CanonicalTable : Type 0
CanonicalTable = (table : List ℕ) (all : List Order) → import_of table ≡ orders all
    → (exported (records_of all) ≡ table_of all) × (import_of (table_of all) ≡ orders all)

-- some record does not read
pub data SomeUnreadable : List (List ℕ) → Type 0 where
  here : {octets : List ℕ} {records : List (List ℕ)} (refusal : Refusal) → read_of octets ≡ Err refusal → SomeUnreadable (octets ∷ records)
  later : {octets : List ℕ} {records : List (List ℕ)} → SomeUnreadable records → SomeUnreadable (octets ∷ records)

-- what is exported of a file with such a record is refused by import
unfoldable pub UnreadableRefused : Type 0
UnreadableRefused = (file : List ℕ) → SomeUnreadable (File.records_of file) → is_refused (import_of (exported file)) ≡ true

-- all three hold
pub record Theorems : Type 0 where
  pub same_bytes : SameBytes
  pub canonical_table : CanonicalTable
  pub unreadable_refused : UnreadableRefused
