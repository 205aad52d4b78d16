-- The theorems of specs/RoundTrips. Assumes nothing.
use Rattle.table.proofs.Exporting.{export_imports, import_exports}
use mathlib.Core.Path.{ap, ◌∙◌}
use Rattle.table.specs.Theorems.{ExportImports, ImportExports}
use Rattle.table.specs.Import.{import_of}
use Rattle.table.specs.Lines.{records_of}
use Rattle.round_trip.specs.RoundTrips.{SameBytes, CanonicalTable, Theorems}
use Rattle.round_trip.proofs.Tables.{table_same}
use Rattle.round_trip.proofs.Unreadable.{unreadable_refused_lem}
use Rattle.round_trip.proofs.Files.{orders_read, reads_writable, same_bytes}

same_bytes_again : SameBytes
unfolding SameBytes ExportImports
same_bytes_again file all octets each =
    let same = table_same file all each in
    (same, ap import_of same ∙ export_imports all (reads_writable each), same_bytes file all octets each)

canonical_table_lem : CanonicalTable
unfolding CanonicalTable ImportExports
canonical_table_lem table all e =
    let back = import_exports table all e in
    (table_same (records_of all) all (orders_read all back.1), back.2)

pub theorems : Theorems
theorems = record { same_bytes = same_bytes_again; canonical_table = canonical_table_lem; unreadable_refused = unreadable_refused_lem }
