-- Rows that are written are read back, and posting rows count for the places of their movements. Assumes nothing.
use Rattle.std.specs.Prelude.{if◌then◌else◌}
use mathlib.Core.Path.{◌≡◌, refl, ap, ap₂, ◌∙◌}
use mathlib.Core.Bool.{false, ◌&&◌, ◌||◌}
use mathlib.Core.List.{List, [], ◌∷◌, ◌++◌, append_assoc, append-nil}
use Prim.Native.Nat.{ℕ, suc, ◌^◌, ◌≤◌, ◌<◌}
use native.Mathlib.Omega.{arith}
use borrow.Author.Tests.{ne_eqb}
use lib.Dec.{lit<}
use lib.ListN.{length}
use lib.Seq.{take_at, drop_at}
use Rattle.plain.proofs.Tests.{neither}
use Rattle.plain.specs.Lists.{◌is◌, ◌one_of◌, total}
use Rattle.bits.specs.Layout.{pack, cut, Fit}
use Rattle.bits.proofs.Numbers.{length_bytes}
use Rattle.bits.proofs.Packing.{values_back}
use Rattle.rulebook.specs.Ledger.{same_account}
use Rattle.rulebook.specs.Movements.{Place, account, type91, type90, cash_of, member0, Movement}
use Rattle.rulebook.specs.Rows.{posting_widths, notice_widths, posting_bytes, notice_bytes, posting_in, notice_in, posting_of, posting_rows, row_bytes, rows_bytes}
use Rattle.rulebook.specs.declared.Posting.{Posting}
use Rattle.rulebook.specs.declared.Notice.{Notice}
use Rattle.rulebook.specs.Calls.{first_rows, names}
use Rattle.rulebook.proofs.Places.{is_at, brought, taken}

-- a posting's fields, and that they fit a row
abbrev pub columns : Posting → List ℕ
columns p = p.credit ∷ p.cash ∷ p.what ∷ p.member ∷ p.typ ∷ p.shareholder ∷ p.number ∷ []

abbrev pub RowFits : Posting → Type 0
RowFits p = Fit posting_widths (columns p)

row-length : (p : Posting) → length (posting_bytes p) ≡ 16
unfolding posting_bytes
row-length p = length_bytes 16 (pack 0 posting_widths (columns p))

columns_back : (p : Posting) → RowFits p → cut (posting_bytes p) 0 posting_widths ≡ columns p
unfolding posting_bytes posting_widths
columns_back p f =
    rw (append-nil (posting_bytes p)) at (values_back 16 posting_widths (columns p) [] (λ i. lit< tt) refl f)

pub posting_back : (p : Posting) → RowFits p → posting_in (posting_bytes p) ≡ p
unfolding posting_in
posting_back p f = rw (columns_back p f)

-- and so is a notice
abbrev pub noticed : Notice → List ℕ
noticed n = n.kind ∷ n.deliverer ∷ n.receiver ∷ n.deliver_reference ∷ n.receive_reference ∷ 0 ∷ []

notice-columns : (n : Notice) → Fit notice_widths (noticed n) → cut (notice_bytes n) 0 notice_widths ≡ noticed n
unfolding notice_bytes notice_widths
notice-columns n f = rw (append-nil (notice_bytes n)) at (values_back 16 notice_widths (noticed n) [] (λ i. lit< tt) refl f)

pub notice-back : (n : Notice) → Fit notice_widths (noticed n) → notice_in (notice_bytes n) ≡ n
unfolding notice_in
notice-back n f = rw (notice-columns n f)

-- the row at an area's start
first-row : (n : ℕ) (p : Posting) (rest : List ℕ) → RowFits p → first_rows (suc n) (posting_bytes p ++ rest) ≡ p ∷ first_rows n rest
unfolding first_rows
first-row n p rest f =
    ap₂ {C = List Posting} (λ (bytes more : List ℕ). posting_in bytes ∷ first_rows n more) (take_at (posting_bytes p) rest 16 (row-length p))
    (drop_at (posting_bytes p) rest 16 (row-length p))
    ∙ ap (λ (q : Posting). q ∷ first_rows n rest) (posting_back p f)

-- a place that a row can name, and no other is mistaken for it

abbrev pub Proper : Place → Type 0
Proper (account a) =
    (a.security < 2 ^ 14) × (a.member < 2 ^ 10) × (a.typ < 2 ^ 8) × (a.shareholder < 2 ^ 30) × ((a.typ one_of (90 ∷ 91 ∷ [])) ≡ false)
Proper (type91 security) = security < 2 ^ 14
Proper (type90 security) = security < 2 ^ 14
Proper (cash_of member currency) = (1 ≤ member) × (member ≤ 64) × (currency < 2 ^ 14)
Proper (member0 currency) = currency < 2 ^ 14

abbrev pub AllProper : List Movement → Type 0
AllProper [] = Unit {0}
AllProper (m ∷ rest) = Proper m.from × Proper m.to × (m.number < 2 ^ 64) × AllProper rest

pub row_fits : (credit : ℕ) (q : Place) (n : ℕ) → credit < 2 → Proper q → n < 2 ^ 64 → RowFits (posting_of credit q n)
unfolding posting_of posting_widths
row_fits credit (account a) n l f m = omega arith
row_fits credit (type91 s) n l f m = omega arith
row_fits credit (type90 s) n l f m = omega arith
row_fits credit (cash_of member c) n l f m = omega arith
row_fits credit (member0 c) n l f m = omega arith

-- the posting rows of movements, as values
abbrev pub entries : List Movement → List Posting
entries [] = []
entries (m ∷ rest) = posting_of 0 m.from m.number ∷ posting_of 1 m.to m.number ∷ entries rest

pub rows_back :
    (ms : List Movement) (rest : List ℕ) → AllProper ms → first_rows (length (posting_rows ms)) (rows_bytes (posting_rows ms) ++ rest) ≡ entries ms
unfolding posting_rows rows_bytes row_bytes first_rows
rows_back [] rest f = refl
rows_back (m ∷ ms) rest f =
    let n = length (posting_rows ms) in
    let p = posting_of 0 m.from m.number in
    let q = posting_of 1 m.to m.number in
    let later = rows_bytes (posting_rows ms) in
    ap (first_rows (suc (suc n))) (append_assoc (posting_bytes p) (posting_bytes q ++ later) rest)
    ∙ first-row (suc n) p ((posting_bytes q ++ later) ++ rest) (row_fits 0 m.from m.number (omega arith) f.0 f.2)
    ∙ ap (λ (x : List ℕ). p ∷ first_rows (suc n) x) (append_assoc (posting_bytes q) later rest)
    ∙ ap {B = List Posting} (λ (x : List Posting). p ∷ x) (first-row n q (later ++ rest) (row_fits 1 m.to m.number (omega arith) f.1 f.2))
    ∙ ap {B = List Posting} (λ (x : List Posting). p ∷ q ∷ x) (rows_back ms rest f.3)

-- a row names the place of its movement

names_at : (credit n : ℕ) (q place : Place) → Proper q → names (posting_of credit q n) place ≡ is_at place q
unfolding names posting_of same_account
names_at k n (account b) (account a) f = simp f.4
names_at k n (account b) (type91 s) f = simp (neither (b.typ is 91) false (neither (b.typ is 90) (b.typ is 91 || false) f.4).1).0
names_at k n (account b) (type90 s) f = refl
names_at k n (account b) (cash_of m c) f = refl
names_at k n (account b) (member0 c) f = refl
names_at k n (type91 s') (account a) f = refl
names_at k n (type91 s') (type91 s) f = refl
names_at k n (type91 s') (type90 s) f = refl
names_at k n (type91 s') (cash_of m c) f = refl
names_at k n (type91 s') (member0 c) f = refl
names_at k n (type90 s') (account a) f = refl
names_at k n (type90 s') (type91 s) f = refl
names_at k n (type90 s') (type90 s) f = refl
names_at k n (type90 s') (cash_of m c) f = refl
names_at k n (type90 s') (member0 c) f = refl
names_at k n (cash_of m' c') (account a) f = refl
names_at k n (cash_of m' c') (type91 s) f = refl
names_at k n (cash_of m' c') (type90 s) f = refl
names_at k n (cash_of m' c') (cash_of m c) f = simp (ne_eqb m' 0 (λ e. omega (arith, f.0)))
names_at k n (cash_of m' c') (member0 c) f = refl
names_at k n (member0 c') (account a) f = refl
names_at k n (member0 c') (type91 s) f = refl
names_at k n (member0 c') (type90 s) f = refl
names_at k n (member0 c') (cash_of m c) f = refl
names_at k n (member0 c') (member0 c) f = refl

-- and says which side it is, and how much
row-says : (credit : ℕ) (q : Place) (n : ℕ) → ((posting_of credit q n).credit ≡ credit) × ((posting_of credit q n).number ≡ n)
unfolding posting_of
row-says k (account a) n = (refl, refl)
row-says k (type91 s) n = (refl, refl)
row-says k (type90 s) n = (refl, refl)
row-says k (cash_of m c) n = (refl, refl)
row-says k (member0 c) n = (refl, refl)

-- what a row counts for a place
abbrev pub counts : ℕ → Place → Posting → ℕ
counts credit place p = if p.credit is credit && names p place then p.number else 0

row_counts : (k j : ℕ) (q place : Place) (n : ℕ) → Proper q → counts k place (posting_of j q n) ≡ (if j is k && is_at place q then n else 0)
row_counts k j q place n f = rw (names_at j n q place f, (row-says j q n).0, (row-says j q n).1)

pub entries-brought : (place : Place) (ms : List Movement) → AllProper ms → total (counts 1 place) (entries ms) ≡ brought place ms
entries-brought place [] f = refl
entries-brought place (m ∷ rest) f =
    omega (arith, row_counts 1 0 m.from place m.number f.0, row_counts 1 1 m.to place m.number f.1, entries-brought place rest f.3)

pub entries-taken : (place : Place) (ms : List Movement) → AllProper ms → total (counts 0 place) (entries ms) ≡ taken place ms
entries-taken place [] f = refl
entries-taken place (m ∷ rest) f =
    omega (arith, row_counts 0 0 m.from place m.number f.0, row_counts 0 1 m.to place m.number f.1, entries-taken place rest f.3)
