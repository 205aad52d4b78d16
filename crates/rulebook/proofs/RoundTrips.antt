-- Both round trips of a record: what is written reads back as itself, and what is read is what the writer makes. Assumes nothing.
use Rattle.std.specs.Prelude.{Ok}
use mathlib.Core.Path.{◌≡◌, refl, sym, ap, subst, ◌∙◌}
use mathlib.Core.Bool.{Bool, true, false, not, ◌&&◌}
use mathlib.Core.List.{List, [], ◌∷◌, ◌++◌, append-nil}
use Prim.Native.Nat.{ℕ, ◌+◌, ◌*◌, ◌^◌, ◌≤◌, ◌<◌}
use native.Mathlib.Omega.{arith}
use borrow.Author.Tests.{le-ltb}
use lib.Dec.{lit<}
use lib.ListN.{length, get_or, take, drop}
use lib.Seq.{take_all}
use Rattle.bits.specs.Bits.{Octets, bytes}
use Rattle.bits.specs.Layout.{pack, Fit}
use Rattle.bits.proofs.Numbers.{length_bytes}
use Rattle.bits.proofs.Packing.{values_back, bytes_back, take-bytes, pack-high}
use Rattle.rulebook.specs.declared.Order.{Order}
use Rattle.plain.specs.Lists.{◌is◌, ◌is_not◌, ◌below◌, within, some}
use Rattle.plain.proofs.Lists.{◌and◌}
use Rattle.rulebook.specs.Field as Field
use Rattle.rulebook.specs.Field.{places, widths, ceiling, always}
use Rattle.rulebook.specs.Forms.{Form, forms, used, least, most}
use Rattle.rulebook.specs.Record.{fields_of, order_of, unused_not_zero, used_out_of_range, field_tests, fields_in, read_refusal, read_of, record_of, write_refusal}
use Rattle.rulebook.proofs.ByCall.{by_test_lem}
use Rattle.rulebook.proofs.Checking.{none_applies}
use Rattle.rulebook.proofs.Orders.{none_at, most-ceiling, in_range_lem, is_zero, read_is, Passed, read_tests_lem}

-- a field that is used is in its range, and another is 0
in_width : (u : Bool) (a b w n : ℕ) → (u && not (within a b n)) ≡ false → (not u && n is_not 0) ≡ false → b < 2 ^ w → n < 2 ^ w
in_width true a b w n e f l = omega (arith, (in_range_lem true a b n e refl).1)
in_width false a b w n e f l = omega (arith, is_zero false n f refl)

-- what a place can be fits its width
fits_width : (i : ℕ) → i < length places → get_or places i 0 ≡ i → ceiling i < 2 ^ get_or widths i 0 → (form : ℕ) → most form i < 2 ^ get_or widths i 0
fits_width i l e c form =
    let m : most form i ≤ ceiling i = subst (λ (place : ℕ). most form place ≤ ceiling place) e (most-ceiling form i l) in omega (arith, m, c)

-- the fields of an order that is not refused fit their widths
pub fields_fit : (o : Order) → unused_not_zero (fields_of o) ≡ false → used_out_of_range (fields_of o) ≡ false → Fit widths (fields_of o)
unfolding unused_not_zero used_out_of_range fields_of widths places ceiling
fields_fit o u r =
    at Field.form (lit< tt) refl (lit< tt) and
    at Field.minute (lit< tt) refl (lit< tt) and
    at Field.security (lit< tt) refl (lit< tt) and
    at Field.currency (lit< tt) refl (lit< tt) and
    at Field.debited_member (lit< tt) refl (lit< tt) and
    at Field.debited_type (lit< tt) refl (lit< tt) and
    at Field.credited_member (lit< tt) refl (lit< tt) and
    at Field.credited_type (lit< tt) refl (lit< tt) and
    at Field.debited_shareholder (lit< tt) refl (lit< tt) and
    at Field.credited_shareholder (lit< tt) refl (lit< tt) and
    at Field.quantity (lit< tt) refl (lit< tt) and
    at Field.amount (lit< tt) refl (lit< tt) and
    at Field.trade_day (lit< tt) refl (lit< tt) and
    at Field.settlement_day (lit< tt) refl (lit< tt) and
    at Field.reference (lit< tt) refl (lit< tt) and
    at Field.operation (lit< tt) refl (lit< tt) and
    at Field.original (lit< tt) refl (lit< tt) and
    at Field.edition (lit< tt) refl (lit< tt) and
    at Field.spare (lit< tt) refl (lit< tt) and
    tt
  where
    wide : ℕ → Bool
    wide place = used o.form place && not (within (least o.form place) (most o.form place) (get_or (fields_of o) place 0))

    idle : ℕ → Bool
    idle place = not (used o.form place) && get_or (fields_of o) place 0 is_not 0

    at : (i : ℕ) → i < length places → get_or places i 0 ≡ i → ceiling i < 2 ^ get_or widths i 0 → get_or (fields_of o) i 0 < 2 ^ get_or widths i 0
    at i l e c =
        in_width (used o.form i) (least o.form i) (most o.form i) (get_or widths i 0) (get_or (fields_of o) i 0)
        (subst (λ (place : ℕ). wide place ≡ false) e (none_at wide places i l r)) (subst (λ (place : ℕ). idle place ≡ false) e (none_at idle places i l u))
        (fits_width i l e c o.form)

write_tests : (o : Order) (area : List ℕ) → write_refusal o area ≡ 0 → Passed (fields_of o)
unfolding write_refusal
write_tests o area e =
    let fields = fields_of o in
    let n = none_applies ((1, length area below 40) ∷ field_tests fields) (omega arith) e in
    record { form = n 3; unused = n 4; ranges = n 5 }

-- the fields of the 40 bytes that the writer makes are the order's
fields_back : (o : Order) → Passed (fields_of o) → fields_in (record_of o) ≡ fields_of o
unfolding fields_in record_of widths
fields_back o t = rw (append-nil (record_of o)) at (values_back 40 widths (fields_of o) [] (λ i. lit< tt) refl (fields_fit o t.unused t.ranges))

-- A WRITTEN ORDER READS BACK AS ITSELF
pub write_read : (o : Order) (area : List ℕ) → write_refusal o area ≡ 0 → read_of (record_of o) ≡ Ok o
unfolding read_of read_refusal
write_read o area e =
    let t = write_tests o area e in
    let l : length (record_of o) ≡ 40 = unfold record_of in length_bytes 40 (pack 0 widths (fields_of o)) in
    rw (l, fields_back o t, t.form, t.unused, t.ranges) (unfold order_of fields_of in refl)

-- no form uses the spare bits
uses_spare : Form → Bool
uses_spare f = some (λ rule. Field.spare is rule.place) (always ++ f.fields)

spare-unused : (form : ℕ) → used form Field.spare ≡ false
unfolding uses_spare forms used
spare-unused form = by_test_lem (λ n f. uses_spare f) refl (λ m. refl) form

-- the fields of the order of fields that were read are these
fields_again : (octets : List ℕ) → Passed (fields_in octets) → fields_of (order_of (fields_in octets)) ≡ fields_in octets
unfolding unused_not_zero places fields_of order_of fields_in widths
fields_again octets p =
    let f = get_or (fields_in octets) Field.form 0 in
    let idle : ℕ → Bool = λ place. not (used f place) && get_or (fields_in octets) place 0 is_not 0 in
    let last = get_or (fields_in octets) Field.spare 0 in
    let z : last ≡ 0 = is_zero (used f Field.spare) last (none_at idle places Field.spare (lit< tt) p.unused) (spare-unused f) in
    rw z

-- A RECORD THAT IS READ IS THE ONE THAT THE WRITER MAKES
pub read-write : (octets : List ℕ) (o : Order) → Octets octets → read_of octets ≡ Ok o → record_of o ≡ octets
unfolding record_of fields_in widths
read-write octets o h e =
    let t = read_tests_lem octets o e in
    ap record_of (sym (read_is octets o e))
    ∙ ap (λ (fields : List ℕ). bytes 40 (pack 0 widths fields)) (fields_again octets t.1)
    ∙ bytes_back 40 octets widths h refl (omega arith)
    ∙ take_all 40 octets (omega arith)

-- which the writer takes, where 40 bytes are lent
pub read_writable : (octets : List ℕ) (o : Order) (area : List ℕ) → read_of octets ≡ Ok o → 40 ≤ length area → write_refusal o area ≡ 0
unfolding write_refusal
read_writable octets o area e l =
    let t = (read_tests_lem octets o e).1 in
    let p : Passed (fields_of o) = subst (λ (o : Order). Passed (fields_of o)) (read_is octets o e) (subst Passed (sym (fields_again octets t)) t) in
    rw (le-ltb (length area) 40 l, p.form, p.unused, p.ranges)

-- the first two bytes are form and minute
pub first-bytes : (o : Order) (area : List ℕ) → write_refusal o area ≡ 0 → take 2 (record_of o) ≡ bytes 2 (o.form * 2 ^ 11 + o.minute)
unfolding record_of widths fields_of
first-bytes o area e =
    let t = write_tests o area e in
    let fit : Fit widths (fields_of o) = fields_fit o t.unused t.ranges in
    take-bytes 2 38 (pack 0 widths (fields_of o))
    ∙ ap (bytes 2) (pack-high ((0 * 2 ^ 5 + o.form) * 2 ^ 11 + o.minute) (drop 2 widths) (drop 2 (fields_of o)) fit.1.1)
    ∙ ap (λ (n : ℕ). bytes 2 (n * 2 ^ 11 + o.minute)) (omega arith)
