-- What is proved of the definitions, whole. Assumes nothing.
use Rattle.std.specs.Prelude.{if◌then◌else◌, Ok, Err}
use Prim.Native.Nat.{ℕ, ◌≤◌}
use mathlib.Core.Bool.{Bool, true, false}
use mathlib.Core.List.{List, [], ◌∷◌}
use mathlib.Core.Path.{◌≡◌, refl, ap, ◌∙◌}
use native.Mathlib.Omega.{arith}
use borrow.Author.Tests.{eqb-true}
use lib.ListN.{length, take, drop}
use lib.Seq.{take_at, take-append-le}
use Rattle.bits.proofs.Numbers.{length_bytes}
use Rattle.bits.specs.Bits.{bytes}
use Rattle.plain.specs.Lists.{◌is◌}
use Rattle.bits.specs.Layout.{pack}
use Rattle.rulebook.specs.Field.{widths}
use Rattle.rulebook.specs.Record.{fields_of, read_of, record_of, write_refusal, written_of, area_written}
use Rattle.rulebook.specs.Theorems.{Theorems}
use Rattle.rulebook.specs.Answers.{Written, refusal_of}
use Rattle.rulebook.specs.declared.Order.{Order}
use Rattle.rulebook.proofs.RoundTrips.{write_read, read-write, read_writable, first-bytes}
use Rattle.rulebook.proofs.Selection.Missing.{none_short, short_none}
use Rattle.rulebook.proofs.Selection.Selected.{selected, nothing_fits_lem, enough_turns, selection-selected, passes-end}
use Rattle.rulebook.proofs.CheckingOrder.{checking_order_lem}
use Rattle.rulebook.proofs.Sizes.{cycle-space, answer_space}
use Rattle.rulebook.proofs.EveryCall.{fresh-premise, call_premise}
use Rattle.rulebook.proofs.Demand3.{demand3}
use Rattle.rulebook.proofs.AdmittedTypes.{admitted-types}
use Rattle.rulebook.proofs.Rates.{rate_of_calls_lem, tolerances, rate_alone_lem, rate_refusals_lem}
use Rattle.rulebook.proofs.Rematerialization.{awaited_of_calls_lem, ending-covered, request_stays_lem, request_ends_lem, request_refusals_lem, ending-refusals}
use Rattle.rulebook.proofs.Custody.{held-by_form, held-of_calls}
use Rattle.rulebook.proofs.SentCycles.Refusals.{answer_refusals_lem}
use Rattle.rulebook.proofs.SentCycles.Leaving.{left-unfit}
use Rattle.rulebook.proofs.SentCycles.Staying.{fixed-stays}
use Rattle.rulebook.proofs.SentCycles.Confirming.{confirmed_as_sent_lem}
use Rattle.rulebook.proofs.SentCycles.Declining.{declined-as_unsent}
use Rattle.rulebook.proofs.SentCycles.Offering.{offer_exact_lem}
use Rattle.rulebook.proofs.SentCycles.Finishing.{day_finishes_lem}
use Rattle.rulebook.proofs.Desk.{desk}

-- the writer writes where nothing refuses
wrote : (o : Order) (area : List ℕ) → written_of o area ≡ Ok tt → write_refusal o area ≡ 0
unfolding written_of
wrote o area e = go (write_refusal o area is 0) refl e
  where
    go :
        (t : Bool) → (write_refusal o area is 0) ≡ t → ◌≡◌ {A = Written} (if t then Ok tt else Err (refusal_of (write_refusal o area))) (Ok tt)
        → write_refusal o area ≡ 0
    go true p q = eqb-true _ 0 p
    go false p q = cc

module _ (o : Order) (area : List ℕ) (e : write_refusal o area ≡ 0) where
  writes : written_of o area ≡ Ok tt
  unfolding written_of
  writes = rw e

  bytes-there : take 40 (area_written o area) ≡ record_of o
  unfolding area_written record_of
  bytes-there = rw e (take_at (record_of o) (drop 40 area) 40 (length_bytes 40 _))

-- form 3 at minute 540
first-bytes_of : (o : Order) (area : List ℕ) → o.form ≡ 3 → o.minute ≡ 540 → written_of o area ≡ Ok tt → take 2 (area_written o area) ≡ 0x1A ∷ 0x1C ∷ []
unfolding area_written record_of bytes
first-bytes_of o area f m w =
    let e = wrote o area w in
    let l : 2 ≤ length (record_of o) = omega (arith, length_bytes 40 (pack 0 widths (fields_of o))) in
    rw e (take-append-le 2 (record_of o) (drop 40 area) l) ∙ first-bytes o area e ∙ rw (f, m)

pub theorems : Theorems
theorems = record {
  write_read = λ o area w. let e = wrote o area w in ap read_of (bytes-there o area e) ∙ write_read o area e;
  read_write = λ octets o area fine r room. let e = read_writable octets o area r room in (writes o area e, bytes-there o area e ∙ read-write octets o fine r);
  first_bytes = first-bytes_of;
  checking_order = checking_order_lem;
  short_found = none_short;
  none_found = short_none;
  selected = selection-selected;
  left_unfit = left-unfit;
  passes_end = passes-end;
  selected_in = λ most h es u. selected h es u most;
  nothing_fits = nothing_fits_lem;
  enough_turns = enough_turns;
  cycle_has_room = λ book o form p. cycle-space book o form p.sizes;
  answer_has_room = λ book o form p. answer_space book o form p.sizes;
  fresh_meets = fresh-premise;
  calls_keep = call_premise;
  balanced = demand3;
  admitted_types = admitted-types;
  rate_of_calls = rate_of_calls_lem;
  tolerances = tolerances;
  rate_alone = rate_alone_lem;
  rate_refusals = rate_refusals_lem;
  awaited_of_calls = awaited_of_calls_lem;
  ending_covered = ending-covered;
  request_stays = request_stays_lem;
  request_ends = request_ends_lem;
  request_refusals = request_refusals_lem;
  ending_refusals = ending-refusals;
  held_by_form = held-by_form;
  held_of_calls = held-of_calls;
  answer_refusals = answer_refusals_lem;
  fixed_stays = fixed-stays;
  confirmed_as_sent = confirmed_as_sent_lem;
  declined_as_unsent = declined-as_unsent;
  offer_exact = offer_exact_lem;
  day_finishes = day_finishes_lem;
  desk = desk;
}
