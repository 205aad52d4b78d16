-- Part 7 of the premise: the day, and that a minute which is accepted is within office hours as long as a cycle is sent or still to run. Assumes nothing.
use Rattle.std.specs.Prelude.{if◌then◌else◌}
use mathlib.Core.Path.{◌≡◌, refl, sym, subst, ◌∙◌}
use mathlib.Core.List.{[], ◌∷◌}
use mathlib.Core.Bool.{Bool, true, false, not, false≢true}
use Prim.Native.Nat.{ℕ, ◌≤◌}
use native.Mathlib.Omega.{arith}
use borrow.Author.Tests.{eqb-false, not-true}
use Rattle.rulebook.specs.declared.Order.{Order}
use Rattle.plain.specs.Lists.{◌is◌, ◌one_of◌}
use Rattle.plain.proofs.Lists.{◌and◌}
use Rattle.rulebook.specs.Field as Field
use Rattle.rulebook.specs.Ledger.{Ledger, fresh, put_day, put_holdings, put_waiting, with_minute, cycle_answered}
use Rattle.rulebook.specs.Windows.{by_kind, all_run, office_end, office_hours, counter_hours, payment_hours}
use Rattle.rulebook.specs.Call.{put_minute}
use Rattle.rulebook.specs.Forms.{Form, outcome, silent, open_day, cycle, confirm, decline, answer_cycle, close, forms, row_of, used, least, most, window_of}
use Rattle.rulebook.specs.Premise.{DayFits}
use Rattle.rulebook.specs.declared.Day.{Day}
use Rattle.rulebook.proofs.ByCall.{AllForms, either_answer, window_at, by_form}
use Rattle.rulebook.proofs.Orders.{Accepted, needed, is_open, opens-next, cycles-left, none_sent, in_window}

-- the day with the minute of the call
abbrev pub DayAt : ℕ → Ledger → Type 0
DayAt minute b = DayFits (put_minute minute b).day

pub fresh-day : DayFits fresh.day
unfolding fresh
fresh-day = record {
  number = omega arith;
  kind = omega arith;
  cycles = omega arith;
  minute = omega arith;
  number_least = λ e. absurd (false≢true e);
  kind_least = λ e. absurd (false≢true e);
  office = λ e _. absurd (false≢true e);
  sent_open = λ e. absurd (false≢true e);
  sent_run = λ e. absurd (false≢true e);
}

-- office hours end after 480, and after every shorter time

kind_end : (k x y : ℕ) → x ≤ 960 → y ≤ 900 → by_kind k x y ≤ office_end k
unfolding by_kind office_end
kind_end k x y p q = go (k is 1)
  where
    go : (t : Bool) → (if t then x else y) ≤ (if t then 960 else 900)
    go true = p
    go false = q

office_least : (k : ℕ) → 480 ≤ office_end k
unfolding by_kind office_end
office_least k = go (k is 1)
  where
    go : (t : Bool) → 480 ≤ (if t then 960 else 900)
    go true = omega arith
    go false = omega arith

either_end : (t : Bool) (p q : ℕ × ℕ) (e : ℕ) → p.1 ≤ e → q.1 ≤ e → (if t then p else q).1 ≤ e
either_end true p q e l m = l
either_end false p q e l m = m

-- every window but those of the close and of an answer ends in office hours
abbrev Ends : ℕ → Form → Type 0
Ends n f = (n one_of (17 ∷ 21 ∷ [])) ≡ false → (d : Day) (o : Order) → (f.window d o).1 ≤ office_end d.kind

all_end : AllForms Ends 1 forms
unfolding forms row_of
all_end =
    (λ _ d o. office_least d.kind) and office and counter and counter and counter and counter and counter and counter and counter and office and office
    and payment and payment and office and office and (λ _ d o. omega arith) and (λ e. absurd (false≢true (sym e))) and office and counter and counter
    and (λ e. absurd (false≢true (sym e))) and tt
  where
    office : false ≡ false → (d : Day) (o : Order) → (office_hours d o).1 ≤ office_end d.kind
    office _ d o = omega arith

    counter : false ≡ false → (d : Day) (o : Order) → (counter_hours d o).1 ≤ office_end d.kind
    counter _ d o = kind_end d.kind 870 750 (omega arith) (omega arith)

    payment : false ≡ false → (d : Day) (o : Order) → (payment_hours d o).1 ≤ office_end d.kind
    payment _ d o =
        either_end (o.settlement_day is d.number) (480, by_kind d.kind 825 705) (office_hours d o) (office_end d.kind)
        (kind_end d.kind 825 705 (omega arith) (omega arith)) (omega arith)

window_end : (n : ℕ) (b : Ledger) (o : Order) → o.form ≡ n → (n one_of (17 ∷ 21 ∷ [])) ≡ false → (window_of b.day o).1 ≤ office_end b.day.kind
unfolding window_of
window_end n b o e t = by_form Ends all_end (λ m none _ d o. omega arith) o.form (rw e t) b.day o

-- a form that leaves the day as it is
pub same_day : (n : ℕ) (b : Ledger) (o : Order) → o.form ≡ n → (n one_of (17 ∷ 21 ∷ [])) ≡ false → DayFits b.day → Accepted b o → DayAt o.minute b
unfolding put_minute put_day
same_day n b o e t d a = record {
  number = d.number;
  kind = d.kind;
  cycles = d.cycles;
  minute = a.ranges.minute;
  number_least = d.number_least;
  kind_least = d.kind_least;
  office = λ _ _. omega (arith, in_window b o a.window, window_end n b o e t);
  sent_open = d.sent_open;
  sent_run = d.sent_run;
}

pub open_day_lem : (b : Ledger) (o : Order) → o.form ≡ 1 → DayFits b.day → Accepted b o → DayAt o.minute (open_day b o).after
unfolding open_day silent outcome put_minute put_day used least window_of most forms row_of
open_day_lem b o e d a =
    let c = eqb-false b.day.number 60_000 (opens-next b o e a.right_day).1 in
    let q = a.ranges.quantity (needed 1 Field.quantity o e refl) in
    let w : o.minute ≤ 480 = subst (λ (x : ℕ × ℕ). o.minute ≤ x.1) (window_at 1 b.day o e) (in_window b o a.window) in
    record {
      number = omega (arith, d.number, c);
      kind = simp e at q.1;
      cycles = omega arith;
      minute = a.ranges.minute;
      number_least = λ _. omega arith;
      kind_least = λ _. q.0;
      office = λ _ _. omega (arith, w, office_least o.quantity.0);
      sent_open = λ _. refl;
      sent_run = λ s. absurd (false≢true (sym (opens-next b o e a.right_day).0 ∙ d.sent_open s));
    }

pub cycle-day : (b : Ledger) (o : Order) → o.form ≡ 16 → DayFits b.day → Accepted b o → DayAt o.minute (cycle b o).after
unfolding cycle outcome put_minute put_day put_holdings put_waiting
cycle-day b o e d a = record {
  number = d.number;
  kind = d.kind;
  cycles = omega (arith, cycles-left b o e a.cycle);
  minute = a.ranges.minute;
  number_least = d.number_least;
  kind_least = d.kind_least;
  office = λ _ _. omega (arith, in_window b o a.window, window_end 16 b o e refl);
  sent_open = λ _. is_open b o 16 e refl a.right_day;
  sent_run = λ _. omega arith;
}

-- an answer past office hours leaves no cycle to run
answer_end_lem : (b : Ledger) (o : Order) → o.form ≡ 21 → Accepted b o → not (all_run b.day) ≡ true → o.minute ≤ office_end b.day.kind
unfolding forms row_of
answer_end_lem b o e a t =
    let w : o.minute ≤ (if all_run b.day then 1439 else office_end b.day.kind) =
    subst (λ (x : ℕ × ℕ). o.minute ≤ x.1) (window_at 21 b.day o e) (in_window b o a.window) in
    simp (not-true (all_run b.day) t) at w

answered_day : (b : Ledger) (o : Order) → o.form ≡ 21 → DayFits b.day → Accepted b o → DayFits (with_minute o.minute (cycle_answered b.day))
unfolding all_run
answered_day b o e d a = record {
  number = d.number;
  kind = d.kind;
  cycles = omega (arith, d.cycles);
  minute = a.ranges.minute;
  number_least = d.number_least;
  kind_least = d.kind_least;
  office = λ _ t. unfold all_run in answer_end_lem b o e a t;
  sent_open = λ s. absurd (false≢true s);
  sent_run = λ s. absurd (false≢true s);
}

pub answer_day : (b : Ledger) (o : Order) → o.form ≡ 21 → DayFits b.day → Accepted b o → DayAt o.minute (answer_cycle b o).after
unfolding confirm decline silent outcome put_minute put_day put_holdings put_waiting
answer_day b o e d a =
    let f = answered_day b o e d a in either_answer (λ x. DayAt o.minute x.after) b o (unfold put_minute in f) (unfold put_minute in f)

pub close-day : (b : Ledger) (o : Order) → o.form ≡ 17 → DayFits b.day → Accepted b o → DayAt o.minute (close b o).after
unfolding close outcome put_minute put_day put_waiting
close-day b o e d a = record {
  number = d.number;
  kind = d.kind;
  cycles = d.cycles;
  minute = a.ranges.minute;
  number_least = λ e. absurd (false≢true e);
  kind_least = λ e. absurd (false≢true e);
  office = λ e _. absurd (false≢true e);
  sent_open = λ s. absurd (false≢true (sym (none_sent b o 17 e refl a.answered) ∙ s));
  sent_run = d.sent_run;
}
