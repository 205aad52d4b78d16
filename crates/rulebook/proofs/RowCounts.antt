-- No call writes more than 256 rows, the 4,096 bytes of its area. Assumes nothing.
use mathlib.Core.Path.{◌≡◌, refl}
use mathlib.Core.List.{List, [], ◌∷◌}
use Prim.Native.Nat.{◌*◌, ◌≤◌}
use native.Mathlib.Omega.{arith}
use lib.ListN.{length, length-map}
use Rattle.rulebook.specs.declared.Item.{Item}
use Rattle.rulebook.specs.declared.Order.{Order}
use Rattle.plain.specs.Lists.{keep}
use Rattle.plain.proofs.Lists.{◌and◌, keep-length}
use Rattle.rulebook.specs.Ledger.{Ledger}
use Rattle.rulebook.specs.Movements.{Movement}
use Rattle.rulebook.specs.Rows.{posting_rows}
use Rattle.rulebook.specs.Waiting.{sender_of, marking, cancelled, both_marked}
use Rattle.rulebook.specs.Cycle.{legs, settled}
use Rattle.rulebook.specs.Close.{leaves}
use Rattle.rulebook.specs.Forms.{outcome, moving, silent, open_day, admit, deposit, withdraw, transfer, pay_in, pay_out, instruct, trade, cancel, cycle, confirm, decline, close, forms, effect, set_rate, request_paper, end_request}
use Rattle.rulebook.specs.Premise.{Sizes}
use Rattle.rulebook.proofs.ByCall.{Effect, AllForms, either_answer, by_form}
use Rattle.rulebook.proofs.Settled.{settled-length}

pub posting_length : (ms : List Movement) → length (posting_rows ms) ≡ 2 * length ms
unfolding posting_rows
posting_length [] = refl
posting_length (m ∷ rest) = omega (arith, posting_length rest)

pub legs-length : (ts : List Item) → length (legs ts) ≡ 2 * length ts
unfolding legs
legs-length [] = refl
legs-length (t ∷ rest) = omega (arith, legs-length rest)

abbrev Writes : Effect → Type 0
Writes f = (b : Ledger) (o : Order) → Sizes b → length (f b o).rows ≤ 256

moving-rows : (ms : List Movement) → length ms ≤ 128 → (b : Ledger) → length (moving ms b).rows ≤ 256
unfolding moving outcome
moving-rows ms l b = omega (arith, posting_length ms)

silent-rows : (b : Ledger) {c : Ledger} → Sizes c → length (silent b).rows ≤ 256
unfolding silent outcome
silent-rows b s = omega arith

cancel-rows : Writes cancel
unfolding cancel outcome cancelled marking
cancel-rows b o s =
    let now = marking (sender_of o) o.reference b.waiting in
    let m : length now ≡ length b.waiting = length-map b.waiting _ in
    let k : length (cancelled now) ≤ length now = keep-length (λ item. both_marked item.state) now in
    let r : length (cancel b o).rows ≡ length (cancelled now) = length-map (cancelled now) _ in
    omega (arith, m, k, r, s.items)

cycle-rows : Writes cycle
unfolding cycle outcome
cycle-rows b o s = omega arith

confirm-rows : (b : Ledger) → Sizes b → length (confirm b).rows ≤ 256
unfolding confirm outcome
confirm-rows b s = omega (arith, posting_length (legs (settled b)), legs-length (settled b), settled-length b, s.items)

close-rows : Writes close
unfolding close outcome
close-rows b o s =
    let gone = keep (leaves b.day.number) b.waiting in
    let r : length (close b o).rows ≡ length gone = length-map gone _ in
    omega (arith, r, keep-length (leaves b.day.number) b.waiting, s.items)

forms-write : AllForms (λ n f. Writes f.effect) 1 forms
unfolding forms open_day admit deposit withdraw transfer pay_in pay_out instruct trade set_rate request_paper end_request
forms-write =
    (λ b o. silent-rows _)
    and (λ b o s. moving-rows _ (omega arith) _) and (λ b o s. moving-rows _ (omega arith) _) and (λ b o s. moving-rows _ (omega arith) _)
    and (λ b o s. moving-rows _ (omega arith) _) and (λ b o s. moving-rows _ (omega arith) _) and (λ b o s. moving-rows _ (omega arith) _)
    and (λ b o s. moving-rows _ (omega arith) _) and (λ b o s. moving-rows _ (omega arith) _) and (λ b o s. moving-rows _ (omega arith) _)
    and (λ b o s. moving-rows _ (omega arith) _)
    and (λ b o. silent-rows _) and (λ b o. silent-rows _) and (λ b o. silent-rows _) and cancel-rows and cycle-rows and close-rows
    and (λ b o. silent-rows _) and (λ b o s. moving-rows _ (omega arith) _) and (λ b o s. moving-rows _ (omega arith) _)
    and (λ b o s. either_answer (λ x. length x.rows ≤ 256) b o (confirm-rows b s) (unfold decline in silent-rows _ s)) and tt

pub effect-rows : (b : Ledger) (o : Order) → Sizes b → length (effect b o).rows ≤ 256
unfolding effect
effect-rows b o s = by_form (λ n f. Writes f.effect) forms-write (λ m no b o. silent-rows _) o.form b o s
