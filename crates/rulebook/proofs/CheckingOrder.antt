-- A call's answer is the first of all its checks that applies. Assumes nothing.
use Rattle.std.specs.Prelude.{if◌then◌else◌, Ok, Err}
use mathlib.Core.Path.{◌≡◌, refl, sym, ◌∙◌}
use mathlib.Core.Bool.{Bool, true, false}
use mathlib.Core.List.{List, ◌++◌}
use Prim.Native.Nat.{ℕ, ◌≤◌}
use native.Mathlib.Omega.{arith}
use borrow.Author.Tests.{eqb-true}
use Rattle.plain.specs.Lists.{◌is◌, first}
use Rattle.rulebook.specs.Ledger.{Ledger}
use Rattle.rulebook.specs.Record.{read_tests, read_refusal, read_of, order_of, fields_in}
use Rattle.rulebook.specs.Refusals.{refusals}
use Rattle.rulebook.specs.Call.{answer_number, refused, accepted, order_call, read_call, short_area, call_of}
use Rattle.rulebook.specs.Answers.{refusal_of}
use Rattle.rulebook.specs.declared.Refusal.{Refusal}
use Rattle.rulebook.specs.Checks.{checks, CheckingOrder}
use Rattle.rulebook.specs.Forms.{effect}
use Rattle.rulebook.specs.declared.Order.{Order}
use Rattle.rulebook.proofs.Checking.{first-known, first-append, refusals_numbered}
use Rattle.rulebook.proofs.Answers.{number-back}

module _ (book : Ledger) (area : List ℕ) where
  order-answer : (order : Order) → answer_number (order_call book order area).answer ≡ first (refusals book order)
  unfolding order_call answer_number refused accepted
  order-answer order = go (first (refusals book order)) (first (refusals book order) is 0) refl (first-known _ (refusals_numbered book order))
    where
      go :
          (n : ℕ) (t : Bool) → (n is 0) ≡ t → n ≤ 24
          → answer_number (if t then accepted (effect book order) order.minute area else refused (refusal_of n) book area).answer ≡ n
      go n true p l = sym (eqb-true n 0 p)
      go n false p l = number-back n p l

  read_answer :
      (bytes : List ℕ) → answer_number (read_call book (read_of bytes) area).answer ≡ first (read_tests bytes ++ refusals book (order_of (fields_in bytes)))
  unfolding read_of read_call answer_number refused read_refusal
  read_answer bytes =
      go (read_refusal bytes) (read_refusal bytes is 0) refl (first-known (read_tests bytes) (omega arith))
      ∙ sym (first-append (read_tests bytes) (refusals book order) (omega arith))
    where
      order : Order
      order = order_of (fields_in bytes)

      go :
          (n : ℕ) (t : Bool) → (n is 0) ≡ t → n ≤ 24
          → answer_number (read_call book (if t then Ok order else Err (refusal_of n)) area).answer ≡ (if t then first (refusals book order) else n)
      go n true p l = order-answer order
      go n false p l = number-back n p l

pub checking_order_lem : CheckingOrder
unfolding CheckingOrder checks call_of answer_number refused
checking_order_lem book bytes area = go (short_area area)
  where
    go :
        (t : Bool)
        → answer_number (if t then refused Refusal.ShortArea book area else read_call book (read_of bytes) area).answer
        ≡ (if t then 1 else first (read_tests bytes ++ refusals book (order_of (fields_in bytes))))
    go true = refl
    go false = read_answer book area bytes
