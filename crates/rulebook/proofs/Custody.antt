-- The held counts that a book keeps: what each form does to them, and that they are what the accounts hold, over any list of calls. Assumes nothing.
use native.Mathlib.Omega.{arith}
use Rattle.rulebook.specs.Ledger.{fresh}
use Rattle.rulebook.specs.Calls.{book_after}
use Rattle.rulebook.specs.Custody.{comes_in, goes_out, HeldByForm, HeldOfCalls}
use Rattle.rulebook.proofs.Bounds.{each_held}
use Rattle.rulebook.proofs.Steps.{order-step}
use Rattle.rulebook.proofs.EveryCall.{fresh-premise, calls-premise}
use Rattle.rulebook.proofs.Demand3.Custody.{custody}

pub held-by_form : HeldByForm
unfolding HeldByForm comes_in goes_out
held-by_form b o bytes p e z s = (order-step b o bytes p e z).recounts s

pub held-of_calls : HeldOfCalls
unfolding HeldOfCalls
held-of_calls calls =
    let p = calls-premise fresh fresh-premise calls in
    record {
      each = each_held (book_after fresh calls) p;
      summed = p.custody;
      custody = λ s. omega (arith, p.custody s, custody s calls);
      issue = λ s. omega (arith, p.custody s, p.issue s);
    }
