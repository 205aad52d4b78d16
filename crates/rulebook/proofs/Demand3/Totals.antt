-- Issued counts, cash and pledged accounts: what is kept is what came less what went, over any list of calls. Assumes nothing.
use Rattle.std.specs.Prelude.{Ok}
use mathlib.Core.Path.{◌≡◌, refl}
use mathlib.Core.Bool.{Bool, true, false}
use mathlib.Core.List.{List}
use Prim.Native.Nat.{ℕ, ◌+◌}
use native.Mathlib.Omega.{arith}
use lib.Dec.{T}
use Rattle.rulebook.specs.declared.Order.{Order}
use Rattle.plain.specs.Lists.{first}
use Rattle.rulebook.specs.AccountTypes.{pledged_or_blocked}
use Rattle.rulebook.specs.Record.{read_of}
use Rattle.rulebook.specs.Ledger.{Holdings, Ledger, fresh, cash_total, issued_of, put_day}
use Rattle.rulebook.specs.declared.Account.{Account}
use Rattle.rulebook.specs.Movements.{account}
use Rattle.rulebook.specs.Forms.{effect}
use Rattle.rulebook.specs.Refusals.{refusals}
use Rattle.rulebook.specs.Call.{put_minute}
use Rattle.rulebook.specs.Calls.{Call, calls_on, book_after, Accepted, sum, shares_of, cash_of_form, issues, pay_ins, pay_outs, put_in, released}
use Rattle.rulebook.specs.Premise.{Premise}
use Rattle.rulebook.proofs.ByCall.{accepted_call, by_call, sum-none}
use Rattle.rulebook.proofs.Sums.{none_paid, cash_exact}
use Rattle.rulebook.proofs.Steps.OneCall.{put_in_at, released_at, Step, step_issued}
use Rattle.rulebook.proofs.Steps.{order-step}
use Rattle.rulebook.proofs.EveryCall.{fresh-premise, order-premise}

-- what each step keeps, a list of calls keeps
module _
    (keeps : Holdings → ℕ)
    (comes goes : Accepted → ℕ)
    (law :
    (b : Ledger) (o : Order) (area : List ℕ) → Step o.form b o (effect b o)
    → comes (accepted_call b o area) + keeps b.holdings ≡ goes (accepted_call b o area) + keeps (effect b o).after.holdings)
  where
    list_step :
        (b : Ledger) (o : Order) (bytes area : List ℕ) → Premise b → read_of bytes ≡ Ok o → first (refusals b o) ≡ 0
        → Premise (put_minute o.minute (effect b o).after)
        × (comes (accepted_call b o area) + keeps b.holdings ≡ goes (accepted_call b o area) + keeps (put_minute o.minute (effect b o).after).holdings)
    unfolding put_minute put_day
    list_step b o bytes area p e z = (unfold put_minute put_day in order-premise b o bytes p e z, law b o area (order-step b o bytes p e z))

    pub by_step :
        keeps fresh.holdings ≡ 0 → (calls : List Call) → keeps (book_after fresh calls).holdings + sum goes (calls_on fresh calls)
        ≡ sum comes (calls_on fresh calls)
    by_step z calls = omega (arith, z, by_call Premise (λ b. keeps b.holdings) comes goes list_step fresh fresh-premise calls)

-- the issued count is what was admitted
pub issued : (s : ℕ) (calls : List Call) → issued_of s (book_after fresh calls).holdings ≡ issues s (calls_on fresh calls)
unfolding issues
issued s calls =
    let l =
    by_step (issued_of s) (shares_of 2 s) (λ c. 0) (λ b o area t. unfold shares_of in omega (arith, step_issued o.form b o (effect b o) t s))
    (unfold issued_of fresh in refl) calls
    in
    omega (arith, l, sum-none (calls_on fresh calls))

-- cash is pay-ins less pay-outs
pub cash : (c : ℕ) (calls : List Call) → cash_total c (book_after fresh calls).holdings + pay_outs c (calls_on fresh calls) ≡ pay_ins c (calls_on fresh calls)
unfolding pay_outs pay_ins
cash c =
    by_step (cash_total c) (cash_of_form 10 c) (cash_of_form 11 c)
    (λ b o area t. unfold cash_of_form in omega
    (arith, cash_exact t.moves b.holdings (effect b o).after.holdings t.proper t.changes c, t.figures.cash c))
    (none_paid c)

T_true : (t : Bool) → T t → t ≡ true
T_true true h = refl
T_true false h = absurd h

-- a pledged or blocked account holds what was put in less what was released
pub pledged :
    (a : Account) → T (pledged_or_blocked a.typ) → (calls : List Call)
    → (book_after fresh calls).holdings.balance a + released a (calls_on fresh calls) ≡ put_in a (calls_on fresh calls)
unfolding put_in released fresh
pledged a t =
    by_step (λ h. h.balance a) (λ c. put_in_at a c.order.form c.order) (λ c. released_at a c.order.form c.order)
    (λ b o area u. let p = u.figures.pledged a (T_true (pledged_or_blocked a.typ) t) in omega (arith, u.changes (account a), p.0, p.1))
    refl
