-- Part 2 of the premise: the number of accounts is the number of those with a balance. Assumes nothing.
use mathlib.Core.Path.{◌≡◌, refl, sym, subst}
use mathlib.Core.List.{List, [], ◌∷◌}
use Prim.Native.Nat.{ℕ, ◌^◌}
use Rattle.rulebook.specs.declared.Security.{Security}
use Rattle.rulebook.specs.declared.Order.{Order}
use Rattle.rulebook.specs.Ledger.{Holdings, Ledger, fresh, counted, put_cash, put_securities, put_outside, put_held}
use Rattle.rulebook.specs.Movements.{Place, account, type91, type90, cash_of, member0, Movement, credit, debit, put_at}
use Rattle.rulebook.specs.Forms.{Outcome}
use Rattle.rulebook.specs.Premise.{account_count}
use Rattle.plain.proofs.Sums.{sum-none}
use Rattle.rulebook.proofs.Held.{accounts_put}
use Rattle.rulebook.proofs.Reading.{Proper, AllProper}
use Rattle.rulebook.proofs.Booking.{Both, booked-keeps}
use Rattle.rulebook.proofs.Steps.OneCall.{Step}

abbrev pub Counted : Holdings → Type 0
Counted h = h.accounts ≡ account_count h

pub fresh-counted : Counted fresh.holdings
unfolding account_count fresh counted
fresh-counted = sym (sum-none (2 ^ 14) _ (λ s _. sum-none (2 ^ 10) _ (λ m _. sum-none (2 ^ 8) _ (λ t _. sum-none (2 ^ 30) _ (λ k _. refl)))))

put-counted : (q : Place) (v : ℕ) (h : Holdings) → Proper q → Counted h → Counted (put_at q v h)
unfolding account_count put_cash put_securities put_outside
put-counted (account a) v h f e = accounts_put h a v f.0 f.1 f.2 f.3 e
put-counted (type91 s) v h f e = e
put-counted (type90 s) v h f e = e
put-counted (cash_of m c) v h f e = e
put-counted (member0 c) v h f e = e

put-held : (s v : ℕ) (h : Holdings) → Counted h → Counted (put_held s v h)
unfolding account_count put_securities put_held
put-held s v h e = e

both_proper : (ms : List Movement) → AllProper ms → Both Proper ms
both_proper [] f = tt
both_proper (m ∷ rest) f = (f.0, f.1, both_proper rest f.3)

listed-counted : (xs : List Security) (h : Holdings) → Counted h → Counted (put_securities xs h)
unfolding account_count put_securities
listed-counted xs h e = e

-- a step keeps it
pub step_counted : (n : ℕ) (b : Ledger) (o : Order) (x : Outcome) → Step n b o x → Counted b.holdings → Counted x.after.holdings
step_counted n b o x t e =
    subst Counted (sym t.holds)
    (booked-keeps Proper Counted (λ q n h. unfold credit in put-counted q _ h) (λ q n h. unfold debit in put-counted q _ h)
    put-held t.moves (both_proper t.moves t.proper) (put_securities t.listed b.holdings) (listed-counted t.listed b.holdings e))
