-- Every form makes a step: movements that its order says, that its rows show, and that nothing cuts off. Assumes nothing.
-- what a step is; the forms that make one movement; the cycle; requests
pub mod OneCall
pub mod Moving
pub mod Settling
pub mod Requesting
use Rattle.std.specs.Prelude.{Ok}
use mathlib.Core.Path.{◌≡◌, refl, ap, sym}
use mathlib.Core.Bool.{Bool, true, false, false≢true}
use mathlib.Core.List.{List, [], ◌∷◌}
use Prim.Native.Nat.{ℕ, ◌+◌}
use native.Mathlib.Omega.{arith}
use lib.ListN.{length}
use Rattle.rulebook.specs.declared.Order.{Order}
use Rattle.plain.specs.Lists.{◌is◌, ◌one_of◌, first, Each}
use Rattle.plain.proofs.Lists.{◌and◌}
use Rattle.rulebook.specs.Record.{read_of}
use Rattle.rulebook.specs.Ledger.{Ledger, Holdings, put_day, put_waiting, put_securities, put_rate}
use Rattle.rulebook.specs.Movements.{booked, credits, debits, recounted, book_has}
use Rattle.rulebook.specs.Rows.{posting_rows}
use Rattle.rulebook.specs.Forms.{Outcome, outcome, counts, silent, open_day, instruct, trade, cancel, cycle, decline, close, forms, row_of, effect, set_rate}
use Rattle.rulebook.specs.Refusals.{refusals}
use Rattle.rulebook.specs.Premise.{Premise}
use Rattle.rulebook.proofs.ByCall.{AllForms, either_answer, not_read, by_form}
use Rattle.rulebook.proofs.Orders.{accepted}
use Rattle.rulebook.proofs.Steps.OneCall.{writes_at, Figures, Recounts, admits-none, Spares, Step, Steps}
use Rattle.rulebook.proofs.Steps.Moving.{admit-steps, deposit-steps, withdraw-steps, transfer-steps, pledge_steps, release_steps, block_steps, unblock_steps, pay_in-steps, pay_out-steps}
use Rattle.rulebook.proofs.Steps.Settling.{confirm-step}
use Rattle.rulebook.proofs.Steps.Requesting.{request_steps, end_steps}

-- ---- a form that moves nothing: 1, 12 to 18, and 21 where it declines

each_off : (n : ℕ) (ks : List ℕ) → (n one_of ks) ≡ false → Each (λ k. (n is k) ≡ false) ks
each_off n [] e = tt
each_off n (k ∷ rest) e = go (n is k) refl (each_off n rest)
  where
    go : (t : Bool) → (n is k) ≡ t → ((n one_of rest) ≡ false → Each (λ k. (n is k) ≡ false) rest) → Each (λ k. (n is k) ≡ false) (k ∷ rest)
    go true p later = absurd (false≢true (sym (simp p at e)))
    go false p later = (p, later (simp p at e))

-- the forms that move shares or cash of their own
abbrev movers : List ℕ
movers = 2 ∷ 3 ∷ 4 ∷ 6 ∷ 7 ∷ 8 ∷ 9 ∷ 10 ∷ 11 ∷ 19 ∷ 20 ∷ []

no_figures : (n : ℕ) (b : Ledger) (o : Order) → (n one_of movers) ≡ false → Figures n b o []
no_figures n b o e =
    let t = each_off n movers e in
    let asks = t.1.1.1.1.1.1.1.1.1.0 in
    let ends = t.1.1.1.1.1.1.1.1.1.1.0 in
    record {
      held = λ s. simp (t.1.0, t.1.1.0, ends);
      outside = λ s. simp (t.0, t.1.0, t.1.1.0, ends);
      cash = λ c. simp (t.1.1.1.1.1.1.1.0, t.1.1.1.1.1.1.1.1.0);
      pledged = λ a q. (simp (t.1.1.1.1.0, t.1.1.1.1.1.1.0), simp (t.1.1.1.0, t.1.1.1.1.1.0));
      awaited = λ a q. (simp ends, simp asks);
    }

no_recounts :
    (n : ℕ) (b : Ledger) (o : Order) (x : Outcome) → (n one_of movers) ≡ false → x.after.holdings ≡ b.holdings
    → Recounts n b o b.holdings x.after.holdings
no_recounts n b o x e same s =
    let t = each_off n movers e in
    rw same (simp (t.1.0, t.1.1.0, t.1.1.1.1.1.1.1.1.1.1.0))

still :
    (n : ℕ) (b : Ledger) (o : Order) (x : Outcome) → Premise b → (n one_of movers) ≡ false → x.after.holdings ≡ b.holdings → (writes_at n ≡ 1 → x.rows ≡ [])
    → x.counts.rows ≡ length x.rows → Step n b o x
unfolding posting_rows booked credits debits recounted put_securities
still n b o x p t e r l = record {
  listed = b.holdings.securities;
  admits = unfold put_securities in admits-none n o b.holdings (each_off n movers t).0 p.codes;
  moves = [];
  holds = e;
  changes = λ p. ap (λ (h : Holdings). book_has p h + 0) e;
  proper = tt;
  rows = r;
  notices = λ _. refl;
  counted = l;
  figures = no_figures n b o t;
  recounts = no_recounts n b o x t e;
  spares = λ _ _. record { shares = λ a. omega arith; cash = λ m c. refl };
}

-- ---- all forms

all-steps : AllForms (λ n f. Steps n f.effect) 1 forms
unfolding forms row_of open_day instruct trade cancel cycle decline close set_rate silent outcome counts put_day put_waiting put_rate
all-steps =
    (λ b o e p a. still 1 b o (open_day b o) p refl refl (λ _. refl) refl)
    and admit-steps and deposit-steps and withdraw-steps and transfer-steps and pledge_steps and release_steps and block_steps and unblock_steps
    and pay_in-steps and pay_out-steps
    and (λ b o e p a. still 12 b o (instruct b o) p refl refl (λ _. refl) refl)
    and (λ b o e p a. still 13 b o (instruct b o) p refl refl (λ _. refl) refl)
    and (λ b o e p a. still 14 b o (trade b o) p refl refl (λ _. refl) refl)
    -- the rows of 15 and 17 are notices
    and (λ b o e p a. still 15 b o (cancel b o) p refl refl (λ z. absurd (omega (arith, z))) refl)
    and (λ b o e p a. still 16 b o (cycle b o) p refl refl (λ _. refl) refl)
    and (λ b o e p a. still 17 b o (close b o) p refl refl (λ z. absurd (omega (arith, z))) refl)
    and (λ b o e p a. still 18 b o (set_rate b o) p refl refl (λ _. refl) refl)
    and request_steps and end_steps
    and (λ b o e p a. either_answer (Step 21 b o) b o (confirm-step b o p) (still 21 b o (decline b) p refl refl (λ _. refl) refl)) and tt

-- an order that was read and that no test refuses makes a step; no order that was read has another form
pub order-step : (b : Ledger) (o : Order) (bytes : List ℕ) → Premise b → read_of bytes ≡ Ok o → first (refusals b o) ≡ 0 → Step o.form b o (effect b o)
unfolding effect
order-step b o bytes p e z =
    let a = accepted b o bytes e z in
    by_form (λ n f. Steps n f.effect) all-steps (λ m none b o e p a. absurd (not_read none e a.ranges.form)) o.form b o refl p a
