-- From the effect of each form to lists of calls: what a claim of demand 3 has to show is its step, one form at a time. Assumes nothing.
use Rattle.std.specs.Prelude.{if◌then◌else◌, Ok, Err}
use mathlib.Core.Path.{◌≡◌, refl, ap, subst}
use mathlib.Core.Bool.{Bool, true, false, ◌||◌}
use mathlib.Core.List.{List, [], ◌∷◌}
use Prim.Native.Nat.{ℕ, zero, suc, ◌+◌, ◌≤◌}
use native.Mathlib.Nat.{add-zero, add-suc, suc-add}
use native.Mathlib.Numerals.{one-add}
use native.Mathlib.Omega.{arith}
use borrow.Author.Tests.{eqb-true}
use lib.ListN.{length, get_or}
use Rattle.plain.proofs.Tests.{neither}
use Rattle.rulebook.specs.declared.Order.{Order}
use Rattle.rulebook.specs.declared.Day.{Day}
use Rattle.rulebook.specs.Answers.{Read}
use Rattle.plain.specs.Lists.{◌is◌, ◌below◌, total, first}
use Rattle.plain.proofs.Lists.{total-append}
use Rattle.rulebook.specs.Ledger.{Ledger}
use Rattle.rulebook.specs.Record.{read_of}
use Rattle.rulebook.specs.Forms.{Outcome, Form, forms, no_row, row_of, window_of, effect, confirm, decline, answer_cycle}
use Rattle.rulebook.specs.Refusals.{refusals}
use Rattle.rulebook.specs.Call.{Result, put_minute, accepted, refused, order_call, read_call, call_of}
use Rattle.rulebook.specs.Calls.{Call, call, Made, result_of, record_in, calls_on, book_after, Accepted, accepted_of, accepted_calls, sum}

-- what a form does
abbrev pub Effect : Type 0
Effect = Ledger → Order → Outcome

-- what holds of each row of a list of forms, numbered from n
abbrev pub AllForms : (ℕ → Form → Type 0) → ℕ → List Form → Type 0
AllForms P n [] = Unit {0}
AllForms P n (f ∷ rest) = P n f × AllForms P (suc n) rest

-- what an order does, and when it may come, by its form's row
pub effect-at : (n : ℕ) (b : Ledger) (o : Order) → o.form ≡ n → effect b o ≡ (row_of n).effect b o
unfolding effect
effect-at n b o e = ap (λ (k : ℕ). (row_of k).effect b o) e

pub window_at : (n : ℕ) (d : Day) (o : Order) → o.form ≡ n → window_of d o ≡ (row_of n).window d o
unfolding window_of
window_at n d o e = ap (λ (k : ℕ). (row_of k).window d o) e

-- an answer to a cycle confirms or declines
pub either_answer : (P : Outcome → Type 0) (b : Ledger) (o : Order) → P (confirm b) → P (decline b) → P (answer_cycle b o)
unfolding answer_cycle
either_answer P b o confirmed declined = go (o.quantity.0 is 1)
  where
    go : (t : Bool) → P (if t then confirm b else decline b)
    go true = confirmed
    go false = declined

-- a number that a row has
abbrev pub HasForm : ℕ → Type 0
HasForm n = (1 ≤ n) × (n ≤ length forms)

-- no order that was read has another
pub not_read : {n m : ℕ} → (HasForm m → ⊥) → n ≡ m → HasForm n → ⊥
not_read none e r = none (subst HasForm e r)

module _ (P : ℕ → Form → Type 0) where
  form-at : (fs : List Form) (n k : ℕ) (d : Form) → AllForms P n fs → ((m : ℕ) → n + length fs ≤ m → P m d) → P (n + k) (get_or fs k d)
  form-at [] n k d a h = h (n + k) (omega arith)
  form-at (f ∷ rest) n zero d a h = rw add-zero a.0
  form-at (f ∷ rest) n (suc k) d a h = rw (add-suc n k, ← suc-add n k) (form-at rest (suc n) k d a.1 (λ m l. h m (omega arith)))

  -- what holds of every row of the table, and of no row at other numbers, holds of the row of any number
  pub by_form : AllForms P 1 forms → ((m : ℕ) → (HasForm m → ⊥) → P m no_row) → (n : ℕ) → P n (row_of n)
  unfolding row_of
  by_form a h zero = h 0 (λ w. absurd (omega (arith, w.0)))
  by_form a h (suc n) = rw (← one-add n) (form-at forms 1 n no_row a (λ m l. h m (λ w. absurd (omega (arith, l, w.1)))))

-- a row of a list of forms, numbered from n, is wrong
abbrev pub any_form : (ℕ → Form → Bool) → ℕ → List Form → Bool
any_form wrong n [] = false
any_form wrong n (f ∷ rest) = wrong n f || any_form wrong (suc n) rest

-- a table's rule: what one computed test says of all rows holds of the row of any number
module _ (wrong : ℕ → Form → Bool) where
  all_right : (Q : ℕ → Type 0) (fs : List Form) (n : ℕ) → any_form wrong n fs ≡ false → AllForms (λ n f. Q n → wrong n f ≡ false) n fs
  all_right Q [] n e = tt
  all_right Q (f ∷ rest) n e = let t = neither (wrong n f) (any_form wrong (suc n) rest) e in ((λ _. t.0), all_right Q rest (suc n) t.1)

  pub by_row : any_form wrong 1 forms ≡ false → (n : ℕ) → HasForm n → wrong n (row_of n) ≡ false
  by_row e = by_form (λ n f. HasForm n → wrong n f ≡ false) (all_right HasForm forms 1 e) (λ m none has. absurd (none has))

  pub by_test_lem : any_form wrong 1 forms ≡ false → ((m : ℕ) → wrong m no_row ≡ false) → (n : ℕ) → wrong n (row_of n) ≡ false
  by_test_lem e z n = by_form (λ n f. Unit {0} → wrong n f ≡ false) (all_right (λ _. Unit {0}) forms 1 e) (λ m none _. z m) n tt

-- a figure of an accepted call
abbrev pub Figure : Type 0
Figure = Accepted → ℕ

-- the call of an order that is accepted
abbrev pub accepted_call : Ledger → Order → (area : List ℕ) → Accepted
accepted_call b o area = record { order = o; counts = (effect b o).counts; area = (accepted (effect b o) o.minute area).area }

-- What a call does to a book: from what nothing accepted does to it, and from what an accepted order does
module _
    (Does : Ledger → List Accepted → Ledger → Type 0)
    (refuses : (b : Ledger) → Does b [] b)
    (accepts :
    (b : Ledger) (o : Order) (bytes area : List ℕ) → read_of bytes ≡ Ok o → first (refusals b o) ≡ 0
    → Does b (accepted_call b o area ∷ []) (put_minute o.minute (effect b o).after))
  where
    abbrev Did : Ledger → Read → Result → Type 0
    Did b r x = Does b (accepted_of x.answer r x.area) x.book

    order-does : (b : Ledger) (o : Order) (area bytes : List ℕ) → read_of bytes ≡ Ok o → Did b (Ok o) (order_call b o area)
    unfolding order_call accepted refused accepted_of
    order-does b o area bytes e = go (first (refusals b o) is 0) refl
      where
        go : (t : Bool) → (first (refusals b o) is 0) ≡ t → Did b (Ok o) (order_call b o area)
        go true p = simp p (accepts b o bytes area e (eqb-true _ 0 p))
        go false p = simp p (refuses b)

    read_does : (b : Ledger) (r : Read) (area bytes : List ℕ) → read_of bytes ≡ r → Did b r (read_call b r area)
    unfolding read_call refused accepted_of
    read_does b (Ok o) area bytes e = order-does b o area bytes e
    read_does b (Err n) area bytes e = refuses b

    call_does : (b : Ledger) (bytes area : List ℕ) → Did b (read_of bytes) (call_of b bytes area)
    unfolding call_of refused accepted_of
    call_does b bytes area = go (length area below 4_096) refl
      where
        go : (t : Bool) → (length area below 4_096) ≡ t → Did b (read_of bytes) (call_of b bytes area)
        go true p = simp p (refuses b)
        go false p = simp p (read_does b (read_of bytes) area bytes refl)

    pub by_answer : (b : Ledger) (c : Call) → Did b (record_in c) (result_of b c)
    unfolding result_of record_in
    by_answer b (call bytes area) = call_does b bytes area

-- A quantity of the book, kept true by what comes and what goes; Inv is what calls keep true of a book
module _
    (Inv : Ledger → Type 0)
    (kept : Ledger → ℕ)
    (comes goes : Figure)
    (step :
    (b : Ledger) (o : Order) (bytes area : List ℕ) → Inv b → read_of bytes ≡ Ok o → first (refusals b o) ≡ 0
    → Inv (put_minute o.minute (effect b o).after)
    × (comes (accepted_call b o area) + kept b ≡ goes (accepted_call b o area) + kept (put_minute o.minute (effect b o).after)))
  where
    abbrev Keeps : Ledger → List Accepted → Ledger → Type 0
    Keeps b calls after = Inv b → Inv after × (total comes calls + kept b ≡ total goes calls + kept after)

    result-step : (b : Ledger) (c : Call) → Keeps b (accepted_of (result_of b c).answer (record_in c) (result_of b c).area) (result_of b c).book
    result-step =
        by_answer Keeps (λ b i. (i, refl)) (λ b o bytes area e z i. let s = step b o bytes area i e z in (s.0, omega (arith, s.1)))

    -- over any list of calls: what came and what was kept is what went and what is kept
    pub by_call : (b : Ledger) → Inv b → (calls : List Call) → sum comes (calls_on b calls) + kept b ≡ sum goes (calls_on b calls) + kept (book_after b calls)
    unfolding calls_on book_after sum accepted_calls
    by_call b i [] = refl
    by_call b i (c ∷ rest) =
        let s = result-step b c i in
        let x : Result = result_of b c in
        let first = accepted_of x.answer (record_in c) x.area in
        let later = accepted_calls (calls_on x.book rest) in
        omega (arith, s.1, by_call x.book s.0 rest, total-append comes first later, total-append goes first later)

-- the sum of a figure that is always 0
pub sum-none : (h : List Made) → sum (λ c. 0) h ≡ 0
unfolding sum
sum-none h = total-none (accepted_calls h)
  where
    total-none : (l : List Accepted) → total (λ c. 0) l ≡ 0
    total-none [] = refl
    total-none (c ∷ rest) = omega (arith, total-none rest)
