-- What one accepted call does: movements, which are its posting rows, and which are what its order says. Assumes nothing.
use Rattle.std.specs.Prelude.{if◌then◌else◌}
use mathlib.Core.Path.{◌≡◌, refl, sym, ap, subst, ◌∙◌}
use mathlib.Core.Bool.{true, false, ◌&&◌}
use mathlib.Core.List.{List, [], ◌∷◌}
use Prim.Native.Nat.{ℕ, ◌+◌, ◌≤◌}
use native.Mathlib.Omega.{arith}
use lib.ListN.{length}
use Rattle.rulebook.specs.declared.Order.{Order}
use Rattle.rulebook.specs.declared.Account.{Account}
use Rattle.rulebook.specs.declared.Security.{Security}
use Rattle.plain.specs.Lists.{◌is◌, ◌one_of◌}
use Rattle.rulebook.specs.TypeTable.{requested}
use Rattle.rulebook.specs.AccountTypes.{is_outside, pledged_or_blocked}
use Rattle.rulebook.specs.Ledger.{Ledger, Holdings, account_of, request_account, same_account, issued_of, held_of, put_securities}
use Rattle.rulebook.specs.Movements.{Place, account, type91, cash_of, Movement, booked, book_has}
use Rattle.rulebook.specs.Cycle.{offers}
use Rattle.rulebook.specs.Rows.{posting_rows}
use Rattle.rulebook.specs.Forms.{Outcome, new_request, ended_request, row_of}
use Rattle.rulebook.specs.Premise.{with_code, Premise}
use Rattle.rulebook.proofs.ByCall.{Effect}
use Rattle.rulebook.proofs.Orders.{Accepted}
use Rattle.rulebook.proofs.Securities.{booked-issued}
use Rattle.rulebook.proofs.Places.{brought, taken, booked-codes}
use Rattle.rulebook.proofs.Reading.{AllProper}
use Rattle.rulebook.proofs.Sums.{held_into, held_out, cash_into, cash_out}

-- the figures of demand 3, by form

abbrev pub shares_at : (which security : ℕ) → ℕ → Order → ℕ
shares_at which s form o = if form is which && o.security is s then o.quantity.0 else 0

abbrev pub cash_at : (which currency : ℕ) → ℕ → Order → ℕ
cash_at which c form o = if form is which && o.currency is c then o.amount.0 else 0

abbrev pub put_in_at : Account → ℕ → Order → ℕ
put_in_at a form o = if form one_of (6 ∷ 8 ∷ []) && same_account (account_of o.security o.credited) a then o.quantity.0 else 0

abbrev pub released_at : Account → ℕ → Order → ℕ
released_at a form o = if form one_of (7 ∷ 9 ∷ []) && same_account (account_of o.security o.debited) a then o.quantity.0 else 0

-- the shares of a request that leave on paper; what a new request brings into an account, and what an ended one takes out of it
abbrev pub paper_at : (security : ℕ) → ℕ → Ledger → Order → ℕ
paper_at s form b o = if form is 20 && is_outside o.credited.typ && (ended_request b o).security is s then (ended_request b o).quantity.0 else 0

abbrev pub asked_at : Account → ℕ → Ledger → Order → ℕ
asked_at a form b o =
    if form is 19 && same_account (request_account requested o.debited.member (new_request b.day.number o)) a then o.quantity.0 else 0

abbrev pub ended_at : Account → ℕ → Ledger → Order → ℕ
ended_at a form b o =
    if form is 20 && same_account (request_account requested o.debited.member (ended_request b o)) a then (ended_request b o).quantity.0 else 0

abbrev pub writes_at : ℕ → ℕ
writes_at form = if (row_of form).posts then 1 else 0

-- movements bring and take what the order's figures say
pub record Figures (form : ℕ) (b : Ledger) (o : Order) (moves : List Movement) : Type 0 where
  pub held : (s : ℕ) → held_out s moves + shares_at 3 s form o ≡ held_into s moves + (shares_at 4 s form o + paper_at s form b o)
  pub outside :
      (s : ℕ) → taken (type91 s) moves + (shares_at 2 s form o + (shares_at 4 s form o + paper_at s form b o)) ≡ brought (type91 s) moves + shares_at 3 s form o
  pub cash : (c : ℕ) → cash_out c moves + cash_at 10 c form o ≡ cash_into c moves + cash_at 11 c form o
  pub pledged :
      (a : Account) → pledged_or_blocked a.typ ≡ true → (taken (account a) moves ≡ released_at a form o) × (brought (account a) moves ≡ put_in_at a form o)
  pub awaited :
      (a : Account) → (a.typ is requested) ≡ true → (taken (account a) moves ≡ ended_at a form b o) × (brought (account a) moves ≡ asked_at a form b o)

-- held counts change by what the order's figures say
abbrev pub Recounts : (form : ℕ) (b : Ledger) (o : Order) (before after : Holdings) → Type 0
Recounts form b o h k = (s : ℕ) → held_of s k + (shares_at 4 s form o + paper_at s form b o) ≡ held_of s h + shares_at 3 s form o

-- a security may be admitted first: what is kept stays, codes stay distinct, its issued count is the order's quantity, and none of it is held
pub record Admits (form : ℕ) (o : Order) (h : Holdings) (listed : List Security) : Type 0 where
  pub keeps : (p : Place) → book_has p (put_securities listed h) ≡ book_has p h
  pub codes : (c : ℕ) → with_code c listed ≤ 1
  pub still : (c : ℕ) → with_code c h.securities ≤ with_code c listed
  pub issued : (s : ℕ) → shares_at 2 s form o + issued_of s h ≡ issued_of s (put_securities listed h)
  pub held : (s : ℕ) → held_of s (put_securities listed h) ≡ held_of s h

pub admits-none : (form : ℕ) (o : Order) (h : Holdings) → (form is 2) ≡ false → ((c : ℕ) → with_code c h.securities ≤ 1) → Admits form o h h.securities
unfolding put_securities
admits-none form o h e c = record { keeps = λ p. refl; codes = c; still = λ c. omega arith; issued = λ s. simp e (omega arith); held = λ s. refl }

-- RULES 9.22: while a cycle is sent, movements take from an account no more than it offers, and no cash at all
pub record Spares (b : Ledger) (moves : List Movement) : Type 0 where
  pub shares : (a : Account) → taken (account a) moves ≤ offers b.holdings b.waiting a
  pub cash : (m c : ℕ) → taken (cash_of m c) moves ≡ 0

-- what a form's outcome is
pub record Step (form : ℕ) (b : Ledger) (o : Order) (x : Outcome) : Type 0 where
  pub listed : List Security
  pub admits : Admits form o b.holdings listed
  pub moves : List Movement
  pub holds : x.after.holdings ≡ booked moves (put_securities listed b.holdings)
  pub changes : (p : Place) → book_has p x.after.holdings + taken p moves ≡ book_has p b.holdings + brought p moves
  pub proper : AllProper moves
  pub rows : writes_at form ≡ 1 → x.rows ≡ posting_rows moves
  pub notices : writes_at form ≡ 0 → moves ≡ []
  pub counted : x.counts.rows ≡ length x.rows
  pub figures : Figures form b o moves
  pub recounts : Recounts form b o b.holdings x.after.holdings
  -- all but the answer to the cycle
  pub spares : (form is 21) ≡ false → b.day.sent ≡ true → Spares b moves

-- a form makes such a step
abbrev pub Steps : ℕ → Effect → Type 0
Steps n f = (b : Ledger) (o : Order) → o.form ≡ n → Premise b → Accepted b o → Step n b o (f b o)

module _ (form : ℕ) (b : Ledger) (o : Order) (x : Outcome) (t : Step form b o x) where
  pub step_codes : (c : ℕ) → with_code c x.after.holdings.securities ≤ 1
  step_codes c =
      subst (λ (h : Holdings). with_code c h.securities ≤ 1) (sym t.holds)
      (unfold put_securities in omega (arith, booked-codes t.moves (put_securities t.listed b.holdings) c, t.admits.codes c))

  pub step_still : (c : ℕ) → with_code c b.holdings.securities ≤ with_code c x.after.holdings.securities
  step_still c =
      subst (λ (h : Holdings). with_code c b.holdings.securities ≤ with_code c h.securities) (sym t.holds)
      (unfold put_securities in omega (arith, booked-codes t.moves (put_securities t.listed b.holdings) c, t.admits.still c))

  pub step_issued : (s : ℕ) → shares_at 2 s form o + issued_of s b.holdings ≡ issued_of s x.after.holdings
  step_issued s = t.admits.issued s ∙ sym (booked-issued s t.moves (put_securities t.listed b.holdings)) ∙ ap (issued_of s) (sym t.holds)
