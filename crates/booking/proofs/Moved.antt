-- From what the book and the rows were told to one movement of shares. Assumes nothing.
use Prim.Native.Nat.{ℕ, ◌<◌, ◌^◌}
use mathlib.Core.Path.{◌≡◌, refl, ap}
use mathlib.Core.List.{List, [], ◌∷◌, ◌++◌}
use lib.ListN.{drop}
use native.Mathlib.Omega.{arith}
use Rattle.rulebook.specs.Ledger.{Ledger, Holdings, put_holdings, put_securities, put_balance, put_outside, put_held, held_of}
use Rattle.rulebook.specs.Movements.{Place, Movement, move, account, type91, credit, debit, credits, debits, recount, recounted, booked}
use Rattle.rulebook.specs.Rows.{posting_rows, rows_bytes}
use Rattle.rulebook.specs.Forms.{outcome, counts, moving}
use Rattle.rulebook.specs.declared.Account.{Account}
use Rattle.rulebook.specs.declared.Counts.{Counts}
use Rattle.rulebook.specs.Ranges.{AccountInRange}
use Rattle.parties.specs.Counted.{outside_account}
use Rattle.book.specs.Meaning.{ledger_of}
use Rattle.book.specs.Stored.{Means, HoldingsBecome, left}
use Rattle.book.specs.Handled.{Handled}
use Rattle.book.proofs.Parts.{next}
use Rattle.book.proofs.Handled.{means_so}

-- types 90 and 91, as a row names them
pub outside-row : (typ security : ℕ) → typ < 2 ^ 8 → security < 2 ^ 14 → AccountInRange (outside_account typ security)
outside-row typ security l m = record { security = m; member = omega arith; typ = l; shareholder = omega arith }

-- the rows of a movement stand at the area's start
abbrev pub Wrote : Movement → (before after : List ℕ) → Type 0
Wrote m before after = after ≡ rows_bytes (posting_rows (m ∷ [])) ++ drop 32 before

module _ (b : Ledger) {book before after : List ℕ} {c : Counts} (counted : c ≡ counts 2 0 0 0 0 0) where
  -- the holdings are credited and debited, in either order
  pub moved :
      (from to : Place) (q : ℕ) → Means book (put_holdings (recount from to q (debit from q (credit to q b.holdings))) b)
      → Wrote (move from to q) before after → Handled (moving (move from to q ∷ []) b) book before after c
  unfolding moving outcome posting_rows booked credits debits recounted
  moved from to q means wrote = record { stored = means.stored; ledger = means.ledger; counted = counted; written = wrote }

  -- in two steps that come to the movement
  pub stepwise :
      (from to : Place) (q : ℕ) {first : List ℕ} (f g : Holdings → Holdings)
      → g (f b.holdings) ≡ recount from to q (debit from q (credit to q b.holdings)) → Means first (put_holdings (f b.holdings) b)
      → HoldingsBecome g first book → Wrote (move from to q) before after → Handled (moving (move from to q ∷ []) b) book before after c
  unfolding put_holdings
  stepwise from to q f g same one two wrote =
      let both = next (λ x. put_holdings (g x.holdings) x) one two in
      moved from to q (means_so _ _ _ both (ap (λ (h : Holdings). put_holdings h b) same)) wrote

  -- from one account to another: the debit comes first
  pub shifted :
      {first : List ℕ} (from to : Account) (q : ℕ)
      → credit (account to) q (debit (account from) q b.holdings) ≡ debit (account from) q (credit (account to) q b.holdings)
      → Means first (put_holdings (debit (account from) q b.holdings) b) → HoldingsBecome (credit (account to) q) first book
      → Wrote (move (account from) (account to) q) before after → Handled (moving (move (account from) (account to) q ∷ []) b) book before after c
  shifted from to q swap one two wrote =
      stepwise (account from) (account to) q (debit (account from) q) (credit (account to) q) swap one two wrote

-- shares leave custody: the order of the two steps is free
pub either_order :
    (h : Holdings) (a : Account) (s q : ℕ) → debit (account a) q (left s q h) ≡ recount (account a) (type91 s) q (debit (account a) q (credit (type91 s) q h))
unfolding credit debit put_balance put_outside put_held put_securities held_of
either_order h a s q = refl

-- and the first leaves the balances
pub balance_kept :
    (b : Ledger) (book : List ℕ) (s q : ℕ) (a : Account) → Means book (put_holdings (left s q b.holdings) b)
    → (ledger_of book).holdings.balance a ≡ b.holdings.balance a
unfolding credit put_outside put_held put_securities put_holdings
balance_kept b book s q a means = ap (λ (x : Ledger). x.holdings.balance a) means.ledger
