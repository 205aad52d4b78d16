-- What a confirmation settles, and what waits on: each waiting item is one of the two. Assumes nothing.
use mathlib.Core.Path.{◌≡◌}
use mathlib.Core.Bool.{not}
use Prim.Native.Nat.{ℕ, ◌+◌}
use native.Mathlib.Omega.{arith}
use lib.ListN.{length}
use Rattle.plain.specs.Lists.{total, Each}
use Rattle.plain.proofs.Lists.{keep-split, length_total, each_kept}
use Rattle.rulebook.specs.declared.Item.{Item}
use Rattle.rulebook.specs.Ledger.{Ledger}
use Rattle.rulebook.specs.Premise.{SentFits}
use Rattle.rulebook.specs.Cycle.{fixed, settled, not_settled}
use Rattle.rulebook.proofs.Selection.Fixing.{Due, is_due_lem}

pub settled-total : (figure : Item → ℕ) (book : Ledger) → total figure (settled book) + total figure (not_settled book) ≡ total figure book.waiting
unfolding settled not_settled fixed
settled-total figure book = keep-split figure (λ i. i.sent) book.waiting

pub settled-length : (book : Ledger) → length (settled book) + length (not_settled book) ≡ length book.waiting
settled-length book =
    omega (arith, settled-total (λ i. 1) book, length_total (settled book), length_total (not_settled book), length_total book.waiting)

-- what each waiting item is, each is that settles or waits on
module _ (P : Item → Type 0) (book : Ledger) (p : Each P book.waiting) where
  pub settled-fits : Each P (settled book)
  unfolding settled fixed
  settled-fits = each_kept P P (λ i. i.sent) (λ i t q. q) book.waiting p

  pub not_settled-fits : Each P (not_settled book)
  unfolding not_settled
  not_settled-fits = each_kept P P (λ i. not i.sent) (λ i t q. q) book.waiting p

-- what settles is a trade whose day has come
pub settled-due : (book : Ledger) → Each (SentFits book.day) book.waiting → Each (Due book.day.number) (settled book)
unfolding settled fixed
settled-due book = each_kept (SentFits book.day) (Due book.day.number) (λ i. i.sent) (λ i t f. is_due_lem book.day.number i (f t).1) book.waiting
