-- From a request that was opened or ended and a movement in the book that this left to what the form does. Assumes nothing.
use mathlib.Core.Path.{◌≡◌}
use mathlib.Core.Bool.{true, false}
use mathlib.Core.List.{List, [], ◌∷◌}
use Prim.Native.Nat.{ℕ}
use Rattle.rulebook.specs.TypeTable.{requested}
use Rattle.rulebook.specs.AccountTypes.{is_outside}
use Rattle.rulebook.specs.Ledger.{Ledger, no_request, account_of, request_account, put_requests, put_request}
use Rattle.rulebook.specs.Movements.{account, type91, move}
use Rattle.rulebook.specs.Forms.{moving, new_request, ended_request, request_paper, end_request}
use Rattle.rulebook.specs.declared.Account.{Account}
use Rattle.rulebook.specs.declared.Counts.{Counts}
use Rattle.rulebook.specs.declared.Order.{Order}
use Rattle.rulebook.specs.declared.Request.{Request}
use Rattle.book.specs.Handled.{Handled}

-- shares went from one account to another, in a book, with an area and counts
abbrev Did : (book before after : List ℕ) → Counts → Ledger → (from to : Account) → (quantity : ℕ) → Type 0
Did book before after c ledger from to quantity = Handled (moving (move (account from) (account to) quantity ∷ []) ledger) book before after c

module _ (b : Ledger) (o : Order) {now : Ledger} {x : Request} {from : Account} {book before after : List ℕ} {c : Counts} where
  -- 19
  pub requested-paper :
      {to : Account} → now ≡ put_requests (put_request o.debited.member o.reference x b.requests) b → x ≡ new_request b.day.number o
      → from ≡ account_of o.security o.debited → to ≡ request_account requested o.debited.member (new_request b.day.number o)
      → Did book before after c now from to o.quantity.0 → Handled (request_paper b o) book before after c
  unfolding request_paper
  requested-paper n q f t did = rw (n, q, f, t) at did

  -- 20, to a type of paper and outside
  pub ended_in_paper :
      {to : Account} → now ≡ put_requests (put_request o.debited.member o.reference no_request b.requests) b → x ≡ ended_request b o
      → from ≡ request_account requested o.debited.member (ended_request b o) → to ≡ request_account o.credited.typ o.debited.member x
      → (is_outside o.credited.typ) ≡ false
      → Did book before after c now from to x.quantity.0 → Handled (end_request b o) book before after c
  unfolding end_request
  ended_in_paper n q f t e did = rw e (rw (n, f, t, q) at did)

  pub ended_outside :
      now ≡ put_requests (put_request o.debited.member o.reference no_request b.requests) b → x ≡ ended_request b o
      → from ≡ request_account requested o.debited.member (ended_request b o) → (is_outside o.credited.typ) ≡ true
      → Handled (moving (move (account from) (type91 from.security) x.quantity.0 ∷ []) now) book before after c
      → Handled (end_request b o) book before after c
  unfolding end_request request_account
  ended_outside n q f e did = rw e (rw (n, f, q) at did)
