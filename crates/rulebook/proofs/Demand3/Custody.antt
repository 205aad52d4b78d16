-- Held is deposits less withdrawals, those on paper among them, over any list of calls: an open request is the one that was asked for last under its
-- member's reference. Assumes nothing.
use Rattle.std.specs.Prelude.{if◌then◌else◌, Ok}
use mathlib.Core.Path.{◌≡◌, refl, sym, subst}
use mathlib.Core.Bool.{Bool, true, false, ◌&&◌}
use mathlib.Core.List.{List, [], ◌∷◌, ◌++◌}
use Prim.Native.Nat.{ℕ, ◌+◌, ◌≤◌}
use native.Mathlib.Omega.{arith}
use borrow.Author.Tests.{eqb-true}
use Rattle.plain.specs.Lists.{◌is◌, total, first}
use Rattle.plain.proofs.Lists.{total-append}
use Rattle.rulebook.specs.Record.{read_of}
use Rattle.rulebook.specs.Ledger.{Ledger, Requests, fresh, no_request, put_day, put_request, held}
use Rattle.rulebook.specs.Forms.{new_request, effect}
use Rattle.rulebook.specs.Refusals.{refusals}
use Rattle.rulebook.specs.Call.{Result, put_minute}
use Rattle.rulebook.specs.AccountTypes.{is_outside}
use Rattle.rulebook.specs.Calls.{Call, result_of, record_in, calls_on, book_after, Accepted, accepted_of, accepted_calls, sum, shares_of, deposits, last_asked, left_with, left_on_paper, withdrawals}
use Rattle.rulebook.specs.Premise.{Premise}
use Rattle.rulebook.specs.declared.Order.{Order}
use Rattle.rulebook.specs.declared.Request.{Request}
use Rattle.rulebook.proofs.ByCall.{accepted_call, by_answer}
use Rattle.rulebook.proofs.Orders as Orders
use Rattle.rulebook.proofs.Orders.{accepted, is_ended}
use Rattle.rulebook.proofs.Sums.{none_held, held-exact}
use Rattle.rulebook.proofs.Steps.OneCall.{paper_at}
use Rattle.rulebook.proofs.Steps.{order-step}
use Rattle.rulebook.proofs.EveryCall.{fresh-premise, order-premise}
use Rattle.rulebook.proofs.EveryCall.Requested.{requests_after, effect-requests}

-- what a request asks for of a security
abbrev of : (security : ℕ) → Request → ℕ
of s x = if x.security is s then x.quantity.0 else 0

-- every open request is the one that was asked for last under its member's reference
abbrev Traced : Requests → (earlier : List Accepted) → Type 0
Traced r earlier = (m n s : ℕ) → 1 ≤ (r.asked m n).quantity.0 → last_asked s m n earlier ≡ of s (r.asked m n)

-- calls that came later, put before those that came earlier
onto : List Accepted → List Accepted → List Accepted
onto [] earlier = earlier
onto (c ∷ rest) earlier = onto rest (c ∷ earlier)

left-append :
    (s : ℕ) (earlier calls more : List Accepted)
    → left_on_paper s earlier (calls ++ more) ≡ left_on_paper s earlier calls + left_on_paper s (onto calls earlier) more
unfolding left_on_paper onto
left-append s earlier [] more = omega arith
left-append s earlier (c ∷ rest) more = omega (arith, left-append s (c ∷ earlier) rest more)

module _ (b : Ledger) (o : Order) (c : Accepted) (own : c.order ≡ o) (earlier : List Accepted) (t : Traced b.requests earlier) where
  -- a form 19 is the last for its member and reference
  opened : o.form ≡ 19 → Traced (put_request o.debited.member o.reference (new_request b.day.number o) b.requests) (c ∷ earlier)
  unfolding last_asked shares_of put_request
  opened e m n s l = rw own (simp e (go (o.debited.member is m && o.reference is n) refl l))
    where
      go :
          (u : Bool) → (o.debited.member is m && o.reference is n) ≡ u
          → 1 ≤ (if u then new_request b.day.number o else b.requests.asked m n).quantity.0
          → (if u then if o.security is s then o.quantity.0 else 0 else last_asked s m n earlier)
          ≡ of s (if u then new_request b.day.number o else b.requests.asked m n)
      go true p l = refl
      go false p l = t m n s l

  -- a form 20 ends one, and asks for none
  ended : o.form ≡ 20 → Traced (put_request o.debited.member o.reference no_request b.requests) (c ∷ earlier)
  unfolding last_asked put_request
  ended e m n s l = rw own (simp e (go (o.debited.member is m && o.reference is n) refl l))
    where
      go :
          (u : Bool) → (o.debited.member is m && o.reference is n) ≡ u → 1 ≤ (if u then no_request else b.requests.asked m n).quantity.0
          → last_asked s m n earlier ≡ of s (if u then no_request else b.requests.asked m n)
      go true p l = absurd (omega arith)
      go false p l = t m n s l

  -- no other does either
  same : (o.form is 19) ≡ false → Traced b.requests (c ∷ earlier)
  unfolding last_asked
  same e m n s l = rw own (simp e (t m n s l))

  still_traced : Traced (requests_after o.form b o) (c ∷ earlier)
  still_traced = go (o.form is 19) (o.form is 20) refl refl
    where
      go : (x y : Bool) → (o.form is 19) ≡ x → (o.form is 20) ≡ y → Traced (requests_after o.form b o) (c ∷ earlier)
      go true y u v = simp u (opened (eqb-true o.form 19 u))
      go false true u v = simp (u, v) (ended (eqb-true o.form 20 v))
      go false false u v = simp (u, v) (same u)

  -- what a form 20 to 91 takes out of the book is what its form 19 asked for
  left_is : (s : ℕ) → Orders.Accepted b o → left_with s earlier c ≡ paper_at s o.form b o
  unfolding left_with
  left_is s a = rw own (go (o.form is 20) (is_outside o.credited.typ) refl refl)
    where
      go :
          (x y : Bool) → (o.form is 20) ≡ x → (is_outside o.credited.typ) ≡ y
          → (if o.form is 20 && is_outside o.credited.typ then last_asked s o.debited.member o.reference earlier else 0) ≡ paper_at s o.form b o
      go true true u v = simp (u, v) (t o.debited.member o.reference s (is_ended b o (eqb-true o.form 20 u) a.request).0)
      go true false u v = simp (u, v)
      go false y u v = simp u

module _ (s : ℕ) where
  -- what a call does to what is held, with the calls before it
  abbrev Keeps : Ledger → List Accepted → Ledger → Type 0
  Keeps b calls after =
      (earlier : List Accepted) → Premise b → Traced b.requests earlier
      → Premise after × Traced after.requests (onto calls earlier)
      × (held s after.holdings + (total (shares_of 4 s) calls + left_on_paper s earlier calls) ≡ held s b.holdings + total (shares_of 3 s) calls)

  order-keeps :
      (b : Ledger) (o : Order) (bytes area : List ℕ) → read_of bytes ≡ Ok o → first (refusals b o) ≡ 0
      → Keeps b (accepted_call b o area ∷ []) (put_minute o.minute (effect b o).after)
  unfolding onto left_on_paper put_minute put_day
  order-keeps b o bytes area e z earlier p t =
      let a = accepted b o bytes e z in
      let c = accepted_call b o area in
      let step = order-step b o bytes p e z in (
        (unfold put_minute put_day in order-premise b o bytes p e z),
        subst (λ (r : Requests). Traced r (c ∷ earlier)) (sym (effect-requests b o).0) (still_traced b o c refl earlier t),
        unfold shares_of in omega (
          arith,
          held-exact s step.moves b.holdings (effect b o).after.holdings step.proper step.changes,
          step.figures.held s,
          left_is b o c refl earlier t s a,
        ),
      )

  result-keeps : (b : Ledger) (c : Call) → Keeps b (accepted_of (result_of b c).answer (record_in c) (result_of b c).area) (result_of b c).book
  unfolding onto left_on_paper
  result-keeps = by_answer Keeps (λ b earlier p t. (p, t, refl)) order-keeps

  from :
      (b : Ledger) (earlier : List Accepted) → Premise b → Traced b.requests earlier → (calls : List Call)
      → held s (book_after b calls).holdings + (sum (shares_of 4 s) (calls_on b calls) + left_on_paper s earlier (accepted_calls (calls_on b calls)))
      ≡ held s b.holdings + sum (shares_of 3 s) (calls_on b calls)
  unfolding calls_on book_after sum accepted_calls left_on_paper
  from b earlier p t [] = refl
  from b earlier p t (c ∷ rest) =
      let k = result-keeps b c earlier p t in
      let x : Result = result_of b c in
      let now = accepted_of x.answer (record_in c) x.area in
      let later = accepted_calls (calls_on x.book rest) in
      omega (
        arith,
        k.2,
        from x.book (onto now earlier) k.0 k.1 rest,
        total-append (shares_of 3 s) now later,
        total-append (shares_of 4 s) now later,
        left-append s earlier now later,
      )

-- held is deposits less withdrawals
pub custody : (s : ℕ) (calls : List Call) → held s (book_after fresh calls).holdings + withdrawals s (calls_on fresh calls) ≡ deposits s (calls_on fresh calls)
unfolding withdrawals deposits fresh
custody s calls = omega (arith, none_held s, from s fresh [] fresh-premise (λ m n s l. absurd (omega arith)) calls)
