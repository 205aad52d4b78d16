-- The premise: the fresh book meets it, and every call keeps it, accepted or refused. Assumes nothing.
-- its parts: the number of accounts; who has a balance or cash; waiting items; their references; the day; what an order brings in; all forms; the rate;
-- the requests; what a sent cycle has fixed
pub mod Counting
pub mod Owners
pub mod Items
pub mod References
pub mod Days
pub mod NewItems
pub mod Keeping
pub mod Rated
pub mod Requested
pub mod Fixed
use Rattle.std.specs.Prelude.{Ok}
use mathlib.Core.Path.{◌≡◌, refl, subst}
use mathlib.Core.Bool.{Bool, true, false}
use mathlib.Core.List.{List, [], ◌∷◌}
use Prim.Native.Nat.{ℕ, ◌+◌, ◌≤◌}
use native.Mathlib.Omega.{arith}
use borrow.Author.Tests.{eqb-true, ltb-false}
use Rattle.rulebook.specs.declared.Order.{Order}
use Rattle.plain.specs.Lists.{◌is◌, first}
use Rattle.rulebook.specs.Record.{read_of}
use Rattle.rulebook.specs.Ledger.{Ledger, fresh, put_day, cash_total, issued_of, outside_of, held_of, held}
use Rattle.rulebook.specs.Movements.{type91}
use Rattle.rulebook.specs.Forms.{effect}
use Rattle.rulebook.specs.Refusals.{over_ceiling, refusals}
use Rattle.rulebook.specs.Call.{put_minute}
use Rattle.rulebook.specs.Calls.{Call, result_of, book_after}
use Rattle.rulebook.specs.Premise.{Sizes, account_count, Premise}
use Rattle.rulebook.proofs.ByCall.{by_answer}
use Rattle.rulebook.proofs.Orders.{accepted}
use Rattle.rulebook.proofs.Sums.{none_held, held-exact, none_paid, cash_exact}
use Rattle.rulebook.proofs.Steps.OneCall.{cash_at, Step, step_codes, step_issued}
use Rattle.rulebook.proofs.Steps.{order-step}
use Rattle.rulebook.proofs.Sizes.{fresh-sizes, space_sizes}
use Rattle.rulebook.proofs.EveryCall.Counting.{fresh-counted, step_counted}
use Rattle.rulebook.proofs.EveryCall.Owners.{fresh-owned}
use Rattle.rulebook.proofs.EveryCall.Days.{fresh-day}
use Rattle.rulebook.proofs.EveryCall.Keeping.{effect-keeps as form-keeps}
use Rattle.rulebook.proofs.EveryCall.Rated.{order-rate}
use Rattle.rulebook.proofs.EveryCall.Requested.{fresh-requested, order-requested}
use Rattle.rulebook.proofs.EveryCall.Fixed.{none_fixed, order-fixed}

pub fresh-premise : Premise fresh
unfolding fresh
fresh-premise = record {
  sizes = fresh-sizes;
  counted = fresh-counted;
  codes = λ c. omega arith;
  securities = tt;
  issue = λ s. unfold outside_of issued_of in omega (arith, none_held s);
  custody = λ s. unfold held_of in omega (arith, none_held s);
  accounts = fresh-owned.accounts;
  ceiling = λ c. omega (arith, none_paid c);
  cash = fresh-owned.cash;
  items = tt;
  references = λ s r. omega arith;
  halves = tt;
  day = fresh-day;
  sent = tt;
  covered = none_fixed _ [] tt;
  rate = record { least = omega arith; most = omega arith };
  sixteen = fresh-requested.sixteen;
  numbered = fresh-requested.numbered;
  requests = fresh-requested.fits;
  awaited = fresh-requested.awaited;
}

-- held + outside = issued
step_issue :
    (b : Ledger) (o : Order) → Step o.form b o (effect b o) → (s : ℕ) → held s b.holdings + outside_of s b.holdings ≡ issued_of s b.holdings
    → held s (effect b o).after.holdings + outside_of s (effect b o).after.holdings ≡ issued_of s (effect b o).after.holdings
step_issue b o t s e =
    omega (
      arith,
      held-exact s t.moves b.holdings (effect b o).after.holdings t.proper t.changes,
      t.figures.held s,
      t.changes (type91 s),
      t.figures.outside s,
      step_issued o.form b o (effect b o) t s,
    )

-- the held count that is kept is what is held
step_custody :
    (b : Ledger) (o : Order) → Step o.form b o (effect b o) → (s : ℕ) → held_of s b.holdings ≡ held s b.holdings
    → held_of s (effect b o).after.holdings ≡ held s (effect b o).after.holdings
step_custody b o t s e =
    omega (
      arith,
      held-exact s t.moves b.holdings (effect b o).after.holdings t.proper t.changes,
      t.figures.held s,
      t.recounts s,
    )

-- a pay-in that would pass the ceiling is refused, and nothing else raises a currency's total
paid_in_lem :
    (b : Ledger) (o : Order) → over_ceiling b.holdings o ≡ false → (c : ℕ) → cash_total c b.holdings ≤ 1_000_000_000_000_000
    → cash_total c b.holdings + cash_at 10 c o.form o ≤ 1_000_000_000_000_000
unfolding over_ceiling
paid_in_lem b o w c l = go (o.form is 10) (o.currency is c) refl refl
  where
    go : (x y : Bool) → (o.form is 10) ≡ x → (o.currency is c) ≡ y → cash_total c b.holdings + cash_at 10 c o.form o ≤ 1_000_000_000_000_000
    go true true p q =
        let z : cash_total o.currency b.holdings + o.amount.0 ≤ 1_000_000_000_000_000 = ltb-false _ _ (simp p at w) in
        simp (p, q) (subst (λ (x : ℕ). cash_total x b.holdings + o.amount.0 ≤ 1_000_000_000_000_000) (eqb-true o.currency c q) z)
    go true false p q = simp (p, q) (omega arith)
    go false y p q = simp p (omega arith)

step_ceiling :
    (b : Ledger) (o : Order) → Step o.form b o (effect b o) → over_ceiling b.holdings o ≡ false → (c : ℕ) → cash_total c b.holdings ≤ 1_000_000_000_000_000
    → cash_total c (effect b o).after.holdings ≤ 1_000_000_000_000_000
step_ceiling b o t w c l =
    omega (
      arith,
      cash_exact t.moves b.holdings (effect b o).after.holdings t.proper t.changes c,
      t.figures.cash c,
      paid_in_lem b o w c l,
    )

minute-sizes : (minute : ℕ) (b : Ledger) → Sizes b → Sizes (put_minute minute b)
unfolding put_minute put_day
minute-sizes minute b s = record { securities = s.securities; items = s.items; accounts = s.accounts }

-- an accepted order keeps it
pub order-premise :
    (b : Ledger) (o : Order) (bytes : List ℕ) → Premise b → read_of bytes ≡ Ok o → first (refusals b o) ≡ 0
    → Premise (put_minute o.minute (effect b o).after)
unfolding put_minute put_day
order-premise b o bytes p e z =
    let a = accepted b o bytes e z in
    let t = order-step b o bytes p e z in
    let k = form-keeps b o p a in
    let r = order-requested b o p a t in
    let f = order-fixed b o p a t in
    record {
      sizes = unfold put_minute put_day in minute-sizes o.minute (effect b o).after (space_sizes b o a.space);
      counted = step_counted o.form b o (effect b o) t p.counted;
      codes = step_codes o.form b o (effect b o) t;
      securities = k.owned.securities;
      issue = λ s. step_issue b o t s (p.issue s);
      custody = λ s. step_custody b o t s (p.custody s);
      accounts = k.owned.accounts;
      ceiling = λ c. step_ceiling b o t a.ceiling c (p.ceiling c);
      cash = k.owned.cash;
      items = k.items;
      references = k.references;
      halves = k.halves;
      day = k.day;
      sent = f.sent;
      covered = f.covered;
      rate = order-rate b o p.rate a;
      sixteen = r.sixteen;
      numbered = r.numbered;
      requests = r.fits;
      awaited = r.awaited;
    }

-- and so does any call, with any record and any area
pub call_premise : (b : Ledger) (c : Call) → Premise b → Premise (result_of b c).book
call_premise = by_answer (λ b _ after. Premise b → Premise after) (λ b p. p) (λ b o bytes area e z p. order-premise b o bytes p e z)

-- and any list of calls
pub calls-premise : (b : Ledger) → Premise b → (calls : List Call) → Premise (book_after b calls)
unfolding book_after
calls-premise b p [] = p
calls-premise b p (c ∷ rest) = calls-premise (result_of b c).book (call_premise b c p) rest

-- so the number of accounts that a book carries is the number of those with a balance, in every book that calls lead to
pub accounts_counted : (calls : List Call) → (book_after fresh calls).holdings.accounts ≡ account_count (book_after fresh calls).holdings
accounts_counted calls = (calls-premise fresh fresh-premise calls).counted
