-- A member's cash is stored: what every member has then. Assumes nothing.
use Rattle.std.specs.Prelude.{if◌then◌else◌}
use Prim.Native.Nat.{ℕ, ◌+◌, ◌-◌, ◌*◌, ◌≤◌, ◌<◌}
use native.Mathlib.Omega.{arith}
use mathlib.Core.Bool.{Bool, true, false, ◌&&◌}
use mathlib.Core.List.{List}
use mathlib.Core.Path.{◌≡◌, refl, sym, ap, ◌∙◌, fun_ext}
use lib.ListN.{length, get_or, set}
use lib.Seq.{get_or-set_same, get_or-set_other}
use borrow.Author.Tests.{le-leb, leb-true, eqb-true, eqb-false}
use Rattle.plain.specs.Lists.{◌is◌, ◌at_most◌, within, sum_below}
use Rattle.plain.proofs.Tests.{both}
use Rattle.plain.proofs.Sums.{sum-last, sum-grows}
use Rattle.rulebook.specs.Ledger.{Holdings, put_cash}
use Rattle.rulebook.specs.Movements.{credit, debit, cash_of}
use Rattle.rulebook.specs.Premise.{CashFits}
use Rattle.cash.specs.Amounts.{place, kept, amount_of, total_in, with_cash}

pub kept-fits : (member currency : ℕ) → CashFits member currency → kept member currency ≡ true
unfolding kept
kept-fits m c f = rw (le-leb 1 m f.member_least, le-leb m 64 f.member_most, le-leb 1 c f.currency_least, le-leb c 2 f.currency_most)

pub fits_kept : (member currency : ℕ) → kept member currency ≡ true → CashFits member currency
unfolding kept
fits_kept m c e =
    let k = both (within 1 64 m) (within 1 2 c) e in
    let p = both (1 at_most m) (m at_most 64) k.0 in
    let q = both (1 at_most c) (c at_most 2) k.1 in
    record { member_least = leb-true 1 m p.0; member_most = leb-true m 64 p.1; currency_least = leb-true 1 c q.0; currency_most = leb-true c 2 q.1 }

module _ (cash : List ℕ) (long : length cash ≡ 128) (member currency : ℕ) (fits : CashFits member currency) where
  pub amount-here : amount_of cash member currency ≡ get_or cash (place member currency) 0
  unfolding amount_of
  amount-here = rw (kept-fits member currency fits)

  stored : (v m c : ℕ) → amount_of (set cash (place member currency) v) m c ≡ (if member is m && currency is c then v else amount_of cash m c)
  unfolding amount_of
  stored v m c = go (kept m c) (member is m) (currency is c) refl refl refl
    where
      r : List ℕ
      r = set cash (place member currency) v

      there : place member currency < length cash
      there = omega (arith, long, fits.member_least, fits.member_most, fits.currency_least, fits.currency_most)

      -- another member or another currency has another place
      apart : kept m c ≡ true → (member ≡ m → currency ≡ c → ⊥) → get_or r (place m c) 0 ≡ get_or cash (place m c) 0
      apart e d =
          let f = fits_kept m c e in
          get_or-set_other cash (place member currency) (place m c) v 0 (λ same. d (omega (arith, same, f)) (omega (arith, same, f)))

      go :
          (k a b : Bool) → kept m c ≡ k → (member is m) ≡ a → (currency is c) ≡ b → (if k then get_or r (place m c) 0 else 0)
          ≡ (if a && b then v else if k then get_or cash (place m c) 0 else 0)
      go true true true e f g = rw (← eqb-true member m f, ← eqb-true currency c g) (get_or-set_same cash (place member currency) v 0 there)
      go true true false e f g = apart e (λ p q. eqb-false currency c g q)
      go true false b e f g = apart e (λ p q. eqb-false member m f p)
      go false true true e f g =
          let k : kept m c ≡ true = rw (← eqb-true member m f, ← eqb-true currency c g) (kept-fits member currency fits) in
          let z : ◌≡◌ {A = ℕ} 0 1 = cc in
          absurd (omega arith)
      go false true false e f g = refl
      go false false b e f g = refl

  puts : (v w : ℕ) → v ≡ w → (h : Holdings) → with_cash (set cash (place member currency) v) h ≡ put_cash member currency w (with_cash cash h)
  unfolding put_cash
  puts v w e h =
      λ i. record {
        securities = h.securities;
        balance = h.balance;
        accounts = h.accounts;
        cash = fun_ext
            (λ m. fun_ext (λ c. stored v m c ∙ ap (λ (x : ℕ). if member is m && currency is c then x else amount_of cash m c) e)) i;
      }

  module _ (at : ℕ) (there : at ≡ place member currency) where
    pub amount-at : get_or cash at 0 ≡ amount_of cash member currency
    amount-at = rw there (sym amount-here)

    pub credited : (n : ℕ) (h : Holdings) → with_cash (set cash at (get_or cash at 0 + n)) h ≡ credit (cash_of member currency) n (with_cash cash h)
    unfolding credit
    credited n h = rw there (puts _ (amount_of cash member currency + n) (omega (arith, amount-here)) h)

    pub debited : (n : ℕ) (h : Holdings) → with_cash (set cash at (get_or cash at 0 - n)) h ≡ debit (cash_of member currency) n (with_cash cash h)
    unfolding debit
    debited n h = rw there (puts _ (amount_of cash member currency - n) (omega (arith, amount-here)) h)

-- ---- a total so far

pub total-none : (cash : List ℕ) (currency : ℕ) → 0 ≡ sum_below 0 (λ n. amount_of cash (n + 1) currency)
unfolding sum_below
total-none cash currency = refl

module _ (cash : List ℕ) (long : length cash ≡ 128) (currency : ℕ) (least : 1 ≤ currency) (most : currency ≤ 2) (i : ℕ) (low : i < 64) where
  -- the next amount
  next : get_or cash (2 * i + (currency - 1)) 0 ≡ amount_of cash (i + 1) currency
  next =
      amount-at cash long (i + 1) currency (record { member_least = omega arith; member_most = omega arith; currency_least = least; currency_most = most })
      (2 * i + (currency - 1)) (omega arith)

  pub total-more :
      (sum : ℕ) → sum ≡ sum_below i (λ n. amount_of cash (n + 1) currency) → sum + get_or cash (2 * i + (currency - 1)) 0
      ≡ sum_below (i + 1) (λ n. amount_of cash (n + 1) currency)
  total-more sum e = omega (arith, next, sum-last i (λ n. amount_of cash (n + 1) currency))

  pub total-fits : (sum : ℕ) → sum ≡ sum_below i (λ n. amount_of cash (n + 1) currency) → sum + get_or cash (2 * i + (currency - 1)) 0 ≤ total_in cash currency
  unfolding total_in
  total-fits sum e = omega (arith, total-more sum e, sum-grows (i + 1) 64 (λ n. amount_of cash (n + 1) currency) (omega arith))
