-- Held counts: movements with type 91 change that of their security by their number, and all others leave it. Assumes nothing.
use Rattle.std.specs.Prelude.{if◌then◌else◌}
use mathlib.Core.Path.{◌≡◌, refl, ap, ◌∙◌}
use mathlib.Core.Bool.{Bool, true, false}
use mathlib.Core.List.{List, [], ◌∷◌}
use Prim.Native.Nat.{ℕ, ◌+◌, ◌-◌}
use native.Mathlib.Omega.{arith}
use borrow.Author.Tests.{eqb-true}
use Rattle.plain.specs.Lists.{◌is◌}
use Rattle.rulebook.specs.declared.Account.{Account}
use Rattle.rulebook.specs.Ledger.{Holdings, put_balance, put_cash, put_securities, put_outside, put_held, with_outside, with_held, held_of}
use Rattle.rulebook.specs.Movements.{account, type91, Movement, move, credits, debits, recounted, booked}
use Rattle.rulebook.specs.Premise.{with_code}
use Rattle.rulebook.proofs.Booking.{posted_puts}
use Rattle.rulebook.proofs.Securities.{counts-kept, counts-put}
use Rattle.rulebook.proofs.Places.{posted_codes}

-- credits and debits leave held counts
posted_held : (s : ℕ) (ms : List Movement) (h : Holdings) → held_of s (debits ms (credits ms h)) ≡ held_of s h
unfolding held_of put_balance put_cash put_securities put_outside
posted_held s ms h =
    posted_puts (λ k. held_of s k ≡ held_of s h) (λ a v k e. e)
    (λ c v k e. counts-kept (with_outside v) (λ x. refl) c (λ x. x.held) (λ x. refl) s k.securities ∙ e) (λ m c v k e. e) ms h refl

-- and so do movements of which none is with type 91
pub held_stays : (ms : List Movement) → ((k : Holdings) → recounted ms k ≡ k) → (h : Holdings) (s : ℕ) → held_of s (booked ms h) ≡ held_of s h
unfolding booked
held_stays ms none h s = ap (held_of s) (none (debits ms (credits ms h))) ∙ posted_held s ms h

put-held : (c v : ℕ) (h : Holdings) → with_code c h.securities ≡ 1 → (s : ℕ) → held_of s (put_held c v h) ≡ (if c is s then v else held_of s h)
unfolding held_of put_held put_securities
put-held c v h k s = counts-put (with_held v) (λ x. refl) c (λ x. x.held) v (λ x. refl) s h.securities k

-- movements that change the held count of one code
module _ (ms : List Movement) (c : ℕ) (change : ℕ → ℕ) (one : (k : Holdings) → recounted ms k ≡ put_held c (change (held_of c k)) k) where
  held-changes :
      (h : Holdings) → with_code c h.securities ≡ 1 → (s : ℕ) → held_of s (booked ms h) ≡ (if c is s then change (held_of s h) else held_of s h)
  unfolding booked
  held-changes h known s = ap (held_of s) (one between) ∙ put-held c _ between (posted_codes ms h c ∙ known) s ∙ go (c is s) refl
    where
      between : Holdings
      between = debits ms (credits ms h)

      go :
          (t : Bool) → (c is s) ≡ t
          → (if c is s then change (held_of c between) else held_of s between) ≡ (if c is s then change (held_of s h) else held_of s h)
      go true e = simp e (ap change (posted_held c ms h ∙ ap (λ (x : ℕ). held_of x h) (eqb-true c s e)))
      go false e = simp e (posted_held s ms h)

module _ (a : Account) (c n : ℕ) (h : Holdings) (known : with_code c h.securities ≡ 1) (s : ℕ) where
  pub held_more : held_of s (booked (move (type91 c) (account a) n ∷ []) h) ≡ held_of s h + (if c is s then n else 0)
  unfolding recounted
  held_more = held-changes (move (type91 c) (account a) n ∷ []) c (λ x. x + n) (λ k. refl) h known s ∙ go (c is s)
    where
      go : (t : Bool) → (if t then held_of s h + n else held_of s h) ≡ held_of s h + (if t then n else 0)
      go true = refl
      go false = omega arith

  pub held-less : held_of s (booked (move (account a) (type91 c) n ∷ []) h) ≡ held_of s h - (if c is s then n else 0)
  unfolding recounted
  held-less = held-changes (move (account a) (type91 c) n ∷ []) c (λ x. x - n) (λ k. refl) h known s ∙ go (c is s)
    where
      go : (t : Bool) → (if t then held_of s h - n else held_of s h) ≡ held_of s h - (if t then n else 0)
      go true = refl
      go false = omega arith
