-- Part 1 of the premise: how large a book is, and the forms that never lack space. Assumes nothing.
use Rattle.std.specs.Prelude.{if◌then◌else◌}
use mathlib.Core.Path.{◌≡◌, refl, sym, subst, ◌∙◌}
use mathlib.Core.Bool.{Bool, true, false, not, ◌||◌, false≢true}
use mathlib.Core.List.{List, [], ◌∷◌, map}
use Prim.Native.Nat.{ℕ, zero, suc, ◌+◌, ◌-◌, ◌≤◌}
use native.Mathlib.Omega.{arith}
use borrow.Author.Tests.{ltb-false, le-ltb, ne_eqb}
use lib.ListN.{length, length-map}
use Rattle.plain.proofs.Tests.{neither}
use Rattle.rulebook.specs.declared.Item.{Item}
use Rattle.rulebook.specs.declared.Order.{Order}
use Rattle.plain.specs.Lists.{◌is◌, ◌below◌, ◌one_of◌, total, keep}
use Rattle.plain.proofs.Lists.{◌and◌, keep-length}
use Rattle.rulebook.specs.Ledger.{Ledger, Holdings, fresh, counted, put_balance, put_cash, put_securities, put_outside, put_held, put_day, put_holdings, put_waiting, put_rate}
use Rattle.rulebook.specs.Movements.{Place, account, type91, type90, cash_of, member0, Movement, credit, debit, credits, debits, booked}
use Rattle.rulebook.specs.Waiting.{sender_of, marking, staying, unmarked, with_sent}
use Rattle.rulebook.specs.Cycle.{settled, declined, legs}
use Rattle.rulebook.specs.Close.{leaves}
use Rattle.rulebook.specs.Forms.{outcome, moving, silent, open_day, withdraw, pay_in, pay_out, cancel, cycle, confirm, decline, close, forms, effect, set_rate}
use Rattle.rulebook.specs.Refusals.{no_space}
use Rattle.rulebook.specs.Premise.{Sizes}
use Rattle.rulebook.proofs.ByCall.{Effect, AllForms, either_answer, by_form}
use Rattle.rulebook.proofs.Booking.{recounted-beside, booked-puts}
use Rattle.rulebook.proofs.Selection.Fixing.{fixing-length}
use Rattle.rulebook.proofs.Settled.{settled-length}

pub fresh-sizes : Sizes fresh
unfolding fresh
fresh-sizes = record { securities = omega arith; items = omega arith; accounts = omega arith }

-- refusal 18 is that test, on the book that the effect leaves

three : (x y z : Bool) → (x || y || z) ≡ false → (x ≡ false) × (y ≡ false) × (z ≡ false)
three x y z e = let last = neither (x || y) z e in let front = neither x y last.0 in (front.0, front.1, last.1)

pub space_sizes : (b : Ledger) (o : Order) → no_space b o ≡ false → Sizes (effect b o).after
unfolding no_space
space_sizes b o e =
    let after = (effect b o).after in
    let t = three (32 below length after.holdings.securities) (64 below length after.waiting) (256 below (after.holdings.accounts + length after.waiting)) e in
    record { securities = ltb-false _ _ t.0; items = ltb-false _ _ t.1; accounts = ltb-false _ _ t.2 }

pub sizes_space : (b : Ledger) (o : Order) → Sizes (effect b o).after → no_space b o ≡ false
unfolding no_space
sizes_space b o s = simp (le-ltb _ _ s.securities, le-ltb _ _ s.items, le-ltb _ _ s.accounts)

-- a credit opens at most one account, and a debit none

abbrev pub opens : Place → ℕ
opens (account a) = 1
opens (type91 security) = 0
opens (type90 security) = 0
opens (cash_of member currency) = 0
opens (member0 currency) = 0

abbrev pub opened : List Movement → ℕ
opened ms = total (λ m. opens m.to) ms

pub counted-most : (n : ℕ) → counted n ≤ 1
unfolding counted
counted-most n = go (n is 0)
  where
    go : (t : Bool) → (if t then 0 else 1) ≤ 1
    go true = omega arith
    go false = omega arith

pub counted_none : counted 0 ≡ 0
unfolding counted
counted_none = refl

pub counted-some : (n : ℕ) → 1 ≤ n → counted n ≡ 1
unfolding counted
counted-some n l = simp (ne_eqb n 0 (λ p. omega arith))

counted-less : (n k : ℕ) → counted (n - k) ≤ counted n
unfolding counted
counted-less zero k = let z : 0 - k ≡ 0 = omega arith in rw z (omega arith)
counted-less (suc n) k = simp (ne_eqb (suc n) 0 (λ e. omega arith)) (counted-most (suc n - k))

credit-accounts : (p : Place) (n : ℕ) (h : Holdings) → (credit p n h).accounts ≤ h.accounts + opens p
unfolding credit put_balance put_cash put_securities put_outside
credit-accounts (account a) n h = omega (arith, counted-most (h.balance a + n))
credit-accounts (type91 s) n h = omega arith
credit-accounts (type90 s) n h = omega arith
credit-accounts (cash_of m c) n h = omega arith
credit-accounts (member0 c) n h = omega arith

debit-accounts : (p : Place) (n : ℕ) (h : Holdings) → (debit p n h).accounts ≤ h.accounts
unfolding debit put_balance put_cash put_securities put_outside
debit-accounts (account a) n h = omega (arith, counted-less (h.balance a) n)
debit-accounts (type91 s) n h = omega arith
debit-accounts (type90 s) n h = omega arith
debit-accounts (cash_of m c) n h = omega arith
debit-accounts (member0 c) n h = omega arith

-- also before the debits, so that a confirmed cycle has room for its buyers' accounts at any time
pub credits-accounts : (ms : List Movement) (h : Holdings) → (credits ms h).accounts ≤ h.accounts + opened ms
unfolding credits
credits-accounts [] h = omega arith
credits-accounts (m ∷ rest) h = omega (arith, credits-accounts rest (credit m.to m.number h), credit-accounts m.to m.number h)

debits-accounts : (ms : List Movement) (h : Holdings) → (debits ms h).accounts ≤ h.accounts
unfolding debits
debits-accounts [] h = omega arith
debits-accounts (m ∷ rest) h = omega (arith, debits-accounts rest (debit m.from m.number h), debit-accounts m.from m.number h)

pub booked-accounts : (ms : List Movement) (h : Holdings) → (booked ms h).accounts ≤ h.accounts + opened ms
unfolding booked
booked-accounts ms h = omega (arith, (recounted-beside ms (debits ms (credits ms h))).accounts, debits-accounts ms (credits ms h), credits-accounts ms h)

-- and neither admits a security
pub booked-listed : (ms : List Movement) (h : Holdings) → length (booked ms h).securities ≡ length h.securities
unfolding put_balance put_cash put_securities put_outside put_held
booked-listed ms h =
    booked-puts (λ k. length k.securities ≡ length h.securities) (λ a v k e. e) (λ s v k e. length-map k.securities _ ∙ e)
    (λ m c v k e. e) (λ s v k e. length-map k.securities _ ∙ e) ms h refl

pub legs-opened : (ts : List Item) → opened (legs ts) ≡ length ts
unfolding legs
legs-opened [] = refl
legs-opened (t ∷ rest) = omega (arith, legs-opened rest)

-- the forms that never lack space: the answer to a cycle never gets 18, as each item can open only one account

abbrev pub never_grows : List ℕ
never_grows = 1 ∷ 4 ∷ 10 ∷ 11 ∷ 15 ∷ 16 ∷ 17 ∷ 18 ∷ 21 ∷ []

abbrev Stays : ℕ → Effect → Type 0
Stays n f = (n one_of never_grows) ≡ true → (b : Ledger) (o : Order) → Sizes b → Sizes (f b o).after

moving-stays : (ms : List Movement) → opened ms ≡ 0 → (b : Ledger) → Sizes b → Sizes (moving ms b).after
unfolding moving outcome put_holdings
moving-stays ms z b s = record {
  securities = omega (arith, booked-listed ms b.holdings, s.securities);
  items = s.items;
  accounts = omega (arith, booked-accounts ms b.holdings, s.accounts);
}

cancel-length : (sender reference : ℕ) (ws : List Item) → length (staying (marking sender reference ws)) ≤ length ws
unfolding staying marking
cancel-length sender reference ws =
    let l : length (marking sender reference ws) ≡ length ws = length-map ws _ in
    let k : length (staying (marking sender reference ws)) ≤ length (marking sender reference ws) = keep-length _ (marking sender reference ws) in
    omega (arith, l, k)

close-length : (test : Item → Bool) (ws : List Item) → length (map unmarked (keep test ws)) ≤ length ws
close-length test ws = omega (arith, length-map (keep test ws) unmarked, keep-length test ws)

cancel-stays : (b : Ledger) (o : Order) → Sizes b → Sizes (cancel b o).after
unfolding cancel outcome put_waiting
cancel-stays b o s =
    let l = cancel-length (sender_of o) o.reference b.waiting in
    record { securities = s.securities; items = omega (arith, l, s.items); accounts = omega (arith, l, s.accounts) }

-- a cycle leaves as many items as there were
cycle-stays : (b : Ledger) (o : Order) → Sizes b → Sizes (cycle b o).after
unfolding cycle outcome put_day put_waiting
cycle-stays b o s =
    let l = fixing-length b in
    record { securities = s.securities; items = omega (arith, l, s.items); accounts = omega (arith, l, s.accounts) }

confirm-stays : (b : Ledger) → Sizes b → Sizes (confirm b).after
unfolding confirm outcome put_day put_holdings put_waiting
confirm-stays b s =
    let ms = legs (settled b) in
    let l = settled-length b in
    record {
      securities = omega (arith, booked-listed ms b.holdings, s.securities);
      items = omega (arith, l, s.items);
      accounts = omega (arith, booked-accounts ms b.holdings, legs-opened (settled b), l, s.accounts);
    }

decline-stays : (b : Ledger) → Sizes b → Sizes (decline b).after
unfolding decline silent outcome put_day put_waiting declined
decline-stays b s =
    let l = length-map b.waiting (with_sent false) in
    record { securities = s.securities; items = omega (arith, l, s.items); accounts = omega (arith, l, s.accounts) }

close-stays : (b : Ledger) (o : Order) → Sizes b → Sizes (close b o).after
unfolding close outcome put_day put_waiting
close-stays b o s =
    let l = close-length (λ item. not (leaves b.day.number item)) b.waiting in
    record { securities = s.securities; items = omega (arith, l, s.items); accounts = omega (arith, l, s.accounts) }

same_stays : (b c : Ledger) → c.holdings ≡ b.holdings → c.waiting ≡ b.waiting → Sizes b → Sizes c
same_stays b c e f s = record {
  securities = subst (λ (h : Holdings). length h.securities ≤ 32) (sym e) s.securities;
  items = subst (λ (ws : List Item). length ws ≤ 64) (sym f) s.items;
  accounts =
      subst (λ (h : Holdings). h.accounts + length c.waiting ≤ 256) (sym e)
      (subst (λ (ws : List Item). b.holdings.accounts + length ws ≤ 256) (sym f) s.accounts);
}

grows : {A : Type 0} → false ≡ true → A
grows e = absurd (false≢true e)

forms-stay : AllForms (λ n f. Stays n f.effect) 1 forms
unfolding forms open_day set_rate silent outcome put_day put_rate withdraw pay_in pay_out
forms-stay =
    (λ _ b o s. same_stays b (open_day b o).after refl refl s) and (λ e b o s. grows e) and (λ e b o s. grows e) and (λ _ b o s. moving-stays _ refl b s)
    and (λ e b o s. grows e) and (λ e b o s. grows e) and (λ e b o s. grows e) and (λ e b o s. grows e) and (λ e b o s. grows e)
    and (λ _ b o s. moving-stays _ refl b s) and (λ _ b o s. moving-stays _ refl b s) and (λ e b o s. grows e) and (λ e b o s. grows e) and (λ e b o s. grows e)
    and (λ _ b o s. cancel-stays b o s) and (λ _ b o s. cycle-stays b o s) and (λ _ b o s. close-stays b o s)
    and (λ _ b o s. same_stays b (set_rate b o).after refl refl s) and (λ e b o s. grows e) and (λ e b o s. grows e)
    and (λ _ b o s. either_answer (λ x. Sizes x.after) b o (confirm-stays b s) (decline-stays b s)) and tt

pub never_grows_lem : (b : Ledger) (o : Order) → (o.form one_of never_grows) ≡ true → Sizes b → no_space b o ≡ false
unfolding effect
never_grows_lem b o e s = sizes_space b o (by_form (λ n f. Stays n f.effect) forms-stay (λ m no e b o s. unfold silent outcome in s) o.form e b o s)

-- A cycle never gets 18, nor does its answer
pub cycle-space : (b : Ledger) (o : Order) → o.form ≡ 16 → Sizes b → no_space b o ≡ false
cycle-space b o e = never_grows_lem b o (simp e)

pub answer_space : (b : Ledger) (o : Order) → o.form ≡ 21 → Sizes b → no_space b o ≡ false
answer_space b o e = never_grows_lem b o (simp e)
