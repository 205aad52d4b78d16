-- The premise at an index of the book's lists, as code reads them. Assumes nothing.
use Rattle.std.specs.Prelude.{if◌then◌else◌}
use mathlib.Core.Path.{◌≡◌, refl, sym, ap, ◌∙◌}
use mathlib.Core.Bool.{Bool, true}
use mathlib.Core.List.{List, [], ◌∷◌, ◌++◌}
use Prim.Native.Nat.{ℕ, zero, suc, ◌≤◌, ◌<◌}
use native.Mathlib.Omega.{arith}
use lib.ListN.{length, get_or, take, drop, set, take-append-drop}
use lib.Seq.{drop-cons, set_split}
use Rattle.rulebook.specs.declared.Item.{Item}
use Rattle.rulebook.specs.declared.Security.{Security}
use Rattle.plain.specs.Lists.{total, Each}
use Rattle.rulebook.specs.Ledger.{Ledger}
use Rattle.rulebook.specs.Waiting.{sent_by, marked, both_marked, marking, cancelled, staying}
use Rattle.rulebook.specs.Premise.{SecurityFits, ItemFits, today, Premise}
use Rattle.rulebook.proofs.Cancelling.{cancel-stays, cancel-leaves}

pub each_at : {A : Type 0} (P : A → Type 0) (xs : List A) (i : ℕ) (d : A) → Each P xs → i < length xs → P (get_or xs i d)
each_at P [] i d e l = absurd (omega arith)
each_at P (x ∷ rest) zero d e l = e.0
each_at P (x ∷ rest) (suc i) d e l = each_at P rest i d e.1 (omega arith)

split_at : (xs : List Item) (i : ℕ) (d : Item) → i < length xs → xs ≡ take i xs ++ (get_or xs i d ∷ drop (suc i) xs)
split_at xs i d l = sym (take-append-drop i xs) ∙ ap (λ (rest : List Item). take i xs ++ rest) (drop-cons xs i d l)

-- where at most one passes a test, it stands at one index
module _ {A : Type 0} (test : A → Bool) where
  abbrev passing : List A → ℕ
  passing xs = total (λ x. if test x then 1 else 0) xs

  passes_at : (xs : List A) (i : ℕ) (d : A) → i < length xs → test (get_or xs i d) ≡ true → 1 ≤ passing xs
  passes_at [] i d l e = absurd (omega arith)
  passes_at (x ∷ rest) zero d l e = simp e (omega arith)
  passes_at (x ∷ rest) (suc i) d l e = omega (arith, passes_at rest i d (omega arith) e)

  one_index :
      (xs : List A) (i j : ℕ) (d : A) → passing xs ≤ 1 → i < length xs → j < length xs → test (get_or xs i d) ≡ true → test (get_or xs j d) ≡ true → i ≡ j
  one_index [] i j d u l m p q = absurd (omega arith)
  one_index (x ∷ rest) zero zero d u l m p q = refl
  one_index (x ∷ rest) zero (suc j) d u l m p q = absurd (omega (arith, simp p at u, passes_at rest j d (omega arith) q))
  one_index (x ∷ rest) (suc i) zero d u l m p q = absurd (omega (arith, simp q at u, passes_at rest i d (omega arith) p))
  one_index (x ∷ rest) (suc i) (suc j) d u l m p q = ap suc (one_index rest i j d (omega (arith, u)) (omega arith) (omega arith) p q)

module _ (b : Ledger) (p : Premise b) where
  pub security-at : (i : ℕ) (d : Security) → i < length b.holdings.securities → SecurityFits (get_or b.holdings.securities i d)
  security-at i d l = each_at SecurityFits b.holdings.securities i d p.securities l

  pub reference-once :
      (s r i j : ℕ) (d : Item) → i < length b.waiting → j < length b.waiting → sent_by s r (get_or b.waiting i d) ≡ true → sent_by s r (get_or b.waiting j d) ≡ true
      → i ≡ j
  reference-once s r i j d = one_index (sent_by s r) b.waiting i j d (p.references s r)

  pub item-at : (i : ℕ) (d : Item) → i < length b.waiting → ItemFits b.day.number (today b.day) b.holdings (get_or b.waiting i d)
  item-at i d l = each_at (ItemFits b.day.number (today b.day) b.holdings) b.waiting i d p.items l

  -- a cancel of the item at an index: stored with its mark, or removed with its second one
  pub cancel-at :
      (s r i : ℕ) (d : Item) → i < length b.waiting → sent_by s r (get_or b.waiting i d) ≡ true
      → (staying (marking s r b.waiting)
      ≡
      (if both_marked (marked s (get_or b.waiting i d)).state then take i b.waiting ++ drop (suc i) b.waiting else set b.waiting i
      (marked s (get_or b.waiting i d))))
      × (cancelled (marking s r b.waiting) ≡ (if both_marked (marked s (get_or b.waiting i d)).state then marked s (get_or b.waiting i d) ∷ [] else []))
  cancel-at s r i d l e =
      let ws = b.waiting in
      let item = get_or ws i d in
      let f = split_at ws i d l in (
        cancel-stays b p s r (take i ws) item (drop (suc i) ws) f e
            ∙ ap (λ (x : List Item). if both_marked (marked s item).state then take i ws ++ drop (suc i) ws else x) (sym (set_split ws i (marked s item) l)),
        cancel-leaves b p s r (take i ws) item (drop (suc i) ws) f e,
      )
