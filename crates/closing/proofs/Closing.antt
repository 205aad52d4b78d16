-- What close does with one item more: those kept, the notices and the counts. Assumes nothing.
use Rattle.std.specs.Prelude.{if◌then◌else◌}
use Prim.Native.Nat.{ℕ, zero, suc, ◌+◌, ◌*◌, ◌≤◌}
use native.Mathlib.Omega.{arith}
use mathlib.Core.Bool.{Bool, true, false, not}
use mathlib.Core.List.{List, [], ◌∷◌, ◌++◌, map, map-append, append-nil}
use mathlib.Core.Path.{◌≡◌, refl, ap, ◌∙◌}
use borrow.Author.Tests.{ne_eqb}
use lib.ListN.{length, length-append, length-map}
use Rattle.plain.specs.Lists.{◌is◌, ◌at_most◌, ◌one_of◌, total, keep}
use Rattle.plain.proofs.Lists.{keep-length, total-append}
use Rattle.rulebook.specs.Waiting.{sides_of, sides, unmarked, with_state}
use Rattle.rulebook.specs.Close.{close_kind, leaves, deleted_at_close, suspended_at_close, close_notice}
use Rattle.rulebook.specs.Forms.{counts}
use Rattle.rulebook.specs.declared.Item.{Item}
use Rattle.rulebook.specs.declared.State.{State}
use Rattle.rulebook.specs.declared.State.TheVariants.{Single, Pair, Trade}
use Rattle.closing.specs.Closing.{kept, gone, notices, close_counts, counted_one}

-- ---- those that pass a test, with one element more

module _ {A : Type 0} (test : A → Bool) where
  pub keep-last : (l : List A) (x : A) → keep test (l ++ (x ∷ [])) ≡ keep test l ++ (if test x then x ∷ [] else [])
  keep-last [] x = refl
  keep-last (y ∷ rest) x = go (test y) refl (keep-last rest x)
    where
      go :
          (b : Bool) → test y ≡ b → keep test (rest ++ (x ∷ [])) ≡ keep test rest ++ (if test x then x ∷ [] else [])
          → keep test (y ∷ (rest ++ (x ∷ []))) ≡ keep test (y ∷ rest) ++ (if test x then x ∷ [] else [])
      go true t ih = simp t (ap (λ (l : List A). y ∷ l) ih)
      go false t ih = simp t ih

  pub total-last :
      (figure : A → ℕ) (l : List A) (x : A)
      → total figure (keep test (l ++ (x ∷ []))) ≡ total figure (keep test l) + (if test x then figure x else 0)
  total-last figure l x =
      ap (total figure) (keep-last l x) ∙ total-append figure (keep test l) (if test x then x ∷ [] else [])
      ∙ ap (λ (n : ℕ). total figure (keep test l) + n) (go (test x))
    where
      go : (b : Bool) → total figure (if b then x ∷ [] else []) ≡ (if b then figure x else 0)
      go true = omega arith
      go false = refl

-- ---- the kinds

one_or_none : (b : Bool) (k : ℕ) → k ≤ 3 → (if b then k else 0) ≤ 3
one_or_none true k l = l
one_or_none false k l = omega arith

kind_by : (day : ℕ) (item : Item) (x : State) → close_kind day (with_state x item) ≤ 3
unfolding close_kind with_state
kind_by day item (Single delivers reference) = one_or_none (item.settlement_day is day) 1 (omega arith)
kind_by day item (Pair d r dm rm) = one_or_none (day is (item.settlement_day + 10)) 2 (omega arith)
kind_by day item (Trade reference) = one_or_none (item.settlement_day at_most day) 3 (omega arith)

pub kind_most : (day : ℕ) (item : Item) → close_kind day item ≤ 3
unfolding with_state
kind_most day item = kind_by day item item.state

-- what is not suspended is deleted
deleted_else : (k sides : ℕ) → k ≤ 3 → (k ≡ 0 → ⊥) → (if k one_of (1 ∷ 2 ∷ []) then sides else 0) ≡ (if k is 3 then 0 else sides)
deleted_else zero sides l out = absurd (out refl)
deleted_else (suc zero) sides l out = refl
deleted_else (suc (suc zero)) sides l out = refl
deleted_else (suc (suc (suc zero))) sides l out = refl
deleted_else (suc (suc (suc (suc k)))) sides l out = absurd (omega arith)

-- ---- one item more

module _ (day : ℕ) (l : List Item) (x : Item) where
  -- it stays
  module _ (stays : close_kind day x ≡ 0) where
    pub kept-one : kept day (l ++ (x ∷ [])) ≡ kept day l ++ (unmarked x ∷ [])
    unfolding leaves
    kept-one = ap (map unmarked) (keep-last (λ i. not (leaves day i)) l x) ∙ simp (stays, map-append)

    gone_same : gone day (l ++ (x ∷ [])) ≡ gone day l
    unfolding leaves
    gone_same = keep-last (leaves day) l x ∙ simp (stays, append-nil)

    pub notices-same : notices day (l ++ (x ∷ [])) ≡ notices day l
    notices-same = ap (map (close_notice day)) gone_same

    pub counts_same : close_counts day (l ++ (x ∷ [])) ≡ close_counts day l
    counts_same =
        ap
        (λ (g : List Item). counts (length (map (close_notice day) g)) 0 0 (sides (keep (deleted_at_close day) g)) (sides (keep (suspended_at_close day) g)) 0)
        gone_same

  -- it leaves
  module _ (out : close_kind day x ≡ 0 → ⊥) where
    pub kept_same : kept day (l ++ (x ∷ [])) ≡ kept day l
    unfolding leaves
    kept_same = ap (map unmarked) (keep-last (λ i. not (leaves day i)) l x) ∙ simp (ne_eqb _ _ out, append-nil)

    gone_one : gone day (l ++ (x ∷ [])) ≡ gone day l ++ (x ∷ [])
    unfolding leaves
    gone_one = keep-last (leaves day) l x ∙ simp (ne_eqb _ _ out)

    pub notices-one : notices day (l ++ (x ∷ [])) ≡ notices day l ++ (close_notice day x ∷ [])
    notices-one = ap (map (close_notice day)) gone_one ∙ simp map-append

    pub counted-one : close_counts day (l ++ (x ∷ [])) ≡ counted_one (close_counts day l) (close_kind day x) x.state
    unfolding sides counts counted_one deleted_at_close suspended_at_close
    counted-one =
        let rows : length (notices day (l ++ (x ∷ []))) ≡ length (notices day l) + 1 = ap length notices-one ∙ simp length-append in
        let figure : Item → ℕ = λ i. sides_of i.state in
        let deleted =
        ap (λ (g : List Item). total figure (keep (deleted_at_close day) g)) gone_one ∙ total-last (deleted_at_close day) figure (gone day l) x
        ∙ ap (λ (n : ℕ). total figure (keep (deleted_at_close day) (gone day l)) + n) (deleted_else (close_kind day x) (sides_of x.state) (kind_most day x) out)
        in
        let suspended =
        ap (λ (g : List Item). total figure (keep (suspended_at_close day) g)) gone_one ∙ total-last (suspended_at_close day) figure (gone day l) x
        in
        λ i. record { rows = rows i; settled = 0; cancelled = 0; deleted = deleted i; suspended = suspended i; left = 0 }

-- ---- how much there can be

pub item-sides : (s : State) → sides_of s ≤ 2
unfolding sides_of
item-sides (Single delivers reference) = omega arith
item-sides (Pair d r dm rm) = omega arith
item-sides (Trade reference) = omega arith

sides-most : (l : List Item) → sides l ≤ 2 * length l
unfolding sides
sides-most [] = omega arith
sides-most (x ∷ rest) = omega (arith, item-sides x.state, sides-most rest)

pub rows-most : (day : ℕ) (l : List Item) → length (notices day l) ≤ length l
rows-most day l = omega (arith, length-map (gone day l) (close_notice day), keep-length (leaves day) l)

pub counted-most : (day : ℕ) (test : Item → Bool) (l : List Item) → sides (keep test (gone day l)) ≤ 2 * length l
counted-most day test l = omega (arith, sides-most (keep test (gone day l)), keep-length test (gone day l), keep-length (leaves day) l)
