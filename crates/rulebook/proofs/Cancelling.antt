-- What a cancel does to the one item of that sender's reference, in a book that meets the premise. Assumes nothing.
use Rattle.std.specs.Prelude.{if◌then◌else◌}
use mathlib.Core.Path.{◌≡◌, refl, ap, subst, ◌∙◌}
use mathlib.Core.Bool.{Bool, true, false, not}
use mathlib.Core.List.{List, [], ◌∷◌, ◌++◌}
use Prim.Native.Nat.{ℕ, ◌≤◌}
use Rattle.rulebook.specs.declared.Item.{Item}
use Rattle.plain.specs.Lists.{keep, Each}
use Rattle.rulebook.specs.Ledger.{Ledger}
use Rattle.rulebook.specs.Waiting.{sent_by, marked, both_marked, marking, cancelled, staying}
use Rattle.rulebook.specs.Premise.{sent, Premise}
use Rattle.rulebook.proofs.Halves.{Half}
use Rattle.rulebook.proofs.EveryCall.References.{marks_one}

keep_append : (test : Item → Bool) (xs ys : List Item) → keep test (xs ++ ys) ≡ keep test xs ++ keep test ys
keep_append test [] ys = refl
keep_append test (x ∷ rest) ys = go (test x) refl (keep_append test rest ys)
  where
    go : (t : Bool) → test x ≡ t → keep test (rest ++ ys) ≡ keep test rest ++ keep test ys → keep test (x ∷ (rest ++ ys)) ≡ keep test (x ∷ rest) ++ keep test ys
    go true p ih = simp p (ap (λ (l : List Item). x ∷ l) ih)
    go false p ih = simp p ih

all_stay : (ws : List Item) → Each Half ws → (keep (λ item. not (both_marked item.state)) ws ≡ ws) × (keep (λ item. both_marked item.state) ws ≡ [])
all_stay [] e = (refl, refl)
all_stay (w ∷ rest) e =
    let s = all_stay rest e.1 in
    (simp e.0 (ap (λ (l : List Item). w ∷ l) s.0), simp e.0 s.1)

part_left : (xs : List Item) (y : Item) (ys : List Item) → Each Half (xs ++ (y ∷ ys)) → Each Half xs × Each Half ys
part_left [] y ys e = (tt, e.1)
part_left (x ∷ rest) y ys e = let s = part_left rest y ys e.1 in ((e.0, s.0), s.1)

module _ (s r : ℕ) (before : List Item) (item : Item) (after : List Item) (p : sent_by s r item ≡ true) (l : sent s r (before ++ (item ∷ after)) ≤ 1)
    (h : Each Half (before ++ (item ∷ after)))
  where
    one_stays :
        staying (marking s r (before ++ (item ∷ after)))
        ≡ (if both_marked (marked s item).state then before ++ after else before ++ (marked s item ∷ after))
    unfolding staying
    one_stays =
        let e = part_left before item after h in
        rw (marks_one s r before item after p l, keep_append (λ i. not (both_marked i.state)) before (marked s item ∷ after), (all_stay before e.0).0)
        (go (both_marked (marked s item).state) refl (all_stay after e.1).0)
      where
        go :
            (t : Bool) → both_marked (marked s item).state ≡ t → keep (λ i. not (both_marked i.state)) after ≡ after
            → before ++ keep (λ i. not (both_marked i.state)) (marked s item ∷ after)
            ≡ (if both_marked (marked s item).state then before ++ after else before ++ (marked s item ∷ after))
        go true q z = simp q (ap (λ (k : List Item). before ++ k) z)
        go false q z = simp q (ap (λ (k : List Item). before ++ (marked s item ∷ k)) z)

    one_cancelled : cancelled (marking s r (before ++ (item ∷ after))) ≡ (if both_marked (marked s item).state then marked s item ∷ [] else [])
    unfolding cancelled
    one_cancelled =
        let e = part_left before item after h in
        rw (marks_one s r before item after p l, keep_append (λ i. both_marked i.state) before (marked s item ∷ after), (all_stay before e.0).1)
        (go (both_marked (marked s item).state) refl (all_stay after e.1).1)
      where
        go :
            (t : Bool) → both_marked (marked s item).state ≡ t → keep (λ i. both_marked i.state) after ≡ []
            → keep (λ i. both_marked i.state) (marked s item ∷ after) ≡ (if both_marked (marked s item).state then marked s item ∷ [] else [])
        go true q z = simp q (ap (λ (k : List Item). marked s item ∷ k) z)
        go false q z = simp q z

-- the item found is marked, and leaves if that was its second half
module _
    (b : Ledger)
    (premise : Premise b)
    (s r : ℕ)
    (before : List Item)
    (item : Item)
    (after : List Item)
    (found : b.waiting ≡ before ++ (item ∷ after))
    (p : sent_by s r item ≡ true)
  where
    once : sent s r (before ++ (item ∷ after)) ≤ 1
    once = subst (λ (ws : List Item). sent s r ws ≤ 1) found (premise.references s r)

    half : Each Half (before ++ (item ∷ after))
    half = subst (Each Half) found premise.halves

    pub cancel-stays :
        staying (marking s r b.waiting) ≡ (if both_marked (marked s item).state then before ++ after else before ++ (marked s item ∷ after))
    cancel-stays = ap (λ (ws : List Item). staying (marking s r ws)) found ∙ one_stays s r before item after p once half

    pub cancel-leaves : cancelled (marking s r b.waiting) ≡ (if both_marked (marked s item).state then marked s item ∷ [] else [])
    cancel-leaves = ap (λ (ws : List Item). cancelled (marking s r ws)) found ∙ one_cancelled s r before item after p once half
