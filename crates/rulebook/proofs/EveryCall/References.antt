-- Part 6 of the premise: no two items wait under one sender's reference. Assumes nothing.
use Rattle.std.specs.Prelude.{if◌then◌else◌}
use mathlib.Core.Path.{◌≡◌, refl, sym, ap, subst}
use mathlib.Core.Bool.{Bool, true, false, not, ◌&&◌, ◌||◌, false≢true, true≢false}
use mathlib.Core.List.{List, [], ◌∷◌, ◌++◌, map}
use Prim.Native.Nat.{ℕ, ◌+◌, ◌≤◌}
use native.Mathlib.Omega.{arith}
use Rattle.rulebook.specs.declared.Item.{Item}
use Rattle.rulebook.specs.declared.State.{State}
use Rattle.rulebook.specs.declared.State.TheVariants.{Single, Pair, Trade}
use Rattle.plain.specs.Lists.{◌is◌, some, keep}
use Rattle.plain.proofs.Lists.{keep-most, total-append, total-map}
use Rattle.rulebook.specs.Ledger.{Ledger}
use Rattle.rulebook.specs.Waiting.{is_deliver, is_receive, own_reference, sent_by, with_state, with_sent, marked, both_marked, marking, staying, unmarked}
use Rattle.rulebook.specs.Matching.{pairs_with, pair_of, arrive}
use Rattle.rulebook.specs.Selection.{selection}
use Rattle.rulebook.specs.Cycle.{fixing, not_settled, declined}
use Rattle.rulebook.specs.Premise.{sent}
use Rattle.rulebook.proofs.Selection.Fixing.{fixing-total}
use Rattle.rulebook.proofs.Settled.{settled-total}
use Rattle.rulebook.proofs.EveryCall.Items.{Agreed, pairs}

abbrev pub hit : Bool → ℕ
hit t = if t then 1 else 0

module _ (s r : ℕ) where
  -- a deliver's, and a receive's, sender
  deliver_sent : (i : Item) (x : State) → is_deliver x ≡ true → sent_by s r (with_state x i) ≡ (s is i.debited.member && r is own_reference x)
  unfolding sent_by with_state is_deliver own_reference
  deliver_sent i (Single true own) e = refl
  deliver_sent i (Single false own) e = absurd (false≢true e)
  deliver_sent i (Pair d c dm cm) e = absurd (false≢true e)
  deliver_sent i (Trade own) e = absurd (false≢true e)

  receive_sent : (i : Item) (x : State) → is_receive x ≡ true → sent_by s r (with_state x i) ≡ (s is i.credited.member && r is own_reference x)
  unfolding sent_by with_state is_receive own_reference
  receive_sent i (Single true own) e = absurd (false≢true e)
  receive_sent i (Single false own) e = refl
  receive_sent i (Pair d c dm cm) e = absurd (false≢true e)
  receive_sent i (Trade own) e = absurd (false≢true e)

  or_hits : (x y : Bool) → hit (x || y) ≤ hit x + hit y
  or_hits true y = omega arith
  or_hits false y = omega arith

  -- a pair waits under its two singles' references
  pair-sent : (d e : Item) → Agreed d e → hit (sent_by s r (pair_of d e)) ≤ hit (sent_by s r d) + hit (sent_by s r e)
  unfolding sent_by pair_of with_state
  pair-sent d e a =
      let x : sent_by s r d ≡ (s is d.debited.member && r is own_reference d.state) = deliver_sent d d.state a.delivers in
      let y : sent_by s r e ≡ (s is e.credited.member && r is own_reference e.state) = receive_sent e e.state a.receives in
      rw (x, y) (or_hits (s is d.debited.member && r is own_reference d.state) (s is e.credited.member && r is own_reference e.state))

  pub arrive-sent : (limit : ℕ) (new : Item) (ws : List Item) → sent s r (arrive limit new ws) ≤ sent s r ws + hit (sent_by s r new)
  unfolding arrive
  arrive-sent limit new [] = omega arith
  arrive-sent limit new (w ∷ rest) = go (pairs_with limit new w) refl (arrive-sent limit new rest)
    where
      paired :
          pairs_with limit new w ≡ true
          → hit (sent_by s r (if is_deliver w.state then pair_of w new else pair_of new w)) ≤ hit (sent_by s r w) + hit (sent_by s r new)
      paired e =
          pairs (hit (sent_by s r (if is_deliver w.state then pair_of w new else pair_of new w)) ≤ hit (sent_by s r w) + hit (sent_by s r new)) limit new w e
          (λ t a. simp t (pair-sent w new a)) (λ t a. simp t (omega (arith, pair-sent new w a)))

      go : (t : Bool) → pairs_with limit new w ≡ t → sent s r (arrive limit new rest) ≤ sent s r rest + hit (sent_by s r new)
          → sent s r (arrive limit new (w ∷ rest)) ≤ sent s r (w ∷ rest) + hit (sent_by s r new)
      go true e ih = simp (e, total-append) (omega (arith, paired e))
      go false e ih = simp e (omega (arith, ih))

  pub none_sent : (ws : List Item) → some (sent_by s r) ws ≡ false → sent s r ws ≡ 0
  none_sent [] e = refl
  none_sent (w ∷ rest) e = go (sent_by s r w) refl (none_sent rest)
    where
      go : (t : Bool) → sent_by s r w ≡ t → (some (sent_by s r) rest ≡ false → sent s r rest ≡ 0) → sent s r (w ∷ rest) ≡ 0
      go true p ih = absurd (true≢false (simp p at e))
      go false p ih = simp p (omega (arith, ih (simp p at e)))

  -- marks change no reference

  mark-sent : (sender : ℕ) (i : Item) (x : State) → sent_by s r (marked sender (with_state x i)) ≡ sent_by s r (with_state x i)
  unfolding marked with_state sent_by
  mark-sent sender i (Single d own) = refl
  mark-sent sender i (Pair d c dm cm) = go (sender is i.debited.member)
    where
      go : (t : Bool) → sent_by s r (with_state (if t then Pair d c true cm else Pair d c dm true) i) ≡ sent_by s r (with_state (Pair d c dm cm) i)
      go true = refl
      go false = refl
  mark-sent sender i (Trade own) = refl

  marking-sent : (sender reference : ℕ) (ws : List Item) → sent s r (marking sender reference ws) ≡ sent s r ws
  unfolding marking with_state
  marking-sent sender reference ws = total-map _ _ _ (λ i. go i (sent_by sender reference i)) ws
    where
      go : (i : Item) (t : Bool) → hit (sent_by s r (if t then marked sender i else i)) ≡ hit (sent_by s r i)
      go i true = ap hit (mark-sent sender i i.state)
      go i false = refl

  unmark_sent : (i : Item) (x : State) → sent_by s r (unmarked (with_state x i)) ≡ sent_by s r (with_state x i)
  unfolding unmarked with_state sent_by
  unmark_sent i (Single d own) = refl
  unmark_sent i (Pair d c dm cm) = refl
  unmark_sent i (Trade own) = refl

  pub cancel-sent : (sender reference : ℕ) (ws : List Item) → sent s r (staying (marking sender reference ws)) ≤ sent s r ws
  unfolding staying
  cancel-sent sender reference ws =
      omega (arith, keep-most (λ i. hit (sent_by s r i)) (λ item. not (both_marked item.state)) (marking sender reference ws), marking-sent sender reference ws)

  pub close-sent : (test : Item → Bool) (ws : List Item) → sent s r (map unmarked (keep test ws)) ≤ sent s r ws
  unfolding with_state
  close-sent test ws =
      omega (
        arith,
        total-map (λ i. hit (sent_by s r i)) (λ i. hit (sent_by s r i)) unmarked (λ i. ap hit (unmark_sent i i.state)) (keep test ws),
        keep-most (λ i. hit (sent_by s r i)) test ws,
      )

  -- nor does it matter whether an item is fixed
  pub fix_sent : (t : Bool) (i : Item) → sent_by s r (with_sent t i) ≡ sent_by s r i
  unfolding sent_by with_sent
  fix_sent t i = refl

  pub cycle-sent : (b : Ledger) → sent s r (fixing (selection b)) ≡ sent s r b.waiting
  cycle-sent b = fixing-total (λ i. hit (sent_by s r i)) (λ t i. ap hit (fix_sent t i)) b

  pub confirm-sent : (b : Ledger) → sent s r (not_settled b) ≤ sent s r b.waiting
  confirm-sent b = omega (arith, settled-total (λ i. hit (sent_by s r i)) b)

  pub decline-sent : (ws : List Item) → sent s r (declined ws) ≡ sent s r ws
  unfolding declined
  decline-sent ws = total-map (λ i. hit (sent_by s r i)) (λ i. hit (sent_by s r i)) (with_sent false) (λ i. ap hit (fix_sent false i)) ws

-- one more item, under a reference that none waits under

abbrev pub Once : List Item → Type 0
Once ws = (s r : ℕ) → sent s r ws ≤ 1

pub new_once :
    (sender reference : ℕ) (new : Item) (ws : List Item) → Once ws → some (sent_by sender reference) ws ≡ false
    → ((s r : ℕ) → sent_by s r new ≡ true → (s ≡ sender) × (r ≡ reference)) → (s r : ℕ) → sent s r ws + hit (sent_by s r new) ≤ 1
new_once sender reference new ws o z f s r = go (sent_by s r new) refl
  where
    go : (t : Bool) → sent_by s r new ≡ t → sent s r ws + hit (sent_by s r new) ≤ 1
    go true e =
        let p = f s r e in
        let n = none_sent sender reference ws z in
        let q : sent s r ws ≡ 0 = subst (λ (x : ℕ). sent x r ws ≡ 0) (sym p.0) (subst (λ (y : ℕ). sent sender y ws ≡ 0) (sym p.1) n) in
        simp e (omega (arith, q))
    go false e = simp e (omega (arith, o s r))

-- so cancel marks one item: the only one under that sender's reference

none_marked : (sender reference : ℕ) (ws : List Item) → sent sender reference ws ≡ 0 → marking sender reference ws ≡ ws
unfolding marking
none_marked sender reference [] e = refl
none_marked sender reference (w ∷ rest) e = go (sent_by sender reference w) refl (none_marked sender reference rest)
  where
    go : (t : Bool) → sent_by sender reference w ≡ t → (sent sender reference rest ≡ 0 → marking sender reference rest ≡ rest)
        → marking sender reference (w ∷ rest) ≡ w ∷ rest
    go true p ih = absurd (omega (arith, simp p at e))
    go false p ih = simp p (ap (λ (ws : List Item). w ∷ ws) (ih (omega (arith, simp p at e))))

pub marks_one :
    (sender reference : ℕ) (before : List Item) (item : Item) (after : List Item) → sent_by sender reference item ≡ true
    → sent sender reference (before ++ (item ∷ after)) ≤ 1
    → marking sender reference (before ++ (item ∷ after)) ≡ before ++ (marked sender item ∷ after)
unfolding marking
marks_one sender reference [] item after p l =
    simp p (ap (λ (ws : List Item). marked sender item ∷ ws) (none_marked sender reference after (omega (arith, simp p at l))))
marks_one sender reference (w ∷ rest) item after p l = go (sent_by sender reference w) refl (marks_one sender reference rest item after p)
  where
    m : sent sender reference (rest ++ (item ∷ after)) ≡ sent sender reference rest + (1 + sent sender reference after)
    m = simp (total-append, p)

    go :
        (t : Bool) → sent_by sender reference w ≡ t
        → (sent sender reference (rest ++ (item ∷ after)) ≤ 1 → marking sender reference (rest ++ (item ∷ after)) ≡ rest ++ (marked sender item ∷ after))
        → marking sender reference (w ∷ (rest ++ (item ∷ after))) ≡ w ∷ (rest ++ (marked sender item ∷ after))
    go true q ih = absurd (omega (arith, simp q at l, m))
    go false q ih = simp q (ap (λ (ws : List Item). w ∷ ws) (ih (omega (arith, simp q at l))))
