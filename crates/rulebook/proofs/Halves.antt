-- No pair waits with both halves marked, as the second mark removes it. Assumes nothing.
use mathlib.Core.Path.{◌≡◌, refl}
use mathlib.Core.Bool.{Bool, true, false}
use mathlib.Core.List.{List, [], ◌∷◌, map}
use Prim.Native.Nat.{ℕ}
use Rattle.rulebook.specs.declared.Item.{Item}
use Rattle.rulebook.specs.declared.State.{State}
use Rattle.rulebook.specs.declared.State.TheVariants.{Single, Pair, Trade}
use Rattle.rulebook.specs.Waiting.{with_state, both_marked, staying, unmarked}
use Rattle.rulebook.specs.Matching.{pair_of, arrive}
use Rattle.plain.specs.Lists.{Each}
use Rattle.rulebook.proofs.EveryCall.Items.{arrive-each}

abbrev pub Half : Item → Type 0
Half i = both_marked i.state ≡ false

pub arrive-halves : (limit : ℕ) (new : Item) → Half new → (ws : List Item) → Each Half ws → Each Half (arrive limit new ws)
arrive-halves limit new f ws e = arrive-each Half (λ d r a f g. unfold pair_of both_marked in refl) limit new f ws e

pub kept-halves : (ws : List Item) → Each Half (staying ws)
unfolding staying
kept-halves [] = tt
kept-halves (w ∷ rest) = go (both_marked w.state) refl (kept-halves rest)
  where
    go : (t : Bool) → both_marked w.state ≡ t → Each Half (staying rest) → Each Half (staying (w ∷ rest))
    go true p ih = simp p ih
    go false p ih = simp p (refl, ih)

unmarked-half : (i : Item) (x : State) → Half (unmarked (with_state x i))
unfolding unmarked with_state both_marked
unmarked-half i (Single d r) = refl
unmarked-half i (Pair d r dm rm) = refl
unmarked-half i (Trade r) = refl

pub closed_halves : (ws : List Item) → Each Half (map unmarked ws)
unfolding with_state
closed_halves [] = tt
closed_halves (w ∷ rest) = (unmarked-half w w.state, closed_halves rest)
