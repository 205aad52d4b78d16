-- The marks that items bear, read: the fixed items are those with a mark. Assumes nothing.
use mathlib.Core.Bool.{Bool, true, false, not}
use mathlib.Core.List.{List, [], ◌∷◌, map}
use mathlib.Core.Path.{◌≡◌, refl, ap}
use Rattle.plain.specs.Lists.{keep}
use Rattle.rulebook.specs.Cycle.{fixed}
use Rattle.rulebook.specs.declared.Item.{Item}
use Rattle.marks.specs.Marks.{with_mark, without_mark}
use Rattle.fixing.specs.Borne.{borne}

-- of the items whose mark passes a test
passing : (test : Bool → Bool) (ws : List Item) → map (λ m. m.1) (keep (λ m. test m.0) (borne ws)) ≡ keep (λ item. test item.sent) ws
unfolding borne
passing test [] = refl
passing test (w ∷ rest) = go (test w.sent) refl (passing test rest)
  where
    go :
        (t : Bool) → test w.sent ≡ t → map (λ m. m.1) (keep (λ m. test m.0) (borne rest)) ≡ keep (λ item. test item.sent) rest
        → map (λ m. m.1) (keep (λ m. test m.0) (borne (w ∷ rest))) ≡ keep (λ item. test item.sent) (w ∷ rest)
    go true e ih = rw e (ap (λ (l : List Item). w ∷ l) ih)
    go false e ih = rw e ih

pub borne-fixed : (ws : List Item) → with_mark (borne ws) ≡ fixed ws
unfolding with_mark fixed
borne-fixed ws = passing (λ t. t) ws

pub borne-rest : (ws : List Item) → without_mark (borne ws) ≡ keep (λ item. not item.sent) ws
unfolding without_mark
borne-rest ws = passing not ws
