-- Where each trade goes in and out by itself, what is sent is what is in. Assumes nothing.
use mathlib.Core.Path.{◌≡◌, refl, sym, ap, ap₂}
use mathlib.Core.Bool.{Bool, true, false, ◌&&◌, ◌||◌, false≢true, or-false, and-false}
use mathlib.Core.List.{List, [], ◌∷◌, map}
use Rattle.plain.specs.Lists.{some, Each}
use Rattle.rulebook.specs.declared.Item.{Item}
use Rattle.rulebook.specs.Selection.{Entry, is_taken, same_trade, is_sent, entry_by}
use Rattle.rulebook.specs.Selected.{Spot, spot}

abbrev pub Alone : List Entry → Type 0
Alone es = Each (λ e. e.others ≡ []) es

abbrev pub AloneAt : List Spot → Type 0
AloneAt spots = Each (λ s. s.others ≡ []) spots

pub alone_at : (es : List Entry) → Alone es → AloneAt (map spot es)
alone_at [] a = tt
alone_at (e ∷ rest) a = (a.0, alone_at rest a.1)

pub at_alone : (es : List Entry) → AloneAt (map spot es) → Alone es
at_alone [] a = tt
at_alone (e ∷ rest) a = (a.0, at_alone rest a.1)

-- so it is in the waiting list
pub entries-alone : (is_in : Item → Bool) (waiting : List Item) → Alone (map (entry_by is_in (λ item. [])) waiting)
unfolding entry_by
entries-alone is_in [] = tt
entries-alone is_in (i ∷ rest) = (refl, entries-alone is_in rest)

-- an item that no entry has beside its own is sent only where it is in
pub no_original :
    (i : Item) (all : List Entry) → some (λ s. some (same_trade i) s.others) (map spot all) ≡ false
    → some (λ o. is_taken o.standing && some (same_trade i) o.others) all ≡ false
no_original i [] n = refl
no_original i (o ∷ all) n = go (some (same_trade i) o.others) refl (no_original i all)
  where
    go :
        (b : Bool) → some (same_trade i) o.others ≡ b
        → (some (λ s. some (same_trade i) s.others) (map spot all) ≡ false → some (λ o. is_taken o.standing && some (same_trade i) o.others) all ≡ false)
        → some (λ o. is_taken o.standing && some (same_trade i) o.others) (o ∷ all) ≡ false
    go true k ih = absurd (false≢true (sym (simp k at n)))
    go false k ih = simp (k, and-false, ih (simp k at n))

pub alone-none : (i : Item) (es : List Entry) → Alone es → some (λ s. some (same_trade i) s.others) (map spot es) ≡ false
alone-none i [] a = refl
alone-none i (e ∷ rest) a = ap₂ ◌||◌ (ap (some (same_trade i)) a.0) (alone-none i rest a.1)

pub sent-alone : (es : List Entry) → Alone es → (e : Entry) → is_sent es e ≡ is_taken e.standing
unfolding is_sent
sent-alone es a e = simp (no_original e.item es (alone-none e.item es a), or-false)
