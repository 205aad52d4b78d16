-- What is claimed of a selection holds of it. Assumes nothing.
use Rattle.std.specs.Prelude.{if◌then◌else◌}
use mathlib.Core.Path.{◌≡◌, refl, sym, ap, ◌∙◌}
use mathlib.Core.Bool.{Bool, true, false, false≢true}
use mathlib.Core.List.{List, [], ◌∷◌, map}
use Prim.Native.Nat.{ℕ, ◌+◌, ◌≤◌, zero-le}
use native.Mathlib.Omega.{arith}
use lib.ListN.{length, length-map}
use Rattle.rulebook.specs.declared.Item.{Item}
use Rattle.plain.specs.Lists.{total}
use Rattle.plain.proofs.Lists.{total-append}
use Rattle.rulebook.specs.Shortfall.{Shortfall, shortfall}
use Rattle.rulebook.specs.Ledger.{Ledger, Holdings}
use Rattle.rulebook.specs.Selection.{due}
use Rattle.rulebook.specs.Selection.{Standing, Entry, not_due, taken, left, is_left, trades_in, count_left, dropping, passes}
use Rattle.rulebook.specs.Selection.{selection_in, full_selection, entry_by, entries, selection, trades_left, trades_of, LeftTrade, with_lacks}
use Rattle.rulebook.specs.Selected.{IfLeft, WhereLeft, Moment, Spot, spot, Selected, NothingFits, EnoughTurns, PassesEnd, NoneLeft}
use Rattle.rulebook.proofs.Selection.Dropping.{dropping-covered, dropping-spots, dropping-lacked, nothing_claimed, rounds_enough}
use Rattle.rulebook.proofs.Selection.Passes.{pass-none, passes-refuse, passes-covered, passes-spots}
use Rattle.rulebook.proofs.Selection.Passes.{passes-lacked, passes_enough, refused-unfit}

pub left-most : (es : List Entry) → count_left es ≤ length es
unfolding count_left
left-most [] = zero-le
left-most (e ∷ rest) = go e.standing (left-most rest)
  where
    go : (m : Standing) → count_left rest ≤ length rest → (if is_left m then 1 else 0) + count_left rest ≤ length (e ∷ rest)
    go not_due ih = omega arith
    go taken ih = omega arith
    go (left lacked) ih = omega arith

pub dropping-length : (h : Holdings) (es : List Entry) → length (dropping h es) ≡ length es
dropping-length h es = sym (length-map (dropping h es) spot) ∙ ap length (dropping-spots h es) ∙ length-map es spot

-- ---- each due one is sent or left, once

-- a figure for each trade
abbrev pub Full : List Item → List Shortfall → Type 0
Full trades lacked = length lacked ≡ length trades

moment_full : (h : Holdings) (es : List Entry) → WhereLeft (Moment h) es → WhereLeft Full es
moment_full h [] e = tt
moment_full h (x ∷ rest) e = (go x.standing e.0, moment_full h rest e.1)
  where
    go : (m : Standing) → IfLeft (Moment h) (trades_of x) m → IfLeft Full (trades_of x) m
    go not_due s = tt
    go taken s = tt
    go (left lacked) s = ap length s.exact ∙ length-map (trades_of x) (shortfall h s.now)

-- a figure of what is due
abbrev over_due : (Item → ℕ) → List Spot → ℕ
over_due f ss = total (λ s. if s.is_due then total f (s.item ∷ s.others) else 0) ss

lacked_total :
    (f : Item → ℕ) (trades : List Item) (lacked : List Shortfall) → Full trades lacked
    → total (λ l. f l.trade) (with_lacks trades lacked) ≡ total f trades
lacked_total f [] lacked e = refl
lacked_total f (t ∷ ts) [] e = absurd (omega arith)
lacked_total f (t ∷ ts) (s ∷ lacked) e = omega (arith, lacked_total f ts lacked (omega arith))

pub sorted_total :
    (f : Item → ℕ) (es : List Entry) → WhereLeft Full es → total f (trades_in es) + total (λ l. f l.trade) (trades_left es) ≡ over_due f (map spot es)
unfolding trades_in trades_left
sorted_total f [] e = refl
sorted_total f (x ∷ rest) e = go x.standing refl e.0 (sorted_total f rest e.1)
  where
    go :
        (m : Standing) → x.standing ≡ m → IfLeft Full (trades_of x) m
        → total f (trades_in rest) + total (λ l. f l.trade) (trades_left rest) ≡ over_due f (map spot rest)
        → total f (trades_in (x ∷ rest)) + total (λ l. f l.trade) (trades_left (x ∷ rest)) ≡ over_due f (map spot (x ∷ rest))
    go not_due k s ih = rw k (omega arith)
    go taken k s ih = rw k (omega (arith, total-append f (trades_of x) (trades_in rest)))
    go (left lacked) k s ih =
        rw (k, total-append (λ (l : LeftTrade). f l.trade) (with_lacks (trades_of x) lacked) (trades_left rest))
        (omega (arith, lacked_total f (trades_of x) lacked s))

nothing_left : (es : List Entry) → NoneLeft es → trades_left es ≡ []
unfolding trades_left
nothing_left [] u = refl
nothing_left (x ∷ rest) u = go x.standing refl u.0 (nothing_left rest u.1)
  where
    go : (m : Standing) → x.standing ≡ m → is_left m ≡ false → trades_left rest ≡ [] → trades_left (x ∷ rest) ≡ []
    go not_due k l ih = simp (k, ih)
    go taken k l ih = simp (k, ih)
    go (left lacked) k l ih = absurd (false≢true (sym l))

-- what keeps the places splits what is due into what is in and what is left
pub split :
    (before after : List Entry) → NoneLeft before → WhereLeft Full after → map spot after ≡ map spot before → (f : Item → ℕ)
    → total f (trades_in after) + total (λ l. f l.trade) (trades_left after) ≡ total f (trades_in before)
split before after u full same f =
    let none = ap (total (λ (l : LeftTrade). f l.trade)) (nothing_left before u) in
    omega (arith, sorted_total f after full, sorted_total f before (nothing_claimed Full before u), ap (over_due f) same, none)

module _ (h : Holdings) (es : List Entry) (u : NoneLeft es) where
  pub selected : (most : ℕ) → Selected h es (selection_in most h es)
  unfolding selection_in
  selected most =
      let d : List Entry = dropping h es in
      let lacked = passes-lacked h most d (dropping-lacked h es u) in
      let same = passes-spots h most d ∙ dropping-spots h es in
      record {
        covered = passes-covered h most d (dropping-covered h es);
        lacked = lacked;
        same = same;
        parts = split es (passes most h d) u (moment_full h (passes most h d) lacked) same;
      }

pub nothing_fits_lem : (h : Holdings) (es : List Entry) → NothingFits h (full_selection h es)
unfolding full_selection selection_in
nothing_fits_lem h es =
    let d : List Entry = dropping h es in
    let after : List Entry = passes (length es) h d in
    let r = passes-refuse h (length es) d (omega (arith, left-most d, dropping-length h es)) in
    record { unfit = refused-unfit h (trades_in after) after r; ended = pass-none h (trades_in after) after r }

pub enough_turns : (h : Holdings) (es : List Entry) → EnoughTurns h es
enough_turns h es = record { rounds_enough = λ n k. rounds_enough h n k es; passes_enough = λ n k. passes_enough h n k es }

-- and so of the waiting list
pub entries-none_left : (is_in : Item → Bool) (others : Item → List Item) (waiting : List Item) → NoneLeft (map (entry_by is_in others) waiting)
unfolding entry_by
entries-none_left is_in others [] = tt
entries-none_left is_in others (i ∷ rest) = (go (is_in i), entries-none_left is_in others rest)
  where
    go : (b : Bool) → is_left (if b then taken else not_due) ≡ false
    go true = refl
    go false = refl

pub selection-selected : (book : Ledger) → Selected book.holdings (entries book) (selection book)
unfolding selection full_selection entries
selection-selected book =
    selected book.holdings (entries book) (entries-none_left (due book.day.number) (λ item. []) book.waiting) (length (entries book))

pub selection-unfit : (book : Ledger) → NothingFits book.holdings (selection book)
unfolding selection
selection-unfit book = nothing_fits_lem book.holdings (entries book)

pub passes-end : (book : Ledger) → PassesEnd book
unfolding selection full_selection selection_in entries
passes-end book =
    let h = book.holdings in
    let d : List Entry = dropping h (entries book) in
    let most = left-most d in
    let long = dropping-length h (entries book) in
    let size = length-map book.waiting (entry_by (due book.day.number) (λ item. [])) in
    record {
      few = omega (arith, most, long, size);
      enough = λ n l. passes_enough h n (length (entries book)) d l (omega (arith, most, long));
      ended = (selection-unfit book).ended;
    }
