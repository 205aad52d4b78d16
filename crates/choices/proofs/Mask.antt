-- A good mask is what is sent, and each choice with nothing short has one. Assumes nothing.
use Rattle.std.specs.Prelude.{if◌then◌else◌}
use mathlib.Core.Path.{◌≡◌, refl, sym, ap, ap₂, subst, ◌∙◌}
use mathlib.Core.Bool.{Bool, true, false, not, ◌&&◌, ◌||◌, false≢true, or-false}
use mathlib.Core.List.{List, [], ◌∷◌, ◌++◌, map}
use native.Mathlib.Omega.{arith}
use borrow.Author.Tests.{not-true}
use lib.ListN.{length, length-map}
use Rattle.rulebook.specs.declared.Item.{Item}
use Rattle.plain.specs.Lists.{some, keep}
use Rattle.rulebook.specs.Ledger.{Ledger, Holdings}
use Rattle.rulebook.specs.Selection.{due}
use Rattle.plain.specs.Lists.{Each}
use Rattle.plain.proofs.Tests.{both}
use Rattle.rulebook.specs.Shortfall.{NothingShort, shortfall, any_short}
use Rattle.rulebook.specs.Selection.{Standing, Entry, not_due, taken, left, trades_of}
use Rattle.rulebook.specs.Selection.{is_taken, is_left, trades_in, same_trade, is_sent}
use Rattle.rulebook.specs.Selection.{entry_by, entries, with_originals, selection}
use Rattle.rulebook.specs.Selected.{IfLeft, WhereLeft, spot, NoneLeft}
use Rattle.choices.specs.Mask.{chosen_by, masked, places_sent, ApartFrom, Apart, NoOriginal, Suspends, same_bits}
use Rattle.choices.specs.Mask.{good_mask, lacking_alone, optimised, AddedAlone, Optimised, GoodMask}
use Rattle.rulebook.proofs.Selection.Missing.{none_short, short_none}
use Rattle.rulebook.proofs.Selection.Selected.{Full, split, entries-none_left, selection-selected}
use Rattle.rulebook.proofs.Selection.Alone.{Alone, entries-alone, no_original, alone-none, sent-alone}

marked-spot : (b : Bool) (e : Entry) → spot (chosen_by b e) ≡ spot e
unfolding chosen_by
marked-spot b e = go b e.standing refl
  where
    go : (b : Bool) (m : Standing) → e.standing ≡ m → spot (chosen_by b e) ≡ spot e
    go b not_due k = simp k
    go true taken k = simp k
    go false taken k = simp k
    go b (left lacked) k = simp k

masked-spots : (bits : List Bool) (es : List Entry) → map spot (masked bits es) ≡ map spot es
unfolding masked
masked-spots bits [] = refl
masked-spots [] (e ∷ rest) = ap₂ ◌∷◌ (marked-spot false e) (masked-spots [] rest)
masked-spots (b ∷ bits) (e ∷ rest) = ap₂ ◌∷◌ (marked-spot b e) (masked-spots bits rest)

module _ (h : Holdings) (now : List Item) where
  lacking_alone-spots : (es : List Entry) → map spot (map (lacking_alone h now) es) ≡ map spot es
  unfolding lacking_alone
  lacking_alone-spots [] = refl
  lacking_alone-spots (e ∷ rest) = ap₂ ◌∷◌ (go e.standing refl) (lacking_alone-spots rest)
    where
      go : (m : Standing) → e.standing ≡ m → spot (lacking_alone h now e) ≡ spot e
      go not_due k = simp k
      go taken k = simp k
      go (left lacked) k = simp k

  lacking_alone-in : (es : List Entry) → trades_in (map (lacking_alone h now) es) ≡ trades_in es
  unfolding lacking_alone trades_in
  lacking_alone-in [] = refl
  lacking_alone-in (e ∷ rest) = go e.standing refl (lacking_alone-in rest)
    where
      go :
          (m : Standing) → e.standing ≡ m → trades_in (map (lacking_alone h now) rest) ≡ trades_in rest
          → trades_in (map (lacking_alone h now) (e ∷ rest)) ≡ trades_in (e ∷ rest)
      go not_due k ih = simp (k, ih)
      go taken k ih = simp (k, ih)
      go (left lacked) k ih = simp (k, ih)

  lacking_alone-alone : (es : List Entry) → WhereLeft (AddedAlone h now) (map (lacking_alone h now) es)
  unfolding lacking_alone
  lacking_alone-alone [] = tt
  lacking_alone-alone (e ∷ rest) = (go e.standing refl, lacking_alone-alone rest)
    where
      go : (m : Standing) → e.standing ≡ m → IfLeft (AddedAlone h now) (trades_of (lacking_alone h now e)) (lacking_alone h now e).standing
      go not_due k = simp k tt
      go taken k = simp k tt
      go (left lacked) k = simp k refl

  alone-full : (es : List Entry) → WhereLeft (AddedAlone h now) es → WhereLeft Full es
  alone-full [] a = tt
  alone-full (e ∷ rest) a = (go e.standing a.0, alone-full rest a.1)
    where
      go : (m : Standing) → IfLeft (AddedAlone h now) (trades_of e) m → IfLeft Full (trades_of e) m
      go not_due s = tt
      go taken s = tt
      go (left lacked) s = ap length s ∙ length-map (trades_of e) (shortfall h (now ++ trades_of e))

pub optimised-laws :
    (h : Holdings) (bits : List Bool) (es : List Entry) → NoneLeft es → good_mask h bits es ≡ true → Optimised h es (optimised h bits es)
unfolding good_mask optimised
optimised-laws h bits es u g =
    let m : List Entry = masked bits es in
    let now : List Item = trades_in m in
    let after : List Entry = map (lacking_alone h now) m in
    let same : trades_in after ≡ now = lacking_alone-in h now m in
    let spots : map spot after ≡ map spot es = lacking_alone-spots h now m ∙ masked-spots bits es in
    let alone = lacking_alone-alone h now m in
    record {
      covered = rw same (none_short h now (not-true _ (both (same_bits bits (places_sent m)) (not (any_short h now)) g).1));
      lacked = rw same alone;
      same = spots;
      parts = split es after u (alone-full h now after alone) spots;
    }

-- ---- every choice has its mask

same_self : (bits : List Bool) → same_bits bits bits ≡ true
unfolding same_bits
same_self [] = refl
same_self (true ∷ bits) = same_self bits
same_self (false ∷ bits) = same_self bits

-- what decides which trades and places are sent
record Seen : Type 0 where
  item : Item
  others : List Item
  is_in : Bool

abbrev seen : Entry → Seen
seen e = record { item = e.item; others = e.others; is_in = is_taken e.standing }

in_of : List Seen → List Item
in_of [] = []
in_of (s ∷ rest) = if s.is_in then (s.item ∷ s.others) ++ in_of rest else in_of rest

in_seen : (es : List Entry) → trades_in es ≡ in_of (map seen es)
unfolding trades_in in_of
in_seen [] = refl
in_seen (e ∷ rest) = simp (in_seen rest)

sent_of : List Seen → Seen → Bool
sent_of all s = s.is_in || some (λ o. o.is_in && some (same_trade s.item) o.others) all

some-map : {A B : Type 0} (f : A → B) (test : B → Bool) (xs : List A) → some test (map f xs) ≡ some (λ x. test (f x)) xs
some-map f test [] = refl
some-map f test (x ∷ xs) = ap (λ b. test (f x) || b) (some-map f test xs)

sent-seen : (all es : List Entry) → map (is_sent all) es ≡ map (sent_of (map seen all)) (map seen es)
unfolding is_sent sent_of
sent-seen all [] = refl
sent-seen all (e ∷ rest) =
    ap₂ ◌∷◌ (ap (λ b. is_taken e.standing || b) (sym (some-map seen (λ o. o.is_in && some (same_trade e.item) o.others) all))) (sent-seen all rest)

places-seen : (xs ys : List Entry) → map seen xs ≡ map seen ys → places_sent xs ≡ places_sent ys
unfolding places_sent
places-seen xs ys e = sent-seen xs xs ∙ ap (λ (l : List Seen). map (sent_of l) l) e ∙ sym (sent-seen ys ys)

-- a due one is marked if it is in: it is no original
abbrev Told : List Entry → Entry → Type 0
Told all c = (is_taken c.standing || is_left c.standing) ≡ true → is_sent all c ≡ is_taken c.standing

told : (all cs : List Entry) → ApartFrom (map spot all) (map spot cs) → Each (Told all) cs
unfolding is_sent
told all [] a = tt
told all (c ∷ cs) a = ((λ d. simp (no_original c.item all (a.0 d), or-false)), told all cs a.1)

marked-seen : (all : List Entry) (e c : Entry) → is_left e.standing ≡ false → spot c ≡ spot e → Told all c → seen (chosen_by (is_sent all c) e) ≡ seen c
unfolding chosen_by
marked-seen all e c u s t = go c.standing refl e.standing refl
  where
    item : e.item ≡ c.item
    item = sym (ap (λ x. x.item) s)

    others : e.others ≡ c.others
    others = sym (ap (λ x. x.others) s)

    is_due : (is_taken c.standing || is_left c.standing) ≡ (is_taken e.standing || is_left e.standing)
    is_due = ap (λ x. x.is_due) s

    go : (n : Standing) → c.standing ≡ n → (m : Standing) → e.standing ≡ m → seen (chosen_by (is_sent all c) e) ≡ seen c
    go not_due j not_due k = simp (j, k, item, others)
    go not_due j taken k = absurd (false≢true (simp (j, k) at is_due))
    go taken j not_due k = absurd (false≢true (sym (simp (j, k) at is_due)))
    go taken j taken k = simp (t (simp j), j, k, item, others)
    go (left lacked) j not_due k = absurd (false≢true (sym (simp (j, k) at is_due)))
    go (left lacked) j taken k = simp (t (simp j), j, k, item, others)
    go n j (left lacked) k = absurd (false≢true (sym (simp k at u)))

masked-seen :
    (all es cs : List Entry) → NoneLeft es → map spot cs ≡ map spot es → Each (Told all) cs
    → map seen (masked (map (is_sent all) cs) es) ≡ map seen cs
unfolding masked
masked-seen all [] [] u s t = refl
masked-seen all [] (c ∷ cs) u s t = absurd (omega (arith, ap length s))
masked-seen all (e ∷ es) [] u s t = absurd (omega (arith, ap length s))
masked-seen all (e ∷ es) (c ∷ cs) u s t =
    let here : spot c ≡ spot e = cc in
    let later : map spot cs ≡ map spot es = cc in
    ap₂ ◌∷◌ (marked-seen all e c u.0 here t.0) (masked-seen all es cs u.1 later t.1)

pub good_mask_lem :
    (h : Holdings) (es choice : List Entry) → NoneLeft es → Apart (map spot es) → map spot choice ≡ map spot es → NothingShort h (trades_in choice)
    → GoodMask h es choice
unfolding good_mask optimised
good_mask_lem h es choice u a s q =
    let bits : List Bool = places_sent choice in
    let m : List Entry = masked bits es in
    let r : map seen m ≡ map seen choice = unfold places_sent in masked-seen choice es choice u s (told choice choice (subst Apart (sym s) a)) in
    let trades : trades_in m ≡ trades_in choice = in_seen m ∙ ap in_of r ∙ sym (in_seen choice) in
    record {
      good = simp (places-seen m choice r, trades, same_self bits, short_none h (trades_in choice) q);
      sends = lacking_alone-in h (trades_in m) m ∙ trades;
    }

-- ---- where each goes by itself

-- no one is the original of another, and the places sent are those that are in
pub alone-apart : (es : List Entry) → Alone es → Apart (map spot es)
alone-apart es a = go es
  where
    go : (xs : List Entry) → ApartFrom (map spot es) (map spot xs)
    go [] = tt
    go (x ∷ xs) = ((λ d. alone-none x.item es a), go xs)

pub places-alone : (es : List Entry) → Alone es → places_sent es ≡ map (λ e. is_taken e.standing) es
unfolding places_sent
places-alone es a = go es
  where
    go : (xs : List Entry) → map (is_sent es) xs ≡ map (λ e. is_taken e.standing) xs
    go [] = refl
    go (x ∷ xs) = ap₂ ◌∷◌ (sent-alone es a x) (go xs)

-- a cycle's own choice is always a good mask
pub selection-mask : (book : Ledger) → GoodMask book.holdings (entries book) (selection book)
unfolding entries
selection-mask book =
    let s = selection-selected book in
    let is_in : Item → Bool = due book.day.number in
    good_mask_lem book.holdings (entries book) (selection book) (entries-none_left is_in (λ item. []) book.waiting)
    (alone-apart (entries book) (entries-alone is_in book.waiting)) s.same s.covered

-- ---- with operations

module _ (is_in : Item → Bool) (is_original : (operation item : Item) → Bool) where
  -- an item that a cycle takes by itself is no original
  book_has-none :
      (i o : Item) (ws : List Item) → Each (λ j. is_original o j ≡ true → same_trade i j ≡ false) ws → some (same_trade i) (keep (is_original o) ws) ≡ false
  book_has-none i o [] f = refl
  book_has-none i o (w ∷ ws) f = go (is_original o w) refl (book_has-none i o ws f.1)
    where
      go :
          (b : Bool) → is_original o w ≡ b → some (same_trade i) (keep (is_original o) ws) ≡ false
          → some (same_trade i) (keep (is_original o) (w ∷ ws)) ≡ false
      go true k ih = simp (k, f.0 k, ih)
      go false k ih = simp (k, ih)

  module _ (waiting : List Item) where
    abbrev with_original : Item → Entry
    with_original = entry_by is_in (λ item. keep (is_original item) waiting)

    spots_none :
        (i : Item) (ws : List Item) → Each (λ o. Each (λ j. is_original o j ≡ true → same_trade i j ≡ false) waiting) ws
        → some (λ s. some (same_trade i) s.others) (map spot (map with_original ws)) ≡ false
    unfolding entry_by
    spots_none i [] f = refl
    spots_none i (w ∷ ws) f = ap₂ ◌||◌ (book_has-none i w waiting f.0) (spots_none i ws f.1)

    due_in : (b : Bool) → (is_taken (if b then taken else not_due) || is_left (if b then taken else not_due)) ≡ true → b ≡ true
    due_in true e = refl
    due_in false e = e

    each_apart :
        (ws : List Item) → Each (λ i. is_in i ≡ true → NoOriginal is_original waiting i) ws
        → ApartFrom (map spot (map with_original waiting)) (map spot (map with_original ws))
    unfolding entry_by
    each_apart [] f = tt
    each_apart (w ∷ ws) f = ((λ d. spots_none w waiting (f.0 (due_in (is_in w) d))), each_apart ws f.1)

    pub originals_apart : Suspends is_in is_original waiting → Apart (map spot (with_originals is_in is_original waiting))
    unfolding with_originals
    originals_apart s = each_apart waiting s
