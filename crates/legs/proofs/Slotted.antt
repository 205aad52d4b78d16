-- Slots tell apart what legs debit, and a store at a slot changes the figures of the legs that debit the same. Assumes nothing.
use Rattle.std.specs.Prelude.{if◌then◌else◌, Option, Some, None}
use Prim.Native.Nat.{ℕ, ◌+◌, ◌-◌, ◌≤◌, ◌<◌}
use native.Mathlib.Omega.{arith}
use native.Mathlib.Decide.{ℕ_discrete}
use mathlib.Core.Bool.{Bool, true, false, false≢true}
use mathlib.Core.List.{List}
use mathlib.Core.Path.{◌≡◌, refl, sym, ap, ◌∙◌}
use borrow.Author.Tests.{eq-eqb, ne_eqb, eqb-true, eqb-false, lt-ltb, le-ltb, ltb-true, ltb-false}
use lib.Dec.{ltb}
use lib.ListN.{length, get_or, set, length-set}
use lib.Seq.{get_or-set_same, get_or-set_other}
use Rattle.plain.specs.Lists.{◌is◌, ◌below◌}
use Rattle.words.proofs.Places.{length_from, from_get}
use Rattle.legs.specs.Figures.{OWES, from_at, to_at, has_at, owes_at, Figures, short_at, last_below}
use Rattle.legs.specs.Slots.{slot_at, slot_of, Slots, Low, viewed}
use Rattle.legs.proofs.Searches.{last_at, last_none}

-- ---- figures read through slots

module _ (slots figures : List ℕ) where
  abbrev read : ℕ → ℕ
  read i = if i below 64 then has_at figures (has_at slots i) else owes_at figures (has_at slots (i - 64))

  pub has-viewed : (k : ℕ) → k < 64 → has_at (viewed slots figures) k ≡ has_at figures (has_at slots k)
  unfolding viewed
  has-viewed k h =
      let z : 0 + k ≡ k = omega arith in
      from_get read 0 128 k 0 (omega arith) ∙ rw (z, lt-ltb k 64 h)

  pub owes_viewed : (k : ℕ) → k < 64 → owes_at (viewed slots figures) k ≡ owes_at figures (has_at slots k)
  unfolding viewed
  owes_viewed k h =
      let z : 0 + (k + 64) ≡ k + 64 = omega arith in
      let y : k + 64 - 64 ≡ k = omega arith in
      from_get read 0 128 (k + 64) 0 (omega arith) ∙ rw (z, le-ltb (k + 64) 64 (omega arith), y)

  pub viewed-long : length (viewed slots figures) ≡ 128
  unfolding viewed
  viewed-long = length_from read 0 128

-- ---- slots tell keys apart

module _ (legs : List ℕ) (n : ℕ) where
  -- where a key is debited
  pub slot_found : (key j : ℕ) → last_below (λ k. from_at legs k is key) n ≡ Some j → (j < n) × (from_at legs j ≡ key)
  slot_found key j e = let h = last_at (λ k. from_at legs k is key) n j e in (h.inside, eqb-true (from_at legs j) key h.passed)

  -- a slot below 64 is a leg that debits the key
  pub slot_leg : (key : ℕ) → slot_of legs n key < 64 → (slot_of legs n key < n) × (from_at legs (slot_of legs n key) ≡ key)
  unfolding slot_of
  slot_leg key l = go (last_below (λ k. from_at legs k is key) n) refl l
    where
      go : (f : Option ℕ) → last_below (λ k. from_at legs k is key) n ≡ f → slot_at f < 64 → (slot_at f < n) × (from_at legs (slot_at f) ≡ key)
      go (Some j) e m = slot_found key j e
      go None e m = absurd (omega arith)

  -- no leg behind it debits the key
  pub slot_last : (key k : ℕ) → k < n → from_at legs k ≡ key → k ≤ slot_of legs n key
  unfolding slot_of
  slot_last key k l q = go (last_below (λ i. from_at legs i is key) n) refl
    where
      there : (from_at legs k is key) ≡ true
      there = eq-eqb (from_at legs k) key q

      by : (i : ℕ) (t : Bool) → last_below (λ m. from_at legs m is key) n ≡ Some i → ltb i k ≡ t → k ≤ i
      by i true e t = absurd (false≢true (sym ((last_at (λ m. from_at legs m is key) n i e).behind k (ltb-true i k t) l) ∙ there))
      by i false e t = ltb-false i k t

      go : (f : Option ℕ) → last_below (λ i. from_at legs i is key) n ≡ f → k ≤ slot_at f
      go (Some i) e = by i (ltb i k) e refl
      go None e = absurd (false≢true (sym (last_none (λ i. from_at legs i is key) n e k l) ∙ there))

  module _ (size : n ≤ 64) where
    -- a leg's own
    pub slot_own : (k : ℕ) → k < n → slot_of legs n (from_at legs k) < 64
    unfolding slot_of
    slot_own k l = go (last_below (λ i. from_at legs i is from_at legs k) n) refl
      where
        go : (f : Option ℕ) → last_below (λ i. from_at legs i is from_at legs k) n ≡ f → slot_at f < 64
        go (Some j) e = omega (arith, (slot_found (from_at legs k) j e).0)
        go None e = absurd (eqb-false (from_at legs k) (from_at legs k) (last_none (λ i. from_at legs i is from_at legs k) n e k l) refl)

    pub slot_test : (key k : ℕ) → k < n → (slot_of legs n key is slot_of legs n (from_at legs k)) ≡ (key is from_at legs k)
    slot_test key k l = go (ℕ_discrete key (from_at legs k))
      where
        go : Dec (key ≡ from_at legs k) → (slot_of legs n key is slot_of legs n (from_at legs k)) ≡ (key is from_at legs k)
        go (yes e) = rw (eq-eqb key (from_at legs k) e) (eq-eqb (slot_of legs n key) (slot_of legs n (from_at legs k)) (ap (slot_of legs n) e))
        go (no d) =
            rw (ne_eqb key (from_at legs k) d)
            (ne_eqb (slot_of legs n key) (slot_of legs n (from_at legs k)) (λ s.
            let own = slot_own k l in
            let two = (slot_leg (from_at legs k) own).1 in
            let one = (slot_leg key (omega (arith, s, own))).1 in
            d (sym one ∙ ap (from_at legs) s ∙ two)))

-- ---- a store at the slot of leg j

-- a store in a column, read at another of its places
stored :
    (figures : List ℕ) (v : ℕ) (column : ℕ → ℕ) (a b : ℕ) → (column a ≡ column b → a ≡ b) → column a < length figures
    → get_or (set figures (column a) v) (column b) 0 ≡ (if a is b then v else get_or figures (column b) 0)
stored figures v column a b once l = go (ℕ_discrete a b)
  where
    go : Dec (a ≡ b) → get_or (set figures (column a) v) (column b) 0 ≡ (if a is b then v else get_or figures (column b) 0)
    go (yes e) = rw (eq-eqb a b e) (ap (λ (x : ℕ). get_or (set figures (column a) v) (column x) 0) (sym e) ∙ get_or-set_same figures (column a) v 0 l)
    go (no d) = rw (ne_eqb a b d) (get_or-set_other figures (column a) (column b) v 0 (λ e. d (once (sym e))))

module _ (n : ℕ) (legs slots figures : List ℕ) (size : n ≤ 64) (long : length figures ≡ 128) (s : Slots n legs slots) where
  pub slots_low : Low n slots
  slots_low = record { long = s.long; low = λ k h. rw (s.has_as k h) (slot_own legs n size k h) }

  module _ (key v : ℕ) (low : slot_of legs n key < 64) where
    abbrev brought : List ℕ
    brought = set figures (slot_of legs n key) v

    abbrev taken : List ℕ
    taken = set figures (slot_of legs n key + OWES) v

    pub has-stored : (k : ℕ) → k < n → has_at (viewed slots brought) k ≡ (if key is from_at legs k then v else has_at (viewed slots figures) k)
    has-stored k h =
        rw (has-viewed slots brought k (omega arith), has-viewed slots figures k (omega arith), s.has_as k h, ← slot_test legs n size key k h)
        (stored figures v (λ x. x) (slot_of legs n key) (slot_of legs n (from_at legs k)) (λ e. e) (omega arith))

    pub owes_kept : (k : ℕ) → k < n → owes_at (viewed slots brought) k ≡ owes_at (viewed slots figures) k
    owes_kept k h =
        rw (owes_viewed slots brought k (omega arith), owes_viewed slots figures k (omega arith))
        (get_or-set_other figures (slot_of legs n key) (has_at slots k + OWES) v 0 (λ e. omega (arith, e)))

    pub owes_stored : (k : ℕ) → k < n → owes_at (viewed slots taken) k ≡ (if key is from_at legs k then v else owes_at (viewed slots figures) k)
    owes_stored k h =
        rw (owes_viewed slots taken k (omega arith), owes_viewed slots figures k (omega arith), s.has_as k h, ← slot_test legs n size key k h)
        (stored figures v (λ x. x + OWES) (slot_of legs n key) (slot_of legs n (from_at legs k)) (λ e. omega (arith, e)) (omega arith))

    pub has_kept : (k : ℕ) → k < n → has_at (viewed slots taken) k ≡ has_at (viewed slots figures) k
    has_kept k h =
        rw (has-viewed slots taken k (omega arith), has-viewed slots figures k (omega arith))
        (get_or-set_other figures (slot_of legs n key + OWES) (has_at slots k) v 0 (λ e. omega (arith, e, slots_low.low k h)))

  -- nothing is brought to what no leg debits
  pub brings-none : (key : ℕ) → slot_of legs n key ≡ 64 → (k : ℕ) → k < n → (key is from_at legs k) ≡ false
  brings-none key e k h =
      sym (slot_test legs n size key k h)
      ∙ ne_eqb (slot_of legs n key) (slot_of legs n (from_at legs k)) (λ q. omega (arith, e, q, slot_own legs n size k h))

-- ---- the leg of a trade, added or taken away

module _ (n : ℕ) (legs slots figures : List ℕ) (size : n ≤ 64) (long : length figures ≡ 128) (s : Slots n legs slots) (j : ℕ) (low : j < n) where
  abbrev from : ℕ
  from = has_at slots j

  abbrev to : ℕ
  to = owes_at slots j

  abbrev view : List ℕ
  view = viewed slots figures

  pub from_low : from < 64
  from_low = (slots_low n legs slots figures size long s).low j low

  pub to_most : to ≤ 64
  unfolding slot_of
  to_most = rw (s.owes_as j low) (go (last_below (λ k. from_at legs k is to_at legs j) n) refl)
    where
      go : (f : Option ℕ) → last_below (λ k. from_at legs k is to_at legs j) n ≡ f → slot_at f ≤ 64
      go (Some i) e = omega (arith, (slot_found legs n (to_at legs j) i e).0)
      go None e = omega arith

  -- what leg j owes is at its slot, and what is brought to leg k at that of what j credits
  pub owes_there : (k : ℕ) → k < n → (from_at legs j is from_at legs k) ≡ true → owes_at view k ≡ owes_at figures from
  owes_there k h e =
      let q : from_at legs j ≡ from_at legs k = eqb-true (from_at legs j) (from_at legs k) e in
      owes_viewed slots figures k (omega arith) ∙ ap (owes_at figures) (s.has_as k h ∙ ap (slot_of legs n) (sym q) ∙ sym (s.has_as j low))

  pub has_there : (k : ℕ) → k < n → (to_at legs j is from_at legs k) ≡ true → has_at view k ≡ has_at figures to
  has_there k h e =
      let q : to_at legs j ≡ from_at legs k = eqb-true (to_at legs j) (from_at legs k) e in
      has-viewed slots figures k (omega arith) ∙ ap (has_at figures) (s.has_as k h ∙ ap (slot_of legs n) (sym q) ∙ sym (s.owes_as j low))

  pub short_there : (k : ℕ) → k < n → (to_at legs j is from_at legs k) ≡ true → short_at view k ≡ (has_at figures to below owes_at figures to)
  short_there k h e =
      let q : to_at legs j ≡ from_at legs k = eqb-true (to_at legs j) (from_at legs k) e in
      let same : has_at slots k ≡ to = s.has_as k h ∙ ap (slot_of legs n) (sym q) ∙ sym (s.owes_as j low) in
      rw (has_there k h e, owes_viewed slots figures k (omega arith), same)

  -- the leg that has the figures of what j credits
  pub to_leg : to < 64 → (to < n) × ((to_at legs j is from_at legs to) ≡ true)
  to_leg l =
      let e = s.owes_as j low in
      let t = slot_leg legs n (to_at legs j) (rw e at l) in
      (rw e t.0, eq-eqb (to_at legs j) (from_at legs to) (sym (ap (from_at legs) e ∙ t.1)))

  abbrev less : ℕ → List ℕ
  less o = set figures (from + OWES) o

  less_long : (o : ℕ) → length (less o) ≡ 128
  less_long o = length-set figures (from + OWES) o ∙ long

  less_is : (o : ℕ) → less o ≡ set figures (slot_of legs n (from_at legs j) + OWES) o
  less_is o = ap (λ (x : ℕ). set figures (x + OWES) o) (s.has_as j low)

  own : slot_of legs n (from_at legs j) < 64
  own = slot_own legs n size j low

  kept_less : (o k : ℕ) → k < n → has_at (viewed slots (less o)) k ≡ has_at view k
  kept_less o k h = rw (less_is o) (has_kept n legs slots figures size long s (from_at legs j) o own k h)

  owes_less : (o k : ℕ) → k < n → owes_at (viewed slots (less o)) k ≡ (if from_at legs j is from_at legs k then o else owes_at view k)
  owes_less o k h = rw (less_is o) (owes_stored n legs slots figures size long s (from_at legs j) o own k h)

  -- the figures with v where leg j credits, and o where it debits
  abbrev Stored : (v o : ℕ) → List ℕ → Type 0
  Stored v o now =
      Figures n (λ k. if to_at legs j is from_at legs k then v else has_at view k) (λ k. if from_at legs j is from_at legs k then o else owes_at view k)
      (viewed slots now)

  pub changed-none : to ≡ 64 → (o : ℕ) → Stored 0 o (less o)
  changed-none e o = record {
    long = viewed-long slots (less o);
    has_as = λ k h. rw (brings-none n legs slots figures size long s (to_at legs j) (sym (s.owes_as j low) ∙ e) k h) (kept_less o k h);
    owes_as = owes_less o;
  }

  pub changed-both : to < 64 → (o v : ℕ) → Stored v o (set (less o) to v)
  changed-both l o v =
      let lo : slot_of legs n (to_at legs j) < 64 = rw (s.owes_as j low) at l in
      record {
        long = viewed-long slots (set (less o) to v);
        has_as = λ k h.
            rw (s.owes_as j low)
            (has-stored n legs slots (less o) size (less_long o) s (to_at legs j) v lo k h
            ∙ ap (λ (x : ℕ). if to_at legs j is from_at legs k then v else x) (kept_less o k h));
        owes_as = λ k h.
            rw (s.owes_as j low)
            (owes_kept n legs slots (less o) size (less_long o) s (to_at legs j) v lo k h ∙ owes_less o k h);
      }

  -- at the slot of what is credited nothing was taken
  pub has-less : to < 64 → (o : ℕ) → has_at (less o) to ≡ has_at figures to
  has-less l o = get_or-set_other figures (from + OWES) to o 0 (λ e. omega (arith, e))

-- figures that are the same
pub figures_as :
    (n : ℕ) (a b c d : ℕ → ℕ) (figures : List ℕ) → Figures n a b figures → ((k : ℕ) → k < n → a k ≡ c k) → ((k : ℕ) → k < n → b k ≡ d k)
    → Figures n c d figures
figures_as n a b c d figures f e g = record { long = f.long; has_as = λ k h. f.has_as k h ∙ e k h; owes_as = λ k h. f.owes_as k h ∙ g k h }
