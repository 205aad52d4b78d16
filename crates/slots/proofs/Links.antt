-- The legs of a bucket as a list: a search along it finds what a search through all legs finds. Assumes nothing.
use Rattle.std.specs.Prelude.{if◌then◌else◌, Option, Some, None}
use Prim.Native.Nat.{ℕ, ◌+◌, ◌-◌, ◌≤◌, ◌<◌}
use native.Mathlib.Omega.{arith}
use native.Mathlib.Decide.{ℕ_discrete}
use mathlib.Core.Bool.{Bool, true, false, false≢true}
use mathlib.Core.List.{List}
use mathlib.Core.Path.{◌≡◌, refl, sym, ap, ◌∙◌}
use borrow.Author.Tests.{eq-eqb, ne_eqb, eqb-true}
use borrow.Author.Count.{below_more}
use lib.ListN.{length, get_or, set, length-set}
use lib.Seq.{get_or-set_same, get_or-set_other}
use Rattle.plain.specs.Lists.{◌is◌}
use Rattle.legs.specs.Figures.{from_at, last_below}
use Rattle.legs.specs.Slots.{slot_at, slot_of}
use Rattle.legs.proofs.Searches.{last_at, last_none, last_here, last_before, last_nowhere, last_cut}
use Rattle.slots.specs.Links.{bucket_of, last_in, Linked, Unlinked}

-- ---- a search from the end, by way of another

-- how many places a search still has that stands at k
abbrev pub left : ℕ → ℕ
left k = if k is 64 then 0 else k + 1

pub left-some : (k : ℕ) → k < 64 → left k ≡ k + 1
left-some k l = rw (ne_eqb k 64 (λ e. omega (arith, e)))

-- k is where a search for q goes on that has m places before it, if it goes by p
pub record Goes (p q : ℕ → Bool) (m k : ℕ) : Type 0 where
  pub most : k ≤ 64
  pub less : left k ≤ m
  pub same : last_below q m ≡ last_below q (left k)
  pub here : k < 64 → p k ≡ true

pub goes : (p q : ℕ → Bool) → ((i : ℕ) → q i ≡ true → p i ≡ true) → (m : ℕ) → m ≤ 64 → Goes p q m (slot_at (last_below p m))
goes p q imp m size = go (last_below p m) refl
  where
    not : (i : ℕ) → p i ≡ false → q i ≡ false
    not i e = by (q i) refl
      where
        by : (t : Bool) → q i ≡ t → t ≡ false
        by true h = absurd (false≢true (sym e ∙ imp i h))
        by false h = refl

    go : (f : Option ℕ) → last_below p m ≡ f → Goes p q m (slot_at f)
    go (Some k) e =
        let a = last_at p m k e in
        let s : left k ≡ k + 1 = left-some k (omega (arith, a.inside)) in
        record {
          most = omega (arith, a.inside);
          less = omega (arith, s, a.inside);
          same = last_cut q (k + 1) m (omega (arith, a.inside)) (λ i h l. not i (a.behind i (omega arith) l)) ∙ ap (last_below q) (sym s);
          here = λ l. a.passed;
        }
    go None e = record {
      most = omega arith;
      less = omega arith;
      same = last_cut q 0 m (omega arith) (λ i h l. not i (last_none p m e i l));
      here = λ l. absurd (omega arith);
    }

-- ---- along a bucket

-- the search for the key stands at k
pub record Along (legs : List ℕ) (n key k : ℕ) : Type 0 where
  pub most : k ≤ 64
  pub less : left k ≤ n
  pub same : slot_of legs n key ≡ slot_at (last_below (λ i. from_at legs i is key) (left k))
  pub bucket : k < 64 → bucket_of (from_at legs k) ≡ bucket_of key

module _ (legs links : List ℕ) (n : ℕ) (size : n ≤ 64) (d : Linked n legs links) (key : ℕ) where
  abbrev wanted : ℕ → Bool
  wanted i = from_at legs i is key

  within : (b : ℕ) → b ≡ bucket_of key → (i : ℕ) → wanted i ≡ true → (bucket_of (from_at legs i) is b) ≡ true
  within b e i h = eq-eqb (bucket_of (from_at legs i)) b (ap bucket_of (eqb-true (from_at legs i) key h) ∙ sym e)

  pub along_first : bucket_of key < 64 → Along legs n key (get_or links (bucket_of key + 64) 0)
  unfolding slot_of
  along_first low =
      let g = goes (λ i. bucket_of (from_at legs i) is bucket_of key) wanted (within (bucket_of key) refl) n size in
      rw (d.head_as (bucket_of key) low)
      record { most = g.most; less = g.less; same = ap slot_at g.same; bucket = λ l. eqb-true _ _ (g.here l) }

  module _ (k : ℕ) (a : Along legs n key k) (low : k < 64) where
    more : left k ≡ k + 1
    more = left-some k low

    inside : k < n
    inside = omega (arith, more, a.less)

    pub along_found : from_at legs k ≡ key → slot_of legs n key ≡ k
    along_found e =
        let z : k + 1 - 1 ≡ k = omega arith in
        a.same
        ∙ ap (λ (x : ℕ). slot_at (last_below wanted x)) more
        ∙ ap slot_at (last_here wanted (k + 1) (omega arith) (rw z (eq-eqb (from_at legs k) key e)))
        ∙ z

    pub along_next : (from_at legs k ≡ key → ⊥) → Along legs n key (get_or links k 0) × (left (get_or links k 0) < left k)
    along_next e =
        let z : k + 1 - 1 ≡ k = omega arith in
        let b = bucket_of (from_at legs k) in
        let g = goes (λ i. bucket_of (from_at legs i) is b) wanted (within b (a.bucket low)) k (omega arith) in
        let same : slot_of legs n key ≡ slot_at (last_below wanted (left (last_in legs k b))) =
        a.same ∙ ap (λ (x : ℕ). slot_at (last_below wanted x)) more
        ∙ ap slot_at (last_before wanted (k + 1) (omega arith) (rw z (ne_eqb (from_at legs k) key e)) ∙ ap (last_below wanted) z ∙ g.same)
        in
        rw (d.next_as k inside) (
          record { most = g.most; less = omega (arith, g.less, inside); same = same; bucket = λ l. eqb-true _ _ (g.here l) ∙ a.bucket low },
          omega (arith, g.less, more),
        )

  pub along_none : (k : ℕ) → Along legs n key k → k ≡ 64 → slot_of legs n key ≡ 64
  along_none k a e =
      let z : left k ≡ 0 = ap left e in
      a.same ∙ ap slot_at (last_nowhere wanted (left k) z)

-- ---- links, leg by leg

pub linked_none : (legs links : List ℕ) → Unlinked links → Linked 0 legs links
unfolding last_below
linked_none legs links u = record { long = u.long; next_as = λ k h. absurd (omega arith); head_as = λ b h. u.none (b + 64) (omega arith) }

module _ (legs links : List ℕ) (i : ℕ) (low : i < 64) (d : Linked i legs links) (b : ℕ) (own : b ≡ bucket_of (from_at legs i)) (small : b < 64) where
  abbrev next : ℕ
  next = get_or links (b + 64) 0

  abbrev one : List ℕ
  one = set links i next

  one_long : length one ≡ 128
  one_long = length-set links i next ∙ d.long

  pub linked_more : Linked (i + 1) legs (set one (b + 64) i)
  linked_more = record {
    long = length-set one (b + 64) i ∙ one_long;
    next_as =
        below_more _ _
        (λ k h. get_or-set_other one (b + 64) k i 0 (λ e. omega (arith, e)) ∙ get_or-set_other links i k next 0 (λ e. omega (arith, e)) ∙ d.next_as k h)
        (get_or-set_other one (b + 64) i i 0 (λ e. omega (arith, e))
        ∙ get_or-set_same links i next 0 (omega (arith, d.long))
        ∙ d.head_as b small
        ∙ ap (last_in legs i) own);
    head_as = λ c h. go c h (ℕ_discrete c b);
  }
    where
      z : i + 1 - 1 ≡ i
      z = omega arith

      go : (c : ℕ) → c < 64 → Dec (c ≡ b) → get_or (set one (b + 64) i) (c + 64) 0 ≡ last_in legs (i + 1) c
      go c h (yes e) =
          ap (λ (x : ℕ). get_or (set one (b + 64) i) (x + 64) 0) e ∙ get_or-set_same one (b + 64) i 0 (omega (arith, one_long))
          ∙ sym
          (ap slot_at (last_here (λ k. bucket_of (from_at legs k) is c) (i + 1) (omega arith) (rw z (eq-eqb (bucket_of (from_at legs i)) c (sym own ∙ sym e)))) ∙ z)
      go c h (no n) =
          get_or-set_other one (b + 64) (c + 64) i 0 (λ e. n (omega (arith, e))) ∙ get_or-set_other links i (c + 64) next 0 (λ e. omega (arith, e)) ∙ d.head_as c h
          ∙ sym
          (ap slot_at
          (last_before (λ k. bucket_of (from_at legs k) is c) (i + 1) (omega arith) (rw z (ne_eqb (bucket_of (from_at legs i)) c (λ e. n (sym e ∙ sym own))))
          ∙ ap (last_below (λ k. bucket_of (from_at legs k) is c)) z))

pub linked_done : (legs links : List ℕ) (n i : ℕ) → i ≡ n → Linked i legs links → Linked n legs links
linked_done legs links n i e d = rw (sym e) d
