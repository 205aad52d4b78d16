-- Counts of a security are stored: one law for both columns, and an outside count with a held count. Assumes nothing.
use Rattle.std.specs.Prelude.{if◌then◌else◌, Some, None}
use Prim.Native.Nat.{ℕ, ◌+◌, ◌≤◌, ◌<◌}
use native.Mathlib.Decide.{ℕ_discrete}
use native.Mathlib.Omega.{arith}
use mathlib.Core.Bool.{false}
use mathlib.Core.List.{List, map}
use mathlib.Core.Logic.{◌≢◌}
use mathlib.Core.Path.{◌≡◌, refl, sym, ap, ◌∙◌}
use lib.ListN.{length, get_or, set, length-set}
use lib.Seq.{get_or-set_same, get_or-set_other}
use borrow.Author.Tests.{eq-eqb, ne_eqb}
use Rattle.plain.specs.Lists.{◌is◌, sum_below}
use Rattle.plain.proofs.Sums.{sum_same}
use Rattle.rulebook.specs.Ledger.{Holdings, put_securities, changing, with_outside, with_held, outside_of, held_of, put_outside, put_held}
use Rattle.rulebook.specs.declared.Security.{Security}
use Rattle.words.specs.Places.{list_from}
use Rattle.words.specs.Tables.{rows, key_at, place_of, KeysOnce}
use Rattle.words.proofs.Places.{from_same, from_map}
use Rattle.words.proofs.Tables.{place_at, place_none, key_once}
use Rattle.securities.specs.Admitted.{ISSUED, OUTSIDE, HELD, security, security_at, securities_of, with_securities, Kept}
use Rattle.securities.proofs.StoredSecurities.{outside-here, held-here}

-- a column of counts: a word of it that is stored changes the security of its place, and no other
record Column (start : ℕ) (put : ℕ → Security → Security) : Type 0 where
  from : ISSUED ≤ start
  to : start ≤ HELD
  own : (s : List ℕ) (j v : ℕ) → j < 32 → length s ≡ 129 → security_at (set s (j + start) v) j ≡ put v (security_at s j)
  other : (s : List ℕ) (j v k : ℕ) → j < 32 → k < 32 → k ≢ j → security_at (set s (j + start) v) k ≡ security_at s k

module _ (s : List ℕ) (i x v : ℕ) where
  apart : x ≢ i → get_or (set s i v) x 0 ≡ get_or s x 0
  apart n = get_or-set_other s i x v 0 n

outside-column : Column OUTSIDE with_outside
outside-column = record {
  from = omega arith;
  to = omega arith;
  own = λ s j v l long t.
      security (apart s (j + OUTSIDE) (j + 1) v (λ e. omega (arith, e)) t) (apart s (j + OUTSIDE) (j + ISSUED) v (λ e. omega (arith, e)) t)
      (get_or-set_same s (j + OUTSIDE) v 0 (omega (arith, l, long)) t) (apart s (j + OUTSIDE) (j + HELD) v (λ e. omega (arith, e)) t);
  other = λ s j v k l m n t.
      security (apart s (j + OUTSIDE) (k + 1) v (λ e. omega (arith, e, m)) t) (apart s (j + OUTSIDE) (k + ISSUED) v (λ e. omega (arith, e, m)) t)
      (apart s (j + OUTSIDE) (k + OUTSIDE) v (λ e. n (omega (arith, e))) t) (apart s (j + OUTSIDE) (k + HELD) v (λ e. omega (arith, e, l)) t);
}

held-column : Column HELD with_held
held-column = record {
  from = omega arith;
  to = omega arith;
  own = λ s j v l long t.
      security (apart s (j + HELD) (j + 1) v (λ e. omega (arith, e)) t) (apart s (j + HELD) (j + ISSUED) v (λ e. omega (arith, e)) t)
      (apart s (j + HELD) (j + OUTSIDE) v (λ e. omega (arith, e)) t) (get_or-set_same s (j + HELD) v 0 (omega (arith, l, long)) t);
  other = λ s j v k l m n t.
      security (apart s (j + HELD) (k + 1) v (λ e. omega (arith, e, m)) t) (apart s (j + HELD) (k + ISSUED) v (λ e. omega (arith, e, m)) t)
      (apart s (j + HELD) (k + OUTSIDE) v (λ e. omega (arith, e, m)) t) (apart s (j + HELD) (k + HELD) v (λ e. n (omega (arith, e))) t);
}

module _ (s : List ℕ) (kept : Kept s) (code : ℕ) where
  -- r has the securities of s, but the code's is changed
  puts :
      (change : Security → Security) (r : List ℕ) → rows r ≡ rows s
      → ((k : ℕ) → k < rows s → security_at r k ≡ (if key_at s k is code then change (security_at s k) else security_at s k)) → (h : Holdings)
      → with_securities r h ≡ changing code change (with_securities s h)
  unfolding put_securities securities_of
  puts change r size each h =
      let changed : Security → Security = λ x. if x.code is code then change x else x in
      let list : list_from (security_at r) 0 (rows r) ≡ map changed (list_from (security_at s) 0 (rows s)) =
      ap (list_from (security_at r) 0) size
      ∙ from_same (λ k. changed (security_at s k)) (security_at r) 0 0 (rows s) (λ k l. each (0 + k) (omega arith))
      ∙ sym (from_map changed (security_at s) 0 (rows s))
      in
      λ i. record { securities = list i; balance = h.balance; accounts = h.accounts; cash = h.cash }

  -- where there is none with the code nothing changes
  nowhere : place_of code s ≡ None → (change : Security → Security) (h : Holdings) → with_securities s h ≡ changing code change (with_securities s h)
  nowhere e change h = puts change s refl (λ k l. rw (place_none s code e k l)) h

  module _ (j : ℕ) (low : j < rows s) (own : key_at s j ≡ code) (start : ℕ) (put : ℕ → Security → Security) (column : Column start put) (v : ℕ) where
    abbrev r : List ℕ
    r = set s (j + start) v

    size : rows r ≡ rows s
    size = get_or-set_other s (j + start) 0 v 0 (λ e. omega (arith, e, column.from))

    key_as : (k : ℕ) → k < rows s → key_at r k ≡ key_at s k
    key_as k l = get_or-set_other s (j + start) (k + 1) v 0 (λ e. omega (arith, e, l, kept.size, column.from))

    stored : Kept r × ((h : Holdings) → with_securities r h ≡ changing code (put v) (with_securities s h))
    stored = (record { long = length-set s (j + start) v ∙ kept.long; size = rw size kept.size; once = once }, puts (put v) r size each)
      where
        once : KeysOnce r
        once x =
            let same : sum_below (rows s) (λ i. if key_at r i is x then 1 else 0) ≡ sum_below (rows s) (λ i. if key_at s i is x then 1 else 0) =
            sum_same (rows s) _ _ (λ k l. ap (λ (c : ℕ). if c is x then 1 else 0) (key_as k l)) in
            rw (size, same) (kept.once x)

        each : (k : ℕ) → k < rows s → security_at r k ≡ (if key_at s k is code then put v (security_at s k) else security_at s k)
        each k l = go (ℕ_discrete k j)
          where
            go : Dec (k ≡ j) → security_at r k ≡ (if key_at s k is code then put v (security_at s k) else security_at s k)
            go (yes e) = rw e (column.own s j v (omega (arith, low, kept.size)) kept.long ∙ sym (rw (eq-eqb (key_at s j) code own)))
            go (no d) =
                let off : (key_at s k is code) ≡ false = ne_eqb (key_at s k) code (λ e. d (key_once s code kept.once j low own k l e)) in
                column.other s j v k (omega (arith, low, kept.size)) (omega (arith, l, kept.size)) d ∙ sym (rw off)

-- the outside count of a code is stored, and then its held count

abbrev counted : (outside held : ℕ → ℕ) → ℕ → Holdings → Holdings
counted outside held code h = let k = put_outside code (outside (outside_of code h)) h in put_held code (held (held_of code k)) k

module _ (s : List ℕ) (kept : Kept s) (code j : ℕ) (here : place_of code s ≡ Some j) (outside held : ℕ → ℕ) where
  abbrev low : j < rows s
  low = (place_at s code j here).0

  abbrev own : key_at s j ≡ code
  own = (place_at s code j here).1

  abbrev v : ℕ
  v = outside (get_or s (j + OUTSIDE) 0)

  abbrev first : List ℕ
  first = set s (j + OUTSIDE) v

  -- the first store leaves the held count
  pub held-as : (h : Holdings) → get_or first (j + HELD) 0 ≡ held_of code (with_securities s h)
  held-as h = get_or-set_other s (j + OUTSIDE) (j + HELD) v 0 (λ e. omega (arith, e)) ∙ held-here s code kept j low own h

  one : Kept first × ((h : Holdings) → with_securities first h ≡ put_outside code (outside (outside_of code (with_securities s h))) (with_securities s h))
  unfolding put_outside
  one =
      let p = stored s kept code j low own OUTSIDE with_outside outside-column v in
      (p.0, λ h. p.1 h ∙ ap (λ (n : ℕ). changing code (with_outside (outside n)) (with_securities s h)) (outside-here s code kept j low own h))

  low_first : j < rows first
  low_first = omega (arith, low, size s kept code j low own OUTSIDE with_outside outside-column v)

  own_first : key_at first j ≡ code
  own_first = key_as s kept code j low own OUTSIDE with_outside outside-column v j low ∙ own

  abbrev both : List ℕ
  both = set first (j + HELD) (held (get_or first (j + HELD) 0))

  two : Kept both × ((h : Holdings) → with_securities both h ≡ put_held code (held (get_or first (j + HELD) 0)) (with_securities first h))
  unfolding put_held
  two = stored first one.0 code j low_first own_first HELD with_held held-column (held (get_or first (j + HELD) 0))

  pub both_stored : Kept both × ((h : Holdings) → with_securities both h ≡ counted outside held code (with_securities s h))
  both_stored = (
    two.0,
    λ h. two.1 h
        ∙ ap (λ (n : ℕ). put_held code (held n) (with_securities first h)) (held-here first code one.0 j low_first own_first h)
        ∙ ap (λ (k : Holdings). put_held code (held (held_of code k)) k) (one.1 h),
  )

-- and where there is none with the code nothing changes
pub both_nowhere :
    (s : List ℕ) → Kept s → (code : ℕ) → place_of code s ≡ None → (outside held : ℕ → ℕ) (h : Holdings)
    → with_securities s h ≡ counted outside held code (with_securities s h)
unfolding put_outside put_held
both_nowhere s kept code e outside held h =
    let none = nowhere s kept code e in
    none (with_held (held (held_of code (with_securities s h)))) h
    ∙ ap (λ (k : Holdings). put_held code (held (held_of code k)) k) (none (with_outside (outside (outside_of code (with_securities s h)))) h)
