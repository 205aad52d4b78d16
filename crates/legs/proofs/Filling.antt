-- Legs and figures that a loop stores place by place. Assumes nothing.
use Prim.Native.Nat.{ℕ, ◌+◌, ◌≤◌, ◌<◌}
use native.Mathlib.Omega.{arith}
use mathlib.Core.List.{List}
use mathlib.Core.Logic.{◌≢◌}
use mathlib.Core.Path.{◌≡◌, sym, subst, ◌∙◌}
use lib.ListN.{length, get_or, set, length-set}
use lib.Seq.{get_or-set_same, get_or-set_other}
use borrow.Author.Count.{below_more}
use Rattle.legs.specs.Filled.{leg_in, Started}
use Rattle.legs.specs.declared.Leg.{Leg}
use Rattle.legs.specs.Figures.{TO, NUMBER, OWES, from_at, to_at, number_at, has_at, owes_at, Figures}

-- ---- legs

abbrev put_leg : List ℕ → (i f t m : ℕ) → List ℕ
put_leg legs i f t m = set (set (set legs i f) (i + TO) t) (i + NUMBER) m

module _ (legs : List ℕ) (i : ℕ) (low : i < 64) (long : length legs ≡ 192) (f t m : ℕ) where
  abbrev one : List ℕ
  one = set legs i f

  abbrev two : List ℕ
  two = set one (i + TO) t

  one_long : length one ≡ 192
  one_long = length-set legs i f ∙ long

  two_long : length two ≡ 192
  two_long = length-set one (i + TO) t ∙ one_long

  leg_long : length (put_leg legs i f t m) ≡ 192
  leg_long = length-set two (i + NUMBER) m ∙ two_long

  -- a word that is not of leg i
  leg_other : (w : ℕ) → w ≢ i → w ≢ i + TO → w ≢ i + NUMBER → get_or (put_leg legs i f t m) w 0 ≡ get_or legs w 0
  leg_other w a b c = get_or-set_other two (i + NUMBER) w m 0 c ∙ get_or-set_other one (i + TO) w t 0 b ∙ get_or-set_other legs i w f 0 a

  leg_from : from_at (put_leg legs i f t m) i ≡ f
  leg_from =
      get_or-set_other two (i + NUMBER) i m 0 (λ e. omega (arith, e))
      ∙ get_or-set_other one (i + TO) i t 0 (λ e. omega (arith, e))
      ∙ get_or-set_same legs i f 0 (omega (arith, long))

  leg_to : to_at (put_leg legs i f t m) i ≡ t
  leg_to = get_or-set_other two (i + NUMBER) (i + TO) m 0 (λ e. omega (arith, e)) ∙ get_or-set_same one (i + TO) t 0 (omega (arith, one_long))

  leg_number : number_at (put_leg legs i f t m) i ≡ m
  leg_number = get_or-set_same two (i + NUMBER) m 0 (omega (arith, two_long))

-- legs with the same words are the same
legs_as :
    {a b c d e f g h : ℕ} → a ≡ e → b ≡ f → c ≡ g → d ≡ h
    → ◌≡◌ {A = Leg} (record { from = a; to = b; number = c; has = d }) (record { from = e; to = f; number = g; has = h })
legs_as p q r s = rw (p, q, r, s)

-- ---- figures

abbrev pub put_figures : List ℕ → ℕ → ℕ → ℕ → List ℕ
put_figures figures i has owes = set (set figures i has) (i + OWES) owes

module _ (figures : List ℕ) (i : ℕ) (low : i < 64) (long : length figures ≡ 128) (v w : ℕ) where
  has_here : has_at (put_figures figures i v w) i ≡ v
  has_here = get_or-set_other (set figures i v) (i + OWES) i w 0 (λ e. omega (arith, e)) ∙ get_or-set_same figures i v 0 (omega arith)

  owes_here : owes_at (put_figures figures i v w) i ≡ w
  owes_here = get_or-set_same (set figures i v) (i + OWES) w 0 (omega (arith, length-set figures i v))

  has_other : (k : ℕ) → k < 64 → k ≢ i → has_at (put_figures figures i v w) k ≡ has_at figures k
  has_other k h d = get_or-set_other (set figures i v) (i + OWES) k w 0 (λ e. omega (arith, e)) ∙ get_or-set_other figures i k v 0 d

  owes_other : (k : ℕ) → k < 64 → k ≢ i → owes_at (put_figures figures i v w) k ≡ owes_at figures k
  owes_other k h d =
      get_or-set_other (set figures i v) (i + OWES) (k + OWES) w 0 (λ e. d (omega (arith, e)))
      ∙ get_or-set_other figures i (k + OWES) v 0 (λ e. omega (arith, e))

  put-long : length (put_figures figures i v w) ≡ 128
  put-long = length-set (set figures i v) (i + OWES) w ∙ length-set figures i v ∙ long

pub figures_none : (has owes : ℕ → ℕ) (figures : List ℕ) → length figures ≡ 128 → Figures 0 has owes figures
figures_none has owes figures l = record { long = l; has_as = λ k h. absurd (omega arith); owes_as = λ k h. absurd (omega arith) }

pub figures_more :
    (has owes : ℕ → ℕ) (figures : List ℕ) (i : ℕ) → i < 64 → Figures i has owes figures → (v w : ℕ) → v ≡ has i → w ≡ owes i
    → Figures (i + 1) has owes (put_figures figures i v w)
figures_more has owes figures i low d v w e f = record {
  long = put-long figures i low d.long v w;
  has_as =
      below_more _ _ (λ k h. has_other figures i low d.long v w k (omega arith) (λ s. omega (arith, s)) ∙ d.has_as k h)
      (has_here figures i low d.long v w ∙ e);
  owes_as =
      below_more _ _ (λ k h. owes_other figures i low d.long v w k (omega arith) (λ s. omega (arith, s)) ∙ d.owes_as k h)
      (owes_here figures i low d.long v w ∙ f);
}

pub figures_done : (has owes : ℕ → ℕ) (figures : List ℕ) (n i : ℕ) → n ≤ i → Figures i has owes figures → Figures n has owes figures
figures_done has owes figures n i h d = record { long = d.long; has_as = λ k m. d.has_as k (omega arith); owes_as = λ k m. d.owes_as k (omega arith) }

-- ---- legs, and the figures before any of them is added

-- the first i legs are what each asks of its place
module _ (Asked : ℕ → Leg → Type 0) where
  pub record Filled (i : ℕ) (legs figures : List ℕ) : Type 0 where
    pub asked : (k : ℕ) → k < i → Asked k (leg_in legs figures k)
    pub started : Started i legs figures

  pub filled_none : (legs figures : List ℕ) → length legs ≡ 192 → length figures ≡ 128 → Filled 0 legs figures
  filled_none legs figures l f = record {
    asked = λ k h. absurd (omega arith);
    started = record { legs_long = l; figures_long = f; none_owed = λ k h. absurd (omega arith) };
  }

  pub filled_more :
      (legs figures : List ℕ) (i : ℕ) → i < 64 → Filled i legs figures → (leg : Leg) → Asked i leg → (legs-now figures-now : List ℕ)
      → legs-now ≡ put_leg legs i leg.from leg.to leg.number → figures-now ≡ put_figures figures i leg.has 0 → Filled (i + 1) legs-now figures-now
  filled_more legs figures i low d leg a legs-now figures-now el ef =
      rw (el, ef) (record {
        asked = below_more _ _ (λ k h. subst (Asked k) (sym (as_was k h)) (d.asked k h)) (subst (Asked i) (sym as_put) a);
        started = record {
          legs_long = leg_long legs i low d.started.legs_long leg.from leg.to leg.number;
          figures_long = put-long figures i low d.started.figures_long leg.has 0;
          none_owed =
              below_more _ _
              (λ k h. owes_other figures i low d.started.figures_long leg.has 0 k (omega arith) (λ s. omega (arith, s)) ∙ d.started.none_owed k h)
              (owes_here figures i low d.started.figures_long leg.has 0);
        };
      })
    where
      now : List ℕ
      now = put_leg legs i leg.from leg.to leg.number

      then : List ℕ
      then = put_figures figures i leg.has 0

      as_put : leg_in now then i ≡ leg
      as_put =
          legs_as (leg_from legs i low d.started.legs_long leg.from leg.to leg.number) (leg_to legs i low d.started.legs_long leg.from leg.to leg.number)
          (leg_number legs i low d.started.legs_long leg.from leg.to leg.number) (has_here figures i low d.started.figures_long leg.has 0)

      other : (w : ℕ) → w ≢ i → w ≢ i + TO → w ≢ i + NUMBER → get_or now w 0 ≡ get_or legs w 0
      other = leg_other legs i low d.started.legs_long leg.from leg.to leg.number

      as_was : (k : ℕ) → k < i → leg_in now then k ≡ leg_in legs figures k
      as_was k h =
          legs_as (other k (λ e. omega (arith, e)) (λ e. omega (arith, e)) (λ e. omega (arith, e)))
          (other (k + TO) (λ e. omega (arith, e)) (λ e. omega (arith, e)) (λ e. omega (arith, e)))
          (other (k + NUMBER) (λ e. omega (arith, e)) (λ e. omega (arith, e)) (λ e. omega (arith, e)))
          (has_other figures i low d.started.figures_long leg.has 0 k (omega arith) (λ e. omega (arith, e)))
