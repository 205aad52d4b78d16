-- The dropping ends with nothing short; what each one dropped lacked is kept, and what is due is in or left. Assumes nothing.
use Rattle.std.specs.Prelude.{if◌then◌else◌}
use mathlib.Core.Path.{◌≡◌, refl, sym, ap, ◌∙◌}
use mathlib.Core.Bool.{Bool, true, false, ◌||◌, false≢true}
use mathlib.Core.List.{List, [], ◌∷◌, map}
use Prim.Native.Nat.{ℕ, zero, suc, ◌+◌, ◌≤◌, zero-le}
use native.Mathlib.Omega.{arith}
use lib.ListN.{length}
use Rattle.rulebook.specs.declared.Item.{Item}
use Rattle.plain.specs.Lists.{some, total}
use Rattle.rulebook.specs.Ledger.{Holdings}
use Rattle.plain.proofs.Lists.{total-append, some-append}
use Rattle.rulebook.specs.Shortfall.{Shortfall, NothingShort, shortfall, lacks_some, debits_short, any_short}
use Rattle.rulebook.specs.Selection.{Standing, Entry, not_due, taken, left, trades_of, is_taken, is_left}
use Rattle.rulebook.specs.Selection.{trades_in, count_in, drops, dropped, drop_last, rounds, dropping}
use Rattle.rulebook.specs.Selected.{IfLeft, WhereLeft, Moment, spot, NoneLeft}
use Rattle.rulebook.proofs.Selection.Missing.{none_short}

-- a trade that is in debits a short one exactly where an entry does
pub some_in : (h : Holdings) (now : List Item) (es : List Entry) → some (debits_short h now) (trades_in es) ≡ some (drops h now) es
unfolding trades_in drops
some_in h now [] = refl
some_in h now (e ∷ rest) = go e.standing refl (some_in h now rest)
  where
    go :
        (m : Standing) → e.standing ≡ m → some (debits_short h now) (trades_in rest) ≡ some (drops h now) rest
        → some (debits_short h now) (trades_in (e ∷ rest)) ≡ some (drops h now) (e ∷ rest)
    go not_due k ih = simp (k, ih)
    go taken k ih = simp (k, some-append (debits_short h now) (trades_of e) (trades_in rest), ih)
    go (left lacked) k ih = simp (k, ih)

-- ---- one round

-- the trades of a part of the list are among those that are in
abbrev pub Within : List Entry → List Item → Type 0
Within es now = (figure : Item → ℕ) → total figure (trades_in es) ≤ total figure now

within-rest : (e : Entry) (rest : List Entry) (now : List Item) → Within (e ∷ rest) now → Within rest now
unfolding trades_in
within-rest e rest now w f = go e.standing refl
  where
    go : (m : Standing) → e.standing ≡ m → total f (trades_in rest) ≤ total f now
    go not_due k = simp k at (w f)
    go taken k = omega (arith, simp k at (w f), total-append f (trades_of e) (trades_in rest))
    go (left lacked) k = simp k at (w f)

-- what is true of a round
pub record Round (h : Holdings) (now : List Item) (es es' : List Entry) : Type 0 where
  pub one : some (drops h now) es ≡ true → count_in es' + 1 ≡ count_in es
  pub spots : map spot es' ≡ map spot es
  pub lacked : WhereLeft (Moment h) es → WhereLeft (Moment h) es'

module _ (h : Holdings) (now : List Item) where
  round_none : (es : List Entry) → some (drops h now) es ≡ false → Round h now es es
  round_none es n = record { one = λ e. absurd (false≢true (sym n ∙ e)); spots = refl; lacked = λ f. f }

  round_later : (e : Entry) (rest rest' : List Entry) → some (drops h now) rest ≡ true → Round h now rest rest' → Round h now (e ∷ rest) (e ∷ rest')
  round_later e rest rest' s r = record {
    one = λ _. omega (arith, r.one s);
    spots = ap (λ l. spot e ∷ l) r.spots;
    lacked = λ f. (f.0, r.lacked f.1);
  }

  above_map : (ts : List Item) → some lacks_some (map (shortfall h now) ts) ≡ some (debits_short h now) ts
  unfolding debits_short
  above_map [] = refl
  above_map (t ∷ ts) = ap (λ b. debits_short h now t || b) (above_map ts)

  round_here : (e : Entry) (rest : List Entry) → drops h now e ≡ true → Within (e ∷ rest) now → Round h now (e ∷ rest) (dropped h now e ∷ rest)
  unfolding drops trades_in
  round_here e rest d w = go e.standing refl
    where
      moment : e.standing ≡ taken → Moment h (trades_of e) (map (shortfall h now) (trades_of e))
      moment k = record {
        now = now;
        among = λ f. omega (arith, simp k at (w f), total-append f (trades_of e) (trades_in rest));
        exact = refl;
        above = above_map (trades_of e) ∙ simp k at d;
      }

      go : (m : Standing) → e.standing ≡ m → Round h now (e ∷ rest) (dropped h now e ∷ rest)
      go not_due k = absurd (false≢true (simp k at d))
      go taken k = record {
        one = λ _. simp k (omega arith);
        spots = simp k;
        lacked = λ f. (moment k, f.1);
      }
      go (left lacked) k = absurd (false≢true (simp k at d))

  round : (es : List Entry) → Within es now → Round h now es (drop_last h now es)
  unfolding drop_last
  round [] w = round_none [] refl
  round (e ∷ rest) w = go (some (drops h now) rest) refl (drops h now e) refl (round rest (within-rest e rest now w))
    where
      go :
          (s : Bool) → some (drops h now) rest ≡ s → (d : Bool) → drops h now e ≡ d → Round h now rest (drop_last h now rest)
          → Round h now (e ∷ rest) (drop_last h now (e ∷ rest))
      go true s d k r = simp s (round_later e rest (drop_last h now rest) s r)
      go false s true k r = simp (s, k) (round_here e rest k w)
      go false s false k r = simp (s, k) (round_none (e ∷ rest) (simp (s, k)))

pub round_of : (h : Holdings) (es : List Entry) → Round h (trades_in es) es (drop_last h (trades_in es) es)
round_of h es = round h (trades_in es) es (λ f. omega arith)

-- ---- the rounds

none_in : (es : List Entry) → count_in es ≡ 0 → trades_in es ≡ []
unfolding trades_in
none_in [] e = refl
none_in (e ∷ rest) z = go e.standing refl (none_in rest)
  where
    go : (m : Standing) → e.standing ≡ m → (count_in rest ≡ 0 → trades_in rest ≡ []) → trades_in (e ∷ rest) ≡ []
    go not_due k ih = simp k (ih (omega (arith, simp k at z)))
    go taken k ih = absurd (omega (arith, simp k at z))
    go (left lacked) k ih = simp k (ih (omega (arith, simp k at z)))

rounds-done : (h : Holdings) (n : ℕ) (es : List Entry) → count_in es ≤ n → any_short h (trades_in (rounds n h es)) ≡ false
unfolding rounds any_short
rounds-done h zero es l = simp (none_in es (omega arith))
rounds-done h (suc n) es l = go (any_short h (trades_in es)) refl (rounds-done h n next)
  where
    next : List Entry
    next = drop_last h (trades_in es) es

    go :
        (b : Bool) → any_short h (trades_in es) ≡ b → (count_in next ≤ n → any_short h (trades_in (rounds n h next)) ≡ false)
        → any_short h (trades_in (rounds (suc n) h es)) ≡ false
    go true e ih = simp e (ih (omega (arith, (round_of h es).one (sym (some_in h (trades_in es) es) ∙ e))))
    go false e ih = simp e

none_short_in : (h : Holdings) (es : List Entry) → count_in es ≡ 0 → any_short h (trades_in es) ≡ false
unfolding any_short
none_short_in h es z = simp (none_in es z)

pub rounds_enough : (h : Holdings) (n k : ℕ) (es : List Entry) → count_in es ≤ n → count_in es ≤ k → rounds n h es ≡ rounds k h es
unfolding rounds
rounds_enough h zero zero es l m = refl
rounds_enough h zero (suc k) es l m = simp (none_short_in h es (omega arith))
rounds_enough h (suc n) zero es l m = simp (none_short_in h es (omega arith))
rounds_enough h (suc n) (suc k) es l m = go (any_short h (trades_in es)) refl (rounds_enough h n k next)
  where
    next : List Entry
    next = drop_last h (trades_in es) es

    go :
        (b : Bool) → any_short h (trades_in es) ≡ b → (count_in next ≤ n → count_in next ≤ k → rounds n h next ≡ rounds k h next)
        → rounds (suc n) h es ≡ rounds (suc k) h es
    go true e ih =
        let one = (round_of h es).one (sym (some_in h (trades_in es) es) ∙ unfold any_short in e) in
        simp e (ih (omega arith) (omega arith))
    go false e ih = simp e

count_most : (es : List Entry) → count_in es ≤ length es
count_most [] = zero-le
count_most (e ∷ rest) = go e.standing (count_most rest)
  where
    go : (m : Standing) → count_in rest ≤ length rest → (if is_taken m then 1 else 0) + count_in rest ≤ length (e ∷ rest)
    go not_due ih = omega arith
    go taken ih = omega arith
    go (left lacked) ih = omega arith

pub dropping-covered : (h : Holdings) (es : List Entry) → NothingShort h (trades_in (dropping h es))
unfolding dropping
dropping-covered h es = none_short h (trades_in (rounds (length es) h es)) (rounds-done h (length es) es (count_most es))

-- what each round keeps, the rounds keep
rounds-keep :
    (P : List Entry → Type 0) (h : Holdings) → ((es : List Entry) → P es → P (drop_last h (trades_in es) es)) → (n : ℕ) (es : List Entry) → P es
    → P (rounds n h es)
unfolding rounds
rounds-keep P h f zero es p = p
rounds-keep P h f (suc n) es p = go (any_short h (trades_in es)) refl (rounds-keep P h f n (drop_last h (trades_in es) es) (f es p))
  where
    go : (b : Bool) → any_short h (trades_in es) ≡ b → P (rounds n h (drop_last h (trades_in es) es)) → P (rounds (suc n) h es)
    go true e later = simp e later
    go false e later = simp e p

pub dropping-spots : (h : Holdings) (es : List Entry) → map spot (dropping h es) ≡ map spot es
unfolding dropping
dropping-spots h es = rounds-keep (λ l. map spot l ≡ map spot es) h (λ l p. (round_of h l).spots ∙ p) (length es) es refl

-- of a list with nothing left any claim on what was lacked holds
pub nothing_claimed : (P : List Item → List Shortfall → Type 0) (es : List Entry) → NoneLeft es → WhereLeft P es
nothing_claimed P [] u = tt
nothing_claimed P (e ∷ rest) u = (go e.standing u.0, nothing_claimed P rest u.1)
  where
    go : (m : Standing) → is_left m ≡ false → IfLeft P (trades_of e) m
    go not_due k = tt
    go taken k = tt
    go (left lacked) k = absurd (false≢true (sym k))

pub dropping-lacked : (h : Holdings) (es : List Entry) → NoneLeft es → WhereLeft (Moment h) (dropping h es)
unfolding dropping
dropping-lacked h es u = rounds-keep (WhereLeft (Moment h)) h (λ l p. (round_of h l).lacked p) (length es) es (nothing_claimed (Moment h) es u)
