-- The passes keep nothing short and come to their end; what is left then does not fit. Assumes nothing.
use mathlib.Core.Path.{◌≡◌, refl, sym, ap, ◌∙◌}
use mathlib.Core.Bool.{Bool, true, false, not, ◌&&◌, false≢true, or-true}
use mathlib.Core.List.{List, [], ◌∷◌, ◌++◌, map}
use Prim.Native.Nat.{ℕ, zero, suc, ◌+◌, ◌≤◌, ◌<◌}
use native.Mathlib.Omega.{arith}
use borrow.Author.Tests.{eqb-true, eqb-false, eq-eqb, not-true}
use Rattle.rulebook.specs.declared.Item.{Item}
use Rattle.plain.specs.Lists.{◌is◌, some, total}
use Rattle.rulebook.specs.Ledger.{Holdings}
use Rattle.plain.specs.Lists.{Each}
use Rattle.plain.proofs.Lists.{total-append, some-append}
use Rattle.rulebook.specs.Shortfall.{NothingShort, debits_short, any_short}
use Rattle.rulebook.specs.Selection.{Standing, Entry, not_due, taken, left, trades_of, with_standing}
use Rattle.rulebook.specs.Selection.{is_left, trades_in, count_left, fits, pass, one_pass, passes}
use Rattle.rulebook.specs.Selected.{WhereLeft, Moment, spot, Unfit, OwnTest}
use Rattle.rulebook.proofs.Selection.Missing.{SameTotals, none_short, any_short_lem, any_short_same, covered_same, own_debits}

-- left, and it does not fit
abbrev pub Refused : Holdings → List Item → Entry → Type 0
Refused h now e = is_left e.standing ≡ true → fits h now e ≡ false

-- whether an entry fits depends on the totals of those that are in alone
pub fits-same : (h : Holdings) (now here : List Item) (e : Entry) → SameTotals now here → fits h now e ≡ fits h here e
unfolding fits
fits-same h now here e s =
    ap not
    (any_short_same h (now ++ trades_of e) (here ++ trades_of e)
    (λ f. omega (arith, s f, total-append f now (trades_of e), total-append f here (trades_of e))))

-- ---- one pass

-- what is true of a pass that starts with the trades `now` in
pub record Pass (h : Holdings) (now : List Item) (es es' : List Entry) : Type 0 where
  -- those in at its end: with what it added
  pub after : List Item
  pub totals : (figure : Item → ℕ) → total figure (trades_in es') + total figure now ≡ total figure after + total figure (trades_in es)
  pub covered : NothingShort h now → NothingShort h after
  pub fewer : count_left es' ≤ count_left es
  -- a pass that adds none
  pub none : count_left es' ≡ count_left es → Each (Refused h now) es × (es' ≡ es)
  pub spots : map spot es' ≡ map spot es
  pub lacked : WhereLeft (Moment h) es → WhereLeft (Moment h) es'

module _ (h : Holdings) where
  pass-end : (now : List Item) → Pass h now [] []
  pass-end now = record {
    after = now;
    totals = λ f. omega arith;
    covered = λ q. q;
    fewer = omega arith;
    none = λ _. (tt, refl);
    spots = refl;
    lacked = λ f. f;
  }

  pass-stays :
      (now : List Item) (e : Entry) (rest rest' : List Entry) → (is_left e.standing && fits h now e) ≡ false → Pass h now rest rest'
      → Pass h now (e ∷ rest) (e ∷ rest')
  unfolding count_left trades_in
  pass-stays now e rest rest' n r = record {
    after = r.after;
    totals = λ f. go f e.standing refl;
    covered = r.covered;
    fewer = omega (arith, r.fewer);
    none = λ z. let i = r.none (omega arith) in ((refused, i.0), ap (λ l. e ∷ l) i.1);
    spots = ap (λ l. spot e ∷ l) r.spots;
    lacked = λ f. (f.0, r.lacked f.1);
  }
    where
      go : (f : Item → ℕ) (m : Standing) → e.standing ≡ m → total f (trades_in (e ∷ rest')) + total f now ≡ total f r.after + total f (trades_in (e ∷ rest))
      go f not_due k = simp k (r.totals f)
      go f taken k = simp k (omega (arith, r.totals f, total-append f (trades_of e) (trades_in rest), total-append f (trades_of e) (trades_in rest')))
      go f (left lacked) k = simp k (r.totals f)

      refused : Refused h now e
      refused l = simp l at n

  pass-adds :
      (now : List Item) (e : Entry) (rest rest' : List Entry) → (is_left e.standing && fits h now e) ≡ true → Pass h (now ++ trades_of e) rest rest'
      → Pass h now (e ∷ rest) (with_standing taken e ∷ rest')
  unfolding count_left trades_in fits
  pass-adds now e rest rest' n r = go e.standing refl
    where
      covered : any_short h (now ++ trades_of e) ≡ false → NothingShort h r.after
      covered s = r.covered (none_short h (now ++ trades_of e) s)

      go : (m : Standing) → e.standing ≡ m → Pass h now (e ∷ rest) (with_standing taken e ∷ rest')
      go not_due k = absurd (false≢true (simp k at n))
      go taken k = absurd (false≢true (simp k at n))
      go (left lacked) k = record {
        after = r.after;
        totals = λ f. simp k (omega (arith, r.totals f, total-append f (trades_of e) (trades_in rest'), total-append f now (trades_of e)));
        covered = λ _. covered (not-true _ (simp k at n));
        fewer = simp k (omega (arith, r.fewer));
        none = λ z. absurd (omega (arith, simp k at z, r.fewer));
        spots = simp k (ap (λ l. spot (with_standing taken e) ∷ l) r.spots);
        lacked = λ f. (tt, r.lacked f.1);
      }

  pub passed : (now : List Item) (es : List Entry) → Pass h now es (pass h now es)
  unfolding pass
  passed now [] = pass-end now
  passed now (e ∷ rest) = go (is_left e.standing && fits h now e) refl (passed (now ++ trades_of e) rest) (passed now rest)
    where
      go :
          (b : Bool) → (is_left e.standing && fits h now e) ≡ b → Pass h (now ++ trades_of e) rest (pass h (now ++ trades_of e) rest)
          → Pass h now rest (pass h now rest) → Pass h now (e ∷ rest) (pass h now (e ∷ rest))
      go true k r s = simp k (pass-adds now e rest (pass h (now ++ trades_of e) rest) k r)
      go false k r s = simp k (pass-stays now e rest (pass h now rest) k s)

  -- where none fits, a pass adds none
  pub pass-none : (now : List Item) (es : List Entry) → Each (Refused h now) es → pass h now es ≡ es
  unfolding pass
  pass-none now [] r = refl
  pass-none now (e ∷ rest) r = go (is_left e.standing) refl (pass-none now rest r.1)
    where
      go : (b : Bool) → is_left e.standing ≡ b → pass h now rest ≡ rest → pass h now (e ∷ rest) ≡ e ∷ rest
      go true k ih = simp (k, r.0 k, ih)
      go false k ih = simp (k, ih)

  one_covered : (es : List Entry) → NothingShort h (trades_in es) → NothingShort h (trades_in (one_pass h es))
  one_covered es q =
      let r = passed (trades_in es) es in
      covered_same h r.after (trades_in (one_pass h es)) (λ f. omega (arith, r.totals f)) (r.covered q)

  -- ---- the passes

  none_left : (now : List Item) (es : List Entry) → count_left es ≡ 0 → Each (Refused h now) es
  unfolding count_left
  none_left now [] z = tt
  none_left now (e ∷ rest) z = ((λ k. absurd (omega (arith, simp k at z))), none_left now rest (omega arith))

  all_in : (es : List Entry) → count_left es ≡ 0 → (count_left (one_pass h es) is count_left es) ≡ true
  all_in es z = eq-eqb (count_left (one_pass h es)) (count_left es) (omega (arith, (passed (trades_in es) es).fewer))

  -- enough passes end with one that adds none, so what is left does not fit
  pub passes-refuse : (n : ℕ) (es : List Entry) → count_left es ≤ n → Each (Refused h (trades_in (passes n h es))) (passes n h es)
  unfolding passes
  passes-refuse zero es l = none_left (trades_in es) es (omega arith)
  passes-refuse (suc n) es l = go (count_left (one_pass h es) is count_left es) refl (passes-refuse n (one_pass h es))
    where
      go :
          (b : Bool) → (count_left (one_pass h es) is count_left es) ≡ b
          → (count_left (one_pass h es) ≤ n → Each (Refused h (trades_in (passes n h (one_pass h es)))) (passes n h (one_pass h es)))
          → Each (Refused h (trades_in (passes (suc n) h es))) (passes (suc n) h es)
      go true k ih = simp k ((passed (trades_in es) es).none (eqb-true (count_left (one_pass h es)) (count_left es) k)).0
      go false k ih = simp k (ih (omega (arith, eqb-false (count_left (one_pass h es)) (count_left es) k, (passed (trades_in es) es).fewer)))

  -- more passes than there are left change nothing
  pub passes_enough : (n k : ℕ) (es : List Entry) → count_left es ≤ n → count_left es ≤ k → passes n h es ≡ passes k h es
  unfolding passes
  passes_enough zero zero es l m = refl
  passes_enough zero (suc k) es l m = simp (all_in es (omega arith))
  passes_enough (suc n) zero es l m = simp (all_in es (omega arith))
  passes_enough (suc n) (suc k) es l m = go (count_left (one_pass h es) is count_left es) refl (passes_enough n k (one_pass h es))
    where
      go :
          (b : Bool) → (count_left (one_pass h es) is count_left es) ≡ b
          → (count_left (one_pass h es) ≤ n → count_left (one_pass h es) ≤ k → passes n h (one_pass h es) ≡ passes k h (one_pass h es))
          → passes (suc n) h es ≡ passes (suc k) h es
      go true e ih = simp e
      go false e ih =
          let fewer : count_left (one_pass h es) < count_left es =
          omega (arith, eqb-false (count_left (one_pass h es)) (count_left es) e, (passed (trades_in es) es).fewer)
          in
          simp e (ih (omega arith) (omega arith))

  -- what each pass keeps, the passes keep
  passes-keep : (P : List Entry → Type 0) → ((es : List Entry) → P es → P (one_pass h es)) → (n : ℕ) (es : List Entry) → P es → P (passes n h es)
  unfolding passes
  passes-keep P f zero es p = p
  passes-keep P f (suc n) es p = go (count_left (one_pass h es) is count_left es) refl (passes-keep P f n (one_pass h es) (f es p))
    where
      go : (b : Bool) → (count_left (one_pass h es) is count_left es) ≡ b → P (passes n h (one_pass h es)) → P (passes (suc n) h es)
      go true k later = simp k p
      go false k later = simp k later

  pub passes-covered : (n : ℕ) (es : List Entry) → NothingShort h (trades_in es) → NothingShort h (trades_in (passes n h es))
  passes-covered = passes-keep (λ l. NothingShort h (trades_in l)) one_covered

  pub passes-spots : (n : ℕ) (es : List Entry) → map spot (passes n h es) ≡ map spot es
  passes-spots n es = passes-keep (λ l. map spot l ≡ map spot es) (λ l p. (passed (trades_in l) l).spots ∙ p) n es refl

  pub passes-lacked : (n : ℕ) (es : List Entry) → WhereLeft (Moment h) es → WhereLeft (Moment h) (passes n h es)
  passes-lacked = passes-keep (WhereLeft (Moment h)) (λ l p. (passed (trades_in l) l).lacked p)

  -- what does not fit makes something short
  pub refused-unfit : (now : List Item) (es : List Entry) → Each (Refused h now) es → Each (Unfit h now) es
  unfolding fits
  refused-unfit now [] r = tt
  refused-unfit now (e ∷ rest) r = ((λ k. any_short_lem h (now ++ trades_of e) (not-false _ (r.0 k))), refused-unfit now rest r.1)
    where
      not-false : (b : Bool) → not b ≡ false → b ≡ true
      not-false true p = refl
      not-false false p = absurd (false≢true (sym p))

  -- where nothing is short, its own test is enough
  pub own_test : (now : List Item) (e : Entry) → OwnTest h now e
  unfolding fits any_short
  own_test now e q = go (any_short h ts) refl (some (debits_short h ts) (trades_of e)) refl
    where
      ts : List Item
      ts = now ++ trades_of e

      go :
          (a : Bool) → any_short h ts ≡ a → (b : Bool) → some (debits_short h ts) (trades_of e) ≡ b
          → not (any_short h ts) ≡ not (some (debits_short h ts) (trades_of e))
      go true j b k = ap not (j ∙ sym (own_debits h ts now (trades_of e) q (λ f. refl) j))
      go false j true k = simp (some-append (debits_short h ts) now (trades_of e), k, or-true)
      go false j false k = ap not (j ∙ sym k)
