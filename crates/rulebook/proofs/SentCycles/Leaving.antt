-- What a cycle leaves would not fit beside what it fixes, and is what it counts as left. Assumes nothing.
use mathlib.Core.Path.{◌≡◌, refl, sym, subst, ◌∙◌}
use mathlib.Core.Bool.{Bool, true, false}
use mathlib.Core.List.{List, [], ◌∷◌, ◌++◌, map}
use Prim.Native.Nat.{ℕ}
use native.Mathlib.Omega.{arith}
use lib.ListN.{length}
use Rattle.plain.specs.Lists.{keep, Each}
use Rattle.plain.proofs.Lists.{total-append, total-map}
use Rattle.rulebook.specs.declared.Item.{Item}
use Rattle.rulebook.specs.Ledger.{Holdings, put_day, put_waiting}
use Rattle.rulebook.specs.Movements.{Place}
use Rattle.rulebook.specs.Shortfall.{missing, takes, brings}
use Rattle.rulebook.specs.Waiting.{with_sent}
use Rattle.rulebook.specs.Selection.{Standing, Entry, not_due, taken, left, trades_of, is_left, is_sent, trades_in, trades_left, count_left, due, selection}
use Rattle.rulebook.specs.Selected.{IfLeft, WhereLeft, Moment, spot, SomethingShort, Unfit}
use Rattle.rulebook.specs.Cycle.{fixing, left_by}
use Rattle.rulebook.specs.Forms.{outcome, counts, cycle, forms, row_of}
use Rattle.rulebook.specs.SentCycles.{is_out, LeftUnfit}
use Rattle.rulebook.proofs.ByCall.{effect-at}
use Rattle.rulebook.proofs.Selection.Selected.{selection-selected, selection-unfit}
use Rattle.rulebook.proofs.Selection.Alone.{Alone, sent-alone}
use Rattle.rulebook.proofs.Selection.Fixing.{nothing_short, selection-alone, selection-spots, DueAt, fixing-fixed, takes-sent, brings-sent, missing-sent}

-- what is missing with one trade more does not ask which of them are fixed
missing-more :
    (h : Holdings) (ts : List Item) (b c : Bool) (i : Item) (p : Place)
    → missing h (map (with_sent b) ts ++ with_sent c i ∷ []) p ≡ missing h (ts ++ i ∷ []) p
unfolding missing
missing-more h ts b c i p =
    let fixed : List Item = map (with_sent b) ts in
    omega (
      arith,
      total-append (takes p) fixed (with_sent c i ∷ []),
      total-append (brings p) fixed (with_sent c i ∷ []),
      total-append (takes p) ts (i ∷ []),
      total-append (brings p) ts (i ∷ []),
      total-map (takes p) (takes p) (with_sent b) (takes-sent p b) ts,
      total-map (brings p) (brings p) (with_sent b) (brings-sent p b) ts,
      takes-sent p c i,
      brings-sent p c i,
    )

short_more :
    (h : Holdings) (ts : List Item) (b c : Bool) (i : Item) → SomethingShort h (ts ++ i ∷ [])
    → SomethingShort h (map (with_sent b) ts ++ with_sent c i ∷ [])
short_more h ts b c i s = (s.0, omega (arith, s.1, missing-more h ts b c i s.0))

-- an item that is due and not fixed is one that was left
module _ (day : ℕ) (all : List Entry) (alone : Alone all) where
  abbrev marked : Entry → Item
  marked e = with_sent (is_sent all e) e.item

  out_left : (e : Entry) → (spot e).is_due ≡ due day e.item → is_out day (marked e) ≡ is_left e.standing
  unfolding due with_sent
  out_left e d = go e.standing refl
    where
      go : (s : Standing) → e.standing ≡ s → is_out day (marked e) ≡ is_left s
      go not_due k = simp (sent-alone all alone e, k, sym (simp k at d))
      go taken k = simp (sent-alone all alone e, k, sym (simp k at d))
      go (left lacked) k = simp (sent-alone all alone e, k, sym (simp k at d))

  outs_left : (es : List Entry) → DueAt day (map spot es) → length (keep (is_out day) (map marked es)) ≡ count_left es
  unfolding count_left
  outs_left [] d = refl
  outs_left (e ∷ rest) d = go (is_left e.standing) refl (outs_left rest d.1)
    where
      go :
          (b : Bool) → is_left e.standing ≡ b → length (keep (is_out day) (map marked rest)) ≡ count_left rest
          → length (keep (is_out day) (map marked (e ∷ rest))) ≡ count_left (e ∷ rest)
      go true k ih = rw (out_left e d.0, k) (omega (arith, ih))
      go false k ih = rw (out_left e d.0, k) (omega (arith, ih))

  outs_unfit :
      (h : Holdings) (ts : List Item) (es : List Entry) → Alone es → DueAt day (map spot es) → Each (Unfit h ts) es
      → Each (λ item. is_out day item ≡ true → SomethingShort h (map (with_sent true) ts ++ item ∷ [])) (map marked es)
  outs_unfit h ts [] a d u = tt
  outs_unfit h ts (e ∷ rest) a d u = (
    (λ t. short_more h ts true (is_sent all e) e.item (alone-short (u.0 (sym (out_left e d.0) ∙ t)))),
    outs_unfit h ts rest a.1 d.1 u.1,
  )
    where
      alone-short : SomethingShort h (ts ++ trades_of e) → SomethingShort h (ts ++ e.item ∷ [])
      alone-short s = subst (λ (l : List Item). SomethingShort h (ts ++ e.item ∷ l)) a.0 s

-- as many trades are left as entries
left-count : (h : Holdings) (es : List Entry) → Alone es → WhereLeft (Moment h) es → length (trades_left es) ≡ count_left es
unfolding trades_left count_left
left-count h [] a m = refl
left-count h (e ∷ rest) a m = go e.standing refl m.0 (left-count h rest a.1 m.1)
  where
    go :
        (s : Standing) → e.standing ≡ s → IfLeft (Moment h) (trades_of e) s → length (trades_left rest) ≡ count_left rest
        → length (trades_left (e ∷ rest)) ≡ count_left (e ∷ rest)
    go not_due k f ih = simp k (omega (arith, ih))
    go taken k f ih = simp k (omega (arith, ih))
    go (left lacked) k f ih = simp (k, f.exact, a.0) (omega (arith, ih))

pub left-unfit : LeftUnfit
unfolding LeftUnfit put_day put_waiting forms row_of cycle outcome counts fixing left_by
left-unfit b o e =
    let es : List Entry = selection b in
    let alone = selection-alone b in
    let day = b.day.number in
    let in-fixed = fixing-fixed es alone in
    rw (effect-at 16 b o e) (
      record {
        covered = rw in-fixed (λ p. missing-sent b.holdings true (trades_in es) p ∙ nothing_short b p);
        unfit = rw in-fixed (outs_unfit day es alone b.holdings (trades_in es) es alone (selection-spots b) (selection-unfit b).unfit);
      },
      left-count b.holdings es alone (selection-selected b).lacked ∙ sym (outs_left day es alone es (selection-spots b)),
    )
