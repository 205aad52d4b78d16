-- The drop of a round, and the rounds. Assumes nothing.
use Prim.Native.Nat.{ℕ, zero, suc, ◌<◌, zero-le, suc-le-suc}
use native.Mathlib.Nat.{le_of_suc-le-suc, not-suc-le-zero}
use mathlib.Core.Bool.{Bool, true, false, or-true, ◌&&◌}
use mathlib.Core.List.{List, [], ◌∷◌}
use mathlib.Core.Path.{◌≡◌, refl}
use lib.ListN.{length, get_or, set}
use Rattle.plain.specs.Lists.{some}
use Rattle.rulebook.specs.Ledger.{Holdings}
use Rattle.rulebook.specs.Shortfall.{debits_short, any_short}
use Rattle.rulebook.specs.declared.Item.{Item}
use Rattle.marks.specs.Marks.{Marked, with_mark, no_item}
use Rattle.marks.proofs.Marking.{some-marked}
use Rattle.netting.specs.Rounds.{unmark_last, mark_rounds}
use Rattle.legs.proofs.Searches.{Last}

-- ---- the drop

abbrev pub no_mark : Marked
no_mark = (false, no_item)

-- the trade at place k is marked and passes the test
abbrev pub at : (Item → Bool) → List Marked → ℕ → Bool
at test ms k = (get_or ms k no_mark).0 && test (get_or ms k no_mark).1

abbrev pub passes : (Item → Bool) → List Marked → Bool
passes test ms = some (λ m. m.0 && test m.1) ms

module _ (test : Item → Bool) where
  pub none_at : (ms : List Marked) → ((k : ℕ) → k < length ms → at test ms k ≡ false) → passes test ms ≡ false
  none_at [] f = refl
  none_at (m ∷ rest) f = rw (f zero (suc-le-suc zero-le)) (none_at rest (λ k h. f (suc k) (suc-le-suc h)))

  pub some_at : (ms : List Marked) (j : ℕ) → j < length ms → at test ms j ≡ true → passes test ms ≡ true
  some_at [] j h e = absurd (not-suc-le-zero h)
  some_at (m ∷ rest) zero h e = rw e
  some_at (m ∷ rest) (suc j) h e = rw (some_at rest j (le_of_suc-le-suc h) e) (or-true (m.0 && test m.1))

  pub drop_at : (ms : List Marked) (j : ℕ) → Last (at test ms) (length ms) j → unmark_last test ms ≡ set ms j (false, (get_or ms j no_mark).1)
  unfolding unmark_last
  drop_at [] j l = absurd (not-suc-le-zero l.inside)
  drop_at (m ∷ rest) zero l = rw (none_at rest (λ k h. l.behind (suc k) (suc-le-suc zero-le) (suc-le-suc h)), l.passed)
  drop_at (m ∷ rest) (suc j) l =
      let in_rest = le_of_suc-le-suc l.inside in
      let last : Last (at test rest) (length rest) j =
      record { inside = in_rest; passed = l.passed; behind = λ k g h. l.behind (suc k) (suc-le-suc g) (suc-le-suc h) }
      in
      rw (some_at rest j in_rest l.passed, drop_at rest j last)

-- ---- the rounds

module _ (h : Holdings) (ms : List Marked) where
  pub rounds-stop : (n : ℕ) → passes (debits_short h (with_mark ms)) ms ≡ false → mark_rounds n h ms ≡ ms
  unfolding mark_rounds any_short
  rounds-stop zero e = refl
  rounds-stop (suc n) e = rw (some-marked (debits_short h (with_mark ms)) ms, e)

  pub rounds-step :
      (n : ℕ) → passes (debits_short h (with_mark ms)) ms ≡ true → mark_rounds (suc n) h ms ≡ mark_rounds n h (unmark_last (debits_short h (with_mark ms)) ms)
  unfolding mark_rounds any_short
  rounds-step n e = rw (some-marked (debits_short h (with_mark ms)) ms, e)
