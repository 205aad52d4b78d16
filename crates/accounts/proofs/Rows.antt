-- What a store to the accounts' words does to every sum over the rows: a balance is stored, an account is opened, an account is removed.
-- Assumes nothing.
use Rattle.std.specs.Prelude.{if◌then◌else◌, Some, None}
use Prim.Native.Nat.{ℕ, ◌+◌, ◌-◌, ◌≤◌, ◌<◌}
use native.Mathlib.Omega.{arith}
use mathlib.Core.Bool.{Bool, true, false}
use mathlib.Core.List.{List, [], ◌∷◌}
use mathlib.Core.Logic.{◌≢◌}
use mathlib.Core.Path.{◌≡◌, refl, sym, ap, ◌∙◌}
use lib.ListN.{length, set, length-set}
use lib.Seq.{get_or-set_same, get_or-set_other}
use borrow.Author.Tests.{ne_eqb, eqb-false}
use Rattle.plain.specs.Lists.{◌is◌, sum_below}
use Rattle.plain.proofs.Sums.{sum-change, sum-least}
use Rattle.rulebook.specs.Ledger.{counted}
use Rattle.rulebook.proofs.Sizes.{counted-some, counted_none}
use Rattle.words.specs.Tables.{rows, key_at, place_of, sum_of, value_of, Row, row_at}
use Rattle.words.proofs.Tables.{place_at, value_at, value_none}
use Rattle.words.proofs.OneRow.{OneMore, row-long, row-comes, row_goes}
use Rattle.accounts.specs.Map.{BALANCES, balance_at, opened, removed, Kept}

-- what the row of a key adds to a sum: nothing where the balance is 0, for then there is none
abbrev pub adds : (ℕ → ℕ → ℕ) → ℕ → ℕ → ℕ
adds figure key balance = if balance is 0 then 0 else figure key balance

-- r has the rows of a, but that of the key has the balance
pub record Put (a r : List ℕ) (key balance : ℕ) : Type 0 where
  pub long : length r ≡ 513
  pub size : rows r ≤ 256
  pub number : rows r + counted (value_of BALANCES a key) ≡ rows a + counted balance
  pub sums : (figure : ℕ → ℕ → ℕ) → sum_of BALANCES figure r + adds figure key (value_of BALANCES a key) ≡ sum_of BALANCES figure a + adds figure key balance

adds_some : (figure : ℕ → ℕ → ℕ) (key balance : ℕ) → 0 < balance → adds figure key balance ≡ figure key balance
adds_some figure key balance some = rw (ne_eqb balance 0 (λ z. omega (arith, z)))

module _ (a : List ℕ) (kept : Kept a) where
  -- no balance is 0
  pub balance_some : (i : ℕ) → i < rows a → 0 < balance_at a i
  unfolding sum_of
  balance_some i l = go (balance_at a i is 0) refl
    where
      go : (b : Bool) → (balance_at a i is 0) ≡ b → 0 < balance_at a i
      go true e =
          let one : ◌≡◌ {A = ℕ} (if balance_at a i is 0 then 1 else 0) 1 = rw e in
          absurd (omega (arith, one, sum-least (rows a) i (λ k. if balance_at a k is 0 then 1 else 0) l, kept.some))
      go false e = omega (arith, eqb-false (balance_at a i) 0 e)

  module _ (key : ℕ) where
    -- ---- a balance is stored

    module _ (j : ℕ) (here : place_of key a ≡ Some j) (v : ℕ) (some : 0 < v) where
      low : j < rows a
      low = (place_at a key j here).0

      own : key_at a j ≡ key
      own = (place_at a key j here).1

      pub value_here : value_of BALANCES a key ≡ balance_at a j
      value_here = value_at a key BALANCES kept.once j low own

      old : (figure : ℕ → ℕ → ℕ) → adds figure key (value_of BALANCES a key) ≡ figure (key_at a j) (balance_at a j)
      old figure =
          ap (adds figure key) value_here ∙ adds_some figure key (balance_at a j) (balance_some j low) ∙ ap (λ (k : ℕ). figure k (balance_at a j)) (sym own)

      counts : counted (value_of BALANCES a key) ≡ 1
      counts = ap counted value_here ∙ counted-some (balance_at a j) (balance_some j low)

      pub put-stored : Put a (set a (j + BALANCES) v) key v
      unfolding sum_of
      put-stored = record {
        long = length-set a (j + BALANCES) v ∙ kept.long;
        size = omega (arith, size, kept.size);
        number = omega (arith, size, counts, counted-some v some);
        sums = λ figure.
            let f : ℕ → ℕ = λ i. figure (key_at a i) (balance_at a i) in
            let g : ℕ → ℕ = λ i. figure (key_at r i) (balance_at r i) in
            let change : sum_below (rows a) g + f j ≡ sum_below (rows a) f + g j =
            sum-change (rows a) j f g low (λ i l d t. figure (key_as i l t) (balance_as i d t)) in
            let new : g j ≡ adds figure key v = (λ t. figure ((key_as j low ∙ own) t) (balance_at_lem t)) ∙ sym (adds_some figure key v some) in
            let n : sum_below (rows r) g ≡ sum_below (rows a) g = ap (λ (m : ℕ). sum_below m g) size in
            omega (arith, change, new, n, old figure);
      }
        where
          r : List ℕ
          r = set a (j + BALANCES) v

          size : rows r ≡ rows a
          size = get_or-set_other a (j + BALANCES) 0 v 0 (λ e. omega (arith, e))

          key_as : (i : ℕ) → i < rows a → key_at r i ≡ key_at a i
          key_as i l = get_or-set_other a (j + BALANCES) (i + 1) v 0 (λ e. omega (arith, e, kept.size))

          balance_as : (i : ℕ) → i ≢ j → balance_at r i ≡ balance_at a i
          balance_as i d = get_or-set_other a (j + BALANCES) (i + BALANCES) v 0 (λ e. d (omega (arith, e)))

          balance_at_lem : balance_at r j ≡ v
          balance_at_lem = get_or-set_same a (j + BALANCES) v 0 (omega (arith, low, kept.size, kept.long))

    -- ---- an account is opened

    module _ (none : place_of key a ≡ None) (room : rows a < 256) (v : ℕ) (some : 0 < v) where
      pub put-opened : Put a (opened a key v) key v
      put-opened = record {
        long = row-long (rows a) row a (rows a + 1) ∙ kept.long;
        size = omega (arith, more.number, room);
        number = omega (arith, more.number, ap counted gone, counted_none, counted-some v some);
        sums = λ figure. omega (arith, more.sums figure, adds_some figure key v some, ap (adds figure key) gone);
      }
        where
          row : Row
          row = (1, key) ∷ (BALANCES, v) ∷ []

          gone : value_of BALANCES a key ≡ 0
          gone = value_none a key BALANCES none

          more : OneMore BALANCES a (opened a key v) key v
          more = row-comes 256 a key ((BALANCES, v) ∷ []) (omega arith, (omega arith, tt)) 1 (omega arith) (omega (arith, kept.long)) room

    -- ---- an account is removed, and the last one moves into its place

    module _ (j : ℕ) (here : place_of key a ≡ Some j) where
      pub put-removed : Put a (removed a j) key 0
      put-removed = record {
        long = row-long j row a (rows a - 1) ∙ kept.long;
        size = omega (arith, less.number, kept.size);
        number = omega (arith, less.number, counts j here 1 (omega arith), counted_none);
        sums = λ figure. omega (arith, less.sums figure, old j here 1 (omega arith) figure);
      }
        where
          row : Row
          row = row_at (1 ∷ BALANCES ∷ []) (rows a - 1) a

          less : OneMore BALANCES (removed a j) a (key_at a j) (balance_at a j)
          less =
              row_goes 256 a (key_at a (rows a - 1)) (row_at (BALANCES ∷ []) (rows a - 1) a) (omega arith, (omega arith, tt)) 1 (omega arith)
              (omega (arith, kept.long)) j (place_at a key j here).0 kept.size refl refl
