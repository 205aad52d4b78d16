-- A security is admitted: its row goes last, and the others stay. Assumes nothing.
use Prim.Native.Nat.{ℕ, suc, ◌+◌, ◌≤◌, ◌<◌}
use native.Mathlib.Numerals.{add-one}
use native.Mathlib.Omega.{arith}
use mathlib.Core.Bool.{true, false, true≢false}
use mathlib.Core.List.{List, [], ◌∷◌, ◌++◌}
use mathlib.Core.Path.{◌≡◌, refl, sym, ap, ◌∙◌}
use lib.ListN.{length, get_or}
use Rattle.rulebook.specs.Ledger.{Holdings, fresh, admitted}
use Rattle.rulebook.specs.declared.Security.{Security}
use Rattle.std.specs.Prelude.{is_some, Option, Some, None}
use Rattle.words.specs.Places.{list_from}
use Rattle.words.specs.Tables.{rows, place_of, Row, with_row}
use Rattle.words.proofs.Places.{from_push}
use Rattle.words.proofs.OneRow.{Apart, column_of, word_of, OneMore, row-long, value_here, value_other, row-comes, more-once}
use Rattle.securities.specs.Admitted.{ISSUED, OUTSIDE, HELD, security, security_at, securities_of, with_securities, Kept}
use Rattle.securities.proofs.StoredSecurities.{admitted-found}

module _
    (s : List ℕ) (kept : Kept s) (code : ℕ) (room : rows s < 32)
    (new : (h : Holdings) → admitted code (with_securities s h) ≡ false) (q : ℕ)
  where
    abbrev n : ℕ
    n = rows s

    -- all of it outside, none held
    abbrev counts : Row
    counts = (ISSUED, q) ∷ (OUTSIDE, q) ∷ (HELD, 0) ∷ []

    abbrev row : Row
    row = (1, code) ∷ counts

    abbrev r : List ℕ
    r = with_row row s

    -- the four columns have room for 32 rows
    apart : Apart 32 1 row
    apart = (omega arith, (omega arith, (omega arith, (omega arith, tt))))

    long : (m : ℕ) → column_of row m + 32 ≤ 129 → column_of row m + 32 ≤ length s
    long m l = omega (arith, l, kept.long)

    same : (m : ℕ) → m < 4 → column_of row m + 32 ≤ 129 → (k : ℕ) → k < n → get_or r (k + column_of row m) 0 ≡ get_or s (k + column_of row m) 0
    same m known l k low =
        value_other 32 s code counts apart m known (long m l) n room (n + 1) k (omega (arith, low, room)) (λ e. omega (arith, e, low))

    here : (m : ℕ) → m < 4 → column_of row m + 32 ≤ 129 → get_or r (n + column_of row m) 0 ≡ word_of row m
    here m known l = value_here 32 s code counts apart m known (long m l) n room (n + 1)

    stays : (k : ℕ) → k < n → security_at r k ≡ security_at s k
    stays k low t =
        security (same 0 (omega arith) (omega arith) k low t) (same 1 (omega arith) (omega arith) k low t) (same 2 (omega arith) (omega arith) k low t)
        (same 3 (omega arith) (omega arith) k low t)

    comes : security_at r n ≡ security code q q 0
    comes t =
        security (here 0 (omega arith) (omega arith) t) (here 1 (omega arith) (omega arith) t) (here 2 (omega arith) (omega arith) t)
        (here 3 (omega arith) (omega arith) t)

    nowhere : place_of code s ≡ None
    nowhere = go (place_of code s) refl
      where
        go : (f : Option ℕ) → place_of code s ≡ f → f ≡ None
        go (Some i) e = let z : true ≡ false = sym (ap is_some e) ∙ admitted-found s code fresh.holdings ∙ new fresh.holdings in absurd (true≢false z)
        go None e = refl

    one : OneMore HELD s r code 0
    one = row-comes 32 s code counts apart 3 (omega arith) (long 3 (omega arith)) room

    pub admits : Kept r × (securities_of r ≡ securities_of s ++ (security code q q 0 ∷ []))
    unfolding securities_of
    admits =
        let z : 0 + n ≡ n = omega arith in
        let list : list_from (security_at r) 0 (suc n) ≡ list_from (security_at s) 0 n ++ (security_at r (0 + n) ∷ []) =
        from_push (security_at s) (security_at r) 0 n (λ k l. stays (0 + k) (omega arith)) in (
          record {
            long = row-long n row s (n + 1) ∙ kept.long;
            size = omega (arith, one.number, room);
            once = more-once HELD s r code 0 one nowhere kept.once;
          },
          ap (list_from (security_at r) 0) (one.number ∙ add-one n) ∙ list
              ∙ ap (λ (x : Security). list_from (security_at s) 0 n ++ (x ∷ [])) (ap (security_at r) z ∙ comes),
        )
