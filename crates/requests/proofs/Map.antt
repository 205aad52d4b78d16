-- What is asked, by the place that a search answers, and what the words mean once the row of a key has other words. Assumes nothing.
use Rattle.std.specs.Prelude.{if◌then◌else◌, Option, Some, None}
use Prim.Native.Nat.{ℕ, ◌+◌, ◌-◌, ◌/◌, ◌^◌, ◌≤◌, ◌<◌}
use native.Mathlib.Omega.{arith}
use mathlib.Core.Bool.{Bool, true, false, ◌&&◌}
use mathlib.Core.List.{List}
use mathlib.Core.Path.{◌≡◌, refl, ap, fun_ext}
use lib.ListN.{get_or}
use borrow.Author.Tests.{ltb-false}
use Rattle.plain.specs.Lists.{◌is◌, ◌below◌}
use Rattle.plain.proofs.Sums.{sum-least}
use Rattle.rulebook.specs.Ledger.{no_request, counted, put_request}
use Rattle.rulebook.specs.declared.Request.{Request}
use Rattle.words.specs.Tables.{rows, place_of, sum_of, value_of}
use Rattle.words.proofs.Tables.{place_at, value_at, value_none}
use Rattle.requests.specs.Packed.{ReferenceInRange, in_range, key_of, request_in}
use Rattle.requests.specs.Map.{SHARES, QUANTITIES, request_of, asked_of, requests_of, Kept}
use Rattle.requests.proofs.Packed.{range_true, range_holds, key_test, other_range}

module _ (a : List ℕ) (kept : Kept a) where
  -- no quantity is 0
  pub quantity-some : (i : ℕ) → i < rows a → 2 ^ 16 ≤ get_or a (i + QUANTITIES) 0
  unfolding sum_of
  quantity-some i l = go (get_or a (i + QUANTITIES) 0 below 2 ^ 16) refl
    where
      go : (b : Bool) → (get_or a (i + QUANTITIES) 0 below 2 ^ 16) ≡ b → 2 ^ 16 ≤ get_or a (i + QUANTITIES) 0
      go true e =
          let one : ◌≡◌ {A = ℕ} (if get_or a (i + QUANTITIES) 0 below 2 ^ 16 then 1 else 0) 1 = rw e in
          absurd (omega (arith, one, sum-least (rows a) i (λ k. if get_or a (k + QUANTITIES) 0 below 2 ^ 16 then 1 else 0) l, kept.some))
      go false e = ltb-false (get_or a (i + QUANTITIES) 0) (2 ^ 16) e

  module _ (key : ℕ) where
    -- the request of the key, by the place that a search answers
    pub request_at : (j : ℕ) → place_of key a ≡ Some j → request_of a key ≡ request_in (get_or a (j + SHARES) 0) (get_or a (j + QUANTITIES) 0)
    request_at j e =
        let h = place_at a key j e in
        λ i. request_in (value_at a key SHARES kept.once j h.0 h.1 i) (value_at a key QUANTITIES kept.once j h.0 h.1 i)

    pub request_none : place_of key a ≡ None → request_of a key ≡ request_in 0 0
    request_none e = λ i. request_in (value_none a key SHARES e i) (value_none a key QUANTITIES e i)

    -- one of quantity 0 stands nowhere
    pub none_open : (request_of a key).quantity.0 ≡ 0 → place_of key a ≡ None
    none_open none = go (place_of key a) refl
      where
        go : (f : Option ℕ) → place_of key a ≡ f → f ≡ None
        go (Some j) e = absurd (omega (arith, none, quantity-some j (place_at a key j e).0, ap (λ (r : Request). r.quantity.0) (request_at j e)))
        go None e = refl

-- what is asked under a reference in range
pub asked-of :
    (a : List ℕ) (member reference : ℕ) → ReferenceInRange member reference → (requests_of a).asked member reference ≡ request_of a (key_of member reference)
unfolding asked_of
asked-of a member reference range = rw (range_true member reference range)

-- r has the rows of a, but that of the key has the two words
pub record Puts (a r : List ℕ) (key shares quantity : ℕ) : Type 0 where
  pub number : rows r ≡ rows a + counted (quantity / 2 ^ 16) - counted (request_of a key).quantity.0
  pub shares_of : (x : ℕ) → value_of SHARES r x ≡ (if key is x then shares else value_of SHARES a x)
  pub quantity_of : (x : ℕ) → value_of QUANTITIES r x ≡ (if key is x then quantity else value_of QUANTITIES a x)

-- the rulebook's own words
pub put-means :
    (a r : List ℕ) (member reference shares quantity : ℕ) → ReferenceInRange member reference → Puts a r (key_of member reference) shares quantity
    → requests_of r ≡ put_request member reference (request_in shares quantity) (requests_of a)
unfolding put_request asked_of
put-means a r member reference shares quantity range put = λ i. record { asked = fun_ext (λ m. fun_ext (map m)) i; number = number i }
  where
    key : ℕ
    key = key_of member reference

    number :
        rows r
        ≡ rows a + counted (quantity / 2 ^ 16) - counted (if in_range member reference then request_of a key else no_request).quantity.0
    number = rw (range_true member reference range) (put.number)

    chosen : (x : ℕ) (b : Bool) → (key is x) ≡ b → request_of r x ≡ (if b then request_in shares quantity else request_of a x)
    chosen x true e =
        let s : value_of SHARES r x ≡ shares = rw e at (put.shares_of x) in
        let q : value_of QUANTITIES r x ≡ quantity = rw e at (put.quantity_of x) in
        λ i. request_in (s i) (q i)
    chosen x false e =
        let s : value_of SHARES r x ≡ value_of SHARES a x = rw e at (put.shares_of x) in
        let q : value_of QUANTITIES r x ≡ value_of QUANTITIES a x = rw e at (put.quantity_of x) in
        λ i. request_in (s i) (q i)

    map :
        (m n : ℕ) → (if in_range m n then request_of r (key_of m n) else no_request)
        ≡ (if member is m && reference is n then request_in shares quantity else if in_range m n then request_of a (key_of m n) else no_request)
    map m n = go (in_range m n) refl
      where
        go :
            (b : Bool) → in_range m n ≡ b → (if b then request_of r (key_of m n) else no_request)
            ≡ (if member is m && reference is n then request_in shares quantity else if b then request_of a (key_of m n) else no_request)
        go true e =
            chosen (key_of m n) (member is m && reference is n) (key_test member reference m n range (range_holds m n e))
        go false e = rw (other_range member reference m n range e)
