-- A request goes last, and a request ends: what is open then, and what is kept true. Assumes nothing.
use Rattle.std.specs.Prelude.{if◌then◌else◌, Some, None}
use Prim.Native.Nat.{ℕ, ◌+◌, ◌-◌, ◌/◌, ◌^◌, ◌≤◌, ◌<◌}
use native.Mathlib.Omega.{arith}
use mathlib.Core.List.{List, [], ◌∷◌}
use mathlib.Core.Path.{◌≡◌, refl, sym, ap, ◌∙◌}
use lib.ListN.{length, get_or}
use borrow.Author.Tests.{le-ltb}
use Rattle.plain.specs.Lists.{◌is◌, ◌below◌}
use Rattle.rulebook.specs.Ledger.{no_request, counted, put_request}
use Rattle.rulebook.specs.declared.Request.{Request}
use Rattle.rulebook.proofs.Sizes.{counted-some, counted_none}
use Rattle.words.specs.Tables.{rows, key_at, place_of, value_of, Row, row_at}
use Rattle.words.proofs.Tables.{place_at, value_at}
use Rattle.words.proofs.OneRow.{Apart, column_of, word_of, OneMore, row-long, row-comes, row_goes, less_once, less_values, more-once, more-values}
use Rattle.requests.specs.Packed.{ReferenceInRange, key_of, RequestInRange, shares_word, quantity_word}
use Rattle.requests.specs.Map.{SHARES, QUANTITIES, opened, removed, request_of, requests_of, Kept}
use Rattle.requests.proofs.Packed.{packed_back}
use Rattle.requests.proofs.Map.{quantity-some, request_at, none_open, asked-of, put-means}

-- the three columns have room for 16 rows
apart : (key shares quantity : ℕ) → Apart 16 1 ((1, key) ∷ (SHARES, shares) ∷ (QUANTITIES, quantity) ∷ [])
apart key shares quantity = (omega arith, (omega arith, (omega arith, tt)))

module _ (a : List ℕ) (kept : Kept a) (member reference : ℕ) (range : ReferenceInRange member reference) where
  abbrev key : ℕ
  key = key_of member reference

  -- a request goes last
  module _ (request : Request) (fits : RequestInRange request) (room : rows a < 16) (none : ((requests_of a).asked member reference).quantity.0 ≡ 0) where
    abbrev words : Row
    words = (SHARES, shares_word request) ∷ (QUANTITIES, quantity_word request) ∷ []

    abbrev row : Row
    row = (1, key) ∷ words

    none_there : (request_of a key).quantity.0 ≡ 0
    none_there = ap (λ (r : Request). r.quantity.0) (sym (asked-of a member reference range)) ∙ none

    nowhere : place_of key a ≡ None
    nowhere = none_open a kept key none_there

    comes : (m : ℕ) → m < 3 → column_of row m + 16 ≤ 49 → OneMore (column_of row m) a (opened a key request) key (word_of row m)
    comes m known fits =
        let long : column_of row m + 16 ≤ length a = omega (arith, fits, kept.long) in
        row-comes 16 a key words (apart key (shares_word request) (quantity_word request)) m known long room

    shares : OneMore SHARES a (opened a key request) key (shares_word request)
    shares = comes 1 (omega arith) (omega arith)

    quantities : OneMore QUANTITIES a (opened a key request) key (quantity_word request)
    quantities = comes 2 (omega arith) (omega arith)

    pub opened-kept : Kept (opened a key request)
    opened-kept = record {
      long = row-long (rows a) row a (rows a + 1) ∙ kept.long;
      size = omega (arith, quantities.number, room);
      once = more-once QUANTITIES a _ key _ quantities nowhere kept.once;
      some =
          let new : ◌≡◌ {A = ℕ} (if quantity_word request below 2 ^ 16 then 1 else 0) 0 = rw (le-ltb (quantity_word request) (2 ^ 16) (omega arith)) in
          omega (arith, quantities.sums (λ k word. if word below 2 ^ 16 then 1 else 0), new, kept.some);
    }

    pub opened-means : requests_of (opened a key request) ≡ put_request member reference request (requests_of a)
    opened-means =
        put-means a (opened a key request) member reference (shares_word request) (quantity_word request) range
        (record {
          number = omega (arith, quantities.number, counted-some (quantity_word request / 2 ^ 16) (omega arith), ap counted none_there, counted_none);
          shares_of = more-values SHARES a _ key _ shares nowhere;
          quantity_of = more-values QUANTITIES a _ key _ quantities nowhere;
        })
        ∙ ap (λ (r : Request). put_request member reference r (requests_of a)) (packed_back request fits)

  -- the request that stands at j ends
  module _ (j : ℕ) (here : place_of key a ≡ Some j) where
    abbrev last_key : ℕ
    last_key = key_at a (rows a - 1)

    abbrev last_words : Row
    last_words = row_at (SHARES ∷ QUANTITIES ∷ []) (rows a - 1) a

    abbrev last : Row
    last = (1, last_key) ∷ last_words

    low : j < rows a
    low = (place_at a key j here).0

    own : key_at a j ≡ key
    own = (place_at a key j here).1

    goes :
        (m : ℕ) → m < 3 → column_of last m + 16 ≤ 49 → word_of last m ≡ get_or a (rows a - 1 + column_of last m) 0
        → OneMore (column_of last m) (removed a j) a (key_at a j) (get_or a (j + column_of last m) 0)
    goes m known fits e =
        let long : column_of last m + 16 ≤ length a = omega (arith, fits, kept.long) in
        row_goes 16 a last_key last_words (apart last_key (word_of last 1) (word_of last 2)) m known long j low kept.size refl e

    shares_left : OneMore SHARES (removed a j) a (key_at a j) (get_or a (j + SHARES) 0)
    shares_left = goes 1 (omega arith) (omega arith) refl

    quantities_left : OneMore QUANTITIES (removed a j) a (key_at a j) (get_or a (j + QUANTITIES) 0)
    quantities_left = goes 2 (omega arith) (omega arith) refl

    pub removed-kept : Kept (removed a j)
    removed-kept = record {
      long = row-long j last a (rows a - 1) ∙ kept.long;
      size = omega (arith, quantities_left.number, kept.size);
      once = less_once QUANTITIES (removed a j) a _ _ quantities_left kept.once;
      some = omega (arith, quantities_left.sums (λ k word. if word below 2 ^ 16 then 1 else 0), kept.some);
    }

    pub removed-means : requests_of (removed a j) ≡ put_request member reference no_request (requests_of a)
    removed-means =
        put-means a (removed a j) member reference 0 0 range
        (record {
          number = omega (arith, quantities_left.number, counted-some (request_of a key).quantity.0 some-there, counted_none);
          shares_of = gone SHARES shares_left;
          quantity_of = gone QUANTITIES quantities_left;
        })
      where
        some-there : 1 ≤ (request_of a key).quantity.0
        some-there = omega (arith, quantity-some a kept j low, ap (λ (r : Request). r.quantity.0) (request_at a kept key j here))

        gone :
            (c : ℕ) → OneMore c (removed a j) a (key_at a j) (get_or a (j + c) 0) → (x : ℕ)
            → value_of c (removed a j) x ≡ (if key is x then 0 else value_of c a x)
        gone c left x =
            rw own at (less_values c (removed a j) a (key_at a j) (get_or a (j + c) 0) left (value_at a (key_at a j) c kept.once j low refl) x)
