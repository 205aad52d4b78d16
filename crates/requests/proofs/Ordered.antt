-- The requests by their keys: the least key of the words is that of the first request that is open. Assumes nothing.
use Prim.Native.Nat.{ℕ, ◌/◌, ◌^◌, ◌<◌}
use native.Mathlib.Omega.{arith}
use mathlib.Core.Bool.{true, false, not}
use mathlib.Core.List.{List}
use mathlib.Core.Path.{◌≡◌, ap, ◌∙◌}
use borrow.Author.Tests.{eq-eqb, ne_eqb}
use Rattle.plain.specs.Lists.{◌is◌}
use Rattle.plain.proofs.Sums.{sum-none}
use Rattle.rulebook.specs.declared.Request.{Request}
use Rattle.words.specs.Tables.{rows, key_at, sum_of, value_of}
use Rattle.words.specs.Order.{Next, NextKey, RowOf}
use Rattle.words.proofs.Tables.{value_at}
use Rattle.requests.specs.Packed.{ReferenceInRange, key_of, key_limit, member_of, reference_of, is_open}
use Rattle.requests.specs.Map.{QUANTITIES, requests_of, Kept}
use Rattle.requests.proofs.Map.{quantity-some, asked-of}

module _ (a : List ℕ) (kept : Kept a) where
  -- how many shares are asked for under a key
  abbrev quantity_of : ℕ → ℕ
  quantity_of key = ((requests_of a).asked (member_of key) (reference_of key)).quantity.0

  of-key : (key : ℕ) → key < key_limit → quantity_of key ≡ value_of QUANTITIES a key / 2 ^ 16
  of-key key l =
      let range : ReferenceInRange (member_of key) (reference_of key) = record { member_most = omega arith; reference_most = omega arith } in
      let back : key_of (member_of key) (reference_of key) ≡ key = omega arith in
      ap (λ (r : Request). r.quantity.0) (asked-of a (member_of key) (reference_of key) range) ∙ ap (λ (k : ℕ). value_of QUANTITIES a k / 2 ^ 16) back

  has-row : (key : ℕ) → key < key_limit → RowOf a (rows a) key → is_open (requests_of a).asked key ≡ true
  has-row key l row =
      let here = value_at a key QUANTITIES kept.once row.place row.inside row.here in
      let some = quantity-some a kept row.place row.inside in
      ap not (ne_eqb (quantity_of key) 0 (λ z. omega (arith, z, of-key key l, here, some)))

  no_row : (key : ℕ) → key < key_limit → ((i : ℕ) → i < rows a → (key_at a i is key) ≡ false) → is_open (requests_of a).asked key ≡ false
  unfolding value_of sum_of
  no_row key l none =
      let zero : value_of QUANTITIES a key ≡ 0 = sum-none (rows a) _ (λ i m. rw (none i m)) in
      ap not (eq-eqb (quantity_of key) 0 (omega (arith, of-key key l, zero)))

  pub next_request_lem : (from next : ℕ) → NextKey a from key_limit next → Next (is_open (requests_of a).asked) from key_limit next
  next_request_lem from next least = record {
    least = least.from_least;
    most = least.most;
    passes = λ l. has-row next l (least.row l);
    others = λ n f l.
        no_row n (omega (arith, l, least.most))
        (λ i m. ne_eqb (key_at a i) n (λ e. omega (arith, e, f, l, least.others i m (omega (arith, e, f)))));
  }
