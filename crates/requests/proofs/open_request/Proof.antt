-- `requests::open_request` meets its contract. Assumes nothing.
use mathlib.Core.List.{List, [], ◌∷◌}
use mathlib.Core.Path.{◌≡◌, sym, subst}
use Prim.Native.Nat.{ℕ}
use borrow.Author.Rules.{rules}
use native.Mathlib.Omega.{arith}
use lib.ListN.{length-set}
use Rattle.rulebook.specs.Ledger.{put_request}
use Rattle.words.specs.Tables.{with_row}
use Rattle.requests.specs.Packed.{key_of}
use Rattle.requests.specs.Map.{SHARES, QUANTITIES, opened, requests_of, Kept}
use Rattle.requests.proofs.Changed.{opened-kept, opened-means}
use Rattle.requests.proofs.open_request.Statement.{statement}
use Rattle.requests.proofs.open_request.Tie as tie

returns : tie.Need-returns
returns c =
    let quantity = c.before in
    let shares = quantity.before in
    let key = shares.before in
    let s = key.before.before in
    let a = s.args in
    let words = a.requests.now in
    let row : with_row ((1, key.key_of-key.result) ∷ (SHARES, shares.shares_word-shares.result) ∷ (QUANTITIES, quantity.quantity_word-quantity.result) ∷ []) words
    ≡ opened words (key_of a.member a.reference) a.request =
    λ i. with_row ((1, key.key_of-key.ensures i) ∷ (SHARES, shares.shares_word-shares.ensures i) ∷ (QUANTITIES, quantity.quantity_word-quantity.ensures i) ∷ []) words
    in
    subst (λ (r : List ℕ). Kept r × (requests_of r ≡ put_request a.member a.reference a.request (requests_of words))) (sym row) (
      opened-kept words s.requires.0 a.member a.reference s.requires.1 a.request s.requires.2 s.requires.3 s.requires.4,
      opened-means words s.requires.0 a.member a.reference s.requires.1 a.request s.requires.2 s.requires.3 s.requires.4,
    )

pub open_request_spec : {M : Type 1} → statement M
open_request_spec =
    tie.close
    (tie.spec (λ c κs. search rules) (λ c κs. search rules) (λ c κs. search rules) (λ c. search rules)
    (λ c. search rules) (λ c. search rules) (λ c. search rules)
    (λ c. search rules) (λ c. search rules) (λ c. simp length-set (omega arith))
    (λ c. search rules) (λ c. search rules) (λ c. simp length-set (omega arith))
    (λ c. search rules) (λ c. search rules) (λ c. search rules) returns)
