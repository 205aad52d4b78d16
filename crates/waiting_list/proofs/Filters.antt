-- What one word of a row already tells of its item: that it waits under no such reference, that it pairs with no such one. Assumes nothing.
use Rattle.std.specs.Prelude.{if◌then◌else◌}
use Prim.Native.Nat.{ℕ, ◌+◌, ◌*◌, ◌/◌, ◌%◌, ◌<◌}
use mathlib.Core.Bool.{Bool, true, false, and-false}
use mathlib.Core.List.{List}
use mathlib.Core.Path.{◌≡◌, sym, ap, ◌∙◌}
use native.Mathlib.Omega.{arith}
use borrow.Author.Tests.{ne_eqb}
use lib.ListN.{get_or, drop}
use lib.Seq.{get_or-take, get_or-drop}
use Rattle.plain.specs.Lists.{◌is◌}
use Rattle.rulebook.specs.Waiting.{is_deliver, is_receive, sent_by}
use Rattle.rulebook.specs.Matching.{shared_terms, same_terms, agree, pairs_with}
use Rattle.rulebook.specs.declared.Item.{Item}
use Rattle.rulebook.specs.declared.State.{State}
use Rattle.rulebook.specs.declared.State.TheVariants.{Single, Pair, Trade}
use Rattle.words.specs.Tables.{rows}
use Rattle.waiting_list.specs.Waiting.{state_of, item_of, row_at, item_at, items_of}
use Rattle.waiting_list.proofs.StoredItems.{item-there}

-- a word of row i
pub word_of : (w : List ℕ) (i j : ℕ) → j < 16 → get_or (row_at w i) j 0 ≡ get_or w (i * 16 + 1 + j) 0
word_of w i j h = get_or-take 16 (drop (i * 16 + 1) w) j 0 h ∙ get_or-drop (i * 16 + 1) w j 0

-- ---- references

-- an item with another state
abbrev stated : Item → State → Item
stated i s =
    record {
      security = i.security;
      currency = i.currency;
      debited = i.debited;
      credited = i.credited;
      quantity = i.quantity;
      amount = i.amount;
      trade_day = i.trade_day;
      settlement_day = i.settlement_day;
      state = s;
      sent = i.sent;
    }

module _ (sender reference : ℕ) (r : List ℕ) (one : (reference is get_or r 13 0) ≡ false) (two : (reference is get_or r 14 0) ≡ false) where
  pub bears_not : sent_by sender reference (item_of r) ≡ false
  unfolding state_of sent_by
  bears_not = go (get_or r 12 0 is 0) (get_or r 12 0 is 1)
    where
      go :
          (t u : Bool)
          → sent_by sender reference
          (stated (item_of r) (if t then Single (get_or r 15 0 % 4 is 1) (get_or r 13 0) else if u then Pair (get_or r 13 0) (get_or r 14 0) (get_or r 15 0 % 4 % 2 is 1)
          (get_or r 15 0 % 4 / 2 is 1) else Trade (get_or r 13 0)))
          ≡ false
      go true u = simp (one, and-false)
      go false true = simp (one, two, and-false)
      go false false = simp (one, and-false)

-- ---- pairing

-- singles of other quantities do not pair
pub quantities_differ :
    (limit : ℕ) (a w : Item) → (w.quantity.0 is a.quantity.0) ≡ false → (a.quantity.0 is w.quantity.0) ≡ false → pairs_with limit a w ≡ false
unfolding pairs_with agree same_terms shared_terms
quantities_differ limit a w e f = simp (e, f, and-false)

-- what is no single does not
pub no_single : (limit : ℕ) (a : Item) (r : List ℕ) → (get_or r 12 0 is 0) ≡ false → pairs_with limit a (item_of r) ≡ false
unfolding pairs_with is_deliver is_receive state_of
no_single limit a r e = go (get_or r 12 0 is 1)
  where
    go :
        (u : Bool)
        → pairs_with limit a (stated (item_of r)
        (if get_or r 12 0 is 0 then Single (get_or r 15 0 % 4 is 1) (get_or r 13 0) else if u then Pair (get_or r 13 0) (get_or r 14 0) (get_or r 15 0 % 4 % 2 is 1)
        (get_or r 15 0 % 4 / 2 is 1) else Trade (get_or r 13 0)))
        ≡ false
    go true = simp e
    go false = simp e

-- ---- the same, of the item at i

module _ (w : List ℕ) (i : ℕ) (low : i < rows w) where
  pub bears_none :
      (reference : ℕ) → (reference is get_or w (i * 16 + 1 + 13) 0) ≡ false → (reference is get_or w (i * 16 + 1 + 14) 0) ≡ false → (d : Item) (sender : ℕ)
      → sent_by sender reference (get_or (items_of w) i d) ≡ false
  bears_none reference e f d sender =
      ap (sent_by sender reference) (sym (item-there w i d low))
      ∙ bears_not sender reference (row_at w i) (rw (word_of w i 13 (omega arith)) e) (rw (word_of w i 14 (omega arith)) f)

  pub pairs_none : (limit : ℕ) (a d : Item) → (get_or w (i * 16 + 1 + 8) 0 ≡ a.quantity.0 → ⊥) → pairs_with limit a (get_or (items_of w) i d) ≡ false
  pairs_none limit a d n =
      let e : get_or (row_at w i) 8 0 ≡ get_or w (i * 16 + 1 + 8) 0 = word_of w i 8 (omega arith) in
      ap (pairs_with limit a) (sym (item-there w i d low))
      ∙ quantities_differ limit a (item_at w i) (ne_eqb _ _ (λ q. n (sym e ∙ q))) (ne_eqb _ _ (λ q. n (sym e ∙ sym q)))

  pub pairs_no_single : (limit : ℕ) (a d : Item) → (get_or w (i * 16 + 1 + 12) 0 is 0) ≡ false → pairs_with limit a (get_or (items_of w) i d) ≡ false
  pairs_no_single limit a d e = ap (pairs_with limit a) (sym (item-there w i d low)) ∙ no_single limit a (row_at w i) (rw (word_of w i 12 (omega arith)) e)
