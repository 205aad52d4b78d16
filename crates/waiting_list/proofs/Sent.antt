-- A row in which one word changed: whether its item is fixed. Assumes nothing.
use Prim.Native.Nat.{ℕ, ◌+◌, ◌*◌, ◌/◌, ◌%◌, ◌<◌}
use native.Mathlib.Nat.{mod-lt}
use native.Mathlib.Omega.{arith}
use mathlib.Core.Bool.{Bool}
use mathlib.Core.List.{List}
use mathlib.Core.Path.{◌≡◌, sym, ap, ◌∙◌}
use lib.ListN.{get_or, set, length-set}
use lib.Seq.{get_or-set_same, get_or-set_other}
use Rattle.plain.specs.Lists.{◌is◌}
use Rattle.rulebook.specs.Waiting.{with_sent}
use Rattle.rulebook.specs.declared.Item.{Item}
use Rattle.words.specs.Places.{bit, list_from}
use Rattle.words.specs.Tables.{rows}
use Rattle.words.proofs.Places.{from_set}
use Rattle.waiting_list.specs.Waiting.{state_of, item_of, row_at, item_at, items_of, Sized}
use Rattle.waiting_list.proofs.StoredItems.{marks_back, sent_back, item-there}
use Rattle.waiting_list.proofs.Filters.{word_of}

-- a row's item has what its words say
item-words : (r x : List ℕ) → ((j : ℕ) → j < 16 → get_or r j 0 ≡ get_or x j 0) → item_of r ≡ item_of x
item-words r x e = λ k. record {
  security = e 0 (omega arith) k;
  currency = e 1 (omega arith) k;
  debited = record { member = e 2 (omega arith) k; typ = e 3 (omega arith) k; shareholder = e 4 (omega arith) k };
  credited = record { member = e 5 (omega arith) k; typ = e 6 (omega arith) k; shareholder = e 7 (omega arith) k };
  quantity = record { 0 = e 8 (omega arith) k };
  amount = record { 0 = e 9 (omega arith) k };
  trade_day = e 10 (omega arith) k;
  settlement_day = e 11 (omega arith) k;
  state = state_of (e 12 (omega arith) k) (e 13 (omega arith) k) (e 14 (omega arith) k) (e 15 (omega arith) k % 4);
  sent = e 15 (omega arith) k / 4 is 1;
}

-- with another last word, whose marks are those of the old one
sent-words :
    (r x : List ℕ) (b : Bool) → ((j : ℕ) → j < 15 → get_or r j 0 ≡ get_or x j 0) → get_or r 15 0 ≡ get_or x 15 0 % 4 + 4 * bit b
    → item_of r ≡ with_sent b (item_of x)
unfolding with_sent
sent-words r x b e last =
    let low : get_or x 15 0 % 4 < 4 = mod-lt (get_or x 15 0) (omega arith) in
    let marks : get_or r 15 0 % 4 ≡ get_or x 15 0 % 4 = ap (λ (n : ℕ). n % 4) last ∙ marks_back (get_or x 15 0 % 4) b low in
    let flag : (get_or r 15 0 / 4 is 1) ≡ b = ap (λ (n : ℕ). n / 4 is 1) last ∙ sent_back (get_or x 15 0 % 4) b low in
    λ k. record {
      security = e 0 (omega arith) k;
      currency = e 1 (omega arith) k;
      debited = record { member = e 2 (omega arith) k; typ = e 3 (omega arith) k; shareholder = e 4 (omega arith) k };
      credited = record { member = e 5 (omega arith) k; typ = e 6 (omega arith) k; shareholder = e 7 (omega arith) k };
      quantity = record { 0 = e 8 (omega arith) k };
      amount = record { 0 = e 9 (omega arith) k };
      trade_day = e 10 (omega arith) k;
      settlement_day = e 11 (omega arith) k;
      state = state_of (e 12 (omega arith) k) (e 13 (omega arith) k) (e 14 (omega arith) k) (marks k);
      sent = flag k;
    }

module _ (w : List ℕ) (sized : Sized w) (i : ℕ) (low : i < rows w) (b : Bool) where
  -- the words after
  abbrev pub after : List ℕ
  after = set w (i * 16 + 16) (get_or w (i * 16 + 16) 0 % 4 + 4 * bit b)

  -- a word of another place
  other : (n : ℕ) → (n ≡ i * 16 + 16 → ⊥) → get_or after n 0 ≡ get_or w n 0
  other n ne = get_or-set_other w (i * 16 + 16) n _ 0 ne

  here : item_at after i ≡ with_sent b (item_at w i)
  here =
      let at : i * 16 + 1 + 15 ≡ i * 16 + 16 = omega arith in
      sent-words (row_at after i) (row_at w i) b
      (λ j l. word_of after i j (omega arith) ∙ other (i * 16 + 1 + j) (λ e. omega (arith, e, l)) ∙ sym (word_of w i j (omega arith)))
      (word_of after i 15 (omega arith) ∙ ap (λ (n : ℕ). get_or after n 0) at
      ∙ get_or-set_same w (i * 16 + 16) _ 0 (omega (arith, sized.long, sized.size, low))
      ∙ ap (λ (n : ℕ). n % 4 + 4 * bit b) (sym (word_of w i 15 (omega arith) ∙ ap (λ (n : ℕ). get_or w n 0) at)))

  there : (k : ℕ) → (k ≡ i → ⊥) → item_at after k ≡ item_at w k
  there k ne =
      item-words (row_at after k) (row_at w k)
      (λ j l. word_of after k j l ∙ other (k * 16 + 1 + j) (λ e. ne (omega (arith, e, l))) ∙ sym (word_of w k j l))

  pub put : Sized after × ((d : Item) → items_of after ≡ set (items_of w) i (with_sent b (get_or (items_of w) i d)))
  unfolding items_of
  put =
      let size : rows after ≡ rows w = other 0 (λ e. omega (arith, e)) in
      let z : 0 + i ≡ i = omega arith in (
        record { long = length-set w (i * 16 + 16) _ ∙ sized.long; size = rw size sized.size },
        λ d. ap (list_from (item_at after) 0) size
            ∙ from_set (item_at w) (item_at after) 0 (rows w) i low (λ k h ne. there (0 + k) (λ e. ne (omega (arith, e))))
            ∙ ap (λ (x : Item). set (list_from (item_at w) 0 (rows w)) i x)
            (ap (item_at after) z ∙ here ∙ ap (with_sent b) (unfold items_of in item-there w i d low)),
      )

-- the word tells it
pub is_sent_lem : (w : List ℕ) (i : ℕ) → i < rows w → (d : Item) → (get_or w (i * 16 + 16) 0 / 4 is 1) ≡ (get_or (items_of w) i d).sent
is_sent_lem w i low d =
    let at : i * 16 + 1 + 15 ≡ i * 16 + 16 = omega arith in
    ap (λ (n : ℕ). n / 4 is 1) (sym (word_of w i 15 (omega arith) ∙ ap (λ (n : ℕ). get_or w n 0) at))
    ∙ ap (λ (x : Item). x.sent) (item-there w i d low)
