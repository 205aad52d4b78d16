-- The waiting list's words as a list of items.
use Rattle.std.specs.Prelude.{if◌then◌else◌, ℕ, ◌+◌, ◌*◌, ◌/◌, ◌%◌, ◌≤◌, List, [], ◌∷◌, ◌≡◌, length, get_or, take, drop}
use borrow.Rule.Slice.PartMut.{put_mid}
use Rattle.plain.specs.Lists.{◌is◌}
use Rattle.rulebook.specs.declared.Item.{Item}
use Rattle.rulebook.specs.declared.State.{State}
use Rattle.rulebook.specs.declared.State.TheVariants.{Single, Pair, Trade}
use Rattle.words.specs.Places.{bit, list_from}
use Rattle.words.specs.Tables.{rows}
use Rattle.waiting_list.specs.declared.StateWords.{StateWords}

-- ---- a row of 16 words and the item that it holds

-- which state it is, its references, its marks: 1 for a deliver; 1 for a marked deliver and 2 for a marked receive of a pair
abbrev pub state_words : State → StateWords
state_words (Single delivers reference) = record { tag = 0; first = reference; second = 0; marks = bit delivers }
state_words (Pair deliver receive dm rm) = record { tag = 1; first = deliver; second = receive; marks = bit dm + 2 * bit rm }
state_words (Trade reference) = record { tag = 2; first = reference; second = 0; marks = 0 }

unfoldable pub state_of : (tag first second marks : ℕ) → State
state_of tag first second marks =
    if tag is 0 then Single (marks is 1) first else if tag is 1 then Pair first second (marks % 2 is 1) (marks / 2 is 1) else Trade first

abbrev pub item_of : List ℕ → Item
item_of r =
    record {
      security = get_or r 0 0;
      currency = get_or r 1 0;
      debited = record { member = get_or r 2 0; typ = get_or r 3 0; shareholder = get_or r 4 0 };
      credited = record { member = get_or r 5 0; typ = get_or r 6 0; shareholder = get_or r 7 0 };
      quantity = record { 0 = get_or r 8 0 };
      amount = record { 0 = get_or r 9 0 };
      trade_day = get_or r 10 0;
      settlement_day = get_or r 11 0;
      state = state_of (get_or r 12 0) (get_or r 13 0) (get_or r 14 0) (get_or r 15 0 % 4);
      sent = get_or r 15 0 / 4 is 1;
    }

-- the words of an item whose state has these; its marks have 4 more where a sent cycle has fixed it
abbrev pub row_with : Item → StateWords → (sent : ℕ) → List ℕ
row_with i s sent =
    i.security ∷ i.currency
    ∷ i.debited.member ∷ i.debited.typ ∷ i.debited.shareholder
    ∷ i.credited.member ∷ i.credited.typ ∷ i.credited.shareholder
    ∷ i.quantity.0 ∷ i.amount.0 ∷ i.trade_day ∷ i.settlement_day
    ∷ s.tag ∷ s.first ∷ s.second ∷ (s.marks + 4 * sent) ∷ []

abbrev pub row_of : Item → StateWords → List ℕ
row_of i s = row_with i s (bit i.sent)

abbrev pub words_of : Item → List ℕ
words_of i = row_of i (state_words i.state)

-- ---- word 0: how many items there are; then 64 rows

abbrev pub row_at : List ℕ → ℕ → List ℕ
row_at w i = take 16 (drop (i * 16 + 1) w)

abbrev pub item_at : List ℕ → ℕ → Item
item_at w i = item_of (row_at w i)

-- the words with r in row i
abbrev pub put_row : List ℕ → ℕ → List ℕ → List ℕ
put_row w i r = put_mid (i * 16 + 1) 16 w r

-- the items in order of arrival
unfoldable pub items_of : List ℕ → List Item
items_of w = list_from (item_at w) 0 (rows w)

-- room for as many items as there are
pub record Sized (w : List ℕ) : Type 0 where
  pub long : length w ≡ 1025
  pub size : rows w ≤ 64
