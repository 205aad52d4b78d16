-- Examples, computed: selections with passes, masks, pay-ins.
use Rattle.std.specs.Prelude.{if◌then◌else◌, ℕ, ◌+◌, true, false, ◌&&◌, List, [], ◌∷◌, ◌++◌, map, ◌≡◌}
use Rattle.plain.specs.Lists.{◌is◌, ◌at_most◌, total}
use Rattle.rulebook.specs.declared.Party.{Party}
use Rattle.rulebook.specs.declared.Item.{Item}
use Rattle.rulebook.specs.declared.State.{State}
use Rattle.rulebook.specs.declared.State.TheVariants.{Single, Pair, Trade}
use Rattle.rulebook.specs.Ledger.{Holdings, account_of, same_account}
use Rattle.rulebook.specs.Rows.{deliver_reference}
use Rattle.rulebook.specs.Selection.{Entry, trades_in, trades_left, dropping, full_selection, due, entry_by, with_originals}
use Rattle.choices.specs.Mask.{mask_bits, good_mask, optimised}
use Rattle.choices.specs.Clearing.{Amounts, amounts, always, never, depends, verdict}

-- ---- lists of day 1, in security 101 and USD; accounts of type 20 and shareholder 5

unfoldable pub party : ℕ → Party
party member = record { member = member; typ = 20; shareholder = 5 }

unfoldable pub item : State → (from to quantity amount : ℕ) → Item
item state from to quantity amount = record {
  security = 101;
  currency = 1;
  debited = party from;
  credited = party to;
  quantity = record { 0 = quantity };
  amount = record { 0 = amount };
  trade_day = 1;
  settlement_day = 1;
  state = state;
  sent = false;
}

unfoldable pub pair : (reference from to quantity amount : ℕ) → Item
pair reference = item (Pair reference (1_000 + reference) false false)

unfoldable pub trade : (reference from to quantity amount : ℕ) → Item
trade reference = item (Trade reference)

-- members, and what each has
unfoldable pub of : List (ℕ × ℕ) → ℕ → ℕ
of these member = total (λ p. if p.0 is member then p.1 else 0) these

unfoldable pub has : (shares cash : List (ℕ × ℕ)) → Holdings
has shares cash = record {
  securities = [];
  balance = λ a. if same_account (account_of 101 (party a.member)) a then of shares a.member else 0;
  accounts = 0;
  cash = λ m c. if c is 1 then of cash m else 0;
}

-- each trade by itself
unfoldable pub alone : List Item → List Entry
alone = map (entry_by (due 1) (λ item. []))

-- the references of the trades that are in, and of those left, with the shares and the cash that each lacked
unfoldable pub shown : List Entry → List ℕ × List (ℕ × ℕ × ℕ)
shown es =
    let left : List (ℕ × ℕ × ℕ) = map (λ l. (deliver_reference l.trade.state, l.lacked.shares, l.lacked.cash)) (trades_left es) in
    (map (λ t. deliver_reference t.state) (trades_in es), left)

-- 7 has 100 shares and sells 60, 50 and 30 to 8, who has the cash; an instruction waits behind them
unfoldable pub three : List Item
three = pair 1 7 8 60 100 ∷ pair 2 7 8 50 100 ∷ pair 3 7 8 30 100 ∷ item (Single true 4) 7 8 1 1 ∷ []

unfoldable pub seller7 : Holdings
seller7 = has ((7, 100) ∷ []) ((8, 1_000) ∷ [])

-- 7 has 105 and sells 100 to 8, who has 10 and sells 100 to 9, each for 50
unfoldable pub chain : List Item
chain = pair 1 7 8 100 50 ∷ pair 2 8 9 100 50 ∷ []

unfoldable pub holders : (cash : List (ℕ × ℕ)) → Holdings
holders cash = has ((7, 105) ∷ (8, 10) ∷ []) cash

-- 8 sells 30 to 9; 7, who has 100, sells 60 to 10, 50 to 11 and 30 to 8
unfoldable pub four : List Item
four = pair 1 8 9 30 10 ∷ pair 2 7 10 60 10 ∷ pair 3 7 11 50 10 ∷ pair 4 7 8 30 10 ∷ []

unfoldable pub payers : Holdings
payers = has ((7, 100) ∷ []) ((8, 10) ∷ (9, 10) ∷ (10, 10) ∷ (11, 10) ∷ (12, 10) ∷ [])

-- 7 has not delivered 100 to 8 (reference 1), and 10 sells them to 7 (reference 2): the first goes with the second
unfoldable pub original : Item
original = trade 1 7 8 100 50

unfoldable pub operation : (amount : ℕ) → Item
operation amount = trade 2 10 7 100 amount

unfoldable pub together : List Item → List Entry
together = with_originals (λ i. 2 at_most deliver_reference i.state) (λ o i. deliver_reference o.state is 2 && deliver_reference i.state is 1)

unfoldable pub seller10 : (cash : List (ℕ × ℕ)) → Holdings
seller10 cash = has ((10, 100) ∷ []) cash

-- pay-ins of member 9 alone
unfoldable pub only9 : (usd lbp : ℕ) → Amounts
only9 usd lbp m c = if m is 9 then (if c is 1 then usd else lbp) else 0

pub record Desk : Type 0 where
  -- without passes the 60 alone is in; with them the 30 too, and the 50 lacked 10 shares when it went
  pub without_passes : shown (dropping seller7 (alone three)) ≡ (1 ∷ [], (2, 10, 0) ∷ (3, 40, 0) ∷ [])
  pub with_passes : shown (full_selection seller7 (alone three)) ≡ (1 ∷ 3 ∷ [], (2, 10, 0) ∷ [])
  -- shares and cash passed on: both are in where 9 can pay, and none where it cannot
  pub passed_on : shown (full_selection (holders ((9, 50) ∷ [])) (alone chain)) ≡ (1 ∷ 2 ∷ [], [])
  pub not_paid : shown (full_selection (holders []) (alone chain)) ≡ ([], (1, 0, 50) ∷ (2, 0, 50) ∷ [])
  -- fourth, third and first go; the first pass puts the fourth back, the second the first
  pub second_pass : shown (full_selection payers (alone four)) ≡ (1 ∷ 2 ∷ 4 ∷ [], (3, 10, 0) ∷ [])
  -- 8 sells 30 to 12 besides: the first pass puts back fourth and fifth, and then 8 has none left for the first
  pub in_one_pass : shown (full_selection payers (alone (four ++ pair 5 8 12 30 10 ∷ []))) ≡ (2 ∷ 4 ∷ 5 ∷ [], (1, 30, 0) ∷ (3, 10, 0) ∷ [])
  -- shares and cash are both missing, and more than the trade itself moves
  pub both_missing :
      shown (full_selection (has ((7, 10) ∷ []) ((8, 5) ∷ [])) (alone (pair 1 7 8 60 40 ∷ pair 2 7 8 50 30 ∷ []))) ≡ ([], (1, 50, 35) ∷ (2, 100, 65) ∷ [])
  -- two that go together: both are left where one lacks 10, and both are in where it has them
  pub both_left : shown (full_selection (seller10 ((8, 500) ∷ [])) (together (original ∷ operation 60 ∷ []))) ≡ ([], (2, 0, 10) ∷ (1, 0, 0) ∷ [])
  pub both_in : shown (full_selection (seller10 ((8, 500) ∷ (7, 10) ∷ [])) (together (original ∷ operation 60 ∷ []))) ≡ (2 ∷ 1 ∷ [], [])
  -- the place of the second of them decides, behind a pair of 60 and before it
  pub behind_it :
      shown (full_selection (seller10 ((7, 500) ∷ (8, 500) ∷ (9, 10) ∷ [])) (together (original ∷ pair 77 10 9 60 10 ∷ operation 50 ∷ [])))
      ≡ (77 ∷ [], (2, 60, 0) ∷ (1, 0, 0) ∷ [])
  pub before_it :
      shown (full_selection (seller10 ((7, 500) ∷ (8, 500) ∷ (9, 10) ∷ [])) (together (original ∷ operation 50 ∷ pair 77 10 9 60 10 ∷ [])))
      ≡ (2 ∷ 1 ∷ [], (77, 60, 0) ∷ [])
  -- masks: the 50 and the 30, none; not all three, not the instruction, not a place behind the list
  pub masks :
      map (λ m. good_mask seller7 (mask_bits 64 m) (alone three))
      (0x6000000000000000 ∷ 0 ∷ 0xE000000000000000 ∷ 0x7000000000000000 ∷ 0x6800000000000000 ∷ [])
      ≡ true ∷ true ∷ false ∷ false ∷ false ∷ []
  pub by_mask : shown (optimised seller7 (mask_bits 64 0x6000000000000000) (alone three)) ≡ (2 ∷ 3 ∷ [], (1, 40, 0) ∷ [])
  pub by_none : shown (optimised seller7 (mask_bits 64 0) (alone three)) ≡ ([], (1, 0, 0) ∷ (2, 0, 0) ∷ (3, 0, 0) ∷ [])
  -- two that go together are set together
  pub masks_together :
      map (λ m. good_mask (seller10 ((8, 500) ∷ (7, 10) ∷ [])) (mask_bits 64 m) (together (original ∷ operation 60 ∷ [])))
      (0xC000000000000000 ∷ 0x8000000000000000 ∷ 0x4000000000000000 ∷ [])
      ≡ true ∷ false ∷ false ∷ []
  -- 9 lacks 50 USD, and nobody else anything
  pub lacks_50 : map (λ m. amounts (holders []) chain m 1) (7 ∷ 8 ∷ 9 ∷ []) ≡ 0 ∷ 0 ∷ 50 ∷ []
  -- of 9's cash is known that it is between two amounts
  pub from_50 : verdict (holders []) chain (only9 50 0) (only9 60 0) ≡ always
  pub up_to_50 : verdict (holders []) chain (only9 0 0) (only9 50 0) ≡ depends
  pub below_50 : verdict (holders []) chain (only9 0 0) (only9 49 60) ≡ never
