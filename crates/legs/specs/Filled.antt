-- The waiting items' legs, and the figures before any of them is added.
use Rattle.std.specs.Prelude.{ℕ, ◌<◌, ◌≡◌, List, length}
use Rattle.rulebook.specs.Shortfall.{seller, buyer}
use Rattle.rulebook.specs.Ledger.{Ledger}
use Rattle.rulebook.specs.declared.Item.{Item}
use Rattle.book.specs.Keys.{key_of}
use Rattle.marks.specs.Marks.{item_in}
use Rattle.legs.specs.Figures.{from_at, to_at, number_at, LegsAre, has_at, owes_at, Figures, cash_key}
use Rattle.legs.specs.declared.Leg.{Leg}

-- shares go from the seller's account to the buyer's
abbrev pub ShareLegs : List Item → List ℕ → Type 0
ShareLegs waiting legs =
    LegsAre (length waiting) (λ k. key_of (seller (item_in waiting k))) (λ k. key_of (buyer (item_in waiting k))) (λ k. (item_in waiting k).quantity.0) legs

abbrev pub ShareStart : Ledger → List ℕ → Type 0
ShareStart b figures = Figures (length b.waiting) (λ k. b.holdings.balance (seller (item_in b.waiting k))) (λ k. 0) figures

-- cash goes from the credited member to the debited one
abbrev pub payer_of : Item → ℕ
payer_of t = cash_key t.credited.member t.currency

abbrev pub payee_of : Item → ℕ
payee_of t = cash_key t.debited.member t.currency

abbrev pub CashLegs : List Item → List ℕ → Type 0
CashLegs waiting legs =
    LegsAre (length waiting) (λ k. payer_of (item_in waiting k)) (λ k. payee_of (item_in waiting k)) (λ k. (item_in waiting k).amount.0) legs

abbrev pub CashStart : Ledger → List ℕ → Type 0
CashStart b figures =
    Figures (length b.waiting) (λ k. b.holdings.cash (item_in b.waiting k).credited.member (item_in b.waiting k).currency) (λ k. 0) figures

-- ---- one trade's leg

pub record ShareLeg (b : Ledger) (t : Item) (leg : Leg) : Type 0 where
  pub from : leg.from ≡ key_of (seller t)
  pub to : leg.to ≡ key_of (buyer t)
  pub number : leg.number ≡ t.quantity.0
  pub has : leg.has ≡ b.holdings.balance (seller t)

pub record CashLeg (b : Ledger) (t : Item) (leg : Leg) : Type 0 where
  pub from : leg.from ≡ payer_of t
  pub to : leg.to ≡ payee_of t
  pub number : leg.number ≡ t.amount.0
  pub has : leg.has ≡ b.holdings.cash t.credited.member t.currency

-- the leg at k in its columns, with what there is of what it debits
abbrev pub leg_in : (legs figures : List ℕ) → ℕ → Leg
leg_in legs figures k = record { from = from_at legs k; to = to_at legs k; number = number_at legs k; has = has_at figures k }

-- the first n legs owe nothing yet
pub record Started (n : ℕ) (legs figures : List ℕ) : Type 0 where
  pub legs_long : length legs ≡ 192
  pub figures_long : length figures ≡ 128
  pub none_owed : (k : ℕ) → k < n → owes_at figures k ≡ 0
