-- The legs of shares and of cash debit what the rulebook says, and the figures that they start with fit. Assumes nothing.
use Prim.Native.Nat.{ℕ, ◌<◌}
use native.Mathlib.Omega.{arith}
use mathlib.Core.Bool.{Bool, true, false, ◌&&◌}
use mathlib.Core.List.{List}
use mathlib.Core.Path.{◌≡◌, refl, sym, ap, subst, ◌∙◌}
use borrow.Author.Tests.{eq-eqb, ne_eqb, eqb-true, eqb-false}
use lib.ListN.{length}
use Rattle.plain.specs.Lists.{◌is◌}
use Rattle.rulebook.specs.Ledger.{Ledger, same_account}
use Rattle.rulebook.specs.Premise.{CashFits}
use Rattle.rulebook.specs.Shortfall.{seller, buyer, delivers, pays}
use Rattle.rulebook.specs.Shortfall as trades
use Rattle.rulebook.specs.declared.Item.{Item}
use Rattle.book.specs.Keys.{key_of}
use Rattle.book.proofs.Keys.{key_test, key_once}
use Rattle.marks.specs.Marks.{item_in, is_on}
use Rattle.marks.proofs.Marking.{if-below}
use Rattle.legs.specs.Figures.{from_at, has_at, RoomAll, cash_key}
use Rattle.legs.specs.Filled.{ShareLegs, ShareStart, CashLegs, CashStart, payer_of}
use Rattle.legs.specs.Legs.{figures_in, SameLegs}
use Rattle.legs.specs.Slots.{Slots, viewed, WithMarked}
use Rattle.legs.specs.declared.figures.Legs.{Legs}
use Rattle.legs.specs.Ready.{Ready}
use Rattle.legs.proofs.Slotted.{has-viewed, owes_viewed, viewed-long, slot_leg, slot_own}
use Rattle.netting.specs.Figured.{FiguresOf}
use Rattle.netting.proofs.Netting.{Column, room_all, start_figures}

-- ---- keys tell members' cash apart

cash_test : (m c p d : ℕ) → CashFits m c → CashFits p d → (cash_key m c is cash_key p d) ≡ (m is p && c is d)
cash_test m c p d f g = go (m is p) (c is d) refl refl
  where
    go : (x y : Bool) → (m is p) ≡ x → (c is d) ≡ y → (cash_key m c is cash_key p d) ≡ (x && y)
    go true true e h = eq-eqb (cash_key m c) (cash_key p d) (omega (arith, eqb-true m p e, eqb-true c d h))
    go true false e h = ne_eqb (cash_key m c) (cash_key p d) (λ s. eqb-false c d h (omega (arith, s, eqb-true m p e)))
    go false y e h = ne_eqb (cash_key m c) (cash_key p d) (λ s. eqb-false m p e (omega (arith, s, f, g)))

module _ (b : Ledger) (r : Ready b) where
  abbrev item : ℕ → Item
  item k = item_in b.waiting k

  abbrev n : ℕ
  n = length b.waiting

  pub share_column : (legs : List ℕ) → ShareLegs b.waiting legs → Column b delivers legs
  unfolding trades.brings trades.takes
  share_column legs l = record {
    size = r.size;
    brings_as = λ j k h g.
        let test = key_test (buyer (item j)) (seller (item k)) (r.bookable j h).buys (r.bookable k g).sells in
        rw (l.to_as j h, l.from_as k g, l.number_as j h, test);
    takes_as = λ j k h g.
        let test = key_test (seller (item j)) (seller (item k)) (r.bookable j h).sells (r.bookable k g).sells in
        rw (l.from_as j h, l.from_as k g, l.number_as j h, test);
    into_small = λ j k h g. if-below (same_account (buyer (item j)) (seller (item k))) _ (r.bookable j h).quantity;
    out_small = λ j k h g. if-below (same_account (seller (item j)) (seller (item k))) _ (r.bookable j h).quantity;
    rich = λ k h. r.balances _;
  }

  -- a member's cash and what the item at k debits
  cash_key_test :
      (member j k : ℕ) → CashFits member (item j).currency → CashFits (item k).credited.member (item k).currency
      → (cash_key member (item j).currency is payer_of (item k)) ≡ (member is (item k).credited.member && (item j).currency is (item k).currency)
  cash_key_test member j k f g = cash_test member (item j).currency (item k).credited.member (item k).currency f g

  pub cash_column : (legs : List ℕ) → CashLegs b.waiting legs → Column b pays legs
  unfolding trades.brings trades.takes
  cash_column legs l = record {
    size = r.size;
    brings_as = λ j k h g.
        let test = cash_key_test (item j).debited.member j k (r.bookable j h).paid (r.bookable k g).pays in
        rw (l.to_as j h, l.from_as k g, l.number_as j h, test);
    takes_as = λ j k h g.
        let test = cash_key_test (item j).credited.member j k (r.bookable j h).pays (r.bookable k g).pays in
        rw (l.from_as j h, l.from_as k g, l.number_as j h, test);
    into_small = λ j k h g. if-below ((item j).debited.member is (item k).credited.member && (item j).currency is (item k).currency) _ (r.bookable j h).amount;
    out_small = λ j k h g.
        if-below ((item j).credited.member is (item k).credited.member && (item j).currency is (item k).currency) _ (r.bookable j h).amount;
    rich = λ k h. r.amounts _ _;
  }

  -- the figures before any leg is added, read through slots
  abbrev near : (legs slots : List ℕ) → Slots n legs slots → (k : ℕ) → k < n → (has_at slots k < n) × (from_at legs (has_at slots k) ≡ from_at legs k)
  near legs slots s k h = let e = s.has_as k h in rw e (slot_leg legs n (from_at legs k) (slot_own legs n r.size k h))

  share_viewed :
      (legs slots figures : List ℕ) → ShareLegs b.waiting legs → Slots n legs slots → ShareStart b figures → ShareStart b (viewed slots figures)
  share_viewed legs slots figures l s f = record {
    long = viewed-long slots figures;
    has_as = λ k h.
        let i = near legs slots s k h in
        let key : key_of (seller (item (has_at slots k))) ≡ key_of (seller (item k)) = sym (l.from_as (has_at slots k) i.0) ∙ i.1 ∙ l.from_as k h in
        let same = key_once (seller (item (has_at slots k))) (seller (item k)) (r.bookable (has_at slots k) i.0).sells (r.bookable k h).sells key in
        has-viewed slots figures k (omega (arith, r.size)) ∙ f.has_as (has_at slots k) i.0 ∙ ap b.holdings.balance same;
    owes_as = λ k h. owes_viewed slots figures k (omega (arith, r.size)) ∙ f.owes_as (has_at slots k) (near legs slots s k h).0;
  }

  cash_viewed : (legs slots figures : List ℕ) → CashLegs b.waiting legs → Slots n legs slots → CashStart b figures → CashStart b (viewed slots figures)
  cash_viewed legs slots figures l s f = record {
    long = viewed-long slots figures;
    has_as = λ k h.
        let i = near legs slots s k h in
        let key : payer_of (item (has_at slots k)) ≡ payer_of (item k) = sym (l.from_as (has_at slots k) i.0) ∙ i.1 ∙ l.from_as k h in
        let one = (r.bookable (has_at slots k) i.0).pays in
        let two = (r.bookable k h).pays in
        let m : (item (has_at slots k)).credited.member ≡ (item k).credited.member =
        omega (arith, key, one.currency_most, one.currency_least, two.currency_most, two.currency_least)
        in
        let c : (item (has_at slots k)).currency ≡ (item k).currency = omega (arith, key, m) in
        has-viewed slots figures k (omega (arith, r.size)) ∙ f.has_as (has_at slots k) i.0
        ∙ ap (λ (x : ℕ). b.holdings.cash x (item (has_at slots k)).currency) m ∙ ap (b.holdings.cash (item k).credited.member) c;
    owes_as = λ k h. owes_viewed slots figures k (omega (arith, r.size)) ∙ f.owes_as (has_at slots k) (near legs slots s k h).0;
  }

  -- the figures before any leg is added: all marked ones can be, and then the figures are those with them
  module _ (due : ℕ) (legs slots before : List ℕ) (s : Slots n legs slots) where
    pub share_room : ShareLegs b.waiting legs → ShareStart b before → RoomAll n (is_on due) legs (viewed slots before)
    share_room l f = room_all b delivers legs (share_column legs l) due (viewed slots before) (share_viewed legs slots before l s f)

    pub cash_room : CashLegs b.waiting legs → CashStart b before → RoomAll n (is_on due) legs (viewed slots before)
    cash_room l f = room_all b pays legs (cash_column legs l) due (viewed slots before) (cash_viewed legs slots before l s f)

    pub share_figures :
        ShareLegs b.waiting legs → ShareStart b before → (after : List ℕ) → WithMarked n (is_on due) legs slots before after
        → FiguresOf b due delivers (viewed slots after)
    share_figures l f after d =
        start_figures b delivers legs (share_column legs l) due (viewed slots before) (share_viewed legs slots before l s f) (viewed slots after) d

    pub cash_figures :
        CashLegs b.waiting legs → CashStart b before → (after : List ℕ) → WithMarked n (is_on due) legs slots before after
        → FiguresOf b due pays (viewed slots after)
    cash_figures l f after d =
        start_figures b pays legs (cash_column legs l) due (viewed slots before) (cash_viewed legs slots before l s f) (viewed slots after) d

  -- the same, as a struct keeps them
  module _ (due : ℕ) (l : Legs) (trades : l.trades ≡ n) where
    slotted : Slots n l.legs l.slots
    slotted = subst (λ (m : ℕ). Slots m l.legs l.slots) trades l.slotted

    pub share_room_in : ShareLegs b.waiting l.legs → ShareStart b l.figures → RoomAll l.trades (is_on due) l.legs (figures_in l)
    share_room_in f g = rw trades (share_room due l.legs l.slots l.figures slotted f g)

    pub cash_room_in : CashLegs b.waiting l.legs → CashStart b l.figures → RoomAll l.trades (is_on due) l.legs (figures_in l)
    cash_room_in f g = rw trades (cash_room due l.legs l.slots l.figures slotted f g)

    module _ (after : Legs) (s : SameLegs l after) (d : WithMarked l.trades (is_on due) l.legs l.slots l.figures after.figures) where
      added : WithMarked n (is_on due) l.legs l.slots l.figures after.figures
      added = subst (λ (m : ℕ). WithMarked m (is_on due) l.legs l.slots l.figures after.figures) trades d

      pub share_figures_in : ShareLegs b.waiting l.legs → ShareStart b l.figures → FiguresOf b due delivers (figures_in after)
      share_figures_in f g = rw s.slots (share_figures due l.legs l.slots l.figures slotted f g after.figures added)

      pub cash_figures_in : CashLegs b.waiting l.legs → CashStart b l.figures → FiguresOf b due pays (figures_in after)
      cash_figures_in f g = rw s.slots (cash_figures due l.legs l.slots l.figures slotted f g after.figures added)
