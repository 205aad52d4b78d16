-- A choice of the due trades by a mask over the waiting list: which masks are good, and what is left by one.
use Rattle.std.specs.Prelude.{if◌then◌else◌, ℕ, zero, suc, ◌+◌, ◌/◌, ◌%◌, ◌^◌, Bool, true, false, not, ◌&&◌, List, [], ◌∷◌, ◌++◌, map, ◌≡◌}
use Rattle.plain.specs.Lists.{◌is◌, some, total, Each}
use Rattle.rulebook.specs.declared.Item.{Item}
use Rattle.rulebook.specs.Ledger.{Holdings}
use Rattle.rulebook.specs.Shortfall.{Shortfall, NothingShort, shortfall, any_short}
use Rattle.rulebook.specs.Selection.{Entry, left, trades_of, with_standing, is_taken, is_left, trades_in, trades_left, same_trade, is_sent}
use Rattle.rulebook.specs.Selected.{WhereLeft, Spot, spot}

-- the last n bits of a number, the most significant first
unfoldable pub mask_bits : (n mask : ℕ) → List Bool
mask_bits zero mask = []
mask_bits (suc n) mask = (mask / 2 ^ n % 2 is 1) ∷ mask_bits n mask

-- a due one whose bit is not set is left
unfoldable pub chosen_by : Bool → Entry → Entry
chosen_by bit e = if is_taken e.standing && not bit then with_standing (left []) e else e

-- place by place; behind the last bit none is set
unfoldable pub masked : List Bool → List Entry → List Entry
masked bits [] = []
masked [] (e ∷ rest) = chosen_by false e ∷ masked [] rest
masked (b ∷ bits) (e ∷ rest) = chosen_by b e ∷ masked bits rest

-- which places of the list are sent
unfoldable pub places_sent : List Entry → List Bool
places_sent es = map (is_sent es) es

-- the same bits are set, and none behind the list
unfoldable pub same_bits : List Bool → List Bool → Bool
same_bits [] [] = true
same_bits [] (p ∷ places) = not p && same_bits [] places
same_bits (b ∷ bits) [] = not b && same_bits bits []
same_bits (b ∷ bits) (p ∷ places) = (if b then p else not p) && same_bits bits places

-- a mask is good where just the places that it sends are set in it, and nothing is short with their trades
unfoldable pub good_mask : Holdings → List Bool → List Entry → Bool
good_mask h bits es = same_bits bits (places_sent (masked bits es)) && not (any_short h (trades_in (masked bits es)))

-- one that is left: what its trades would lack beside those that are in
unfoldable pub lacking_alone : Holdings → (now : List Item) → Entry → Entry
lacking_alone h now e = if is_left e.standing then with_standing (left (map (shortfall h (now ++ trades_of e)) (trades_of e))) e else e

unfoldable pub optimised : Holdings → List Bool → List Entry → List Entry
optimised h bits es = map (lacking_alone h (trades_in (masked bits es))) (masked bits es)

-- ---- what is claimed of a good mask

abbrev pub AddedAlone : Holdings → (now trades : List Item) → List Shortfall → Type 0
AddedAlone h now trades lacked = lacked ≡ map (shortfall h (now ++ trades)) trades

pub record Optimised (h : Holdings) (before after : List Entry) : Type 0 where
  pub covered : NothingShort h (trades_in after)
  pub lacked : WhereLeft (AddedAlone h (trades_in after)) after
  pub same : map spot after ≡ map spot before
  pub parts : (figure : Item → ℕ) → total figure (trades_in after) + total (λ l. figure l.trade) (trades_left after) ≡ total figure (trades_in before)

-- no due one goes with another
abbrev pub ApartFrom : (all spots : List Spot) → Type 0
ApartFrom all spots = Each (λ s. s.is_due ≡ true → some (λ o. some (same_trade s.item) o.others) all ≡ false) spots

abbrev pub Apart : List Spot → Type 0
Apart spots = ApartFrom spots spots

-- so it is where no item that is in by itself has the reference of one that goes with another
abbrev pub NoOriginal : (is_original : (operation item : Item) → Bool) → List Item → Item → Type 0
NoOriginal is_original waiting i = Each (λ o. Each (λ j. is_original o j ≡ true → same_trade i j ≡ false) waiting) waiting

abbrev pub Suspends : (is_in : Item → Bool) (is_original : (operation item : Item) → Bool) → List Item → Type 0
Suspends is_in is_original waiting = Each (λ i. is_in i ≡ true → NoOriginal is_original waiting i) waiting

-- every choice of due ones with which nothing is short has a good mask, which sends it
pub record GoodMask (h : Holdings) (es choice : List Entry) : Type 0 where
  pub good : good_mask h (places_sent choice) es ≡ true
  pub sends : trades_in (optimised h (places_sent choice) es) ≡ trades_in choice
