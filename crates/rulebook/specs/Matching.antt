-- Matching of deliver and receive instructions (RULES 8).
use Rattle.std.specs.Prelude.{if◌then◌else◌, ℕ, ◌-◌, ◌*◌, Bool, false, ◌||◌, ◌&&◌, List, [], ◌∷◌, ◌++◌}
use Rattle.plain.specs.Lists.{◌is◌, ◌at_most◌}
use Rattle.rulebook.specs.declared.Item.{Item}
use Rattle.rulebook.specs.declared.State.TheVariants.{Pair}
use Rattle.rulebook.specs.AccountTypes.{alike}
use Rattle.rulebook.specs.Waiting.{is_deliver, is_receive, own_reference}

-- RULES 8.4: twenty dollars in hundredths of the currency; in LBP by the rate, which is hundredths of LBP for one USD
unfoldable pub tolerance : (rate currency : ℕ) → ℕ
tolerance rate currency = if currency is 1 then 2_000 else 20 * rate

-- RULES 8.3: what a deliver and a receive must have in common, but for their types
unfoldable pub shared_terms : Item → Item → Bool
shared_terms deliver receive =
    deliver.security is receive.security
    && deliver.debited.shareholder is receive.credited.shareholder
    && deliver.trade_day is receive.trade_day
    && deliver.settlement_day is receive.settlement_day
    && deliver.quantity.0 is receive.quantity.0
    && deliver.currency is receive.currency
    && deliver.debited.member is receive.debited.member
    && deliver.credited.member is receive.credited.member

-- RULES 8.3: and with their types
unfoldable pub same_terms : Item → Item → Bool
same_terms deliver receive = shared_terms deliver receive && alike deliver.debited.typ receive.credited.typ

-- RULES 8.3, 8.4: and how far their amounts may differ
unfoldable pub agree : ℕ → Item → Item → Bool
agree limit deliver receive =
    same_terms deliver receive
    && deliver.amount.0 at_most receive.amount.0
    && receive.amount.0 - deliver.amount.0 at_most limit

-- RULES 8.2: one of the two delivers, the other receives
unfoldable pub pairs_with : ℕ → Item → Item → Bool
pairs_with limit arriving waits =
    (is_deliver waits.state && is_receive arriving.state && agree limit waits arriving)
    || (is_receive waits.state && is_deliver arriving.state && agree limit arriving waits)

-- RULES 8.6
unfoldable pub pair_of : Item → Item → Item
pair_of deliver receive = record {
  security = deliver.security;
  currency = deliver.currency;
  debited = deliver.debited;
  credited = receive.credited;
  quantity = deliver.quantity;
  amount = receive.amount;
  trade_day = deliver.trade_day;
  settlement_day = deliver.settlement_day;
  state = Pair (own_reference deliver.state) (own_reference receive.state) false false;
  sent = false;
}

-- RULES 8.2, 8.7, 8.8: the first that agrees leaves its place, and the pair goes last; where none does, the single goes last
unfoldable pub arrive : ℕ → Item → List Item → List Item
arrive limit arriving [] = arriving ∷ []
arrive limit arriving (waits ∷ rest) =
    let later = waits ∷ arrive limit arriving rest in
    if pairs_with limit arriving waits then rest ++ (pair ∷ []) else later
  where
    pair : Item
    pair = if is_deliver waits.state then pair_of waits arriving else pair_of arriving waits
