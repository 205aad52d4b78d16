-- What a confirmation books and writes is what the cycle selected when it was sent, whatever calls came in between. Assumes nothing.
use mathlib.Core.Path.{◌≡◌, refl, ap, ◌∙◌}
use mathlib.Core.Bool.{true}
use mathlib.Core.List.{List, [], ◌∷◌, map}
use Rattle.plain.proofs.Lists.{total-map}
use Rattle.rulebook.specs.Ledger.{Ledger, put_day, put_holdings, put_waiting}
use Rattle.rulebook.specs.Movements.{Movement, booked}
use Rattle.rulebook.specs.Rows.{posting_rows}
use Rattle.rulebook.specs.Waiting.{sides_of, sides, with_sent}
use Rattle.rulebook.specs.Shortfall.{seller, buyer}
use Rattle.rulebook.specs.Selection.{trades_in, selection}
use Rattle.rulebook.specs.Cycle.{legs, fixed, settled}
use Rattle.rulebook.specs.Forms.{outcome, counts, cycle, confirm, forms, row_of, effect}
use Rattle.rulebook.specs.Call.{put_minute}
use Rattle.rulebook.specs.Calls.{book_after}
use Rattle.rulebook.specs.SentCycles.{AsSent, ConfirmedAsSent}
use Rattle.rulebook.specs.declared.Item.{Item}
use Rattle.rulebook.specs.declared.Order.{Order}
use Rattle.rulebook.proofs.ByCall.{effect-at}
use Rattle.rulebook.proofs.EveryCall.{order-premise}
use Rattle.rulebook.proofs.Selection.Fixing.{selection-alone, fixing-fixed}
use Rattle.rulebook.proofs.SentCycles.Staying.{calls-keep}

-- neither legs nor sides ask whether a trade is fixed

sent-legs : (ts : List Item) → legs (map (with_sent true) ts) ≡ legs ts
unfolding legs seller buyer with_sent
sent-legs [] = refl
sent-legs (t ∷ rest) = rw (sent-legs rest)

sent-sides : (ts : List Item) → sides (map (with_sent true) ts) ≡ sides ts
unfolding sides
sent-sides ts = total-map (λ item. sides_of item.state) (λ item. sides_of item.state) (with_sent true) (λ i. unfold with_sent in refl) ts

-- the book that sending leaves has the cycle sent, and what was selected is fixed in it
module _ (b : Ledger) (o : Order) (e : o.form ≡ 16) where
  is_sent_lem : (put_minute o.minute (effect b o).after).day.sent ≡ true
  unfolding put_minute put_day put_waiting forms row_of cycle outcome
  is_sent_lem = rw (effect-at 16 b o e)

  selected : fixed (put_minute o.minute (effect b o).after).waiting ≡ map (with_sent true) (trades_in (selection b))
  unfolding put_minute put_day put_waiting forms row_of cycle outcome
  selected = rw (effect-at 16 b o e) (fixing-fixed (selection b) (selection-alone b))

-- what confirms a book whose fixed trades are those
confirms : (b later : Ledger) → settled later ≡ map (with_sent true) (trades_in (selection b)) → AsSent b later
unfolding confirm outcome counts put_day put_holdings put_waiting
confirms b later e =
    let chosen = trades_in (selection b) in
    let l : legs (settled later) ≡ legs chosen = ap legs e ∙ sent-legs chosen in
    record {
      rows = ap posting_rows l;
      holdings = ap (λ (ms : List Movement). booked ms later.holdings) l;
      sides = ap sides e ∙ sent-sides chosen;
    }

pub confirmed_as_sent_lem : ConfirmedAsSent
unfolding ConfirmedAsSent settled
confirmed_as_sent_lem b o bytes calls p r e z w =
    let after = put_minute o.minute (effect b o).after in
    let k = calls-keep after calls (order-premise b o bytes p r z) (is_sent_lem b o e) w in
    confirms b (book_after after calls) (k.1 ∙ selected b o e)
