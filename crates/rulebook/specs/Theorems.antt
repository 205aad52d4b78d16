-- What is proved of these definitions, whole: a record whose fields are the theorems. `proofs/Theorems` has its one element.
use Rattle.std.specs.Prelude.{ℕ, ◌≤◌, false, List, [], ◌∷◌, ◌≡◌, length, take, Ok}
use Rattle.bits.specs.Bits.{Octets}
use Rattle.rulebook.specs.Ledger.{Holdings, Ledger, fresh}
use Rattle.rulebook.specs.Record.{read_of, written_of, area_written}
use Rattle.rulebook.specs.declared.Item.{Item}
use Rattle.rulebook.specs.Shortfall.{NothingShort, any_short}
use Rattle.rulebook.specs.Selection.{Entry, selection_in, full_selection, entries, selection}
use Rattle.rulebook.specs.Selected.{NoneLeft, Selected, NothingFits, EnoughTurns, PassesEnd}
use Rattle.rulebook.specs.Refusals.{no_space}
use Rattle.rulebook.specs.Checks.{CheckingOrder}
use Rattle.rulebook.specs.Calls.{Call, result_of, Demand3}
use Rattle.rulebook.specs.Premise.{Premise}
use Rattle.rulebook.specs.AdmittedTypes.{AdmittedTypes}
use Rattle.rulebook.specs.Rates.{RateOfCalls, Tolerances, RateAlone, RateRefusals}
use Rattle.rulebook.specs.Rematerialization.{AwaitedOfCalls, EndingCovered, RequestStays, RequestEnds, RequestRefusals, EndingRefusals}
use Rattle.rulebook.specs.Custody.{HeldByForm, HeldOfCalls}
use Rattle.rulebook.specs.SentCycles.{AnswerRefusals, LeftUnfit, FixedStays, ConfirmedAsSent, DeclinedAsUnsent, OfferExact, DayFinishes}
use Rattle.rulebook.specs.Desk.{Desk}
use Rattle.rulebook.specs.declared.Order.{Order}

pub record Theorems : Type 0 where
  -- RULES 2.11: the reader gives back what the writer wrote, and from what was read the writer makes the same bytes
  pub write_read : (o : Order) (area : List ℕ) → written_of o area ≡ Ok tt → read_of (take 40 (area_written o area)) ≡ Ok o
  pub read_write :
      (octets : List ℕ) (o : Order) (area : List ℕ) → Octets octets → read_of octets ≡ Ok o → 40 ≤ length area
      → (written_of o area ≡ Ok tt) × (take 40 (area_written o area) ≡ octets)
  -- RULES A.1, of every such order
  pub first_bytes :
      (o : Order) (area : List ℕ) → o.form ≡ 3 → o.minute ≡ 540 → written_of o area ≡ Ok tt → take 2 (area_written o area) ≡ 0x1A ∷ 0x1C ∷ []
  -- RULES 7.0: a call answers with the first of its checks that applies
  pub checking_order : CheckingOrder
  -- RULES 9.4: the test on the trades finds whatever is short
  pub short_found : (h : Holdings) (trades : List Item) → any_short h trades ≡ false → NothingShort h trades
  pub none_found : (h : Holdings) (trades : List Item) → NothingShort h trades → any_short h trades ≡ false
  -- RULES 9.7, 12.32: nothing is short with what a cycle fixes, and each due trade is fixed or left, with what it lacked
  pub selected : (book : Ledger) → Selected book.holdings (entries book) (selection book)
  -- RULES 12.33: what a cycle leaves would not fit, in the book at sending
  pub left_unfit : LeftUnfit
  -- RULES 12.34: its passes end, after at most as many as there are dropped
  pub passes_end : (book : Ledger) → PassesEnd book
  -- the same of any holdings and entries: with any number of passes; once they end, what is left does not fit beside what is in; how many are enough
  pub selected_in : (most : ℕ) (h : Holdings) (es : List Entry) → NoneLeft es → Selected h es (selection_in most h es)
  pub nothing_fits : (h : Holdings) (es : List Entry) → NothingFits h (full_selection h es)
  pub enough_turns : (h : Holdings) (es : List Entry) → EnoughTurns h es
  -- RULES 3.10: a cycle always has room
  pub cycle_has_room : (book : Ledger) (o : Order) → o.form ≡ 16 → Premise book → no_space book o ≡ false
  -- and so does its answer
  pub answer_has_room : (book : Ledger) (o : Order) → o.form ≡ 21 → Premise book → no_space book o ≡ false
  -- RULES 12.15 to 12.17: the fresh book meets the premise, and every call keeps it, so a caller never has to show it
  pub fresh_meets : Premise fresh
  pub calls_keep : (book : Ledger) (c : Call) → Premise book → Premise (result_of book c).book
  -- RULES 12.6 to 12.12: the one claim about every list of calls
  pub balanced : Demand3
  -- RULES 5.5: the types and pairs that each form allows
  pub admitted_types : AdmittedTypes
  -- RULES 12.18: the rate is that of the last form 18
  pub rate_of_calls : RateOfCalls
  -- RULES 8.4, 8.9: a difference of 2,000 in USD, and of just 20 times the rate in LBP, pairs, and one more does not, whatever the rate
  pub tolerances : Tolerances
  -- RULES 6.18: form 18 changes nothing but the rate and the minute, and meets refusals 6, 8 and 9 alone
  pub rate_alone : RateAlone
  pub rate_refusals : RateRefusals
  -- RULES 12.20, 12.21: type 50 has what the open requests ask for, so an ending never lacks balance
  pub awaited_of_calls : AwaitedOfCalls
  pub ending_covered : EndingCovered
  -- RULES 12.22, 12.23: a request stays until it is ended, and can be ended on every later day
  pub request_stays : RequestStays
  pub request_ends : RequestEnds
  -- RULES 6.19, 6.20: what the two forms meet
  pub request_refusals : RequestRefusals
  pub ending_refusals : EndingRefusals
  -- RULES 12.24 to 12.26: what each form does to held counts, and that they are what the accounts hold
  pub held_by_form : HeldByForm
  pub held_of_calls : HeldOfCalls
  -- RULES 6.21: what an answer to a cycle meets
  pub answer_refusals : AnswerRefusals
  -- RULES 12.27: what a cycle has fixed stays until it is answered
  pub fixed_stays : FixedStays
  -- RULES 12.28: a confirmation books and writes what the cycle selected when it was sent
  pub confirmed_as_sent : ConfirmedAsSent
  -- RULES 12.29: a declined cycle leaves everything as if it had not been sent, but that it has run
  pub declined_as_unsent : DeclinedAsUnsent
  -- RULES 12.30: what an account offers is the most that can leave it
  pub offer_exact : OfferExact
  -- RULES 12.31: a day can always be finished
  pub day_finishes : DayFinishes
  -- RULES, appendix A
  pub desk : Desk
