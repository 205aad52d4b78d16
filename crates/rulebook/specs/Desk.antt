-- The desk checks (RULES, appendix A): from records to answers, books and rows, on books made by calls from the fresh one. They are proved
-- together, by computation.
use Rattle.std.specs.Prelude.{ℕ, zero, suc, ◌≡◌, true, false, List, [], ◌∷◌, ◌++◌, map, take, drop, replicate, Ok, Err}
use Rattle.rulebook.specs.Ledger.{Ledger, fresh, outside_of, held_of}
use Rattle.rulebook.specs.Record.{record_of}
use Rattle.rulebook.specs.Forms.{counts}
use Rattle.rulebook.specs.Call.{Result, answer_number}
use Rattle.rulebook.specs.Calls.{result_of, calls_on, book_after, Call, call, withdrawals}
use Rattle.rulebook.specs.declared.Order.{Order}
use Rattle.rulebook.specs.Answers.{Answer}
use Rattle.rulebook.specs.declared.Refusal.{Refusal}
use Rattle.rulebook.specs.declared.Party.{Party}
use Rattle.rulebook.specs.declared.State.{State}
use Rattle.rulebook.specs.declared.State.TheVariants.{Single, Pair}

unfoldable pub party : (member typ shareholder : ℕ) → Party
party member typ shareholder = record { member = member; typ = typ; shareholder = shareholder }

unfoldable pub nobody : Party
nobody = party 0 0 0

unfoldable pub order : (form minute security currency : ℕ) → Party → Party → (quantity amount trade_day settlement_day reference : ℕ) → Order
order form minute security currency debited credited quantity amount trade_day settlement_day reference = record {
  form = form;
  minute = minute;
  security = security;
  currency = currency;
  debited = debited;
  credited = credited;
  quantity = record { 0 = quantity };
  amount = record { 0 = amount };
  trade_day = trade_day;
  settlement_day = settlement_day;
  reference = reference;
  operation = 0;
  original = 0;
  edition = 0;
}

-- orders of day 1 in security 101 and in USD; accounts of type 20 and shareholder 5

unfoldable pub opens : (minute kind : ℕ) → Order
opens minute kind = order 1 minute 0 0 nobody nobody kind 0 0 0 0

unfoldable pub admits : (minute quantity : ℕ) → Order
admits minute quantity = order 2 minute 101 0 nobody nobody quantity 0 0 0 0

unfoldable pub deposits : (minute member quantity : ℕ) → Order
deposits minute member quantity = order 3 minute 101 0 nobody (party member 20 5) quantity 0 0 0 0

unfoldable pub withdraws : (minute member quantity : ℕ) → Order
withdraws minute member quantity = order 4 minute 101 0 (party member 20 5) nobody quantity 0 0 0 0

unfoldable pub pledges : (minute member from to quantity : ℕ) → Order
pledges minute member from to quantity = order 6 minute 101 0 (party member from 5) (party member to 5) quantity 0 0 1 0

unfoldable pub pays_in : (minute member amount : ℕ) → Order
pays_in minute member amount = order 10 minute 0 1 nobody (party member 0 0) 0 amount 0 0 0

unfoldable pub delivers : (minute seller buyer quantity amount reference : ℕ) → Order
delivers minute seller buyer quantity amount reference = order 12 minute 101 1 (party seller 20 5) (party buyer 0 5) quantity amount 1 1 reference

unfoldable pub receives : (minute seller buyer quantity amount reference : ℕ) → Order
receives minute seller buyer quantity amount reference = order 13 minute 101 1 (party seller 0 5) (party buyer 20 5) quantity amount 1 1 reference

-- in LBP: 7 sells 10 to 8
unfoldable pub delivers_pounds : (minute amount reference : ℕ) → Order
delivers_pounds minute amount reference = order 12 minute 101 2 (party 7 20 5) (party 8 0 5) 10 amount 1 1 reference

unfoldable pub receives_pounds : (minute amount reference : ℕ) → Order
receives_pounds minute amount reference = order 13 minute 101 2 (party 7 0 5) (party 8 20 5) 10 amount 1 1 reference

unfoldable pub sets_rate : (minute rate : ℕ) → Order
sets_rate minute rate = order 18 minute 0 0 nobody nobody rate 0 0 0 0

unfoldable pub runs : ℕ → Order
runs minute = order 16 minute 0 0 nobody nobody 0 0 0 0 0

unfoldable pub closes : ℕ → Order
closes minute = order 17 minute 0 0 nobody nobody 0 0 0 0 0

-- the cycle that is sent is confirmed (1), or declined (2)
unfoldable pub answers : (minute quantity : ℕ) → Order
answers minute quantity = order 21 minute 0 0 nobody nobody quantity 0 0 0 0

unfoldable pub cancels : (minute sender reference : ℕ) → Order
cancels minute sender reference = order 15 minute 0 0 (party sender 0 0) nobody 0 0 0 0 reference

-- a cycle that is sent and confirmed, and the end of a day, with all its cycles
unfoldable pub cycles : (minute : ℕ) → List Order
cycles minute = runs minute ∷ answers minute 1 ∷ []

unfoldable pub day_end : List Order
day_end = cycles 960 ++ (cycles 960 ++ (cycles 960 ++ (closes 960 ∷ [])))

-- 7 asks for paper, and ends the request into a type
unfoldable pub asks_paper : (minute quantity reference : ℕ) → Order
asks_paper minute quantity reference = order 19 minute 101 0 (party 7 20 5) nobody quantity 0 0 0 reference

unfoldable pub ends_paper : (minute credited reference : ℕ) → Order
ends_paper minute credited reference = order 20 minute 0 0 (party 7 0 0) (party 0 credited 0) 0 0 0 0 reference

-- a deliver and a receive that pair
unfoldable pub sells : (seller buyer quantity amount reference : ℕ) → List Order
sells seller buyer quantity amount reference =
    delivers 560 seller buyer quantity amount reference ∷ receives 560 seller buyer quantity amount (suc reference) ∷ []

-- delivers with the references from n down to 1
unfoldable pub many_delivers : ℕ → List Order
many_delivers zero = []
many_delivers (suc n) = delivers 500 7 8 100 100_000 (suc n) ∷ many_delivers n

-- the call of an order: its record, and an area of 4,096 bytes
unfoldable pub send : Order → Call
send o = call (record_of o) (replicate 4_096 0)

unfoldable pub calls : Ledger → List Order → Ledger
calls book orders = book_after book (map send orders)

unfoldable pub result : Ledger → Order → Result
result book o = result_of book (send o)

-- a book on day 1, of kind 1, with 1,000 shares of security 101
unfoldable pub started : Ledger
started = calls fresh (opens 470 1 ∷ admits 500 1_000 ∷ [])

-- the same with 64 items waiting
unfoldable pub full : Ledger
full = calls started (many_delivers 64)

-- 7 has 300 shares and has asked for paper of 100 more; the same on the next day
unfoldable pub asked : Ledger
asked = calls started (deposits 510 7 400 ∷ asks_paper 520 100 9 ∷ [])

unfoldable pub next_day : Ledger
next_day = calls asked (day_end ++ (opens 470 1 ∷ []))

-- 7 deposits 400, pledges 50 of them and asks for paper of 100; then it withdraws 30; then the day ends, and the next opens
unfoldable pub in_custody : Ledger
in_custody = calls started (deposits 510 7 400 ∷ pledges 511 7 20 21 50 ∷ asks_paper 512 100 1 ∷ [])

unfoldable pub withdrawn : Ledger
withdrawn = calls in_custody (withdraws 513 7 30 ∷ [])

unfoldable pub day_after : Ledger
day_after = calls withdrawn (day_end ++ (opens 470 1 ∷ []))

-- the held and the outside count
unfoldable pub custody : Ledger → ℕ × ℕ
custody book = (held_of 101 book.holdings, outside_of 101 book.holdings)

-- the states and the amounts of what waits
unfoldable pub waits : Ledger → List (State × ℕ)
waits book = map (λ item. (item.state, item.amount.0)) book.waiting

-- after some orders a cycle is sent, and confirmed: both answers, and the quantities of what waits after the second
unfoldable pub cycled : List Order → Answer × Answer × List ℕ
cycled orders =
    let sent : Result = result (calls started orders) (runs 585) in
    let confirmed : Result = result sent.book (answers 590 1) in
    (sent.answer, confirmed.answer, map (λ item. item.quantity.0) confirmed.book.waiting)

-- 8 sells 30 to 9; 7, who has 100 shares, sells 60 to 10, 50 to 11 and 30 to 8; then come others
unfoldable pub four_sold : List Order → List Order
four_sold others =
    deposits 540 7 100 ∷ pays_in 550 8 10 ∷ pays_in 550 9 10 ∷ pays_in 550 10 10 ∷ pays_in 550 11 10
    ∷ sells 8 9 30 10 1 ++ (sells 7 10 60 10 3 ++ (sells 7 11 50 10 5 ++ (sells 7 8 30 10 7 ++ others)))

-- 7 has 105 shares and has sold 100 to 8, who has 10 and has sold 100 to 9; the cycle with both trades is sent
unfoldable pub awaiting : Ledger
awaiting =
    calls started
    (deposits 540 7 105 ∷ deposits 540 8 10 ∷ pays_in 550 9 50 ∷ sells 7 8 100 50 1 ++ (sells 8 9 100 50 3 ++ (runs 585 ∷ [])))

-- the answer to an order there, as a number
unfoldable pub meanwhile : Order → ℕ
meanwhile order = answer_number (result awaiting order).answer

pub record Desk : Type 0 where
  -- A.1
  pub p1 : take 2 (record_of (deposits 540 7 400)) ≡ 0x1A ∷ 0x1C ∷ []
  -- A.2
  pub p2 :
      take 16 (drop 16 (result started (deposits 540 7 400)).area)
      ≡ 0x80 ∷ 0x65 ∷ 0x01 ∷ 0xC5 ∷ 0x00 ∷ 0x00 ∷ 0x00 ∷ 0x05 ∷ 0x00 ∷ 0x00 ∷ 0x00 ∷ 0x00 ∷ 0x00 ∷ 0x00 ∷ 0x01 ∷ 0x90 ∷ []
  -- A.3: at the tolerance
  pub p3 : waits (calls started (delivers 500 7 8 100 100_000 31 ∷ receives 501 7 8 100 102_000 32 ∷ [])) ≡ (Pair 31 32 false false, 102_000) ∷ []
  -- A.4: one above it
  pub p4 :
      waits (calls started (delivers 500 7 8 100 100_000 31 ∷ receives 501 7 8 100 102_001 32 ∷ []))
      ≡ (Single true 31, 100_000) ∷ (Single false 32, 102_001) ∷ []
  -- A.5: the receive offers less than is asked
  pub p5 :
      waits (calls started (delivers 500 7 8 100 100_000 31 ∷ receives 501 7 8 100 99_999 32 ∷ []))
      ≡ (Single true 31, 100_000) ∷ (Single false 32, 99_999) ∷ []
  -- A.6, A.7: the last minute of the short window, and the one behind it
  pub p6 : (result started (delivers 825 7 8 100 100_000 31)).answer ≡ Ok (counts 0 0 0 0 0 0)
  pub p7 : (result started (delivers 826 7 8 100 100_000 31)).answer ≡ Err Refusal.OutsideWindow
  -- A.8, A.9: a full list, with a match and without
  pub p8 : (result full (receives 501 7 8 100 102_000 1)).answer ≡ Ok (counts 0 0 0 0 0 0)
  pub p9 : (result full (receives 501 7 8 100 102_001 1)).answer ≡ Err Refusal.NoSpace
  -- A.10: the last trades are dropped first, and what fits is put back
  pub p10 :
      cycled (deposits 540 7 100 ∷ pays_in 550 8 1_000 ∷ sells 7 8 60 100 1 ++ sells 7 8 50 100 3 ++ sells 7 8 30 100 5)
      ≡ (Ok (counts 0 0 0 0 0 1), Ok (counts 8 4 0 0 0 0), 50 ∷ [])
  -- A.11: positions are net
  pub p11 :
      cycled (deposits 540 7 100 ∷ pays_in 550 9 50 ∷ sells 7 8 100 50 1 ++ sells 8 9 100 50 3)
      ≡ (Ok (counts 0 0 0 0 0 0), Ok (counts 8 4 0 0 0 0), [])
  -- A.12: and without cash neither settles
  pub p12 :
      cycled (deposits 540 7 100 ∷ sells 7 8 100 50 1 ++ sells 8 9 100 50 3)
      ≡ (Ok (counts 0 0 0 0 0 2), Ok (counts 0 0 0 0 0 0), 100 ∷ 100 ∷ [])
  -- A.13: there is no such pair
  pub p13 : (result started (pledges 540 7 110 121 10)).answer ≡ Err Refusal.WrongTypes
  -- A.14: before any rate was set an LBP difference of 3,015,000 pairs
  pub p14 : waits (calls started (delivers_pounds 500 100_000 1 ∷ receives_pounds 501 3_115_000 2 ∷ [])) ≡ (Pair 1 2 false false, 3_115_000) ∷ []
  -- A.15: at 150,749 it does not, and a rate that comes later pairs neither
  pub p15 :
      waits (calls started (delivers_pounds 500 100_000 1 ∷ sets_rate 501 150_749 ∷ receives_pounds 502 3_115_000 2 ∷ sets_rate 503 150_750 ∷ []))
      ≡ (Single true 1, 100_000) ∷ (Single false 2, 3_115_000) ∷ []
  -- A.16: the rows of a request, from type 20 to type 50
  pub p16 :
      take 32 (result (calls started (deposits 510 7 400 ∷ [])) (asks_paper 520 100 9)).area
      ≡ 0x00 ∷ 0x65 ∷ 0x01 ∷ 0xC5 ∷ 0x00 ∷ 0x00 ∷ 0x00 ∷ 0x05 ∷ 0x00 ∷ 0x00 ∷ 0x00 ∷ 0x00 ∷ 0x00 ∷ 0x00 ∷ 0x00 ∷ 0x64
      ∷ 0x80 ∷ 0x65 ∷ 0x01 ∷ 0xCC ∷ 0x80 ∷ 0x00 ∷ 0x00 ∷ 0x05 ∷ 0x00 ∷ 0x00 ∷ 0x00 ∷ 0x00 ∷ 0x00 ∷ 0x00 ∷ 0x00 ∷ 0x64 ∷ []
  -- A.17: it does not end on its own day, nor in the paper of another type
  pub p17 :
      ((result asked (ends_paper 521 120 9)).answer ≡ Err Refusal.EndsTooSoon) × ((result next_day (ends_paper 510 110 9)).answer ≡ Err Refusal.WrongRequest)
  -- A.18: on the next day it does, and to 91 the credit row has neither member nor shareholder
  pub p18 :
      take 32 (result next_day (ends_paper 510 91 9)).area
      ≡ 0x00 ∷ 0x65 ∷ 0x01 ∷ 0xCC ∷ 0x80 ∷ 0x00 ∷ 0x00 ∷ 0x05 ∷ 0x00 ∷ 0x00 ∷ 0x00 ∷ 0x00 ∷ 0x00 ∷ 0x00 ∷ 0x00 ∷ 0x64
      ∷ 0x80 ∷ 0x65 ∷ 0x00 ∷ 0x16 ∷ 0xC0 ∷ 0x00 ∷ 0x00 ∷ 0x00 ∷ 0x00 ∷ 0x00 ∷ 0x00 ∷ 0x00 ∷ 0x00 ∷ 0x00 ∷ 0x00 ∷ 0x64 ∷ []
  -- A.19: then 300 are held, 100 withdrawn on paper
  pub p19 :
      withdrawals 101 (calls_on fresh (map send (opens 470 1 ∷ admits 500 1_000 ∷ deposits 510 7 400 ∷ asks_paper 520 100 9
      ∷ (day_end ++ (opens 470 1 ∷ ends_paper 510 91 9 ∷ [])))))
      ≡ 100
  -- A.20: a deposit is held, a pledge and a request leave it so, a withdrawal does not
  pub p20 : (custody started ≡ (0, 1_000)) × (custody in_custody ≡ (400, 600)) × (custody withdrawn ≡ (370, 630))
  -- A.21: and what ends outside is not held any more
  pub p21 : custody (calls day_after (ends_paper 510 91 1 ∷ [])) ≡ (270, 730)
  -- A.22: while a cycle is sent no cash moves (22), 7 offers 5 of its 105, 8 all of its 10, and no sent trade can be cancelled (24)
  pub p22 :
      map meanwhile (
      pays_in 586 9 1 ∷ withdraws 586 7 6 ∷ withdraws 586 7 5 ∷ withdraws 586 8 11 ∷ withdraws 586 8 10 ∷ cancels 586 7 1
      ∷ runs 705 ∷ closes 960 ∷ answers 586 2 ∷ [])
      ≡ 22 ∷ 16 ∷ 0 ∷ 16 ∷ 0 ∷ 24 ∷ 22 ∷ 7 ∷ 0 ∷ []
  -- A.23: declined, all is as before, and there is nothing to answer any more
  pub p23 :
      (map (λ item. item.quantity.0) (calls awaiting (answers 586 2 ∷ [])).waiting ≡ 100 ∷ 100 ∷ [])
      × ((result (calls awaiting (answers 586 2 ∷ [])) (answers 586 1)).answer ≡ Err Refusal.NothingSent)
  -- A.24: what is put back lets another trade fit, which the next pass puts back
  pub p24 : cycled (four_sold []) ≡ (Ok (counts 0 0 0 0 0 1), Ok (counts 12 6 0 0 0 0), 50 ∷ [])
  -- A.25: it is not the largest set: of 60, 50 and 50 the first is sent, though without it both others would be
  pub p25 :
      (cycled (deposits 540 7 100 ∷ pays_in 550 8 1_000 ∷ sells 7 8 60 100 1 ++ sells 7 8 50 100 3 ++ sells 7 8 50 100 5)
      ≡ (Ok (counts 0 0 0 0 0 2), Ok (counts 4 2 0 0 0 0), 50 ∷ 50 ∷ []))
      × (cycled (deposits 540 7 100 ∷ pays_in 550 8 1_000 ∷ sells 7 8 50 100 3 ++ sells 7 8 50 100 5)
      ≡ (Ok (counts 0 0 0 0 0 0), Ok (counts 8 4 0 0 0 0), []))
  -- A.26: A.24 with one more that the first pass puts back, so that the second has nothing for the first trade
  pub p26 :
      cycled (four_sold (pays_in 560 12 10 ∷ sells 8 12 30 10 9))
      ≡ (Ok (counts 0 0 0 0 0 2), Ok (counts 12 6 0 0 0 0), 30 ∷ 50 ∷ [])
