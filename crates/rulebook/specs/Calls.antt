-- Lists of calls, and what holds after every such list (RULES 12).
use Rattle.std.specs.Prelude.{if◌then◌else◌, ℕ, zero, suc, ◌+◌, Bool, false, not, ◌&&◌, List, [], ◌∷◌, ◌++◌, ◌≡◌, take, drop, T, Ok, Err}
use Rattle.plain.specs.Lists.{◌is◌, ◌is_not◌, ◌one_of◌, total}
use Rattle.rulebook.specs.AccountTypes.{pledged_or_blocked, is_outside}
use Rattle.rulebook.specs.Record.{read_of}
use Rattle.rulebook.specs.Ledger.{Ledger, fresh, account_of, same_account, issued_of, outside_of, cash_total, held}
use Rattle.rulebook.specs.declared.Account.{Account}
use Rattle.rulebook.specs.Movements.{Place, account, type91, type90, cash_of, member0, book_has}
use Rattle.rulebook.specs.Rows.{posting_in}
use Rattle.rulebook.specs.declared.Posting.{Posting}
use Rattle.rulebook.specs.Waiting.{sides}
use Rattle.rulebook.specs.Forms.{writes, takes_in}
use Rattle.rulebook.specs.Call.{Result, call_of}
use Rattle.rulebook.specs.declared.Order.{Order}
use Rattle.rulebook.specs.Answers.{Read, Answer}
use Rattle.rulebook.specs.declared.Counts.{Counts}

pub data Call : Type 0 where
  -- RULES 1.3: a record and an area, of any bytes and length
  call : (bytes area : List ℕ) → Call

unfoldable pub result_of : Ledger → Call → Result
result_of book (call bytes area) = call_of book bytes area

-- what a call's record holds
unfoldable pub record_in : Call → Read
record_in (call bytes area) = read_of bytes

-- a call that was made, its answer, and its area when it returns
pub record Made : Type 0 where
  pub made : Call
  pub answer : Answer
  pub area : List ℕ

-- RULES 12.1: every further call works on what the last one left, whether or not that was accepted
unfoldable pub calls_on : Ledger → List Call → List Made
calls_on book [] = []
calls_on book (c ∷ rest) =
    let result : Result = result_of book c in
    record { made = c; answer = result.answer; area = result.area } ∷ calls_on result.book rest

unfoldable pub book_after : Ledger → List Call → Ledger
book_after book [] = book
book_after book (c ∷ rest) = book_after (result_of book c).book rest

-- RULES 12.3. An accepted call: its order, its counts, and its area when it returned. All totals are sums over these.
pub record Accepted : Type 0 where
  pub order : Order
  pub counts : Counts
  pub area : List ℕ

-- a call in the list of the accepted ones: not there where it was refused
unfoldable pub accepted_of : Answer → Read → (area : List ℕ) → List Accepted
accepted_of (Ok counts) (Ok order) area = record { order = order; counts = counts; area = area } ∷ []
accepted_of (Ok counts) (Err refusal) area = []
accepted_of (Err refusal) read area = []

unfoldable pub accepted_calls : List Made → List Accepted
accepted_calls [] = []
accepted_calls (m ∷ rest) = accepted_of m.answer (record_in m.made) m.area ++ accepted_calls rest

unfoldable pub sum : (Accepted → ℕ) → List Made → ℕ
sum figure history = total figure (accepted_calls history)

-- the shares of an accepted call of a form in a security, and the cash of one in a currency
unfoldable pub shares_of : (form security : ℕ) → Accepted → ℕ
shares_of form security c = if c.order.form is form && c.order.security is security then c.order.quantity.0 else 0

unfoldable pub cash_of_form : (form currency : ℕ) → Accepted → ℕ
cash_of_form form currency c = if c.order.form is form && c.order.currency is currency then c.order.amount.0 else 0

-- RULES 12.6, 12.8, 12.9: what was admitted, deposited and withdrawn of a security; what was paid in and paid out in a currency
unfoldable pub issues : (security : ℕ) → List Made → ℕ
issues security = sum (shares_of 2 security)

unfoldable pub deposits : (security : ℕ) → List Made → ℕ
deposits security = sum (shares_of 3 security)

-- RULES 12.19: for how many shares of a security a member asked last under a reference, among earlier calls that stand with the last of them first
unfoldable pub last_asked : (security member reference : ℕ) → (earlier : List Accepted) → ℕ
last_asked security member reference [] = 0
last_asked security member reference (c ∷ earlier) =
    let before = last_asked security member reference earlier in
    if c.order.form is 19 && c.order.debited.member is member && c.order.reference is reference then shares_of 19 security c else before

-- what left on paper with a call: for a form 20 that credits the type outside, what its form 19 asked for
unfoldable pub left_with : (security : ℕ) → (earlier : List Accepted) → Accepted → ℕ
left_with security earlier c =
    if c.order.form is 20 && is_outside c.order.credited.typ then last_asked security c.order.debited.member c.order.reference earlier else 0

unfoldable pub left_on_paper : (security : ℕ) → (earlier calls : List Accepted) → ℕ
left_on_paper security earlier [] = 0
left_on_paper security earlier (c ∷ rest) = left_with security earlier c + left_on_paper security (c ∷ earlier) rest

-- by form 4, and on paper
unfoldable pub withdrawals : (security : ℕ) → List Made → ℕ
withdrawals security history = sum (shares_of 4 security) history + left_on_paper security [] (accepted_calls history)

unfoldable pub pay_ins : (currency : ℕ) → List Made → ℕ
pay_ins currency = sum (cash_of_form 10 currency)

unfoldable pub pay_outs : (currency : ℕ) → List Made → ℕ
pay_outs currency = sum (cash_of_form 11 currency)

-- RULES 12.10: what pledges and blocks put into an account, and what releases and unblocks took out of it
unfoldable pub put_in : Account → List Made → ℕ
put_in a =
    sum λ c. if c.order.form one_of (6 ∷ 8 ∷ []) && same_account (account_of c.order.security c.order.credited) a then c.order.quantity.0 else 0

unfoldable pub released : Account → List Made → ℕ
released a =
    sum λ c. if c.order.form one_of (7 ∷ 9 ∷ []) && same_account (account_of c.order.security c.order.debited) a then c.order.quantity.0 else 0

-- the first rows in an area
unfoldable pub first_rows : ℕ → List ℕ → List Posting
first_rows zero area = []
first_rows (suc n) area = posting_in (take 16 area) ∷ first_rows n (drop 16 area)

-- RULES 12.3: the posting rows of an accepted call, as many as its answer counts; some forms write notices instead
unfoldable pub postings_of : Accepted → List Posting
postings_of c = if writes c.order is 1 then first_rows c.counts.rows c.area else []

-- RULES 12.4: the place that a posting row names
unfoldable pub names : Posting → Place → Bool
names p (account a) =
    p.cash is 0 && not (p.typ one_of (90 ∷ 91 ∷ []))
    && p.what is a.security && p.member is a.member && p.typ is a.typ && p.shareholder is a.shareholder
names p (type91 security) = p.cash is 0 && p.typ is 91 && p.what is security
names p (type90 security) = false
names p (cash_of member currency) = p.cash is 1 && p.member is_not 0 && p.member is member && p.what is currency
names p (member0 currency) = false

-- RULES 12.11: the numbers of the credit rows, and of the debit rows, that name a place
unfoldable pub written : (credit : ℕ) → Place → List Made → ℕ
written credit place = sum λ c. total (λ p. if p.credit is credit && names p place then p.number else 0) (postings_of c)

unfoldable pub debits_written : Place → List Made → ℕ
debits_written = written 0

unfoldable pub credits_written : Place → List Made → ℕ
credits_written = written 1

-- RULES 12.12: the sides that were taken in, and those that are gone in each of the four ways
unfoldable pub sides_taken : List Made → ℕ
sides_taken = sum λ c. takes_in c.order

unfoldable pub sides_settled : List Made → ℕ
sides_settled = sum λ c. c.counts.settled

unfoldable pub sides_cancelled : List Made → ℕ
sides_cancelled = sum λ c. c.counts.cancelled

unfoldable pub sides_deleted : List Made → ℕ
sides_deleted = sum λ c. c.counts.deleted

unfoldable pub sides_suspended : List Made → ℕ
sides_suspended = sum λ c. c.counts.suspended

-- RULES 12.18: the rate after accepted calls, from that before them: that of the last form 18 among them
unfoldable pub last_rate : (before : ℕ) → List Accepted → ℕ
last_rate before [] = before
last_rate before (c ∷ rest) = last_rate (if c.order.form is 18 then c.order.quantity.0 else before) rest

-- RULES 12.1: one claim about the whole list. Each difference is stated as a sum, so that nothing is cut off at 0.
pub record Balanced (history : List Made) (last : Ledger) : Type 0 where
  -- held is deposits less withdrawals
  pub custody : (security : ℕ) → held security last.holdings + withdrawals security history ≡ deposits security history
  -- held and outside make up the issue
  pub issue : (security : ℕ) → held security last.holdings + outside_of security last.holdings ≡ issued_of security last.holdings
  -- the issued count is what was admitted
  pub issued : (security : ℕ) → issued_of security last.holdings ≡ issues security history
  -- cash is pay-ins less pay-outs
  pub cash : (currency : ℕ) → cash_total currency last.holdings + pay_outs currency history ≡ pay_ins currency history
  -- a pledged or blocked account holds what was put in less what was released
  pub pledged : (a : Account) → T (pledged_or_blocked a.typ) → last.holdings.balance a + released a history ≡ put_in a history
  -- every account, outside count and member's cash is credits less debits written
  pub posted : (place : Place) → book_has place last.holdings + debits_written place history ≡ credits_written place history
  -- each side taken in is settled, cancelled, deleted or suspended, or still waits
  pub sided :
      sides_taken history
      ≡ sides_settled history + sides_cancelled history + sides_deleted history + sides_suspended history + sides last.waiting

-- after every list of calls from the fresh book
unfoldable pub Demand3 : Type 0
Demand3 = (calls : List Call) → Balanced (calls_on fresh calls) (book_after fresh calls)
