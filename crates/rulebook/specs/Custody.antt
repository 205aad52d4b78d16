-- The held counts that a book keeps with its securities, beside what its accounts hold (RULES 3.19, 12.24 to 12.26).
use Rattle.std.specs.Prelude.{if◌then◌else◌, ℕ, ◌+◌, ◌&&◌, List, ◌≡◌, Ok}
use Rattle.plain.specs.Lists.{◌is◌, first, Each}
use Rattle.rulebook.specs.AccountTypes.{is_outside}
use Rattle.rulebook.specs.Record.{read_of}
use Rattle.rulebook.specs.Ledger.{Ledger, fresh, issued_of, outside_of, held_of, held}
use Rattle.rulebook.specs.Forms.{ended_request, effect}
use Rattle.rulebook.specs.Refusals.{refusals}
use Rattle.rulebook.specs.Calls.{Call, Made, calls_on, book_after, deposits, withdrawals}
use Rattle.rulebook.specs.Premise.{Premise}
use Rattle.rulebook.specs.declared.Order.{Order}

-- the shares of a security that an order brings into custody: a deposit's
unfoldable pub comes_in : (security : ℕ) → Order → ℕ
comes_in security order = if order.form is 3 && order.security is security then order.quantity.0 else 0

-- and those that it takes out: a withdrawal's, and those of a request that ends outside
unfoldable pub goes_out : (security : ℕ) → Ledger → Order → ℕ
goes_out security book order =
    (if order.form is 4 && order.security is security then order.quantity.0 else 0)
    + (if order.form is 20 && is_outside order.credited.typ && (ended_request book order).security is security then (ended_request book order).quantity.0 else 0)

-- RULES 12.24: forms 3, 4 and 20 change the held count by just these, and every other leaves it
unfoldable pub HeldByForm : Type 0
HeldByForm =
    (book : Ledger) (o : Order) (bytes : List ℕ) → Premise book → read_of bytes ≡ Ok o → first (refusals book o) ≡ 0 → (security : ℕ)
    → held_of security (effect book o).after.holdings + goes_out security book o ≡ held_of security book.holdings + comes_in security o

pub record HeldCounts (history : List Made) (last : Ledger) : Type 0 where
  -- RULES 12.25: of each admitted security, the count that stands there is the sum over its accounts
  pub each : Each (λ s. s.held.0 ≡ held s.code last.holdings) last.holdings.securities
  -- and of every code, those that are not admitted among them
  pub summed : (security : ℕ) → held_of security last.holdings ≡ held security last.holdings
  -- RULES 12.26: so the counts that are kept meet what RULES 12.6 and 12.7 say of the sums
  pub custody : (security : ℕ) → held_of security last.holdings + withdrawals security history ≡ deposits security history
  pub issue : (security : ℕ) → held_of security last.holdings + outside_of security last.holdings ≡ issued_of security last.holdings

-- after every list of calls from the fresh book
unfoldable pub HeldOfCalls : Type 0
HeldOfCalls = (calls : List Call) → HeldCounts (calls_on fresh calls) (book_after fresh calls)
