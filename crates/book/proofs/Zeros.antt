-- The zero words are stored right and mean the fresh ledger but for its rate. Assumes nothing.
use Rattle.std.specs.Prelude.{if◌then◌else◌}
use Prim.Native.Nat.{ℕ, zero, suc}
use native.Mathlib.Omega.{arith}
use mathlib.Core.Bool.{Bool, true, false}
use mathlib.Core.List.{List, []}
use mathlib.Core.Path.{◌≡◌, refl, sym, subst, fun_ext}
use lib.ListN.{get_or, replicate}
use Rattle.plain.specs.Lists.{sum_below}
use Rattle.rulebook.specs.Ledger.{first_rate, no_request, fresh, put_rate}
use Rattle.rulebook.specs.declared.Account.{Account}
use Rattle.rulebook.specs.declared.Request.{Request}
use Rattle.rulebook.proofs.EveryCall.{fresh-premise}
use Rattle.words.specs.Places.{list_from}
use Rattle.words.specs.Tables.{sum_of, value_of}
use Rattle.securities.specs.Admitted.{securities_of}
use Rattle.accounts.specs.Keys.{in_range}
use Rattle.accounts.specs.Map.{balance_of}
use Rattle.cash.specs.Amounts.{kept, place, amount_of}
use Rattle.waiting_list.specs.Waiting.{items_of}
use Rattle.requests.specs.Packed as packed
use Rattle.requests.specs.Map.{asked_of}
use Rattle.book.specs.Meaning.{book_length, ACCOUNTS, CASH, REQUESTS, part, holdings_of, waiting_of, requests_of, ledger_of}
use Rattle.book.specs.Stored.{Stored, Kept, Means}
use Rattle.book.proofs.Parts.{next}

abbrev pub zeros : List ℕ
zeros = replicate book_length 0

zero_word : (n i : ℕ) → ◌≡◌ {A = ℕ} (get_or (replicate n 0) i 0) 0
zero_word zero i = refl
zero_word (suc n) zero = refl
zero_word (suc n) (suc i) = zero_word n i

no_balance : (a : Account) → balance_of (part ACCOUNTS zeros) a ≡ 0
unfolding balance_of value_of sum_of sum_below
no_balance a = go (in_range a)
  where
    go : (b : Bool) → ◌≡◌ {A = ℕ} (if b then 0 else 0) 0
    go true = refl
    go false = refl

no_cash : (member currency : ℕ) → amount_of (part CASH zeros) member currency ≡ 0
unfolding amount_of
no_cash m c = go (kept m c)
  where
    go : (b : Bool) → ◌≡◌ {A = ℕ} (if b then get_or (replicate 128 0) (place m c) 0 else 0) 0
    go true = zero_word 128 (place m c)
    go false = refl

no_request_lem : (member reference : ℕ) → asked_of (part REQUESTS zeros) member reference ≡ no_request
unfolding asked_of value_of sum_of sum_below
no_request_lem m n = go (packed.in_range m n)
  where
    go : (b : Bool) → ◌≡◌ {A = Request} (if b then no_request else no_request) no_request
    go true = refl
    go false = refl

stored : Stored zeros
unfolding sum_of sum_below
stored = record {
  long = refl;
  parts =
      record {
        opened = omega arith;
        securities = record { long = refl; size = omega arith; once = λ key. omega arith };
        accounts = record { long = refl; size = omega arith; once = λ key. omega arith; some = refl; keys = refl };
        items = record { long = refl; size = omega arith };
        requests = record { long = refl; size = omega arith; once = λ key. omega arith; some = refl };
      };
}

ledger : ledger_of zeros ≡ put_rate 0 fresh
unfolding fresh put_rate holdings_of waiting_of requests_of securities_of items_of list_from
ledger = λ i. record {
  day = fresh.day;
  holdings = record { securities = []; balance = fun_ext no_balance i; accounts = 0; cash = fun_ext (λ m. fun_ext (no_cash m)) i };
  waiting = [];
  rate = 0;
  requests = record { asked = fun_ext (λ m. fun_ext (no_request_lem m)) i; number = 0 };
}

pub zeros_mean : Means zeros (put_rate 0 fresh)
zeros_mean = record { stored = stored; ledger = ledger }

-- with the first rate they mean it, and are what every call keeps
pub rated_mean : (before after : List ℕ) → before ≡ zeros → Means after (put_rate first_rate (ledger_of before)) → Means after fresh
unfolding fresh put_rate
rated_mean before after e m = next (put_rate first_rate) (subst (λ (words : List ℕ). Means words (put_rate 0 fresh)) (sym e) zeros_mean) m

pub fresh_kept : (words : List ℕ) → Means words fresh → Kept words
fresh_kept words m = record { stored = m.stored; premise = rw m.ledger fresh-premise }
