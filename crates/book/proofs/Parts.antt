-- A part of a book is changed: what the book means then, and what stays true of it. Assumes nothing.
use Rattle.std.specs.Prelude.{if◌then◌else◌}
use Prim.Native.Nat.{ℕ, ◌≤◌, ◌<◌}
use native.Mathlib.Omega.{arith}
use mathlib.Core.List.{List}
use mathlib.Core.Path.{◌≡◌, sym, ap, ◌∙◌, subst}
use lib.ListN.{length, get_or, length-drop}
use lib.Seq.{length-take-le}
use Rattle.plain.specs.Lists.{◌is◌}
use Rattle.rulebook.specs.Ledger.{Ledger, Holdings, Requests, put_day, put_holdings, put_waiting, put_rate, put_requests}
use Rattle.rulebook.specs.declared.Day.{Day}
use Rattle.rulebook.specs.declared.Item.{Item}
use Rattle.rulebook.specs.Premise.{account_count}
use Rattle.words.specs.Regions.{put_region}
use Rattle.words.specs.Tables.{rows}
use Rattle.words.proofs.Regions.{region-put, region-length, end_within}
use Rattle.securities.specs.Admitted.{securities_of, with_securities}
use Rattle.securities.specs.Admitted as securities
use Rattle.accounts.proofs.CountedRows.{rows-counted}
use Rattle.accounts.specs.Map.{balance_of, with_accounts}
use Rattle.accounts.specs.Map as accounts
use Rattle.cash.specs.Amounts.{amount_of, with_cash}
use Rattle.waiting_list.specs.Waiting.{items_of}
use Rattle.waiting_list.specs.Waiting as items
use Rattle.requests.specs.Map as requests
use Rattle.book.specs.Meaning.{widths, DAY, SECURITIES, ACCOUNTS, CASH, ITEMS, RATE, REQUESTS, part, day_in, rate_in, ledger_by}
use Rattle.book.specs.Meaning.{holdings_of, waiting_of, requests_of, ledger_of}
use Rattle.book.specs.Stored.{StoredBy, Stored, Means}

-- ---- the region law at this book's widths: part r is changed

module _ (r : ℕ) (known : r < length widths) (xs : List ℕ) (stored : Stored xs) (ys : List ℕ) (wide : length ys ≡ get_or widths r 0) where
  -- part s of the book with ys in the place of part r
  each : (s : ℕ) → s < length widths → part s (put_region widths r xs ys) ≡ (if s is r then ys else part s xs)
  each s h = region-put widths r s xs ys (omega (arith, stored.long)) known h wide

  pub put-ledger : ledger_of (put_region widths r xs ys) ≡ ledger_by (λ s. if s is r then ys else part s xs)
  unfolding holdings_of waiting_of requests_of
  put-ledger = λ i. record {
    day = day_in (each DAY (omega arith) i);
    holdings =
        record {
          securities = securities_of (each SECURITIES (omega arith) i);
          balance = balance_of (each ACCOUNTS (omega arith) i);
          accounts = rows (each ACCOUNTS (omega arith) i);
          cash = amount_of (each CASH (omega arith) i);
        };
    waiting = items_of (each ITEMS (omega arith) i);
    rate = rate_in (each RATE (omega arith) i);
    requests = requests.requests_of (each REQUESTS (omega arith) i);
  }

  pub put-stored : StoredBy (λ s. if s is r then ys else part s xs) → Stored (put_region widths r xs ys)
  put-stored k = record {
    long = region-length widths r xs ys (omega (arith, stored.long)) known wide ∙ stored.long;
    parts =
        record {
          opened = subst (λ (l : List ℕ). get_or l 1 0 ≤ 1) (sym (each DAY (omega arith))) k.opened;
          securities = subst (λ (l : List ℕ). securities.Kept l) (sym (each SECURITIES (omega arith))) k.securities;
          accounts = subst (λ (l : List ℕ). accounts.Kept l) (sym (each ACCOUNTS (omega arith))) k.accounts;
          items = subst (λ (l : List ℕ). items.Sized l) (sym (each ITEMS (omega arith))) k.items;
          requests = subst (λ (l : List ℕ). requests.Kept l) (sym (each REQUESTS (omega arith))) k.requests;
        };
  }

-- a part is as long as its width
pub part-long : (r : ℕ) → r < length widths → (xs : List ℕ) → Stored xs → length (part r xs) ≡ get_or widths r 0
part-long r known xs stored = length-take-le (get_or widths r 0) _ (rw length-drop (omega (arith, end_within widths r known, stored.long)))

-- ---- what a function of a part says, told of the whole book

module _ (xs : List ℕ) (stored : Stored xs) (ys : List ℕ) where
  -- as they were before
  abbrev parts : StoredBy (λ r. part r xs)
  parts = stored.parts

  step :
      (r : ℕ) → r < length widths → length ys ≡ get_or widths r 0 → (b : Ledger) → StoredBy (λ s. if s is r then ys else part s xs)
      → ledger_by (λ s. if s is r then ys else part s xs) ≡ b → Means (put_region widths r xs ys) b
  step r known wide b kept e = record { stored = put-stored r known xs stored ys wide kept; ledger = put-ledger r known xs stored ys wide ∙ e }

  pub day_step : (d : Day) → length ys ≡ get_or widths DAY 0 → get_or ys 1 0 ≤ 1 → day_in ys ≡ d → Means (put_region widths DAY xs ys) (put_day d (ledger_of xs))
  unfolding put_day holdings_of waiting_of requests_of
  day_step d wide opened e =
      step DAY (omega arith) wide (put_day d (ledger_of xs))
      (record { opened = opened; securities = parts.securities; accounts = parts.accounts; items = parts.items; requests = parts.requests })
      (ap (λ (x : Day). put_day x (ledger_of xs)) e)

  pub securities_step :
      (h : Holdings) → securities.Kept ys → with_securities ys (holdings_of xs) ≡ h
      → Means (put_region widths SECURITIES xs ys) (put_holdings h (ledger_of xs))
  unfolding put_holdings holdings_of waiting_of requests_of
  securities_step h kept e =
      step SECURITIES (omega arith) kept.long (put_holdings h (ledger_of xs))
      (record { opened = parts.opened; securities = kept; accounts = parts.accounts; items = parts.items; requests = parts.requests })
      (ap (λ (x : Holdings). put_holdings x (ledger_of xs)) e)

  pub accounts_step :
      (h : Holdings) → accounts.Kept ys → with_accounts ys (holdings_of xs) ≡ h
      → Means (put_region widths ACCOUNTS xs ys) (put_holdings h (ledger_of xs))
  unfolding put_holdings holdings_of waiting_of requests_of
  accounts_step h kept e =
      step ACCOUNTS (omega arith) kept.long (put_holdings h (ledger_of xs))
      (record { opened = parts.opened; securities = parts.securities; accounts = kept; items = parts.items; requests = parts.requests })
      (ap (λ (x : Holdings). put_holdings x (ledger_of xs)) e)

  pub cash_step :
      (h : Holdings) → length ys ≡ get_or widths CASH 0 → with_cash ys (holdings_of xs) ≡ h
      → Means (put_region widths CASH xs ys) (put_holdings h (ledger_of xs))
  unfolding put_holdings holdings_of waiting_of requests_of
  cash_step h wide e =
      step CASH (omega arith) wide (put_holdings h (ledger_of xs))
      (record { opened = parts.opened; securities = parts.securities; accounts = parts.accounts; items = parts.items; requests = parts.requests })
      (ap (λ (x : Holdings). put_holdings x (ledger_of xs)) e)

  pub items_step : (l : List Item) → items.Sized ys → items_of ys ≡ l → Means (put_region widths ITEMS xs ys) (put_waiting l (ledger_of xs))
  unfolding put_waiting holdings_of waiting_of requests_of
  items_step l sized e =
      step ITEMS (omega arith) sized.long (put_waiting l (ledger_of xs))
      (record { opened = parts.opened; securities = parts.securities; accounts = parts.accounts; items = sized; requests = parts.requests })
      (ap (λ (x : List Item). put_waiting x (ledger_of xs)) e)

  pub rate_step : (n : ℕ) → length ys ≡ get_or widths RATE 0 → rate_in ys ≡ n → Means (put_region widths RATE xs ys) (put_rate n (ledger_of xs))
  unfolding put_rate holdings_of waiting_of requests_of
  rate_step n wide e =
      step RATE (omega arith) wide (put_rate n (ledger_of xs))
      (record { opened = parts.opened; securities = parts.securities; accounts = parts.accounts; items = parts.items; requests = parts.requests })
      (ap (λ (x : ℕ). put_rate x (ledger_of xs)) e)

  pub requests_step :
      (r : Requests) → requests.Kept ys → requests.requests_of ys ≡ r → Means (put_region widths REQUESTS xs ys) (put_requests r (ledger_of xs))
  unfolding put_requests holdings_of waiting_of requests_of
  requests_step r kept e =
      step REQUESTS (omega arith) kept.long (put_requests r (ledger_of xs))
      (record { opened = parts.opened; securities = parts.securities; accounts = parts.accounts; items = parts.items; requests = kept })
      (ap (λ (x : Requests). put_requests x (ledger_of xs)) e)

-- ---- one function after another: what the second makes of the book that the first left

pub next : (f : Ledger → Ledger) {xs ys : List ℕ} {b : Ledger} → Means xs b → Means ys (f (ledger_of xs)) → Means ys (f b)
next f first second = record { stored = second.stored; ledger = second.ledger ∙ ap f first.ledger }

-- ---- what the words keep of the ledger

-- the number of accounts is that of the accounts with a balance
pub stored_counted : (xs : List ℕ) → Stored xs → (holdings_of xs).accounts ≡ account_count (holdings_of xs)
unfolding holdings_of
stored_counted xs stored = rows-counted (part ACCOUNTS xs) stored.parts.accounts (holdings_of xs)
