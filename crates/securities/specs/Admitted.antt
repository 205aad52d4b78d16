-- The securities' words as a list of securities in order of admission.
use Rattle.std.specs.Prelude.{ℕ, ◌+◌, ◌≤◌, List, ◌≡◌, length, get_or}
use Rattle.rulebook.specs.Ledger.{Holdings, new_security, with_outside, with_held}
use Rattle.rulebook.specs.Movements.{type91, credit, debit, add_held, take_held}
use Rattle.rulebook.specs.declared.Security.{Security}
use Rattle.words.specs.Places.{list_from}
use Rattle.words.specs.Tables.{rows, key_at, KeysOnce}

-- where the issued counts, the outside counts and the held counts start
abbrev pub ISSUED : ℕ
ISSUED = 33

abbrev pub OUTSIDE : ℕ
OUTSIDE = 65

abbrev pub HELD : ℕ
HELD = 97

abbrev pub security : (code issued outside held : ℕ) → Security
security code issued outside held = with_held held (with_outside outside (new_security code (record { 0 = issued })))

abbrev pub security_at : List ℕ → ℕ → Security
security_at s i = security (key_at s i) (get_or s (i + ISSUED) 0) (get_or s (i + OUTSIDE) 0) (get_or s (i + HELD) 0)

-- the securities in order of admission
unfoldable pub securities_of : List ℕ → List Security
securities_of s = list_from (security_at s) 0 (rows s)

-- the holdings with the securities that the words hold
abbrev pub with_securities : List ℕ → Holdings → Holdings
with_securities s h = record { securities = securities_of s; balance = h.balance; accounts = h.accounts; cash = h.cash }

-- shares of a security come into custody: less of it is outside, more is held; and they leave it
abbrev pub entered : (code n : ℕ) → Holdings → Holdings
entered code n h = add_held code n (debit (type91 code) n h)

abbrev pub left : (code n : ℕ) → Holdings → Holdings
left code n h = take_held code n (credit (type91 code) n h)

-- kept true: room for as many securities as there are, no code twice
pub record Kept (s : List ℕ) : Type 0 where
  pub long : length s ≡ 129
  pub size : rows s ≤ 32
  pub once : KeysOnce s
