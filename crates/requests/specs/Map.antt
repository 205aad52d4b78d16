-- The words as a map from member and reference to request, and what is kept true of them.
use Rattle.std.specs.Prelude.{if◌then◌else◌, ℕ, ◌^◌, ◌≤◌, List, [], ◌∷◌, ◌≡◌, length}
use Rattle.plain.specs.Lists.{◌below◌}
use Rattle.rulebook.specs.Ledger.{Requests, no_request}
use Rattle.rulebook.specs.declared.Request.{Request}
use Rattle.words.specs.Tables.{rows, sum_of, value_of, KeysOnce, with_row, without_row}
use Rattle.requests.specs.Packed.{in_range, key_of, shares_word, quantity_word, request_in}

-- where the columns of the requests' two words start
abbrev pub SHARES : ℕ
SHARES = 17

abbrev pub QUANTITIES : ℕ
QUANTITIES = 33

-- the words with a request more, and without the one at i
abbrev pub opened : List ℕ → (key : ℕ) → Request → List ℕ
opened requests key r = with_row ((1, key) ∷ (SHARES, shares_word r) ∷ (QUANTITIES, quantity_word r) ∷ []) requests

abbrev pub removed : List ℕ → ℕ → List ℕ
removed requests i = without_row (1 ∷ SHARES ∷ QUANTITIES ∷ []) i requests

-- the request of a key, which is none where both words are 0
abbrev pub request_of : List ℕ → (key : ℕ) → Request
request_of requests key = request_in (value_of SHARES requests key) (value_of QUANTITIES requests key)

-- what a member has open under a reference
unfoldable pub asked_of : List ℕ → (member reference : ℕ) → Request
asked_of requests member reference = if in_range member reference then request_of requests (key_of member reference) else no_request

-- the open requests that the words hold
abbrev pub requests_of : List ℕ → Requests
requests_of requests = record { asked = asked_of requests; number = rows requests }

-- kept true: room for as many requests as there are, no key twice, no quantity of 0
pub record Kept (requests : List ℕ) : Type 0 where
  pub long : length requests ≡ 49
  pub size : rows requests ≤ 16
  pub once : KeysOnce requests
  pub some : sum_of QUANTITIES (λ key word. if word below 2 ^ 16 then 1 else 0) requests ≡ 0
