-- A member and a reference as one number, and a request as two words.
use Rattle.std.specs.Prelude.{ℕ, ◌+◌, ◌*◌, ◌/◌, ◌%◌, ◌^◌, ◌≤◌, ◌<◌, Bool, ◌&&◌}
use Rattle.plain.specs.Lists.{◌is_not◌, ◌below◌}
use Rattle.rulebook.specs.declared.Request.{Request}

-- what a record's fields can name
pub record ReferenceInRange (member reference : ℕ) : Type 0 where
  pub member_most : member < 2 ^ 10
  pub reference_most : reference < 2 ^ 32

-- the same as a test
unfoldable pub in_range : (member reference : ℕ) → Bool
in_range member reference = member below 2 ^ 10 && reference below 2 ^ 32

abbrev pub key_of : (member reference : ℕ) → ℕ
key_of member reference = member * 2 ^ 32 + reference

-- keys are below this, and ascending keys are requests in order of member and reference
abbrev pub key_limit : ℕ
key_limit = 2 ^ 42

-- the member and the reference of a key
abbrev pub member_of : ℕ → ℕ
member_of key = key / 2 ^ 32

abbrev pub reference_of : ℕ → ℕ
reference_of key = key % 2 ^ 32

-- a request is open under the key
abbrev pub is_open : (asked : ℕ → ℕ → Request) → (key : ℕ) → Bool
is_open asked key = (asked (member_of key) (reference_of key)).quantity.0 is_not 0

-- what the two words of an open request can hold
pub record RequestInRange (r : Request) : Type 0 where
  pub security : r.security < 2 ^ 14
  pub typ : r.typ < 2 ^ 8
  pub shareholder : r.shareholder < 2 ^ 30
  pub quantity_least : 1 ≤ r.quantity.0
  pub quantity_most : r.quantity.0 < 2 ^ 40
  pub day : r.day < 2 ^ 16

-- of which shares, and how many since which day
abbrev pub shares_word : Request → ℕ
shares_word r = r.security * 2 ^ 38 + r.typ * 2 ^ 30 + r.shareholder

abbrev pub quantity_word : Request → ℕ
quantity_word r = r.quantity.0 * 2 ^ 16 + r.day

-- the request of two words
abbrev pub request_in : (shares quantity : ℕ) → Request
request_in shares quantity = record {
  security = shares / 2 ^ 38;
  typ = shares / 2 ^ 30 % 2 ^ 8;
  shareholder = shares % 2 ^ 30;
  quantity = record { 0 = quantity / 2 ^ 16 };
  day = quantity % 2 ^ 16;
}
