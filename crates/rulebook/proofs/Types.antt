-- What the table of account types says: of free types, of pledged or blocked ones, and of the pairs that test 11 lets through. Assumes nothing.
use mathlib.Core.Path.{◌≡◌, refl, sym, ap, ◌∙◌}
use mathlib.Core.Bool.{Bool, true, false, not, ◌&&◌, ◌||◌, false≢true, true≢false, beq}
use mathlib.Core.List.{[], ◌∷◌}
use Prim.Native.Nat.{ℕ, ◌<◌, ◌^◌}
use native.Mathlib.Omega.{arith}
use borrow.Author.Tests.{eqb-true, ltb-false, not-false}
use Rattle.plain.specs.Lists.{◌is◌, ◌one_of◌, ◌below◌, some}
use Rattle.plain.proofs.Tests.{both, neither, not-second}
use Rattle.plain.proofs.Lists.{◌and◌, one_of_lem}
use Rattle.rulebook.specs.TypeTable.{free, pledged, blocked, pledged_as, blocked_as, on_paper_as, requested, type_table, type_row}
use Rattle.rulebook.specs.AccountTypes.{state_of, is_free, alike, pledged_or_blocked, is_outside, account_states, account_type, become, has_paper, ends, wrong_types}
use Rattle.rulebook.proofs.TypeTable.{no_row, pair_of}

-- no type of 90 or 91, which rows use for counts
abbrev pub Account·type : ℕ → Type 0
Account·type t = (t one_of (90 ∷ 91 ∷ [])) ≡ false

-- an account's, and neither pledged nor blocked nor that of requests
abbrev pub Quiet : ℕ → Type 0
Quiet t = (pledged_or_blocked t ≡ false) × Account·type t × ((t is requested) ≡ false)

-- a type in some state passes no test that no row in this state passes
in_state :
    (asks test : ℕ → Bool) → some (λ row. asks row.1.state && test row.0) type_table ≡ false → asks 0 ≡ false
    → (t : ℕ) → asks (state_of t) ≡ true → test t ≡ false
in_state asks test e u t = not-second (asks (state_of t)) (test t) (no_row (λ t row. asks row.state && test t) e t (simp u))

-- ---- free types

abbrev asks_free : ℕ → Bool
asks_free state = state is free

pub free-quiet : (t : ℕ) → is_free t ≡ true → Quiet t
unfolding is_free pledged_or_blocked type_table
free-quiet t e =
    let n = neither (t one_of (90 ∷ 91 ∷ [])) (t is requested) (in_state asks_free (λ t. t one_of (90 ∷ 91 ∷ []) || t is requested) refl refl t e) in
    (rw (eqb-true (state_of t) free e), n.0, n.1)

pub free-type : (t : ℕ) → is_free t ≡ true → account_type t ≡ true
unfolding is_free account_type
free-type t e = rw (eqb-true (state_of t) free e)

-- an unused type's number is 0
pub zero_quiet : Quiet 0
unfolding pledged_or_blocked type_row type_table
zero_quiet = (refl, refl, refl)

-- both of two types that are alike are free
pub alike-free : (s t : ℕ) → alike s t ≡ true → (is_free s ≡ true) × (is_free t ≡ true)
unfolding alike
alike-free s t e = both (is_free s) (is_free t) (both (is_free s && is_free t) (beq (type_row s).physical (type_row t).physical) e).0

-- what can become paper is free
pub paper_free : (t : ℕ) → has_paper t ≡ true → is_free t ≡ true
unfolding has_paper is_free type_table
paper_free t e =
    not-false (state_of t is free)
    (not-second (has_paper t) (not (state_of t is free))
    (no_row (λ t row. some (λ pair. on_paper_as is pair.0) row.pairs && not (row.state is free)) refl t refl) e)

-- ---- pledged or blocked types

abbrev asks_pledged : ℕ → Bool
asks_pledged state = state one_of (pledged ∷ blocked ∷ [])

pub pledged-account : (t : ℕ) → pledged_or_blocked t ≡ true → Account·type t
unfolding pledged_or_blocked type_table
pledged-account = in_state asks_pledged (λ t. t one_of (90 ∷ 91 ∷ [])) refl refl

pub pledged-type : (t : ℕ) → pledged_or_blocked t ≡ true → account_type t ≡ true
unfolding pledged_or_blocked account_type
pledged-type t = one_of_lem (λ state. (state one_of account_states) ≡ true) (pledged ∷ blocked ∷ []) (state_of t) (refl and refl and tt)

-- no pledged or blocked type is that of requests
pub pledged-not_requested : (t : ℕ) → pledged_or_blocked t ≡ true → (t is requested) ≡ false
unfolding pledged_or_blocked type_table
pledged-not_requested = in_state asks_pledged (λ t. t is requested) refl refl

-- ---- the type of requests

pub requested-free : pledged_or_blocked requested ≡ false
unfolding pledged_or_blocked type_row type_table
requested-free = refl

pub requested-type : account_type requested ≡ true
unfolding account_type type_row type_table
requested-type = refl

-- an account's type fits a record
pub type_fits : (t : ℕ) → account_type t ≡ true → t < 2 ^ 8
unfolding account_type type_table
type_fits t e = omega (arith, ltb-false 255 t (in_state (λ state. state one_of account_states) (λ t. 255 below t) refl refl t e))

pub free-fits : (t : ℕ) → is_free t ≡ true → t < 2 ^ 8
free-fits t e = type_fits t (free-type t e)

-- ---- pairs: a pledge or a block goes from a free account to a pledged or blocked one

abbrev pub PutIn : ℕ → ℕ → Type 0
PutIn s t = (is_free s ≡ true) × (pledged_or_blocked t ≡ true)

put_in : (how : ℕ) → some (λ row. some (λ pair. how is pair.0 && not (row.1.state is free && pledged_or_blocked pair.1)) row.1.pairs) type_table ≡ false
    → (s t : ℕ) → become how s t ≡ true → PutIn s t
unfolding is_free
put_in how e s t b = both (is_free s) (pledged_or_blocked t) (pair_of how (λ row t. row.state is free && pledged_or_blocked t) e s t b)

pledge_pair : (s t : ℕ) → become pledged_as s t ≡ true → PutIn s t
unfolding pledged_or_blocked type_row type_table
pledge_pair = put_in pledged_as refl

block_pair : (s t : ℕ) → become blocked_as s t ≡ true → PutIn s t
unfolding pledged_or_blocked type_row type_table
block_pair = put_in blocked_as refl

-- the two types differ
pub put-in_apart : (s t : ℕ) → PutIn s t → (s is t) ≡ false
put-in_apart s t p = go (s is t) refl
  where
    go : (x : Bool) → (s is t) ≡ x → (s is t) ≡ false
    go true e = absurd (false≢true (sym (free-quiet s p.0).0 ∙ ap pledged_or_blocked (eqb-true s t e) ∙ p.1))
    go false e = e

-- ---- what ends a request: the type outside, or one of paper

-- the type of paper is free
pub ends-free : (s t : ℕ) → is_outside t ≡ false → ends s t ≡ true → is_free t ≡ true
unfolding ends is_free type_row type_table
ends-free s t n e = pair_of on_paper_as (λ row t. is_free t) refl s t (simp n at e)

-- ---- what passes test 11: at each form one table is asked

asked : (x : Bool) (A : Type 0) → (x ≡ true → A) → (x ≡ false → true ≡ false) → A
asked true A f g = f refl
asked false A f g = absurd (true≢false (g refl))

module _ (d c : ℕ) where
  pub deposit-free : wrong_types 3 d c ≡ false → is_free c ≡ true
  unfolding wrong_types
  deposit-free w = asked (is_free c) (is_free c ≡ true) (λ e. e) (λ p. simp p at w)

  pub withdraw-free : wrong_types 4 d c ≡ false → is_free d ≡ true
  unfolding wrong_types
  withdraw-free w = asked (is_free d) (is_free d ≡ true) (λ e. e) (λ p. simp p at w)

  pub transfer-free : wrong_types 5 d c ≡ false → (is_free d ≡ true) × (is_free c ≡ true)
  unfolding wrong_types
  transfer-free w = asked (alike d c) ((is_free d ≡ true) × (is_free c ≡ true)) (alike-free d c) (λ p. simp p at w)

  pub pledge_types : wrong_types 6 d c ≡ false → PutIn d c
  unfolding wrong_types
  pledge_types w = asked (become pledged_as d c) (PutIn d c) (pledge_pair d c) (λ p. simp p at w)

  pub release_types : wrong_types 7 d c ≡ false → PutIn c d
  unfolding wrong_types
  release_types w = asked (become pledged_as c d) (PutIn c d) (pledge_pair c d) (λ p. simp p at w)

  pub block_types : wrong_types 8 d c ≡ false → PutIn d c
  unfolding wrong_types
  block_types w = asked (become blocked_as d c) (PutIn d c) (block_pair d c) (λ p. simp p at w)

  pub unblock_types : wrong_types 9 d c ≡ false → PutIn c d
  unfolding wrong_types
  unblock_types w = asked (become blocked_as c d) (PutIn c d) (block_pair c d) (λ p. simp p at w)

  pub request_paper_lem : wrong_types 19 d c ≡ false → has_paper d ≡ true
  unfolding wrong_types
  request_paper_lem w = asked (has_paper d) (has_paper d ≡ true) (λ e. e) (λ p. simp p at w)

  pub deliver_free : wrong_types 12 d c ≡ false → is_free d ≡ true
  unfolding wrong_types
  deliver_free w = asked (is_free d) (is_free d ≡ true) (λ e. e) (λ p. simp p at w)

  pub receive_free : wrong_types 13 d c ≡ false → is_free c ≡ true
  unfolding wrong_types
  receive_free w = asked (is_free c) (is_free c ≡ true) (λ e. e) (λ p. simp p at w)

  pub trade-alike : wrong_types 14 d c ≡ false → alike d c ≡ true
  unfolding wrong_types
  trade-alike w = asked (alike d c) (alike d c ≡ true) (λ e. e) (λ p. simp p at w)
