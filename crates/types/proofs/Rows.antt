-- What the words of the code's table say is what the rows of the rulebook's table say. Assumes nothing.
use Rattle.std.specs.Prelude.{if◌then◌else◌}
use mathlib.Core.Path.{◌≡◌, refl, sym, ap, ◌∙◌}
use mathlib.Core.Bool.{Bool, true, false, not, ◌&&◌, and-false, true≢false}
use mathlib.Core.List.{List, [], ◌∷◌, map}
use Prim.Native.Nat.{ℕ, ◌^◌, ◌/◌, ◌%◌}
use borrow.Author.Tests.{eqb-true, eq-eqb}
use lib.Bits.{bit_and}
use Rattle.plain.specs.Lists.{◌is◌, ◌is_not◌, ◌one_of◌, some, keep}
use Rattle.plain.proofs.Lists.{each_same}
use Rattle.plain.proofs.Tests.{neither}
use Rattle.rulebook.specs.TypeTable.{free, pledged_as, blocked_as, on_paper_as, TypeRow, type_table, empty_row, type_row}
use Rattle.rulebook.specs.AccountTypes.{is_free, listed, become, has_paper, is_paper}
use Rattle.rulebook.proofs.TypeTable.{numbers, by_row, no_row_in, no_pair, targets, listed-targets}
use Rattle.rulebook.proofs.Places.{is_sym}
use Rattle.types.specs.Row.{word_of, named_in}

not_paper : (t : ℕ) → (t one_of numbers type_table) ≡ false → is_paper t ≡ false
unfolding is_paper type_table
not_paper t = no_pair on_paper_as type_table t refl

-- a type without a row has an empty word
pub no_word : (t : ℕ) → (t one_of numbers type_table) ≡ false → word_of t ≡ 0
unfolding word_of type_row
no_word t n = rw (no_row_in type_table t n, not_paper t n)

-- on a page of the table, it is none of the page's rows
off_page : (page : ℕ → Bool) (types : List ℕ) (t : ℕ) → page t ≡ true → (t one_of keep page types) ≡ false → (t one_of types) ≡ false
off_page page [] t p n = refl
off_page page (type ∷ rest) t p n = go (page type) (t is type) refl refl (off_page page rest t p)
  where
    go : (x y : Bool) → page type ≡ x → (t is type) ≡ y → ((t one_of keep page rest) ≡ false → (t one_of rest) ≡ false) → (t one_of (type ∷ rest)) ≡ false
    go true y e q later = let apart = neither (t is type) (t one_of keep page rest) (simp e at n) in simp (apart.0, later apart.1)
    go false true e q later = absurd (true≢false (sym p ∙ ap page (eqb-true t type q) ∙ e))
    go false false e q later = simp (q, later (simp e at n))

pub no_word_on : (page : ℕ → Bool) (t : ℕ) → page t ≡ true → (t one_of keep page (numbers type_table)) ≡ false → 0 ≡ word_of t
no_word_on page t p n = sym (no_word t (off_page page (numbers type_table) t p n))

-- what is computed of each word and of each row
by_word :
    {A : Type 0} (f : ℕ → A) (g : TypeRow → A)
    → map (λ (row : ℕ × TypeRow). f (word_of row.0)) type_table ≡ map (λ (row : ℕ × TypeRow). g row.1) type_table → f 0 ≡ g empty_row
    → (t : ℕ) → f (word_of t) ≡ g (type_row t)
unfolding type_row
by_word f g e u t =
    by_row (λ t row. f (word_of t) ≡ g row) type_table t
    (each_same (λ (row : ℕ × TypeRow). f (word_of row.0)) (λ (row : ℕ × TypeRow). g row.1) type_table e) (λ no. ap f (no_word t no) ∙ u)

pub word_state : (t : ℕ) → word_of t % 2 ^ 3 ≡ (type_row t).state
unfolding word_of is_paper listed type_row type_table
word_state = by_word (λ w. w % 2 ^ 3) (λ row. row.state) refl refl

pub word_entry : (t : ℕ) → (word_of t % 2 ^ 4 is free) ≡ (is_free t && not (type_row t).physical)
unfolding word_of is_free is_paper listed type_row type_table
word_entry = by_word (λ w. w % 2 ^ 4 is free) (λ row. row.state is free && not row.physical) refl refl

pub word_physical : (t : ℕ) → (word_of t % 2 ^ 4 is 9) ≡ (is_free t && (type_row t).physical)
unfolding word_of is_free is_paper listed type_row type_table
word_physical = by_word (λ w. w % 2 ^ 4 is 9) (λ row. row.state is free && row.physical) refl refl

pub word_has_paper : (t : ℕ) → (word_of t / 2 ^ 24 % 2 ^ 8 is_not 0) ≡ has_paper t
unfolding word_of has_paper is_paper listed type_row type_table
word_has_paper = by_word (λ w. w / 2 ^ 24 % 2 ^ 8 is_not 0) (λ row. some (λ pair. on_paper_as is pair.0) row.pairs) refl refl

pub word_paper : (t : ℕ) → (bit_and (word_of t) 16 is_not 0) ≡ is_paper t
unfolding word_of is_paper listed type_row type_table
word_paper t =
    by_row (λ t row. (bit_and (word_of t) 16 is_not 0) ≡ is_paper t) type_table t
    (each_same (λ (row : ℕ × TypeRow). bit_and (word_of row.0) 16 is_not 0) (λ (row : ℕ × TypeRow). is_paper row.0) type_table refl)
    (λ no. rw (no_word t no, not_paper t no))

-- ---- the type at a place

-- what a byte names: 0 is no type
abbrev type·named : ℕ → List ℕ
type·named byte = if byte is 0 then [] else byte ∷ []

named_one : (byte t : ℕ) → (t is_not 0 && byte is t) ≡ (t one_of type·named byte)
named_one byte t = go (byte is 0) (byte is t) refl refl
  where
    go : (x y : Bool) → (byte is 0) ≡ x → (byte is t) ≡ y → (t is_not 0 && byte is t) ≡ (t one_of type·named byte)
    go true true p q = let e : t ≡ 0 = sym (eqb-true byte t q) ∙ eqb-true byte 0 p in rw (p, e)
    go true false p q = simp (p, q, and-false)
    go false true p q = rw (← eqb-true byte t q, p, eq-eqb byte byte refl)
    go false false p q = simp (p, q, and-false, is_sym t byte ∙ q)

become-at :
    (place how : ℕ)
    → map (λ (row : ℕ × TypeRow). type·named (word_of row.0 / 2 ^ place % 2 ^ 8)) type_table
    ≡ map (λ (row : ℕ × TypeRow). targets how row.1.pairs) type_table
    → type·named (0 / 2 ^ place % 2 ^ 8) ≡ targets how [] → (s t : ℕ) → named_in (word_of s) place t ≡ become how s t
unfolding named_in become
become-at place how e u s t =
    named_one (word_of s / 2 ^ place % 2 ^ 8) t
    ∙ ap (λ (types : List ℕ). t one_of types) (by_word (λ w. type·named (w / 2 ^ place % 2 ^ 8)) (λ row. targets how row.pairs) e u s)
    ∙ sym (listed-targets (type_row s).pairs how t)

pub pledged-at : (s t : ℕ) → named_in (word_of s) 8 t ≡ become pledged_as s t
unfolding word_of is_paper listed targets type_row type_table
pledged-at = become-at 8 pledged_as refl refl

pub blocked-at : (s t : ℕ) → named_in (word_of s) 16 t ≡ become blocked_as s t
unfolding word_of is_paper listed targets type_row type_table
blocked-at = become-at 16 blocked_as refl refl

pub paper_at_lem : (s t : ℕ) → named_in (word_of s) 24 t ≡ become on_paper_as s t
unfolding word_of is_paper listed targets type_row type_table
paper_at_lem = become-at 24 on_paper_as refl refl
