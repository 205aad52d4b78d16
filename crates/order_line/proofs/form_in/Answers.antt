-- `order_line::form_in` meets its contract: by its first byte a text is a number or a name. Assumes nothing.
use Rattle.std.proofs.Common.{sym, ap, ◌∙◌, ℕ, ◌<◌, ◌≡◌, arith, Err}
use borrow.Author.Tests.{eq-eqb, ne_eqb}
use Rattle.table.specs.Lines.{form_in}
use Rattle.order_line.proofs.form_in.Goals as goal

pub returns-then-is_empty : goal.returns-then-is_empty
unfolding form_in
returns-then-is_empty c = sym (simp (sym c.is_empty.ensures ∙ c.if-is_empty.true))

pub returns-then-is_ascii_digit : goal.returns-then-is_ascii_digit
unfolding form_in
returns-then-is_ascii_digit c =
    c.number_in.ensures
    ∙ sym (simp (sym c.is_empty.ensures ∙ c.if-is_empty.false, sym c.is_ascii_digit.ensures.value ∙ c.if-is_ascii_digit.true))

pub returns-in-None : goal.returns-in-None
unfolding form_in
returns-in-None c =
    ap Err c.kind_of.ensures
    ∙ sym (simp (
      sym c.is_empty.ensures ∙ c.if-is_empty.false,
      sym c.is_ascii_digit.ensures.value ∙ c.if-is_ascii_digit.false,
      eq-eqb _ _ c.in-None.ensures,
    ))

not_zero : (form number : ℕ) → 0 < form → form ≡ number → number ≡ 0 → ⊥
not_zero form number some e none = omega arith

pub returns-in-Some : goal.returns-in-Some
unfolding form_in
returns-in-Some c =
    sym (simp (
      sym c.is_empty.ensures ∙ c.if-is_empty.false,
      sym c.is_ascii_digit.ensures.value ∙ c.if-is_ascii_digit.false,
      ne_eqb _ _ (not_zero _ _ c.in-Some.ensures.0 c.in-Some.ensures.1),
      ← c.in-Some.ensures.1,
    ))
