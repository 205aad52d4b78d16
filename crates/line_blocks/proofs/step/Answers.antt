-- `line_blocks::step` meets its contract. Assumes nothing.
use Rattle.std.proofs.Common.{◌≡◌, ℕ, Option, Some, None, Ok, Err, refl, sym, ap, ◌∙◌}
use Rattle.std.specs.Option.{option_or}
use Rattle.table.specs.Blocks.{first_empty, step_row, step_of, step_written}
use Rattle.line_blocks.proofs.step.Goals as goal

or_first : (empty : Option ℕ) (line : ℕ) → option_or empty (Some line) ≡ first_empty empty line
or_first None line = refl
or_first (Some empty) line = refl

pub returns-then-is_empty : goal.returns-then-is_empty
unfolding step_of step_written
returns-then-is_empty c =
    let empty = sym c.is_empty.ensures ∙ c.if-is_empty.true in
    record {
      value = ap (λ (e : Option ℕ). Ok (record { empty = e; wrote = 0 })) (c.or.ensures ∙ or_first c.args.empty c.args.number) ∙ sym (simp empty);
      out_after = sym (simp empty);
    }

pub returns-in-Some : goal.returns-in-Some
unfolding step_of step_written
returns-in-Some c =
    let full = sym c.is_empty.ensures ∙ c.if-is_empty.false in
    record {
      value = ap Err c.empty_line.ensures ∙ sym (simp (full, c.in-Some.is));
      out_after = sym (simp (full, c.in-Some.is));
    }

pub returns-in-Ok : goal.returns-in-Ok
unfolding step_row step_of step_written
returns-in-Ok c =
    let full = sym c.is_empty.ensures ∙ c.if-is_empty.false in
    record {
      value = sym (simp (full, c.in_default.is, sym c.write_row.ensures.value ∙ c.in-Ok.is));
      out_after = c.write_row.ensures.out_after ∙ sym (simp (full, c.in_default.is, ← c.write_row.ensures.value));
    }

pub returns-in-Err : goal.returns-in-Err
unfolding step_row step_of step_written
returns-in-Err c =
    let full = sym c.is_empty.ensures ∙ c.if-is_empty.false in
    record {
      value = sym (simp (full, c.in_default.is, sym c.write_row.ensures.value ∙ c.in-Err.is));
      out_after = c.write_row.ensures.out_after ∙ sym (simp (full, c.in_default.is, ← c.write_row.ensures.value));
    }
