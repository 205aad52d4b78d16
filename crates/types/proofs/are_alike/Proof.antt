-- `types::are_alike` meets its contract. Assumes nothing.
use mathlib.Core.Path.{◌≡◌, refl, sym, ◌∙◌}
use mathlib.Core.Bool.{Bool, true, false, not, ◌&&◌, beq, true≢false, false≢true}
use borrow.Author.Rules.{rules}
use Rattle.rulebook.specs.TypeTable.{type_row}
use Rattle.rulebook.specs.AccountTypes.{is_free, alike}
use Rattle.types.proofs.are_alike.Statement.{statement}
use Rattle.types.proofs.are_alike.Tie as tie

-- f and g: the two are free; p and q: they are physical
entries : (f p g q : Bool) → (f && not p) ≡ true → (g && not q) ≡ (f && g && beq p q)
entries true true g q e = absurd (false≢true e)
entries true false g true e = refl
entries true false g false e = refl
entries false p g q e = absurd (false≢true e)

physicals : (f p g q : Bool) → (f && not p) ≡ false → (f && p && (g && q)) ≡ (f && g && beq p q)
physicals true true g true e = refl
physicals true true g false e = refl
physicals true false g q e = absurd (true≢false e)
physicals false p g q e = refl

returns : tie.Need-returns-then-is_book_entry
unfolding alike
returns c =
    let first = c.before.before in
    let a = first.before.args.a in
    let b = first.before.args.b in
    c.is_book_entry-then-is_book_entry.ensures
    ∙ entries (is_free a) (type_row a).physical (is_free b) (type_row b).physical (sym first.is_book_entry.ensures ∙ c.before.if-is_book_entry.true)

returns-2 : tie.Need-returns
unfolding alike
returns-2 c =
    let first = c.before.before.before in
    let a = first.before.args.a in
    let b = first.before.args.b in
    rw (c.before.is_physical.ensures, c.is_physical-2.ensures)
    (physicals (is_free a) (type_row a).physical (is_free b) (type_row b).physical (sym first.is_book_entry.ensures ∙ c.before.before.if-is_book_entry.false))

pub are_alike_spec : {M : Type 1} → statement M
are_alike_spec = tie.close (tie.spec (λ c κs. search rules) (λ c κs. search rules) returns (λ c κs. search rules) (λ c κs. search rules) returns-2)
