-- `first_line::columns` meets its contract: the columns passed have their fields. Assumes nothing.
use Rattle.std.proofs.Common.{◌≡◌, ℕ, List, ◌+◌, ◌≤◌, ◌<◌, Bool, rules, arith, sym, ap, ◌∙◌, length, take, get_or, nat_eq, Err, length-set}
use Rattle.std.specs.List.{list_any}
use Rattle.cells.specs.declared.kind.Kind.{Kind}
use Rattle.table.specs.Header.{no_place, wrong, name_kind}
use borrow.Author.Tests.{tests}
use Rattle.std.proofs.lemmas.Iterator.Splits.{YieldsList-from_slice_split}
use Rattle.std.proofs.lemmas.Iterator.Consumers.{YieldsList-turn, YieldsList-end}
use Rattle.std.proofs.lemmas.List.{length_push}
use Rattle.cells.specs.Cells.{comma, cells, trim}
use Rattle.cells.proofs.Splits.{cells-split}
use Rattle.names.specs.Numbers.{field_place}
use Rattle.plain.specs.Lists.{◌one_of◌}
use Rattle.table.proofs.Meaning.{place-most}
use Rattle.first_line.proofs.Heading.{contained, known_more, line-done, column_many, column_strange, column_twice, column_taken}
use Rattle.first_line.proofs.columns.Goals as goal
use Rattle.first_line.proofs.columns.Goals.{In-Some, In-Some-field_place}

-- the cell of this turn is the next of the line's
turn : (c : In-Some) → (c.loop-cell.count < length (cells c.args.line.now)) × (c.in-Some.cell.now ≡ get_or (cells c.args.line.now) c.loop-cell.count c.in-Some.cell.now)
turn c =
    let t =
    YieldsList-turn (YieldsList-from_slice_split _ (λ b. nat_eq b comma) c.args.line.now (cc) (cc) (cc) (λ x b q k. search (rules, tests))) c.loop-cell.yielded _
    c.loop-cell.yielded_by _ _ c.in-Some.cell c.in-Some.is c.next.ensures.steps
    in
    rw (c.loop-cell.invariant.passed, ← cells-split c.args.line.now) t

-- its name, and the field of that
place_of : {place : ℕ} {name text : List ℕ} → place ≡ field_place name → name ≡ text → place ≡ field_place text
place_of e f = e ∙ ap field_place f

is_field : (c : In-Some-field_place) → field_place (trim c.in-Some.cell.now) ≡ 18 → ⊥
is_field c e = omega (arith, c.in-Some-field_place.ensures.0, place_of c.in-Some-field_place.ensures.1 c.trimmed-name.ensures)

-- a name that means no field
strange : {name text : List ℕ} → 18 ≤ field_place name → name ≡ text → field_place text ≡ 18
strange {text = text} h e = let most = place-most text in let at : 18 ≤ field_place text = rw (← e) h in omega arith

-- whether a column before has it
among : (c : In-Some-field_place) → (t : Bool) → list_any (λ p. nat_eq p c.in-Some-field_place.place) (take c.loop-cell.count c.loop-cell.places) ≡ t
    → field_place (trim c.in-Some.cell.now) one_of take c.loop-cell.count c.loop-cell.places ≡ t
among c t e =
    ap (λ (n : ℕ). n one_of take c.loop-cell.count c.loop-cell.places) (sym (place_of c.in-Some-field_place.ensures.1 c.trimmed-name.ensures))
    ∙ sym (contained (take c.loop-cell.count c.loop-cell.places) c.in-Some-field_place.place) ∙ e

pub returns-then-count-ge18 : goal.returns-then-count-ge18
returns-then-count-ge18 c =
    ap Err c.wrong.ensures
    ∙ column_many c.loop-cell.places c.loop-cell.count _ _ c.loop-cell.invariant.read (omega arith) _ (turn (goal.at.returns-then-count-ge18 c).In-Some)
    c.if-count-ge18.true

pub returns-in_default : goal.returns-in_default
returns-in_default c =
    ap Err (c.wrong-in_default.ensures ∙ ap (λ (k : Kind). wrong k (c.loop-cell.count + 1) no_place) (c.name_kind.ensures ∙ ap name_kind c.trimmed-name.ensures))
    ∙ column_strange c.loop-cell.places c.loop-cell.count _ _ c.loop-cell.invariant.read (omega arith) _ (turn (goal.at.returns-in_default c).In-Some)
    c.if-count-ge18.false (strange c.in_default.ensures c.trimmed-name.ensures)

pub returns-then-contains : goal.returns-then-contains
returns-then-contains c =
    let known = (goal.at.returns-then-contains c).In-Some-field_place in
    ap Err c.wrong-then-contains.ensures
    ∙ column_twice c.loop-cell.places c.loop-cell.count _ _ c.loop-cell.invariant.read (omega arith) _ (turn (goal.at.returns-then-contains c).In-Some)
    c.if-count-ge18.false (is_field known) (among known _ (sym c.contains.ensures.value ∙ c.if-contains.true))

pub loop-cell-preserved : goal.loop-cell-preserved
loop-cell-preserved c =
    let known = (goal.at.loop-cell-preserved c).In-Some-field_place in
    let place = place_of c.in-Some-field_place.ensures.1 c.trimmed-name.ensures in
    record {
      few = omega arith;
      long = length-set c.loop-cell.places c.loop-cell.count c.in-Some-field_place.place ∙ c.loop-cell.invariant.long;
      passed = omega (arith, length_push c.loop-cell.yielded c.in-Some.cell);
      known = known_more c.loop-cell.places c.loop-cell.count c.in-Some-field_place.place (omega arith)
          c.in-Some-field_place.ensures.0 c.loop-cell.invariant.known;
      read = rw place (column_taken c.loop-cell.places c.loop-cell.count _ _ c.loop-cell.invariant.read (omega arith) _
          (turn (goal.at.loop-cell-preserved c).In-Some) c.if-count-ge18.false (is_field known)
          (among known _ (sym c.contains.ensures.value ∙ c.if-contains.false)));
    }

pub returns : goal.returns
returns c =
    let t =
    YieldsList-end (YieldsList-from_slice_split _ (λ b. nat_eq b comma) c.args.line.now (cc) (cc) (cc) (λ x b q k. search (rules, tests))) c.loop-cell.yielded _
    c.loop-cell.yielded_by _ _ c.in-None.is c.next.ensures.steps
    in
    c.with_needed.ensures
    ∙ line-done c.loop-cell.places c.loop-cell.count _ _ c.loop-cell.invariant.read (omega arith)
    (omega (arith, c.loop-cell.invariant.passed, t.1, ap length (cells-split c.args.line.now)))
