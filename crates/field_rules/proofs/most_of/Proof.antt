-- `field_rules::most_of` meets its contract: no row but those of forms 1 and 21 has a field with less than its place allows. Assumes nothing.
use mathlib.Core.Path.{◌≡◌, refl, sym, ap₂, ◌∙◌}
use mathlib.Core.Bool.{Bool, true, false, not, ◌&&◌, ◌||◌, and-false}
use mathlib.Core.List.{List, [], ◌∷◌, ◌++◌, map}
use Prim.Native.Nat.{ℕ}
use borrow.Author.Rules.{rules}
use borrow.Author.Tests.{eqb-true}
use Rattle.plain.specs.Lists.{◌is◌, ◌is_not◌, some}
use Rattle.rulebook.specs.Field.{places, widths, ceiling, always, rule_in}
use Rattle.rulebook.specs.Forms.{Form, forms, row_of, most}
use Rattle.rulebook.proofs.ByCall.{by_test_lem}
use Rattle.field_rules.proofs.most_of.Statement.{statement}
use Rattle.field_rules.proofs.most_of.Tie as tie

-- a form whose quantity is not one of two has a most of its own at some place
abbrev one_of_two : ℕ → Bool
one_of_two n = n is 1 || n is 21

lower : ℕ → Form → Bool
lower n f = not (one_of_two n) && some (λ place. (rule_in (always ++ f.fields) place).most is_not ceiling place) places

map_same : (f g : ℕ → ℕ) (l : List ℕ) → some (λ x. f x is_not g x) l ≡ false → map f l ≡ map g l
map_same f g [] e = refl
map_same f g (x ∷ rest) e =
    ap₂ ◌∷◌ (eqb-true (f x) (g x) (first (f x is g x) (some (λ y. f y is_not g y) rest) e).0)
    (map_same f g rest (first (f x is g x) (some (λ y. f y is_not g y) rest) e).1)
  where
    first : (a b : Bool) → (not a || b) ≡ false → (a ≡ true) × (b ≡ false)
    first true b h = (refl, h)
    first false b h = (cc, cc)

most-is : (n : ℕ) → one_of_two n ≡ false → map (most n) places ≡ map ceiling places
unfolding most lower
most-is n e = map_same (most n) ceiling places (simp e at by-table)
  where
    by-table : lower n (row_of n) ≡ false
    by-table = unfold lower forms ceiling widths places in by_test_lem lower refl (λ m. and-false (not (one_of_two m))) n

-- and those two have the same
most-of-two : (n : ℕ) → one_of_two n ≡ true → map (most n) places ≡ map (most 1) places
unfolding places widths ceiling most forms row_of
most-of-two n e = go (n is 1) refl e
  where
    go : (t : Bool) → (n is 1) ≡ t → (t || n is 21) ≡ true → map (most n) places ≡ map (most 1) places
    go true f g = rw (eqb-true n 1 f)
    go false f g = rw (eqb-true n 21 g)

returns : tie.Need-returns-then-is_one_of_two
unfolding places widths ceiling most forms row_of
returns c = sym (most-of-two c.before.before.args.form (sym c.before.is_one_of_two.ensures ∙ c.if-is_one_of_two.true))

returns-2 : tie.Need-returns
unfolding places widths ceiling
returns-2 c = sym (most-is _ (sym c.before.is_one_of_two.ensures ∙ c.if-is_one_of_two.false))

pub most_of_spec : {M : Type 1} → statement M
most_of_spec = tie.close (tie.spec (λ c κs. search rules) (λ c. search rules) returns returns-2)
