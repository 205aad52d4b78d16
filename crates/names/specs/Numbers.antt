-- The field and the form that a name means.
use Rattle.std.specs.Prelude.{if◌then◌else◌, ℕ, suc, List, map, length}
use Rattle.plain.specs.Lists.{◌below◌}
use Rattle.rulebook.specs.Forms.{forms}
use Rattle.rulebook.specs.Names.{field_names}
use Rattle.text.specs.Text.{text}
use Rattle.text.specs.Parts.{place_in}

-- the place of the field with this name, exactly so written; how many fields there are, where it is none
unfoldable pub field_place : List ℕ → ℕ
field_place name = place_in (map text field_names) name

-- the number of the form with this name, exactly so written; 0 where it is none
unfoldable pub form_number : List ℕ → ℕ
form_number name =
    let place = place_in (map (λ form. text form.name) forms) name in
    if place below length forms then suc place else 0
