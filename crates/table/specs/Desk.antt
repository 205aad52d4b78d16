-- Tables as a clerk sees them, and what they import as.
use Prim.Native.String.{String}
use Rattle.std.specs.Prelude.{ℕ, List, [], ◌∷◌, ◌++◌, ◌≡◌}
use Rattle.plain.specs.Lists.{Each}
use Rattle.rulebook.specs.Field.{minute, security, quantity, amount}
use Rattle.rulebook.specs.Record.{order_of}
use Rattle.rulebook.specs.declared.Order.{Order}
use Rattle.text.specs.Text.{text}
use Rattle.cells.specs.declared.kind.Kind.TheVariants.{NoHeader, UnknownName, RepeatedName, MinuteMissing, TooFewCells, TooManyCells}
use Rattle.cells.specs.declared.kind.Kind.TheVariants.{EmptyCell, NotANumber, TooLarge, Quoted, UnknownForm, EmptyLine, Record}
use Rattle.table.specs.Header.{no_place}
use Rattle.table.specs.Lines.{Imported, refused_at}
use Rattle.table.specs.Lines.Imported.{orders}
use Rattle.table.specs.Import.{mark, import_of}

-- open the day, kind 1, at 470; admit 101, 1,000 at 500; confirm a cycle at 590
abbrev pub opening : Order
opening = order_of (1 ∷ 470 ∷ 0 ∷ 0 ∷ 0 ∷ 0 ∷ 0 ∷ 0 ∷ 0 ∷ 0 ∷ 1 ∷ [])

abbrev pub admission : Order
admission = order_of (2 ∷ 500 ∷ 101 ∷ 0 ∷ 0 ∷ 0 ∷ 0 ∷ 0 ∷ 0 ∷ 0 ∷ 1000 ∷ [])

abbrev pub confirmation : Order
confirmation = order_of (21 ∷ 590 ∷ 0 ∷ 0 ∷ 0 ∷ 0 ∷ 0 ∷ 0 ∷ 0 ∷ 0 ∷ 1 ∷ [])

-- a table, by what it shows, and what it imports as
abbrev pub shown : String → List ℕ → Imported → List ℕ × Imported
shown what table result = (table, result)

unfoldable pub tables : List (List ℕ × Imported)
tables =
    shown "two orders" (text "form,minute,security,quantity\n1,470,0,1\n2,500,101,1000\n") (orders (opening ∷ admission ∷ []))
    ∷ shown "other order" (text "quantity,form,security,minute\n1,1,0,470\n1000,2,101,500\n") (orders (opening ∷ admission ∷ []))
    ∷ shown "forms by name" (text "form,minute,security,quantity\nopen day,470,0,1\nadmit,500,101,1000\n") (orders (opening ∷ admission ∷ []))
    ∷ shown "an answer" (text "form,minute,quantity\nanswer cycle,590,1\n21,590,1\n") (orders (confirmation ∷ confirmation ∷ []))
    ∷ shown "spaces and returns" (text "form, minute, quantity\r\n open day ,\t470, 1\r\n") (orders (opening ∷ []))
    ∷ shown "no last end" (text "form,minute,quantity\n1,470,1") (orders (opening ∷ []))
    ∷ shown "byte order mark" (mark ++ text "form,minute,quantity\n1,470,1\n") (orders (opening ∷ []))
    ∷ shown "names alone" (text "form,minute\n") (orders [])
    ∷ shown "empty lines last" (text "form,minute,quantity\n1,470,1\n\r\n \n\n") (orders (opening ∷ []))
    ∷ shown "nothing" (text "") (refused_at NoHeader 1 0 no_place)
    ∷ shown "no names" (text "\nform,minute\n") (refused_at EmptyLine 1 0 no_place)
    ∷ shown "one column more" (text "form,minute,quantity,certificate\n1,470,1,77\n") (refused_at UnknownName 1 4 no_place)
    ∷ shown "another case" (text "Form,minute\n1,470\n") (refused_at UnknownName 1 1 no_place)
    ∷ shown "no name" (text "form,minute,\n1,470,\n") (refused_at EmptyCell 1 3 no_place)
    ∷ shown "name twice" (text "form,minute,form\n1,470,1\n") (refused_at RepeatedName 1 3 no_place)
    ∷ shown "no minute" (text "form,quantity\n1,1\n") (refused_at MinuteMissing 1 0 no_place)
    ∷ shown "quoted name" (text "\"form\",\"minute\"\n1,470\n") (refused_at Quoted 1 1 no_place)
    ∷ shown "one cell more" (text "form,minute,quantity\n1,470,1\n1,470,1,9\n") (refused_at TooManyCells 3 4 no_place)
    ∷ shown "one cell less" (text "form,minute,quantity\n1,470\n") (refused_at TooFewCells 2 3 quantity)
    ∷ shown "empty line" (text "form,minute,quantity\n1,470,1\n\n\n1,470,1\n") (refused_at EmptyLine 3 0 no_place)
    ∷ shown "a remark" (text "form,minute,quantity\n# opening\n1,470,1\n") (refused_at UnknownForm 2 1 0)
    ∷ shown "nothing there" (text "form,minute,quantity\n1,470,\n") (refused_at (Record 5) 2 3 quantity)
    ∷ shown "nothing unused" (text "form,minute,quantity,amount\n1,470,1,\n") (orders (opening ∷ []))
    ∷ shown "no minute there" (text "form,minute\nclose, \n") (refused_at EmptyCell 2 2 minute)
    ∷ shown "a sign" (text "form,minute,quantity\n1,470,-1\n") (refused_at NotANumber 2 3 quantity)
    ∷ shown "a quote" (text "form,minute,quantity\n1,470,\"1\"\n") (refused_at Quoted 2 3 quantity)
    ∷ shown "a quoted form" (text "form,minute\n\"close\",470\n") (refused_at Quoted 2 1 0)
    ∷ shown "no such name" (text "form,minute\nopen,470\n") (refused_at UnknownForm 2 1 0)
    ∷ shown "below the limit" (text "form,minute,quantity\n1,470,18446744073709551615\n") (refused_at (Record 5) 2 3 quantity)
    ∷ shown "at the limit" (text "form,minute,quantity\n1,470,18446744073709551616\n") (refused_at TooLarge 2 3 quantity)
    ∷ shown "no such form" (text "form,minute,quantity\n22,470,1\n") (refused_at (Record 3) 2 1 0)
    ∷ shown "a third answer" (text "form,minute,quantity\nanswer cycle,590,3\n") (refused_at (Record 5) 2 3 quantity)
    ∷ shown "unused field" (text "form,minute,quantity,amount\n1,470,1,5\n") (refused_at (Record 4) 2 4 amount)
    ∷ shown "used field missing" (text "form,minute\nadmit,500\n") (refused_at (Record 5) 2 0 security)
    ∷ []

unfoldable pub Tables : Type 0
Tables = Each (λ table. import_of table.0 ≡ table.1) tables
