-- Marks put onto the items of a waiting list, and read from them.
use Rattle.std.specs.Prelude.{List, map}
use Rattle.rulebook.specs.Waiting.{with_sent}
use Rattle.rulebook.specs.declared.Item.{Item}
use Rattle.marks.specs.Marks.{Marked}

unfoldable pub bearing : List Marked → List Item
bearing = map (λ m. with_sent m.0 m.1)

unfoldable pub borne : List Item → List Marked
borne = map (λ item. (item.sent, item))
