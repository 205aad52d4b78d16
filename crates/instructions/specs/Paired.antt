-- The pair that an arriving single makes with the one that waits.
use Rattle.std.specs.Prelude.{if◌then◌else◌}
use Rattle.rulebook.specs.Waiting.{is_deliver}
use Rattle.rulebook.specs.Matching.{pair_of}
use Rattle.rulebook.specs.declared.Item.{Item}

unfoldable pub paired : (arriving waits : Item) → Item
paired arriving waits = if is_deliver waits.state then pair_of waits arriving else pair_of arriving waits
