-- The tables of a page. No script, and nothing from elsewhere.
use Rattle.std.specs.Prelude.{ℕ, Bool, List, ◌++◌}
use Rattle.text.specs.Text.{text}
use Rattle.text_or_page.specs.Written.{in_page}

abbrev pub table_foot : List ℕ
table_foot = text "</tbody>\n</table>\n"

-- in a page, rows stand in a table
unfoldable pub table_of : (page : Bool) → (head rows : List ℕ) → List ℕ
table_of page head rows = in_page page head ++ rows ++ in_page page table_foot
