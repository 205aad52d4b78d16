-- The lines of rows (RULES 17.4, 17.5): what a posting row and a notice say in words.
use Rattle.std.specs.Prelude.{if◌then◌else◌, ℕ, ◌/◌, ◌%◌, List, [], ◌∷◌, ◌++◌}
use Rattle.plain.specs.Lists.{◌is◌}
use Rattle.rulebook.specs.declared.Notice.{Notice}
use Rattle.rulebook.specs.declared.Posting.{Posting}
use Rattle.text.specs.Text.{text}
use Rattle.wording.specs.Fill.{line}

-- which side a posting row is
unfoldable pub side_word : (credit : ℕ) → List ℕ
side_word credit = if credit is 1 then text "  credit " else text "  debit "

-- RULES 11.7: a member's cash, or cash outside, in units with two decimals
unfoldable pub cash_part : Posting → List ℕ
cash_part p =
    if p.member is 0 then line "$ OUTSIDE #.##\n" (p.what ∷ p.number / 100 ∷ p.number % 100 / 10 ∷ p.number % 10 ∷ [])
    else line "$ member # amount #.##\n" (p.what ∷ p.member ∷ p.number / 100 ∷ p.number % 100 / 10 ∷ p.number % 10 ∷ [])

-- RULES 11.5, 11.6: an account, or the issued or the outside count
unfoldable pub shares_part : Posting → List ℕ
shares_part p =
    if p.typ is 90 then line "security # ISSUED #\n" (p.what ∷ p.number ∷ [])
    else if p.typ is 91 then line "security # OUTSIDE #\n" (p.what ∷ p.number ∷ [])
    else line "security # member # type # shareholder # quantity #\n" (p.what ∷ p.member ∷ p.typ ∷ p.shareholder ∷ p.number ∷ [])

-- RULES 17.4
unfoldable pub posting_line : Posting → List ℕ
posting_line p = side_word p.credit ++ (if p.cash is 1 then cash_part p else shares_part p)

-- RULES 17.5
unfoldable pub notice_line : Notice → List ℕ
notice_line n =
    line "  notice, *: deliverer # reference #, receiver # reference #\n"
    (n.kind ∷ n.deliverer ∷ n.deliver_reference ∷ n.receiver ∷ n.receive_reference ∷ [])
