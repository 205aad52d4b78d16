-- Posting rows and notices, as values and as their 16 bytes (RULES 11).
use Rattle.std.specs.Prelude.{if◌then◌else◌, ℕ, List, [], ◌∷◌, ◌++◌, get_or}
use Rattle.bits.specs.Bits.{bytes}
use Rattle.bits.specs.Layout.{pack, cut}
use Rattle.rulebook.specs.Movements.{Place, account, type91, type90, cash_of, member0, Movement}
use Rattle.rulebook.specs.declared.Item.{Item}
use Rattle.rulebook.specs.declared.Posting.{Posting}
use Rattle.rulebook.specs.declared.Notice.{Notice}
use Rattle.rulebook.specs.declared.State.{State}
use Rattle.rulebook.specs.declared.State.TheVariants.{Single, Pair, Trade}

-- RULES 11.4: credit, cash, what, member, type, shareholder, number
unfoldable pub posting_widths : List ℕ
posting_widths = 1 ∷ 1 ∷ 14 ∷ 10 ∷ 8 ∷ 30 ∷ 64 ∷ []

unfoldable pub posting_bytes : Posting → List ℕ
posting_bytes p = bytes 16 (pack 0 posting_widths (p.credit ∷ p.cash ∷ p.what ∷ p.member ∷ p.typ ∷ p.shareholder ∷ p.number ∷ []))

-- the posting row that 16 bytes hold
unfoldable pub posting_in : List ℕ → Posting
posting_in row =
    let fields = cut row 0 posting_widths in
    record {
      credit = get_or fields 0 0;
      cash = get_or fields 1 0;
      what = get_or fields 2 0;
      member = get_or fields 3 0;
      typ = get_or fields 4 0;
      shareholder = get_or fields 5 0;
      number = get_or fields 6 0;
    }

-- RULES 11.5 to 11.7
unfoldable pub posting_of : ℕ → Place → ℕ → Posting
posting_of credit (account a) number =
    record { credit = credit; cash = 0; what = a.security; member = a.member; typ = a.typ; shareholder = a.shareholder; number = number }
posting_of credit (type91 security) number =
    record { credit = credit; cash = 0; what = security; member = 0; typ = 91; shareholder = 0; number = number }
posting_of credit (type90 security) number =
    record { credit = credit; cash = 0; what = security; member = 0; typ = 90; shareholder = 0; number = number }
posting_of credit (cash_of member currency) number =
    record { credit = credit; cash = 1; what = currency; member = member; typ = 0; shareholder = 0; number = number }
posting_of credit (member0 currency) number =
    record { credit = credit; cash = 1; what = currency; member = 0; typ = 0; shareholder = 0; number = number }

-- RULES 11.9: kind, deliverer, receiver, the deliver's and the receive's reference, zeros
unfoldable pub notice_widths : List ℕ
notice_widths = 4 ∷ 10 ∷ 10 ∷ 32 ∷ 32 ∷ 40 ∷ []

unfoldable pub notice_bytes : Notice → List ℕ
notice_bytes n = bytes 16 (pack 0 notice_widths (n.kind ∷ n.deliverer ∷ n.receiver ∷ n.deliver_reference ∷ n.receive_reference ∷ 0 ∷ []))

-- the notice that 16 bytes hold
unfoldable pub notice_in : List ℕ → Notice
notice_in row =
    let fields = cut row 0 notice_widths in
    record {
      kind = get_or fields 0 0;
      deliverer = get_or fields 1 0;
      receiver = get_or fields 2 0;
      deliver_reference = get_or fields 3 0;
      receive_reference = get_or fields 4 0;
    }

-- RULES 11.10: the references that a notice tells
unfoldable pub deliver_reference : State → ℕ
deliver_reference (Single delivers reference) = if delivers then reference else 0
deliver_reference (Pair deliver receive dm rm) = deliver
deliver_reference (Trade reference) = reference

unfoldable pub receive_reference : State → ℕ
receive_reference (Single delivers reference) = if delivers then 0 else reference
receive_reference (Pair deliver receive dm rm) = receive
receive_reference (Trade reference) = reference

unfoldable pub notice_of : ℕ → Item → Notice
notice_of kind item = record {
  kind = kind;
  deliverer = item.debited.member;
  receiver = item.credited.member;
  deliver_reference = deliver_reference item.state;
  receive_reference = receive_reference item.state;
}

pub data Row : Type 0 where
  posting : Posting → Row
  notice : Notice → Row

-- RULES 11.4: the debit row of each movement, and its credit row behind it
unfoldable pub posting_rows : List Movement → List Row
posting_rows [] = []
posting_rows (m ∷ rest) = posting (posting_of 0 m.from m.number) ∷ posting (posting_of 1 m.to m.number) ∷ posting_rows rest

unfoldable pub row_bytes : Row → List ℕ
row_bytes (posting p) = posting_bytes p
row_bytes (notice n) = notice_bytes n

-- RULES 11.1: one behind the other
unfoldable pub rows_bytes : List Row → List ℕ
rows_bytes [] = []
rows_bytes (row ∷ rest) = row_bytes row ++ rows_bytes rest
