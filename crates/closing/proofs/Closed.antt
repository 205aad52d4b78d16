-- Close on a book of words: the first i items are dealt with, j of them stay. Assumes nothing.
use Prim.Native.Nat.{ℕ, ◌+◌, ◌-◌, ◌*◌, ◌≤◌, ◌<◌, ◌^◌}
use native.Mathlib.Numerals.{add-one}
use native.Mathlib.Omega.{arith}
use mathlib.Core.List.{List, [], ◌∷◌, ◌++◌}
use mathlib.Core.Path.{◌≡◌, refl, sym, ap, subst, ◌∙◌}
use borrow.Rule.Slice.PartMut.{mid_of, put_mid}
use lib.ListN.{length, get_or, set, take, drop, length-set, length-drop, length-append}
use lib.Seq.{length-take-le, take-suc, take-suc-set, take_all, drop-set-lt, drop-drop, get_or-drop}
use Rattle.rulebook.specs.Ledger.{Ledger, put_day, put_waiting, closing}
use Rattle.rulebook.specs.Premise.{ItemFits, today}
use Rattle.rulebook.specs.Waiting.{sides, unmarked}
use Rattle.rulebook.specs.Close.{close_kind, close_notice, deleted_at_close, suspended_at_close}
use Rattle.rulebook.specs.Rows.{Row, notice, notice_of, rows_bytes}
use Rattle.rulebook.specs.Forms.{counts, outcome, close}
use Rattle.rulebook.specs.declared.Counts.{Counts}
use Rattle.rulebook.specs.declared.Day.{Day}
use Rattle.rulebook.specs.declared.Item.{Item}
use Rattle.rulebook.specs.declared.Order.{Order}
use Rattle.rulebook.proofs.ByIndex.{item-at}
use Rattle.rows.specs.Widths.{NoticeFits}
use Rattle.rows.proofs.Area.{behind}
use Rattle.book.specs.Meaning.{ledger_of}
use Rattle.book.specs.Stored.{Kept, Means}
use Rattle.book.specs.Handled.{Handled}
use Rattle.book.proofs.Parts.{next}
use Rattle.closing.specs.Closing.{kept, notices, close_counts, counted_one, CanCount, items_closed}
use Rattle.rows.proofs.Notices.{notice-fits}
use Rattle.rows.proofs.RowBytes.{rows-length, rows_append}
use Rattle.closing.proofs.Closing.{kind_most, kept-one, notices-same, counts_same, kept_same, notices-one, counted-one, rows-most, counted-most}

module _ (day : ℕ) (start free : List ℕ) where
  abbrev b : Ledger
  b = ledger_of start

  -- the first i items
  abbrev passed : ℕ → List Item
  passed i = take i b.waiting

  -- rows at the start of the area, the bytes after them kept
  abbrev row-bytes : List Row → List ℕ
  row-bytes rows = rows_bytes rows ++ drop (16 * length rows) free

  pub record Closing (book area : List ℕ) (c : Counts) (j i : ℕ) : Type 0 where
    pub now : List Item
    pub within : i ≤ length b.waiting
    pub up : j ≤ i
    pub means : Means book (put_waiting now b)
    pub long : length now ≡ length b.waiting
    pub made : take j now ≡ kept day (passed i)
    pub ahead : drop i now ≡ drop i b.waiting
    pub counted : c ≡ close_counts day (passed i)
    pub written : area ≡ row-bytes (notices day (passed i))

  pub none_closed : Kept start → (c : Counts) → c ≡ counts 0 0 0 0 0 0 → Closing start free c 0 0
  unfolding put_waiting rows_bytes sides
  none_closed k c e = record {
    now = b.waiting;
    within = omega arith;
    up = omega arith;
    means = record { stored = k.stored; ledger = refl };
    long = refl;
    made = refl;
    ahead = refl;
    counted = e;
    written = refl;
  }

  -- at equal values
  pub closing_so :
      {book book' area area' : List ℕ} {c c' : Counts} {j j' i : ℕ} → book' ≡ book → area' ≡ area → c' ≡ c → j' ≡ j
      → Closing book area c j i → Closing book' area' c' j' i
  closing_so p q r s w = rw (p, q, r, s) w

  module _ (start-kept : Kept start) (room : 4096 ≤ length free) {book area : List ℕ} {c : Counts} {j i : ℕ} (w : Closing book area c j i) where
    pub items_there : length (ledger_of book).waiting ≡ length b.waiting
    unfolding put_waiting
    items_there = ap (λ (x : Ledger). length x.waiting) w.means.ledger ∙ w.long

    -- the notices so far, at most one for each item passed
    rows-here : c.rows ≡ length (notices day (passed i))
    unfolding counts
    rows-here = ap (λ (x : Counts). x.rows) w.counted

    passed_long : length (passed i) ≡ i
    passed_long = length-take-le i b.waiting w.within

    pub rows_few : c.rows ≤ 64
    rows_few = omega (arith, rows-here, rows-most day (passed i), passed_long, w.within, start-kept.premise.sizes.items)

    pub area_long : length area ≡ length free
    area_long = ap length w.written ∙ simp (length-append, rows-length, length-drop) (omega (arith, rows-here, rows_few))

    pub row_room : 16 * c.rows + 16 ≤ length area
    row_room = omega (arith, rows_few, area_long)

    pub can_count : CanCount c
    unfolding counts
    can_count =
        let deleted : c.deleted ≡ sides _ = ap (λ (x : Counts). x.deleted) w.counted in
        let suspended : c.suspended ≡ sides _ = ap (λ (x : Counts). x.suspended) w.counted in
        let few = start-kept.premise.sizes.items in
        let d = counted-most day (deleted_at_close day) (passed i) in
        let s = counted-most day (suspended_at_close day) (passed i) in
        record {
          rows = omega (arith, rows_few);
          deleted = omega (arith, deleted, d, passed_long, w.within, few);
          suspended = omega (arith, suspended, s, passed_long, w.within, few);
        }

    -- the item that is read next
    module _ (more : i < length b.waiting) {x : Item} (read : (d : Item) → x ≡ get_or (ledger_of book).waiting i d) where
      here : x ≡ get_or b.waiting i x
      unfolding put_waiting
      here =
          let z : i ≡ i + 0 = omega arith in
          let at : (l : List Item) → get_or l i x ≡ get_or (drop i l) 0 x = λ l. ap (λ (k : ℕ). get_or l k x) z ∙ sym (get_or-drop i l 0 x) in
          read x ∙ ap (λ (l : Ledger). get_or l.waiting i x) w.means.ledger ∙ at w.now
          ∙ ap (λ (l : List Item). get_or l 0 x) w.ahead ∙ sym (at b.waiting)

      one_more : passed (i + 1) ≡ passed i ++ (x ∷ [])
      one_more = ap passed (add-one i) ∙ take-suc b.waiting i x more ∙ ap (λ (y : Item). passed i ++ (y ∷ [])) (sym here)

      pub next_fits : ItemFits b.day.number (today b.day) b.holdings x
      next_fits = subst (ItemFits b.day.number (today b.day) b.holdings) (sym here) (item-at b (start-kept.premise) i x more)

      pub settles-soon : x.settlement_day < 2 ^ 63
      settles-soon = omega (arith, next_fits.days.settles_most, start-kept.premise.day.number)

      -- what lies ahead of it is as it was
      further : drop (i + 1) w.now ≡ drop (i + 1) b.waiting
      further = sym (drop-drop 1 i w.now) ∙ ap (drop 1) w.ahead ∙ drop-drop 1 i b.waiting

      pub one_stays :
          close_kind day x ≡ 0 → (y : Item) → y ≡ unmarked x → (after : List ℕ) → Means after (put_waiting (set (ledger_of book).waiting j y) (ledger_of book))
          → Closing after area c (j + 1) (i + 1)
      unfolding put_waiting
      one_stays e y u after m = record {
        now = set w.now j y;
        within = omega arith;
        up = omega (arith, w.up);
        means = next (λ l. put_waiting (set l.waiting j y) l) w.means m;
        long = length-set w.now j y ∙ w.long;
        made =
            ap (λ (k : ℕ). take k (set w.now j y)) (add-one j) ∙ take-suc-set w.now j y (omega (arith, w.up, w.long))
            ∙ ap (λ (l : List Item). l ++ (y ∷ [])) w.made
            ∙ ap (λ (z : Item). kept day (passed i) ++ (z ∷ [])) u ∙ sym (kept-one day (passed i) x e) ∙ ap (kept day) (sym one_more);
        ahead = drop-set-lt (i + 1) w.now j y (omega (arith, w.up)) ∙ further;
        counted = w.counted ∙ sym (counts_same day (passed i) x e) ∙ ap (close_counts day) (sym one_more);
        written = w.written ∙ ap row-bytes (sym (notices-same day (passed i) x e) ∙ ap (notices day) (sym one_more));
      }

      pub one_leaves :
          (close_kind day x ≡ 0 → ⊥) → (kind : ℕ) → kind ≡ close_kind day x → (part : List ℕ)
          → part ≡ rows_bytes (notice (notice_of kind x) ∷ []) ++ drop 16 (mid_of (16 * c.rows) (length area - 16 * c.rows) area)
          → (d : Counts) → d ≡ counted_one c kind x.state
          → Closing book (put_mid (16 * c.rows) (length area - 16 * c.rows) area part) d j (i + 1)
      unfolding close_notice
      one_leaves out kind k part p d e =
          let rows = notices day (passed i) in
          let row : Row = notice (notice_of kind x) in
          let rows_then : rows ++ (row ∷ []) ≡ notices day (passed (i + 1)) =
          ap (λ (n : ℕ). rows ++ (notice (notice_of n x) ∷ [])) k ∙ sym (notices-one day (passed i) x out) ∙ ap (notices day) (sym one_more)
          in
          let far : 16 * c.rows + 16 ≡ 16 * length (rows ++ (row ∷ [])) = simp length-append (omega (arith, rows-here)) in
          record {
            now = w.now;
            within = omega arith;
            up = omega (arith, w.up);
            means = w.means;
            long = w.long;
            made = w.made ∙ sym (kept_same day (passed i) x out) ∙ ap (kept day) (sym one_more);
            ahead = further;
            counted =
                e ∙ ap (λ (n : ℕ). counted_one c n x.state) k ∙ ap (λ (y : Counts). counted_one y (close_kind day x) x.state) w.counted
                ∙ sym (counted-one day (passed i) x out) ∙ ap (close_counts day) (sym one_more);
            written =
                behind free area part (rows_bytes rows) (rows_bytes (row ∷ [])) (16 * c.rows) 16
                (w.written ∙ ap (λ (n : ℕ). rows_bytes rows ++ drop (16 * n) free) (sym rows-here))
                (rows-length rows ∙ ap (λ (n : ℕ). 16 * n) (sym rows-here)) (rows-length (row ∷ [])) (omega (arith, rows_few)) p
                ∙ ap (λ (l : List ℕ). l ++ drop (16 * c.rows + 16) free) (sym (rows_append rows (row ∷ [])))
                ∙ ap (λ (n : ℕ). rows_bytes (rows ++ (row ∷ [])) ++ drop n free) far
                ∙ ap row-bytes rows_then;
          }

      pub leaving-fits : (kind : ℕ) → kind ≡ close_kind day x → NoticeFits (notice_of kind x)
      leaving-fits kind e = notice-fits _ _ _ x kind (omega (arith, e, kind_most day x)) next_fits

    pub all_closed :
        length b.waiting ≤ i → (after : List ℕ) → Means after (put_waiting (take j (ledger_of book).waiting) (ledger_of book))
        → Handled (items_closed day b) after free area c
    unfolding items_closed put_waiting
    all_closed done after m =
        let all : passed i ≡ b.waiting = take_all i b.waiting done in
        record {
          stored = m.stored;
          ledger = (next (λ l. put_waiting (take j l.waiting) l) w.means m).ledger ∙ ap (λ (l : List Item). put_waiting l b) (w.made ∙ ap (kept day) all);
          counted = w.counted ∙ ap (close_counts day) all;
          written = w.written ∙ ap row-bytes (ap (notices day) all);
        }

-- ---- then the day is closed

pub day_closed :
    (book : List ℕ) (order : Order) (d : Day) (mid after free area : List ℕ) (c : Counts) → d ≡ (ledger_of book).day
    → Handled (items_closed d.number (ledger_of book)) mid free area c → Means after (put_day (closing d) (ledger_of mid))
    → Handled (close (ledger_of book) order) after free area c
unfolding close outcome items_closed put_day put_waiting
day_closed book order d mid after free area c e h m =
    let items = subst (λ (x : Day). Handled (items_closed x.number (ledger_of book)) mid free area c) e h in
    record {
      stored = m.stored;
      ledger = m.ledger ∙ ap (λ (x : Day). put_day (closing x) (ledger_of mid)) e ∙ ap (put_day (closing (ledger_of book).day)) items.ledger;
      counted = items.counted;
      written = items.written;
    }
