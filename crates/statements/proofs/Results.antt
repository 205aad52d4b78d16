-- What a call can result in, what its answer counts, and that its rows are told as the rulebook has them. Assumes nothing.
use Rattle.std.specs.Prelude.{Ok, Err}
use Prim.Native.Nat.{ℕ, ◌*◌, ◌≤◌}
use native.Mathlib.Omega.{arith}
use mathlib.Core.Bool.{Bool, true, false, true≢false}
use mathlib.Core.List.{List, [], ◌∷◌, ◌++◌, map}
use mathlib.Core.Path.{◌≡◌, refl, ap}
use borrow.Author.Tests.{eqb-true}
use lib.ListN.{length, drop, length-append}
use Rattle.plain.specs.Lists.{◌is◌, ◌below◌, first, keep, Each}
use Rattle.plain.proofs.Lists.{◌and◌, each_kept}
use Rattle.bits.specs.Layout.{Fit}
use Rattle.rulebook.specs.Call.{Result, answer_rows, accepted, refused, order_call, read_call, call_of}
use Rattle.rulebook.specs.Close.{close_kind, leaves, close_notice}
use Rattle.rulebook.specs.Forms.{outcome, cancel, close, forms, row_of, effect}
use Rattle.rulebook.specs.Ledger.{Ledger}
use Rattle.rulebook.specs.Movements.{Movement}
use Rattle.rulebook.specs.Premise.{Premise, ItemFits, today}
use Rattle.rulebook.specs.Record.{read_of}
use Rattle.rulebook.specs.Refusals.{refusals}
use Rattle.rulebook.specs.Rows.{notice, notice_of, notice_widths, posting_rows, rows_bytes}
use Rattle.rulebook.specs.Waiting.{sender_of, marking, cancelled, both_marked}
use Rattle.rulebook.specs.declared.Item.{Item}
use Rattle.rulebook.specs.declared.Notice.{Notice}
use Rattle.rulebook.specs.declared.Order.{Order}
use Rattle.rulebook.specs.Answers.{Read, refusal_of}
use Rattle.rulebook.specs.declared.Refusal.{Refusal}
use Rattle.rulebook.proofs.ByCall.{by_form}
use Rattle.rulebook.proofs.EveryCall.Items.{marking-fits}
use Rattle.rulebook.proofs.Reading.{AllProper, noticed, row_fits}
use Rattle.rulebook.proofs.RowCounts.{effect-rows}
use Rattle.rulebook.proofs.Steps.{order-step}
use Rattle.rows.proofs.Notices.{notice-fits}
use Rattle.rows.proofs.RowBytes.{rows-length}
use Rattle.closing.proofs.Closing.{kind_most}
use Rattle.statement_lines.specs.Lines.{row_lines, lines_of, answer_line}
use Rattle.statement_lines.proofs.Rows.{AllTold, rows_told}
use Rattle.statements.specs.Stated.{form_in, call_lines}
use Rattle.statements.specs.Told.{rows_of}

-- ---- a call is refused, or its order is accepted

module _ (b : Ledger) (octets area : List ℕ) (P : Read → Result → Type 0) (refuses : (r : Read) (refusal : Refusal) → P r (refused refusal b area))
    (accepts : (o : Order) → read_of octets ≡ Ok o → first (refusals b o) ≡ 0 → P (Ok o) (accepted (effect b o) o.minute area))
  where
    order-does : (o : Order) → read_of octets ≡ Ok o → P (Ok o) (order_call b o area)
    unfolding order_call
    order-does o e = go (first (refusals b o) is 0) refl
      where
        go : (t : Bool) → (first (refusals b o) is 0) ≡ t → P (Ok o) (order_call b o area)
        go true p = simp p (accepts o e (eqb-true _ 0 p))
        go false p = simp p (refuses (Ok o) (refusal_of (first (refusals b o))))

    read_does : (r : Read) → read_of octets ≡ r → P r (read_call b r area)
    unfolding read_call
    read_does (Ok o) e = order-does o e
    read_does (Err refusal) e = refuses (Err refusal) refusal

    pub by_result : P (read_of octets) (call_of b octets area)
    unfolding call_of
    by_result = go (length area below 4_096) refl
      where
        go : (t : Bool) → (length area below 4_096) ≡ t → P (read_of octets) (call_of b octets area)
        go true p = simp p (refuses (read_of octets) Refusal.ShortArea)
        go false p = simp p (read_does (read_of octets) refl)

-- ---- which forms write posting rows

pub posts_else : (form : ℕ) → (form ≡ 15 → ⊥) → (form ≡ 17 → ⊥) → true ≡ (row_of form).posts
unfolding forms
posts_else =
    by_form (λ n f. (n ≡ 15 → ⊥) → (n ≡ 17 → ⊥) → true ≡ f.posts)
    ((λ p q. refl) and (λ p q. refl) and (λ p q. refl) and (λ p q. refl) and (λ p q. refl) and (λ p q. refl) and (λ p q. refl) and (λ p q. refl)
    and (λ p q. refl) and (λ p q. refl) and (λ p q. refl) and (λ p q. refl) and (λ p q. refl) and (λ p q. refl) and (λ p q. absurd (p refl))
    and (λ p q. refl) and (λ p q. absurd (q refl)) and (λ p q. refl) and (λ p q. refl) and (λ p q. refl) and (λ p q. refl) and tt)
    (λ m none p q. refl)

-- ---- rows fit their widths

postings-told : (moves : List Movement) → AllProper moves → AllTold true (posting_rows moves)
unfolding posting_rows
postings-told [] f = tt
postings-told (m ∷ rest) f =
    (row_fits 0 m.from m.number (omega arith) f.0 f.2, (row_fits 1 m.to m.number (omega arith) f.1 f.2, postings-told rest f.3))

notices-told : (f : Item → Notice) (items : List Item) → Each (λ i. Fit notice_widths (noticed (f i))) items → AllTold false (map (λ i. notice (f i)) items)
notices-told f [] e = tt
notices-told f (i ∷ rest) e = (e.0, notices-told f rest e.1)

module _ (b : Ledger) (o : Order) (p : Premise b) where
  abbrev Fits : Item → Type 0
  Fits = ItemFits b.day.number (today b.day) b.holdings

  cancel-told : AllTold false (cancel b o).rows
  unfolding cancel outcome cancelled
  cancel-told =
      let now = marking (sender_of o) o.reference b.waiting in
      notices-told (notice_of 4) (keep (λ item. both_marked item.state) now)
      (each_kept Fits (λ i. Fit notice_widths (noticed (notice_of 4 i))) (λ item. both_marked item.state) (λ i t f. notice-fits _ _ _ i 4 (omega arith) f) now
      (marking-fits _ _ _ (sender_of o) o.reference b.waiting p.items))

  close-told : AllTold false (close b o).rows
  unfolding close outcome close_notice
  close-told =
      let day = b.day.number in
      notices-told (λ item. notice_of (close_kind day item) item) (keep (leaves day) b.waiting)
      (each_kept Fits (λ i. Fit notice_widths (noticed (notice_of (close_kind day i) i))) (leaves day)
      (λ i t f. notice-fits _ _ _ i (close_kind day i) (omega (arith, kind_most day i)) f) b.waiting p.items)

-- the rows of a form that writes notices
form-notices : (form : ℕ) → (row_of form).posts ≡ false → (b : Ledger) (o : Order) → Premise b → AllTold false ((row_of form).effect b o).rows
unfolding forms
form-notices =
    by_form (λ n f. f.posts ≡ false → (b : Ledger) (o : Order) → Premise b → AllTold false (f.effect b o).rows)
    (no and no and no and no and no and no and no and no and no and no and no and no and no and no and (λ e. cancel-told) and no and (λ e. close-told)
    and no and no and no and no and tt)
    (λ m none. no)
  where
    no : {A : Type 0} → true ≡ false → A
    no e = absurd (true≢false e)

-- the rows of an accepted order
order-told : (b : Ledger) (o : Order) (octets : List ℕ) → Premise b → read_of octets ≡ Ok o → first (refusals b o) ≡ 0
    → AllTold (row_of o.form).posts (effect b o).rows
order-told b o octets p e z = go (row_of o.form).posts refl
  where
    go : (t : Bool) → (row_of o.form).posts ≡ t → AllTold t (effect b o).rows
    go true w =
        let t = order-step b o octets p e z in
        rw (t.rows (simp w)) (postings-told t.moves t.proper)
    go false w = unfold effect in form-notices o.form w b o p

-- ---- what is counted, and what is told

module _ (b : Ledger) (octets area : List ℕ) (p : Premise b) where
  -- the rows that an answer counts are in the area, and are at most 256
  abbrev Few : Read → Result → Type 0
  Few r x = (answer_rows x.answer ≤ 256) × (16 * answer_rows x.answer ≤ length x.area)

  pub rows_few : Few (read_of octets) (call_of b octets area)
  unfolding refused accepted answer_rows
  rows_few = by_result b octets area Few (λ r n. (omega arith, omega arith)) (λ o e z.
      let t = order-step b o octets p e z in
      let rows = (effect b o).rows in (
        omega (arith, t.counted, effect-rows b o p.sizes),
        omega (arith, t.counted, length-append (rows_bytes rows) (drop (16 * length rows) area), rows-length rows),
      ))

  abbrev AsHad : ℕ → Read → Result → Type 0
  AsHad number r x =
      answer_line number (form_in r) x.answer ++ row_lines (row_of (form_in r)).posts (answer_rows x.answer) x.area
      ≡ answer_line number (form_in r) x.answer ++ lines_of (rows_of b r x.answer)

  none_told : (number : ℕ) (r : Read) (refusal : Refusal) → AsHad number r (refused refusal b area)
  unfolding refused answer_rows row_lines rows_of lines_of
  none_told number (Ok o) refusal = refl
  none_told number (Err unread) refusal = refl

  pub call_told : (number : ℕ) → call_lines number octets (call_of b octets area)
      ≡ answer_line number (form_in (read_of octets)) (call_of b octets area).answer ++ lines_of (rows_of b (read_of octets) (call_of b octets area).answer)
  unfolding call_lines accepted answer_rows form_in rows_of
  call_told number = by_result b octets area (AsHad number) (none_told number) told
    where
      told : (o : Order) → read_of octets ≡ Ok o → first (refusals b o) ≡ 0 → AsHad number (Ok o) (accepted (effect b o) o.minute area)
      told o e z =
          let t = order-step b o octets p e z in
          let rows = (effect b o).rows in
          ap (λ (l : List ℕ). answer_line number o.form (Ok (effect b o).counts) ++ l)
          (rw t.counted (rows_told (row_of o.form).posts rows (drop (16 * length rows) area) (order-told b o octets p e z)))
