-- Lengths and answers as numbers, and what is left in the lent words. Assumes nothing.
use Rattle.std.specs.Prelude.{if◌then◌else◌, Ok, Err}
use Prim.Native.Nat.{ℕ, ◌≤◌, ◌<◌}
use mathlib.Core.Path.{◌≡◌, refl, sym, ap, ◌∙◌}
use mathlib.Core.Bool.{Bool, true, false, true≢false, not}
use mathlib.Core.List.{List, [], ◌∷◌, ◌++◌}
use native.Mathlib.Omega.{arith}
use lib.Dec.{eqb}
use lib.ListN.{length, get_or, set, drop}
use borrow.Author.Tests.{eq-eqb, ne_eqb, eqb-true, lt-ltb, le-ltb}
use Rattle.plain.specs.Lists.{◌is◌}
use Rattle.rulebook.specs.Record.{read_number, order_of, record_of, write_refusal, written_of, written_number, area_written}
use Rattle.rulebook.specs.Call.{answer_number}
use Rattle.rulebook.specs.Answers.{Answer, Read, Written, number_of, number_in, refusal_of}
use Rattle.rulebook.specs.declared.Refusal.{Refusal}
use Rattle.rulebook.specs.declared.Counts.{Counts}
use Rattle.rulebook.specs.declared.Order.{Order}
use Rattle.record.specs.Answers.{ReadAs, WrittenAs}
use Rattle.book.specs.Meaning.{book_length}
use Rattle.book.specs.Fresh.{Freshened}
use Rattle.ledger.specs.Called.{Called}
use Rattle.figures.specs.Figures.{count_figures}
use Rattle.telling.specs.Told.{wrong_book, Lent}
use Rattle.exports.specs.Lent.{wrong_counts, wrong_fields, count_words, field_words, fresh_number, FreshIn}
use Rattle.exports.specs.Words.{counts_of, call_number, CalledWith, fields_read, reading_number, ReadInto, writing_number, WrittenFrom}

-- ---- a fresh book

module _ (xs ys : List ℕ) (made : Bool) (f : Freshened xs made ys) where
  pub fresh-made : made ≡ true → FreshIn xs 0 ys
  unfolding fresh_number
  fresh-made t = record {
    numbered = rw (sym f.answers ∙ t);
    ledger = λ e. f.ledger t;
    kept = λ e. f.kept t;
    untouched = λ n. absurd (n refl);
  }

  pub fresh-wrong : made ≡ false → FreshIn xs wrong_book ys
  unfolding fresh_number
  fresh-wrong t =
      let other : length xs ≡ book_length → ⊥ = λ l. let z : ◌≡◌ {A = Bool} true false = sym (eq-eqb _ _ l) ∙ sym f.answers ∙ t in absurd (true≢false z) in
      record {
        numbered = rw (sym f.answers ∙ t);
        ledger = λ e. absurd (omega (arith, e));
        kept = λ e. absurd (other (ap length (sym (f.untouched t)) ∙ e));
        untouched = λ n. f.untouched t;
      }

-- ---- a call

module _ (book octets area counts : List ℕ) where
  pub call_wrong_book : (length book ≡ book_length → ⊥) → CalledWith book octets area counts wrong_book book area counts
  unfolding call_number
  call_wrong_book n = record {
    numbered = rw (ne_eqb _ _ n);
    ledger = λ e. absurd (omega (arith, e));
    written = λ e. absurd (omega (arith, e));
    counted = λ e. absurd (omega (arith, e));
    untouched = λ e. (refl, refl, refl);
    kept = λ e. absurd (n e);
  }

  module _ (long : length book ≡ book_length) (lent : Lent book) where
    pub call_wrong_counts : (length counts ≡ count_words → ⊥) → CalledWith book octets area counts wrong_counts book area counts
    unfolding call_number
    call_wrong_counts n = record {
      numbered = rw (eq-eqb _ _ long, ne_eqb _ _ n);
      ledger = λ e. absurd (omega (arith, e));
      written = λ e. absurd (omega (arith, e));
      counted = λ e. absurd (omega (arith, e));
      untouched = λ e. (refl, refl, refl);
      kept = lent;
    }

    module _ (wide : length counts ≡ count_words) (a : Answer) (book' area' : List ℕ) (called : Called book octets area a book' area') where
      number_is : call_number book octets area counts ≡ answer_number a
      unfolding call_number
      number_is = rw (eq-eqb _ _ long, eq-eqb _ _ wide) (sym called.number)

      pub call_accepted :
          (c : Counts) (counts' : List ℕ) → a ≡ Ok c → counts' ≡ count_figures c
          → CalledWith book octets area counts 0 book' area' counts'
      unfolding answer_number counts_of
      call_accepted c counts' e f = record {
        numbered = sym (number_is ∙ ap answer_number e);
        ledger = λ z. called.ledger;
        written = λ z. called.written;
        counted = λ z. f ∙ ap (λ (x : Answer). counts_of x counts) (sym e ∙ called.answered);
        untouched = λ n. absurd (n refl);
        kept = λ l. called.kept;
      }

      pub call_refused : (refusal : Refusal) → a ≡ Err refusal → CalledWith book octets area counts (number_of refusal) book' area' counts
      unfolding answer_number counts_of
      call_refused refusal e = record {
        numbered = sym (number_is ∙ ap answer_number e);
        ledger = λ z. called.ledger;
        written = λ z. called.written;
        counted = λ z. ap (λ (x : Answer). counts_of x counts) (sym e ∙ called.answered);
        untouched = λ z. ((called.refused refusal e).0, (called.refused refusal e).1, refl);
        kept = λ l. called.kept;
      }

-- ---- the record reader

module _ (octets fields : List ℕ) where
  pub read_wrong : (length fields ≡ field_words → ⊥) → ReadInto octets fields wrong_fields fields
  unfolding reading_number
  read_wrong n = record { numbered = rw (ne_eqb _ _ n); told = λ e. absurd (omega (arith, e)); untouched = λ e. refl }

  module _ (wide : length fields ≡ field_words) (r : Read) (told : ReadAs octets r) where
    reading_is : reading_number octets fields ≡ read_number r
    unfolding reading_number
    reading_is = rw (eq-eqb _ _ wide) (sym told.number)

    pub read_order : (o : Order) (fields' : List ℕ) → r ≡ Ok o → fields' ≡ fields_read (Ok o) fields → ReadInto octets fields 0 fields'
    unfolding read_number
    read_order o fields' e f = record {
      numbered = sym (reading_is ∙ ap read_number e);
      told = λ z. f ∙ ap (λ (x : Read). fields_read x fields) (sym e ∙ told.answered);
      untouched = λ n. absurd (n refl);
    }

    pub read-refused : (refusal : Refusal) → r ≡ Err refusal → ReadInto octets fields (number_of refusal) fields
    unfolding read_number fields_read
    read-refused refusal e = record {
      numbered = sym (reading_is ∙ ap read_number e);
      told = λ z. ap (λ (x : Read). fields_read x fields) (sym e ∙ told.answered);
      untouched = λ z. refl;
    }

-- ---- the record writer

-- a refusal leaves the area
kept-area : (o : Order) (area : List ℕ) → (written_number (written_of o area) ≡ 0 → ⊥) → area_written o area ≡ area
unfolding written_number written_of area_written
kept-area o area n = go (write_refusal o area is 0) n
  where
    go :
        (b : Bool) → (number_in {A = Unit {0}} (if b then Ok tt else Err (refusal_of (write_refusal o area))) ≡ 0 → ⊥)
        → (if b then record_of o ++ drop 40 area else area) ≡ area
    go true n = absurd (n refl)
    go false n = refl

module _ (fields area : List ℕ) where
  pub write_wrong : (length fields ≡ field_words → ⊥) → WrittenFrom fields area wrong_fields area
  unfolding writing_number
  write_wrong n = record { numbered = rw (ne_eqb _ _ n); written = λ e. absurd (omega (arith, e)); untouched = λ e. refl }

  pub write_answered :
      length fields ≡ field_words → (o : Order) (w : Written) (area' : List ℕ) (number : ℕ) → o ≡ order_of fields → WrittenAs o area w area'
      → written_number w ≡ number → WrittenFrom fields area number area'
  unfolding writing_number
  write_answered wide o w area' number e told f =
      let n : number ≡ written_number (written_of (order_of fields) area) = sym f ∙ told.number ∙ ap (λ (x : Order). written_number (written_of x area)) e in
      let a : area' ≡ area_written (order_of fields) area = told.written ∙ ap (λ (x : Order). area_written x area) e in
      record {
        numbered = rw (eq-eqb _ _ wide) n;
        written = λ z. a;
        untouched = λ z. a ∙ kept-area (order_of fields) area (λ k. z (n ∙ k));
      }
