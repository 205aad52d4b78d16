-- `book::fresh`: every word is 0, and then the first rate is put.
use Rattle.std.proofs.Common.{◌≡◌, sym, ap, subst, ◌∙◌, rules, ℕ, length}
use mathlib.Core.Bool.{true≢false}
use borrow.Author.Tests.{eq-eqb}
use lib.ListN.{replicate}
use Rattle.book.specs.Meaning.{book_length}
use Rattle.book.specs.Stored.{Stored}
use Rattle.book.proofs.Zeros.{zeros_mean, rated_mean, fresh_kept}
use Rattle.book.proofs.fresh.Goals as goal

pub put_rate-requires : goal.put_rate-requires
put_rate-requires c =
    let all : c.fill.new.self ≡ replicate (length c.args.book.now) 0 = search rules in
    subst Stored (sym (all ∙ ap (λ (n : ℕ). replicate n 0) c.if-book-ne-END.false)) zeros_mean.stored

pub returns : goal.returns
returns c =
    let all : c.fill.new.self ≡ replicate (length c.args.book.now) 0 = search rules in
    let m = rated_mean c.fill.new.self c.put_rate.new.book (all ∙ ap (λ (n : ℕ). replicate n 0) c.if-book-ne-END.false) c.put_rate.ensures in
    record {
      answers = sym (eq-eqb _ book_length c.if-book-ne-END.false);
      ledger = λ e. m.ledger;
      kept = λ e. fresh_kept _ m;
      untouched = λ e. absurd (true≢false e);
    }
