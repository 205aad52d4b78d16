-- Lengths are looked at before everything else.
use Rattle.std.proofs.Common.{refl, sym, ◌∙◌, rules}
use Rattle.exports.proofs.Answers.{call_wrong_book, call_wrong_counts, call_accepted, call_refused}
use Rattle.exports.proofs.depository_call.Goals as goal

pub returns-then-book-ne-BOOK_WORDS : goal.returns-then-book-ne-BOOK_WORDS
returns-then-book-ne-BOOK_WORDS c = call_wrong_book _ _ _ _ c.if-book-ne-BOOK_WORDS.true

pub returns-then-counts-ne-COUNT_WORDS : goal.returns-then-counts-ne-COUNT_WORDS
returns-then-counts-ne-COUNT_WORDS c =
    call_wrong_counts _ _ _ _ c.if-book-ne-BOOK_WORDS.false c.requires c.if-counts-ne-COUNT_WORDS.true

pub call-requires : goal.call-requires
call-requires c = c.requires c.if-book-ne-BOOK_WORDS.false

pub returns-in-Ok : goal.returns-in-Ok
returns-in-Ok c =
    call_accepted c.args.book.now c.args.«record».now c.args.area.now c.args.counts.now c.if-book-ne-BOOK_WORDS.false c.requires
    c.if-counts-ne-COUNT_WORDS.false _ _ _ c.call.ensures _ _ c.in-Ok.is c.put_counts.ensures

pub returns-in-Err : goal.returns-in-Err
returns-in-Err c =
    rw c.into.ensures
    (call_refused c.args.book.now c.args.«record».now c.args.area.now c.args.counts.now c.if-book-ne-BOOK_WORDS.false c.requires
    c.if-counts-ne-COUNT_WORDS.false _ _ _ c.call.ensures _ c.in-Err.is)
