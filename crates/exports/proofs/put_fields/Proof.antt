-- `exports::put_fields` meets its contract: the fields fill the buffer. Assumes nothing.
use Prim.Native.Nat.{ℕ}
use mathlib.Core.List.{List}
use mathlib.Core.Path.{◌≡◌, sym, ap, ◌∙◌}
use native.Mathlib.Omega.{arith}
use borrow.Author.Rules.{rules}
use lib.ListN.{length, take}
use Rattle.rulebook.specs.Record.{fields_of}
use Rattle.exports.specs.Lent.{field_words}
use Rattle.exports.specs.Words.{fields_read}
use Rattle.words.proofs.Places.{whole}
use Rattle.exports.proofs.put_fields.Statement.{statement}
use Rattle.exports.proofs.put_fields.Tie as tie

-- the words that are written
words_of : (c : tie.After-fields-1) → length (take field_words c.before.before.fields_of-fields.result) ≡ field_words
unfolding fields_of
words_of c = ap (λ (l : List ℕ). length (take field_words l)) c.before.before.fields_of-fields.ensures

slice-aggregate-write : tie.Need-slice_bounds-write-end
slice-aggregate-write c = sym (words_of c)

write-requires : tie.Need-write-requires
write-requires c κs = omega (arith, words_of c, c.before.before.before.before.requires)

returns : tie.Need-returns
unfolding fields_read
returns c =
    let wrote = c.before.before in
    let fields = wrote.before in
    let s = fields.before.before.before.before in
    wrote.write.ensures
    ∙ whole s.args.words.now (take field_words fields.before.before.fields_of-fields.result) _ (s.requires ∙ sym (words_of fields))
    ∙ ap (take field_words) fields.before.before.fields_of-fields.ensures

pub put_fields_spec : {M : Type 1} → statement M
put_fields_spec = tie.close (tie.spec (λ c κs. search rules) (λ c. search rules) slice-aggregate-write write-requires (λ c. search rules) returns)
