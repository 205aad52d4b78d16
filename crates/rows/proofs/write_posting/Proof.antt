-- `rows::write_posting` meets its contract: what is packed from bit 0 on is the bytes of one number. Assumes nothing.
use mathlib.Core.Path.{◌∙◌}
use borrow.Author.Rules.{rules}
use Rattle.bits.proofs.Packing.{put_front}
use Rattle.rulebook.specs.Rows.{posting_widths, posting_bytes}
use Rattle.rows.proofs.write_posting.Statement.{statement}
use Rattle.rows.proofs.write_posting.Tie as tie

pack-bits-requires : tie.Need-pack_bits-requires
unfolding posting_widths
pack-bits-requires c κs = search rules

returns : tie.Need-returns
unfolding posting_widths posting_bytes
returns c = c.before.before.pack_bits.ensures ∙ put_front _ 16 _ (λ i. (c.before.before.before.before.before.before.slice_known-1.given i).fits)

pub write_posting_spec : {M : Type 1} → statement M
write_posting_spec = tie.close (tie.spec (λ c. search rules) pack-bits-requires (λ c. search rules) returns)
