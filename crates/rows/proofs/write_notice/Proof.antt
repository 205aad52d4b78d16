-- `rows::write_notice` meets its contract: what is packed from bit 0 on is the bytes of one number. Assumes nothing.
use mathlib.Core.Path.{sym, subst, ◌∙◌}
use borrow.Author.Rules.{rules}
use Rattle.bits.proofs.Packing.{put_front}
use Rattle.rulebook.specs.Rows.{notice_widths}
use Rattle.rows.specs.Widths.{NoticeFits}
use Rattle.rows.proofs.Area.{notice-written}
use Rattle.rows.proofs.write_notice.Statement.{statement}
use Rattle.rows.proofs.write_notice.Tie as tie

pack-bits-requires : tie.Need-pack_bits-requires
unfolding notice_widths
pack-bits-requires c κs =
    let s = c.before.before.before.before.before in
    let f = subst NoticeFits (sym c.before.before.before.notice_of-n.ensures) s.requires.1 in
    search rules

returns : tie.Need-returns
unfolding notice_widths
returns c =
    let packed = c.before.before in
    let notice = packed.before.before.before.before in
    let s = notice.before.before in
    notice-written _ _ s.args.area.now _ notice.notice_of-n.ensures
    (packed.pack_bits.ensures ∙ put_front _ 16 _ (λ i. (notice.before.slice_known-1.given i).fits))

pub write_notice_spec : {M : Type 1} → statement M
write_notice_spec = tie.close (tie.spec (λ c κs. search rules) (λ c. search rules) pack-bits-requires (λ c. search rules) returns)
