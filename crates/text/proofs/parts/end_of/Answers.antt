-- `text::parts::end_of` meets its contract: the library finds the first mark. Assumes nothing.
use Rattle.std.proofs.Common.{rules, List, ◌≡◌, ◌-◌, ℕ, ◌∙◌, sym, take, drop, length, arith}
use Rattle.std.specs.Option.{unwrap_or}
use Rattle.std.proofs.lemmas.Iterator.{YieldsList-from_slice, IsFirst-from_position}
use borrow.Author.Tests.{tests}
use lib.ListN.{length-drop}
use Rattle.text.specs.Parts.{up_to}
use Rattle.text.proofs.Cutting.{up_to_found, up_le, rest_of}
use Rattle.text.proofs.parts.end_of.Goals as goal

pub returns : goal.returns
returns c =
    let bytes : List ℕ = c.args.bytes.now in
    let at : ℕ = c.args.at in
    let mark : ℕ = c.args.mark in
    let rest = YieldsList-from_slice (drop at bytes) (c.iter.ensures.rest ∙ rest_of bytes at) in
    let first : up_to mark (drop at bytes) ≡ unwrap_or c.position-before.result (length (drop at bytes)) =
    up_to_found mark (drop at bytes) c.position-before.result
    (IsFirst-from_position _ _ c.position-before.result (λ b. b ≡ mark) (λ b. b ≡ mark → ⊥) c.position-before.ensures.ran rest
    (λ x q k. search (rules, tests)) (λ x q k. search (rules, tests)))
    in
    let found : c.unwrap_or.result ≡ unwrap_or c.position-before.result (length (take (length bytes - at) (drop at bytes))) = c.unwrap_or.ensures in
    let reached : c.unwrap_or.result ≡ up_to mark (drop at bytes) = rw rest_of at found ∙ sym first in
    (omega arith, omega (arith, up_le mark (drop at bytes), length-drop at bytes))
