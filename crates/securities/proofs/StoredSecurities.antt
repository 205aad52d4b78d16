-- What is read of the securities' words. Assumes nothing.
use Rattle.std.specs.Prelude.{if◌then◌else◌, is_some}
use Prim.Native.Nat.{ℕ, ◌+◌, ◌<◌}
use native.Mathlib.Omega.{arith}
use mathlib.Core.List.{List}
use mathlib.Core.Path.{◌≡◌, sym, ap, ◌∙◌}
use lib.ListN.{length, get_or}
use Rattle.plain.specs.Lists.{◌is◌}
use Rattle.rulebook.specs.Ledger.{Holdings, admitted, outside_of, held_of}
use Rattle.rulebook.specs.declared.Security.{Security}
use Rattle.words.specs.Tables.{rows, key_at, place_of, sum_of, value_of}
use Rattle.words.proofs.Places.{length_from, from_get, from_some, from_total}
use Rattle.words.proofs.Tables.{value_at}
use Rattle.securities.specs.Admitted.{OUTSIDE, HELD, security_at, securities_of, with_securities, Kept}

pub how_many : (s : List ℕ) → length (securities_of s) ≡ rows s
unfolding securities_of
how_many s = length_from (security_at s) 0 (rows s)

pub security-there : (s : List ℕ) (i : ℕ) (d : Security) → i < rows s → security_at s i ≡ get_or (securities_of s) i d
unfolding securities_of
security-there s i d h = let z : i ≡ 0 + i = omega arith in ap (security_at s) z ∙ sym (from_get (security_at s) 0 (rows s) i d h)

module _ (s : List ℕ) (code : ℕ) where
  -- it is admitted where a search finds it
  pub admitted-found : (h : Holdings) → is_some (place_of code s) ≡ admitted code (with_securities s h)
  unfolding admitted securities_of place_of
  admitted-found h = sym (from_some (λ x. x.code is code) (security_at s) 0 (rows s))

  -- its counts are those of its row
  pub outside-value : (h : Holdings) → value_of OUTSIDE s code ≡ outside_of code (with_securities s h)
  unfolding outside_of securities_of value_of sum_of
  outside-value h = sym (from_total (λ x. if x.code is code then x.outside.0 else 0) (security_at s) (rows s))

  pub held-value : (h : Holdings) → value_of HELD s code ≡ held_of code (with_securities s h)
  unfolding held_of securities_of value_of sum_of
  held-value h = sym (from_total (λ x. if x.code is code then x.held.0 else 0) (security_at s) (rows s))

  module _ (kept : Kept s) (j : ℕ) (low : j < rows s) (own : key_at s j ≡ code) where
    at_column : (column : ℕ) → get_or s (j + column) 0 ≡ value_of column s code
    at_column column = sym (value_at s code column kept.once j low own)

    pub outside-here : (h : Holdings) → get_or s (j + OUTSIDE) 0 ≡ outside_of code (with_securities s h)
    outside-here h = at_column OUTSIDE ∙ outside-value h

    pub held-here : (h : Holdings) → get_or s (j + HELD) 0 ≡ held_of code (with_securities s h)
    held-here h = at_column HELD ∙ held-value h
