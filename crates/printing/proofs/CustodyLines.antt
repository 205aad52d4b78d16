-- The custody lines of the first securities of a list, and one more. Assumes nothing.
use Prim.Native.Nat.{ℕ, ◌+◌, ◌<◌}
use native.Mathlib.Numerals.{add-one}
use mathlib.Core.List.{List, [], ◌∷◌, ◌++◌, append_assoc, append-nil}
use mathlib.Core.Path.{◌≡◌}
use lib.ListN.{length, get_or, take}
use lib.Seq.{take-suc}
use Rattle.rulebook.specs.declared.Security.{Security}
use Rattle.lines.specs.Lines.{custody_line}
use Rattle.printing.specs.Printed.{custody_from}

behind : (securities : List Security) (last : Security) → custody_from (securities ++ (last ∷ [])) ≡ custody_from securities ++ custody_line last
unfolding custody_from
behind [] last = append-nil (custody_line last)
behind (security ∷ securities) last = rw (behind securities last, append_assoc)

pub one_line_more :
    (securities : List Security) (i : ℕ) (d : Security) → i < length securities
    → custody_from (take (i + 1) securities) ≡ custody_from (take i securities) ++ custody_line (get_or securities i d)
one_line_more securities i d inside = rw (add-one i, take-suc securities i d) (behind (take i securities) (get_or securities i d))
