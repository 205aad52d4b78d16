-- Parts that are put one behind the other. Assumes nothing.
use Prim.Native.Nat.{ℕ}
use mathlib.Core.List.{List, ◌++◌, append_assoc}
use mathlib.Core.Path.{◌≡◌, ap, ◌∙◌}

-- one part behind the other is both in one
pub put_then :
    (before bytes more : List ℕ) {between after : List ℕ} → between ≡ before ++ bytes → after ≡ between ++ more → after ≡ before ++ (bytes ++ more)
put_then before bytes more first second = second ∙ ap (λ (l : List ℕ). l ++ more) first ∙ append_assoc before bytes more
