-- Laws of tests: both, neither, and what only one of two leaves. Assumes nothing.
use mathlib.Core.Path.{◌≡◌, refl}
use mathlib.Core.Bool.{Bool, true, false, ◌&&◌, ◌||◌, true≢false, false≢true}

pub both : (x y : Bool) → (x && y) ≡ true → (x ≡ true) × (y ≡ true)
both true y e = (refl, e)
both false y e = absurd (false≢true e)

pub neither : (x y : Bool) → (x || y) ≡ false → (x ≡ false) × (y ≡ false)
neither true y e = absurd (true≢false e)
neither false y e = (refl, e)

-- the second, where the first holds
pub not-second : (x y : Bool) → (x && y) ≡ false → x ≡ true → y ≡ false
not-second true y e t = e
not-second false y e t = absurd (false≢true t)

pub or_cases : (A : Type 0) (x y : Bool) → (x || y) ≡ true → (x ≡ true → A) → (y ≡ true → A) → A
or_cases A true y e f g = f refl
or_cases A false y e f g = g e
