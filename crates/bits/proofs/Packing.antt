-- What is packed is cut to itself, and what is cut packs to itself: for any widths, at any offset. Two fields in a row are one wider field.
-- Assumes nothing.
use mathlib.Core.Path.{◌≡◌, refl, sym, ap, ◌∙◌, subst}
use mathlib.Core.List.{List, [], ◌∷◌, ◌++◌}
use Prim.Native.Nat.{ℕ, zero, suc, ◌+◌, ◌-◌, ◌*◌, ◌/◌, ◌%◌, ◌^◌, ◌≤◌, ◌<◌}
use native.Mathlib.Nat.{add_assoc, add_comm, add-zero, add-suc, zero-add, zero-mul, mul_assoc, add-mul, mul-one, div-one, mod-lt}
use native.Mathlib.Numerals.{add-one}
use native.Mathlib.Omega.{arith}
use lib.Dec.{lit<}
use lib.ListN.{length, get_or, take, drop, length-append, length-drop, drop_of_length-le}
use lib.Seq.{get_or-drop, take_at, take_all, take-append-le, drop-append-add, drop-drop, drop-cons}
use lib.Pow.{pow_pos, pow-add, shr-shr, shl-shr, shr_lt, shl_lt, high, low, split}
use lib.Arith.{digits_lt, lt-one}
use Rattle.bits.specs.Bits.{Octets, number, bytes, leading, field, put, whole_bytes, Inside}
use Rattle.bits.specs.Layout.{pack, cut, total, Fit, Spans, puts}
use Rattle.bits.proofs.Numbers.{target, number-snoc, number_lt, leading-take, length_bytes, bytes-number}

-- ---- lists of bytes

pub octets_append : (xs ys : List ℕ) → Octets xs → Octets ys → Octets (xs ++ ys)
octets_append [] ys hx hy i = hy i
octets_append (x ∷ xs) ys hx hy zero = hx 0
octets_append (x ∷ xs) ys hx hy (suc i) = octets_append xs ys (λ k. hx (suc k)) hy i

pub octets_drop : (n : ℕ) (xs : List ℕ) → Octets xs → Octets (drop n xs)
octets_drop n xs h i = rw get_or-drop (h (n + i))

one_octet : (b : ℕ) → b < 2 ^ 8 → Octets (b ∷ [])
one_octet b h zero = h
one_octet b h (suc i) = lit< tt

pub octets_bytes : (n v : ℕ) → Octets (bytes n v)
unfolding bytes
octets_bytes zero v i = lit< tt
octets_bytes (suc n) v i = octets_append (bytes n (v / 2 ^ 8)) (v % 2 ^ 8 ∷ []) (octets_bytes n (v / 2 ^ 8)) (one_octet (v % 2 ^ 8) (omega arith)) i

pub number-bytes : (n v : ℕ) → v < 2 ^ (8 * n) → number (bytes n v) ≡ v
unfolding bytes number
number-bytes zero v h = sym (lt-one h)
number-bytes (suc n) v h =
    let e : 8 * suc n ≡ 8 * n + 8 = omega arith in
    number-snoc (bytes n (v / 2 ^ 8)) (v % 2 ^ 8) ∙ ap (λ (x : ℕ). x * 2 ^ 8 + v % 2 ^ 8) (number-bytes n (v / 2 ^ 8) (shr_lt (8 * n) 8 (rw e at h)))
    ∙ split v 8

-- ---- the first bits

pub leading_lt : (xs : List ℕ) (n : ℕ) → Octets xs → n ≤ 8 * length xs → leading xs n < 2 ^ n
unfolding leading
leading_lt xs n h l =
    let e : 8 * length xs ≡ n + (8 * length xs - n) = omega arith in
    shr_lt n (8 * length xs - n) (subst (λ (k : ℕ). number xs < 2 ^ k) e (number_lt xs h))

pub leading-zero : (xs : List ℕ) → Octets xs → leading xs 0 ≡ 0
leading-zero xs h = lt-one (leading_lt xs 0 h (omega arith))

-- fewer of the first bits
pub leading-shr : (xs : List ℕ) (n w : ℕ) → n + w ≤ 8 * length xs → leading xs (n + w) / 2 ^ w ≡ leading xs n
unfolding leading
leading-shr xs n w l =
    let e : 8 * length xs - (n + w) + w ≡ 8 * length xs - n = omega arith in
    shr-shr (number xs) (8 * length xs - (n + w)) w ∙ ap (λ (k : ℕ). number xs / 2 ^ k) e

-- a field more
pub leading-field : (xs : List ℕ) (n w : ℕ) → n + w ≤ 8 * length xs → leading xs n * 2 ^ w + field xs n w ≡ leading xs (n + w)
unfolding field
leading-field xs n w l = ap (λ (x : ℕ). x * 2 ^ w + leading xs (n + w) % 2 ^ w) (sym (leading-shr xs n w l)) ∙ split (leading xs (n + w)) w

-- a field fits its width
pub field_lt : (xs : List ℕ) (n w : ℕ) → field xs n w < 2 ^ w
unfolding field
field_lt xs n w = mod-lt (leading xs (n + w)) (pow_pos w)

-- TWO FIELDS SIDE BY SIDE are one field
pub field-field : (xs : List ℕ) (n w w' : ℕ) → n + w + w' ≤ 8 * length xs → field xs n w * 2 ^ w' + field xs (n + w) w' ≡ field xs n (w + w')
unfolding field
field-field xs n w w' l =
    let x : ℕ = field xs n w in
    let y : ℕ = field xs (n + w) w' in
    let e : leading xs (n + (w + w')) ≡ leading xs n * 2 ^ (w + w') + (x * 2 ^ w' + y) =
    ap (leading xs) (sym (add_assoc n w w')) ∙ sym (leading-field xs (n + w) w' l)
    ∙ ap (λ (z : ℕ). z * 2 ^ w' + y) (sym (leading-field xs n w (omega arith))) ∙ rw (pow-add 2 w w') (simp (add-mul, mul_assoc, add_assoc)) in
    sym (ap (λ (z : ℕ). z % 2 ^ (w + w')) e ∙ low (leading xs n) (w + w') (rw (pow-add 2 w w') (digits_lt (field_lt xs n w) (field_lt xs (n + w) w'))))

-- ---- a field that is put

module _ (ds : List ℕ) (at w v : ℕ) (l : at + w ≤ 8 * length ds) where
  pub length-put : length (put ds at w v) ≡ length ds
  unfolding put
  length-put = simp (length-append, length_bytes, length-drop) (omega arith)

  -- the bytes after it are kept
  pub drop_put : (n : ℕ) → whole_bytes (at + w) ≤ n → drop n (put ds at w v) ≡ drop n ds
  unfolding put
  drop_put n g =
      let k : ℕ = whole_bytes (at + w) in
      let t : ℕ = (leading ds at * 2 ^ w + v) * 2 ^ (8 * k - (at + w)) in
      let e : n ≡ k + (n - k) = omega arith in
      let f : n ≡ length (bytes k t) + (n - k) = rw length_bytes e in
      ap (λ (m : ℕ). drop m (bytes k t ++ drop k ds)) f ∙ drop-append-add (bytes k t) (drop k ds) (n - k) ∙ drop-drop (n - k) k ds
      ∙ ap (λ (m : ℕ). drop m ds) (sym e)

  pub take_put : take (whole_bytes (at + w)) (put ds at w v) ≡ bytes (whole_bytes (at + w)) (target ds at w v)
  unfolding put
  take_put =
      take_at (bytes (whole_bytes (at + w)) (target ds at w v)) (drop (whole_bytes (at + w)) ds) (whole_bytes (at + w))
      (length_bytes (whole_bytes (at + w)) (target ds at w v))

  module _ (h : Octets ds) where
    pub octets_put : Octets (put ds at w v)
    unfolding put
    octets_put =
        octets_append (bytes (whole_bytes (at + w)) (target ds at w v)) (drop (whole_bytes (at + w)) ds) (octets_bytes (whole_bytes (at + w)) (target ds at w v))
        (octets_drop (whole_bytes (at + w)) ds h)

    -- the bits up to its end are those before it, and it
    pub leading-put : v < 2 ^ w → leading (put ds at w v) (at + w) ≡ leading ds at * 2 ^ w + v
    leading-put hv =
        let k : ℕ = whole_bytes (at + w) in
        let p : ℕ = 8 * k - (at + w) in
        let e : 8 * k ≡ at + w + p = omega arith in
        let g : target ds at w v < 2 ^ (8 * k) =
        subst (λ (n : ℕ). target ds at w v < 2 ^ n) (sym e)
        (shl_lt (at + w) p (rw (pow-add 2 at w) (digits_lt (leading_lt ds at h (omega arith)) hv))) in
        leading-take (put ds at w v) (at + w) k octets_put (omega arith) (rw length-put (omega arith))
        ∙ ap (λ (xs : List ℕ). number xs / 2 ^ p) take_put ∙ ap (λ (x : ℕ). x / 2 ^ p) (number-bytes k (target ds at w v) g)
        ∙ shl-shr (leading ds at * 2 ^ w + v) p

    -- two fields in a row are one
    pub put-put : (w' v' : ℕ) → v < 2 ^ w → put (put ds at w v) (at + w) w' v' ≡ put ds at (w + w') (v * 2 ^ w' + v')
    unfolding put
    put-put w' v' hv =
        let e : at + (w + w') ≡ at + w + w' = omega arith in
        rw (leading-put hv, drop_put (whole_bytes (at + w + w')) (omega arith), e, pow-add 2 w w') (simp (add-mul, mul_assoc, add_assoc))

-- from bit 0 on, what is put is the bytes of a number, and the rest of the list
pub put_front : (ds : List ℕ) (n v : ℕ) → Octets ds → put ds 0 (8 * n) v ≡ bytes n v ++ drop n ds
unfolding put
put_front ds n v h =
    let e : whole_bytes (0 + 8 * n) ≡ n = omega arith in
    let z : 8 * n - (0 + 8 * n) ≡ 0 = omega arith in
    rw (e, z, leading-zero ds h) (simp (zero-mul, zero-add, mul-one))

-- values that are put one after the other are one field
pub puts-put : (ds : List ℕ) (at w v : ℕ) (ws vs : List ℕ) → Octets ds → at + (w + total ws) ≤ 8 * length ds → v < 2 ^ w → Fit ws vs
    → puts (put ds at w v) (at + w) ws vs ≡ put ds at (w + total ws) (pack v ws vs)
puts-put ds at w v [] [] h l hv f = ap (λ (n : ℕ). put ds at n v) (sym (add-zero w))
puts-put ds at w v (w' ∷ ws) (v' ∷ vs) h l hv f =
    ap (λ (es : List ℕ). puts es (at + w + w') ws vs) (put-put ds at w v (omega arith) h w' v' hv)
    ∙ ap (λ (n : ℕ). puts (put ds at (w + w') (v * 2 ^ w' + v')) n ws vs) (add_assoc at w w')
    ∙ puts-put ds at (w + w') (v * 2 ^ w' + v') ws vs h (omega arith) (rw (pow-add 2 w w') (digits_lt hv f.0)) f.1
    ∙ ap (λ (n : ℕ). put ds at n (pack (v * 2 ^ w' + v') ws vs)) (add_assoc w w' (total ws))
puts-put ds at w v [] (v' ∷ vs) h l hv f = elim f [ ]
puts-put ds at w v (w' ∷ ws) [] h l hv f = elim f [ ]

pub puts-front : (ds ws vs : List ℕ) → Octets ds → total ws ≤ 8 * length ds → Fit ws vs → puts ds 0 ws vs ≡ put ds 0 (total ws) (pack 0 ws vs)
unfolding bytes
puts-front ds [] [] h l f = sym (put_front ds 0 0 h)
puts-front ds (w ∷ ws) (v ∷ vs) h l f =
    ap (λ (n : ℕ). puts (put ds 0 w v) n ws vs) refl
    ∙ puts-put ds 0 w v ws vs h (omega arith) f.0 f.1
    ∙ ap (λ (n : ℕ). put ds 0 (w + total ws) (pack n ws vs)) (sym (ap (λ (x : ℕ). x + v) (zero-mul (2 ^ w)) ∙ zero-add v))
puts-front ds [] (v ∷ vs) h l f = elim f [ ]
puts-front ds (w ∷ ws) [] h l f = elim f [ ]

-- what stands above the packed values is what they were packed behind
pub pack-high : (n : ℕ) (ws vs : List ℕ) → Fit ws vs → pack n ws vs / 2 ^ total ws ≡ n
pack-high n [] [] f = div-one n
pack-high n (w ∷ ws) (v ∷ vs) f =
    ap (λ (x : ℕ). pack (n * 2 ^ w + v) ws vs / 2 ^ x) (add_comm w (total ws)) ∙ sym (shr-shr (pack (n * 2 ^ w + v) ws vs) (total ws) w)
    ∙ ap (λ (x : ℕ). x / 2 ^ w) (pack-high (n * 2 ^ w + v) ws vs f.1) ∙ high n w f.0
pack-high n [] (v ∷ vs) f = elim f [ ]
pack-high n (w ∷ ws) [] f = elim f [ ]

-- PACKED, THEN CUT: where the first bits are packed values, the fields are the values
pub cut-pack :
    (bs : List ℕ) (at n : ℕ) (ws vs : List ℕ) → Fit ws vs → at + total ws ≤ 8 * length bs → leading bs (at + total ws) ≡ pack n ws vs → cut bs at ws ≡ vs
unfolding field
cut-pack bs at n [] [] f l e = refl
cut-pack bs at n (w ∷ ws) (v ∷ vs) f l e =
    let a : at + (w + total ws) ≡ at + w + total ws = omega arith in
    let e' : leading bs (at + w + total ws) ≡ pack (n * 2 ^ w + v) ws vs = rw a at e in
    let g : leading bs (at + w) ≡ n * 2 ^ w + v =
    sym (leading-shr bs (at + w) (total ws) (omega arith)) ∙ ap (λ (x : ℕ). x / 2 ^ total ws) e' ∙ pack-high (n * 2 ^ w + v) ws vs f.1 in
    λ i. (ap (λ (x : ℕ). x % 2 ^ w) g ∙ low n w f.0) i ∷ cut-pack bs (at + w) (n * 2 ^ w + v) ws vs f.1 (omega arith) e' i
cut-pack bs at n [] (v ∷ vs) f l e = elim f [ ]
cut-pack bs at n (w ∷ ws) [] f l e = elim f [ ]

-- CUT, THEN PACKED: the fields that are cut pack to the bits that they were cut from
pub pack-cut : (bs : List ℕ) (at : ℕ) (ws : List ℕ) → at + total ws ≤ 8 * length bs → pack (leading bs at) ws (cut bs at ws) ≡ leading bs (at + total ws)
pack-cut bs at [] l = ap (λ (n : ℕ). leading bs n) (sym (add-zero at))
pack-cut bs at (w ∷ ws) l =
    ap (λ (n : ℕ). pack n ws (cut bs (at + w) ws)) (leading-field bs at w (omega arith)) ∙ pack-cut bs (at + w) ws (omega arith)
    ∙ ap (λ (n : ℕ). leading bs n) (add_assoc at w (total ws))

-- ---- layouts of whole_bytes bytes

-- packed values take their widths
pub pack-lt : (n k : ℕ) (ws vs : List ℕ) → n < 2 ^ k → Fit ws vs → pack n ws vs < 2 ^ (k + total ws)
pack-lt n k [] [] h f = rw add-zero h
pack-lt n k (w ∷ ws) (v ∷ vs) h f = rw (← add_assoc k w (total ws)) (pack-lt (n * 2 ^ w + v) (k + w) ws vs (rw (pow-add 2 k w) (digits_lt h f.0)) f.1)
pack-lt n k [] (v ∷ vs) h f = elim f [ ]
pack-lt n k (w ∷ ws) [] h f = elim f [ ]

-- any layout of n whole_bytes bytes: the bytes of packed values, whatever follows them, are cut to the values
pub values_back : (n : ℕ) (ws vs rest : List ℕ) → Octets rest → total ws ≡ 8 * n → Fit ws vs → cut (bytes n (pack 0 ws vs) ++ rest) 0 ws ≡ vs
values_back n ws vs rest h t f =
    let v : ℕ = pack 0 ws vs in
    let xs : List ℕ = bytes n (pack 0 ws vs) ++ rest in
    let o : Octets xs = octets_append (bytes n v) rest (octets_bytes n v) h in
    let l : n ≤ length xs = rw (length-append (bytes n v) rest, length_bytes n v) (omega arith) in
    let b : v < 2 ^ (8 * n) = rw (zero-add, t) at (pack-lt 0 0 ws vs (lit< tt) f) in
    let z : 8 * n - (0 + total ws) ≡ 0 = omega arith in
    let e : leading xs (0 + total ws) ≡ pack 0 ws vs =
    leading-take xs (0 + total ws) n o (omega arith) l
    ∙ ap (λ (ys : List ℕ). number ys / 2 ^ (8 * n - (0 + total ws))) (take_at (bytes n v) rest n (length_bytes n v))
    ∙ rw (number-bytes n v b, z) (div-one v) in
    cut-pack xs 0 0 ws vs f (omega arith) e

-- and the values that are cut pack to the bytes
pub bytes_back : (n : ℕ) (bs ws : List ℕ) → Octets bs → total ws ≡ 8 * n → n ≤ length bs → bytes n (pack 0 ws (cut bs 0 ws)) ≡ take n bs
bytes_back n bs ws h t l =
    let e : 8 * n - (0 + total ws) ≡ 0 = omega arith in
    let p : pack 0 ws (cut bs 0 ws) ≡ number (take n bs) =
    rw (leading-zero bs h) at (pack-cut bs 0 ws (omega arith)) ∙ leading-take bs (0 + total ws) n h (omega arith) l ∙ rw e (div-one (number (take n bs))) in
    ap (bytes n) p ∙ bytes-number bs h n l

-- the first bytes of a number are those of its first bits
pub take-bytes : (n m v : ℕ) → take n (bytes (n + m) v) ≡ bytes n (v / 2 ^ (8 * m))
unfolding bytes
take-bytes n zero v =
    let l : length (bytes n v) ≤ n = omega (arith, length_bytes n v) in
    rw (add-zero n) (take_all n (bytes n v) l ∙ ap (bytes n) (sym (div-one v)))
take-bytes n (suc m) v =
    let l : n ≤ length (bytes (n + m) (v / 2 ^ 8)) = omega (arith, length_bytes (n + m) (v / 2 ^ 8)) in
    let e : 8 + 8 * m ≡ 8 * suc m = omega arith in
    rw (add-suc n m)
    (take-append-le n (bytes (n + m) (v / 2 ^ 8)) (v % 2 ^ 8 ∷ []) l
    ∙ take-bytes n m (v / 2 ^ 8)
    ∙ ap (bytes n) (shr-shr v 8 (8 * m) ∙ ap (λ (k : ℕ). v / 2 ^ k) e))

-- ---- the loop that packs: what is left to put, from bit at and value j on, gives the list all

pub record Rest (all ds ws vs : List ℕ) (at j : ℕ) : Type 0 where
  pub upto : j ≤ length ws
  pub same : length vs ≡ length ws
  pub small : at + total (drop j ws) ≤ 65535
  pub room : at + total (drop j ws) ≤ 8 * length ds
  pub span : Spans at (drop j ws)
  pub fit : Fit (drop j ws) (drop j vs)
  pub is : puts ds at (drop j ws) (drop j vs) ≡ all

pub fit_length : (ws vs : List ℕ) → Fit ws vs → length vs ≡ length ws
fit_length [] [] f = refl
fit_length (w ∷ ws) (v ∷ vs) f = ap suc (fit_length ws vs f.1)
fit_length [] (v ∷ vs) f = elim f [ ]
fit_length (w ∷ ws) [] f = elim f [ ]

pub rest_none : (ds ws vs : List ℕ) → Spans 0 ws → total ws ≤ 65535 → total ws ≤ 8 * length ds → Fit ws vs → Rest (puts ds 0 ws vs) ds ws vs 0 0
rest_none ds ws vs s t l f = record { upto = omega arith; same = fit_length ws vs f; small = omega arith; room = omega arith; span = s; fit = f; is = refl }

module _ (all ds ws vs : List ℕ) (at j : ℕ) (r : Rest all ds ws vs at j) (l : j < length ws) where
  abbrev w : ℕ
  w = get_or ws j 0

  abbrev v : ℕ
  v = get_or vs j 0

  one_ws : drop j ws ≡ w ∷ drop (suc j) ws
  one_ws = drop-cons ws j 0 l

  one_vs : drop j vs ≡ v ∷ drop (suc j) vs
  one_vs = drop-cons vs j 0 (omega arith)

  pub rest_now : Inside at (get_or ws j 0) (length ds) × (get_or vs j 0 < 2 ^ get_or ws j 0)
  rest_now =
      let s : Spans at (w ∷ drop (suc j) ws) = rw one_ws at r.span in
      let m : at + (w + total (drop (suc j) ws)) ≤ 65535 = rw one_ws at r.small in
      let n : at + (w + total (drop (suc j) ws)) ≤ 8 * length ds = rw one_ws at r.room in
      let f : Fit (w ∷ drop (suc j) ws) (v ∷ drop (suc j) vs) = rw (one_ws, one_vs) at r.fit in
      ((s.0, omega arith, omega arith, s.1), f.0)

  pub rest_more : Rest all (put ds at (get_or ws j 0) (get_or vs j 0)) ws vs (at + get_or ws j 0) (j + 1)
  rest_more =
      let s : Spans at (w ∷ drop (suc j) ws) = rw one_ws at r.span in
      let m : at + (w + total (drop (suc j) ws)) ≤ 65535 = rw one_ws at r.small in
      let n : at + (w + total (drop (suc j) ws)) ≤ 8 * length ds = rw one_ws at r.room in
      let f : Fit (w ∷ drop (suc j) ws) (v ∷ drop (suc j) vs) = rw (one_ws, one_vs) at r.fit in
      let g : puts ds at (w ∷ drop (suc j) ws) (v ∷ drop (suc j) vs) ≡ all = rw (one_ws, one_vs) at r.is in
      rw (add-one j) (record {
        upto = l;
        same = r.same;
        small = omega arith;
        room = rw (length-put ds at w v (omega arith)) (omega arith);
        span = s.2;
        fit = f.1;
        is = g;
      })

pub rest_all : (all ds ws vs : List ℕ) (at j : ℕ) → Rest all ds ws vs at j → length ws ≤ j → ds ≡ all
rest_all all ds ws vs at j r l = rw (drop_of_length-le ws l, drop_of_length-le vs {i = j} (omega arith)) at r.is
