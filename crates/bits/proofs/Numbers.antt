-- Laws of the bytes' number, over any width and offset.
-- Assumes nothing.
use mathlib.Core.Path.{◌≡◌, refl, sym, ap, ◌∙◌, subst}
use mathlib.Core.List.{List, [], ◌∷◌, ◌++◌}
use Prim.Native.Nat.{ℕ, zero, suc, ◌+◌, ◌-◌, ◌*◌, ◌/◌, ◌%◌, ◌^◌, ◌≤◌, ◌<◌}
use native.Mathlib.Nat.{add_assoc, add-zero, zero-add, zero-mul, mul_assoc, mul-add, add-mul, mul-one, div-one, mul-add-mod_self_right, mul-add-div_right}
use native.Mathlib.Numerals.{add-one}
use native.Mathlib.Omega.{arith}
use lib.Dec.{lit<}
use lib.ListN.{length, get_or, take, drop, set, length-append, length-set, length-drop, take-append-drop}
use Rattle.std.proofs.Common.{get_or-take, length-take-le}
use lib.Seq.{take-suc, get_or-drop, drop-cons, set_at, append_snoc}
use lib.Pow.{pow_pos, pow-add, shr-shr, high, low, field as mod-shr, ones_split, ones_lt, shl_exact, shl_lt, shr_lt}
use lib.Arith.{digits_lt}
use lib.Bits.{bit_and, bit_or, and_mask, or_shifted}
use Rattle.bits.specs.Bits.{Octets, number, bytes, leading, field, put, whole_bytes, Inside}

-- ---- shifts and masks of a word

-- `u64::MAX >> (64 - w)` is w ones, so a mask of it takes the remainder by 2 ^ w
pub ones_shr : (w : ℕ) → w ≤ 64 → (2 ^ 64 - 1) / 2 ^ (64 - w) ≡ 2 ^ w - 1
ones_shr w h =
    let e : 64 ≡ w + (64 - w) = omega arith in
    ap (λ (k : ℕ). (2 ^ k - 1) / 2 ^ (64 - w)) e ∙ ap (λ (x : ℕ). x / 2 ^ (64 - w)) (ones_split w (64 - w))
    ∙ high (2 ^ w - 1) (64 - w) (ones_lt (64 - w))

pub and_ones : (n w : ℕ) → w ≤ 64 → bit_and n ((2 ^ 64 - 1) / 2 ^ (64 - w)) ≡ n % 2 ^ w
and_ones n w h = rw (ones_shr w h) (and_mask n w)

-- `a << k | b`, where a's j digits and k digits fit a word and b is below 2 ^ k
pub shl_or : {a b : ℕ} (j k : ℕ) → a < 2 ^ j → j + k ≤ 64 → b < 2 ^ k → bit_or ((a * 2 ^ k) % 2 ^ 64) b ≡ a * 2 ^ k + b
shl_or {a} {b} j k ha hj hb = rw (shl_exact j k 64 ha hj) (or_shifted a k b hb)

-- the field of w digits above p digits is that of the low m digits alone
pub low_field : (hi lo m p w : ℕ) → w + p ≤ m → (hi * 2 ^ m + lo) / 2 ^ p % 2 ^ w ≡ lo / 2 ^ p % 2 ^ w
low_field hi lo m p w h =
    let e : m ≡ (m - (w + p)) + (w + p) = omega arith in
    sym (mod-shr (hi * 2 ^ m + lo) w p)
    ∙ ap (λ (x : ℕ). (hi * x + lo) % 2 ^ (w + p) / 2 ^ p) (ap (λ (k : ℕ). 2 ^ k) e ∙ pow-add 2 (m - (w + p)) (w + p))
    ∙ ap (λ (x : ℕ). (x + lo) % 2 ^ (w + p) / 2 ^ p) (sym (mul_assoc hi (2 ^ (m - (w + p))) (2 ^ (w + p))))
    ∙ ap (λ (x : ℕ). x / 2 ^ p) (mul-add-mod_self_right (hi * 2 ^ (m - (w + p))) (2 ^ (w + p)) lo)
    ∙ mod-shr lo w p

-- ---- the bytes' number

pub number_append : (xs ys : List ℕ) → number (xs ++ ys) ≡ number xs * 2 ^ (8 * length ys) + number ys
unfolding number
number_append [] ys = sym (ap (λ (x : ℕ). x + number ys) (zero-mul (2 ^ (8 * length ys))) ∙ zero-add (number ys))
number_append (x ∷ xs) ys =
    ap (λ (n : ℕ). x * 2 ^ (8 * n) + number (xs ++ ys)) (length-append xs ys)
    ∙ ap (λ (n : ℕ). x * 2 ^ n + number (xs ++ ys)) (mul-add 8 (length xs) (length ys))
    ∙ ap (λ (n : ℕ). x * n + number (xs ++ ys)) (pow-add 2 (8 * length xs) (8 * length ys))
    ∙ ap (λ (n : ℕ). x * (2 ^ (8 * length xs) * 2 ^ (8 * length ys)) + n) (number_append xs ys)
    ∙ simp (add-mul, mul_assoc, add_assoc)

pub number-snoc : (xs : List ℕ) (b : ℕ) → number (xs ++ (b ∷ [])) ≡ number xs * 2 ^ 8 + b
unfolding number
number-snoc xs b = number_append xs (b ∷ []) ∙ ap (λ (x : ℕ). number xs * 2 ^ 8 + x) (add-zero (b * 1) ∙ mul-one b)

pub number_lt : (xs : List ℕ) → Octets xs → number xs < 2 ^ (8 * length xs)
unfolding number
number_lt [] h = lit< tt
number_lt (x ∷ xs) h =
    let e : 8 * suc (length xs) ≡ 8 + 8 * length xs = omega arith in
    rw (e, pow-add 2 8 (8 * length xs)) (digits_lt (h 0) (number_lt xs (λ i. h (suc i))))

pub number-take_suc : (xs : List ℕ) (i : ℕ) → i < length xs → number (take (i + 1) xs) ≡ number (take i xs) * 2 ^ 8 + get_or xs i 0
number-take_suc xs i h = ap (λ (n : ℕ). number (take n xs)) (add-one i) ∙ ap number (take-suc xs i 0 h) ∙ number-snoc (take i xs) (get_or xs i 0)

-- the first k bytes' number
pub number-take : (xs : List ℕ) (k : ℕ) → Octets xs → number (take k xs) ≡ number xs / 2 ^ (8 * length (drop k xs))
number-take xs k h =
    let d : number (drop k xs) < 2 ^ (8 * length (drop k xs)) = number_lt (drop k xs) (λ i. rw get_or-drop (h (k + i))) in
    sym (ap (λ (l : List ℕ). number l / 2 ^ (8 * length (drop k xs))) (sym (take-append-drop k xs))
    ∙ ap (λ (n : ℕ). n / 2 ^ (8 * length (drop k xs))) (number_append (take k xs) (drop k xs))
    ∙ high (number (take k xs)) (8 * length (drop k xs)) d)

-- the first n bits, from the bytes that they lie in alone
pub leading-take : (xs : List ℕ) (n k : ℕ) → Octets xs → n ≤ 8 * k → k ≤ length xs → leading xs n ≡ number (take k xs) / 2 ^ (8 * k - n)
unfolding leading
leading-take xs n k h hn hk =
    let e : 8 * length xs - n ≡ 8 * (length xs - k) + (8 * k - n) = omega arith in
    ap (λ (x : ℕ). number xs / 2 ^ x) e ∙ sym (shr-shr (number xs) (8 * (length xs - k)) (8 * k - n))
    ∙ ap (λ (x : ℕ). number xs / 2 ^ (8 * x) / 2 ^ (8 * k - n)) (sym (length-drop k xs))
    ∙ ap (λ (x : ℕ). x / 2 ^ (8 * k - n)) (sym (number-take xs k h))

-- ---- reading: the bytes from f to i folded into acc

pub record Folded (xs : List ℕ) (f i acc : ℕ) : Type 0 where
  pub after : f ≤ i
  pub small : acc < 2 ^ (8 * (i - f))
  pub sum : number (take i xs) ≡ number (take f xs) * 2 ^ (8 * (i - f)) + acc

pub folded_none : (xs : List ℕ) (f : ℕ) → Folded xs f f 0
folded_none xs f =
    let e : 8 * (f - f) ≡ 0 = omega arith in
    record { after = omega arith; small = rw e (lit< tt); sum = rw e (sym (add-zero (number (take f xs) * 1) ∙ mul-one (number (take f xs)))) }

pub folded_more :
    (xs : List ℕ) (f i acc : ℕ) → Folded xs f i acc → i < length xs → get_or xs i 0 < 2 ^ 8 → i < f + 8
    → Folded xs f (i + 1) (bit_or ((acc * 2 ^ 8) % 2 ^ 64) (get_or xs i 0))
folded_more xs f i acc h hi hb hf =
    let e : 8 * (i + 1 - f) ≡ 8 * (i - f) + 8 = omega (arith, h.after) in
    let s : bit_or ((acc * 2 ^ 8) % 2 ^ 64) (get_or xs i 0) ≡ acc * 2 ^ 8 + get_or xs i 0 = shl_or (8 * (i - f)) 8 h.small (omega (arith, h.after)) hb in
    rw s (record {
      after = omega (arith, h.after);
      small = rw (e, pow-add 2 (8 * (i - f)) 8) (digits_lt h.small hb);
      sum =
          number-take_suc xs i hi ∙ ap (λ (x : ℕ). x * 2 ^ 8 + get_or xs i 0) h.sum
          ∙ rw (e, pow-add 2 (8 * (i - f)) 8) (simp (add-mul, mul_assoc, add_assoc));
    })

-- the bytes from f on: how many they are, and the one at k
pub length_part : (f n : ℕ) (xs : List ℕ) → f + n ≤ length xs → length (take n (drop f xs)) ≡ n
length_part f n xs h = length-take-le n (drop f xs) (rw length-drop (omega arith))

pub get_or_part : (f n k : ℕ) (xs : List ℕ) → k < n → get_or (take n (drop f xs)) k 0 ≡ get_or xs (f + k) 0
get_or_part f n k xs h = get_or-take n (drop f xs) k 0 h ∙ get_or-drop f xs k 0

pub folded_field : (xs : List ℕ) (at w acc : ℕ) → Octets xs → w ≤ 64 → at + w ≤ 8 * length xs → Folded xs (at / 8) (whole_bytes (at + w)) acc
    → bit_and (acc / 2 ^ (whole_bytes (at + w) * 8 - (at + w))) ((2 ^ 64 - 1) / 2 ^ (64 - w)) ≡ field xs at w
unfolding field
folded_field xs at w acc hb hw hl h =
    let k : ℕ = whole_bytes (at + w) in
    let e : whole_bytes (at + w) * 8 - (at + w) ≡ 8 * whole_bytes (at + w) - (at + w) = omega arith in
    and_ones (acc / 2 ^ (k * 8 - (at + w))) w hw ∙ ap (λ (p : ℕ). acc / 2 ^ p % 2 ^ w) e
    ∙ sym (ap (λ (x : ℕ). x % 2 ^ w) (leading-take xs (at + w) (whole_bytes (at + w)) hb (omega arith) (omega arith))
    ∙ ap (λ (x : ℕ). x / 2 ^ (8 * k - (at + w)) % 2 ^ w) h.sum
    ∙ low_field (number (take (at / 8) xs)) acc (8 * (k - at / 8)) (8 * k - (at + w)) w (omega arith))

-- ---- a number's bytes

pub length_bytes : (n v : ℕ) → length (bytes n v) ≡ n
unfolding bytes
length_bytes zero v = refl
length_bytes (suc n) v = length-append (bytes n (v / 2 ^ 8)) (v % 2 ^ 8 ∷ []) ∙ ap (λ (k : ℕ). k + 1) (length_bytes n (v / 2 ^ 8)) ∙ add-one n

pub bytes-snoc : (n v b : ℕ) → b < 2 ^ 8 → bytes (suc n) (v * 2 ^ 8 + b) ≡ bytes n v ++ (b ∷ [])
unfolding bytes
bytes-snoc n v b h = rw (high v 8 h, low v 8 h)

-- the bytes of the bytes' number are the bytes
pub bytes-number : (xs : List ℕ) → Octets xs → (i : ℕ) → i ≤ length xs → bytes i (number (take i xs)) ≡ take i xs
unfolding bytes
bytes-number xs h zero l = refl
bytes-number xs h (suc i) l =
    let t : take (suc i) xs ≡ take i xs ++ (get_or xs i 0 ∷ []) = take-suc xs i 0 l in
    rw (t, number-snoc)
    (bytes-snoc i (number (take i xs)) (get_or xs i 0) (h i) ∙ ap (λ (l : List ℕ). l ++ (get_or xs i 0 ∷ [])) (bytes-number xs h i (omega arith)))

-- ---- writing: the first i bytes of a list are those of the number t, of whole_bytes bytes n, and the rest is as it was

pub record Filled (ds es : List ℕ) (t n i : ℕ) : Type 0 where
  pub long : length es ≡ length ds
  pub is : es ≡ bytes i (t / 2 ^ (8 * (n - i))) ++ drop i ds

pub filled_none : (ds : List ℕ) (n f x : ℕ) → Octets ds → f ≤ length ds → x < 2 ^ (8 * (n - f)) → Filled ds ds (number (take f ds) * 2 ^ (8 * (n - f)) + x) n f
filled_none ds n f x h l hx = record {
  long = refl;
  is = sym (rw (high (number (take f ds)) (8 * (n - f)) hx, bytes-number ds h f l) (take-append-drop f ds));
}

pub filled_more :
    (ds es : List ℕ) (t n i b : ℕ) → Filled ds es t n i → i < n → i < length ds → b ≡ t / 2 ^ (8 * (n - 1 - i)) % 2 ^ 8 → Filled ds (set es i b) t n (i + 1)
unfolding bytes
filled_more ds es t n i b h hi l hb =
    let e : 8 * (n - i) ≡ 8 * (n - 1 - i) + 8 = omega arith in
    let e' : 8 * (n - suc i) ≡ 8 * (n - 1 - i) = omega arith in
    let m : ℕ = t / 2 ^ (8 * (n - 1 - i)) in record {
      long = length-set es i b ∙ h.long;
      is =
          ap (λ (l : List ℕ). set l i b) (h.is ∙ ap (λ (r : List ℕ). bytes i (t / 2 ^ (8 * (n - i))) ++ r) (drop-cons ds i 0 l))
          ∙ set_at (bytes i (t / 2 ^ (8 * (n - i)))) (get_or ds i 0) (drop (suc i) ds) b i (length_bytes i (t / 2 ^ (8 * (n - i))))
          ∙ sym (append_snoc (bytes i (t / 2 ^ (8 * (n - i)))) b (drop (suc i) ds))
          ∙ rw (hb, e, ← shr-shr t (8 * (n - 1 - i)) 8, add-one i, e');
    }

-- the word that is stored: the first byte's upper bits, v, and zeros
pub word-is : (b r w p v j : ℕ) → b < 2 ^ 8 → r ≤ 8 → v < 2 ^ w → 8 - r + j ≡ w + p → w + p ≤ 64 → 8 + j ≤ 64
    → bit_or (((b / 2 ^ (8 - r) * 2 ^ (8 - r)) % 2 ^ 64 * 2 ^ j) % 2 ^ 64) ((v * 2 ^ p) % 2 ^ 64) ≡ (b / 2 ^ (8 - r) * 2 ^ w + v) * 2 ^ p
word-is b r w p v j hb hr hv e f g =
    let q : ℕ = b / 2 ^ (8 - r) in
    let er : 8 ≡ r + (8 - r) = omega arith in
    let hq : q < 2 ^ r = shr_lt r (8 - r) (subst (λ (n : ℕ). b < 2 ^ n) er hb) in
    let hs : q * 2 ^ (8 - r) < 2 ^ 8 = subst (λ (n : ℕ). q * 2 ^ (8 - r) < 2 ^ n) (sym er) (shl_lt r (8 - r) hq) in
    rw (shl_exact r (8 - r) 64 hq (omega arith), shl_exact 8 j 64 hs g, shl_exact w p 64 hv f, mul_assoc q (2 ^ (8 - r)) (2 ^ j), ← pow-add 2 (8 - r) j, e)
    (or_shifted q (w + p) (v * 2 ^ p) (shl_lt w p hv) ∙ rw (pow-add 2 w p) (simp (add-mul, mul_assoc)))

-- and it has the span's bits
pub word_lt : (q r w p v n : ℕ) → q < 2 ^ r → v < 2 ^ w → n ≡ r + (w + p) → (q * 2 ^ w + v) * 2 ^ p < 2 ^ n
word_lt q r w p v n hq hv e = rw (e, ← add_assoc r w p) (shl_lt (r + w) p (rw (pow-add 2 r w) (digits_lt hq hv)))

-- the word as `put_bits` computes it from the first byte b
abbrev pub word : (b at w v : ℕ) → ℕ
word b at w v =
    bit_or (((b / 2 ^ (8 - at % 8) * 2 ^ (8 - at % 8)) % 2 ^ 64 * 2 ^ (8 * (whole_bytes (at + w) - at / 8) - 8)) % 2 ^ 64)
    ((v * 2 ^ (whole_bytes (at + w) * 8 - (at + w))) % 2 ^ 64)

-- the number that `put` makes the bytes of
abbrev pub target : (ds : List ℕ) (at w v : ℕ) → ℕ
target ds at w v = (leading ds at * 2 ^ w + v) * 2 ^ (8 * whole_bytes (at + w) - (at + w))

module _ (ds : List ℕ) (at w v b : ℕ) (h : Octets ds) (inside : Inside at w (length ds)) (hv : v < 2 ^ w) (hb : b ≡ get_or ds (at / 8) 0) where
  -- the word is what follows the bytes before the field's
  pub put_word :
      (target ds at w v ≡ number (take (at / 8) ds) * 2 ^ (8 * (whole_bytes (at + w) - at / 8)) + word b at w v)
      × (word b at w v < 2 ^ (8 * (whole_bytes (at + w) - at / 8)))
  put_word =
      let p : ℕ = 8 * whole_bytes (at + w) - (at + w) in
      let a : ℕ = number (take (at / 8) ds) in
      let x : ℕ = get_or ds (at / 8) 0 in
      let q : ℕ = x / 2 ^ (8 - at % 8) in
      let ep : whole_bytes (at + w) * 8 - (at + w) ≡ p = omega arith in
      let e : 8 * (whole_bytes (at + w) - at / 8) ≡ at % 8 + (w + p) = omega arith in
      let e' : 8 * (at / 8 + 1) - at ≡ 8 - at % 8 = omega arith in
      let e8 : 8 ≡ at % 8 + (8 - at % 8) = omega arith in
      let hq : q < 2 ^ (at % 8) = shr_lt (at % 8) (8 - at % 8) (subst (λ (n : ℕ). x < 2 ^ n) e8 (h (at / 8))) in
      let t : leading ds at ≡ a * 2 ^ (at % 8) + q =
      leading-take ds at (at / 8 + 1) h (omega arith) (omega arith) ∙ rw (number-take_suc ds (at / 8) (omega arith), e')
      (ap (λ (k : ℕ). (a * 2 ^ k + x) / 2 ^ (8 - at % 8)) e8
      ∙ ap (λ (k : ℕ). (a * k + x) / 2 ^ (8 - at % 8)) (pow-add 2 (at % 8) (8 - at % 8))
      ∙ ap (λ (k : ℕ). (k + x) / 2 ^ (8 - at % 8)) (sym (mul_assoc a (2 ^ (at % 8)) (2 ^ (8 - at % 8))))
      ∙ mul-add-div_right (pow_pos (8 - at % 8)) (a * 2 ^ (at % 8)) x) in
      let is : word b at w v ≡ (q * 2 ^ w + v) * 2 ^ p =
      ap (λ (y : ℕ). word y at w v) hb
      ∙ rw ep (word-is x (at % 8) w p v (8 * (whole_bytes (at + w) - at / 8) - 8) (h (at / 8)) (omega arith) hv (omega arith) (omega arith) (omega arith)) in (
        rw (is, t, e, pow-add 2 (at % 8) (w + p), pow-add 2 w p) (simp (add-mul, mul_assoc, add_assoc)),
        rw is (word_lt q (at % 8) w p v (8 * (whole_bytes (at + w) - at / 8)) hq hv e),
      )

  pub put-none : Filled ds ds (target ds at w v) (whole_bytes (at + w)) (at / 8)
  put-none = rw put_word.0 (filled_none ds (whole_bytes (at + w)) (at / 8) (word b at w v) h (omega arith) put_word.1)

  pub put-more : (es : List ℕ) (i : ℕ) → Filled ds es (target ds at w v) (whole_bytes (at + w)) i → at / 8 ≤ i → i < whole_bytes (at + w)
      → Filled ds (set es i (bit_and (word b at w v / 2 ^ (8 * (whole_bytes (at + w) - 1 - i))) 255)) (target ds at w v) (whole_bytes (at + w)) (i + 1)
  put-more es i f l g =
      filled_more ds es (target ds at w v) (whole_bytes (at + w)) i (bit_and (word b at w v / 2 ^ (8 * (whole_bytes (at + w) - 1 - i))) 255) f g (omega arith)
      (and_mask (word b at w v / 2 ^ (8 * (whole_bytes (at + w) - 1 - i))) 8
      ∙ sym (ap (λ (n : ℕ). n / 2 ^ (8 * (whole_bytes (at + w) - 1 - i)) % 2 ^ 8) put_word.0
      ∙ low_field (number (take (at / 8) ds)) (word b at w v) (8 * (whole_bytes (at + w) - at / 8)) (8 * (whole_bytes (at + w) - 1 - i)) 8 (omega arith)))

pub put_all : (ds es : List ℕ) (at w v i : ℕ) → Filled ds es (target ds at w v) (whole_bytes (at + w)) i → i ≡ whole_bytes (at + w) → es ≡ put ds at w v
unfolding put
put_all ds es at w v i f e =
    let z : 8 * (whole_bytes (at + w) - whole_bytes (at + w)) ≡ 0 = omega arith in
    f.is ∙ rw (e, z, div-one)
