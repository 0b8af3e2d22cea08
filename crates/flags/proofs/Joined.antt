-- Bytes joined into one number: masks and sums go byte by byte, so that a step on the number is
-- that step on each byte, and the bytes come back. Over any number of bytes. Assumes nothing.
use mathlib.Core.Path.{◌≡◌, refl, ap, ap₂, sym, ◌∙◌}
use mathlib.Core.Bool.{Bool, true, false}
use mathlib.Core.List.{List, [], ◌∷◌}
use Prim.Native.Nat.{ℕ, zero, suc, ◌+◌, ◌*◌, ◌/◌, ◌%◌, ◌^◌, ◌<◌}
use native.Mathlib.Nat.{div-div-eq-div-mul, div-one}
use native.Mathlib.Omega.{arith}
use lib.Bits.{bit_and, bit_or, and_block, or_block}
use lib.Dec.{eqb, lit<}
use lib.ListN.{get_or, length}
use lib.Pow.{pow-add}
use Rattle.bits.specs.Bits.{bit, is_on, flag_of}
use Rattle.flags.specs.Bytes.{joined, bytes_of, AreBytes, is_set, each_byte, normal, flags_of}
use Rattle.bits.proofs.BitLaws.{bit_none}
use Rattle.bits.proofs.Every.{same_below, less_below}

-- ---- the bytes come back
abbrev limit : ℕ → ℕ
limit zero = 1
limit (suc n) = limit n * 256

joined_bytes : (n w : ℕ) → w < limit n → joined (bytes_of n w) ≡ w
joined_bytes zero w h = omega arith
joined_bytes (suc n) w h = omega (arith, joined_bytes n (w / 256) (omega arith))

bytes_lt : (n w : ℕ) → AreBytes (bytes_of n w)
bytes_lt zero w = tt
bytes_lt (suc n) w = (omega arith, bytes_lt n (w / 256))

pub bytes_joined : (bs : List ℕ) → AreBytes bs → bytes_of (length bs) (joined bs) ≡ bs
bytes_joined [] h = refl
bytes_joined (b ∷ bs) h =
    let first : (joined bs * 256 + b) % 256 ≡ b = omega (arith, h.0) in
    let others : (joined bs * 256 + b) / 256 ≡ joined bs = omega (arith, h.0) in
    ap₂ (λ (x : ℕ) (y : List ℕ). x ∷ y) first (ap (bytes_of (length bs)) others ∙ bytes_joined bs h.1)

-- ---- a step on the number is that step on each byte
module _ (f : ℕ → ℕ) (m : ℕ) (fits : (b : ℕ) → b < 256 → f b < 256) where
  and_each : m < 256 → (bs : List ℕ) → AreBytes bs
      → bit_and (joined (each_byte f bs)) (joined (each_byte (λ b. m) bs)) ≡ joined (each_byte (λ b. bit_and (f b) m) bs)
  and_each k [] h = refl
  and_each k (b ∷ bs) h =
      and_block 8 (joined (each_byte f bs)) (joined (each_byte (λ b. m) bs)) (f b) m (fits b h.0) k
      ∙ ap (λ (x : ℕ). x * 256 + bit_and (f b) m) (and_each k bs h.1)

  or_each : (bs : List ℕ) → AreBytes bs
      → bit_or (joined (each_byte f bs)) (joined (each_byte (λ b. b) bs)) ≡ joined (each_byte (λ b. bit_or (f b) b) bs)
  or_each [] h = refl
  or_each (b ∷ bs) h =
      or_block 8 (joined (each_byte f bs)) (joined (each_byte (λ b. b) bs)) (f b) b (fits b h.0) h.0
      ∙ ap (λ (x : ℕ). x * 256 + bit_or (f b) b) (or_each bs h.1)

  add_each : (bs : List ℕ)
      → joined (each_byte f bs) + joined (each_byte (λ b. m) bs) ≡ joined (each_byte (λ b. f b + m) bs)
  add_each [] = refl
  add_each (b ∷ bs) = omega (arith, add_each bs)

  times_each : (bs : List ℕ) → joined (each_byte (λ b. f b * 128) bs) ≡ joined (each_byte f bs) * 128
  times_each [] = refl
  times_each (b ∷ bs) = omega (arith, times_each bs)

each_same : (f g : ℕ → ℕ) → ((b : ℕ) → b < 256 → f b ≡ g b) → (bs : List ℕ) → AreBytes bs
    → each_byte f bs ≡ each_byte g bs
each_same f g e [] h = refl
each_same f g e (b ∷ bs) h = ap₂ (λ (x : ℕ) (y : List ℕ). x ∷ y) (e b h.0) (each_same f g e bs h.1)

each_none : (bs : List ℕ) → each_byte (λ b. b) bs ≡ bs
each_none [] = refl
each_none (b ∷ bs) = ap (λ (x : List ℕ). b ∷ x) (each_none bs)

flag_small : (t : Bool) → flag_of t < 256
flag_small true = lit< tt
flag_small false = lit< tt

-- ---- flags: of each byte the top bit of its seven low bits with 127 added, or its own
abbrev low : ℕ → ℕ
low b = bit_and b 127

abbrev carried : ℕ → ℕ
carried b = bit_and b 127 + 127

abbrev top : ℕ → ℕ
top b = bit_or (bit_and b 127 + 127) b

low_lt : (b : ℕ) → b < 256 → low b < 256
low_lt = less_below 256 low (λ b. 256) tt

carried_lt : (b : ℕ) → b < 256 → carried b < 256
carried_lt = less_below 256 carried (λ b. 256) tt

top_lt : (b : ℕ) → b < 256 → top b < 256
top_lt = less_below 256 top (λ b. 256) tt

top_flag : (b : ℕ) → b < 256 → bit_and (top b) 128 ≡ normal b * 128
top_flag = same_below 256 (λ b. bit_and (top b) 128) (λ b. normal b * 128) tt

module _ (bs : List ℕ) (h : AreBytes bs) where
  spread : bit_and
      (bit_or (bit_and (joined bs) (joined (each_byte (λ b. 127) bs)) + joined (each_byte (λ b. 127) bs)) (joined bs))
      (joined (each_byte (λ b. 128) bs))
      ≡ joined (each_byte normal bs) * 128
  spread =
      let own : joined bs ≡ joined (each_byte (λ b. b) bs) = ap joined (sym (each_none bs)) in
      let masked : bit_and (joined bs) (joined (each_byte (λ b. 127) bs)) ≡ joined (each_byte low bs) =
      ap (λ (x : ℕ). bit_and x (joined (each_byte (λ b. 127) bs))) own
      ∙ and_each (λ b. b) 127 (λ b k. k) (lit< tt) bs h in
      let added : bit_and (joined bs) (joined (each_byte (λ b. 127) bs)) + joined (each_byte (λ b. 127) bs)
      ≡ joined (each_byte carried bs) =
      ap (λ (x : ℕ). x + joined (each_byte (λ b. 127) bs)) masked ∙ add_each low 127 low_lt bs in
      let both : bit_or (bit_and (joined bs) (joined (each_byte (λ b. 127) bs)) + joined (each_byte (λ b. 127) bs))
      (joined bs) ≡ joined (each_byte top bs) =
      ap₂ bit_or added own ∙ or_each carried 0 carried_lt bs h in
      ap (λ (x : ℕ). bit_and x (joined (each_byte (λ b. 128) bs))) both
      ∙ and_each top 128 top_lt (lit< tt) bs h
      ∙ ap joined (each_same (λ b. bit_and (top b) 128) (λ b. normal b * 128) top_flag bs h)
      ∙ times_each normal 0 (λ b k. normal_lt b) bs
    where
      normal_lt : (b : ℕ) → normal b < 256
      normal_lt b = flag_small (is_set b)

pub normalised_flags : (w : ℕ) → w < 18446744073709551616
    → bit_and (bit_or (bit_and w 0x7f7f_7f7f_7f7f_7f7f + 0x7f7f_7f7f_7f7f_7f7f) w) 0x8080_8080_8080_8080 / 128 ≡ flags_of w
unfolding flags_of
normalised_flags w h =
    let e : joined (bytes_of 8 w) ≡ w = joined_bytes 8 w h in
    let s : bit_and (bit_or (bit_and w 0x7f7f_7f7f_7f7f_7f7f + 0x7f7f_7f7f_7f7f_7f7f) w) 0x8080_8080_8080_8080
    ≡ joined (each_byte normal (bytes_of 8 w)) * 128 =
    ap (λ (x : ℕ). bit_and (bit_or (bit_and x 0x7f7f_7f7f_7f7f_7f7f + 0x7f7f_7f7f_7f7f_7f7f) x) 0x8080_8080_8080_8080)
    (sym e) ∙ spread (bytes_of 8 w) (bytes_lt 8 w) in
    omega (arith, s)

-- ---- the lowest bit of byte k
byte_bit : (x d j : ℕ) → d < 256 → bit (x * 256 + d) (8 + j) ≡ bit x j
unfolding bit
byte_bit x d j h =
    let cut : (x * 256 + d) / 256 ≡ x = omega arith in
    rw (pow-add 2 8 j, ← div-div-eq-div-mul, cut)

low_bit : (x d : ℕ) → bit (x * 256 + d) 0 ≡ bit d 0
unfolding bit
low_bit x d = rw div-one (omega arith)

pub bit_joined : (ds : List ℕ) → AreBytes ds → (k : ℕ) → bit (joined ds) (8 * k) ≡ bit (get_or ds k 0) 0
bit_joined [] h k = bit_none (8 * k) ∙ sym (bit_none 0)
bit_joined (d ∷ ds) h zero = low_bit (joined ds) d
bit_joined (d ∷ ds) h (suc k) =
    let e : 8 * suc k ≡ 8 + 8 * k = omega arith in
    ap (bit (joined ds * 256 + d)) e ∙ byte_bit (joined ds) d (8 * k) h.0 ∙ bit_joined ds h.1 k

pub flag_at_law : (w j n : ℕ) → j ≡ n → eqb (w / 2 ^ (8 * j) % 2) 1 ≡ is_on w (8 * n)
unfolding bit
flag_at_law w j n e = rw e

-- ---- flags of bytes that are joined
each_at : (f : ℕ → ℕ) → f 0 ≡ 0 → (bs : List ℕ) (k : ℕ) → get_or (each_byte f bs) k 0 ≡ f (get_or bs k 0)
each_at f z [] k = sym z
each_at f z (b ∷ bs) zero = refl
each_at f z (b ∷ bs) (suc k) = each_at f z bs k

normal_bytes : (bs : List ℕ) → AreBytes (each_byte normal bs)
normal_bytes [] = tt
normal_bytes (b ∷ bs) = (flag_small (is_set b), normal_bytes bs)

pub flags_joined : (bs : List ℕ) → AreBytes bs → length bs ≡ 8 → flags_of (joined bs) ≡ joined (each_byte normal bs)
unfolding flags_of
flags_joined bs h n =
    ap (λ (x : List ℕ). joined (each_byte normal x)) (ap (λ (k : ℕ). bytes_of k (joined bs)) (sym n) ∙ bytes_joined bs h)

flag_bit : (t : Bool) → eqb (bit (flag_of t) 0) 1 ≡ t
unfolding bit
flag_bit true = refl
flag_bit false = refl

pub flag_back : (bs : List ℕ) (k : ℕ) → is_on (joined (each_byte normal bs)) (8 * k) ≡ is_set (get_or bs k 0)
flag_back bs k =
    ap (λ (x : ℕ). eqb x 1) (bit_joined (each_byte normal bs) (normal_bytes bs) k)
    ∙ ap (λ (x : ℕ). eqb (bit x 0) 1) (each_at normal refl bs k)
    ∙ flag_bit (is_set (get_or bs k 0))
