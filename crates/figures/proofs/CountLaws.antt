-- Counters of bits: what a byte leaves of each, and over a list of bytes.
-- Assumes nothing.
use mathlib.Core.Path.{◌≡◌, refl, sym, ap, ◌∙◌}
use mathlib.Core.List.{List, [], ◌∷◌, ◌++◌}
use Prim.Native.Nat.{ℕ, zero, suc, ◌+◌, ◌%◌, ◌^◌, ◌<◌, ◌≤◌}
use native.Mathlib.Nat.{add-zero, zero-add}
use native.Mathlib.Numerals.{add-one}
use native.Mathlib.Omega.{arith}
use lib.ListN.{length, get_or, replicate, length-replicate, get_or-replicate, length-append, replicate-append-replicate}
use Rattle.bits.specs.Bits.{bit, is_on}
use Rattle.bits.proofs.BitLaws.{bit_lt, bit_on, bit_off, choose_ind}
use Rattle.figures.specs.BitCounts.{bit_count_after, bit_counts_from, bit_counts_after}
use Rattle.figures.specs.BitCounts.{bit_counts_over, bytes_with_bit, bits_of, BitCounts}

-- ---- each counter
from_each : (cs : List ℕ) (byte j k : ℕ) → k < length cs
    → get_or (bit_counts_from byte j cs) k 0 ≡ bit_count_after byte (j + k) (get_or cs k 0)
unfolding bit_counts_from
from_each [] byte j k h = absurd (omega arith)
from_each (c ∷ cs) byte j zero h = rw add-zero refl
from_each (c ∷ cs) byte j (suc k) h =
    let e : suc j + k ≡ j + suc k = omega arith in
    from_each cs byte (suc j) k (omega arith) ∙ rw e refl

each : (cs : List ℕ) (byte j : ℕ) → j < length cs
    → get_or (bit_counts_after cs byte) j 0 ≡ bit_count_after byte j (get_or cs j 0)
each cs byte j h = from_each cs byte 0 j h ∙ rw zero-add refl

as_many : (cs : List ℕ) (byte j : ℕ) → length (bit_counts_from byte j cs) ≡ length cs
unfolding bit_counts_from
as_many [] byte j = refl
as_many (c ∷ cs) byte j = ap suc (as_many cs byte (suc j))

-- ---- over a list of bytes
plain : (byte j c : ℕ) → c + 1 < 2 ^ 64 → bit_count_after byte j c ≡ c + bit byte j
plain byte j c h =
    choose_ind (λ (x : ℕ). x ≡ c + bit byte j) (is_on byte j) ((c + 1) % 2 ^ 64) c
    (λ e. omega (arith, bit_on byte j e)) (λ e. omega (arith, bit_off byte j e))

over_all : (bytes cs : List ℕ) (j : ℕ) → j < length cs → get_or cs j 0 + length bytes < 2 ^ 64
    → get_or (bit_counts_over cs bytes) j 0 ≡ get_or cs j 0 + bytes_with_bit j bytes
unfolding bit_counts_over bytes_with_bit
over_all [] cs j h k = rw add-zero refl
over_all (b ∷ bytes) cs j h k =
    let c : get_or (bit_counts_after cs b) j 0 ≡ get_or cs j 0 + bit b j =
    each cs b j h ∙ plain b j (get_or cs j 0) (omega arith) in
    let l : j < length (bit_counts_after cs b) = rw (as_many cs b 0) h in
    over_all bytes (bit_counts_after cs b) j l (omega (arith, c, bit_lt b j)) ∙ omega (arith, c)

from_none : (n j : ℕ) (bytes : List ℕ) → j < n → length bytes < 2 ^ 64
    → get_or (bit_counts_over (replicate n 0) bytes) j 0 ≡ bytes_with_bit j bytes
from_none n j bytes h k =
    let none : List ℕ = replicate n 0 in
    let z : get_or none j 0 ≡ 0 = get_or-replicate n j 0 0 h in
    let l : length none ≡ n = length-replicate n 0 in
    over_all bytes none j (omega arith) (omega arith) ∙ omega (arith, z)

-- ---- by the bytes so far
bytes_more : (bytes : List ℕ) (b j : ℕ) → bytes_with_bit j (bytes ++ (b ∷ [])) ≡ bytes_with_bit j bytes + bit b j
unfolding bytes_with_bit
bytes_more [] b j = omega arith
bytes_more (x ∷ bytes) b j = omega (arith, bytes_more bytes b j)

at_most_all : (bytes : List ℕ) (j : ℕ) → bytes_with_bit j bytes ≤ length bytes
unfolding bytes_with_bit
at_most_all [] j = omega arith
at_most_all (b ∷ bytes) j = omega (arith, at_most_all bytes j, bit_lt b j)

bits_length : (n : ℕ) (bytes : List ℕ) → length (bits_of n bytes) ≡ n
unfolding bits_of
bits_length zero bytes = refl
bits_length (suc n) bytes = simp length-append (omega (arith, bits_length n bytes))

bits_none : (n : ℕ) → bits_of n [] ≡ replicate n 0
unfolding bits_of bytes_with_bit
bits_none zero = refl
bits_none (suc n) =
    ap (λ (x : List ℕ). x ++ (0 ∷ [])) (bits_none n) ∙ replicate-append-replicate n 1 0 ∙ rw add-one refl

from_snoc : (cs : List ℕ) (byte j c : ℕ)
    → bit_counts_from byte j (cs ++ (c ∷ [])) ≡ bit_counts_from byte j cs ++ (bit_count_after byte (j + length cs) c ∷ [])
unfolding bit_counts_from
from_snoc [] byte j c = rw add-zero refl
from_snoc (x ∷ cs) byte j c =
    let e : suc j + length cs ≡ j + suc (length cs) = omega arith in
    ap (λ (l : List ℕ). bit_count_after byte j x ∷ l) (from_snoc cs byte (suc j) c ∙ rw e refl)

bits_more : (n : ℕ) (bytes : List ℕ) (b : ℕ) → length bytes + 1 < 2 ^ 64
    → bit_counts_after (bits_of n bytes) b ≡ bits_of n (bytes ++ (b ∷ []))
unfolding bits_of bit_counts_from
bits_more zero bytes b h = refl
bits_more (suc n) bytes b h =
    let counts : List ℕ = bits_of n bytes in
    let c : ℕ = bytes_with_bit n bytes in
    let at : 0 + length counts ≡ n = omega (arith, bits_length n bytes) in
    let next : bit_count_after b n c ≡ bytes_with_bit n (bytes ++ (b ∷ [])) =
    plain b n c (omega (arith, at_most_all bytes n)) ∙ sym (bytes_more bytes b n) in
    from_snoc counts b 0 c
    ∙ ap (λ (j : ℕ). bit_counts_from b 0 counts ++ (bit_count_after b j c ∷ [])) at
    ∙ ap (λ (x : ℕ). bit_counts_from b 0 counts ++ (x ∷ [])) next
    ∙ ap (λ (l : List ℕ). l ++ (bytes_with_bit n (bytes ++ (b ∷ [])) ∷ [])) (bits_more n bytes b h)

pub bit_counts : BitCounts
bit_counts = record { each = each; exact = from_none; begin = bits_none; more = bits_more }
