-- Counters of bits, counter by counter as the code goes: by what is left of the byte.
-- Assumes nothing.
use Rattle.std.proofs.Common.{◌≡◌, ℕ, suc, ◌+◌, ◌/◌, ◌%◌, ◌^◌, ◌<◌, ◌≤◌, List, [], ◌∷◌, ◌++◌, length, get_or, take, drop, set, sym, refl, ap, ◌∙◌, append-nil, pow-suc, add-one, arith, take-append-drop, drop_of_length-le, take_all, drop-cons, take-suc-set, drop-set-lt}
use native.Mathlib.Nat.{div-div-eq-div-mul}
use lib.Seq.{append_snoc}
use Rattle.bits.specs.Bits.{bit, is_on}
use Rattle.bits.proofs.BitLaws.{bit_on, bit_off, choose_ind}
use Rattle.figures.specs.BitCounts.{bit_count_after, bit_counts_from, bit_counts_after}

-- ---- one counter
next_rest : (byte j : ℕ) → byte / 2 ^ j / 2 ≡ byte / 2 ^ suc j
next_rest byte j = div-div-eq-div-mul byte (2 ^ j) 2 ∙ ap (λ (n : ℕ). byte / n) (sym (pow-suc 2 j))

digit_added : (byte j c : ℕ) → c < 2 ^ 64 → (c + bit byte j) % 2 ^ 64 ≡ bit_count_after byte j c
digit_added byte j c h =
    choose_ind (λ (x : ℕ). (c + bit byte j) % 2 ^ 64 ≡ x) (is_on byte j) ((c + 1) % 2 ^ 64) c
    (λ e. rw (bit_on byte j e)) (λ e. rw (bit_off byte j e) (omega arith))

-- no bit is left
none_left : (byte j : ℕ) (cs : List ℕ) → byte / 2 ^ j ≡ 0 → bit_counts_from byte j cs ≡ cs
unfolding bit_counts_from bit
none_left byte j [] e = refl
none_left byte j (c ∷ cs) e =
    rw e (ap (λ (x : List ℕ). c ∷ x) (none_left byte (suc j) cs (sym (next_rest byte j) ∙ rw e refl)))

-- ---- the counters before i are done, and those from i on are still to come
module _ (cs₀ cs : List ℕ) (byte rest i : ℕ) (left : rest ≡ byte / 2 ^ i)
    (e : bit_counts_after cs₀ byte ≡ take i cs ++ bit_counts_from byte i (drop i cs)) where
  digit_is : (n : ℕ) → get_or cs i 0 < 2 ^ 64 → n ≡ (get_or cs i 0 + rest % 2) % 2 ^ 64
      → n ≡ bit_count_after byte i (get_or cs i 0)
  unfolding bit
  digit_is n k f = f ∙ rw left (digit_added byte i (get_or cs i 0) k)

  pub counts_next : (n : ℕ) → i < length cs → get_or cs i 0 < 2 ^ 64 → n ≡ (get_or cs i 0 + rest % 2) % 2 ^ 64
      → bit_counts_after cs₀ byte ≡ take (i + 1) (set cs i n) ++ bit_counts_from byte (i + 1) (drop (i + 1) (set cs i n))
  unfolding bit_counts_from
  counts_next n h k f =
      let more : List ℕ = bit_counts_from byte (suc i) (drop (suc i) cs) in
      let l : i < suc i = omega arith in
      e
      ∙ ap (λ (x : List ℕ). take i cs ++ bit_counts_from byte i x) (drop-cons cs i 0 h)
      ∙ ap (λ (c : ℕ). take i cs ++ c ∷ more) (sym (digit_is n k f))
      ∙ sym (append_snoc (take i cs) n more)
      ∙ rw (add-one, take-suc-set cs i n h, drop-set-lt (suc i) cs i n l) refl

  pub rest_next : rest / 2 ≡ byte / 2 ^ (i + 1)
  rest_next = rw (left, add-one) (next_rest byte i)

  pub counts_stop : rest ≡ 0 → cs ≡ bit_counts_after cs₀ byte
  counts_stop z =
      let none : bit_counts_from byte i (drop i cs) ≡ drop i cs = none_left byte i (drop i cs) (sym left ∙ z) in
      sym (e ∙ ap (λ (x : List ℕ). take i cs ++ x) none ∙ take-append-drop i cs)

  pub counts_done : length cs ≤ i → cs ≡ bit_counts_after cs₀ byte
  unfolding bit_counts_from
  counts_done h =
      let n : drop i cs ≡ [] = drop_of_length-le cs h in
      sym (e ∙ ap (λ (x : List ℕ). take i cs ++ bit_counts_from byte i x) n ∙ append-nil (take i cs) ∙ take_all i cs h)
