-- Two's complement over any half range: there and back, and levels in the order of the signed numbers.
-- By the two halves of the codes. Assumes nothing.
use Rattle.std.proofs.Common.{◌≡◌, ℕ, suc, ◌+◌, ◌-◌, ◌*◌, ◌%◌, ◌<◌, ◌≤◌, Bool, true, false, ltb, ℤ, pos, negsuc, neg_ℤ, sym, refl, ap, ◌∙◌, subst, ap₂, mod-lt, mod-eq_of_lt, arith, w8, SFits, ltb-false, ltb-true, le-ltb, lt-ltb}
use native.Mathlib.Nat.{add-mod_right}
use lib.Signed.{lt_z}
use Rattle.bits.specs.Bits.{choose}
use Rattle.numbers.specs.TwosComplement.{half8, signed_of, code_of, holds, level_of, TwosComplement}

pub low_half : (h code : ℕ) → code < h → pos code ≡ signed_of h code
unfolding signed_of
low_half h code l = sym (ap (λ (t : Bool). choose t (pos code) (neg_ℤ (pos (2 * h - code)))) (lt-ltb code h l))

pub high_half : (h code : ℕ) → h ≤ code → neg_ℤ (pos (2 * h - code)) ≡ signed_of h code
unfolding signed_of
high_half h code l = sym (ap (λ (t : Bool). choose t (pos code) (neg_ℤ (pos (2 * h - code)))) (le-ltb code h l))

-- the upper half in the other form of a negative number
pub upper : (h code : ℕ) → h ≤ code → code < 2 * h → signed_of h code ≡ negsuc (2 * h - 1 - code)
upper h code l r =
    let e : 2 * h - code ≡ suc (2 * h - 1 - code) = omega arith in
    sym (high_half h code l) ∙ ap (λ (n : ℕ). neg_ℤ (pos n)) e

module _ (h code : ℕ) (fits : code < 2 * h) where
  there : code_of h (signed_of h code) ≡ code
  there = go (ltb code h) refl
    where
      go : (t : Bool) → ltb code h ≡ t → code_of h (signed_of h code) ≡ code
      go true e = ap (code_of h) (sym (low_half h code (ltb-true code h e)))
      go false e =
          let l : h ≤ code = ltb-false code h e in
          ap (code_of h) (upper h code l fits) ∙ omega arith

  in_range : holds h (signed_of h code) ≡ true
  in_range = go (ltb code h) refl
    where
      go : (t : Bool) → ltb code h ≡ t → holds h (signed_of h code) ≡ true
      go true e = ap (holds h) (sym (low_half h code (ltb-true code h e))) ∙ e
      go false e =
          let l : h ≤ code = ltb-false code h e in
          ap (holds h) (upper h code l fits) ∙ lt-ltb (2 * h - 1 - code) h (omega arith)

back : (h : ℕ) (z : ℤ) → holds h z ≡ true → signed_of h (code_of h z) ≡ z
back h (pos n) e = sym (low_half h n (ltb-true n h e))
back h (negsuc n) e =
    let l : n < h = ltb-true n h e in
    upper h (2 * h - suc n) (omega arith) (omega arith) ∙ ap negsuc (omega arith)

-- a level is the code plus h in the lower half, and the code minus h in the upper
level_low : (h code : ℕ) → code < h → level_of h code ≡ code + h
level_low h code l = mod-eq_of_lt (omega arith)

level_high : (h code : ℕ) → h ≤ code → code < 2 * h → level_of h code ≡ code - h
level_high h code l r =
    let e : code + h ≡ (code - h) + 2 * h = omega arith in
    ap (λ (n : ℕ). n % (2 * h)) e ∙ add-mod_right (code - h) (2 * h) ∙ mod-eq_of_lt (omega arith)

-- one comparison agrees with another where both say the same
agree : (a b c d : ℕ) → (a < b → c < d) → (b ≤ a → d ≤ c) → ltb a b ≡ ltb c d
agree a b c d p q = go (ltb a b) refl
  where
    go : (t : Bool) → ltb a b ≡ t → t ≡ ltb c d
    go true e = sym (lt-ltb c d (p (ltb-true a b e)))
    go false e = sym (le-ltb c d (q (ltb-false a b e)))

module _ (h a b : ℕ) (fa : a < 2 * h) (fb : b < 2 * h) where
  levels : ltb (level_of h a) (level_of h b) ≡ lt_z (signed_of h a) (signed_of h b)
  levels = go (ltb a h) (ltb b h) refl refl
    where
      go : (s t : Bool) → ltb a h ≡ s → ltb b h ≡ t
          → ltb (level_of h a) (level_of h b) ≡ lt_z (signed_of h a) (signed_of h b)
      go true true p q =
          let la : a < h = ltb-true a h p in
          let lb : b < h = ltb-true b h q in
          ap₂ ltb (level_low h a la) (level_low h b lb)
          ∙ agree (a + h) (b + h) a b (λ x. omega arith) (λ x. omega arith)
          ∙ ap₂ lt_z (low_half h a la) (low_half h b lb)
      go true false p q =
          let la : a < h = ltb-true a h p in
          let lb : h ≤ b = ltb-false b h q in
          ap₂ ltb (level_low h a la) (level_high h b lb fb) ∙ le-ltb (a + h) (b - h) (omega arith)
          ∙ ap₂ lt_z (low_half h a la) (sym (upper h b lb fb))
      go false true p q =
          let la : h ≤ a = ltb-false a h p in
          let lb : b < h = ltb-true b h q in
          ap₂ ltb (level_high h a la fa) (level_low h b lb) ∙ lt-ltb (a - h) (b + h) (omega arith)
          ∙ ap₂ lt_z (sym (upper h a la fa)) (low_half h b lb)
      go false false p q =
          let la : h ≤ a = ltb-false a h p in
          let lb : h ≤ b = ltb-false b h q in
          ap₂ ltb (level_high h a la fa) (level_high h b lb fb)
          ∙ agree (a - h) (b - h) (2 * h - 1 - b) (2 * h - 1 - a) (λ x. omega arith) (λ x. omega arith)
          ∙ ap₂ lt_z (sym (upper h a la fa)) (sym (upper h b lb fb))

pub level_lt : (h code : ℕ) → 0 < h → level_of h code < 2 * h
level_lt h code p = mod-lt (code + h) (omega arith)

pub twos_complement_holds : TwosComplement
twos_complement_holds = record { there = there; back = back; in_range = in_range; levels = levels }

pub code_lt : (h : ℕ) (z : ℤ) → holds h z ≡ true → code_of h z < 2 * h
code_lt h (pos n) e = omega (arith, ltb-true n h e)
code_lt h (negsuc n) e = omega (arith, ltb-true n h e)

-- a byte holds what a signed byte says, and the other way
pub byte_holds : (z : ℤ) → SFits w8 z → holds half8 z ≡ true
byte_holds (pos n) f = lt-ltb n half8 f.sfits
byte_holds (negsuc n) f = lt-ltb n half8 f.sfits

pub holds_byte : (z : ℤ) → holds half8 z ≡ true → SFits w8 z
holds_byte (pos n) e = record { sfits = ltb-true n half8 e }
holds_byte (negsuc n) e = record { sfits = ltb-true n half8 e }

-- the number of a byte fits a signed byte
pub byte_fits : (code : ℕ) (z : ℤ) → code < 256 → z ≡ signed_of half8 code → SFits w8 z
byte_fits code z h e = subst (SFits w8) (sym e) (holds_byte (signed_of half8 code) (in_range half8 code h))
