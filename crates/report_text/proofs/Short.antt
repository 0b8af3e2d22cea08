-- How long lines can be: a number of 64 bits has at most 20 characters, with its sign.
-- Assumes nothing.
use Prim.Native.Nat.{ℕ, zero, suc, ◌+◌, ◌*◌, ◌/◌, ◌^◌, ◌≤◌, ◌<◌}
use native.Mathlib.Nat.{pow-succ', suc-mul, mul-le-mul_right}
use native.Mathlib.Numerals.{add-one}
use native.Mathlib.Omega.{arith}
use mathlib.Core.Bool.{Bool, true, false}
use mathlib.Core.List.{List, [], ◌∷◌, ◌++◌}
use lib.Dec.{eqb}
use lib.IntN.{ℤ, pos, negsuc}
use lib.ListN.{length, length-append}
use mir.Syntax.{w64}
use mir.Val.{Fits, SFits}
use Rattle.bits.specs.Bits.{choose}
use Rattle.figures.specs.declared.Figure.{Figure}
use Rattle.text.specs.Text.{ascii}
use Rattle.text.specs.Pages.{Puts}
use Rattle.text.specs.declared.Page.{Page}
use Rattle.text.specs.Numbers.{digit, decimal, spaced, signed}
use Rattle.text.proofs.Decimal.{decimal_ind}
use Rattle.report_text.specs.Lines.{spaced_signed, extreme, reading_line, count_line, end_line}

-- ---- numbers

-- a number below 10 to the k + 1 has k + 1 digits at most
abbrev Short : ℕ → List ℕ → Type 0
Short n ds = (k : ℕ) → n < 10 ^ suc k → length ds ≤ suc k

one_digit : (n : ℕ) → n < 10 → Short n (digit n ∷ [])
one_digit n h k f = omega arith

one_more : (n : ℕ) → 10 ≤ n → Short (n / 10) (decimal (n / 10)) → Short n (decimal (n / 10) ++ (digit n ∷ []))
one_more n h short zero f = absurd (omega arith)
one_more n h short (suc k) f =
    let front : n / 10 < 10 ^ suc k = omega (arith, pow-succ' 10 (suc k)) in
    rw length-append (omega (arith, short k front))

decimal_short : (n : ℕ) → Short n (decimal n)
decimal_short = decimal_ind Short one_digit one_more

decimal_20 : (n : ℕ) → Fits w64 n → length (decimal n) ≤ 20
decimal_20 n f = decimal_short n 19 (omega (arith, f.fits))

spaced_21 : (n : ℕ) → Fits w64 n → length (spaced n) ≤ 21
unfolding spaced
spaced_21 n f = omega (arith, decimal_20 n f)

signed_20 : (z : ℤ) → SFits w64 z → length (signed z) ≤ 20
unfolding signed
signed_20 (pos n) f = decimal_20 n (record { fits = omega (arith, f.sfits) })
signed_20 (negsuc n) f = let digits = decimal_short (suc n) 18 (omega (arith, f.sfits)) in omega arith

spaced_signed_21 : (z : ℤ) → SFits w64 z → length (spaced_signed z) ≤ 21
unfolding spaced_signed
spaced_signed_21 z f = omega (arith, signed_20 z f)

extreme_21 : (samples : ℕ) (z : ℤ) → SFits w64 z → length (extreme samples z) ≤ 21
unfolding extreme
extreme_21 samples z f = by_samples (eqb samples 0)
  where
    by_samples : (b : Bool) → length (choose b (ascii " -") (spaced_signed z)) ≤ 21
    by_samples true = omega arith
    by_samples false = spaced_signed_21 z f

-- ---- lines

-- four numbers, each behind a space, and the line's end
pub reading_short : (name : List ℕ) (samples : ℕ) (f : Figure)
    → Fits w64 samples → SFits w64 f.least → SFits w64 f.greatest → SFits w64 f.sum
    → length (reading_line name samples f) ≤ length name + 85
unfolding reading_line
reading_short name samples f fn fl fg fs =
    simp length-append
    (omega (
      arith,
      spaced_21 samples fn,
      extreme_21 samples f.least fl,
      extreme_21 samples f.greatest fg,
      spaced_signed_21 f.sum fs,
    ))

-- a point, two numbers, the second behind a space, and the line's end
pub count_short : (register : List ℕ) (j n : ℕ) → Fits w64 j → Fits w64 n
    → length (count_line register j n) ≤ length register + 43
unfolding count_line
count_short register j n fj fn = simp length-append (omega (arith, decimal_20 j fj, spaced_21 n fn))

-- "end", two numbers, each behind a space, and the line's end
pub end_short : (answer accepted : ℕ) → Fits w64 answer → Fits w64 accepted → length (end_line answer accepted) ≤ 46
unfolding end_line
end_short answer accepted fa fn = simp length-append (omega (arith, spaced_21 answer fa, spaced_21 accepted fn))

-- the place after a word is no farther than the word is long
pub place_short : (o p : Page) (w : List ℕ) (k : ℕ) → Puts o w p → length w ≤ k → p.at ≤ o.at + k
place_short o p w k f h = omega (arith, f.put.place)

-- a line more, and all of them
pub one_farther : (at i k next n : ℕ) → next ≤ at + i * k → n ≤ next + k → n ≤ at + (i + 1) * k
one_farther at i k next n h g = rw (add-one, suc-mul) (omega arith)

pub all_so_far : (at i k next m : ℕ) → i ≤ m → next ≤ at + i * k → next ≤ at + m * k
all_so_far at i k next m h g = omega (arith, mul-le-mul_right k h)
