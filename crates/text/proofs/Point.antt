-- Digits behind a point: a number and a point, then one digit more each time; and what the digits mean.
-- Assumes nothing.
use Prim.Native.Nat.{ℕ, zero, suc, ◌-◌, ◌*◌, ◌/◌, ◌%◌, ◌^◌, ◌<◌}
use native.Mathlib.Nat.{div-one, mod-one, div-div-eq-div-mul, pow-succ', mul_assoc, mod-add-div}
use native.Mathlib.Omega.{arith}
use mathlib.Core.Path.{◌≡◌, refl, sym, ap, ◌∙◌}
use mathlib.Core.List.{[], ◌∷◌, ◌++◌, append_assoc}
use lib.ListN.{length, length-append}
use Rattle.text.specs.Text.{ascii}
use Rattle.text.specs.Pages.{Puts}
use Rattle.text.specs.declared.Page.{Page}
use Rattle.text.specs.Numbers.{digit, decimal, value_after, value, Digits, last_digits, pointed, places, Places}
use Rattle.text.proofs.Puts.{◌then◌}
use Rattle.text.proofs.Decimal.{value_snoc, digits_snoc}

last_count : (k n : ℕ) → length (last_digits k n) ≡ k
unfolding last_digits
last_count zero n = refl
last_count (suc k) n = length-append (last_digits k (n / 10)) (digit n ∷ []) ∙ omega (arith, last_count k (n / 10))

last_digits_law : (k n : ℕ) → Digits (last_digits k n)
unfolding last_digits
last_digits_law zero n = tt
last_digits_law (suc k) n =
    digits_snoc (last_digits k (n / 10)) (digit n) (last_digits_law k (n / 10)) (omega arith) (omega arith)

-- the whole part, a digit at a time
whole_more : (k n : ℕ) → n / 10 ^ suc k ≡ n / 10 / 10 ^ k
whole_more k n = ap (λ (x : ℕ). n / x) (pow-succ' 10 k) ∙ sym (div-div-eq-div-mul n 10 (10 ^ k))

last_means : (k n : ℕ) → value (last_digits k n) ≡ n % 10 ^ k
unfolding last_digits value_after
last_means zero n = sym (mod-one n)
last_means (suc k) n =
    let whole : 10 ^ suc k * (n / 10 ^ suc k) ≡ 10 * (10 ^ k * (n / 10 / 10 ^ k)) =
    ap (λ (x : ℕ). x * (n / 10 ^ suc k)) (pow-succ' 10 k) ∙ ap (λ (x : ℕ). 10 * 10 ^ k * x) (whole_more k n)
    ∙ mul_assoc 10 (10 ^ k) (n / 10 / 10 ^ k) in
    value_snoc 0 (last_digits k (n / 10)) (digit n)
    ∙ omega (arith, last_means k (n / 10), whole, mod-add-div n (10 ^ suc k), mod-add-div (n / 10) (10 ^ k))

has_point : (k n : ℕ) → 0 < k → places k n ≡ decimal (n / 10 ^ k) ++ (ascii "." ++ last_digits k n)
unfolding places pointed
has_point zero n h = absurd (omega arith)
has_point (suc k) n h = refl

pub all_places : Places
unfolding places
all_places =
    record { none = λ n. refl; point = has_point; count = last_count; digits = last_digits_law; means = last_means }

-- ---- as it is put
pub put_point : (o p q : Page) (k n : ℕ) → k ≡ 0 → Puts o (decimal n) p → Puts p (46 ∷ []) q → Puts o (pointed k n) q
unfolding pointed last_digits
put_point o p q k n h f g = rw (h, div-one) (f then g)

pointed_more : (k n : ℕ) → pointed (suc k) n ≡ pointed k (n / 10) ++ (digit n ∷ [])
unfolding pointed last_digits
pointed_more k n =
    ap (λ (x : ℕ). decimal x ++ (46 ∷ (last_digits k (n / 10) ++ (digit n ∷ [])))) (whole_more k n)
    ∙ sym (append_assoc (decimal (n / 10 / 10 ^ k)) (46 ∷ last_digits k (n / 10)) (digit n ∷ []))

pub put_behind : (o p q : Page) (k n : ℕ) → (k ≡ 0 → ⊥) → Puts o (pointed (k - 1) (n / 10)) p
    → Puts p (digit n ∷ []) q → Puts o (pointed k n) q
put_behind o p q zero n h f g = absurd (h refl)
put_behind o p q (suc k) n h f g =
    let e : suc k - 1 ≡ k = omega arith in
    rw (pointed_more k n) ((rw e at f) then g)

pub put_no_point : (o p : Page) (k n : ℕ) → k ≡ 0 → Puts o (decimal n) p → Puts o (places k n) p
unfolding places
put_no_point o p k n h f = rw h f

pub put_some_places : (o p : Page) (k n : ℕ) → (k ≡ 0 → ⊥) → Puts o (pointed k n) p → Puts o (places k n) p
unfolding places
put_some_places o p zero n h f = absurd (h refl)
put_some_places o p (suc k) n h f = f
