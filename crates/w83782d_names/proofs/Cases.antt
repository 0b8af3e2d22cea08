-- The name by cases: each bank from 50h up, and each range of indexes; and that the names are the map's registers.
-- Assumes nothing.
use Prim.Native.Nat.{ℕ, ◌-◌, ◌≤◌, ◌<◌}
use native.Mathlib.Omega.{arith}
use mathlib.Core.Path.{◌≡◌}
use mathlib.Core.Bool.{not}
use borrow.Author.Tests.{le-ltb, lt-ltb, ne_eqb}
use lib.Text.{eqt}
use Rattle.bits.proofs.Every.{same_tests}
use Rattle.text.specs.Text.{ascii}
use Rattle.text.specs.Pages.{Puts}
use Rattle.text.specs.declared.Page.{Page}
use Rattle.w83782d_map.specs.Map.{rows, bank_at, index_at, present_at}
use Rattle.w83782d_names.specs.Names.{no_register, find, reading_names, control_names}
use Rattle.w83782d_names.specs.Names.{bank0_names, bank1_names, bank2_names, bank4_names}
use Rattle.w83782d_names.specs.Names.{banked, name_in, name_of, Names}
use Rattle.w83782d_names.specs.Rows.{sensor_rows, sensor_name}
use Rattle.w83782d_names.proofs.Tables.{same_from, put_same}

-- what is put where a sensor's bank is selected
sensor_is_1 : (i : ℕ) → 0x50 ≤ i → i < 0x60 → sensor_name (ascii "temperature 2 ") i ≡ ascii (find bank1_names i)
unfolding bank1_names sensor_name sensor_rows
sensor_is_1 = same_from (sensor_name (ascii "temperature 2 ")) (λ i. ascii (find bank1_names i)) 0x50 16 tt

sensor_is_2 : (i : ℕ) → 0x50 ≤ i → i < 0x60 → sensor_name (ascii "temperature 3 ") i ≡ ascii (find bank2_names i)
unfolding bank2_names sensor_name sensor_rows
sensor_is_2 = same_from (sensor_name (ascii "temperature 3 ")) (λ i. ascii (find bank2_names i)) 0x50 16 tt

module _ (o p : Page) (b i : ℕ) where
  -- ---- from 50h to 5Fh
  pub put_0 : b ≡ 0 → Puts o (ascii (find bank0_names i)) p → Puts o (ascii (banked b i)) p
  unfolding banked
  put_0 e f = rw e f

  pub put_1 : b ≡ 1 → 0x50 ≤ i → i < 0x60 → Puts o (sensor_name (ascii "temperature 2 ") i) p
      → Puts o (ascii (banked b i)) p
  unfolding banked
  put_1 e h k f = rw e (put_same o p _ _ (sensor_is_1 i h k) f)

  pub put_2 : b ≡ 2 → 0x50 ≤ i → i < 0x60 → Puts o (sensor_name (ascii "temperature 3 ") i) p
      → Puts o (ascii (banked b i)) p
  unfolding banked
  put_2 e h k f = rw e (put_same o p _ _ (sensor_is_2 i h k) f)

  pub put_4 : b ≡ 4 → Puts o (ascii (find bank4_names i)) p → Puts o (ascii (banked b i)) p
  unfolding banked
  put_4 e f = rw e f

  pub put_no_bank : (b ≡ 0 → ⊥) → (b ≡ 1 → ⊥) → (b ≡ 2 → ⊥) → (b ≡ 4 → ⊥) → Puts o (ascii "no such bank") p
      → Puts o (ascii (banked b i)) p
  unfolding banked
  put_no_bank x y z w f = rw (ne_eqb b 0 x, ne_eqb b 1 y, ne_eqb b 2 z, ne_eqb b 4 w) f

  -- ---- any index
  pub put_of_reading : 0x20 ≤ i → i ≤ 0x3F → Puts o (ascii (find reading_names i)) p → Puts o (name_of b i) p
  unfolding name_of name_in
  put_of_reading h k f = rw (le-ltb i 0x20 h, lt-ltb i 0x40 (omega arith)) f

  pub put_of_control : 0x40 ≤ i → i ≤ 0x4F → Puts o (ascii (find control_names i)) p → Puts o (name_of b i) p
  unfolding name_of name_in
  put_of_control h k f = rw (le-ltb i 0x20 (omega arith), le-ltb i 0x40 h, lt-ltb i 0x50 (omega arith)) f

  pub put_of_bank : 0x50 ≤ i → i ≤ 0x5F → Puts o (ascii (banked b i)) p → Puts o (name_of b i) p
  unfolding name_of name_in
  put_of_bank h k f =
      rw (le-ltb i 0x20 (omega arith), le-ltb i 0x40 (omega arith), le-ltb i 0x50 h, lt-ltb i 0x60 (omega arith)) f

  pub put_again : 0x60 ≤ i → i ≤ 0x7F → Puts o (ascii (find reading_names (i - 0x40))) p → Puts o (name_of b i) p
  unfolding name_of name_in
  put_again h k f =
      rw (
        le-ltb i 0x20 (omega arith),
        le-ltb i 0x40 (omega arith),
        le-ltb i 0x50 (omega arith),
        le-ltb i 0x60 h,
        lt-ltb i 0x80 (omega arith),
      ) f

  pub put_below : i < 0x20 → Puts o (ascii no_register) p → Puts o (name_of b i) p
  unfolding name_of name_in
  put_below h f = rw (lt-ltb i 0x20 h) f

  pub put_above : 0x80 ≤ i → Puts o (ascii no_register) p → Puts o (name_of b i) p
  unfolding name_of name_in
  put_above h f =
      rw (
        le-ltb i 0x20 (omega arith),
        le-ltb i 0x40 (omega arith),
        le-ltb i 0x50 (omega arith),
        le-ltb i 0x60 (omega arith),
        le-ltb i 0x80 h,
      ) f

pub names : Names
unfolding present_at rows name_in banked reading_names control_names bank0_names bank1_names bank2_names bank4_names
names = same_tests 112 present_at (λ c. not (eqt (name_in (bank_at c) (index_at c)) no_register)) tt
