-- The registers that claims name by their index: the cell that it reaches in every bank, that a write is accepted, and
-- the bits that it stores. Each computes. Assumes nothing.
use mathlib.Core.Path.{◌≡◌, refl}
use Prim.Native.Nat.{ℕ}
use Rattle.w83782d_map.specs.Map.{rows, present_at, writable_at}
use Rattle.w83782d_map.specs.Cells.{bank_select, chassis_clear, configuration}
use Rattle.w83782d_map.specs.Access.{write_answer, stored_bits}
use Rattle.w83782d_registers.specs.Registers.{cell_of}

pub record Register (i c bits : ℕ) : Type 0 where
  pub cell : (b : ℕ) → cell_of b i ≡ c
  pub answer : write_answer c ≡ 0
  pub stored : stored_bits c ≡ bits

pub register_40 : Register 0x40 configuration 0b0100_1011
unfolding cell_of write_answer present_at writable_at rows
register_40 = record { cell = λ b. refl; answer = refl; stored = refl }

pub register_46 : Register 0x46 chassis_clear 0
unfolding cell_of write_answer present_at writable_at rows
register_46 = record { cell = λ b. refl; answer = refl; stored = refl }

pub register_4_e : Register 0x4E bank_select 0b1000_0111
unfolding cell_of write_answer present_at writable_at rows
register_4_e = record { cell = λ b. refl; answer = refl; stored = refl }
