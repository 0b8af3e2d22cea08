-- The definitions of Registers.antt and Parts.antt by their cases, over plain variables:
-- what each branch of the code knows gives what it ensures. Assumes nothing.
use mathlib.Core.Path.{◌≡◌, ap, sym, ◌∙◌}
use mathlib.Core.Bool.{Bool, true, false, true≢false}
use mathlib.Core.List.{List}
use Prim.Native.Nat.{ℕ, zero, suc, ◌-◌, ◌<◌, ◌≤◌}
use native.Mathlib.Omega.{arith}
use borrow.Author.Tests.{eq-eqb, ne_eqb, lt-ltb, le-ltb, le-leb, lt-leb}
use lib.Dec.{ltb}
use lib.ListN.{length, get_or, set}
use Rattle.std.specs.Prelude.{Option, Some, None}
use Rattle.std.specs.Option.{unwrap_or, is_some}
use Rattle.bits.specs.Bits.{choose}
use Rattle.bits.proofs.Every.{by_bound}
use Rattle.bits.proofs.Tables.{over}
use Rattle.bits.proofs.Restored as restored
use Rattle.w83782d_map.specs.Map.{cells, power_on_at, kept_at}
use Rattle.w83782d_registers.specs.Registers.{cell_of}
use Rattle.w83782d_registers.specs.Parts.{cell_or_none, restored_byte, restored_registers, restored_in}

-- ---- the cell of an index
module _ (b i : ℕ) where
  pub cell_alias : 0x20 ≤ i → i ≤ 0x7F → 0x60 ≤ i → i - 0x60 ≡ cell_of b i
  unfolding cell_of
  cell_alias h k a = simp (le-ltb i 0x20 h, le-ltb 0x7F i k, le-leb 0x60 i a) (omega arith)

  pub cell_any : 0x20 ≤ i → i ≤ 0x7F → i < 0x60 → i < 0x50 → i - 0x20 ≡ cell_of b i
  unfolding cell_of
  cell_any h k a l = simp (le-ltb i 0x20 h, le-ltb 0x7F i k, lt-leb 0x60 i a, lt-ltb i 0x50 l)

-- a number that is a cell, and one that is none
pub cell_is : (r c : ℕ) → Some c ≡ cell_or_none r → c ≡ r
cell_is r c e = go (ltb r cells) e
  where
    go : (b : Bool) → Some c ≡ choose b (Some r) None → c ≡ r
    go true e = ap (λ (o : Option ℕ). unwrap_or o 0) e
    go false e = absurd (true≢false (ap is_some e))

pub cell_none : (r : ℕ) → None ≡ cell_or_none r → cells ≤ r
cell_none r e =
    by_bound cells r (λ h. let some : cell_or_none r ≡ Some r = simp (lt-ltb r cells h) in absurd (true≢false (ap is_some (sym some ∙ sym e))))
    (λ h. h)

-- ---- power-on and reset
pub restored_count : (keep : Bool) (rs : List ℕ) → length (restored_registers keep rs) ≡ cells
unfolding restored_registers
restored_count = restored.restored_count power_on_at kept_at cells

pub restore_next : (keep : Bool) (rs ts : List ℕ) (c r : ℕ) → length rs ≡ cells → c < cells
    → ts ≡ over (restored_registers keep rs) rs c
    → r ≡ restored_byte keep c (get_or ts c 0) → set ts c r ≡ over (restored_registers keep rs) rs (suc c)
unfolding restored_registers
restore_next = restored.restore_next power_on_at kept_at cells

pub restored_short : (keep : Bool) (rs : List ℕ) → (length rs ≡ cells → ⊥) → rs ≡ restored_in keep rs
restored_short keep rs n = simp (ne_eqb (length rs) cells n)

pub restored_in_law : (keep : Bool) (rs : List ℕ) → length rs ≡ cells → restored_registers keep rs ≡ restored_in keep rs
restored_in_law keep rs h = simp (eq-eqb (length rs) cells h)

-- ---- sensors 2 and 3

-- what holds of both holds over the number
pub both : (P : ℕ → Type 0) → P 2 → P 3 → (n : ℕ) → 2 ≤ n → n ≤ 3 → P n
both P a b zero h k = absurd (omega arith)
both P a b (suc zero) h k = absurd (omega arith)
both P a b (suc (suc zero)) h k = a
both P a b (suc (suc (suc zero))) h k = b
both P a b (suc (suc (suc (suc n)))) h k = absurd (omega arith)
