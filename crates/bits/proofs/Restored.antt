-- Power-on and reset of cells, whatever their number, power-on values and those kept, and the loop that restores them
-- one by one. Assumes nothing.
use mathlib.Core.Path.{◌≡◌, ap, sym, ◌∙◌, refl}
use mathlib.Core.Bool.{Bool, true, false}
use mathlib.Core.List.{List}
use Prim.Native.Nat.{ℕ, suc, ◌<◌}
use native.Mathlib.Omega.{arith}
use lib.ListN.{length, get_or, set}
use Rattle.bits.specs.Bits.{choose}
use Rattle.bits.specs.Map.{power_on_cells, reset_cells, restored_cell, restored_cells}
use Rattle.bits.proofs.Tables.{tabulate_length, tabulate_at, over, over_next, over_at}

module _ (power_on : ℕ → ℕ) (kept : ℕ → Bool) where
  module _ (n : ℕ) where
    -- ---- all of them
    pub reset_at : (rs : List ℕ) (c : ℕ) → c < n
        → get_or (reset_cells n power_on kept rs) c 0 ≡ choose (kept c) (get_or rs c 0) (power_on c)
    reset_at rs c h = tabulate_at n (λ k. choose (kept k) (get_or rs k 0) (power_on k)) c h

    pub reset_count : (rs : List ℕ) → length (reset_cells n power_on kept rs) ≡ n
    reset_count rs = tabulate_length n 0 (λ k. choose (kept k) (get_or rs k 0) (power_on k))

    pub restored_reset : (rs : List ℕ) → restored_cells n power_on kept true rs ≡ reset_cells n power_on kept rs
    restored_reset rs = refl

    pub restored_power_on : (rs : List ℕ) → restored_cells n power_on kept false rs ≡ power_on_cells n power_on
    restored_power_on rs = refl

    pub restored_count : (keep : Bool) (rs : List ℕ) → length (restored_cells n power_on kept keep rs) ≡ n
    restored_count keep rs = tabulate_length n 0 (λ k. restored_cell power_on kept keep k (get_or rs k 0))

    restored_at : (keep : Bool) (rs : List ℕ) (c : ℕ) → c < n
        → get_or (restored_cells n power_on kept keep rs) c 0 ≡ restored_cell power_on kept keep c (get_or rs c 0)
    restored_at keep rs c h = tabulate_at n (λ k. restored_cell power_on kept keep k (get_or rs k 0)) c h

    -- ---- the loop: one cell more is restored
    pub restore_next : (keep : Bool) (rs ts : List ℕ) (c r : ℕ) → length rs ≡ n → c < n
        → ts ≡ over (restored_cells n power_on kept keep rs) rs c → r ≡ restored_cell power_on kept keep c (get_or ts c 0)
        → set ts c r ≡ over (restored_cells n power_on kept keep rs) rs (suc c)
    restore_next keep rs ts c r hl hc et er =
        let all = restored_cells n power_on kept keep rs in
        let whole : c < length (restored_cells n power_on kept keep rs) = omega (arith, restored_count keep rs) in
        let old = ap (λ (l : List ℕ). get_or l c 0) et ∙ over_at all rs c whole (omega arith) in
        let e = er ∙ ap (restored_cell power_on kept keep c) old ∙ sym (restored_at keep rs c hc) in
        rw (et, e) (over_next all rs c whole (omega arith))
