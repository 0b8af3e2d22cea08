-- The code's sets of cells, and its values by their exceptions, are those of the rows.
-- One computed test over all cells for the sets; the values by their arms. Assumes nothing.
use mathlib.Core.Path.{◌≡◌, refl, sym, ap, ◌∙◌}
use mathlib.Core.Bool.{Bool, true, false, not, ◌||◌, and-false, beq, true≢false}
use mathlib.Core.List.{List, [], ◌∷◌, reverse}
use mathlib.Core.Logic.{⊎_elim}
use Prim.Native.Nat.{ℕ, ◌+◌, ◌-◌, ◌<◌, ◌≤◌}
use native.Mathlib.Omega.{arith}
use borrow.Author.Tests.{ne_eqb, le-ltb, lt-leb, ltb-true, eqb-true, not-true, not-false}
use lib.Dec.{T, eqb, eqb→eq, ltb, ltb→lt, leb}
use Rattle.bits.specs.Bits.{bit, choose, in_set}
use Rattle.bits.specs.Map.{Row, row_says}
use Rattle.bits.proofs.Every.{both, both_left, both_right, every, every_at, by_bound}
use Rattle.bits.proofs.ChangeLaws.{and_left}
use Rattle.bits.proofs.Sets.{set_is}
use Rattle.bits.proofs.Match.{NoKey, or_either, rest_arm}
use Rattle.w83782d_map.specs.Map.{at, at_bank, bank_at, index_at, cells, rows}
use Rattle.w83782d_map.specs.Map.{kept_by_reset, present_at, writable_at, power_on_at, kept_at}
use Rattle.w83782d_map.specs.Cells.{chassis_clear, configuration}
use Rattle.w83782d_map.specs.Access.{write_answer, stored_bits}

-- ---- beyond the cells there is no register, and a reset keeps none
pub present_out : (c : ℕ) → cells ≤ c → false ≡ present_at c
unfolding present_at
present_out c h = simp (le-ltb c cells h)

pub kept_out : (c : ℕ) → cells ≤ c → false ≡ kept_at c
unfolding kept_at kept_by_reset
kept_out c h =
    simp (
      le-ltb c 64 (omega arith),
      le-ltb c 80 (omega arith),
      le-ltb c 96 (omega arith),
      lt-leb (0x50 + (c - 96)) 0x48 (omega arith),
      lt-leb (0x50 + (c - 96)) 0x2A (omega arith),
      and-false,
    )

pub answer_out : (c : ℕ) → cells ≤ c → 1 ≡ write_answer c
unfolding write_answer
answer_out c h = simp (← present_out c h)

-- ---- sets of cells, as two words: which set they are is computed where a function cites one
abbrev IsSet : ℕ → ℕ → (ℕ → Bool) → Type 0
IsSet l h f = T (every (λ c. beq (in_set l h c) (f c)) 128)

abbrev is_read_only : ℕ → Bool
is_read_only c = eqb (write_answer c) 2

module _ (l h : ℕ) where
  pub present_set : IsSet l h present_at → (c : ℕ) → in_set l h c ≡ present_at c
  present_set t = set_is l h present_at t (λ c k. present_out c (omega arith))

  pub read_only_set : IsSet l h is_read_only → (c : ℕ) → in_set l h c ≡ is_read_only c
  read_only_set t = set_is l h is_read_only t (λ c k. ap (λ (x : ℕ). eqb x 2) (answer_out c (omega arith)))

  pub kept_set : IsSet l h kept_at → (c : ℕ) → in_set l h c ≡ kept_at c
  kept_set t = set_is l h kept_at t (λ c k. kept_out c (omega arith))

-- the set of the registers' cells
abbrev pub present : ℕ → Bool
present = in_set 0xffc0_ffdf_3fff_ffff 0x0600_007f_007f

pub present_rows : (c : ℕ) → c < cells → present c ≡ present_at c
unfolding present_at rows bit
present_rows c h = present_set _ _ tt c

-- ---- the answer to a write, by its cases
abbrev decided : Bool → ℕ
decided w = choose w 2 0

by_none : (w : Bool) → eqb (decided w) 2 ≡ false → 0 ≡ decided w
by_none true n = absurd (true≢false n)
by_none false n = refl

module _ (c : ℕ) where
  pub answer_absent : (p : Bool) → p ≡ present_at c → not p ≡ true → 1 ≡ write_answer c
  unfolding write_answer
  answer_absent p e n = simp (← e, not-true p n)

  pub answer_read_only : (r : Bool) → r ≡ is_read_only c → r ≡ true → 2 ≡ write_answer c
  answer_read_only r e t = sym (eqb-true (write_answer c) 2 (sym e ∙ t))

  pub answer_accepted : (p r : Bool) → p ≡ present_at c → not p ≡ false → r ≡ is_read_only c → r ≡ false
      → 0 ≡ write_answer c
  unfolding write_answer
  answer_accepted p r e n g u =
      let present : present_at c ≡ true = sym e ∙ not-false p n in
      rw present (by_none (eqb (writable_at c) 0) (rw present at (sym g ∙ u)))

-- an accepted write is to a cell
pub answered_cell : (c : ℕ) → write_answer c ≡ 0 → c < cells
answered_cell c e = by_bound cells c (λ h. h) (λ h. absurd (omega (arith, answer_out c h)))

pub present_cell : (c : ℕ) → present_at c ≡ true → c < cells
unfolding present_at
present_cell c e = ltb-true c cells (and_left (ltb c cells) _ e)

-- ---- the values of a cell, arm by arm; the keys of all arms
abbrev pub stored_keys : List (List ℕ)
stored_keys =
    (at 0x2B ∷ at 0x2D ∷ at 0x2F ∷ at 0x31 ∷ [])
    ∷ (at 0x2C ∷ at 0x2E ∷ at 0x30 ∷ at 0x32 ∷ [])
    ∷ (at 0x33 ∷ at 0x35 ∷ at 0x37 ∷ [])
    ∷ (at 0x34 ∷ at 0x36 ∷ at 0x38 ∷ [])
    ∷ (at 0x39 ∷ at 0x3B ∷ at 0x3D ∷ [])
    ∷ (at 0x3A ∷ at 0x3C ∷ [])
    ∷ (at 0x40 ∷ [])
    ∷ (at 0x43 ∷ at 0x4A ∷ at 0x4D ∷ at 0x56 ∷ [])
    ∷ (at 0x44 ∷ [])
    ∷ (at 0x47 ∷ [])
    ∷ (at 0x48 ∷ at 0x5C ∷ [])
    ∷ (at 0x4B ∷ [])
    ∷ (at 0x4C ∷ [])
    ∷ (at 0x4E ∷ [])
    ∷ (at 0x57 ∷ [])
    ∷ (at 0x59 ∷ [])
    ∷ (at 0x5B ∷ at 0x5E ∷ [])
    ∷ (at 0x5A ∷ at 0x5F ∷ [])
    ∷ (at 0x5D ∷ [])
    ∷ (at_bank 1 0x52 ∷ at_bank 2 0x52 ∷ [])
    ∷ (at_bank 1 0x53 ∷ at_bank 1 0x55 ∷ [])
    ∷ (at_bank 2 0x53 ∷ at_bank 2 0x55 ∷ [])
    ∷ (at_bank 1 0x54 ∷ at_bank 1 0x56 ∷ [])
    ∷ (at_bank 2 0x54 ∷ at_bank 2 0x56 ∷ [])
    ∷ []

-- no row reaches 60h
below_alias : List Row → Bool
below_alias [] = true
below_alias (r ∷ rs) = both (ltb r.span.last 0x60) (below_alias rs)

no_row : (f : Row → ℕ) (b i : ℕ) (rs : List Row) → T (below_alias rs) → 0x60 ≤ i → row_says f 0 rs b i ≡ 0
unfolding below_alias
no_row f b i [] t h = refl
no_row f b i (r ∷ rs) t h =
    let l : r.span.last < 0x60 =
    ltb→lt r.span.last 0x60 (both_left (ltb r.span.last 0x60) (below_alias rs) t) in
    let n : leb i r.span.last ≡ false = lt-leb i r.span.last (omega arith) in
    simp (n, and-false, no_row f b i rs (both_right (ltb r.span.last 0x60) (below_alias rs) t) h)

-- no row says anything of a number beyond the cells
beyond_rows : (f : Row → ℕ) (c : ℕ) → cells ≤ c → row_says f 0 rows (bank_at c) (index_at c) ≡ 0
unfolding rows below_alias
beyond_rows f c h =
    simp (le-ltb c 64 (omega arith), le-ltb c 80 (omega arith), le-ltb c 96 (omega arith))
    (no_row f 4 (0x50 + (c - 96)) rows tt (omega arith))

stored_out : (c : ℕ) → cells ≤ c → 0x00 ≡ stored_bits c
unfolding writable_at
stored_out c h =
    simp (ne_eqb c configuration (λ e. omega arith), ne_eqb c chassis_clear (λ e. omega arith))
    (sym (beyond_rows (λ r. r.writable) c h))

pub stored_rest : (c : ℕ) → NoKey (reverse stored_keys) c → 0x00 ≡ stored_bits c
unfolding writable_at rows
stored_rest c n = rest_arm stored_bits 0x00 (reverse stored_keys) cells tt stored_out c n

-- a write that would store something is accepted, and 46h stores nothing
stores_or_not : ℕ → Bool
stores_or_not c = eqb (stored_bits c) 0 || eqb (write_answer c) 0

stores_in : (c : ℕ) → c < cells → T (stores_or_not c)
unfolding stores_or_not write_answer present_at writable_at rows
stores_in c h = every_at stores_or_not cells tt c h

pub stored_accepted : (c : ℕ) → (stored_bits c ≡ 0 → ⊥) → write_answer c ≡ 0
unfolding stores_or_not
stored_accepted c n =
    by_bound cells c
    (λ h. ⊎_elim (λ s. absurd (n (eqb→eq (stored_bits c) 0 s))) (eqb→eq (write_answer c) 0)
    (or_either (eqb (stored_bits c) 0) (eqb (write_answer c) 0) (stores_in c h)))
    (λ h. absurd (n (sym (stored_out c h))))

pub clear_stores_none : stored_bits chassis_clear ≡ 0
unfolding writable_at rows
clear_stores_none = refl

abbrev pub power_keys : List (List ℕ)
power_keys =
    (at 0x40 ∷ at 0x4A ∷ at 0x4C ∷ [])
    ∷ (at 0x47 ∷ [])
    ∷ (at 0x48 ∷ [])
    ∷ (at 0x49 ∷ [])
    ∷ (at 0x4B ∷ [])
    ∷ (at 0x4D ∷ [])
    ∷ (at 0x4E ∷ at 0x57 ∷ [])
    ∷ (at 0x58 ∷ [])
    ∷ (at 0x59 ∷ [])
    ∷ (at 0x5B ∷ at 0x5E ∷ [])
    ∷ (at 0x5A ∷ at 0x5F ∷ [])
    ∷ (at 0x5C ∷ [])
    ∷ (at_bank 1 0x53 ∷ at_bank 2 0x53 ∷ [])
    ∷ (at_bank 1 0x55 ∷ at_bank 2 0x55 ∷ [])
    ∷ []

pub power_rest : (c : ℕ) → NoKey (reverse power_keys) c → 0 ≡ power_on_at c
unfolding power_on_at rows
power_rest c n = rest_arm power_on_at 0 (reverse power_keys) cells tt (λ k h. sym (beyond_rows (λ r. r.power_on) k h)) c n
