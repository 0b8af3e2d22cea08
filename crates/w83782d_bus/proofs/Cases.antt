-- The definitions of Bus.antt by their cases, over plain variables: what each branch of
-- the code knows gives what it ensures. Assumes nothing.
use mathlib.Core.Path.{◌≡◌, refl, sym, ap, ◌∙◌}
use mathlib.Core.Bool.{Bool, true, false, ◌&&◌}
use mathlib.Core.List.{List, [], ◌∷◌}
use Prim.Native.Nat.{ℕ}
use native.Mathlib.Omega.{arith}
use borrow.Author.Tests.{eq-eqb, ne_eqb}
use lib.Dec.{eqb, ltb}
use lib.ListN.{length}
use Rattle.std.specs.Prelude.{Result, Ok, Err}
use Rattle.answers.specs.declared.Refusal.{Refusal}
use Rattle.answers.specs.declared.Refusal.TheVariants.{WrongLength}
use Rattle.answers.specs.Refusals.{refusal_number, answer_of}
use Rattle.answers.proofs.Refusals.{is_refused}
use Rattle.bits.specs.Bits.{choose, is_on, change, changes}
use Rattle.bits.proofs.Restored as restored
use Rattle.w83782d_map.specs.Map.{cells, fits, present_at, power_on_at, kept_at}
use Rattle.w83782d_map.specs.Cells.{configuration}
use Rattle.w83782d_map.specs.Access.{write_answer, stored_bits}
use Rattle.w83782d_registers.specs.Registers.{reach_of, power_on_registers, reset_registers, shown_of}
use Rattle.w83782d_registers.specs.Parts.{restored_registers, restored_in}
use Rattle.w83782d_registers.proofs.Cases.{restored_in_law}
use Rattle.w83782d_latches.specs.declared.Latches.{Latches}
use Rattle.w83782d_latches.specs.Effects.{power_on_latches, written_latches, read_latches}
use Rattle.w83782d_bus.specs.Bus.{state, power_on, written_registers, written_in, write_of, written, written_at}
use Rattle.w83782d_bus.specs.Bus.{looked, looked_of, looked_in, read_registers, read_in, byte_of}
use Rattle.w83782d_bus.specs.Bus.{read_of, read}
use Rattle.w83782d_bus.specs.Bus.{sized, sized_read}
use Rattle.w83782d_bus.specs.Parts.{if_whole, cell_where}

-- ---- the cell of an index
none_is_one : {A : Type 0} (e : Refusal) (x : ℕ) → Err e ≡ Ok x → A
none_is_one e x q = absurd (is_refused e (ap answer_of q))

module _ (rs : List ℕ) (c : ℕ) (e : Refusal) where
  pub unread : Err e ≡ if_whole rs (cell_where (ltb c cells) c) → Err e ≡ if_whole rs (cell_where (present_at c) c)
  unfolding present_at
  unread q = go (fits rs) (ltb c cells) _ q
    where
      go : (b d p : Bool) → Err e ≡ choose b (cell_where d c) (Err WrongLength)
          → Err e ≡ choose b (cell_where (d && p) c) (Err WrongLength)
      go true true p q = none_is_one e c q
      go true false p q = q
      go false d p q = q

  pub unwritten : Err e ≡ if_whole rs (cell_where (ltb c cells) c)
      → refusal_number e ≡ choose (fits rs) (write_answer c) 8
  unfolding write_answer present_at
  unwritten q = go (fits rs) (ltb c cells) _ _ q
    where
      go : (b d p : Bool) (w : ℕ) → Err e ≡ choose b (cell_where d c) (Err WrongLength)
          → refusal_number e ≡ choose b (choose (d && p) w 1) 8
      go true true p w q = none_is_one e c q
      go true false p w q = ap answer_of q
      go false d p w q = ap answer_of q

-- ---- power-on and reset
restored_reset : (rs : List ℕ) → restored_registers true rs ≡ reset_registers rs
unfolding restored_registers reset_registers
restored_reset = restored.restored_reset power_on_at kept_at cells

restored_power_on : (rs : List ℕ) → restored_registers false rs ≡ power_on_registers
unfolding restored_registers power_on_registers
restored_power_on = restored.restored_power_on power_on_at kept_at cells

abbrev taken : Result (Unit {0}) Refusal
taken = Ok tt

pub power_on_law : (rs ts : List ℕ) (l : Latches) (a : Result (Unit {0}) Refusal) → a ≡ if_whole rs (Ok tt)
    → ts ≡ restored_in false rs → l ≡ power_on_latches
    → written (state ts l) (answer_of a) ≡ sized rs power_on_latches (written power_on 0)
power_on_law rs ts l a f g h = rw (f, g, h) (go (fits rs))
  where
    go : (b : Bool)
        → written (state (choose b (restored_registers false rs) rs) power_on_latches)
        (answer_of (choose b taken (Err WrongLength)))
        ≡ choose b (written power_on 0) (written (state rs power_on_latches) 8)
    go true = ap (λ (x : List ℕ). written (state x power_on_latches) 0) (restored_power_on rs)
    go false = refl

-- ---- a write
pub written_short : (rs : List ℕ) (c v : ℕ) → (length rs ≡ cells → ⊥) → rs ≡ written_in rs c v
written_short rs c v n = simp (ne_eqb (length rs) cells n)

pub written_whole : (rs : List ℕ) (c v : ℕ) → length rs ≡ cells → written_in rs c v ≡ written_registers rs c v
written_whole rs c v h = simp (eq-eqb (length rs) cells h)

module _ (c v : ℕ) (b : Bool) (e : b ≡ (eqb c configuration && is_on v 7)) where
  pub write_reset : (rs ts : List ℕ) → length rs ≡ cells → b ≡ true → ts ≡ restored_in true rs → ts ≡ written_in rs c v
  unfolding written_registers
  write_reset rs ts h t f =
      simp (eq-eqb (length rs) cells h, ← e, t) (f ∙ sym (restored_in_law true rs h) ∙ restored_reset rs)

  pub write_store : (rs ts : List ℕ) (m : ℕ) → length rs ≡ cells → b ≡ false → m ≡ stored_bits c
      → ts ≡ changes rs (change c m v ∷ []) → ts ≡ written_in rs c v
  unfolding written_registers
  write_store rs ts m h t f g = simp (eq-eqb (length rs) cells h, ← e, t, ← f, g)

module _ (rs : List ℕ) (l : Latches) (i v : ℕ) where
  pub write_accepted : (c : ℕ) (ts : List ℕ) (m : Latches) → 0 ≡ choose (fits rs) (write_answer (reach_of rs i)) 8
      → c ≡ reach_of rs i → ts ≡ written_in rs c v → m ≡ written_latches l c v
      → written (state ts m) 0 ≡ sized rs l (write_of (state rs l) i v)
  unfolding write_of
  write_accepted c ts m q e f g = rw (f, g, e) (go (fits rs) q)
    where
      at : ℕ
      at = reach_of rs i

      go : (b : Bool) → 0 ≡ choose b (write_answer at) 8
          → written (state (choose b (written_registers rs at v) rs) (written_latches l at v)) 0
          ≡ choose b (written_at (state rs l) at v) (written (state rs l) 8)
      go true q = rw (← q)
      go false q = absurd (omega (arith, q))

  pub write_refused : (r : Refusal) → refusal_number r ≡ choose (fits rs) (write_answer (reach_of rs i)) 8
      → written (state rs l) (refusal_number r) ≡ sized rs l (write_of (state rs l) i v)
  unfolding write_of
  write_refused r q = go (fits rs) q
    where
      go : (b : Bool) → refusal_number r ≡ choose b (write_answer (reach_of rs i)) 8
          → written (state rs l) (refusal_number r)
          ≡ choose b (written_at (state rs l) (reach_of rs i) v) (written (state rs l) 8)
      go true q = simp (← q, ne_eqb (refusal_number r) 0 (is_refused r))
      go false q = ap (written (state rs l)) q

-- ---- a look
module _ (rs : List ℕ) (k : Bool) (i : ℕ) where
  pub look_refused : (e : Refusal) → Err e ≡ if_whole rs (cell_where (present_at (reach_of rs i)) (reach_of rs i))
      → looked (refusal_number e) 0 ≡ looked_in rs k i
  unfolding looked_of
  look_refused e q = go (fits rs) (present_at (reach_of rs i)) q
    where
      go : (b p : Bool) → Err e ≡ choose b (cell_where p (reach_of rs i)) (Err WrongLength)
          → looked (refusal_number e) 0
          ≡ choose b (choose p (looked 0 (shown_of rs k (reach_of rs i))) (looked 1 0)) (looked 8 0)
      go true true q = none_is_one e (reach_of rs i) q
      go true false q = ap (λ (n : ℕ). looked n 0) (ap answer_of q)
      go false p q = ap (λ (n : ℕ). looked n 0) (ap answer_of q)

  pub look_accepted : (c b : ℕ) → Ok c ≡ if_whole rs (cell_where (present_at (reach_of rs i)) (reach_of rs i))
      → b ≡ shown_of rs k c → looked 0 b ≡ looked_in rs k i
  unfolding looked_of
  look_accepted c x q f = rw f (go (fits rs) (present_at (reach_of rs i)) q)
    where
      go : (b p : Bool) → Ok c ≡ choose b (cell_where p (reach_of rs i)) (Err WrongLength)
          → looked 0 (shown_of rs k c)
          ≡ choose b (choose p (looked 0 (shown_of rs k (reach_of rs i))) (looked 1 0)) (looked 8 0)
      go true true q = ap (λ (n : ℕ). looked 0 (shown_of rs k n)) (ap byte_of q)
      go true false q = absurd (omega (arith, ap answer_of q))
      go false p q = absurd (omega (arith, ap answer_of q))

-- ---- a read
pub left_whole : (rs : List ℕ) (c : ℕ) → length rs ≡ cells → read_in rs c ≡ read_registers rs c
left_whole rs c h = simp (eq-eqb (length rs) cells h)

module _ (rs : List ℕ) (l : Latches) (i : ℕ) where
  pub read_refused : (e : Refusal) → Err e ≡ if_whole rs (cell_where (present_at (reach_of rs i)) (reach_of rs i))
      → read (state rs l) (refusal_number e) 0 ≡ sized_read rs l (read_of (state rs l) i)
  unfolding read_of
  read_refused e q = go (fits rs) (present_at (reach_of rs i)) q
    where
      go : (b p : Bool) → Err e ≡ choose b (cell_where p (reach_of rs i)) (Err WrongLength)
          → read (state rs l) (refusal_number e) 0
          ≡ choose b
          (choose p
          (read (state (read_registers rs (reach_of rs i)) (read_latches rs l (reach_of rs i))) 0
          (shown_of rs l.chassis (reach_of rs i)))
          (read (state rs l) 1 0))
          (read (state rs l) 8 0)
      go true true q = none_is_one e (reach_of rs i) q
      go true false q = ap (λ (n : ℕ). read (state rs l) n 0) (ap answer_of q)
      go false p q = ap (λ (n : ℕ). read (state rs l) n 0) (ap answer_of q)

  pub read_accepted : (c x : ℕ) (ts : List ℕ) (m : Latches)
      → Ok c ≡ if_whole rs (cell_where (present_at (reach_of rs i)) (reach_of rs i)) → x ≡ shown_of rs l.chassis c
      → m ≡ read_latches rs l c → ts ≡ read_in rs c → read (state ts m) 0 x ≡ sized_read rs l (read_of (state rs l) i)
  unfolding read_of
  read_accepted c x ts m q f g h = rw (f, g, h) (go (fits rs) (present_at (reach_of rs i)) q)
    where
      go : (b p : Bool) → Ok c ≡ choose b (cell_where p (reach_of rs i)) (Err WrongLength)
          → read (state (choose b (read_registers rs c) rs) (read_latches rs l c)) 0 (shown_of rs l.chassis c)
          ≡ choose b
          (choose p
          (read (state (read_registers rs (reach_of rs i)) (read_latches rs l (reach_of rs i))) 0
          (shown_of rs l.chassis (reach_of rs i)))
          (read (state rs l) 1 0))
          (read (state rs l) 8 0)
      go true true q =
          ap (λ (n : ℕ). read (state (read_registers rs n) (read_latches rs l n)) 0 (shown_of rs l.chassis n))
          (ap byte_of q)
      go true false q = absurd (omega (arith, ap answer_of q))
      go false p q = absurd (omega (arith, ap answer_of q))
