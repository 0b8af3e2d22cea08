-- A call on an image of another length, and a read by the latches' way, over plain variables:
-- what a branch of a function knows gives what it ensures. Assumes nothing.
use mathlib.Core.Path.{◌≡◌, refl, ap, sym}
use mathlib.Core.List.{List, ◌++◌}
use Prim.Native.Nat.{ℕ, ◌+◌, ◌*◌}
use borrow.Author.Tests.{eq-eqb, ne_eqb}
use lib.ListN.{length, take, drop}
use Rattle.std.specs.Prelude.{Result, Ok, Err}
use Rattle.answers.specs.declared.Refusal.{Refusal}
use Rattle.answers.specs.Refusals.{answer_of, refusal_number}
use Rattle.answers.proofs.Refusals.{is_refused}
use Rattle.w83782d_latches.specs.declared.Latches.{Latches}
use Rattle.w83782d_bus.specs.declared.Outcome.{Outcome}
use Rattle.w83782d_map.specs.Map.{cells}
use Rattle.w83782d_bus.specs.Bus.{state, read_of, sized_read, read_outcome_in, byte_of}
use Rattle.w83782d_claims.proofs.bus.Reached.{refused}
use Rattle.image.specs.Image.{called, read_word}
use Rattle.image.specs.Words.{answer_word}
use Rattle.w83782d_image.specs.Image.{image_length, flag_bytes, latches_in, state_in, put_from}
use Rattle.w83782d_image.proofs.Images.{shows_none, shows}
use Rattle.w83782d_access.specs.Accesses.{call_write, call_look, call_read}

-- an answer's word is of its number and its byte
pub word_is : (r : Result ℕ Refusal) → answer_word r ≡ read_word (answer_of r) (byte_of r)
word_is (Ok _) = refl
word_is (Err _) = refl

module _ (im : List ℕ) (i : ℕ) (n : length im ≡ image_length → ⊥) where
  pub write_short : (v : ℕ) → called im 8 ≡ call_write im i v
  unfolding call_write
  write_short v = simp (ne_eqb (length im) image_length n)

  pub look_short : 8 * 256 + 0 ≡ call_look im i
  unfolding call_look
  look_short = simp (ne_eqb (length im) image_length n)

  pub read_short : called im (8 * 256 + 0) ≡ call_read im i
  unfolding call_read
  read_short = simp (ne_eqb (length im) image_length n)

module _ (im ts : List ℕ) (l : Latches) (h : length im ≡ image_length) (el : l ≡ latches_in im) (o : Outcome ℕ) (i : ℕ)
    (e : read_outcome_in ts o ≡ sized_read (take cells im) l (read_of (state (take cells im) l) i)) where
  pub read_refused : (r : Refusal) → o.answer ≡ Err r
      → called (ts ++ drop cells im) (answer_word (Err r)) ≡ call_read im i
  unfolding call_read
  read_refused r q =
      let a : answer_of o.answer ≡ refusal_number r = ap answer_of q in
      simp (eq-eqb (length im) image_length h)
      (shows_none im ts l h el o (λ s. read_of s i) (refused (state_in im) i 0).read e (answer_word (Err r))
      (λ z. is_refused r (rw a at z)) (rw a refl))

  pub read_accepted : (u : List ℕ) (b : ℕ) → o.answer ≡ Ok b → length (ts ++ drop cells im) ≡ image_length
      → u ≡ put_from (ts ++ drop cells im) 112 (flag_bytes o.latches) → called u (answer_word (Ok b)) ≡ call_read im i
  unfolding call_read
  read_accepted u b q k g =
      simp (eq-eqb (length im) image_length h)
      (shows im ts l h el o (λ s. read_of s i) (refused (state_in im) i 0).read e u (answer_word (Ok b)) (ap answer_of q) k g
      (ap (λ (x : Result ℕ Refusal). 0 * 256 + byte_of x) (sym q)))
