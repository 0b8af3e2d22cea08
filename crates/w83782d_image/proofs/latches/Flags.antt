-- The flags of an image by the functions' cases: four bytes as a number, eight flags as one,
-- the latches from it and back; and the spare bytes stored one after another. Assumes nothing.
use mathlib.Core.Path.{◌≡◌, ap, sym, ◌∙◌}
use mathlib.Core.Bool.{Bool, true, false, not}
use mathlib.Core.List.{List, [], ◌∷◌, ◌++◌, append_assoc}
use Prim.Native.Nat.{ℕ, ◌+◌, ◌-◌, ◌*◌, ◌<◌, ◌≤◌}
use native.Mathlib.Omega.{arith}
use borrow.Author.Tests.{eq-eqb, ne_eqb}
use lib.Dec.{eqb, lit<}
use lib.ListN.{length, get_or, set, take, drop}
use Rattle.std.specs.Prelude.{replicate}
use borrow.Rule.Slice.PartMut.{put_mid, post_of}
use Rattle.std.proofs.lemmas.List.{drop-drop}
use lib.Seq.{sets, sets-eq}
use Rattle.bits.specs.Bits.{is_on, flag_of}
use Rattle.flags.specs.Bytes.{joined, bytes_of, AreBytes, is_set, each_byte, normal, eight_from, flags_at, put_eight}
use Rattle.flags.proofs.Joined.{bytes_joined, flag_back}
use Rattle.flags.proofs.Slices.{next_byte, fills_next}
use Rattle.bits.specs.Map.{tabulate}
use Rattle.image.specs.Image.{mark_from}
use Rattle.image.proofs.Images.{mark_of, flag_mark}
use Rattle.sensor.specs.Sensor.{remote, output, armed, is_hot, mark_if}
use Rattle.sensor.specs.declared.Mark.{Mark}
use Rattle.sensor.specs.declared.Remote.{Remote}
use Rattle.w83782d_latches.specs.Effects.{latches, power_on_latches}
use Rattle.w83782d_latches.specs.declared.Latches.{Latches}
use Rattle.w83782d_image.specs.Image.{image_length, flag_bytes, latches_in, held_latches, spare_zeros, put_from}
use Rattle.w83782d_image.proofs.Images.{put_whole, three_in, eight_in}

-- ---- the latches
module _ (im : List ℕ) (f : ℕ) (e : f ≡ flags_at im 112) (h : length im ≡ image_length) where
  joined_flags : f ≡ joined (each_byte normal (eight_from im 112))
  unfolding flags_at
  joined_flags = e ∙ simp h

  flag : (k : ℕ) → is_on f (8 * k) ≡ is_set (get_or (eight_from im 112) k 0)
  flag k = ap (λ (x : ℕ). is_on x (8 * k)) joined_flags ∙ flag_back (eight_from im 112) k

  pub latches_are : (c b1 b2 b3 a4 b5 b6 a7 : Bool) (m1 m2 m3 m5 m6 : Mark) → c ≡ is_on f (8 * 0) → b1 ≡ is_on f (8 * 1)
      → b2 ≡ is_on f (8 * 2) → b3 ≡ is_on f (8 * 3)
      → a4 ≡ is_on f (8 * 4) → b5 ≡ is_on f (8 * 5) → b6 ≡ is_on f (8 * 6) → a7 ≡ is_on f (8 * 7) → m1 ≡ mark_if b1
      → m2 ≡ mark_if b2 → m3 ≡ mark_if b3 → m5 ≡ mark_if b5 → m6 ≡ mark_if b6
      → latches c m1 (remote m2 (output m3 a4) ∷ remote m5 (output m6 a7) ∷ []) ≡ held_latches im
  unfolding held_latches
  latches_are c b1 b2 b3 a4 b5 b6 a7 m1 m2 m3 m5 m6 ec e1 e2 e3 e4 e5 e6 e7 n1 n2 n3 n5 n6 =
      let mark : (k : ℕ) (b : Bool) (m : Mark) → b ≡ is_on f (8 * k) → m ≡ mark_if b
      → m ≡ mark_from (get_or (eight_from im 112) k 0) =
      λ k b m eb em. em ∙ ap mark_if (eb ∙ flag k) ∙ mark_of (get_or (eight_from im 112) k 0) in
      simp (eq-eqb (length im) image_length h)
      (eight_in im c m1 _ _ (ec ∙ flag 0) (mark 1 b1 m1 e1 n1)
      (three_in im 114 m2 m3 a4 (mark 2 b2 m2 e2 n2) (mark 3 b3 m3 e3 n3) (e4 ∙ flag 4))
      (three_in im 117 m5 m6 a7 (mark 5 b5 m5 e5 n5) (mark 6 b6 m6 e6 n6) (e7 ∙ flag 7)))

flag_small : (t : Bool) → flag_of t < 256
flag_small true = lit< tt
flag_small false = lit< tt

pub flags_small : (l : Latches) → AreBytes (flag_bytes l)
flags_small l =
    let two : Remote = get_or l.remote 0 armed in
    let three : Remote = get_or l.remote 1 armed in (
      flag_small l.chassis,
      (
        flag_small (is_hot l.sensor1),
        (
          flag_small (is_hot two.status),
          (
            flag_small (is_hot two.output.mark),
            (
              flag_small two.output.asserted,
              (
                flag_small (is_hot three.status),
                (
                  flag_small (is_hot three.output.mark),
                  (flag_small three.output.asserted, tt),
                ),
              ),
            ),
          ),
        ),
      ),
    )

-- flags as one number stored
pub flags_put : (im u : List ℕ) (l : Latches) (w : ℕ) → length im ≡ image_length → w ≡ joined (flag_bytes l)
    → u ≡ put_eight im 112 w → u ≡ put_from im 112 (flag_bytes l)
unfolding put_eight
flags_put im u l w h e eu =
    eu ∙ simp h (ap (sets im 112) (ap (bytes_of 8) e ∙ bytes_joined (flag_bytes l) (flags_small l))
    ∙ sym (put_whole im 112 (flag_bytes l) h))

pub latches_put : (im u : List ℕ) (l : Latches) (w : ℕ) (h1 h2 h3 h5 h6 : Bool) → h1 ≡ is_hot l.sensor1
    → h2 ≡ is_hot (get_or l.remote 0 armed).status → h3 ≡ is_hot (get_or l.remote 0 armed).output.mark
    → h5 ≡ is_hot (get_or l.remote 1 armed).status → h6 ≡ is_hot (get_or l.remote 1 armed).output.mark
    → w ≡ joined (flag_of l.chassis ∷ flag_of h1 ∷ flag_of h2 ∷ flag_of h3
    ∷ flag_of (get_or l.remote 0 armed).output.asserted
    ∷ flag_of h5 ∷ flag_of h6 ∷ flag_of (get_or l.remote 1 armed).output.asserted ∷ [])
    → length im ≡ image_length → u ≡ put_eight im 112 w → u ≡ put_from im 112 (flag_bytes l)
latches_put im u l w h1 h2 h3 h5 h6 e1 e2 e3 e5 e6 ew h eu = flags_put im u l w h (ew ∙ rw (e1, e2, e3, e5, e6)) eu

pub held : (im : List ℕ) (l : Latches) → length im ≡ image_length → l ≡ held_latches im → l ≡ latches_in im
unfolding held_latches
held im l h e = e ∙ simp (eq-eqb (length im) image_length h)

pub held_not : (im : List ℕ) (l : Latches) → (length im ≡ image_length → ⊥) → l ≡ power_on_latches → l ≡ held_latches im
unfolding held_latches
held_not im l n e = e ∙ simp (ne_eqb (length im) image_length n)

pub flag_in : (x : ℕ) (im : List ℕ) (at : ℕ) → x ≡ get_or im at 0 → not (eqb x 0) ≡ is_set (get_or im at 0)
flag_in x im at e = ap is_set e

-- the spare bytes filled with 0
pub spare_filled : (im zs : List ℕ) → length im ≡ image_length → zs ≡ replicate (length im - 120) 0
    → put_mid 120 (length im - 120) im zs ≡ put_from im 120 spare_zeros
spare_filled im zs h e =
    let k : length im - 120 ≡ 8 = omega arith in
    let m : 120 + (length im - 120) ≡ 128 = omega arith in
    let z : zs ≡ spare_zeros = e ∙ ap (λ (n : ℕ). replicate n 0) k in
    let rest : post_of 120 (length im - 120) im ≡ drop 128 im =
    drop-drop (length im - 120) 120 im ∙ ap (λ (n : ℕ). drop n im) m in
    let whole : put_from im 120 spare_zeros ≡ (take 120 im ++ spare_zeros) ++ drop 128 im =
    put_whole im 120 spare_zeros h ∙ sets-eq spare_zeros im 120 (omega arith) in
    rw (z, rest, whole, append_assoc)

-- a flag as it is written
abbrev pub normalised : List ℕ → ℕ → ℕ
normalised im i = flag_of (is_set (get_or im i 0))

pub normalises_next : (im s t : List ℕ) (at x b : ℕ) → 112 ≤ at
    → s ≡ sets im 112 (tabulate (at - 112) 112 (normalised im)) → x ≡ get_or s at 0 → b ≡ flag_of (not (eqb x 0))
    → t ≡ set s at b → t ≡ sets im 112 (tabulate (at + 1 - 112) 112 (normalised im))
normalises_next im s t at x b h es ex eb et =
    let e : b ≡ normalised im at = eb ∙ ap flag_of (ap is_set (ex ∙ next_byte (normalised im) im s 112 at h es)) in
    fills_next (normalised im) im s 112 at h es t (et ∙ ap (set s at) e)

normalised_flags : (im : List ℕ) → tabulate 8 112 (normalised im) ≡ flag_bytes (latches_in im)
normalised_flags im = simp flag_mark

pub normalised_all : (im s : List ℕ) (at : ℕ) → length im ≡ image_length → at ≤ 120 → 120 ≤ at
    → s ≡ sets im 112 (tabulate (at - 112) 112 (normalised im)) → s ≡ put_from im 112 (flag_bytes (latches_in im))
normalised_all im s at w h k es =
    let e : at - 112 ≡ 8 = omega arith in
    es ∙ ap (λ (n : ℕ). sets im 112 (tabulate n 112 (normalised im))) e ∙ ap (sets im 112) (normalised_flags im)
    ∙ sym (put_whole im 112 (flag_bytes (latches_in im)) w)
