use Prim.Native.Nat.{◌≤◌}
use lib.ListN.{length, get_or}
use lib.Seq.{take_all}
use lib.IntN.{pos}
use mir.Syntax.{w8, w16, w64}
use mir.Val.{SFits}
use mir.ValLaws.{to_z-of_z}
use Rattle.numbers.proofs.Wide.{wide_8}
use Rattle.w83782d_sample_words.proofs.Joined.{put_nothing, no_halves, put_halves_more, put_degrees_words}
use borrow.Author.Rules.{rules}
use Rattle.w83782d_sample_words.proofs.put_degrees.Goals as goal

pub loop-halves-init : goal.loop-halves-init
loop-halves-init c = rw no_halves (put_nothing _ _ _ c.put_signed.ensures)

pub loop-halves-preserved : goal.loop-halves-preserved
loop-halves-preserved c =
    let fits : SFits w16 (get_or c.args.remote.now c.loop-halves.halves-index (pos 0)) = search rules in
    put_halves_more _ _ _ _ _ (search rules) c.loop-halves.invariant (rw (to_z-of_z w16 _ fits) at c.put_halves.ensures)

pub returns : goal.returns
returns c =
    let s = c.ranges.sensor1 in
    let f = rw (c.from.ensures, to_z-of_z w64 _ (wide_8 _ s), to_z-of_z w8 _ s) at c.put_signed.ensures in
    let all : length c.args.remote.now ≤ c.loop-halves.halves-index = search rules in
    put_degrees_words _ _ _ _ _ _ c.put_bytes.ensures f (rw (take_all _ _ all) at c.loop-halves.invariant)
