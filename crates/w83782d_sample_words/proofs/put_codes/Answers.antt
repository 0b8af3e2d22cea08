use Prim.Native.Nat.{◌≤◌}
use lib.ListN.{length}
use lib.Seq.{take_all}
use Rattle.text.proofs.Puts.{◌then◌}
use Rattle.w83782d_sample_words.proofs.Joined.{put_nothing, no_number, put_one_more}
use borrow.Author.Rules.{rules}
use Rattle.w83782d_sample_words.proofs.put_codes.Goals as goal

pub loop-code-init : goal.loop-code-init
loop-code-init c = rw no_number (put_nothing _ _ _ c.put_bytes.ensures)

pub loop-code-preserved : goal.loop-code-preserved
loop-code-preserved c =
    put_one_more _ _ _ _ _ (search rules) c.loop-code.invariant (rw c.from.ensures at c.put_spaced.ensures)

pub returns : goal.returns
returns c =
    let all : length c.args.codes.now ≤ c.loop-code.code-index = search rules in
    c.put_bytes.ensures then (rw (take_all _ _ all) at c.loop-code.invariant)
