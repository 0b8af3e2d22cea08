use mir.Syntax.{w8}
use mir.ValLaws.{to_z-of_z}
use Rattle.w83782d_sample_words.proofs.Joined.{put_sample_words}
use borrow.Author.Rules.{rules}
use Rattle.w83782d_sample_words.proofs.put_sample.Goals as goal

pub returns : goal.returns
returns c =
    let read = to_z-of_z w8 c.args.sample.now.sensor1 (record { sfits = search rules }) in
    put_sample_words _ _ _ _ _ c.put_codes.ensures (rw read at c.put_degrees.ensures) c.put_counts.ensures
