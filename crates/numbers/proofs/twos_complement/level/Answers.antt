-- The code is the definition.
-- Assumes nothing.
use Rattle.std.proofs.Common.{ℕ, ◌*◌, ◌<◌, ap, subst}
use Rattle.numbers.specs.TwosComplement.{level_of}
use Rattle.numbers.proofs.twos_complement.Complement.{level_lt}
use Rattle.numbers.proofs.twos_complement.level.Goals as goal

pub returns : goal.returns
returns c =
    let half = c.half_of-half in
    let code = c.args.code in (
      ap (λ (h : ℕ). level_of h code) half.ensures.0,
      subst (λ (h : ℕ). level_of half.result code < 2 * h) half.ensures.0
          (level_lt half.result code half.ensures.1),
    )
