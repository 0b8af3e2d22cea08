-- The lower half is itself; in the upper it is -1 less what is left up to the last code (proofs/Turned).
-- Assumes nothing.
use Rattle.std.proofs.Common.{ℕ, ap, ◌∙◌, w16}
use Rattle.numbers.specs.TwosComplement.{signed_of}
use Rattle.numbers.proofs.twos_complement.Complement.{twos_complement_holds}
use Rattle.numbers.proofs.twos_complement.Turned.{lower_signed, upper_signed, no_code}
use Rattle.numbers.proofs.twos_complement.signed.Goals as goal

pub returns-then-code-half : goal.returns-then-code-half
returns-then-code-half c =
    let half = c.half_of-half in
    let code = c.args.code in (
      lower_signed w16 half.result code half.ensures.2 c.if-code-half.true
          ∙ ap (λ (h : ℕ). signed_of h code) half.ensures.0,
      twos_complement_holds,
    )

pub returns-then-over-half : goal.returns-then-over-half
returns-then-over-half c =
    let half = c.half_of-half in
    let code = c.args.code in (
      upper_signed w16 half.result code half.ensures.2 c.if-code-half.false c.if-over-half.true
          ∙ ap (λ (h : ℕ). signed_of h code) half.ensures.0,
      twos_complement_holds,
    )

pub returns : goal.returns
returns c =
    let half = c.half_of-half in
    let code = c.args.code in (
      no_code half.result code c.if-code-half.false c.if-over-half.false
          ∙ ap (λ (h : ℕ). signed_of h code) half.ensures.0,
      twos_complement_holds,
    )
