-- The machine reads back the number itself, which is below 0 or not (proofs/Turned).
-- Assumes nothing.
use Rattle.std.proofs.Common.{ℕ, ap, ◌∙◌, w16}
use Rattle.numbers.specs.TwosComplement.{code_of}
use Rattle.numbers.proofs.twos_complement.Turned.{negative_is, negative_none}
use Rattle.numbers.proofs.twos_complement.Turned.{positive_is}
use Rattle.numbers.proofs.twos_complement.code_of.Goals as goal

pub returns-then-down-last : goal.returns-then-down-last
returns-then-down-last c =
    negative_is w16 c.args.z c.ranges.z c.if-z-lt0.true c.half_of-half.result c.half_of-half.ensures.1
    ∙ ap (λ (h : ℕ). code_of h c.args.z) c.half_of-half.ensures.0

pub returns-then-z-lt0 : goal.returns-then-z-lt0
returns-then-z-lt0 c =
    negative_none w16 c.args.z c.ranges.z c.if-z-lt0.true c.half_of-half.result c.half_of-half.ensures.1
    c.if-down-last.false
    ∙ ap (λ (h : ℕ). code_of h c.args.z) c.half_of-half.ensures.0

pub returns : goal.returns
returns c =
    positive_is w16 c.args.z c.ranges.z c.if-z-lt0.false _
