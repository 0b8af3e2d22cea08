-- What the test leaves, nine bits hold. Assumes nothing.
use native.Mathlib.Omega.{arith}
use mathlib.Core.Path.{sym, ◌∙◌}
use mir.Syntax.{w16}
use Rattle.numbers.specs.TwosComplement.{half9}
use Rattle.numbers.proofs.twos_complement.Complement.{code_lt}
use Rattle.numbers.proofs.twos_complement.Turned.{read}
use Rattle.analog.proofs.Halves.{held}
use Rattle.analog.proofs.half_code.Goals as goal

pub overflow_cast-result : goal.overflow_cast-result
overflow_cast-result c =
    let z = read w16 c.args.halves in
    let h = held z (sym c.is_outside.ensures ∙ c.if-is_outside.false) in
    record { fits = omega (arith, c.code_of-code.ensures, code_lt half9 z h) }
