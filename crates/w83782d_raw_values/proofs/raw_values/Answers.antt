-- Each value is its own number, and the numbers written one by one are the definition's (Raw.antt). Assumes nothing.
use Prim.Native.Nat.{◌<◌}
use mathlib.Core.Path.{◌≡◌}
use lib.ListN.{length}
use lib.Signed.{mag}
use Rattle.w83782d_raw_values.proofs.Raw.{raw_are}
use borrow.Author.Rules.{rules}
use Rattle.w83782d_raw_values.proofs.raw_values.Goals as goal

-- what a sample is as it comes in
parts : (c : goal.After-from-13) → (length c.args.x.codes ≡ 7) × (length c.args.x.remote ≡ 2)
    × (length c.args.x.counts ≡ 3) × (mag c.args.x.sensor1 < 128)
parts c = (search rules, search rules, c.well_formed.0.1.1.1.1.1.0.1.0.1, search rules)

pub returns : goal.returns
returns c =
    raw_are c.args.x (parts c).0 (parts c).1 (parts c).2
    (c.from.type_inv, c.from.ensures) (c.from-2.type_inv, c.from-2.ensures) (c.from-3.type_inv, c.from-3.ensures)
    (c.from-4.type_inv, c.from-4.ensures) (c.from-5.type_inv, c.from-5.ensures) (c.from-6.type_inv, c.from-6.ensures)
    (c.from-7.type_inv, c.from-7.ensures)
    (parts c).3 (c.from-8.type_inv, c.from-8.ensures)
    (c.from-9.type_inv, c.from-9.ensures) (c.from-10.type_inv, c.from-10.ensures)
    (c.from-11.type_inv, c.from-11.ensures)
    (search rules) (c.from-12.type_inv, c.from-12.ensures)
    (search rules) (c.from-13.type_inv, c.from-13.ensures)
