-- The data sheet's names of the registers (rule M-1), by index. What has no row has no register.
use Rattle.std.specs.Prelude.{ℕ, ◌-◌, ◌<◌, ◌≡◌, not, List, [], ◌∷◌, ltb, eqb}
use Prim.Native.String.{String}
use lib.Text.{eqt}
use Rattle.bits.specs.Bits.{choose}
use Rattle.text.specs.Text.{ascii}
use Rattle.w83782d_map.specs.Map.{cells, bank_at, index_at, present_at}

-- an index and the name of its register
pub record Named : Type 0 where
  pub index : ℕ
  pub name : String

infix 90 ◌is◌
abbrev pub ◌is◌ : ℕ → String → Named
i is n = record { index = i; name = n }

abbrev pub no_register : String
no_register = "no register"

-- the name in the row of an index
abbrev pub find : List Named → ℕ → String
find [] i = no_register
find (r ∷ rs) i = choose (eqb i r.index) r.name (find rs i)

-- ---- in every bank

-- 20h to 3Fh: readings and limits
unfoldable pub reading_names : List Named
reading_names =
    0x20 is "VCOREA"
    ∷ 0x21 is "VINR0"
    ∷ 0x22 is "+3.3V"
    ∷ 0x23 is "+5V"
    ∷ 0x24 is "+12V"
    ∷ 0x25 is "-12V"
    ∷ 0x26 is "-5V"
    ∷ 0x27 is "temperature 1"
    ∷ 0x28 is "fan 1 count"
    ∷ 0x29 is "fan 2 count"
    ∷ 0x2A is "fan 3 count"
    ∷ 0x2B is "VCOREA high limit"
    ∷ 0x2C is "VCOREA low limit"
    ∷ 0x2D is "VINR0 high limit"
    ∷ 0x2E is "VINR0 low limit"
    ∷ 0x2F is "+3.3V high limit"
    ∷ 0x30 is "+3.3V low limit"
    ∷ 0x31 is "+5V high limit"
    ∷ 0x32 is "+5V low limit"
    ∷ 0x33 is "+12V high limit"
    ∷ 0x34 is "+12V low limit"
    ∷ 0x35 is "-12V high limit"
    ∷ 0x36 is "-12V low limit"
    ∷ 0x37 is "-5V high limit"
    ∷ 0x38 is "-5V low limit"
    ∷ 0x39 is "temperature 1 over limit"
    ∷ 0x3A is "temperature 1 hysteresis"
    ∷ 0x3B is "fan 1 count limit"
    ∷ 0x3C is "fan 2 count limit"
    ∷ 0x3D is "fan 3 count limit"
    ∷ []

-- 40h to 4Fh: status, masks, control
unfoldable pub control_names : List Named
control_names =
    0x40 is "configuration"
    ∷ 0x41 is "interrupt status 1"
    ∷ 0x42 is "interrupt status 2"
    ∷ 0x43 is "SMI mask 1"
    ∷ 0x44 is "SMI mask 2"
    ∷ 0x46 is "chassis clear"
    ∷ 0x47 is "VID/fan divisor"
    ∷ 0x48 is "serial bus address"
    ∷ 0x49 is "device ID"
    ∷ 0x4A is "temperature 2 and 3 address"
    ∷ 0x4B is "pin control"
    ∷ 0x4C is "IRQ/OVT property"
    ∷ 0x4D is "fan and beep control"
    ∷ 0x4E is "bank select"
    ∷ 0x4F is "vendor ID"
    ∷ []

-- ---- 50h to 5Fh, by the bank

unfoldable pub bank0_names : List Named
bank0_names =
    0x56 is "beep control 1"
    ∷ 0x57 is "beep control 2"
    ∷ 0x58 is "chip ID"
    ∷ 0x59 is "diode selection"
    ∷ 0x5A is "PWM 2 duty"
    ∷ 0x5B is "PWM 1 duty"
    ∷ 0x5C is "PWM clock"
    ∷ 0x5D is "VBAT monitor, fan divisor"
    ∷ 0x5E is "PWM 3 duty"
    ∷ 0x5F is "PWM 4 duty"
    ∷ []

unfoldable pub bank1_names : List Named
bank1_names =
    0x50 is "temperature 2 high byte"
    ∷ 0x51 is "temperature 2 low byte"
    ∷ 0x52 is "temperature 2 configuration"
    ∷ 0x53 is "temperature 2 hysteresis high byte"
    ∷ 0x54 is "temperature 2 hysteresis low byte"
    ∷ 0x55 is "temperature 2 over limit high byte"
    ∷ 0x56 is "temperature 2 over limit low byte"
    ∷ []

unfoldable pub bank2_names : List Named
bank2_names =
    0x50 is "temperature 3 high byte"
    ∷ 0x51 is "temperature 3 low byte"
    ∷ 0x52 is "temperature 3 configuration"
    ∷ 0x53 is "temperature 3 hysteresis high byte"
    ∷ 0x54 is "temperature 3 hysteresis low byte"
    ∷ 0x55 is "temperature 3 over limit high byte"
    ∷ 0x56 is "temperature 3 over limit low byte"
    ∷ []

unfoldable pub bank4_names : List Named
bank4_names =
    0x59 is "real time status 1"
    ∷ 0x5A is "real time status 2"
    ∷ []

-- M-3: there is no bank 3, nor one above 4
unfoldable pub banked : ℕ → ℕ → String
banked b i =
    choose (eqb b 0) (find bank0_names i)
    (choose (eqb b 1) (find bank1_names i)
    (choose (eqb b 2) (find bank2_names i)
    (choose (eqb b 4) (find bank4_names i)
    "no such bank")))

-- ---- of any index; M-2: 60h to 7Fh are 20h to 3Fh
unfoldable pub name_in : ℕ → ℕ → String
name_in b i =
    choose (ltb i 0x20) no_register
    (choose (ltb i 0x40) (find reading_names i)
    (choose (ltb i 0x50) (find control_names i)
    (choose (ltb i 0x60) (banked b i)
    (choose (ltb i 0x80) (find reading_names (i - 0x40))
    no_register))))

unfoldable pub name_of : ℕ → ℕ → List ℕ
name_of b i = ascii (name_in b i)

-- what is claimed of the names: a cell has one exactly where the register map has a register
abbrev pub Names : Type 0
Names = (c : ℕ) → c < cells → present_at c ≡ not (eqt (name_in (bank_at c) (index_at c)) no_register)
