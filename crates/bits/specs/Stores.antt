-- Whole bytes stored to cells, one after another.
use Rattle.std.specs.Prelude.{List, [], ◌∷◌, ℕ, set}

pub record Store : Type 0 where
  pub cell : ℕ
  pub byte : ℕ

infixl 20 ◌≔◌
abbrev pub ◌≔◌ : ℕ → ℕ → Store
c ≔ b = record { cell = c; byte = b }

abbrev pub puts : List ℕ → List Store → List ℕ
puts rs [] = rs
puts rs (w ∷ ws) = puts (set rs w.cell w.byte) ws
