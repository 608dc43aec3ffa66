-- What an outcome depends on: beside its operands an operation reads the parts that `alu_inputs` names; it
-- writes the codes in its form with cc, and Y where `writes_y` says so.
use Rattle.std.specs.Prelude.{◌≡◌, ℕ, Bool, true, ◌⊎◌, Result, Ok, Err, List, [], ◌∷◌}
use Rattle.v8_decode.specs.declared.AluOp.{AluOp}
use Rattle.v8_decode.specs.declared.Part.{Part}
use Rattle.v8_decode.specs.declared.Part.TheVariants.{Reg, Icc, Y}
use Rattle.v8_decode.specs.Effects.{alu_inputs, writes_y}
use Rattle.v8_alu.specs.declared.Codes.{Codes}
use Rattle.v8_alu.specs.declared.AluOut.{AluOut}
use Rattle.v8_alu.specs.declared.AluTrap.{AluTrap}
use Rattle.v8_alu.specs.Alu.{alu_of}

-- the codes are the same if the list has them, and Y is if the list has it
abbrev pub AgreeOn : List Part → Codes → Codes → ℕ → ℕ → Type 0
AgreeOn [] codes codes' y y' = Unit {0}
AgreeOn (Reg r ∷ parts) codes codes' y y' = AgreeOn parts codes codes' y y'
AgreeOn (Icc ∷ parts) codes codes' y y' = (codes ≡ codes') × AgreeOn parts codes codes' y y'
AgreeOn (Y ∷ parts) codes codes' y y' = (y ≡ y') × AgreeOn parts codes codes' y y'

-- Both trap alike, or give the same value, and the same codes and Y where they are written or were the same.
abbrev pub AreAlike : Bool → Bool → Codes → Codes → ℕ → ℕ → Result AluOut AluTrap → Result AluOut AluTrap → Type 0
AreAlike sets writes codes codes' y y' (Ok o) (Ok p) =
    (o.value ≡ p.value) × ((sets ≡ true) ⊎ (codes ≡ codes') → o.codes ≡ p.codes) × ((writes ≡ true) ⊎ (y ≡ y') → o.y ≡ p.y)
AreAlike sets writes codes codes' y y' (Err trap) (Err trap') = trap ≡ trap'
AreAlike sets writes codes codes' y y' (Ok o) (Err trap) = ⊥
AreAlike sets writes codes codes' y y' (Err trap) (Ok o) = ⊥

-- The same operands, and codes and Y that agree in what the operation reads, give outcomes that are alike.
abbrev pub DependsOnInputs : AluOp → Bool → Type 0
DependsOnInputs op sets =
    (a b : ℕ) (codes codes' : Codes) (y y' : ℕ)
    → AgreeOn (alu_inputs op) codes codes' y y'
    → AreAlike sets (writes_y op) codes codes' y y' (alu_of op sets a b codes y) (alu_of op sets a b codes' y')
