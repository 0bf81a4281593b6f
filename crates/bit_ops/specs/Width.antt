use Rattle.std.specs.Prelude.{◌≡◌, ℕ, ◌+◌, ◌≤◌, List, [], ◌∷◌}
use Rattle.bit_ops.specs.declared.operation.Op.{Op}
use Rattle.bit_ops.specs.declared.operation.Op.TheVariants.{Const, Zext, Sext, Slice, Concat, Not, Neg, And, Or, Xor, Add, Sub, Mul, DivU, DivS, ModU, ModS, Shl, ShrU, ShrS, Eq, LtU, LtS, RedAnd, RedOr, RedXor, Mux, Insert}
use Rattle.bit_ops.specs.declared.value.TheConstants.{MAX_WIDTH}

-- a width that a value may have
abbrev pub IsWidth : ℕ → Type 0
IsWidth w = (1 ≤ w) × (w ≤ MAX_WIDTH)

-- there is one operand, and P holds of its width
abbrev pub OneWidth : (ℕ → Type 0) → List ℕ → Type 0
OneWidth P [] = ⊥
OneWidth P (n ∷ []) = P n
OneWidth P (n ∷ m ∷ rest) = ⊥

-- there are two operands, and P holds of their widths
abbrev pub TwoWidths : (ℕ → ℕ → Type 0) → List ℕ → Type 0
TwoWidths P [] = ⊥
TwoWidths P (n ∷ rest) = OneWidth (P n) rest

-- there are three operands, and P holds of their widths
abbrev pub ThreeWidths : (ℕ → ℕ → ℕ → Type 0) → List ℕ → Type 0
ThreeWidths P [] = ⊥
ThreeWidths P (n ∷ rest) = TwoWidths (P n) rest

-- the condition on widths in an operation's row, where the result has width w, `lo` is the position that the row names
-- and `widths` are those of the operands in their order; the operand of a constant is its value
abbrev pub WidthsFit : Op → ℕ → ℕ → List ℕ → Type 0
WidthsFit Const w lo widths = OneWidth (λ n. n ≡ w) widths
WidthsFit Zext w lo widths = OneWidth (λ n. n ≤ w) widths
WidthsFit Sext w lo widths = OneWidth (λ n. n ≤ w) widths
WidthsFit Slice w lo widths = OneWidth (λ n. lo + w ≤ n) widths
WidthsFit Concat w lo widths = TwoWidths (λ n m. n + m ≡ w) widths
WidthsFit Not w lo widths = OneWidth (λ n. n ≡ w) widths
WidthsFit Neg w lo widths = OneWidth (λ n. n ≡ w) widths
WidthsFit And w lo widths = TwoWidths (λ n m. (n ≡ w) × (m ≡ w)) widths
WidthsFit Or w lo widths = TwoWidths (λ n m. (n ≡ w) × (m ≡ w)) widths
WidthsFit Xor w lo widths = TwoWidths (λ n m. (n ≡ w) × (m ≡ w)) widths
WidthsFit Add w lo widths = TwoWidths (λ n m. (n ≡ w) × (m ≡ w)) widths
WidthsFit Sub w lo widths = TwoWidths (λ n m. (n ≡ w) × (m ≡ w)) widths
WidthsFit Mul w lo widths = TwoWidths (λ n m. (n ≡ w) × (m ≡ w)) widths
WidthsFit DivU w lo widths = TwoWidths (λ n m. (n ≡ w) × (m ≡ w)) widths
WidthsFit DivS w lo widths = TwoWidths (λ n m. (n ≡ w) × (m ≡ w)) widths
WidthsFit ModU w lo widths = TwoWidths (λ n m. (n ≡ w) × (m ≡ w)) widths
WidthsFit ModS w lo widths = TwoWidths (λ n m. (n ≡ w) × (m ≡ w)) widths
WidthsFit Shl w lo widths = TwoWidths (λ n m. n ≡ w) widths
WidthsFit ShrU w lo widths = TwoWidths (λ n m. n ≡ w) widths
WidthsFit ShrS w lo widths = TwoWidths (λ n m. n ≡ w) widths
WidthsFit Eq w lo widths = TwoWidths (λ n m. (n ≡ m) × (w ≡ 1)) widths
WidthsFit LtU w lo widths = TwoWidths (λ n m. (n ≡ m) × (w ≡ 1)) widths
WidthsFit LtS w lo widths = TwoWidths (λ n m. (n ≡ m) × (w ≡ 1)) widths
WidthsFit RedAnd w lo widths = OneWidth (λ n. w ≡ 1) widths
WidthsFit RedOr w lo widths = OneWidth (λ n. w ≡ 1) widths
WidthsFit RedXor w lo widths = OneWidth (λ n. w ≡ 1) widths
WidthsFit Mux w lo widths = ThreeWidths (λ c n m. (c ≡ 1) × (n ≡ w) × (m ≡ w)) widths
WidthsFit Insert w lo widths = TwoWidths (λ n m. (n ≡ w) × (lo + m ≤ w)) widths
