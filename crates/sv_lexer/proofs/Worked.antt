-- worked values of the definitions
use Rattle.std.proofs.Common.{◌≡◌, true, false, [], ◌∷◌, refl, Some, None, inl}
use Rattle.std.specs.Prelude.{codes}
use Rattle.sv_base.specs.declared.kind.Kind.TheVariants as kind
use Rattle.sv_lexer.specs.Bytes.{spelled, line_ends}
use Rattle.sv_lexer.specs.Piece.{HasForm, decimal_fault, based_fault, is_sign, is_skipped}
use Rattle.sv_lexer.specs.declared.form.Base.TheVariants.{Hexadecimal}
use Rattle.sv_lexer.specs.declared.form.Form.TheVariants as form

passes_underscores : spelled 16 (codes "1_fF") ≡ 511
passes_underscores = refl

greatest_decimal : decimal_fault (codes "2_147_483_647") ≡ None
greatest_decimal = refl

past_decimal : decimal_fault (codes "2147483648") ≡ Some kind.BadNumber
past_decimal = refl

greatest_word : based_fault (codes "64") Hexadecimal (codes "ffff_ffff_ffff_ffff") ≡ None
greatest_word = refl

past_width : based_fault (codes "65") Hexadecimal (codes "0") ≡ Some kind.TooWide
past_width = refl

no_width : based_fault (codes "0") Hexadecimal (codes "1") ≡ Some kind.BadNumber
no_width = refl

past_32_bits : based_fault [] Hexadecimal (codes "1_0000_0000") ≡ Some kind.BadNumber
past_32_bits = refl

unknown_before_width : based_fault (codes "65") Hexadecimal (codes "x") ≡ Some kind.BadNumber
unknown_before_width = refl

longest_sign : is_sign (codes "<<<") ≡ true
unfolding is_sign
longest_sign = refl

quote_is_no_sign : is_sign (codes "'") ≡ false
unfolding is_sign
quote_is_no_sign = refl

skipped_exactly : is_skipped (codes "timescale1") ≡ false
skipped_exactly = refl

carriage_returns_end_no_line : line_ends (13 ∷ 10 ∷ 13 ∷ 10 ∷ []) ≡ 2
carriage_returns_end_no_line = refl

fill_zero : HasForm form.Fill (codes "'0")
fill_zero = inl refl
