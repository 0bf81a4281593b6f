-- Worked values of the meanings, by computation.
use Rattle.std.proofs.Common.{◌≡◌, negsuc, [], ◌∷◌, refl}
use Rattle.std.specs.Int.Count.{ones}
use Rattle.bit_ops.specs.declared.operation.Op.TheVariants.{Const, Concat, LtS, Mux, Insert}
use Rattle.bit_ops.specs.Meaning.{signed_of, word_of, sext_of, slice_of, insert_of, neg_of, sub_of, div_s_of, mod_s_of, shl_of, shr_s_of, lt_s_of, red_xor_of}
use Rattle.bit_ops.specs.Rows.{value_of}

least_of_8 : signed_of 8 128 ≡ negsuc 127
least_of_8 = refl

minus_one_of_64 : signed_of 64 0xffff_ffff_ffff_ffff ≡ negsuc 0
minus_one_of_64 = refl

one_bit_is_signed : signed_of 1 1 ≡ negsuc 0
one_bit_is_signed = refl

word_of_minus_three : word_of 8 (negsuc 2) ≡ 253
word_of_minus_three = refl

sext_of_8_to_16 : sext_of 8 16 0x80 ≡ 0xff80
sext_of_8_to_16 = refl

middle_slice : slice_of 4 8 0x1234 ≡ 0x23
middle_slice = refl

inserted_byte : insert_of 4 8 0x1234 0xff ≡ 0x1ff4
inserted_byte = refl

negated_least : neg_of 8 0x80 ≡ 0x80
negated_least = refl

one_below_zero : sub_of 8 0 1 ≡ 0xff
one_below_zero = refl

by_zero : div_s_of 8 5 0 ≡ 0
by_zero = refl

-- -5 / 3 is -1, and -5 % 3 is -2
toward_zero : div_s_of 8 0xfb 3 ≡ 0xff
toward_zero = refl

sign_of_the_dividend : mod_s_of 8 0xfb 3 ≡ 0xfe
sign_of_the_dividend = refl

least_by_minus_one : div_s_of 8 0x80 0xff ≡ 0x80
least_by_minus_one = refl

least_by_minus_one_leaves_nothing : mod_s_of 8 0x80 0xff ≡ 0
least_by_minus_one_leaves_nothing = refl

shifted_by_the_width : shl_of 8 0xff 8 ≡ 0
shifted_by_the_width = refl

sign_bits_only : shr_s_of 8 0x81 0xffff_ffff_ffff_ffff ≡ 0xff
sign_bits_only = refl

rounded_down : shr_s_of 8 0x81 1 ≡ 0xc0
rounded_down = refl

minus_one_is_less : lt_s_of 8 0xff 0 ≡ 1
minus_one_is_less = refl

odd_number_of_ones : red_xor_of 0xb ≡ 1
unfolding ones
odd_number_of_ones = refl

constant_row : value_of Const 8 0 ((8, 42) ∷ []) ≡ 42
constant_row = refl

concat_row : value_of Concat 12 0 ((4, 0xa) ∷ (8, 0x5c) ∷ []) ≡ 0xa5c
concat_row = refl

signed_order_row : value_of LtS 1 0 ((8, 0xff) ∷ (8, 0) ∷ []) ≡ 1
signed_order_row = refl

choice_row : value_of Mux 8 0 ((1, 0) ∷ (8, 3) ∷ (8, 4) ∷ []) ≡ 4
choice_row = refl

insert_row : value_of Insert 8 2 ((8, 0xff) ∷ (4, 0) ∷ []) ≡ 0xc3
insert_row = refl
