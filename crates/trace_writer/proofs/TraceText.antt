-- The text of a trace, digit by digit and port by port.
use Rattle.std.proofs.Common.{◌≡◌, ℕ, zero, suc, ◌<◌, ◌≤◌, ◌^◌, ◌+◌, ◌*◌, ◌/◌, ◌%◌, List, [], ◌∷◌, ◌++◌, length, drop, map, ◌-◌, bit_and, append_assoc, refl, sym, ◌∙◌, ap, arith}
use Rattle.std.proofs.Common.{pow-add, add-one, get_or, length-append}
use Rattle.std.proofs.lemmas.List.{at_drop_more, drop_all, append-nil}
use Rattle.std.proofs.lemmas.List.Sums.{sum_by-cons}
use Rattle.std.proofs.lemmas.Fmt.{decimal_step, decimal_digit}
use Rattle.std.specs.Fmt.{decimal}
use Rattle.std.proofs.lemmas.Nat.{and_mask}
use native.Mathlib.Nat.{div-div-eq-div-mul, div-one}
use Rattle.std.specs.List.{flat_map, zip}
use Rattle.bit_ops.specs.declared.value.Bits.{Bits}
use Rattle.bit_ops.specs.Lists.{words, widths}
use Rattle.sv_base.specs.declared.face.Port.{Port}
use Rattle.sv_base.specs.TraceText.{hex_digit, hex_digits, digits_of_width, cell}
use Rattle.trace_writer.specs.Room.{value_text, values_text, value_room, values_room}

-- the highest of n + 1 digits stands first
sixteen : (n : ℕ) → 16 * 2 ^ (4 * n) ≡ 2 ^ (4 * suc n)
sixteen n =
    let e : 4 * suc n ≡ 4 + 4 * n = omega arith in
    sym (ap (λ k. 2 ^ k) e ∙ pow-add 2 4 (4 * n))

pub hex_head : (n word : ℕ) → hex_digits (suc n) word ≡ hex_digit (word / 2 ^ (4 * n) % 16) ∷ hex_digits n word
hex_head zero word = ap (λ w. hex_digit (w % 16) ∷ []) (sym (div-one word))
hex_head (suc n) word =
    ap (λ xs. xs ++ hex_digit (word % 16) ∷ []) (hex_head n (word / 16))
    ∙ ap (λ w. hex_digit (w % 16) ∷ (hex_digits n (word / 16) ++ hex_digit (word % 16) ∷ [])) (div-div-eq-div-mul word 16 (2 ^ (4 * n)) ∙ ap (λ m. word / m) (sixteen n))

-- there are as many digits as are asked for
length-hex_digits : (n word : ℕ) → length (hex_digits n word) ≡ n
length-hex_digits zero word = refl
length-hex_digits (suc n) word =
    length-append (hex_digits n (word / 16)) (hex_digit (word % 16) ∷ []) ∙ ap (λ k. k + 1) (length-hex_digits n (word / 16)) ∙ add-one n

pub length-value_text : (value : Bits) → length (value_text value) ≡ value_room value.width
length-value_text value = sym (add-one _) ∙ ap (λ k. k + 1) (length-hex_digits (digits_of_width value.width) value.word) ∙ omega arith

-- one digit more: what is written and what is to come are the same text
pub digit_more : (word place d : ℕ) (text after all : List ℕ) → 0 < place → d ≡ hex_digit (bit_and (word / 2 ^ (4 * (place - 1))) 15) → after ≡ text ++ d ∷ [] → text ++ hex_digits place word ≡ all → after ++ hex_digits (place - 1) word ≡ all
digit_more word zero d text after all some is wrote so_far = absurd (omega arith)
digit_more word (suc place) d text after all some is wrote so_far =
    let back : suc place - 1 ≡ place = omega arith in
    let digit : d ≡ hex_digit (word / 2 ^ (4 * place) % 16) =
    is ∙ ap (λ k. hex_digit (bit_and (word / 2 ^ (4 * k)) 15)) back ∙ ap hex_digit (and_mask (word / 2 ^ (4 * place)) 4) in
    ap (λ k. after ++ hex_digits k word) back
    ∙ ap (λ xs. xs ++ hex_digits place word) wrote
    ∙ append_assoc text (d ∷ []) (hex_digits place word)
    ∙ ap (λ x. text ++ x ∷ hex_digits place word) digit
    ∙ ap (λ xs. text ++ xs) (sym (hex_head place word))
    ∙ so_far

-- the values with their widths are what a line says of ports of these widths
pub values_are_cells : (values : List Bits) (ports : List Port) → widths values ≡ map (λ p. p.width) ports → values_text values ≡ flat_map cell (zip ports (words values))
values_are_cells [] [] same = refl
values_are_cells [] (p ∷ ports) same = absurd (cc)
values_are_cells (v ∷ values) [] same = absurd (cc)
values_are_cells (v ∷ values) (p ∷ ports) same =
    let width : v.width ≡ p.width = cc in
    let rest : widths values ≡ map (λ (q : Port). q.width) ports = cc in
    ap (λ w. (32 ∷ hex_digits (digits_of_width w) v.word) ++ values_text values) width
    ∙ ap (λ xs. (32 ∷ hex_digits (digits_of_width p.width) v.word) ++ xs) (values_are_cells values ports rest)

-- a number of ten or more has a digit more than its tenth
pub decimal_longer : (n : ℕ) → 10 ≤ n → n < 2 ^ 64 → length (decimal n) ≡ length (decimal (n / 10)) + 1
decimal_longer n ten below = ap length (decimal_step n ten below) ∙ simp length-append

-- a number below ten has one digit
pub decimal_one : (n : ℕ) → n < 10 → length (decimal n) ≡ 1
decimal_one n below = ap length (decimal_digit n below)

-- one value more: its room is taken from what is left
pub room_more : (values : List Bits) (i : ℕ) (value : Bits) → i < length values → value ≡ get_or values i value → values_room (widths (drop i values)) ≡ value_room value.width + values_room (widths (drop (i + 1) values))
room_more values i value within is =
    at_drop_more (λ vs. values_room (widths vs)) values i value within
    ∙ sum_by-cons value_room (get_or values i value).width (widths (drop (i + 1) values))
    ∙ ap (λ (v : Bits). value_room v.width + values_room (widths (drop (i + 1) values))) (sym is)

-- one value more: what is written and what is to come are the same text
pub value_more : (values : List Bits) (i : ℕ) (value : Bits) (text after all : List ℕ) → i < length values → value ≡ get_or values i value → after ≡ text ++ value_text value → text ++ values_text (drop i values) ≡ all → after ++ values_text (drop (i + 1) values) ≡ all
value_more values i value text after all within is wrote so_far =
    let more = values_text (drop (i + 1) values) in
    let here : values_text (drop i values) ≡ value_text value ++ more = at_drop_more values_text values i value within ∙ ap (λ v. value_text v ++ more) (sym is) in
    ap (λ xs. xs ++ more) wrote ∙ append_assoc text (value_text value) more ∙ ap (λ xs. text ++ xs) (sym here) ∙ so_far

-- no value is left
pub all_values : (values : List Bits) (i : ℕ) (text front after : List ℕ) → length values ≤ i → after ≡ text ++ 10 ∷ [] → text ++ values_text (drop i values) ≡ front ++ values_text values → after ≡ front ++ values_text values ++ 10 ∷ []
all_values values i text front after all wrote so_far =
    let none : drop i values ≡ [] = drop_all i values all in
    let whole : text ≡ front ++ values_text values = sym (append-nil text) ∙ ap (λ vs. text ++ values_text vs) (sym none) ∙ so_far in
    wrote ∙ ap (λ xs. xs ++ 10 ∷ []) whole
