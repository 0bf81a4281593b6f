-- What was written of a field is read again, whatever follows.
use Rattle.std.proofs.Common.{◌≡◌, ℕ, ◌+◌, ◌-◌, ◌*◌, ◌/◌, ◌%◌, ◌^◌, ◌<◌, ◌≤◌, Bool, true, false, not, inl, inr, List, [], ◌∷◌, ◌++◌, length, take, drop, get_or, Some, refl, sym, ap, ◌∙◌, append_assoc, arith}
use Rattle.std.specs.Prelude.{IsTrue, nat_lt}
use Rattle.std.specs.List.{list_all, position, position_or_len}
use Rattle.std.specs.Fmt.{decimal}
use Rattle.std.specs.Str.{bytes_eq}
use Rattle.std.proofs.lemmas.Bool.{and_parts, cases_eq, ne_eqb, lt-ltb, true≢false}
use Rattle.std.proofs.lemmas.Bool.Decides.{nat_tests}
use Rattle.std.proofs.lemmas.List.{take_at, drop_at, drop_all, drop_more, take_rest, at_drop_more, length-append, length_push}
use Rattle.std.proofs.lemmas.Slice.Eq.{bytes_eq-Decides}
use Rattle.std.proofs.lemmas.Fmt.{decimal_by_steps}
use Rattle.sv_base.specs.Spelling.{begins_name, continues_name, is_name}
use Rattle.sv_base.specs.declared.face.Class.{Class}
use Rattle.sv_base.specs.declared.face.Class.TheVariants.{Value, Clock, Idle, Output}
use Rattle.dpi_wrapper.specs.declared.unread.Unread.{Unread}
use Rattle.dpi_wrapper.specs.declared.unread.Unread.TheVariants as unread
use Rattle.dpi_wrapper.specs.WrapperText.{class_word, sign_word}
use Rattle.dpi_wrapper.specs.code.Reading.{Fails, behind, is_blank, parts_at, word_at, is_digit, with_digit, number_from, number_at, class_of, sign_of}

pub behind_again : (front rest : List ℕ) → behind front (front ++ rest) ≡ Some rest
unfolding behind
behind_again front rest =
    let same : bytes_eq front front ≡ true = (bytes_eq-Decides front front).1 refl in
    rw (take_at front rest (length front) refl, drop_at front rest (length front) refl, same) refl

-- ---- words

-- the bytes have no blank
abbrev pub HasNoBlank : List ℕ → Type 0
HasNoBlank word = list_all (λ b. not (is_blank b)) word ≡ true

first_blank : (word rest : List ℕ) → HasNoBlank word → position_or_len is_blank (word ++ 32 ∷ rest) ≡ length word
first_blank [] rest h = refl
first_blank (b ∷ word) rest h =
    let parts = and_parts (not (is_blank b)) (list_all (λ c. not (is_blank c)) word) h in
    rw parts.0 (rw (first_blank word rest parts.1) (omega arith))

pub word_again : (word rest : List ℕ) → HasNoBlank word → word_at (word ++ 32 ∷ rest) ≡ Some (word, rest)
unfolding word_at
word_again word rest h =
    let at : position_or_len is_blank (word ++ 32 ∷ rest) ≡ length word = first_blank word rest h in
    let long : nat_lt (length word) (length (word ++ 32 ∷ rest)) ≡ true = lt-ltb _ _ (omega (arith, length-append word (32 ∷ rest))) in
    let found : position is_blank (word ++ 32 ∷ rest) ≡ Some (length word) = rw (at, long) refl in
    let front : take (length word) (word ++ 32 ∷ rest) ≡ word = take_at word (32 ∷ rest) (length word) refl in
    let back : drop (length word + 1) (word ++ 32 ∷ rest) ≡ rest =
    ap (drop (length word + 1)) (sym (append_assoc word (32 ∷ []) rest)) ∙ drop_at (word ++ 32 ∷ []) rest (length word + 1) (length_push word 32) in
    ap (parts_at (word ++ 32 ∷ rest)) found ∙ rw (front, back) refl

-- a byte that passes a test which a blank does not is no blank
no_blank : (test : ℕ → Bool) → test 32 ≡ false → (b : ℕ) → test b ≡ true → not (is_blank b) ≡ true
no_blank test fails b passes =
    elim (cases_eq b 32) [
      | inl same ↦ absurd (true≢false (sym passes ∙ ap test same ∙ fails))
      | inr other ↦ ap not (ne_eqb b 32 other)
    ]

no_blanks : (test : ℕ → Bool) → test 32 ≡ false → (word : List ℕ) → list_all test word ≡ true → HasNoBlank word
no_blanks test fails [] h = refl
no_blanks test fails (b ∷ word) h =
    let parts = and_parts (test b) (list_all test word) h in
    rw (no_blank test fails b parts.0, no_blanks test fails word parts.1) refl

pub name_has_no_blank : (name : List ℕ) → IsTrue (is_name name) → HasNoBlank name
name_has_no_blank [] h = absurd (true≢false (sym h))
name_has_no_blank (b ∷ name) h =
    let parts = and_parts (begins_name b) (list_all continues_name name) h in
    rw (no_blank begins_name refl b parts.0, no_blanks continues_name refl name parts.1) refl

pub class_has_no_blank : (class : Class) → HasNoBlank (class_word class)
class_has_no_blank Value = refl
class_has_no_blank Clock = refl
class_has_no_blank Idle = refl
class_has_no_blank Output = refl

pub class_again : (class : Class) → class_of (class_word class) ≡ Some class
unfolding class_of
class_again Value = refl
class_again Clock = refl
class_again Idle = refl
class_again Output = refl

pub sign_has_no_blank : (signed : Bool) → HasNoBlank (sign_word signed)
sign_has_no_blank true = refl
sign_has_no_blank false = refl

pub sign_again : (signed : Bool) → sign_of (sign_word signed) ≡ Some signed
unfolding sign_of
sign_again true = refl
sign_again false = refl

-- ---- numbers

-- no digit stands at the front
abbrev pub begins_with_digit : List ℕ → Bool
begins_with_digit [] = false
begins_with_digit (b ∷ bytes) = is_digit b

one_digit : (m d n : ℕ) (rest : List ℕ) → d < 10 → m * 10 + d ≡ n → n < 2 ^ 32 → number_from m ((48 + d) ∷ rest) ≡ number_from n rest
unfolding number_from
one_digit m d n rest below is small =
    let digit : is_digit (48 + d) ≡ true = grind (arith, nat_tests) in
    let cut : 48 + d - 48 ≡ d = omega arith in
    let fits : nat_lt (m * 10 + d) (2 ^ 32) ≡ true = lt-ltb _ _ (omega arith) in
    rw (digit, cut, fits, is) refl

abbrev IsReadOn : ℕ → List ℕ → Type 0
IsReadOn n digits = n < 2 ^ 32 → (rest : List ℕ) → number_from 0 (digits ++ rest) ≡ number_from n rest

reads_on : (n : ℕ) → n < 2 ^ 64 → IsReadOn n (decimal n)
reads_on n small =
    decimal_by_steps IsReadOn
    (λ d below fits rest. one_digit 0 d d rest below (omega arith) fits)
    (λ m digits ten before fits rest.
    ap (number_from 0) (append_assoc digits ((48 + m % 10) ∷ []) rest)
    ∙ before (omega arith) ((48 + m % 10) ∷ rest)
    ∙ one_digit (m / 10) (m % 10) m rest (omega arith) (omega arith) fits)
    n small

stops : (n : ℕ) (rest : List ℕ) → begins_with_digit rest ≡ false → number_from n rest ≡ Some (n, rest)
unfolding number_from
stops n [] h = refl
stops n (b ∷ rest) h = rw h refl

pub number_again : (n : ℕ) (rest : List ℕ) → n < 2 ^ 32 → begins_with_digit rest ≡ false → number_at (decimal n ++ rest) ≡ Some (n, rest)
number_again n rest small h = reads_on n (omega arith) small rest ∙ stops n rest h

-- ---- numbers, digit by digit

-- a digit more
pub digit_goes_on : (n at m : ℕ) (bytes : List ℕ) → at < length bytes → is_digit (get_or bytes at 0) ≡ true → with_digit n (get_or bytes at 0) ≡ Some m
    → number_from n (drop at bytes) ≡ number_from m (drop (at + 1) bytes)
unfolding number_from
digit_goes_on n at m bytes inside digit more = at_drop_more (number_from n) bytes at 0 inside ∙ rw (digit, more) refl

-- a digit too many
pub digit_fails : (e : Unread) (n at : ℕ) (bytes : List ℕ) → at < length bytes → is_digit (get_or bytes at 0) ≡ true
    → Fails e (with_digit n (get_or bytes at 0))
    → Fails e (number_from n (drop at bytes))
unfolding number_from
digit_fails unread.NoMemory n at bytes inside digit more = tt
digit_fails unread.NoFace n at bytes inside digit more = at_drop_more (number_from n) bytes at 0 inside ∙ rw (digit, more) refl

-- no digit more
pub digits_stop : (n at : ℕ) (bytes : List ℕ) → at < length bytes → is_digit (get_or bytes at 0) ≡ false
    → number_from n (drop at bytes) ≡ Some (n, take (length bytes - at) (drop at bytes))
unfolding number_from
digits_stop n at bytes inside other =
    at_drop_more (number_from n) bytes at 0 inside
    ∙ rw other (ap (λ rest. Some (n, rest)) (sym (drop_more bytes at 0 inside) ∙ sym (take_rest bytes at)))

-- no byte more
pub digits_end : (n at : ℕ) (bytes : List ℕ) → length bytes ≤ at
    → number_from n (drop at bytes) ≡ Some (n, take (length bytes - length bytes) (drop (length bytes) bytes))
unfolding number_from
digits_end n at bytes past =
    ap (number_from n) (drop_all at bytes past)
    ∙ ap (λ rest. Some (n, rest)) (sym (take_rest bytes (length bytes) ∙ drop_all (length bytes) bytes (omega arith)))
