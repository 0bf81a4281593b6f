-- The words of a text, found from its front.
use Rattle.std.proofs.Common.{◌≡◌, ℕ, zero, suc, ◌<◌, ◌≤◌, Bool, true, false, cond, List, [], ◌∷◌, length, take, drop, get_or, refl, sym, ap, ◌∙◌, arith, not, nat_lt, Option, None, Some, add-zero, length-drop, unwrap_or}
use Rattle.std.specs.List.{position, position_or_len}
use Rattle.std.proofs.Math.Seq.{drop-length}
use Rattle.std.proofs.lemmas.List.{get_or-drop}
use Rattle.std.proofs.lemmas.List.Sums.{fails_before_first}
use Rattle.std.proofs.lemmas.Bool.Decides.{nat_tests}
use Rattle.std.proofs.lemmas.List.Quantifiers.{position-Some}
use Rattle.stimulus_reader.specs.Stimulus.{separates, joins, onto_word, words_of}

-- separators in front of a text change nothing
pub words_behind : (xs : List ℕ) (n : ℕ) → n ≤ length xs → ((k : ℕ) → k < n → separates (get_or xs k 0) ≡ true) → words_of xs ≡ words_of (drop n xs)
words_behind xs zero short blank = refl
words_behind [] (suc n) short blank = refl
words_behind (x ∷ xs) (suc n) short blank =
    let here : separates x ≡ true = blank 0 (omega arith) in
    rw here (words_behind xs n (omega arith) (λ k below. blank (suc k) (omega arith)))

-- a text of separators has no words
pub words_none : (xs : List ℕ) → ((k : ℕ) → k < length xs → separates (get_or xs k 0) ≡ true) → words_of xs ≡ []
words_none [] blank = refl
words_none (x ∷ xs) blank =
    let here : separates x ≡ true = blank 0 (omega arith) in
    rw here (words_none xs (λ k below. blank (suc k) (omega arith)))

-- a byte of a word goes before the word behind it
words_join : (x : ℕ) (xs : List ℕ) → separates x ≡ false → joins xs ≡ true → words_of (x ∷ xs) ≡ onto_word x (words_of xs)
words_join x xs here next = rw (here, next) refl

-- or is a word by itself
words_part : (x : ℕ) (xs : List ℕ) → separates x ≡ false → joins xs ≡ false → words_of (x ∷ xs) ≡ (x ∷ []) ∷ words_of xs
words_part x xs here next = rw (here, next) refl

-- bytes of a word at the front are a word, where none goes on behind them
word_first : (n : ℕ) (xs : List ℕ) → suc n ≤ length xs → ((k : ℕ) → k < suc n → separates (get_or xs k 0) ≡ false) → joins (drop (suc n) xs) ≡ false → words_of xs ≡ take (suc n) xs ∷ words_of (drop (suc n) xs)
word_first n [] long inside ends = absurd (omega arith)
word_first zero (x ∷ xs) long inside ends = words_part x xs (inside 0 (omega arith)) ends
word_first (suc n) (x ∷ []) long inside ends = absurd (omega arith)
word_first (suc n) (x ∷ y ∷ xs) long inside ends =
    words_join x (y ∷ xs) (inside 0 (omega arith)) (ap not (inside 1 (omega arith)))
    ∙ ap (onto_word x) (word_first n (y ∷ xs) (omega arith) (λ k below. inside (suc k) (omega arith)) ends)

-- ---- where a test passes first

past_end : (a b : ℕ) → cond (nat_lt a b) (Some a) None ≡ None → b ≤ a
past_end a b none = grind (arith, nat_tests)

fails_all : (p : ℕ → Bool) (xs : List ℕ) → position p xs ≡ None → (k : ℕ) → k < length xs → p (get_or xs k 0) ≡ false
fails_all p xs none k below =
    let past = past_end (position_or_len p xs) (length xs) none in
    fails_before_first p xs k 0 (omega arith)

unnot_true : (b : Bool) → not b ≡ true → b ≡ false
unnot_true true e = cc
unnot_true false e = refl

unnot_false : (b : Bool) → not b ≡ false → b ≡ true
unnot_false true e = refl
unnot_false false e = cc

joins_not : (xs : List ℕ) → separates (get_or xs 0 0) ≡ true → joins xs ≡ false
joins_not [] e = refl
joins_not (x ∷ xs) e = ap not e

-- ---- what the front of a text says

pub front_none : (text : List ℕ) → position (λ b. not (separates b)) text ≡ None → words_of text ≡ []
front_none text none = words_none text (λ k below. unnot_false _ (fails_all (λ b. not (separates b)) text none k below))

from_start : (text : List ℕ) (start : ℕ) → position (λ b. not (separates b)) text ≡ Some start → words_of text ≡ words_of (drop start text)
from_start text start is =
    let at = position-Some (λ b. not (separates b)) text start 0 is in
    words_behind text start (omega arith) (λ k below. unnot_false _ (at.2 k below))

start_inside : (text : List ℕ) (start : ℕ) → position (λ b. not (separates b)) text ≡ Some start → separates (get_or (drop start text) 0 0) ≡ false
start_inside text start is =
    let at = position-Some (λ b. not (separates b)) text start 0 is in
    rw (get_or-drop start text 0 0, add-zero) (unnot_true _ at.1)

-- what a cut of a text that begins with a word comes to
IsFirstWord : List ℕ → ℕ → Type 0
IsFirstWord xs n = (words_of xs ≡ take n xs ∷ words_of (drop n xs)) × (0 < n)

word_until : (xs : List ℕ) (n : ℕ) → separates (get_or xs 0 0) ≡ false → position (λ b. separates b) xs ≡ Some n → IsFirstWord xs n
unfolding IsFirstWord
word_until xs zero here ends =
    let at = position-Some (λ b. separates b) xs 0 0 ends in
    let there : separates (get_or xs 0 0) ≡ true = at.1 in
    absurd (cc)
word_until xs (suc n) here ends =
    let at = position-Some (λ b. separates b) xs (suc n) 0 ends in
    let long : suc n < length xs = at.0 in
    (word_first n xs (omega arith) at.2 (joins_not (drop (suc n) xs) (rw (get_or-drop (suc n) xs 0 0, add-zero) at.1)), omega arith)

word_whole : (xs : List ℕ) → 0 < length xs → position (λ b. separates b) xs ≡ None → IsFirstWord xs (length xs)
unfolding IsFirstWord
word_whole [] some none = absurd (omega arith)
word_whole (x ∷ xs) some none =
    let end : drop (suc (length xs)) (x ∷ xs) ≡ [] = drop-length xs in
    (word_first (length xs) (x ∷ xs) (omega arith) (fails_all (λ b. separates b) (x ∷ xs) none) (ap joins end), omega arith)

word_cut : (xs : List ℕ) (after : Option ℕ) → 0 < length xs → separates (get_or xs 0 0) ≡ false → after ≡ position (λ b. separates b) xs → IsFirstWord xs (unwrap_or after (length xs))
word_cut xs None some here is = word_whole xs some (sym is)
word_cut xs (Some n) some here is = word_until xs n here (sym is)

-- the first word and the rest, cut where the first test after the start passes
pub front_parts : (text front word rest : List ℕ) (first after : Option ℕ) (start n : ℕ) → first ≡ position (λ b. not (separates b)) text → first ≡ Some start → front ≡ drop start text → after ≡ position (λ b. separates b) front → n ≡ unwrap_or after (length front) → word ≡ take n front → rest ≡ drop n front → (words_of text ≡ word ∷ words_of rest) × (length rest < length text)
unfolding IsFirstWord
front_parts text front word rest first after start n first_is begins front_is after_is n_is word_is rest_is =
    let at = position-Some (λ b. not (separates b)) text start 0 (sym first_is ∙ begins) in
    let inside : separates (get_or front 0 0) ≡ false = rw front_is (start_inside text start (sym first_is ∙ begins)) in
    let some : 0 < length front = rw front_is (omega (arith, length-drop {A = ℕ})) in
    let cut : IsFirstWord front n = rw n_is (word_cut front after some inside after_is) in
    let from : words_of text ≡ words_of front = rw front_is (from_start text start (sym first_is ∙ begins)) in
    (rw (word_is, rest_is) (from ∙ cut.0), omega (arith, ap length rest_is, length-drop {A = ℕ}, cut.1, ap length front_is))
