-- What the parts of a setting say.
use Rattle.std.proofs.Common.{◌≡◌, ℕ, zero, suc, ◌+◌, ◌*◌, ◌^◌, ◌<◌, ◌≤◌, Bool, true, false, cond, ◌&&◌, ◌||◌, ◌==◌, List, [], ◌∷◌, ◌++◌, length, take, drop, get_or, map, reverse, append_assoc, append-nil, IfOk, Ok, refl, sym, ap, subst, ◌∙◌, arith, add-one, nat_lt, if◌then◌else◌, Option, None, Some, Err, Result, MatchOption, slice_get, drop-cons}
use Rattle.std.specs.List.{position, position_from, list_any, AllByRecursion}
use Rattle.std.specs.Str.{bytes_eq}
use Rattle.std.proofs.Math.Nat.{pow-le-pow_right, pow-suc}
use Rattle.std.proofs.lemmas.Iterator.Adapters.{position_from-zero}
use Rattle.std.proofs.lemmas.List.{reverse-append}
use Rattle.std.proofs.lemmas.Bool.Decides.{nat_tests}
use Rattle.std.proofs.lemmas.List.Folds.{list_any-append}
use Rattle.sv_base.specs.declared.face.Port.{Port}
use Rattle.std.proofs.lemmas.Option.{get_or_from_slice_get}
use Rattle.sv_base.specs.Steps.{Setting as Assigned}
use Rattle.stimulus_reader.specs.declared.step.StepKind.{StepKind}
use Rattle.stimulus_reader.specs.declared.reason.Reason.TheVariants.{SetTwice}
use Rattle.stimulus_reader.specs.declared.setting.Setting.{Setting}
use Rattle.stimulus_reader.specs.declared.setting.BadWord.{BadWord}
use Rattle.sv_base.specs.Spelling.{is_name}
use Rattle.stimulus_reader.specs.Stimulus.{Fault, digit_of, more_digits, number_from, parts_of, before_first_part, named_part, input_from, setting_of, setting_of_parts, set_input, class_fault, valued, value_in}
use Rattle.sv_base.specs.Classes.{is_input}
use Rattle.stimulus_reader.specs.code.LineReading.{IsInputOf, IsFitting, StandsIn, ports_set}

-- ---- numbers

-- once a digit is none, there is no number
pub number_none : (digits : List ℕ) → number_from None digits ≡ None
number_none [] = refl
number_none (b ∷ digits) = number_none digits

-- a byte that is no digit ends it
pub number_stops : (digits : List ℕ) (number i : ℕ) → i < length digits → digit_of (get_or digits i 0) ≡ None → number_from (Some number) (drop i digits) ≡ None
number_stops digits number i inside none = rw (drop-cons digits i 0) (ap (λ d. number_from (more_digits (Some number) d) (drop (suc i) digits)) none ∙ number_none (drop (suc i) digits))

-- one digit more stays below the next power
pub number_fits : (number digit i : ℕ) → number < 16 ^ i → digit < 16 → number * 16 + digit < 16 ^ (i + 1)
number_fits number digit i below small =
    let grows : 16 ^ (i + 1) ≡ 16 ^ i * 16 = rw add-one (pow-suc 16 i) in
    omega arith

-- 16 digits fit a word
pub number_below : (number digit i : ℕ) → number < 16 ^ i → digit < 16 → i < 16 → number * 16 + digit < 2 ^ 64
number_below number digit i below small few =
    let more : number * 16 + digit < 16 ^ (i + 1) = number_fits number digit i below small in
    let grows : 16 ^ (i + 1) ≤ 16 ^ 16 = pow-le-pow_right {n = 16} (omega arith) {i = i + 1} {j = 16} (omega arith) in
    let same : 16 ^ 16 ≡ 2 ^ 64 = refl in
    omega arith

-- ---- the parts of a word

-- where the first `=` stands, counted from n, the parts are those around it
abbrev CutsFrom : ℕ → List ℕ → Option (List ℕ × List ℕ) → Option ℕ → Type 0
CutsFrom n xs parts None = parts ≡ None
CutsFrom n xs parts (Some i) = (k : ℕ) × (i ≡ n + k) × (parts ≡ Some (take k xs, drop (suc k) xs))

cuts_behind : (n x : ℕ) (xs : List ℕ) (first : Option ℕ) → CutsFrom (n + 1) xs (parts_of xs) first → CutsFrom n (x ∷ xs) (before_first_part x (parts_of xs)) first
cuts_behind n x xs None cut = ap (before_first_part x) cut
cuts_behind n x xs (Some i) cut = (suc cut.0, omega arith, ap (before_first_part x) cut.2)

cuts_from : (n : ℕ) (xs : List ℕ) → CutsFrom n xs (parts_of xs) (position_from (λ b. b == 61) n xs)
cuts_from n [] = refl
cuts_from n (x ∷ xs) =
    elim (x == 61) as (λ b. CutsFrom n (x ∷ xs) (if b then Some ([], xs) else before_first_part x (parts_of xs)) (cond b (Some n) (position_from (λ b. b == 61) (n + 1) xs))) [
      | true ↦ (0, omega arith, refl)
      | false ↦ cuts_behind n x xs (position_from (λ b. b == 61) (n + 1) xs) (cuts_from (n + 1) xs)
    ]

cuts_at : (xs : List ℕ) (first : Option ℕ) → first ≡ position (λ b. b == 61) xs → CutsFrom 0 xs (parts_of xs) first
cuts_at xs first is = rw (is, position_from-zero (λ b. b == 61) xs) (cuts_from 0 xs)

pub parts_none : (xs : List ℕ) (first : Option ℕ) → first ≡ position (λ b. b == 61) xs → first ≡ None → parts_of xs ≡ None
parts_none xs None is none = cuts_at xs None is
parts_none xs (Some i) is none = absurd (cc)

parts_some : (xs : List ℕ) (first : Option ℕ) (i : ℕ) → first ≡ position (λ b. b == 61) xs → first ≡ Some i → parts_of xs ≡ Some (take i xs, drop (suc i) xs)
parts_some xs None i is some = absurd (cc)
parts_some xs (Some j) i is some =
    let cut = cuts_at xs (Some j) is in
    let same : cut.0 ≡ i = let inner : j ≡ i = cc in omega arith in
    subst (λ n. parts_of xs ≡ Some (take n xs, drop (suc n) xs)) same cut.2

drop_one : (i : ℕ) (xs : List ℕ) → drop 1 (drop i xs) ≡ drop (suc i) xs
drop_one zero xs = refl
drop_one (suc i) [] = refl
drop_one (suc i) (x ∷ xs) = drop_one i xs

pub parts_split : (xs name rest text : List ℕ) (first : Option ℕ) (i : ℕ) → first ≡ position (λ b. b == 61) xs → first ≡ Some i → name ≡ take i xs → rest ≡ drop i xs → text ≡ drop 1 rest → Some (name, text) ≡ parts_of xs
parts_split xs name rest text first i is some name_is rest_is text_is =
    let behind : text ≡ drop (suc i) xs = text_is ∙ ap (drop 1) rest_is ∙ drop_one i xs in
    rw (name_is, behind) (sym (parts_some xs first i is some))

-- ---- the input of a name

-- the place that is found, counted from n, is that of an input
abbrev FindsFrom : ℕ → List Port → List ℕ → Option ℕ → Type 0
FindsFrom n ports name None = input_from n ports name ≡ None
FindsFrom n ports name (Some i) = (k : ℕ) × (p : Port) × (i ≡ n + k) × (slice_get ports k ≡ Some p) × (is_input p.class ≡ true) × (input_from n ports name ≡ Some (i, p))

both_left : (a b : Bool) → (a && b) ≡ true → b ≡ true
both_left true b e = e
both_left false b e = cc

finds_behind : (n : ℕ) (p : Port) (ports : List Port) (name : List ℕ) (first : Option ℕ) → (bytes_eq p.name name && is_input p.class) ≡ false → FindsFrom (n + 1) ports name first → FindsFrom n (p ∷ ports) name first
finds_behind n p ports name None not_here finds = rw not_here finds
finds_behind n p ports name (Some i) not_here finds = (suc finds.0, finds.1, omega arith, finds.3, finds.4, rw not_here finds.5)

abbrev first_input : ℕ → List Port → List ℕ → Option ℕ
first_input n ports name = position_from (λ v. bytes_eq v.name name && is_input v.class) n ports

finds_at : (n : ℕ) (v : Port) (ports : List Port) (name : List ℕ) (here : Bool) → (bytes_eq v.name name && is_input v.class) ≡ here → FindsFrom (n + 1) ports name (first_input (n + 1) ports name) → FindsFrom n (v ∷ ports) name (cond here (Some n) (first_input (n + 1) ports name))
finds_at n v ports name true is finds = (0, v, omega arith, refl, both_left (bytes_eq v.name name) (is_input v.class) is, rw is refl)
finds_at n v ports name false is finds = finds_behind n v ports name (first_input (n + 1) ports name) is finds

finds_from : (n : ℕ) (ports : List Port) (name : List ℕ) → FindsFrom n ports name (first_input n ports name)
finds_from n [] name = refl
finds_from n (v ∷ ports) name = finds_at n v ports name (bytes_eq v.name name && is_input v.class) refl (finds_from (n + 1) ports name)

finds_first : (ports : List Port) (name : List ℕ) (first : Option ℕ) → first ≡ position (λ v. bytes_eq v.name name && is_input v.class) ports → FindsFrom 0 ports name first
finds_first ports name first is = rw (is, position_from-zero (λ v. bytes_eq v.name name && is_input v.class) ports) (finds_from 0 ports name)

pub input_of : (ports : List Port) (name : List ℕ) (first : Option ℕ) → first ≡ position (λ v. bytes_eq v.name name && is_input v.class) ports → MatchOption first (input_from 0 ports name ≡ None) (IsInputOf ports name)
input_of ports name None is = finds_first ports name None is
input_of ports name (Some i) is =
    let f = finds_first ports name (Some i) is in
    let same : f.0 ≡ i = let e = f.2 in omega arith in
    record { port = f.1; at = subst (λ k. slice_get ports k ≡ Some f.1) same f.3; input = f.4; found = f.5 }

-- ---- repetitions

or_turned : (a b c : Bool) → a ≡ c → (a || (b || false)) ≡ (b || c)
or_turned true true c e = refl
or_turned true false c e = e
or_turned false true c e = refl
or_turned false false c e = e

pub any_reversed : (p : ℕ → Bool) (xs : List ℕ) → list_any p (reverse xs) ≡ list_any p xs
any_reversed p [] = refl
any_reversed p (x ∷ xs) =
    ap (list_any p) (reverse-append (x ∷ []) xs) ∙ list_any-append p (reverse xs) (x ∷ []) ∙ or_turned (list_any p (reverse xs)) (p x) (list_any p xs) (any_reversed p xs)

any_mapped : (i : ℕ) (set : List Setting) → list_any (λ v. v == i) (map (λ (s : Setting). s.port) set) ≡ list_any (λ s. s.port == i) set
any_mapped i [] = refl
any_mapped i (s ∷ set) = ap (λ b. (s.port == i) || b) (any_mapped i set)

pub any_set : (i : ℕ) (set : List Setting) → list_any (λ v. v == i) (ports_set set) ≡ list_any (λ s. s.port == i) set
any_set i set = any_reversed (λ v. v == i) (map (λ (s : Setting). s.port) set) ∙ any_mapped i set

-- a value of one bit or more holds a 1
pub one_fits : (width : ℕ) → 1 ≤ width → 1 < 2 ^ width
one_fits width some =
    let grows : 2 ^ 1 ≤ 2 ^ width = pow-le-pow_right {n = 2} (omega arith) {i = 1} {j = width} some in
    let two : 2 ^ 1 ≡ 2 = refl in
    omega arith

-- ---- the parts of a word are the word

PartsAre : List ℕ → Option (List ℕ × List ℕ) → Type 0
PartsAre xs None = Unit {0}
PartsAre xs (Some p) = xs ≡ p.0 ++ 61 ∷ p.1

parts_behind : (x : ℕ) (xs : List ℕ) (parts : Option (List ℕ × List ℕ)) → PartsAre xs parts → PartsAre (x ∷ xs) (before_first_part x parts)
unfolding PartsAre
parts_behind x xs None are = tt
parts_behind x xs (Some p) are = ap (λ (ys : List ℕ). x ∷ ys) are

parts_here : (x : ℕ) (xs : List ℕ) (here : Bool) → (x == 61) ≡ here → PartsAre xs (parts_of xs) → PartsAre (x ∷ xs) (if here then Some ([], xs) else before_first_part x (parts_of xs))
unfolding PartsAre
parts_here x xs true is are = let same : x ≡ 61 = grind (arith, nat_tests) in ap (λ (y : ℕ). y ∷ xs) same
parts_here x xs false is are = parts_behind x xs (parts_of xs) are

parts_are : (xs : List ℕ) → PartsAre xs (parts_of xs)
unfolding PartsAre
parts_are [] = tt
parts_are (x ∷ xs) = parts_here x xs (x == 61) refl (parts_are xs)

named_are : (xs name text : List ℕ) (parts : Option (List ℕ × List ℕ)) → PartsAre xs parts → Some (name, text) ≡ named_part parts → xs ≡ name ++ 61 ∷ text
unfolding PartsAre
named_are xs name text None are is = absurd (cc)
named_are xs name text (Some p) are is =
    elim (is_name p.0 && nat_lt 0 (length p.1)) as (λ b. Some (name, text) ≡ (if b then Some p else None) → xs ≡ name ++ 61 ∷ text) [
      | true ↦ λ is. let same : p ≡ (name, text) = cc in subst (λ (q : List ℕ × List ℕ). xs ≡ q.0 ++ 61 ∷ q.1) same are
      | false ↦ λ is. absurd (cc)
    ] is

-- a name, the `=` and a text that were found are the word
pub parts_whole : (word name text : List ℕ) → Some (name, text) ≡ named_part (parts_of word) → word ≡ name ++ 61 ∷ text
parts_whole word name text is = named_are word name text (parts_of word) (parts_are word) is

-- ---- where a part stands

pub whole_stands : (word : List ℕ) → StandsIn word word 0
whole_stands word = record { before = []; after = []; is = sym (append-nil word); behind_is = refl }

pub name_stands : (name text : List ℕ) → StandsIn (name ++ 61 ∷ text) name (length text + 1)
name_stands name text = record { before = []; after = 61 ∷ text; is = refl; behind_is = omega arith }

pub text_stands : (name text : List ℕ) → StandsIn (name ++ 61 ∷ text) text 0
text_stands name text = record { before = name ++ 61 ∷ []; after = []; is = simp (append_assoc, append-nil); behind_is = refl }

-- ---- one setting

pub set_twice : (of : StepKind) (set : List Setting) (name text : List ℕ) (i : ℕ) (port : Port) → class_fault of port.class port.width ≡ None → list_any (λ s. s.port == i) set ≡ true → Err (record { reason = SetTwice; word = name }) ≡ set_input of (ports_set set) name text (Some (i, port))
set_twice of set name text i port allowed twice =
    let again : list_any (λ v. v == i) (ports_set set) ≡ true = any_set i set ∙ twice in
    rw (allowed, again) refl

pub set_once : (of : StepKind) (set : List Setting) (name text : List ℕ) (i : ℕ) (port : Port) (value : Option ℕ) → class_fault of port.class port.width ≡ None → list_any (λ s. s.port == i) set ≡ false → value ≡ value_in of port.width text → valued i text value ≡ set_input of (ports_set set) name text (Some (i, port))
set_once of set name text i port value allowed once value_is =
    let new : list_any (λ v. v == i) (ports_set set) ≡ false = any_set i set ∙ once in
    rw (allowed, new) (ap (valued i text) value_is)

-- what is indexed at the place of an input is that input
pub port_at : (ports : List Port) (name : List ℕ) (i : ℕ) (d : Port) → (found : IsInputOf ports name i) → get_or ports i d ≡ found.port
port_at ports name i d found = get_or_from_slice_get ports i found.port d found.at

pub all_at : {X : Type 0} (P : X → Type 0) (xs : List X) (i : ℕ) (x : X) → AllByRecursion P xs → slice_get xs i ≡ Some x → P x
all_at P [] i x all at = absurd (cc)
all_at P (y ∷ xs) zero x all at = subst P (let same : y ≡ x = cc in same) all.0
all_at P (y ∷ xs) (suc i) x all at = all_at P xs i x all.1 at

pub setting_gives : (ports : List Port) (of : StepKind) (set word name text : List ℕ) (i : ℕ) (port : Port) (r : Result Assigned Fault) → Some (name, text) ≡ named_part (parts_of word) → (found : IsInputOf ports name i) → port ≡ found.port → r ≡ set_input of set name text (Some (i, port)) → r ≡ setting_of ports of set word
setting_gives ports of set word name text i port r parts found port_is gives =
    gives ∙ ap (λ (p : Port). set_input of set name text (Some (i, p))) port_is ∙ sym (ap (set_input of set name text) found.found)
    ∙ ap (setting_of_parts ports of set word) parts

pub setting_fits : (ports : List Port) (of : StepKind) (name : List ℕ) (i : ℕ) (port : Port) (r : Result Setting BadWord) → (found : IsInputOf ports name i) → i < length ports → port ≡ found.port → IfOk r (λ s. s.port ≡ i) → IfOk r (λ s. s.value.width ≡ port.width) → IfOk r (λ s. class_fault of port.class port.width ≡ None) → IfOk r (IsFitting ports of)
setting_fits ports of name i port (Ok s) found there port_is place width allowed =
    let same : s.value.width ≡ found.port.width = width ∙ ap (λ (p : Port). p.width) port_is in
    let fits : s.value.word < 2 ^ s.value.width = s.value.fits in
    record {
      there = omega arith;
      settable = record {
        port = found.port;
        at = rw place found.at;
        input = found.input;
        class_fits = rw port_is at allowed;
        word_fits = subst (λ (w : ℕ). s.value.word < 2 ^ w) same fits;
      };
      width = same;
    }
setting_fits ports of name i port (Err bad) found there port_is place width allowed = tt
