-- What a line asks for.
use Rattle.std.proofs.Common.{◌≡◌, ℕ, zero, suc, ◌-◌, false, ◌==◌, List, [], ◌∷◌, ◌++◌, length, take, get_or, map, reverse, refl, sym, ap, subst, ◌∙◌, arith, ◌<◌, Bool, true, ◌||◌, eqb, if◌then◌else◌, inl, inr, ◌⊎◌, Result, Ok, Err}
use Rattle.std.specs.List.{AllByRecursion, IsDistinct, list_any}
use Rattle.std.proofs.lemmas.Bool.Decides.{nat_tests}
use Rattle.std.proofs.lemmas.List.{reverse-append, length-reverse, length-map}
use Rattle.std.proofs.lemmas.Map.Steps.{length-le_from_distinct_below}
use Rattle.stimulus_reader.proofs.StimulusSettings.{any_reversed, any_set}
use Rattle.sv_base.specs.declared.face.Port.{Port}
use Rattle.sv_base.specs.Steps.{Setting as Assigned}
use Rattle.stimulus_reader.specs.declared.step.StepKind.{StepKind}
use Rattle.stimulus_reader.specs.declared.setting.Setting.{Setting}
use Rattle.stimulus_reader.specs.declared.setting.BadWord.{BadWord}
use Rattle.stimulus_reader.specs.Stimulus.{Fault, without_cr, words_of, setting_of, with_setting, after_setting, settings_of, verdict_of_settings, step_of, Step, Bad}
use Rattle.stimulus_reader.specs.code.LineReading.{setting_seen, settings_seen, ports_set, fault_seen, IsFitting, HasFront}

-- ---- the CR

pub cr_left : (n : ℕ) (xs : List ℕ) → length xs ≡ suc n → get_or xs n 0 ≡ 13 → take n xs ≡ without_cr xs
cr_left n [] long is = absurd (omega arith)
cr_left zero (x ∷ []) long is = rw is refl
cr_left zero (x ∷ y ∷ xs) long is = absurd (omega arith)
cr_left (suc n) (x ∷ []) long is = absurd (omega arith)
cr_left (suc n) (x ∷ y ∷ xs) long is = ap (λ (ys : List ℕ). x ∷ ys) (cr_left n (y ∷ xs) (omega arith) is)

no_cr : (x : ℕ) → (x ≡ 13 → ⊥) → x ∷ [] ≡ without_cr (x ∷ [])
no_cr x apart = let is : (x == 13) ≡ false = grind (arith, nat_tests) in rw is refl

pub cr_none : (n : ℕ) (xs : List ℕ) → length xs ≡ suc n → (get_or xs n 0 ≡ 13 → ⊥) → xs ≡ without_cr xs
cr_none n [] long is = absurd (omega arith)
cr_none zero (x ∷ []) long is = no_cr x is
cr_none zero (x ∷ y ∷ xs) long is = absurd (omega arith)
cr_none (suc n) (x ∷ []) long is = absurd (omega arith)
cr_none (suc n) (x ∷ y ∷ xs) long is = ap (λ (ys : List ℕ). x ∷ ys) (cr_none n (y ∷ xs) (omega arith) is)

pub not_empty : (xs : List ℕ) → (length xs == 0) ≡ false → length xs ≡ suc (length xs - 1)
not_empty [] some = cc
not_empty (x ∷ xs) some = omega arith

cr_one : (x : ℕ) → HasFront (x ∷ []) (without_cr (x ∷ []))
cr_one x =
    elim (x == 13) as (λ b. HasFront (x ∷ []) (if b then [] else x ∷ [])) [
      | true ↦ record { behind = x ∷ []; is = refl }
      | false ↦ record { behind = []; is = refl }
    ]

onto_front : (x : ℕ) (xs front : List ℕ) → HasFront xs front → HasFront (x ∷ xs) (x ∷ front)
onto_front x xs front f = record { behind = f.behind; is = ap (λ (ys : List ℕ). x ∷ ys) f.is }

-- without its CR a text is a front of it
pub cr_front : (xs : List ℕ) → HasFront xs (without_cr xs)
cr_front [] = record { behind = []; is = refl }
cr_front (x ∷ []) = cr_one x
cr_front (x ∷ y ∷ xs) = onto_front x (y ∷ xs) (without_cr (y ∷ xs)) (cr_front (y ∷ xs))

-- ---- settings before others

-- these settings in front of what else is set
abbrev pub with_all : List Assigned → Result (List Assigned) Fault → Result (List Assigned) Fault
with_all [] rest = rest
with_all (s ∷ settings) rest = with_setting s (with_all settings rest)

all_bad : (settings : List Assigned) (fault : Fault) → with_all settings (Err fault) ≡ Err fault
all_bad [] fault = refl
all_bad (s ∷ settings) fault = ap (with_setting s) (all_bad settings fault)

all_good : (settings : List Assigned) → with_all settings (Ok []) ≡ Ok settings
all_good [] = refl
all_good (s ∷ settings) = ap (with_setting s) (all_good settings)

all_more : (settings : List Assigned) (s : Assigned) (rest : Result (List Assigned) Fault) → with_all settings (with_setting s rest) ≡ with_all (settings ++ s ∷ []) rest
all_more [] s rest = refl
all_more (t ∷ settings) s rest = ap (with_setting t) (all_more settings s rest)

seen_more : (settings : List Setting) (s : Setting) → settings_seen (settings ++ s ∷ []) ≡ settings_seen settings ++ setting_seen s ∷ []
seen_more [] s = refl
seen_more (t ∷ settings) s = ap (λ (ts : List Assigned). setting_seen t ∷ ts) (seen_more settings s)

places_more : (settings : List Setting) (s : Setting) → map (λ (t : Setting). t.port) (settings ++ s ∷ []) ≡ map (λ (t : Setting). t.port) settings ++ s.port ∷ []
places_more [] s = refl
places_more (t ∷ settings) s = ap (λ (ts : List ℕ). t.port ∷ ts) (places_more settings s)

ports_more : (settings : List Setting) (s : Setting) → ports_set (settings ++ s ∷ []) ≡ s.port ∷ ports_set settings
ports_more settings s = ap reverse (places_more settings s) ∙ reverse-append (map (λ (t : Setting). t.port) settings) (s.port ∷ [])

pub all_more_fit : {X : Type 0} (P : X → Type 0) (xs : List X) (x : X) → AllByRecursion P xs → P x → AllByRecursion P (xs ++ x ∷ [])
all_more_fit P [] x all here = (here, tt)
all_more_fit P (y ∷ xs) x all here = (all.0, all_more_fit P xs x all.1 here)

-- ---- the loop over the words

-- so many settings were read, and the words that are left give the rest
abbrev pub ReadSoFar : List Port → StepKind → List Setting → List ℕ → List ℕ → Type 0
ReadSoFar ports of settings left text = with_all (settings_seen settings) (settings_of ports of (ports_set settings) (words_of left)) ≡ settings_of ports of [] (words_of text)

pub read_more : (ports : List Port) (of : StepKind) (settings given : List Setting) (s : Setting) (word rest left text : List ℕ) → words_of left ≡ word ∷ words_of rest → given ≡ settings → Ok (setting_seen s) ≡ setting_of ports of (ports_set given) word → ReadSoFar ports of settings left text → ReadSoFar ports of (settings ++ s ∷ []) rest text
read_more ports of settings given s word rest left text words given_is gives_given so_far =
    let gives : Ok (setting_seen s) ≡ setting_of ports of (ports_set settings) word = gives_given ∙ ap (λ (set : List Setting). setting_of ports of (ports_set set) word) given_is in
    let go : Assigned → Result (List Assigned) Fault = λ first. settings_of ports of (first.port ∷ ports_set settings) (words_of rest) in
    let one : settings_of ports of (ports_set settings) (words_of left) ≡ with_setting (setting_seen s) (settings_of ports of (s.port ∷ ports_set settings) (words_of rest)) =
    ap (settings_of ports of (ports_set settings)) words ∙ ap (λ (r : Result Assigned Fault). after_setting r go) (sym gives) in
    let shown : with_all (settings_seen (settings ++ s ∷ [])) (settings_of ports of (ports_set (settings ++ s ∷ [])) (words_of rest)) ≡ with_all (settings_seen settings ++ setting_seen s ∷ []) (settings_of ports of (s.port ∷ ports_set settings) (words_of rest)) =
    ap (λ (ss : List Assigned). with_all ss (settings_of ports of (ports_set (settings ++ s ∷ [])) (words_of rest))) (seen_more settings s)
    ∙ ap (λ (set : List ℕ). with_all (settings_seen settings ++ setting_seen s ∷ []) (settings_of ports of set (words_of rest))) (ports_more settings s) in
    shown ∙ sym (all_more (settings_seen settings) (setting_seen s) (settings_of ports of (s.port ∷ ports_set settings) (words_of rest)))
    ∙ ap (with_all (settings_seen settings)) (sym one) ∙ so_far

pub read_bad : (ports : List Port) (of : StepKind) (settings given : List Setting) (bad : BadWord) (word rest left text : List ℕ) → words_of left ≡ word ∷ words_of rest → given ≡ settings → Err (fault_seen bad) ≡ setting_of ports of (ports_set given) word → ReadSoFar ports of settings left text → Bad (fault_seen bad) ≡ verdict_of_settings of (settings_of ports of [] (words_of text))
read_bad ports of settings given bad word rest left text words given_is gives_given so_far =
    let gives : Err (fault_seen bad) ≡ setting_of ports of (ports_set settings) word = gives_given ∙ ap (λ (set : List Setting). setting_of ports of (ports_set set) word) given_is in
    let go : Assigned → Result (List Assigned) Fault = λ first. settings_of ports of (first.port ∷ ports_set settings) (words_of rest) in
    let one : settings_of ports of (ports_set settings) (words_of left) ≡ Err (fault_seen bad) =
    ap (settings_of ports of (ports_set settings)) words ∙ ap (λ (r : Result Assigned Fault). after_setting r go) (sym gives) in
    ap (verdict_of_settings of) (sym (all_bad (settings_seen settings) (fault_seen bad)) ∙ ap (with_all (settings_seen settings)) (sym one) ∙ so_far)

pub read_whole : (ports : List Port) (of : StepKind) (settings : List Setting) (left text : List ℕ) → words_of left ≡ [] → ReadSoFar ports of settings left text → Step (step_of of (settings_seen settings)) ≡ verdict_of_settings of (settings_of ports of [] (words_of text))
read_whole ports of settings left text words so_far =
    ap (verdict_of_settings of) (sym (all_good (settings_seen settings)) ∙ ap (λ (ws : List (List ℕ)). with_all (settings_seen settings) (settings_of ports of (ports_set settings) ws)) (sym words) ∙ so_far)

-- ---- room for the settings of a line

both_false : (a b : Bool) → (a || b) ≡ false → (a ≡ false) × (b ≡ false)
both_false true b e = absurd (cc)
both_false false b e = (refl, e)

none_is : (i : ℕ) (xs : List ℕ) → list_any (λ v. v == i) xs ≡ false → AllByRecursion (λ y. eqb i y ≡ false) xs
none_is i [] none = tt
none_is i (x ∷ xs) none =
    let both = both_false (x == i) (list_any (λ v. v == i) xs) none in
    let here : (x == i) ≡ false = both.0 in
    (grind (arith, nat_tests), none_is i xs both.1)

either : (a b : Bool) → (a || b) ≡ true → (a ≡ true) ⊎ (b ≡ true)
either true b e = inl refl
either false b e = inr e

below_all : (ports : List Port) (of : StepKind) (settings : List Setting) (q : ℕ) → AllByRecursion (IsFitting ports of) settings → list_any (eqb q) (map (λ (s : Setting). s.port) settings) ≡ true → q < length ports
below_all ports of [] q all is = absurd (cc)
below_all ports of (s ∷ settings) q all is =
    elim (either (eqb q s.port) (list_any (eqb q) (map (λ (s : Setting). s.port) settings)) is) [
      | inl here ↦ let same : q ≡ s.port = grind (arith, nat_tests) in let there = all.0.there in omega arith
      | inr later ↦ below_all ports of settings q all.1 later
    ]

below_some : (ports : List Port) (of : StepKind) (settings : List Setting) (s : Setting) → AllByRecursion (IsFitting ports of) settings → IsFitting ports of s → (q : ℕ) → list_any (eqb q) (s.port ∷ ports_set settings) ≡ true → q < length ports
below_some ports of settings s all here q is =
    below_all ports of (s ∷ settings) q (here, all) (ap (λ b. eqb q s.port || b) (sym (any_reversed (eqb q) (map (λ (t : Setting). t.port) settings))) ∙ is)

pub apart_none : IsDistinct eqb []
unfolding IsDistinct
apart_none = tt

pub set_apart : (settings : List Setting) (s : Setting) → IsDistinct eqb (ports_set settings) → list_any (λ other. other.port == s.port) settings ≡ false → IsDistinct eqb (s.port ∷ ports_set settings)
unfolding IsDistinct
set_apart settings s apart once = (none_is s.port (ports_set settings) (any_set s.port settings ∙ once), apart)

-- settings of different ports are fewer than the ports, where one more is to come
pub room_left : (ports : List Port) (of : StepKind) (settings : List Setting) (s : Setting) → AllByRecursion (IsFitting ports of) settings → IsFitting ports of s → IsDistinct eqb (ports_set settings) → list_any (λ other. other.port == s.port) settings ≡ false → length settings < length ports
room_left ports of settings s all here apart once =
    let few = length-le_from_distinct_below (s.port ∷ ports_set settings) (length ports) (set_apart settings s apart once) (below_some ports of settings s all here) in
    let turned = length-reverse (map (λ (t : Setting). t.port) settings) in
    let mapped = length-map settings (λ (t : Setting). t.port) in
    omega arith

pub apart_more : (settings : List Setting) (s : Setting) → IsDistinct eqb (ports_set settings) → list_any (λ other. other.port == s.port) settings ≡ false → IsDistinct eqb (ports_set (settings ++ s ∷ []))
apart_more settings s apart once = subst (IsDistinct eqb) (sym (ports_more settings s)) (set_apart settings s apart once)
