-- The values of ports, and those of some classes among them.
use Rattle.std.proofs.Common.{◌≡◌, ℕ, zero, suc, ◌+◌, ◌<◌, ◌^◌, Bool, true, false, ◌==◌, List, [], ◌∷◌, ◌++◌, length, drop, get_or, map, slice_get, slice_set, refl, sym, ap, subst, ◌∙◌, arith, add-one, append_assoc, Some, drop-cons, if◌then◌else◌}
use Rattle.std.specs.List.{AllByRecursion}
use Rattle.std.proofs.lemmas.List.{get_or-map, map-append, map-set, length-map}
use Rattle.std.proofs.lemmas.Option.{get_or_from_slice_get, slice_get_within, slice_get-get_or}
use Rattle.std.proofs.Math.Seq.{map-set_same}
use Rattle.bit_ops.specs.declared.value.Bits.{Bits}
use Rattle.sv_base.specs.declared.face.Class.{Class}
use Rattle.sv_base.specs.declared.face.Class.TheVariants as class
use Rattle.sv_base.specs.declared.face.Port.{Port}
use Rattle.sv_base.specs.Steps.{set_all}
use Rattle.stimulus_reader.specs.Reading.{IsSettable}
use Rattle.sv_base.specs.Classes.{is_clock, level_word, words_of_class}
use Rattle.stimulus_reader.specs.declared.step.StepKind.{StepKind}
use Rattle.stimulus_reader.specs.code.LineReading.{Fits, IsFitting, settings_seen}
use Rattle.stimulus_reader.specs.declared.setting.Setting.{Setting}

-- ---- one port more

-- the words of the ports from this place on
words_here : (chosen : Class → Bool) (ports : List Port) (words : List ℕ) (i : ℕ) (d : Port) (e : ℕ) → i < length ports → i < length words → words_of_class chosen (drop i ports) (drop i words) ≡ (if chosen (get_or ports i d).class then get_or words i e ∷ words_of_class chosen (drop (suc i) ports) (drop (suc i) words) else words_of_class chosen (drop (suc i) ports) (drop (suc i) words))
words_here chosen [] words i d e inside there = absurd (omega arith)
words_here chosen (p ∷ ports) [] i d e inside there = absurd (omega arith)
words_here chosen (p ∷ ports) (w ∷ words) zero d e inside there = refl
words_here chosen (p ∷ ports) (w ∷ words) (suc i) d e inside there = words_here chosen ports words i d e (omega arith) (omega arith)

module _ {X : Type 0} (f : X → ℕ) (chosen : Class → Bool) (ports : List Port) (words whole : List ℕ) where
  -- so many ports were gone through, and those of the chosen classes have these items
  abbrev pub Gathered : List X → ℕ → Type 0
  Gathered items i = map f items ++ words_of_class chosen (drop i ports) (drop i words) ≡ whole

  pub gathered_in : (items : List X) (x : X) (i : ℕ) (d : Port) → i < length ports → i < length words → chosen (get_or ports i d).class ≡ true → f x ≡ get_or words i (f x) → Gathered items i → Gathered (items ++ x ∷ []) (i + 1)
  gathered_in items x i d inside there is x_is so_far =
      let rest : List ℕ = words_of_class chosen (drop (suc i) ports) (drop (suc i) words) in
      let here : words_of_class chosen (drop i ports) (drop i words) ≡ f x ∷ rest =
      words_here chosen ports words i d (f x) inside there ∙ ap (λ b. if b then get_or words i (f x) ∷ rest else rest) is ∙ ap (λ (w : ℕ). w ∷ rest) (sym x_is) in
      rw (add-one, map-append f items (x ∷ []), append_assoc) (ap (λ (ws : List ℕ). map f items ++ ws) (sym here) ∙ so_far)

  pub gathered_out : (items : List X) (i : ℕ) (d : Port) → i < length ports → i < length words → chosen (get_or ports i d).class ≡ false → Gathered items i → Gathered items (i + 1)
  gathered_out items i d inside there is so_far =
      let rest : List ℕ = words_of_class chosen (drop (suc i) ports) (drop (suc i) words) in
      let here : words_of_class chosen (drop i ports) (drop i words) ≡ rest =
      words_here chosen ports words i d 0 inside there ∙ ap (λ b. if b then get_or words i 0 ∷ rest else rest) is in
      rw add-one (ap (λ (ws : List ℕ). map f items ++ ws) (sym here) ∙ so_far)

-- how many words those of some classes are does not depend on the words
pub same_count : (chosen : Class → Bool) (ports : List Port) (xs ys : List ℕ) → length xs ≡ length ys → length (words_of_class chosen ports xs) ≡ length (words_of_class chosen ports ys)
same_count chosen [] xs ys same = refl
same_count chosen (p ∷ ports) [] [] same = refl
same_count chosen (p ∷ ports) [] (y ∷ ys) same = absurd (omega arith)
same_count chosen (p ∷ ports) (x ∷ xs) [] same = absurd (omega arith)
same_count chosen (p ∷ ports) (x ∷ xs) (y ∷ ys) same = by_test (chosen p.class) (same_count chosen ports xs ys (omega arith)) where
  by_test : (t : Bool) → length (words_of_class chosen ports xs) ≡ length (words_of_class chosen ports ys) → length (if t then x ∷ words_of_class chosen ports xs else words_of_class chosen ports xs) ≡ length (if t then y ∷ words_of_class chosen ports ys else words_of_class chosen ports ys)
  by_test true rest = ap suc rest
  by_test false rest = rest

-- what is read at a place, as a number
pub mapped_at : {X : Type 0} (f : X → ℕ) (xs : List X) (i : ℕ) (x : X) → i < length xs → x ≡ get_or xs i x → f x ≡ get_or (map f xs) i (f x)
mapped_at f xs i x inside is = ap f is ∙ sym (get_or-map f xs i x (f x) inside)

-- ---- levels

pub all_or : {X : Type 0} (P : X → Type 0) (xs : List X) (i : ℕ) (d : X) → AllByRecursion P xs → i < length xs → P (get_or xs i d)
all_or P [] i d all inside = absurd (omega arith)
all_or P (x ∷ xs) zero d all inside = all.0
all_or P (x ∷ xs) (suc i) d all inside = all_or P xs i d all.1 (omega arith)

the_clock : (c : Class) → is_clock c ≡ true → c ≡ class.Clock
the_clock class.Value e = absurd (cc)
the_clock class.Clock e = refl
the_clock class.Idle e = absurd (cc)
the_clock class.Output e = absurd (cc)

level_of : (w : ℕ) → w < 2 → level_word (w == 1) ≡ w
level_of zero small = refl
level_of (suc zero) small = refl
level_of (suc (suc w)) small = absurd (omega arith)

-- the value of a clock is its level
pub level_is : (ports : List Port) (values : List Bits) (i : ℕ) (d : Port) (v : Bits) → AllByRecursion (λ p. p.class ≡ class.Clock → p.width ≡ 1) ports → map (λ (w : Bits). w.width) values ≡ map (λ (p : Port). p.width) ports → i < length ports → i < length values → is_clock (get_or ports i d).class ≡ true → v ≡ get_or values i v → level_word (v.word == 1) ≡ v.word
level_is ports values i d v clocks fitting inside there is v_is =
    let one : (get_or ports i d).width ≡ 1 = all_or (λ p. p.class ≡ class.Clock → p.width ≡ 1) ports i d clocks inside (the_clock (get_or ports i d).class is) in
    let width : v.width ≡ 1 = mapped_at (λ (w : Bits). w.width) values i v there v_is ∙ ap (λ (ws : List ℕ). get_or ws i v.width) fitting ∙ get_or-map (λ (p : Port). p.width) ports i d v.width inside ∙ one in
    let fits : v.word < 2 ^ v.width = v.fits in
    level_of v.word (subst (λ (n : ℕ). v.word < 2 ^ n) width fits)

-- ---- a step

-- a setting that fits leaves the widths as they are
pub set_widths : (values : List Bits) (s : Setting) → Fits (map (λ (v : Bits). v.width) values) s → map (λ (v : Bits). v.width) (slice_set values s.port s.value) ≡ map (λ (v : Bits). v.width) values
set_widths values s fits =
    let within : s.port < length (map (λ (v : Bits). v.width) values) = slice_get_within (map (λ (v : Bits). v.width) values) s.port s.value.width fits in
    let inside : s.port < length values = omega (arith, length-map values (λ (v : Bits). v.width)) in
    map-set_same (λ (v : Bits). v.width) values s.port s.value s.value
    (sym (get_or_from_slice_get (map (λ (v : Bits). v.width) values) s.port s.value.width s.value.width fits) ∙ get_or-map (λ (v : Bits). v.width) values s.port s.value s.value.width inside)

-- one setting more is set
pub set_more : (settings : List Setting) (values : List Bits) (i : ℕ) (s : Setting) (whole : List ℕ) → i < length settings → s ≡ get_or settings i s → set_all (settings_seen (drop i settings)) (map (λ (v : Bits). v.word) values) ≡ whole → set_all (settings_seen (drop (i + 1) settings)) (map (λ (v : Bits). v.word) (slice_set values s.port s.value)) ≡ whole
set_more settings values i s whole inside is so_far =
    let words : List ℕ = map (λ (v : Bits). v.word) values in
    let one : drop i settings ≡ s ∷ drop (suc i) settings = drop-cons settings i s inside ∙ ap (λ (t : Setting). t ∷ drop (suc i) settings) (sym is) in
    let next : set_all (settings_seen (drop i settings)) words ≡ set_all (settings_seen (drop (suc i) settings)) (slice_set words s.port s.value.word) = ap (λ (ss : List Setting). set_all (settings_seen ss) words) one in
    let set : map (λ (v : Bits). v.word) (slice_set values s.port s.value) ≡ slice_set words s.port s.value.word = map-set (λ (v : Bits). v.word) values s.port s.value in
    rw (add-one, set) (sym next ∙ so_far)

setting_fits : (ports : List Port) (of : StepKind) (widths : List ℕ) (s : Setting) → widths ≡ map (λ (p : Port). p.width) ports → IsFitting ports of s → Fits widths s
setting_fits ports of widths s is fitting =
    let w : ℕ = s.value.width in
    let mapped : List ℕ = map (λ (p : Port). p.width) ports in
    let there : s.port < length ports = fitting.there in
    let inside : s.port < length mapped = omega (arith, length-map ports (λ (p : Port). p.width)) in
    let read : get_or mapped s.port w ≡ w = get_or-map (λ (p : Port). p.width) ports s.port fitting.settable.port w there ∙ ap (λ (p : Port). p.width) (get_or_from_slice_get ports s.port fitting.settable.port fitting.settable.port fitting.settable.at) ∙ sym fitting.width in
    ap (λ (ws : List ℕ). slice_get ws s.port) is ∙ slice_get-get_or mapped s.port w inside ∙ ap Some read

pub all_fit : (ports : List Port) (of : StepKind) (widths : List ℕ) (settings : List Setting) → widths ≡ map (λ (p : Port). p.width) ports → AllByRecursion (IsFitting ports of) settings → AllByRecursion (Fits widths) settings
all_fit ports of widths [] is all = tt
all_fit ports of widths (s ∷ settings) is all = (setting_fits ports of widths s is all.0, all_fit ports of widths settings is all.1)

pub all_settable : (ports : List Port) (of : StepKind) (settings : List Setting) → AllByRecursion (IsFitting ports of) settings → AllByRecursion (IsSettable ports of) (settings_seen settings)
all_settable ports of [] all = tt
all_settable ports of (s ∷ settings) all = (all.0.settable, all_settable ports of settings all.1)

-- each value has the width of its port, so there are as many
pub same_length : (values : List Bits) (ports : List Port) → map (λ (v : Bits). v.width) values ≡ map (λ (p : Port). p.width) ports → length values ≡ length ports
same_length values ports is = sym (length-map values (λ (v : Bits). v.width)) ∙ ap length is ∙ length-map ports (λ (p : Port). p.width)
