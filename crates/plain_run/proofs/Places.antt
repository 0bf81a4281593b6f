-- Words that are set at places, and the places of ports.
use Rattle.std.proofs.Common.{◌≡◌, ℕ, zero, suc, ◌<◌, ◌≤◌, ◌+◌, List, [], ◌∷◌, ◌++◌, length, map, take, drop, get_or, Bool, true, false, refl, sym, ◌∙◌, ap, subst, arith, Some}
use Rattle.std.specs.Prelude.{slice_get, slice_set, slice_index, if◌then◌else◌, ⊤}
use Rattle.std.specs.List.{AllByRecursion}
use Rattle.std.proofs.lemmas.List.{drop_more, length-set, length-map, get_or-map, set-get_or, get_or-set_same, get_or-set_other}
use Rattle.std.proofs.Math.Seq.{take-append_seam}
use Rattle.bit_ops.specs.declared.value.Bits.{Bits}
use Rattle.bit_ops.specs.Lists.{widths}
use Rattle.sv_base.specs.declared.face.Class.{Class}
use Rattle.sv_base.specs.declared.face.Port.{Port}
use Rattle.sv_base.specs.Classes.{level_word, words_of_class}
use Rattle.plain_run.specs.Places.{places_from, set_places}

-- the words at some places
abbrev pub at_places : List ℕ → List ℕ → List ℕ
at_places words places = map (slice_index words) places

-- levels as words of one bit
abbrev pub level_words : List Bool → List ℕ
level_words levels = map level_word levels

pub all_at : {X : Type 0} (P : X → Type 0) (xs : List X) (i : ℕ) (x : X) → AllByRecursion P xs → i < length xs → x ≡ get_or xs i x → P x
all_at P [] i x all within is = absurd (omega arith)
all_at P (y ∷ xs) zero x all within is = subst P (sym is) all.0
all_at P (y ∷ xs) (suc i) x all within is = all_at P xs i x all.1 (omega arith) is

pub all_at_place : (P : ℕ → Type 0) (xs : List ℕ) (i : ℕ) → AllByRecursion P xs → i < length xs → P (get_or xs i 0)
all_at_place P [] i all within = absurd (omega arith)
all_at_place P (y ∷ xs) zero all within = all.0
all_at_place P (y ∷ xs) (suc i) all within = all_at_place P xs i all.1 (omega arith)

pub all_from : {X : Type 0} (P Q : X → Type 0) → ((x : X) → P x → Q x) → (xs : List X) → AllByRecursion P xs → AllByRecursion Q xs
all_from P Q step [] all = tt
all_from P Q step (x ∷ xs) all = (step x all.0, all_from P Q step xs all.1)

pub split : {X : Type 0} (xs : List X) (i : ℕ) (x : X) → i < length xs → x ≡ get_or xs i x → drop i xs ≡ x ∷ drop (i + 1) xs
split xs i x within is = drop_more xs i x within ∙ ap (λ y. y ∷ drop (i + 1) xs) (sym is)

-- functions that agree on each item agree on the list
pub map_agree : {X Y : Type 0} (f g : X → Y) (xs : List X) → AllByRecursion (λ x. f x ≡ g x) xs → map f xs ≡ map g xs
map_agree f g [] all = refl
map_agree f g (x ∷ xs) all = λ i. all.0 i ∷ map_agree f g xs all.1 i

pub map-set : {X Y : Type 0} (f : X → Y) (xs : List X) (i : ℕ) (x : X) → map f (slice_set xs i x) ≡ slice_set (map f xs) i (f x)
map-set f [] i x = refl
map-set f (y ∷ xs) zero x = refl
map-set f (y ∷ xs) (suc i) x = ap (λ ys. f y ∷ ys) (map-set f xs i x)

-- what was written back over the whole of a list
pub written_whole : {X : Type 0} (n : ℕ) (old new : List X) → n ≡ length old → length new ≡ length old → take n (new ++ drop (length new) old) ≡ new
written_whole n old new count same = ap (λ (m : ℕ). take m (new ++ drop (length new) old)) (count ∙ sym same) ∙ take-append_seam new (drop (length new) old)

-- ---- the loop that sets

-- one word more
pub set_step : (places left more ws all : List ℕ) (k w : ℕ) → k < length places → left ≡ w ∷ more → set_places (drop k places) left ws ≡ all →
    set_places (drop (k + 1) places) more (slice_set ws (get_or places k 0) w) ≡ all
set_step places left more ws all k w within is so_far =
    sym (ap (λ xs. set_places xs (w ∷ more) ws) (drop_more places k 0 within)) ∙ sym (ap (λ ys. set_places (drop k places) ys ws) is) ∙ so_far

-- a value of the width that stands there changes no width
pub widths_stay : (values : List Bits) (old : List ℕ) (place : ℕ) (new : Bits) → widths values ≡ old → new.width ≡ slice_index old place →
    widths (slice_set values place new) ≡ old
widths_stay values old place new same width =
    map-set (λ (b : Bits). b.width) values place new
    ∙ ap (λ ws. slice_set ws place new.width) same
    ∙ ap (λ w. slice_set old place w) width
    ∙ set-get_or old place 0 ∙ refl

-- the width of a value is that of its place
pub given_width : (given : List Bits) (places old : List ℕ) (k : ℕ) (value : Bits) → k < length given → value ≡ get_or given k value →
    widths given ≡ map (slice_index old) places → value.width ≡ slice_index old (get_or places k 0)
given_width given places old k value within is same =
    let each : length given ≡ length places = sym (length-map given (λ b. b.width)) ∙ ap length same ∙ length-map places (slice_index old) in
    ap (λ (b : Bits). b.width) is
    ∙ sym (get_or-map (λ (b : Bits). b.width) given k value 0 within)
    ∙ ap (λ ws. get_or ws k 0) same
    ∙ get_or-map (slice_index old) places k 0 0 (omega (arith, each))

-- a level and the word of one bit that says it
pub level_is : (level : Bool) → (if level then 1 else 0) ≡ level_word level
level_is true = refl
level_is false = refl

pub level_step : (levels : List Bool) (k word : ℕ) → k < length levels → word ≡ level_word (get_or levels k false) →
    level_words (drop k levels) ≡ word ∷ level_words (drop (k + 1) levels)
level_step levels k word within is = ap level_words (drop_more levels k false within) ∙ ap (λ w. w ∷ level_words (drop (k + 1) levels)) (sym is)

-- ---- what is set

-- places that rise, from this one on
abbrev pub Rises : ℕ → List ℕ → Type 0
Rises low [] = ⊤
Rises low (p ∷ places) = (low ≤ p) × Rises (p + 1) places

pub length_set : (places given ws : List ℕ) → length (set_places places given ws) ≡ length ws
length_set [] given ws = refl
length_set (p ∷ places) [] ws = refl
length_set (p ∷ places) (w ∷ given) ws = length_set places given (slice_set ws p w) ∙ length-set ws p w

-- where no place is, the word is kept
pub word_kept : (places given ws : List ℕ) (x : ℕ) → AllByRecursion (λ p. p ≡ x → ⊥) places → slice_index (set_places places given ws) x ≡ slice_index ws x
word_kept [] given ws x none = refl
word_kept (p ∷ places) [] ws x none = refl
word_kept (p ∷ places) (w ∷ given) ws x none =
    word_kept places given (slice_set ws p w) x none.1 ∙ get_or-set_other ws p x w 0 (λ e. none.0 (sym e))

rise_past : (low x : ℕ) (places : List ℕ) → x < low → Rises low places → AllByRecursion (λ p. p ≡ x → ⊥) places
rise_past low x [] below rises = tt
rise_past low x (p ∷ places) below rises = ((λ e. absurd (omega arith)), rise_past (p + 1) x places (omega arith) rises.1)

-- each place takes its word
pub words_taken : (low : ℕ) (places given ws : List ℕ) → Rises low places → AllByRecursion (λ p. p < length ws) places → length given ≡ length places →
    at_places (set_places places given ws) places ≡ given
words_taken low [] [] ws rises within each = refl
words_taken low [] (w ∷ given) ws rises within each = absurd (omega arith)
words_taken low (p ∷ places) [] ws rises within each = absurd (omega arith)
words_taken low (p ∷ places) (w ∷ given) ws rises within each =
    let first = word_kept places given (slice_set ws p w) p (rise_past (p + 1) p places (omega arith) rises.1) ∙ get_or-set_same ws p w 0 within.0 in
    let longer = all_from (λ q. q < length ws) (λ q. q < length (slice_set ws p w)) (λ q less. omega (arith, length-set ws p w)) places within.1 in
    let rest = words_taken (p + 1) places given (slice_set ws p w) rises.1 longer (omega arith) in
    λ i. first i ∷ rest i

-- ---- the places of ports

rises_down : (n : ℕ) (places : List ℕ) → Rises (n + 1) places → Rises n places
rises_down n [] rises = tt
rises_down n (p ∷ places) rises = (omega (arith, rises.0), rises.1)

rises_if : (b : Bool) (n : ℕ) (places : List ℕ) → Rises (n + 1) places → Rises n (if b then n ∷ places else places)
rises_if true n places rises = (omega arith, rises)
rises_if false n places rises = rises_down n places rises

pub places_rise : (chosen : Class → Bool) (n : ℕ) (ports : List Port) → Rises n (places_from chosen n ports)
places_rise chosen n [] = tt
places_rise chosen n (p ∷ ports) = rises_if (chosen p.class) n (places_from chosen (n + 1) ports) (places_rise chosen (n + 1) ports)

all_if : (P : ℕ → Type 0) (b : Bool) (n : ℕ) (places : List ℕ) → P n → AllByRecursion P places → AllByRecursion P (if b then n ∷ places else places)
all_if P true n places here all = (here, all)
all_if P false n places here all = all

pub places_within : (chosen : Class → Bool) (n : ℕ) (ports : List Port) → AllByRecursion (λ p. p < n + length ports) (places_from chosen n ports)
places_within chosen n [] = tt
places_within chosen n (p ∷ ports) =
    all_if (λ q. q < n + length (p ∷ ports)) (chosen p.class) n (places_from chosen (n + 1) ports) (omega arith)
    (all_from (λ q. q < (n + 1) + length ports) (λ q. q < n + length (p ∷ ports)) (λ q less. omega arith) (places_from chosen (n + 1) ports)
    (places_within chosen (n + 1) ports))

pub all_below : (chosen : Class → Bool) (ports : List Port) (most : ℕ) → length ports ≤ most → AllByRecursion (λ p. p < most) (places_from chosen 0 ports)
all_below chosen ports most few = all_from (λ q. q < 0 + length ports) (λ q. q < most) (λ q less. omega arith) (places_from chosen 0 ports)
    (places_within chosen 0 ports)

pub place_if : (P : ℕ → Type 0) (chosen : Bool) (n : ℕ) (places : List ℕ) → (chosen ≡ true → P n) → AllByRecursion P places →
    AllByRecursion P (if chosen then n ∷ places else places)
place_if P true n places here all = (here refl, all)
place_if P false n places here all = all

-- ---- words of a class

class_if : (all : List ℕ) (n v : ℕ) (places words : List ℕ) (b : Bool) → slice_index all n ≡ v → at_places all places ≡ words →
    at_places all (if b then n ∷ places else places) ≡ (if b then v ∷ words else words)
class_if all n v places words true here rest = λ i. here i ∷ rest i
class_if all n v places words false here rest = rest

words_at : (chosen : Class → Bool) (all : List ℕ) (n : ℕ) (ports : List Port) (values : List ℕ) → length ports ≤ length values →
    ((k : ℕ) → k < length ports → slice_index all (n + k) ≡ slice_index values k)
    → at_places all (places_from chosen n ports) ≡ words_of_class chosen ports values
words_at chosen all n [] values long at = refl
words_at chosen all n (p ∷ ports) [] long at = absurd (omega arith)
words_at chosen all n (p ∷ ports) (v ∷ values) long at =
    let e : n ≡ n + 0 = omega arith in
    let rest : (k : ℕ) → k < length ports → slice_index all (n + 1 + k) ≡ slice_index values k =
    λ k within. let e : n + 1 + k ≡ n + suc k = omega arith in ap (λ m. slice_index all m) e ∙ at (suc k) (omega arith) in
    class_if all n v (places_from chosen (n + 1) ports) (words_of_class chosen ports values) (chosen p.class)
    (ap (λ m. slice_index all m) e ∙ at 0 (omega arith)) (words_at chosen all (n + 1) ports values (omega arith) rest)

-- the words at the places of the ports of some classes are the words of these classes
pub class_words : (chosen : Class → Bool) (ports : List Port) (ws : List ℕ) → length ports ≤ length ws →
    at_places ws (places_from chosen 0 ports) ≡ words_of_class chosen ports ws
class_words chosen ports ws long = words_at chosen ws 0 ports ws long (λ k within. let e : 0 + k ≡ k = omega arith in ap (slice_index ws) e)

-- there are as many as places
pub class_count : (chosen : Class → Bool) (ports : List Port) (ws : List ℕ) → length ports ≤ length ws →
    length (words_of_class chosen ports ws) ≡ length (places_from chosen 0 ports)
class_count chosen ports ws long = sym (ap length (class_words chosen ports ws long)) ∙ length-map (places_from chosen 0 ports) (slice_index ws)

-- where each port of some classes takes its word, these are the words of the classes
pub class_taken : (chosen : Class → Bool) (ports : List Port) (given old : List ℕ) → length ports ≤ length old →
    length given ≡ length (places_from chosen 0 ports) →
    words_of_class chosen ports (set_places (places_from chosen 0 ports) given old) ≡ given
class_taken chosen ports given old long each =
    let places = places_from chosen 0 ports in
    let same = length_set places given old in
    sym (class_words chosen ports (set_places places given old) (omega (arith, same, long)))
    ∙ words_taken 0 places given old (places_rise chosen 0 ports) (all_below chosen ports (length old) long) each

-- ---- words of another class

-- the words of some classes stay where the port of another is set
spared : (other : Class → Bool) (ports : List Port) (ws : List ℕ) (x word : ℕ) (p : Port) → slice_get ports x ≡ Some p → other p.class ≡ false →
    words_of_class other ports (slice_set ws x word) ≡ words_of_class other ports ws
spared other [] ws x word p at free = refl
spared other (q ∷ ports) [] x word p at free = refl
spared other (q ∷ ports) (w ∷ ws) zero word p at free =
    let same : q ≡ p = let e : Some q ≡ Some p = at in cc in
    let here : other q.class ≡ false = ap (λ (r : Port). other r.class) same ∙ free in
    ap (λ b. if b then word ∷ words_of_class other ports ws else words_of_class other ports ws) here
    ∙ sym (ap (λ b. if b then w ∷ words_of_class other ports ws else words_of_class other ports ws) here)
spared other (q ∷ ports) (w ∷ ws) (suc x) word p at free =
    ap (λ us. if other q.class then w ∷ us else us) (spared other ports ws x word p at free)

-- a port stands at place x that is not of these classes
record IsOther (other : Class → Bool) (ports : List Port) (x : ℕ) : Type 0 where
  pub port : Port
  pub at : slice_get ports x ≡ Some port
  pub free : other port.class ≡ false

spared_all : (other : Class → Bool) (ports : List Port) (places given ws : List ℕ) → AllByRecursion (IsOther other ports) places →
    words_of_class other ports (set_places places given ws) ≡ words_of_class other ports ws
spared_all other ports [] given ws others = refl
spared_all other ports (x ∷ places) [] ws others = refl
spared_all other ports (x ∷ places) (w ∷ given) ws others =
    spared_all other ports places given (slice_set ws x w) others.1 ∙ spared other ports ws x w others.0.port others.0.at others.0.free

places_other : (chosen other : Class → Bool) → ((c : Class) → chosen c ≡ true → other c ≡ false) → (all : List Port) (n : ℕ) (ports : List Port) →
    ((k : ℕ) → slice_get all (n + k) ≡ slice_get ports k) → AllByRecursion (IsOther other all) (places_from chosen n ports)
places_other chosen other apart all n [] at = tt
places_other chosen other apart all n (p ∷ ports) at =
    let e : n ≡ n + 0 = omega arith in
    let here : slice_get all n ≡ Some p = ap (slice_get all) e ∙ at 0 in
    let rest : (k : ℕ) → slice_get all (n + 1 + k) ≡ slice_get ports k = λ k. let f : n + 1 + k ≡ n + suc k = omega arith in ap (slice_get all) f ∙ at
    (suc k) in
    place_if (IsOther other all) (chosen p.class) n (places_from chosen (n + 1) ports) (λ is. record { port = p; at = here; free = apart p.class is })
    (places_other chosen other apart all (n + 1) ports rest)

-- the words of other classes stay
pub class_kept : (chosen other : Class → Bool) → ((c : Class) → chosen c ≡ true → other c ≡ false) → (ports : List Port) (given old : List ℕ) →
    words_of_class other ports (set_places (places_from chosen 0 ports) given old) ≡ words_of_class other ports old
class_kept chosen other apart ports given old =
    spared_all other ports (places_from chosen 0 ports) given old
    (places_other chosen other apart ports 0 ports (λ k. let e : 0 + k ≡ k = omega arith in ap (slice_get ports) e))
