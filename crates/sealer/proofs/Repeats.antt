-- The walk through the names of modules ends at the first that an earlier one has.
use Rattle.std.proofs.Common.{◌≡◌, ℕ, ◌+◌, ◌<◌, ◌≤◌, suc, Bool, true, false, List, [], ◌∷◌, ◌++◌, length, drop, get_or, refl, sym, ◌∙◌, ap, add-one, drop_of_length-le, Option, None, Some}
use Rattle.std.specs.Prelude.{◌||◌, take, map, is_some, if◌then◌else◌}
use Rattle.std.specs.List.{list_any}
use Rattle.std.specs.Str.{bytes_eq}
use Rattle.std.proofs.Math.Seq.{take-suc}
use Rattle.std.proofs.lemmas.List.{map-append}
use Rattle.std.proofs.lemmas.List.Folds.{list_any-append}
use Rattle.sv_base.specs.declared.kind.Kind.TheVariants.{DuplicateName}
use Rattle.sv_base.specs.declared.refusal.Refusal.{Refusal}
use Rattle.sv_ast.specs.declared.module.Module.{Module}
use Rattle.const_eval.specs.declared.env.Bound.{Bound}
use Rattle.const_eval.specs.declared.env.Env.{Env}
use Rattle.const_eval.specs.Env.{bound_of, Rebinds}
use Rattle.const_eval.specs.Expressions.{refused_at}
use Rattle.sealer.specs.Design.{is_declared, first_repeat}
use Rattle.sealer.proofs.Walking.{left_more}

-- the names that are visible are these
abbrev pub AreVisible : Env → List (List ℕ) → Type 0
AreVisible names seen = (name : List ℕ) → is_some (bound_of names name) ≡ list_any (λ other. bytes_eq other name) seen

-- the names of the first so many modules
abbrev pub names_until : ℕ → List Module → List (List ℕ)
names_until i modules = map (λ (m : Module). m.name.name) (take i modules)

-- before a module these names are visible, and the rest decides what all do
abbrev pub IsUntil : Env → ℕ → List Module → Type 0
IsUntil names i modules =
    AreVisible names (names_until i modules) × (first_repeat (names_until i modules) (drop i modules) ≡ first_repeat [] modules)

pub none_seen : (names : Env) (modules : List Module) → ((name : List ℕ) → bound_of names name ≡ None) → IsUntil names 0 modules
none_seen names modules empty = ((λ name. ap is_some (empty name)), refl)

-- ---- one name more

or_true : (b : Bool) → b || true ≡ true
or_true true = refl
or_true false = refl

or_false : (b : Bool) → b || false ≡ b
or_false true = refl
or_false false = refl

some_if : (same : Bool) (bound : Bound) (before : Option Bound) (seen : Bool) → is_some before ≡ seen → is_some (if same then Some bound else before) ≡ (seen || (same || false))
some_if true bound before seen is = sym (or_true seen)
some_if false bound before seen is = is ∙ sym (or_false seen)

visible_more : (old new : Env) (name : List ℕ) (bound : Bound) (seen : List (List ℕ)) → AreVisible old seen → Rebinds old name (Some bound) new → AreVisible new (seen ++ name ∷ [])
visible_more old new name bound seen are rebinds = λ other.
    ap is_some (rebinds other)
    ∙ some_if (bytes_eq name other) bound (bound_of old other) (list_any (λ n. bytes_eq n other) seen) (are other)
    ∙ sym (list_any-append (λ n. bytes_eq n other) seen (name ∷ []))

until_more : (modules : List Module) (i : ℕ) (m : Module) → i < length modules → m ≡ get_or modules i m → names_until (i + 1) modules ≡ names_until i modules ++ m.name.name ∷ []
until_more modules i m within is =
    ap (λ n. names_until n modules) (add-one i)
    ∙ ap (map (λ (k : Module). k.name.name)) (take-suc modules i m within ∙ ap (λ k. take i modules ++ k ∷ []) (sym is))
    ∙ map-append (λ (k : Module). k.name.name) (take i modules) (m ∷ [])

-- ---- a module

-- what the modules from one on do
turn_is : (modules : List Module) (i : ℕ) (m : Module) (seen : List (List ℕ)) (taken : Bool) → i < length modules → m ≡ get_or modules i m → is_declared seen m.name ≡ taken →
    first_repeat seen (drop i modules) ≡ (if taken then Some (refused_at DuplicateName m.name) else first_repeat (seen ++ m.name.name ∷ []) (drop (i + 1) modules))
turn_is modules i m seen taken within is here =
    ap (first_repeat seen) (left_more modules i m within is)
    ∙ ap (λ (b : Bool). if b then Some (refused_at DuplicateName m.name) else first_repeat (seen ++ m.name.name ∷ []) (drop (i + 1) modules)) here

-- its name is new
pub name_new : (names new : Env) (modules : List Module) (i : ℕ) (m : Module) (bound : Bound) (before : Option Bound) → i < length modules → m ≡ get_or modules i m → before ≡ bound_of names m.name.name → is_some before ≡ false →
    Rebinds names m.name.name (Some bound) new → IsUntil names i modules → IsUntil new (i + 1) modules
name_new names new modules i m bound before within is was fresh rebinds (are, so_far) =
    let seen : List (List ℕ) = names_until i modules in
    let more : names_until (i + 1) modules ≡ seen ++ m.name.name ∷ [] = until_more modules i m within is in
    let here : is_declared seen m.name ≡ false = sym (are m.name.name) ∙ ap is_some (sym was) ∙ fresh in (
      (λ name. visible_more names new m.name.name bound seen are rebinds name ∙ ap (list_any (λ other. bytes_eq other name)) (sym more)),
      ap (λ ns. first_repeat ns (drop (i + 1) modules)) more ∙ sym (turn_is modules i m seen false within is here) ∙ so_far,
    )

-- an earlier one has it
pub name_again : (names : Env) (modules : List Module) (i : ℕ) (m : Module) (before : Option Bound) → i < length modules → m ≡ get_or modules i m → before ≡ bound_of names m.name.name → is_some before ≡ true →
    IsUntil names i modules → first_repeat [] modules ≡ Some (refused_at DuplicateName m.name)
name_again names modules i m before within is was taken (are, so_far) =
    let seen : List (List ℕ) = names_until i modules in
    let here : is_declared seen m.name ≡ true = sym (are m.name.name) ∙ ap is_some (sym was) ∙ taken in
    sym so_far ∙ turn_is modules i m seen true within is here

-- none is left
pub none_again : (names : Env) (modules : List Module) (i : ℕ) → length modules ≤ i → IsUntil names i modules → first_repeat [] modules ≡ None
none_again names modules i long (are, so_far) = sym so_far ∙ ap (first_repeat (names_until i modules)) (drop_of_length-le modules long)
