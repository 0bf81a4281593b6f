-- Which modules are a design of a top, and why others are none.
use Rattle.std.specs.Prelude.{◌≡◌, ◌≤◌, ℕ, Bool, true, false, List, [], ◌∷◌, ◌++◌, length, drop, codes, Option, None, Some, Ok, Err, if◌then◌else◌}
use Rattle.std.specs.List.{list_any}
use Rattle.std.specs.Str.{bytes_eq}
use Rattle.sv_base.specs.declared.kind.Kind.TheVariants.{DuplicateName, UnknownName, Unsupported, TooMany}
use Rattle.sv_base.specs.declared.refusal.Refusal.{Refusal}
use Rattle.sv_ast.specs.declared.expression.Id.{Id}
use Rattle.sv_ast.specs.declared.module.Module.{Module}
use Rattle.const_eval.specs.Expressions.{refused_at}
use Rattle.net_ir.specs.declared.design.Spec.{Spec}
use Rattle.elaborate.specs.Items.{specialised}
use Rattle.plain_run.specs.Plain.{IsPlain}
use Rattle.sealer.specs.Supported.{is_supported}
use Rattle.sealer.specs.declared.modules.TheConstants.{MODULE_LIMIT}

-- whether a name is among these
abbrev pub is_declared : List (List ℕ) → Id → Bool
is_declared declared name = list_any (λ other. bytes_eq other name.name) declared

-- the first module whose name an earlier one has, where these names were seen until then
abbrev pub first_repeat : List (List ℕ) → List Module → Option Refusal
first_repeat earlier [] = None
first_repeat earlier (m ∷ modules) =
    if is_declared earlier m.name then Some (refused_at DuplicateName m.name) else first_repeat (earlier ++ m.name.name ∷ []) modules

-- whether a module has this name
abbrev pub has_module : List ℕ → List Module → Bool
has_module top modules = list_any (λ (m : Module). bytes_eq m.name.name top) modules

-- the refusal of more modules than the limit, at the name of the first beyond it
abbrev pub too_many_modules : Module → Refusal
too_many_modules m = record { kind = TooMany; place = m.name.place; name = codes "modules" }

-- the refusals that have no place: a top that isn't there, and a source whose form or design is not plain
abbrev pub unknown_top : List ℕ → Refusal
unknown_top top = record { kind = UnknownName; place = record { file = 0; line = 0 }; name = top }

abbrev pub not_plain : Refusal
not_plain = record { kind = Unsupported; place = record { file = 0; line = 0 }; name = codes "plain" }

-- the modules are few and have names of their own, the top that is asked for is among them, they are one module of the form that is
-- supported so far, and its specialisation is this design, which is plain
pub record IsLegal (top : List ℕ) (modules : List Module) (spec : Spec) : Type 0 where
  pub few : length modules ≤ MODULE_LIMIT
  pub distinct : first_repeat [] modules ≡ None
  pub present : has_module top modules ≡ true
  pub supported : is_supported modules ≡ true
  pub m : Module
  pub one : modules ≡ m ∷ []
  pub elaborated : specialised m ≡ Ok spec
  pub plain : IsPlain spec

-- why modules are no design of this top: the first reason, in this order
pub data IsIllegal (top : List ℕ) (modules : List Module) (refusal : Refusal) : Type 0 where
  TooManyModules : (m : Module) (more : List Module) (beyond : drop MODULE_LIMIT modules ≡ m ∷ more) (told : refusal ≡ too_many_modules m) → IsIllegal top modules refusal
  Repeated : (few : length modules ≤ MODULE_LIMIT) (repeated : first_repeat [] modules ≡ Some refusal) → IsIllegal top modules refusal
  NoTop : (few : length modules ≤ MODULE_LIMIT) (distinct : first_repeat [] modules ≡ None) (missing : has_module top modules ≡ false) (told : refusal ≡ unknown_top top) → IsIllegal top modules refusal
  NotSupported : (few : length modules ≤ MODULE_LIMIT) (distinct : first_repeat [] modules ≡ None) (present : has_module top modules ≡ true) (other : is_supported modules ≡ false) (told : refusal ≡ not_plain) → IsIllegal top modules refusal
  NoSpecialisation : (few : length modules ≤ MODULE_LIMIT) (distinct : first_repeat [] modules ≡ None) (present : has_module top modules ≡ true) (supported : is_supported modules ≡ true) (m : Module) (one : modules ≡ m ∷ []) (refused : specialised m ≡ Err refusal) → IsIllegal top modules refusal
  NotPlain : (few : length modules ≤ MODULE_LIMIT) (distinct : first_repeat [] modules ≡ None) (present : has_module top modules ≡ true) (supported : is_supported modules ≡ true) (m : Module) (one : modules ≡ m ∷ []) (spec : Spec) (elaborated : specialised m ≡ Ok spec) (not : IsPlain spec → ⊥) (told : refusal ≡ not_plain) → IsIllegal top modules refusal
