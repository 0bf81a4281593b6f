-- The bytes of a source: why they are refused, and the design that they have.
use Rattle.std.proofs.Common.{◌≡◌, ℕ, ◌+◌, ◌<◌, ◌≤◌, true, false, List, [], ◌∷◌, length, drop, get_or, sym, ap, None, Ok, Err, inl, inr}
use Rattle.std.specs.Prelude.{map, Result, IfOk, IfErr}
use Rattle.std.specs.List.{IsDistinct}
use Rattle.std.specs.Str.{bytes_eq}
use Rattle.sv_base.specs.declared.face.Port.{Port}
use Rattle.sv_base.specs.declared.refusal.Refusal.{Refusal}
use Rattle.sv_base.specs.declared.fault.Fault.{Fault}
use Rattle.sv_base.specs.declared.fault.Fault.TheVariants.{Refused, NoMemory}
use Rattle.sv_base.specs.Faults.{IfRefused}
use Rattle.sv_lexer.specs.declared.token.Token.{Token}
use Rattle.sv_lexer.specs.Cutting as lexer
use Rattle.sv_ast.specs.declared.module.Module.{Module}
use Rattle.module_parser.specs.Outcome as parser
use Rattle.net_ir.specs.declared.design.Spec.{Spec}
use Rattle.net_ir.specs.Face.{ports_of}
use Rattle.elaborate.specs.Items.{specialised}
use Rattle.const_eval.specs.code.Agreeing.{Agrees}
use Rattle.plain_run.specs.Plain.{IsPlain}
use Rattle.sealer.specs.Supported.{is_supported, is_supported_module}
use Rattle.sealer.specs.Design.{first_repeat, has_module, too_many_modules, not_plain, IsLegal, IsIllegal, TooManyModules, NotSupported, NoSpecialisation, NotPlain}
use Rattle.sealer.specs.declared.front.TheConstants.{SOURCE_LIMIT}
use Rattle.sealer.specs.declared.modules.TheConstants.{MODULE_LIMIT}
use Rattle.sealer.specs.Source.{HasDesign, IsRefused, NoTokens, NoModules, NoDesign}
use Rattle.sealer.specs.code.Designing.{IsFlaw}
use Rattle.sealer.proofs.Walking.{left_more}

-- ---- the modules of a source

-- the refusals of the lexer and of the parser are refusals of the source
pub lexer_refuses : (top bytes : List ℕ) (fault : Fault) → length bytes ≤ SOURCE_LIMIT → IfRefused (lexer.IsRefused 1 bytes) fault → IfRefused (IsRefused top bytes) fault
lexer_refuses top bytes (Refused refusal) short refuses = NoTokens short refuses
lexer_refuses top bytes NoMemory short refuses = tt

pub parser_refuses : (top bytes : List ℕ) (tokens : List Token) (fault : Fault) → length bytes ≤ SOURCE_LIMIT → lexer.IsTokens 1 bytes tokens → IfRefused (parser.IsRefused tokens) fault → IfRefused (IsRefused top bytes) fault
parser_refuses top bytes tokens (Refused refusal) short are refuses = NoModules short tokens are refuses
parser_refuses top bytes tokens NoMemory short are refuses = tt

-- what the modules of a source are, the source is
pub designed : (top bytes : List ℕ) (tokens : List Token) (modules : List Module) (answer : Result Spec Fault) → length bytes ≤ SOURCE_LIMIT → lexer.IsTokens 1 bytes tokens → parser.IsRead tokens modules → IfOk answer (IsLegal top modules) → IfOk answer (HasDesign top bytes)
designed top bytes tokens modules (Ok spec) short lexes reads legal = record { short = short; tokens = tokens; lexed = lexes; modules = modules; read = reads; legal = legal }
designed top bytes tokens modules (Err fault) short lexes reads legal = tt

pub undesigned : (top bytes : List ℕ) (tokens : List Token) (modules : List Module) (answer : Result Spec Fault) → length bytes ≤ SOURCE_LIMIT → lexer.IsTokens 1 bytes tokens → parser.IsRead tokens modules → IfErr answer (IfRefused (IsIllegal top modules)) → IfErr answer (IfRefused (IsRefused top bytes))
undesigned top bytes tokens modules (Ok spec) short lexes reads illegal = tt
undesigned top bytes tokens modules (Err (Refused refusal)) short lexes reads illegal = NoDesign short tokens lexes modules reads illegal
undesigned top bytes tokens modules (Err NoMemory) short lexes reads illegal = tt

-- more modules than the limit are refused at the first beyond it
pub beyond_limit : (top : List ℕ) (modules : List Module) (m : Module) (refusal : Refusal) → MODULE_LIMIT < length modules → m ≡ get_or modules MODULE_LIMIT m → refusal ≡ too_many_modules m → IsIllegal top modules refusal
beyond_limit top modules m refusal within is told = TooManyModules m (drop (MODULE_LIMIT + 1) modules) (left_more modules MODULE_LIMIT m within is) told

-- ---- the specialisation of a module

abbrev Same : Spec → Spec → Type 0
Same found spec = found ≡ spec

pub specialised_so : (m : Module) (spec : Spec) → Agrees Same (Ok spec) (specialised m) → specialised m ≡ Ok spec
specialised_so m spec agrees = by_result (specialised m) agrees where
  by_result : (o : Result Spec Refusal) → Agrees Same (Ok spec) o → o ≡ Ok spec
  by_result (Ok other) same = ap Ok (sym same)
  by_result (Err refusal) same = absurd same

-- ---- the one module

-- what is supported is one module
pub is_one : (modules : List Module) (m : Module) → is_supported modules ≡ true → m ≡ get_or modules 0 m → modules ≡ m ∷ []
is_one [] m supported is = absurd (cc)
is_one (n ∷ []) m supported is = ap (λ k. k ∷ []) (sym is)
is_one (n ∷ k ∷ more) m supported is = absurd (cc)

pub legal_module : (top : List ℕ) (modules : List Module) (m : Module) (answer : Result Spec Fault) → length modules ≤ MODULE_LIMIT → first_repeat [] modules ≡ None → has_module top modules ≡ true → is_supported modules ≡ true → modules ≡ m ∷ []
    → IfOk answer (λ spec. specialised m ≡ Ok spec) → IfOk answer IsPlain → IfOk answer (IsLegal top modules)
legal_module top modules m (Ok spec) few distinct present supported one elaborated plain =
    record { few = few; distinct = distinct; present = present; supported = supported; m = m; one = one; elaborated = elaborated; plain = plain }
legal_module top modules m (Err fault) few distinct present supported one elaborated plain = tt

flaw_is : (top : List ℕ) (modules : List Module) (m : Module) (refusal : Refusal) → length modules ≤ MODULE_LIMIT → first_repeat [] modules ≡ None → has_module top modules ≡ true → is_supported modules ≡ true → modules ≡ m ∷ [] → IsFlaw m refusal → IsIllegal top modules refusal
flaw_is top modules m refusal few distinct present supported one (inl refused) = NoSpecialisation few distinct present supported m one refused
flaw_is top modules m refusal few distinct present supported one (inr (spec, elaborated, not, told)) = NotPlain few distinct present supported m one spec elaborated not told

pub illegal_module : (top : List ℕ) (modules : List Module) (m : Module) (answer : Result Spec Fault) → length modules ≤ MODULE_LIMIT → first_repeat [] modules ≡ None → has_module top modules ≡ true → is_supported modules ≡ true → modules ≡ m ∷ []
    → IfErr answer (IfRefused (IsFlaw m)) → IfErr answer (IfRefused (IsIllegal top modules))
illegal_module top modules m (Ok spec) few distinct present supported one flaw = tt
illegal_module top modules m (Err (Refused refusal)) few distinct present supported one flaw = flaw_is top modules m refusal few distinct present supported one flaw
illegal_module top modules m (Err NoMemory) few distinct present supported one flaw = tt

-- ---- what a design has

pub design_plain : (top bytes : List ℕ) (spec : Spec) → HasDesign top bytes spec → IsPlain spec
design_plain top bytes spec has = has.legal.plain

pub plain_answer : (top bytes : List ℕ) (answer : Result Spec Fault) → IfOk answer (HasDesign top bytes) → IfOk answer IsPlain
plain_answer top bytes (Ok spec) has = has.legal.plain
plain_answer top bytes (Err fault) has = tt

-- no two ports of a specialisation have one name
abbrev pub HavePorts : Type 0
HavePorts = (m : Module) (spec : Spec) → specialised m ≡ Ok spec → IsDistinct bytes_eq (map (λ (p : Port). p.name) (ports_of spec))

pub names_answer : HavePorts → (top bytes : List ℕ) (answer : Result Spec Fault) → IfOk answer (HasDesign top bytes) →
    IfOk answer (λ spec. IsDistinct bytes_eq (map (λ (p : Port). p.name) (ports_of spec)))
names_answer ports top bytes (Ok spec) has = ports has.legal.m spec has.legal.elaborated
names_answer ports top bytes (Err fault) has = tt
