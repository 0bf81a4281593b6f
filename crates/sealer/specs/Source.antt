-- Which bytes are the source of a design, and why others are of none.
use Rattle.std.specs.Prelude.{◌≡◌, ℕ, ◌<◌, ◌≤◌, List, length, codes}
use Rattle.sv_base.specs.declared.kind.Kind.TheVariants.{TooMany}
use Rattle.sv_base.specs.declared.refusal.Refusal.{Refusal}
use Rattle.net_ir.specs.declared.design.Spec.{Spec}
use Rattle.sv_lexer.specs.declared.token.Token.{Token}
use Rattle.sv_lexer.specs.Cutting as lexer
use Rattle.sv_ast.specs.declared.module.Module.{Module}
use Rattle.module_parser.specs.Outcome as parser
use Rattle.sealer.specs.declared.front.TheConstants.{SOURCE_LIMIT}
use Rattle.sealer.specs.Design.{IsLegal, IsIllegal}

-- the refusal of a source above its limit
abbrev pub source_too_long : Refusal
source_too_long = record { kind = TooMany; place = record { file = 1; line = 1 }; name = codes "file" }

-- the bytes of the source are tokens, these are the modules of a file, and they are this design of this top
pub record HasDesign (top bytes : List ℕ) (spec : Spec) : Type 0 where
  pub short : length bytes ≤ SOURCE_LIMIT
  pub tokens : List Token
  pub lexed : lexer.IsTokens 1 bytes tokens
  pub modules : List Module
  pub read : parser.IsRead tokens modules
  pub legal : IsLegal top modules spec

-- why they are the source of none: they are too many, they have no tokens, those are no file, or its modules are no design of this top
pub data IsRefused (top bytes : List ℕ) (refusal : Refusal) : Type 0 where
  TooLong : (long : SOURCE_LIMIT < length bytes) (told : refusal ≡ source_too_long) → IsRefused top bytes refusal
  NoTokens : (short : length bytes ≤ SOURCE_LIMIT) (refused : lexer.IsRefused 1 bytes refusal) → IsRefused top bytes refusal
  NoModules : (short : length bytes ≤ SOURCE_LIMIT) (tokens : List Token) (lexed : lexer.IsTokens 1 bytes tokens) (refused : parser.IsRefused tokens refusal) → IsRefused top bytes refusal
  NoDesign : (short : length bytes ≤ SOURCE_LIMIT) (tokens : List Token) (lexed : lexer.IsTokens 1 bytes tokens) (modules : List Module) (read : parser.IsRead tokens modules) (illegal : IsIllegal top modules refusal) → IsRefused top bytes refusal
