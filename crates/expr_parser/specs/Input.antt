-- What a parser reads from, and the steps that every rule of the grammar is made of.
use Rattle.std.specs.Prelude.{◌≡◌, ◌≢◌, ℕ, ◌+◌, Bool, false, if◌then◌else◌, nat_lt, List, [], ◌∷◌, length, Option, Some, None, Result, Ok, Err}
use Rattle.sv_base.specs.declared.refusal.Place.{Place}
use Rattle.sv_base.specs.declared.refusal.Refusal.{Refusal}
use Rattle.sv_lexer.specs.declared.token.Token.{Token}
use Rattle.sv_ast.specs.declared.expression.Id.{Id}
use Rattle.sv_base.specs.declared.fault.Fault.{Fault}
use Rattle.sv_base.specs.declared.fault.Fault.TheVariants.{Refused, NoMemory}
use Rattle.expr_parser.specs.Spelling.{is_mark, is_this}
use Rattle.expr_parser.specs.Grammar.{id_of}
use Rattle.expr_parser.specs.Nesting.{greatest_nesting}
use Rattle.expr_parser.specs.Outcome.{refusal_at, nesting_refusal}

-- the tokens after the last that was read, the open nesting there, and the place of the last token of the list
pub record Input : Type 0 where
  pub rest : List Token
  pub nested : ℕ
  pub last : Place

-- the list from its first token that is no mark
abbrev pub past_marks : List Token → List Token
past_marks [] = []
past_marks (t ∷ ts) = if is_mark t.kind then past_marks ts else t ∷ ts

-- ---- the next token

abbrev pub front_of : List Token → Option Token
front_of [] = None
front_of (t ∷ ts) = Some t

abbrev pub behind : List Token → List Token
behind [] = []
behind (t ∷ ts) = ts

unfoldable pub ahead : Input → List Token
ahead i = past_marks i.rest

-- the next token of the grammar
unfoldable pub next : Input → Option Token
next i = front_of (ahead i)

unfoldable pub after : Input → Input
after i = record i { rest = behind (ahead i) }

abbrev pub is_some_this : List ℕ → Option Token → Bool
is_some_this text None = false
is_some_this text (Some t) = is_this text t

-- whether this sign comes next
unfoldable pub sees : List ℕ → Input → Bool
sees text i = is_some_this text (next i)

-- ---- parsers

abbrev pub Outcome : Type 0 → Type 0
Outcome A = Result (A × Input) Fault

abbrev pub Parser : Type 0 → Type 0
Parser A = Input → Outcome A

abbrev pub and_then : {A B : Type 0} → Outcome A → (A → Parser B) → Outcome B
and_then (Ok p) f = f p.0 p.1
and_then (Err e) f = Err e

infixl 10 ◌>>=◌
abbrev pub ◌>>=◌ : {A B : Type 0} → Parser A → (A → Parser B) → Parser B
p >>= f = λ i. and_then (p i) f

infixl 10 ◌>>◌
abbrev pub ◌>>◌ : {A B : Type 0} → Parser A → Parser B → Parser B
p >> q = p >>= (λ _. q)

abbrev pub pure : {A : Type 0} → A → Parser A
pure a = λ i. Ok (a, i)

infixr 11 ◌<$>◌
abbrev pub ◌<$>◌ : {A B : Type 0} → (A → B) → Parser A → Parser B
f <$> p = p >>= (λ x. pure (f x))

-- why the next token does not fit
unfoldable pub refusal : Input → Fault
refusal i = Refused (refusal_at i.last (ahead i))

abbrev pub refuse : {A : Type 0} → Parser A
refuse = λ i. Err (refusal i)

abbrev pub peek : Parser (Option Token)
peek = λ i. Ok (next i, i)

abbrev pub id_from : Option Token → Parser Id
id_from None = refuse
id_from (Some t) = λ i. Ok (id_of t, after i)

-- the next token, whatever it is
unfoldable pub take_id : Parser Id
take_id = λ i. id_from (next i) i

-- goes on behind the next token, if there is one
abbrev pub skip : Parser (Unit {0})
skip = λ i. Ok (tt, after i)

-- takes this sign, if it comes next
unfoldable pub expect : List ℕ → Parser (Unit {0})
expect text = λ i. if sees text i then Ok (tt, after i) else refuse i

abbrev pub deep_refusal : Place → List Token → Refusal
deep_refusal last [] = refusal_at last []
deep_refusal last (t ∷ ts) = nesting_refusal t

-- that the next token is nested too deep
unfoldable pub too_deep : Input → Fault
too_deep i = Refused (deep_refusal i.last (ahead i))

-- one more is open, from the next token on
unfoldable pub rise : Parser (Unit {0})
rise = λ i. if nat_lt i.nested greatest_nesting then Ok (tt, record i { nested = i.nested + 1 }) else Err (too_deep i)

-- the open nesting, to go back to
abbrev pub enter : Parser ℕ
enter = λ i. Ok (i.nested, i)

abbrev pub leave : ℕ → Parser (Unit {0})
leave outer = λ i. Ok (tt, record i { nested = outer })

-- how many tokens are left
unfoldable pub turns : Input → ℕ
turns i = length i.rest

-- ---- what a function ensures that makes a fault: this one, unless memory ran out

abbrev pub IsFault : Fault → Fault → Type 0
IsFault fault wanted = fault ≢ NoMemory → fault ≡ wanted

-- ---- what a function that parses ensures: the parser's outcome, unless memory ran out

abbrev pub Gives : {A : Type 0} → Outcome A → Result A Fault → Input → Type 0
Gives outcome (Ok a) new = outcome ≡ Ok (a, new)
Gives outcome (Err e) new = e ≢ NoMemory → outcome ≡ Err e
