-- A source has one design for a top, or one refusal, and never both.
use Rattle.std.proofs.Common.{◌≡◌, ℕ, ◌≤◌, ◌<◌, List, [], ◌∷◌, length, drop, sym, ◌∙◌, ap, subst, arith, Option, None, Some, true, false, inl, inr, drop_of_length-le}
use Rattle.std.specs.Prelude.{◌⊎◌, Result, Ok, Err}
use Rattle.sv_base.specs.declared.refusal.Refusal.{Refusal}
use Rattle.sv_lexer.specs.declared.token.Token.{Token}
use Rattle.sv_lexer.specs.Cutting as lexer
use Rattle.sv_ast.specs.declared.module.Module.{Module}
use Rattle.module_parser.specs.Outcome as parser
use Rattle.net_ir.specs.declared.design.Spec.{Spec}
use Rattle.elaborate.specs.Items.{specialised}
use Rattle.plain_run.specs.Plain.{IsPlain}
use Rattle.sealer.specs.Supported.{is_supported}
use Rattle.sealer.specs.Design.{first_repeat, has_module, too_many_modules, unknown_top, not_plain, IsLegal, IsIllegal, TooManyModules, Repeated, NoTop, NotSupported, NoSpecialisation, NotPlain}
use Rattle.sealer.specs.declared.modules.TheConstants.{MODULE_LIMIT}
use Rattle.sealer.specs.declared.front.TheConstants.{SOURCE_LIMIT}
use Rattle.sealer.specs.Source.{source_too_long, HasDesign, IsRefused, TooLong, NoTokens, NoModules, NoDesign}
use Rattle.sealer.specs.code.Designing.{IsFlaw}

-- the laws of tokens and of files
pub record Laws : Type 0 where
  pub lists : (file : ℕ) (text : List ℕ) (a b : List Token) → lexer.IsTokens file text a → lexer.IsTokens file text b → a ≡ b
  pub refusals : (file : ℕ) (text : List ℕ) (a b : Refusal) → lexer.IsRefused file text a → lexer.IsRefused file text b → a ≡ b
  pub either : (file : ℕ) (text : List ℕ) (tokens : List Token) (refusal : Refusal) → lexer.IsTokens file text tokens → lexer.IsRefused file text refusal → ⊥
  pub files : (tokens : List Token) (a b : List Module) → parser.IsRead tokens a → parser.IsRead tokens b → a ≡ b
  pub faults : (tokens : List Token) (a b : Refusal) → parser.IsRefused tokens a → parser.IsRefused tokens b → a ≡ b
  pub alone : (tokens : List Token) (modules : List Module) (refusal : Refusal) → parser.IsRead tokens modules → parser.IsRefused tokens refusal → ⊥

-- ---- what is illegal

some_is_one : {X : Type 0} (o : Option X) (x y : X) → o ≡ Some x → o ≡ Some y → x ≡ y
some_is_one o x y first second = let both : Some x ≡ Some y = sym first ∙ second in cc

not_none : {X : Type 0} (o : Option X) (x : X) → o ≡ Some x → o ≡ None → ⊥
not_none o x first second = let both : Some x ≡ None = sym first ∙ second in absurd (cc)

-- what a call gives is one value, or one refusal
ok_is_one : {X : Type 0} (o : Result X Refusal) (x y : X) → o ≡ Ok x → o ≡ Ok y → x ≡ y
ok_is_one {X = X} o x y first second =
    let one : Result X Refusal = Ok x in
    let other : Result X Refusal = Ok y in
    let both : one ≡ other = sym first ∙ second in
    cc

err_is_one : {X : Type 0} (o : Result X Refusal) (r q : Refusal) → o ≡ Err r → o ≡ Err q → r ≡ q
err_is_one {X = X} o r q first second =
    let one : Result X Refusal = Err r in
    let other : Result X Refusal = Err q in
    let both : one ≡ other = sym first ∙ second in
    cc

not_both : {X : Type 0} (o : Result X Refusal) (x : X) (r : Refusal) → o ≡ Ok x → o ≡ Err r → ⊥
not_both {X = X} o x r first second =
    let one : Result X Refusal = Ok x in
    let other : Result X Refusal = Err r in
    let both : one ≡ other = sym first ∙ second in
    absurd (cc)

-- a list of one module is of one
one_is_one : (modules : List Module) (m n : Module) → modules ≡ m ∷ [] → modules ≡ n ∷ [] → m ≡ n
one_is_one modules m n first second = let both : m ∷ [] ≡ n ∷ [] = sym first ∙ second in cc

-- no module stands beyond the limit where they are few
none_beyond : (modules : List Module) (m : Module) (more : List Module) → drop MODULE_LIMIT modules ≡ m ∷ more → length modules ≤ MODULE_LIMIT → ⊥
none_beyond modules m more beyond few = let none : [] ≡ m ∷ more = sym (drop_of_length-le modules few) ∙ beyond in absurd (cc)

-- the reasons as steps, of which each is taken where the one before it is no reason
abbrev Formed : List Module → Refusal → Type 0
Formed modules r =
    ((is_supported modules ≡ false) × (r ≡ not_plain)) ⊎ ((is_supported modules ≡ true) × (m : Module) × (modules ≡ m ∷ []) × IsFlaw m r)

abbrev Topped : List ℕ → List Module → Refusal → Type 0
Topped top modules r = ((has_module top modules ≡ false) × (r ≡ unknown_top top)) ⊎ ((has_module top modules ≡ true) × Formed modules r)

abbrev Named : List ℕ → List Module → Refusal → Type 0
Named top modules r = (first_repeat [] modules ≡ Some r) ⊎ ((first_repeat [] modules ≡ None) × Topped top modules r)

abbrev Beyond : List Module → Refusal → Type 0
Beyond modules r = (m : Module) × (more : List Module) × (drop MODULE_LIMIT modules ≡ m ∷ more) × (r ≡ too_many_modules m)

abbrev Counted : List ℕ → List Module → Refusal → Type 0
Counted top modules r = Beyond modules r ⊎ ((length modules ≤ MODULE_LIMIT) × Named top modules r)

counted : (top : List ℕ) (modules : List Module) (r : Refusal) → IsIllegal top modules r → Counted top modules r
counted top modules r (TooManyModules m more beyond told) = inl (m, more, beyond, told)
counted top modules r (Repeated few repeated) = inr (few, inl repeated)
counted top modules r (NoTop few distinct missing told) = inr (few, inr (distinct, inl (missing, told)))
counted top modules r (NotSupported few distinct present other told) = inr (few, inr (distinct, inr (present, inl (other, told))))
counted top modules r (NoSpecialisation few distinct present supported m one refused) =
    inr (few, inr (distinct, inr (present, inr (supported, m, one, inl refused))))
counted top modules r (NotPlain few distinct present supported m one spec elaborated not told) =
    inr (few, inr (distinct, inr (present, inr (supported, m, one, inr (spec, elaborated, not, told)))))

flaw_once : (m : Module) (r q : Refusal) → IsFlaw m r → IsFlaw m q → r ≡ q
flaw_once m r q (inl a) (inl b) = err_is_one (specialised m) r q a b
flaw_once m r q (inl a) (inr b) = absurd (not_both (specialised m) b.0 r b.1 a)
flaw_once m r q (inr a) (inl b) = absurd (not_both (specialised m) a.0 q a.1 b)
flaw_once m r q (inr a) (inr b) = a.3 ∙ sym b.3

formed_once : (modules : List Module) (r q : Refusal) → Formed modules r → Formed modules q → r ≡ q
formed_once modules r q (inl a) (inl b) = a.1 ∙ sym b.1
formed_once modules r q (inl a) (inr b) = absurd (let clash : false ≡ true = sym a.0 ∙ b.0 in absurd (cc))
formed_once modules r q (inr a) (inl b) = absurd (let clash : false ≡ true = sym b.0 ∙ a.0 in absurd (cc))
formed_once modules r q (inr (supported, m, one, flaw)) (inr (also, n, other, bad)) =
    flaw_once m r q flaw (subst (λ k. IsFlaw k q) (one_is_one modules n m other one) bad)

topped_once : (top : List ℕ) (modules : List Module) (r q : Refusal) → Topped top modules r → Topped top modules q → r ≡ q
topped_once top modules r q (inl a) (inl b) = a.1 ∙ sym b.1
topped_once top modules r q (inl a) (inr b) = absurd (let clash : false ≡ true = sym a.0 ∙ b.0 in absurd (cc))
topped_once top modules r q (inr a) (inl b) = absurd (let clash : false ≡ true = sym b.0 ∙ a.0 in absurd (cc))
topped_once top modules r q (inr a) (inr b) = formed_once modules r q a.1 b.1

named_once : (top : List ℕ) (modules : List Module) (r q : Refusal) → Named top modules r → Named top modules q → r ≡ q
named_once top modules r q (inl a) (inl b) = some_is_one (first_repeat [] modules) r q a b
named_once top modules r q (inl a) (inr b) = absurd (not_none (first_repeat [] modules) r a b.0)
named_once top modules r q (inr a) (inl b) = absurd (not_none (first_repeat [] modules) q b a.0)
named_once top modules r q (inr a) (inr b) = topped_once top modules r q a.1 b.1

beyond_once : (modules : List Module) (r q : Refusal) → Beyond modules r → Beyond modules q → r ≡ q
beyond_once modules r q (m, more, beyond, told) (n, others, there, said) =
    let both : m ∷ more ≡ n ∷ others = sym beyond ∙ there in
    let same : m ≡ n = cc in
    told ∙ ap too_many_modules same ∙ sym said

counted_once : (top : List ℕ) (modules : List Module) (r q : Refusal) → Counted top modules r → Counted top modules q → r ≡ q
counted_once top modules r q (inl a) (inl b) = beyond_once modules r q a b
counted_once top modules r q (inl a) (inr b) = absurd (none_beyond modules a.0 a.1 a.2 b.0)
counted_once top modules r q (inr a) (inl b) = absurd (none_beyond modules b.0 b.1 b.2 a.0)
counted_once top modules r q (inr a) (inr b) = named_once top modules r q a.1 b.1

illegal_once : (top : List ℕ) (modules : List Module) (r q : Refusal) → IsIllegal top modules r → IsIllegal top modules q → r ≡ q
illegal_once top modules r q a b = counted_once top modules r q (counted top modules r a) (counted top modules q b)

-- a module with a plain design has no flaw
sound : (m : Module) (spec : Spec) (r : Refusal) → specialised m ≡ Ok spec → IsPlain spec → IsFlaw m r → ⊥
sound m spec r elaborated plain (inl refused) = not_both (specialised m) spec r elaborated refused
sound m spec r elaborated plain (inr (other, also, not, told)) = not (subst IsPlain (ok_is_one (specialised m) spec other elaborated also) plain)

legal_sound : (top : List ℕ) (modules : List Module) (spec : Spec) (m : Module) (r : Refusal) → IsLegal top modules spec → modules ≡ m ∷ [] → IsFlaw m r → ⊥
legal_sound top modules spec m r legal one flaw =
    sound legal.m spec r legal.elaborated legal.plain (subst (λ k. IsFlaw k r) (one_is_one modules m legal.m one legal.one) flaw)

legal_apart : (top : List ℕ) (modules : List Module) (spec : Spec) (r : Refusal) → IsLegal top modules spec → IsIllegal top modules r → ⊥
legal_apart top modules spec r legal (TooManyModules n more beyond told) = none_beyond modules n more beyond legal.few
legal_apart top modules spec r legal (Repeated few repeated) = not_none (first_repeat [] modules) r repeated legal.distinct
legal_apart top modules spec r legal (NoTop few distinct missing told) = let clash : true ≡ false = sym legal.present ∙ missing in absurd (cc)
legal_apart top modules spec r legal (NotSupported few distinct present other told) = let clash : true ≡ false = sym legal.supported ∙ other in absurd (cc)
legal_apart top modules spec r legal (NoSpecialisation few distinct present supported m one refused) = legal_sound top modules spec m r legal one (inl refused)
legal_apart top modules spec r legal (NotPlain few distinct present supported m one other elaborated not told) =
    legal_sound top modules spec m r legal one (inr (other, elaborated, not, told))

-- ---- what a source is

legal_once : (top : List ℕ) (modules : List Module) (first second : Spec) → IsLegal top modules first → IsLegal top modules second → first ≡ second
legal_once top modules first second a b =
    let same : b.m ≡ a.m = one_is_one modules b.m a.m b.one a.one in
    ok_is_one (specialised a.m) first second a.elaborated (subst (λ m. specialised m ≡ Ok second) same b.elaborated)

pub designs_once : Laws → (top bytes : List ℕ) (first second : Spec) → HasDesign top bytes first → HasDesign top bytes second → first ≡ second
designs_once laws top bytes first second a b =
    let tokens : b.tokens ≡ a.tokens = laws.lists 1 bytes b.tokens a.tokens b.lexed a.lexed in
    let modules : b.modules ≡ a.modules = laws.files a.tokens b.modules a.modules (subst (λ ts. parser.IsRead ts b.modules) tokens b.read) a.read in
    legal_once top a.modules first second a.legal (subst (λ ms. IsLegal top ms second) modules b.legal)

-- the reasons that speak of the tokens, where the tokens are these
abbrev Untold : List ℕ → List Token → Refusal → Type 0
Untold top tokens r = parser.IsRefused tokens r ⊎ ((modules : List Module) × parser.IsRead tokens modules × IsIllegal top modules r)

abbrev Unlexed : List ℕ → List ℕ → Refusal → Type 0
Unlexed top bytes r = lexer.IsRefused 1 bytes r ⊎ ((tokens : List Token) × lexer.IsTokens 1 bytes tokens × Untold top tokens r)

abbrev Unread : List ℕ → List ℕ → Refusal → Type 0
Unread top bytes r = ((SOURCE_LIMIT < length bytes) × (r ≡ source_too_long)) ⊎ ((length bytes ≤ SOURCE_LIMIT) × Unlexed top bytes r)

unread : (top bytes : List ℕ) (r : Refusal) → IsRefused top bytes r → Unread top bytes r
unread top bytes r (TooLong long told) = inl (long, told)
unread top bytes r (NoTokens short refused) = inr (short, inl refused)
unread top bytes r (NoModules short tokens lexed refused) = inr (short, inr (tokens, lexed, inl refused))
unread top bytes r (NoDesign short tokens lexed modules read illegal) = inr (short, inr (tokens, lexed, inr (modules, read, illegal)))

untold_once : Laws → (top : List ℕ) (tokens : List Token) (r q : Refusal) → Untold top tokens r → Untold top tokens q → r ≡ q
untold_once laws top tokens r q (inl a) (inl b) = laws.faults tokens r q a b
untold_once laws top tokens r q (inl a) (inr b) = absurd (laws.alone tokens b.0 r b.1 a)
untold_once laws top tokens r q (inr a) (inl b) = absurd (laws.alone tokens a.0 q a.1 b)
untold_once laws top tokens r q (inr a) (inr b) =
    illegal_once top a.0 r q a.2 (subst (λ ms. IsIllegal top ms q) (laws.files tokens b.0 a.0 b.1 a.1) b.2)

unlexed_once : Laws → (top bytes : List ℕ) (r q : Refusal) → Unlexed top bytes r → Unlexed top bytes q → r ≡ q
unlexed_once laws top bytes r q (inl a) (inl b) = laws.refusals 1 bytes r q a b
unlexed_once laws top bytes r q (inl a) (inr b) = absurd (laws.either 1 bytes b.0 r b.1 a)
unlexed_once laws top bytes r q (inr a) (inl b) = absurd (laws.either 1 bytes a.0 q a.1 b)
unlexed_once laws top bytes r q (inr a) (inr b) =
    untold_once laws top a.0 r q a.2 (subst (λ ts. Untold top ts q) (laws.lists 1 bytes b.0 a.0 b.1 a.1) b.2)

unread_once : Laws → (top bytes : List ℕ) (r q : Refusal) → Unread top bytes r → Unread top bytes q → r ≡ q
unread_once laws top bytes r q (inl a) (inl b) = a.1 ∙ sym b.1
unread_once laws top bytes r q (inl a) (inr b) = absurd (omega (arith, a.0, b.0))
unread_once laws top bytes r q (inr a) (inl b) = absurd (omega (arith, a.0, b.0))
unread_once laws top bytes r q (inr a) (inr b) = unlexed_once laws top bytes r q a.1 b.1

pub refusals_once : Laws → (top bytes : List ℕ) (first second : Refusal) → IsRefused top bytes first → IsRefused top bytes second → first ≡ second
refusals_once laws top bytes r q a b = unread_once laws top bytes r q (unread top bytes r a) (unread top bytes q b)

pub apart : Laws → (top bytes : List ℕ) (spec : Spec) (r : Refusal) → HasDesign top bytes spec → IsRefused top bytes r → ⊥
apart laws top bytes spec r source (TooLong long told) = omega (arith, long, source.short)
apart laws top bytes spec r source (NoTokens short refused) = laws.either 1 bytes source.tokens r source.lexed refused
apart laws top bytes spec r source (NoModules short tokens lexed refused) =
    let same : tokens ≡ source.tokens = laws.lists 1 bytes tokens source.tokens lexed source.lexed in
    laws.alone source.tokens source.modules r source.read (subst (λ ts. parser.IsRefused ts r) same refused)
apart laws top bytes spec r source (NoDesign short tokens lexed modules read illegal) =
    let same : tokens ≡ source.tokens = laws.lists 1 bytes tokens source.tokens lexed source.lexed in
    let files : modules ≡ source.modules = laws.files source.tokens modules source.modules (subst (λ ts. parser.IsRead ts modules) same read) source.read in
    legal_apart top source.modules spec r source.legal (subst (λ ms. IsIllegal top ms r) files illegal)
