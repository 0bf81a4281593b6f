-- What holds of a rule of the grammar, and of a parser that reads it. A rule that leads back to itself has one rule for
-- each depth, so all of this speaks of a rule for each depth; a rule that doesn't is the same for all.
use Rattle.std.proofs.Common.{◌≡◌, ◌≢◌, ◌⊎◌, ◌+◌, ◌≤◌, ℕ, Bool, true, List, [], ◌∷◌, ◌++◌, Option, Ok, Err}
use Rattle.sv_base.specs.declared.refusal.Refusal.{Refusal}
use Rattle.sv_lexer.specs.declared.token.Token.{Token}
use Rattle.sv_base.specs.declared.fault.Fault.TheVariants.{Refused, NoMemory}
use Rattle.expr_parser.specs.Nesting.{greatest_nesting}
use Rattle.expr_parser.specs.Outcome.{refusal_at, nesting_refusal}
use Rattle.expr_parser.specs.Input.{Input, Outcome, Parser, front_of, past_marks}
use Rattle.module_parser.specs.Rule.{Piece, Rule, written, AreMarked}

-- a rule for each depth
abbrev pub Family : Type 0 → Type 1
Family A = ℕ → Rule A

-- at all great depths
abbrev pub Settled : {A : Type 0} → Family A → Rule A
Settled us tree text next = (least : ℕ) × ((k : ℕ) → least ≤ k → us k tree text next)

-- which tokens may stand behind all that a rule reads, without being part of it
abbrev pub Stop : Type 0
Stop = Option Token → Bool

abbrev pub first_of : List Token → Option Token
first_of ts = front_of (past_marks ts)

-- what the rule reads at the front of these tokens
pub record At {A : Type 0} (r : Rule A) (stream : List Token) (tree : A) (text : List Piece) : Type 0 where
  pub behind : List Token
  pub is : stream ≡ written text ++ behind
  pub reads : r tree text (first_of behind)

-- ---- of the rules alone

-- two rules read the same at the front of the same tokens
abbrev pub Same : {A : Type 0} → Rule A → Rule A → Type 0
Same {A} r s = (stream : List Token) (a b : A) (xs ys : List Piece) → At r stream a xs → At s stream b ys → (a ≡ b) × (xs ≡ ys)

-- marks are marks and tokens are none
abbrev pub IsClean : {A : Type 0} → Rule A → Type 0
IsClean {A} r = (a : A) (xs : List Piece) (n : Option Token) → r a xs n → AreMarked xs

-- behind what was read may stand any token that stops it
abbrev pub IsCalm : {A : Type 0} → Stop → Rule A → Type 0
IsCalm {A} stop r = (a : A) (xs : List Piece) (n v : Option Token) → r a xs n → stop v ≡ true → r a xs v

-- where two texts are written alike up to a piece of each, both pieces stand at one depth
abbrev pub SameDepth : {A : Type 0} → Rule A → Rule A → Type 0
SameDepth {A} r s = (a b : A) (us us' vs vs' : List Piece) (u v : Piece) (behind behind' : List Token)
    → r a (us ++ u ∷ us') (first_of behind) → s b (vs ++ v ∷ vs') (first_of behind') → written (us ++ u ∷ []) ≡ written (vs ++ v ∷ []) → u.depth ≡ v.depth

pub record LawAt {A : Type 0} (stop : Stop) (r s : Rule A) : Type 0 where
  pub clean : IsClean r
  pub clean_too : IsClean s
  pub calm : IsCalm stop r
  pub same : Same r s
  pub depth : SameDepth r s

abbrev pub Law : {A : Type 0} → Stop → Family A → Type 0
Law stop us = (n k : ℕ) → LawAt stop (us n) (us k)

-- what the rule reads has a token
abbrev pub NeverEmpty : {A : Type 0} → Rule A → Type 0
NeverEmpty {A} r = (a : A) (n : Option Token) → r a [] n → ⊥

-- something that the rule reads
pub record Spare {A : Type 0} (stop : Stop) (us : Family A) : Type 0 where
  pub tree : A
  pub text : List Piece
  pub marked : AreMarked text
  pub least : ℕ
  pub reads : (k : ℕ) → least ≤ k → (v : Option Token) → stop v ≡ true → us k tree text v

-- ---- of a parser

-- nowhere nested too deep, where so many are open around it
abbrev pub Fits : ℕ → List Piece → Type 0
Fits depth [] = Unit {0}
Fits depth (p ∷ ps) = (depth + p.depth ≤ greatest_nesting) × Fits depth ps

-- what was read from here to there
pub record Good {A : Type 0} (us : Family A) (i : Input) (tree : A) (j : Input) : Type 0 where
  pub text : List Piece
  pub reads : Settled us tree text (first_of j.rest)
  pub rest_is : i.rest ≡ written text ++ j.rest
  pub nested_is : j.nested ≡ i.nested
  pub last_is : j.last ≡ i.last
  pub fits : Fits i.nested text

-- the rule reads something that begins with this
pub record Opens {A : Type 0} (stop : Stop) (us : Family A) (seen : List Piece) : Type 0 where
  pub tree : A
  pub more : List Piece
  pub marked : AreMarked (seen ++ more)
  pub least : ℕ
  pub reads : (k : ℕ) → least ≤ k → (v : Option Token) → stop v ≡ true → us k tree (seen ++ more) v

-- the rule reads nothing of tokens that go on like this one, or end here
abbrev pub Nothing : {A : Type 0} → Family A → List Piece → List Token → Type 0
Nothing {A} us seen rest =
    (k : ℕ) (behind : List Token) → first_of behind ≡ first_of rest → (tree : A) (text : List Piece) → At (us k) (written seen ++ behind) tree text → ⊥

-- so far something was begun, and the next token, or the end, does not go on with it
pub record Stuck {A : Type 0} (stop : Stop) (us : Family A) (i : Input) (r : Refusal) : Type 0 where
  pub seen : List Piece
  pub rest : List Token
  pub rest_is : i.rest ≡ written seen ++ rest
  pub fits : Fits i.nested seen
  pub opens : seen ≢ [] → Opens stop us seen
  pub none : Nothing us seen rest
  pub refused : r ≡ refusal_at i.last (past_marks rest)

-- so far something was begun, and the next token goes on with it, but nests too deep
pub record Deep {A : Type 0} (stop : Stop) (us : Family A) (i : Input) (r : Refusal) : Type 0 where
  pub seen : List Piece
  pub deep : Piece
  pub rest : List Token
  pub rest_is : i.rest ≡ written (seen ++ deep ∷ []) ++ rest
  pub fits : Fits i.nested seen
  pub opens : Opens stop us (seen ++ deep ∷ [])
  pub reached : i.nested + deep.depth ≡ greatest_nesting + 1
  pub refused : r ≡ nesting_refusal deep.token

abbrev pub Judged : {A : Type 0} → Stop → Family A → Input → Outcome A → Type 0
Judged stop us i (Ok p) = Good us i p.0 p.1
Judged stop us i (Err (Refused r)) = Stuck stop us i r ⊎ Deep stop us i r
Judged stop us i (Err NoMemory) = ⊥

-- The parser reads what the rule says, where at least so many are open before it.
pub record Fact {A : Type 0} (floor : ℕ) (stop : Stop) (us : Family A) (p : Parser A) : Type 0 where
  pub law : Law stop us
  pub spare : Spare stop us
  pub judged : (i : Input) → floor ≤ i.nested → i.nested ≤ greatest_nesting → Judged stop us i (p i)
