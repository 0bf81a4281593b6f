-- What is read of tokens that are spelled is an expression that can be written.
use Rattle.std.proofs.Common.{ℕ, Bool, true, false, List, [], ◌∷◌, ◌++◌, sym, if◌then◌else◌}
use Rattle.std.specs.List.{All}
use Rattle.std.proofs.lemmas.List.Elements.{All-nil, All-cons, All-head, All-tail, All-drop, All-same}
use Rattle.sv_lexer.specs.declared.token.Token.{Token}
use Rattle.sv_ast.specs.declared.expression.Expr.{Expr}
use Rattle.expr_parser.specs.Spelling.{is_mark}
use Rattle.expr_parser.specs.Outcome.{grammar_tokens, IsRead}
use Rattle.expr_parser.specs.Spelled.{IsSpelling, AreSpelled, IsWritten}

front_all : (P : Token → Type 0) (a b : List Token) → All P (a ++ b) → All P a
front_all P [] b h = All-nil P
front_all P (t ∷ a) b h = All-cons P t a (All-head P t (a ++ b) h) (front_all P a b (All-tail P t (a ++ b) h))

kept_by : (P : Token → Type 0) (c : Bool) (t : Token) (ts : List Token) → P t → All P ts → All P (if c then ts else t ∷ ts)
kept_by P true t ts one all = all
kept_by P false t ts one all = All-cons P t ts one all

grammar_all : (P : Token → Type 0) (ts : List Token) → All P ts → All P (grammar_tokens ts)
grammar_all P [] h = All-nil P
grammar_all P (t ∷ ts) h = kept_by P (is_mark t.kind) t (grammar_tokens ts) (All-head P t ts h) (grammar_all P ts (All-tail P t ts h))

pub written_lem : (tokens : List Token) (at depth : ℕ) (tree : Expr) (place : ℕ) → IsRead tokens at depth tree place → AreSpelled tokens → IsWritten tree
written_lem tokens at depth tree place r spelled =
    let P : Token → Type 0 = λ t. IsSpelling t.kind t.text in
    record {
      tokens = grammar_tokens r.front;
      spelled = grammar_all P r.front (front_all P r.front r.rest (All-same P _ _ (sym r.stands.0) (All-drop P at tokens spelled)));
      reads = record { phrase = r.phrase; in_grammar = r.in_grammar; tokens_are = r.tokens_are; tree_is = r.tree_is };
    }
