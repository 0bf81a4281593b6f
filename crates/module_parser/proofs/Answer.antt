-- What reading a file gives is what the definitions say.
use Rattle.std.proofs.Common.{◌≡◌, ◌≢◌, ◌∙◌, inl, inr, false, List, [], ◌∷◌, ◌++◌, Option, Some, None, Ok, Err, refl, sym, ap, subst, arith, append_assoc, append-nil}
use Rattle.sv_base.specs.declared.refusal.Refusal.{Refusal}
use Rattle.sv_lexer.specs.declared.token.Token.{Token}
use Rattle.sv_ast.specs.declared.module.Module.{Module}
use Rattle.sv_base.specs.Faults.{IfRefused}
use Rattle.sv_base.specs.declared.fault.Fault.{Fault}
use Rattle.sv_base.specs.declared.fault.Fault.TheVariants.{Refused, NoMemory}
use Rattle.expr_parser.specs.Spelled.{AreSpelled}
use Rattle.expr_parser.specs.Outcome.{grammar_tokens, last_place}
use Rattle.expr_parser.specs.Input.{Input, Outcome, front_of, past_marks}
use Rattle.module_parser.specs.Rule.{Piece, written, meets, many_behind}
use Rattle.module_parser.specs.Words.{is_any}
use Rattle.module_parser.specs.Grammar as grammar
use Rattle.module_parser.specs.Grammar.{module_of}
use Rattle.module_parser.specs.Reading as reading
use Rattle.module_parser.specs.Outcome.{IsBegun, IsShallow, IsRead, ComesNext, IsStuck, IsTooDeep, IsRefused, AreWritten}
use Rattle.module_parser.proofs.Rules.{first_of, At, Fits, Good, Opens, Stuck, Deep, Judged}
use Rattle.module_parser.proofs.Streams.{past_marks-token}
use Rattle.module_parser.proofs.Grouping.{first_of-grammar, refusal_at-front}
use Rattle.module_parser.proofs.Expressions.{Exact}
use Rattle.module_parser.proofs.Modules.{at_end}
use Rattle.module_parser.proofs.Files.{file_fact}

-- ---- the end of a file

any_none : (n : Option Token) → meets is_any n ≡ false → n ≡ None
any_none None h = refl
any_none (Some t) h = absurd cc

modules_end : (found modules : List Module) (text : List Piece) (n : Option Token) → many_behind is_any (λ _. module_of) found modules text n → n ≡ None
modules_end found [] text n h = any_none n h.1
modules_end found (m ∷ modules) text n h = modules_end (found ++ m ∷ []) modules h.back n h.goes_on

-- a file goes on while any token comes
pub file_ends : (modules : List Module) (text : List Piece) (n : Option Token) → grammar.file modules text n → n ≡ None
file_ends modules text n h = modules_end [] modules text n h

front_none : (ts : List Token) → front_of ts ≡ None → ts ≡ []
front_none [] h = refl
front_none (t ∷ ts) h = absurd cc

-- where no token of the grammar comes, there is none
pub no_tokens : (rest : List Token) → first_of rest ≡ None → grammar_tokens rest ≡ []
no_tokens rest h = front_none (grammar_tokens rest) (first_of-grammar rest ∙ h)

pub marks_end : (marks : List Token) → grammar_tokens marks ≡ [] → first_of marks ≡ None
marks_end marks h = sym (first_of-grammar marks) ∙ ap front_of h

-- a file at the front of these tokens
pub at_file : (tokens : List Token) (modules : List Module) (text : List Piece) (marks : List Token) → tokens ≡ written text ++ marks → grammar_tokens marks ≡ []
    → grammar.file modules text None → At grammar.file tokens modules text
at_file tokens modules text marks is none h =
    let P : Option Token → Type 0 = λ n. grammar.file modules text n in
    record { behind = marks; is = is; reads = subst P (sym (marks_end marks none)) h }

-- ---- what is read

-- all tokens, with none open before them
abbrev pub start : List Token → Input
start tokens = record { rest = tokens; nested = 0; last = last_place tokens }

fits_shallow : (text : List Piece) → Fits 0 text → IsShallow text
fits_shallow [] h = tt
fits_shallow (p ∷ ps) h = let here = h.0 in (omega (arith, here), fits_shallow ps h.1)

judged_as : Exact → (tokens : List Token) (o : Outcome (List Module)) → reading.file (start tokens) ≡ o → Judged at_end (λ _. grammar.file) (start tokens) o
judged_as exact tokens o is =
    let P : Outcome (List Module) → Type 0 = λ z. Judged at_end (λ _. grammar.file) (start tokens) z in
    subst P is ((file_fact exact).judged (start tokens) (omega arith) (omega arith))

good_read : (tokens : List Token) (modules : List Module) (k : Input) → Good (λ _. grammar.file) (start tokens) modules k → IsRead tokens modules
good_read tokens modules k g =
    let found = g.reads.1 g.reads.0 (omega arith) in
    let over = file_ends modules g.text (first_of k.rest) found in
    let P : Option Token → Type 0 = λ n. grammar.file modules g.text n in
    record {
      text = g.text;
      marks = k.rest;
      in_grammar = subst P over found;
      are_marks = no_tokens k.rest over;
      tokens_are = g.rest_is;
      shallow = fits_shallow g.text g.fits;
    }

pub reads_right : Exact → (tokens : List Token) (modules : List Module) (k : Input) → reading.file (start tokens) ≡ Ok (modules, k) → IsRead tokens modules
reads_right exact tokens modules k is = good_read tokens modules k (judged_as exact tokens (Ok (modules, k)) is)

-- ---- what is refused

opened_begun : (seen : List Piece) → Opens at_end (λ _. grammar.file) seen → IsBegun seen
opened_begun seen o = record { modules = o.tree; more = o.more; in_grammar = o.reads o.least (omega arith) None refl }

-- the empty file begins with nothing
stuck_begun : (seen : List Piece) → (seen ≢ [] → Opens at_end (λ _. grammar.file) seen) → IsBegun seen
stuck_begun [] h = record { modules = []; more = []; in_grammar = (refl, refl) }
stuck_begun (p ∷ seen) h = opened_begun (p ∷ seen) (h (λ same. absurd cc))

comes_first : (rest : List Token) (token : Token) → ComesNext rest token → first_of rest ≡ Some token
comes_first rest token c = ap first_of c.is ∙ ap front_of (past_marks-token c.marks token c.behind c.are_marks c.no_mark)

stuck_refused : (tokens : List Token) (r : Refusal) → Stuck at_end (λ _. grammar.file) (start tokens) r → IsStuck tokens r
stuck_refused tokens r s = record {
  seen = s.seen;
  rest = s.rest;
  tokens_are = s.rest_is;
  begun = stuck_begun s.seen s.opens;
  shallow = fits_shallow s.seen s.fits;
  none_goes_on = λ token next b.
      let run : List Token = next.marks ++ token ∷ [] in
      let behind : List Token = run ++ b.tail in
      let cut : behind ≡ next.marks ++ token ∷ b.tail = append_assoc next.marks (token ∷ []) b.tail in
      let comes : first_of behind ≡ Some token = ap first_of cut ∙ ap front_of (past_marks-token next.marks token b.tail next.are_marks next.no_mark) in
      let whole : written s.seen ++ behind ≡ written b.text ++ [] =
      sym (append_assoc (written s.seen) run b.tail) ∙ ap (λ z. z ++ b.tail) (sym (append_assoc (written s.seen) next.marks (token ∷ []))) ∙ sym b.whole ∙ sym (append-nil (written b.text)) in
      s.none 0 behind (comes ∙ sym (comes_first s.rest token next)) b.modules b.text (at_file (written s.seen ++ behind) b.modules b.text [] whole refl b.in_grammar);
  none_ends = λ none modules f.
      s.none 0 s.rest refl modules f.text (at_file (written s.seen ++ s.rest) modules f.text f.marks (sym s.rest_is ∙ f.tokens_are) f.are_marks f.in_grammar);
  refused = s.refused ∙ refusal_at-front (last_place tokens) (past_marks s.rest) (grammar_tokens s.rest) (sym (first_of-grammar s.rest));
}

deep_refused : (tokens : List Token) (r : Refusal) → Deep at_end (λ _. grammar.file) (start tokens) r → IsTooDeep tokens r
deep_refused tokens r d = record {
  seen = d.seen;
  deep = d.deep;
  rest = d.rest;
  tokens_are = d.rest_is;
  begun = opened_begun (d.seen ++ d.deep ∷ []) d.opens;
  shallow = fits_shallow d.seen d.fits;
  reached = let is = d.reached in omega (arith, is);
  refused = d.refused;
}

fault_of : (tokens : List Token) (r : Refusal) → Judged at_end (λ _. grammar.file) (start tokens) (Err (Refused r)) → IsRefused tokens r
fault_of tokens r (inl s) = inl (stuck_refused tokens r s)
fault_of tokens r (inr d) = inr (deep_refused tokens r d)

pub refuses_right : Exact → (tokens : List Token) (e : Fault) → (e ≢ NoMemory → reading.file (start tokens) ≡ Err e) → IfRefused (IsRefused tokens) e
refuses_right exact tokens (Refused r) is =
    fault_of tokens r (judged_as exact tokens (Err (Refused r)) (is (λ same. cc)))
refuses_right exact tokens NoMemory is = tt

-- ---- what is read can be written

pub written_right : (tokens : List Token) (modules : List Module) → IsRead tokens modules → AreSpelled tokens → AreWritten modules
written_right tokens modules r spelled = record {
  tokens = tokens;
  spelled = spelled;
  is_file = record { text = r.text; marks = r.marks; in_grammar = r.in_grammar; are_marks = r.are_marks; tokens_are = r.tokens_are };
}
