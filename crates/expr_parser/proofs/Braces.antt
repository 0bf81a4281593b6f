-- What reading gives for concatenations and replications.
use Rattle.std.proofs.Common.{◌≡◌, ◌∙◌, inl, inr, ℕ, suc, ◌+◌, ◌-◌, ◌≤◌, Bool, true, false, List, [], ◌∷◌, ◌++◌, length, Ok, refl, sym, ap, subst, arith, codes, append_assoc, length-append, if◌then◌else◌}
use Rattle.sv_lexer.specs.declared.token.Token.{Token}
use Rattle.sv_ast.specs.declared.expression.Expr.{Expr}
use Rattle.sv_ast.specs.declared.expression.Expr.TheVariants as e
use Rattle.expr_parser.specs.Spelling.{is_this}
use Rattle.expr_parser.specs.Grammar.{Phrase, concat, tokens_of, all_tokens_of, tree_of, Is, IsPhrase, strength, signed_strength, full_strength}
use Rattle.expr_parser.specs.Nesting.{nesting, nestings, operators, in_brackets, greatest_nesting}
use Rattle.expr_parser.specs.Input.{Input, Parser, turns, sees, and_then, refusal}
use Rattle.expr_parser.specs.Reading.{opening, whole, list_from, repeated, braced_from, braced}
use Rattle.expr_parser.specs.Reading as reading
use Rattle.expr_parser.proofs.Machine.{Frame, in_braces, wants, has, failed, reduce, closed, begun, step, steps, operand_of}
use Rattle.expr_parser.proofs.Took.{Took, Took-then}
use Rattle.expr_parser.proofs.Roles.{start_of-brace}
use Rattle.expr_parser.proofs.Complete.{steps-append, reads_list, braces-frame, has-concat, same_ends}
use Rattle.expr_parser.proofs.Spot.{IsFinal, Judged, judged_then, Spot, cases_le}
use Rattle.expr_parser.proofs.Part.{Next, stuck_at, spot-small, sees-no}
use Rattle.expr_parser.proofs.Inners.{nestings-zero, in_brackets-at, one_shallow}
use Rattle.expr_parser.proofs.Operators.{IsReader}
use Rattle.expr_parser.proofs.Levels.{IsWhole}
use Rattle.expr_parser.proofs.Primaries.{sign_token, brackets_shallow}
use Rattle.expr_parser.proofs.Lists.{ListPlace, ListPart, IsList, list_only, judged_list}

pub close_brace_is : Is (codes "}") (sign_token (codes "}"))
unfolding is_this
close_brace_is = refl

-- ---- where a list ends

frames_none : (f : Frame) (fs : List Frame) → f ∷ fs ≡ [] → ⊥
frames_none f fs h = cc

list_low : (least : ℕ) (i : Input) (fs : List Frame) (first_ok : Token → Type 0) (frame : List Expr → Frame) (j : Input) (l : ListPlace least i fs frame j) (found : List Expr) (k : Input)
    → (p : ListPart first_ok fs frame j found k) (m : ℕ) → m ≤ length l.before + length (all_tokens_of p.phrases) → i.nested + nesting (l.wrap p.phrases) m ≤ greatest_nesting
list_low least i fs first_ok frame j l found k p m le =
    elim (cases_le m (length l.before)) [
      | inl short ↦ l.shallow p.phrases m short
      | inr long ↦
          let r = m - length l.before in
          let at : m ≡ length l.before + r = omega arith in
          let here = l.nest p.phrases r (omega arith) in
          let fine = p.low r (omega arith) in
          let P : ℕ → Type 0 = λ y. i.nested + nesting (l.wrap p.phrases) y ≤ greatest_nesting in
          subst P (sym at) (omega (arith, here, fine))
    ]

pub list_stuck : (top : Input) (least : ℕ) (i : Input) (fs : List Frame) → Spot top least i fs → (first_ok : Token → Type 0) (frame : List Expr → Frame) (j : Input) (l : ListPlace least i fs frame j)
    → (found : List Expr) (k : Input) (x : IsList first_ok fs frame j found k)
    → ((t : Token) → Next k.rest t → (y : Expr) (ys : List Expr) → (ys ≡ [] → first_ok t) → closed t y (frame ys ∷ fs) ≡ failed) → IsFinal top (refusal k)
list_stuck top least i fs s first_ok frame j l found k x ends =
    let p = x.part in
    let all = all_tokens_of p.phrases in
    let state : steps (wants fs) (l.before ++ all) ≡ steps (wants (frame [] ∷ fs)) all = steps-append (wants fs) l.before all ∙ ap (λ z. steps z all) l.state in
    let ended = reads_list p.phrases p.in_grammar frame l.is_frame [] fs in
    stuck_at top least i fs s k (l.wrap p.phrases) (l.before ++ all) l.after_it (l.grammar p.phrases p.in_grammar) (l.fits p.phrases)
    (l.tokens p.phrases ∙ sym (append_assoc l.before all l.after_it))
    (Took-then i.rest j.rest k.rest l.before all l.took p.took) (p.last_is ∙ l.last_is)
    (λ m le. list_low least i fs first_ok frame j l found k p m (omega (arith, le, length-append l.before all)))
    (λ t t_next. ap (step t) state ∙ p.fails t t_next (ends t t_next))
    (λ y gs is none.
    let same = same_ends (steps (wants (frame [] ∷ fs)) all) (y, gs) (ended.operand, ended.frames) (sym (ap operand_of state) ∙ is) ended.is in
    let whole : reduce 0 gs y ≡ (ended.last, frame ended.before ∷ fs) = ap (λ z. reduce 0 z.1 z.0) same ∙ ended.folds in
    frames_none (frame ended.before) fs (sym (ap (λ z. z.1) whole) ∙ none))

-- ---- concatenations

pub concat_place : (least : ℕ) (i : Input) (fs : List Frame) (o : Token) (j : Input) → least ≤ signed_strength → Is (codes "{") o → Took i.rest j.rest (o ∷ []) → j.last ≡ i.last
    → j.nested ≡ i.nested + 1 → j.nested ≤ greatest_nesting → ListPlace least i fs (in_braces o) j
concat_place least i fs o j small is took last count within = record {
  before = o ∷ [];
  after_it = sign_token (codes "}") ∷ [];
  wrap = λ ps. concat o ps (sign_token (codes "}"));
  tokens = λ ps. refl;
  grammar = λ ps h. (is, h, close_brace_is);
  fits = λ ps. omega arith;
  nest = λ ps m le. ap (λ x. i.nested + x) (in_brackets-at (length (all_tokens_of ps)) (nestings ps) m le) ∙ omega (arith, count);
  shallow = λ ps k le. one_shallow i.nested (in_brackets (length (all_tokens_of ps)) (nestings ps)) refl
      (in_brackets-at (length (all_tokens_of ps)) (nestings ps) 0 (omega arith) ∙ ap (λ x. 1 + x) (nestings-zero ps)) (omega (arith, count, within)) k le;
  took = took;
  last_is = last;
  state = ap (λ k. begun k o fs) (start_of-brace o is);
  is_frame = braces-frame o;
  small = within;
}

if_same : (b : Bool) → (if b then failed else failed) ≡ failed
if_same true = refl
if_same false = refl

braces_end : (o : Token) (fs : List Frame) (t : Token) (y : Expr) (ys : List Expr) → (ys ≡ [] → is_this (codes "{") t ≡ false) → is_this (codes ",") t ≡ false → is_this (codes "}") t ≡ false
    → closed t y (in_braces o ys ∷ fs) ≡ failed
braces_end o fs t y [] ok a b = rw (ok refl, a, b) refl
braces_end o fs t y (z ∷ zs) ok a b = rw (a, b) (if_same (is_this (codes "{") t))

-- what stands in braces before the last `}`
pub record IsBraced (top : Input) (fs : List Frame) (i : Input) (tree : Expr) (k : Input) : Type 0 where
  pub phrase : Token → Phrase
  pub body : List Token
  pub tokens : (c : Token) → tokens_of (phrase c) ≡ body ++ c ∷ []
  pub grammar : (c : Token) → Is (codes "}") c → IsPhrase (phrase c)
  pub tree_is : (c : Token) → tree_of (phrase c) ≡ tree
  pub strong : (c : Token) → strength (phrase c) ≡ full_strength
  pub none : (c : Token) → operators (phrase c) ≡ 0
  pub took : Took i.rest k.rest body
  pub last_is : k.last ≡ i.last
  pub shallow : (c : Token) (m : ℕ) → i.nested + nesting (phrase c) m ≤ greatest_nesting
  pub has_it : (c : Token) → Is (codes "}") c → steps (wants fs) (tokens_of (phrase c)) ≡ has (tree_of (phrase c)) fs
  pub stuck : ((t : Token) → Next k.rest t → is_this (codes "}") t ≡ false) → IsFinal top (refusal k)

pub judged_concat : (top : Input) (expr : ℕ → Parser Expr) (depth : ℕ) → IsReader top expr depth → (least : ℕ) → least ≤ signed_strength → (i : Input) (fs : List Frame) → Spot top least i fs
    → greatest_nesting + 1 ≤ i.nested + suc depth → (o : Token) → Is (codes "{") o → (j : Input) → Took i.rest j.rest (o ∷ []) → j.last ≡ i.last → j.nested ≡ i.nested + 1 → j.nested ≤ greatest_nesting
    → (x : Expr) (k : Input) → IsWhole (in_braces o [] ∷ fs) j x k → sees (codes "{") k ≡ false
    → Judged top (IsBraced top fs i) (and_then (reading.more expr x k) (λ parts m. Ok (e.Concat o.place parts, m)))
unfolding reading.more turns
judged_concat top expr depth reader least small i fs s enough o is j took last count within x k w no_brace =
    let l = concat_place least i fs o j small is took last count within in
    let ok : Token → Type 0 = λ t. is_this (codes "{") t ≡ false in
    let fine = spot-small top least i fs s in
    judged_then top (IsList ok fs (in_braces o) j) (IsBraced top fs i) (list_from expr (length k.rest) (x ∷ []) k) (λ parts m. Ok (e.Concat o.place parts, m))
    (judged_list top expr depth reader least i fs s ok (in_braces o) j l (omega (arith, count)) (length k.rest) (x ∷ []) k
    (list_only ok fs (in_braces o) (braces-frame o) j x k w (sees-no (codes "{") k no_brace)) (omega arith))
    (λ parts m found.
    let p = found.part in
    record {
      phrase = λ c. concat o p.phrases c;
      body = o ∷ all_tokens_of p.phrases;
      tokens = λ c. refl;
      grammar = λ c h. (is, p.in_grammar, h);
      tree_is = λ c. ap (λ z. e.Concat o.place z) p.trees_are;
      strong = λ c. refl;
      none = λ c. refl;
      took = Took-then i.rest j.rest m.rest (o ∷ []) (all_tokens_of p.phrases) took p.took;
      last_is = p.last_is ∙ last;
      shallow = λ c y. brackets_shallow i.nested (length (all_tokens_of p.phrases)) (nestings p.phrases) fine (λ v le. let low = p.low v le in omega (arith, low, count)) y;
      has_it = λ c h. has-concat o p.phrases c (reads_list p.phrases p.in_grammar) (is, p.in_grammar, h) fs;
      stuck = λ no. list_stuck top least i fs s ok (in_braces o) j l parts m found (λ t t_next y ys first. braces_end o fs t y ys first (found.no_comma t t_next) (no t t_next));
    })
