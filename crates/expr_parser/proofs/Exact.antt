-- What reading gives where tokens are left, told by those tokens alone.
use Rattle.std.proofs.Common.{◌≡◌, ◌∙◌, inl, inr, ◌+◌, ◌==◌, ◌≤◌, Bool, true, false, not, ◌&&◌, List, [], ◌∷◌, ◌++◌, length, Some, Result, Ok, Err, IfOk, IfErr, refl, sym, ap, subst, arith, codes, append_assoc, append-nil}
use Rattle.std.proofs.lemmas.Bool.{eqb-true}
use Rattle.sv_base.specs.declared.refusal.Refusal.{Refusal}
use Rattle.sv_lexer.specs.declared.token.Token.{Token}
use Rattle.sv_ast.specs.declared.expression.Expr.{Expr}
use Rattle.sv_base.specs.declared.fault.Fault.{Fault}
use Rattle.sv_base.specs.declared.fault.Fault.TheVariants.{Refused, NoMemory}
use Rattle.sv_base.specs.Faults.{IfRefused}
use Rattle.expr_parser.specs.Spelling.{is_this, binds}
use Rattle.expr_parser.specs.Grammar.{Phrase, tokens_of, IsPhrase, strength, tree_of}
use Rattle.expr_parser.specs.Nesting.{nesting, greatest_nesting}
use Rattle.expr_parser.specs.Outcome.{grammar_tokens, Begins, NoneGoesOn}
use Rattle.expr_parser.specs.Input.{Input, Outcome, Gives, past_marks, front_of, behind}
use Rattle.expr_parser.specs.Reading.{any}
use Rattle.expr_parser.specs.Steady.{ends_expression, ReadsFrom, StopsAt, TooDeepAt, IsRefusedAt, RefusesAt}
use Rattle.expr_parser.proofs.Machine.{wants, failed, step, steps, operand_of}
use Rattle.expr_parser.proofs.Took.{grammar_tokens-front, grammar_tokens-append, refusal_at-front, marked_front}
use Rattle.expr_parser.proofs.Complete.{steps-append, none_begins, ends_with, step-end}
use Rattle.expr_parser.proofs.Spot.{IsFinal, Judged, Stuck, Deep}
use Rattle.expr_parser.proofs.Part.{Next}
use Rattle.expr_parser.proofs.Levels.{IsWhole, judged_any}
use Rattle.expr_parser.proofs.Whole.{primary_is}

none_goes_on : (run rest : List Token) → ((t : Token) → front_of rest ≡ Some t → steps (wants []) (run ++ t ∷ []) ≡ failed) → NoneGoesOn run rest
none_goes_on run [] h = tt
none_goes_on run (t ∷ ts) h = λ begins. none_begins (run ++ t ∷ []) (h t refl) begins.0 begins.1.in_grammar begins.1.tail begins.1.whole

one_more_step : (run : List Token) (t : Token) → step t (steps (wants []) run) ≡ failed → steps (wants []) (run ++ t ∷ []) ≡ failed
one_more_step run t h = steps-append (wants []) run (t ∷ []) ∙ h

-- nothing goes on behind a whole expression with nothing around it
top_fails : (q : Phrase) → IsPhrase q → (t : Token) → binds t ≤ 0 → is_this (codes "?") t ≡ false → (c : Bool) → is_this (codes "[") t ≡ c
    → (is_this (codes "[") t ≡ true → step t (steps (wants []) (tokens_of q)) ≡ failed) → step t (steps (wants []) (tokens_of q)) ≡ failed
top_fails q h t none no_question true is select = select is
top_fails q h t none no_question false is select =
    step-end t (record { binds_none = omega arith; no_question = no_question; no_select = is }) [] (tree_of q) (strength q) _ (ends_with q h)

-- no phrase is without tokens
some_tokens : (p : Phrase) → IsPhrase p → tokens_of p ≡ [] → ⊥
some_tokens p h none =
    let ended = ends_with p h in
    let here = ended.is in
    let start : operand_of (steps (wants []) (tokens_of p)) ≡ operand_of (wants []) = ap (λ ts. operand_of (steps (wants []) ts)) none in
    cc

read_from : (i : Input) (tree : Expr) (k : Input) → IsWhole [] i tree k → ReadsFrom i tree k
read_from i tree k w =
    let g = w.good in
    let q = g.part.phrase in
    let took = g.part.took in
    let rest_is : k.rest ≡ w.there.rest = ap (λ x. x.rest) w.is in
    record {
      front = took.front;
      rest_is = took.split ∙ ap (λ ts. took.front ++ ts) (sym rest_is);
      ends = took.ends;
      not_empty = λ none. some_tokens q g.part.in_grammar (sym took.run_is ∙ ap grammar_tokens none);
      nested_is = ap (λ x. x.nested) w.is;
      last_is = ap (λ x. x.last) w.is ∙ g.part.last_is;
      phrase = q;
      in_grammar = g.part.in_grammar;
      tokens_are = sym took.run_is;
      tree_is = g.part.tree_is;
      longest = none_goes_on (grammar_tokens took.front) (grammar_tokens k.rest)
          (λ t first. let is_next : Next w.there.rest t = sym (grammar_tokens-front w.there.rest) ∙ ap (λ ts. front_of (grammar_tokens ts)) (sym rest_is) ∙ first in
          ap (λ run. steps (wants []) (run ++ t ∷ [])) took.run_is
          ∙ one_more_step (tokens_of q) t (top_fails q g.part.in_grammar t (g.stops t is_next) (g.no_question refl t is_next) _ refl (g.part.no_select t is_next)));
      shallow = λ x short. g.part.shallow x (let same : length (grammar_tokens took.front) ≡ length (tokens_of q) = ap length took.run_is in omega (arith, same, short));
    }

stops_at : (i : Input) (r : Refusal) → Stuck i r → StopsAt i r
stops_at i r s =
    let run_is = s.took.run_is in
    record {
      front = s.took.front;
      rest = s.rest;
      rest_is = s.took.split;
      ends = s.took.ends;
      phrase = s.phrase;
      begins = record { in_grammar = s.begins.in_grammar; tail = s.begins.tail; whole = s.begins.whole ∙ ap (λ x. x ++ s.begins.tail) (sym run_is) };
      none = λ tree reads.
          let ended = ends_with reads.phrase reads.in_grammar in
          let here : tokens_of reads.phrase ≡ s.run = reads.tokens_are ∙ run_is in
          s.unfinished ended.operand ended.frames (ap (λ x. operand_of (steps (wants []) x)) (sym here) ∙ ended.is) (ap (λ p. p.1) (ended.folds 0 (omega arith)));
      longest = none_goes_on (grammar_tokens s.took.front) (grammar_tokens s.rest)
          (λ t first. ap (λ run. steps (wants []) (run ++ t ∷ [])) run_is
          ∙ one_more_step s.run t (s.fails t (sym (grammar_tokens-front s.rest) ∙ first)));
      shallow = λ x short. s.shallow x (let same : length (grammar_tokens s.took.front) ≡ length s.run = ap length run_is in omega (arith, same, short));
      refused = s.refused ∙ refusal_at-front i.last (past_marks s.rest) (grammar_tokens s.rest) (sym (grammar_tokens-front s.rest));
    }

too_deep_at : (i : Input) (r : Refusal) → Deep i r → TooDeepAt i r
too_deep_at i r s =
    let m = marked_front s.rest s.deep s.is_next in
    let run_is : grammar_tokens (s.took.front ++ m.marks) ≡ s.run =
    grammar_tokens-append s.took.front m.marks ∙ ap (λ x. x ++ grammar_tokens m.marks) s.took.run_is ∙ ap (λ x. s.run ++ x) m.none ∙ append-nil s.run in
    let same : length (grammar_tokens (s.took.front ++ m.marks)) ≡ length s.run = ap length run_is in
    record {
      front = s.took.front ++ m.marks;
      deep = s.deep;
      rest = behind (past_marks s.rest);
      rest_is = s.took.split ∙ ap (λ x. s.took.front ++ x) m.split ∙ sym (append_assoc s.took.front m.marks (s.deep ∷ behind (past_marks s.rest)));
      no_mark = m.no_mark;
      phrase = s.phrase;
      begins = record { in_grammar = s.begins.in_grammar; tail = s.begins.tail; whole = s.begins.whole ∙ ap (λ x. (x ++ s.deep ∷ []) ++ s.begins.tail) (sym run_is) };
      shallow = λ x short. s.shallow x (omega (arith, same, short));
      reached = ap (λ n. i.nested + nesting s.phrase (n + 1)) same ∙ s.reached;
      refused = s.refused;
    }

refused_at : (i : Input) (e : Fault) → IsFinal i e → RefusesAt i e
refused_at i (Refused r) (inl s) = inl (stops_at i r s)
refused_at i (Refused r) (inr s) = inr (too_deep_at i r s)
refused_at i NoMemory h = h

pub exact_reading_lem : (i : Input) → i.nested ≤ greatest_nesting
    → ((tree : Expr) (k : Input) → any i ≡ Ok (tree, k) → ReadsFrom i tree k) × ((e : Fault) → any i ≡ Err e → RefusesAt i e)
exact_reading_lem i fine =
    let P : Outcome Expr → Type 0 = λ o. Judged i (IsWhole [] i) o in
    let all = judged_any i (primary_is i) fine in
    (λ tree k is. read_from i tree k (subst P is all), λ e is. refused_at i e (subst P is all))

-- ---- what a function ensures that gives what the definition of reading does

pub any_read : (i k : Input) (r : Result Expr Fault) → Gives (any i) r k → i.nested ≤ greatest_nesting → IfOk r (λ tree. ReadsFrom i tree k)
any_read i k (Ok tree) is fine = (exact_reading_lem i fine).0 tree k is
any_read i k (Err e) is fine = tt

pub any_refused : (i k : Input) (r : Result Expr Fault) → Gives (any i) r k → i.nested ≤ greatest_nesting → IfErr r (IfRefused (IsRefusedAt i))
any_refused i k (Ok tree) is fine = tt
any_refused i k (Err (Refused refusal)) is fine = (exact_reading_lem i fine).1 (Refused refusal) (is (λ same. cc))
any_refused i k (Err NoMemory) is fine = tt

-- ---- nothing goes on behind a whole expression

false_by : (c d : Bool) → c && not d ≡ true → (c ≡ true) × (d ≡ false)
false_by true false h = (refl, refl)
false_by true true h = absurd cc
false_by false d h = absurd cc

-- behind a whole expression such a token fails
end_fails : (p : Phrase) (t : Token) → IsPhrase p → ends_expression t ≡ true → steps (wants []) (tokens_of p ++ t ∷ []) ≡ failed
unfolding ends_expression
end_fails p t h ends =
    let c = false_by (binds t == 0 && not (is_this (codes "?") t)) (is_this (codes "[") t) ends in
    let d = false_by (binds t == 0) (is_this (codes "?") t) c.0 in
    one_more_step (tokens_of p) t
    (step-end t (record { binds_none = eqb-true (binds t) 0 d.0; no_question = d.1; no_select = c.1 }) [] (tree_of p) (strength p) _ (ends_with p h))

pub nothing_goes_on_lem : (p : Phrase) (t : Token) → IsPhrase p → ends_expression t ≡ true → Begins (tokens_of p ++ t ∷ []) → ⊥
nothing_goes_on_lem p t h ends begins =
    none_begins (tokens_of p ++ t ∷ []) (end_fails p t h ends) begins.0 begins.1.in_grammar begins.1.tail begins.1.whole
