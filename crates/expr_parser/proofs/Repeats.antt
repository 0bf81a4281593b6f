-- What reading gives for replications.
use Rattle.std.proofs.Common.{◌≡◌, ◌∙◌, inl, inr, ℕ, suc, ◌+◌, ◌-◌, ◌<◌, ◌≤◌, true, false, nat_le, List, [], ◌∷◌, ◌++◌, length, Ok, refl, sym, ap, subst, arith, codes, append_assoc, length-append, if◌then◌else◌}
use Rattle.std.proofs.lemmas.Bool.{le-leb, lt-leb}
use Rattle.sv_lexer.specs.declared.token.Token.{Token}
use Rattle.sv_ast.specs.declared.expression.Expr.{Expr}
use Rattle.sv_ast.specs.declared.expression.Expr.TheVariants as e
use Rattle.expr_parser.specs.Spelling.{is_this}
use Rattle.expr_parser.specs.Grammar.{Phrase, number, repeat, Phrases, only, tokens_of, all_tokens_of, tree_of, trees_of, Is, signed_strength}
use Rattle.expr_parser.specs.Nesting.{nesting, nestings, in_brackets, greatest_nesting}
use Rattle.expr_parser.specs.Input.{Input, Parser, after, turns, and_then, expect}
use Rattle.expr_parser.specs.Reading.{opening, whole, list_from, repeated, braced_from, braced}
use Rattle.expr_parser.specs.Reading as reading
use Rattle.expr_parser.proofs.Machine.{Frame, in_braces, in_parts, wants, wants_brace, failed, closed, begun, step, steps, operand_of}
use Rattle.expr_parser.proofs.Took.{Took, Took-then}
use Rattle.expr_parser.proofs.Roles.{not_this, start_of-brace}
use Rattle.expr_parser.proofs.Complete.{steps-append, reads_phrase, reads_list, in-brackets, list-end, end-brace, end-open_brace, parts-frame, has-repeat}
use Rattle.expr_parser.proofs.Spot.{Judged, judged_then, Spot, inside, cases_le}
use Rattle.expr_parser.proofs.Part.{Next, spare, deep_at, stuck_at, spot-small, judged_expect, Took-after, after-last}
use Rattle.expr_parser.proofs.Inners.{nestings-zero, in_brackets-at, two_shallow, between_parts}
use Rattle.expr_parser.proofs.Operators.{IsReader}
use Rattle.expr_parser.proofs.Levels.{IsWhole, judged_whole}
use Rattle.expr_parser.proofs.Primaries.{sign_token, brackets_shallow, brackets_shallow_to, no_operand, opened, whole_took, whole_last, whole_nested}
use Rattle.expr_parser.proofs.Lists.{ListPlace, IsList, first_inner, list_only, judged_list}
use Rattle.expr_parser.proofs.Braces.{close_brace_is, list_stuck, IsBraced}

-- what a replication counts inside its outer braces
abbrev parts_inside : Phrase → Phrases → ℕ → ℕ
parts_inside p ps k = if nat_le k (length (tokens_of p)) then nesting p k else in_brackets (length (all_tokens_of ps)) (nestings ps) (k - length (tokens_of p))

inside-first : (p : Phrase) (ps : Phrases) (k : ℕ) → k ≤ length (tokens_of p) → parts_inside p ps k ≡ nesting p k
inside-first p ps k h = rw (le-leb k (length (tokens_of p)) h) refl

inside-beyond : (p : Phrase) (ps : Phrases) (k : ℕ) → length (tokens_of p) < k → parts_inside p ps k ≡ in_brackets (length (all_tokens_of ps)) (nestings ps) (k - length (tokens_of p))
inside-beyond p ps k h = rw (lt-leb k (length (tokens_of p)) h) refl

inside-second : (p : Phrase) (ps : Phrases) (m : ℕ) → m ≤ length (all_tokens_of ps) → parts_inside p ps (length (tokens_of p) + (1 + m)) ≡ 1 + nestings ps m
inside-second p ps m h =
    let at : length (tokens_of p) + (1 + m) - length (tokens_of p) ≡ 1 + m = omega arith in
    inside-beyond p ps (length (tokens_of p) + (1 + m)) (omega arith) ∙ ap (in_brackets (length (all_tokens_of ps)) (nestings ps)) at
    ∙ in_brackets-at (length (all_tokens_of ps)) (nestings ps) m h

repeat_place : (least : ℕ) (i : Input) (fs : List Frame) (o : Token) (j : Input) (x : Expr) (k : Input) (w : IsWhole (in_braces o [] ∷ fs) j x k) (d : Token) (l : Input)
    → least ≤ signed_strength → Is (codes "{") o → Is (codes "{") d → i.nested ≤ greatest_nesting → Took i.rest j.rest (o ∷ []) → j.last ≡ i.last → j.nested ≡ i.nested + 1
    → Took k.rest l.rest (d ∷ []) → l.last ≡ k.last → l.nested ≡ k.nested + 1 → l.nested ≤ greatest_nesting
    → ListPlace least i fs (in_parts o (tree_of w.good.part.phrase)) l
repeat_place least i fs o j x k w d l small is d_is fine took last count took_d last_d count_d within =
    let p = w.good.part in
    let tp = tokens_of p.phrase in
    let same = whole_nested (in_braces o [] ∷ fs) j x k w in
    let close = sign_token (codes "}") in
    record {
      before = o ∷ tp ++ d ∷ [];
      after_it = close ∷ close ∷ [];
      wrap = λ ps. repeat o p.phrase d ps close close;
      tokens = λ ps. ap (λ z. o ∷ z) (between_parts tp (all_tokens_of ps) (close ∷ close ∷ []) d);
      grammar = λ ps h. (is, p.in_grammar, d_is, h, close_brace_is, close_brace_is);
      fits = λ ps. omega arith;
      nest = λ ps m le.
          let len = length tp + 1 + length (all_tokens_of ps) + 1 in
          let at : length (o ∷ tp ++ d ∷ []) + m ≡ 1 + (length tp + (1 + m)) = omega (arith, length-append tp (d ∷ [])) in
          ap (λ z. i.nested + in_brackets len (parts_inside p.phrase ps) z) at
          ∙ ap (λ z. i.nested + z) (in_brackets-at len (parts_inside p.phrase ps) (length tp + (1 + m)) (omega arith))
          ∙ ap (λ z. i.nested + (1 + z)) (inside-second p.phrase ps m le) ∙ omega (arith, count_d, same, count);
      shallow = λ ps z le.
          brackets_shallow_to i.nested (length tp + 1 + length (all_tokens_of ps) + 1) (parts_inside p.phrase ps) fine (length tp + 1) (omega arith)
          (λ m short. two_shallow (i.nested + 1) (length tp) (parts_inside p.phrase ps)
          (λ v v_short. let first = inside-first p.phrase ps v v_short in let low = p.shallow v v_short in omega (arith, first, low, count))
          (let second = inside-second p.phrase ps 0 (omega arith) in let none = nestings-zero ps in omega (arith, second, none, count_d, same, count, within))
          m short)
          z (omega (arith, le, length-append tp (d ∷ [])));
      took = Took-then i.rest k.rest l.rest (o ∷ tp) (d ∷ []) (Took-then i.rest j.rest k.rest (o ∷ []) tp took (whole_took (in_braces o [] ∷ fs) j x k w)) took_d;
      last_is = last_d ∙ whole_last (in_braces o [] ∷ fs) j x k w ∙ last;
      state = steps-append (step o (wants fs)) tp (d ∷ []) ∙ ap (λ z. step d (steps (begun z o fs) tp)) (start_of-brace o is)
          ∙ in-brackets (in_braces o []) fs p.phrase (reads_phrase p.phrase p.in_grammar) tt refl d (end-open_brace d d_is) ∙ rw d_is refl;
      is_frame = parts-frame o (tree_of p.phrase);
      small = within;
    }

parts_end : (o : Token) (n : Expr) (fs : List Frame) (t : Token) (y : Expr) (ys : List Expr) → is_this (codes ",") t ≡ false → is_this (codes "}") t ≡ false → closed t y (in_parts o n ys ∷ fs) ≡ failed
parts_end o n fs t y ys a b = rw (a, b) refl

abbrev any_token : Token → Type 0
any_token t = Unit {0}

repeat_low : (base : ℕ) (p : Phrase) (ps : Phrases) → ((a : ℕ) → a ≤ length (tokens_of p) → base + nesting p a ≤ greatest_nesting) → base ≤ greatest_nesting
    → ((a : ℕ) → a ≤ length (all_tokens_of ps) → base + 1 + nestings ps a ≤ greatest_nesting) → (u : ℕ) → base + parts_inside p ps u ≤ greatest_nesting
repeat_low base p ps first small second u =
    elim (cases_le u (length (tokens_of p))) [
      | inl short ↦ let here = inside-first p ps u short in let ok = first u short in omega (arith, here, ok)
      | inr long ↦ let here = inside-beyond p ps u long in let ok = brackets_shallow base (length (all_tokens_of ps)) (nestings ps) small second (u - length (tokens_of p)) in omega (arith, here, ok)
    ]

repeat_done : (top : Input) (least : ℕ) (i : Input) (fs : List Frame) → (s : Spot top least i fs) → least ≤ signed_strength → (o : Token) → Is (codes "{") o → (j : Input) → Took i.rest j.rest (o ∷ [])
    → j.last ≡ i.last → j.nested ≡ i.nested + 1 → (x : Expr) (k : Input) (w : IsWhole (in_braces o [] ∷ fs) j x k) (d : Token) → Is (codes "{") d → (l : Input) → Took k.rest l.rest (d ∷ [])
    → l.last ≡ k.last → l.nested ≡ k.nested + 1 → l.nested ≤ greatest_nesting → (parts : List Expr) (m : Input) → IsList any_token fs (in_parts o (tree_of w.good.part.phrase)) l parts m
    → (done : Token) → Is (codes "}") done → (z : Input) → Took m.rest z.rest (done ∷ []) → z.last ≡ m.last → IsBraced top fs i (e.Repeat o.place x parts) z
unfolding repeat_place
repeat_done top least i fs s small o is j took last count x k w d d_is l took_d last_d count_d within_d parts m found done done_is z took_z last_z =
    let p = w.good.part in
    let tp = tokens_of p.phrase in
    let q = found.part in
    let all = all_tokens_of q.phrases in
    let same = whole_nested (in_braces o [] ∷ fs) j x k w in
    let fine = spot-small top least i fs s in
    let close = sign_token (codes "}") in
    let frame : List Expr → Frame = in_parts o (tree_of p.phrase) in
    let place = repeat_place least i fs o j x k w d l small is d_is fine took last count took_d last_d count_d within_d in
    let body_is : List Token = ((o ∷ tp) ++ (d ∷ all)) ++ done ∷ [] in
    let ended = reads_list q.phrases q.in_grammar frame place.is_frame [] fs in
    let state : steps (wants fs) body_is ≡ wants_brace (e.Repeat o.place (tree_of p.phrase) (ended.before ++ ended.last ∷ [])) fs =
    ap (steps (wants fs)) (ap (λ y. y ++ done ∷ []) (ap (λ y. o ∷ y) (sym (append_assoc tp (d ∷ []) all))))
    ∙ steps-append (wants fs) ((o ∷ tp ++ d ∷ []) ++ all) (done ∷ [])
    ∙ ap (step done) (steps-append (wants fs) (o ∷ tp ++ d ∷ []) all ∙ ap (λ y. steps y all) place.state)
    ∙ list-end done (end-brace done done_is) frame fs (trees_of q.phrases) _ ended ∙ rw (not_this (codes "}") (codes ",") done done_is refl, done_is) refl in
    let took_all = Took-then i.rest m.rest z.rest ((o ∷ tp) ++ (d ∷ all)) (done ∷ [])
    (Took-then i.rest k.rest m.rest (o ∷ tp) (d ∷ all) (Took-then i.rest j.rest k.rest (o ∷ []) tp took (whole_took (in_braces o [] ∷ fs) j x k w))
    (Took-then k.rest l.rest m.rest (d ∷ []) all took_d q.took)) took_z in
    let low : (c : Token) (v : ℕ) → i.nested + nesting (repeat o p.phrase d q.phrases done c) v ≤ greatest_nesting =
    λ c v. brackets_shallow i.nested (length tp + 1 + length all + 1) (parts_inside p.phrase q.phrases) fine (λ u le. repeat_low (i.nested + 1) p.phrase q.phrases
    (λ a a_le. let ok = p.shallow a a_le in omega (arith, ok, count)) (omega (arith, count, p.small, w.good.part.nested_is))
    (λ a a_le. let ok = q.low a a_le in omega (arith, ok, count_d, same, count)) u) v in
    let tree_is : tree_of (repeat o p.phrase d q.phrases done done) ≡ e.Repeat o.place x parts =
    ap (λ y. e.Repeat o.place y (trees_of q.phrases)) p.tree_is ∙ ap (λ y. e.Repeat o.place x y) q.trees_are in
    record {
      phrase = λ c. repeat o p.phrase d q.phrases done c;
      body = body_is;
      tokens = λ c. sym (append_assoc ((o ∷ tp) ++ (d ∷ all)) (done ∷ []) (c ∷ []));
      grammar = λ c h. (is, p.in_grammar, d_is, q.in_grammar, done_is, h);
      tree_is = λ c. tree_is;
      strong = λ c. refl;
      none = λ c. refl;
      took = took_all;
      last_is = last_z ∙ q.last_is ∙ last_d ∙ whole_last (in_braces o [] ∷ fs) j x k w ∙ last;
      shallow = low;
      has_it = λ c h. has-repeat o p.phrase d q.phrases done c (reads_phrase p.phrase p.in_grammar) (reads_list q.phrases q.in_grammar) (is, p.in_grammar, d_is, q.in_grammar, done_is, h) fs;
      stuck = λ no. stuck_at top least i fs s z (repeat o p.phrase d q.phrases done close) body_is (close ∷ []) (is, p.in_grammar, d_is, q.in_grammar, done_is, close_brace_is) (omega arith)
          (sym (append_assoc ((o ∷ tp) ++ (d ∷ all)) (done ∷ []) (close ∷ []))) took_all (last_z ∙ q.last_is ∙ last_d ∙ whole_last (in_braces o [] ∷ fs) j x k w ∙ last)
          (λ v le. low close v) (λ t t_next. ap (step t) state ∙ rw (no t t_next) refl) (λ y gs is_it. absurd (no_operand (y, gs) (sym (ap operand_of state) ∙ is_it)));
    }

pub judged_repeat : (top : Input) (expr : ℕ → Parser Expr) (depth : ℕ) → IsReader top expr depth → (least : ℕ) → least ≤ signed_strength → (i : Input) (fs : List Frame) → (s : Spot top least i fs)
    → greatest_nesting + 1 ≤ i.nested + suc depth → (o : Token) → Is (codes "{") o → (j : Input) → Took i.rest j.rest (o ∷ []) → j.last ≡ i.last → j.nested ≡ i.nested + 1 → j.nested ≤ greatest_nesting
    → (x : Expr) (k : Input) → IsWhole (in_braces o [] ∷ fs) j x k → (d : Token) → Next k.rest d → Is (codes "{") d
    → Judged top (IsBraced top fs i) (and_then (repeated expr k) (λ parts m. Ok (e.Repeat o.place x parts, m)))
unfolding repeated reading.more turns
judged_repeat top expr depth reader least small i fs s enough o is j took last count within x k w d d_next d_is =
    let p = w.good.part in
    let tp = tokens_of p.phrase in
    let same = whole_nested (in_braces o [] ∷ fs) j x k w in
    let fine = spot-small top least i fs s in
    let close = sign_token (codes "}") in
    let frame : List Expr → Frame = in_parts o (tree_of p.phrase) in
    let good : List Expr → Input → Type 0 = λ parts m. IsBraced top fs i (e.Repeat o.place x parts) m in
    let one : Phrases = only (number spare) in
    let took_p = Took-then i.rest j.rest k.rest (o ∷ []) tp took (whole_took (in_braces o [] ∷ fs) j x k w) in
    judged_then top good (IsBraced top fs i) (repeated expr k) (λ parts m. Ok (e.Repeat o.place x parts, m))
    (opened top k (codes "{") d good _ d_next d_is
    (λ full. deep_at top least i fs s k (repeat o p.phrase d one close close) (o ∷ tp) d (spare ∷ close ∷ close ∷ []) (is, p.in_grammar, d_is, refl, close_brace_is, close_brace_is)
    (omega arith) (ap (λ z. o ∷ z) (append_assoc tp (d ∷ spare ∷ []) (close ∷ close ∷ []) ∙ sym (append_assoc tp (d ∷ []) (spare ∷ close ∷ close ∷ [])))) took_p d_next
    (λ m le. brackets_shallow_to i.nested (length tp + 1 + 1 + 1) (parts_inside p.phrase one) fine (length tp) (omega arith)
    (λ v v_short. let first = inside-first p.phrase one v v_short in let low = p.shallow v v_short in omega (arith, first, low, count)) m (omega (arith, le)))
    (let at : length (o ∷ tp) + 1 ≡ 1 + (length tp + (1 + 0)) = omega arith in
    let outer = in_brackets-at (length tp + 1 + 1 + 1) (parts_inside p.phrase one) (length tp + (1 + 0)) (omega arith) in
    let second = inside-second p.phrase one 0 (omega arith) in
    ap (λ z. i.nested + in_brackets (length tp + 1 + 1 + 1) (parts_inside p.phrase one) z) at ∙ omega (arith, outer, second, full, same, count, within)))
    (λ l took_d last_d count_d within_d.
    let place = repeat_place least i fs o j x k w d l small is d_is fine took last count took_d last_d count_d within_d in
    judged_then top (IsWhole (frame [] ∷ fs) l) good (whole expr l) _
    (judged_whole top expr depth reader l (frame [] ∷ fs) (inside top least i fs 0 l (frame [] ∷ fs) s (first_inner least i fs frame l place)) (omega (arith, count_d, same, count)))
    (λ y n v.
    judged_then top (IsList any_token fs frame l) good (list_from expr (length n.rest) (y ∷ []) n) _
    (judged_list top expr depth reader least i fs s any_token frame l place (omega (arith, count_d, same, count)) (length n.rest) (y ∷ []) n
    (list_only any_token fs frame (parts-frame o (tree_of p.phrase)) l y n v (λ t t_next. tt)) (omega arith))
    (λ parts m found.
    judged_then top (λ _ z. (z ≡ after m) × ((c : Token) × (Next m.rest c × (is_this (codes "}") c ≡ true)))) good (expect (codes "}") m) _
    (judged_expect top m (codes "}") (λ no. list_stuck top least i fs s any_token frame l place parts m found
    (λ t t_next u us first. parts_end o (tree_of p.phrase) fs t u us (found.no_comma t t_next) (no t t_next))))
    (λ _ z ended.
    repeat_done top least i fs s small o is j took last count x k w d d_is l took_d last_d count_d within_d parts m found ended.1.0 ended.1.1.1
    (record z { nested = k.nested })
    (let P : Input → Type 0 = λ u. Took m.rest u.rest (ended.1.0 ∷ []) in subst P (sym ended.0) (Took-after m ended.1.0 ended.1.1.0))
    (ap (λ u. u.last) ended.0 ∙ after-last m))))))
    (λ parts m h. h)
