-- What reading gives for names and their selects.
use Rattle.std.proofs.Common.{◌≡◌, ◌∙◌, ℕ, suc, ◌+◌, ◌-◌, ◌≤◌, Bool, true, false, List, [], ◌∷◌, ◌++◌, length, Ok, refl, sym, ap, subst, arith, codes, append_assoc, length-append, if◌then◌else◌}
use Rattle.sv_lexer.specs.declared.token.Token.{Token}
use Rattle.sv_ast.specs.declared.expression.Sel.{Sel}
use Rattle.sv_ast.specs.declared.expression.Sel.TheVariants as sel
use Rattle.sv_ast.specs.declared.expression.Expr.{Expr}
use Rattle.sv_ast.specs.declared.expression.Expr.TheVariants as e
use Rattle.expr_parser.specs.Spelling.{is_this, is_identifier}
use Rattle.expr_parser.specs.Grammar.{Between, down_to, up_from, down_from, Phrase, number, name, selected, ranged, tokens_of, tree_of, id_of, range_of, between_text, Is, IsPhrase, strength, signed_strength, full_strength}
use Rattle.expr_parser.specs.Nesting.{nesting, operators, in_brackets, one_after, greatest_nesting}
use Rattle.expr_parser.specs.Input.{Input, Parser, after, sees, and_then, refusal, expect}
use Rattle.expr_parser.specs.Reading.{whole, select, select_from, selects, read}
use Rattle.expr_parser.proofs.Machine.{Frame, in_select, in_range, wants, has, failed, closed, step, steps}
use Rattle.expr_parser.proofs.Took.{Took, Took-then}
use Rattle.expr_parser.proofs.Complete.{steps-append, reads_phrase, opened-select, between-step, has-selected, has-ranged}
use Rattle.expr_parser.proofs.Spot.{IsFinal, Judged, judged_then, Spot, Inner, inside}
use Rattle.expr_parser.proofs.Part.{Next, spare, deep_at, spot-small, judged_expect, judged_take, sees-yes, sees-no, Took-after, after-last, after-nested}
use Rattle.expr_parser.proofs.Inners.{nesting-zero, in_brackets-at, one_after-first, one_after-second, one_shallow, two_shallow}
use Rattle.expr_parser.proofs.Operators.{IsReader, IsOperand}
use Rattle.expr_parser.proofs.Levels.{IsWhole, judged_whole}
use Rattle.expr_parser.proofs.Primaries.{sign_token, close_select_is, select_fails, primary_at, brackets_shallow, brackets_shallow_to, range_shallow, brackets_one, opened, whole_took, whole_last, whole_nested, whole_stuck}

inner-select : (least : ℕ) (i : Input) (fs : List Frame) (id o : Token) (j : Input) → least ≤ signed_strength → is_identifier id ≡ true → Is (codes "[") o
    → Took i.rest j.rest (id ∷ o ∷ []) → j.last ≡ i.last → j.nested ≡ i.nested + 1 → i.nested + 1 ≤ greatest_nesting → Inner least i fs 0 j (in_select id o ∷ fs)
inner-select least i fs id o j small named is took last count fine = record {
  before = id ∷ o ∷ [];
  after_it = sign_token (codes "]") ∷ [];
  wrap = λ q. selected id o q (sign_token (codes "]"));
  tokens = λ q. refl;
  grammar = λ q h g. (named, is, h, close_select_is);
  fits = λ q g. omega arith;
  nest = λ q m le.
      let at : 2 + m - 1 ≡ 1 + m = omega arith in
      ap (λ x. i.nested + in_brackets (length (tokens_of q)) (nesting q) x) at
      ∙ ap (λ x. i.nested + x) (in_brackets-at (length (tokens_of q)) (nesting q) m le) ∙ omega (arith, count);
  shallow = λ q k le. one_shallow i.nested (in_brackets (length (tokens_of q)) (nesting q)) refl
      (in_brackets-at (length (tokens_of q)) (nesting q) 0 (omega arith) ∙ ap (λ x. 1 + x) (nesting-zero q)) fine (k - 1) (omega arith);
  took = took;
  last_is = last;
  state = opened-select id o fs named is;
  holds = λ q g. tt;
}

-- the second expression of a select
inner-range : (least : ℕ) (i : Input) (fs : List Frame) (w : Between) (id o : Token) (j : Input) (x : Expr) (k : Input) (p : IsWhole (in_select id o ∷ fs) j x k) (b : Token) (l : Input)
    → least ≤ signed_strength → is_identifier id ≡ true → Is (codes "[") o → Is (between_text w) b → i.nested ≤ greatest_nesting
    → Took i.rest j.rest (id ∷ o ∷ []) → j.last ≡ i.last → j.nested ≡ i.nested + 1 → Took k.rest l.rest (b ∷ []) → l.last ≡ k.last → l.nested ≡ k.nested → l.nested ≤ greatest_nesting
    → Inner least i fs 0 l (in_range w id o (tree_of p.good.part.phrase) ∷ fs)
inner-range least i fs w id o j x k whole_p b l small named is b_is fine took last count took_b last_b count_b within =
    let p = whole_p.good.part in
    let tp = tokens_of p.phrase in
    let same = whole_nested (in_select id o ∷ fs) j x k whole_p in
    record {
      before = id ∷ o ∷ tp ++ b ∷ [];
      after_it = sign_token (codes "]") ∷ [];
      wrap = λ q. ranged w id o p.phrase b q (sign_token (codes "]"));
      tokens = λ q. ap (λ z. id ∷ o ∷ z) (append_assoc tp (b ∷ tokens_of q) (sign_token (codes "]") ∷ []) ∙ sym (append_assoc tp (b ∷ []) (tokens_of q ++ sign_token (codes "]") ∷ [])));
      grammar = λ q h g. (named, is, p.in_grammar, b_is, h, close_select_is);
      fits = λ q g. omega arith;
      nest = λ q m le.
          let len = length tp + 1 + length (tokens_of q) in
          let inner = one_after (length tp) (nesting p.phrase) (nesting q) in
          let at : length (id ∷ o ∷ tp ++ b ∷ []) + m - 1 ≡ 1 + (length tp + (1 + m)) = omega (arith, length-append tp (b ∷ [])) in
          ap (λ z. i.nested + in_brackets len inner z) at ∙ ap (λ z. i.nested + z) (in_brackets-at len inner (length tp + (1 + m)) (omega arith))
          ∙ ap (λ z. i.nested + (1 + z)) (one_after-second (length tp) (nesting p.phrase) (nesting q) m) ∙ omega (arith, count_b, same, count);
      shallow = λ q z le.
          let inner = one_after (length tp) (nesting p.phrase) (nesting q) in
          brackets_shallow_to i.nested (length tp + 1 + length (tokens_of q)) inner fine (length tp + 1) (omega arith)
          (λ m short. two_shallow (i.nested + 1) (length tp) inner
          (λ v v_short. let first = one_after-first (length tp) (nesting p.phrase) (nesting q) v v_short in let low = p.shallow v v_short in omega (arith, first, low, count))
          (let second = one_after-second (length tp) (nesting p.phrase) (nesting q) 0 in let none = nesting-zero q in omega (arith, second, none, count_b, same, count, within))
          m short)
          (z - 1) (omega (arith, le, length-append tp (b ∷ [])));
      took = Took-then i.rest k.rest l.rest (id ∷ o ∷ tp) (b ∷ []) (Took-then i.rest j.rest k.rest (id ∷ o ∷ []) tp took (whole_took (in_select id o ∷ fs) j x k whole_p)) took_b;
      last_is = last_b ∙ whole_last (in_select id o ∷ fs) j x k whole_p ∙ last;
      state = steps-append (step o (step id (wants fs))) tp (b ∷ []) ∙ ap (λ z. step b (steps z tp)) (opened-select id o fs named is)
          ∙ between-step w id o fs p.phrase (reads_phrase p.phrase p.in_grammar) b b_is;
      holds = λ q g. tt;
    }

-- what a select is before its `]`
pub record IsOpen (top : Input) (fs : List Frame) (id : Token) (i : Input) (found : Sel) (k : Input) : Type 0 where
  pub phrase : Token → Phrase
  pub body : List Token
  pub tokens : (c : Token) → tokens_of (phrase c) ≡ body ++ c ∷ []
  pub grammar : (c : Token) → Is (codes "]") c → IsPhrase (phrase c)
  pub tree_is : (c : Token) → tree_of (phrase c) ≡ e.Read (id_of id) (found ∷ [])
  pub strong : (c : Token) → strength (phrase c) ≡ full_strength
  pub none : (c : Token) → operators (phrase c) ≡ 0
  pub took : Took i.rest k.rest body
  pub last_is : k.last ≡ i.last
  pub shallow : (c : Token) (m : ℕ) → i.nested + nesting (phrase c) m ≤ greatest_nesting
  pub has_it : (c : Token) → Is (codes "]") c → steps (wants fs) (tokens_of (phrase c)) ≡ has (tree_of (phrase c)) fs
  pub stuck : ((t : Token) → Next k.rest t → is_this (codes "]") t ≡ false) → IsFinal top (refusal k)

range_ends : (w : Between) (id o : Token) (a : Expr) (fs : List Frame) (t : Token) (y : Expr) → is_this (codes "]") t ≡ false → closed t y (in_range w id o a ∷ fs) ≡ failed
range_ends w id o a fs t y h = rw h refl

-- a select of two expressions, from the sign between on
judged_range : (top : Input) (expr : ℕ → Parser Expr) (depth : ℕ) → IsReader top expr depth → (least : ℕ) → least ≤ signed_strength → (i : Input) (fs : List Frame) → Spot top least i fs
    → greatest_nesting + 1 ≤ i.nested + suc depth → (w : Between) (id o : Token) → is_identifier id ≡ true → Is (codes "[") o → (j : Input) → Took i.rest j.rest (id ∷ o ∷ []) → j.last ≡ i.last
    → j.nested ≡ i.nested + 1 → j.nested ≤ greatest_nesting → (x : Expr) (k : Input) → IsWhole (in_select id o ∷ fs) j x k → (b : Token) → Next k.rest b → Is (between_text w) b
    → Judged top (IsOpen top fs id i) (and_then (whole expr (after k)) (λ y m. Ok (range_of w o.place x y, m)))
judged_range top expr depth reader least small i fs s enough w id o named is j took last count within x k whole_p b b_next b_is =
    let p = whole_p.good.part in
    let fine = spot-small top least i fs s in
    let same = whole_nested (in_select id o ∷ fs) j x k whole_p in
    let f = in_range w id o (tree_of p.phrase) in
    let n = inner-range least i fs w id o j x k whole_p b (after k) small named is b_is fine took last count (Took-after k b b_next) (after-last k) (after-nested k)
    (omega (arith, after-nested k, same, within)) in
    let spot = inside top least i fs 0 (after k) (f ∷ fs) s n in
    judged_then top (IsWhole (f ∷ fs) (after k)) (IsOpen top fs id i) (whole expr (after k)) (λ y m. Ok (range_of w o.place x y, m))
    (judged_whole top expr depth reader (after k) (f ∷ fs) spot (omega (arith, after-nested k, same, count)))
    (λ y m whole_q.
    let q = whole_q.good.part in
    let tp = tokens_of p.phrase in
    let inner = one_after (length tp) (nesting p.phrase) (nesting q.phrase) in
    record {
      phrase = λ c. ranged w id o p.phrase b q.phrase c;
      body = id ∷ o ∷ tp ++ b ∷ tokens_of q.phrase;
      tokens = λ c. refl;
      grammar = λ c h. (named, is, p.in_grammar, b_is, q.in_grammar, h);
      tree_is = λ c. ap (λ z. e.Read (id_of id) (range_of w o.place z (tree_of q.phrase) ∷ [])) p.tree_is ∙ ap (λ z. e.Read (id_of id) (range_of w o.place x z ∷ [])) q.tree_is;
      strong = λ c. refl;
      none = λ c. refl;
      took = Took-then i.rest k.rest m.rest (id ∷ o ∷ tp) (b ∷ tokens_of q.phrase)
          (Took-then i.rest j.rest k.rest (id ∷ o ∷ []) tp took (whole_took (in_select id o ∷ fs) j x k whole_p))
          (Took-then k.rest (after k).rest m.rest (b ∷ []) (tokens_of q.phrase) (Took-after k b b_next) (whole_took (f ∷ fs) (after k) y m whole_q));
      last_is = whole_last (f ∷ fs) (after k) y m whole_q ∙ after-last k ∙ whole_last (in_select id o ∷ fs) j x k whole_p ∙ last;
      shallow = λ c z. brackets_shallow i.nested (length tp + 1 + length (tokens_of q.phrase)) inner fine
          (λ v v_short. range_shallow (i.nested + 1) (length tp) (nesting p.phrase) (nesting q.phrase) (length (tokens_of q.phrase))
          (λ u u_short. let low = p.shallow u u_short in omega (arith, low, count))
          (λ u u_short. let low = q.shallow u u_short in omega (arith, low, after-nested k, same, count)) v v_short) (z - 1);
      has_it = λ c h. has-ranged w id o p.phrase b q.phrase c (reads_phrase p.phrase p.in_grammar) (reads_phrase q.phrase q.in_grammar) (named, is, p.in_grammar, b_is, q.in_grammar, h) fs;
      stuck = λ no. whole_stuck top (after k) f fs spot y m whole_q tt refl (λ t t_next. range_ends w id o (tree_of p.phrase) fs t (tree_of q.phrase) (no t t_next));
    })

not_both : {b : Bool} → b ≡ false → b ≡ true → ⊥
not_both h k = cc

select_from_by : (top : Input) (expr : ℕ → Parser Expr) (depth : ℕ) → IsReader top expr depth → (least : ℕ) → least ≤ signed_strength → (i : Input) (fs : List Frame) → Spot top least i fs
    → greatest_nesting + 1 ≤ i.nested + suc depth → (id o : Token) → is_identifier id ≡ true → Is (codes "[") o → (j : Input) → Took i.rest j.rest (id ∷ o ∷ []) → j.last ≡ i.last
    → j.nested ≡ i.nested + 1 → j.nested ≤ greatest_nesting → Spot top 0 j (in_select id o ∷ fs) → (x : Expr) (k : Input) → IsWhole (in_select id o ∷ fs) j x k
    → (c d f : Bool) → sees (codes ":") k ≡ c → sees (codes "+:") k ≡ d → sees (codes "-:") k ≡ f
    → Judged top (IsOpen top fs id i)
    (if c then and_then (whole expr (after k)) (λ y m. Ok (sel.Part o.place x y, m))
    else (if d then and_then (whole expr (after k)) (λ y m. Ok (sel.Up o.place x y, m))
    else (if f then and_then (whole expr (after k)) (λ y m. Ok (sel.Down o.place x y, m))
    else Ok (sel.Bit o.place x, k))))
select_from_by top expr depth reader least small i fs s enough id o named is j took last count within spot x k p true d f hc hd hf =
    let found = sees-yes (codes ":") k hc in
    judged_range top expr depth reader least small i fs s enough down_to id o named is j took last count within x k p found.0 found.1.0 found.1.1
select_from_by top expr depth reader least small i fs s enough id o named is j took last count within spot x k p false true f hc hd hf =
    let found = sees-yes (codes "+:") k hd in
    judged_range top expr depth reader least small i fs s enough up_from id o named is j took last count within x k p found.0 found.1.0 found.1.1
select_from_by top expr depth reader least small i fs s enough id o named is j took last count within spot x k p false false true hc hd hf =
    let found = sees-yes (codes "-:") k hf in
    judged_range top expr depth reader least small i fs s enough down_from id o named is j took last count within x k p found.0 found.1.0 found.1.1
select_from_by top expr depth reader least small i fs s enough id o named is j took last count within spot x k whole_p false false false hc hd hf =
    let p = whole_p.good.part in
    record {
      phrase = λ c. selected id o p.phrase c;
      body = id ∷ o ∷ tokens_of p.phrase;
      tokens = λ c. refl;
      grammar = λ c h. (named, is, p.in_grammar, h);
      tree_is = λ c. ap (λ z. e.Read (id_of id) (sel.Bit o.place z ∷ [])) p.tree_is;
      strong = λ c. refl;
      none = λ c. refl;
      took = Took-then i.rest j.rest k.rest (id ∷ o ∷ []) (tokens_of p.phrase) took (whole_took (in_select id o ∷ fs) j x k whole_p);
      last_is = whole_last (in_select id o ∷ fs) j x k whole_p ∙ last;
      shallow = λ c z. brackets_shallow i.nested (length (tokens_of p.phrase)) (nesting p.phrase) (spot-small top least i fs s)
          (λ v v_short. let low = p.shallow v v_short in omega (arith, low, count)) (z - 1);
      has_it = λ c h. has-selected id o p.phrase c (reads_phrase p.phrase p.in_grammar) (named, is, p.in_grammar, h) fs;
      stuck = λ no. whole_stuck top j (in_select id o) fs spot x k whole_p tt refl
          (λ t t_next. rw (sees-no (codes ":") k hc t t_next, sees-no (codes "+:") k hd t t_next, sees-no (codes "-:") k hf t t_next, no t t_next) refl);
    }

judged_select : (top : Input) (expr : ℕ → Parser Expr) (depth : ℕ) → IsReader top expr depth → (least : ℕ) → least ≤ signed_strength → (i : Input) (fs : List Frame) → Spot top least i fs
    → greatest_nesting + 1 ≤ i.nested + suc depth → (id o : Token) → Next i.rest id → is_identifier id ≡ true → Next (after i).rest o → Is (codes "[") o
    → Judged top (λ found k. IsOperand fs i (e.Read (id_of id) (found ∷ [])) k) (select expr (after i))
unfolding select
judged_select top expr depth reader least small i fs s enough id o id_next named o_next is =
    let fine = spot-small top least i fs s in
    let good : Sel → Input → Type 0 = λ found k. IsOperand fs i (e.Read (id_of id) (found ∷ [])) k in
    let over = selected id o (number spare) (sign_token (codes "]")) in
    opened top (after i) (codes "[") o good _ o_next is
    (λ full. deep_at top least i fs s (after i) over (id ∷ []) o (spare ∷ sign_token (codes "]") ∷ []) (named, is, refl, close_select_is) (omega arith) refl
    (Took-after i id id_next) o_next
    (λ m le. brackets_one i.nested (in_brackets 1 (nesting (number spare))) refl fine m le)
    (let one = in_brackets-at 1 (nesting (number spare)) 0 (omega arith) in omega (arith, one, after-nested i, full)))
    (λ j took last count within.
    let took_both = Took-then i.rest (after i).rest j.rest (id ∷ []) (o ∷ []) (Took-after i id id_next) took in
    let last_both = last ∙ after-last i in
    let count_both : j.nested ≡ i.nested + 1 = omega (arith, count, after-nested i) in
    let n = inner-select least i fs id o j small named is took_both last_both count_both (omega (arith, count_both, within)) in
    let spot = inside top least i fs 0 j (in_select id o ∷ fs) s n in
    judged_then top (IsWhole (in_select id o ∷ fs) j) good (whole expr j) _ (judged_whole top expr depth reader j (in_select id o ∷ fs) spot (omega (arith, count_both)))
    (λ x k w.
    judged_then top (IsOpen top fs id i) good (select_from expr o.place x k) _
    (select_from_by top expr depth reader least small i fs s enough id o named is j took_both last_both count_both within spot x k w _ _ _ refl refl refl)
    (λ found m open_it.
    judged_then top (λ _ z. (z ≡ after m) × ((c : Token) × (Next m.rest c × (is_this (codes "]") c ≡ true)))) good (expect (codes "]") m) _
    (judged_expect top m (codes "]") open_it.stuck)
    (λ _ z closing.
    let c = closing.1.0 in
    let c_is = closing.1.1.1 in
    let P : Input → Type 0 = λ y. Took m.rest y.rest (c ∷ []) in
    let Q : List Token → Type 0 = λ ts. Took i.rest z.rest ts in
    primary_at fs i (open_it.phrase c) (open_it.grammar c c_is) (e.Read (id_of id) (found ∷ [])) (open_it.tree_is c) (open_it.strong c) (open_it.none c) (record z { nested = (after i).nested })
    (subst Q (sym (open_it.tokens c)) (Took-then i.rest m.rest z.rest open_it.body (c ∷ []) open_it.took (subst P (sym closing.0) (Took-after m c closing.1.1.0))))
    (ap (λ y. y.last) closing.0 ∙ after-last m ∙ open_it.last_is) (after-nested i) fine
    (λ y le. open_it.shallow c y)
    (λ t t_next t_is. ap (step t) (open_it.has_it c c_is) ∙ select_fails t t_is (tree_of (open_it.phrase c)) fs)))))

read_by : (top : Input) (expr : ℕ → Parser Expr) (depth : ℕ) → IsReader top expr depth → (least : ℕ) → least ≤ signed_strength → (i : Input) (fs : List Frame) → Spot top least i fs
    → greatest_nesting + 1 ≤ i.nested + suc depth → (id : Token) → Next i.rest id → is_identifier id ≡ true → (c : Bool) → sees (codes "[") (after i) ≡ c
    → Judged top (IsOperand fs i) (and_then (if c then and_then (select expr (after i)) (λ found k. Ok (found ∷ [], k)) else Ok ([], after i)) (λ found k. Ok (e.Read (id_of id) found, k)))
read_by top expr depth reader least small i fs s enough id id_next named false h =
    primary_at fs i (name id) named (e.Read (id_of id) []) refl refl refl (after i) (Took-after i id id_next) (after-last i) (after-nested i) (spot-small top least i fs s)
    (λ m le. let fine = spot-small top least i fs s in omega (arith, fine)) (λ t t_next is. absurd (not_both (sees-no (codes "[") (after i) h t t_next) is))
read_by top expr depth reader least small i fs s enough id id_next named true h =
    let found = sees-yes (codes "[") (after i) h in
    let listed : List Sel → Input → Type 0 = λ xs k. IsOperand fs i (e.Read (id_of id) xs) k in
    judged_then top listed (IsOperand fs i) (and_then (select expr (after i)) (λ x k. Ok (x ∷ [], k))) (λ xs k. Ok (e.Read (id_of id) xs, k))
    (judged_then top (λ x k. IsOperand fs i (e.Read (id_of id) (x ∷ [])) k) listed (select expr (after i)) (λ x k. Ok (x ∷ [], k))
    (judged_select top expr depth reader least small i fs s enough id found.0 id_next named found.1.0 found.1.1) (λ x k h2. h2))
    (λ xs k h2. h2)

pub judged_read : (top : Input) (expr : ℕ → Parser Expr) (depth : ℕ) → IsReader top expr depth → (least : ℕ) → least ≤ signed_strength → (i : Input) (fs : List Frame) → Spot top least i fs
    → greatest_nesting + 1 ≤ i.nested + suc depth → (id : Token) → Next i.rest id → is_identifier id ≡ true → Judged top (IsOperand fs i) (read expr i)
unfolding read selects
judged_read top expr depth reader least small i fs s enough id id_next named =
    judged_take top (IsOperand fs i) i id _ id_next (read_by top expr depth reader least small i fs s enough id id_next named _ refl)
