-- What reading gives for operands without signs.
use Rattle.std.proofs.Common.{◌≡◌, ◌∙◌, inl, inr, ℕ, zero, suc, ◌+◌, ◌-◌, ◌<◌, ◌≤◌, ◌==◌, Bool, true, false, nat_le, List, [], ◌∷◌, length, Some, None, Ok, Err, refl, sym, ap, subst, arith, codes, append-nil, if◌then◌else◌}
use Rattle.std.proofs.lemmas.Bool.{lt-leb, ne_eqb}
use Rattle.sv_lexer.specs.declared.token.Token.{Token}
use Rattle.sv_lexer.specs.declared.token.TokenKind.TheVariants as kind
use Rattle.sv_ast.specs.declared.expression.Id.{Id}
use Rattle.sv_ast.specs.declared.expression.Expr.{Expr}
use Rattle.sv_ast.specs.declared.expression.Expr.TheVariants as e
use Rattle.sv_base.specs.declared.fault.Fault.TheVariants.{Refused}
use Rattle.expr_parser.specs.Outcome.{nesting_refusal}
use Rattle.expr_parser.specs.Spelling.{is_this, is_function, binds}
use Rattle.expr_parser.specs.Grammar.{Phrase, number, fill, group, call, tokens_of, tree_of, id_of, Is, IsPhrase, strength, signed_strength, full_strength}
use Rattle.expr_parser.specs.Nesting.{nesting, operators, in_brackets, one_after, greatest_nesting}
use Rattle.expr_parser.specs.Input.{Input, Outcome, Parser, after, next, ahead, sees, and_then, rise, take_id, refusal, refuse, expect}
use Rattle.expr_parser.specs.Reading.{opening, whole, select, parenthesised, system}
use Rattle.expr_parser.proofs.Machine.{Frame, under_sign, behind_left, in_first, in_second, in_group, in_call, in_select, in_range, in_braces, in_parts, wants, wants_argument, has, failed, reduce, closed, went_on, begun, step, steps, operand_of}
use Rattle.expr_parser.proofs.Took.{Took, Took-none, Took-then}
use Rattle.expr_parser.proofs.Roles.{not_this, binds-this, left_least-small, select-none, start_of-function, start_of-number, start_of-fill, start_of-group}
use Rattle.expr_parser.proofs.Complete.{Holds, reads_phrase, has-group, has-call}
use Rattle.expr_parser.proofs.Spot.{IsFinal, Judged, judged_then, Spot, Inner, inside, cases_le}
use Rattle.expr_parser.proofs.Part.{Next, spare, deep_at, stuck_at, risen, spot-small, judged_expect, judged_take, sees-yes, sees-no, Took-after, after-last, after-nested}
use Rattle.expr_parser.proofs.Inners.{nesting-zero, in_brackets-at, one_after-first, one_after-second, one_shallow}
use Rattle.expr_parser.proofs.Operators.{IsReader, IsOperand, whole_fails, whole_unfinished}
use Rattle.expr_parser.proofs.Levels.{IsWhole, judged_whole}

-- ---- signs that stand for any

abbrev pub sign_token : List ℕ → Token
sign_token text = record { kind = kind.Sign; text = text; place = record { file = 0; line = 0 } }

pub close_group_is : Is (codes ")") (sign_token (codes ")"))
unfolding is_this
close_group_is = refl

pub open_group_is : Is (codes "(") (sign_token (codes "("))
unfolding is_this
open_group_is = refl

pub close_select_is : Is (codes "]") (sign_token (codes "]"))
unfolding is_this
close_select_is = refl

-- ---- operands that the machine has

closed-select : (t : Token) → Is (codes "[") t → (x : Expr) (fs : List Frame) → closed t x fs ≡ failed
closed-select t h x [] = refl
closed-select t h x (under_sign s ∷ fs) = refl
closed-select t h x (behind_left l s ∷ fs) = refl
closed-select t h x (in_first c q ∷ fs) = rw (not_this (codes "[") (codes ":") t h refl) refl
closed-select t h x (in_second c q m ∷ fs) = refl
closed-select t h x (in_group ∷ fs) = rw (not_this (codes "[") (codes ")") t h refl) refl
closed-select t h x (in_call f ∷ fs) = rw (not_this (codes "[") (codes ")") t h refl) refl
closed-select t h x (in_select id o ∷ fs) =
    rw (not_this (codes "[") (codes ":") t h refl, not_this (codes "[") (codes "+:") t h refl, not_this (codes "[") (codes "-:") t h refl, not_this (codes "[") (codes "]") t h refl) refl
closed-select t h x (in_range w id o a ∷ fs) = rw (not_this (codes "[") (codes "]") t h refl) refl
closed-select t h x (in_braces o ys ∷ fs) =
    rw (not_this (codes "[") (codes "{") t h refl, not_this (codes "[") (codes ",") t h refl, not_this (codes "[") (codes "}") t h refl) refl
closed-select t h x (in_parts o n ys ∷ fs) = rw (not_this (codes "[") (codes ",") t h refl, not_this (codes "[") (codes "}") t h refl) refl

-- behind an operand that is no name stands no select
pub select_fails : (t : Token) → Is (codes "[") t → (x : Expr) (fs : List Frame) → step t (has x fs) ≡ failed
select_fails t h x fs =
    let none : binds t ≡ 0 = binds-this (codes "[") t h ∙ select-none in
    let plain : went_on t x fs ≡ closed t (reduce 0 fs x).0 (reduce 0 fs x).1 = rw (none, not_this (codes "[") (codes "?") t h refl) refl in
    plain ∙ closed-select t h (reduce 0 fs x).0 (reduce 0 fs x).1

pub primary_at : (fs : List Frame) (i : Input) (p : Phrase) → IsPhrase p → (tree : Expr) → tree_of p ≡ tree → strength p ≡ full_strength → operators p ≡ 0 → (k : Input)
    → Took i.rest k.rest (tokens_of p) → k.last ≡ i.last → k.nested ≡ i.nested → i.nested ≤ greatest_nesting
    → ((m : ℕ) → m ≤ length (tokens_of p) → i.nested + nesting p m ≤ greatest_nesting)
    → ((t : Token) → Next k.rest t → is_this (codes "[") t ≡ true → step t (steps (wants fs) (tokens_of p)) ≡ failed)
    → IsOperand fs i tree k
primary_at fs i p h tree tree_is strong none k took last count small shallow select = record {
  part = record {
    phrase = p;
    in_grammar = h;
    tree_is = tree_is;
    took = took;
    last_is = last;
    nested_is = omega (arith, count, none);
    small = omega (arith, count, small);
    shallow = shallow;
    binds_less = λ t is_next some. omega (arith, left_least-small t, strong);
    no_select = select;
  };
  strong = omega (arith, strong);
}

-- ---- brackets

brackets_beyond : (len : ℕ) (f : ℕ → ℕ) (n : ℕ) → 1 + len < n → in_brackets len f n ≡ 0
brackets_beyond len f n h =
    let some : (n == 0) ≡ false = ne_eqb n 0 (omega arith) in
    let beyond : nat_le n (1 + len) ≡ false = lt-leb n (1 + len) (omega arith) in
    rw (some, beyond) refl

pub brackets_shallow : (base len : ℕ) (f : ℕ → ℕ) → base ≤ greatest_nesting → ((m : ℕ) → m ≤ len → base + 1 + f m ≤ greatest_nesting)
    → (n : ℕ) → base + in_brackets len f n ≤ greatest_nesting
brackets_shallow base len f small low zero = omega arith
brackets_shallow base len f small low (suc n) =
    elim (cases_le n len) [
      | inl within ↦
          let at : suc n ≡ 1 + n = omega arith in
          let here = in_brackets-at len f n within in
          let fine = low n within in
          let P : ℕ → Type 0 = λ x. base + in_brackets len f x ≤ greatest_nesting in
          subst P (sym at) (omega (arith, here, fine))
      | inr beyond ↦ let here = brackets_beyond len f (suc n) (omega arith) in omega (arith, here)
    ]

-- the same up to a place inside
pub brackets_shallow_to : (base len : ℕ) (f : ℕ → ℕ) → base ≤ greatest_nesting → (most : ℕ) → most ≤ len → ((m : ℕ) → m ≤ most → base + 1 + f m ≤ greatest_nesting)
    → (n : ℕ) → n ≤ 1 + most → base + in_brackets len f n ≤ greatest_nesting
brackets_shallow_to base len f small most short low zero le = omega arith
brackets_shallow_to base len f small most short low (suc n) le =
    let at : suc n ≡ 1 + n = omega arith in
    let here = in_brackets-at len f n (omega arith) in
    let fine = low n (omega arith) in
    let P : ℕ → Type 0 = λ x. base + in_brackets len f x ≤ greatest_nesting in
    subst P (sym at) (omega (arith, here, fine))

-- two expressions with a token between
pub range_shallow : (base len : ℕ) (f g : ℕ → ℕ) (other : ℕ) → ((m : ℕ) → m ≤ len → base + f m ≤ greatest_nesting) → ((m : ℕ) → m ≤ other → base + g m ≤ greatest_nesting)
    → (n : ℕ) → n ≤ len + 1 + other → base + one_after len f g n ≤ greatest_nesting
range_shallow base len f g other low high n le =
    elim (cases_le n len) [
      | inl short ↦ let here = one_after-first len f g n short in let fine = low n short in omega (arith, here, fine)
      | inr long ↦
          let at : n ≡ len + (1 + (n - len - 1)) = omega arith in
          let here = one_after-second len f g (n - len - 1) in
          let fine = high (n - len - 1) (omega arith) in
          let P : ℕ → Type 0 = λ x. base + one_after len f g x ≤ greatest_nesting in
          subst P (sym at) (omega (arith, here, fine))
    ]

joined : {B : Type 0} (top : Input) (good : B → Input → Type 0) (o : Outcome (Unit {0})) (f : Id → Parser B)
    → Judged top good (and_then o (λ _ i1. and_then (take_id i1) f)) → Judged top good (and_then (and_then o (λ _. take_id)) f)
joined top good (Ok p) f h = h
joined top good (Err e) f h = h

sees-there : (text : List ℕ) (i : Input) (t : Token) → Next i.rest t → is_this text t ≡ true → sees text i ≡ true
unfolding sees next ahead
sees-there text i t is_next is = rw is_next is

-- an opening bracket is read where it stands
pub opened : {B : Type 0} (top i : Input) (text : List ℕ) (t : Token) (good : B → Input → Type 0) (f : Id → Parser B) → Next i.rest t → is_this text t ≡ true
    → (greatest_nesting ≤ i.nested → IsFinal top (Refused (nesting_refusal t)))
    → ((j : Input) → Took i.rest j.rest (t ∷ []) → j.last ≡ i.last → j.nested ≡ i.nested + 1 → j.nested ≤ greatest_nesting → Judged top good (f (id_of t) j))
    → Judged top good (and_then (opening text i) f)
opened top i text t good f is_next is deep k =
    let P : Bool → Type 0 = λ c. Judged top good (and_then (if c then and_then (rise i) (λ _. take_id) else refuse i) f) in
    subst P (sym (sees-there text i t is_next is)) (joined top good (rise i) f (risen top i t good f is_next deep k))

-- ---- what is in parentheses

pub inner-group : (least : ℕ) (i : Input) (fs : List Frame) (o : Token) (j : Input) → least ≤ signed_strength → Is (codes "(") o
    → Took i.rest j.rest (o ∷ []) → j.last ≡ i.last → j.nested ≡ i.nested + 1 → i.nested + 1 ≤ greatest_nesting → Inner least i fs 0 j (in_group ∷ fs)
inner-group least i fs o j small is took last count fine = record {
  before = o ∷ [];
  after_it = sign_token (codes ")") ∷ [];
  wrap = λ q. group o q (sign_token (codes ")"));
  tokens = λ q. refl;
  grammar = λ q h f. (is, h, close_group_is);
  fits = λ q f. omega arith;
  nest = λ q m le. ap (λ x. i.nested + x) (in_brackets-at (length (tokens_of q)) (nesting q) m le) ∙ omega (arith, count);
  shallow = λ q k le. one_shallow i.nested (in_brackets (length (tokens_of q)) (nesting q)) refl
      (in_brackets-at (length (tokens_of q)) (nesting q) 0 (omega arith) ∙ ap (λ x. 1 + x) (nesting-zero q)) fine k le;
  took = took;
  last_is = last;
  state = ap (λ k. begun k o fs) (start_of-group o is);
  holds = λ q f. tt;
}

-- ---- a whole expression in brackets

pub whole_took : (fs : List Frame) (i : Input) (tree : Expr) (k : Input) → (w : IsWhole fs i tree k) → Took i.rest k.rest (tokens_of w.good.part.phrase)
whole_took fs i tree k w = let P : Input → Type 0 = λ z. Took i.rest z.rest (tokens_of w.good.part.phrase) in subst P (sym w.is) w.good.part.took

pub whole_next : (fs : List Frame) (i : Input) (tree : Expr) (k : Input) → (w : IsWhole fs i tree k) → (t : Token) → Next k.rest t → Next w.there.rest t
whole_next fs i tree k w t h = let P : Input → Type 0 = λ z. Next z.rest t in subst P w.is h

pub whole_last : (fs : List Frame) (i : Input) (tree : Expr) (k : Input) → (w : IsWhole fs i tree k) → k.last ≡ i.last
whole_last fs i tree k w = ap (λ z. z.last) w.is ∙ w.good.part.last_is

pub whole_nested : (fs : List Frame) (i : Input) (tree : Expr) (k : Input) → (w : IsWhole fs i tree k) → k.nested ≡ i.nested
whole_nested fs i tree k w = ap (λ z. z.nested) w.is

-- no token that may stand behind the expression comes next
pub whole_stuck : (top j : Input) (f : Frame) (fs : List Frame) → Spot top 0 j (f ∷ fs) → (tree : Expr) (k : Input) (w : IsWhole (f ∷ fs) j tree k)
    → Holds (f ∷ fs) (strength w.good.part.phrase) → reduce 0 (f ∷ fs) (tree_of w.good.part.phrase) ≡ (tree_of w.good.part.phrase, f ∷ fs)
    → ((t : Token) → Next k.rest t → closed t (tree_of w.good.part.phrase) (f ∷ fs) ≡ failed) → IsFinal top (refusal k)
whole_stuck top j f fs s tree k w holds rests ends =
    let g = w.good in
    let q = g.part.phrase in
    stuck_at top 0 j (f ∷ fs) s k q (tokens_of q) [] g.part.in_grammar g.fits (sym (append-nil (tokens_of q))) (whole_took (f ∷ fs) j tree k w) (whole_last (f ∷ fs) j tree k w) g.part.shallow
    (λ t t_next. let there = whole_next (f ∷ fs) j tree k w t t_next in
    whole_fails f fs q g.part.in_grammar holds rests t (g.stops t there) (g.no_question refl t there) (g.part.no_select t there) (ends t t_next))
    (whole_unfinished f fs q g.part.in_grammar holds rests)

-- what a call that reads parentheses gives
pub record IsParen (f : Frame) (fs : List Frame) (o : Token) (i : Input) (tree : Expr) (k : Input) : Type 0 where
  pub there : Input
  pub took_open : Took i.rest there.rest (o ∷ [])
  pub last_open : there.last ≡ i.last
  pub count : there.nested ≡ i.nested + 1
  pub end : Input
  pub inside_it : IsWhole (f ∷ fs) there tree end
  pub close : Token
  pub close_is : Is (codes ")") close
  pub took_close : Took end.rest k.rest (close ∷ [])
  pub last_close : k.last ≡ end.last
  pub nested_is : k.nested ≡ i.nested

pub judged_paren : (top : Input) (expr : ℕ → Parser Expr) (depth : ℕ) → IsReader top expr depth → (least : ℕ) (i : Input) (fs : List Frame) → Spot top least i fs
    → greatest_nesting + 1 ≤ i.nested + suc depth → (j0 : Input) → j0.nested ≡ i.nested → (f : Frame) → ((y : Expr) → reduce 0 (f ∷ fs) y ≡ (y, f ∷ fs)) → ((x : ℕ) → Holds (f ∷ fs) x)
    → ((t : Token) (y : Expr) → is_this (codes ")") t ≡ false → closed t y (f ∷ fs) ≡ failed)
    → (o : Token) → Next j0.rest o → Is (codes "(") o → (greatest_nesting ≤ j0.nested → IsFinal top (Refused (nesting_refusal o)))
    → ((j : Input) → Took j0.rest j.rest (o ∷ []) → j.last ≡ j0.last → j.nested ≡ j0.nested + 1 → j.nested ≤ greatest_nesting → Inner least i fs 0 j (f ∷ fs))
    → Judged top (IsParen f fs o j0) (parenthesised expr j0)
unfolding parenthesised
judged_paren top expr depth reader least i fs s enough j0 same f rests holds ends o o_next o_is deep mk =
    opened top j0 (codes "(") o (IsParen f fs o j0) _ o_next o_is deep
    (λ j took last count within.
    let n = mk j took last count within in
    let spot = inside top least i fs 0 j (f ∷ fs) s n in
    judged_then top (IsWhole (f ∷ fs) j) (IsParen f fs o j0) (whole expr j) _ (judged_whole top expr depth reader j (f ∷ fs) spot (omega (arith, count, same)))
    (λ x k w.
    judged_then top (λ _ m. (m ≡ after k) × ((c : Token) × (Next k.rest c × (is_this (codes ")") c ≡ true)))) (IsParen f fs o j0) (expect (codes ")") k) _
    (judged_expect top k (codes ")") (λ no. whole_stuck top j f fs spot x k w (holds (strength w.good.part.phrase)) (rests (tree_of w.good.part.phrase)) (λ t t_next. ends t _ (no t t_next))))
    (λ _ m found. record {
      there = j;
      took_open = took;
      last_open = last;
      count = count;
      end = k;
      inside_it = w;
      close = found.1.0;
      close_is = found.1.1.1;
      took_close = let P : Input → Type 0 = λ z. Took k.rest z.rest (found.1.0 ∷ []) in subst P (sym found.0) (Took-after k found.1.0 found.1.1.0);
      last_close = ap (λ z. z.last) found.0 ∙ after-last k;
      nested_is = refl;
    })))

-- nothing was read, so nothing is open
pub one_shallow_none : (i : Input) (p : Phrase) → nesting p 0 ≡ 0 → i.nested ≤ greatest_nesting → (k : ℕ) → k ≤ 0 → i.nested + nesting p k ≤ greatest_nesting
one_shallow_none i p none fine k le =
    let at : k ≡ 0 = omega arith in let P : ℕ → Type 0 = λ x. i.nested + nesting p x ≤ greatest_nesting in subst P (sym at) (omega (arith, none))

group_ends : (fs : List Frame) (t : Token) (y : Expr) → is_this (codes ")") t ≡ false → closed t y (in_group ∷ fs) ≡ failed
group_ends fs t y h = rw h refl

-- "(" expr ")"
pub judged_group : (top : Input) (expr : ℕ → Parser Expr) (depth : ℕ) → IsReader top expr depth → (least : ℕ) → least ≤ signed_strength → (i : Input) (fs : List Frame) → Spot top least i fs
    → greatest_nesting + 1 ≤ i.nested + suc depth → (o : Token) → Next i.rest o → Is (codes "(") o → Judged top (IsParen in_group fs o i) (parenthesised expr i)
judged_group top expr depth reader least small i fs s enough o o_next o_is =
    let fine = spot-small top least i fs s in
    let over = group o (number spare) (sign_token (codes ")")) in
    judged_paren top expr depth reader least i fs s enough i refl in_group (λ y. refl) (λ x. tt) (group_ends fs) o o_next o_is
    (λ full. deep_at top least i fs s i over [] o (spare ∷ sign_token (codes ")") ∷ []) (o_is, refl, close_group_is) (omega arith) refl (Took-none i.rest) o_next
    (λ k le. one_shallow_none i over refl fine k le)
    (let one = in_brackets-at 1 (nesting (number spare)) 0 (omega arith) in omega (arith, one)))
    (λ j took last count within. inner-group least i fs o j small o_is took last count (omega (arith, count, within)))

pub group_operand : (least : ℕ) (i : Input) (fs : List Frame) → i.nested ≤ greatest_nesting → (o : Token) → Is (codes "(") o → (x : Expr) (k : Input) → IsParen in_group fs o i x k → IsOperand fs i x k
group_operand least i fs fine o o_is x k p =
    let g = p.inside_it.good in
    let q = g.part.phrase in
    let whole_phrase = group o q p.close in
    let h : IsPhrase whole_phrase = (o_is, g.part.in_grammar, p.close_is) in
    primary_at fs i whole_phrase h x g.part.tree_is refl refl k
    (Took-then i.rest p.end.rest k.rest (o ∷ tokens_of q) (p.close ∷ []) (Took-then i.rest p.there.rest p.end.rest (o ∷ []) (tokens_of q) p.took_open (whole_took (in_group ∷ fs) p.there x p.end p.inside_it)) p.took_close)
    (p.last_close ∙ whole_last (in_group ∷ fs) p.there x p.end p.inside_it ∙ p.last_open) p.nested_is fine
    (λ m le. brackets_shallow i.nested (length (tokens_of q)) (nesting q) fine (λ n within. let low = g.part.shallow n within in omega (arith, low, p.count)) m)
    (λ t t_next is. ap (step t) (has-group o q p.close (reads_phrase q g.part.in_grammar) h fs) ∙ select_fails t is (tree_of q) fs)

-- ---- a system function

pub no_operand : (p : Expr × List Frame) → None ≡ Some p → ⊥
no_operand p h = cc

-- the token before a bracket counts nothing
pub brackets_one : (base : ℕ) (f : ℕ → ℕ) → f 0 ≡ 0 → base ≤ greatest_nesting → (m : ℕ) → m ≤ 1 → base + f (m - 1) ≤ greatest_nesting
brackets_one base f none fine m le =
    let at : m - 1 ≡ 0 = omega arith in let P : ℕ → Type 0 = λ x. base + f x ≤ greatest_nesting in subst P (sym at) (omega (arith, none))

paren_absent : {B : Type 0} (top : Input) (expr : ℕ → Parser Expr) (i : Input) (good : B → Input → Type 0) (f : Expr → Parser B) → sees (codes "(") i ≡ false → IsFinal top (refusal i)
    → Judged top good (and_then (parenthesised expr i) f)
unfolding parenthesised
paren_absent top expr i good f none final =
    let P : Bool → Type 0 = λ c. Judged top good (and_then (and_then (if c then and_then (rise i) (λ _. take_id) else refuse i)
    (λ _ i1. and_then (whole expr i1) (λ tree i2. and_then (expect (codes ")") i2) (λ _ i3. Ok (tree, record i3 { nested = i.nested }))))) f) in
    subst P (sym none) final

inner-call : (least : ℕ) (i : Input) (fs : List Frame) (f o : Token) (j : Input) → least ≤ signed_strength → is_function f ≡ true → Is (codes "(") o
    → Took i.rest j.rest (f ∷ o ∷ []) → j.last ≡ i.last → j.nested ≡ i.nested + 1 → i.nested + 1 ≤ greatest_nesting → Inner least i fs 0 j (in_call f ∷ fs)
inner-call least i fs f o j small function is took last count fine = record {
  before = f ∷ o ∷ [];
  after_it = sign_token (codes ")") ∷ [];
  wrap = λ q. call f o q (sign_token (codes ")"));
  tokens = λ q. refl;
  grammar = λ q h g. (function, is, h, close_group_is);
  fits = λ q g. omega arith;
  nest = λ q m le.
      let at : 2 + m - 1 ≡ 1 + m = omega arith in
      ap (λ x. i.nested + in_brackets (length (tokens_of q)) (nesting q) x) at
      ∙ ap (λ x. i.nested + x) (in_brackets-at (length (tokens_of q)) (nesting q) m le) ∙ omega (arith, count);
  shallow = λ q k le. one_shallow i.nested (in_brackets (length (tokens_of q)) (nesting q)) refl
      (in_brackets-at (length (tokens_of q)) (nesting q) 0 (omega arith) ∙ ap (λ x. 1 + x) (nesting-zero q)) fine (k - 1) (omega arith);
  took = took;
  last_is = last;
  state = ap (λ k. step o (begun k f fs)) (start_of-function f function) ∙ rw is refl;
  holds = λ q g. tt;
}

call_ends : (f : Token) (fs : List Frame) (t : Token) (y : Expr) → is_this (codes ")") t ≡ false → closed t y (in_call f ∷ fs) ≡ failed
call_ends f fs t y h = rw h refl

system_by : (top : Input) (expr : ℕ → Parser Expr) (depth : ℕ) → IsReader top expr depth → (least : ℕ) → least ≤ signed_strength → (i : Input) (fs : List Frame) → Spot top least i fs
    → greatest_nesting + 1 ≤ i.nested + suc depth → (f : Token) → Next i.rest f → is_function f ≡ true → (c : Bool) → sees (codes "(") (after i) ≡ c
    → Judged top (IsOperand fs i) (and_then (parenthesised expr (after i)) (λ argument k. Ok (e.System (id_of f) argument, k)))
system_by top expr depth reader least small i fs s enough f f_next function false h =
    let state : steps (wants fs) (f ∷ []) ≡ wants_argument f fs = ap (λ k. begun k f fs) (start_of-function f function) in
    let fine = spot-small top least i fs s in
    let over = call f (sign_token (codes "(")) (number spare) (sign_token (codes ")")) in
    paren_absent top expr (after i) (IsOperand fs i) (λ argument k. Ok (e.System (id_of f) argument, k)) h
    (stuck_at top least i fs s (after i) over (f ∷ []) (sign_token (codes "(") ∷ spare ∷ sign_token (codes ")") ∷ []) (function, open_group_is, refl, close_group_is) (omega arith) refl
    (Took-after i f f_next) (after-last i)
    (λ m le. brackets_one i.nested (in_brackets 1 (nesting (number spare))) refl fine m le)
    (λ t t_next. ap (step t) state ∙ rw (sees-no (codes "(") (after i) h t t_next) refl)
    (λ x gs is none. no_operand (x, gs) (sym (ap operand_of state) ∙ is)))
system_by top expr depth reader least small i fs s enough f f_next function true h =
    let fine = spot-small top least i fs s in
    let found = sees-yes (codes "(") (after i) h in
    let o = found.0 in
    let over = call f o (number spare) (sign_token (codes ")")) in
    judged_then top (IsParen (in_call f) fs o (after i)) (IsOperand fs i) (parenthesised expr (after i)) (λ argument k. Ok (e.System (id_of f) argument, k))
    (judged_paren top expr depth reader least i fs s enough (after i) (after-nested i) (in_call f) (λ y. refl) (λ x. tt) (call_ends f fs) o found.1.0 found.1.1
    (λ full. deep_at top least i fs s (after i) over (f ∷ []) o (spare ∷ sign_token (codes ")") ∷ []) (function, found.1.1, refl, close_group_is) (omega arith) refl
    (Took-after i f f_next) found.1.0
    (λ m le. brackets_one i.nested (in_brackets 1 (nesting (number spare))) refl fine m le)
    (let one = in_brackets-at 1 (nesting (number spare)) 0 (omega arith) in omega (arith, one, after-nested i, full)))
    (λ j took last count within. inner-call least i fs f o j small function found.1.1
    (Took-then i.rest (after i).rest j.rest (f ∷ []) (o ∷ []) (Took-after i f f_next) took) (last ∙ after-last i) (omega (arith, count, after-nested i)) (omega (arith, count, after-nested i, within))))
    (λ x k p.
    let g = p.inside_it.good in
    let q = g.part.phrase in
    let h2 : IsPhrase (call f o q p.close) = (function, found.1.1, g.part.in_grammar, p.close_is) in
    primary_at fs i (call f o q p.close) h2 (e.System (id_of f) x) (ap (λ z. e.System (id_of f) z) g.part.tree_is) refl refl k
    (Took-then i.rest p.end.rest k.rest (f ∷ o ∷ tokens_of q) (p.close ∷ [])
    (Took-then i.rest p.there.rest p.end.rest (f ∷ o ∷ []) (tokens_of q) (Took-then i.rest (after i).rest p.there.rest (f ∷ []) (o ∷ []) (Took-after i f f_next) p.took_open)
    (whole_took (in_call f ∷ fs) p.there x p.end p.inside_it)) p.took_close)
    (p.last_close ∙ whole_last (in_call f ∷ fs) p.there x p.end p.inside_it ∙ p.last_open ∙ after-last i) (p.nested_is ∙ after-nested i) fine
    (λ m le. brackets_shallow i.nested (length (tokens_of q)) (nesting q) fine (λ n within. let low = g.part.shallow n within in omega (arith, low, p.count, after-nested i)) (m - 1))
    (λ t t_next is. ap (step t) (has-call f o q p.close (reads_phrase q g.part.in_grammar) h2 fs) ∙ select_fails t is (e.System (id_of f) (tree_of q)) fs))

pub judged_system : (top : Input) (expr : ℕ → Parser Expr) (depth : ℕ) → IsReader top expr depth → (least : ℕ) → least ≤ signed_strength → (i : Input) (fs : List Frame) → Spot top least i fs
    → greatest_nesting + 1 ≤ i.nested + suc depth → (f : Token) → Next i.rest f → is_function f ≡ true → Judged top (IsOperand fs i) (system expr i)
unfolding system
judged_system top expr depth reader least small i fs s enough f f_next function =
    judged_take top (IsOperand fs i) i f _ f_next (system_by top expr depth reader least small i fs s enough f f_next function _ refl)

-- ---- numbers and fills

pub judged_number : (top i : Input) (fs : List Frame) → i.nested ≤ greatest_nesting → (t : Token) → Next i.rest t → t.kind ≡ kind.Number
    → Judged top (IsOperand fs i) (and_then (take_id i) (λ x k. Ok (e.Number x, k)))
judged_number top i fs fine t t_next is =
    judged_take top (IsOperand fs i) i t (λ x k. Ok (e.Number x, k)) t_next
    (primary_at fs i (number t) is (e.Number (id_of t)) refl refl refl (after i) (Took-after i t t_next) (after-last i) (after-nested i) fine (λ m le. omega arith)
    (λ u u_next h. ap (λ k. step u (begun k t fs)) (start_of-number t is) ∙ select_fails u h (e.Number (id_of t)) fs))

pub judged_fill : (top i : Input) (fs : List Frame) → i.nested ≤ greatest_nesting → (t : Token) → Next i.rest t → t.kind ≡ kind.Fill
    → Judged top (IsOperand fs i) (and_then (take_id i) (λ x k. Ok (e.Fill x, k)))
judged_fill top i fs fine t t_next is =
    judged_take top (IsOperand fs i) i t (λ x k. Ok (e.Fill x, k)) t_next
    (primary_at fs i (fill t) is (e.Fill (id_of t)) refl refl refl (after i) (Took-after i t t_next) (after-last i) (after-nested i) fine (λ m le. omega arith)
    (λ u u_next h. ap (λ k. step u (begun k t fs)) (start_of-fill t is) ∙ select_fails u h (e.Fill (id_of t)) fs))
