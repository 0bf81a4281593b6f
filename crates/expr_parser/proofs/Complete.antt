-- The machine reads each phrase of the grammar, whatever stands around it.
use Rattle.std.proofs.Common.{◌≡◌, ◌∙◌, ℕ, ◌<◌, ◌≤◌, Bool, true, false, List, [], ◌∷◌, ◌++◌, Some, None, refl, sym, ap, arith, codes, if◌then◌else◌, append_assoc}
use Rattle.std.proofs.lemmas.Bool.{le-leb, lt-leb, ne_eqb, eq-eqb, lt-ltb}
use Rattle.std.specs.Str.{bytes_eq}
use Rattle.sv_lexer.specs.declared.token.Token.{Token}
use Rattle.sv_ast.specs.declared.expression.Expr.{Expr}
use Rattle.sv_ast.specs.declared.expression.Expr.TheVariants as e
use Rattle.sv_base.specs.Operators.{binary_of}
use Rattle.expr_parser.specs.Spelling.{is_identifier, is_this, precedence, binds, left_least, right_least}
use Rattle.expr_parser.specs.Grammar.{Between, down_to, up_from, down_from, Phrase, number, fill, name, selected, ranged, group, concat, repeat, call, unary, binary, choice, Phrases, only, more, tokens_of, all_tokens_of, tree_of, trees_of, id_of, strength, Is, between_text, IsPhrase, ArePhrases, Reads, signed_strength}
use Rattle.expr_parser.proofs.Machine.{Frame, under_sign, behind_left, in_first, in_second, in_group, in_call, in_select, in_range, in_braces, in_parts, State, wants, wants_argument, has_name, has, wants_brace, failed, reduce, closed, went_on, begun, step, steps, operand_of}
use Rattle.expr_parser.proofs.Roles.{not_this, binds-this, binds-not_this, start_of-name, start_of-function, start_of-sign, start_of-number, start_of-fill, start_of-group, start_of-brace, binds-small, left_least-over, right_least-over, right_first, select-none, question-none}

-- ---- many steps

pub steps-append : (s : State) (a b : List Token) → steps s (a ++ b) ≡ steps (steps s a) b
steps-append s [] b = refl
steps-append s (t ∷ a) b = steps-append (step t s) a b

pub steps-failed : (ts : List Token) → steps failed ts ≡ failed
steps-failed [] = refl
steps-failed (t ∷ ts) = steps-failed ts

-- ---- what stands around a phrase of this strength

-- nothing that a phrase of this strength would finish
abbrev pub Holds : List Frame → ℕ → Type 0
Holds [] s = Unit {0}
Holds (under_sign u ∷ fs) s = signed_strength ≤ s
Holds (behind_left l u ∷ fs) s = right_least u ≤ s
Holds (in_first c q ∷ fs) s = Unit {0}
Holds (in_second c q m ∷ fs) s = Unit {0}
Holds (in_group ∷ fs) s = Unit {0}
Holds (in_call f ∷ fs) s = Unit {0}
Holds (in_select id o ∷ fs) s = Unit {0}
Holds (in_range w id o a ∷ fs) s = Unit {0}
Holds (in_braces o ys ∷ fs) s = Unit {0}
Holds (in_parts o n ys ∷ fs) s = Unit {0}

pub Holds-more : (fs : List Frame) (s r : ℕ) → s ≤ r → Holds fs s → Holds fs r
Holds-more [] s r le h = tt
Holds-more (under_sign u ∷ fs) s r le h = omega arith
Holds-more (behind_left l u ∷ fs) s r le h = omega arith
Holds-more (in_first c q ∷ fs) s r le h = tt
Holds-more (in_second c q m ∷ fs) s r le h = tt
Holds-more (in_group ∷ fs) s r le h = tt
Holds-more (in_call f ∷ fs) s r le h = tt
Holds-more (in_select id o ∷ fs) s r le h = tt
Holds-more (in_range w id o a ∷ fs) s r le h = tt
Holds-more (in_braces o ys ∷ fs) s r le h = tt
Holds-more (in_parts o n ys ∷ fs) s r le h = tt

-- the state has an operand with frames around it, in which everything is finished as if the tree stood in these frames
pub record Ended (fs : List Frame) (tree : Expr) (s : ℕ) (state : State) : Type 0 where
  pub operand : Expr
  pub frames : List Frame
  pub is : operand_of state ≡ Some (operand, frames)
  pub folds : (b : ℕ) → b ≤ s → reduce b frames operand ≡ reduce b fs tree

some_same : {A : Type 0} (a b : A) → Some a ≡ Some b → a ≡ b
some_same a b h = cc

none_some : {A : Type 0} (a : A) → None ≡ Some a → ⊥
none_some a h = cc

-- behind an operand a token that opens no select goes on as behind every operand
pub step-operand : (t : Token) → is_this (codes "[") t ≡ false → (state : State) (x : Expr) (fs : List Frame)
    → operand_of state ≡ Some (x, fs) → step t state ≡ went_on t x fs
step-operand t other (has y gs) x fs is = ap (λ p. went_on t p.0 p.1) (some_same (y, gs) (x, fs) is)
step-operand t other (has_name id gs) x fs is =
    ap (λ (k : Bool). if k then wants (in_select id t ∷ gs) else went_on t (e.Read (id_of id) []) gs) other
    ∙ ap (λ p. went_on t p.0 p.1) (some_same (e.Read (id_of id) [], gs) (x, fs) is)
step-operand t other (wants gs) x fs is = absurd cc
step-operand t other (wants_argument f gs) x fs is = absurd cc
step-operand t other (wants_brace y gs) x fs is = absurd cc
step-operand t other failed x fs is = absurd cc

-- what stands behind whole expressions alone
pub record IsEnd (t : Token) : Type 0 where
  pub binds_none : binds t ≡ 0
  pub no_question : is_this (codes "?") t ≡ false
  pub no_select : is_this (codes "[") t ≡ false

pub went_on-end : (t : Token) (x : Expr) (fs : List Frame) → IsEnd t → went_on t x fs ≡ closed t (reduce 0 fs x).0 (reduce 0 fs x).1
went_on-end t x fs h = rw (h.binds_none, h.no_question) refl

-- what ends a whole expression whose tree stands in these frames
pub step-end : (t : Token) → IsEnd t → (fs : List Frame) (tree : Expr) (s : ℕ) (state : State) → Ended fs tree s state
    → step t state ≡ closed t (reduce 0 fs tree).0 (reduce 0 fs tree).1
step-end t ends fs tree s state ended =
    step-operand t ends.no_select state ended.operand ended.frames ended.is ∙ went_on-end t ended.operand ended.frames ends
    ∙ ap (λ p. closed t p.0 p.1) (ended.folds 0 (omega arith))

is_end : (text : List ℕ) (t : Token) → Is text t → precedence text ≡ 0 → bytes_eq text (codes "?") ≡ false → bytes_eq text (codes "[") ≡ false → IsEnd t
is_end text t h none a b =
    record { binds_none = binds-this text t h ∙ none; no_question = not_this text (codes "?") t h a; no_select = not_this text (codes "[") t h b }

-- an operand that is finished
pub ended_at : (fs : List Frame) (x : Expr) (s : ℕ) (state : State) → state ≡ has x fs → Ended fs x s state
ended_at fs x s state h = record { operand = x; frames = fs; is = ap operand_of h; folds = λ b le. refl }

-- ---- the cases of the grammar

-- the machine reads the phrase in all frames that it does not finish
abbrev pub IsRead : Phrase → Type 0
IsRead p = (fs : List Frame) → Holds fs (strength p) → Ended fs (tree_of p) (strength p) (steps (wants fs) (tokens_of p))

read-number : (t : Token) → IsPhrase (number t) → IsRead (number t)
read-number t h fs holds = ended_at fs _ _ _ (ap (λ k. begun k t fs) (start_of-number t h))

read-fill : (t : Token) → IsPhrase (fill t) → IsRead (fill t)
read-fill t h fs holds = ended_at fs _ _ _ (ap (λ k. begun k t fs) (start_of-fill t h))

read-name : (t : Token) → IsPhrase (name t) → IsRead (name t)
read-name t h fs holds =
    record { operand = e.Read (id_of t) []; frames = fs; is = ap (λ k. operand_of (begun k t fs)) (start_of-name t h); folds = λ b le. refl }

-- one expression in brackets, whose frame is f
pub in-brackets : (f : Frame) (fs : List Frame) (p : Phrase) → IsRead p → Holds (f ∷ fs) (strength p) → reduce 0 (f ∷ fs) (tree_of p) ≡ (tree_of p, f ∷ fs)
    → (c : Token) → IsEnd c → step c (steps (wants (f ∷ fs)) (tokens_of p)) ≡ closed c (tree_of p) (f ∷ fs)
in-brackets f fs p read holds rests c ends =
    step-end c ends (f ∷ fs) (tree_of p) (strength p) _ (read (f ∷ fs) holds) ∙ ap (λ x. closed c x.0 x.1) rests

pub end-group : (t : Token) → Is (codes ")") t → IsEnd t
unfolding precedence binary_of
end-group t h = is_end (codes ")") t h refl refl refl

pub end-select : (t : Token) → Is (codes "]") t → IsEnd t
unfolding precedence binary_of
end-select t h = is_end (codes "]") t h refl refl refl

pub end-brace : (t : Token) → Is (codes "}") t → IsEnd t
unfolding precedence binary_of
end-brace t h = is_end (codes "}") t h refl refl refl

pub end-open_brace : (t : Token) → Is (codes "{") t → IsEnd t
unfolding precedence binary_of
end-open_brace t h = is_end (codes "{") t h refl refl refl

pub end-comma : (t : Token) → Is (codes ",") t → IsEnd t
unfolding precedence binary_of
end-comma t h = is_end (codes ",") t h refl refl refl

pub end-colon : (t : Token) → Is (codes ":") t → IsEnd t
unfolding precedence binary_of
end-colon t h = is_end (codes ":") t h refl refl refl

pub end-up : (t : Token) → Is (codes "+:") t → IsEnd t
unfolding precedence binary_of
end-up t h = is_end (codes "+:") t h refl refl refl

pub end-down : (t : Token) → Is (codes "-:") t → IsEnd t
unfolding precedence binary_of
end-down t h = is_end (codes "-:") t h refl refl refl

pub has-group : (o : Token) (p : Phrase) (c : Token) → IsRead p → IsPhrase (group o p c) → (fs : List Frame) → steps (wants fs) (tokens_of (group o p c)) ≡ has (tree_of (group o p c)) fs
has-group o p c read h fs =
    (steps-append (step o (wants fs)) (tokens_of p) (c ∷ [])
    ∙ ap (λ k. step c (steps (begun k o fs) (tokens_of p))) (start_of-group o h.0)
    ∙ in-brackets in_group fs p read tt refl c (end-group c h.2)
    ∙ rw h.2 refl)

read-group : (o : Token) (p : Phrase) (c : Token) → IsRead p → IsPhrase (group o p c) → IsRead (group o p c)
read-group o p c read h fs holds = ended_at fs _ _ _ (has-group o p c read h fs)

pub has-call : (f o : Token) (p : Phrase) (c : Token) → IsRead p → IsPhrase (call f o p c) → (fs : List Frame) → steps (wants fs) (tokens_of (call f o p c)) ≡ has (tree_of (call f o p c)) fs
has-call f o p c read h fs =
    (steps-append (step o (step f (wants fs))) (tokens_of p) (c ∷ [])
    ∙ ap (λ k. step c (steps (step o (begun k f fs)) (tokens_of p))) (start_of-function f h.0)
    ∙ ap (λ (k : Bool). step c (steps (if k then wants (in_call f ∷ fs) else failed) (tokens_of p))) h.1
    ∙ in-brackets (in_call f) fs p read tt refl c (end-group c h.3)
    ∙ rw h.3 refl)

read-call : (f o : Token) (p : Phrase) (c : Token) → IsRead p → IsPhrase (call f o p c) → IsRead (call f o p c)
read-call f o p c read h fs holds = ended_at fs _ _ _ (has-call f o p c read h fs)

-- a name and its `[`
pub opened-select : (id o : Token) (fs : List Frame) → is_identifier id ≡ true → Is (codes "[") o → step o (step id (wants fs)) ≡ wants (in_select id o ∷ fs)
opened-select id o fs h k =
    ap (λ j. step o (begun j id fs)) (start_of-name id h) ∙ rw k refl

pub has-selected : (id o : Token) (p : Phrase) (c : Token) → IsRead p → IsPhrase (selected id o p c) → (fs : List Frame) → steps (wants fs) (tokens_of (selected id o p c)) ≡ has (tree_of (selected id o p c)) fs
has-selected id o p c read h fs =
    (steps-append (step o (step id (wants fs))) (tokens_of p) (c ∷ [])
    ∙ ap (λ k. step c (steps k (tokens_of p))) (opened-select id o fs h.0 h.1)
    ∙ in-brackets (in_select id o) fs p read tt refl c (end-select c h.3)
    ∙ rw (not_this (codes "]") (codes ":") c h.3 refl, not_this (codes "]") (codes "+:") c h.3 refl, not_this (codes "]") (codes "-:") c h.3 refl, h.3) refl)

read-selected : (id o : Token) (p : Phrase) (c : Token) → IsRead p → IsPhrase (selected id o p c) → IsRead (selected id o p c)
read-selected id o p c read h fs holds = ended_at fs _ _ _ (has-selected id o p c read h fs)

-- behind the first expression of a select
pub between-step : (w : Between) (id o : Token) (fs : List Frame) (p : Phrase) → IsRead p → (between : Token) → Is (between_text w) between
    → step between (steps (wants (in_select id o ∷ fs)) (tokens_of p)) ≡ wants (in_range w id o (tree_of p) ∷ fs)
between-step down_to id o fs p read t h = in-brackets (in_select id o) fs p read tt refl t (end-colon t h) ∙ rw h refl
between-step up_from id o fs p read t h = in-brackets (in_select id o) fs p read tt refl t (end-up t h) ∙ rw (not_this (codes "+:") (codes ":") t h refl, h) refl
between-step down_from id o fs p read t h = in-brackets (in_select id o) fs p read tt refl t (end-down t h)
    ∙ rw (not_this (codes "-:") (codes ":") t h refl, not_this (codes "-:") (codes "+:") t h refl, h) refl

pub has-ranged : (w : Between) (id o : Token) (p : Phrase) (between : Token) (q : Phrase) (c : Token) → IsRead p → IsRead q
    → IsPhrase (ranged w id o p between q c) → (fs : List Frame) → steps (wants fs) (tokens_of (ranged w id o p between q c)) ≡ has (tree_of (ranged w id o p between q c)) fs
has-ranged w id o p between q c read_p read_q h fs =
    (steps-append (wants fs) (id ∷ o ∷ tokens_of p ++ between ∷ tokens_of q) (c ∷ [])
    ∙ ap (step c) (steps-append (step o (step id (wants fs))) (tokens_of p) (between ∷ tokens_of q))
    ∙ ap (λ k. step c (steps (step between (steps k (tokens_of p))) (tokens_of q))) (opened-select id o fs h.0 h.1)
    ∙ ap (λ k. step c (steps k (tokens_of q))) (between-step w id o fs p read_p between h.3)
    ∙ in-brackets (in_range w id o (tree_of p)) fs q read_q tt refl c (end-select c h.5) ∙ rw h.5 refl)

read-ranged : (w : Between) (id o : Token) (p : Phrase) (between : Token) (q : Phrase) (c : Token) → IsRead p → IsRead q
    → IsPhrase (ranged w id o p between q c) → IsRead (ranged w id o p between q c)
read-ranged w id o p between q c read_p read_q h fs holds = ended_at fs _ _ _ (has-ranged w id o p between q c read_p read_q h fs)

-- ---- operators

read-unary : (sign : Token) (p : Phrase) → IsRead p → IsPhrase (unary sign p) → IsRead (unary sign p)
read-unary sign p read h fs holds =
    let under = read (under_sign sign ∷ fs) h.2 in
    record {
      operand = under.operand;
      frames = under.frames;
      is = ap (λ k. operand_of (steps (begun k sign fs) (tokens_of p))) (start_of-sign sign h.0) ∙ under.is;
      folds = λ b le. under.folds b (omega arith);
    }

-- what asks so much of its left operand finishes nothing of frames that hold
rests : (fs : List Frame) (b : ℕ) (x : Expr) → 0 < b → (s : ℕ) → s < signed_strength → ((u : Token) → right_least u ≤ s → binds u < b) → Holds fs s
    → reduce b fs x ≡ (x, fs)
rests [] b x some s small first h = refl
rests (under_sign u ∷ fs) b x some s small first h = absurd (omega arith)
rests (behind_left l u ∷ fs) b x some s small first h = rw (lt-leb b (binds u) (first u h)) refl
rests (in_first c q ∷ fs) b x some s small first h = refl
rests (in_second c q m ∷ fs) b x some s small first h = rw (ne_eqb b 0 (omega arith)) refl
rests (in_group ∷ fs) b x some s small first h = refl
rests (in_call f ∷ fs) b x some s small first h = refl
rests (in_select id o ∷ fs) b x some s small first h = refl
rests (in_range w id o a ∷ fs) b x some s small first h = refl
rests (in_braces o ys ∷ fs) b x some s small first h = refl
rests (in_parts o n ys ∷ fs) b x some s small first h = refl

went_on-operator : (t : Token) (x : Expr) (fs : List Frame) → 0 < binds t
    → went_on t x fs ≡ wants (behind_left (reduce (left_least t) fs x).0 t ∷ (reduce (left_least t) fs x).1)
went_on-operator t x fs some = rw (lt-ltb 0 (binds t) some) refl

went_on-question : (t : Token) (x : Expr) (fs : List Frame) → Is (codes "?") t
    → went_on t x fs ≡ wants (in_first (reduce 1 fs x).0 t ∷ (reduce 1 fs x).1)
went_on-question t x fs h = rw (binds-this (codes "?") t h ∙ question-none, h) refl

-- the left operand and the sign
pub left-step : (p : Phrase) (sign : Token) (fs : List Frame) → IsRead p → 0 < binds sign → left_least sign ≤ strength p → Holds fs (binds sign)
    → step sign (steps (wants fs) (tokens_of p)) ≡ wants (behind_left (tree_of p) sign ∷ fs)
left-step p sign fs read some le holds =
    let over = left_least-over sign in
    let small = binds-small sign in
    let left = read fs (Holds-more fs (binds sign) (strength p) (omega arith) holds) in
    step-operand sign (binds-not_this (codes "[") sign some select-none) _ left.operand left.frames left.is
    ∙ went_on-operator sign left.operand left.frames some
    ∙ ap (λ x. wants (behind_left x.0 sign ∷ x.1))
    (left.folds (left_least sign) le ∙ rests fs (left_least sign) (tree_of p) (omega arith) (binds sign) (omega arith) (λ u le_u. right_first u sign le_u) holds)

read-binary : (p : Phrase) (sign : Token) (q : Phrase) → IsRead p → IsRead q → IsPhrase (binary p sign q) → IsRead (binary p sign q)
read-binary p sign q read_p read_q h fs holds =
    let right = read_q (behind_left (tree_of p) sign ∷ fs) h.4 in
    record {
      operand = right.operand;
      frames = right.frames;
      is = ap operand_of (steps-append (wants fs) (tokens_of p) (sign ∷ tokens_of q))
          ∙ ap (λ k. operand_of (steps k (tokens_of q))) (left-step p sign fs read_p h.0 h.2 holds) ∙ right.is;
      folds = λ b le. right.folds b (omega (arith, le, right_least-over sign, h.4)) ∙ rw (le-leb b (binds sign) le) refl;
    }

-- the condition and `?`
pub first-step : (p : Phrase) (t : Token) (fs : List Frame) → IsRead p → Is (codes "?") t → 0 < strength p → Holds fs 0
    → step t (steps (wants fs) (tokens_of p)) ≡ wants (in_first (tree_of p) t ∷ fs)
first-step p t fs read h some holds =
    let test = read fs (Holds-more fs _ _ (omega arith) holds) in
    step-operand t (not_this (codes "?") (codes "[") t h refl) _ test.operand test.frames test.is
    ∙ went_on-question t test.operand test.frames h
    ∙ ap (λ x. wants (in_first x.0 t ∷ x.1)) (test.folds 1 (omega arith) ∙ rests fs 1 (tree_of p) (omega arith) 0 (omega arith) (λ u le_u. omega (arith, right_least-over u, le_u)) holds)

read-choice : (p : Phrase) (t : Token) (q : Phrase) (u : Token) (r : Phrase) → IsRead p → IsRead q → IsRead r → IsPhrase (choice p t q u r) → IsRead (choice p t q u r)
read-choice p t q u r read_p read_q read_r h fs holds =
    let last = read_r (in_second (tree_of p) t (tree_of q) ∷ fs) tt in
    record {
      operand = last.operand;
      frames = last.frames;
      is = ap operand_of (steps-append (wants fs) (tokens_of p ++ t ∷ tokens_of q) (u ∷ tokens_of r))
          ∙ ap (λ k. operand_of (steps (step u k) (tokens_of r))) (steps-append (wants fs) (tokens_of p) (t ∷ tokens_of q))
          ∙ ap (λ k. operand_of (steps (step u (steps k (tokens_of q))) (tokens_of r))) (first-step p t fs read_p h.0 h.2 holds)
          ∙ ap (λ k. operand_of (steps k (tokens_of r)))
          (in-brackets (in_first (tree_of p) t) fs q read_q tt refl u (end-colon u h.4) ∙ rw h.4 refl)
          ∙ last.is;
      folds = λ b le. let none : b ≡ 0 = omega arith in last.folds b (omega arith) ∙ rw (eq-eqb b 0 none) refl;
    }

-- ---- lists

-- a bracket in which the expressions before the last are kept
pub record IsListFrame (frame : List Expr → Frame) : Type 0 where
  pub holds : (ys : List Expr) (fs : List Frame) (s : ℕ) → Holds (frame ys ∷ fs) s
  pub rests : (ys : List Expr) (fs : List Frame) (x : Expr) → reduce 0 (frame ys ∷ fs) x ≡ (x, frame ys ∷ fs)
  pub goes_on : (c : Token) → Is (codes ",") c → (ys : List Expr) (fs : List Frame) (x : Expr) → closed c x (frame ys ∷ fs) ≡ wants (frame (ys ++ x ∷ []) ∷ fs)

-- the state has the last of all these expressions in that bracket, with the others before it
pub record ListEnded (frame : List Expr → Frame) (fs : List Frame) (all : List Expr) (state : State) : Type 0 where
  pub operand : Expr
  pub frames : List Frame
  pub is : operand_of state ≡ Some (operand, frames)
  pub before : List Expr
  pub last : Expr
  pub folds : reduce 0 frames operand ≡ (last, frame before ∷ fs)
  pub all_are : before ++ last ∷ [] ≡ all

abbrev pub IsListRead : Phrases → Type 0
IsListRead ps = (frame : List Expr → Frame) → IsListFrame frame → (ys : List Expr) (fs : List Frame)
    → ListEnded frame fs (ys ++ trees_of ps) (steps (wants (frame ys ∷ fs)) (all_tokens_of ps))

read-only : (p : Phrase) → IsRead p → IsListRead (only p)
read-only p read frame is_frame ys fs =
    let ended = read (frame ys ∷ fs) (is_frame.holds ys fs (strength p)) in
    record {
      operand = ended.operand;
      frames = ended.frames;
      is = ended.is;
      before = ys;
      last = tree_of p;
      folds = ended.folds 0 (omega arith) ∙ is_frame.rests ys fs (tree_of p);
      all_are = refl;
    }

read-more : (p : Phrase) (c : Token) (ps : Phrases) → IsRead p → IsListRead ps → Is (codes ",") c → IsListRead (more p c ps)
read-more p c ps read read_list h frame is_frame ys fs =
    let ended = read (frame ys ∷ fs) (is_frame.holds ys fs (strength p)) in
    let others = read_list frame is_frame (ys ++ tree_of p ∷ []) fs in
    let stepped = step-end c (end-comma c h) (frame ys ∷ fs) (tree_of p) (strength p) _ ended
    ∙ ap (λ x. closed c x.0 x.1) (is_frame.rests ys fs (tree_of p)) ∙ is_frame.goes_on c h ys fs (tree_of p) in
    record {
      operand = others.operand;
      frames = others.frames;
      is = ap operand_of (steps-append (wants (frame ys ∷ fs)) (tokens_of p) (c ∷ all_tokens_of ps))
          ∙ ap (λ k. operand_of (steps k (all_tokens_of ps))) stepped ∙ others.is;
      before = others.before;
      last = others.last;
      folds = others.folds;
      all_are = others.all_are ∙ append_assoc ys (tree_of p ∷ []) (trees_of ps);
    }

-- the token behind a list
pub list-end : (t : Token) → IsEnd t → (frame : List Expr → Frame) (fs : List Frame) (all : List Expr) (state : State)
    → (ended : ListEnded frame fs all state) → step t state ≡ closed t ended.last (frame ended.before ∷ fs)
list-end t ends frame fs all state ended =
    step-operand t ends.no_select state ended.operand ended.frames ended.is ∙ went_on-end t ended.operand ended.frames ends
    ∙ ap (λ p. closed t p.0 p.1) ended.folds

pub braces-frame : (o : Token) → IsListFrame (in_braces o)
braces-frame o = record { holds = λ ys fs s. tt; rests = λ ys fs x. refl; goes_on = λ c h ys fs x. rw (not_this (codes ",") (codes "{") c h refl, h) refl }

pub parts-frame : (o : Token) (n : Expr) → IsListFrame (in_parts o n)
parts-frame o n = record { holds = λ ys fs s. tt; rests = λ ys fs x. refl; goes_on = λ c h ys fs x. rw h refl }

pub has-concat : (o : Token) (ps : Phrases) (c : Token) → IsListRead ps → IsPhrase (concat o ps c) → (fs : List Frame) → steps (wants fs) (tokens_of (concat o ps c)) ≡ has (tree_of (concat o ps c)) fs
has-concat o ps c read h fs =
    let ended = read (in_braces o) (braces-frame o) [] fs in
    (steps-append (step o (wants fs)) (all_tokens_of ps) (c ∷ [])
    ∙ ap (λ k. step c (steps (begun k o fs) (all_tokens_of ps))) (start_of-brace o h.0)
    ∙ list-end c (end-brace c h.2) (in_braces o) fs (trees_of ps) _ ended
    ∙ rw (not_this (codes "}") (codes "{") c h.2 refl, not_this (codes "}") (codes ",") c h.2 refl, h.2) refl
    ∙ ap (λ all. has (e.Concat o.place all) fs) ended.all_are)

read-concat : (o : Token) (ps : Phrases) (c : Token) → IsListRead ps → IsPhrase (concat o ps c) → IsRead (concat o ps c)
read-concat o ps c read h fs holds = ended_at fs _ _ _ (has-concat o ps c read h fs)

pub has-repeat : (o : Token) (p : Phrase) (i : Token) (ps : Phrases) (d c : Token) → IsRead p → IsListRead ps
    → IsPhrase (repeat o p i ps d c) → (fs : List Frame) → steps (wants fs) (tokens_of (repeat o p i ps d c)) ≡ has (tree_of (repeat o p i ps d c)) fs
has-repeat o p i ps d c read read_list h fs =
    let ended = read_list (in_parts o (tree_of p)) (parts-frame o (tree_of p)) [] fs in
    let done : step d (steps (wants (in_parts o (tree_of p) [] ∷ fs)) (all_tokens_of ps)) ≡ wants_brace (e.Repeat o.place (tree_of p) (ended.before ++ ended.last ∷ [])) fs =
    list-end d (end-brace d h.4) (in_parts o (tree_of p)) fs (trees_of ps) _ ended ∙ rw (not_this (codes "}") (codes ",") d h.4 refl, h.4) refl in
    (steps-append (wants fs) (o ∷ tokens_of p ++ i ∷ all_tokens_of ps) (d ∷ c ∷ [])
    ∙ ap (λ k. step c (step d k)) (steps-append (step o (wants fs)) (tokens_of p) (i ∷ all_tokens_of ps))
    ∙ ap (λ k. step c (step d (steps (step i (steps (begun k o fs) (tokens_of p))) (all_tokens_of ps)))) (start_of-brace o h.0)
    ∙ ap (λ k. step c (step d (steps k (all_tokens_of ps))))
    (in-brackets (in_braces o []) fs p read tt refl i (end-open_brace i h.2) ∙ rw h.2 refl)
    ∙ ap (step c) done
    ∙ ap (λ (k : Bool). if k then has (e.Repeat o.place (tree_of p) (ended.before ++ ended.last ∷ [])) fs else failed) h.5
    ∙ ap (λ all. has (e.Repeat o.place (tree_of p) all) fs) ended.all_are)

read-repeat : (o : Token) (p : Phrase) (i : Token) (ps : Phrases) (d c : Token) → IsRead p → IsListRead ps
    → IsPhrase (repeat o p i ps d c) → IsRead (repeat o p i ps d c)
read-repeat o p i ps d c read read_list h fs holds = ended_at fs _ _ _ (has-repeat o p i ps d c read read_list h fs)

-- ---- every phrase

mutual
  pub reads_phrase : (p : Phrase) → IsPhrase p → IsRead p
  reads_phrase (number t) h = read-number t h
  reads_phrase (fill t) h = read-fill t h
  reads_phrase (name t) h = read-name t h
  reads_phrase (selected id o p c) h = read-selected id o p c (reads_phrase p h.2) h
  reads_phrase (ranged w id o p b q c) h = read-ranged w id o p b q c (reads_phrase p h.2) (reads_phrase q h.4) h
  reads_phrase (group o p c) h = read-group o p c (reads_phrase p h.1) h
  reads_phrase (concat o ps c) h = read-concat o ps c (reads_list ps h.1) h
  reads_phrase (repeat o p i ps d c) h = read-repeat o p i ps d c (reads_phrase p h.1) (reads_list ps h.3) h
  reads_phrase (call f o p c) h = read-call f o p c (reads_phrase p h.2) h
  reads_phrase (unary sign p) h = read-unary sign p (reads_phrase p h.1) h
  reads_phrase (binary p sign q) h = read-binary p sign q (reads_phrase p h.1) (reads_phrase q h.3) h
  reads_phrase (choice p t q u r) h = read-choice p t q u r (reads_phrase p h.1) (reads_phrase q h.3) (reads_phrase r h.5) h

  pub reads_list : (ps : Phrases) → ArePhrases ps → IsListRead ps
  reads_list (only p) h = read-only p (reads_phrase p h)
  reads_list (more p c ps) h = read-more p c ps (reads_phrase p h.0) (reads_list ps h.2) h.1

-- ---- what follows for whole expressions

-- the machine ends with the tree alone
pub ends_with : (p : Phrase) → IsPhrase p → Ended [] (tree_of p) (strength p) (steps (wants []) (tokens_of p))
ends_with p h = reads_phrase p h [] tt

pub same_ends : (s : State) (x y : Expr × List Frame) → operand_of s ≡ Some x → operand_of s ≡ Some y → x ≡ y
same_ends s x y h k = some_same x y (sym h ∙ k)

-- two phrases of the same tokens have one tree
pub same_tree : (p q : Phrase) → IsPhrase p → IsPhrase q → tokens_of p ≡ tokens_of q → tree_of p ≡ tree_of q
same_tree p q hp hq same =
    let a = ends_with p hp in
    let b = ends_with q hq in
    let here = same_ends (steps (wants []) (tokens_of p)) (a.operand, a.frames) (b.operand, b.frames) a.is (ap (λ ts. operand_of (steps (wants []) ts)) same ∙ b.is) in
    let folded : (tree_of p, []) ≡ (tree_of q, []) = sym (a.folds 0 (omega arith)) ∙ ap (λ x. reduce 0 x.1 x.0) here ∙ b.folds 0 (omega arith) in
    ap (λ x. x.0) folded

-- no phrase begins with tokens at which the machine has failed
pub none_begins : (run : List Token) → steps (wants []) run ≡ failed → (p : Phrase) → IsPhrase p → (tail : List Token) → tokens_of p ≡ run ++ tail → ⊥
none_begins run fails p h tail whole =
    let ended = ends_with p h in
    let stuck : steps (wants []) (tokens_of p) ≡ failed = ap (steps (wants [])) whole ∙ steps-append (wants []) run tail ∙ ap (λ s. steps s tail) fails ∙ steps-failed tail in
    none_some (ended.operand, ended.frames) (sym (ap operand_of stuck) ∙ ended.is)

-- tokens are one expression at most
pub one_tree_lem : (tokens : List Token) (a b : Expr) → Reads tokens a → Reads tokens b → a ≡ b
one_tree_lem tokens a b x y =
    sym x.tree_is ∙ same_tree x.phrase y.phrase x.in_grammar y.in_grammar (x.tokens_are ∙ sym y.tokens_are) ∙ y.tree_is
