-- The open nesting, counted one token after the other beside the machine. So what a phrase nests at a token depends on
-- the tokens up to it alone.
use Rattle.std.proofs.Common.{◌≡◌, ◌∙◌, ℕ, suc, ◌+◌, ◌<◌, Bool, true, false, nat_lt, List, [], ◌∷◌, ◌++◌, length, Some, refl, sym, ap, arith, codes, append_assoc, if◌then◌else◌}
use Rattle.std.proofs.lemmas.Bool.{lt-ltb}
use Rattle.sv_lexer.specs.declared.token.Token.{Token}
use Rattle.sv_ast.specs.declared.expression.Expr.{Expr}
use Rattle.sv_ast.specs.declared.expression.Expr.TheVariants as e
use Rattle.expr_parser.specs.Spelling.{is_identifier, is_this, binds}
use Rattle.expr_parser.specs.Grammar.{Between, down_to, up_from, down_from, Phrase, number, fill, name, selected, ranged, group, concat, repeat, call, unary, binary, choice, Phrases, only, more, tokens_of, all_tokens_of, tree_of, trees_of, id_of, strength, Is, between_text, IsPhrase, ArePhrases}
use Rattle.expr_parser.specs.Nesting.{operators}
use Rattle.expr_parser.proofs.Machine.{Frame, under_sign, behind_left, in_first, in_second, in_group, in_call, in_select, in_range, in_braces, in_parts, State, wants, wants_argument, has_name, has, wants_brace, failed, reduce, closed, begun, step, steps, operand_of, Start, a_sign, a_number, a_fill, a_name, a_function, a_group, a_brace, no_start, start_of}
use Rattle.expr_parser.proofs.Roles.{not_this, binds-this, binds-not_this, start_of-name, start_of-function, start_of-sign, start_of-number, start_of-fill, start_of-group, start_of-brace, left_least-over, select-none, question-none}
use Rattle.expr_parser.proofs.Complete.{Holds, Holds-more, Ended, IsEnd, reads_phrase, reads_list, left-step, first-step, in-brackets, end-group, end-select, end-brace, end-open_brace, end-comma, end-colon, end-up, end-down, IsListFrame, ListEnded, IsRead, IsListRead, list-end, braces-frame, parts-frame}

-- ---- what is open: the nesting now, and the nesting before each bracket that is open

abbrev pub Count : Type 0
Count = ℕ × List ℕ

abbrev pub top : List ℕ → ℕ
top [] = 0
top (n ∷ ns) = n

abbrev pub under : List ℕ → List ℕ
under [] = []
under (n ∷ ns) = ns

-- an operator
abbrev pub added : Count → Count
added N = (N.0 + 1, N.1)

-- an opening bracket
abbrev pub opened : Count → Count
opened N = (N.0 + 1, N.0 ∷ N.1)

-- its closing bracket
abbrev pub shut : Count → Count
shut N = (top N.1, under N.1)

-- a token behind a whole expression in a bracket that stays open
abbrev pub again : Count → Count
again N = (top N.1 + 1, N.1)

abbrev pub begun_count : Start → Count → Count
begun_count a_sign N = added N
begun_count a_number N = N
begun_count a_fill N = N
begun_count a_name N = N
begun_count a_function N = N
begun_count a_group N = opened N
begun_count a_brace N = opened N
begun_count no_start N = N

abbrev pub closed_count : Token → List Frame → Count → Count
closed_count t [] N = N
closed_count t (under_sign s ∷ fs) N = N
closed_count t (behind_left l s ∷ fs) N = N
closed_count t (in_first c q ∷ fs) N = N
closed_count t (in_second c q m ∷ fs) N = N
closed_count t (in_group ∷ fs) N = shut N
closed_count t (in_call f ∷ fs) N = shut N
closed_count t (in_select id o ∷ fs) N = if is_this (codes "]") t then shut N else again N
closed_count t (in_range w id o a ∷ fs) N = shut N
closed_count t (in_braces o ys ∷ fs) N = if is_this (codes "{") t then opened (again N) else (if is_this (codes ",") t then again N else shut N)
closed_count t (in_parts o n ys ∷ fs) N = if is_this (codes ",") t then again N else shut N

abbrev pub went_count : Token → Expr → List Frame → Count → Count
went_count t x fs N = if nat_lt 0 (binds t) then added N else (if is_this (codes "?") t then added N else closed_count t (reduce 0 fs x).1 N)

abbrev pub count : Token → State → Count → Count
count t (wants fs) N = begun_count (start_of t) N
count t (wants_argument f fs) N = opened N
count t (has_name id fs) N = if is_this (codes "[") t then opened N else went_count t (e.Read (id_of id) []) fs N
count t (has x fs) N = went_count t x fs N
count t (wants_brace x fs) N = shut N
count t failed N = N

-- the nesting at each token, and what is open at the end
abbrev pub counts : State → Count → List Token → List ℕ
counts s N [] = []
counts s N (t ∷ ts) = (count t s N).0 ∷ counts (step t s) (count t s N) ts

abbrev pub total : State → Count → List Token → Count
total s N [] = N
total s N (t ∷ ts) = total (step t s) (count t s N) ts

counts-append : (s : State) (N : Count) (a b : List Token) → counts s N (a ++ b) ≡ counts s N a ++ counts (steps s a) (total s N a) b
counts-append s N [] b = refl
counts-append s N (t ∷ a) b = ap (λ ns. (count t s N).0 ∷ ns) (counts-append (step t s) (count t s N) a b)

total-append : (s : State) (N : Count) (a b : List Token) → total s N (a ++ b) ≡ total (steps s a) (total s N a) b
total-append s N [] b = refl
total-append s N (t ∷ a) b = total-append (step t s) (count t s N) a b

abbrev pub Counted : State → Count → List Token → List ℕ → Count → Type 0
Counted s N ts ns M = (counts s N ts ≡ ns) × (total s N ts ≡ M)

joined : (s : State) (N M L : Count) (a b : List Token) (ns ms : List ℕ) → Counted s N a ns M → Counted (steps s a) M b ms L → Counted s N (a ++ b) (ns ++ ms) L
joined s N M L a b ns ms h k = (
  counts-append s N a b ∙ ap (λ z. z ++ counts (steps s a) (total s N a) b) h.0 ∙ ap (λ z. ns ++ counts (steps s a) z b) h.1 ∙ ap (λ z. ns ++ z) k.0,
  total-append s N a b ∙ ap (λ z. total (steps s a) z b) h.1 ∙ k.1,
)

first_token : (s next : State) (N M : Count) (t : Token) (ts : List Token) (ns : List ℕ) (L : Count) → count t s N ≡ M → step t s ≡ next
    → Counted next M ts ns L → Counted s N (t ∷ ts) (M.0 ∷ ns) L
first_token s next N M t ts ns L c st h = (
  ap (λ k. k.0 ∷ counts (step t s) k ts) c ∙ ap (λ z. M.0 ∷ counts z M ts) st ∙ ap (λ z. M.0 ∷ z) h.0,
  ap (λ k. total (step t s) k ts) c ∙ ap (λ z. total z M ts) st ∙ h.1,
)

last_token : (s : State) (N M : Count) (t : Token) → count t s N ≡ M → Counted s N (t ∷ []) (M.0 ∷ []) M
last_token s N M t c = (ap (λ k. k.0 ∷ []) c, c)

total_is : (s : State) (N : Count) (ts : List Token) (ns : List ℕ) (m k : ℕ) (S : List ℕ) → m ≡ k → Counted s N ts ns (m, S) → Counted s N ts ns (k, S)
total_is s N ts ns m k S same h = (h.0, h.1 ∙ ap (λ z. (z, S)) same)

-- ---- behind an operand

some_same : {A : Type 0} (a b : A) → Some a ≡ Some b → a ≡ b
some_same a b h = cc

count-operand : (t : Token) → is_this (codes "[") t ≡ false → (state : State) (x : Expr) (fs : List Frame) (N : Count)
    → operand_of state ≡ Some (x, fs) → count t state N ≡ went_count t x fs N
count-operand t other (has y gs) x fs N is = ap (λ p. went_count t p.0 p.1 N) (some_same (y, gs) (x, fs) is)
count-operand t other (has_name id gs) x fs N is =
    ap (λ (k : Bool). if k then opened N else went_count t (e.Read (id_of id) []) gs N) other
    ∙ ap (λ p. went_count t p.0 p.1 N) (some_same (e.Read (id_of id) [], gs) (x, fs) is)
count-operand t other (wants gs) x fs N is = absurd cc
count-operand t other (wants_argument f gs) x fs N is = absurd cc
count-operand t other (wants_brace y gs) x fs N is = absurd cc
count-operand t other failed x fs N is = absurd cc

went_count-end : (t : Token) (x : Expr) (fs : List Frame) (N : Count) → IsEnd t → went_count t x fs N ≡ closed_count t (reduce 0 fs x).1 N
went_count-end t x fs N h = rw (h.binds_none, h.no_question) refl

count-end : (t : Token) → IsEnd t → (fs : List Frame) (tree : Expr) (s : ℕ) (state : State) (N : Count) → Ended fs tree s state
    → count t state N ≡ closed_count t (reduce 0 fs tree).1 N
count-end t ends fs tree s state N ended =
    count-operand t ends.no_select state ended.operand ended.frames N ended.is ∙ went_count-end t ended.operand ended.frames N ends
    ∙ ap (λ p. closed_count t p.1 N) (ended.folds 0 (omega arith))

count-list-end : (t : Token) → IsEnd t → (frame : List Expr → Frame) (fs : List Frame) (all : List Expr) (state : State) (N : Count)
    → (ended : ListEnded frame fs all state) → count t state N ≡ closed_count t (frame ended.before ∷ fs) N
count-list-end t ends frame fs all state N ended =
    count-operand t ends.no_select state ended.operand ended.frames N ended.is ∙ went_count-end t ended.operand ended.frames N ends
    ∙ ap (λ p. closed_count t p.1 N) ended.folds

count-brackets : (f : Frame) (fs : List Frame) (p : Phrase) → IsRead p → Holds (f ∷ fs) (strength p) → reduce 0 (f ∷ fs) (tree_of p) ≡ (tree_of p, f ∷ fs)
    → (c : Token) → IsEnd c → (N : Count) → count c (steps (wants (f ∷ fs)) (tokens_of p)) N ≡ closed_count c (f ∷ fs) N
count-brackets f fs p read holds rests c ends N =
    count-end c ends (f ∷ fs) (tree_of p) (strength p) _ N (read (f ∷ fs) holds) ∙ ap (λ x. closed_count c x.1 N) rests

-- ---- what a phrase nests at each of its tokens, where so much is open before it

abbrev mutual
  pub depths : Phrase → ℕ → List ℕ
  depths (number t) n = n ∷ []
  depths (fill t) n = n ∷ []
  depths (name t) n = n ∷ []
  depths (selected id o p c) n = n ∷ (n + 1) ∷ depths p (n + 1) ++ n ∷ []
  depths (ranged w id o p b q c) n = n ∷ (n + 1) ∷ (depths p (n + 1) ++ (n + 1) ∷ (depths q (n + 1) ++ n ∷ []))
  depths (group o p c) n = (n + 1) ∷ depths p (n + 1) ++ n ∷ []
  depths (concat o ps c) n = (n + 1) ∷ all_depths ps (n + 1) ++ n ∷ []
  depths (repeat o p i ps d c) n = (n + 1) ∷ (depths p (n + 1) ++ (n + 1 + 1) ∷ (all_depths ps (n + 1 + 1) ++ (n + 1) ∷ n ∷ []))
  depths (call f o p c) n = n ∷ (n + 1) ∷ depths p (n + 1) ++ n ∷ []
  depths (unary s p) n = (n + 1) ∷ depths p (n + 1)
  depths (binary p s q) n = depths p n ++ (n + operators p + 1) ∷ depths q (n + operators p + 1)
  depths (choice p t q u r) n =
      depths p n ++ (n + operators p + 1) ∷ (depths q (n + operators p + 1) ++ (n + operators p + 1 + operators q) ∷ depths r (n + operators p + 1 + operators q))

  pub all_depths : Phrases → ℕ → List ℕ
  all_depths (only p) n = depths p n
  all_depths (more p c ps) n = depths p n ++ n ∷ all_depths ps n

-- the operators of the last
abbrev pub last_operators : Phrases → ℕ
last_operators (only p) = operators p
last_operators (more p c ps) = last_operators ps

abbrev pub IsCounted : Phrase → Type 0
IsCounted p = (fs : List Frame) → Holds fs (strength p) → (n : ℕ) (S : List ℕ) → Counted (wants fs) (n, S) (tokens_of p) (depths p n) (n + operators p, S)

-- a whole phrase, by another grouping of its tokens
finished_by : (p : Phrase) (fs : List Frame) (n : ℕ) (S : List ℕ) (m : ℕ) → m ≡ n + operators p → (ts : List Token) → tokens_of p ≡ ts
    → Counted (wants fs) (n, S) ts (depths p n) (m, S) → Counted (wants fs) (n, S) (tokens_of p) (depths p n) (n + operators p, S)
finished_by p fs n S m same ts is h = (ap (counts (wants fs) (n, S)) is ∙ h.0, ap (total (wants fs) (n, S)) is ∙ h.1 ∙ ap (λ z. (z, S)) same)

finished : (p : Phrase) (fs : List Frame) (n : ℕ) (S : List ℕ) (m : ℕ) → m ≡ n + operators p
    → Counted (wants fs) (n, S) (tokens_of p) (depths p n) (m, S) → Counted (wants fs) (n, S) (tokens_of p) (depths p n) (n + operators p, S)
finished p fs n S m same h = finished_by p fs n S m same (tokens_of p) refl h

count-one : (t : Token) (k : Start) → start_of t ≡ k → (fs : List Frame) (n : ℕ) (S : List ℕ) → begun_count k (n, S) ≡ (n, S) → Counted (wants fs) (n, S) (t ∷ []) (n ∷ []) (n + 0, S)
count-one t k is fs n S none =
    total_is (wants fs) (n, S) (t ∷ []) (n ∷ []) n (n + 0) S (omega arith) (last_token (wants fs) (n, S) (n, S) t (ap (λ z. begun_count z (n, S)) is ∙ none))

-- an expression in brackets, and the token behind it
bracketed : (f : Frame) (fs : List Frame) (p : Phrase) → IsRead p → IsCounted p → Holds (f ∷ fs) (strength p) → reduce 0 (f ∷ fs) (tree_of p) ≡ (tree_of p, f ∷ fs)
    → (c : Token) → IsEnd c → (n : ℕ) (S : List ℕ) (M : Count) → ((m : ℕ) → closed_count c (f ∷ fs) (m, n ∷ S) ≡ M)
    → (next : State) → closed c (tree_of p) (f ∷ fs) ≡ next → (ts : List Token) (ns : List ℕ) (L : Count) → Counted next M ts ns L
    → Counted (wants (f ∷ fs)) (n + 1, n ∷ S) (tokens_of p ++ c ∷ ts) (depths p (n + 1) ++ M.0 ∷ ns) L
bracketed f fs p read counted holds rests c ends n S M close next goes ts ns L rest =
    joined (wants (f ∷ fs)) (n + 1, n ∷ S) (n + 1 + operators p, n ∷ S) L (tokens_of p) (c ∷ ts) (depths p (n + 1)) (M.0 ∷ ns) (counted (f ∷ fs) holds (n + 1) (n ∷ S))
    (first_token (steps (wants (f ∷ fs)) (tokens_of p)) next (n + 1 + operators p, n ∷ S) M c ts ns L
    (count-brackets f fs p read holds rests c ends (n + 1 + operators p, n ∷ S) ∙ close (n + 1 + operators p)) (in-brackets f fs p read holds rests c ends ∙ goes) rest)

count-group : (o : Token) (p : Phrase) (c : Token) → IsRead p → IsCounted p → IsPhrase (group o p c) → IsCounted (group o p c)
count-group o p c read counted h fs holds n S =
    finished (group o p c) fs n S n (omega arith)
    (first_token (wants fs) (wants (in_group ∷ fs)) (n, S) (n + 1, n ∷ S) o (tokens_of p ++ c ∷ []) (depths p (n + 1) ++ n ∷ []) (n, S)
    (ap (λ z. begun_count z (n, S)) (start_of-group o h.0)) (ap (λ k. begun k o fs) (start_of-group o h.0))
    (bracketed in_group fs p read counted tt refl c (end-group c h.2) n S (n, S) (λ m. refl) (closed c (tree_of p) (in_group ∷ fs)) refl [] [] (n, S) (refl, refl)))

count-call : (f o : Token) (p : Phrase) (c : Token) → IsRead p → IsCounted p → IsPhrase (call f o p c) → IsCounted (call f o p c)
count-call f o p c read counted h fs holds n S =
    finished (call f o p c) fs n S n (omega arith)
    (first_token (wants fs) (wants_argument f fs) (n, S) (n, S) f (o ∷ tokens_of p ++ c ∷ []) ((n + 1) ∷ depths p (n + 1) ++ n ∷ []) (n, S)
    (ap (λ z. begun_count z (n, S)) (start_of-function f h.0)) (ap (λ k. begun k f fs) (start_of-function f h.0))
    (first_token (wants_argument f fs) (wants (in_call f ∷ fs)) (n, S) (n + 1, n ∷ S) o (tokens_of p ++ c ∷ []) (depths p (n + 1) ++ n ∷ []) (n, S)
    refl (ap (λ (k : Bool). if k then wants (in_call f ∷ fs) else failed) h.1)
    (bracketed (in_call f) fs p read counted tt refl c (end-group c h.3) n S (n, S) (λ m. refl) (closed c (tree_of p) (in_call f ∷ fs)) refl [] [] (n, S) (refl, refl))))

-- a name, its `[`, and what stands behind them
count-opened : (id o : Token) (fs : List Frame) (n : ℕ) (S : List ℕ) → is_identifier id ≡ true → Is (codes "[") o → (ts : List Token) (ns : List ℕ) (L : Count)
    → Counted (wants (in_select id o ∷ fs)) (n + 1, n ∷ S) ts ns L → Counted (wants fs) (n, S) (id ∷ o ∷ ts) (n ∷ (n + 1) ∷ ns) L
count-opened id o fs n S h k ts ns L rest =
    first_token (wants fs) (has_name id fs) (n, S) (n, S) id (o ∷ ts) ((n + 1) ∷ ns) L
    (ap (λ z. begun_count z (n, S)) (start_of-name id h)) (ap (λ j. begun j id fs) (start_of-name id h))
    (first_token (has_name id fs) (wants (in_select id o ∷ fs)) (n, S) (n + 1, n ∷ S) o ts ns L (rw k refl) (rw k refl) rest)

count-selected : (id o : Token) (p : Phrase) (c : Token) → IsRead p → IsCounted p → IsPhrase (selected id o p c) → IsCounted (selected id o p c)
count-selected id o p c read counted h fs holds n S =
    finished (selected id o p c) fs n S n (omega arith)
    (count-opened id o fs n S h.0 h.1 (tokens_of p ++ c ∷ []) (depths p (n + 1) ++ n ∷ []) (n, S)
    (bracketed (in_select id o) fs p read counted tt refl c (end-select c h.3) n S (n, S) (λ m. rw h.3 refl) (closed c (tree_of p) (in_select id o ∷ fs)) refl [] [] (n, S) (refl, refl)))

between-end : (w : Between) (t : Token) → Is (between_text w) t → IsEnd t
between-end down_to t h = end-colon t h
between-end up_from t h = end-up t h
between-end down_from t h = end-down t h

between-no_select : (w : Between) (t : Token) → Is (between_text w) t → is_this (codes "]") t ≡ false
between-no_select down_to t h = not_this (codes ":") (codes "]") t h refl
between-no_select up_from t h = not_this (codes "+:") (codes "]") t h refl
between-no_select down_from t h = not_this (codes "-:") (codes "]") t h refl

between-closed : (w : Between) (id o : Token) (fs : List Frame) (x : Expr) (t : Token) → Is (between_text w) t
    → closed t x (in_select id o ∷ fs) ≡ wants (in_range w id o x ∷ fs)
between-closed down_to id o fs x t h = rw h refl
between-closed up_from id o fs x t h = rw (not_this (codes "+:") (codes ":") t h refl, h) refl
between-closed down_from id o fs x t h = rw (not_this (codes "-:") (codes ":") t h refl, not_this (codes "-:") (codes "+:") t h refl, h) refl

count-ranged : (w : Between) (id o : Token) (p : Phrase) (b : Token) (q : Phrase) (c : Token) → IsRead p → IsRead q → IsCounted p → IsCounted q
    → IsPhrase (ranged w id o p b q c) → IsCounted (ranged w id o p b q c)
count-ranged w id o p b q c read_p read_q counted_p counted_q h fs holds n S =
    finished_by (ranged w id o p b q c) fs n S n (omega arith) (id ∷ o ∷ (tokens_of p ++ b ∷ (tokens_of q ++ c ∷ []))) (append_assoc (id ∷ o ∷ tokens_of p) (b ∷ tokens_of q) (c ∷ []))
    (count-opened id o fs n S h.0 h.1 (tokens_of p ++ b ∷ (tokens_of q ++ c ∷ [])) (depths p (n + 1) ++ (n + 1) ∷ (depths q (n + 1) ++ n ∷ [])) (n, S)
    (bracketed (in_select id o) fs p read_p counted_p tt refl b (between-end w b h.3) n S (n + 1, n ∷ S) (λ m. rw (between-no_select w b h.3) refl)
    (wants (in_range w id o (tree_of p) ∷ fs)) (between-closed w id o fs (tree_of p) b h.3) (tokens_of q ++ c ∷ []) (depths q (n + 1) ++ n ∷ []) (n, S)
    (bracketed (in_range w id o (tree_of p)) fs q read_q counted_q tt refl c (end-select c h.5) n S (n, S) (λ m. refl)
    (closed c (tree_of q) (in_range w id o (tree_of p) ∷ fs)) refl [] [] (n, S) (refl, refl))))

-- ---- operators

count-unary : (s : Token) (p : Phrase) → IsCounted p → IsPhrase (unary s p) → IsCounted (unary s p)
count-unary s p counted h fs holds n S =
    finished (unary s p) fs n S (n + 1 + operators p) (omega arith)
    (first_token (wants fs) (wants (under_sign s ∷ fs)) (n, S) (n + 1, S) s (tokens_of p) (depths p (n + 1)) (n + 1 + operators p, S)
    (ap (λ z. begun_count z (n, S)) (start_of-sign s h.0)) (ap (λ k. begun k s fs) (start_of-sign s h.0)) (counted (under_sign s ∷ fs) h.2 (n + 1) S))

went_count-operator : (t : Token) (x : Expr) (fs : List Frame) (N : Count) → 0 < binds t → went_count t x fs N ≡ added N
went_count-operator t x fs N some = rw (lt-ltb 0 (binds t) some) refl

went_count-question : (t : Token) (x : Expr) (fs : List Frame) (N : Count) → Is (codes "?") t → went_count t x fs N ≡ added N
went_count-question t x fs N h = rw (binds-this (codes "?") t h ∙ question-none, h) refl

count-binary : (p : Phrase) (s : Token) (q : Phrase) → IsRead p → IsCounted p → IsCounted q → IsPhrase (binary p s q) → IsCounted (binary p s q)
count-binary p s q read counted_p counted_q h fs holds n S =
    let held = Holds-more fs (binds s) (strength p) (omega (arith, left_least-over s, h.2)) holds in
    let left = read fs held in
    let m = n + operators p in
    finished (binary p s q) fs n S (m + 1 + operators q) (omega arith)
    (joined (wants fs) (n, S) (m, S) (m + 1 + operators q, S) (tokens_of p) (s ∷ tokens_of q) (depths p n) ((m + 1) ∷ depths q (m + 1)) (counted_p fs held n S)
    (first_token (steps (wants fs) (tokens_of p)) (wants (behind_left (tree_of p) s ∷ fs)) (m, S) (m + 1, S) s (tokens_of q) (depths q (m + 1)) (m + 1 + operators q, S)
    (count-operand s (binds-not_this (codes "[") s h.0 select-none) _ left.operand left.frames (m, S) left.is ∙ went_count-operator s left.operand left.frames (m, S) h.0)
    (left-step p s fs read h.0 h.2 holds) (counted_q (behind_left (tree_of p) s ∷ fs) h.4 (m + 1) S)))

count-choice : (p : Phrase) (t : Token) (q : Phrase) (u : Token) (r : Phrase) → IsRead p → IsRead q → IsCounted p → IsCounted q → IsCounted r
    → IsPhrase (choice p t q u r) → IsCounted (choice p t q u r)
count-choice p t q u r read_p read_q counted_p counted_q counted_r h fs holds n S =
    let held = Holds-more fs 0 (strength p) (omega arith) holds in
    let test = read_p fs held in
    let a = n + operators p in
    let b = a + 1 + operators q in
    let first = in_first (tree_of p) t in
    let second = in_second (tree_of p) t (tree_of q) in
    finished_by (choice p t q u r) fs n S (b + operators r) (omega arith) (tokens_of p ++ t ∷ (tokens_of q ++ u ∷ tokens_of r)) (append_assoc (tokens_of p) (t ∷ tokens_of q) (u ∷ tokens_of r))
    (joined (wants fs) (n, S) (a, S) (b + operators r, S) (tokens_of p) (t ∷ (tokens_of q ++ u ∷ tokens_of r)) (depths p n) ((a + 1) ∷ (depths q (a + 1) ++ b ∷ depths r b)) (counted_p fs held n S)
    (first_token (steps (wants fs) (tokens_of p)) (wants (first ∷ fs)) (a, S) (a + 1, S) t (tokens_of q ++ u ∷ tokens_of r) (depths q (a + 1) ++ b ∷ depths r b) (b + operators r, S)
    (count-operand t (not_this (codes "?") (codes "[") t h.0 refl) _ test.operand test.frames (a, S) test.is ∙ went_count-question t test.operand test.frames (a, S) h.0)
    (first-step p t fs read_p h.0 h.2 holds)
    (joined (wants (first ∷ fs)) (a + 1, S) (b, S) (b + operators r, S) (tokens_of q) (u ∷ tokens_of r) (depths q (a + 1)) (b ∷ depths r b) (counted_q (first ∷ fs) tt (a + 1) S)
    (first_token (steps (wants (first ∷ fs)) (tokens_of q)) (wants (second ∷ fs)) (b, S) (b, S) u (tokens_of r) (depths r b) (b + operators r, S)
    (count-brackets first fs q read_q tt refl u (end-colon u h.4) (b, S)) (in-brackets first fs q read_q tt refl u (end-colon u h.4) ∙ rw h.4 refl)
    (counted_r (second ∷ fs) tt b S)))))

-- ---- lists

-- a comma behind an expression of the list
abbrev pub IsCommaFrame : (List Expr → Frame) → Type 0
IsCommaFrame frame = (c : Token) → Is (codes ",") c → (ys : List Expr) (fs : List Frame) (N : Count) → closed_count c (frame ys ∷ fs) N ≡ again N

abbrev pub IsListCounted : Phrases → Type 0
IsListCounted ps = (frame : List Expr → Frame) → IsListFrame frame → IsCommaFrame frame → (ys : List Expr) (fs : List Frame) (n : ℕ) (S : List ℕ)
    → Counted (wants (frame ys ∷ fs)) (n + 1, n ∷ S) (all_tokens_of ps) (all_depths ps (n + 1)) (n + 1 + last_operators ps, n ∷ S)

count-more : (p : Phrase) (c : Token) (ps : Phrases) → IsRead p → IsCounted p → IsListCounted ps → Is (codes ",") c → IsListCounted (more p c ps)
count-more p c ps read counted counted_list h frame is_frame is_comma ys fs n S =
    let held = is_frame.holds ys fs (strength p) in
    let m = n + 1 + operators p in
    joined (wants (frame ys ∷ fs)) (n + 1, n ∷ S) (m, n ∷ S) (n + 1 + last_operators ps, n ∷ S) (tokens_of p) (c ∷ all_tokens_of ps) (depths p (n + 1)) ((n + 1) ∷ all_depths ps (n + 1))
    (counted (frame ys ∷ fs) held (n + 1) (n ∷ S))
    (first_token (steps (wants (frame ys ∷ fs)) (tokens_of p)) (wants (frame (ys ++ tree_of p ∷ []) ∷ fs)) (m, n ∷ S) (n + 1, n ∷ S) c (all_tokens_of ps) (all_depths ps (n + 1)) (n + 1 + last_operators ps, n ∷ S)
    (count-brackets (frame ys) fs p read held (is_frame.rests ys fs (tree_of p)) c (end-comma c h) (m, n ∷ S) ∙ is_comma c h ys fs (m, n ∷ S))
    (in-brackets (frame ys) fs p read held (is_frame.rests ys fs (tree_of p)) c (end-comma c h) ∙ is_frame.goes_on c h ys fs (tree_of p))
    (counted_list frame is_frame is_comma (ys ++ tree_of p ∷ []) fs n S))

braces-comma : (o : Token) → IsCommaFrame (in_braces o)
braces-comma o c h ys fs N = rw (not_this (codes ",") (codes "{") c h refl, h) refl

parts-comma : (o : Token) (x : Expr) → IsCommaFrame (in_parts o x)
parts-comma o x c h ys fs N = rw h refl

count-concat : (o : Token) (ps : Phrases) (c : Token) → IsListRead ps → IsListCounted ps → IsPhrase (concat o ps c) → IsCounted (concat o ps c)
count-concat o ps c read counted h fs holds n S =
    let ended = read (in_braces o) (braces-frame o) [] fs in
    let m = n + 1 + last_operators ps in
    finished (concat o ps c) fs n S n (omega arith)
    (first_token (wants fs) (wants (in_braces o [] ∷ fs)) (n, S) (n + 1, n ∷ S) o (all_tokens_of ps ++ c ∷ []) (all_depths ps (n + 1) ++ n ∷ []) (n, S)
    (ap (λ z. begun_count z (n, S)) (start_of-brace o h.0)) (ap (λ k. begun k o fs) (start_of-brace o h.0))
    (joined (wants (in_braces o [] ∷ fs)) (n + 1, n ∷ S) (m, n ∷ S) (n, S) (all_tokens_of ps) (c ∷ []) (all_depths ps (n + 1)) (n ∷ [])
    (counted (in_braces o) (braces-frame o) (braces-comma o) [] fs n S)
    (last_token _ (m, n ∷ S) (n, S) c
    (count-list-end c (end-brace c h.2) (in_braces o) fs (trees_of ps) _ (m, n ∷ S) ended
    ∙ rw (not_this (codes "}") (codes "{") c h.2 refl, not_this (codes "}") (codes ",") c h.2 refl) refl))))

count-repeat : (o : Token) (p : Phrase) (i : Token) (ps : Phrases) (d c : Token) → IsRead p → IsCounted p → IsListRead ps → IsListCounted ps
    → IsPhrase (repeat o p i ps d c) → IsCounted (repeat o p i ps d c)
count-repeat o p i ps d c read counted read_list counted_list h fs holds n S =
    let parts = in_parts o (tree_of p) in
    let ended = read_list parts (parts-frame o (tree_of p)) [] fs in
    let m = n + 1 + 1 + last_operators ps in
    let tree = e.Repeat o.place (tree_of p) (ended.before ++ ended.last ∷ []) in
    finished_by (repeat o p i ps d c) fs n S n (omega arith) (o ∷ (tokens_of p ++ i ∷ (all_tokens_of ps ++ d ∷ c ∷ []))) (append_assoc (o ∷ tokens_of p) (i ∷ all_tokens_of ps) (d ∷ c ∷ []))
    (first_token (wants fs) (wants (in_braces o [] ∷ fs)) (n, S) (n + 1, n ∷ S) o (tokens_of p ++ i ∷ (all_tokens_of ps ++ d ∷ c ∷ []))
    (depths p (n + 1) ++ (n + 1 + 1) ∷ (all_depths ps (n + 1 + 1) ++ (n + 1) ∷ n ∷ [])) (n, S)
    (ap (λ z. begun_count z (n, S)) (start_of-brace o h.0)) (ap (λ k. begun k o fs) (start_of-brace o h.0))
    (bracketed (in_braces o []) fs p read counted tt refl i (end-open_brace i h.2) n S (n + 1 + 1, (n + 1) ∷ n ∷ S) (λ k. rw h.2 refl)
    (wants (parts [] ∷ fs)) (rw h.2 refl) (all_tokens_of ps ++ d ∷ c ∷ []) (all_depths ps (n + 1 + 1) ++ (n + 1) ∷ n ∷ []) (n, S)
    (joined (wants (parts [] ∷ fs)) (n + 1 + 1, (n + 1) ∷ n ∷ S) (m, (n + 1) ∷ n ∷ S) (n, S) (all_tokens_of ps) (d ∷ c ∷ []) (all_depths ps (n + 1 + 1)) ((n + 1) ∷ n ∷ [])
    (counted_list parts (parts-frame o (tree_of p)) (parts-comma o (tree_of p)) [] fs (n + 1) (n ∷ S))
    (first_token (steps (wants (parts [] ∷ fs)) (all_tokens_of ps)) (wants_brace tree fs) (m, (n + 1) ∷ n ∷ S) (n + 1, n ∷ S) d (c ∷ []) (n ∷ []) (n, S)
    (count-list-end d (end-brace d h.4) parts fs (trees_of ps) _ (m, (n + 1) ∷ n ∷ S) ended ∙ rw (not_this (codes "}") (codes ",") d h.4 refl) refl)
    (list-end d (end-brace d h.4) parts fs (trees_of ps) _ ended ∙ rw (not_this (codes "}") (codes ",") d h.4 refl, h.4) refl)
    (last_token (wants_brace tree fs) (n + 1, n ∷ S) (n, S) c refl)))))

-- ---- every phrase

mutual
  pub counts_phrase : (p : Phrase) → IsPhrase p → IsCounted p
  counts_phrase (number t) h = λ fs holds n S. count-one t a_number (start_of-number t h) fs n S refl
  counts_phrase (fill t) h = λ fs holds n S. count-one t a_fill (start_of-fill t h) fs n S refl
  counts_phrase (name t) h = λ fs holds n S. count-one t a_name (start_of-name t h) fs n S refl
  counts_phrase (selected id o p c) h = count-selected id o p c (reads_phrase p h.2) (counts_phrase p h.2) h
  counts_phrase (ranged w id o p b q c) h =
      count-ranged w id o p b q c (reads_phrase p h.2) (reads_phrase q h.4) (counts_phrase p h.2) (counts_phrase q h.4) h
  counts_phrase (group o p c) h = count-group o p c (reads_phrase p h.1) (counts_phrase p h.1) h
  counts_phrase (concat o ps c) h = count-concat o ps c (reads_list ps h.1) (counts_list ps h.1) h
  counts_phrase (repeat o p i ps d c) h = count-repeat o p i ps d c (reads_phrase p h.1) (counts_phrase p h.1) (reads_list ps h.3) (counts_list ps h.3) h
  counts_phrase (call f o p c) h = count-call f o p c (reads_phrase p h.2) (counts_phrase p h.2) h
  counts_phrase (unary s p) h = count-unary s p (counts_phrase p h.1) h
  counts_phrase (binary p s q) h = count-binary p s q (reads_phrase p h.1) (counts_phrase p h.1) (counts_phrase q h.3) h
  counts_phrase (choice p t q u r) h =
      count-choice p t q u r (reads_phrase p h.1) (reads_phrase q h.3) (counts_phrase p h.1) (counts_phrase q h.3) (counts_phrase r h.5) h

  pub counts_list : (ps : Phrases) → ArePhrases ps → IsListCounted ps
  counts_list (only p) h = λ frame is_frame is_comma ys fs n S. counts_phrase p h (frame ys ∷ fs) (is_frame.holds ys fs (strength p)) (n + 1) (n ∷ S)
  counts_list (more p c ps) h = count-more p c ps (reads_phrase p h.0) (counts_phrase p h.0) (counts_list ps h.2) h.1

-- what is counted at the tokens of a whole expression
pub counted_whole : (p : Phrase) → IsPhrase p → counts (wants []) (0, []) (tokens_of p) ≡ depths p 0
counted_whole p h = (counts_phrase p h [] tt 0 []).0

pub counted_run : (p : Phrase) → IsPhrase p → (run tail : List Token) → tokens_of p ≡ run ++ tail
    → counts (wants []) (0, []) run ++ counts (steps (wants []) run) (total (wants []) (0, []) run) tail ≡ depths p 0
counted_run p h run tail whole = sym (counts-append (wants []) (0, []) run tail) ∙ ap (counts (wants []) (0, [])) (sym whole) ∙ counted_whole p h

pub counts-length : (s : State) (N : Count) (ts : List Token) → length (counts s N ts) ≡ length ts
counts-length s N [] = refl
counts-length s N (t ∷ ts) = ap suc (counts-length (step t s) (count t s N) ts)
