-- What is counted at the tokens of a phrase is what the phrase nests there.
use Rattle.std.proofs.Common.{◌≡◌, ◌∙◌, ℕ, suc, ◌+◌, ◌-◌, ◌≤◌, ◌==◌, Bool, false, nat_le, List, [], ◌∷◌, ◌++◌, length, refl, sym, ap, subst, arith, append_assoc, length-append, if◌then◌else◌}
use Rattle.std.proofs.lemmas.Bool.{lt-leb, le-leb, ne_eqb}
use Rattle.sv_lexer.specs.declared.token.Token.{Token}
use Rattle.expr_parser.specs.Grammar.{Phrase, number, fill, name, selected, ranged, group, concat, repeat, call, unary, binary, choice, Phrases, only, more, tokens_of, all_tokens_of}
use Rattle.expr_parser.specs.Nesting.{nesting, nestings, operators, operands, one_after, in_brackets}
use Rattle.expr_parser.specs.Outcome.{BeginsWith}
use Rattle.expr_parser.proofs.Inners.{operands-first, operands-second, one_after-first, one_after-second, in_brackets-at, unary-at, nesting-zero, nestings-zero}
use Rattle.expr_parser.proofs.Machine.{wants, steps}
use Rattle.expr_parser.proofs.Counts.{depths, all_depths, counts, counts-length, counted_run, total}

-- the list has the values from 1 on
abbrev pub Lists : List ℕ → (ℕ → ℕ) → Type 0
Lists [] f = Unit {0}
Lists (n ∷ ns) f = (n ≡ f 1) × Lists ns (λ k. f (1 + k))

lists-same : (ns : List ℕ) (f g : ℕ → ℕ) → ((k : ℕ) → 1 ≤ k → k ≤ length ns → f k ≡ g k) → Lists ns f → Lists ns g
lists-same [] f g same h = tt
lists-same (n ∷ ns) f g same h =
    (h.0 ∙ same 1 (omega arith) (omega arith), lists-same ns (λ k. f (1 + k)) (λ k. g (1 + k)) (λ k a b. same (1 + k) (omega arith) (omega arith)) h.1)

lists-append : (a b : List ℕ) (f : ℕ → ℕ) → Lists a f → Lists b (λ k. f (length a + k)) → Lists (a ++ b) f
lists-append [] b f h k = lists-same b (λ j. f (0 + j)) f (λ j x y. let at : 0 + j ≡ j = omega arith in ap f at) k
lists-append (n ∷ a) b f h k = (
  h.0,
  lists-append a b (λ j. f (1 + j)) h.1
      (lists-same b (λ j. f (length (n ∷ a) + j)) (λ j. f (1 + (length a + j))) (λ j x y. let at : length (n ∷ a) + j ≡ 1 + (length a + j) = omega arith in ap f at) k),
)

-- ---- brackets, and tokens between expressions

in_brackets-end : (len : ℕ) (f : ℕ → ℕ) → in_brackets len f (1 + (len + 1)) ≡ 0
in_brackets-end len f =
    let some : (1 + (len + 1) == 0) ≡ false = ne_eqb (1 + (len + 1)) 0 (omega arith) in
    let beyond : nat_le (1 + (len + 1)) (1 + len) ≡ false = lt-leb (1 + (len + 1)) (1 + len) (omega arith) in
    ap (λ (c : Bool). if c then 0 else (if nat_le (1 + (len + 1)) (1 + len) then 1 + f (1 + (len + 1) - 1) else 0)) some
    ∙ ap (λ (c : Bool). if c then 1 + f (1 + (len + 1) - 1) else 0) beyond

brackets_of : (n : ℕ) (f : ℕ → ℕ) → f 0 ≡ 0 → (ns : List ℕ) → Lists ns (λ k. n + 1 + f k) → Lists ((n + 1) ∷ ns ++ n ∷ []) (λ k. n + in_brackets (length ns) f k)
brackets_of n f none ns h = (
  let one = in_brackets-at (length ns) f 0 (omega arith) in omega (arith, one, none),
  lists-append ns (n ∷ []) (λ k. n + in_brackets (length ns) f (1 + k))
      (lists-same ns (λ k. n + 1 + f k) (λ k. n + in_brackets (length ns) f (1 + k)) (λ k a b. let at = in_brackets-at (length ns) f k b in omega (arith, at)) h)
      (let last = in_brackets-end (length ns) f in omega (arith, last), tt),
)

brackets : (n len : ℕ) (f : ℕ → ℕ) → f 0 ≡ 0 → (ns : List ℕ) → length ns ≡ len → Lists ns (λ k. n + 1 + f k)
    → Lists ((n + 1) ∷ ns ++ n ∷ []) (λ k. n + in_brackets len f k)
brackets n len f none ns same h =
    let P : ℕ → Type 0 = λ x. Lists ((n + 1) ∷ ns ++ n ∷ []) (λ k. n + in_brackets x f k) in subst P same (brackets_of n f none ns h)

-- a token before them
behind_name : (n : ℕ) (g : ℕ → ℕ) → g 0 ≡ 0 → (ns : List ℕ) → Lists ns (λ k. n + g k) → Lists (n ∷ ns) (λ k. n + g (k - 1))
behind_name n g none ns h = (
  omega (arith, none),
  lists-same ns (λ k. n + g k) (λ k. n + g (1 + k - 1)) (λ k a b. let at : k ≡ 1 + k - 1 = omega arith in ap (λ x. n + g x) at) h,
)

separated_of : (m : ℕ) (f g : ℕ → ℕ) → g 0 ≡ 0 → (a b : List ℕ) → Lists a (λ k. m + f k) → Lists b (λ k. m + g k) → Lists (a ++ m ∷ b) (λ k. m + one_after (length a) f g k)
separated_of m f g none a b h j =
    lists-append a (m ∷ b) (λ k. m + one_after (length a) f g k)
    (lists-same a (λ k. m + f k) (λ k. m + one_after (length a) f g k) (λ k x y. ap (λ z. m + z) (sym (one_after-first (length a) f g k y))) h) (
      let at = one_after-second (length a) f g 0 in omega (arith, at, none),
      lists-same b (λ k. m + g k) (λ k. m + one_after (length a) f g (length a + (1 + k))) (λ k x y. ap (λ z. m + z) (sym (one_after-second (length a) f g k))) j,
    )

separated : (m len : ℕ) (f g : ℕ → ℕ) → g 0 ≡ 0 → (a b : List ℕ) → length a ≡ len → Lists a (λ k. m + f k) → Lists b (λ k. m + g k)
    → Lists (a ++ m ∷ b) (λ k. m + one_after len f g k)
separated m len f g none a b same h j =
    let P : ℕ → Type 0 = λ x. Lists (a ++ m ∷ b) (λ k. m + one_after x f g k) in subst P same (separated_of m f g none a b h j)

spaced_of : (n before m : ℕ) → n + before ≡ m → (f g : ℕ → ℕ) → g 0 ≡ 0 → (a b : List ℕ) → Lists a (λ k. n + f k) → Lists b (λ k. m + g k)
    → Lists (a ++ m ∷ b) (λ k. n + operands (length a) f before g k)
spaced_of n before m is f g none a b h j =
    lists-append a (m ∷ b) (λ k. n + operands (length a) f before g k)
    (lists-same a (λ k. n + f k) (λ k. n + operands (length a) f before g k) (λ k x y. ap (λ z. n + z) (sym (operands-first (length a) f before g k y))) h) (
      let at = operands-second (length a) f before g 0 in omega (arith, at, none, is),
      lists-same b (λ k. m + g k) (λ k. n + operands (length a) f before g (length a + (1 + k)))
          (λ k x y. let at = operands-second (length a) f before g k in omega (arith, at, is)) j,
    )

spaced : (n before m len : ℕ) → n + before ≡ m → (f g : ℕ → ℕ) → g 0 ≡ 0 → (a b : List ℕ) → length a ≡ len → Lists a (λ k. n + f k) → Lists b (λ k. m + g k)
    → Lists (a ++ m ∷ b) (λ k. n + operands len f before g k)
spaced n before m len is f g none a b same h j =
    let P : ℕ → Type 0 = λ x. Lists (a ++ m ∷ b) (λ k. n + operands x f before g k) in subst P same (spaced_of n before m is f g none a b h j)

-- ---- as many as there are tokens

two_parts : (a c : List ℕ) (b d : List Token) → length a ≡ length b → length c ≡ length d → length (a ++ c) ≡ length (b ++ d)
two_parts a c b d h k = length-append a c ∙ ap (λ x. x + length c) h ∙ ap (λ x. length b + x) k ∙ sym (length-append b d)

mutual
  depths-length : (p : Phrase) (n : ℕ) → length (depths p n) ≡ length (tokens_of p)
  depths-length (number t) n = refl
  depths-length (fill t) n = refl
  depths-length (name t) n = refl
  depths-length (selected id o p c) n = ap (λ x. suc (suc x)) (two_parts _ (n ∷ []) _ (c ∷ []) (depths-length p (n + 1)) refl)
  depths-length (ranged w id o p b q c) n =
      ap (λ x. suc (suc x)) (two_parts _ ((n + 1) ∷ (depths q (n + 1) ++ n ∷ [])) _ (b ∷ (tokens_of q ++ c ∷ [])) (depths-length p (n + 1))
      (ap suc (two_parts _ (n ∷ []) _ (c ∷ []) (depths-length q (n + 1)) refl)))
      ∙ ap length (sym (append_assoc (id ∷ o ∷ tokens_of p) (b ∷ tokens_of q) (c ∷ [])))
  depths-length (group o p c) n = ap suc (two_parts _ (n ∷ []) _ (c ∷ []) (depths-length p (n + 1)) refl)
  depths-length (concat o ps c) n = ap suc (two_parts _ (n ∷ []) _ (c ∷ []) (all_depths-length ps (n + 1)) refl)
  depths-length (repeat o p i ps d c) n =
      ap suc (two_parts _ ((n + 1 + 1) ∷ (all_depths ps (n + 1 + 1) ++ (n + 1) ∷ n ∷ [])) _ (i ∷ (all_tokens_of ps ++ d ∷ c ∷ [])) (depths-length p (n + 1))
      (ap suc (two_parts _ ((n + 1) ∷ n ∷ []) _ (d ∷ c ∷ []) (all_depths-length ps (n + 1 + 1)) refl)))
      ∙ ap length (sym (append_assoc (o ∷ tokens_of p) (i ∷ all_tokens_of ps) (d ∷ c ∷ [])))
  depths-length (call f o p c) n = ap (λ x. suc (suc x)) (two_parts _ (n ∷ []) _ (c ∷ []) (depths-length p (n + 1)) refl)
  depths-length (unary s p) n = ap suc (depths-length p (n + 1))
  depths-length (binary p s q) n =
      two_parts _ ((n + operators p + 1) ∷ depths q (n + operators p + 1)) _ (s ∷ tokens_of q) (depths-length p n) (ap suc (depths-length q (n + operators p + 1)))
  depths-length (choice p t q u r) n =
      let m = n + operators p + 1 in
      two_parts _ (m ∷ (depths q m ++ (m + operators q) ∷ depths r (m + operators q))) _ (t ∷ (tokens_of q ++ u ∷ tokens_of r)) (depths-length p n)
      (ap suc (two_parts _ ((m + operators q) ∷ depths r (m + operators q)) _ (u ∷ tokens_of r) (depths-length q m) (ap suc (depths-length r (m + operators q)))))
      ∙ ap length (sym (append_assoc (tokens_of p) (t ∷ tokens_of q) (u ∷ tokens_of r)))

  all_depths-length : (ps : Phrases) (n : ℕ) → length (all_depths ps n) ≡ length (all_tokens_of ps)
  all_depths-length (only p) n = depths-length p n
  all_depths-length (more p c ps) n = two_parts _ (n ∷ all_depths ps n) _ (c ∷ all_tokens_of ps) (depths-length p n) (ap suc (all_depths-length ps n))

-- ---- what a phrase nests

-- the first expression of a replication, and what stands behind it
inner-first : (len : ℕ) (f g : ℕ → ℕ) (k : ℕ) → k ≤ len → (if nat_le k len then f k else g (k - len)) ≡ f k
inner-first len f g k h = rw (le-leb k len h) refl

inner-second : (len : ℕ) (f g : ℕ → ℕ) (k : ℕ) → 1 ≤ k → (if nat_le (len + k) len then f (len + k) else g (len + k - len)) ≡ g k
inner-second len f g k h =
    let beyond : nat_le (len + k) len ≡ false = lt-leb (len + k) len (omega arith) in
    let at : len + k - len ≡ k = omega arith in
    ap (λ (c : Bool). if c then f (len + k) else g (len + k - len)) beyond ∙ ap g at

followed_of : (m : ℕ) (f g : ℕ → ℕ) (a b : List ℕ) → Lists a (λ k. m + f k) → Lists b (λ k. m + g k)
    → Lists (a ++ b) (λ k. m + (if nat_le k (length a) then f k else g (k - length a)))
followed_of m f g a b h j =
    let F : ℕ → ℕ = λ k. m + (if nat_le k (length a) then f k else g (k - length a)) in
    lists-append a b F (lists-same a (λ k. m + f k) F (λ k x y. ap (λ z. m + z) (sym (inner-first (length a) f g k y))) h)
    (lists-same b (λ k. m + g k) (λ k. F (length a + k)) (λ k x y. ap (λ z. m + z) (sym (inner-second (length a) f g k x))) j)

followed : (m len : ℕ) (f g : ℕ → ℕ) (a b : List ℕ) → length a ≡ len → Lists a (λ k. m + f k) → Lists b (λ k. m + g k)
    → Lists (a ++ b) (λ k. m + (if nat_le k len then f k else g (k - len)))
followed m len f g a b same h j =
    let P : ℕ → Type 0 = λ x. Lists (a ++ b) (λ k. m + (if nat_le k x then f k else g (k - x))) in subst P same (followed_of m f g a b h j)

ranged-length : (p q : Phrase) (n : ℕ) → length (depths p n ++ n ∷ depths q n) ≡ length (tokens_of p) + 1 + length (tokens_of q)
ranged-length p q n =
    let whole = length-append (depths p n) (n ∷ depths q n) in omega (arith, whole, depths-length p n, depths-length q n)

repeat-length : (p : Phrase) (ps : Phrases) (n : ℕ)
    → length (depths p n ++ (n + 1) ∷ (all_depths ps (n + 1) ++ n ∷ [])) ≡ length (tokens_of p) + 1 + length (all_tokens_of ps) + 1
repeat-length p ps n =
    let whole = length-append (depths p n) ((n + 1) ∷ (all_depths ps (n + 1) ++ n ∷ [])) in
    let inner = length-append (all_depths ps (n + 1)) (n ∷ []) in
    omega (arith, whole, inner, depths-length p n, all_depths-length ps (n + 1))

ranged-none : (p q : Phrase) → one_after (length (tokens_of p)) (nesting p) (nesting q) 0 ≡ 0
ranged-none p q = one_after-first (length (tokens_of p)) (nesting p) (nesting q) 0 (omega arith) ∙ nesting-zero p

repeat-none : (p : Phrase) (g : ℕ → ℕ) → (if nat_le 0 (length (tokens_of p)) then nesting p 0 else g (0 - length (tokens_of p))) ≡ 0
repeat-none p g = inner-first (length (tokens_of p)) (nesting p) g 0 (omega arith) ∙ nesting-zero p

choice-none : (q r : Phrase) → operands (length (tokens_of q)) (nesting q) (operators q) (nesting r) 0 ≡ 0
choice-none q r = operands-first (length (tokens_of q)) (nesting q) (operators q) (nesting r) 0 (omega arith) ∙ nesting-zero q

mutual
  depths_are : (p : Phrase) (n : ℕ) → Lists (depths p n) (λ k. n + nesting p k)
  depths_are (number t) n = (omega arith, tt)
  depths_are (fill t) n = (omega arith, tt)
  depths_are (name t) n = (omega arith, tt)
  depths_are (selected id o p c) n =
      behind_name n (in_brackets (length (tokens_of p)) (nesting p)) refl ((n + 1) ∷ depths p (n + 1) ++ n ∷ [])
      (brackets n (length (tokens_of p)) (nesting p) (nesting-zero p) (depths p (n + 1)) (depths-length p (n + 1)) (depths_are p (n + 1)))
  depths_are (ranged w id o p b q c) n =
      let f = one_after (length (tokens_of p)) (nesting p) (nesting q) in
      let len = length (tokens_of p) + 1 + length (tokens_of q) in
      let ns = depths p (n + 1) ++ (n + 1) ∷ depths q (n + 1) in
      let P : List ℕ → Type 0 = λ z. Lists ((n + 1) ∷ z) (λ k. n + in_brackets len f k) in
      behind_name n (in_brackets len f) refl ((n + 1) ∷ (depths p (n + 1) ++ (n + 1) ∷ (depths q (n + 1) ++ n ∷ [])))
      (subst P (append_assoc (depths p (n + 1)) ((n + 1) ∷ depths q (n + 1)) (n ∷ []))
      (brackets n len f (ranged-none p q) ns (ranged-length p q (n + 1))
      (separated (n + 1) (length (tokens_of p)) (nesting p) (nesting q) (nesting-zero q) (depths p (n + 1)) (depths q (n + 1)) (depths-length p (n + 1)) (depths_are p (n + 1)) (depths_are q (n + 1)))))
  depths_are (group o p c) n = brackets n (length (tokens_of p)) (nesting p) (nesting-zero p) (depths p (n + 1)) (depths-length p (n + 1)) (depths_are p (n + 1))
  depths_are (concat o ps c) n =
      brackets n (length (all_tokens_of ps)) (nestings ps) (nestings-zero ps) (all_depths ps (n + 1)) (all_depths-length ps (n + 1)) (all_depths_are ps (n + 1))
  depths_are (repeat o p i ps d c) n =
      let g = in_brackets (length (all_tokens_of ps)) (nestings ps) in
      let len = length (tokens_of p) + 1 + length (all_tokens_of ps) + 1 in
      let xs = (n + 1 + 1) ∷ all_depths ps (n + 1 + 1) ++ (n + 1) ∷ [] in
      let f : ℕ → ℕ = λ k. if nat_le k (length (tokens_of p)) then nesting p k else g (k - length (tokens_of p)) in
      let P : List ℕ → Type 0 = λ z. Lists ((n + 1) ∷ z) (λ k. n + in_brackets len f k) in
      subst P (append_assoc (depths p (n + 1)) xs (n ∷ []) ∙ ap (λ z. depths p (n + 1) ++ (n + 1 + 1) ∷ z) (append_assoc (all_depths ps (n + 1 + 1)) ((n + 1) ∷ []) (n ∷ [])))
      (brackets n len f (repeat-none p g) (depths p (n + 1) ++ xs) (repeat-length p ps (n + 1))
      (followed (n + 1) (length (tokens_of p)) (nesting p) g (depths p (n + 1)) xs (depths-length p (n + 1)) (depths_are p (n + 1))
      (brackets (n + 1) (length (all_tokens_of ps)) (nestings ps) (nestings-zero ps) (all_depths ps (n + 1 + 1)) (all_depths-length ps (n + 1 + 1)) (all_depths_are ps (n + 1 + 1)))))
  depths_are (call f o p c) n =
      behind_name n (in_brackets (length (tokens_of p)) (nesting p)) refl ((n + 1) ∷ depths p (n + 1) ++ n ∷ [])
      (brackets n (length (tokens_of p)) (nesting p) (nesting-zero p) (depths p (n + 1)) (depths-length p (n + 1)) (depths_are p (n + 1)))
  depths_are (unary s p) n = (
    let one = unary-at s p 0 in omega (arith, one, nesting-zero p),
    lists-same (depths p (n + 1)) (λ k. n + 1 + nesting p k) (λ k. n + nesting (unary s p) (1 + k)) (λ k x y. let at = unary-at s p k in omega (arith, at)) (depths_are p (n + 1)),
  )
  depths_are (binary p s q) n =
      spaced n (operators p + 1) (n + operators p + 1) (length (tokens_of p)) (omega arith) (nesting p) (nesting q) (nesting-zero q) (depths p n) (depths q (n + operators p + 1)) (depths-length p n)
      (depths_are p n) (depths_are q (n + operators p + 1))
  depths_are (choice p t q u r) n =
      let m = n + operators p + 1 in
      let g = operands (length (tokens_of q)) (nesting q) (operators q) (nesting r) in
      spaced n (operators p + 1) m (length (tokens_of p)) (omega arith) (nesting p) g (choice-none q r) (depths p n) (depths q m ++ (m + operators q) ∷ depths r (m + operators q)) (depths-length p n)
      (depths_are p n)
      (spaced m (operators q) (m + operators q) (length (tokens_of q)) refl (nesting q) (nesting r) (nesting-zero r) (depths q m) (depths r (m + operators q)) (depths-length q m)
      (depths_are q m) (depths_are r (m + operators q)))

  all_depths_are : (ps : Phrases) (n : ℕ) → Lists (all_depths ps n) (λ k. n + nestings ps k)
  all_depths_are (only p) n = depths_are p n
  all_depths_are (more p c ps) n =
      separated n (length (tokens_of p)) (nesting p) (nestings ps) (nestings-zero ps) (depths p n) (all_depths ps n) (depths-length p n) (depths_are p n) (all_depths_are ps n)

-- ---- what phrases that begin with the same tokens nest there

same_at : (xs ys zs : List ℕ) (f g : ℕ → ℕ) → Lists (xs ++ ys) f → Lists (xs ++ zs) g → 1 ≤ length xs → f (length xs) ≡ g (length xs)
same_at [] ys zs f g h k some = absurd (omega arith)
same_at (x ∷ []) ys zs f g h k some = sym h.0 ∙ k.0
same_at (x ∷ y ∷ xs) ys zs f g h k some =
    let at : 1 + length (y ∷ xs) ≡ length (x ∷ y ∷ xs) = omega arith in
    let R : ℕ → Type 0 = λ n. f n ≡ g n in
    subst R at (same_at (y ∷ xs) ys zs (λ n. f (1 + n)) (λ n. g (1 + n)) h.1 k.1 (omega arith))

pub one_nesting_lem : (run : List Token) (p q : Phrase) → BeginsWith run p → BeginsWith run q → nesting p (length run) ≡ nesting q (length run)
one_nesting_lem [] p q a b = nesting-zero p ∙ sym (nesting-zero q)
one_nesting_lem (t ∷ ts) p q a b =
    let run = t ∷ ts in
    let xs = counts (wants []) (0, []) run in
    let later : List Token → List ℕ = λ tail. counts (steps (wants []) run) (total (wants []) (0, []) run) tail in
    let P : List ℕ → Type 0 = λ z. Lists z (λ k. 0 + nesting p k) in
    let Q : List ℕ → Type 0 = λ z. Lists z (λ k. 0 + nesting q k) in
    let same = counts-length (wants []) (0, []) run in
    let R : ℕ → Type 0 = λ n. 0 + nesting p n ≡ 0 + nesting q n in
    let here = subst R same
    (same_at xs (later a.tail) (later b.tail) (λ k. 0 + nesting p k) (λ k. 0 + nesting q k) (subst P (sym (counted_run p a.in_grammar run a.tail a.whole)) (depths_are p 0))
    (subst Q (sym (counted_run q b.in_grammar run b.tail b.whole)) (depths_are q 0)) (omega (arith, same))) in
    omega (arith, here)
