-- A list of parts, behind those that were found.
use Rattle.std.proofs.Common.{◌≡◌, ◌∙◌, ◌≢◌, ℕ, ◌≤◌, Bool, true, false, if◌then◌else◌, List, [], ◌∷◌, ◌++◌, length, Option, refl, sym, ap, subst, arith, append_assoc, append-nil, length-append}
use Rattle.std.proofs.lemmas.List.{append_cancel_left}
use Rattle.sv_lexer.specs.declared.token.Token.{Token}
use Rattle.expr_parser.specs.Spelling.{is_mark}
use Rattle.expr_parser.specs.Input.{front_of, past_marks}
use Rattle.module_parser.specs.Rule.{Piece, Test, meets, written, lead, AreMarked, many_behind}
use Rattle.module_parser.specs.Input.{comes}
use Rattle.module_parser.proofs.Rules.{Family, first_of, At, IsClean}
use Rattle.module_parser.proofs.Streams.{written-behind, AreMarked-append, AreMarked-front, lead-append, lead-first}

-- ---- texts

front_by : (m : Bool) (t : Token) (a b : List Token) → front_of (past_marks a) ≡ front_of (past_marks b) → front_of (if m then past_marks a else t ∷ a) ≡ front_of (if m then past_marks b else t ∷ b)
front_by true t a b h = h
front_by false t a b h = refl

-- the first token depends on what stands behind only by the first token there
pub first_of-append : (a b c : List Token) → first_of b ≡ first_of c → first_of (a ++ b) ≡ first_of (a ++ c)
first_of-append [] b c h = h
first_of-append (t ∷ a) b c h = front_by (is_mark t.kind) t (a ++ b) (a ++ c) (first_of-append a b c h)

-- a text that is not empty has a first token, whatever stands behind it
lead-some : (xs : List Piece) → xs ≢ [] → (n v : Option Token) → lead xs n ≡ lead xs v
lead-some [] some n v = absurd (some refl)
lead-some (p ∷ xs) some n v = refl

pub some-last : (xs : List Piece) (p : Piece) → xs ++ p ∷ [] ≢ []
some-last [] p h = absurd cc
some-last (q ∷ xs) p h = absurd cc

pub written-some : (xs : List Piece) → xs ≢ [] → 1 ≤ length (written xs)
written-some [] some = absurd (some refl)
written-some (p ∷ xs) some = omega (arith, length-append p.marks (p.token ∷ written xs))

-- what begins with such a text has its first token
pub lead-is : (seen more : List Piece) (rest : List Token) (v : Option Token) → seen ≢ [] → AreMarked (seen ++ more) → lead (seen ++ more) v ≡ first_of (written seen ++ rest)
lead-is seen more rest v some marked =
    lead-append seen more v ∙ lead-some seen some (lead more v) (first_of rest) ∙ sym (lead-first seen (AreMarked-front seen more marked) rest)

-- the same text has the same tokens behind it
pub same_behind : (stream : List Token) (xs ys : List Piece) (b c : List Token) → stream ≡ written xs ++ b → stream ≡ written ys ++ c → xs ≡ ys → b ≡ c
same_behind stream xs ys b c h k same = append_cancel_left (written ys) b c (ap (λ ps. written ps ++ b) (sym same) ∙ sym h ∙ k)

module _ {A : Type 0} (test : Test) (fs : List A → Family A) where
  -- the rest of a list, behind what was found
  abbrev pub list_behind : List A → Family (List A)
  list_behind found = λ k tree text n. (xs : List A) × (tree ≡ found ++ xs) × many_behind test (λ g. fs g k) found xs text n

  pub many_clean : (k : ℕ) → ((found : List A) → IsClean (fs found k)) → (xs found : List A) (text : List Piece) (n : Option Token) → many_behind test (λ g. fs g k) found xs text n → AreMarked text
  many_clean k clean [] found text n h = let P : List Piece → Type 0 = λ ps. AreMarked ps in subst P (sym h.0) tt
  many_clean k clean (x ∷ xs) found text n h =
      let P : List Piece → Type 0 = λ ps. AreMarked ps in
      subst P (sym h.is) (AreMarked-append h.front h.back (clean found x h.front (lead h.back n) h.begins) (many_clean k clean xs (found ++ x ∷ []) h.back n h.goes_on))

  -- one more, and the rest
  pub one_more : (found : List A) (k : ℕ) (x : A) (xs : List Piece) (n : Option Token) (tree : List A) (zs : List Piece) → meets test (lead (xs ++ zs) n) ≡ true
      → fs found k x xs (lead zs n) → list_behind (found ++ x ∷ []) k tree zs n → list_behind found k tree (xs ++ zs) n
  one_more found k x xs n tree zs comes begins rest =
      (x ∷ rest.0, rest.1 ∙ append_assoc found (x ∷ []) rest.0, record { comes = comes; front = xs; back = zs; is = refl; begins = begins; goes_on = rest.2 })

  -- none more
  pub none_more : (found : List A) (k : ℕ) (n : Option Token) → meets test n ≡ false → list_behind found k found [] n
  none_more found k n h = ([], sym (append-nil found), (refl, h))

  -- where a token of that sort comes, one more is read
  pub record More (found : List A) (k : ℕ) (stream : List Token) (tree : List A) : Type 0 where
    pub item : A
    pub front : List Piece
    pub here : At (fs found k) stream item front
    pub back : List Piece
    pub behind : List Token
    pub is : stream ≡ written front ++ behind
    pub there : At (list_behind (found ++ item ∷ []) k) behind tree back

  pub more_at : (k : ℕ) → ((found : List A) → IsClean (fs found k)) → (found : List A) (stream : List Token) → meets test (first_of stream) ≡ true
      → (xs : List A) (tree : List A) (text : List Piece) (b : List Token) → stream ≡ written text ++ b → tree ≡ found ++ xs → many_behind test (λ g. fs g k) found xs text (first_of b) → More found k stream tree
  more_at k clean found stream comes [] tree text b is tree_is h =
      let empty : stream ≡ b = is ∙ ap (λ ps. written ps ++ b) h.0 in
      let other : meets test (first_of stream) ≡ false = ap (λ ts. meets test (first_of ts)) empty ∙ h.1 in
      absurd cc
  more_at k clean found stream comes (x ∷ xs) tree text b is tree_is h =
      let split : stream ≡ written h.front ++ (written h.back ++ b) = is ∙ ap (λ ps. written ps ++ b) h.is ∙ written-behind h.front h.back b in
      let marked = many_clean k clean xs (found ++ x ∷ []) h.back (first_of b) h.goes_on in
      let P : Option Token → Type 0 = λ n. fs found k x h.front n in
      record {
        item = x;
        front = h.front;
        here = record { behind = written h.back ++ b; is = split; reads = subst P (sym (lead-first h.back marked b)) h.begins };
        back = h.back;
        behind = written h.back ++ b;
        is = split;
        there = record { behind = b; is = refl; reads = (xs, tree_is ∙ sym (append_assoc found (x ∷ []) xs), h.goes_on) };
      }
