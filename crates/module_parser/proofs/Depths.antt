-- Texts that stand at the same depths as long as they are written alike.
use Rattle.std.proofs.Common.{◌≡◌, ◌∙◌, ◌+◌, Bool, true, false, List, [], ◌∷◌, ◌++◌, Option, Some, refl, sym, ap, ap₂, subst, append_assoc}
use Rattle.sv_lexer.specs.declared.token.Token.{Token}
use Rattle.module_parser.specs.Rule.{Piece, Rule, Test, written, deeper, lead, IsOne, ◌>>=◌, choose, when, many_behind, Nested, AreMarked}
use Rattle.module_parser.proofs.Rules.{first_of, Same, SameDepth, IsClean}
use Rattle.module_parser.proofs.Streams.{written-append, AreMarked-front, AreMarked-back, lead-first, cut-same}
use Rattle.module_parser.proofs.Forks.{Alike, piece-same}

-- the same depth at each piece, up to the first that is written otherwise
abbrev pub Agree : List Piece → List Piece → Type 0
Agree [] ys = Unit {0}
Agree (p ∷ xs) [] = Unit {0}
Agree (p ∷ xs) (q ∷ ys) = p.marks ≡ q.marks → p.token ≡ q.token → (p.depth ≡ q.depth) × Agree xs ys

-- the same of all that two rules read
abbrev pub Agreeing : {A : Type 0} → Rule A → Rule A → Type 0
Agreeing {A} r s = (a b : A) (xs ys : List Piece) (c d : List Token) → r a xs (first_of c) → s b ys (first_of d) → Agree xs ys

-- ---- the depth at two pieces

none_token : (ms : List Token) (t : Token) (ts : List Token) → [] ≡ ms ++ t ∷ ts → ⊥
none_token [] t ts h = absurd cc
none_token (m ∷ ms) t ts h = absurd cc

none_written : (us : List Piece) (u : Piece) → [] ≡ written (us ++ u ∷ []) → ⊥
none_written [] u h = none_token u.marks u.token [] h
none_written (p ∷ us) u h = none_token p.marks p.token (written (us ++ u ∷ [])) h

depth_at : (us us' vs vs' : List Piece) (u v : Piece) → AreMarked (us ++ u ∷ us') → AreMarked (vs ++ v ∷ vs') → Agree (us ++ u ∷ us') (vs ++ v ∷ vs')
    → written (us ++ u ∷ []) ≡ written (vs ++ v ∷ []) → u.depth ≡ v.depth
depth_at [] us' [] vs' u v a b h same =
    let cut = cut-same u.marks v.marks u.token v.token [] [] a.0 b.0 a.1 b.1 same in (h cut.0 cut.1).0
depth_at [] us' (q ∷ vs) vs' u v a b h same =
    let cut = cut-same u.marks q.marks u.token q.token [] (written (vs ++ v ∷ [])) a.0 b.0 a.1 b.1 same in absurd (none_written vs v cut.2)
depth_at (p ∷ us) us' [] vs' u v a b h same =
    let cut = cut-same p.marks v.marks p.token v.token (written (us ++ u ∷ [])) [] a.0 b.0 a.1 b.1 same in absurd (none_written us u (sym cut.2))
depth_at (p ∷ us) us' (q ∷ vs) vs' u v a b h same =
    let cut = cut-same p.marks q.marks p.token q.token (written (us ++ u ∷ [])) (written (vs ++ v ∷ [])) a.0 b.0 a.1 b.1 same in
    depth_at us us' vs vs' u v a.2 b.2 (h cut.0 cut.1).1 cut.2

pub depth_by : {A : Type 0} (r s : Rule A) → IsClean r → IsClean s → Agreeing r s → SameDepth r s
depth_by r s cr cs agree a b us us' vs vs' u v c d h k same =
    depth_at us us' vs vs' u v (cr a (us ++ u ∷ us') (first_of c) h) (cs b (vs ++ v ∷ vs') (first_of d) k) (agree a b (us ++ u ∷ us') (vs ++ v ∷ vs') c d h k) same

-- behind texts that are written alike
agree_from : {A : Type 0} (r s : Rule A) → SameDepth r s → (a b : A) (us vs xs ys : List Piece) (c d : List Token) → r a (us ++ xs) (first_of c) → s b (vs ++ ys) (first_of d)
    → written us ≡ written vs → Agree xs ys
agree_from r s depth a b us vs [] ys c d h k same = tt
agree_from r s depth a b us vs (p ∷ xs) [] c d h k same = tt
agree_from r s depth a b us vs (p ∷ xs) (q ∷ ys) c d h k same = λ ms t.
    let here : written (us ++ p ∷ []) ≡ written (vs ++ q ∷ []) =
    written-append us (p ∷ []) ∙ ap₂ (λ ts zs. ts ++ zs) same (ap₂ (λ m z. m ++ z ∷ []) ms t) ∙ sym (written-append vs (q ∷ [])) in
    let P : List Piece → Type 0 = λ z. r a z (first_of c) in
    let Q : List Piece → Type 0 = λ z. s b z (first_of d) in (
      depth a b us xs vs ys p q c d h k here,
      agree_from r s depth a b (us ++ p ∷ []) (vs ++ q ∷ []) xs ys c d (subst P (sym (append_assoc us (p ∷ []) xs)) h) (subst Q (sym (append_assoc vs (q ∷ []) ys)) k) here,
    )

pub agree_by : {A : Type 0} (r s : Rule A) → SameDepth r s → Agreeing r s
agree_by r s depth a b xs ys c d h k = agree_from r s depth a b [] [] xs ys c d h k refl

-- ---- texts one behind the other

-- the second text goes on with the piece that stands behind the first
abbrev Ahead : List Piece → List Piece → List Piece → Type 0
Ahead [] [] ys = ⊥
Ahead [] (p ∷ bs) [] = ⊥
Ahead [] (p ∷ bs) (q ∷ ys) = (p.marks ≡ q.marks) × (p.token ≡ q.token)
Ahead (x ∷ xs) bs [] = ⊥
Ahead (x ∷ xs) bs (y ∷ ys) = (x.marks ≡ y.marks) × (x.token ≡ y.token) × Ahead xs bs ys

-- no text is longer than itself
ahead_self : (xs bs : List Piece) → Ahead xs bs xs → ⊥
ahead_self [] [] h = h
ahead_self [] (p ∷ bs) h = h
ahead_self (x ∷ xs) bs h = ahead_self xs bs h.2

-- the same token comes behind the first where the second stands
record Comes (xs bs ys : List Piece) (n : Option Token) (ts : List Token) : Type 0 where
  rest : List Token
  is : written ys ++ ts ≡ written xs ++ rest
  comes : first_of rest ≡ lead bs n

ahead_comes : (xs bs ys : List Piece) (n : Option Token) (ts : List Token) → Ahead xs bs ys → AreMarked ys → Comes xs bs ys n ts
ahead_comes [] [] ys n ts h m = absurd h
ahead_comes [] (p ∷ bs) [] n ts h m = absurd h
ahead_comes [] (p ∷ bs) (q ∷ ys) n ts h m =
    record { rest = written (q ∷ ys) ++ ts; is = refl; comes = lead-first (q ∷ ys) m ts ∙ ap Some (sym h.1) }
ahead_comes (x ∷ xs) bs [] n ts h m = absurd h
ahead_comes (x ∷ xs) bs (y ∷ ys) n ts h m =
    let more = ahead_comes xs bs ys n ts h.2 m.2 in
    record {
      rest = more.rest;
      is = append_assoc y.marks (y.token ∷ written ys) ts ∙ ap₂ (λ ms t. ms ++ t ∷ (written ys ++ ts)) (sym h.0) (sym h.1)
          ∙ ap (λ z. x.marks ++ x.token ∷ z) more.is ∙ sym (append_assoc x.marks (x.token ∷ written xs) more.rest);
      comes = more.comes;
    }

agree_join : (xs ys bs cs : List Piece) → Agree xs ys → (Alike xs ys → Agree bs cs) → (Ahead xs bs ys → ⊥) → (Ahead ys cs xs → ⊥) → Agree (xs ++ bs) (ys ++ cs)
agree_join [] [] bs cs h k e f = k tt
agree_join [] (y ∷ ys) [] cs h k e f = tt
agree_join [] (y ∷ ys) (p ∷ bs) cs h k e f = λ ms t. absurd (e (ms, t))
agree_join (x ∷ xs) [] bs [] h k e f = tt
agree_join (x ∷ xs) [] bs (q ∷ cs) h k e f = λ ms t. absurd (f (sym ms, sym t))
agree_join (x ∷ xs) (y ∷ ys) bs cs h k e f = λ ms t.
    let one = h ms t in
    (one.0, agree_join xs ys bs cs one.1 (λ l. k (ms, t, l)) (λ l. e (ms, t, l)) (λ l. f (sym ms, sym t, l)))

-- texts that are written alike and agree are the same
pub alike_agree : (xs ys : List Piece) → Alike xs ys → Agree xs ys → xs ≡ ys
alike_agree [] [] h k = refl
alike_agree [] (q ∷ ys) h k = absurd h
alike_agree (p ∷ xs) [] h k = absurd h
alike_agree (p ∷ xs) (q ∷ ys) h k =
    let one = k h.0 h.1 in ap (λ z. z ∷ xs) (piece-same p q h.0 h.1 one.0) ∙ ap (λ zs. q ∷ zs) (alike_agree xs ys h.2 one.1)

-- only texts that begin with the same token are to be looked at
agree_begun : (bs cs : List Piece) → (((n m : Option Token) → lead bs n ≡ lead cs m) → Agree bs cs) → Agree bs cs
agree_begun [] cs h = tt
agree_begun (p ∷ bs) [] h = tt
agree_begun (p ∷ bs) (q ∷ cs) h = λ ms t. h (λ n m. ap Some t) ms t

-- where the first parts are of rules that agree, and what is behind the same first part agrees
pub agree_parts : {A : Type 0} (r s : Rule A) → Same r s → SameDepth r s → (a b : A) (xs ys front back front' back' : List Piece) (c d : List Token)
    → xs ≡ front ++ back → ys ≡ front' ++ back' → AreMarked xs → AreMarked ys → r a front (lead back (first_of c)) → s b front' (lead back' (first_of d))
    → (a ≡ b → Agree back back') → Agree xs ys
agree_parts r s same depth a b xs ys front back front' back' c d xs_is ys_is xm ym h k goes_on =
    let M = subst AreMarked xs_is xm in
    let N = subst AreMarked ys_is ym in
    let R : Option Token → Type 0 = λ z. r a front z in
    let S : Option Token → Type 0 = λ z. s b front' z in
    let x_next = lead-first back (AreMarked-back front back M) c in
    let y_next = lead-first back' (AreMarked-back front' back' N) d in
    let x_reads = subst R (sym x_next) h in
    let y_reads = subst S (sym y_next) k in
    let fronts = agree_by r s depth a b front front' (written back ++ c) (written back' ++ d) x_reads y_reads in
    let joined : Agree (front ++ back) (front' ++ back') = agree_join front front' back back' fronts
    (λ alike. agree_begun back back' (λ begun.
    let e : front ≡ front' = alike_agree front front' alike fronts in
    goes_on (same (written front ++ (written back ++ c)) a b front front' (record { behind = written back ++ c; is = refl; reads = x_reads })
    (record {
      behind = written back ++ c;
      is = ap (λ z. written z ++ (written back ++ c)) e;
      reads = subst S (sym (begun (first_of c) (first_of d)) ∙ sym x_next) k;
    })).0))
    (λ ahead.
    let p = ahead_comes front back front' (first_of c) (written back' ++ d) ahead (AreMarked-front front' back' N) in
    let e = same (written front' ++ (written back' ++ d)) a b front front' (record { behind = p.rest; is = p.is; reads = subst R (sym p.comes) h })
    (record { behind = written back' ++ d; is = refl; reads = y_reads }) in
    ahead_self front' back (subst (λ z. Ahead z back front') e.1 ahead))
    (λ ahead.
    let p = ahead_comes front' back' front (first_of d) (written back ++ c) ahead (AreMarked-front front back M) in
    let e = same (written front ++ (written back ++ c)) a b front front' (record { behind = written back ++ c; is = refl; reads = x_reads })
    (record { behind = p.rest; is = p.is; reads = subst S (sym p.comes) k }) in
    ahead_self front back' (subst (λ z. Ahead z back' front) (sym e.1) ahead)) in
    subst (λ z. Agree z ys) (sym xs_is) (subst (λ z. Agree (front ++ back) z) (sym ys_is) joined)

-- ---- what two rules read, where their parts agree

pub agree_none : (xs ys : List Piece) → ys ≡ [] → Agree xs ys
agree_none [] ys h = tt
agree_none (p ∷ xs) [] h = tt
agree_none (p ∷ xs) (q ∷ ys) h = absurd cc

pub agree_one : (test : Test) (t u : Token) (xs ys : List Piece) → IsOne test t xs → IsOne test u ys → Agree xs ys
agree_one test t u xs ys h k =
    subst (λ z. Agree z ys) (sym h.is) (subst (λ z. Agree (record { marks = h.marks; token = t; depth = 0 } ∷ []) z) (sym k.is) (λ ms is. (refl, tt)))

pub agree_bind : {A B : Type 0} (r s : Rule A) (f g : A → Rule B) → IsClean (r >>= f) → IsClean (s >>= g) → Same r s → SameDepth r s → ((x : A) → SameDepth (f x) (g x))
    → Agreeing (r >>= f) (s >>= g)
agree_bind r s f g cf cg same depth more a b xs ys c d h k =
    agree_parts r s same depth h.first k.first xs ys h.front h.back k.front k.back c d h.is k.is (cf a xs (first_of c) h) (cg b ys (first_of d) k) h.begins k.begins
    (λ e. agree_by (f h.first) (g h.first) (more h.first) a b h.back k.back c d h.goes_on (subst (λ z. g z b k.back (first_of d)) (sym e) k.goes_on))

agree_chosen : {A : Type 0} (r r' s s' : Rule A) → SameDepth r r' → SameDepth s s' → (v : Bool) (a b : A) (xs ys : List Piece) (c d : List Token)
    → choose v (r a xs (first_of c)) (s a xs (first_of c)) → choose v (r' b ys (first_of d)) (s' b ys (first_of d)) → Agree xs ys
agree_chosen r r' s s' f g true a b xs ys c d h k = agree_by r r' f a b xs ys c d h k
agree_chosen r r' s s' f g false a b xs ys c d h k = agree_by s s' g a b xs ys c d h k

-- both begin with the same token, which tells which is read
pub agree_when : {A : Type 0} (test : Test) (r r' s s' : Rule A) → SameDepth r r' → SameDepth s s' → Agreeing (when test r s) (when test r' s')
agree_when test r r' s s' f g a b [] ys c d h k = tt
agree_when test r r' s s' f g a b (p ∷ xs) [] c d h k = tt
agree_when test r r' s s' f g a b (p ∷ xs) (q ∷ ys) c d h k = λ ms t.
    let P : Token → Type 0 = λ z. choose (test z) (r' b (q ∷ ys) (first_of d)) (s' b (q ∷ ys) (first_of d)) in
    agree_chosen r r' s s' f g (test p.token) a b (p ∷ xs) (q ∷ ys) c d h (subst P (sym t) k) ms t

pub agree_many : {A : Type 0} (test : Test) (f g : List A → Rule A) → ((found trees : List A) (xs : List Piece) (n : Option Token) → many_behind test f found trees xs n → AreMarked xs)
    → ((found trees : List A) (xs : List Piece) (n : Option Token) → many_behind test g found trees xs n → AreMarked xs) → ((found : List A) → Same (f found) (g found))
    → ((found : List A) → SameDepth (f found) (g found)) → (found : List A) → Agreeing (many_behind test f found) (many_behind test g found)
agree_many test f g cf cg same depth found [] vs xs ys c d h k = subst (λ z. Agree z ys) (sym h.0) tt
agree_many test f g cf cg same depth found (a ∷ us) [] xs ys c d h k = agree_none xs ys k.0
agree_many test f g cf cg same depth found (a ∷ us) (b ∷ vs) xs ys c d h k =
    agree_parts (f found) (g found) (same found) (depth found) a b xs ys h.front h.back k.front k.back c d h.is k.is
    (cf found (a ∷ us) xs (first_of c) h) (cg found (b ∷ vs) ys (first_of d) k) h.begins k.begins
    (λ e. agree_many test f g cf cg same depth (found ++ a ∷ []) us vs h.back k.back c d h.goes_on
    (subst (λ z. many_behind test g (found ++ z ∷ []) vs k.back (first_of d)) (sym e) k.goes_on))

-- ---- one more open around a text

pub agree_deeper : (xs ys : List Piece) → Agree xs ys → Agree (deeper xs) (deeper ys)
agree_deeper [] ys h = tt
agree_deeper (p ∷ xs) [] h = tt
agree_deeper (p ∷ xs) (q ∷ ys) h = λ ms t. let one = h ms t in (ap (λ n. n + 1) one.0, agree_deeper xs ys one.1)

pub agree_nested : {A : Type 0} (r s : Rule A) → SameDepth r s → Agreeing (λ tree text next. Nested r tree text next) (λ tree text next. Nested s tree text next)
agree_nested r s depth a b xs ys c d h k =
    subst (λ z. Agree z ys) (sym h.is) (subst (λ z. Agree (deeper h.inner) z) (sym k.is)
    (agree_deeper h.inner k.inner (agree_by r s depth a b h.inner k.inner c d h.inside k.inside)))
