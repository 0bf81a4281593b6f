-- What holds of the rules that the grammar is made of, where it holds of their parts.
use Rattle.std.proofs.Common.{◌≡◌, ◌∙◌, ℕ, Bool, true, false, List, [], ◌∷◌, ◌++◌, Option, refl, sym, ap, ap₂, subst, append_assoc}
use Rattle.sv_lexer.specs.declared.token.Token.{Token}
use Rattle.sv_ast.specs.declared.expression.Id.{Id}
use Rattle.expr_parser.specs.Grammar.{id_of}
use Rattle.module_parser.specs.Rule.{Piece, Rule, Test, written, deeper, lead, meets, give, IsOne, one, skip, ◌>>=◌, choose, when, Another, many_behind, many, Nested, opened, AreMarked, has_mark, watched}
use Rattle.module_parser.proofs.Rules.{Family, Stop, first_of, At, Same, IsClean, IsCalm, LawAt, Law, NeverEmpty}
use Rattle.module_parser.proofs.Streams.{written-behind, AreMarked-append, deeper-written, deeper-marked, lead-first, cut-same}
use Rattle.module_parser.proofs.Depths.{Agree, depth_by, agree_one, agree_bind, agree_when, agree_many, agree_nested}

-- ---- parts of what was read

-- the same lists behind the same
append-cancel : (a b c : List Token) → a ++ b ≡ a ++ c → b ≡ c
append-cancel [] b c h = h
append-cancel (t ∷ a) b c h = let rest : a ++ b ≡ a ++ c = cc in append-cancel a b c rest

pub front-none : (xs ys : List Piece) → [] ≡ xs ++ ys → xs ≡ []
front-none [] ys h = refl
front-none (p ∷ xs) ys h = absurd cc

pub back-none : (xs ys : List Piece) → [] ≡ xs ++ ys → ys ≡ []
back-none [] ys h = sym h
back-none (p ∷ xs) ys h = absurd cc

deeper-none : (xs : List Piece) → [] ≡ deeper xs → xs ≡ []
deeper-none [] h = refl
deeper-none (p ∷ xs) h = absurd cc

-- the first part is read at the front of the same tokens
pub at_front : {A : Type 0} (r : Rule A) (stream : List Token) (tree : A) (text front back : List Piece) (behind : List Token) → stream ≡ written text ++ behind → text ≡ front ++ back
    → AreMarked back → r tree front (lead back (first_of behind)) → At r stream tree front
at_front r stream tree text front back behind stream_is text_is marked reads =
    let P : Option Token → Type 0 = λ z. r tree front z in
    record {
      behind = written back ++ behind;
      is = stream_is ∙ ap (λ z. written z ++ behind) text_is ∙ written-behind front back behind;
      reads = subst P (sym (lead-first back marked behind)) reads;
    }

-- behind the same first parts stand the same tokens
pub rest_same : (stream : List Token) (text front back : List Piece) (behind : List Token) (text' front' back' : List Piece) (behind' : List Token)
    → stream ≡ written text ++ behind → text ≡ front ++ back → stream ≡ written text' ++ behind' → text' ≡ front' ++ back' → front ≡ front'
    → written back ++ behind ≡ written back' ++ behind'
rest_same stream text front back behind text' front' back' behind' a b c d e =
    append-cancel (written front) (written back ++ behind) (written back' ++ behind')
    (sym (a ∙ ap (λ z. written z ++ behind) b ∙ written-behind front back behind) ∙ c ∙ ap (λ z. written z ++ behind') d ∙ written-behind front' back' behind'
    ∙ ap (λ z. written z ++ (written back' ++ behind')) (sym e))

-- the first token of a text is the first of all
pub lead_is : (stream : List Token) (text : List Piece) (behind : List Token) → stream ≡ written text ++ behind → AreMarked text → lead text (first_of behind) ≡ first_of stream
lead_is stream text behind is marked = sym (lead-first text marked behind) ∙ ap first_of (sym is)

-- the token behind the first part stays where there is a second
pub lead_moves : {A : Type 0} (stop : Stop) (r : Rule A) → IsCalm stop r → (tree : A) (front back : List Piece) (n v : Option Token) → r tree front (lead back n) → (back ≡ [] → stop v ≡ true)
    → r tree front (lead back v)
lead_moves stop r calm tree front [] n v h k = calm tree front n v h (k refl)
lead_moves stop r calm tree front (p ∷ back) n v h k = h

-- ---- fewer tokens that stop

pub law_weaken : {A : Type 0} (stop less : Stop) (r s : Rule A) → ((v : Option Token) → less v ≡ true → stop v ≡ true) → LawAt stop r s → LawAt less r s
law_weaken stop less r s le l = record {
  clean = l.clean;
  clean_too = l.clean_too;
  calm = λ a xs n v h st. l.calm a xs n v h (le v st);
  same = l.same;
  depth = l.depth;
}

-- ---- no token

clean_give : {A : Type 0} (a : A) → IsClean (give a)
clean_give a b xs n h = subst AreMarked (sym h.1) tt

pub law_give : {A : Type 0} (stop : Stop) (a : A) → LawAt stop (give a) (give a)
law_give stop a = record {
  clean = clean_give a;
  clean_too = clean_give a;
  calm = λ b xs n v h st. h;
  same = λ stream b c xs ys x y. (x.reads.0 ∙ sym y.reads.0, x.reads.1 ∙ sym y.reads.1);
  depth = depth_by (give a) (give a) (clean_give a) (clean_give a) (λ b c xs ys m n h k. subst (λ z. Agree z ys) (sym h.1) tt);
}

-- ---- one token

one_marked : (test : Test) (token : Token) (text : List Piece) → IsOne test token text → AreMarked text
one_marked test token text o = subst AreMarked (sym o.is) (o.are_marks, o.no_mark, tt)

one_written : (test : Test) (token : Token) (text : List Piece) (o : IsOne test token text) (behind : List Token) → written text ++ behind ≡ o.marks ++ token ∷ behind
one_written test token text o behind = ap (λ z. written z ++ behind) o.is ∙ append_assoc o.marks (token ∷ []) behind

one_same : (test : Test) (stream : List Token) (t u : Token) (xs ys : List Piece) (bx by : List Token) → stream ≡ written xs ++ bx → stream ≡ written ys ++ by
    → IsOne test t xs → IsOne test u ys → (t ≡ u) × (xs ≡ ys)
one_same test stream t u xs ys bx by a b o p =
    let cut = cut-same o.marks p.marks t u bx by o.are_marks p.are_marks o.no_mark p.no_mark (sym (one_written test t xs o bx) ∙ sym a ∙ b ∙ one_written test u ys p by) in
    (cut.1, o.is ∙ ap₂ (λ ms x. record { marks = ms; token = x; depth = 0 } ∷ []) cut.0 cut.1 ∙ sym p.is)

clean_one : (test : Test) → IsClean (one test)
clean_one test a xs n h = one_marked test h.0 xs h.1

clean_skip : (test : Test) → IsClean (skip test)
clean_skip test a xs n h = one_marked test h.0 xs h.1

pub law_one : (stop : Stop) (test : Test) → LawAt stop (one test) (one test)
law_one stop test = record {
  clean = clean_one test;
  clean_too = clean_one test;
  calm = λ a xs n v h st. h;
  same = λ stream a b xs ys x y.
      let s = one_same test stream x.reads.0 y.reads.0 xs ys x.behind y.behind x.is y.is x.reads.1 y.reads.1 in
      (x.reads.2 ∙ ap id_of s.0 ∙ sym y.reads.2, s.1);
  depth = depth_by (one test) (one test) (clean_one test) (clean_one test) (λ a b xs ys m n h k. agree_one test h.0 k.0 xs ys h.1 k.1);
}

pub law_skip : (stop : Stop) (test : Test) → LawAt stop (skip test) (skip test)
law_skip stop test = record {
  clean = clean_skip test;
  clean_too = clean_skip test;
  calm = λ a xs n v h st. h;
  same = λ stream a b xs ys x y. (refl, (one_same test stream x.reads.0 y.reads.0 xs ys x.behind y.behind x.is y.is x.reads.1 y.reads.1).1);
  depth = depth_by (skip test) (skip test) (clean_skip test) (clean_skip test) (λ a b xs ys m n h k. agree_one test h.0 k.0 xs ys h.1 k.1);
}

-- ---- one after the other

clean_bind : {A B : Type 0} (r : Rule A) (f : A → Rule B) → IsClean r → ((x : A) → IsClean (f x)) → IsClean (r >>= f)
clean_bind r f cr cf b xs n j =
    subst AreMarked (sym j.is) (AreMarked-append j.front j.back (cr j.first j.front (lead j.back n) j.begins) (cf j.first b j.back n j.goes_on))

bind_front : {A B : Type 0} (r : Rule A) (f : A → Rule B) → ((x : A) → IsClean (f x)) → (stream : List Token) (b : B) (xs : List Piece) (x : At (r >>= f) stream b xs)
    → At r stream x.reads.first x.reads.front
bind_front r f cf stream b xs x =
    let j = x.reads in at_front r stream j.first xs j.front j.back x.behind x.is j.is (cf j.first b j.back (first_of x.behind) j.goes_on) j.begins

same_bind : {A B : Type 0} (r s : Rule A) (f g : A → Rule B) → ((x : A) → IsClean (f x)) → ((x : A) → IsClean (g x)) → Same r s → ((x : A) → Same (f x) (g x)) → Same (r >>= f) (s >>= g)
same_bind r s f g cf cg rs fg stream a b xs ys x y =
    let j = x.reads in
    let k = y.reads in
    let first = rs stream j.first k.first j.front k.front (bind_front r f cf stream a xs x) (bind_front s g cg stream b ys y) in
    let Q : _ → Type 0 = λ z. g z b k.back (first_of y.behind) in
    let second = fg j.first (written j.back ++ x.behind) a b j.back k.back (record { behind = x.behind; is = refl; reads = j.goes_on })
    (record {
      behind = y.behind;
      is = rest_same stream xs j.front j.back x.behind ys k.front k.back y.behind x.is j.is y.is k.is first.1;
      reads = subst Q (sym first.0) k.goes_on;
    }) in
    (second.0, j.is ∙ ap₂ (λ u v. u ++ v) first.1 second.1 ∙ sym k.is)

pub law_bind : {A B : Type 0} (front stop : Stop) (r s : Rule A) (f g : A → Rule B) → LawAt front r s → ((x : A) → LawAt stop (f x) (g x))
    → ((x : A) (b : B) (n v : Option Token) → f x b [] n → stop v ≡ true → front v ≡ true) → LawAt stop (r >>= f) (s >>= g)
law_bind front stop r s f g lr lf empties = record {
  clean = clean_bind r f lr.clean (λ x. (lf x).clean);
  clean_too = clean_bind s g lr.clean_too (λ x. (lf x).clean_too);
  calm = λ b xs n v j st. record {
    first = j.first;
    front = j.front;
    back = j.back;
    is = j.is;
    begins = lead_moves front r lr.calm j.first j.front j.back n v j.begins (λ none. empties j.first b n v (subst (λ z. f j.first b z n) none j.goes_on) st);
    goes_on = (lf j.first).calm b j.back n v j.goes_on st;
  };
  same = same_bind r s f g (λ x. (lf x).clean) (λ x. (lf x).clean_too) lr.same (λ x. (lf x).same);
  depth =
      let cf = clean_bind r f lr.clean (λ x. (lf x).clean) in
      let cg = clean_bind s g lr.clean_too (λ x. (lf x).clean_too) in
      depth_by (r >>= f) (s >>= g) cf cg (agree_bind r s f g cf cg lr.same lr.depth (λ x. (lf x).depth));
}

-- ---- what has a token

pub never_one : (test : Test) → NeverEmpty (one test)
never_one test a n h = let e = h.1.is in absurd cc

pub never_skip : (test : Test) → NeverEmpty (skip test)
never_skip test a n h = let e = h.1.is in absurd cc

pub never_first : {A B : Type 0} (r : Rule A) (f : A → Rule B) → NeverEmpty r → NeverEmpty (r >>= f)
never_first r f none b n j =
    none j.first (lead j.back n) (subst (λ z. r j.first z (lead j.back n)) (front-none j.front j.back j.is) j.begins)

pub never_then : {A B : Type 0} (r : Rule A) (f : A → Rule B) → ((x : A) → NeverEmpty (f x)) → NeverEmpty (r >>= f)
never_then r f none b n j = none j.first b n (subst (λ z. f j.first b z n) (back-none j.front j.back j.is) j.goes_on)

never_chosen : (c : Bool) (R S : Type 0) → (R → ⊥) → (S → ⊥) → choose c R S → ⊥
never_chosen true R S a b h = a h
never_chosen false R S a b h = b h

pub never_when : {A : Type 0} (test : Test) (r s : Rule A) → NeverEmpty r → NeverEmpty s → NeverEmpty (when test r s)
never_when test r s nr ns a n h = never_chosen (meets test n) (r a [] n) (s a [] n) (nr a n) (ns a n) h

pub never_nested : {A : Type 0} (r : Rule A) → NeverEmpty r → NeverEmpty (λ tree text next. Nested r tree text next)
never_nested r none a n h = none a n (subst (λ z. r a z n) (deeper-none h.inner h.is) h.inside)

pub never_opened : {A : Type 0} (test : Test) (f : Id → Rule A) → NeverEmpty (opened test f)
never_opened test f = never_nested (one test >>= f) (never_first (one test) f (never_one test))

pub never_watched : {A : Type 0} (r : Rule A) → NeverEmpty r → NeverEmpty (watched r)
never_watched r none p n h = none p.0 n h.0

pub never_depths : {A : Type 0} (us : Family A) → ((n : ℕ) → NeverEmpty (us n)) → NeverEmpty (λ tree text next. (n : ℕ) × us n tree text next)
never_depths us none a n h = none h.0 a n h.1

-- ---- one of two

marked_chosen : (c : Bool) (R S : Type 0) (text : List Piece) → (R → AreMarked text) → (S → AreMarked text) → choose c R S → AreMarked text
marked_chosen true R S text a b h = a h
marked_chosen false R S text a b h = b h

clean_when : {A : Type 0} (test : Test) (r s : Rule A) → IsClean r → IsClean s → IsClean (when test r s)
clean_when test r s cr cs a xs n h = marked_chosen (meets test (lead xs n)) (r a xs n) (s a xs n) xs (cr a xs n) (cs a xs n) h

chosen_moves : (c : Bool) (R S R' S' : Type 0) → (R → R') → (S → S') → choose c R S → choose c R' S'
chosen_moves true R S R' S' a b h = a h
chosen_moves false R S R' S' a b h = b h

second_moves : (c d : Bool) (R S R' S' : Type 0) → (R → ⊥) → (S → S') → (S → d ≡ false) → choose c R S → choose d R' S'
second_moves true d R S R' S' a b stops h = absurd (a h)
second_moves false d R S R' S' a b stops h = subst (λ z. choose z R' S') (sym (stops h)) (b h)

calm_when : {A : Type 0} (stop : Stop) (test : Test) (r s : Rule A) → IsCalm stop r → IsCalm stop s → NeverEmpty r → ((a : A) (n v : Option Token) → s a [] n → stop v ≡ true → meets test v ≡ false)
    → IsCalm stop (when test r s)
calm_when stop test r s cr cs none stops a [] n v h st =
    second_moves (meets test n) (meets test v) (r a [] n) (s a [] n) (r a [] v) (s a [] v) (none a n) (λ k. cs a [] n v k st) (λ k. stops a n v k st) h
calm_when stop test r s cr cs none stops a (p ∷ xs) n v h st =
    chosen_moves (meets test (lead (p ∷ xs) n)) (r a (p ∷ xs) n) (s a (p ∷ xs) n) (r a (p ∷ xs) v) (s a (p ∷ xs) v) (λ k. cr a (p ∷ xs) n v k st) (λ k. cs a (p ∷ xs) n v k st) h

same_chosen : {A : Type 0} (r r' s s' : Rule A) → Same r r' → Same s s' → (c : Bool) (stream : List Token) (a b : A) (xs ys : List Piece) (bx by : List Token)
    → stream ≡ written xs ++ bx → stream ≡ written ys ++ by → choose c (r a xs (first_of bx)) (s a xs (first_of bx)) → choose c (r' b ys (first_of by)) (s' b ys (first_of by))
    → (a ≡ b) × (xs ≡ ys)
same_chosen r r' s s' f g true stream a b xs ys bx by is js h k =
    f stream a b xs ys (record { behind = bx; is = is; reads = h }) (record { behind = by; is = js; reads = k })
same_chosen r r' s s' f g false stream a b xs ys bx by is js h k =
    g stream a b xs ys (record { behind = bx; is = is; reads = h }) (record { behind = by; is = js; reads = k })

-- which of the two is read is told by the first token of all
chosen_at : {A : Type 0} (test : Test) (r s : Rule A) → IsClean r → IsClean s → (stream : List Token) (a : A) (xs : List Piece) (x : At (when test r s) stream a xs)
    → choose (meets test (first_of stream)) (r a xs (first_of x.behind)) (s a xs (first_of x.behind))
chosen_at test r s cr cs stream a xs x =
    subst (λ z. choose (meets test z) (r a xs (first_of x.behind)) (s a xs (first_of x.behind)))
    (lead_is stream xs x.behind x.is (clean_when test r s cr cs a xs (first_of x.behind) x.reads)) x.reads

pub law_when : {A : Type 0} (stop : Stop) (test : Test) (r r' s s' : Rule A) → LawAt stop r r' → LawAt stop s s' → NeverEmpty r → ((a : A) (n v : Option Token) → s a [] n → stop v ≡ true → meets test v ≡ false)
    → LawAt stop (when test r s) (when test r' s')
law_when stop test r r' s s' lr ls none stops = record {
  clean = clean_when test r s lr.clean ls.clean;
  clean_too = clean_when test r' s' lr.clean_too ls.clean_too;
  calm = calm_when stop test r s lr.calm ls.calm none stops;
  same = λ stream a b xs ys x y. same_chosen r r' s s' lr.same ls.same (meets test (first_of stream)) stream a b xs ys x.behind y.behind x.is y.is
      (chosen_at test r s lr.clean ls.clean stream a xs x) (chosen_at test r' s' lr.clean_too ls.clean_too stream b ys y);
  depth = depth_by (when test r s) (when test r' s') (clean_when test r s lr.clean ls.clean) (clean_when test r' s' lr.clean_too ls.clean_too)
      (agree_when test r r' s s' lr.depth ls.depth);
}

-- ---- one more open around it

clean_nested : {A : Type 0} (r : Rule A) → IsClean r → IsClean (λ tree text next. Nested r tree text next)
clean_nested r cr a xs n h = subst AreMarked (sym h.is) (deeper-marked h.inner (cr a h.inner n h.inside))

nested_at : {A : Type 0} (r : Rule A) (stream : List Token) (a : A) (xs : List Piece) (x : At (λ tree text next. Nested r tree text next) stream a xs) → At r stream a x.reads.inner
nested_at r stream a xs x = record {
  behind = x.behind;
  is = x.is ∙ ap (λ z. written z ++ x.behind) x.reads.is ∙ ap (λ z. z ++ x.behind) (deeper-written x.reads.inner);
  reads = x.reads.inside;
}

pub law_nested : {A : Type 0} (stop : Stop) (r s : Rule A) → LawAt stop r s → LawAt stop (λ tree text next. Nested r tree text next) (λ tree text next. Nested s tree text next)
law_nested stop r s l = record {
  clean = clean_nested r l.clean;
  clean_too = clean_nested s l.clean_too;
  calm = λ a xs n v h st. record { inner = h.inner; is = h.is; inside = l.calm a h.inner n v h.inside st };
  same = λ stream a b xs ys x y.
      let one = l.same stream a b x.reads.inner y.reads.inner (nested_at r stream a xs x) (nested_at s stream b ys y) in
      (one.0, x.reads.is ∙ ap deeper one.1 ∙ sym y.reads.is);
  depth = depth_by (λ tree text next. Nested r tree text next) (λ tree text next. Nested s tree text next) (clean_nested r l.clean) (clean_nested s l.clean_too) (agree_nested r s l.depth);
}

pub law_opened : {A : Type 0} (stop : Stop) (test : Test) (f g : Id → Rule A) → ((x : Id) → LawAt stop (f x) (g x)) → LawAt stop (opened test f) (opened test g)
law_opened stop test f g l =
    law_nested stop (one test >>= f) (one test >>= g) (law_bind (λ v. true) stop (one test) (one test) f g (law_one (λ v. true) test) l (λ x b n v h st. refl))

-- ---- whether a mark stands in it

watched_at : {A : Type 0} (r : Rule A) (stream : List Token) (p : A × Bool) (xs : List Piece) → At (watched r) stream p xs → At r stream p.0 xs
watched_at r stream p xs x = record { behind = x.behind; is = x.is; reads = x.reads.0 }

pub law_watched : {A : Type 0} (stop : Stop) (r s : Rule A) → LawAt stop r s → LawAt stop (watched r) (watched s)
law_watched stop r s l = record {
  clean = λ p xs n h. l.clean p.0 xs n h.0;
  clean_too = λ p xs n h. l.clean_too p.0 xs n h.0;
  calm = λ p xs n v h st. (l.calm p.0 xs n v h.0 st, h.1);
  same = λ stream p q xs ys x y.
      let one = l.same stream p.0 q.0 xs ys (watched_at r stream p xs x) (watched_at s stream q ys y) in
      (ap₂ (λ u v. (u, v)) one.0 (x.reads.1 ∙ ap has_mark one.1 ∙ sym y.reads.1), one.1);
  depth = λ p q us us' vs vs' u v m n h k e. l.depth p.0 q.0 us us' vs vs' u v m n h.0 k.0 e;
}

-- ---- at some depth

pub law_depths : {A : Type 0} (stop : Stop) (us : Family A) → Law stop us → LawAt stop (λ tree text next. (n : ℕ) × us n tree text next) (λ tree text next. (n : ℕ) × us n tree text next)
law_depths stop us l = record {
  clean = λ a xs n h. (l h.0 h.0).clean a xs n h.1;
  clean_too = λ a xs n h. (l h.0 h.0).clean a xs n h.1;
  calm = λ a xs n v h st. (h.0, (l h.0 h.0).calm a xs n v h.1 st);
  same = λ stream a b xs ys x y.
      (l x.reads.0 y.reads.0).same stream a b xs ys (record { behind = x.behind; is = x.is; reads = x.reads.1 }) (record { behind = y.behind; is = y.is; reads = y.reads.1 });
  depth = λ a b ts us' vs vs' u v m n h k e. (l h.0 k.0).depth a b ts us' vs vs' u v m n h.1 k.1 e;
}

-- ---- as many as come

clean_many : {A : Type 0} (test : Test) (f : List A → Rule A) → ((found : List A) → IsClean (f found)) → (found trees : List A) (xs : List Piece) (n : Option Token)
    → many_behind test f found trees xs n → AreMarked xs
clean_many test f cf found [] xs n h = subst AreMarked (sym h.0) tt
clean_many test f cf found (a ∷ trees) xs n h =
    subst AreMarked (sym h.is) (AreMarked-append h.front h.back (cf found a h.front (lead h.back n) h.begins) (clean_many test f cf (found ++ a ∷ []) trees h.back n h.goes_on))

comes_moves : (test : Test) (xs : List Piece) (n v : Option Token) → (xs ≡ [] → ⊥) → meets test (lead xs n) ≡ true → meets test (lead xs v) ≡ true
comes_moves test [] n v some h = absurd (some refl)
comes_moves test (p ∷ xs) n v some h = h

another_some : {A : Type 0} (r : Rule A) → NeverEmpty r → (a : A) (xs front back : List Piece) (n : Option Token) → xs ≡ front ++ back → r a front n → xs ≡ [] → ⊥
another_some r none a xs front back n is begins empty = none a n (subst (λ z. r a z n) (front-none front back (sym empty ∙ is)) begins)

calm_many : {A : Type 0} (stop : Stop) (test : Test) (f : List A → Rule A) → ((found : List A) → IsCalm stop (f found)) → ((found : List A) → NeverEmpty (f found))
    → ((v : Option Token) → stop v ≡ true → meets test v ≡ false) → (found trees : List A) (xs : List Piece) (n v : Option Token) → many_behind test f found trees xs n → stop v ≡ true
    → many_behind test f found trees xs v
calm_many stop test f cf none stops found [] xs n v h st = (h.0, stops v st)
calm_many stop test f cf none stops found (a ∷ trees) xs n v h st = record {
  comes = comes_moves test xs n v (another_some (f found) (none found) a xs h.front h.back (lead h.back n) h.is h.begins) h.comes;
  front = h.front;
  back = h.back;
  is = h.is;
  begins = lead_moves stop (f found) (cf found) a h.front h.back n v h.begins (λ e. st);
  goes_on = calm_many stop test f cf none stops (found ++ a ∷ []) trees h.back n v h.goes_on st;
}

-- no more come where the list ends, and one where it goes on
ends_apart : {A : Type 0} (test : Test) (r : Rule A) (more : List Piece → Option Token → Type 0) → (stream : List Token) (b : A) (xs ys : List Piece) (bx by : List Token)
    → stream ≡ written xs ++ bx → stream ≡ written ys ++ by → AreMarked ys → (xs ≡ []) × (meets test (first_of bx) ≡ false) → Another test r more b ys (first_of by) → ⊥
ends_apart test r more stream b xs ys bx by is js marked h k =
    let all : stream ≡ bx = is ∙ ap (λ z. written z ++ bx) h.0 in
    let none : meets test (first_of stream) ≡ false = ap (λ z. meets test (first_of z)) all ∙ h.1 in
    let some : meets test (first_of stream) ≡ true = ap (meets test) (sym (lead_is stream ys by js marked)) ∙ k.comes in absurd cc

many_same : {A : Type 0} (test : Test) (f g : List A → Rule A) → ((found : List A) → IsClean (f found)) → ((found : List A) → IsClean (g found)) → ((found : List A) → Same (f found) (g found))
    → (found : List A) (stream : List Token) (us vs : List A) (xs ys : List Piece) (bx by : List Token) → stream ≡ written xs ++ bx → stream ≡ written ys ++ by
    → many_behind test f found us xs (first_of bx) → many_behind test g found vs ys (first_of by) → (us ≡ vs) × (xs ≡ ys)
many_same test f g cf cg fg found stream [] [] xs ys bx by is js h k = (refl, h.0 ∙ sym k.0)
many_same test f g cf cg fg found stream [] (b ∷ vs) xs ys bx by is js h k =
    absurd (ends_apart test (g found) (many_behind test g (found ++ b ∷ []) vs) stream b xs ys bx by is js (clean_many test g cg found (b ∷ vs) ys (first_of by) k) h k)
many_same test f g cf cg fg found stream (a ∷ us) [] xs ys bx by is js h k =
    absurd (ends_apart test (f found) (many_behind test f (found ++ a ∷ []) us) stream a ys xs by bx js is (clean_many test f cf found (a ∷ us) xs (first_of bx) h) k h)
many_same test f g cf cg fg found stream (a ∷ us) (b ∷ vs) xs ys bx by is js h k =
    let first = fg found stream a b h.front k.front
    (at_front (f found) stream a xs h.front h.back bx is h.is (clean_many test f cf (found ++ a ∷ []) us h.back (first_of bx) h.goes_on) h.begins)
    (at_front (g found) stream b ys k.front k.back by js k.is (clean_many test g cg (found ++ b ∷ []) vs k.back (first_of by) k.goes_on) k.begins) in
    let more = many_same test f g cf cg fg (found ++ a ∷ []) (written h.back ++ bx) us vs h.back k.back bx by refl
    (rest_same stream xs h.front h.back bx ys k.front k.back by is h.is js k.is first.1)
    h.goes_on (subst (λ z. many_behind test g (found ++ z ∷ []) vs k.back (first_of by)) (sym first.0) k.goes_on) in
    (ap₂ (λ u v. u ∷ v) first.0 more.0, h.is ∙ ap₂ (λ u v. u ++ v) first.1 more.1 ∙ sym k.is)

pub law_many : {A : Type 0} (stop : Stop) (test : Test) (f g : List A → Rule A) → ((found : List A) → LawAt stop (f found) (g found)) → ((found : List A) → NeverEmpty (f found))
    → ((v : Option Token) → stop v ≡ true → meets test v ≡ false) → LawAt stop (many test f) (many test g)
law_many stop test f g l none stops = record {
  clean = λ trees xs n h. clean_many test f (λ found. (l found).clean) [] trees xs n h;
  clean_too = λ trees xs n h. clean_many test g (λ found. (l found).clean_too) [] trees xs n h;
  calm = λ trees xs n v h st. calm_many stop test f (λ found. (l found).calm) none stops [] trees xs n v h st;
  same = λ stream us vs xs ys x y.
      many_same test f g (λ found. (l found).clean) (λ found. (l found).clean_too) (λ found. (l found).same) [] stream us vs xs ys x.behind y.behind x.is y.is x.reads y.reads;
  depth =
      let cf = clean_many test f (λ found. (l found).clean) in
      let cg = clean_many test g (λ found. (l found).clean_too) in
      depth_by (many test f) (many test g) (cf []) (cg []) (agree_many test f g cf cg (λ found. (l found).same) (λ found. (l found).depth) []);
}
