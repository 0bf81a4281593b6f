-- Parsers that read what a rule says, put together as the rules are. Beside the fact stands what is known of the rule's
-- texts: the first token of one of them, and whether each has a token.
use Rattle.std.proofs.Common.{arith, suc, zero, ◌≡◌, ◌∙◌, ◌+◌, ◌≤◌, ℕ, Bool, true, false, List, [], ◌∷◌, ◌++◌, Option, Some, None, refl, ap}
use Rattle.sv_lexer.specs.declared.token.Token.{Token}
use Rattle.sv_ast.specs.declared.expression.Id.{Id}
use Rattle.expr_parser.specs.Spelling.{is_mark}
use Rattle.expr_parser.specs.Input as parser
use Rattle.expr_parser.specs.Input.{Parser, pure}
use Rattle.expr_parser.specs.Nesting.{greatest_nesting}
use Rattle.module_parser.specs.Rule.{Piece, Rule, Test, meets, lead, give, one, skip, ◌>>=◌, when, many, opened, watched}
use Rattle.module_parser.specs.Input as input
use Rattle.module_parser.specs.Input.{take_one, pass}
use Rattle.module_parser.proofs.Rules.{Family, Stop, LawAt, NeverEmpty, IsClean, Spare, Fact}
use Rattle.module_parser.proofs.Streams.{lead-append}
use Rattle.module_parser.proofs.Laws.{law_weaken, law_give, law_one, law_skip, law_bind, law_when, law_many, law_opened, never_one, never_skip, never_first, never_then, never_when, never_opened, never_watched, never_depths}
use Rattle.module_parser.proofs.Facts.{fact_give, fact_one, fact_skip, fact_weaken, fact_floor, fact_bind}
use Rattle.module_parser.proofs.FactsWhen.{fact_when, picked}
use Rattle.module_parser.proofs.FactsMore.{fact_watched, fact_depths, fact_step}
use Rattle.module_parser.proofs.FactsOpened.{fact_opened}
use Rattle.module_parser.proofs.FactsMany.{fact_many}

-- this token, or the other where there is none
abbrev pub or_next : Option Token → Option Token → Option Token
or_next None next = next
or_next (Some t) next = Some t

-- `head` is the first token of the spare text, and `full` says that no text of the rule is empty
pub record Reading {A : Type 0} (floor : ℕ) (stop : Stop) (head : Option Token) (full : Bool) (us : Family A) (p : Parser A) : Type 0 where
  pub fact : Fact floor stop us p
  pub heads : (v : Option Token) → lead fact.spare.text v ≡ or_next head v
  pub never : full ≡ true → (k : ℕ) → NeverEmpty (us k)

-- the greater of two conditions
abbrev pub either : Bool → Bool → Bool
either true b = true
either false b = b

abbrev pub both : Bool → Bool → Bool
both true b = b
both false b = false

pub reads_weaken : {A : Type 0} {floor : ℕ} {stop : Stop} {head : Option Token} {full : Bool} {us : Family A} {p : Parser A} (less : Stop)
    → ((v : Option Token) → less v ≡ true → stop v ≡ true) → Reading floor stop head full us p → Reading floor less head full us p
unfolding fact_weaken
reads_weaken {floor} {stop} {us} {p} less w f = record { fact = fact_weaken floor stop less us p w f.fact; heads = f.heads; never = f.never }

pub reads_floor : {A : Type 0} {floor : ℕ} {stop : Stop} {head : Option Token} {full : Bool} {us : Family A} {p : Parser A} (high : ℕ)
    → floor ≤ high → Reading floor stop head full us p → Reading high stop head full us p
unfolding fact_floor
reads_floor {floor} {stop} {us} {p} high le f = record { fact = fact_floor floor high stop us p le f.fact; heads = f.heads; never = f.never }

pub reads_give : {A : Type 0} {floor : ℕ} {stop : Stop} (a : A) → Reading floor stop None false (λ _. give a) (pure a)
unfolding fact_give
reads_give {floor} {stop} a = record { fact = fact_give floor stop a; heads = λ v. refl; never = λ is. absurd cc }

pub reads_one : {floor : ℕ} {stop : Stop} (test : Test) (token : Token) → is_mark token.kind ≡ false → test token ≡ true
    → Reading floor stop (Some token) true (λ _. one test) (take_one test)
unfolding fact_one
reads_one {floor} {stop} test token a b = record { fact = fact_one floor stop test token a b; heads = λ v. refl; never = λ _ k. never_one test }

pub reads_skip : {floor : ℕ} {stop : Stop} (test : Test) (token : Token) → is_mark token.kind ≡ false → test token ≡ true
    → Reading floor stop (Some token) true (λ _. skip test) (pass test)
unfolding fact_skip
reads_skip {floor} {stop} test token a b = record { fact = fact_skip floor stop test token a b; heads = λ v. refl; never = λ _ k. never_skip test }

next_is : (h g v : Option Token) → or_next h (or_next g v) ≡ or_next (or_next h g) v
next_is None g v = refl
next_is (Some t) g v = refl

-- the first token of two texts
joined_heads : (h g : Option Token) (xs ys : List Piece) → ((v : Option Token) → lead xs v ≡ or_next h v) → ((v : Option Token) → lead ys v ≡ or_next g v)
    → (v : Option Token) → lead (xs ++ ys) v ≡ or_next (or_next h g) v
joined_heads h g xs ys a b v = lead-append xs ys v ∙ a (lead ys v) ∙ ap (or_next h) (b v) ∙ next_is h g v

-- one after the other, of which the second has a token
pub reads_then : {A B : Type 0} {floor : ℕ} {front stop : Stop} {h g : Option Token} {e : Bool} {us : Family A} {p : Parser A} {fs : A → Family B} {f : A → Parser B}
    → Reading floor front h e us p → ((x : A) → Reading floor stop g true (fs x) (f x)) → ((v : Option Token) → stop v ≡ true → front (or_next g v) ≡ true)
    → Reading floor stop (or_next h g) true (λ k. us k >>= (λ x. fs x k)) (parser.◌>>=◌ p f)
unfolding fact_bind
reads_then {floor} {front} {stop} {h} {g} {us} {p} {fs} {f} a b c =
    let second = b a.fact.spare.tree in
    record {
      fact = fact_bind floor front stop us p fs f a.fact (λ x. (b x).fact) (λ x v s. ap front ((b x).heads v) ∙ c v s) (λ x k y n v r _. absurd ((b x).never refl k y n r));
      heads = joined_heads h g a.fact.spare.text second.fact.spare.text a.heads second.heads;
      never = λ _ k. never_then (us k) (λ x. fs x k) (λ x. (b x).never refl k);
    }

-- where one of both has a token
never_bind : {A B : Type 0} (e d : Bool) (r : Rule A) (f : A → Rule B) → (e ≡ true → NeverEmpty r) → ((x : A) → d ≡ true → NeverEmpty (f x)) → either e d ≡ true → NeverEmpty (r >>= f)
never_bind true d r f a b is = never_first r f (a refl)
never_bind false d r f a b is = never_then r f (λ x. b x is)

-- one after the other, of which the second may have no token
pub reads_bind : {A B : Type 0} {floor : ℕ} {front stop : Stop} {h g : Option Token} {e d : Bool} {us : Family A} {p : Parser A} {fs : A → Family B} {f : A → Parser B}
    → Reading floor front h e us p → ((x : A) → Reading floor stop g d (fs x) (f x)) → ((v : Option Token) → stop v ≡ true → front (or_next g v) ≡ true)
    → ((v : Option Token) → stop v ≡ true → front v ≡ true)
    → Reading floor stop (or_next h g) (either e d) (λ k. us k >>= (λ x. fs x k)) (parser.◌>>=◌ p f)
unfolding fact_bind
reads_bind {floor} {front} {stop} {h} {g} {e} {d} {us} {p} {fs} {f} a b c bare =
    let second = b a.fact.spare.tree in
    record {
      fact = fact_bind floor front stop us p fs f a.fact (λ x. (b x).fact) (λ x v s. ap front ((b x).heads v) ∙ c v s) (λ x k y n v r s. bare v s);
      heads = joined_heads h g a.fact.spare.text second.fact.spare.text a.heads second.heads;
      never = λ is k. never_bind e d (us k) (λ x. fs x k) (λ full. a.never full k) (λ x full. (b x).never full k) is;
    }

-- a tree that is made of another
pub reads_map : {A B : Type 0} {floor : ℕ} {stop : Stop} {h : Option Token} {e : Bool} {us : Family A} {p : Parser A} (g : A → B)
    → Reading floor stop h e us p → Reading floor stop h e (λ k. us k >>= (λ x. give (g x))) (parser.◌>>=◌ p (λ x. pure (g x)))
unfolding fact_bind fact_give
reads_map {floor} {stop} {h} {us} {p} g a = record {
  fact = fact_bind floor stop stop us p (λ x k. give (g x)) (λ x. pure (g x)) a.fact (λ x. fact_give floor stop (g x)) (λ x v s. s) (λ x k y n v r s. s);
  heads = λ v. lead-append a.fact.spare.text [] v ∙ a.heads v;
  never = λ is k. never_first (us k) (λ x. give (g x)) (a.never is k);
}

where_empty : {A : Type 0} {d : Bool} (stop : Stop) (test : Test) (s : Rule A) → (d ≡ true → NeverEmpty s) → (d ≡ false → (v : Option Token) → stop v ≡ true → meets test v ≡ false)
    → (a : A) (n v : Option Token) → s a [] n → stop v ≡ true → meets test v ≡ false
where_empty {d = true} stop test s never stops a n v h st = absurd (never refl a n h)
where_empty {d = false} stop test s never stops a n v h st = stops refl v st

pub reads_when : {A : Type 0} {floor : ℕ} {stop : Stop} {h g : Option Token} {d : Bool} {us ws : Family A} {p q : Parser A} (test : Test)
    → Reading floor stop h true us p → Reading floor stop g d ws q → (d ≡ false → (v : Option Token) → stop v ≡ true → meets test v ≡ false)
    → ((v : Option Token) → stop v ≡ true → meets test (or_next g v) ≡ false)
    → Reading floor stop g d (λ k. when test (us k) (ws k)) (input.when test p q)
unfolding fact_when
reads_when {floor} {stop} {us} {ws} {p} {q} test a b c d = record {
  fact = fact_when floor stop test us ws p q a.fact b.fact (a.never refl) (λ k x n v h st. where_empty stop test (ws k) (λ full. b.never full k) c x n v h st) (λ v s. ap (meets test) (b.heads v) ∙ d v s);
  heads = b.heads;
  never = λ is k. never_when test (us k) (ws k) (a.never refl k) (b.never is k);
}

pub reads_many : {A : Type 0} {floor : ℕ} {stop : Stop} {h : List A → Option Token} (test : Test) {fs : List A → Family A} {f : List A → Parser A}
    → ((found : List A) → Reading floor stop (h found) true (fs found) (f found)) → ((v : Option Token) → stop v ≡ true → meets test v ≡ false)
    → Reading floor stop None false (λ k. many test (λ found. fs found k)) (input.many test f)
unfolding fact_many
reads_many {floor} {stop} test {fs} {f} a b = record {
  fact = fact_many floor stop test fs f (λ found. (a found).fact) (λ found. (a found).never refl) b;
  heads = λ v. refl;
  never = λ is. absurd cc;
}

pub reads_opened : {A : Type 0} {floor : ℕ} {stop : Stop} {h : Option Token} {e : Bool} (test : Test) (token : Token) → is_mark token.kind ≡ false → test token ≡ true
    → {fs : Id → Family A} {f : Id → Parser A} → ((x : Id) → Reading (floor + 1) stop h e (fs x) (f x))
    → Reading floor stop (Some token) true (λ k. opened test (λ x. fs x k)) (input.opened test f)
unfolding fact_opened
reads_opened {floor} {stop} test token a b {fs} {f} c = record {
  fact = fact_opened floor stop test token a b fs f (λ x. (c x).fact);
  heads = λ v. refl;
  never = λ _ k. never_opened test (λ x. fs x k);
}

pub reads_watched : {A : Type 0} {floor : ℕ} {stop : Stop} {h : Option Token} {e : Bool} {us : Family A} {p : Parser A}
    → Reading floor stop h e us p → Reading floor stop h e (λ k. watched (us k)) (input.watched p)
unfolding fact_watched
reads_watched {floor} {stop} {us} {p} a = record { fact = fact_watched floor stop us p a.fact; heads = a.heads; never = λ is k. never_watched (us k) (a.never is k) }

pub reads_depths : {A : Type 0} {floor : ℕ} {stop : Stop} {h : Option Token} {e : Bool} {us : Family A} {p : Parser A}
    → Reading floor stop h e us p → Reading floor stop h e (λ _ tree text next. (n : ℕ) × us n tree text next) p
unfolding fact_depths
reads_depths {floor} {stop} {us} {p} a = record { fact = fact_depths floor stop us p a.fact; heads = a.heads; never = λ is _. never_depths us (a.never is) }

-- ---- the laws alone, of rules that hold others

pub record Lawful {A : Type 0} (stop : Stop) (full : Bool) (r s : Rule A) : Type 0 where
  pub law : LawAt stop r s
  pub never : full ≡ true → NeverEmpty r

-- those of what is read anyway
pub lawful : {A : Type 0} {floor : ℕ} {stop : Stop} {h : Option Token} {e : Bool} {us : Family A} {p : Parser A} → Reading floor stop h e us p → (n k : ℕ) → Lawful stop e (us n) (us k)
lawful f n k = record { law = f.fact.law n k; never = λ is. f.never is n }

pub lawful_weaken : {A : Type 0} {stop : Stop} {full : Bool} {r s : Rule A} (less : Stop) → ((v : Option Token) → less v ≡ true → stop v ≡ true) → Lawful stop full r s → Lawful less full r s
lawful_weaken {stop} {r} {s} less w l = record { law = law_weaken stop less r s w l.law; never = l.never }

pub lawful_give : {A : Type 0} {stop : Stop} (a : A) → Lawful stop false (give a) (give a)
lawful_give {stop} a = record { law = law_give stop a; never = λ is. absurd cc }

pub lawful_skip : {stop : Stop} (test : Test) → Lawful stop true (skip test) (skip test)
lawful_skip {stop} test = record { law = law_skip stop test; never = λ _. never_skip test }

pub lawful_one : {stop : Stop} (test : Test) → Lawful stop true (one test) (one test)
lawful_one {stop} test = record { law = law_one stop test; never = λ _. never_one test }

pub lawful_then : {A B : Type 0} {front stop : Stop} {e : Bool} {r s : Rule A} {f g : A → Rule B}
    → Lawful front e r s → ((x : A) → Lawful stop true (f x) (g x)) → Lawful stop true (r >>= f) (s >>= g)
lawful_then {front} {stop} {r} {s} {f} {g} a b = record {
  law = law_bind front stop r s f g a.law (λ x. (b x).law) (λ x y n v h _. absurd ((b x).never refl y n h));
  never = λ _. never_then r f (λ x. (b x).never refl);
}

pub lawful_bind : {A B : Type 0} {front stop : Stop} {e d : Bool} {r s : Rule A} {f g : A → Rule B}
    → Lawful front e r s → ((x : A) → Lawful stop d (f x) (g x)) → ((v : Option Token) → stop v ≡ true → front v ≡ true) → Lawful stop (either e d) (r >>= f) (s >>= g)
lawful_bind {front} {stop} {e} {d} {r} {s} {f} {g} a b c = record {
  law = law_bind front stop r s f g a.law (λ x. (b x).law) (λ x y n v h is. c v is);
  never = never_bind e d r f a.never (λ x. (b x).never);
}

pub lawful_map : {A B : Type 0} {stop : Stop} {e : Bool} {r s : Rule A} (g : A → B) → Lawful stop e r s → Lawful stop e (r >>= (λ x. give (g x))) (s >>= (λ x. give (g x)))
lawful_map {stop} {r} {s} g a = record {
  law = law_bind stop stop r s (λ x. give (g x)) (λ x. give (g x)) a.law (λ x. law_give stop (g x)) (λ x y n v h is. is);
  never = λ is. never_first r (λ x. give (g x)) (a.never is);
}

pub lawful_when : {A : Type 0} {stop : Stop} {d : Bool} {r r' s s' : Rule A} (test : Test)
    → Lawful stop true r r' → Lawful stop d s s' → (d ≡ false → (v : Option Token) → stop v ≡ true → meets test v ≡ false) → Lawful stop d (when test r s) (when test r' s')
lawful_when {stop} {r} {r'} {s} {s'} test a b c = record {
  law = law_when stop test r r' s s' a.law b.law (a.never refl) (where_empty stop test s b.never c);
  never = λ is. never_when test r s (a.never refl) (b.never is);
}

pub lawful_many : {A : Type 0} {stop : Stop} {f g : List A → Rule A} (test : Test)
    → ((found : List A) → Lawful stop true (f found) (g found)) → ((v : Option Token) → stop v ≡ true → meets test v ≡ false) → Lawful stop false (many test f) (many test g)
lawful_many {stop} {f} {g} test a b = record {
  law = law_many stop test f g (λ found. (a found).law) (λ found. (a found).never refl) b;
  never = λ is. absurd cc;
}

pub lawful_opened : {A : Type 0} {stop : Stop} {e : Bool} {f g : Id → Rule A} (test : Test) → ((x : Id) → Lawful stop e (f x) (g x)) → Lawful stop true (opened test f) (opened test g)
lawful_opened {stop} {f} {g} test a = record { law = law_opened stop test f g (λ x. (a x).law); never = λ _. never_opened test f }

-- a rule that reads nothing
pub lawful_void : {A : Type 0} {stop : Stop} {r s : Rule A} → ((a : A) (xs : List Piece) (n : Option Token) → r a xs n → ⊥) → IsClean s → Lawful stop true r s
lawful_void none clean = record {
  law = record {
    clean = λ a xs n h. absurd (none a xs n h);
    clean_too = clean;
    calm = λ a xs n v h s. absurd (none a xs n h);
    same = λ stream a b xs ys p q. absurd (none a xs _ p.reads);
    depth = λ a b us us' vs vs' u v c d h k same. absurd (none a (us ++ u ∷ us') _ h);
  };
  never = λ _ a n h. none a [] n h;
}

pub lawful_void_right : {A : Type 0} {stop : Stop} {r s t : Rule A} → ((a : A) (xs : List Piece) (n : Option Token) → s a xs n → ⊥) → Lawful stop true r t → Lawful stop true r s
lawful_void_right none l = record {
  law = record {
    clean = l.law.clean;
    clean_too = λ a xs n h. absurd (none a xs n h);
    calm = l.law.calm;
    same = λ stream a b xs ys p q. absurd (none b ys _ q.reads);
    depth = λ a b us us' vs vs' u v c d h k same. absurd (none b (vs ++ v ∷ vs') _ k);
  };
  never = l.never;
}

-- ---- the spare text of a rule that leads back to itself

unfoldable pub spare_when : {A : Type 0} {stop : Stop} {us ws : Family A} (test : Test) (s : Spare stop ws) → ((v : Option Token) → stop v ≡ true → meets test (lead s.text v) ≡ false)
    → Spare stop (λ k. when test (us k) (ws k))
spare_when {us} {ws} test s h = record {
  tree = s.tree;
  text = s.text;
  marked = s.marked;
  least = s.least;
  reads = λ k low v stops. picked test us ws false k s.tree s.text v (h v stops) (s.reads k low v stops);
}

pub spare_at : {A : Type 0} {stop : Stop} (us : Family A) (s : Spare stop (λ k. us (suc k))) (k : ℕ) → s.least + 1 ≤ k → (v : Option Token) → stop v ≡ true → us k s.tree s.text v
spare_at us s zero low v h = absurd (omega arith)
spare_at us s (suc k) low v h = s.reads k (omega arith) v h

-- the rules of all depths but the first have something that the rules of all depths have
abbrev pub spare_later : {A : Type 0} {stop : Stop} (us : Family A) → Spare stop (λ k. us (suc k)) → Spare stop us
spare_later us s = record { tree = s.tree; text = s.text; marked = s.marked; least = s.least + 1; reads = spare_at us s }

-- a rule that leads back to itself, read inside itself to a depth
pub reads_depth : {A : Type 0} {stop : Stop} {head : Option Token} (us : Family A) (p : ℕ → Parser A)
    → ((a : A) (xs : List Piece) (n : Option Token) → us 0 a xs n → ⊥) → ((n k : ℕ) → Lawful stop true (us n) (us k))
    → (spare : Spare stop (λ k. us (suc k))) → ((v : Option Token) → lead spare.text v ≡ or_next head v)
    → ((floor n : ℕ) → Reading (floor + 1) stop head true us (p n) → Reading floor stop head true (λ k. us (suc k)) (p (suc n)))
    → (floor n : ℕ) → greatest_nesting + 1 ≤ floor + n → Reading floor stop head true us (p n)
unfolding fact_step
reads_depth us p none laws spare heads step floor zero enough = record {
  fact = record { law = λ n k. (laws n k).law; spare = spare_later us spare; judged = λ i low high. absurd (omega arith) };
  heads = heads;
  never = λ _ k. (laws k k).never refl;
}
reads_depth {stop} us p none laws spare heads step floor (suc n) enough =
    let inner = step floor n (reads_depth us p none laws spare heads step (floor + 1) n (omega arith)) in
    record {
      fact = fact_step floor stop us (p (suc n)) (λ n k. (laws n k).law) none inner.fact;
      heads = inner.heads;
      never = λ _ k. (laws k k).never refl;
    }
