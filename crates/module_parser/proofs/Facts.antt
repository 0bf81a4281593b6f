-- What holds of the parsers that the rules are read by.
use Rattle.std.proofs.Common.{◌≡◌, ◌≢◌, ◌∙◌, inl, inr, ℕ, ◌+◌, ◌≤◌, Bool, true, false, List, [], ◌∷◌, ◌++◌, Option, Some, Ok, Err, refl, sym, ap, subst, arith, if◌then◌else◌, append_assoc}
use Rattle.sv_base.specs.declared.refusal.Refusal.{Refusal}
use Rattle.sv_lexer.specs.declared.token.Token.{Token}
use Rattle.sv_base.specs.declared.fault.Fault.TheVariants.{Refused, NoMemory}
use Rattle.expr_parser.specs.Spelling.{is_mark}
use Rattle.expr_parser.specs.Grammar.{id_of}
use Rattle.expr_parser.specs.Nesting.{greatest_nesting}
use Rattle.expr_parser.specs.Outcome.{refusal_at}
use Rattle.expr_parser.specs.Input.{Input, Outcome, Parser, pure, refuse, refusal, after, ahead, past_marks, take_id, ◌>>=◌, and_then}
use Rattle.module_parser.specs.Rule.{Piece, Test, meets, written, lead, give, one, skip, IsOne, AreMarked}
use Rattle.module_parser.specs.Input.{comes, take_one, pass}
use Rattle.module_parser.proofs.Rules.{Family, Stop, Settled, first_of, Law, Spare, Fits, Good, Opens, Nothing, Stuck, Deep, Judged, Fact}
use Rattle.module_parser.proofs.Streams.{lead-first, AreMarked-append, AreMarked-front}
use Rattle.module_parser.proofs.Laws.{law_weaken, law_give, law_one, law_skip, law_bind}
use Rattle.module_parser.proofs.Joins.{bound, Fits-append, parts, nothing-first, nothing-second, opens-first, opens-behind}
use Rattle.module_parser.proofs.Readers.{comes_is, comes-yes, take_id_is, coming_one}

unfoldable pub fact_give : {A : Type 0} (floor : ℕ) (stop : Stop) (a : A) → Fact floor stop (λ _. give a) (pure a)
fact_give floor stop a = record {
  law = λ n k. law_give stop a;
  spare = record { tree = a; text = []; marked = tt; least = 0; reads = λ k h v s. (refl, refl) };
  judged = λ i low high. record { text = []; reads = (0, λ k h. (refl, refl)); rest_is = refl; nested_is = refl; last_is = refl; fits = tt };
}

-- ---- one token

not_both : {b : Bool} → b ≡ false → b ≡ true → ⊥
not_both h k = cc

led : (test : Test) (token : Token) (text : List Piece) → IsOne test token text → (behind rest : List Token) → first_of (written text ++ behind) ≡ first_of rest → meets test (first_of rest) ≡ true
led test token text x behind rest h =
    let p : Piece = record { marks = x.marks; token = token; depth = 0 } in
    let here : first_of (written text ++ behind) ≡ Some token = ap (λ ps. first_of (written ps ++ behind)) x.is ∙ lead-first (p ∷ []) (x.are_marks, x.no_mark, tt) behind in
    ap (meets test) (sym h ∙ here) ∙ x.passes

-- where no such token comes, a rule that begins with one reads nothing
pub none_comes : {A : Type 0} (test : Test) (us : Family A) → ((k : ℕ) (tree : A) (text : List Piece) (n : Option Token) → us k tree text n → (token : Token) × IsOne test token text)
    → (rest : List Token) → meets test (first_of rest) ≡ false → Nothing us [] rest
none_comes test us ones rest other k behind same tree text at =
    let found = ones k tree text (first_of at.behind) at.reads in
    not_both other (led test found.0 text found.1 at.behind rest (ap first_of (sym at.is) ∙ same))

pub stuck_here : {A : Type 0} (stop : Stop) (us : Family A) (i : Input) → Nothing us [] i.rest → Judged stop us i (refuse {A = A} i)
unfolding refusal ahead
stuck_here stop us i none =
    inl (record { seen = []; rest = i.rest; rest_is = refl; fits = tt; opens = λ some. absurd (some refl); none = none; refused = refl })

pub take_one_by : (stop : Stop) (test : Test) (i : Input) → i.nested ≤ greatest_nesting → (c : Bool) → comes test i ≡ c → Judged stop (λ _. one test) i (if c then take_id i else refuse i)
unfolding after
take_one_by stop test i high true h =
    let found = comes-yes test i h in
    let t = found.0 in
    let c = found.1 in
    let good : Good (λ _. one test) i (id_of t) (after i) = record {
      text = record { marks = c.marks; token = t; depth = 0 } ∷ [];
      reads = (0, λ k low. (t, coming_one test i t c, refl));
      rest_is = c.rest_is ∙ sym (append_assoc c.marks (t ∷ []) (after i).rest);
      nested_is = refl;
      last_is = refl;
      fits = (omega (arith, high), tt);
    } in
    subst (Judged stop (λ _. one test) i) (sym (take_id_is i t c.next_is)) good
take_one_by stop test i high false h = stuck_here stop (λ _. one test) i (none_comes test (λ _. one test) (λ k tree text n x. (x.0, x.1)) i.rest (sym (comes_is test i) ∙ h))

unfoldable pub fact_one : (floor : ℕ) (stop : Stop) (test : Test) (token : Token) → is_mark token.kind ≡ false → test token ≡ true → Fact floor stop (λ _. one test) (take_one test)
unfolding take_one
fact_one floor stop test token no_mark passes = record {
  law = λ n k. law_one stop test;
  spare = record {
    tree = id_of token;
    text = record { marks = []; token = token; depth = 0 } ∷ [];
    marked = (refl, no_mark, tt);
    least = 0;
    reads = λ k h v s. (token, record { marks = []; are_marks = refl; no_mark = no_mark; passes = passes; is = refl }, refl);
  };
  judged = λ i low high. take_one_by stop test i high _ refl;
}

pub pass_by : (stop : Stop) (test : Test) (i : Input) → i.nested ≤ greatest_nesting → (c : Bool) → comes test i ≡ c → Judged stop (λ _. skip test) i (if c then Ok (tt, after i) else refuse i)
unfolding after
pass_by stop test i high true h =
    let found = comes-yes test i h in
    let t = found.0 in
    let c = found.1 in
    record {
      text = record { marks = c.marks; token = t; depth = 0 } ∷ [];
      reads = (0, λ k low. (t, coming_one test i t c));
      rest_is = c.rest_is ∙ sym (append_assoc c.marks (t ∷ []) (after i).rest);
      nested_is = refl;
      last_is = refl;
      fits = (omega (arith, high), tt);
    }
pass_by stop test i high false h = stuck_here stop (λ _. skip test) i (none_comes test (λ _. skip test) (λ k tree text n x. x) i.rest (sym (comes_is test i) ∙ h))

unfoldable pub fact_skip : (floor : ℕ) (stop : Stop) (test : Test) (token : Token) → is_mark token.kind ≡ false → test token ≡ true → Fact floor stop (λ _. skip test) (pass test)
unfolding pass
fact_skip floor stop test token no_mark passes = record {
  law = λ n k. law_skip stop test;
  spare = record {
    tree = tt;
    text = record { marks = []; token = token; depth = 0 } ∷ [];
    marked = (refl, no_mark, tt);
    least = 0;
    reads = λ k h v s. (token, record { marks = []; are_marks = refl; no_mark = no_mark; passes = passes; is = refl });
  };
  judged = λ i low high. pass_by stop test i high _ refl;
}

-- ---- of fewer tokens behind, and of more open around it

opens_weaken : {A : Type 0} (stop less : Stop) (us : Family A) (seen : List Piece) → ((v : Option Token) → less v ≡ true → stop v ≡ true) → Opens stop us seen → Opens less us seen
opens_weaken stop less us seen h o = record { tree = o.tree; more = o.more; marked = o.marked; least = o.least; reads = λ k low v s. o.reads k low v (h v s) }

pub judged_weaken : {A : Type 0} (stop less : Stop) (us : Family A) (i : Input) → ((v : Option Token) → less v ≡ true → stop v ≡ true) → (o : Outcome A) → Judged stop us i o → Judged less us i o
judged_weaken stop less us i h (Ok p) good = good
judged_weaken stop less us i h (Err (Refused r)) (inl s) =
    inl (record { seen = s.seen; rest = s.rest; rest_is = s.rest_is; fits = s.fits; opens = λ some. opens_weaken stop less us s.seen h (s.opens some); none = s.none; refused = s.refused })
judged_weaken stop less us i h (Err (Refused r)) (inr d) =
    inr (record {
      seen = d.seen;
      deep = d.deep;
      rest = d.rest;
      rest_is = d.rest_is;
      fits = d.fits;
      opens = opens_weaken stop less us (d.seen ++ d.deep ∷ []) h d.opens;
      reached = d.reached;
      refused = d.refused;
    })
judged_weaken stop less us i h (Err NoMemory) none = none

unfoldable pub fact_weaken : {A : Type 0} (floor : ℕ) (stop less : Stop) (us : Family A) (p : Parser A) → ((v : Option Token) → less v ≡ true → stop v ≡ true) → Fact floor stop us p → Fact floor less us p
fact_weaken floor stop less us p h fact = record {
  law = λ n k. law_weaken stop less (us n) (us k) h (fact.law n k);
  spare = record {
    tree = fact.spare.tree;
    text = fact.spare.text;
    marked = fact.spare.marked;
    least = fact.spare.least;
    reads = λ k low v s. fact.spare.reads k low v (h v s);
  };
  judged = λ i low high. judged_weaken stop less us i h (p i) (fact.judged i low high);
}

unfoldable pub fact_floor : {A : Type 0} (floor high : ℕ) (stop : Stop) (us : Family A) (p : Parser A) → floor ≤ high → Fact floor stop us p → Fact high stop us p
fact_floor floor high stop us p le fact = record { law = fact.law; spare = fact.spare; judged = λ i low small. fact.judged i (omega (arith, le, low)) small }

-- ---- one after the other

abbrev pub Spares : {A B : Type 0} → Stop → Stop → (A → Family B) → Type 0
Spares {A} front stop fs = (spares : (x : A) → Spare stop (fs x)) × ((x : A) (v : Option Token) → stop v ≡ true → front (lead (spares x).text v) ≡ true)

good_good : {A B : Type 0} (stop : Stop) (us : Family A) (fs : A → Family B) → ((x : A) → Law stop (fs x)) → (i : Input) (x : A) (j : Input) → Good us i x j → (b : B) (k : Input)
    → Good (fs x) j b k → Good (bound us fs) i b k
good_good stop us fs laws i x j g b k h =
    let marked : AreMarked h.text = (laws x h.reads.0 h.reads.0).clean b h.text (first_of k.rest) (h.reads.1 h.reads.0 (omega arith)) in
    let next : first_of j.rest ≡ lead h.text (first_of k.rest) = ap first_of h.rest_is ∙ lead-first h.text marked k.rest in
    record {
      text = g.text ++ h.text;
      reads = (
        g.reads.0 + h.reads.0,
        λ d low. record {
          first = x;
          front = g.text;
          back = h.text;
          is = refl;
          begins = subst (us d x g.text) next (g.reads.1 d (omega (arith, low)));
          goes_on = h.reads.1 d (omega (arith, low));
        },
      );
      rest_is = parts g.text h.text i.rest j.rest k.rest g.rest_is h.rest_is;
      nested_is = h.nested_is ∙ g.nested_is;
      last_is = h.last_is ∙ g.last_is;
      fits = Fits-append i.nested g.text h.text g.fits (subst (λ d. Fits d h.text) g.nested_is h.fits);
    }

pub begun_marked : {A : Type 0} (stop : Stop) (us : Family A) (seen : List Piece) → (seen ≢ [] → Opens stop us seen) → AreMarked seen
begun_marked stop us [] opens = tt
begun_marked stop us (p ∷ ps) opens = let o = opens (λ h. cc) in AreMarked-front (p ∷ ps) o.more o.marked

settled_at : {A : Type 0} (us : Family A) (x : A) (xs : List Piece) (a b : List Token) → a ≡ b → Settled us x xs (first_of a) → Settled us x xs (first_of b)
settled_at us x xs a b h s = subst (λ ts. Settled us x xs (first_of ts)) h s

good_stuck : {A B : Type 0} (front stop : Stop) (us : Family A) (fs : A → Family B) → Law front us → ((x : A) → Law stop (fs x)) → Spares front stop fs
    → (i : Input) (x : A) (j : Input) → Good us i x j → (r : Refusal) → Stuck stop (fs x) j r → Stuck stop (bound us fs) i r
good_stuck front stop us fs law laws spares i x j g r s =
    let marked = begun_marked stop (fs x) s.seen s.opens in
    let settled = settled_at us x g.text j.rest (written s.seen ++ s.rest) s.rest_is g.reads in
    record {
      seen = g.text ++ s.seen;
      rest = s.rest;
      rest_is = parts g.text s.seen i.rest j.rest s.rest g.rest_is s.rest_is;
      fits = Fits-append i.nested g.text s.seen g.fits (subst (λ d. Fits d s.seen) g.nested_is s.fits);
      opens = λ _. opens-behind front stop us fs law spares.0 spares.1 x g.text s.seen s.rest settled marked s.opens;
      none = nothing-second front stop us fs law laws x g.text s.seen s.rest settled marked s.none;
      refused = s.refused ∙ ap (λ p. refusal_at p (past_marks s.rest)) g.last_is;
    }

good_deep : {A B : Type 0} (front stop : Stop) (us : Family A) (fs : A → Family B) → Law front us → Spares front stop fs
    → (i : Input) (x : A) (j : Input) → Good us i x j → (r : Refusal) → Deep stop (fs x) j r → Deep stop (bound us fs) i r
good_deep front stop us fs law spares i x j g r d =
    let all = d.seen ++ d.deep ∷ [] in
    let marked = AreMarked-front all d.opens.more d.opens.marked in
    let settled = settled_at us x g.text j.rest (written all ++ d.rest) d.rest_is g.reads in
    let shape : g.text ++ all ≡ (g.text ++ d.seen) ++ d.deep ∷ [] = sym (append_assoc g.text d.seen (d.deep ∷ [])) in
    record {
      seen = g.text ++ d.seen;
      deep = d.deep;
      rest = d.rest;
      rest_is = parts g.text all i.rest j.rest d.rest g.rest_is d.rest_is ∙ ap (λ ps. written ps ++ d.rest) shape;
      fits = Fits-append i.nested g.text d.seen g.fits (subst (λ n. Fits n d.seen) g.nested_is d.fits);
      opens = subst (Opens stop (bound us fs)) shape (opens-behind front stop us fs law spares.0 spares.1 x g.text all d.rest settled marked (λ _. d.opens));
      reached = ap (λ n. n + d.deep.depth) (sym g.nested_is) ∙ d.reached;
      refused = d.refused;
    }

first_stuck : {A B : Type 0} (front stop : Stop) (us : Family A) (fs : A → Family B) → ((x : A) → Law stop (fs x)) → Spares front stop fs
    → (i : Input) (r : Refusal) → Stuck front us i r → Stuck stop (bound us fs) i r
first_stuck front stop us fs laws spares i r s = record {
  seen = s.seen;
  rest = s.rest;
  rest_is = s.rest_is;
  fits = s.fits;
  opens = λ some. opens-first front stop us fs spares.0 spares.1 s.seen (s.opens some);
  none = nothing-first stop us fs laws s.seen s.rest s.none;
  refused = s.refused;
}

first_deep : {A B : Type 0} (front stop : Stop) (us : Family A) (fs : A → Family B) → Spares front stop fs → (i : Input) (r : Refusal) → Deep front us i r → Deep stop (bound us fs) i r
first_deep front stop us fs spares i r d = record {
  seen = d.seen;
  deep = d.deep;
  rest = d.rest;
  rest_is = d.rest_is;
  fits = d.fits;
  opens = opens-first front stop us fs spares.0 spares.1 (d.seen ++ d.deep ∷ []) d.opens;
  reached = d.reached;
  refused = d.refused;
}

judged_second : {A B : Type 0} (front stop : Stop) (us : Family A) (fs : A → Family B) → Law front us → ((x : A) → Law stop (fs x)) → Spares front stop fs
    → (i : Input) (x : A) (j : Input) → Good us i x j → (o : Outcome B) → Judged stop (fs x) j o → Judged stop (bound us fs) i o
judged_second front stop us fs law laws spares i x j g (Ok p) h = good_good stop us fs laws i x j g p.0 p.1 h
judged_second front stop us fs law laws spares i x j g (Err (Refused r)) (inl s) = inl (good_stuck front stop us fs law laws spares i x j g r s)
judged_second front stop us fs law laws spares i x j g (Err (Refused r)) (inr d) = inr (good_deep front stop us fs law spares i x j g r d)
judged_second front stop us fs law laws spares i x j g (Err NoMemory) none = none

pub judged_bind : {A B : Type 0} (front stop : Stop) (us : Family A) (fs : A → Family B) (f : A → Parser B) → Law front us → ((x : A) → Law stop (fs x)) → Spares front stop fs
    → (i : Input) → ((x : A) (j : Input) → j.nested ≡ i.nested → Judged stop (fs x) j (f x j)) → (o : Outcome A) → Judged front us i o → Judged stop (bound us fs) i (and_then o f)
judged_bind front stop us fs f law laws spares i second (Ok p) g = judged_second front stop us fs law laws spares i p.0 p.1 g (f p.0 p.1) (second p.0 p.1 g.nested_is)
judged_bind front stop us fs f law laws spares i second (Err (Refused r)) (inl s) = inl (first_stuck front stop us fs laws spares i r s)
judged_bind front stop us fs f law laws spares i second (Err (Refused r)) (inr d) = inr (first_deep front stop us fs spares i r d)
judged_bind front stop us fs f law laws spares i second (Err NoMemory) none = none

unfoldable pub fact_bind : {A B : Type 0} (floor : ℕ) (front stop : Stop) (us : Family A) (p : Parser A) (fs : A → Family B) (f : A → Parser B) → Fact floor front us p
    → (facts : (x : A) → Fact floor stop (fs x) (f x)) → (leads : (x : A) (v : Option Token) → stop v ≡ true → front (lead (facts x).spare.text v) ≡ true)
    → (empties : (x : A) (k : ℕ) (b : B) (n v : Option Token) → fs x k b [] n → stop v ≡ true → front v ≡ true) → Fact floor stop (bound us fs) (p >>= f)
fact_bind floor front stop us p fs f fact facts leads empties =
    let s = fact.spare in
    let t = (facts s.tree).spare in
    record {
      law = λ n k. law_bind front stop (us n) (us k) (λ x. fs x n) (λ x. fs x k) (fact.law n k) (λ x. (facts x).law n k) (λ x b m v. empties x n b m v);
      spare = record {
        tree = t.tree;
        text = s.text ++ t.text;
        marked = AreMarked-append s.text t.text s.marked t.marked;
        least = s.least + t.least;
        reads = λ k low v stops. record {
          first = s.tree;
          front = s.text;
          back = t.text;
          is = refl;
          begins = s.reads k (omega (arith, low)) (lead t.text v) (leads s.tree v stops);
          goes_on = t.reads k (omega (arith, low)) v stops;
        };
      };
      judged = λ i low high. judged_bind front stop us fs f fact.law (λ x. (facts x).law) (λ x. (facts x).spare, leads) i
          (λ x j same. (facts x).judged j (omega (arith, low, same)) (omega (arith, high, same))) (p i) (fact.judged i low high);
    }
