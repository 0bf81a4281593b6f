-- What holds of a parser that looks at the next token, and goes on in one way or another.
use Rattle.std.proofs.Common.{◌≡◌, ◌≢◌, ◌∙◌, inl, inr, ℕ, Bool, true, false, List, [], ◌∷◌, ◌++◌, Option, Some, Ok, Err, refl, sym, ap, subst, arith, if◌then◌else◌}
use Rattle.sv_lexer.specs.declared.token.Token.{Token}
use Rattle.sv_base.specs.declared.fault.Fault.TheVariants.{Refused, NoMemory}
use Rattle.expr_parser.specs.Input.{Input, Outcome, Parser}
use Rattle.module_parser.specs.Rule.{Piece, Test, meets, written, lead, choose, AreMarked}
use Rattle.module_parser.specs.Rule as rule
use Rattle.module_parser.specs.Input.{comes}
use Rattle.module_parser.specs.Input as input
use Rattle.module_parser.proofs.Rules.{Family, Stop, first_of, Law, Good, Opens, Nothing, Judged, Fact, NeverEmpty}
use Rattle.module_parser.proofs.Streams.{lead-first, AreMarked-front}
use Rattle.module_parser.proofs.Laws.{law_when}
use Rattle.module_parser.proofs.Readers.{comes_is}
use Rattle.module_parser.proofs.Joins.{same-lead}
use Rattle.module_parser.proofs.Facts.{begun_marked}

-- the first where a token of that sort comes
abbrev pub either : {A : Type 0} → Test → Family A → Family A → Family A
either test us ws = λ k. rule.when test (us k) (ws k)

abbrev pub pick : {A : Type 0} → Bool → Family A → Family A → Family A
pick c us ws = λ k tree text next. choose c (us k tree text next) (ws k tree text next)

pub picked : {A : Type 0} (test : Test) (us ws : Family A) (c : Bool) (k : ℕ) (tree : A) (text : List Piece) (n : Option Token) → meets test (lead text n) ≡ c
    → pick c us ws k tree text n → either test us ws k tree text n
picked test us ws c k tree text n is r = subst (λ (b : Bool). choose b (us k tree text n) (ws k tree text n)) (sym is) r

chosen : {A : Type 0} (test : Test) (us ws : Family A) (c : Bool) (k : ℕ) (tree : A) (text : List Piece) (n : Option Token) → meets test (lead text n) ≡ c
    → either test us ws k tree text n → pick c us ws k tree text n
chosen test us ws c k tree text n is r = subst (λ (b : Bool). choose b (us k tree text n) (ws k tree text n)) is r

pick_clean : {A : Type 0} (stop : Stop) (us ws : Family A) → Law stop us → Law stop ws → (c : Bool) (k : ℕ) (tree : A) (text : List Piece) (n : Option Token) → pick c us ws k tree text n → AreMarked text
pick_clean stop us ws first second true k tree text n r = (first k k).clean tree text n r
pick_clean stop us ws first second false k tree text n r = (second k k).clean tree text n r

good_when : {A : Type 0} (stop : Stop) (test : Test) (us ws : Family A) → Law stop us → Law stop ws → (c : Bool) (i : Input) → meets test (first_of i.rest) ≡ c
    → (tree : A) (j : Input) → Good (pick c us ws) i tree j → Good (either test us ws) i tree j
good_when stop test us ws first second c i is tree j g =
    let n = first_of j.rest in
    let marked = pick_clean stop us ws first second c g.reads.0 tree g.text n (g.reads.1 g.reads.0 (omega arith)) in
    let next : meets test (lead g.text n) ≡ c = ap (meets test) (sym (ap first_of g.rest_is ∙ lead-first g.text marked j.rest)) ∙ is in
    record {
      text = g.text;
      reads = (g.reads.0, λ k low. picked test us ws c k tree g.text n next (g.reads.1 k low));
      rest_is = g.rest_is;
      nested_is = g.nested_is;
      last_is = g.last_is;
      fits = g.fits;
    }

opens_when : {A : Type 0} (stop : Stop) (test : Test) (us ws : Family A) (c : Bool) (seen : List Piece) (rest : List Token) → meets test (first_of (written seen ++ rest)) ≡ c → seen ≢ []
    → Opens stop (pick c us ws) seen → Opens stop (either test us ws) seen
opens_when stop test us ws c [] rest is some o = absurd (some refl)
opens_when stop test us ws c (p ∷ ps) rest is some o =
    let next : meets test (Some p.token) ≡ c = ap (meets test) (sym (lead-first (p ∷ ps) (AreMarked-front (p ∷ ps) o.more o.marked) rest)) ∙ is in
    record {
      tree = o.tree;
      more = o.more;
      marked = o.marked;
      least = o.least;
      reads = λ k low v stops. picked test us ws c k o.tree ((p ∷ ps) ++ o.more) v next (o.reads k low v stops);
    }

nothing_when : {A : Type 0} (stop : Stop) (test : Test) (us ws : Family A) → Law stop (either test us ws) → (c : Bool) (seen : List Piece) (rest : List Token)
    → meets test (first_of (written seen ++ rest)) ≡ c → AreMarked seen → Nothing (pick c us ws) seen rest → Nothing (either test us ws) seen rest
nothing_when stop test us ws law c seen rest is marked none k behind same tree text at =
    let n = first_of at.behind in
    let clean = (law k k).clean tree text n at.reads in
    let ahead : lead text n ≡ first_of (written seen ++ rest) = sym (ap first_of at.is ∙ lead-first text clean at.behind) ∙ same-lead seen marked behind rest same in
    none k behind same tree text (record { behind = at.behind; is = at.is; reads = chosen test us ws c k tree text n (ap (meets test) ahead ∙ is) at.reads })

some_last : {A : Type 0} (xs : List A) (x : A) → xs ++ x ∷ [] ≢ []
some_last [] x h = cc
some_last (y ∷ xs) x h = cc

judged_when : {A : Type 0} (stop : Stop) (test : Test) (us ws : Family A) → Law stop us → Law stop ws → Law stop (either test us ws) → (c : Bool) (i : Input) → meets test (first_of i.rest) ≡ c
    → (o : Outcome A) → Judged stop (pick c us ws) i o → Judged stop (either test us ws) i o
judged_when stop test us ws first second law c i is (Ok p) g = good_when stop test us ws first second c i is p.0 p.1 g
judged_when stop test us ws first second law c i is (Err (Refused r)) (inl s) =
    let here = ap (λ ts. meets test (first_of ts)) (sym s.rest_is) ∙ is in
    inl (record {
      seen = s.seen;
      rest = s.rest;
      rest_is = s.rest_is;
      fits = s.fits;
      opens = λ some. opens_when stop test us ws c s.seen s.rest here some (s.opens some);
      none = nothing_when stop test us ws law c s.seen s.rest here (begun_marked stop (pick c us ws) s.seen s.opens) s.none;
      refused = s.refused;
    })
judged_when stop test us ws first second law c i is (Err (Refused r)) (inr d) =
    let here = ap (λ ts. meets test (first_of ts)) (sym d.rest_is) ∙ is in
    inr (record {
      seen = d.seen;
      deep = d.deep;
      rest = d.rest;
      rest_is = d.rest_is;
      fits = d.fits;
      opens = opens_when stop test us ws c (d.seen ++ d.deep ∷ []) d.rest here (some_last d.seen d.deep) d.opens;
      reached = d.reached;
      refused = d.refused;
    })
judged_when stop test us ws first second law c i is (Err NoMemory) none = none

pub when_by : {A : Type 0} (stop : Stop) (test : Test) (us ws : Family A) (p q : Parser A) → Law stop us → Law stop ws → Law stop (either test us ws) → (i : Input)
    → Judged stop us i (p i) → Judged stop ws i (q i) → (c : Bool) → comes test i ≡ c → Judged stop (either test us ws) i (if c then p i else q i)
when_by stop test us ws p q first second law i a b true h = judged_when stop test us ws first second law true i (sym (comes_is test i) ∙ h) (p i) a
when_by stop test us ws p q first second law i a b false h = judged_when stop test us ws first second law false i (sym (comes_is test i) ∙ h) (q i) b

unfoldable pub fact_when : {A : Type 0} (floor : ℕ) (stop : Stop) (test : Test) (us ws : Family A) (p q : Parser A) → Fact floor stop us p → (second : Fact floor stop ws q)
    → ((k : ℕ) → NeverEmpty (us k)) → ((k : ℕ) (a : A) (n v : Option Token) → ws k a [] n → stop v ≡ true → meets test v ≡ false) → ((v : Option Token) → stop v ≡ true → meets test (lead second.spare.text v) ≡ false)
    → Fact floor stop (λ k. rule.when test (us k) (ws k)) (input.when test p q)
fact_when floor stop test us ws p q first second some stops leads =
    let t = second.spare in
    let law : Law stop (either test us ws) = λ n k. law_when stop test (us n) (us k) (ws n) (ws k) (first.law n k) (second.law n k) (some n) (stops n) in
    record {
      law = law;
      spare = record {
        tree = t.tree;
        text = t.text;
        marked = t.marked;
        least = t.least;
        reads = λ k low v at. picked test us ws false k t.tree t.text v (leads v at) (t.reads k low v at);
      };
      judged = λ i low high. when_by stop test us ws p q first.law second.law law i (first.judged i low high) (second.judged i low high) _ refl;
    }
