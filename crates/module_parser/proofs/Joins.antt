-- What holds of two rules, one after the other.
use Rattle.std.proofs.Common.{◌≡◌, ◌≢◌, ◌∙◌, ℕ, ◌+◌, ◌≤◌, true, List, [], ◌∷◌, ◌++◌, Option, sym, ap, subst, arith, append_assoc}
use Rattle.sv_lexer.specs.declared.token.Token.{Token}
use Rattle.module_parser.specs.Rule.{Piece, Joined, written, lead, AreMarked}
use Rattle.module_parser.proofs.Rules.{Family, Stop, Settled, At, first_of, Law, Spare, Fits, Opens, Nothing}
use Rattle.module_parser.proofs.Streams.{written-behind, AreMarked-append, lead-first}

-- one after the other, at each depth
abbrev pub bound : {A B : Type 0} → Family A → (A → Family B) → Family B
bound us fs = λ k tree text next. Joined (us k) (λ x. fs x k) tree text next

pub Fits-append : (depth : ℕ) (xs ys : List Piece) → Fits depth xs → Fits depth ys → Fits depth (xs ++ ys)
Fits-append depth [] ys a b = b
Fits-append depth (x ∷ xs) ys a b = (a.0, Fits-append depth xs ys a.1 b)

pub append-same : (a b c : List Token) → a ++ b ≡ a ++ c → b ≡ c
append-same [] b c h = h
append-same (t ∷ a) b c h = let rest : a ++ b ≡ a ++ c = cc in append-same a b c rest

-- the tokens of a text and those behind it, in two parts
pub parts : (xs ys : List Piece) (a b c : List Token) → a ≡ written xs ++ b → b ≡ written ys ++ c → a ≡ written (xs ++ ys) ++ c
parts xs ys a b c h k = h ∙ ap (λ ts. written xs ++ ts) k ∙ sym (written-behind xs ys c)

-- marked texts lead in the same way where the tokens behind them do
pub same-lead : (zs : List Piece) → AreMarked zs → (a b : List Token) → first_of a ≡ first_of b → first_of (written zs ++ a) ≡ first_of (written zs ++ b)
same-lead zs m a b h = lead-first zs m a ∙ ap (λ v. lead zs v) h ∙ sym (lead-first zs m b)

-- ---- at the front of some tokens

-- the first of two rules reads there what the two begin with
pub first_at : {A B : Type 0} (stop : Stop) (us : Family A) (fs : A → Family B) → ((x : A) → Law stop (fs x)) → (k : ℕ) (stream : List Token) (tree : B) (text : List Piece)
    → (at : At (bound us fs k) stream tree text) → At (us k) stream at.reads.first at.reads.front
first_at stop us fs laws k stream tree text at =
    let j = at.reads in
    let marked : AreMarked j.back = (laws j.first k k).clean tree j.back (first_of at.behind) j.goes_on in
    record {
      behind = written j.back ++ at.behind;
      is = at.is ∙ ap (λ ps. written ps ++ at.behind) j.is ∙ written-behind j.front j.back at.behind;
      reads = subst (us k j.first j.front) (sym (lead-first j.back marked at.behind)) j.begins;
    }

-- so they read nothing where the first does not
pub nothing-first : {A B : Type 0} (stop : Stop) (us : Family A) (fs : A → Family B) → ((x : A) → Law stop (fs x)) → (seen : List Piece) (rest : List Token)
    → Nothing us seen rest → Nothing (bound us fs) seen rest
nothing-first stop us fs laws seen rest none k behind same tree text at =
    none k behind same at.reads.first at.reads.front (first_at stop us fs laws k (written seen ++ behind) tree text at)

-- nor where the second does not, behind what the first reads
pub nothing-second : {A B : Type 0} (front stop : Stop) (us : Family A) (fs : A → Family B) → Law front us → ((x : A) → Law stop (fs x))
    → (x : A) (xs zs : List Piece) (rest : List Token) → Settled us x xs (first_of (written zs ++ rest)) → AreMarked zs
    → Nothing (fs x) zs rest → Nothing (bound us fs) (xs ++ zs) rest
unfolding first_at
nothing-second {A = A} front stop us fs law laws x xs zs rest settled marked none k behind same tree text at =
    let j = at.reads in
    let stream = written (xs ++ zs) ++ behind in
    let one : At (us k) stream j.first j.front = first_at stop us fs laws k stream tree text at in
    let two : At (us settled.0) stream x xs = record {
      behind = written zs ++ behind;
      is = written-behind xs zs behind;
      reads = subst (us settled.0 x xs) (same-lead zs marked rest behind (sym same)) (settled.1 settled.0 (omega arith));
    } in
    let equal = (law k settled.0).same stream j.first x j.front xs one two in
    let split : written xs ++ (written zs ++ behind) ≡ written xs ++ (written j.back ++ at.behind) =
    sym two.is ∙ one.is ∙ ap (λ ps. written ps ++ (written j.back ++ at.behind)) equal.1 in
    let P : A → Type 0 = λ y. fs y k tree j.back (first_of at.behind) in
    none k behind same tree j.back (record {
      behind = at.behind;
      is = append-same (written xs) (written zs ++ behind) (written j.back ++ at.behind) split;
      reads = subst P equal.0 j.goes_on;
    })

-- ---- what is begun

abbrev pub spare_opens : {A : Type 0} (stop : Stop) (us : Family A) → Spare stop us → Opens stop us []
spare_opens stop us s = record { tree = s.tree; more = s.text; marked = s.marked; least = s.least; reads = s.reads }

-- the second rule may begin as it does behind what the first reads
pub opens-second : {A B : Type 0} (stop : Stop) (us : Family A) (fs : A → Family B) (x : A) (xs zs : List Piece) → AreMarked xs → (o : Opens stop (fs x) zs) → (least : ℕ)
    → ((k : ℕ) → least ≤ k → (v : Option Token) → stop v ≡ true → us k x xs (lead (zs ++ o.more) v)) → Opens stop (bound us fs) (xs ++ zs)
opens-second stop us fs x xs zs marked o least reads = record {
  tree = o.tree;
  more = o.more;
  marked = subst AreMarked (sym (append_assoc xs zs o.more)) (AreMarked-append xs (zs ++ o.more) marked o.marked);
  least = least + o.least;
  reads = λ k low v stops. record {
    first = x;
    front = xs;
    back = zs ++ o.more;
    is = append_assoc xs zs o.more;
    begins = reads k (omega (arith, low)) v stops;
    goes_on = o.reads k (omega (arith, low)) v stops;
  };
}

-- what the first begins is ended by something that the second reads
pub opens-first : {A B : Type 0} (front stop : Stop) (us : Family A) (fs : A → Family B) → (spares : (x : A) → Spare stop (fs x))
    → ((x : A) (v : Option Token) → stop v ≡ true → front (lead (spares x).text v) ≡ true) → (seen : List Piece) → Opens front us seen → Opens stop (bound us fs) seen
opens-first front stop us fs spares leads seen o =
    let s = spares o.tree in
    record {
      tree = s.tree;
      more = o.more ++ s.text;
      marked = subst AreMarked (append_assoc seen o.more s.text) (AreMarked-append (seen ++ o.more) s.text o.marked s.marked);
      least = o.least + s.least;
      reads = λ k low v stops. record {
        first = o.tree;
        front = seen ++ o.more;
        back = s.text;
        is = sym (append_assoc seen o.more s.text);
        begins = o.reads k (omega (arith, low)) (lead s.text v) (leads o.tree v stops);
        goes_on = s.reads k (omega (arith, low)) v stops;
      };
    }

-- what the second begins, or anything that it reads, behind what the first reads
pub opens-behind : {A B : Type 0} (front stop : Stop) (us : Family A) (fs : A → Family B) → Law front us → (spares : (x : A) → Spare stop (fs x))
    → ((x : A) (v : Option Token) → stop v ≡ true → front (lead (spares x).text v) ≡ true)
    → (x : A) (xs zs : List Piece) (rest : List Token) → Settled us x xs (first_of (written zs ++ rest)) → AreMarked zs → (zs ≢ [] → Opens stop (fs x) zs)
    → Opens stop (bound us fs) (xs ++ zs)
opens-behind front stop us fs law spares leads x xs [] rest settled marked opens =
    let clean = (law settled.0 settled.0).clean x xs (first_of rest) (settled.1 settled.0 (omega arith)) in
    opens-second stop us fs x xs [] clean (spare_opens stop (fs x) (spares x)) settled.0
    (λ k low v stops. (law k k).calm x xs (first_of rest) (lead (spares x).text v) (settled.1 k low) (leads x v stops))
opens-behind front stop us fs law spares leads x xs (z ∷ zs) rest settled marked opens =
    let n = first_of (written (z ∷ zs) ++ rest) in
    let clean = (law settled.0 settled.0).clean x xs n (settled.1 settled.0 (omega arith)) in
    opens-second stop us fs x xs (z ∷ zs) clean (opens (λ h. cc)) settled.0
    (λ k low v stops. subst (us k x xs) (lead-first (z ∷ zs) marked rest) (settled.1 k low))
