-- What holds of a parser that watches for marks, and of one with a rule for each depth.
use Rattle.std.proofs.Common.{◌≡◌, ◌∙◌, inl, inr, ℕ, zero, suc, ◌-◌, ◌≤◌, Bool, true, false, ◌||◌, if◌then◌else◌, List, [], ◌∷◌, ◌++◌, length, take, Option, Ok, Err, refl, ap, arith, length-append, le_refl}
use Rattle.std.proofs.Math.Seq.{take-append_seam}
use Rattle.std.specs.List.{list_any}
use Rattle.sv_base.specs.declared.refusal.Refusal.{Refusal}
use Rattle.sv_lexer.specs.declared.token.Token.{Token}
use Rattle.sv_base.specs.declared.fault.Fault.TheVariants.{Refused, NoMemory}
use Rattle.expr_parser.specs.Spelling.{is_mark}
use Rattle.expr_parser.specs.Outcome.{grammar_tokens}
use Rattle.expr_parser.specs.Input.{Input, Outcome, Parser, and_then}
use Rattle.module_parser.specs.Rule.{Piece, written, AreMarked, is_nil, has_mark, watched}
use Rattle.module_parser.specs.Input.{marked_between, watched_from}
use Rattle.module_parser.specs.Input as input
use Rattle.module_parser.proofs.Rules.{Family, Settled, Stop, first_of, Law, Opens, Nothing, Stuck, Deep, Judged, Fact}
use Rattle.module_parser.proofs.Streams.{marks-one}
use Rattle.module_parser.proofs.Laws.{law_watched, law_depths}

-- ---- another rule of the same text

-- what holds of one family holds of another
pub record Carried {A : Type 0} (stop : Stop) (us ws : Family A) : Type 0 where
  pub settles : (tree : A) (text : List Piece) (n : Option Token) → Settled us tree text n → Settled ws tree text n
  pub opens : (seen : List Piece) → Opens stop us seen → Opens stop ws seen
  pub none : (seen : List Piece) (rest : List Token) → Nothing us seen rest → Nothing ws seen rest

carried_stuck : {A : Type 0} (stop : Stop) (us ws : Family A) → Carried stop us ws → (i : Input) (r : Refusal) → Stuck stop us i r → Stuck stop ws i r
carried_stuck stop us ws c i r s = record {
  seen = s.seen;
  rest = s.rest;
  rest_is = s.rest_is;
  fits = s.fits;
  opens = λ some. c.opens s.seen (s.opens some);
  none = c.none s.seen s.rest s.none;
  refused = s.refused;
}

carried_deep : {A : Type 0} (stop : Stop) (us ws : Family A) → Carried stop us ws → (i : Input) (r : Refusal) → Deep stop us i r → Deep stop ws i r
carried_deep stop us ws c i r s = record {
  seen = s.seen;
  deep = s.deep;
  rest = s.rest;
  rest_is = s.rest_is;
  fits = s.fits;
  opens = c.opens (s.seen ++ s.deep ∷ []) s.opens;
  reached = s.reached;
  refused = s.refused;
}

-- the same outcome
pub carried : {A : Type 0} (stop : Stop) (us ws : Family A) → Carried stop us ws → (i : Input) (o : Outcome A) → Judged stop us i o → Judged stop ws i o
carried stop us ws c i (Ok p) g = record { text = g.text; reads = c.settles p.0 g.text (first_of p.1.rest) g.reads; rest_is = g.rest_is; nested_is = g.nested_is; last_is = g.last_is; fits = g.fits }
carried stop us ws c i (Err (Refused r)) (inl s) = inl (carried_stuck stop us ws c i r s)
carried stop us ws c i (Err (Refused r)) (inr s) = inr (carried_deep stop us ws c i r s)
carried stop us ws c i (Err NoMemory) h = h

-- ---- all depths

abbrev any_depth : {A : Type 0} → Family A → Family A
any_depth us = λ _ tree text next. (n : ℕ) × us n tree text next

unfoldable pub fact_depths : {A : Type 0} (floor : ℕ) (stop : Stop) (us : Family A) (p : Parser A) → Fact floor stop us p → Fact floor stop (λ _. λ tree text next. (n : ℕ) × us n tree text next) p
fact_depths floor stop us p f = record {
  law = λ n k. law_depths stop us f.law;
  spare = record { tree = f.spare.tree; text = f.spare.text; marked = f.spare.marked; least = 0; reads = λ k h v stops. (f.spare.least, f.spare.reads f.spare.least (omega arith) v stops) };
  judged = λ i above high. carried stop us (any_depth us)
      (record {
        settles = λ tree text n s. (0, λ k h. (s.0, s.1 s.0 (omega arith)));
        opens = λ seen o. record { tree = o.tree; more = o.more; marked = o.marked; least = 0; reads = λ k h v stops. (o.least, o.reads o.least (omega arith) v stops) };
        none = λ seen rest none k behind same tree text at. none at.reads.0 behind same tree text (record { behind = at.behind; is = at.is; reads = at.reads.1 });
      })
      i (p i) (f.judged i above high);
}

-- ---- one depth more

pub from_one : (P : ℕ → Type 0) (least : ℕ) → ((k : ℕ) → least ≤ k → P (suc k)) → (k : ℕ) → suc least ≤ k → P k
from_one P least h zero le = absurd (omega arith)
from_one P least h (suc k) le = h k (omega arith)

pub none_from_one : {A : Type 0} (us : Family A) → ((a : A) (xs : List Piece) (n : Option Token) → us 0 a xs n → ⊥) → (seen : List Piece) (rest : List Token) → Nothing (λ k. us (suc k)) seen rest → Nothing us seen rest
none_from_one us low seen rest none zero behind same tree text at = low tree text (first_of at.behind) at.reads
none_from_one us low seen rest none (suc k) behind same tree text at = none k behind same tree text at

unfoldable pub fact_step : {A : Type 0} (floor : ℕ) (stop : Stop) (us : Family A) (p : Parser A) → Law stop us → ((a : A) (xs : List Piece) (n : Option Token) → us 0 a xs n → ⊥)
    → Fact floor stop (λ k. us (suc k)) p → Fact floor stop us p
fact_step {A} floor stop us p law low f = record {
  law = law;
  spare = record {
    tree = f.spare.tree;
    text = f.spare.text;
    marked = f.spare.marked;
    least = suc f.spare.least;
    reads = from_one (λ k. (v : Option Token) → stop v ≡ true → us k f.spare.tree f.spare.text v) f.spare.least f.spare.reads;
  };
  judged = λ i above high. carried stop (λ k. us (suc k)) us
      (record {
        settles = λ tree text n s. (suc s.0, from_one (λ k. us k tree text n) s.0 s.1);
        opens = λ seen o. record {
          tree = o.tree;
          more = o.more;
          marked = o.marked;
          least = suc o.least;
          reads = from_one (λ k. (v : Option Token) → stop v ≡ true → us k o.tree (seen ++ o.more) v) o.least o.reads;
        };
        none = none_from_one us low;
      })
      i (p i) (f.judged i above high);
}

-- ---- marks

abbrev marking : Token → Bool
marking t = is_mark t.kind

any_marks : (marks : List Token) (t : Token) (ts : List Token) → grammar_tokens marks ≡ [] → is_mark t.kind ≡ false
    → list_any marking (marks ++ t ∷ ts) ≡ (if is_nil marks then list_any marking ts else true)
any_marks [] t ts h no_mark = ap (λ (c : Bool). c || list_any marking ts) no_mark
any_marks (m ∷ marks) t ts h no_mark = ap (λ (c : Bool). c || list_any marking (marks ++ t ∷ ts)) (marks-one m marks h).0

-- a mark among the tokens of a text stands before one of them
any_mark : (text : List Piece) → AreMarked text → list_any marking (written text) ≡ has_mark text
any_mark [] h = refl
any_mark (p ∷ ps) h = any_marks p.marks p.token (written ps) h.0 h.1 ∙ ap (λ (c : Bool). if is_nil p.marks then c else true) (any_mark ps h.2)

marked_text : (i j : Input) (text : List Piece) → AreMarked text → i.rest ≡ written text ++ j.rest → marked_between i j ≡ has_mark text
unfolding marked_between
marked_text i j text marked is =
    let whole : length i.rest ≡ length (written text ++ j.rest) = ap length is in
    let count : length i.rest - length j.rest ≡ length (written text) = omega (arith, whole, length-append (written text) j.rest) in
    ap (λ ts. list_any marking (take (length i.rest - length j.rest) ts)) is ∙ ap (λ n. list_any marking (take n (written text ++ j.rest))) count
    ∙ ap (λ ts. list_any marking ts) (take-append_seam (written text) j.rest) ∙ any_mark text marked

module _ {A : Type 0} (stop : Stop) (us : Family A) where
  abbrev with_marks : Family (A × Bool)
  with_marks = λ k. watched (us k)

  opens_watched : (seen : List Piece) → Opens stop us seen → Opens stop with_marks seen
  opens_watched seen o = record {
    tree = (o.tree, has_mark (seen ++ o.more));
    more = o.more;
    marked = o.marked;
    least = o.least;
    reads = λ k h v stops. (o.reads k h v stops, refl);
  }

  none_watched : (seen : List Piece) (rest : List Token) → Nothing us seen rest → Nothing with_marks seen rest
  none_watched seen rest none k behind same tree text at = none k behind same tree.0 text (record { behind = at.behind; is = at.is; reads = at.reads.0 })

  pub judged_watched : Law stop us → (i : Input) (o : Outcome A) → Judged stop us i o → Judged stop with_marks i (and_then o (watched_from i))
  judged_watched law i (Ok p) g =
      let clean : AreMarked g.text = (law g.reads.0 g.reads.0).clean p.0 g.text (first_of p.1.rest) (g.reads.1 g.reads.0 (le_refl g.reads.0)) in
      record {
        text = g.text;
        reads = (g.reads.0, λ k h. (g.reads.1 k h, marked_text i p.1 g.text clean g.rest_is));
        rest_is = g.rest_is;
        nested_is = g.nested_is;
        last_is = g.last_is;
        fits = g.fits;
      }
  judged_watched law i (Err (Refused r)) (inl s) = inl (record {
    seen = s.seen;
    rest = s.rest;
    rest_is = s.rest_is;
    fits = s.fits;
    opens = λ some. opens_watched s.seen (s.opens some);
    none = none_watched s.seen s.rest s.none;
    refused = s.refused;
  })
  judged_watched law i (Err (Refused r)) (inr s) = inr (record {
    seen = s.seen;
    deep = s.deep;
    rest = s.rest;
    rest_is = s.rest_is;
    fits = s.fits;
    opens = opens_watched (s.seen ++ s.deep ∷ []) s.opens;
    reached = s.reached;
    refused = s.refused;
  })
  judged_watched law i (Err NoMemory) h = h

unfoldable pub fact_watched : {A : Type 0} (floor : ℕ) (stop : Stop) (us : Family A) (p : Parser A) → Fact floor stop us p → Fact floor stop (λ k. watched (us k)) (input.watched p)
fact_watched floor stop us p f = record {
  law = λ n k. law_watched stop (us n) (us k) (f.law n k);
  spare = record {
    tree = (f.spare.tree, has_mark f.spare.text);
    text = f.spare.text;
    marked = f.spare.marked;
    least = f.spare.least;
    reads = λ k h v stops. (f.spare.reads k h v stops, refl);
  };
  judged = λ i above high. judged_watched stop us f.law i (p i) (f.judged i above high);
}
