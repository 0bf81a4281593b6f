-- What holds of a parser that reads a list.
use Rattle.std.proofs.Common.{◌≡◌, ◌∙◌, ◌≢◌, inl, inr, ℕ, zero, suc, ◌+◌, ◌<◌, ◌≤◌, Bool, true, false, if◌then◌else◌, List, [], ◌∷◌, ◌++◌, length, Option, Ok, Err, refl, sym, ap, subst, arith, append_assoc, append-nil, length-append, le_refl}
use Rattle.sv_base.specs.declared.refusal.Place.{Place}
use Rattle.sv_base.specs.declared.refusal.Refusal.{Refusal}
use Rattle.sv_lexer.specs.declared.token.Token.{Token}
use Rattle.sv_base.specs.declared.fault.Fault.TheVariants.{Refused, NoMemory}
use Rattle.expr_parser.specs.Nesting.{greatest_nesting}
use Rattle.expr_parser.specs.Outcome.{refusal_at}
use Rattle.expr_parser.specs.Input.{Input, Outcome, Parser, and_then, past_marks, next, ahead, turns}
use Rattle.module_parser.specs.Rule.{Piece, Test, meets, written, lead, AreMarked, many}
use Rattle.module_parser.specs.Input.{comes, many_from}
use Rattle.module_parser.specs.Input as input
use Rattle.module_parser.proofs.Rules.{Family, Stop, first_of, At, IsClean, NeverEmpty, Fits, Good, Opens, Nothing, Stuck, Deep, Judged, Fact}
use Rattle.module_parser.proofs.Streams.{written-behind, AreMarked-append, lead-first}
use Rattle.module_parser.proofs.Laws.{law_many}
use Rattle.module_parser.proofs.Joins.{Fits-append}
use Rattle.module_parser.proofs.ManyBehind.{first_of-append, lead-is, some-last, written-some, same_behind, list_behind, many_clean, one_more, none_more, More, more_at}
use Rattle.module_parser.proofs.FactsMore.{Carried, carried}

module _ {A : Type 0} (test : Test) (fs : List A → Family A) where
  module _ (floor : ℕ) (stop : Stop) (f : List A → Parser A) (facts : (found : List A) → Fact floor stop (fs found) (f found))
      (never : (found : List A) (k : ℕ) → NeverEmpty (fs found k)) (stops : (v : Option Token) → stop v ≡ true → meets test v ≡ false) where
    clean_at : (k : ℕ) (found : List A) → IsClean (fs found k)
    clean_at k found = ((facts found).law k k).clean

    -- no further part
    good_end : (found : List A) (i : Input) → meets test (first_of i.rest) ≡ false → Good (list_behind test fs found) i found i
    good_end found i h = record { text = []; reads = (0, λ k le. none_more test fs found k (first_of i.rest) h); rest_is = refl; nested_is = refl; last_is = refl; fits = tt }

    module _ (found : List A) (i : Input) (comes_here : meets test (first_of i.rest) ≡ true) where
      -- a part that was begun, as the last
      part_opens : (seen : List Piece) (rest : List Token) → seen ≢ [] → i.rest ≡ written seen ++ rest → Opens stop (fs found) seen → Opens stop (list_behind test fs found) seen
      part_opens seen rest some is o = record {
        tree = found ++ o.tree ∷ [];
        more = o.more;
        marked = o.marked;
        least = o.least;
        reads = λ k h v stopped. (
          o.tree ∷ [],
          refl,
          record {
            comes = ap (meets test) (lead-is seen o.more rest v some o.marked) ∙ sym (ap (λ ts. meets test (first_of ts)) is) ∙ comes_here;
            front = seen ++ o.more;
            back = [];
            is = sym (append-nil (seen ++ o.more));
            begins = o.reads k h v stopped;
            goes_on = (refl, stops v stopped);
          },
        );
      }

      part_none : (seen : List Piece) (rest : List Token) → i.rest ≡ written seen ++ rest → Nothing (fs found) seen rest → Nothing (list_behind test fs found) seen rest
      part_none seen rest is none k more same tree text at =
          let first : first_of (written seen ++ more) ≡ first_of i.rest = first_of-append (written seen) more rest same ∙ sym (ap first_of is) in
          let m = more_at test fs k (clean_at k) found (written seen ++ more) (ap (meets test) first ∙ comes_here) at.reads.0 tree text at.behind at.is at.reads.1 at.reads.2 in
          none k more same m.item m.front m.here

      part_stuck : (r : Refusal) → Stuck stop (fs found) i r → Stuck stop (list_behind test fs found) i r
      part_stuck r s = record {
        seen = s.seen;
        rest = s.rest;
        rest_is = s.rest_is;
        fits = s.fits;
        opens = λ some. part_opens s.seen s.rest some s.rest_is (s.opens some);
        none = part_none s.seen s.rest s.rest_is s.none;
        refused = s.refused;
      }

      part_deep : (r : Refusal) → Deep stop (fs found) i r → Deep stop (list_behind test fs found) i r
      part_deep r s = record {
        seen = s.seen;
        deep = s.deep;
        rest = s.rest;
        rest_is = s.rest_is;
        fits = s.fits;
        opens = part_opens (s.seen ++ s.deep ∷ []) s.rest (some-last s.seen s.deep) s.rest_is s.opens;
        reached = s.reached;
        refused = s.refused;
      }

      -- ---- behind a part that was read

      module _ (x : A) (j : Input) (g : Good (fs found) i x j) where
        abbrev after_it : Family (List A)
        after_it = list_behind test fs (found ++ x ∷ [])

        part_some : g.text ≢ []
        part_some e =
            let P : List Piece → Type 0 = λ ps. fs found g.reads.0 x ps (first_of j.rest) in
            never found g.reads.0 x (first_of j.rest) (subst P e (g.reads.1 g.reads.0 (le_refl g.reads.0)))

        part_marked : AreMarked g.text
        part_marked = clean_at g.reads.0 found x g.text (first_of j.rest) (g.reads.1 g.reads.0 (le_refl g.reads.0))

        -- what begins with that part has the token that came
        comes_first : (zs : List Piece) (v : Option Token) → AreMarked zs → meets test (lead (g.text ++ zs) v) ≡ true
        comes_first zs v marked =
            ap (meets test) (lead-is g.text zs j.rest v part_some (AreMarked-append g.text zs part_marked marked)) ∙ sym (ap (λ ts. meets test (first_of ts)) g.rest_is) ∙ comes_here

        part_shorter : length j.rest < length i.rest
        part_shorter =
            let whole : length i.rest ≡ length (written g.text ++ j.rest) = ap length g.rest_is in
            omega (arith, whole, length-append (written g.text) j.rest, written-some g.text part_some)

        fits_here : (zs : List Piece) → Fits j.nested zs → Fits i.nested zs
        fits_here zs h = let P : ℕ → Type 0 = λ n. Fits n zs in subst P g.nested_is h

        stands : (zs : List Piece) (rest : List Token) → j.rest ≡ written zs ++ rest → i.rest ≡ written (g.text ++ zs) ++ rest
        stands zs rest h = g.rest_is ∙ ap (λ ts. written g.text ++ ts) h ∙ sym (written-behind g.text zs rest)

        then_good : (tree : List A) (k : Input) → Good after_it j tree k → Good (list_behind test fs found) i tree k
        then_good tree k h =
            let marked : AreMarked h.text = many_clean test fs h.reads.0 (clean_at h.reads.0) (h.reads.1 h.reads.0 (le_refl h.reads.0)).0 (found ++ x ∷ []) h.text (first_of k.rest)
            (h.reads.1 h.reads.0 (le_refl h.reads.0)).2 in
            let behind_is : first_of j.rest ≡ lead h.text (first_of k.rest) = ap first_of h.rest_is ∙ lead-first h.text marked k.rest in
            record {
              text = g.text ++ h.text;
              reads = (
                g.reads.0 + h.reads.0,
                λ n le.
                    let P : Option Token → Type 0 = λ v. fs found n x g.text v in
                    one_more test fs found n x g.text (first_of k.rest) tree h.text (comes_first h.text (first_of k.rest) marked) (subst P behind_is (g.reads.1 n (omega (arith, le)))) (h.reads.1 n (omega (arith, le))),
              );
              rest_is = stands h.text k.rest h.rest_is;
              nested_is = h.nested_is ∙ g.nested_is;
              last_is = h.last_is ∙ g.last_is;
              fits = Fits-append i.nested g.text h.text g.fits (fits_here h.text h.fits);
            }

        -- that part is the last
        opens_last : Opens stop (list_behind test fs found) (g.text ++ [])
        opens_last =
            let P : List Piece → Type 0 = λ ps. Opens stop (list_behind test fs found) ps in
            let Q : List Piece → Type 0 = λ ps. AreMarked ps in
            subst P (sym (append-nil g.text)) (part_opens g.text j.rest part_some g.rest_is (record {
              tree = x;
              more = [];
              marked = subst Q (sym (append-nil g.text)) part_marked;
              least = g.reads.0;
              reads = λ k h v stopped.
                  let R : List Piece → Type 0 = λ ps. fs found k x ps v in
                  subst R (sym (append-nil g.text)) (((facts found).law k k).calm x g.text (first_of j.rest) v (g.reads.1 k h) stopped);
            }))

        opens_then : (zs : List Piece) (rest : List Token) → zs ≢ [] → j.rest ≡ written zs ++ rest → Opens stop after_it zs → Opens stop (list_behind test fs found) (g.text ++ zs)
        opens_then zs rest some is o =
            let same : g.text ++ (zs ++ o.more) ≡ (g.text ++ zs) ++ o.more = sym (append_assoc g.text zs o.more) in
            let P : List Piece → Type 0 = λ ps. AreMarked ps in
            record {
              tree = o.tree;
              more = o.more;
              marked = subst P same (AreMarked-append g.text (zs ++ o.more) part_marked o.marked);
              least = g.reads.0 + o.least;
              reads = λ k h v stopped.
                  let Q : List Piece → Type 0 = λ ps. list_behind test fs found k o.tree ps v in
                  let R : Option Token → Type 0 = λ n. fs found k x g.text n in
                  let behind_is : first_of j.rest ≡ lead (zs ++ o.more) v = ap first_of is ∙ sym (lead-is zs o.more rest v some o.marked) in
                  subst Q same (one_more test fs found k x g.text v o.tree (zs ++ o.more) (comes_first (zs ++ o.more) v o.marked) (subst R behind_is (g.reads.1 k (omega (arith, h)))) (o.reads k (omega (arith, h)) v stopped));
            }

        opens_any : (zs : List Piece) (rest : List Token) → j.rest ≡ written zs ++ rest → (zs ≢ [] → Opens stop after_it zs) → Opens stop (list_behind test fs found) (g.text ++ zs)
        opens_any [] rest is h = opens_last
        opens_any (z ∷ zs) rest is h = let some : z ∷ zs ≢ [] = λ e. absurd cc in opens_then (z ∷ zs) rest some is (h some)

        -- a list with that part in it goes on behind that part
        none_with : (zs : List Piece) (rest : List Token) → j.rest ≡ written zs ++ rest → Nothing after_it zs rest → (k : ℕ) (more : List Token) → first_of more ≡ first_of rest
            → (stream : List Token) → stream ≡ written g.text ++ (written zs ++ more) → (tree : List A) → More test fs found k stream tree → ⊥
        none_with zs rest is none k more same stream split tree m =
            let behind_is : first_of (written zs ++ more) ≡ first_of j.rest = first_of-append (written zs) more rest same ∙ sym (ap first_of is) in
            let P : Option Token → Type 0 = λ n. fs found g.reads.0 x g.text n in
            let mine : At (fs found g.reads.0) stream x g.text =
            record { behind = written zs ++ more; is = split; reads = subst P (sym behind_is) (g.reads.1 g.reads.0 (le_refl g.reads.0)) } in
            let both = ((facts found).law k g.reads.0).same stream m.item x m.front g.text m.here mine in
            let left : m.behind ≡ written zs ++ more = same_behind stream m.front g.text m.behind (written zs ++ more) m.is split both.1 in
            let Q : A → Type 0 = λ y. At (list_behind test fs (found ++ y ∷ []) k) m.behind tree m.back in
            let R : List Token → Type 0 = λ ts. At (after_it k) ts tree m.back in
            none k more same tree m.back (subst R left (subst Q both.0 m.there))

        none_at : (zs : List Piece) (rest : List Token) → j.rest ≡ written zs ++ rest → Nothing after_it zs rest → (k : ℕ) (more : List Token) → first_of more ≡ first_of rest
            → (stream : List Token) → stream ≡ written g.text ++ (written zs ++ more) → (tree : List A) (text : List Piece) → At (list_behind test fs found k) stream tree text → ⊥
        none_at zs rest is none k more same stream split tree text at =
            let behind_is : first_of (written zs ++ more) ≡ first_of j.rest = first_of-append (written zs) more rest same ∙ sym (ap first_of is) in
            let first : first_of stream ≡ first_of i.rest =
            ap first_of split ∙ first_of-append (written g.text) (written zs ++ more) j.rest behind_is ∙ sym (ap first_of g.rest_is) in
            none_with zs rest is none k more same stream split tree
            (more_at test fs k (clean_at k) found stream (ap (meets test) first ∙ comes_here) at.reads.0 tree text at.behind at.is at.reads.1 at.reads.2)

        then_none : (zs : List Piece) (rest : List Token) → j.rest ≡ written zs ++ rest → Nothing after_it zs rest → Nothing (list_behind test fs found) (g.text ++ zs) rest
        then_none zs rest is none k more same tree text at = none_at zs rest is none k more same (written (g.text ++ zs) ++ more) (written-behind g.text zs more) tree text at

        then_stuck : (r : Refusal) → Stuck stop after_it j r → Stuck stop (list_behind test fs found) i r
        then_stuck r s = record {
          seen = g.text ++ s.seen;
          rest = s.rest;
          rest_is = stands s.seen s.rest s.rest_is;
          fits = Fits-append i.nested g.text s.seen g.fits (fits_here s.seen s.fits);
          opens = λ some. opens_any s.seen s.rest s.rest_is s.opens;
          none = then_none s.seen s.rest s.rest_is s.none;
          refused = s.refused ∙ ap (λ (l : Place). refusal_at l (past_marks s.rest)) g.last_is;
        }

        then_deep : (r : Refusal) → Deep stop after_it j r → Deep stop (list_behind test fs found) i r
        then_deep r s =
            let same : g.text ++ (s.seen ++ s.deep ∷ []) ≡ (g.text ++ s.seen) ++ s.deep ∷ [] = sym (append_assoc g.text s.seen (s.deep ∷ [])) in
            let P : List Piece → Type 0 = λ ps. Opens stop (list_behind test fs found) ps in
            let reached = s.reached in
            let nested = g.nested_is in
            record {
              seen = g.text ++ s.seen;
              deep = s.deep;
              rest = s.rest;
              rest_is = stands (s.seen ++ s.deep ∷ []) s.rest s.rest_is ∙ ap (λ ps. written ps ++ s.rest) same;
              fits = Fits-append i.nested g.text s.seen g.fits (fits_here s.seen s.fits);
              opens = subst P same (opens_then (s.seen ++ s.deep ∷ []) s.rest (some-last s.seen s.deep) s.rest_is s.opens);
              reached = omega (arith, reached, nested);
              refused = s.refused;
            }

        then_judged : (o : Outcome (List A)) → Judged stop after_it j o → Judged stop (list_behind test fs found) i o
        then_judged (Ok p) h = then_good p.0 p.1 h
        then_judged (Err (Refused r)) (inl s) = inl (then_stuck r s)
        then_judged (Err (Refused r)) (inr s) = inr (then_deep r s)
        then_judged (Err NoMemory) h = h

      -- a part, and the rest
      joined : (rest : A → Parser (List A)) → ((x : A) (j : Input) → Good (fs found) i x j → Judged stop (list_behind test fs (found ++ x ∷ [])) j (rest x j))
          → (o : Outcome A) → Judged stop (fs found) i o → Judged stop (list_behind test fs found) i (and_then o rest)
      joined rest h (Ok p) g = then_judged p.0 p.1 g (rest p.0 p.1) (h p.0 p.1 g)
      joined rest h (Err (Refused r)) (inl s) = inl (part_stuck r s)
      joined rest h (Err (Refused r)) (inr s) = inr (part_deep r s)
      joined rest h (Err NoMemory) s = s

    -- ---- as many parts as there are

    by_test : (n : ℕ) (found : List A) (i : Input) → floor ≤ i.nested → i.nested ≤ greatest_nesting → length i.rest ≤ suc n
        → ((more : List A) (j : Input) → floor ≤ j.nested → j.nested ≤ greatest_nesting → length j.rest ≤ n → Judged stop (list_behind test fs more) j (many_from test f n more j))
        → (c : Bool) → meets test (first_of i.rest) ≡ c
        → Judged stop (list_behind test fs found) i (if c then and_then (f found i) (λ x. many_from test f n (found ++ x ∷ [])) else Ok (found, i))
    by_test n found i above low enough again true h =
        joined found i h (λ x. many_from test f n (found ++ x ∷ []))
        (λ x j g.
        let nested = g.nested_is in
        let shorter = part_shorter found i h x j g in
        again (found ++ x ∷ []) j (omega (arith, above, nested)) (omega (arith, low, nested)) (omega (arith, enough, shorter)))
        (f found i) ((facts found).judged i above low)
    by_test n found i above low enough again false h = good_end found i h

    none_left : (ts : List Token) → length ts ≤ 0 → meets test (first_of ts) ≡ false
    none_left [] h = refl
    none_left (t ∷ ts) h = absurd (omega (arith, h))

    judged_from : (n : ℕ) (found : List A) (i : Input) → floor ≤ i.nested → i.nested ≤ greatest_nesting → length i.rest ≤ n → Judged stop (list_behind test fs found) i (many_from test f n found i)
    unfolding many_from comes next ahead
    judged_from zero found i above low enough = good_end found i (none_left i.rest enough)
    judged_from (suc n) found i above low enough = by_test n found i above low enough (judged_from n) (meets test (first_of i.rest)) refl

    abbrev whole_list : Family (List A)
    whole_list = λ k. many test (λ found. fs found k)

    as_list : Carried stop (list_behind test fs []) whole_list
    as_list = record {
      settles = λ tree text n s. (s.0, λ k h. let P : List A → Type 0 = λ xs. whole_list k xs text n in subst P (sym (s.1 k h).1) (s.1 k h).2);
      opens = λ seen o. record {
        tree = o.tree;
        more = o.more;
        marked = o.marked;
        least = o.least;
        reads = λ k h v stopped.
            let P : List A → Type 0 = λ xs. whole_list k xs (seen ++ o.more) v in
            let r = o.reads k h v stopped in
            subst P (sym r.1) r.2;
      };
      none = λ seen rest none k more same tree text at. none k more same tree text (record { behind = at.behind; is = at.is; reads = (tree, refl, at.reads) });
    }

    pub judged_many : (i : Input) → floor ≤ i.nested → i.nested ≤ greatest_nesting → Judged stop whole_list i (input.many test f i)
    unfolding input.many turns
    judged_many i above low = carried stop (list_behind test fs []) whole_list as_list i (many_from test f (length i.rest) [] i) (judged_from (length i.rest) [] i above low (le_refl (length i.rest)))

unfoldable pub fact_many : {A : Type 0} (floor : ℕ) (stop : Stop) (test : Test) (fs : List A → Family A) (f : List A → Parser A) → ((found : List A) → Fact floor stop (fs found) (f found))
    → ((found : List A) (k : ℕ) → NeverEmpty (fs found k)) → ((v : Option Token) → stop v ≡ true → meets test v ≡ false)
    → Fact floor stop (λ k. many test (λ found. fs found k)) (input.many test f)
fact_many floor stop test fs f facts never stops = record {
  law = λ n k. law_many stop test (λ found. fs found n) (λ found. fs found k) (λ found. (facts found).law n k) (λ found. never found n) stops;
  spare = record { tree = []; text = []; marked = tt; least = 0; reads = λ k h v stopped. (refl, stops v stopped) };
  judged = judged_many test fs floor stop f facts never stops;
}
