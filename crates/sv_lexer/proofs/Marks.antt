-- blanks and words of a mark, each where it must be
use Rattle.std.proofs.Common.{◌≡◌, ◌≢◌, ℕ, ◌-◌, ◌<◌, ◌≤◌, List, [], ◌∷◌, ◌++◌, length, take, drop, refl, sym, ◌∙◌, ap, arith}
use Rattle.std.specs.Prelude.{codes}
use Rattle.std.proofs.lemmas.List.{append_assoc, append-nil, append_cancel_left, take-append-drop, take_rest, length-take}
use Rattle.sv_lexer.specs.Bytes.{Each, Stops, is_blank}
use Rattle.sv_lexer.specs.Piece.{IsMarkText}
use Rattle.sv_lexer.specs.Scan.{IsBlankRun}
use Rattle.sv_lexer.proofs.Runs.{runs_agree}

pub blank_run : (n : ℕ) (s : List ℕ) → n ≤ length s → Each is_blank (take n s) → Stops is_blank (drop n s) → IsBlankRun n s (take (length s - n) (drop n s))
blank_run n s le h st =
    let size = length-take n s in
    record {
      blanks = take n s;
      whole = rw take_rest (sym (take-append-drop n s));
      count = omega arith;
      blank = h;
      stops = rw take_rest st;
    }

-- a text begins with its blanks in one way
pub blank_split : (n : ℕ) (text rest blanks other : List ℕ) → IsBlankRun n text rest → text ≡ blanks ++ other → Each is_blank blanks → Stops is_blank other → (n ≡ length blanks) × (rest ≡ other)
blank_split n text rest blanks other r e h s =
    let same = runs_agree is_blank r.blanks blanks rest other (sym r.whole ∙ e) r.blank h r.stops s in
    (r.count ∙ ap length same.0, same.1)

regroup : (a v b h c : List ℕ) → a ++ v ++ b ++ h ++ c ≡ a ++ (v ++ (b ++ (h ++ c)))
regroup a v b h c = simp append_assoc

pub after_blanks : (n : ℕ) (content text : List ℕ) → IsBlankRun n content text → (m : IsMarkText content) → text ≡ codes "verilator" ++ (m.between ++ (codes "hier_block" ++ m.after))
after_blanks n content text r m =
    (blank_split n content text m.before (codes "verilator" ++ (m.between ++ (codes "hier_block" ++ m.after))) r
    (m.whole ∙ regroup m.before (codes "verilator") m.between (codes "hier_block") m.after) m.blank_before refl).1

pub after_first : (text rest : List ℕ) (content : List ℕ) (m : IsMarkText content) → text ≡ codes "verilator" ++ (m.between ++ (codes "hier_block" ++ m.after)) → text ≡ codes "verilator" ++ rest → rest ≡ m.between ++ (codes "hier_block" ++ m.after)
after_first text rest content m e f = append_cancel_left (codes "verilator") rest (m.between ++ (codes "hier_block" ++ m.after)) (sym f ∙ e)

pub after_between : (n : ℕ) (text rest content : List ℕ) (m : IsMarkText content) → IsBlankRun n text rest → text ≡ m.between ++ (codes "hier_block" ++ m.after) → (n ≡ length m.between) × (rest ≡ codes "hier_block" ++ m.after)
after_between n text rest content m r e = blank_split n text rest m.between (codes "hier_block" ++ m.after) r e m.blank_between refl

pub after_second : (text rest content : List ℕ) (m : IsMarkText content) → text ≡ codes "hier_block" ++ m.after → text ≡ codes "hier_block" ++ rest → rest ≡ m.after
after_second text rest content m e f = append_cancel_left (codes "hier_block") rest m.after (sym f ∙ e)

pub after_last : (n : ℕ) (text rest content : List ℕ) (m : IsMarkText content) → IsBlankRun n text rest → text ≡ m.after → rest ≡ []
after_last n text rest content m r e = (blank_split n text rest m.after [] r (e ∙ sym (append-nil m.after)) m.blank_after tt).1

-- the five steps, each with what it leaves
pub no_first : (a : ℕ) (content t1 : List ℕ) → IsBlankRun a content t1 → ((rest : List ℕ) → t1 ≡ codes "verilator" ++ rest → ⊥) → IsMarkText content → ⊥
no_first a content t1 r none m = none (m.between ++ (codes "hier_block" ++ m.after)) (after_blanks a content t1 r m)

pub no_second : (a b : ℕ) (content t1 t2 t3 : List ℕ) → IsBlankRun a content t1 → t1 ≡ codes "verilator" ++ t2 → IsBlankRun b t2 t3 → ((rest : List ℕ) → t3 ≡ codes "hier_block" ++ rest → ⊥) → IsMarkText content → ⊥
no_second a b content t1 t2 t3 r e s none m =
    none m.after (after_between b t2 t3 content m s (after_first t1 t2 content m (after_blanks a content t1 r m) e)).1

pub mark_ends : (a b c : ℕ) (content t1 t2 t3 t4 t5 : List ℕ) → IsBlankRun a content t1 → t1 ≡ codes "verilator" ++ t2 → IsBlankRun b t2 t3 → t3 ≡ codes "hier_block" ++ t4 → IsBlankRun c t4 t5 → IsMarkText content → (0 < b) × (t5 ≡ [])
mark_ends a b c content t1 t2 t3 t4 t5 r e s f u m =
    let between = after_between b t2 t3 content m s (after_first t1 t2 content m (after_blanks a content t1 r m) e) in
    (some_between m.between m.parted b between.0, after_last c t4 t5 content m u (after_second t3 t4 content m between.1 f))
  where
    some_between : (between : List ℕ) → between ≢ [] → (n : ℕ) → n ≡ length between → 0 < n
    some_between [] some n e = absurd (some refl)
    some_between (x ∷ xs) some n e = omega arith

pub mark_made : (a b c : ℕ) (content t1 t2 t3 t4 t5 : List ℕ) → IsBlankRun a content t1 → t1 ≡ codes "verilator" ++ t2 → IsBlankRun b t2 t3 → t3 ≡ codes "hier_block" ++ t4 → IsBlankRun c t4 t5 → 0 < b → t5 ≡ [] → IsMarkText content
mark_made a b c content t1 t2 t3 t4 t5 r e s f u some end =
    record {
      before = r.blanks;
      between = s.blanks;
      after = u.blanks;
      whole = r.whole ∙ ap (λ (t : List ℕ). r.blanks ++ t) (e ∙ ap (λ (t : List ℕ). codes "verilator" ++ t) (s.whole ∙ ap (λ (t : List ℕ). s.blanks ++ t) (f ∙ ap (λ (t : List ℕ). codes "hier_block" ++ t) (u.whole ∙ ap (λ (t : List ℕ). u.blanks ++ t) end ∙ append-nil u.blanks)))) ∙ sym (regroup r.blanks (codes "verilator") s.blanks (codes "hier_block") u.blanks);
      blank_before = r.blank;
      blank_between = s.blank;
      blank_after = u.blank;
      parted = (λ x. let size : b ≡ 0 = s.count ∙ ap length x in absurd (omega arith));
    }

pub empty_length : (xs : List ℕ) → length xs ≡ 0 → xs ≡ []
empty_length [] e = refl
empty_length (x ∷ xs) e = absurd (omega arith)
