-- a cutting, piece by piece
use Rattle.std.proofs.Common.{◌≡◌, ℕ, ◌+◌, ◌<◌, List, [], ◌∷◌, ◌++◌, length, get_or, take, drop, refl, sym, ◌∙◌, ap, subst, arith, Option, Some, None}
use Rattle.std.specs.List.{cons_option}
use Rattle.std.proofs.lemmas.List.{take-append-drop}
use Rattle.sv_base.specs.declared.kind.Kind.{Kind}
use Rattle.sv_base.specs.declared.kind.Kind.TheVariants as kind
use Rattle.sv_lexer.specs.Bytes.{line_ends}
use Rattle.sv_lexer.specs.Piece.{HasNoForm, FaultOf}
use Rattle.sv_lexer.specs.Cutting.{Piece, Stands, CutsTo, Fails, refused, no_form, byte_name, IsFaultOf, place_at, kind_of, token_of, tokens_of, ends_of}
use Rattle.sv_lexer.specs.Scan.{IsFound, IsSoFar, Says, added}
use Rattle.sv_base.specs.declared.refusal.Place.{Place}
use Rattle.sv_base.specs.declared.fault.Fault.{Fault}
use Rattle.sv_base.specs.declared.fault.Fault.TheVariants as fault
use Rattle.sv_lexer.specs.declared.form.Form.{Form}
use Rattle.sv_lexer.specs.declared.token.Token.{Token}

pub no_form_fails : (s : List ℕ) (k : Kind) (name : List ℕ) → 0 < length s → HasNoForm s → k ≡ kind.BadCharacter → name ≡ byte_name (get_or s 0 0) → Fails s k name
no_form_fails [] k name some h e f = absurd (omega arith)
no_form_fails (b ∷ s) k name some h e f = no_form b s refl h e f

pub refused_fails : (f : Form) (n : ℕ) (s : List ℕ) (k : Kind) (name : List ℕ) → IsFound f (take n s) (drop n s) → FaultOf f (take n s) (Some (k, name)) → Fails s k name
refused_fails f n s k name h fault = refused f (take n s) (drop n s) (sym (take-append-drop n s)) h.has_form h.longest fault

-- one more piece after those of a cutting
pub cut_more : (text : List ℕ) (ps : List Piece) (rest : List ℕ) (p : Piece) (after : List ℕ) → CutsTo text ps rest → rest ≡ p.1 ++ after → Stands p.0 p.1 after → CutsTo text (ps ++ p ∷ []) after
cut_more text [] rest p after c e s = (after, c ∙ e, s, refl)
cut_more text (q ∷ ps) rest p after c e s = (c.0, c.1, c.2, cut_more c.0 ps rest p after c.3 e s)

pub ends_more : (ps : List Piece) (p : Piece) → ends_of (ps ++ p ∷ []) ≡ ends_of ps + line_ends p.1
ends_more [] p = omega arith
ends_more (q ∷ ps) p = let more = ends_more ps p in omega arith

option_more : {X : Type 0} (o : Option X) (xs ys : List X) → cons_option o (xs ++ ys) ≡ cons_option o xs ++ ys
option_more None xs ys = refl
option_more (Some x) xs ys = refl

pub tokens_more : (file ends : ℕ) (ps : List Piece) (p : Piece) → tokens_of file ends (ps ++ p ∷ []) ≡ tokens_of file ends ps ++ added file (ends + ends_of ps) p.0 p.1
tokens_more file ends [] p = ap (λ (n : ℕ). added file n p.0 p.1) (let e : ends ≡ ends + 0 = omega arith in e)
tokens_more file ends (q ∷ ps) p =
    let more = tokens_more file (ends + line_ends q.1) ps p in
    let count : (ends + line_ends q.1) + ends_of ps ≡ ends + (line_ends q.1 + ends_of ps) = omega arith in
    let here = token_of file ends q.1 (kind_of q.0) in
    ap (cons_option here) more
    ∙ ap (λ (n : ℕ). cons_option here (tokens_of file (ends + line_ends q.1) ps ++ added file n p.0 p.1)) count
    ∙ option_more here (tokens_of file (ends + line_ends q.1) ps) (added file (ends + (line_ends q.1 + ends_of ps)) p.0 p.1)

-- nothing is cut yet
pub so_far_none : (file : ℕ) (text : List ℕ) → IsSoFar file text text [] 0
so_far_none file text = record { pieces = []; cut = refl; made = refl; counted = refl }

-- one more piece is cut
pub so_far_more : (file : ℕ) (text rest : List ℕ) (tokens more : List Token) (ends : ℕ) (f : Form) (n : ℕ) → IsSoFar file text rest tokens ends → Stands f (take n rest) (drop n rest) → more ≡ tokens ++ added file ends f (take n rest) → IsSoFar file text (drop n rest) more (ends + line_ends (take n rest))
so_far_more file text rest tokens more ends f n so s e =
    let p : Piece = (f, take n rest) in
    record {
      pieces = so.pieces ++ p ∷ [];
      cut = cut_more text so.pieces rest p (drop n rest) so.cut (sym (take-append-drop n rest)) s;
      made = e ∙ ap (λ (ts : List Token). ts ++ added file ends f (take n rest)) so.made
          ∙ ap (λ (k : ℕ). tokens_of file 0 so.pieces ++ added file k f (take n rest)) (so.counted ∙ (let z : ends_of so.pieces ≡ 0 + ends_of so.pieces = omega arith in z))
          ∙ sym (tokens_more file 0 so.pieces p);
      counted = ap (λ (k : ℕ). k + line_ends (take n rest)) so.counted ∙ sym (ends_more so.pieces p);
    }

-- a fault at the rest is the text's
pub fault_at_rest : (file : ℕ) (text rest : List ℕ) (tokens : List Token) (ends : ℕ) (k : Kind) (name : List ℕ) (place : Place) (f : Fault) → IsSoFar file text rest tokens ends → Fails rest k name → place ≡ place_at file ends → Says k name place f → IsFaultOf file text f
fault_at_rest file text rest tokens ends k name place (fault.Refused refusal) so h e says =
    record {
      pieces = so.pieces;
      rest = rest;
      cut = so.cut;
      fails = subst (λ (x : Kind). Fails rest x refusal.name) (sym says.0) (subst (Fails rest k) (sym says.1) h);
      place = says.2 ∙ e ∙ ap (place_at file) so.counted;
    }
fault_at_rest file text rest tokens ends k name place fault.NoMemory so h e says = tt
