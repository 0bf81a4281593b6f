use Rattle.std.proofs.Common.{◌≡◌, ℕ, ◌<◌, ◌+◌, ◌∷◌, [], Bool, true, false, List, Option, None, Some, take, drop, arith, refl, sym}
use Rattle.std.proofs.lemmas.Grind.{common_steps}
use Rattle.bit_ops.specs.declared.value.TheConstants.{MAX_WIDTH}
use Rattle.const_eval.specs.Literal.{cut_to, in_base, with_base, behind_quote, size_of}
use Rattle.sv_lexer.specs.declared.form.Base.{Base}
use Rattle.sv_lexer.specs.Bytes.{radix}
use Rattle.sv_lexer.specs.Piece.{base_of}
use Rattle.const_eval.proofs.literal.number.Goals as goal

-- digits cut to a size over the greatest width mean nothing
no_cut : (size : ℕ) (signed : Bool) (r : ℕ) (digits : List ℕ) → MAX_WIDTH < size → cut_to size signed r digits ≡ None
no_cut size signed r digits h = grind (arith, common_steps)

-- so too where the base may be none
no_base_here : (size : ℕ) (signed : Bool) (base : Option Base) (digits : List ℕ) → MAX_WIDTH < size → in_base size signed base digits ≡ None
no_base_here size signed None digits h = refl
no_base_here size signed (Some base) digits h = no_cut size signed (radix base) digits h

-- so too from the base letter on
no_base : (size : ℕ) (signed : Bool) (text : List ℕ) → MAX_WIDTH < size → with_base size signed text ≡ None
no_base size signed [] h = refl
no_base size signed (letter ∷ digits) h = no_base_here size signed (base_of letter) digits h

-- so too from the `'` on
no_number : (size : ℕ) (text : List ℕ) → MAX_WIDTH < size → behind_quote size text ≡ None
no_number size [] h = refl
no_number size (b ∷ bs) h = grind (arith, no_base size true bs h, no_base size false (b ∷ bs) h)

pub returns-in_err-size-in-Some : goal.returns-in_err-size-in-Some
returns-in_err-size-in-Some c =
    rw (c.from_residual.ensures, ← c.in-Some.ensures)
    (sym (no_number (size_of (take c.in-Some.quote c.args.text.now)) (drop (c.in-Some.quote + 1) c.args.text.now) (omega (arith, c.in_err-size-in-Some.ensures))))
