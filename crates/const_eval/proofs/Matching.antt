-- What was measured stands for the number that is meant.
use Rattle.std.proofs.Common.{◌≡◌, pos, if◌then◌else◌, ap, ◌∙◌, arith}
use Rattle.bit_ops.specs.Meaning.{signed_of}
use Rattle.const_eval.specs.declared.measured.Measured.{Measured}
use Rattle.const_eval.specs.Meaning.{Meaning, number, own}
use Rattle.const_eval.specs.code.Waiting.{value_of}
use Rattle.const_eval.specs.code.Agreeing.{Matches, number_in}

-- the value by itself
pub own_matches : (m : Measured) (n : Meaning) → Matches m n → value_of m.pending m.size m.signed ≡ own n
own_matches m n h = h.value m.size m.signed (omega arith) (omega arith) ∙ ap (λ k. n.value k m.signed) h.size ∙ ap (n.value n.size) h.signed

-- the whole number by itself
pub number_matches : (m : Measured) (n : Meaning) → Matches m n → number_in m ≡ number n
number_matches m n h =
    let e = own_matches m n h in
    ap (λ s. if s then signed_of m.size (value_of m.pending m.size m.signed) else pos (value_of m.pending m.size m.signed)) h.signed
    ∙ ap (λ a. if n.signed then signed_of m.size a else pos a) e
    ∙ ap (λ w. if n.signed then signed_of w (own n) else pos (own n)) h.size
