use Rattle.std.proofs.Common.{refl, sym, ◌∙◌, ap}
use Rattle.bit_ops.specs.Meaning.{div_s_of, mod_s_of, shl_of, shr_u_of, shr_s_of}
use Rattle.bit_ops.specs.declared.operation.Op.TheVariants as op
use Rattle.code_isa.proofs.Reading.{one_value, two_value, two_fit}
use Rattle.code_isa.proofs.run.value.Goals as goal

pub returns-in-DivS-clause-word : goal.returns-in-DivS-clause-word
returns-in-DivS-clause-word c =
    let fit = two_fit c.args.slots.now c.args.i.now op.DivS c.index-slots-i-in-DivS.result c.index-slots-i-in-DivS-2.result c.in-DivS.is refl refl c.requires.there c.index-slots-i-in-DivS.is c.index-slots-i-in-DivS-2.is c.requires.fits in
    c.div_s.ensures.value ∙ ap (λ w. div_s_of w c.index-slots-i-in-DivS.result.word c.index-slots-i-in-DivS-2.result.word) (fit.0)
    ∙ sym (two_value c.args.slots.now c.args.i.now op.DivS c.index-slots-i-in-DivS.result c.index-slots-i-in-DivS-2.result c.in-DivS.is refl refl c.requires.there c.index-slots-i-in-DivS.is c.index-slots-i-in-DivS-2.is)

pub returns-in-ModS-clause-word : goal.returns-in-ModS-clause-word
returns-in-ModS-clause-word c =
    let fit = two_fit c.args.slots.now c.args.i.now op.ModS c.index-slots-i-in-ModS.result c.index-slots-i-in-ModS-2.result c.in-ModS.is refl refl c.requires.there c.index-slots-i-in-ModS.is c.index-slots-i-in-ModS-2.is c.requires.fits in
    c.mod_s.ensures.value ∙ ap (λ w. mod_s_of w c.index-slots-i-in-ModS.result.word c.index-slots-i-in-ModS-2.result.word) (fit.0)
    ∙ sym (two_value c.args.slots.now c.args.i.now op.ModS c.index-slots-i-in-ModS.result c.index-slots-i-in-ModS-2.result c.in-ModS.is refl refl c.requires.there c.index-slots-i-in-ModS.is c.index-slots-i-in-ModS-2.is)

pub returns-in-Shl-clause-word : goal.returns-in-Shl-clause-word
returns-in-Shl-clause-word c =
    let fit = two_fit c.args.slots.now c.args.i.now op.Shl c.index-slots-i-in-Shl.result c.index-slots-i-in-Shl-2.result c.in-Shl.is refl refl c.requires.there c.index-slots-i-in-Shl.is c.index-slots-i-in-Shl-2.is c.requires.fits in
    c.shl.ensures.value ∙ ap (λ w. shl_of w c.index-slots-i-in-Shl.result.word c.index-slots-i-in-Shl-2.result.word) (fit)
    ∙ sym (two_value c.args.slots.now c.args.i.now op.Shl c.index-slots-i-in-Shl.result c.index-slots-i-in-Shl-2.result c.in-Shl.is refl refl c.requires.there c.index-slots-i-in-Shl.is c.index-slots-i-in-Shl-2.is)

pub returns-in-ShrU-clause-word : goal.returns-in-ShrU-clause-word
returns-in-ShrU-clause-word c =
    let fit = two_fit c.args.slots.now c.args.i.now op.ShrU c.index-slots-i-in-ShrU.result c.index-slots-i-in-ShrU-2.result c.in-ShrU.is refl refl c.requires.there c.index-slots-i-in-ShrU.is c.index-slots-i-in-ShrU-2.is c.requires.fits in
    c.shr_u.ensures.value ∙ ap (λ w. shr_u_of w c.index-slots-i-in-ShrU.result.word c.index-slots-i-in-ShrU-2.result.word) (fit)
    ∙ sym (two_value c.args.slots.now c.args.i.now op.ShrU c.index-slots-i-in-ShrU.result c.index-slots-i-in-ShrU-2.result c.in-ShrU.is refl refl c.requires.there c.index-slots-i-in-ShrU.is c.index-slots-i-in-ShrU-2.is)

pub returns-in-ShrS-clause-word : goal.returns-in-ShrS-clause-word
returns-in-ShrS-clause-word c =
    let fit = two_fit c.args.slots.now c.args.i.now op.ShrS c.index-slots-i-in-ShrS.result c.index-slots-i-in-ShrS-2.result c.in-ShrS.is refl refl c.requires.there c.index-slots-i-in-ShrS.is c.index-slots-i-in-ShrS-2.is c.requires.fits in
    c.shr_s.ensures.value ∙ ap (λ w. shr_s_of w c.index-slots-i-in-ShrS.result.word c.index-slots-i-in-ShrS-2.result.word) (fit)
    ∙ sym (two_value c.args.slots.now c.args.i.now op.ShrS c.index-slots-i-in-ShrS.result c.index-slots-i-in-ShrS-2.result c.in-ShrS.is refl refl c.requires.there c.index-slots-i-in-ShrS.is c.index-slots-i-in-ShrS-2.is)

pub returns-in-Eq-clause-word : goal.returns-in-Eq-clause-word
returns-in-Eq-clause-word c =
    c.eq.ensures.value ∙ sym (two_value c.args.slots.now c.args.i.now op.Eq c.index-slots-i-in-Eq.result c.index-slots-i-in-Eq-2.result c.in-Eq.is refl refl c.requires.there c.index-slots-i-in-Eq.is c.index-slots-i-in-Eq-2.is)

pub returns-in-LtU-clause-word : goal.returns-in-LtU-clause-word
returns-in-LtU-clause-word c =
    c.lt_u.ensures.value ∙ sym (two_value c.args.slots.now c.args.i.now op.LtU c.index-slots-i-in-LtU.result c.index-slots-i-in-LtU-2.result c.in-LtU.is refl refl c.requires.there c.index-slots-i-in-LtU.is c.index-slots-i-in-LtU-2.is)

pub returns-in-LtS-clause-word : goal.returns-in-LtS-clause-word
returns-in-LtS-clause-word c =
    c.lt_s.ensures.value ∙ sym (two_value c.args.slots.now c.args.i.now op.LtS c.index-slots-i-in-LtS.result c.index-slots-i-in-LtS-2.result c.in-LtS.is refl refl c.requires.there c.index-slots-i-in-LtS.is c.index-slots-i-in-LtS-2.is)

pub returns-in-Insert-clause-word : goal.returns-in-Insert-clause-word
returns-in-Insert-clause-word c =
    c.insert.ensures.value ∙ sym (two_value c.args.slots.now c.args.i.now op.Insert c.index-slots-i-in-Insert.result c.index-slots-i-in-Insert-2.result c.in-Insert.is refl refl c.requires.there c.index-slots-i-in-Insert.is c.index-slots-i-in-Insert-2.is)

pub returns-in-RedAnd-clause-word : goal.returns-in-RedAnd-clause-word
returns-in-RedAnd-clause-word c =
    c.red_and.ensures.value ∙ sym (one_value c.args.slots.now c.args.i.now op.RedAnd c.index-slots-i-in-RedAnd.result c.in-RedAnd.is refl refl c.requires.there c.index-slots-i-in-RedAnd.is)

pub returns-in-RedOr-clause-word : goal.returns-in-RedOr-clause-word
returns-in-RedOr-clause-word c =
    c.red_or.ensures.value ∙ sym (one_value c.args.slots.now c.args.i.now op.RedOr c.index-slots-i-in-RedOr.result c.in-RedOr.is refl refl c.requires.there c.index-slots-i-in-RedOr.is)

pub returns-in-RedXor-clause-word : goal.returns-in-RedXor-clause-word
returns-in-RedXor-clause-word c =
    c.red_xor.ensures.value ∙ sym (one_value c.args.slots.now c.args.i.now op.RedXor c.index-slots-i-in-RedXor.result c.in-RedXor.is refl refl c.requires.there c.index-slots-i-in-RedXor.is)
