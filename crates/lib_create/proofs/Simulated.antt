-- How a command ends, by what its source was found to be.
use Rattle.std.proofs.Common.{◌≡◌, ◌⊎◌, ℕ, List, [], Option, None, Some, Result, Ok, Err, refl, sym, ◌∙◌, ap, subst, inl, inr}
use Rattle.std.proofs.lemmas.Option.{IfSome_then}
use Rattle.std.specs.Prelude.{IfSome, IfOk, OnErr}
use Rattle.std.specs.FinMap.{get}
use Rattle.io_edge.specs.File.{Files}
use Rattle.io_edge.specs.Told.{Added, AddedFront, added_nothing}
use Rattle.sv_base.specs.declared.refusal.Refusal.{Refusal}
use Rattle.net_ir.specs.declared.design.Spec.{Spec}
use Rattle.lib_create.specs.declared.compile.Compiled.{Compiled}
use Rattle.lib_create.specs.declared.compile.Compiled.TheVariants.{Absent, Refused, Design}
use Rattle.lib_create.specs.Command.{Sim, meaning_of}
use Rattle.lib_create.specs.code.Compiling.{IsCompiled}
use Rattle.lib_create.specs.Outcome.{Verdict, SourceAbsent, SourceRefused, EndsWithStimulus, EndsWithSource, EndsWithWords, Ends}
use Rattle.lib_create.specs.Answer.{HasCome, CutShort, NothingDue, InTrace}

-- ---- the words are the command's

with_source : (files : Files) (words : List (List ℕ)) (sim : Sim) (verdict : Verdict) (trace : List ℕ) → Ok sim ≡ meaning_of words → EndsWithSource files sim (get files sim.file) verdict trace → Ends files words verdict trace
with_source files words sim verdict trace said ends = subst (λ meaning. EndsWithWords files meaning verdict trace) said ends

-- ---- there is no design

absent : (files : Files) (sim : Sim) (held : Option (List ℕ)) → IsCompiled held sim.top Absent → EndsWithSource files sim held (SourceAbsent sim.file) []
absent files sim None is = (refl, refl)
absent files sim (Some bytes) is = absurd is

refused : (files : Files) (sim : Sim) (held : Option (List ℕ)) (refusal : Refusal) → IsCompiled held sim.top (Refused refusal) → EndsWithSource files sim held (SourceRefused sim.file refusal) []
refused files sim None refusal is = absurd is
refused files sim (Some bytes) refusal is = inr (refusal, is, refl, refl)

pub absent_told : (content : Option Files) (words : List (List ℕ)) (sim : Sim) (found : Compiled) (before : Option (List ℕ)) → Ok sim ≡ meaning_of words → IfSome content (λ files. IsCompiled (get files sim.file) sim.top found) → found ≡ Absent → IfSome content (λ files. (trace : List ℕ) × Ends files words (SourceAbsent sim.file) trace × Added before before trace)
absent_told content words sim found before said compiled is =
    IfSome_then content compiled (λ files compiled. (
      [],
      with_source files words sim (SourceAbsent sim.file) [] said (absent files sim (get files sim.file) (subst (IsCompiled (get files sim.file) sim.top) is compiled)),
      added_nothing before,
    ))

pub refused_told : (content : Option Files) (words : List (List ℕ)) (sim : Sim) (found : Compiled) (refusal : Refusal) (before : Option (List ℕ)) → Ok sim ≡ meaning_of words → IfSome content (λ files. IsCompiled (get files sim.file) sim.top found) → found ≡ Refused refusal → IfSome content (λ files. (trace : List ℕ) × Ends files words (SourceRefused sim.file refusal) trace × Added before before trace)
refused_told content words sim found refusal before said compiled is =
    IfSome_then content compiled (λ files compiled. (
      [],
      with_source files words sim (SourceRefused sim.file refusal) [] said (refused files sim (get files sim.file) refusal (subst (IsCompiled (get files sim.file) sim.top) is compiled)),
      added_nothing before,
    ))

-- ---- there is a design

-- a run of the design is a run of the command
source : (files : Files) (sim : Sim) (held : Option (List ℕ)) (spec : Spec) (verdict : Verdict) (trace : List ℕ) → IsCompiled held sim.top (Design spec) → EndsWithStimulus spec (get files sim.stimulus) verdict trace → EndsWithSource files sim held verdict trace
source files sim None spec verdict trace is ends = absurd is
source files sim (Some bytes) spec verdict trace is ends = inl (spec, is, ends)

-- where it was cut short, so was the command
cut_source : (files : Files) (words : List (List ℕ)) (sim : Sim) (held : Option (List ℕ)) (spec : Spec) (before after : Option (List ℕ)) → meaning_of words ≡ Ok sim → get files sim.file ≡ held → IsCompiled held sim.top (Design spec) →
    Added before after [] ⊎ HasCome spec (get files sim.stimulus) before after → CutShort files words before after
cut_source files words sim None spec before after said there is cut = absurd is
cut_source files words sim (Some bytes) spec before after said there is (inl nothing) = NothingDue nothing
cut_source files words sim (Some bytes) spec before after said there is (inr come) = InTrace sim said bytes there spec is come

pub design_cut_told : (content later : Option Files) (words : List (List ℕ)) (sim : Sim) (found : Compiled) (spec : Spec) (before after : Option (List ℕ)) → Ok sim ≡ meaning_of words → later ≡ content →
    IfSome content (λ files. IsCompiled (get files sim.file) sim.top found) → found ≡ Design spec → IfSome later (λ files. Added before after [] ⊎ HasCome spec (get files sim.stimulus) before after) →
    IfSome content (λ files. CutShort files words before after)
design_cut_told None later words sim found spec before after said unchanged compiled is cut = tt
design_cut_told (Some files) later words sim found spec before after said unchanged compiled is cut =
    cut_source files words sim (get files sim.file) spec before after (sym said) refl (subst (IsCompiled (get files sim.file) sim.top) is compiled)
    (subst (λ told. IfSome told (λ files. Added before after [] ⊎ HasCome spec (get files sim.stimulus) before after)) unchanged cut)

-- where the stimulus was played to its end, the run of the command ended so
pub design_ends_told : (content later : Option Files) (words : List (List ℕ)) (sim : Sim) (found : Compiled) (spec : Spec) (verdict : Verdict) (before after : Option (List ℕ)) → Ok sim ≡ meaning_of words → later ≡ content →
    IfSome content (λ files. IsCompiled (get files sim.file) sim.top found) → found ≡ Design spec → IfSome later (λ files. (trace : List ℕ) × EndsWithStimulus spec (get files sim.stimulus) verdict trace × Added before after trace) →
    IfSome content (λ files. (trace : List ℕ) × Ends files words verdict trace × Added before after trace)
design_ends_told None later words sim found spec verdict before after said unchanged compiled is ends = tt
design_ends_told (Some files) later words sim found spec verdict before after said unchanged compiled is ends =
    let here = subst (λ told. IfSome told (λ files. (trace : List ℕ) × EndsWithStimulus spec (get files sim.stimulus) verdict trace × Added before after trace)) unchanged ends in
    (here.0, with_source files words sim verdict here.0 said (source files sim (get files sim.file) spec verdict here.0 (subst (IsCompiled (get files sim.file) sim.top) is compiled) here.1), here.2)

pub run_ends_told : {A E : Type 0} (seen : A → Verdict) (content later : Option Files) (words : List (List ℕ)) (sim : Sim) (found : Compiled) (spec : Spec) (result : Result A E) (before after : Option (List ℕ)) → Ok sim ≡ meaning_of words → later ≡ content →
    IfSome content (λ files. IsCompiled (get files sim.file) sim.top found) → found ≡ Design spec →
    IfOk result (λ verdict. IfSome later (λ files. (trace : List ℕ) × EndsWithStimulus spec (get files sim.stimulus) (seen verdict) trace × Added before after trace)) →
    IfOk result (λ verdict. IfSome content (λ files. (trace : List ℕ) × Ends files words (seen verdict) trace × Added before after trace))
run_ends_told seen content later words sim found spec (Ok verdict) before after said unchanged compiled is ends = design_ends_told content later words sim found spec (seen verdict) before after said unchanged compiled is ends
run_ends_told seen content later words sim found spec (Err fault) before after said unchanged compiled is ends = tt

pub run_cut_told : {A E : Type 0} (content later : Option Files) (words : List (List ℕ)) (sim : Sim) (found : Compiled) (spec : Spec) (result : Result A E) (before after : Option (List ℕ)) → Ok sim ≡ meaning_of words → later ≡ content →
    IfSome content (λ files. IsCompiled (get files sim.file) sim.top found) → found ≡ Design spec →
    OnErr result (IfSome later (λ files. Added before after [] ⊎ HasCome spec (get files sim.stimulus) before after)) →
    OnErr result (IfSome content (λ files. CutShort files words before after))
run_cut_told content later words sim found spec (Ok verdict) before after said unchanged compiled is cut = tt
run_cut_told content later words sim found spec (Err fault) before after said unchanged compiled is cut = design_cut_told content later words sim found spec before after said unchanged compiled is cut
