-- A run ends in one way, with one trace.
use Rattle.std.proofs.Common.{◌≡◌, ℕ, List, [], sym, ◌∙◌, ap, subst, Option, None, Some, inl, inr}
use Rattle.std.specs.Prelude.{Result, Ok, Err}
use Rattle.std.specs.FinMap.{get}
use Rattle.io_edge.specs.File.{Files}
use Rattle.net_ir.specs.declared.design.Spec.{Spec}
use Rattle.sv_base.specs.Steps.{Step}
use Rattle.sv_base.specs.declared.refusal.Refusal.{Refusal}
use Rattle.net_ir.specs.Face.{ports_of}
use Rattle.net_ir.specs.Facts.{HasOneSolution}
use Rattle.net_ir.specs.Trace.{IsTrace}
use Rattle.sealer.specs.Source.{HasDesign, IsRefused}
use Rattle.lib_create.specs.Command.{Sim, Misuse, meaning_of}
use Rattle.stimulus_reader.specs.Stimulus.{stimulus_of}
use Rattle.session.specs.declared.playing.TheConstants.{STEP_LIMIT}
use Rattle.lib_create.specs.Outcome.{Verdict, SourceRefused, status_of, message_of, EndsWithStimulus, EndsWithSource, EndsWithWords, Ends, Outcome, IsOutcome}

abbrev pub OneTrace : Type 0
OneTrace = (spec : Spec) (steps : List Step) (a b : List ℕ) → HasOneSolution spec → IsTrace spec steps a → IsTrace spec steps b → a ≡ b

abbrev pub OneEnd : Type 0
OneEnd = (files : Files) (words : List (List ℕ)) (first second : Verdict) (trace other : List ℕ) → Ends files words first trace → Ends files words second other → (first ≡ second) × (trace ≡ other)

-- the design or the refusal of a source
pub record OneSource : Type 0 where
  pub designs : (top bytes : List ℕ) (first second : Spec) → HasDesign top bytes first → HasDesign top bytes second → first ≡ second
  pub solution : (top bytes : List ℕ) (spec : Spec) → HasDesign top bytes spec → HasOneSolution spec
  pub refusals : (top bytes : List ℕ) (first second : Refusal) → IsRefused top bytes first → IsRefused top bytes second → first ≡ second
  pub apart : (top bytes : List ℕ) (spec : Spec) (refusal : Refusal) → HasDesign top bytes spec → IsRefused top bytes refusal → ⊥

pub stimulus_once : OneTrace → (spec : Spec) → HasOneSolution spec → (found : Option (List ℕ)) (v w : Verdict) (s t : List ℕ) → EndsWithStimulus spec found v s → EndsWithStimulus spec found w t → (v ≡ w) × (s ≡ t)
stimulus_once traces spec one None v w s t a b = (a.0 ∙ sym b.0, traces spec [] s t one a.1 b.1)
stimulus_once traces spec one (Some bytes) v w s t a b = (a.0 ∙ sym b.0, traces spec (stimulus_of (ports_of spec) STEP_LIMIT bytes).steps s t one a.1 b.1)

pub source_once : OneTrace → OneSource → (files : Files) (sim : Sim) (found : Option (List ℕ)) (v w : Verdict) (s t : List ℕ) → EndsWithSource files sim found v s → EndsWithSource files sim found w t → (v ≡ w) × (s ≡ t)
source_once traces one files sim None v w s t a b = (a.0 ∙ sym b.0, a.1 ∙ sym b.1)
source_once traces one files sim (Some bytes) v w s t (inl a) (inl b) =
    let same : b.0 ≡ a.0 = one.designs sim.top bytes b.0 a.0 b.1 a.1 in
    let other : EndsWithStimulus a.0 (get files sim.stimulus) w t = subst (λ spec. EndsWithStimulus spec (get files sim.stimulus) w t) same b.2 in
    stimulus_once traces a.0 (one.solution sim.top bytes a.0 a.1) (get files sim.stimulus) v w s t a.2 other
source_once traces one files sim (Some bytes) v w s t (inl a) (inr b) = absurd (one.apart sim.top bytes a.0 b.0 a.1 b.1)
source_once traces one files sim (Some bytes) v w s t (inr a) (inl b) = absurd (one.apart sim.top bytes b.0 a.0 b.1 a.1)
source_once traces one files sim (Some bytes) v w s t (inr a) (inr b) =
    (a.2 ∙ ap (SourceRefused sim.file) (one.refusals sim.top bytes a.0 b.0 a.1 b.1) ∙ sym b.2, a.3 ∙ sym b.3)

pub words_once : OneTrace → OneSource → (files : Files) (meaning : Result Sim Misuse) (v w : Verdict) (s t : List ℕ) → EndsWithWords files meaning v s → EndsWithWords files meaning w t → (v ≡ w) × (s ≡ t)
words_once traces one files (Ok sim) v w s t a b = source_once traces one files sim (get files sim.file) v w s t a b
words_once traces one files (Err misuse) v w s t a b = (a.0 ∙ sym b.0, a.1 ∙ sym b.1)

pub end_once : OneTrace → OneSource → OneEnd
end_once traces one files words v w s t a b = words_once traces one files (meaning_of words) v w s t a b

pub outcome_once : OneEnd → (files : Files) (words : List (List ℕ)) (first second : Outcome) → IsOutcome files words first → IsOutcome files words second → first ≡ second
outcome_once end files words first second a b =
    let same : (a.verdict ≡ b.verdict) × (first.out ≡ second.out) = end files words a.verdict b.verdict first.out second.out a.ends b.ends in
    let status : first.status ≡ second.status = a.status ∙ ap status_of same.0 ∙ sym b.status in
    let err : first.err ≡ second.err = a.message ∙ ap message_of same.0 ∙ sym b.message in
    λ i. record { status = status i; out = same.1 i; err = err i }
