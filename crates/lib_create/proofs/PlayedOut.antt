-- How a run of a design ends, by what was played of its stimulus.
use Rattle.std.proofs.Common.{◌≡◌, ℕ, ◌+◌, ◌<◌, List, [], ◌∷◌, ◌++◌, length, take, refl, sym, ◌∙◌, ap, subst, Bool, true, false, Option, None, Some, Result, Ok, Err, inl, inr, ◌⊎◌}
use Rattle.std.specs.Prelude.{IfSome, unwrap_or, is_some, drop}
use Rattle.std.specs.List.{AllByRecursion}
use Rattle.std.specs.FinMap.{get}
use Rattle.std.proofs.lemmas.List.{append-nil}
use Rattle.std.proofs.Math.Seq.{take-append-add}
use Rattle.io_edge.specs.File.{Files, rest_of}
use Rattle.io_edge.specs.Told.{Added, AddedFront, Took, IsAtEnd, added_front}
use Rattle.sv_base.specs.declared.face.Port.{Port}
use Rattle.sv_base.specs.Steps.{Step, StepFits}
use Rattle.sv_base.specs.Runs.{Runs}
use Rattle.sv_base.specs.TraceText.{trace_text}
use Rattle.sv_base.specs.Meaning.{State, Held, Meaning, Plays}
use Rattle.net_ir.specs.declared.design.Spec.{Spec}
use Rattle.net_ir.specs.Face.{ports_of}
use Rattle.net_ir.specs.Run.{start}
use Rattle.net_ir.specs.Stepping.{Follows}
use Rattle.net_ir.specs.Trace.{Shows, IsTrace}
use Rattle.net_ir.specs.Benched.{meaning_of}
use Rattle.std.specs.declared.alloc.Global.{Global}
use Rattle.std.specs.declared.vec.Vec.{Vec}
use Rattle.stimulus_reader.specs.declared.reason.Reason.{Reason}
use Rattle.stimulus_reader.specs.Stimulus.{BadLine, Stimulus, stimulus_of}
use Rattle.session.specs.declared.fault.PlayFault.{PlayFault}
use Rattle.session.specs.declared.fault.PlayFault.TheVariants as fault
use Rattle.session.specs.Playing.{Tells, Writes, HasPlayed, bad_line, behind_steps, text_before, text_with}
use Rattle.session.specs.declared.playing.TheConstants.{STEP_LIMIT}
use Rattle.lib_create.specs.Outcome.{Verdict, Done, StimulusAbsent, Bad, verdict_of_bad, EndsWithStimulus}
use Rattle.lib_create.specs.Answer.{HasCome}
use Rattle.lib_create.specs.code.Running.{TellsOf, PlayedOver}

-- ---- over a source that tells its bytes

tells_of : (ports : List Port) (answer : Result ℕ PlayFault) (over : Bool) (taken rest bytes : List ℕ) (made : List Step) → bytes ≡ taken ++ rest → (over ≡ true → rest ≡ []) → Tells ports STEP_LIMIT answer over taken made → TellsOf ports answer bytes made
tells_of ports (Ok steps) over taken rest bytes made is follows tells =
    let none : taken ++ rest ≡ taken = ap (λ (xs : List ℕ). taken ++ xs) (follows tells.0) ∙ append-nil taken in
    (ap (stimulus_of ports STEP_LIMIT) (is ∙ none) ∙ tells.1, tells.2)
tells_of ports (Err (fault.Stimulus line reason word)) over taken rest bytes made is follows tells = ap (stimulus_of ports STEP_LIMIT) is ∙ tells rest follows
tells_of ports (Err fault.ReadFault) over taken rest bytes made is follows tells = let later = tells rest follows in (later.0, ap (stimulus_of ports STEP_LIMIT) is ∙ later.1)
tells_of ports (Err fault.WriteFault) over taken rest bytes made is follows tells = let later = tells rest follows in (later.0, ap (stimulus_of ports STEP_LIMIT) is ∙ later.1)
tells_of ports (Err fault.NoMemory) over taken rest bytes made is follows tells = tells.1

over_bytes : (meaning : Meaning) (answer : Result ℕ PlayFault) (bytes taken : List ℕ) (left : Option (List ℕ)) (held : Held) (before after : Option (List ℕ)) →
    Took (Some bytes) left taken → HasPlayed meaning STEP_LIMIT answer taken left held before after → PlayedOver meaning answer bytes before after
over_bytes meaning answer bytes taken left held before after took played =
    record {
      made = played.made;
      fitting = played.fitting;
      tells = tells_of meaning.ports answer played.over taken took.0 bytes played.made took.1 (λ over. subst IsAtEnd took.2 (played.seen over)) played.tells;
      shown = played.shown;
      row = played.row;
      last = played.last;
      run = played.run;
      writes = played.writes;
    }

-- so over the bytes of a name of a folder
pub over_folder : (content : Option Files) (name : List ℕ) (meaning : Meaning) (answer : Result ℕ PlayFault) (left : Option (List ℕ)) (held : Held) (before after : Option (List ℕ)) →
    (taken : List ℕ) × Took (rest_of content name 0) left taken × HasPlayed meaning STEP_LIMIT answer taken left held before after →
    IfSome content (λ files. PlayedOver meaning answer (unwrap_or (get files name) []) before after)
over_folder None name meaning answer left held before after played = tt
over_folder (Some files) name meaning answer left held before after played =
    over_bytes meaning answer (unwrap_or (get files name) []) played.0 left held before after played.1 played.2

-- ---- what was written of a design's trace

-- the run of a bench of a design is a run of the design
abbrev pub Benched : Spec → Type 0
Benched spec = (steps : List Step) (rows : List (List ℕ)) (last : State) → AllByRecursion (StepFits (ports_of spec)) steps → Plays (meaning_of spec) steps rows last → Runs (Shows spec) (Follows spec) (start spec) steps rows last

abbrev pub TextOfRows : Type 0
TextOfRows = (ports : List Port) (shown : List (List ℕ)) (row : List ℕ) → trace_text ports (shown ++ row ∷ []) ≡ text_before ports shown ++ text_with ports shown row

trace_made : (spec : Spec) → Benched spec → (made : List Step) (rows : List (List ℕ)) (last : State) → AllByRecursion (StepFits (ports_of spec)) made → Plays (meaning_of spec) made rows last → IsTrace spec made (trace_text (ports_of spec) rows)
trace_made spec benched made rows last fitting run = record { rows = rows; last = last; run = benched made rows last fitting run; text = refl }

-- the run of a design over these bytes, whatever its bench was called by
abbrev pub Over : Spec → Result ℕ PlayFault → List ℕ → Option (List ℕ) → Option (List ℕ) → Type 0
Over spec answer bytes before after = PlayedOver (meaning_of spec) answer bytes before after

whole_text : (spec : Spec) → Benched spec → TextOfRows → (answer : Result ℕ PlayFault) (bytes : List ℕ) (before after : Option (List ℕ)) (played : Over spec answer bytes before after) →
    Added before after (text_before (ports_of spec) played.shown ++ text_with (ports_of spec) played.shown played.row) → (trace : List ℕ) × IsTrace spec played.made trace × Added before after trace
whole_text spec benched texts answer bytes before after played added = (
  trace_text (ports_of spec) (played.shown ++ played.row ∷ []),
  trace_made spec benched played.made (played.shown ++ played.row ∷ []) played.last played.fitting played.run,
  subst (λ text. Added before after text) (sym (texts (ports_of spec) played.shown played.row)) added,
)

-- the run ended so, and its trace was added
abbrev pub Ended : Spec → Option (List ℕ) → Verdict → Option (List ℕ) → Option (List ℕ) → Type 0
Ended spec found verdict before after = (trace : List ℕ) × EndsWithStimulus spec found verdict trace × Added before after trace

-- all steps of the stimulus were made, and this is its bad line or none
record HasAll (spec : Spec) (bytes : List ℕ) (bad : Option BadLine) (before after : Option (List ℕ)) : Type 0 where
  trace : List ℕ
  is : IsTrace spec (stimulus_of (ports_of spec) STEP_LIMIT bytes).steps trace
  added : Added before after trace
  bad_is : (stimulus_of (ports_of spec) STEP_LIMIT bytes).bad ≡ bad

all_of : (spec : Spec) → Benched spec → TextOfRows → (steps : ℕ) (bytes : List ℕ) (before after : Option (List ℕ)) → Over spec (Ok steps) bytes before after → HasAll spec bytes None before after
all_of spec benched texts steps bytes before after played =
    let whole = whole_text spec benched texts (Ok steps) bytes before after played played.writes in
    record {
      trace = whole.0;
      is = subst (λ xs. IsTrace spec xs whole.0) (sym (ap (λ (s : Stimulus). s.steps) played.tells.0)) whole.1;
      added = whole.2;
      bad_is = ap (λ (s : Stimulus). s.bad) played.tells.0;
    }

all_to_bad : (spec : Spec) → Benched spec → TextOfRows → (f : PlayFault) (bytes : List ℕ) (before after : Option (List ℕ)) (bad : BadLine) → Over spec (Err f) bytes before after →
    ((played : Over spec (Err f) bytes before after) → (stimulus_of (ports_of spec) STEP_LIMIT bytes ≡ record { steps = played.made; bad = Some bad }) × Added before after (text_before (ports_of spec) played.shown ++ text_with (ports_of spec) played.shown played.row)) →
    HasAll spec bytes (Some bad) before after
all_to_bad spec benched texts f bytes before after bad played says =
    let said = says played in
    let whole = whole_text spec benched texts (Err f) bytes before after played said.1 in
    record {
      trace = whole.0;
      is = subst (λ xs. IsTrace spec xs whole.0) (sym (ap (λ (s : Stimulus). s.steps) said.0)) whole.1;
      added = whole.2;
      bad_is = ap (λ (s : Stimulus). s.bad) said.0;
    }

-- ---- by what the name holds

ends_absent : (spec : Spec) (found : Option (List ℕ)) (before after : Option (List ℕ)) → false ≡ is_some found → HasAll spec (unwrap_or found []) None before after → Ended spec found StimulusAbsent before after
ends_absent spec None before after is all = (all.trace, (refl, all.is), all.added)
ends_absent spec (Some bytes) before after is all = absurd (cc)

ends_done : (spec : Spec) (found : Option (List ℕ)) (before after : Option (List ℕ)) → true ≡ is_some found → HasAll spec (unwrap_or found []) None before after → Ended spec found Done before after
ends_done spec None before after is all = absurd (cc)
ends_done spec (Some bytes) before after is all = (all.trace, (ap verdict_of_bad (sym all.bad_is), all.is), all.added)

ends_bad : (spec : Spec) (found : Option (List ℕ)) (bad : BadLine) (before after : Option (List ℕ)) → HasAll spec (unwrap_or found []) (Some bad) before after → Ended spec found (Bad bad) before after
ends_bad spec None bad before after all = let clash : None ≡ Some bad = all.bad_is in absurd (cc)
ends_bad spec (Some bytes) bad before after all = (all.trace, (ap verdict_of_bad (sym all.bad_is), all.is), all.added)

-- a stimulus that isn't there has no step
done_by_steps : (spec : Spec) → Benched spec → TextOfRows → (found : Option (List ℕ)) (steps : ℕ) (before after : Option (List ℕ)) → (steps ≡ 0 → ⊥) → Over spec (Ok steps) (unwrap_or found []) before after → Ended spec found Done before after
done_by_steps spec benched texts None steps before after some played =
    absurd (some (played.tells.1 ∙ ap length (sym (ap (λ (s : Stimulus). s.steps) played.tells.0))))
done_by_steps spec benched texts (Some bytes) steps before after some played = ends_done spec (Some bytes) before after refl (all_of spec benched texts steps bytes before after played)

-- ---- by the folder

-- the bench was made of this design
pub by_design : (content : Option Files) (name : List ℕ) (design spec : Spec) (answer : Result ℕ PlayFault) (before after : Option (List ℕ)) → design ≡ spec →
    IfSome content (λ files. PlayedOver (meaning_of design) answer (unwrap_or (get files name) []) before after) → IfSome content (λ files. Over spec answer (unwrap_or (get files name) []) before after)
by_design content name design spec answer before after same played =
    subst (λ (s : Spec). IfSome content (λ files. PlayedOver (meaning_of s) answer (unwrap_or (get files name) []) before after)) same played

-- and it answered this fault
pub by_fault : (content : Option Files) (name : List ℕ) (spec : Spec) (told is : PlayFault) (before after : Option (List ℕ)) → told ≡ is →
    IfSome content (λ files. PlayedOver (meaning_of spec) (Err told) (unwrap_or (get files name) []) before after) → IfSome content (λ files. PlayedOver (meaning_of spec) (Err is) (unwrap_or (get files name) []) before after)
by_fault content name spec told is before after same played =
    subst (λ f. IfSome content (λ files. PlayedOver (meaning_of spec) (Err f) (unwrap_or (get files name) []) before after)) same played

pub absent_told : (content later : Option Files) (name : List ℕ) (spec : Spec) (steps : ℕ) (before after : Option (List ℕ)) → Benched spec → TextOfRows → later ≡ content →
    IfSome content (λ files. Over spec (Ok steps) (unwrap_or (get files name) []) before after) → IfSome later (λ files. false ≡ is_some (get files name)) → IfSome content (λ files. Ended spec (get files name) StimulusAbsent before after)
absent_told None later name spec steps before after benched texts unchanged played none = tt
absent_told (Some files) later name spec steps before after benched texts unchanged played none =
    ends_absent spec (get files name) before after
    (subst (λ told. IfSome told (λ fs. false ≡ is_some (get fs name))) unchanged none)
    (all_of spec benched texts steps (unwrap_or (get files name) []) before after played)

pub done_told : (content later : Option Files) (name : List ℕ) (spec : Spec) (steps : ℕ) (before after : Option (List ℕ)) → Benched spec → TextOfRows → later ≡ content →
    IfSome content (λ files. Over spec (Ok steps) (unwrap_or (get files name) []) before after) → IfSome later (λ files. true ≡ is_some (get files name)) → IfSome content (λ files. Ended spec (get files name) Done before after)
done_told None later name spec steps before after benched texts unchanged played some = tt
done_told (Some files) later name spec steps before after benched texts unchanged played some =
    ends_done spec (get files name) before after
    (subst (λ told. IfSome told (λ fs. true ≡ is_some (get fs name))) unchanged some)
    (all_of spec benched texts steps (unwrap_or (get files name) []) before after played)

pub steps_told : (content : Option Files) (name : List ℕ) (spec : Spec) (steps : ℕ) (before after : Option (List ℕ)) → Benched spec → TextOfRows → (steps ≡ 0 → ⊥) →
    IfSome content (λ files. Over spec (Ok steps) (unwrap_or (get files name) []) before after) → IfSome content (λ files. Ended spec (get files name) Done before after)
steps_told None name spec steps before after benched texts some played = tt
steps_told (Some files) name spec steps before after benched texts some played = done_by_steps spec benched texts (get files name) steps before after some played

pub bad_told : (content : Option Files) (name : List ℕ) (spec : Spec) (line : ℕ) (reason : Reason) (word : Vec ℕ Global) (before after : Option (List ℕ)) → Benched spec → TextOfRows →
    IfSome content (λ files. Over spec (Err (fault.Stimulus line reason word)) (unwrap_or (get files name) []) before after) → IfSome content (λ files. Ended spec (get files name) (Bad (bad_line line reason word.items)) before after)
bad_told None name spec line reason word before after benched texts played = tt
bad_told (Some files) name spec line reason word before after benched texts played =
    ends_bad spec (get files name) (bad_line line reason word.items) before after
    (all_to_bad spec benched texts (fault.Stimulus line reason word) (unwrap_or (get files name) []) before after (bad_line line reason word.items) played (λ p. (p.tells, p.writes)))

-- ---- cut short

-- the whole trace was added, and then a read failed
pub whole_cut : (content : Option Files) (name : List ℕ) (spec : Spec) (steps : ℕ) (before after : Option (List ℕ)) → Benched spec → TextOfRows →
    IfSome content (λ files. Over spec (Ok steps) (unwrap_or (get files name) []) before after) → IfSome content (λ files. Added before after [] ⊎ HasCome spec (get files name) before after)
whole_cut None name spec steps before after benched texts played = tt
whole_cut (Some files) name spec steps before after benched texts played =
    let whole = whole_text spec benched texts (Ok steps) (unwrap_or (get files name) []) before after played played.writes in
    inr (record {
      made = played.made;
      later = record { steps = []; bad = None };
      first = played.tells.0 ∙ ap (λ steps. record { steps = steps; bad = None }) (sym (append-nil played.made));
      due = whole.0;
      trace = whole.1;
      added = added_front before after whole.0 whole.2;
    })

pub read_cut : (content : Option Files) (name : List ℕ) (spec : Spec) (before after : Option (List ℕ)) → Benched spec → TextOfRows →
    IfSome content (λ files. Over spec (Err fault.ReadFault) (unwrap_or (get files name) []) before after) → IfSome content (λ files. Added before after [] ⊎ HasCome spec (get files name) before after)
read_cut None name spec before after benched texts played = tt
read_cut (Some files) name spec before after benched texts played =
    let whole = whole_text spec benched texts (Err fault.ReadFault) (unwrap_or (get files name) []) before after played played.writes in
    inr (record {
      made = played.made;
      later = played.tells.0;
      first = played.tells.1;
      due = whole.0;
      trace = whole.1;
      added = added_front before after whole.0 whole.2;
    })

pub write_cut : (content : Option Files) (name : List ℕ) (spec : Spec) (before after : Option (List ℕ)) → Benched spec → TextOfRows →
    IfSome content (λ files. Over spec (Err fault.WriteFault) (unwrap_or (get files name) []) before after) → IfSome content (λ files. Added before after [] ⊎ HasCome spec (get files name) before after)
write_cut None name spec before after benched texts played = tt
write_cut (Some files) name spec before after benched texts played =
    let due = text_before (ports_of spec) played.shown in
    let offered = text_with (ports_of spec) played.shown played.row in
    let n = played.writes.0 in
    let front : Added before after (take (length due + n) (due ++ offered)) = subst (λ text. Added before after text) (sym (take-append-add due offered n)) played.writes.2 in
    inr (record {
      made = played.made;
      later = played.tells.0;
      first = played.tells.1;
      due = trace_text (ports_of spec) (played.shown ++ played.row ∷ []);
      trace = trace_made spec benched played.made (played.shown ++ played.row ∷ []) played.last played.fitting played.run;
      added = (length due + n, subst (λ text. Added before after (take (length due + n) text)) (sym (texts (ports_of spec) played.shown played.row)) front);
    })

pub memory_cut : (content : Option Files) (name : List ℕ) (spec : Spec) (before after : Option (List ℕ)) →
    IfSome content (λ files. Over spec (Err fault.NoMemory) (unwrap_or (get files name) []) before after) → IfSome content (λ files. Added before after [] ⊎ HasCome spec (get files name) before after)
memory_cut None name spec before after played = tt
memory_cut (Some files) name spec before after played = inl played.writes
