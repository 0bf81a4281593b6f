-- What the program answers, from how its run ended and how that was told.
use Rattle.std.proofs.Common.{◌≡◌, ℕ, ◌<◌, ◌≤◌, List, [], Option, None, Some, Result, Ok, Err, ◌⊎◌, ⊎_elim, inl, inr, refl, sym, ◌∙◌, ap, subst, arith}
use Rattle.std.specs.Prelude.{IfSome}
use Rattle.std.specs.FinMap.{get}
use Rattle.std.proofs.lemmas.Bool.{cases_lt}
use Rattle.std.proofs.lemmas.List.{append-nil}
use Rattle.io_edge.specs.File.{Files}
use Rattle.io_edge.specs.Fault.{Rose}
use Rattle.io_edge.specs.Told.{Added, AddedFront, added_front}
use Rattle.net_ir.specs.declared.design.Spec.{Spec}
use Rattle.net_ir.specs.Face.{ports_of}
use Rattle.stimulus_reader.specs.Stimulus.{stimulus_of}
use Rattle.lib_create.specs.declared.stop.Stop.{Stop}
use Rattle.lib_create.specs.declared.stop.Stop.TheVariants.{ReadFault, WriteFault, NoMemory}
use Rattle.sealer.specs.Source.{HasDesign}
use Rattle.lib_create.specs.Command.{Sim, Misuse, meaning_of}
use Rattle.session.specs.declared.playing.TheConstants.{STEP_LIMIT}
use Rattle.lib_create.specs.Outcome.{Verdict, Done, Misused, SourceAbsent, SourceRefused, StimulusAbsent, Bad, status_of, message_of, verdict_of_bad, EndsWithStimulus, EndsWithSource, EndsWithWords, Ends, Outcome, IsOutcome}
use Rattle.lib_create.specs.code.Running.{IsPlayCause}
use Rattle.lib_create.specs.Answer.{read_fault, write_fault, no_memory, Answered, HasCome, CutShort, NothingDue, InTrace, OfOutcome, OfWrite, OfRead, OfMemory, CutMessage, IsGood}
use Rattle.lib_create.specs.code.Telling.{ToldAs, stop_status, stop_text}
use Rattle.lib_create.proofs.Ending.{OneSource}

-- what holds for all files holds for those that a folder tells
pub where_told : (content : Option Files) (P : Files → Type 0) → ((files : Files) → P files) → IfSome content P
where_told None P all = tt
where_told (Some files) P all = all files

-- ---- a run that was cut short

-- what was told where the answer is 8: a front of the message
told_front : (answer status : ℕ) (failed : Type 0) (before after : Option (List ℕ)) (text : List ℕ) → (status ≡ 8 → ⊥) → ToldAs answer status failed before after text → answer ≡ 8 → AddedFront before after text
told_front answer status failed before after text other (inl told) eight = absurd (other (sym told.0 ∙ eight))
told_front answer status failed before after text other (inr told) eight = told.2

-- that of a write that failed is told whole, or a front of it is
told_write : (answer : ℕ) (failed : Type 0) (before after : Option (List ℕ)) → ToldAs answer 8 failed before after write_fault → AddedFront before after write_fault
told_write answer failed before after (inl told) = added_front before after write_fault told.1
told_write answer failed before after (inr told) = told.2

pub stop_message : (stop : Stop) (answer : ℕ) (failed more : Type 0) (reads_before reads_now writes_before writes_now : ℕ) (before after : Option (List ℕ)) →
    IsPlayCause stop reads_before reads_now writes_before writes_now → ToldAs answer (stop_status stop) failed before after (stop_text stop) → answer ≡ 8 →
    (files : Files) (words : List (List ℕ)) → CutMessage files words (Rose writes_before writes_now ⊎ more) (Rose reads_before reads_now) before after
stop_message ReadFault answer failed more rb rn wb wn before after cause told eight = λ files words.
    record { message = read_fault; due = OfRead cause refl; added = told_front answer 7 failed before after read_fault (λ e. absurd (omega (arith, e))) told eight }
stop_message WriteFault answer failed more rb rn wb wn before after cause told eight = λ files words.
    record { message = write_fault; due = OfWrite (inl cause) refl; added = told_write answer failed before after told }
stop_message NoMemory answer failed more rb rn wb wn before after cause told eight = λ files words.
    record { message = no_memory; due = OfMemory refl; added = told_front answer 9 failed before after no_memory (λ e. absurd (omega (arith, e))) told eight }

-- ---- a run that came to its end

-- the run ended so, and its trace was added
abbrev pub Gave : Files → List (List ℕ) → Verdict → Option (List ℕ) → Option (List ℕ) → Type 0
Gave files words verdict before after = (trace : List ℕ) × Ends files words verdict trace × Added before after trace

-- its message was told, or memory for the message ran out
abbrev pub Reported : ℕ → Verdict → Type 0 → Option (List ℕ) → Option (List ℕ) → Type 0
Reported answer verdict failed before after =
    ToldAs answer (status_of verdict) failed before after (message_of verdict) ⊎ ToldAs answer 9 failed before after no_memory

status_small : (verdict : Verdict) → status_of verdict ≤ 5
status_small Done = omega arith
status_small (Misused misuse) = omega arith
status_small (SourceAbsent file) = omega arith
status_small (SourceRefused file refusal) = omega arith
status_small StimulusAbsent = omega arith
status_small (Bad bad) = omega arith

-- the outcome with this verdict
gave_outcome : (files : Files) (words : List (List ℕ)) (verdict : Verdict) (trace : List ℕ) → Ends files words verdict trace → IsOutcome files words (record { status = status_of verdict; out = trace; err = message_of verdict })
gave_outcome files words verdict trace ends = record { verdict = verdict; ends = ends; status = refl; message = refl }

pub end_answered : (content : Option Files) (words : List (List ℕ)) (verdict : Verdict) (answer : ℕ) (failed : Type 0) (out_before out_after err_before err_after : Option (List ℕ)) →
    IfSome content (λ files. Gave files words verdict out_before out_after) → Reported answer verdict failed err_before err_after → answer ≤ 6 → IfSome content (λ files. Answered files words answer out_before out_after err_before err_after)
end_answered None words verdict answer failed ob oa eb ea gave told small = tt
end_answered (Some files) words verdict answer failed ob oa eb ea gave (inl (inl told)) small =
    record {
      outcome = record { status = status_of verdict; out = gave.0; err = message_of verdict };
      is = gave_outcome files words verdict gave.0 gave.1;
      answer = told.0;
      out = gave.2;
      err = told.1;
    }
end_answered (Some files) words verdict answer failed ob oa eb ea gave (inl (inr told)) small = absurd (omega (arith, told.0, small))
end_answered (Some files) words verdict answer failed ob oa eb ea gave (inr (inl told)) small = absurd (omega (arith, told.0, small))
end_answered (Some files) words verdict answer failed ob oa eb ea gave (inr (inr told)) small = absurd (omega (arith, told.0, small))

-- ---- where it stood

come_of : (spec : Spec) (found : Option (List ℕ)) (verdict : Verdict) (trace : List ℕ) (before after : Option (List ℕ)) → EndsWithStimulus spec found verdict trace → Added before after trace → HasCome spec found before after
come_of spec None verdict trace before after ends added =
    record { made = []; later = stimulus_of (ports_of spec) STEP_LIMIT []; first = refl; due = trace; trace = ends.1; added = added_front before after trace added }
come_of spec (Some bytes) verdict trace before after ends added =
    let whole = stimulus_of (ports_of spec) STEP_LIMIT bytes in
    record {
      made = whole.steps;
      later = record { steps = []; bad = whole.bad };
      first = ap (λ steps. record { steps = steps; bad = whole.bad }) (sym (append-nil whole.steps));
      due = trace;
      trace = ends.1;
      added = added_front before after trace added;
    }

cut_by_source : (files : Files) (words : List (List ℕ)) (sim : Sim) (held : Option (List ℕ)) (verdict : Verdict) (trace : List ℕ) (before after : Option (List ℕ)) → meaning_of words ≡ Ok sim → get files sim.file ≡ held →
    EndsWithSource files sim held verdict trace → Added before after trace → CutShort files words before after
cut_by_source files words sim None verdict trace before after said there ends added = NothingDue (subst (λ xs. Added before after xs) ends.1 added)
cut_by_source files words sim (Some bytes) verdict trace before after said there (inl (spec, source, ends)) added =
    InTrace sim said bytes there spec source (come_of spec (get files sim.stimulus) verdict trace before after ends added)
cut_by_source files words sim (Some bytes) verdict trace before after said there (inr (refusal, refused, is, empty)) added = NothingDue (subst (λ xs. Added before after xs) empty added)

cut_by_words : (files : Files) (words : List (List ℕ)) (meaning : Result Sim Misuse) (verdict : Verdict) (trace : List ℕ) (before after : Option (List ℕ)) → meaning_of words ≡ meaning →
    EndsWithWords files meaning verdict trace → Added before after trace → CutShort files words before after
cut_by_words files words (Ok sim) verdict trace before after said ends added = cut_by_source files words sim (get files sim.file) verdict trace before after said refl ends added
cut_by_words files words (Err misuse) verdict trace before after said ends added = NothingDue (subst (λ xs. Added before after xs) ends.1 added)

pub end_cut : (content : Option Files) (words : List (List ℕ)) (verdict : Verdict) (before after : Option (List ℕ)) → IfSome content (λ files. Gave files words verdict before after) → IfSome content (λ files. CutShort files words before after)
end_cut None words verdict before after gave = tt
end_cut (Some files) words verdict before after gave = cut_by_words files words (meaning_of words) verdict gave.0 before after refl gave.1 gave.2

pub end_message : (content : Option Files) (words : List (List ℕ)) (verdict : Verdict) (answer : ℕ) (failed wrote read : Type 0) (out_before out_after before after : Option (List ℕ)) →
    IfSome content (λ files. Gave files words verdict out_before out_after) → Reported answer verdict failed before after → answer ≡ 8 → IfSome content (λ files. CutMessage files words wrote read before after)
end_message None words verdict answer failed wrote read ob oa before after gave told eight = tt
end_message (Some files) words verdict answer failed wrote read ob oa before after gave (inl told) eight =
    record {
      message = message_of verdict;
      due = OfOutcome (record { status = status_of verdict; out = gave.0; err = message_of verdict }) (gave_outcome files words verdict gave.0 gave.1) refl;
      added = told_front answer (status_of verdict) failed before after (message_of verdict) (λ e. absurd (omega (arith, e, status_small verdict))) told eight;
    }
end_message (Some files) words verdict answer failed wrote read ob oa before after gave (inr told) eight =
    record { message = no_memory; due = OfMemory refl; added = told_front answer 9 failed before after no_memory (λ e. absurd (omega (arith, e))) told eight }

-- ---- completeness

-- where standard error did not fail the answer is the outcome's, or memory for the message ran out
whole_or_nine : (verdict : Verdict) (answer : ℕ) (failed : Type 0) (before after : Option (List ℕ)) → Reported answer verdict failed before after → (failed → ⊥) → (answer ≤ 6) ⊎ (answer ≡ 9)
whole_or_nine verdict answer failed before after (inl (inl told)) none = inl (omega (arith, told.0, status_small verdict))
whole_or_nine verdict answer failed before after (inl (inr told)) none = absurd (none told.1)
whole_or_nine verdict answer failed before after (inr (inl told)) none = inr told.0
whole_or_nine verdict answer failed before after (inr (inr told)) none = absurd (none told.1)

completed : (content : Option Files) (words : List (List ℕ)) (answer : ℕ) (out_before out_after err_before err_after : Option (List ℕ)) → (answer ≤ 6) ⊎ (answer ≡ 9) →
    (answer ≤ 6 → IfSome content (λ files. Answered files words answer out_before out_after err_before err_after)) → IfSome content (λ files. Answered files words answer out_before out_after err_before err_after ⊎ (answer ≡ 9))
completed None words answer ob oa eb ea either answered = tt
completed (Some files) words answer ob oa eb ea (inl low) answered = inl (answered low)
completed (Some files) words answer ob oa eb ea (inr nine) answered = inr nine

pub end_complete : (content : Option Files) (words : List (List ℕ)) (verdict : Verdict) (answer : ℕ) (failed : Type 0) (out_before out_after err_before err_after : Option (List ℕ)) →
    IfSome content (λ files. Gave files words verdict out_before out_after) → Reported answer verdict failed err_before err_after → (failed → ⊥) →
    IfSome content (λ files. Answered files words answer out_before out_after err_before err_after ⊎ (answer ≡ 9))
end_complete content words verdict answer failed ob oa eb ea gave told none =
    completed content words answer ob oa eb ea (whole_or_nine verdict answer failed eb ea told none)
    (end_answered content words verdict answer failed ob oa eb ea gave told)

-- a good run ends with 0
good_stimulus : (spec : Spec) (found : Option (List ℕ)) (bytes : List ℕ) (verdict : Verdict) (trace : List ℕ) → found ≡ Some bytes → (stimulus_of (ports_of spec) STEP_LIMIT bytes).bad ≡ None → EndsWithStimulus spec found verdict trace → status_of verdict ≡ 0
good_stimulus spec found bytes verdict trace there good ends =
    let here = subst (λ f. EndsWithStimulus spec f verdict trace) there ends in
    ap status_of (here.0 ∙ ap verdict_of_bad good)

good_source : OneSource → (files : Files) (sim : Sim) (bytes : List ℕ) (spec : Spec) (verdict : Verdict) (trace : List ℕ) (stimulus : List ℕ) → HasDesign sim.top bytes spec → get files sim.stimulus ≡ Some stimulus →
    (stimulus_of (ports_of spec) STEP_LIMIT stimulus).bad ≡ None → EndsWithSource files sim (Some bytes) verdict trace → status_of verdict ≡ 0
good_source one files sim bytes spec verdict trace stimulus source there good (inl (other, found, ends)) =
    let same : other ≡ spec = one.designs sim.top bytes other spec found source in
    good_stimulus spec (get files sim.stimulus) stimulus verdict trace there good (subst (λ s. EndsWithStimulus s (get files sim.stimulus) verdict trace) same ends)
good_source one files sim bytes spec verdict trace stimulus source there good (inr (refusal, refused, told, empty)) = absurd (one.apart sim.top bytes spec refusal source refused)

good_ends : OneSource → (files : Files) (words : List (List ℕ)) (verdict : Verdict) (trace : List ℕ) → IsGood files words → Ends files words verdict trace → status_of verdict ≡ 0
good_ends one files words verdict trace good ends =
    let by_words : EndsWithSource files good.sim (get files good.sim.file) verdict trace = subst (λ meaning. EndsWithWords files meaning verdict trace) good.said ends in
    good_source one files good.sim good.bytes good.spec verdict trace good.stimulus good.source good.stimulus_there good.good
    (subst (λ held. EndsWithSource files good.sim held verdict trace) good.there by_words)

pub succeeded : OneSource → (content : Option Files) (words : List (List ℕ)) (answer : ℕ) (out_before out_after err_before err_after : Option (List ℕ)) →
    IfSome content (λ files. Answered files words answer out_before out_after err_before err_after ⊎ (answer ≡ 9)) → IfSome content (λ files. IsGood files words → (answer ≡ 0) ⊎ (answer ≡ 9))
succeeded one None words answer ob oa eb ea done = tt
succeeded one (Some files) words answer ob oa eb ea (inl answered) = λ good.
    inl (answered.answer ∙ answered.is.status ∙ good_ends one files words answered.is.verdict answered.outcome.out good answered.is.ends)
succeeded one (Some files) words answer ob oa eb ea (inr nine) = λ good. inr nine
