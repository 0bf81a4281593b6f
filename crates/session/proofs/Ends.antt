-- How a run ends.
use Rattle.std.proofs.Common.{◌≡◌, ℕ, suc, ◌+◌, ◌-◌, ◌<◌, ◌≤◌, Bool, true, false, not, ◌&&◌, List, [], ◌++◌, length, take, ⊎_elim, Option, None, Some, Ok}
use Rattle.std.proofs.Common.{Err, refl, sym, ◌∙◌, ap, subst, append_assoc, arith}
use Rattle.std.specs.Prelude.{◌==◌, if◌then◌else◌}
use Rattle.std.proofs.lemmas.List.{append-nil}
use Rattle.std.proofs.lemmas.Bool.{false≢true, eqb-true, eq-eqb, cases_lt}
use Rattle.io_edge.specs.Told.{Added, AddedShort, Took, added_nothing, added_both, took_both, took_nothing}
use Rattle.sv_base.specs.declared.face.Port.{Port}
use Rattle.sv_base.specs.Steps.{Step, Values, Clocks}
use Rattle.sv_base.specs.TraceText.{header, line}
use Rattle.sv_base.specs.Meaning.{State, Held, Meaning, MeansSame, StepsTo, held_in, first_state, row_of, widths_of_class}
use Rattle.sv_base.specs.Classes.{is_output, is_clock, words_of_class}
use Rattle.stimulus_reader.specs.declared.reason.Reason.{Reason}
use Rattle.stimulus_reader.specs.declared.reason.Reason.TheVariants.{TooManySteps}
use Rattle.stimulus_reader.specs.declared.step.StepKind.{StepKind}
use Rattle.stimulus_reader.specs.Stimulus.{BadLine, stimulus_of, stopped, step_of}
use Rattle.stimulus_reader.specs.Reading.{Reading, at_front, stimulus_left, MayFollow, KeepsEnd, SawEnd, IsStep, IsEnd, IsBad, IsInterrupted, may_follow}
use Rattle.stimulus_reader.specs.Reading.{passes_limit, bad_without_steps, word_of}
use Rattle.session.specs.declared.fault.PlayFault.{PlayFault}
use Rattle.session.specs.declared.fault.PlayFault.TheVariants.{Stimulus, ReadFault, WriteFault, NoMemory}
use Rattle.session.specs.Playing.{behind_steps, bad_line, EndIn, Tells, text_before, text_with, Writes, HasPlayed, IsRefusedAs}
use Rattle.session.proofs.Underway.{IsUnderway, HasStepped, Makes, shows_row, has_stepped}

-- ---- at the end of the source

pub played_out : (meaning : Meaning) (most : ℕ) (start_left before : Option (List ℕ)) (number : ℕ) (reader after_reader : Reading) (held : Held)
    (left left' after : Option (List ℕ)) (taken : List ℕ) →
    IsUnderway meaning most start_left before number reader held left after → Took left left' taken → (SawEnd reader left → SawEnd after_reader left') →
    IsEnd reader after_reader taken →
    (all : List ℕ) × Took start_left left' all × HasPlayed meaning most (Ok number) all left' held before after
played_out meaning most start_left before number reader after_reader held left left' after taken far took sees ends =
    let follows : MayFollow reader taken = λ over. (ends.ends over).0 in (
      far.taken ++ taken,
      took_both start_left left left' far.taken taken far.took took,
      record {
        over = true;
        seen = λ _. sees far.seen ends.over;
        made = far.made;
        fitting = far.fitting;
        tells = (
          refl,
          far.comes taken follows ∙ ap (behind_steps far.made) (ends.ended_there (most - number))
              ∙ ap (λ steps. record { steps = steps; bad = None }) (append-nil far.made),
          sym far.count,
        );
        shown = far.shown;
        row = far.row;
        last = far.last;
        run = far.run;
        stands = far.stands;
        writes = far.added;
      },
    )

-- ---- at a bad line

refused_tells : (fault : PlayFault) (ports : List Port) (most : ℕ) (over : Bool) (taken : List ℕ) (made : List Step) (number : ℕ) (reason : Reason)
    (word : List ℕ) →
    IsRefusedAs fault number reason word → EndIn ports most over taken made (bad_line number reason word) → Tells ports most (Err fault) over taken made
refused_tells (Stimulus l r w) ports most over taken made number reason word refused ends = λ rest follows.
    ends rest follows
    ∙ sym (ap (λ n. record { steps = made; bad = Some (bad_line n r w.items) }) refused.0
    ∙ ap (λ why. record { steps = made; bad = Some (bad_line number why w.items) }) refused.1
    ∙ ap (λ named. record { steps = made; bad = Some (bad_line number reason named) }) refused.2)
refused_tells ReadFault ports most over taken made number reason word refused ends = absurd refused
refused_tells WriteFault ports most over taken made number reason word refused ends = absurd refused
refused_tells NoMemory ports most over taken made number reason word refused ends = absurd refused

refused_writes : (fault : PlayFault) (before after : Option (List ℕ)) (due offered : List ℕ) (number : ℕ) (reason : Reason) (word : List ℕ) →
    IsRefusedAs fault number reason word → Added before after (due ++ offered) → Writes (Err fault) before after due offered
refused_writes (Stimulus l r w) before after due offered number reason word refused added = added
refused_writes ReadFault before after due offered number reason word refused added = absurd refused
refused_writes WriteFault before after due offered number reason word refused added = absurd refused
refused_writes NoMemory before after due offered number reason word refused added = absurd refused

-- what the reader told is that its next line is bad
pub record IsRefusing (reader after_reader : Reading) (more : ℕ) (taken : List ℕ) (fault : PlayFault) : Type 0 where
  pub ends : KeepsEnd reader after_reader taken
  pub line : ℕ
  pub reason : Reason
  pub word : List ℕ
  pub refused : IsRefusedAs fault line reason word
  pub stops : (rest : List ℕ) → MayFollow after_reader rest → stimulus_left reader more (taken ++ rest) ≡ stopped line reason word

pub played_to_bad : (meaning : Meaning) (most : ℕ) (start_left before : Option (List ℕ)) (number : ℕ) (reader after_reader : Reading) (held : Held)
    (left left' after : Option (List ℕ)) (taken : List ℕ) (fault : PlayFault) →
    IsUnderway meaning most start_left before number reader held left after → Took left left' taken → (SawEnd reader left → SawEnd after_reader left') →
    IsRefusing reader after_reader (most - number) taken fault →
    (all : List ℕ) × Took start_left left' all × HasPlayed meaning most (Err fault) all left' held before after
played_to_bad meaning most start_left before number reader after_reader held left left' after taken fault far took sees bad =
    let all = far.taken ++ taken in
    let ends : EndIn meaning.ports most after_reader.over all far.made (bad_line bad.line bad.reason bad.word) = λ rest follows.
    ap (stimulus_of meaning.ports most) (append_assoc far.taken taken rest)
    ∙ far.comes (taken ++ rest) (may_follow reader after_reader taken rest bad.ends follows)
    ∙ ap (behind_steps far.made) (bad.stops rest follows)
    ∙ ap (λ steps. record { steps = steps; bad = Some (bad_line bad.line bad.reason bad.word) }) (append-nil far.made) in (
      all,
      took_both start_left left left' far.taken taken far.took took,
      record {
        over = after_reader.over;
        seen = sees far.seen;
        made = far.made;
        fitting = far.fitting;
        tells = refused_tells fault meaning.ports most after_reader.over all far.made bad.line bad.reason bad.word bad.refused ends;
        shown = far.shown;
        row = far.row;
        last = far.last;
        run = far.run;
        stands = far.stands;
        writes = refused_writes fault before after (text_before meaning.ports far.shown)
            (text_with meaning.ports far.shown far.row) bad.line bad.reason bad.word bad.refused far.added;
      },
    )

-- one step too many
pub too_many : (most number : ℕ) (reader after_reader : Reading) (of : StepKind) (taken : List ℕ) (fault : PlayFault) (line : ℕ) → number ≡ most →
    IsStep reader after_reader of taken → line ≡ after_reader.last → IsRefusedAs fault line TooManySteps [] →
    IsRefusing reader after_reader (most - number) taken fault
too_many most number reader after_reader of taken fault line full step is refused =
    let none : most - number ≡ 0 = omega arith in
    record {
      ends = step.ends;
      line = line;
      reason = TooManySteps;
      word = [];
      refused = refused;
      stops = λ rest follows. ap (λ m. stimulus_left reader m (taken ++ rest)) none ∙ step.none_left rest follows
          ∙ ap (λ n. stopped n TooManySteps []) (sym is);
    }

full_bad : (bad : BadLine) (line : ℕ) (reason : Reason) (b : Bool) (fault : PlayFault) → bad.line ≡ line → bad.reason ≡ reason → passes_limit reason ≡ b →
    ((true && not (passes_limit reason)) ≡ true → IsRefusedAs fault line TooManySteps []) →
    ((true && not (passes_limit reason)) ≡ false → IsRefusedAs fault line reason bad.word) →
    (why : Reason) × (word : List ℕ) × IsRefusedAs fault line why word × (bad_without_steps bad ≡ stopped line why word)
full_bad bad line reason true fault line_is reason_is limit many one =
    let passes : passes_limit bad.reason ≡ true = ap passes_limit reason_is ∙ limit in (
      reason,
      bad.word,
      one (ap (λ b. true && not b) limit),
      ap (λ b. if b then stopped bad.line bad.reason bad.word else stopped bad.line TooManySteps []) passes ∙ ap (λ n. stopped n bad.reason bad.word) line_is
          ∙ ap (λ r. stopped line r bad.word) reason_is,
    )
full_bad bad line reason false fault line_is reason_is limit many one =
    let passes : passes_limit bad.reason ≡ false = ap passes_limit reason_is ∙ limit in (
      TooManySteps,
      [],
      many (ap (λ b. true && not b) limit),
      ap (λ b. if b then stopped bad.line bad.reason bad.word else stopped bad.line TooManySteps []) passes ∙ ap (λ n. stopped n TooManySteps []) line_is,
    )

less : (m n : ℕ) → m ≤ n → (m ≡ n → ⊥) → m < n
less m n within apart = ⊎_elim (λ below. below) (λ above. absurd (apart (omega arith))) (cases_lt m n)

-- a bad line, or where no step more is allowed one step too many
pub at_bad : (most number : ℕ) (reader after_reader : Reading) (taken : List ℕ) (line : ℕ) (reason : Reason) (full : Bool) (fault : PlayFault) →
    full ≡ (number == most) → number ≤ most → IsBad reader after_reader line reason taken →
    ((full && not (passes_limit reason)) ≡ true → IsRefusedAs fault line TooManySteps []) →
    ((full && not (passes_limit reason)) ≡ false → IsRefusedAs fault line reason (word_of after_reader.bad)) →
    IsRefusing reader after_reader (most - number) taken fault
at_bad most number reader after_reader taken line reason true fault is few told many one =
    let at : number ≡ most = eqb-true number most (sym is) in
    let none : most - number ≡ 0 = omega arith in
    let word : word_of after_reader.bad ≡ told.bad.word = ap word_of told.told in
    let r = full_bad told.bad line reason (passes_limit reason) fault told.line_is told.reason_is refl many
    (λ limit. subst (λ w. IsRefusedAs fault line reason w) word (one limit)) in
    record {
      ends = told.ends;
      line = line;
      reason = r.0;
      word = r.1;
      refused = r.2;
      stops = λ rest follows. ap (λ m. stimulus_left reader m (taken ++ rest)) none ∙ told.none_left rest follows ∙ r.3;
    }
at_bad most number reader after_reader taken line reason false fault is few told many one =
    let apart : number ≡ most → ⊥ = λ e. false≢true (is ∙ eq-eqb number most e) in
    let below : number < most = less number most few apart in
    let more : most - number ≡ suc (most - (number + 1)) = omega arith in
    let word : word_of after_reader.bad ≡ told.bad.word = ap word_of told.told in
    record {
      ends = told.ends;
      line = line;
      reason = reason;
      word = told.bad.word;
      refused = subst (λ w. IsRefusedAs fault line reason w) word (one refl);
      stops = λ rest follows.
          ap (λ m. stimulus_left reader m (taken ++ rest)) more ∙ told.script rest follows (most - (number + 1))
          ∙ ap (λ n. stopped n told.bad.reason told.bad.word) told.line_is ∙ ap (λ r. stopped line r told.bad.word) told.reason_is;
    }

-- the same where the refusal speaks of a line and a reason that are those of the reader
pub at_bad_so : (most number : ℕ) (reader after_reader : Reading) (taken : List ℕ) (line line' : ℕ) (reason reason' : Reason) (full : Bool)
    (fault : PlayFault) → line ≡ line' → reason ≡ reason' → full ≡ (number == most) → number ≤ most →
    IsBad reader after_reader line reason taken → ((full && not (passes_limit reason')) ≡ true → IsRefusedAs fault line' TooManySteps []) →
    ((full && not (passes_limit reason')) ≡ false → IsRefusedAs fault line' reason' (word_of after_reader.bad)) →
    IsRefusing reader after_reader (most - number) taken fault
at_bad_so most number reader after_reader taken line line' reason reason' full fault same_line same_reason is few told many one =
    at_bad most number reader after_reader taken line' reason' full fault is few
    (subst (λ r. IsBad reader after_reader line' r taken) same_reason (subst (λ n. IsBad reader after_reader n reason taken) same_line told)) many one

-- ---- at a fault

pub played_to_read : (meaning : Meaning) (most : ℕ) (start_left before : Option (List ℕ)) (number : ℕ) (reader after_reader : Reading) (held : Held)
    (left left' after : Option (List ℕ)) (taken : List ℕ) →
    IsUnderway meaning most start_left before number reader held left after → Took left left' taken → (SawEnd reader left → SawEnd after_reader left') →
    IsInterrupted reader after_reader taken →
    (all : List ℕ) × Took start_left left' all × HasPlayed meaning most (Err ReadFault) all left' held before after
played_to_read meaning most start_left before number reader after_reader held left left' after taken far took sees stopped_there = (
  far.taken ++ taken,
  took_both start_left left left' far.taken taken far.took took,
  record {
    over = after_reader.over;
    seen = sees far.seen;
    made = far.made;
    fitting = far.fitting;
    tells = λ rest follows. (
      stimulus_left after_reader (most - number) rest,
      ap (stimulus_of meaning.ports most) (append_assoc far.taken taken rest)
          ∙ far.comes (taken ++ rest) (may_follow reader after_reader taken rest stopped_there.ends follows)
          ∙ ap (behind_steps far.made) (stopped_there.goes_on rest (most - number)),
    );
    shown = far.shown;
    row = far.row;
    last = far.last;
    run = far.run;
    stands = far.stands;
    writes = far.added;
  },
)

pub played_to_write : (meaning : Meaning) (most : ℕ) (start_left before : Option (List ℕ)) (number : ℕ) (reader : Reading) (held : Held)
    (left written after : Option (List ℕ)) (next : List ℕ) →
    HasStepped meaning most start_left before number reader held left written next → AddedShort written after (line number meaning.ports next) →
    (all : List ℕ) × Took start_left left all × HasPlayed meaning most (Err WriteFault) all left held before after
played_to_write meaning most start_left before number reader held left written after next far short = (
  far.taken,
  far.took,
  record {
    over = reader.over;
    seen = far.seen;
    made = far.made;
    fitting = far.fitting;
    tells = λ rest follows. (stimulus_left reader (most - number) rest, far.comes rest follows);
    shown = far.shown;
    row = next;
    last = far.last;
    run = far.run;
    stands = far.stands;
    writes = cut_short (text_with meaning.ports far.shown next) (line number meaning.ports next) far.with_line short;
  },
) where
  cut_short : (offered text : List ℕ) → offered ≡ text → AddedShort written after text →
      Writes (Err WriteFault) before after (text_before meaning.ports far.shown) offered
  cut_short offered text is cut = subst (λ (xs : List ℕ). (n : ℕ) × (n < length xs) × Added before after (text_before meaning.ports far.shown ++ take n xs))
      (sym is)
      (cut.0, cut.1, added_both before written after (text_before meaning.ports far.shown) (take cut.0 text) far.written_so cut.2)

-- ---- before the first step

-- the header and the first line were cut short
pub played_to_first : (meaning : Meaning) (most : ℕ) (ports : List Port) (left before after : Option (List ℕ)) (reader : Reading) (held : Held)
    (outputs : List ℕ) →
    ports ≡ meaning.ports → reader ≡ at_front ports → held ≡ held_in meaning.ports (first_state meaning) →
    length outputs ≡ length (widths_of_class is_output meaning.ports) → meaning.shows held outputs →
    AddedShort before after (header ports ++ line 0 ports (row_of ports reader.values outputs)) →
    (all : List ℕ) × Took left left all × HasPlayed meaning most (Err WriteFault) all left held before after
played_to_first meaning most ports left before after reader held outputs same is start each shows short =
    let values : reader.values ≡ (first_state meaning).inputs = ap (λ (r : Reading). r.values) is ∙ ap (λ ps. (at_front ps).values) same in
    let row = row_of meaning.ports reader.values outputs in (
      [],
      took_nothing left,
      record {
        over = false;
        seen = λ over. absurd (cc);
        made = [];
        fitting = tt;
        tells = λ rest follows. (stimulus_of meaning.ports most rest, refl);
        shown = [];
        row = row;
        last = first_state meaning;
        run = record {
          row = row;
          shown = shows_row meaning (first_state meaning) reader.values outputs held (sym start) values each shows;
          rows_are = refl;
          last_is = refl;
        };
        stands = sym start;
        writes = subst (λ ps. AddedShort before after (header ps ++ line 0 ps (row_of ps reader.values outputs))) same short;
      },
    )

-- there was no memory
pub played_none : (meaning : Meaning) (most : ℕ) (left before : Option (List ℕ)) (held : Held) (outputs : List ℕ) →
    held ≡ held_in meaning.ports (first_state meaning) → length outputs ≡ length (widths_of_class is_output meaning.ports) → meaning.shows held outputs →
    (all : List ℕ) × Took left left all × HasPlayed meaning most (Err NoMemory) all left held before before
played_none meaning most left before held outputs start each shows =
    let row = row_of meaning.ports (first_state meaning).inputs outputs in (
      [],
      took_nothing left,
      record {
        over = false;
        seen = λ over. absurd (cc);
        made = [];
        fitting = tt;
        tells = (refl, refl);
        shown = [];
        row = row;
        last = first_state meaning;
        run = record {
          row = row;
          shown = shows_row meaning (first_state meaning) (first_state meaning).inputs outputs held (sym start) refl each shows;
          rows_are = refl;
          last_is = refl;
        };
        stands = sym start;
        writes = added_nothing before;
      },
    )

-- ---- the same meaning

pub same_itself : (meaning : Meaning) → MeansSame meaning meaning
same_itself meaning = record { ports = refl; initial = refl; shows = λ held outputs. (λ x. x, λ x. x); samples = λ held levels registers. (λ x. x, λ x. x) }

pub same_after : (a b c : Meaning) → MeansSame a b → MeansSame b c → MeansSame a c
same_after a b c p q =
    record {
      ports = q.ports ∙ p.ports;
      initial = q.initial ∙ p.initial;
      shows = λ held outputs. (λ x. (p.shows held outputs).0 ((q.shows held outputs).0 x), λ x. (q.shows held outputs).1 ((p.shows held outputs).1 x));
      samples = λ held levels registers. (
        λ x. (p.samples held levels registers).0 ((q.samples held levels registers).0 x),
        λ x. (q.samples held levels registers).1 ((p.samples held levels registers).1 x),
      );
    }

-- where a step leads by the one, it does by the other
steps_same : (old new : Meaning) (state : State) (step : Step) (next : State) → MeansSame old new → StepsTo new state step next → StepsTo old state step next
steps_same old new state (Values settings) next same leads = leads
steps_same old new state (Clocks settings) next same leads = (
  leads.0,
  subst (λ ps. old.samples (held_in ps state) (words_of_class is_clock ps next.inputs) next.registers) same.ports
      ((same.samples (held_in new.ports state) (words_of_class is_clock new.ports next.inputs) next.registers).0 leads.1),
)

pub makes_same : (old new : Meaning) (ports : List Port) (held : Held) (of : StepKind) (values : List ℕ) (after : Held) → MeansSame old new →
    Makes new ports held of values after → Makes old ports held of values after
makes_same old new ports held of values after same makes state settings holds settable set =
    let next = makes state settings holds settable set in
    (next.0, steps_same old new state (step_of of settings) next.0 same next.1, next.2, next.3)

-- what a bench shows now is shown by what it meant at first
pub shows_same : (old new : Meaning) (held : Held) (outputs : List ℕ) → MeansSame old new → new.shows held outputs → old.shows held outputs
shows_same old new held outputs same shows = (same.shows held outputs).0 shows

pub each_same : (old new : Meaning) (outputs : List ℕ) → MeansSame old new → length outputs ≡ length (widths_of_class is_output new.ports) →
    length outputs ≡ length (widths_of_class is_output old.ports)
each_same old new outputs same each = each ∙ ap (λ ps. length (widths_of_class is_output ps)) same.ports

-- a step was made, by what the bench meant at first
pub stepped : (start now next : Meaning) (most : ℕ) (start_left before : Option (List ℕ)) (number : ℕ) (reader after : Reading) (old new : Held)
    (left left' written : Option (List ℕ)) (of : StepKind) (taken outputs : List ℕ) →
    IsUnderway start most start_left before number reader old left written → MeansSame start now → MeansSame now next → number < most →
    after.ports ≡ reader.ports → reader.ports ≡ start.ports →
    Took left left' taken → (SawEnd reader left → SawEnd after left') → IsStep reader after of taken → Makes now after.ports old of after.values new →
    length outputs ≡ length (widths_of_class is_output next.ports) → next.shows new outputs →
    HasStepped start most start_left before (number + 1) after new left' written (row_of start.ports after.values outputs)
stepped start now next most start_left before number reader after old new left left' written of taken outputs far same more room same_ports its_ports took sees
    step makes each shows =
    let whole = same_after start now next same more in
    has_stepped start most start_left before number reader after old new left left' written of taken outputs far room same_ports its_ports took sees step
    (makes_same start now after.ports old of after.values new same makes) (each_same start next outputs whole each)
    (shows_same start next new outputs whole shows)

-- it is below the greatest number where it is another
pub room_left : (number most : ℕ) → number ≤ most → (number ≡ most → ⊥) → number < most
room_left number most within apart = less number most within apart
