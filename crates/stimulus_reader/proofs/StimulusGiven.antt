-- What the reader gives, line by line.
use Rattle.std.proofs.Common.{◌≡◌, ℕ, zero, suc, ◌+◌, ◌-◌, Bool, true, false, ◌&&◌, nat_lt, nat_le, if◌then◌else◌, length, List, [], ◌∷◌, ◌++◌, refl, sym, ap, subst, ◌∙◌, arith, append_assoc, Option, None, Some, Result, Ok, Err}
use Rattle.stimulus_reader.specs.declared.reason.Reason.{Reason}
use Rattle.stimulus_reader.specs.declared.reason.Reason.TheVariants.{LineTooLong, FileTooLong, TooManySteps}
use Rattle.stimulus_reader.specs.declared.found.TheConstants.{LINE_LIMIT, FILE_LIMIT}
use Rattle.stimulus_reader.specs.declared.found.Found.TheVariants as found
use Rattle.stimulus_reader.specs.declared.step.StepKind.{StepKind}
use Rattle.stimulus_reader.specs.declared.step.StepFault.{StepFault}
use Rattle.stimulus_reader.specs.declared.step.StepFault.TheVariants.{Bad, ReadFault}
use Rattle.stimulus_reader.specs.declared.judge.NextLine.{NextLine}
use Rattle.stimulus_reader.specs.declared.judge.NextLine.TheVariants as next
use Rattle.stimulus_reader.specs.Stimulus.{Line, BadLine, LineVerdict, Stimulus, stopped, lines_of, span, limit_of, words_of, content_of, stimulus_from, stimulus_of_verdict, unless_limit, step_of}
use Rattle.stimulus_reader.specs.Stimulus as asked
use Rattle.stimulus_reader.specs.Reading.{Reading, Reads, MayFollow, KeepsEnd, may_follow, stimulus_left, passes_limit, IsStep, IsEnd, IsBad, IsInterrupted}
use Rattle.stimulus_reader.specs.code.LineSource.{Ahead, Goes, IsFound}
use Rattle.stimulus_reader.specs.code.Judging.{line_in, verdict_in, reading_with, IsBehind, Skips, Steps, Refuses, Judges, IsPast, GivesLine, fault_of}
use Rattle.io_edge.specs.Told.{Took, took_nothing, took_both}
use Rattle.stimulus_reader.proofs.StimulusJudging.{refused_no_limit}

-- ---- one line

sub_one : (n : ℕ) → suc n - 1 ≡ n
sub_one n = omega arith

-- the reader has read on, and otherwise stands where it stood
pub record ReadOn (before mid : Reading) : Type 0 where
  pub ports : mid.ports ≡ before.ports
  pub number : mid.number ≡ before.number
  pub at : mid.at ≡ before.at
  pub last : mid.last ≡ before.last
  pub values : mid.values ≡ before.values

-- the stimulus of what stands behind the line that is kept
abbrev stimulus_behind : Reading → Bool → List ℕ → ℕ → Stimulus
stimulus_behind mid over rest more = stimulus_from mid.ports more (mid.number + 1) (mid.at + span (line_in mid over)) (lines_of rest)

abbrev Found : Reading → Reading → Bool → List ℕ → List ℕ → Type 0
Found before mid over bytes rest = IsFound before.at mid.kept (found.Line over) (before.kept ++ bytes) rest

line_stimulus : (before mid : Reading) (over : Bool) (bytes rest : List ℕ) → ReadOn before mid → Found before mid over bytes rest → (more : ℕ) → stimulus_left before more bytes ≡ stimulus_of_verdict more mid.number (verdict_in mid over) (stimulus_behind mid over rest more) (stimulus_behind mid over rest (more - 1))
line_stimulus before mid over bytes rest on is more =
    let line : Line = line_in mid over in
    let first : stimulus_left before more bytes ≡ stimulus_from before.ports more before.number before.at (line ∷ lines_of rest) = ap (stimulus_from before.ports more before.number before.at) is.0 in
    let short : limit_of before.at line ≡ None = is.1 in
    first ∙ rw (short, on.ports, on.number, on.at) refl

behind_stimulus : (mid after : Reading) (over : Bool) (rest : List ℕ) → IsBehind mid after over → (more : ℕ) → stimulus_left after more rest ≡ stimulus_behind mid over rest more
behind_stimulus mid after over rest behind more = rw (behind.ports, behind.number, behind.at, behind.kept) refl

-- ---- the bytes ahead

-- with the bytes ahead, a judge's reading is that of the reader
with_ahead : (judge : Reading) (x : Ahead) (more : ℕ) (bytes : List ℕ) → stimulus_left (reading_with judge x) more bytes ≡ stimulus_left judge more (x.bytes ++ bytes)
with_ahead judge x more bytes = ap (λ (xs : List ℕ). stimulus_from judge.ports more judge.number judge.at (lines_of xs)) (append_assoc judge.kept x.bytes bytes)

-- ---- what a line gives

skip_gives : (before mid after : Reading) (x y : Ahead) (over : Bool) (taken : List ℕ) → ReadOn before mid → Goes x y taken (Found before mid over) → Skips mid after over → IsPast (reading_with before x) (reading_with after y) taken
skip_gives before mid after x y over taken on is skips = record {
  ends = is.ends;
  ports = skips.behind.ports ∙ on.ports;
  goes_on = λ rest come more.
      let behind : List ℕ = y.bytes ++ rest in
      with_ahead before x more (taken ++ rest)
      ∙ line_stimulus before mid over (x.bytes ++ (taken ++ rest)) behind on (is.holds rest come) more
      ∙ ap (λ (m : LineVerdict). stimulus_of_verdict more mid.number m (stimulus_behind mid over behind more) (stimulus_behind mid over behind (more - 1))) skips.verdict
      ∙ sym (behind_stimulus mid after over behind skips.behind more)
      ∙ sym (with_ahead after y more rest);
  values = skips.values ∙ on.values;
  last = skips.last ∙ on.last;
}

step_gives : (before mid after : Reading) (x y : Ahead) (over : Bool) (of : StepKind) (taken : List ℕ) → ReadOn before mid → Goes x y taken (Found before mid over) → Steps mid after over of → IsStep (reading_with before x) (reading_with after y) of taken
step_gives before mid after x y over of taken on is steps = record {
  ends = is.ends;
  settings = steps.settings;
  settable = rw (← on.ports) steps.settable;
  set = rw (← on.values) steps.values;
  step = λ rest come more.
      let behind : List ℕ = y.bytes ++ rest in
      with_ahead before x (suc more) (taken ++ rest)
      ∙ line_stimulus before mid over (x.bytes ++ (taken ++ rest)) behind on (is.holds rest come) (suc more)
      ∙ ap (λ (m : LineVerdict). stimulus_of_verdict (suc more) mid.number m (stimulus_behind mid over behind (suc more)) (stimulus_behind mid over behind (suc more - 1))) steps.verdict
      ∙ ap (λ (n : ℕ). asked.with_step (step_of of steps.settings) (stimulus_behind mid over behind n)) (sub_one more)
      ∙ ap (asked.with_step (step_of of steps.settings)) (sym (behind_stimulus mid after over behind steps.behind more) ∙ sym (with_ahead after y more rest));
  none_left = λ rest come.
      let behind : List ℕ = y.bytes ++ rest in
      with_ahead before x zero (taken ++ rest)
      ∙ line_stimulus before mid over (x.bytes ++ (taken ++ rest)) behind on (is.holds rest come) zero
      ∙ ap (λ (m : LineVerdict). stimulus_of_verdict zero mid.number m (stimulus_behind mid over behind zero) (stimulus_behind mid over behind (zero - 1))) steps.verdict
      ∙ ap (λ (n : ℕ). stopped n TooManySteps []) (sym steps.last);
}

bad_gives : (before mid after : Reading) (x y : Ahead) (over : Bool) (number : ℕ) (reason : Reason) (taken : List ℕ) → ReadOn before mid → Goes x y taken (Found before mid over) → Refuses mid after over number reason → IsBad (reading_with before x) (reading_with after y) number reason taken
bad_gives before mid after x y over number reason taken on is bad =
    let none : passes_limit reason ≡ false = rw bad.reason_is (refused_no_limit mid.ports (words_of (content_of (line_in mid over))) bad.fault bad.verdict) in
    record {
      ends = is.ends;
      bad = record { line = number; reason = reason; word = bad.fault.word };
      told = bad.bad;
      line_is = refl;
      reason_is = refl;
      last = bad.last;
      script = λ rest come more.
          let behind : List ℕ = y.bytes ++ rest in
          with_ahead before x (suc more) (taken ++ rest)
          ∙ line_stimulus before mid over (x.bytes ++ (taken ++ rest)) behind on (is.holds rest come) (suc more)
          ∙ ap (λ (m : LineVerdict). stimulus_of_verdict (suc more) mid.number m (stimulus_behind mid over behind (suc more)) (stimulus_behind mid over behind (suc more - 1))) bad.verdict
          ∙ rw (bad.line_is, bad.reason_is) refl;
      none_left = λ rest come.
          let behind : List ℕ = y.bytes ++ rest in
          with_ahead before x zero (taken ++ rest)
          ∙ line_stimulus before mid over (x.bytes ++ (taken ++ rest)) behind on (is.holds rest come) zero
          ∙ ap (λ (m : LineVerdict). stimulus_of_verdict zero mid.number m (stimulus_behind mid over behind zero) (stimulus_behind mid over behind (zero - 1))) bad.verdict
          ∙ rw (none, bad.line_is) refl;
    }

-- what the line that was found gives is what the judge makes of it
pub line_gives : (before mid after : Reading) (x y : Ahead) (over : Bool) (result : Result NextLine StepFault) (taken : List ℕ) → ReadOn before mid → Judges mid after over result → Goes x y taken (Found before mid over) → GivesLine (reading_with before x) (reading_with after y) result taken
line_gives before mid after x y over (Ok next.Skipped) taken on judges is = skip_gives before mid after x y over taken on is judges
line_gives before mid after x y over (Ok next.End) taken on judges is = absurd judges
line_gives before mid after x y over (Ok (next.Step of)) taken on judges is = step_gives before mid after x y over of taken on is judges
line_gives before mid after x y over (Err (Bad number reason)) taken on judges is = bad_gives before mid after x y over number reason taken on is judges
line_gives before mid after x y over (Err ReadFault) taken on judges is = absurd judges

-- ---- no line, and a line that passes a limit

one_passes : (line file : Bool) (reason : Reason) → (if line then Some LineTooLong else (if file then Some FileTooLong else None)) ≡ Some reason → passes_limit reason ≡ true
one_passes true file reason is = let same : LineTooLong ≡ reason = cc in ap passes_limit (sym same)
one_passes false true reason is = let same : FileTooLong ≡ reason = cc in ap passes_limit (sym same)
one_passes false false reason is = absurd (cc)

limit_passes : (at : ℕ) (line : Line) (reason : Reason) → limit_of at line ≡ Some reason → passes_limit reason ≡ true
limit_passes at line reason is = one_passes (nat_lt LINE_LIMIT (length line.text) && nat_le (at + LINE_LIMIT) FILE_LIMIT) (nat_lt FILE_LIMIT (at + span line)) reason is

long_stimulus : (before : Reading) (bytes rest kept : List ℕ) (reason : Reason) (more : ℕ) → IsFound before.at kept (found.Long reason) (before.kept ++ bytes) rest → stimulus_left before more bytes ≡ stopped before.number reason []
long_stimulus before bytes rest kept reason more is =
    let first : stimulus_left before more bytes ≡ stimulus_from before.ports more before.number before.at (is.0 ∷ is.1) = ap (stimulus_from before.ports more before.number before.at) is.2 in
    let limit : limit_of before.at is.0 ≡ Some reason = is.3 in
    first ∙ rw limit refl

-- a line that passes a limit is the bad line
pub long_gives : (before after : Reading) (x y : Ahead) (number : ℕ) (reason : Reason) (kept taken : List ℕ) → Goes x y taken (λ bytes rest. IsFound before.at kept (found.Long reason) (before.kept ++ bytes) rest) → number ≡ before.number → after.bad ≡ Some (record { line = number; reason = reason; word = [] }) → after.last ≡ number → IsBad (reading_with before x) (reading_with after y) number reason taken
long_gives before after x y number reason kept taken is number_is bad last = record {
  ends = is.ends;
  bad = record { line = number; reason = reason; word = [] };
  told = bad;
  line_is = refl;
  reason_is = refl;
  last = last;
  script = λ rest come more.
      with_ahead before x (suc more) (taken ++ rest)
      ∙ long_stimulus before (x.bytes ++ (taken ++ rest)) (y.bytes ++ rest) kept reason (suc more) (is.holds rest come)
      ∙ ap (λ (n : ℕ). stopped n reason []) (sym number_is);
  none_left = λ rest come.
      let found = is.holds rest come in
      let passes : passes_limit reason ≡ true = limit_passes before.at found.0 reason found.3 in
      with_ahead before x zero (taken ++ rest)
      ∙ long_stimulus before (x.bytes ++ (taken ++ rest)) (y.bytes ++ rest) kept reason zero found
      ∙ ap (λ (n : ℕ). stopped n reason []) (sym number_is)
      ∙ rw passes refl;
}

-- ---- lines that ask for nothing, before others

ends_after : (a b c : Reading) (t u : List ℕ) → KeepsEnd a b t → KeepsEnd b c u → KeepsEnd a c (t ++ u)
ends_after a b c t u p q is =
    let first = p is in
    let second = q first.1 in
    (ap (λ (xs : List ℕ). xs ++ u) first.0 ∙ second.0, second.1)

past_on : (a b c : Reading) (t u rest : List ℕ) → IsPast a b t → KeepsEnd b c u → MayFollow c rest → (more : ℕ) → stimulus_left a more ((t ++ u) ++ rest) ≡ stimulus_left b more (u ++ rest)
past_on a b c t u rest past ends follows more =
    ap (stimulus_left a more) (append_assoc t u rest) ∙ past.goes_on (u ++ rest) (may_follow b c u rest ends follows) more

pub past_past : (a b c : Reading) (t u : List ℕ) → IsPast a b t → IsPast b c u → IsPast a c (t ++ u)
past_past a b c t u past given = record {
  ends = ends_after a b c t u past.ends given.ends;
  ports = given.ports ∙ past.ports;
  goes_on = λ rest follows more. past_on a b c t u rest past given.ends follows more ∙ given.goes_on rest follows more;
  values = given.values ∙ past.values;
  last = given.last ∙ past.last;
}

past_step : (a b c : Reading) (of : StepKind) (t u : List ℕ) → IsPast a b t → IsStep b c of u → IsStep a c of (t ++ u)
past_step a b c of t u past given = record {
  ends = ends_after a b c t u past.ends given.ends;
  settings = given.settings;
  settable = rw (← past.ports) given.settable;
  set = rw (← past.values) given.set;
  step = λ rest follows more. past_on a b c t u rest past given.ends follows (suc more) ∙ given.step rest follows more;
  none_left = λ rest follows. past_on a b c t u rest past given.ends follows zero ∙ given.none_left rest follows;
}

past_end : (a b c : Reading) (t u : List ℕ) → IsPast a b t → IsEnd b c u → IsEnd a c (t ++ u)
past_end a b c t u past given = record {
  ends = ends_after a b c t u past.ends given.ends;
  over = given.over;
  ended_there = λ more. past.goes_on u (λ over. (given.ends over).0) more ∙ given.ended_there more;
  kept = given.kept;
  last = given.last ∙ past.last;
}

past_bad : (a b c : Reading) (line : ℕ) (reason : Reason) (t u : List ℕ) → IsPast a b t → IsBad b c line reason u → IsBad a c line reason (t ++ u)
past_bad a b c line reason t u past given = record {
  ends = ends_after a b c t u past.ends given.ends;
  bad = given.bad;
  told = given.told;
  line_is = given.line_is;
  reason_is = given.reason_is;
  last = given.last;
  script = λ rest follows more. past_on a b c t u rest past given.ends follows (suc more) ∙ given.script rest follows more;
  none_left = λ rest follows. past_on a b c t u rest past given.ends follows zero ∙ given.none_left rest follows;
}

past_interrupted : (a b c : Reading) (t u : List ℕ) → IsPast a b t → IsInterrupted b c u → IsInterrupted a c (t ++ u)
past_interrupted a b c t u past given = record {
  ends = ends_after a b c t u past.ends given.ends;
  over = given.over;
  goes_on = λ rest more. let open_is = given.over in past_on a b c t u rest past given.ends (λ is. absurd (cc)) more ∙ given.goes_on rest more;
  values = given.values ∙ past.values;
  last = given.last ∙ past.last;
}

-- ---- lines after others, with what both take

-- what was taken before, and that it is all of lines that ask for nothing
abbrev pub PassedSo : Option (List ℕ) → Option (List ℕ) → Reading → Reading → Type 0
PassedSo p q a b = (taken : List ℕ) × Took p q taken × IsPast a b taken

abbrev pub GivesSo : Option (List ℕ) → Option (List ℕ) → Reading → Reading → Result NextLine StepFault → Type 0
GivesSo p q a b result = (taken : List ℕ) × Took p q taken × GivesLine a b result taken

abbrev pub ReadsSo : Option (List ℕ) → Option (List ℕ) → Reading → Reading → Result (Option StepKind) StepFault → Type 0
ReadsSo p q a b result = (taken : List ℕ) × Took p q taken × Reads a b result taken

pub gives_at : (p q : Option (List ℕ)) (a b : Reading) (what other : NextLine) → what ≡ other → GivesSo p q a b (Ok what) → GivesSo p q a b (Ok other)
gives_at p q a b what other is given = subst (λ (line : NextLine). GivesSo p q a b (Ok line)) is given

pub passed_none : (p : Option (List ℕ)) (a : Reading) → PassedSo p p a a
passed_none p a = ([], took_nothing p, record { ends = λ is. (refl, is); ports = refl; goes_on = λ rest follows more. refl; values = refl; last = refl })

pub passed_more : (p q s : Option (List ℕ)) (a b c : Reading) → PassedSo p q a b → GivesSo q s b c (Ok next.Skipped) → PassedSo p s a c
passed_more p q s a b c past given = (past.0 ++ given.0, took_both p q s past.0 given.0 past.1 given.1, past_past a b c past.0 given.0 past.2 given.2)

pub passed_end : (p q s : Option (List ℕ)) (a b c : Reading) → PassedSo p q a b → GivesSo q s b c (Ok next.End) → ReadsSo p s a c (Ok None)
passed_end p q s a b c past given = (past.0 ++ given.0, took_both p q s past.0 given.0 past.1 given.1, past_end a b c past.0 given.0 past.2 given.2)

pub passed_step : (p q s : Option (List ℕ)) (a b c : Reading) (of : StepKind) → PassedSo p q a b → GivesSo q s b c (Ok (next.Step of)) → ReadsSo p s a c (Ok (Some of))
passed_step p q s a b c of past given = (past.0 ++ given.0, took_both p q s past.0 given.0 past.1 given.1, past_step a b c of past.0 given.0 past.2 given.2)

pub passed_fault : (p q s : Option (List ℕ)) (a b c : Reading) (fault : StepFault) → PassedSo p q a b → GivesSo q s b c (Err fault) → ReadsSo p s a c (Err fault)
passed_fault p q s a b c (Bad line reason) past given = (past.0 ++ given.0, took_both p q s past.0 given.0 past.1 given.1, λ none. past_bad a b c line reason past.0 given.0 past.2 given.2)
passed_fault p q s a b c ReadFault past given = (past.0 ++ given.0, took_both p q s past.0 given.0 past.1 given.1, past_interrupted a b c past.0 given.0 past.2 given.2)

-- a bad line that is told again
pub told_again : (p : Option (List ℕ)) (a : Reading) (bad : Option BadLine) (fault : StepFault) → a.bad ≡ bad → Some fault ≡ fault_of bad → ReadsSo p p a a (Err fault)
told_again p a None fault bad_is told = absurd (cc)
told_again p a (Some bad) ReadFault bad_is told = absurd (cc)
told_again p a (Some bad) (Bad line reason) bad_is told = ([], took_nothing p, λ none. absurd (cc))
