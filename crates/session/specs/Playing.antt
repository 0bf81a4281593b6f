-- What playing a stimulus on a bench writes, and where it leaves the bench.
use Rattle.std.specs.Prelude.{◌≡◌, ℕ, ◌<◌, Bool, true, List, [], ◌∷◌, ◌++◌, length, map, take, Option, None, Some, Result, Ok, Err, ⊤}
use Rattle.std.specs.List.{AllByRecursion, IsDistinct}
use Rattle.std.specs.Str.{bytes_eq}
use Rattle.bit_ops.specs.Width.{IsWidth}
use Rattle.io_edge.specs.Fault.{Rose}
use Rattle.io_edge.specs.Told.{Added, IsAtEnd}
use Rattle.sv_base.specs.declared.face.Class.TheVariants.{Clock}
use Rattle.sv_base.specs.declared.face.Port.{Port}
use Rattle.sv_base.specs.Steps.{Step, StepFits}
use Rattle.sv_base.specs.TraceText.{header, line, trace_text}
use Rattle.sv_base.specs.Meaning.{State, Held, Meaning, held_in, Plays}
use Rattle.stimulus_reader.specs.declared.reason.Reason.{Reason}
use Rattle.stimulus_reader.specs.Stimulus.{BadLine, stimulus_of}
use Rattle.stimulus_reader.specs.Stimulus as stimulus
use Rattle.session.specs.declared.fault.PlayFault.{PlayFault}
use Rattle.session.specs.declared.fault.PlayFault.TheVariants.{Stimulus, ReadFault, WriteFault, NoMemory}

-- ports that a stimulus can set and a trace can show: each has a width that a value may have, clocks have one bit, and no two have
-- one name
pub record ArePlayable (ports : List Port) : Type 0 where
  pub widths : AllByRecursion (λ (p : Port). IsWidth p.width) ports
  pub clocks : AllByRecursion (λ (p : Port). p.class ≡ Clock → p.width ≡ 1) ports
  pub distinct : IsDistinct bytes_eq (map (λ (p : Port). p.name) ports)

-- ---- the stimulus

-- a bad line
abbrev pub bad_line : ℕ → Reason → List ℕ → BadLine
bad_line line reason word = record { line = line; reason = reason; word = word }

-- some steps, and then a stimulus
abbrev pub behind_steps : List Step → stimulus.Stimulus → stimulus.Stimulus
behind_steps made later = record { steps = made ++ later.steps; bad = later.bad }

-- these steps come first in the stimulus of the bytes that were taken, whatever may follow them
abbrev pub ComeFirst : List Port → ℕ → Bool → List ℕ → List Step → Type 0
ComeFirst ports most over taken made =
    (rest : List ℕ) → (over ≡ true → rest ≡ []) → (later : stimulus.Stimulus) × (stimulus_of ports most (taken ++ rest) ≡ behind_steps made later)

-- these are all steps before the first bad line, which is this one, whatever may follow
abbrev pub EndIn : List Port → ℕ → Bool → List ℕ → List Step → BadLine → Type 0
EndIn ports most over taken made bad =
    (rest : List ℕ) → (over ≡ true → rest ≡ []) → stimulus_of ports most (taken ++ rest) ≡ record { steps = made; bad = Some bad }

-- What an answer says of the stimulus, of which at most so many steps are allowed: these bytes were taken from the source, `over`
-- says whether its end was seen, and these steps were made.
abbrev pub Tells : List Port → ℕ → Result ℕ PlayFault → Bool → List ℕ → List Step → Type 0
Tells ports most (Ok steps) over taken made = (over ≡ true) × (stimulus_of ports most taken ≡ record { steps = made; bad = None }) × (steps ≡ length made)
Tells ports most (Err (Stimulus line reason word)) over taken made = EndIn ports most over taken made (bad_line line reason word.items)
Tells ports most (Err ReadFault) over taken made = ComeFirst ports most over taken made
Tells ports most (Err WriteFault) over taken made = ComeFirst ports most over taken made
Tells ports most (Err NoMemory) over taken made = (taken ≡ []) × (made ≡ [])

-- ---- the trace

-- what is due before a row that stands behind these: nothing before the first, which comes with the header
abbrev pub text_before : List Port → List (List ℕ) → List ℕ
text_before ports [] = []
text_before ports (first ∷ rows) = trace_text ports (first ∷ rows)

-- what is due with that row: its line, and with the first the header
abbrev pub text_with : List Port → List (List ℕ) → List ℕ → List ℕ
text_with ports [] row = header ports ++ line 0 ports row
text_with ports (first ∷ rows) row = line (length (first ∷ rows)) ports row

-- What an answer says of the bytes that were added: all of what was due, up to the line that was offered last and with it; where a
-- write failed, only a front of that line; and nothing where there was no memory.
abbrev pub Writes : Result ℕ PlayFault → Option (List ℕ) → Option (List ℕ) → List ℕ → List ℕ → Type 0
Writes (Ok steps) before after due offered = Added before after (due ++ offered)
Writes (Err (Stimulus line reason word)) before after due offered = Added before after (due ++ offered)
Writes (Err ReadFault) before after due offered = Added before after (due ++ offered)
Writes (Err WriteFault) before after due offered = (n : ℕ) × (n < length offered) × Added before after (due ++ take n offered)
Writes (Err NoMemory) before after due offered = Added before after []

-- How far a bench has come by an answer, by what the bench means: `taken` was taken from the source, which has then `left`, the
-- bench holds `held`, and what was written changed from `before` to `after`.
pub record HasPlayed (meaning : Meaning) (most : ℕ) (answer : Result ℕ PlayFault) (taken : List ℕ)
    (left : Option (List ℕ)) (held : Held) (before after : Option (List ℕ)) : Type 0 where
  -- whether the end of the source was seen; then nothing is left, where that is told
  pub over : Bool
  pub seen : over ≡ true → IsAtEnd left
  -- the steps that were made
  pub made : List Step
  pub fitting : AllByRecursion (StepFits meaning.ports) made
  pub tells : Tells meaning.ports most answer over taken made
  -- the rows that they show, the last of them apart
  pub shown : List (List ℕ)
  pub row : List ℕ
  pub last : State
  pub run : Plays meaning made (shown ++ row ∷ []) last
  -- the bench stands behind the last of them, whose line was the last that was offered
  pub stands : held_in meaning.ports last ≡ held
  pub writes : Writes answer before after (text_before meaning.ports shown) (text_with meaning.ports shown row)

-- ---- causes

-- only a read or a write that failed is told as a fault, of these counts of reads and of writes
abbrev pub IsPlayCause : PlayFault → ℕ → ℕ → ℕ → ℕ → Type 0
IsPlayCause (Stimulus line reason word) reads_before reads_now writes_before writes_now = ⊤
IsPlayCause ReadFault reads_before reads_now writes_before writes_now = Rose reads_before reads_now
IsPlayCause WriteFault reads_before reads_now writes_before writes_now = Rose writes_before writes_now
IsPlayCause NoMemory reads_before reads_now writes_before writes_now = ⊤

-- want of memory comes before the first byte is read or written
abbrev pub IsUntouched : PlayFault → Type 0 → Type 0
IsUntouched (Stimulus line reason word) P = ⊤
IsUntouched ReadFault P = ⊤
IsUntouched WriteFault P = ⊤
IsUntouched NoMemory P = P

-- a fault refuses the line of this number, for this reason and with this word
abbrev pub IsRefusedAs : PlayFault → ℕ → Reason → List ℕ → Type 0
IsRefusedAs (Stimulus line reason word) at why named = (line ≡ at) × (reason ≡ why) × (word.items ≡ named)
IsRefusedAs ReadFault at why named = ⊥
IsRefusedAs WriteFault at why named = ⊥
IsRefusedAs NoMemory at why named = ⊥
