-- What the bytes of a stimulus say: its steps up to the first bad line, and that line, or the end.
use Rattle.std.specs.Prelude.{ℕ, zero, suc, ◌+◌, ◌-◌, ◌*◌, ◌^◌, Bool, true, false, not, ◌&&◌, ◌||◌, ◌==◌, nat_lt, nat_le, List, [], ◌∷◌, ◌++◌, length, codes, Option, None, Some, Result, Ok, Err, if◌then◌else◌}
use Rattle.std.specs.List.{list_any}
use Rattle.std.specs.Str.{bytes_eq}
use Rattle.sv_base.specs.declared.face.Class.{Class}
use Rattle.sv_base.specs.declared.face.Class.TheVariants as class
use Rattle.sv_base.specs.declared.face.Port.{Port}
use Rattle.sv_base.specs.Classes.{is_input}
use Rattle.sv_base.specs.Spelling.{is_name}
use Rattle.sv_base.specs.Steps.{Setting, Values, Clocks}
use Rattle.sv_base.specs.Steps as steps
use Rattle.stimulus_reader.specs.declared.found.TheConstants.{LINE_LIMIT, FILE_LIMIT}
use Rattle.stimulus_reader.specs.declared.reason.Reason.{Reason}
use Rattle.stimulus_reader.specs.declared.reason.Reason.TheVariants.{NoStep, NoSetting, NoInput, IsClock, NoClock, SetTwice, NoValue, LineTooLong, FileTooLong, TooManySteps}
use Rattle.stimulus_reader.specs.declared.step.StepKind.{StepKind}
use Rattle.stimulus_reader.specs.declared.step.StepKind.TheVariants as kind

-- ---- lines and words

-- a line: its bytes before the LF, and whether an LF ends it
pub record Line : Type 0 where
  pub text : List ℕ
  pub ended : Bool

-- a byte before the first of these lines
abbrev pub onto_line : ℕ → List Line → List Line
onto_line b [] = record { text = b ∷ []; ended = false } ∷ []
onto_line b (line ∷ lines) = record { text = b ∷ line.text; ended = line.ended } ∷ lines

-- the lines of a file: each ends with its LF, but the last may lack it
abbrev pub lines_of : List ℕ → List Line
lines_of [] = []
lines_of (b ∷ bytes) = if b == 10 then record { text = []; ended = true } ∷ lines_of bytes else onto_line b (lines_of bytes)

-- how many bytes of the file a line takes
abbrev pub span : Line → ℕ
span line = length line.text + (if line.ended then 1 else 0)

-- the bytes without a CR at their end
abbrev pub without_cr : List ℕ → List ℕ
without_cr [] = []
without_cr (b ∷ []) = if b == 13 then [] else b ∷ []
without_cr (b ∷ c ∷ bytes) = b ∷ without_cr (c ∷ bytes)

-- what a line says: a CR right before its LF is left out
abbrev pub content_of : Line → List ℕ
content_of line = if line.ended then without_cr line.text else line.text

-- spaces and tabs separate words
abbrev pub separates : ℕ → Bool
separates b = b == 32 || b == 9

-- a byte before the first of these words
abbrev pub onto_word : ℕ → List (List ℕ) → List (List ℕ)
onto_word b [] = (b ∷ []) ∷ []
onto_word b (word ∷ words) = (b ∷ word) ∷ words

-- a byte of a word goes before the word at whose front it stands, or is a word by itself
abbrev pub joins : List ℕ → Bool
joins [] = false
joins (b ∷ bytes) = not (separates b)

-- the words of a text
abbrev pub words_of : List ℕ → List (List ℕ)
words_of [] = []
words_of (b ∷ bytes) = if separates b then words_of bytes else (if joins bytes then onto_word b (words_of bytes) else (b ∷ []) ∷ words_of bytes)

-- ---- settings

-- what stands before the first `=` and after it
abbrev pub before_first_part : ℕ → Option (List ℕ × List ℕ) → Option (List ℕ × List ℕ)
before_first_part b None = None
before_first_part b (Some parts) = Some (b ∷ parts.0, parts.1)

abbrev pub parts_of : List ℕ → Option (List ℕ × List ℕ)
parts_of [] = None
parts_of (b ∷ bytes) = if b == 61 then Some ([], bytes) else before_first_part b (parts_of bytes)

-- a setting by its form: a name, `=` and a value that is not empty
abbrev pub named_part : Option (List ℕ × List ℕ) → Option (List ℕ × List ℕ)
named_part None = None
named_part (Some parts) = if is_name parts.0 && nat_lt 0 (length parts.1) then Some parts else None

-- the input of a name, by its place among the ports from n on, where there is one
abbrev pub input_from : ℕ → List Port → List ℕ → Option (ℕ × Port)
input_from n [] name = None
input_from n (p ∷ ports) name = if bytes_eq p.name name && is_input p.class then Some (n, p) else input_from (n + 1) ports name

-- why a line of this kind may not set an input of this class and width: a line of data sets no clock, and a line of clocks sets
-- no data, and of idle inputs those of one bit
abbrev pub class_fault : StepKind → Class → ℕ → Option Reason
class_fault kind.Values class.Clock width = Some IsClock
class_fault kind.Values class.Value width = None
class_fault kind.Values class.Idle width = None
class_fault kind.Values class.Output width = None
class_fault kind.Clocks class.Clock width = None
class_fault kind.Clocks class.Value width = Some NoClock
class_fault kind.Clocks class.Idle width = if width == 1 then None else Some NoClock
class_fault kind.Clocks class.Output width = None

-- the value of a hexadecimal digit in either case
abbrev pub digit_of : ℕ → Option ℕ
digit_of b =
    if nat_le 48 b && nat_le b 57 then Some (b - 48)
    else (if nat_le 97 b && nat_le b 102 then Some (b - 87) else (if nat_le 65 b && nat_le b 70 then Some (b - 55) else None))

abbrev pub more_digits : Option ℕ → Option ℕ → Option ℕ
more_digits None digit = None
more_digits (Some high) None = None
more_digits (Some high) (Some digit) = Some (high * 16 + digit)

-- the number that digits spell, behind the number that those before them do
abbrev pub number_from : Option ℕ → List ℕ → Option ℕ
number_from high [] = high
number_from high (b ∷ digits) = number_from (more_digits high (digit_of b)) digits

abbrev pub within_width : ℕ → Option ℕ → Option ℕ
within_width width None = None
within_width width (Some word) = if nat_lt word (2 ^ width) then Some word else None

-- the word that a value's text gives an input of this width: 1 to 16 digits, of a number that the width holds
abbrev pub word_in : ℕ → List ℕ → Option ℕ
word_in width text = if nat_lt 0 (length text) && nat_le (length text) 16 then within_width width (number_from (Some 0) text) else None

-- the level that a value's text gives a clock: the digit 0 or 1
abbrev pub level_in : List ℕ → Option ℕ
level_in [] = None
level_in (b ∷ []) = if b == 48 then Some 0 else (if b == 49 then Some 1 else None)
level_in (b ∷ c ∷ digits) = None

-- the word that a value's text gives an input of this width on a line of this kind
abbrev pub value_in : StepKind → ℕ → List ℕ → Option ℕ
value_in kind.Values width text = word_in width text
value_in kind.Clocks width text = level_in text

-- what is wrong with a line: the reason, and the word that the message names
pub record Fault : Type 0 where
  pub reason : Reason
  pub word : List ℕ

abbrev pub valued : ℕ → List ℕ → Option ℕ → Result Setting Fault
valued port text None = Err (record { reason = NoValue; word = text })
valued port text (Some word) = Ok (record { port = port; word = word })

abbrev pub unless_set : List ℕ → List ℕ → ℕ → Result Setting Fault → Result Setting Fault
unless_set set name port go = if list_any (λ other. other == port) set then Err (record { reason = SetTwice; word = name }) else go

abbrev pub unless_fault : List ℕ → Option Reason → Result Setting Fault → Result Setting Fault
unless_fault name (Some reason) go = Err (record { reason = reason; word = name })
unless_fault name None go = go

abbrev pub set_input : StepKind → List ℕ → List ℕ → List ℕ → Option (ℕ × Port) → Result Setting Fault
set_input of set name text None = Err (record { reason = NoInput; word = name })
set_input of set name text (Some found) =
    unless_fault name (class_fault of found.1.class found.1.width)
    (unless_set set name found.0 (valued found.0 text (value_in of found.1.width text)))

abbrev pub setting_of_parts : List Port → StepKind → List ℕ → List ℕ → Option (List ℕ × List ℕ) → Result Setting Fault
setting_of_parts ports of set word None = Err (record { reason = NoSetting; word = word })
setting_of_parts ports of set word (Some parts) = set_input of set parts.0 parts.1 (input_from 0 ports parts.0)

-- what a word of a line of this kind sets, where the inputs at these places were set before it in the line: its form, its name, its
-- class, a repetition and its value are judged in this order
abbrev pub setting_of : List Port → StepKind → List ℕ → List ℕ → Result Setting Fault
setting_of ports of set word = setting_of_parts ports of set word (named_part (parts_of word))

-- ---- steps

abbrev pub with_setting : Setting → Result (List Setting) Fault → Result (List Setting) Fault
with_setting first (Ok rest) = Ok (first ∷ rest)
with_setting first (Err fault) = Err fault

abbrev pub after_setting : Result Setting Fault → (Setting → Result (List Setting) Fault) → Result (List Setting) Fault
after_setting (Err fault) go = Err fault
after_setting (Ok first) go = with_setting first (go first)

-- what words set, from left to right, up to the first that is wrong, where the inputs at these places were set before them
abbrev pub settings_of : List Port → StepKind → List ℕ → List (List ℕ) → Result (List Setting) Fault
settings_of ports of set [] = Ok []
settings_of ports of set (word ∷ words) = after_setting (setting_of ports of set word) (λ first. settings_of ports of (first.port ∷ set) words)

-- what a line asks for: nothing, where it has no words or is a comment, or a step, or it is wrong
pub data LineVerdict : Type 0 where
  Skip : LineVerdict
  Step : (step : steps.Step) → LineVerdict
  Bad : (fault : Fault) → LineVerdict

abbrev pub step_of : StepKind → List Setting → steps.Step
step_of kind.Values settings = Values settings
step_of kind.Clocks settings = Clocks settings

abbrev pub verdict_of_settings : StepKind → Result (List Setting) Fault → LineVerdict
verdict_of_settings of (Ok settings) = Step (step_of of settings)
verdict_of_settings of (Err fault) = Bad fault

-- a word that begins with `#` makes a comment of its line
abbrev pub is_comment : List ℕ → Bool
is_comment [] = false
is_comment (b ∷ bytes) = b == 35

-- the kind of step that a first word begins, `d` or `c`
abbrev pub kind_of : List ℕ → Option StepKind
kind_of word = if bytes_eq word (codes "d") then Some kind.Values else (if bytes_eq word (codes "c") then Some kind.Clocks else None)

abbrev pub verdict_of_kind : List Port → List ℕ → Option StepKind → List (List ℕ) → LineVerdict
verdict_of_kind ports word None words = Bad (record { reason = NoStep; word = word })
verdict_of_kind ports word (Some of) words = verdict_of_settings of (settings_of ports of [] words)

-- what the words of a line ask for
abbrev pub verdict_of_words : List Port → List (List ℕ) → LineVerdict
verdict_of_words ports [] = Skip
verdict_of_words ports (word ∷ words) = if is_comment word then Skip else verdict_of_kind ports word (kind_of word) words

-- ---- limits

-- the limit that a line passes which begins at this place of the file: that whose first byte past it comes first
abbrev pub limit_of : ℕ → Line → Option Reason
limit_of at line =
    if nat_lt LINE_LIMIT (length line.text) && nat_le (at + LINE_LIMIT) FILE_LIMIT then Some LineTooLong
    else (if nat_lt FILE_LIMIT (at + span line) then Some FileTooLong else None)

-- ---- the whole

-- the first bad line: its number, the reason, and the word that the message names, empty where it names none
pub record BadLine : Type 0 where
  pub line : ℕ
  pub reason : Reason
  pub word : List ℕ

-- the steps before the first bad line, and that line where there is one
pub record Stimulus : Type 0 where
  pub steps : List steps.Step
  pub bad : Option BadLine

abbrev pub ended : Stimulus
ended = record { steps = []; bad = None }

abbrev pub stopped : ℕ → Reason → List ℕ → Stimulus
stopped number reason word = record { steps = []; bad = Some (record { line = number; reason = reason; word = word }) }

abbrev pub with_step : steps.Step → Stimulus → Stimulus
with_step step rest = record { steps = step ∷ rest.steps; bad = rest.bad }

-- a line's part of the stimulus: `more` steps may still come, `skip` is the stimulus of the other lines, and `go` that after one step more
abbrev pub stimulus_of_verdict : ℕ → ℕ → LineVerdict → Stimulus → Stimulus → Stimulus
stimulus_of_verdict more number Skip skip go = skip
stimulus_of_verdict zero number (Step step) skip go = stopped number TooManySteps []
stimulus_of_verdict zero number (Bad fault) skip go = stopped number TooManySteps []
stimulus_of_verdict (suc more) number (Step step) skip go = with_step step go
stimulus_of_verdict (suc more) number (Bad fault) skip go = stopped number fault.reason fault.word

abbrev pub unless_limit : ℕ → Option Reason → Stimulus → Stimulus
unless_limit number (Some reason) rest = stopped number reason []
unless_limit number None rest = rest

-- The stimulus of lines, the first of which has this number and begins at this place of the file, where so many steps more are allowed.
-- A line's limits come before the count of steps, and that before what its words say.
abbrev pub stimulus_from : List Port → ℕ → ℕ → ℕ → List Line → Stimulus
stimulus_from ports more number at [] = ended
stimulus_from ports more number at (line ∷ lines) =
    unless_limit number (limit_of at line)
    (stimulus_of_verdict more number (verdict_of_words ports (words_of (content_of line)))
    (stimulus_from ports more (number + 1) (at + span line) lines)
    (stimulus_from ports (more - 1) (number + 1) (at + span line) lines))

-- the stimulus of a stimulus file, where at most so many steps are allowed
abbrev pub stimulus_of : List Port → ℕ → List ℕ → Stimulus
stimulus_of ports most bytes = stimulus_from ports most 1 0 (lines_of bytes)

-- ---- messages

-- what is wrong, in words
abbrev pub reason_text : Reason → List ℕ → List ℕ
reason_text NoStep word = word ++ codes " is no step"
reason_text NoSetting word = word ++ codes " is no setting"
reason_text NoInput word = word ++ codes " is no input"
reason_text IsClock word = word ++ codes " is a clock"
reason_text NoClock word = word ++ codes " is no clock"
reason_text SetTwice word = word ++ codes " is set twice"
reason_text NoValue word = word ++ codes " is no value"
reason_text LineTooLong word = codes "line too long"
reason_text FileTooLong word = codes "file too long"
reason_text TooManySteps word = codes "too many steps"
