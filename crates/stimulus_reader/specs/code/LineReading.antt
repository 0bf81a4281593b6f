-- What is read of a line, in the terms of the definition.
use Rattle.std.specs.Prelude.{◌≡◌, ℕ, ◌<◌, List, ◌++◌, length, map, reverse, slice_get, ⊤, true, Some, Result, Ok, Err}
use Rattle.sv_base.specs.declared.face.Port.{Port}
use Rattle.sv_base.specs.Steps.{Setting as Assigned}
use Rattle.stimulus_reader.specs.Stimulus.{Fault, input_from, step_of, LineVerdict as Asked}
use Rattle.sv_base.specs.Classes.{is_input}
use Rattle.stimulus_reader.specs.Stimulus as asked
use Rattle.stimulus_reader.specs.Reading.{IsSettable}
use Rattle.stimulus_reader.specs.declared.step.StepKind.{StepKind}
use Rattle.stimulus_reader.specs.declared.setting.Setting.{Setting}
use Rattle.stimulus_reader.specs.declared.setting.BadWord.{BadWord}
use Rattle.stimulus_reader.specs.declared.line.LineVerdict.{LineVerdict}
use Rattle.stimulus_reader.specs.declared.line.LineVerdict.TheVariants.{Skip, Step, Bad}

-- the input of a name and its place
pub record IsInputOf (ports : List Port) (name : List ℕ) (place : ℕ) : Type 0 where
  pub port : Port
  pub at : slice_get ports place ≡ Some port
  pub input : is_input port.class ≡ true
  pub found : input_from 0 ports name ≡ Some (place, port)

-- a setting fits values of these widths
abbrev pub Fits : List ℕ → Setting → Type 0
Fits widths setting = slice_get widths setting.port ≡ Some setting.value.width

-- what a setting says
abbrev pub setting_seen : Setting → Assigned
setting_seen s = record { port = s.port; word = s.value.word }

-- a line of this kind may set it, and its value has the port's width
pub record IsFitting (ports : List Port) (of : StepKind) (setting : Setting) : Type 0 where
  pub there : setting.port < length ports
  pub settable : IsSettable ports of (setting_seen setting)
  pub width : setting.value.width ≡ settable.port.width

-- what settings say
abbrev pub settings_seen : List Setting → List Assigned
settings_seen settings = map setting_seen settings

-- the ports that settings set, the last of them first
abbrev pub ports_set : List Setting → List ℕ
ports_set settings = reverse (map (λ s. s.port) settings)

-- what a refusal says
abbrev pub fault_seen : BadWord → Fault
fault_seen bad = record { reason = bad.reason; word = bad.word.now }

-- what a word sets, or what is wrong with it
abbrev pub setting_result : Result Setting BadWord → Result Assigned Fault
setting_result (Ok s) = Ok (setting_seen s)
setting_result (Err bad) = Err (fault_seen bad)

-- what a line asks for, with the settings that stand beside it
abbrev pub verdict_seen : List Setting → LineVerdict → Asked
verdict_seen settings Skip = asked.Skip
verdict_seen settings (Step kind) = asked.Step (step_of kind (settings_seen settings))
verdict_seen settings (Bad bad) = asked.Bad (fault_seen bad)

-- this part and what stands behind it are the end of a text
pub record HasPart (text part behind : List ℕ) : Type 0 where
  pub before : List ℕ
  pub is : text ≡ before ++ (part ++ behind)

-- a text begins with these bytes
pub record HasFront (text front : List ℕ) : Type 0 where
  pub behind : List ℕ
  pub is : text ≡ front ++ behind

-- a part stands in a text with so many bytes behind it
pub record StandsIn (text part : List ℕ) (behind : ℕ) : Type 0 where
  pub before : List ℕ
  pub after : List ℕ
  pub is : text ≡ before ++ (part ++ after)
  pub behind_is : length after ≡ behind

-- the word that a refusal names stands in the text
abbrev pub NamesPartOf : List ℕ → LineVerdict → Type 0
NamesPartOf text Skip = ⊤
NamesPartOf text (Step kind) = ⊤
NamesPartOf text (Bad bad) = StandsIn text bad.word.now bad.behind
