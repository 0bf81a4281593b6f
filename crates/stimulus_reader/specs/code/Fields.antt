-- The fields of a judge of lines and of a piece, and what is true of them.
use Rattle.std.specs.Prelude.{◌≡◌, ℕ, ◌+◌, ◌≤◌, false, List, [], length, take, drop, map, Option, None, Some}
use Rattle.std.specs.List.{AllByRecursion}
use Rattle.std.specs.Vec.{vec_capacity}
use Rattle.bit_ops.specs.Width.{IsWidth}
use Rattle.sv_base.specs.declared.face.Class.TheVariants as class
use Rattle.stimulus_reader.specs.Stimulus.{BadLine}
use Rattle.stimulus_reader.specs.Reading.{Reading}
use Rattle.stimulus_reader.specs.declared.found.TheConstants.{LINE_LIMIT, FILE_LIMIT}
use Rattle.stimulus_reader.specs.declared.piece.TheConstants.{PIECE}
use Rattle.sv_base.specs.Classes.{is_value, is_clock, level_word, words_of_class}
use Rattle.stimulus_reader.specs.code.LineSource.{Ahead, IsOpenLine}
use Rattle.stimulus_reader.specs.declared.reason.Reason.{Reason}
use Rattle.stimulus_reader.specs.declared.judge.LineJudge.TheInside.{Inside}
use Rattle.stimulus_reader.specs.declared.piece.Piece.TheInside as piece

-- the buffer has the line that is read, before a line was refused
abbrev pub kept_of : Option Reason → List ℕ → List ℕ
kept_of None line = line
kept_of (Some reason) line = []

-- and after that it has the bad word, and the line is the last
abbrev pub bad_of : Option Reason → ℕ → List ℕ → Option BadLine
bad_of None last word = None
bad_of (Some reason) last word = Some (record { line = last; reason = reason; word = word })

-- the reading that the fields of a judge have, which has nothing but lines
abbrev pub judged_of : Inside → Reading
judged_of a = record { ports = a.ports.items; number = a.number; at = a.at; kept = kept_of a.bad a.line.items; over = false; last = a.last; values = map (λ v. v.word) a.values.items; bad = bad_of a.bad a.last a.line.items }

-- the lists that are lent are those of the values, and there is room for what a line may bring
pub record IsSound (a : Inside) : Type 0 where
  pub widths : AllByRecursion (λ p. IsWidth p.width) a.ports.items
  pub clocks : AllByRecursion (λ p. p.class ≡ class.Clock → p.width ≡ 1) a.ports.items
  pub fitting : map (λ v. v.width) a.values.items ≡ map (λ p. p.width) a.ports.items
  pub inputs : map (λ v. v.word) a.inputs.items ≡ words_of_class is_value a.ports.items (map (λ v. v.word) a.values.items)
  pub input_widths : map (λ v. v.width) a.inputs.items ≡ words_of_class is_value a.ports.items (map (λ p. p.width) a.ports.items)
  pub levels : map level_word a.levels.items ≡ words_of_class is_clock a.ports.items (map (λ v. v.word) a.values.items)
  pub line_room : LINE_LIMIT ≤ vec_capacity a.line
  pub setting_room : length a.ports.items ≤ vec_capacity a.settings
  pub input_room : length a.ports.items ≤ vec_capacity a.inputs
  pub level_room : length a.ports.items ≤ vec_capacity a.levels
  pub open_line : a.bad ≡ None → IsOpenLine a.at a.line.items
  pub within : a.at ≤ FILE_LIMIT
  pub counted : a.number ≤ a.at + 1

-- the bytes of a piece that are not used
abbrev pub ahead_of : piece.Inside → Ahead
ahead_of p = record { bytes = drop p.start (take p.end p.bytes.items); over = p.over }

-- the bytes that are not used stand in the buffer
pub record IsPiece (p : piece.Inside) : Type 0 where
  pub whole : length p.bytes.items ≡ PIECE
  pub inside : p.end ≤ PIECE
  pub ordered : p.start ≤ p.end
