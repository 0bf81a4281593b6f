-- What is read from a source of a stimulus.
use Rattle.std.specs.Prelude.{◌≡◌, ℕ, ◌+◌, ◌<◌, ◌≤◌, Bool, true, false, ◌==◌, List, [], ◌∷◌, ◌++◌, length, ⊤, Option, None, Some}
use Rattle.std.specs.List.{AllByRecursion}
use Rattle.io_edge.specs.Told.{Took, IsAtEnd}
use Rattle.stimulus_reader.specs.declared.found.TheConstants.{LINE_LIMIT, FILE_LIMIT}
use Rattle.stimulus_reader.specs.declared.reason.Reason.TheVariants.{LineTooLong, FileTooLong}
use Rattle.stimulus_reader.specs.declared.found.Found.{Found}
use Rattle.stimulus_reader.specs.declared.found.Found.TheVariants.{End, Line, Long}
use Rattle.stimulus_reader.specs.declared.found.Turn.{Turn}
use Rattle.stimulus_reader.specs.declared.found.Turn.TheVariants.{More, Done}
use Rattle.stimulus_reader.specs.Stimulus.{lines_of, span, limit_of}
use Rattle.stimulus_reader.specs.Stimulus as stimulus

-- the bytes that were taken from a source and are not used, and whether the source has come to its end
pub record Ahead : Type 0 where
  pub bytes : List ℕ
  pub over : Bool

-- these bytes may come from the source: none do, once it has come to its end
abbrev pub MayCome : Ahead → List ℕ → Type 0
MayCome ahead rest = ahead.over ≡ true → rest ≡ []

-- with these bytes taken, this holds of all that come before and after, whatever the source has behind them
pub record Goes (before after : Ahead) (taken : List ℕ) (P : List ℕ → List ℕ → Type 0) : Type 0 where
  pub ends : before.over ≡ true → (taken ≡ []) × (after.over ≡ true)
  pub holds : (rest : List ℕ) → MayCome after rest → P (before.bytes ++ (taken ++ rest)) (after.bytes ++ rest)

-- some bytes were taken from a source, with which this holds
abbrev pub TakesSo : Option (List ℕ) → Option (List ℕ) → Ahead → Ahead → (List ℕ → List ℕ → Type 0) → Type 0
TakesSo left left_after before after P = (taken : List ℕ) × Took left left_after taken × Goes before after taken P

-- where the end was seen, no byte is left, where that is told
abbrev pub EndSeen : Ahead → Option (List ℕ) → Type 0
EndSeen ahead left = ahead.over ≡ true → IsAtEnd left

-- this byte is the first of those that were taken, or none is left of them
abbrev pub IsNextAhead : Option ℕ → Ahead → Ahead → Type 0
IsNextAhead None before after = (before.bytes ≡ []) × (after ≡ before)
IsNextAhead (Some byte) before after = (before.bytes ≡ byte ∷ after.bytes) × (after.over ≡ before.over)

-- this byte is the first of those left, or none is left
abbrev pub IsNextByte : Option ℕ → List ℕ → List ℕ → Type 0
IsNextByte None bytes rest = (bytes ≡ []) × (rest ≡ [])
IsNextByte (Some byte) bytes rest = bytes ≡ byte ∷ rest

-- no byte is an LF
abbrev pub HasNoLf : List ℕ → Type 0
HasNoLf bytes = AllByRecursion (λ b. (b == 10) ≡ false) bytes

-- these bytes are the front of a line that begins at this place, and pass no limit
pub record IsOpenLine (at : ℕ) (bytes : List ℕ) : Type 0 where
  pub no_lf : HasNoLf bytes
  pub in_line : length bytes ≤ LINE_LIMIT
  pub in_file : at + length bytes ≤ FILE_LIMIT

-- what the next byte makes of a line of n bytes that begins at this place, none of which passes a limit
abbrev pub IsTurn : ℕ → ℕ → Option ℕ → Turn → Type 0
IsTurn at n (Some b) (More c) = (c ≡ b) × ((b == 10) ≡ false) × (n < LINE_LIMIT) × (at + n < FILE_LIMIT)
IsTurn at n None (More c) = ⊥
IsTurn at n None (Done End) = n ≡ 0
IsTurn at n (Some b) (Done End) = ⊥
IsTurn at n None (Done (Line ended)) = (ended ≡ false) × (0 < n)
IsTurn at n (Some b) (Done (Line ended)) = (ended ≡ true) × (b ≡ 10) × (at + n < FILE_LIMIT)
IsTurn at n None (Done (Long reason)) = ⊥
IsTurn at n (Some b) (Done (Long LineTooLong)) = ((b == 10) ≡ false) × (n ≡ LINE_LIMIT)
IsTurn at n (Some b) (Done (Long FileTooLong)) = (at + n ≡ FILE_LIMIT) × (n ≡ LINE_LIMIT → b ≡ 10)
IsTurn at n (Some b) (Done (Long reason)) = ⊥

-- what stands at this place: the end of the bytes, or a line of this text and the rest behind it, or a line that passes a limit
abbrev pub IsFound : ℕ → List ℕ → Found → List ℕ → List ℕ → Type 0
IsFound at text End bytes rest = bytes ≡ []
IsFound at text (Line ended) bytes rest =
    (lines_of bytes ≡ record { text = text; ended = ended } ∷ lines_of rest) × (limit_of at (record { text = text; ended = ended }) ≡ None)
IsFound at text (Long reason) bytes rest =
    (line : stimulus.Line) × (lines : List stimulus.Line) × (lines_of bytes ≡ line ∷ lines) × (limit_of at line ≡ Some reason)

-- a line takes some bytes, and none past the limit of the file
abbrev pub FoundWithin : ℕ → List ℕ → Found → Type 0
FoundWithin at text End = ⊤
FoundWithin at text (Line ended) = (0 < span (record { text = text; ended = ended })) × (at + span (record { text = text; ended = ended }) ≤ FILE_LIMIT)
FoundWithin at text (Long reason) = ⊤
