-- What the words of the command line say.
use Rattle.std.specs.Prelude.{ℕ, Bool, true, ◌==◌, List, [], ◌∷◌, codes, Option, None, Some, Result, Ok, Err, if◌then◌else◌}
use Rattle.std.specs.List.{find}
use Rattle.std.specs.Str.{bytes_eq}
use Rattle.sv_base.specs.Spelling.{is_free_name}

-- `sim STIM TOP FILE`: the names of the stimulus file, of the top module and of the source file
pub record Sim : Type 0 where
  pub stimulus : List ℕ
  pub top : List ℕ
  pub file : List ℕ

-- why words are refused: a word is wrong, or too few stand there
pub data Misuse : Type 0 where
  Wrong : (word : List ℕ) → Misuse
  TooFew : Misuse

-- an empty word, or one that begins with `-`
abbrev pub is_option : List ℕ → Bool
is_option [] = true
is_option (b ∷ bytes) = b == 45

-- the words after `sim`: exactly three, of which TOP is a name that no word of the language is
abbrev pub sim_of : List (List ℕ) → Result Sim Misuse
sim_of [] = Err TooFew
sim_of (stimulus ∷ []) = Err TooFew
sim_of (stimulus ∷ top ∷ []) = Err TooFew
sim_of (stimulus ∷ top ∷ file ∷ []) = if is_free_name top then Ok (record { stimulus = stimulus; top = top; file = file }) else Err (Wrong top)
sim_of (stimulus ∷ top ∷ file ∷ word ∷ words) = Err (Wrong word)

-- the first word is the command
abbrev pub command_of : List (List ℕ) → Result Sim Misuse
command_of [] = Err TooFew
command_of (word ∷ words) = if bytes_eq word (codes "sim") then sim_of words else Err (Wrong word)

-- what words say that hold no option
abbrev pub unless_option : Option (List ℕ) → List (List ℕ) → Result Sim Misuse
unless_option None words = command_of words
unless_option (Some word) words = Err (Wrong word)

-- what the words say: the command, or the first reason to refuse them
abbrev pub meaning_of : List (List ℕ) → Result Sim Misuse
meaning_of words = unless_option (find is_option words) words
