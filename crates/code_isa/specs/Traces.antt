-- Steps and traces of a tree of machines.
use Rattle.std.specs.Prelude.{◌≡◌, ℕ, Bool, false, not, ◌&&◌, List, [], ◌∷◌, map, replicate, slice_index, slice_index_or, if◌then◌else◌}
use Rattle.code_isa.specs.declared.machine.Reg.{Reg}
use Rattle.code_isa.specs.declared.machine.Kid.{Kid}
use Rattle.code_isa.specs.Faces.{input_count, clock_count}
use Rattle.code_isa.specs.Tree.{Tree, node, Forest, no_tree, tree_and, top_of, State, state, States, no_state, state_and, held_of, outs_of}
use Rattle.code_isa.specs.Settled.{IsSettled, HaveSameRegisters}

-- whether an edge occurs where a clock goes from the first level to the second (IEEE 1800-2017, 9.4.2)
abbrev pub edge_occurs : Bool → Bool → Bool → Bool
edge_occurs falling old new = if falling then old && not new else not old && new

-- the level of a clock, and the levels of the clocks that a child's are joined to
abbrev pub level_at : List Bool → ℕ → Bool
level_at levels clock = slice_index_or levels clock false

abbrev pub levels_at : List Bool → List ℕ → List Bool
levels_at levels clocks = map (λ clock. level_at levels clock) clocks

-- a machine's registers after a step of its clocks: one whose edge occurs takes the word of its next slot, any other keeps
-- its word
abbrev pub sampled : List Bool → List Bool → List ℕ → List Reg → List ℕ → List ℕ
sampled old new slots [] words = []
sampled old new slots (r ∷ regs) [] = []
sampled old new slots (r ∷ regs) (word ∷ words) =
    (if edge_occurs r.falling (level_at old r.clock) (level_at new r.clock) then slice_index slots r.next else word)
    ∷ sampled old new slots regs words

-- the registers of the second state are those of the first after the levels at the top went from old to new
abbrev mutual
  pub TakesEdges : Tree → List Bool → List Bool → State → State → Type 0
  TakesEdges (node m kids) old new (state held registers slots states) (state more sampled_words filled stepped) =
      (sampled_words ≡ sampled old new slots m.regs registers) × AllTakeEdges kids m.kids old new states stepped

  pub AllTakeEdges : Forest → List Kid → List Bool → List Bool → States → States → Type 0
  AllTakeEdges no_tree [] old new no_state no_state = Unit {0}
  AllTakeEdges no_tree [] old new no_state (state_and z zs) = ⊥
  AllTakeEdges no_tree [] old new (state_and s ss) zs = ⊥
  AllTakeEdges no_tree (kid ∷ kids) old new ss zs = ⊥
  AllTakeEdges (tree_and t trees) [] old new ss zs = ⊥
  AllTakeEdges (tree_and t trees) (kid ∷ kids) old new no_state zs = ⊥
  AllTakeEdges (tree_and t trees) (kid ∷ kids) old new (state_and s ss) no_state = ⊥
  AllTakeEdges (tree_and t trees) (kid ∷ kids) old new (state_and s ss) (state_and z zs) =
      TakesEdges t (levels_at old kid.clocks) (levels_at new kid.clocks) s z × AllTakeEdges trees kids old new ss zs

-- every register holds its initial word
abbrev mutual
  pub HoldsInitial : Tree → State → Type 0
  HoldsInitial (node m kids) (state held registers slots states) = (registers ≡ map (λ r. r.init) m.regs) × AllHoldInitial kids states

  pub AllHoldInitial : Forest → States → Type 0
  AllHoldInitial no_tree no_state = Unit {0}
  AllHoldInitial no_tree (state_and s states) = ⊥
  AllHoldInitial (tree_and t trees) no_state = ⊥
  AllHoldInitial (tree_and t trees) (state_and s states) = HoldsInitial t s × AllHoldInitial trees states

-- a tree at one moment: the levels of the clocks at the top, and the state
pub record Moment : Type 0 where
  pub levels : List Bool
  pub at : State

-- a step gives the data inputs at the top new words, or the clocks there new levels
pub data TreeStep : Type 0 where
  set_inputs : List ℕ → TreeStep
  set_levels : List Bool → TreeStep

-- at the start all data inputs and levels are 0 and every register holds its initial word
pub record IsStart (t : Tree) (now : Moment) : Type 0 where
  pub levels : now.levels ≡ replicate (clock_count (top_of t).face) false
  pub inputs : held_of now.at ≡ replicate (input_count (top_of t).face) 0
  pub registers : HoldsInitial t now.at
  pub settled : IsSettled t now.at

-- one step, from a settled state to a settled state: a step of data keeps the registers, and one of clocks keeps the inputs
-- and has the registers take their edges
abbrev pub IsStep : Tree → TreeStep → Moment → Moment → Type 0
IsStep t (set_inputs words) now next =
    (next.levels ≡ now.levels) × (held_of next.at ≡ words) × HaveSameRegisters now.at next.at × IsSettled t next.at
IsStep t (set_levels levels) now next =
    (next.levels ≡ levels) × (held_of next.at ≡ held_of now.at) × TakesEdges t now.levels levels now.at next.at
    × IsSettled t next.at

-- the words of the outputs after each of the steps
pub data Shows (t : Tree) : Moment → List TreeStep → List (List ℕ) → Type 0 where
  ends : {now : Moment} → Shows t now [] []
  goes : {now next : Moment} {step : TreeStep} {steps : List TreeStep} {rows : List (List ℕ)} → IsStep t step now next → Shows t next steps rows → Shows t now (step ∷ steps) (outs_of t next.at ∷ rows)

-- the trace of a tree over steps: the words of the outputs at the start and after each step
pub record IsTrace (t : Tree) (steps : List TreeStep) (rows : List (List ℕ)) : Type 0 where
  pub start : Moment
  pub starts : IsStart t start
  pub later : List (List ℕ)
  pub shows : Shows t start steps later
  pub all : rows ≡ outs_of t start.at ∷ later
