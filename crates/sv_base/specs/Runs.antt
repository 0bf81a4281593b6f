-- Runs: the states to which steps lead, and the row that each of them shows.
use Rattle.std.specs.Prelude.{◌≡◌, ℕ, List, [], ◌∷◌, ◌++◌, refl}
use Rattle.std.proofs.Common.{ap, subst}
use Rattle.sv_base.specs.Steps.{Step}

-- S are the states, `shows` says which row a state shows, and `follows` where a step leads from it
module _ {S : Type 0} (shows : S → List ℕ → Type 0) (follows : S → Step → S → Type 0) where
  -- a run of no steps stands where it begins, and shows one row
  pub record Rests (state : S) (rows : List (List ℕ)) (last : S) : Type 0 where
    pub row : List ℕ
    pub shown : shows state row
    pub rows_are : rows ≡ row ∷ []
    pub last_is : last ≡ state

  -- a run of a step and others: `goes_on` says what the others are from the state to which the step leads
  pub record GoesOn (state : S) (step : Step) (goes_on : S → List (List ℕ) → Type 0) (rows : List (List ℕ)) : Type 0 where
    pub row : List ℕ
    pub shown : shows state row
    pub next : S
    pub follows_to : follows state step next
    pub rest : List (List ℕ)
    pub goes : goes_on next rest
    pub rows_are : rows ≡ row ∷ rest

  -- from `state` the steps lead to `last`, and the states on the way, both of these among them, show these rows in order
  abbrev pub Runs : S → List Step → List (List ℕ) → S → Type 0
  Runs state [] rows last = Rests state rows last
  Runs state (step ∷ steps) rows last = GoesOn state step (λ next rest. Runs next steps rest last) rows

  -- one step more
  pub runs_further : (state : S) (steps : List Step) (rows : List (List ℕ)) (last : S) → Runs state steps rows last →
      (step : Step) (next : S) → follows last step next → (row : List ℕ) → shows next row → Runs state (steps ++ step ∷ []) (rows ++ row ∷ []) next
  runs_further state [] rows last run step next leads row shown =
      record {
        row = run.row;
        shown = run.shown;
        next = next;
        follows_to = subst (λ s. follows s step next) run.last_is leads;
        rest = row ∷ [];
        goes = record { row = row; shown = shown; rows_are = refl; last_is = refl };
        rows_are = ap (λ rs. rs ++ row ∷ []) run.rows_are;
      }
  runs_further state (first ∷ steps) rows last run step next leads row shown =
      record {
        row = run.row;
        shown = run.shown;
        next = run.next;
        follows_to = run.follows_to;
        rest = run.rest ++ row ∷ [];
        goes = runs_further run.next steps run.rest last run.goes step next leads row shown;
        rows_are = ap (λ rs. rs ++ row ∷ []) run.rows_are;
      }
