-- what a source over a folder stands over
use Rattle.std.specs.Prelude.{◌≡◌, ℕ, ◌≤◌, Option}
use Rattle.std.proofs.Common.{refl, ◌∙◌, arith}
use Rattle.std.specs.Borrow.{MutBor}
use Rattle.io_edge.specs.File.{Files}

-- two loans of one folder, whose files are the same, and no fault of which was taken back
pub record SameFolder {D : Type 0} (content : D → Option Files) (read_faults write_faults : D → ℕ) (before after : MutBor D) : Type 0 where
  pub same_loan : after.ghost_name ≡ before.ghost_name
  pub same_files : content after.now ≡ content before.now
  pub later : read_faults before.now ≤ read_faults after.now
  pub no_write : write_faults after.now ≡ write_faults before.now

module _ {D : Type 0} {content : D → Option Files} {read_faults write_faults : D → ℕ} where
  pub same_folder_itself : (a : MutBor D) → SameFolder content read_faults write_faults a a
  same_folder_itself a = record { same_loan = refl; same_files = refl; later = omega arith; no_write = refl }

  pub same_folder_after : (a b c : MutBor D) → SameFolder content read_faults write_faults a b → SameFolder content read_faults write_faults b c → SameFolder content read_faults write_faults a c
  same_folder_after a b c p q = record { same_loan = q.same_loan ∙ p.same_loan; same_files = q.same_files ∙ p.same_files; later = omega arith; no_write = q.no_write ∙ p.no_write }
