-- a list of names with their bytes as the map of a folder's files
use Rattle.std.specs.Prelude.{◌≡◌, ℕ, ◌^◌, ◌≤◌, true, false, cond, List, [], ◌∷◌, map, length, Vec, Some}
use Rattle.std.specs.Ordering.{nat_cmp, eq_by_cmp}
use Rattle.std.specs.Cmp.Lexicographic.{slice_cmp, nat_list_cmp_total}
use Rattle.std.specs.FinMap.{from_entries, get, find, get-from_entries}
use Rattle.std.proofs.Common.{sym, subst, ◌∙◌, arith}
use Rattle.io_edge.specs.File.{Files, AreShort}

module _ {A : Type 0} where
  -- each name with its bytes
  abbrev pub entries_of : List (List ℕ × Vec ℕ A) → List (List ℕ × List ℕ)
  entries_of files = map (λ file. (file.0, file.1.items)) files

  -- the map of the names; where one stands twice its first entry counts
  abbrev pub files_of : List (List ℕ × Vec ℕ A) → Files
  files_of files = from_entries (entries_of files)

  -- the bytes of a name are those of its first entry
  pub get-files_of : (files : List (List ℕ × Vec ℕ A)) (name : List ℕ) → get (files_of files) name ≡ find (slice_cmp nat_cmp) name (entries_of files)
  get-files_of files name = get-from_entries nat_list_cmp_total (entries_of files) name

  short_items : (bytes : Vec ℕ A) → length bytes.items ≤ 2 ^ 63
  short_items bytes = let same = bytes.ok.0 in let room = bytes.ok.1 in let small = bytes.small in omega arith

  found_short : (files : List (List ℕ × Vec ℕ A)) (name bytes : List ℕ) → find (slice_cmp nat_cmp) name (entries_of files) ≡ Some bytes → length bytes ≤ 2 ^ 63
  found_short [] name bytes e = cc
  found_short (file ∷ files) name bytes e =
      elim (eq_by_cmp (slice_cmp nat_cmp) name file.0) as (λ b. cond b (Some file.1.items) (find (slice_cmp nat_cmp) name (entries_of files)) ≡ Some bytes → length bytes ≤ 2 ^ 63) [
        | true ↦ λ here. let same : file.1.items ≡ bytes = cc in subst (λ (xs : List ℕ). length xs ≤ 2 ^ 63) same (short_items file.1)
        | false ↦ found_short files name bytes
      ] e

  -- no file is longer than a vector can be
  pub all_short : (files : List (List ℕ × Vec ℕ A)) → AreShort (Some (files_of files))
  all_short files name bytes e = found_short files name bytes (sym (get-files_of files name) ∙ e)
