-- the place of a name in a list of names with their bytes
use Rattle.std.proofs.Common.{◌≡◌, set, ◌++◌, ℕ, suc, ◌+◌, ◌<◌, ◌≤◌, Bool, true, false, not, cond, List, [], ◌∷◌, length, get_or, None, Some, refl, ap, sym, subst, ◌∙◌, arith}
use Rattle.std.specs.Prelude.{Vec, nat_eq}
use Rattle.std.specs.List.{position, position_or_len}
use Rattle.std.specs.Ordering.{nat_cmp, eq_by_cmp}
use Rattle.std.specs.Cmp.Lexicographic.{slice_cmp, pointwise, texts_ties, bytes_decides, nat_list_cmp_total}
use Rattle.std.specs.FinMap.{find, insert, from_entries, from_entries_push, get-insert, same_map, IsAntisymmetric, nat_cmp-IsAntisymmetric, slice_cmp-IsAntisymmetric}
use Rattle.std.proofs.lemmas.Grind.{common_steps}
use Rattle.std.proofs.lemmas.List.Quantifiers.{position-Some}
use Rattle.io_edge.specs.Entries.{entries_of, files_of, get-files_of}

abbrev pub is_named : {A : Type 0} → List ℕ → List ℕ × Vec ℕ A → Bool
is_named name file = pointwise nat_eq name file.0

same_keys : IsAntisymmetric (slice_cmp nat_cmp)
same_keys = slice_cmp-IsAntisymmetric nat_cmp-IsAntisymmetric

same_name : (a b : List ℕ) → eq_by_cmp (slice_cmp nat_cmp) a b ≡ true → a ≡ b
same_name a b e = (bytes_decides a b).0 (texts_ties a b ∙ e)

-- a name is not two names that differ
both_names : (name a b : List ℕ) → eq_by_cmp (slice_cmp nat_cmp) b a ≡ false → eq_by_cmp (slice_cmp nat_cmp) name a ≡ true → eq_by_cmp (slice_cmp nat_cmp) name b ≡ true → ⊥
both_names name a b apart p q =
    let same : b ≡ a = sym (same_name name b q) ∙ same_name name a p in
    let tied : eq_by_cmp (slice_cmp nat_cmp) b a ≡ true = sym (texts_ties b a) ∙ (bytes_decides b a).1 same in
    cc

shadowed : {B : Type 0} (b : Bool) (x y z : B) → cond b x z ≡ cond b x (cond b y z)
shadowed true x y z = refl
shadowed false x y z = refl

swapped : {B : Type 0} (a b : Bool) (x y z : B) → (a ≡ true → b ≡ true → ⊥) → cond a x (cond b y z) ≡ cond b y (cond a x z)
swapped true true x y z apart = absurd (apart refl refl)
swapped true false x y z apart = refl
swapped false b x y z apart = refl

module _ {A : Type 0} where
  found_at : (name : List ℕ) (files : List (List ℕ × Vec ℕ A)) (place : ℕ) (other : List ℕ × Vec ℕ A) → place ≡ position_or_len (is_named name) files → place < length files → find (slice_cmp nat_cmp) name (entries_of files) ≡ Some (get_or files place other).1.items
  found_at name [] place other e h = absurd (omega arith)
  found_at name (file ∷ files) place other e h =
      let n = position_or_len (is_named name) files in
      elim (eq_by_cmp (slice_cmp nat_cmp) name file.0) as (λ b. place ≡ cond (not b) (1 + n) 0 → cond b (Some file.1.items) (find (slice_cmp nat_cmp) name (entries_of files)) ≡ Some (get_or (file ∷ files) place other).1.items) [
        | true ↦ λ first. rw first refl
        | false ↦ λ later.
            let next : place ≡ suc n = omega arith in
            let within : n < length files = omega arith in
            rw next (found_at name files n other refl within)
      ] (subst (λ (b : Bool). place ≡ cond (not b) (1 + n) 0) (texts_ties name file.0) e)

  missing : (name : List ℕ) (files : List (List ℕ × Vec ℕ A)) → length files ≤ position_or_len (is_named name) files → find (slice_cmp nat_cmp) name (entries_of files) ≡ None
  missing name [] h = refl
  missing name (file ∷ files) h =
      let n = position_or_len (is_named name) files in
      elim (eq_by_cmp (slice_cmp nat_cmp) name file.0) as (λ b. suc (length files) ≤ cond (not b) (1 + n) 0 → cond b (Some file.1.items) (find (slice_cmp nat_cmp) name (entries_of files)) ≡ None) [
        | true ↦ λ first. absurd (omega arith)
        | false ↦ λ later. let rest : length files ≤ n = omega arith in missing name files rest
      ] (subst (λ (b : Bool). suc (length files) ≤ cond (not b) (1 + n) 0) (texts_ties name file.0) h)

  -- the bytes of a name are those at its place
  pub find_at_place : (name : List ℕ) (files : List (List ℕ × Vec ℕ A)) (place : ℕ) (other : List ℕ × Vec ℕ A) → Some place ≡ position (is_named name) files → find (slice_cmp nat_cmp) name (entries_of files) ≡ Some (get_or files place other).1.items
  find_at_place name files place other e =
      let at : place ≡ position_or_len (is_named name) files = grind (arith, common_steps) in
      let within : place < length files = grind (arith, common_steps) in
      found_at name files place other at within

  -- a name without a place has no bytes
  pub find_without_place : (name : List ℕ) (files : List (List ℕ × Vec ℕ A)) → None ≡ position (is_named name) files → find (slice_cmp nat_cmp) name (entries_of files) ≡ None
  find_without_place name files e =
      let end : length files ≤ position_or_len (is_named name) files = grind (arith, common_steps) in
      missing name files end

  -- the entry at a name's place has that name
  pub named_at_place : (name : List ℕ) (files : List (List ℕ × Vec ℕ A)) (place : ℕ) (other : List ℕ × Vec ℕ A) → Some place ≡ position (is_named name) files → (get_or files place other).0 ≡ name
  named_at_place name files place other e =
      sym ((bytes_decides name _).0 (position-Some (is_named name) files place other (sym e)).1)

  put_at : (key name : List ℕ) (files : List (List ℕ × Vec ℕ A)) (place : ℕ) (bytes : Vec ℕ A) → place ≡ position_or_len (is_named key) files → place < length files → find (slice_cmp nat_cmp) name (entries_of (set files place (key, bytes))) ≡ cond (eq_by_cmp (slice_cmp nat_cmp) name key) (Some bytes.items) (find (slice_cmp nat_cmp) name (entries_of files))
  put_at key name [] place bytes e h = absurd (omega arith)
  put_at key name (file ∷ files) place bytes e h =
      let n = position_or_len (is_named key) files in
      let rest = find (slice_cmp nat_cmp) name (entries_of files) in
      elim (eq_by_cmp (slice_cmp nat_cmp) key file.0) as (λ b. eq_by_cmp (slice_cmp nat_cmp) key file.0 ≡ b → place ≡ cond (not b) (1 + n) 0 → find (slice_cmp nat_cmp) name (entries_of (set (file ∷ files) place (key, bytes))) ≡ cond (eq_by_cmp (slice_cmp nat_cmp) name key) (Some bytes.items) (cond (eq_by_cmp (slice_cmp nat_cmp) name file.0) (Some file.1.items) rest)) [
        | true ↦ λ same first.
            rw first (subst (λ (other : List ℕ). cond (eq_by_cmp (slice_cmp nat_cmp) name key) (Some bytes.items) rest ≡ cond (eq_by_cmp (slice_cmp nat_cmp) name key) (Some bytes.items) (cond (eq_by_cmp (slice_cmp nat_cmp) name other) (Some file.1.items) rest))
            (same_name key file.0 same) (shadowed (eq_by_cmp (slice_cmp nat_cmp) name key) (Some bytes.items) (Some file.1.items) rest))
        | false ↦ λ apart later.
            let next : place ≡ suc n = omega arith in
            let within : n < length files = omega arith in
            rw next (ap (cond (eq_by_cmp (slice_cmp nat_cmp) name file.0) (Some file.1.items)) (put_at key name files n bytes refl within)
            ∙ swapped (eq_by_cmp (slice_cmp nat_cmp) name file.0) (eq_by_cmp (slice_cmp nat_cmp) name key) (Some file.1.items) (Some bytes.items) rest (both_names name file.0 key apart))
      ] refl (subst (λ (b : Bool). place ≡ cond (not b) (1 + n) 0) (texts_ties key file.0) e)

  -- other bytes at its place: the name has these, and all else stays
  pub files_of-set : (name : List ℕ) (files : List (List ℕ × Vec ℕ A)) (place : ℕ) (bytes : Vec ℕ A) → Some place ≡ position (is_named name) files → files_of (set files place (name, bytes)) ≡ insert (files_of files) name bytes.items
  files_of-set name files place bytes e =
      let at : place ≡ position_or_len (is_named name) files = grind (arith, common_steps) in
      let within : place < length files = grind (arith, common_steps) in
      same_map nat_list_cmp_total same_keys _ _ (λ key. get-files_of (set files place (name, bytes)) key ∙ put_at name key files place bytes at within ∙ ap (cond (eq_by_cmp (slice_cmp nat_cmp) key name) (Some bytes.items)) (sym (get-files_of files key)) ∙ sym (get-insert nat_list_cmp_total (files_of files) name bytes.items key))

  entries_of-push : (files : List (List ℕ × Vec ℕ A)) (file : List ℕ × Vec ℕ A) → entries_of (files ++ file ∷ []) ≡ entries_of files ++ (file.0, file.1.items) ∷ []
  entries_of-push [] file = refl
  entries_of-push (f ∷ files) file = ap (λ es. (f.0, f.1.items) ∷ es) (entries_of-push files file)

  -- a new name at the end: it has its bytes, and all else stays
  pub files_of-push : (name : List ℕ) (files : List (List ℕ × Vec ℕ A)) (bytes : Vec ℕ A) → None ≡ position (is_named name) files → files_of (files ++ (name, bytes) ∷ []) ≡ insert (files_of files) name bytes.items
  files_of-push name files bytes e =
      ap from_entries (entries_of-push files (name, bytes)) ∙ from_entries_push nat_list_cmp_total same_keys (entries_of files) name bytes.items (find_without_place name files e)
