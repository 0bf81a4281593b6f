-- Names of targets and marks of variables, and the loops that set and read them.
use Rattle.std.proofs.Common.{◌≡◌, ℕ, zero, suc, ◌<◌, ◌≤◌, ◌+◌, List, [], ◌∷◌, ◌++◌, length, drop, get_or, Bool, true, false, refl, sym, ◌∙◌, ap, subst, arith, add-one, drop-cons, None, Some, inl, inr}
use Rattle.std.specs.Prelude.{◌&&◌, ◌||◌, ◌==◌, slice_index_or, slice_set, replicate, ◌⊎◌}
use Rattle.std.specs.List.{flat_map, list_all}
use Rattle.std.proofs.lemmas.Bool.Decides.{nat_tests}
use Rattle.std.proofs.lemmas.List.{append-nil, get_or-set_same, get_or-set_other, drop_all, length-set, length-replicate}
use Rattle.std.proofs.lemmas.List.Folds.{list_all-append, flat_map-map}
use Rattle.std.proofs.lemmas.List.Concat.{flat_map-append}
use Rattle.bit_ops.specs.declared.operation.Op.{Op}
use Rattle.net_ir.specs.declared.term.Term.{Term, Apply}
use Rattle.net_ir.specs.declared.term.Term.TheVariants.{outs-Apply}
use Rattle.net_ir.specs.declared.term.Term.TheFolds.{map-Term, fold_out-Term}
use Rattle.net_ir.specs.declared.statement.Target.{Target, List as Parts}
use Rattle.net_ir.specs.declared.statement.Target.TheOpen as target
use Rattle.net_ir.specs.declared.statement.Target.TheOpen.{Target-F}
use Rattle.net_ir.specs.declared.statement.Target.TheVariants.{outs-List}
use Rattle.net_ir.specs.declared.statement.Target.TheViews.{out-Target}
use Rattle.net_ir.specs.declared.statement.Target.TheFolds.{map-Target, fold_out-Target}
use Rattle.net_ir.specs.declared.statement.Arm.{Arm}
use Rattle.net_ir.specs.declared.statement.Stmt.{Stmt, Block, If, Case, Assign}
use Rattle.net_ir.specs.declared.statement.Stmt.TheOpen as statement
use Rattle.net_ir.specs.declared.statement.Stmt.TheOpen.{Stmt-F}
use Rattle.net_ir.specs.declared.statement.Stmt.TheVariants.{outs-Block, outs-If, outs-Case, outs-Assign}
use Rattle.net_ir.specs.declared.statement.Stmt.TheViews.{out-Stmt}
use Rattle.net_ir.specs.declared.statement.Stmt.TheFolds.{map-Stmt, fold_out-Stmt, fold_out-Arm}
use Rattle.net_ir.specs.Value.{reads_of, reads_of_layer}
use Rattle.net_ir.specs.Target.{target_vars, target_vars_layer, target_reads, target_reads_layer}
use Rattle.net_ir.specs.Statement.{targets_of, targets_of_layer, arm_targets}
use Rattle.net_ir.specs.Face.{stands_in}
use Rattle.net_ir.specs.Marks.{mark_all, AreMarksOf}
use Rattle.plain_run.specs.Plain.{named_by}
use Rattle.plain_run.specs.code.Marks.{targets_of_arm, named_in, named_in_arm}

-- ---- what terms read, and what targets name

pub reads_apply : (op : Op) (width lo : ℕ) (args : List Term) → reads_of (Apply op width lo args) ≡ flat_map reads_of args
reads_apply op width lo args =
    fold_out-Term (List ℕ) reads_of_layer (Apply op width lo args)
    ∙ ap (λ x. reads_of_layer (map-Term Term (List ℕ) reads_of x)) (outs-Apply op width lo args)
    ∙ flat_map-map (λ (reads : List ℕ). reads) reads_of args

pub vars_layer : (t : Target) (x : Target-F Target) → out-Target t ≡ x → target_vars t ≡ target_vars_layer (map-Target Target (List ℕ) target_vars x)
vars_layer t x is = fold_out-Target (List ℕ) target_vars_layer t ∙ ap (λ y. target_vars_layer (map-Target Target (List ℕ) target_vars y)) is

pub reads_layer : (t : Target) (x : Target-F Target) → out-Target t ≡ x → target_reads t ≡ target_reads_layer (map-Target Target (List ℕ) target_reads x)
reads_layer t x is = fold_out-Target (List ℕ) target_reads_layer t ∙ ap (λ y. target_reads_layer (map-Target Target (List ℕ) target_reads y)) is

pub parts_vars : (parts : List Target) → target_vars (Parts parts) ≡ flat_map target_vars parts
parts_vars parts = vars_layer (Parts parts) (target.List parts) (outs-List parts) ∙ flat_map-map (λ (vars : List ℕ). vars) target_vars parts

-- ---- what statements name

targets_layer : (s : Stmt) (x : Stmt-F Stmt Arm) → out-Stmt s ≡ x →
    targets_of s ≡ targets_of_layer (map-Stmt Stmt Arm (List Target) (List Target) targets_of targets_of_arm x)
targets_layer s x is =
    fold_out-Stmt (List Target) (List Target) targets_of_layer arm_targets s
    ∙ ap (λ y. targets_of_layer (map-Stmt Stmt Arm (List Target) (List Target) targets_of targets_of_arm y)) is

flat_twice : {X Y Z : Type 0} (g : Y → List Z) (f : X → List Y) (xs : List X) → flat_map g (flat_map f xs) ≡ flat_map (λ x. flat_map g (f x)) xs
flat_twice g f [] = refl
flat_twice g f (x ∷ xs) = flat_map-append g (f x) (flat_map f xs) ∙ ap (λ zs. flat_map g (f x) ++ zs) (flat_twice g f xs)

pub block_targets : (parts : List Stmt) → targets_of (Block parts) ≡ flat_map targets_of parts
block_targets parts = targets_layer (Block parts) (statement.Block parts) (outs-Block parts) ∙ flat_map-map (λ (ts : List Target). ts) targets_of parts

pub block_named : (parts : List Stmt) → named_in (Block parts) ≡ flat_map named_in parts
block_named parts = ap named_by (block_targets parts) ∙ flat_twice target_vars targets_of parts

pub if_targets : (test : Term) (first second : Stmt) → targets_of (If test first (Some second)) ≡ targets_of first ++ targets_of second
if_targets test first second = targets_layer (If test first (Some second)) (statement.If test first (Some second)) (outs-If test first (Some second))

pub if_alone_targets : (test : Term) (first : Stmt) → targets_of (If test first None) ≡ targets_of first
if_alone_targets test first =
    targets_layer (If test first None) (statement.If test first None) (outs-If test first None) ∙ append-nil (targets_of first)

pub assign_targets : (blocking : Bool) (to : Target) (value : Term) → targets_of (Assign blocking to value) ≡ to ∷ []
assign_targets blocking to value = targets_layer (Assign blocking to value) (statement.Assign blocking to value) (outs-Assign blocking to value)

pub arm_targets_are : (arm : Arm) → targets_of_arm arm ≡ targets_of arm.body
arm_targets_are arm = fold_out-Arm (List Target) (List Target) targets_of_layer arm_targets arm

pub case_targets : (value : Term) (arms : List Arm) → targets_of (Case value arms) ≡ flat_map targets_of_arm arms
case_targets value arms =
    targets_layer (Case value arms) (statement.Case value arms) (outs-Case value arms) ∙ flat_map-map (λ (ts : List Target). ts) targets_of_arm arms

pub case_named : (value : Term) (arms : List Arm) → named_in (Case value arms) ≡ flat_map named_in_arm arms
case_named value arms =
    ap named_by (case_targets value arms)
    ∙ flat_twice target_vars targets_of_arm arms

-- ---- loops over a list

pub split_items : {X : Type 0} (xs : List X) (i : ℕ) (a : X) → i < length xs → a ≡ get_or xs i a → drop i xs ≡ a ∷ drop (i + 1) xs
split_items xs i a within is = rw (add-one, drop-cons xs i a within) (ap (λ x. x ∷ drop (suc i) xs) (sym is))

append_assoc : {X : Type 0} (xs ys zs : List X) → ((xs ++ ys) ++ zs) ≡ (xs ++ (ys ++ zs))
append_assoc [] ys zs = refl
append_assoc (x ∷ xs) ys zs = ap (λ rest. x ∷ rest) (append_assoc xs ys zs)

-- what one item more gives is added
pub push_more : {X Y : Type 0} (f : X → List Y) (xs : List X) (i : ℕ) (a : X) (before after all : List Y) → i < length xs → a ≡ get_or xs i a →
    after ≡ before ++ f a → before ++ flat_map f (drop i xs) ≡ all → after ++ flat_map f (drop (i + 1) xs) ≡ all
push_more f xs i a before after all within is pushed so_far =
    ap (λ ys. ys ++ flat_map f (drop (i + 1) xs)) pushed
    ∙ append_assoc before (f a) (flat_map f (drop (i + 1) xs))
    ∙ sym (ap (λ ys. before ++ flat_map f ys) (split_items xs i a within is))
    ∙ so_far

-- one item more passes
pub all_more : {X Y : Type 0} (p : Y → Bool) (f : X → List Y) (xs : List X) (i : ℕ) (a : X) (all : Bool) → i < length xs → a ≡ get_or xs i a →
    list_all p (f a) ≡ true → list_all p (flat_map f (drop i xs)) ≡ all → list_all p (flat_map f (drop (i + 1) xs)) ≡ all
all_more p f xs i a all within is pass so_far =
    sym (ap (λ t. t && list_all p (flat_map f (drop (i + 1) xs))) pass)
    ∙ sym (list_all-append p (f a) (flat_map f (drop (i + 1) xs)))
    ∙ sym (ap (λ ys. list_all p (flat_map f ys)) (split_items xs i a within is))
    ∙ so_far

-- one fails
pub all_fails : {X Y : Type 0} (p : Y → Bool) (f : X → List Y) (xs : List X) (i : ℕ) (a : X) (all : Bool) → i < length xs → a ≡ get_or xs i a →
    list_all p (f a) ≡ false → list_all p (flat_map f (drop i xs)) ≡ all → false ≡ all
all_fails p f xs i a all within is fail so_far =
    sym (ap (λ t. t && list_all p (flat_map f (drop (i + 1) xs))) fail)
    ∙ sym (list_all-append p (f a) (flat_map f (drop (i + 1) xs)))
    ∙ sym (ap (λ ys. list_all p (flat_map f ys)) (split_items xs i a within is))
    ∙ so_far

-- the same of the items themselves
pub each_fails : {X : Type 0} (p : X → Bool) (xs : List X) (i : ℕ) (a : X) (all : Bool) → i < length xs → a ≡ get_or xs i a → p a ≡ false →
    list_all p (drop i xs) ≡ all → false ≡ all
each_fails p xs i a all within is fail so_far =
    sym (ap (λ t. t && list_all p (drop (i + 1) xs)) fail) ∙ sym (ap (list_all p) (split_items xs i a within is)) ∙ so_far

pub each_done : {X : Type 0} (p : X → Bool) (xs : List X) (i : ℕ) (all : Bool) → length xs ≤ i → list_all p (drop i xs) ≡ all → true ≡ all
each_done p xs i all past so_far = sym (ap (list_all p) (drop_all i xs past)) ∙ so_far

-- ---- what marks tell

pub length_marks : (xs : List ℕ) (marks : List Bool) → length (mark_all xs marks) ≡ length marks
length_marks [] marks = refl
length_marks (x ∷ xs) marks = length_marks xs (slice_set marks x true) ∙ length-set marks x true

pub same_test : (a b : ℕ) → a ≡ b → (a == b) ≡ true
same_test a b h = grind (arith, nat_tests)

pub other_test : (a b : ℕ) → (a ≡ b → ⊥) → (a == b) ≡ false
other_test a b h = grind (arith, nat_tests)

pub same_from_test : (a b : ℕ) → (a == b) ≡ true → a ≡ b
same_from_test a b h = grind (arith, nat_tests)

same_or_other : (a b : ℕ) → (a ≡ b) ⊎ (a ≡ b → ⊥)
same_or_other a b = decide (a == b) refl where
  decide : (t : Bool) → (a == b) ≡ t → (a ≡ b) ⊎ (a ≡ b → ⊥)
  decide true h = inl (same_from_test a b h)
  decide false h = inr (λ e. absurd (let clash : true ≡ false = sym (same_test a b e) ∙ h in cc))

or_true : (a : Bool) → (a || true) ≡ true
or_true true = refl
or_true false = refl

-- a mark is set where its number is among those that are marked
pub marked_at : (xs : List ℕ) (marks : List Bool) (x : ℕ) → x < length marks →
    slice_index_or (mark_all xs marks) x false ≡ (slice_index_or marks x false || stands_in x xs)
marked_at [] marks x within = or_none (slice_index_or marks x false) where
  or_none : (a : Bool) → a ≡ (a || false)
  or_none true = refl
  or_none false = refl
marked_at (y ∷ xs) marks x within =
    marked_at xs (slice_set marks y true) x (subst (λ n. x < n) (sym (length-set marks y true)) within) ∙ by_case (same_or_other y x) where
      by_case : (y ≡ x) ⊎ (y ≡ x → ⊥) →
          (slice_index_or (slice_set marks y true) x false || stands_in x xs) ≡ (slice_index_or marks x false || ((y == x) || stands_in x xs))
      by_case (inl same) =
          ap (λ t. t || stands_in x xs)
          (subst (λ z. slice_index_or (slice_set marks y true) z false ≡ true) same
          (get_or-set_same marks y true false (subst (λ z. z < length marks) (sym same) within)))
          ∙ sym (ap (λ t. slice_index_or marks x false || (t || stands_in x xs)) (same_test y x same) ∙ or_true (slice_index_or marks x false))
      by_case (inr other) =
          ap (λ t. t || stands_in x xs) (get_or-set_other marks y x true false (λ e. other (sym e)))
          ∙ sym (ap (λ t. slice_index_or marks x false || (t || stands_in x xs)) (other_test y x other))

no_marks : (n x : ℕ) → slice_index_or (replicate n false) x false ≡ false
no_marks zero x = refl
no_marks (suc n) zero = refl
no_marks (suc n) (suc x) = no_marks n x

-- marks that were clear at first tell what was marked
pub marks_tell : (n : ℕ) (xs : List ℕ) (first marks : List Bool) → first ≡ replicate n false → marks ≡ mark_all xs first → AreMarksOf n xs marks
marks_tell n xs first marks clear is =
    let long : length first ≡ n = ap length clear ∙ length-replicate n false in
    record {
      each = ap length is ∙ length_marks xs first ∙ long;
      tell = λ x within.
          ap (λ m. slice_index_or m x false) is ∙ marked_at xs first x (subst (λ k. x < k) (sym long) within)
          ∙ ap (λ t. t || stands_in x xs) (ap (λ m. slice_index_or m x false) clear ∙ no_marks n x);
    }
