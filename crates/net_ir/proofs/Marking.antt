-- Marks of variables, and the loops that set and read them.
use Rattle.std.proofs.Common.{◌≡◌, ℕ, zero, suc, ◌<◌, ◌≤◌, ◌+◌, List, [], ◌∷◌, ◌++◌, length, drop, get_or, Bool, true, false, refl, sym, ◌∙◌, ap, subst, arith, add-one, drop-cons, inl, inr}
use Rattle.std.specs.Prelude.{◌||◌, ◌==◌, slice_index_or, slice_set, replicate, ◌⊎◌, None, Some}
use Rattle.std.specs.List.{flat_map}
use Rattle.std.proofs.lemmas.Bool.Decides.{nat_tests}
use Rattle.std.proofs.lemmas.List.{get_or-set_same, get_or-set_other, drop_all, length-set, length-replicate}
use Rattle.std.proofs.lemmas.List.Folds.{flat_map-map}
use Rattle.bit_ops.specs.declared.operation.Op.{Op}
use Rattle.net_ir.specs.declared.term.Term.{Term, Pick, Apply}
use Rattle.net_ir.specs.declared.term.Term.TheVariants.{outs-Pick, outs-Apply}
use Rattle.net_ir.specs.declared.term.Term.TheFolds.{map-Term, fold_out-Term}
use Rattle.net_ir.specs.declared.statement.Arm.{Arm}
use Rattle.net_ir.specs.declared.statement.Stmt.{Stmt, Block, If, Case, Assign}
use Rattle.net_ir.specs.declared.statement.Stmt.TheOpen as statement
use Rattle.net_ir.specs.declared.statement.Stmt.TheVariants.{outs-Block, outs-If, outs-Case, outs-Assign}
use Rattle.net_ir.specs.declared.statement.Stmt.TheOpen.{Stmt-F}
use Rattle.net_ir.specs.declared.statement.Stmt.TheViews.{out-Stmt}
use Rattle.net_ir.specs.declared.statement.Stmt.TheFolds.{map-Stmt, fold_out-Stmt, fold_out-Arm}
use Rattle.net_ir.specs.declared.statement.Target.{Target, List as Parts}
use Rattle.net_ir.specs.declared.statement.Target.TheOpen as layer
use Rattle.net_ir.specs.declared.statement.Target.TheVariants.{outs-List}
use Rattle.net_ir.specs.declared.statement.Target.TheOpen.{Target-F}
use Rattle.net_ir.specs.declared.statement.Target.TheViews.{out-Target}
use Rattle.net_ir.specs.declared.statement.Target.TheFolds.{map-Target, fold_out-Target}
use Rattle.net_ir.specs.Target.{target_reads, target_reads_layer}
use Rattle.net_ir.specs.Value.{reads_of, reads_of_layer}
use Rattle.net_ir.specs.Statement.{statement_reads, statement_reads_of_layer, arm_reads, reads_of_arm}
use Rattle.net_ir.specs.Face.{stands_in}
use Rattle.net_ir.specs.Marks.{mark_all, AreMarksOf}

-- ---- what terms and statements read

pub reads_apply : (op : Op) (width lo : ℕ) (args : List Term) → reads_of (Apply op width lo args) ≡ flat_map reads_of args
reads_apply op width lo args =
    fold_out-Term (List ℕ) reads_of_layer (Apply op width lo args)
    ∙ ap (λ x. reads_of_layer (map-Term Term (List ℕ) reads_of x)) (outs-Apply op width lo args)
    ∙ flat_map-map (λ (reads : List ℕ). reads) reads_of args

pub reads_pick : (base : Term) (low : ℕ) (at : Term) (at_signed down : Bool) (width : ℕ) →
    reads_of (Pick base low at at_signed down width) ≡ reads_of base ++ reads_of at
reads_pick base low at at_signed down width =
    fold_out-Term (List ℕ) reads_of_layer (Pick base low at at_signed down width)
    ∙ ap (λ x. reads_of_layer (map-Term Term (List ℕ) reads_of x)) (outs-Pick base low at at_signed down width)

-- ---- what statements and targets read

pub statement_layer : (s : Stmt) (x : Stmt-F Stmt Arm) → out-Stmt s ≡ x → statement_reads s ≡ statement_reads_of_layer (map-Stmt Stmt Arm (List ℕ) (List ℕ) statement_reads reads_of_arm x)
statement_layer s x is =
    fold_out-Stmt (List ℕ) (List ℕ) statement_reads_of_layer arm_reads s
    ∙ ap (λ y. statement_reads_of_layer (map-Stmt Stmt Arm (List ℕ) (List ℕ) statement_reads reads_of_arm y)) is

-- an arm reads what its labels do, and what its body does
pub arm_both : (arm : Arm) → reads_of_arm arm ≡ (flat_map reads_of arm.labels ++ statement_reads arm.body)
arm_both arm = fold_out-Arm (List ℕ) (List ℕ) statement_reads_of_layer arm_reads arm

pub target_layer : (t : Target) (x : Target-F Target) → out-Target t ≡ x → target_reads t ≡ target_reads_layer (map-Target Target (List ℕ) target_reads x)
target_layer t x is = fold_out-Target (List ℕ) target_reads_layer t ∙ ap (λ y. target_reads_layer (map-Target Target (List ℕ) target_reads y)) is

pub parts_reads : (parts : List Target) → target_reads (Parts parts) ≡ flat_map target_reads parts
parts_reads parts = target_layer (Parts parts) (layer.List parts) (outs-List parts) ∙ flat_map-map (λ (reads : List ℕ). reads) target_reads parts

pub block_reads : (parts : List Stmt) → statement_reads (Block parts) ≡ flat_map statement_reads parts
block_reads parts = statement_layer (Block parts) (statement.Block parts) (outs-Block parts) ∙ flat_map-map (λ (reads : List ℕ). reads) statement_reads parts

pub if_reads : (test : Term) (first second : Stmt) → statement_reads (If test first (Some second)) ≡ (reads_of test ++ statement_reads first ++ statement_reads second)
if_reads test first second = statement_layer (If test first (Some second)) (statement.If test first (Some second)) (outs-If test first (Some second))

pub if_alone_reads : (test : Term) (first : Stmt) → statement_reads (If test first None) ≡ (reads_of test ++ statement_reads first ++ [])
if_alone_reads test first = statement_layer (If test first None) (statement.If test first None) (outs-If test first None)

pub case_reads : (value : Term) (arms : List Arm) → statement_reads (Case value arms) ≡ (reads_of value ++ flat_map reads_of_arm arms)
case_reads value arms =
    statement_layer (Case value arms) (statement.Case value arms) (outs-Case value arms)
    ∙ ap (λ reads. reads_of value ++ reads) (flat_map-map (λ (reads : List ℕ). reads) reads_of_arm arms)

pub assign_reads : (blocking : Bool) (to : Target) (value : Term) → statement_reads (Assign blocking to value) ≡ (target_reads to ++ reads_of value)
assign_reads blocking to value = statement_layer (Assign blocking to value) (statement.Assign blocking to value) (outs-Assign blocking to value)

-- ---- loops over a list

split_items : {X : Type 0} (xs : List X) (i : ℕ) (a : X) → i < length xs → a ≡ get_or xs i a → drop i xs ≡ a ∷ drop (i + 1) xs
split_items xs i a within is = rw (add-one, drop-cons xs i a within) (ap (λ x. x ∷ drop (suc i) xs) (sym is))

pub mark_append : (xs ys : List ℕ) (marks : List Bool) → mark_all (xs ++ ys) marks ≡ mark_all ys (mark_all xs marks)
mark_append [] ys marks = refl
mark_append (x ∷ xs) ys marks = mark_append xs ys (slice_set marks x true)

pub mark_both : (xs ys : List ℕ) (first then after : List Bool) → then ≡ mark_all xs first → after ≡ mark_all ys then → after ≡ mark_all (xs ++ ys) first
mark_both xs ys first then after p q = q ∙ ap (mark_all ys) p ∙ sym (mark_append xs ys first)

-- one item more is marked
pub mark_more : {X : Type 0} (f : X → List ℕ) (xs : List X) (i : ℕ) (a : X) (marks after all : List Bool) → i < length xs → a ≡ get_or xs i a →
    after ≡ mark_all (f a) marks → mark_all (flat_map f (drop i xs)) marks ≡ all → mark_all (flat_map f (drop (i + 1) xs)) after ≡ all
mark_more f xs i a marks after all within is marked so_far =
    ap (mark_all (flat_map f (drop (i + 1) xs))) marked
    ∙ sym (mark_append (f a) (flat_map f (drop (i + 1) xs)) marks)
    ∙ sym (ap (λ ys. mark_all (flat_map f ys) marks) (split_items xs i a within is))
    ∙ so_far

pub mark_done : {X : Type 0} (f : X → List ℕ) (xs : List X) (i : ℕ) (marks all : List Bool) → length xs ≤ i → mark_all (flat_map f (drop i xs)) marks ≡ all →
    marks ≡ all
mark_done f xs i marks all past so_far = sym (ap (λ ys. mark_all (flat_map f ys) marks) (drop_all i xs past)) ∙ so_far

-- ---- what marks tell

length_marks : (xs : List ℕ) (marks : List Bool) → length (mark_all xs marks) ≡ length marks
length_marks [] marks = refl
length_marks (x ∷ xs) marks = length_marks xs (slice_set marks x true) ∙ length-set marks x true

same_test : (a b : ℕ) → a ≡ b → (a == b) ≡ true
same_test a b h = grind (arith, nat_tests)

other_test : (a b : ℕ) → (a ≡ b → ⊥) → (a == b) ≡ false
other_test a b h = grind (arith, nat_tests)

same_from_test : (a b : ℕ) → (a == b) ≡ true → a ≡ b
same_from_test a b h = grind (arith, nat_tests)

-- two numbers are one or are not
pub same_or_other : (a b : ℕ) → (a ≡ b) ⊎ (a ≡ b → ⊥)
same_or_other a b = decide (a == b) refl where
  decide : (t : Bool) → (a == b) ≡ t → (a ≡ b) ⊎ (a ≡ b → ⊥)
  decide true h = inl (same_from_test a b h)
  decide false h = inr (λ e. absurd (let clash : true ≡ false = sym (same_test a b e) ∙ h in cc))

or_true : (a : Bool) → (a || true) ≡ true
or_true true = refl
or_true false = refl

-- a mark is set where its number is among those that are marked
marked_at : (xs : List ℕ) (marks : List Bool) (x : ℕ) → x < length marks →
    slice_index_or (mark_all xs marks) x false ≡ (slice_index_or marks x false || stands_in x xs)
marked_at [] marks x within = or_none (slice_index_or marks x false) where
  or_none : (a : Bool) → a ≡ (a || false)
  or_none true = refl
  or_none false = refl
marked_at (y ∷ xs) marks x within =
    marked_at xs (slice_set marks y true) x (subst (λ n. x < n) (sym (length-set marks y true)) within) ∙ by_case (same_or_other y x) where
      by_case : (y ≡ x) ⊎ (y ≡ x → ⊥) →
          (slice_index_or (slice_set marks y true) x false || stands_in x xs) ≡ (slice_index_or marks x false || ((y == x) || stands_in x xs))
      by_case (inl same) =
          ap (λ t. t || stands_in x xs) (subst (λ z. slice_index_or (slice_set marks y true) z false ≡ true) same (get_or-set_same marks y true false (subst (λ z. z < length marks) (sym same) within)))
          ∙ sym (ap (λ t. slice_index_or marks x false || (t || stands_in x xs)) (same_test y x same) ∙ or_true (slice_index_or marks x false))
      by_case (inr other) =
          ap (λ t. t || stands_in x xs) (get_or-set_other marks y x true false (λ e. other (sym e)))
          ∙ sym (ap (λ t. slice_index_or marks x false || (t || stands_in x xs)) (other_test y x other))

no_marks : (n x : ℕ) → slice_index_or (replicate n false) x false ≡ false
no_marks zero x = refl
no_marks (suc n) zero = refl
no_marks (suc n) (suc x) = no_marks n x

-- marks that were clear at first tell what was marked
pub marks_tell : (n : ℕ) (xs : List ℕ) (first marks : List Bool) → first ≡ replicate n false → marks ≡ mark_all xs first → AreMarksOf n xs marks
marks_tell n xs first marks clear is =
    let long : length first ≡ n = ap length clear ∙ length-replicate n false in
    record {
      each = ap length is ∙ length_marks xs first ∙ long;
      tell = λ x within.
          ap (λ m. slice_index_or m x false) is ∙ marked_at xs first x (subst (λ k. x < k) (sym long) within)
          ∙ ap (λ t. t || stands_in x xs) (ap (λ m. slice_index_or m x false) clear ∙ no_marks n x);
    }
