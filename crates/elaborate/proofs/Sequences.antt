-- Parts of the text one behind another, what a loop keeps that goes through them, and where one of them is refused.
use Rattle.std.proofs.Common.{◌≡◌, ℕ, ◌+◌, ◌<◌, ◌≤◌, List, [], ◌∷◌, ◌++◌, length, map, drop, get_or, refl, sym, ◌∙◌, ap, suc, add-one, append_assoc, drop-cons, drop_of_length-le}
use Rattle.std.specs.Prelude.{Option, Result, Ok, Err}
use Rattle.std.proofs.lemmas.List.{append-nil}
use Rattle.sv_base.specs.declared.fault.Fault.{Fault}
use Rattle.sv_base.specs.declared.fault.Fault.TheVariants.{Refused, NoMemory}
use Rattle.sv_base.specs.declared.refusal.Place.{Place}
use Rattle.sv_base.specs.declared.refusal.Refusal.{Refusal}
use Rattle.sv_base.specs.Faults.{IfRefused}
use Rattle.sv_ast.specs.declared.expression.Id.{Id}
use Rattle.sv_ast.specs.declared.expression.Expr.{Expr}
use Rattle.sv_ast.specs.declared.statement.Stmt as source
use Rattle.sv_ast.specs.declared.statement.Stmt.TheVariants.{outs-Block, outs-Case}
use Rattle.sv_ast.specs.declared.statement.Stmt.TheFolds.{map-Stmt, fold_out-Stmt, fold_out-CaseItem}
use Rattle.sv_ast.specs.declared.statement.CaseItem.{CaseItem}
use Rattle.const_eval.specs.Expressions.{◌>>=◌}
use Rattle.const_eval.specs.code.Agreeing.{Agrees}
use Rattle.net_ir.specs.declared.statement.Stmt.{Stmt}
use Rattle.net_ir.specs.declared.statement.Stmt as net
use Rattle.width_rules.specs.declared.measured.Measured.{Measured}
use Rattle.width_rules.specs.Built.{measured_of}
use Rattle.elaborate.specs.declared.statement.Waiting.{Waiting}
use Rattle.elaborate.specs.Names.{bounds}
use Rattle.elaborate.specs.Reached.{Reached}
use Rattle.elaborate.specs.Targets.{all_of}
use Rattle.elaborate.specs.Statements.{Given, labelled, sequence, measured_each, arm, case_of, statement_layer, arm_layer, statement, arm_of}

-- ---- what agrees

-- what was found is what is defined
pub is_found : {A : Type 0} (a : A) (j : Result A Refusal) → Agrees (λ found said. found ≡ said) (Ok a) j → j ≡ Ok a
is_found a (Ok b) h = ap Ok (sym h)
is_found a (Err refusal) h = absurd h

-- what was refused is refused
pub is_refused : {A : Type 0} (fault : Fault) (j : Result A Refusal) → Agrees {X = A} (λ found said. found ≡ said) (Err fault) j → IfRefused (λ refusal. j ≡ Err refusal) fault
is_refused (Refused r) (Ok b) h = absurd h
is_refused (Refused r) (Err refusal) h = ap Err (sym h)
is_refused NoMemory j h = tt

-- a refusal of a part is that of the whole
pub of_whole : {A B : Type 0} (fault : Fault) (part : Result A Refusal) (whole : Result B Refusal) → ((refusal : Refusal) → part ≡ Err refusal → whole ≡ Err refusal) → IfRefused (λ refusal. part ≡ Err refusal) fault → IfRefused (λ refusal. whole ≡ Err refusal) fault
of_whole (Refused r) part whole f h = f r h
of_whole NoMemory part whole f h = tt

-- ---- parts one behind another

-- what was found, then what more is given
abbrev pub behind_given : {A : Type 0} → List A → Result (List A × Reached) Refusal → Result (List A × Reached) Refusal
behind_given found given = given >>= λ more. Ok (found ++ more.0, more.1)

pub none_given : {A : Type 0} (rest : Result (List A × Reached) Refusal) → behind_given [] rest ≡ rest
none_given (Ok more) = refl
none_given (Err refusal) = refl

more_given : {A : Type 0} (found : List A) (a : A) (rest : Result (List A × Reached) Refusal) → behind_given found (rest >>= λ more. Ok (a ∷ more.0, more.1)) ≡ behind_given (found ++ a ∷ []) rest
more_given found a (Ok more) = ap (λ xs. Ok (xs, more.1)) (sym (append_assoc found (a ∷ []) more.0))
more_given found a (Err refusal) = refl

split : {X : Type 0} (xs : List X) (i : ℕ) (x : X) → i < length xs → x ≡ get_or xs i x → drop i xs ≡ x ∷ drop (i + 1) xs
split xs i x within is = rw (add-one, drop-cons xs i x within) (ap (λ y. y ∷ drop (suc i) xs) (sym is))

-- one part more
pub part_given : {X A : Type 0} (f : X → Given A) (xs : List X) (i : ℕ) (x : X) (a : A) (r s : Reached) (found : List A) (whole : Result (List A × Reached) Refusal) →
    i < length xs → x ≡ get_or xs i x → f x r ≡ Ok (a, s) → behind_given found (sequence (map f (drop i xs)) r) ≡ whole →
    behind_given (found ++ a ∷ []) (sequence (map f (drop (i + 1) xs)) s) ≡ whole
part_given {A = A} f xs i x a r s found whole within is here so_far =
    let rest = map f (drop (i + 1) xs) in
    sym (ap (λ zs. behind_given found (sequence (map f zs) r)) (split xs i x within is)
    ∙ ap (λ (o : Result (A × Reached) Refusal). behind_given found (o >>= λ b. sequence rest b.1 >>= λ more. Ok (b.0 ∷ more.0, more.1))) here
    ∙ more_given found a (sequence rest s))
    ∙ so_far

-- a part that is refused
pub part_refused : {X A : Type 0} (f : X → Given A) (xs : List X) (i : ℕ) (x : X) (r : Reached) (found : List A) (fault : Fault) (whole : Result (List A × Reached) Refusal) →
    i < length xs → x ≡ get_or xs i x → IfRefused (λ refusal. f x r ≡ Err refusal) fault → behind_given found (sequence (map f (drop i xs)) r) ≡ whole →
    IfRefused (λ refusal. whole ≡ Err refusal) fault
part_refused {A = A} f xs i x r found fault whole within is here so_far =
    let rest = map f (drop (i + 1) xs) in
    of_whole fault (f x r) whole
    (λ refusal e.
    sym so_far
    ∙ ap (λ zs. behind_given found (sequence (map f zs) r)) (split xs i x within is)
    ∙ ap (λ (o : Result (A × Reached) Refusal). behind_given found (o >>= λ b. sequence rest b.1 >>= λ more. Ok (b.0 ∷ more.0, more.1))) e)
    here

-- no part is left
pub all_given : {X A : Type 0} (f : X → Given A) (xs : List X) (i : ℕ) (r : Reached) (found : List A) (whole : Result (List A × Reached) Refusal) →
    length xs ≤ i → behind_given found (sequence (map f (drop i xs)) r) ≡ whole → whole ≡ Ok (found, r)
all_given f xs i r found whole long so_far =
    sym so_far ∙ ap (λ zs. behind_given found (sequence (map f zs) r)) (drop_of_length-le xs long) ∙ ap (λ ys. Ok (ys, r)) (append-nil found)

-- ---- statements

block_is : (label : Option Id) (parts : List source.Stmt) (r : Reached) →
    statement (source.Block label parts) r ≡ (labelled label r >>= λ s. sequence (map statement parts) s >>= λ b. Ok (net.Block b.0, b.1))
block_is label parts r =
    ap (λ (g : Given Stmt). g r) (fold_out-Stmt (Given Stmt) (Given Waiting) statement_layer arm_layer (source.Block label parts)
    ∙ ap (λ x. statement_layer (map-Stmt source.Stmt CaseItem (Given Stmt) (Given Waiting) statement arm_of x)) (outs-Block label parts))

-- a block, one of whose parts is refused
pub block_refused : (s : source.Stmt) (label : Option Id) (parts slice : List source.Stmt) (r t : Reached) (fault : Fault) → s ≡ source.Block label parts → slice ≡ parts →
    labelled label r ≡ Ok t → IfRefused (λ refusal. sequence (map statement slice) t ≡ Err refusal) fault → IfRefused (λ refusal. statement s r ≡ Err refusal) fault
block_refused s label parts slice r t fault is same begun here =
    of_whole fault (sequence (map statement slice) t) (statement s r)
    (λ refusal e.
    ap (λ x. statement x r) is ∙ block_is label parts r
    ∙ ap (λ (o : Result Reached Refusal). o >>= λ u. sequence (map statement parts) u >>= λ b. Ok (net.Block b.0, b.1)) begun
    ∙ ap (λ (o : Result (List Stmt × Reached) Refusal). o >>= λ b. Ok (net.Block b.0, b.1)) (ap (λ xs. sequence (map statement xs) t) (sym same) ∙ e))
    here

case_is : (place : Place) (value : Expr) (arms : List CaseItem) (r : Reached) →
    statement (source.Case place value arms) r ≡ (measured_of (bounds r.names) r.vars value >>= λ m. sequence (map arm_of arms) r >>= λ ws. Ok (case_of m ws.0, ws.1))
case_is place value arms r =
    ap (λ (g : Given Stmt). g r) (fold_out-Stmt (Given Stmt) (Given Waiting) statement_layer arm_layer (source.Case place value arms)
    ∙ ap (λ x. statement_layer (map-Stmt source.Stmt CaseItem (Given Stmt) (Given Waiting) statement arm_of x)) (outs-Case place value arms))

-- a `case`, one of whose arms is refused
pub case_refused : (s : source.Stmt) (place : Place) (value : Expr) (m : Measured) (arms slice : List CaseItem) (r : Reached) (fault : Fault) → s ≡ source.Case place value arms →
    slice ≡ arms → measured_of (bounds r.names) r.vars value ≡ Ok m → IfRefused (λ refusal. sequence (map arm_of slice) r ≡ Err refusal) fault →
    IfRefused (λ refusal. statement s r ≡ Err refusal) fault
case_refused s place value m arms slice r fault is same begun here =
    of_whole fault (sequence (map arm_of slice) r) (statement s r)
    (λ refusal e.
    ap (λ x. statement x r) is ∙ case_is place value arms r
    ∙ ap (λ (o : Result Measured Refusal). o >>= λ n. sequence (map arm_of arms) r >>= λ ws. Ok (case_of n ws.0, ws.1)) begun
    ∙ ap (λ (o : Result (List Waiting × Reached) Refusal). o >>= λ ws. Ok (case_of m ws.0, ws.1)) (ap (λ xs. sequence (map arm_of xs) r) (sym same) ∙ e))
    here

-- ---- arms

arm_is : (item : CaseItem) (r : Reached) → arm_of item r ≡ arm item.labels (statement item.body) r
arm_is item r = ap (λ (g : Given Waiting). g r) (fold_out-CaseItem (Given Stmt) (Given Waiting) statement_layer arm_layer item)

abbrev after_labels : (item : CaseItem) (r : Reached) (o : Result (List Measured) Refusal) → Result (Waiting × Reached) Refusal
after_labels item r o = o >>= λ measured. statement item.body r >>= λ b. Ok (record { labels = measured; body = b.0 }, b.1)

-- an arm, whose labels and body are given
pub arm_given : (item : CaseItem) (labels : List Expr) (ms : List Measured) (b : Stmt) (r s : Reached) → labels ≡ item.labels →
    all_of (measured_each r.names r.vars labels) ≡ Ok ms → statement item.body r ≡ Ok (b, s) → arm_of item r ≡ Ok (record { labels = ms; body = b }, s)
arm_given item labels ms b r s same found made =
    arm_is item r
    ∙ ap (after_labels item r) (ap (λ es. all_of (measured_each r.names r.vars es)) (sym same) ∙ found)
    ∙ ap (λ (o : Result (Stmt × Reached) Refusal). o >>= λ c. Ok (record { labels = ms; body = c.0 }, c.1)) made

-- an arm, one of whose labels is refused
pub labels_refused : (item : CaseItem) (labels : List Expr) (r : Reached) (fault : Fault) → labels ≡ item.labels →
    IfRefused (λ refusal. all_of (measured_each r.names r.vars labels) ≡ Err refusal) fault → IfRefused (λ refusal. arm_of item r ≡ Err refusal) fault
labels_refused item labels r fault same here =
    of_whole fault (all_of (measured_each r.names r.vars labels)) (arm_of item r)
    (λ refusal e. arm_is item r ∙ ap (after_labels item r) (ap (λ es. all_of (measured_each r.names r.vars es)) (sym same) ∙ e))
    here

-- an arm, whose body is refused
pub body_refused : (item : CaseItem) (labels : List Expr) (ms : List Measured) (r : Reached) (fault : Fault) → labels ≡ item.labels →
    all_of (measured_each r.names r.vars labels) ≡ Ok ms → IfRefused (λ refusal. statement item.body r ≡ Err refusal) fault → IfRefused (λ refusal. arm_of item r ≡ Err refusal) fault
body_refused item labels ms r fault same found here =
    of_whole fault (statement item.body r) (arm_of item r)
    (λ refusal e.
    arm_is item r
    ∙ ap (after_labels item r) (ap (λ es. all_of (measured_each r.names r.vars es)) (sym same) ∙ found)
    ∙ ap (λ (o : Result (Stmt × Reached) Refusal). o >>= λ c. Ok (record { labels = ms; body = c.0 }, c.1)) e)
    here
