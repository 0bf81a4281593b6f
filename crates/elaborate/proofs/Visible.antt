-- What the names of a walk stand for.
use Rattle.std.proofs.Common.{◌≡◌, ℕ, ◌<◌, Bool, true, false, List, [], length, Option, None, Some, option_map, refl, sym, ap, ◌∙◌}
use mathlib.Core.Path.{fun_ext}
use Rattle.sv_ast.specs.declared.expression.Expr.{Expr}
use Rattle.const_eval.specs.declared.env.Bound.{Bound}
use Rattle.const_eval.specs.declared.env.Bound.TheVariants.{Variable}
use Rattle.const_eval.specs.declared.env.Env.{Env}
use Rattle.const_eval.specs.Env.{bound_of}
use Rattle.const_eval.specs.Constant.{named_of, constant_of}
use Rattle.const_eval.specs.Expressions.{meaning_of}
use Rattle.net_ir.specs.declared.design.Var.{Var}
use Rattle.net_ir.specs.declared.design.Driver.{Driver}
use Rattle.width_rules.specs.Selecting.{Lookup}
use Rattle.width_rules.specs.Scope.{IsScope}
use Rattle.elaborate.specs.declared.names.Labels.{Labels}
use Rattle.elaborate.specs.declared.walk.Walk.{Walk}
use Rattle.elaborate.specs.Names.{Names, bound_in, bounds, constant_at, no_names}
use Rattle.elaborate.specs.Reached.{Reached, start}
use Rattle.elaborate.specs.code.Walking.{has_label, seen_or, seen_in, reached, IsSound}

-- a name that is seen stands for what it is bound to
pub bound_seen : (label : Bool) (b : Option Bound) → bound_in (seen_or label b) ≡ b
bound_seen label (Some b) = refl
bound_seen true None = refl
bound_seen false None = refl

-- what the names that have a value stand for in a walk
pub bounds_of : (w : Walk) → bounds (seen_in w) ≡ bound_of w.scope.names
bounds_of w = fun_ext (λ name. bound_seen (has_label w.labels name) (bound_of w.scope.names name))

-- what a constant expression means in a walk
pub constant_same : (w : Walk) (e : Expr) → constant_at (seen_in w) e ≡ constant_of w.scope.names e
constant_same w e = ap (λ (l : Lookup). meaning_of (λ name. option_map named_of (l name)) true e) (bounds_of w)

-- the names, nets and variables of a sound walk are a scope
pub scope_of : (w : Walk) → IsSound (reached w) → IsScope w.scope
scope_of w sound = record {
  there = λ name x is. sound.there name x (bound_seen (has_label w.labels name) (bound_of w.scope.names name) ∙ is);
  widths = sound.widths;
}

-- the names of a sound walk stay so where one of them is a label now
pub sound_labelled : (w : Walk) (labels : Labels) → IsSound (reached w) →
    (name : List ℕ) (x : ℕ) → bound_in (seen_or (has_label labels name) (bound_of w.scope.names name)) ≡ Some (Variable x) → x < length w.scope.vars
sound_labelled w labels sound name x is =
    let b = bound_of w.scope.names name in
    sound.there name x (bound_seen (has_label w.labels name) b ∙ sym (bound_seen (has_label labels name) b) ∙ is)

-- before the first word no name is visible
pub none_seen : (env : Env) (labels : Labels) → ((name : List ℕ) → bound_of env name ≡ None) → ((name : List ℕ) → has_label labels name ≡ false) →
    (λ name. seen_or (has_label labels name) (bound_of env name)) ≡ no_names
none_seen env labels unbound unlabelled =
    fun_ext (λ name. ap (λ (b : Bool). seen_or b (bound_of env name)) (unlabelled name) ∙ ap (seen_or false) (unbound name))

-- what is reached where nothing is read
pub nothing_reached : (env : Env) (labels : Labels) (vars : List Var) (drivers : List Driver) → ((name : List ℕ) → bound_of env name ≡ None) →
    ((name : List ℕ) → has_label labels name ≡ false) → vars ≡ [] → drivers ≡ [] →
    reached (record { scope = record { names = env; vars = vars }; labels = labels; drivers = drivers; assignments = 0 }) ≡ start
nothing_reached env labels vars drivers unbound unlabelled no_vars no_drivers =
    ap (λ (names : Names). made names vars drivers) (none_seen env labels unbound unlabelled)
    ∙ ap (λ vs. made no_names vs drivers) no_vars
    ∙ ap (λ ds. made no_names [] ds) no_drivers
  where
    made : Names → List Var → List Driver → Reached
    made names vs ds = record { names = names; vars = vs; drivers = ds; assignments = 0 }
