-- Constants in a scope.
use Rattle.std.proofs.Common.{◌≡◌, ℕ, true, false, List, Option, None, Some, refl}
use Rattle.std.specs.Prelude.{option_map, slice_get, slice_index}
use Rattle.net_ir.specs.declared.design.Var.{Var}
use Rattle.const_eval.specs.declared.env.Bound.{Bound}
use Rattle.const_eval.specs.declared.env.Bound.TheVariants.{Constant, Variable}
use Rattle.const_eval.specs.Env.{bound_of}
use Rattle.const_eval.specs.Alike.{BothNamed, IsSameConstant, HaveSameConstants, IsSameButForWord, DifferInWords}
use Rattle.const_eval.specs.Constant.{named_of}
use Rattle.width_rules.specs.declared.scope.Scope.{Scope}
use Rattle.width_rules.specs.Scope.{variable_named, named_where, names_by, names_in}
use Rattle.width_rules.specs.Selecting.{Lookup}
use Rattle.width_rules.specs.Built.{constants_of}

-- names have the constants that they stand for
same_variable : (o : Option Var) (word : ℕ) (x : ℕ) → IsSameConstant (variable_named o word) (named_of (Variable x))
same_variable None word x = record { constant = refl; whole = λ is. absurd (let clash : false ≡ true = is in cc) }
same_variable (Some v) word x = record { constant = refl; whole = λ is. absurd (let clash : false ≡ true = is in cc) }

pub same_constants : (lookup : Lookup) (vars : List Var) (u : List ℕ) → HaveSameConstants (names_by lookup vars u) (constants_of lookup)
same_constants lookup vars u name = by_bound (lookup name) where
  by_bound : (o : Option Bound) → BothNamed IsSameConstant (named_where vars u o) (option_map named_of o)
  by_bound None = tt
  by_bound (Some (Constant value low)) = record { constant = refl; whole = λ is. refl }
  by_bound (Some (Variable x)) = same_variable (slice_get vars x) (slice_index u x) x

-- on other words its names differ in the words of nets and variables alone
same_but_for_word : (o : Option Var) (a b : ℕ) → IsSameButForWord (variable_named o a) (variable_named o b)
same_but_for_word None a b = record { constant = refl; ranged = refl; size = refl; signed = refl; whole = λ is. refl }
same_but_for_word (Some v) a b = record {
  constant = refl;
  ranged = refl;
  size = refl;
  signed = refl;
  whole = λ is. absurd (let clash : false ≡ true = is in cc);
}

pub differ_in_words : (scope : Scope) (u v : List ℕ) → DifferInWords (names_in scope u) (names_in scope v)
differ_in_words scope u v name = by_bound (bound_of scope.names name) where
  by_bound : (o : Option Bound) → BothNamed IsSameButForWord (named_where scope.vars u o) (named_where scope.vars v o)
  by_bound None = tt
  by_bound (Some (Constant value low)) = record { constant = refl; ranged = refl; size = refl; signed = refl; whole = λ is. refl }
  by_bound (Some (Variable x)) = same_but_for_word (slice_get scope.vars x) (slice_index u x) (slice_index v x)
