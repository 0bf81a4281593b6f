-- An expression read one token after the other, with a stack of what is not finished. This is a device of the proofs:
-- what it makes of a run depends on the run alone, so it says which tokens go on with a run.
use Rattle.std.proofs.Common.{ℕ, ◌==◌, nat_le, nat_lt, List, [], ◌∷◌, ◌++◌, Option, Some, None, codes, if◌then◌else◌}
use Rattle.sv_lexer.specs.declared.token.TokenKind.{TokenKind}
use Rattle.sv_lexer.specs.declared.token.TokenKind.TheVariants as kind
use Rattle.sv_lexer.specs.declared.token.Token.{Token}
use Rattle.sv_ast.specs.declared.expression.Sel.TheVariants as sel
use Rattle.sv_ast.specs.declared.expression.Expr.{Expr}
use Rattle.sv_ast.specs.declared.expression.Expr.TheVariants as e
use Rattle.expr_parser.specs.Spelling.{is_identifier, is_function, is_unary, is_this, binds, left_least}
use Rattle.expr_parser.specs.Grammar.{Between, down_to, up_from, down_from, id_of, range_of}

-- what is not finished: a sign before an operand, a left operand with its sign, a condition with its `?`, these with the
-- first choice, and what stands in brackets, with what was read in them
pub data Frame : Type 0 where
  under_sign : Token → Frame
  behind_left : Expr → Token → Frame
  in_first : Expr → Token → Frame
  in_second : Expr → Token → Expr → Frame
  in_group : Frame
  in_call : Token → Frame
  in_select : (id opens : Token) → Frame
  in_range : Between → (id opens : Token) → Expr → Frame
  in_braces : Token → List Expr → Frame
  in_parts : Token → Expr → List Expr → Frame

-- what comes next: an operand, `(` behind a function, `[` or another token behind a name, another token behind an
-- operand, or the last `}` of a replication
pub data State : Type 0 where
  wants : List Frame → State
  wants_argument : Token → List Frame → State
  has_name : Token → List Frame → State
  has : Expr → List Frame → State
  wants_brace : Expr → List Frame → State
  failed : State

-- finishes what holds together at least so tightly: as tightly as an operator asks of its left operand, at least 1 for `?`, and
-- all for what ends a whole expression
abbrev pub reduce : ℕ → List Frame → Expr → Expr × List Frame
reduce b [] x = (x, [])
reduce b (under_sign s ∷ fs) x = reduce b fs (e.Unary (id_of s) x)
reduce b (behind_left l s ∷ fs) x =
    if nat_le b (binds s) then reduce b fs (e.Binary (id_of s) l x) else (x, behind_left l s ∷ fs)
reduce b (in_second c q m ∷ fs) x = if b == 0 then reduce b fs (e.Choice (id_of q) c m x) else (x, in_second c q m ∷ fs)
reduce b (in_first c q ∷ fs) x = (x, in_first c q ∷ fs)
reduce b (in_group ∷ fs) x = (x, in_group ∷ fs)
reduce b (in_call f ∷ fs) x = (x, in_call f ∷ fs)
reduce b (in_select id o ∷ fs) x = (x, in_select id o ∷ fs)
reduce b (in_range w id o a ∷ fs) x = (x, in_range w id o a ∷ fs)
reduce b (in_braces o ys ∷ fs) x = (x, in_braces o ys ∷ fs)
reduce b (in_parts o n ys ∷ fs) x = (x, in_parts o n ys ∷ fs)

-- what a token is where an operand is wanted
pub data Start : Type 0 where
  a_sign : Start
  a_number : Start
  a_fill : Start
  a_name : Start
  a_function : Start
  a_group : Start
  a_brace : Start
  no_start : Start

abbrev pub start_by : TokenKind → Token → Start
start_by kind.Number t = a_number
start_by kind.Fill t = a_fill
start_by kind.Word t = if is_identifier t then a_name else no_start
start_by kind.System t = if is_function t then a_function else no_start
start_by kind.Sign t = if is_unary t then a_sign else (if is_this (codes "(") t then a_group else (if is_this (codes "{") t then a_brace else no_start))
start_by kind.Mark t = no_start

unfoldable pub start_of : Token → Start
start_of t = start_by t.kind t

abbrev pub begun : Start → Token → List Frame → State
begun a_sign t fs = wants (under_sign t ∷ fs)
begun a_number t fs = has (e.Number (id_of t)) fs
begun a_fill t fs = has (e.Fill (id_of t)) fs
begun a_name t fs = has_name t fs
begun a_function t fs = wants_argument t fs
begun a_group t fs = wants (in_group ∷ fs)
begun a_brace t fs = wants (in_braces t [] ∷ fs)
begun no_start t fs = failed

-- behind the first part in braces the second brace of a replication may stand
abbrev pub opened_parts : Token → List Expr → Expr → List Frame → State
opened_parts o [] x fs = wants (in_parts o x [] ∷ fs)
opened_parts o (y ∷ ys) x fs = failed

-- behind a whole expression in these frames
abbrev pub closed : Token → Expr → List Frame → State
closed t x [] = failed
closed t x (in_group ∷ fs) = if is_this (codes ")") t then has x fs else failed
closed t x (in_call f ∷ fs) = if is_this (codes ")") t then has (e.System (id_of f) x) fs else failed
closed t x (in_select id o ∷ fs) =
    if is_this (codes ":") t then wants (in_range down_to id o x ∷ fs)
    else (if is_this (codes "+:") t then wants (in_range up_from id o x ∷ fs)
    else (if is_this (codes "-:") t then wants (in_range down_from id o x ∷ fs)
    else (if is_this (codes "]") t then has (e.Read (id_of id) (sel.Bit o.place x ∷ [])) fs else failed)))
closed t x (in_range w id o a ∷ fs) = if is_this (codes "]") t then has (e.Read (id_of id) (range_of w o.place a x ∷ [])) fs else failed
closed t x (in_braces o ys ∷ fs) =
    if is_this (codes "{") t then opened_parts o ys x fs
    else (if is_this (codes ",") t then wants (in_braces o (ys ++ x ∷ []) ∷ fs)
    else (if is_this (codes "}") t then has (e.Concat o.place (ys ++ x ∷ [])) fs else failed))
closed t x (in_parts o n ys ∷ fs) =
    if is_this (codes ",") t then wants (in_parts o n (ys ++ x ∷ []) ∷ fs)
    else (if is_this (codes "}") t then wants_brace (e.Repeat o.place n (ys ++ x ∷ [])) fs else failed)
closed t x (in_first c q ∷ fs) = if is_this (codes ":") t then wants (in_second c q x ∷ fs) else failed
closed t x (in_second c q m ∷ fs) = failed
closed t x (under_sign s ∷ fs) = failed
closed t x (behind_left l s ∷ fs) = failed

-- behind an operand
abbrev pub went_on : Token → Expr → List Frame → State
went_on t x fs =
    if nat_lt 0 (binds t) then wants (behind_left (reduce (left_least t) fs x).0 t ∷ (reduce (left_least t) fs x).1)
    else (if is_this (codes "?") t then wants (in_first (reduce 1 fs x).0 t ∷ (reduce 1 fs x).1)
    else closed t (reduce 0 fs x).0 (reduce 0 fs x).1)

abbrev pub step : Token → State → State
step t (wants fs) = begun (start_of t) t fs
step t (wants_argument f fs) = if is_this (codes "(") t then wants (in_call f ∷ fs) else failed
step t (has_name id fs) = if is_this (codes "[") t then wants (in_select id t ∷ fs) else went_on t (e.Read (id_of id) []) fs
step t (has x fs) = went_on t x fs
step t (wants_brace x fs) = if is_this (codes "}") t then has x fs else failed
step t failed = failed

abbrev pub steps : State → List Token → State
steps s [] = s
steps s (t ∷ ts) = steps (step t s) ts

-- the operand that was read last, and the frames around it
abbrev pub operand_of : State → Option (Expr × List Frame)
operand_of (has x fs) = Some (x, fs)
operand_of (has_name id fs) = Some (e.Read (id_of id) [], fs)
operand_of (wants fs) = None
operand_of (wants_argument f fs) = None
operand_of (wants_brace x fs) = None
operand_of failed = None
