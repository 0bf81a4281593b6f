-- How deep a text is nested at one of its tokens.
use Rattle.std.specs.Prelude.{ℕ, ◌+◌, ◌-◌, ◌==◌, nat_le, if◌then◌else◌, length}
use Rattle.expr_parser.specs.declared.cursor.TheConstants.{NESTING_LIMIT}
use Rattle.expr_parser.specs.Grammar.{Phrase, number, fill, name, selected, ranged, group, concat, repeat, call, unary, binary, choice, Phrases, only, more, tokens_of, all_tokens_of}

-- the greatest open nesting
abbrev pub greatest_nesting : ℕ
greatest_nesting = NESTING_LIMIT

-- the operators of a phrase outside its brackets; `? :` is one, and each sign before an operand is one
abbrev pub operators : Phrase → ℕ
operators (unary sign q) = 1 + operators q
operators (binary q sign r) = operators q + 1 + operators r
operators (choice q question r colon s) = operators q + 1 + operators r + operators s
operators _ = 0

-- brackets around so many tokens: from the opening one on it counts 1 more than inside, and at the closing one no longer
abbrev pub in_brackets : ℕ → (ℕ → ℕ) → ℕ → ℕ
in_brackets len inside n = if n == 0 then 0 else (if nat_le n (1 + len) then 1 + inside (n - 1) else 0)

-- an expression of so many tokens, a token, and what comes after it: the expression is over before that token
abbrev pub one_after : ℕ → (ℕ → ℕ) → (ℕ → ℕ) → ℕ → ℕ
one_after len first second n = if nat_le n len then first n else second (n - len - 1)

-- operands of one expression with a sign between: the operators of the first stay
abbrev pub operands : ℕ → (ℕ → ℕ) → ℕ → (ℕ → ℕ) → ℕ → ℕ
operands len first before second n = if nat_le n len then first n else before + second (n - len - 1)

-- What a phrase adds to the open nesting at its n-th token, counted from 1: its brackets that are open there, and, of
-- the whole phrase and of each expression in these brackets that is not over, the operators so far outside brackets.
abbrev mutual
  pub nesting : Phrase → ℕ → ℕ
  nesting (number t) n = 0
  nesting (fill t) n = 0
  nesting (name t) n = 0
  nesting (selected id opens q closes) n = in_brackets (length (tokens_of q)) (nesting q) (n - 1)
  nesting (ranged b id opens q between r closes) n =
      in_brackets (length (tokens_of q) + 1 + length (tokens_of r)) (one_after (length (tokens_of q)) (nesting q) (nesting r)) (n - 1)
  nesting (group opens q closes) n = in_brackets (length (tokens_of q)) (nesting q) n
  nesting (concat opens qs closes) n = in_brackets (length (all_tokens_of qs)) (nestings qs) n
  nesting (repeat opens q inner qs done closes) n =
      in_brackets (length (tokens_of q) + 1 + length (all_tokens_of qs) + 1)
      (λ k. if nat_le k (length (tokens_of q)) then nesting q k else in_brackets (length (all_tokens_of qs)) (nestings qs) (k - length (tokens_of q))) n
  nesting (call function opens q closes) n = in_brackets (length (tokens_of q)) (nesting q) (n - 1)
  nesting (unary sign q) n = if n == 0 then 0 else 1 + nesting q (n - 1)
  nesting (binary q sign r) n = operands (length (tokens_of q)) (nesting q) (operators q + 1) (nesting r) n
  nesting (choice q question r colon s) n =
      operands (length (tokens_of q)) (nesting q) (operators q + 1) (operands (length (tokens_of r)) (nesting r) (operators r) (nesting s)) n

  pub nestings : Phrases → ℕ → ℕ
  nestings (only q) n = nesting q n
  nestings (more q comma qs) n = one_after (length (tokens_of q)) (nesting q) (nestings qs) n
