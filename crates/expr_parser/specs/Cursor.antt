-- What a cursor shows, and what it keeps ready.
use Rattle.std.specs.Prelude.{◌≡◌}
use Rattle.expr_parser.specs.declared.cursor.Cursor.TheInside.{Inside}
use Rattle.expr_parser.specs.Input.{Input, past_marks}

-- what is left, and the open nesting
abbrev pub input_of : Inside → Input
input_of c = record { rest = c.rest.now; nested = c.nested; last = c.last }

-- the tokens from the next of the grammar on are kept beside those that are left
abbrev pub IsReady : Inside → Type 0
IsReady c = c.ahead.now ≡ past_marks c.rest.now
