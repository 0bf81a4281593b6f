-- What holds behind a part that is not refused.
use Rattle.std.specs.Prelude.{Bool, true, false, IfOk, IfSome, Option, None, Some, Result, Ok, Err, if◌then◌else◌}
use Rattle.std.proofs.Common.{refl}
use Rattle.sv_base.specs.declared.refusal.Refusal.{Refusal}
use Rattle.const_eval.specs.Expressions.{◌>>=◌, or_refused}
use Rattle.const_eval.specs.Alike.{Alike}

-- what holds of the whole, from what holds of the part
pub ok_behind : {A B : Type 0} (P : A → Type 0) (Q : B → Type 0) (j : Result A Refusal) (f : A → Result B Refusal) → IfOk j P
    → ((a : A) → P a → IfOk (f a) Q) → IfOk (j >>= f) Q
ok_behind P Q (Ok a) f h k = k a h
ok_behind P Q (Err refusal) f h k = tt

-- the same, where nothing is known of the part
pub ok_after : {A B : Type 0} (Q : B → Type 0) (j : Result A Refusal) (f : A → Result B Refusal) → ((a : A) → IfOk (f a) Q) → IfOk (j >>= f) Q
ok_after Q (Ok a) f k = k a
ok_after Q (Err refusal) f k = tt

-- the same behind something that may be missing
pub ok_found : {A B : Type 0} (P : A → Type 0) (Q : B → Type 0) (refusal : Refusal) (o : Option A) (f : A → Result B Refusal) → IfSome o P
    → ((a : A) → P a → IfOk (f a) Q) → IfOk (or_refused refusal o >>= f) Q
ok_found P Q refusal (Some a) f h k = k a h
ok_found P Q refusal None f h k = tt

-- what holds of both ways
pub either_way : {A : Type 0} (P : A → Type 0) (b : Bool) (x y : A) → P x → P y → P (if b then x else y)
either_way P true x y h k = h
either_way P false x y h k = k

-- two parts that are alike, and what is alike behind them
pub alike_behind : {A B C D : Type 0} (R : A → B → Type 0) (S : C → D → Type 0) (i : Result A Refusal) (j : Result B Refusal) (f : A → Result C Refusal)
    (g : B → Result D Refusal)
    → Alike R i j → ((a : A) (b : B) → R a b → Alike S (f a) (g b)) → Alike S (i >>= f) (j >>= g)
alike_behind R S (Ok a) (Ok b) f g h k = k a b h
alike_behind R S (Err refusal) (Err other) f g h k = h
alike_behind R S (Ok a) (Err refusal) f g h k = absurd h
alike_behind R S (Err refusal) (Ok b) f g h k = absurd h

-- the same part, and what is alike behind it
pub alike_after : {A C D : Type 0} (S : C → D → Type 0) (j : Result A Refusal) (f : A → Result C Refusal) (g : A → Result D Refusal)
    → ((a : A) → Alike S (f a) (g a)) → Alike S (j >>= f) (j >>= g)
alike_after S (Ok a) f g k = k a
alike_after S (Err refusal) f g k = refl
