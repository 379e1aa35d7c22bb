-- Steps one after another: the first that gives nothing decides.
use Rattle.std.specs.Prelude.{Result, Ok, Err, Option, option_and_then}

-- Result's `and_then`, the result first: the first refusal decides
abbrev pub go : {A B E : Type 0} → Result A E → (A → Result B E) → Result B E
go (Ok x) f = f x
go (Err e) f = Err e

-- Option's `and_then`, the option first, for do-notation
infixl 10 ◌>>=◌
abbrev pub ◌>>=◌ : {A B : Type 0} → Option A → (A → Option B) → Option B
o >>= f = option_and_then f o
