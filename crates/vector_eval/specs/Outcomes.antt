-- What comes of an expression on one row: a value, or why there is none.
use Rattle.std.specs.Prelude.{◌≡◌, ⊤, ℕ, Result, Ok, Err}
use Rattle.dm_types.specs.declared.value.Value.{Value}
use Rattle.vector_eval.specs.declared.fault.ErrorKind.{ErrorKind}
use Rattle.vector_eval.specs.declared.fault.ErrorKind.TheVariants as error
use Rattle.vector_eval.specs.declared.fault.EvalFault.{EvalFault}
use Rattle.vector_eval.specs.declared.fault.EvalFault.TheVariants as fault

-- the numbers of the kinds of errors
abbrev pub number_of : ErrorKind → ℕ
number_of error.Overflow = 1
number_of error.DivideByZero = 2
number_of error.BadCast = 3

-- a value, or the kind of the first error
abbrev pub Evaluated : Type 0
Evaluated = Result Value ErrorKind

-- a call answers what comes of it; want of memory is free
abbrev pub Answers : {A : Type 0} → Result A ErrorKind → Result A EvalFault → Type 0
Answers outcome (Ok a) = outcome ≡ Ok a
Answers outcome (Err (fault.Kind kind)) = outcome ≡ Err kind
Answers outcome (Err fault.Memory) = ⊤
