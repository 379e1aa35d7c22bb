-- What is broken in an expression, and what is told of it.
use Rattle.std.specs.Prelude.{◌≡◌, ⊤, ℕ, Bool, ◌&&◌, ◌||◌, ◌==◌, nat_lt, if◌then◌else◌, List, [], ◌∷◌, ◌++◌, Option, Some, None, Result, Ok, Err}
use Rattle.std.specs.List.{fold}
use Rattle.std.specs.declared.alloc.AllocError.{AllocError}
use Rattle.typed_expr.specs.declared.broken.Broken.{Broken}
use Rattle.typed_expr.specs.declared.fault.TypeFault.{TypeFault}
use Rattle.typed_expr.specs.declared.fault.TypeFault.TheVariants as fault

-- the least place counts, and there the least rule
abbrev pub comes_before : Broken → Broken → Bool
comes_before a b = nat_lt a.at b.at || (a.at == b.at) && nat_lt a.rule b.rule

abbrev pub sooner : Broken → Broken → Broken
sooner a b = if comes_before b a then b else a

-- what a form comes to, or the first that is broken in it
abbrev pub Typing : Type 0 → Type 0
Typing A = Result A Broken

abbrev pub breaks : {A : Type 0} → ℕ → ℕ → Typing A
breaks rule at = Err (record { rule = rule; at = at })

-- what isn't there breaks a rule
abbrev pub given : {A : Type 0} → ℕ → ℕ → Option A → Typing A
given rule at None = breaks rule at
given rule at (Some a) = Ok a

-- a form whose parts come to something
infixl 10 ◌>>=◌
abbrev pub ◌>>=◌ : {A B : Type 0} → Typing A → (A → Typing B) → Typing B
(Ok a) >>= f = f a
(Err broken) >>= f = Err broken

-- two parts
abbrev pub both : {A B : Type 0} → Typing A → Typing B → Typing (A × B)
both (Ok a) (Ok b) = Ok (a, b)
both (Ok a) (Err broken) = Err broken
both (Err broken) (Ok b) = Err broken
both (Err broken) (Err other) = Err (sooner broken other)

-- a part behind those that were found
abbrev pub collected : {A : Type 0} → Typing (List A) → Typing A → Typing (List A)
collected found part = both found part >>= λ p. Ok (p.0 ++ p.1 ∷ [])

-- a list of parts
abbrev pub all : {A : Type 0} → List (Typing A) → Typing (List A)
all parts = fold collected (Ok []) parts

-- a call answers what a form comes to, or what is broken in it; want of memory is free
abbrev pub Answers : {A : Type 0} → Typing A → Result A TypeFault → Type 0
Answers form (Ok a) = form ≡ Ok a
Answers form (Err (fault.Rule rule at)) = form ≡ breaks rule at
Answers form (Err fault.Memory) = ⊤

-- what is broken, apart from want of memory
abbrev pub split_of : {A : Type 0} → Result A TypeFault → Result (Typing A) AllocError
split_of (Ok a) = Ok (Ok a)
split_of (Err (fault.Rule rule at)) = Ok (breaks rule at)
split_of (Err fault.Memory) = Err (record {})
