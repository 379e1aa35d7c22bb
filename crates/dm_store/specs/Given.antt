-- The answers that a clock or a source of names has given, where it tells them.
use Rattle.std.specs.Prelude.{◌≡◌, List, [], ◌∷◌, ◌++◌, Option, Some, None, Result, Ok, Err, ⊤}

-- where the answers are told after a call, they were told before it, and this one stands behind them
abbrev pub Gave : {A : Type 0} → Option (List A) → Option (List A) → A → Type 0
Gave old None x = ⊤
Gave None (Some now) x = ⊥
Gave (Some before) (Some now) x = now ≡ before ++ x ∷ []

-- where the answers are told after a call, the same were told before it
abbrev pub KeepsGiven : {A : Type 0} → Option (List A) → Option (List A) → Type 0
KeepsGiven old None = ⊤
KeepsGiven None (Some now) = ⊥
KeepsGiven (Some before) (Some now) = now ≡ before

-- what a draw says of the answers: a failed one adds none
abbrev pub Draws : {A E : Type 0} → Option (List A) → Option (List A) → Result A E → Type 0
Draws old new (Ok x) = Gave old new x
Draws old new (Err e) = KeepsGiven old new
