-- What reading answers.
use Rattle.std.specs.Prelude.{◌≡◌, ℕ, List, [], ◌∷◌, Result, Ok, Err}
use Rattle.token_lang.specs.Lang.{Lang}
use Rattle.token_lang.specs.Exact.{IsLongest}
use Rattle.sql_tree.specs.declared.token.Token.{Token}
use Rattle.sql_reader.specs.declared.fault.ScriptFault.{ScriptFault}
use Rattle.sql_reader.specs.declared.fault.ScriptFault.TheVariants.{Memory, BadScript}

-- this was read, unless memory ran out
abbrev pub IsRead : {A : Type 0} → Result A ScriptFault → A → Type 0
IsRead (Ok found) a = found ≡ a
IsRead (Err Memory) a = Unit {0}
IsRead (Err (BadScript at)) a = ⊥

-- where the next token begins, or the end of the script
abbrev pub place_of : ℕ → List Token → ℕ
place_of end [] = end
place_of end (t ∷ ts) = (t.span).start

-- Where the first token begins such that no sentence begins with the tokens up to it, or the end: what stands before it
-- begins a sentence, and nothing longer does.
abbrev pub IsPlace : {A : Type 0} → Lang Token A → ℕ → List Token → ℕ → Type 0
IsPlace L end ts at = (rest : List Token) × IsLongest L ts rest × (at ≡ place_of end rest)
