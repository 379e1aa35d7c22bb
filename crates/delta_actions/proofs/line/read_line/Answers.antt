use Rattle.std.proofs.Common.{◌≡◌, arith, ℕ, List, Bool, true, false, None, refl}
use Rattle.std.specs.Prelude.{IsUtf8}
use Rattle.std.specs.Str.{is_utf8}
use Rattle.std.proofs.lemmas.Str.{IsUtf8-from_is_utf8, is_utf8-from_IsUtf8}
use Rattle.serde_json.specs.Read.{read}
use Rattle.delta_actions.specs.Meaning.{line_of}
use Rattle.delta_actions.proofs.line.read_line.Goals as goal

no_action : (line : List ℕ) (is_text : Bool) → is_utf8 line ≡ is_text → (IsUtf8 line → read line ≡ None) → line_of line ≡ None
no_action line true text none = rw (text, none (IsUtf8-from_is_utf8 line text)) refl
no_action line false text none = rw text refl

pub returns-in-Ok : goal.returns-in-Ok
returns-in-Ok c = rw (is_utf8-from_IsUtf8 _ c.in-Ok.ensures.ok.0, c.in-Ok.ensures.ok.1) c.object_action.ensures

pub returns-in-Err-2 : goal.returns-in-Err-2
returns-in-Err-2 c = no_action c.args.line.now _ refl (c.in-Err.ensures.err (λ memory. grind (arith, c.is_memory.ensures.1 memory, c.if-is_memory.false)))
