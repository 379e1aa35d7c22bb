-- The draw of a write statement, and the text of what was drawn.
use Rattle.std.specs.Prelude.{ℕ, List, Bool, Option, Result, Ok, Err, nat_le, ◌==◌, ◌||◌, ◌&&◌}
use Rattle.dm_store.specs.Given.{Gave, KeepsGiven}
use Rattle.dm_types.specs.declared.refusal.Stop.{Stop}
use Rattle.dm_types.specs.declared.refusal.Stop.TheVariants as stop
use Rattle.uuid.specs.Parts.{with_variant, with_version}
use Rattle.uuid.specs.Text.{hyphenated_text, lower}
use Rattle.uuid.specs.declared.Variant.TheVariants.{RFC4122}
use Rattle.uuid.specs.declared.Version.TheVariants.{Random}

-- the one draw of a write statement
abbrev pub DrawsName : Option (List (List ℕ)) → Option (List (List ℕ)) → Result (List ℕ) Stop → Type 0
DrawsName old new (Ok name) = Gave old new name
DrawsName old new (Err (stop.Refused refusal)) = ⊥
DrawsName old new (Err stop.Store) = ⊥
DrawsName old new (Err stop.Names) = KeepsGiven old new
DrawsName old new (Err stop.Memory) = ⊥

-- the bytes of the UUID of version 4 that has the drawn ones in place of random ones (RFC 9562, section 5.4)
abbrev pub id_of : List ℕ → List ℕ
id_of drawn = with_version (with_variant drawn RFC4122) Random

-- the text of what was drawn: that UUID in lower-case digits, with its hyphens (RFC 9562, section 4)
unfoldable pub name_of : List ℕ → List ℕ
name_of drawn = hyphenated_text lower (id_of drawn)

-- a hyphen, or a lower-case hexadecimal digit
abbrev pub is_name_byte : ℕ → Bool
is_name_byte b = (b == 45) || (nat_le 48 b && nat_le b 57) || (nat_le 97 b && nat_le b 102)
