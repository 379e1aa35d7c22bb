-- The value that a text is of, by the type.
use Rattle.std.specs.Prelude.{ℕ, List, Bool, true, false, Option, Some, None, option_map, codes, if◌then◌else◌}
use Rattle.std.specs.Str.{str_eq_ignore_ascii_case, is_utf8}
use Rattle.dm_types.specs.declared.value.DataType.{DataType}
use Rattle.dm_types.specs.declared.value.DataType.TheVariants as kind
use Rattle.dm_types.specs.declared.value.Value.{Value}
use Rattle.dm_types.specs.declared.value.Value.TheVariants as value
use Rattle.dm_text.specs.Numbers.{whole, decimal_number}
use Rattle.dm_text.specs.Calendar.{date}
use Rattle.dm_text.specs.Moments.{timestamp}

-- `true` or `false`, ASCII letters of either case
unfoldable pub truth : List ℕ → Option Bool
truth text =
    if str_eq_ignore_ascii_case text (codes "true") then Some true
    else if str_eq_ignore_ascii_case text (codes "false") then Some false
    else None

-- the value of a text, where the text is of the type's form. Binary values and those of no type are not read
abbrev pub text_value : DataType → List ℕ → Option Value
text_value kind.Boolean text = option_map value.Bool (truth text)
text_value kind.Byte text = option_map value.Int (whole 7 text)
text_value kind.Short text = option_map value.Int (whole 15 text)
text_value kind.Integer text = option_map value.Int (whole 31 text)
text_value kind.Long text = option_map value.Int (whole 63 text)
text_value (kind.Decimal precision scale) text =
    option_map (λ n. value.Dec (record { unscaled = n; scale = scale })) (decimal_number precision scale text)
text_value kind.Str text = if is_utf8 text then Some (value.Text text) else None
text_value kind.Date text = option_map value.Day (date text)
text_value kind.Timestamp text = option_map value.Micros (timestamp text)
text_value k text = None
