-- How values are printed, and fields of a line.
use Rattle.std.specs.Prelude.{ℕ, zero, suc, ◌+◌, ◌/◌, ◌%◌, ◌^◌, ◌==◌, ℤ, unsigned_abs, List, [], ◌∷◌, ◌++◌, Bool, false, codes, if◌then◌else◌}
use Rattle.std.specs.List.{flat_map}
use Rattle.std.specs.Fmt.{decimal, signed_decimal, digit_glyph, sign_text}
use Rattle.std.specs.Int.{is_negative, int_rem_euclid}
use Rattle.dm_types.specs.declared.value.TheConstants.{DAY_MICROS}
use Rattle.dm_types.specs.Ranges.{day_part}
use Rattle.dm_types.specs.declared.value.Value.{Value}
use Rattle.dm_types.specs.declared.value.Value.TheVariants as value
use Rattle.dm_text.specs.Calendar.{year_of, month_of, day_of}

-- so many of a number's last digits, leading zeros with them
unfoldable pub places : ℕ → ℕ → List ℕ
places zero n = []
places (suc k) n = (48 + n / 10 ^ k % 10) ∷ places k n

abbrev pub truth_text : Bool → List ℕ
truth_text b = if b then codes "true" else codes "false"

-- nothing, or a point and the last digits of a number
abbrev pub point_text : ℕ → ℕ → List ℕ
point_text scale n = if scale == 0 then [] else 46 ∷ places scale n

-- a decimal number of a scale
unfoldable pub decimal_text : ℤ → ℕ → List ℕ
decimal_text n scale =
    sign_text (is_negative n) ++ decimal (unsigned_abs n / 10 ^ scale) ++ point_text scale (unsigned_abs n)

-- two lower-case hexadecimal digits
abbrev pub hex_pair : ℕ → List ℕ
hex_pair b = digit_glyph false (b / 16) ∷ digit_glyph false (b % 16) ∷ []

-- `yyyy-MM-dd`
abbrev pub parts_text : ℕ → ℕ → ℕ → List ℕ
parts_text y m d = places 4 y ++ (45 ∷ places 2 m) ++ (45 ∷ places 2 d)

-- the date of a day
unfoldable pub date_text : ℤ → List ℕ
date_text n = parts_text (year_of n) (month_of n) (day_of n)

-- `HH:mm:ss.ffffff` of the microseconds of a day
unfoldable pub clock_text : ℕ → List ℕ
clock_text t = places 2 (t / 3_600_000_000) ++ (58 ∷ places 2 (t / 60_000_000 % 60))
    ++ (58 ∷ places 2 (t / 1_000_000 % 60)) ++ (46 ∷ places 6 t)

-- the microseconds of a moment's day
abbrev pub clock_part : ℤ → ℕ
clock_part n = unsigned_abs (int_rem_euclid n (DAY_MICROS))

-- `yyyy-MM-dd HH:mm:ss.ffffff` of a moment
abbrev pub moment_text : ℤ → List ℕ
moment_text n = date_text (day_part n) ++ (32 ∷ clock_text (clock_part n))

-- a value as it is printed; null as `\N`
abbrev pub printed : Value → List ℕ
printed value.Null = codes "\\N"
printed (value.Bool b) = truth_text b
printed (value.Int n) = signed_decimal n
printed (value.Dec d) = decimal_text d.unscaled d.scale
printed (value.Text t) = t
printed (value.Bytes b) = flat_map hex_pair b
printed (value.Day n) = date_text n
printed (value.Micros n) = moment_text n

-- a backslash, tab, line feed and carriage return are written `\\`, `\t`, `\n`, `\r`
abbrev pub escaped : ℕ → List ℕ
escaped b =
    if b == 92 then 92 ∷ 92 ∷ []
    else if b == 9 then 92 ∷ 116 ∷ []
    else if b == 10 then 92 ∷ 110 ∷ []
    else if b == 13 then 92 ∷ 114 ∷ []
    else b ∷ []

-- a text with what would part fields or lines escaped
abbrev pub field : List ℕ → List ℕ
field text = flat_map escaped text

-- a value as a field. The backslash of null stays as it is
abbrev pub value_field : Value → List ℕ
value_field value.Null = codes "\\N"
value_field v = field (printed v)
