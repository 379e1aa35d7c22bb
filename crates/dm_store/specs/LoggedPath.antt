-- Paths as they are logged: URIs relative to the table's folder (PROTOCOL.md, "Add File and Remove File", RFC 2396).
use Rattle.std.specs.Prelude.{◌≡◌, ⊤, ℕ, List, [], ◌∷◌, Bool, false, not, ◌&&◌, ◌||◌, ◌==◌, Option, Some, None, Result, Ok, Err, codes, if◌then◌else◌}
use Rattle.std.specs.Char.{is_ascii_alphabetic, is_ascii_alphanumeric}
use Rattle.std.specs.List.{list_all, slice_split, find}
use Rattle.std.specs.Str.{bytes_eq, is_utf8}
use Rattle.percent_encoding.specs.Percent.{percent_decode}
use Rattle.dm_store.specs.declared.logged_path.PathFault.{PathFault}
use Rattle.dm_store.specs.declared.logged_path.PathFault.TheVariants as fault

-- a letter, a digit, `+`, `-` or `.`
abbrev pub is_scheme_byte : ℕ → Bool
is_scheme_byte c = is_ascii_alphanumeric c || (c == 43) || (c == 45) || (c == 46)

abbrev pub is_colon : Option ℕ → Bool
is_colon None = false
is_colon (Some c) = c == 58

-- the first byte that is none of a scheme is a colon
abbrev pub ends_scheme : List ℕ → Bool
ends_scheme rest = is_colon (find (λ b. not (is_scheme_byte b)) rest)

-- a letter, then bytes of a scheme, and behind them a colon
abbrev pub begins_with_scheme : List ℕ → Bool
begins_with_scheme [] = false
begins_with_scheme (c ∷ rest) = is_ascii_alphabetic c && ends_scheme rest

-- what names a file or a folder in another one
abbrev pub is_name : List ℕ → Bool
is_name segment = not (bytes_eq segment []) && not (bytes_eq segment (codes ".")) && not (bytes_eq segment (codes ".."))

abbrev pub has_no_zero : List ℕ → Bool
has_no_zero bytes = list_all (λ b. not (b == 0)) bytes

-- what stands between slashes are names. So no slash stands first or last
abbrev pub are_names : List ℕ → Bool
are_names bytes = list_all is_name (slice_split (λ b. b == 47) bytes)

unfoldable pub has_names : List ℕ → Bool
has_names bytes = has_no_zero bytes && are_names bytes

-- the text of bytes that are a path below a folder
abbrev pub text_of : List ℕ → Option (List ℕ)
text_of bytes = if has_names bytes && is_utf8 bytes then Some bytes else None

-- the path below the table's folder that a logged one means
abbrev pub path_of : List ℕ → Option (List ℕ)
path_of logged = if begins_with_scheme logged then None else text_of (percent_decode logged)

-- the path, or that there is none
abbrev pub Decodes : Option (List ℕ) → Result (List ℕ) PathFault → Type 0
Decodes known (Ok path) = known ≡ Some path
Decodes known (Err fault.BadPath) = known ≡ None
Decodes known (Err fault.Memory) = ⊤
