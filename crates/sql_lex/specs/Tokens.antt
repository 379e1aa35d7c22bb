-- The tokens of bytes.
use Rattle.std.specs.Prelude.{ℕ, zero, suc, ◌+◌, ◌-◌, Bool, true, false, ◌&&◌, ◌||◌, if◌then◌else◌, ◌==◌, nat_lt, List, [], ◌∷◌, take, slice_index}
use Rattle.std.specs.Str.{is_utf8}
use Rattle.sql_tree.specs.declared.token.Kind.{Kind}
use Rattle.sql_tree.specs.declared.token.Kind.TheVariants as k
use Rattle.sql_tree.specs.declared.token.Token.{Token}
use Rattle.sql_lex.specs.declared.bytes.Class.TheVariants as class
use Rattle.sql_lex.specs.declared.bytes.Piece.{Piece}
use Rattle.sql_lex.specs.declared.lexer.Before.{Before}
use Rattle.sql_lex.specs.declared.lexer.Before.TheVariants as before
use Rattle.sql_lex.specs.Bytes.{is_in, run, begins_comment, begins_bytes}
use Rattle.sql_lex.specs.Numbers.{number}
use Rattle.sql_lex.specs.Quotes.{quoted, bytes}
use Rattle.sql_lex.specs.Signs.{sign}
use Rattle.sql_lex.specs.Tables.{table, table_len}
use Rattle.sql_lex.specs.Words.{word}

-- ---- where a table's name is due

-- a table's name follows FROM, INTO and TABLE
abbrev pub names_table : Kind → Bool
names_table k.From = true
names_table k.Into = true
names_table k.TableWord = true
names_table _ = false

-- .. and USING, but in a SELECT, whose USING stands before STATS
abbrev pub uses_table : Kind → Bool
uses_table k.Using = true
uses_table _ = false

-- .. and UPDATE that isn't behind THEN
abbrev pub is_update : Kind → Bool
is_update k.Update = true
is_update _ = false

-- .. and FILES, IDENTITIES and ROWS behind SHOW
abbrev pub is_shown : Kind → Bool
is_shown k.Files = true
is_shown k.Identities = true
is_shown k.Rows = true
is_shown _ = false

-- .. and FEED behind VERIFY
abbrev pub is_feed : Kind → Bool
is_feed k.Feed = true
is_feed _ = false

-- .. and OPTIMIZE that begins a statement
abbrev pub is_optimize : Kind → Bool
is_optimize k.Optimize = true
is_optimize _ = false

abbrev pub wants_table : Before → Kind → Bool
wants_table before.Start kind = names_table kind || (uses_table kind || (is_update kind || is_optimize kind))
wants_table before.Show kind = names_table kind || (uses_table kind || (is_update kind || is_shown kind))
wants_table before.Verify kind = names_table kind || (uses_table kind || (is_update kind || is_feed kind))
wants_table before.Then kind = names_table kind || uses_table kind
wants_table before.Select kind = names_table kind
wants_table before.SelectTable kind = names_table kind
wants_table _ kind = names_table kind || (uses_table kind || is_update kind)

abbrev pub is_in_select : Before → Bool
is_in_select before.Select = true
is_in_select before.SelectTable = true
is_in_select _ = false

-- the tokens that matter for the one behind the next; a SELECT goes on to its semicolon
abbrev pub stands_before : Bool → Kind → Before
stands_before selects k.Semicolon = before.Start
stands_before selects k.Show = before.Show
stands_before selects k.Verify = before.Verify
stands_before selects k.Select = before.Select
stands_before true kind = before.Select
stands_before false k.Then = before.Then
stands_before false _ = before.Other

-- what stands before the token behind one of this kind
abbrev pub after : Before → Kind → Before
after state kind =
    if wants_table state kind then (if is_in_select state then before.SelectTable else before.Table)
    else stands_before (is_in_select state) kind

abbrev pub is_table_due : Before → Bool
is_table_due before.Table = true
is_table_due before.SelectTable = true
is_table_due _ = false

-- ---- the token at the front of bytes

-- by the first byte: 39 is a quote, 96 a backquote
abbrev pub common : List ℕ → Piece
common z =
    let b = slice_index z 0 in
    if begins_bytes z then bytes z
    else (if is_in class.Letter b then word z
    else (if is_in class.Digit b then number z
    else (if b == 39 || b == 96 then quoted b z else sign z)))

-- a comment is a token only where it isn't UTF-8, and then a bad one
unfoldable pub token : Before → List ℕ → Piece
token state z =
    if begins_comment z then record { kind = k.Bad; len = run class.Line z }
    else (if is_table_due state && nat_lt 0 (table_len z) then table z else common z)

-- ---- all tokens

-- the length of the comment at the front, 0 where it isn't UTF-8
abbrev pub comment_len : List ℕ → ℕ
comment_len z = if is_utf8 (take (run class.Line z) z) then run class.Line z else 0

-- how many bytes of white space, or of one comment, stand at the front
unfoldable pub gap : List ℕ → ℕ
gap [] = 0
gap (b ∷ z) = if is_in class.Blank b then run class.Blank (b ∷ z) else (if begins_comment (b ∷ z) then comment_len
    (b ∷ z) else 0)

abbrev pub placed : ℕ → Piece → Token
placed at piece = record { kind = piece.kind; span = record { start = at; «end» = at + piece.len } }

-- the tokens from a place on, of which the first bytes are passed over: they are of the piece before
abbrev pub scan : ℕ → ℕ → Before → List ℕ → List Token
scan left at state [] = []
scan (suc left) at state (b ∷ z) = scan left (at + 1) state z
scan zero at state (b ∷ z) =
    if nat_lt 0 (gap (b ∷ z)) then scan (gap (b ∷ z) - 1) (at + 1) state z
    else (let t = token state (b ∷ z) in placed at t ∷ scan (t.len - 1) (at + 1) (after state t.kind) z)

unfoldable pub tokens : List ℕ → List Token
tokens z = scan 0 0 before.Start z
