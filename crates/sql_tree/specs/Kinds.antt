-- Classes of tokens.
use Rattle.std.specs.Prelude.{Bool, true, false, ◌||◌}
use Rattle.sql_tree.specs.declared.token.Kind.{Kind}
use Rattle.sql_tree.specs.declared.token.Kind.TheVariants.{Name, Whole, LargeWhole, Decimal, Text, TableText, Bytes, Table, TableChanges, Equal, NotEqual, Less, LessOrEqual, Greater, GreaterOrEqual, SameAs, Plus, Minus, Star, Percent, Div, Null, True, False, Files, Identities, Rows, Feed, Version, Of, Partitioned, TblProperties, Generated, Always, Default, Identity, Start, With, Increment, Target, Source, Boolean, TinyInt, SmallInt, Int, BigInt, String, Binary, Date, Timestamp, DecimalWord, Enable, Row, Tracking, Add, Column, Rename, Drop, Optimize, Restore, Stats}
use Rattle.sql_tree.specs.declared.token.Token.{Token}
use Rattle.sql_tree.specs.contracts.token.Kind.{the_type}
use denote.Enum.Bare.{sameb}

-- the token is of this kind
abbrev pub is : Kind → Token → Bool
is k t = sameb the_type t.kind k

-- ---- names: a word that isn't reserved, or a name in backquotes

-- a word without a place, and words of statements that read and merge
abbrev pub names_plainly : Kind → Bool
names_plainly Name = true
names_plainly Files = true
names_plainly Identities = true
names_plainly Rows = true
names_plainly Feed = true
names_plainly Version = true
names_plainly Of = true
names_plainly Target = true
names_plainly Source = true
names_plainly Stats = true
names_plainly _ = false

-- words of CREATE TABLE
abbrev pub names_in_create : Kind → Bool
names_in_create Partitioned = true
names_in_create TblProperties = true
names_in_create Generated = true
names_in_create Always = true
names_in_create Default = true
names_in_create Identity = true
names_in_create Start = true
names_in_create With = true
names_in_create Increment = true
names_in_create _ = false

-- words of types, but DATE and TIMESTAMP
abbrev pub names_a_type : Kind → Bool
names_a_type Boolean = true
names_a_type TinyInt = true
names_a_type SmallInt = true
names_a_type Int = true
names_a_type BigInt = true
names_a_type String = true
names_a_type Binary = true
names_a_type DecimalWord = true
names_a_type _ = false

-- words of statements that change a table as a whole
abbrev pub names_in_alter : Kind → Bool
names_in_alter Enable = true
names_in_alter Row = true
names_in_alter Tracking = true
names_in_alter Add = true
names_in_alter Column = true
names_in_alter Rename = true
names_in_alter Drop = true
names_in_alter Optimize = true
names_in_alter Restore = true
names_in_alter _ = false

-- DATE and TIMESTAMP
abbrev pub dates : Kind → Bool
dates Date = true
dates Timestamp = true
dates _ = false

-- a name that begins no literal
abbrev pub names_alone : Kind → Bool
names_alone kind = names_plainly kind || (names_in_create kind || (names_a_type kind || names_in_alter kind))

-- a name
abbrev pub names : Kind → Bool
names kind = dates kind || names_alone kind

-- ---- other classes

-- a literal of one token
abbrev pub is_value : Kind → Bool
is_value Whole = true
is_value LargeWhole = true
is_value Decimal = true
is_value Text = true
is_value TableText = true
is_value Bytes = true
is_value Null = true
is_value True = true
is_value False = true
is_value _ = false

abbrev pub compares : Kind → Bool
compares Equal = true
compares NotEqual = true
compares Less = true
compares LessOrEqual = true
compares Greater = true
compares GreaterOrEqual = true
compares SameAs = true
compares _ = false

abbrev pub multiplies : Kind → Bool
multiplies Star = true
multiplies Percent = true
multiplies Div = true
multiplies _ = false

abbrev pub is_truth : Kind → Bool
is_truth Null = true
is_truth True = true
is_truth False = true
is_truth _ = false

-- a type without brackets
abbrev pub is_plain_type : Kind → Bool
is_plain_type Boolean = true
is_plain_type TinyInt = true
is_plain_type SmallInt = true
is_plain_type Int = true
is_plain_type BigInt = true
is_plain_type String = true
is_plain_type Binary = true
is_plain_type Date = true
is_plain_type Timestamp = true
is_plain_type _ = false

abbrev pub is_text : Kind → Bool
is_text Text = true
is_text TableText = true
is_text _ = false

abbrev pub is_table : Kind → Bool
is_table Table = true
is_table TableChanges = true
is_table _ = false

-- a sign
abbrev pub signs : Kind → Bool
signs Plus = true
signs Minus = true
signs _ = false

-- the token is of a class
abbrev pub any : (Kind → Bool) → Token → Bool
any class t = class t.kind
