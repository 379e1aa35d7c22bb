-- How a refusal is printed: its code, and its fields behind it.
use Rattle.std.specs.Prelude.{ℕ, List, ◌++◌, codes}
use Rattle.std.specs.Fmt.{decimal, signed_decimal}
use Rattle.dm_types.specs.declared.refusal.Counted.{Counted}
use Rattle.dm_types.specs.declared.refusal.Counted.TheVariants as counted
use Rattle.dm_types.specs.declared.refusal.Refused.{Refused}
use Rattle.dm_types.specs.declared.refusal.Refused.TheVariants as refused
use Rattle.dm_types.specs.declared.refusal.PutRefusal.{PutRefusal}
use Rattle.dm_types.specs.declared.refusal.PutRefusal.TheVariants as clash
use Rattle.dm_types.specs.declared.refusal.StatementRefusal.{StatementRefusal}
use Rattle.dm_types.specs.declared.refusal.StatementRefusal.TheVariants as statement
use Rattle.dm_types.specs.declared.refusal.TableRefusal.{TableRefusal}
use Rattle.dm_types.specs.declared.refusal.TableRefusal.TheVariants as table
use Rattle.dm_text.specs.Printing.{field}

abbrev pub counted_name : Counted → List ℕ
counted_name counted.Commits = codes "commits"
counted_name counted.Columns = codes "columns"
counted_name counted.Cells = codes "cells"
counted_name counted.TextBytes = codes "text"

-- a file and one of its columns
abbrev pub cell_cause : List ℕ → List ℕ → List ℕ → List ℕ
cell_cause code path column = code ++ codes " " ++ field path ++ codes " " ++ field column

-- numbers in decimal, texts as fields
abbrev pub table_cause : TableRefusal → List ℕ
table_cause table.NoTable = codes "O1"
table_cause (table.LogGap version) = codes "O2" ++ codes " " ++ decimal version
table_cause (table.BadAction version line) = codes "O3" ++ codes " " ++ decimal version ++ codes " " ++ decimal line
table_cause (table.ProtocolUnsupported reader writer) =
    codes "O4" ++ codes " " ++ decimal reader ++ codes " " ++ decimal writer
table_cause (table.UnknownFeature name) = codes "O5" ++ codes " " ++ field name
table_cause table.NoMetadata = codes "O6"
table_cause table.BadSchema = codes "O7"
table_cause (table.UnsupportedType column) = codes "O8" ++ codes " " ++ field column
table_cause (table.BadMapping column) = codes "O9" ++ codes " " ++ field column
table_cause (table.DeletionVector path) = codes "O10" ++ codes " " ++ field path
table_cause (table.BadPath path) = codes "O11" ++ codes " " ++ field path
table_cause (table.MissingFile path) = codes "O12" ++ codes " " ++ field path
table_cause (table.BadParquet path) = codes "O13" ++ codes " " ++ field path
table_cause (table.CompressedPage path) = codes "O14" ++ codes " " ++ field path
table_cause (table.UnsupportedEncoding path) = codes "O15" ++ codes " " ++ field path
table_cause (table.ColumnMismatch path column) = cell_cause (codes "O16") path column
table_cause (table.ValueRange path column) = cell_cause (codes "O17") path column
table_cause (table.BadPartitionValue path column) = cell_cause (codes "O18") path column
table_cause (table.RowIdsWrong id) = codes "O19" ++ codes " " ++ signed_decimal id
table_cause (table.TooLarge counted) = codes "O20" ++ codes " " ++ counted_name counted
table_cause (table.NoSuchVersion version) = codes "O21" ++ codes " " ++ decimal version
table_cause (table.UnsupportedRule name) = codes "O22" ++ codes " " ++ field name

abbrev pub statement_cause : StatementRefusal → List ℕ
statement_cause statement.TableExists = codes "S1"
statement_cause (statement.BadDefinition at) = codes "S2" ++ codes " " ++ decimal at
statement_cause (statement.DoesNotType rule at) =
    codes "S3" ++ codes " " ++ decimal rule ++ codes " " ++ decimal at
statement_cause statement.AppendOnly = codes "S4"
statement_cause statement.RowTrackingOff = codes "S5"
statement_cause (statement.IdentityWrite column) = codes "S6" ++ codes " " ++ field column
statement_cause (statement.EvalError kind) = codes "S7" ++ codes " " ++ decimal kind
statement_cause statement.SecondMatch = codes "S8"
statement_cause (statement.IdentityOverflow column) = codes "S9" ++ codes " " ++ field column
statement_cause (statement.GeneratedMismatch column) = codes "S10" ++ codes " " ++ field column
statement_cause (statement.NotNull column) = codes "S11" ++ codes " " ++ field column
statement_cause (statement.CheckFailed name) = codes "S12" ++ codes " " ++ field name
statement_cause statement.RowIdsExhausted = codes "S13"
statement_cause (statement.FeedOff version) = codes "S14" ++ codes " " ++ decimal version
statement_cause (statement.FeedSchemaChanged version) = codes "S15" ++ codes " " ++ decimal version

abbrev pub put_cause : PutRefusal → List ℕ
put_cause (clash.NameTaken path) = codes "S16" ++ codes " " ++ field path
put_cause (clash.VersionTaken version) = codes "S17" ++ codes " " ++ decimal version

abbrev pub refused_cause : Refused → List ℕ
refused_cause (refused.Table refusal) = table_cause refusal
refused_cause (refused.Statement refusal) = statement_cause refusal
refused_cause (refused.Put refusal) = put_cause refusal
