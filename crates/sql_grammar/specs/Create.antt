-- The grammar of CREATE TABLE: the trees of its parts, what they hold of the script, their productions, and the readers
-- of these.
use Rattle.std.specs.Prelude.{◌≡◌, ◌⊎◌, ℕ, ℤ, pos, neg_ℤ, nat_abs, Bool, true, false, ◌||◌, List, [], length, All, Option, Some, None, IfSome, is_none, unwrap_or}
use Rattle.token_lang.specs.Lang.{Lang, one, both, either, valued}
use Rattle.token_lang.specs.Run.{Reader, run_one, run_both, run_either}
use Rattle.sql_tree.specs.Kinds.{is, any, names, is_text}
use Rattle.sql_tree.specs.Places.{slice, IsPlaced}
use Rattle.sql_tree.specs.declared.token.Kind.TheVariants as k
use Rattle.sql_tree.specs.declared.token.Span.{Span}
use Rattle.sql_tree.specs.declared.token.Token.{Token}
use Rattle.sql_tree.specs.declared.tree.Name.{Name}
use Rattle.sql_tree.specs.declared.tree.WrittenType.{WrittenType}
use Rattle.sql_tree.specs.declared.tree.Expr.{Expr}
use Rattle.sql_statements.specs.declared.RuleText.{RuleText}
use Rattle.sql_statements.specs.declared.WrittenIdentity.{WrittenIdentity}
use Rattle.sql_statements.specs.declared.Made.{Made}
use Rattle.sql_statements.specs.declared.Made.TheVariants as m
use Rattle.sql_statements.specs.declared.ColumnElement.{ColumnElement}
use Rattle.sql_statements.specs.declared.CheckElement.{CheckElement}
use Rattle.sql_statements.specs.declared.Element.{Element}
use Rattle.sql_statements.specs.declared.Element.TheVariants as v
use Rattle.sql_statements.specs.declared.Property.{Property}
use Rattle.sql_statements.specs.declared.CreateStmt.{CreateStmt}
use Rattle.sql_statements.specs.declared.Stmt.{Stmt}
use Rattle.sql_statements.specs.declared.Stmt.TheVariants.{Create}
use Rattle.sql_lex.specs.Content.{if_text}
use Rattle.sql_lex.specs.Stand.{IsPart}
use Rattle.sql_grammar.specs.Grammar.{second, token, text, whole, name, table, maybe, commas, written_type}
use Rattle.sql_grammar.specs.Held.{HoldsName, HoldsTable, HoldsText, HoldsVersion, HoldsType, HoldsExpr}
use Rattle.sql_grammar.specs.Reading.{run_token, run_valued, run_maybe, run_commas, run_name, run_table, run_type, run_expression}
use Rattle.sql_grammar.specs.Tree.{name_at, table_at, text_at, whole_at}

-- ---- what the script holds

-- the rule's expression, and its text, which is a part of the script as it stands there
pub record HoldsRule (script : List ℕ) (rule : RuleText) : Type 0 where
  pub expr : HoldsExpr script rule.expr
  pub place : Span
  pub placed : IsPlaced (length script) place
  pub means : rule.text ≡ unwrap_or (if_text (slice script place)) []

-- a number with its sign, above -2^63 and below 2^63
abbrev pub HoldsSigned : List ℕ → ℤ → Type 0
HoldsSigned script n = HoldsVersion script (nat_abs n)

-- START and INCREMENT: 1, or numbers of the script
abbrev pub HoldsSteps : List ℕ → ℤ × ℤ → Type 0
HoldsSteps script p = (p ≡ (pos 1, pos 1)) ⊎ (HoldsSigned script p.0 × HoldsSigned script p.1)

pub record HoldsIdentity (script : List ℕ) (identity : WrittenIdentity) : Type 0 where
  pub part : IsPart (length script) identity.place
  pub steps : HoldsSteps script (identity.start, identity.step)

abbrev pub HoldsMade : List ℕ → Made → Type 0
HoldsMade script (m.Generated rule) = HoldsRule script rule
HoldsMade script (m.Identity identity) = HoldsIdentity script identity

pub record HoldsColumn (script : List ℕ) (column : ColumnElement) : Type 0 where
  pub name : HoldsName script column.name
  pub kind : HoldsType script column.kind
  pub made : IfSome column.made (HoldsMade script)

pub record HoldsCheck (script : List ℕ) (check : CheckElement) : Type 0 where
  pub part : IsPart (length script) check.place
  pub name : HoldsName script check.name
  pub rule : HoldsRule script check.rule

abbrev pub HoldsElement : List ℕ → Element → Type 0
HoldsElement script (v.Column column) = HoldsColumn script column
HoldsElement script (v.Check check) = HoldsCheck script check

-- the key at its place, and the value at some other
pub record HoldsProperty (script : List ℕ) (property : Property) : Type 0 where
  pub key : HoldsText script property.place property.key
  pub place : Span
  pub value : HoldsText script place property.value

pub record HoldsCreate (script : List ℕ) (stmt : CreateStmt) : Type 0 where
  pub table : HoldsTable script stmt.table
  pub elements : All (HoldsElement script) stmt.elements
  pub partitions : All (HoldsName script) stmt.partitions
  pub properties : All (HoldsProperty script) stmt.properties

-- ---- trees

-- from the end of the first to the beginning of the second
abbrev pub between : Span → Span → Span
between a b = record { start = a.«end»; «end» = b.start }

-- What stands at a place, as it is written. It is UTF-8 wherever no token is bad, so that the other value never comes.
abbrev pub written_at : List ℕ → Span → List ℕ
written_at script s = unwrap_or (if_text (slice script s)) []

abbrev pub named : List ℕ → Token → Name
named script t = name_at script t.span

abbrev pub rule : List ℕ → Token × (Expr × Token) → RuleText
rule script p = record { expr = p.1.0; text = written_at script (between (p.0).span (p.1.1).span) }

-- with a minus before it the negative number
abbrev pub with_sign : Option Token → ℕ → ℤ
with_sign None n = pos n
with_sign (Some minus) n = neg_ℤ (pos n)

abbrev pub signed : List ℕ → Option Token × Token → ℤ
signed script p = with_sign p.0 (whole_at script (p.1).span)

-- START and INCREMENT
abbrev pub steps : Token × (Token × (Token × (ℤ × (Token × (Token × (ℤ × Token)))))) → ℤ × ℤ
steps p = (p.1.1.1.0, p.1.1.1.1.1.1.0)

-- behind GENERATED; START and INCREMENT are 1 where they aren't written
abbrev pub identity_of : Bool → ℤ × ℤ → Token → Made
identity_of explicit (start, step) generated = m.Identity (record {
  place = generated.span;
  explicit = explicit;
  start = start;
  step = step;
})

abbrev pub identity : Bool → Token × Option (ℤ × ℤ) → Token → Made
identity explicit p = identity_of explicit (unwrap_or p.1 (pos 1, pos 1))

abbrev pub computed : RuleText → Token → Made
computed rule generated = m.Generated rule

-- what stands behind GENERATED
abbrev pub always : Token × (Token × (Token → Made)) → Token → Made
always p = p.1.1

abbrev pub by_default : Token × (Token × (Token × (Token → Made))) → Token → Made
by_default p = p.1.1.1

abbrev pub made : Token × (Token → Made) → Made
made p = p.1 p.0

abbrev pub column : List ℕ → ((Token × WrittenType) × Option (Token × Token)) × Option Made → Element
column script p = v.Column (record {
  name = name_at script (p.0.0.0).span;
  kind = p.0.0.1;
  nullable = is_none p.0.1;
  made = p.1;
})

abbrev pub check : List ℕ → Token × (Token × (Token × RuleText)) → Element
check script p = v.Check (record {
  place = (p.0).span;
  name = name_at script (p.1.0).span;
  rule = p.1.1.1;
})

-- behind PARTITIONED BY
abbrev pub partitions : Token × (Token × (Token × (List Name × Token))) → List Name
partitions p = p.1.1.1.0

abbrev pub property : List ℕ → Token × (Token × Token) → Property
property script p = record {
  place = (p.0).span;
  key = text_at script (p.0).span;
  value = text_at script (p.1.1).span;
}

-- behind TBLPROPERTIES
abbrev pub properties : Token × (Token × (List Property × Token)) → List Property
properties p = p.1.1.0

abbrev pub create :
    List ℕ → Token × (Token × (Token × (Token × (List Element × ((Token × Option (List Name)) × Option (List Property)))))) → Stmt
create script p = Create (record {
  table = table_at script (p.1.1.0).span;
  elements = p.1.1.1.1.0;
  partitions = unwrap_or p.1.1.1.1.1.0.1 [];
  properties = unwrap_or p.1.1.1.1.1.1 [];
})

-- ---- productions, over the expressions that may stand in them

-- a type that stands in no expression: it opens one bracket at most
abbrev pub lone_type : List ℕ → Lang Token WrittenType
lone_type bytes = written_type bytes 1

module _ (bytes : List ℕ) (expr : Lang Token Expr) where
  -- "(" expr ")", where the brackets are none of the expression's
  abbrev pub rule_of : Lang Token RuleText
  rule_of = valued (rule bytes) (both (token k.Open) (both expr (token k.Close)))

  -- ["-"] n
  abbrev pub signed_of : Lang Token ℤ
  signed_of = valued (signed bytes) (both (maybe (token k.Minus)) whole)

  -- "(" START WITH ["-"] n INCREMENT BY ["-"] n ")"
  abbrev pub steps_of : Lang Token (ℤ × ℤ)
  steps_of = valued steps (both (token k.Open) (both (token k.Start) (both (token k.With) (both signed_of
      (both (token k.Increment) (both (token k.By) (both signed_of (token k.Close))))))))

  -- IDENTITY [steps]
  abbrev pub identity_of_kind : Bool → Lang Token (Token → Made)
  identity_of_kind explicit = valued (identity explicit) (both (token k.Identity) (maybe steps_of))

  -- ALWAYS AS (rule | identity), behind GENERATED
  abbrev pub always_of : Lang Token (Token → Made)
  always_of = valued always (both (token k.Always) (both (token k.As) (either (valued computed rule_of)
      (identity_of_kind false))))

  -- BY DEFAULT AS identity, behind GENERATED
  abbrev pub by_default_of : Lang Token (Token → Made)
  by_default_of = valued by_default (both (token k.By) (both (token k.Default) (both (token k.As)
      (identity_of_kind true))))

  -- GENERATED (always | default)
  abbrev pub made_of : Lang Token Made
  made_of = valued made (both (token k.Generated) (either always_of by_default_of))

  -- NOT NULL
  abbrev pub not_null_of : Lang Token (Token × Token)
  not_null_of = both (token k.Not) (token k.Null)

  -- name type [NOT NULL] [made]
  abbrev pub column_of : Lang Token Element
  column_of = valued (column bytes) (both (both (both name (lone_type bytes)) (maybe not_null_of)) (maybe made_of))

  -- CONSTRAINT name CHECK rule
  abbrev pub check_of : Lang Token Element
  check_of = valued (check bytes) (both (token k.Constraint) (both name (both (token k.Check) rule_of)))

  -- element = column | check
  abbrev pub element_of : Lang Token Element
  element_of = either column_of check_of

  -- PARTITIONED BY "(" name {"," name} ")"
  abbrev pub partitions_of : Lang Token (List Name)
  partitions_of = valued partitions (both (token k.Partitioned) (both (token k.By) (both (token k.Open)
      (both (commas (valued (named bytes) name)) (token k.Close)))))

  -- text "=" text
  abbrev pub property_of : Lang Token Property
  property_of = valued (property bytes) (both text (both (token k.Equal) text))

  -- TBLPROPERTIES "(" property {"," property} ")"
  abbrev pub properties_of : Lang Token (List Property)
  properties_of = valued properties (both (token k.TblProperties) (both (token k.Open) (both (commas property_of)
      (token k.Close))))

  -- ")" [partitions] [properties], behind the elements
  abbrev pub create_end_of : Lang Token ((Token × Option (List Name)) × Option (List Property))
  create_end_of = both (both (token k.Close) (maybe partitions_of)) (maybe properties_of)

  -- CREATE TABLE table "(" element {"," element} ")" [partitions] [properties]
  abbrev pub create_of : Lang Token Stmt
  create_of = valued (create bytes) (both (token k.Create) (both (token k.TableWord) (both table (both (token k.Open)
      (both (commas element_of) create_end_of)))))

-- ---- readers

module _ (bytes : List ℕ) where
  abbrev pub run_rule : Reader Token RuleText
  run_rule = run_valued (rule bytes) (run_both (run_token k.Open) (run_both (run_expression bytes) (run_token k.Close)))

  abbrev pub run_maybe_minus : Reader Token (Option Token)
  run_maybe_minus = run_maybe (is k.Minus) (run_token k.Minus)

  abbrev pub run_signed : Reader Token ℤ
  run_signed = run_valued (signed bytes) (run_both run_maybe_minus (run_token k.Whole))

  abbrev pub run_steps : Reader Token (ℤ × ℤ)
  run_steps = run_valued steps (run_both (run_token k.Open) (run_both (run_token k.Start) (run_both (run_token k.With)
      (run_both run_signed (run_both (run_token k.Increment) (run_both (run_token k.By) (run_both run_signed
      (run_token k.Close))))))))

  abbrev pub run_maybe_steps : Reader Token (Option (ℤ × ℤ))
  run_maybe_steps = run_maybe (is k.Open) run_steps

  abbrev pub run_identity : Bool → Reader Token (Token → Made)
  run_identity explicit = run_valued (identity explicit) (run_both (run_token k.Identity) run_maybe_steps)

  abbrev pub run_computed : Reader Token (Token → Made)
  run_computed = run_valued computed run_rule

  abbrev pub run_always : Reader Token (Token → Made)
  run_always = run_valued always (run_both (run_token k.Always) (run_both (run_token k.As)
      (run_either (is k.Open) run_computed (run_identity false))))

  abbrev pub run_by_default : Reader Token (Token → Made)
  run_by_default = run_valued by_default (run_both (run_token k.By) (run_both (run_token k.Default)
      (run_both (run_token k.As) (run_identity true))))

  abbrev pub run_made : Reader Token Made
  run_made = run_valued made (run_both (run_token k.Generated) (run_either (is k.Always) run_always run_by_default))

  abbrev pub run_maybe_made : Reader Token (Option Made)
  run_maybe_made = run_maybe (is k.Generated) run_made

  abbrev pub run_not_null : Reader Token (Token × Token)
  run_not_null = run_both (run_token k.Not) (run_token k.Null)

  abbrev pub run_maybe_not_null : Reader Token (Option (Token × Token))
  run_maybe_not_null = run_maybe (is k.Not) run_not_null

  abbrev pub run_column : Reader Token Element
  run_column = run_valued (column bytes) (run_both (run_both (run_both run_name (run_type bytes 1)) run_maybe_not_null)
      run_maybe_made)

  abbrev pub run_check : Reader Token Element
  run_check = run_valued (check bytes) (run_both (run_token k.Constraint) (run_both run_name (run_both
      (run_token k.Check) run_rule)))

  abbrev pub run_element : Reader Token Element
  run_element = run_either (any names) run_column run_check

  abbrev pub run_elements : Reader Token (List Element)
  run_elements = run_commas run_element

  abbrev pub run_partition : Reader Token Name
  run_partition = run_valued (named bytes) run_name

  abbrev pub run_partition_list : Reader Token (List Name)
  run_partition_list = run_commas run_partition

  abbrev pub run_partitions : Reader Token (List Name)
  run_partitions = run_valued partitions (run_both (run_token k.Partitioned) (run_both (run_token k.By) (run_both
      (run_token k.Open) (run_both run_partition_list (run_token k.Close)))))

  abbrev pub run_maybe_partitions : Reader Token (Option (List Name))
  run_maybe_partitions = run_maybe (is k.Partitioned) run_partitions

  abbrev pub run_text : Reader Token Token
  run_text = run_one (any is_text)

  abbrev pub run_property : Reader Token Property
  run_property = run_valued (property bytes) (run_both run_text (run_both (run_token k.Equal) run_text))

  abbrev pub run_property_list : Reader Token (List Property)
  run_property_list = run_commas run_property

  abbrev pub run_properties : Reader Token (List Property)
  run_properties = run_valued properties (run_both (run_token k.TblProperties) (run_both (run_token k.Open) (run_both
      run_property_list (run_token k.Close))))

  abbrev pub run_maybe_properties : Reader Token (Option (List Property))
  run_maybe_properties = run_maybe (is k.TblProperties) run_properties

  abbrev pub run_create_end : Reader Token ((Token × Option (List Name)) × Option (List Property))
  run_create_end = run_both (run_both (run_token k.Close) run_maybe_partitions) run_maybe_properties

  abbrev pub run_create : Reader Token Stmt
  run_create = run_valued (create bytes) (run_both (run_token k.Create) (run_both (run_token k.TableWord) (run_both
      run_table (run_both (run_token k.Open) (run_both run_elements run_create_end)))))
