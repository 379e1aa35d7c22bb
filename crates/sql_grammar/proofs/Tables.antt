-- Tables stand where they are due: behind FROM and behind what SHOW stands before, and nowhere in what a SELECT asks for.
use Rattle.std.proofs.Common.{◌≡◌, ℕ, zero, suc, Bool, true, false, List, [], ◌∷◌, ◌⊎◌, inl, inr, refl, subst, sym}
use Rattle.std.specs.Prelude.{◌||◌, not, Option, Some, None}
use Rattle.token_lang.specs.Lang.{Lang, one, nothing, never, both, either, valued, reads_all, many, at_most}
use Rattle.sql_tree.specs.Kinds.{is, any, names, names_alone, is_value, compares, multiplies, signs, is_truth, is_plain_type, is_text, is_table, dates}
use Rattle.sql_tree.proofs.KindLaws.{at_each, every, kinds}
use Rattle.sql_tree.specs.declared.token.Kind.{Kind}
use Rattle.sql_tree.specs.declared.token.Kind.TheVariants as k
use Rattle.sql_tree.specs.declared.token.Token.{Token}
use Rattle.sql_tree.specs.declared.token.Span.{Span}
use Rattle.sql_tree.specs.declared.tree.Expr.{Expr}
use Rattle.sql_statements.specs.declared.SelectItems.TheVariants as i
use Rattle.sql_statements.specs.declared.Stmt.{Stmt}
use Rattle.sql_lex.specs.declared.lexer.Before.{Before}
use Rattle.sql_lex.specs.declared.lexer.Before.TheVariants as before
use Rattle.sql_lex.specs.Tokens.{after, is_table_due}
use Rattle.sql_grammar.specs.Due.{HasTablesWhereDue}
use Rattle.sql_grammar.specs.Create as c
use Rattle.sql_grammar.specs.Grammar as g
use Rattle.sql_grammar.specs.Statements as s
use Rattle.sql_grammar.specs.Tree as tree
use Rattle.sql_grammar.proofs.Within.{holds_then}

-- ---- a token

-- a token of this kind from one state to another, no table
Steps : Before → Before → Kind → Type 0
Steps state next kind = (is_table kind ≡ false) × (after state kind ≡ next)

shows : (s : Span) (kind : Kind) → is k.Show (record { kind = kind; span = s }) ≡ true → Steps before.Start before.Show kind
unfolding Steps
shows s k.Show h = (refl, refl)
shows s _ h = absurd (cc)

files : (s : Span) (kind : Kind) → is k.Files (record { kind = kind; span = s }) ≡ true → Steps before.Show before.Table kind
unfolding Steps
files s k.Files h = (refl, refl)
files s _ h = absurd (cc)

rows : (s : Span) (kind : Kind) → is k.Rows (record { kind = kind; span = s }) ≡ true → Steps before.Show before.Table kind
unfolding Steps
rows s k.Rows h = (refl, refl)
rows s _ h = absurd (cc)

deletes : (s : Span) (kind : Kind) → is k.Delete (record { kind = kind; span = s }) ≡ true → Steps before.Start before.Other kind
unfolding Steps
deletes s k.Delete h = (refl, refl)
deletes s _ h = absurd (cc)

selects : (s : Span) (kind : Kind) → is k.Select (record { kind = kind; span = s }) ≡ true → Steps before.Start before.Select kind
unfolding Steps
selects s k.Select h = (refl, refl)
selects s _ h = absurd (cc)

select_from : (s : Span) (kind : Kind) → is k.From (record { kind = kind; span = s }) ≡ true → Steps before.Select before.SelectTable kind
unfolding Steps
select_from s k.From h = (refl, refl)
select_from s _ h = absurd (cc)

from : (s : Span) (kind : Kind) → is k.From (record { kind = kind; span = s }) ≡ true → Steps before.Other before.Table kind
unfolding Steps
from s k.From h = (refl, refl)
from s _ h = absurd (cc)

table : (kind : Kind) → is_table kind ≡ true → after before.Table kind ≡ before.Other
table k.Table h = refl
table k.TableChanges h = refl
table _ h = absurd (cc)

select_table : (kind : Kind) → is_table kind ≡ true → after before.SelectTable kind ≡ before.Select
select_table k.Table h = refl
select_table k.TableChanges h = refl
select_table _ h = absurd (cc)

versions : (s : Span) (kind : Kind) → is k.Version (record { kind = kind; span = s }) ≡ true → Steps before.Other before.Other kind
unfolding Steps
versions s k.Version h = (refl, refl)
versions s _ h = absurd (cc)

as_words : (s : Span) (kind : Kind) → is k.As (record { kind = kind; span = s }) ≡ true → Steps before.Other before.Other kind
unfolding Steps
as_words s k.As h = (refl, refl)
as_words s _ h = absurd (cc)

of_words : (s : Span) (kind : Kind) → is k.Of (record { kind = kind; span = s }) ≡ true → Steps before.Other before.Other kind
unfolding Steps
of_words s k.Of h = (refl, refl)
of_words s _ h = absurd (cc)

numbers : (s : Span) (kind : Kind) → is k.Whole (record { kind = kind; span = s }) ≡ true → Steps before.Other before.Other kind
unfolding Steps
numbers s k.Whole h = (refl, refl)
numbers s _ h = absurd (cc)

ends : (s : Span) (kind : Kind) → is k.Semicolon (record { kind = kind; span = s }) ≡ true → Steps before.Other before.Start kind
unfolding Steps
ends s k.Semicolon h = (refl, refl)
ends s _ h = absurd (cc)

select_ends : (s : Span) (kind : Kind) → is k.Semicolon (record { kind = kind; span = s }) ≡ true → Steps before.Select before.Start kind
unfolding Steps
select_ends s k.Semicolon h = (refl, refl)
select_ends s _ h = absurd (cc)

then_ends : (s : Span) (kind : Kind) → is k.Semicolon (record { kind = kind; span = s }) ≡ true → Steps before.Then before.Start kind
unfolding Steps
then_ends s k.Semicolon h = (refl, refl)
then_ends s _ h = absurd (cc)

creates : (s : Span) (kind : Kind) → is k.Create (record { kind = kind; span = s }) ≡ true → Steps before.Start before.Other kind
unfolding Steps
creates s k.Create h = (refl, refl)
creates s _ h = absurd (cc)

table_words : (s : Span) (kind : Kind) → is k.TableWord (record { kind = kind; span = s }) ≡ true → Steps before.Other before.Table kind
unfolding Steps
table_words s k.TableWord h = (refl, refl)
table_words s _ h = absurd (cc)

-- a token of expressions, of a SELECT and of what stands behind the table of a CREATE that is no table, and behind which
-- none is due
abbrev stays : Kind → Bool
stays k.Table = false
stays k.TableChanges = false
stays k.Semicolon = false
stays k.From = false
stays k.Into = false
stays k.TableWord = false
stays k.Show = false
stays k.Verify = false
stays k.Using = false
stays k.Update = false
stays k.Select = false
stays _ = true

stays_so : (kind : Kind) → stays kind ≡ true → Steps before.Select before.Select kind
unfolding Steps
stays_so k.Table h = absurd (cc)
stays_so k.TableChanges h = absurd (cc)
stays_so k.Semicolon h = absurd (cc)
stays_so k.From h = absurd (cc)
stays_so k.Into h = absurd (cc)
stays_so k.TableWord h = absurd (cc)
stays_so k.Show h = absurd (cc)
stays_so k.Verify h = absurd (cc)
stays_so k.Using h = absurd (cc)
stays_so k.Update h = absurd (cc)
stays_so k.Select h = absurd (cc)
stays_so _ h = (refl, refl)

-- outside of a SELECT, wherever THEN stands before the tokens or not
abbrev HasTablesOutside : List Token → Type 0
HasTablesOutside ts = HasTablesWhereDue before.Other ts × HasTablesWhereDue before.Then ts

outside_so : (kind : Kind) (ts : List Token) → stays kind ≡ true → HasTablesOutside ts
    → (is_table kind ≡ false) × HasTablesWhereDue (after before.Other kind) ts × HasTablesWhereDue (after before.Then kind) ts
outside_so k.Table ts h due = absurd (cc)
outside_so k.TableChanges ts h due = absurd (cc)
outside_so k.Semicolon ts h due = absurd (cc)
outside_so k.From ts h due = absurd (cc)
outside_so k.Into ts h due = absurd (cc)
outside_so k.TableWord ts h due = absurd (cc)
outside_so k.Show ts h due = absurd (cc)
outside_so k.Verify ts h due = absurd (cc)
outside_so k.Using ts h due = absurd (cc)
outside_so k.Update ts h due = absurd (cc)
outside_so k.Select ts h due = absurd (cc)
outside_so k.Then ts h due = (refl, due.1, due.1)
outside_so _ ts h due = (refl, due.0, due.0)

one_more : (state next : Before) (t : Token) (ts : List Token) → is_table_due state ≡ false → Steps state next t.kind → HasTablesWhereDue next ts → HasTablesWhereDue state (t ∷ ts)
unfolding Steps
one_more state next t ts apart (none, goes) rest = (rw (none, apart) refl, subst (λ (s : Before). HasTablesWhereDue s ts) (sym goes) rest)

at_table : (t : Token) (ts : List Token) → is_table t.kind ≡ true → HasTablesWhereDue before.Other ts → HasTablesWhereDue before.Table (t ∷ ts)
at_table t ts is rest = (is, subst (λ (s : Before). HasTablesWhereDue s ts) (sym (table t.kind is)) rest)

at_select_table : (t : Token) (ts : List Token) → is_table t.kind ≡ true → HasTablesWhereDue before.Select ts → HasTablesWhereDue before.SelectTable (t ∷ ts)
at_select_table t ts is rest = (is, subst (λ (s : Before). HasTablesWhereDue s ts) (sym (select_table t.kind is)) rest)

ended : (t : Token) (ts : List Token) → is k.Semicolon t ≡ true → HasTablesWhereDue before.Start ts → HasTablesWhereDue before.Other (t ∷ ts)
ended t ts is rest = one_more before.Other before.Start t ts refl (ends t.span t.kind is) rest

select_ended : (t : Token) (ts : List Token) → is k.Semicolon t ≡ true → HasTablesWhereDue before.Start ts → HasTablesWhereDue before.Select (t ∷ ts)
select_ended t ts is rest = one_more before.Select before.Start t ts refl (select_ends t.span t.kind is) rest

then_ended : (t : Token) (ts : List Token) → is k.Semicolon t ≡ true → HasTablesWhereDue before.Start ts → HasTablesWhereDue before.Then (t ∷ ts)
then_ended t ts is rest = one_more before.Then before.Start t ts refl (then_ends t.span t.kind is) rest

same : (ts us : List Token) (state : Before) → ts ≡ us → HasTablesWhereDue state us → HasTablesWhereDue state ts
same ts us state e h = subst (λ (xs : List Token). HasTablesWhereDue state xs) (sym e) h

-- ---- parts without a table

-- tokens before which such a token may stand
abbrev GoesOn : (List Token → Type 0) → Type 0
GoesOn Due = (t : Token) (ts : List Token) → stays t.kind ≡ true → Due ts → Due (t ∷ ts)

in_select : GoesOn (HasTablesWhereDue before.Select)
in_select t ts stay due = one_more before.Select before.Select t ts refl (stays_so t.kind stay) due

outside : GoesOn HasTablesOutside
outside t ts stay due = let so = outside_so t.kind ts stay due in ((so.0, so.1), (so.0, so.2))

-- where the tables behind a sentence stand where they are due, so do those from its beginning on
record Steady {A : Type 0} (L : Lang Token A) : Type 1 where
  due : (Due : List Token → Type 0) → GoesOn Due → (ts : List Token) (a : A) (rest : List Token) → Due rest → L.reads ts a rest → Due ts

alike : (Due : List Token → Type 0) (ts us : List Token) → ts ≡ us → Due us → Due ts
alike Due ts us e h = subst Due (sym e) h

-- by a test of each kind
one_steady : (is_one : Token → Bool) → ((s : Span) → every kinds (λ kind. not (is_one (record { kind = kind; span = s })) || stays kind) ≡ true) → Steady (one is_one)
one_steady is_one so = record {
  due = λ Due on ts t rest h r.
      let stay = holds_then (is_one t) (stays t.kind) (at_each (λ kind. not (is_one (record { kind = kind; span = t.span })) || stays kind) (so t.span) t.kind) r.1 in
      alike Due ts (t ∷ rest) r.0 (on t rest stay h);
}

nothing_steady : Steady nothing
nothing_steady = record { due = λ Due on ts a rest h e. alike Due ts rest e h }

never_steady : {A : Type 0} → Steady {A = A} never
never_steady = record { due = λ Due on ts a rest h none. absurd none }

module _ {A : Type 0} {L : Lang Token A} (x : Steady L) where
  valued_steady : {B : Type 0} (make : A → B) → Steady (valued make L)
  valued_steady make = record { due = λ Due on ts b rest h r. x.due Due on ts r.0 rest h r.1 }

  both_steady : {B : Type 0} {E : Lang Token B} → Steady E → Steady (both L E)
  both_steady y = record { due = λ Due on ts p rest h r. x.due Due on ts p.0 r.0 (y.due Due on r.0 p.1 rest h r.2) r.1 }

  either_due : {E : Lang Token A} → Steady E → (Due : List Token → Type 0) → GoesOn Due → (ts : List Token) (a : A) (rest : List Token) → Due rest → L.reads ts a rest ⊎ E.reads ts a rest → Due ts
  either_due y Due on ts a rest h (inl r) = x.due Due on ts a rest h r
  either_due y Due on ts a rest h (inr r) = y.due Due on ts a rest h r

  either_steady : {E : Lang Token A} → Steady E → Steady (either L E)
  either_steady y = record { due = either_due y }

  many_due : (Due : List Token → Type 0) → GoesOn Due → (ts : List Token) (all : List A) (rest : List Token) → Due rest → reads_all L.reads ts all rest → Due ts
  many_due Due on ts [] rest h e = alike Due ts rest e h
  many_due Due on ts (a ∷ all) rest h r = x.due Due on ts a r.0 (many_due Due on r.0 all rest h r.2) r.1

  many_steady : Steady (many L)
  many_steady = record { due = many_due }

  at_most_steady : (n : ℕ) → Steady (at_most n L)
  at_most_steady n = record { due = λ Due on ts a rest h r. x.due Due on ts a rest h r.0 }

module _ {A : Type 0} {L : Lang Token A} (x : Steady L) where
  maybe_steady : Steady (g.maybe L)
  maybe_steady = either_steady (valued_steady x Some) (valued_steady nothing_steady (λ _. None))

  commas_steady : Steady (g.commas L)
  commas_steady = valued_steady (both_steady x (many_steady (valued_steady (both_steady (one_steady (is k.Comma) (λ s. refl)) x) g.second))) g.list

chain_steady : {L : Lang Token Expr} (operator : Token → Bool) → Steady (one operator) → Steady L → Steady (g.chain operator L)
chain_steady operator o x = valued_steady (both_steady x (many_steady (both_steady o x))) tree.all_joined

signed_steady : {L : Lang Token Expr} (sign : Token → Bool) → Steady (one sign) → Steady L → Steady (g.signed sign L)
signed_steady sign o x = valued_steady (both_steady (many_steady o) x) tree.all_prefixed

opening : (depth : ℕ) (kind : Kind) → Steady (g.token kind) → Steady (g.opening depth kind)
unfolding g.opening
opening zero kind x = never_steady
opening (suc depth) kind x = x

open_bracket : (depth : ℕ) → Steady (g.opening depth k.Open)
open_bracket depth = opening depth k.Open (one_steady (is k.Open) (λ s. refl))

close : Steady (g.token k.Close)
close = one_steady (is k.Close) (λ s. refl)

module _ (script : List ℕ) where
  at_version : Steady (g.at_version script)
  at_version = valued_steady (both_steady (one_steady (is k.Version) (λ s. refl)) (both_steady (one_steady (is k.As) (λ s. refl)) (both_steady (one_steady (is k.Of) (λ s. refl))
      (valued_steady (one_steady (is k.Whole) (λ s. refl)) (tree.version script))))) tree.at_version

  written : (depth : ℕ) → Steady (g.written_type script depth)
  written depth = either_steady (valued_steady (one_steady (any is_plain_type) (λ s. refl)) tree.plain_type)
      (valued_steady (both_steady (one_steady (is k.DecimalWord) (λ s. refl)) (both_steady (open_bracket depth) (both_steady (one_steady (is k.Whole) (λ s. refl))
      (both_steady (one_steady (is k.Comma) (λ s. refl)) (both_steady (one_steady (is k.Whole) (λ s. refl)) close))))) (tree.decimal_type script))

  type_inside : (depth : ℕ) → Steady (g.type_inside script depth)
  unfolding g.type_inside
  type_inside zero = never_steady
  type_inside (suc depth) = written depth

  not_word : Steady (g.maybe (g.token k.Not))
  not_word = maybe_steady (one_steady (is k.Not) (λ s. refl))

  question : Steady g.question
  question = valued_steady (both_steady (one_steady (is k.Is) (λ s. refl)) (both_steady not_word (one_steady (any is_truth) (λ s. refl)))) tree.asked

  module _ (depth : ℕ) {B : Lang Token Expr} (x : Steady B) where
    group : Steady (g.group script depth B)
    group = valued_steady (both_steady (open_bracket depth) (both_steady x close)) tree.grouped

    arguments : Steady (g.arguments script depth B)
    arguments = valued_steady (both_steady (open_bracket depth) (both_steady (maybe_steady (commas_steady x)) close)) (tree.called script)

    tail : Steady (g.tail script depth B)
    tail = either_steady (valued_steady (both_steady (one_steady (is k.Dot) (λ s. refl)) (one_steady (any names) (λ s. refl))) (tree.qualified script)) arguments

    dated : Steady (g.dated script depth B)
    dated = valued_steady (both_steady (one_steady (any dates) (λ s. refl)) (maybe_steady (either_steady (valued_steady (one_steady (any is_text) (λ s. refl)) (tree.dated script)) tail))) (tree.named script)

    named : Steady (g.named script depth B)
    named = valued_steady (both_steady (one_steady (any names_alone) (λ s. refl)) (maybe_steady tail)) (tree.named script)

    branch : Steady (g.branch script depth B)
    branch = valued_steady (both_steady (one_steady (is k.When) (λ s. refl)) (both_steady x (both_steady (one_steady (is k.Then) (λ s. refl)) x))) tree.branched

    otherwise : Steady (g.otherwise script depth B)
    otherwise = valued_steady (both_steady (one_steady (is k.Else) (λ s. refl)) x) g.second

    case : Steady (g.case script depth B)
    case = valued_steady (both_steady (opening depth k.Case (one_steady (is k.Case) (λ s. refl))) (both_steady (valued_steady (both_steady branch (many_steady branch)) g.list)
        (both_steady (maybe_steady otherwise) (one_steady (is k.End) (λ s. refl))))) tree.cased

    cast : Steady (g.cast script depth B)
    cast = valued_steady (both_steady (one_steady (is k.Cast) (λ s. refl)) (both_steady (open_bracket depth) (both_steady x (both_steady (one_steady (is k.As) (λ s. refl))
        (both_steady (type_inside depth) close))))) tree.cast_to

    primary : Steady (g.primary script depth B)
    primary = either_steady (valued_steady (one_steady (any is_value) (λ s. refl)) (tree.literal script)) (either_steady dated (either_steady group (either_steady named (either_steady case cast))))

    cat : Steady (g.cat script depth B)
    cat =
        let sign = one_steady (any signs) (λ s. refl) in
        chain_steady (is k.Concat) (one_steady (is k.Concat) (λ s. refl)) (chain_steady (any signs) sign
        (chain_steady (any multiplies) (one_steady (any multiplies) (λ s. refl)) (signed_steady (any signs) sign primary)))

    between : Steady (g.between script depth B)
    between = valued_steady (both_steady (one_steady (is k.Between) (λ s. refl)) (both_steady cat (both_steady (one_steady (is k.And) (λ s. refl)) cat))) tree.between_bounds

    among : Steady (g.among script depth B)
    among = valued_steady (both_steady (one_steady (is k.In) (λ s. refl)) (both_steady (open_bracket depth) (both_steady (commas_steady x) close))) tree.among

    range : Steady (g.range script depth B)
    range = valued_steady (both_steady not_word (either_steady between among)) tree.maybe_not

    comparison : Steady (g.comparison script depth B)
    comparison = valued_steady (both_steady (one_steady (any compares) (λ s. refl)) cat) tree.compared

    test : Steady (g.test script depth B)
    test = valued_steady (both_steady cat (maybe_steady (either_steady comparison (either_steady question range)))) tree.tested

    disjunction : Steady (g.disjunction script depth B)
    disjunction = chain_steady (is k.Or) (one_steady (is k.Or) (λ s. refl)) (chain_steady (is k.And) (one_steady (is k.And) (λ s. refl))
        (signed_steady (is k.Not) (one_steady (is k.Not) (λ s. refl)) test))

  inside : (depth : ℕ) → Steady (g.inside script depth)
  unfolding g.inside
  inside zero = never_steady
  inside (suc depth) = disjunction depth (inside depth)

  expression : Steady (g.expression script)
  unfolding g.expression
  expression = at_most_steady (disjunction 64 (inside 64)) 1000

  select_items : Steady (s.select_items_of script (g.expression script))
  select_items =
      let alias = valued_steady (both_steady (one_steady (is k.As) (λ s. refl)) (one_steady (any names) (λ s. refl))) (s.alias script) in
      either_steady (valued_steady (one_steady (is k.Star) (λ s. refl)) s.select_all)
      (valued_steady (commas_steady (valued_steady (both_steady expression (maybe_steady alias)) s.select_item)) i.Listed)

  where_condition : Steady (s.where_of script (g.expression script))
  where_condition = valued_steady (both_steady (one_steady (is k.Where) (λ s. refl)) expression) g.second

  rule : Steady (c.rule_of script (g.expression script))
  rule = valued_steady (both_steady (one_steady (is k.Open) (λ s. refl)) (both_steady expression close)) (c.rule script)

  signed : Steady (c.signed_of script (g.expression script))
  signed = valued_steady (both_steady (maybe_steady (one_steady (is k.Minus) (λ s. refl))) (one_steady (is k.Whole) (λ s. refl))) (c.signed script)

  steps : Steady (c.steps_of script (g.expression script))
  steps = valued_steady (both_steady (one_steady (is k.Open) (λ s. refl)) (both_steady (one_steady (is k.Start) (λ s. refl)) (both_steady (one_steady (is k.With) (λ s. refl))
      (both_steady signed (both_steady (one_steady (is k.Increment) (λ s. refl)) (both_steady (one_steady (is k.By) (λ s. refl)) (both_steady signed close))))))) c.steps

  identity : (explicit : Bool) → Steady (c.identity_of_kind script (g.expression script) explicit)
  identity explicit = valued_steady (both_steady (one_steady (is k.Identity) (λ s. refl)) (maybe_steady steps)) (c.identity explicit)

  made : Steady (c.made_of script (g.expression script))
  made = valued_steady (both_steady (one_steady (is k.Generated) (λ s. refl)) (either_steady
      (valued_steady (both_steady (one_steady (is k.Always) (λ s. refl)) (both_steady (one_steady (is k.As) (λ s. refl)) (either_steady (valued_steady rule c.computed) (identity false)))) c.always)
      (valued_steady (both_steady (one_steady (is k.By) (λ s. refl)) (both_steady (one_steady (is k.Default) (λ s. refl)) (both_steady (one_steady (is k.As) (λ s. refl)) (identity true)))) c.by_default))) c.made

  element : Steady (c.element_of script (g.expression script))
  element =
      let name = one_steady (any names) (λ s. refl) in
      let not_null = both_steady (one_steady (is k.Not) (λ s. refl)) (one_steady (is k.Null) (λ s. refl)) in
      either_steady (valued_steady (both_steady (both_steady (both_steady name (written 1)) (maybe_steady not_null)) (maybe_steady made)) (c.column script))
      (valued_steady (both_steady (one_steady (is k.Constraint) (λ s. refl)) (both_steady name (both_steady (one_steady (is k.Check) (λ s. refl)) rule))) (c.check script))

  partitions : Steady (c.partitions_of script (g.expression script))
  partitions = valued_steady (both_steady (one_steady (is k.Partitioned) (λ s. refl)) (both_steady (one_steady (is k.By) (λ s. refl)) (both_steady (one_steady (is k.Open) (λ s. refl))
      (both_steady (commas_steady (valued_steady (one_steady (any names) (λ s. refl)) (c.named script))) close)))) c.partitions

  properties : Steady (c.properties_of script (g.expression script))
  properties =
      let text = one_steady (any is_text) (λ s. refl) in
      let property = valued_steady (both_steady text (both_steady (one_steady (is k.Equal) (λ s. refl)) text)) (c.property script) in
      valued_steady (both_steady (one_steady (is k.TblProperties) (λ s. refl)) (both_steady (one_steady (is k.Open) (λ s. refl)) (both_steady (commas_steady property) close))) c.properties

  -- behind the table of a CREATE
  create_rest : Steady (both (g.token k.Open) (both (g.commas (c.element_of script (g.expression script))) (c.create_end_of script (g.expression script))))
  create_rest = both_steady (one_steady (is k.Open) (λ s. refl)) (both_steady (commas_steady element) (both_steady (both_steady close (maybe_steady partitions)) (maybe_steady properties)))

-- ---- statements

-- behind a table, where no other is due
at_version_due : (bytes : List ℕ) (ts : List Token) (n : ℕ) (rest : List Token) → (g.at_version bytes).reads ts n rest → HasTablesWhereDue before.Other rest → HasTablesWhereDue before.Other ts
at_version_due bytes ts n rest (p, (one, (first, is_version), (two, (second, is_as), (three, (third, is_of), (t, (fourth, is_whole), said)))), made) h =
    same ts (p.0 ∷ one) before.Other first (one_more before.Other before.Other p.0 one refl (versions (p.0).span (p.0).kind is_version)
    (same one (p.1.0 ∷ two) before.Other second (one_more before.Other before.Other p.1.0 two refl (as_words (p.1.0).span (p.1.0).kind is_as)
    (same two (p.1.1.0 ∷ three) before.Other third (one_more before.Other before.Other p.1.1.0 three refl (of_words (p.1.1.0).span (p.1.1.0).kind is_of)
    (same three (t ∷ rest) before.Other fourth (one_more before.Other before.Other t rest refl (numbers t.span t.kind is_whole) h)))))))

maybe_version_due : (bytes : List ℕ) (ts : List Token) (version : Option ℕ) (rest : List Token) → (g.maybe (g.at_version bytes)).reads ts version rest
    → HasTablesWhereDue before.Other rest → HasTablesWhereDue before.Other ts
maybe_version_due bytes ts version rest (inl (n, found, made)) h = at_version_due bytes ts n rest found h
maybe_version_due bytes ts version rest (inr (unit, ends, made)) h = same ts rest before.Other ends h

-- behind SHOW
shown_due : (bytes : List ℕ) (ts : List Token) (stmt : Stmt) (rest : List Token) → (either (s.show_files_of bytes (g.expression bytes)) (s.show_rows_of bytes (g.expression bytes))).reads ts stmt rest
    → HasTablesWhereDue before.Other rest → HasTablesWhereDue before.Show ts
shown_due bytes ts stmt rest (inl (p, (one, (first, file), (second, is)), made)) h =
    same ts (p.0 ∷ one) before.Show first (one_more before.Show before.Table p.0 one refl (files (p.0).span (p.0).kind file)
    (same one (p.1 ∷ rest) before.Table second (at_table p.1 rest is h)))
shown_due bytes ts stmt rest (inr (p, (one, (first, row), (two, (second, is), version)), made)) h =
    same ts (p.0 ∷ one) before.Show first (one_more before.Show before.Table p.0 one refl (rows (p.0).span (p.0).kind row)
    (same one (p.1.0 ∷ two) before.Table second (at_table p.1.0 two is (maybe_version_due bytes two p.1.1 rest version h))))

select_due : (bytes : List ℕ) (ts : List Token) (stmt : Stmt) (rest : List Token) → (s.select_of bytes (g.expression bytes)).reads ts stmt rest
    → HasTablesWhereDue before.Select rest → HasTablesWhereDue before.Start ts
select_due bytes ts stmt rest (p, (one, (first, select), (two, items, (three, (second, comes), (five, (four, (third, is), version), condition)))), made) h =
    let versioned = (maybe_steady (where_condition bytes)).due (HasTablesWhereDue before.Select) in_select five p.1.1.1.1 rest h condition in
    let named = (maybe_steady (at_version bytes)).due (HasTablesWhereDue before.Select) in_select four p.1.1.1.0.1 five versioned version in
    let table = same three (p.1.1.1.0.0 ∷ four) before.SelectTable third (at_select_table p.1.1.1.0.0 four is named) in
    let behind = same two (p.1.1.0 ∷ three) before.Select second (one_more before.Select before.SelectTable p.1.1.0 three refl (select_from (p.1.1.0).span (p.1.1.0).kind comes) table) in
    let asked = (select_items bytes).due (HasTablesWhereDue before.Select) in_select one p.1.0 two behind items in
    same ts (p.0 ∷ one) before.Start first (one_more before.Start before.Select p.0 one refl (selects (p.0).span (p.0).kind select) asked)

create_due : (bytes : List ℕ) (ts : List Token) (stmt : Stmt) (rest : List Token) → (c.create_of bytes (g.expression bytes)).reads ts stmt rest
    → HasTablesOutside rest → HasTablesWhereDue before.Start ts
create_due bytes ts stmt rest (p, (one, (first, create), (two, (second, word), (three, (third, is), more))), made) h =
    let behind = (create_rest bytes).due HasTablesOutside outside three p.1.1.1 rest h more in
    same ts (p.0 ∷ one) before.Start first (one_more before.Start before.Other p.0 one refl (creates (p.0).span (p.0).kind create)
    (same one (p.1.0 ∷ two) before.Other second (one_more before.Other before.Table p.1.0 two refl (table_words (p.1.0).span (p.1.0).kind word)
    (same two (p.1.1.0 ∷ three) before.Table third (at_table p.1.1.0 three is behind.0)))))

one_statement : (bytes : List ℕ) (ts : List Token) (stmt : Stmt) (rest : List Token) → (s.statement_of bytes (g.expression bytes)).reads ts stmt rest
    → HasTablesOutside rest → HasTablesWhereDue before.Select rest → HasTablesWhereDue before.Start ts
one_statement bytes ts stmt rest (inl (p, (one, (first, show), shown), made)) h selected =
    same ts (p.0 ∷ one) before.Start first (one_more before.Start before.Show p.0 one refl (shows (p.0).span (p.0).kind show) (shown_due bytes one p.1 rest shown h.0))
one_statement bytes ts stmt rest (inr (inl reads)) h selected = select_due bytes ts stmt rest reads selected
one_statement bytes ts stmt rest (inr (inr (inl (p, (one, (first, delete), (two, (second, comes), (third, is))), made)))) h selected =
    same ts (p.0 ∷ one) before.Start first (one_more before.Start before.Other p.0 one refl (deletes (p.0).span (p.0).kind delete)
    (same one (p.1.0 ∷ two) before.Other second (one_more before.Other before.Table p.1.0 two refl (from (p.1.0).span (p.1.0).kind comes)
    (same two (p.1.1 ∷ rest) before.Table third (at_table p.1.1 rest is h.0)))))
one_statement bytes ts stmt rest (inr (inr (inr reads))) h selected = create_due bytes ts stmt rest reads h

pub tables_where_due : (bytes : List ℕ) (ts : List Token) (all : List Stmt) → (s.script bytes).reads ts all [] → HasTablesWhereDue before.Start ts
tables_where_due bytes ts [] reads = same ts [] before.Start reads tt
tables_where_due bytes ts (stmt ∷ more) (mid, (p, (inner, one, (semicolon, is)), made), others) =
    let behind = tables_where_due bytes mid more others in
    let outer = same inner (p.1 ∷ mid) before.Other semicolon (ended p.1 mid is behind) in
    let behind_then = same inner (p.1 ∷ mid) before.Then semicolon (then_ended p.1 mid is behind) in
    one_statement bytes ts p.0 inner one (outer, behind_then) (same inner (p.1 ∷ mid) before.Select semicolon (select_ended p.1 mid is behind))
