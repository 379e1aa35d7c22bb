-- The laws of CREATE TABLE: each production is read by its reader; each front of it begins it; what begins it goes on to it;
-- and the script holds what it holds.
use Rattle.std.proofs.Common.{◌≡◌, ℕ, zero, suc, Bool, true, false, List, [], length, inl, inr, refl, sym, subst}
use Rattle.std.specs.Prelude.{◌||◌, ℤ, pos, neg_ℤ, nat_abs, Option, Some, None, IfSome, unwrap_or}
use Rattle.std.specs.List.{All, AllByRecursion}
use Rattle.std.proofs.lemmas.List.Elements.{All-from_recursion}
use Rattle.token_lang.specs.Lang.{Lang, both, either, valued}
use Rattle.token_lang.specs.Run.{run_both}
use Rattle.token_lang.specs.Exact.{Grows}
use Rattle.token_lang.specs.Meets.{Plain, Leads}
use Rattle.token_lang.proofs.All.{one_leads, goes_leads, valued_leads, both_leads, then_maybe_leads, maybe_then_leads, either_leads, maybe_meets, one_plain, valued_plain, both_plain, either_plain, maybe_plain}
use Rattle.token_lang.proofs.Grow.{valued_grows, both_grows, either_grows}
use Rattle.token_lang.proofs.Place.{one_local}
use Rattle.token_lang.proofs.Keeps.{valued_keeps, both_keeps, either_keeps, maybe_keeps}
use Rattle.sql_tree.specs.Kinds.{is, any, names, is_table, is_text}
use Rattle.sql_tree.specs.Places.{IsPlaced}
use Rattle.sql_tree.proofs.KindLaws.{apart, among}
use Rattle.sql_tree.specs.declared.token.Kind.TheVariants as k
use Rattle.sql_tree.specs.declared.token.Span.{Span}
use Rattle.sql_tree.specs.declared.token.Token.{Token}
use Rattle.sql_tree.specs.declared.tree.Expr.{Expr}
use Rattle.sql_statements.specs.declared.Made.{Made}
use Rattle.sql_lex.specs.Stand.{IsPart}
use Rattle.sql_grammar.specs.Create as c
use Rattle.sql_grammar.specs.Create.{HoldsRule, HoldsSigned, HoldsMade, HoldsElement, HoldsProperty}
use Rattle.sql_grammar.specs.Grammar as g
use Rattle.sql_grammar.specs.Held.{HoldsName, HoldsVersion, HoldsExpr}
use Rattle.sql_grammar.specs.Reading as r
use Rattle.sql_grammar.specs.Statements.{HoldsStmt}
use Rattle.sql_grammar.specs.Tree as tree
use Rattle.sql_grammar.proofs.Fronts.{token_plain, commas_plain, type_plain}
use Rattle.sql_grammar.proofs.Growth.{class_grows, token_grows, token_local, maybe_grows, maybe_local, commas_grows, lone_type_grows}
use Rattle.sql_grammar.proofs.Holding.{Stands, placed, name_held, table_held, text_held, version_held}
use Rattle.sql_grammar.proofs.Keeping.{Keep, token, class, commas, written}
use Rattle.sql_grammar.proofs.Readers.{none, after_expr, token_leads, commas_leads, type_leads, expression_leads}

-- ---- readers

-- what a column, the elements, and what stands behind them may go on with
abbrev after_column : Token → Bool
after_column t = is k.Not t || (is k.Generated t || is k.Open t)

abbrev after_elements : Token → Bool
after_elements t = is k.Comma t || after_column t

abbrev pub after_create : Token → Bool
after_create t = is k.Partitioned t || is k.TblProperties t

module _ (script : List ℕ) where
  rule_leads : Leads (c.rule_of script (g.expression script)) (c.run_rule script) (is k.Open) none
  rule_leads = valued_leads (c.rule script) (both_leads (token_leads k.Open) (both_leads (expression_leads script) (token_leads k.Close) (apart _ _ (λ s. refl))) (λ t _. refl))

  signed_leads : Leads (c.signed_of script (g.expression script)) (c.run_signed script) (λ t. is k.Minus t || is k.Whole t) none
  signed_leads = valued_leads (c.signed script) (maybe_then_leads (maybe_meets (token_leads k.Minus)) (token_leads k.Whole) (apart _ _ (λ s. refl)))

  steps_leads : Leads (c.steps_of script (g.expression script)) (c.run_steps script) (is k.Open) none
  steps_leads = valued_leads c.steps (both_leads (token_leads k.Open) (both_leads (token_leads k.Start) (both_leads (token_leads k.With) (both_leads signed_leads
      (both_leads (token_leads k.Increment) (both_leads (token_leads k.By) (both_leads signed_leads (token_leads k.Close)
      (λ t _. refl)) (λ t _. refl)) (λ t _. refl)) (λ t _. refl)) (λ t _. refl)) (λ t _. refl)) (λ t _. refl))

  identity_leads : (explicit : Bool) → Leads (c.identity_of_kind script (g.expression script) explicit) (c.run_identity script explicit) (is k.Identity) (is k.Open)
  identity_leads explicit = goes_leads (is k.Open) (among _ _ (λ s. refl)) (valued_leads (c.identity explicit)
      (then_maybe_leads (token_leads k.Identity) (maybe_meets steps_leads) (λ t _. refl)))

  computed_leads : Leads (valued c.computed (c.rule_of script (g.expression script))) (c.run_computed script) (is k.Open) none
  computed_leads = valued_leads c.computed rule_leads

  always_leads : Leads (c.always_of script (g.expression script)) (c.run_always script) (is k.Always) (is k.Open)
  always_leads = valued_leads c.always (both_leads (token_leads k.Always) (both_leads (token_leads k.As)
      (goes_leads (is k.Open) (among _ _ (λ s. refl)) (either_leads computed_leads (identity_leads false) (apart _ _ (λ s. refl)))) (λ t _. refl)) (λ t _. refl))

  by_default_leads : Leads (c.by_default_of script (g.expression script)) (c.run_by_default script) (is k.By) (is k.Open)
  by_default_leads = valued_leads c.by_default (both_leads (token_leads k.By) (both_leads (token_leads k.Default) (both_leads (token_leads k.As)
      (identity_leads true) (λ t _. refl)) (λ t _. refl)) (λ t _. refl))

  made_leads : Leads (c.made_of script (g.expression script)) (c.run_made script) (is k.Generated) (is k.Open)
  made_leads = valued_leads c.made (both_leads (token_leads k.Generated)
      (goes_leads (is k.Open) (among _ _ (λ s. refl)) (either_leads always_leads by_default_leads (apart _ _ (λ s. refl)))) (λ t _. refl))

  not_null_leads : Leads (c.not_null_of script (g.expression script)) (c.run_not_null script) (is k.Not) none
  not_null_leads = both_leads (token_leads k.Not) (token_leads k.Null) (λ t _. refl)

  column_leads : Leads (c.column_of script (g.expression script)) (c.run_column script) (any names) after_column
  column_leads = goes_leads after_column (among _ _ (λ s. refl)) (valued_leads (c.column script) (then_maybe_leads
      (then_maybe_leads (both_leads (one_leads (any names)) (type_leads script 1) (λ t _. refl)) (maybe_meets not_null_leads) (λ t _. refl))
      (maybe_meets made_leads) (apart _ _ (λ s. refl))))

  check_leads : Leads (c.check_of script (g.expression script)) (c.run_check script) (is k.Constraint) none
  check_leads = valued_leads (c.check script) (both_leads (token_leads k.Constraint) (both_leads (one_leads (any names)) (both_leads (token_leads k.Check)
      rule_leads (λ t _. refl)) (λ t _. refl)) (λ t _. refl))

  pub element_leads : Leads (c.element_of script (g.expression script)) (c.run_element script) (λ t. any names t || is k.Constraint t) after_column
  element_leads = goes_leads after_column (among _ _ (λ s. refl)) (either_leads column_leads check_leads (apart _ _ (λ s. refl)))

  elements_leads : Leads (g.commas (c.element_of script (g.expression script))) (c.run_elements script) (λ t. any names t || is k.Constraint t) after_elements
  elements_leads = goes_leads after_elements (among _ _ (λ s. refl)) (commas_leads element_leads (apart _ _ (λ s. refl)))

  pub partition_leads : Leads (valued (c.named script) g.name) (c.run_partition script) (any names) none
  partition_leads = valued_leads (c.named script) (one_leads (any names))

  partitions_leads : Leads (c.partitions_of script (g.expression script)) (c.run_partitions script) (is k.Partitioned) none
  partitions_leads = valued_leads c.partitions (both_leads (token_leads k.Partitioned) (both_leads (token_leads k.By) (both_leads (token_leads k.Open)
      (both_leads (goes_leads (is k.Comma) (among _ _ (λ s. refl)) (commas_leads partition_leads (λ t _. refl))) (token_leads k.Close) (apart _ _ (λ s. refl))) (λ t _. refl)) (λ t _. refl)) (λ t _. refl))

  pub property_leads : Leads (c.property_of script (g.expression script)) (c.run_property script) (any is_text) none
  property_leads = valued_leads (c.property script) (both_leads (one_leads (any is_text)) (both_leads (token_leads k.Equal) (one_leads (any is_text)) (λ t _. refl)) (λ t _. refl))

  properties_leads : Leads (c.properties_of script (g.expression script)) (c.run_properties script) (is k.TblProperties) none
  properties_leads = valued_leads c.properties (both_leads (token_leads k.TblProperties) (both_leads (token_leads k.Open)
      (both_leads (goes_leads (is k.Comma) (among _ _ (λ s. refl)) (commas_leads property_leads (λ t _. refl))) (token_leads k.Close) (apart _ _ (λ s. refl))) (λ t _. refl)) (λ t _. refl))

  create_end_leads : Leads (c.create_end_of script (g.expression script)) (c.run_create_end script) (is k.Close) after_create
  create_end_leads = goes_leads after_create (among _ _ (λ s. refl)) (then_maybe_leads
      (then_maybe_leads (token_leads k.Close) (maybe_meets partitions_leads) (λ t _. refl)) (maybe_meets properties_leads) (apart _ _ (λ s. refl)))

  pub create_leads : Leads (c.create_of script (g.expression script)) (c.run_create script) (is k.Create) after_create
  create_leads = valued_leads (c.create script) (both_leads (token_leads k.Create) (both_leads (token_leads k.TableWord) (both_leads (one_leads (any is_table))
      (both_leads (token_leads k.Open) (both_leads elements_leads create_end_leads (apart _ _ (λ s. refl))) (λ t _. refl)) (λ t _. refl)) (λ t _. refl)) (λ t _. refl))

-- ---- fronts

module _ (script : List ℕ) {C : Lang Token Expr} (x : Plain C) where
  rule_plain : Plain (c.rule_of script C)
  rule_plain = valued_plain (c.rule script) (both_plain (token_plain k.Open) (both_plain x (token_plain k.Close)))

  signed_plain : Plain (c.signed_of script C)
  signed_plain = valued_plain (c.signed script) (both_plain (maybe_plain (token_plain k.Minus)) (token_plain k.Whole))

  steps_plain : Plain (c.steps_of script C)
  steps_plain = valued_plain c.steps (both_plain (token_plain k.Open) (both_plain (token_plain k.Start) (both_plain (token_plain k.With) (both_plain signed_plain
      (both_plain (token_plain k.Increment) (both_plain (token_plain k.By) (both_plain signed_plain (token_plain k.Close))))))))

  identity_plain : (explicit : Bool) → Plain (c.identity_of_kind script C explicit)
  identity_plain explicit = valued_plain (c.identity explicit) (both_plain (token_plain k.Identity) (maybe_plain steps_plain))

  always_plain : Plain (c.always_of script C)
  always_plain = valued_plain c.always (both_plain (token_plain k.Always) (both_plain (token_plain k.As) (either_plain (valued_plain c.computed rule_plain) (identity_plain false))))

  by_default_plain : Plain (c.by_default_of script C)
  by_default_plain = valued_plain c.by_default (both_plain (token_plain k.By) (both_plain (token_plain k.Default) (both_plain (token_plain k.As) (identity_plain true))))

  made_plain : Plain (c.made_of script C)
  made_plain = valued_plain c.made (both_plain (token_plain k.Generated) (either_plain always_plain by_default_plain))

  not_null_plain : Plain (c.not_null_of script C)
  not_null_plain = both_plain (token_plain k.Not) (token_plain k.Null)

  typed_plain : Plain (both g.name (c.lone_type script))
  typed_plain = both_plain (one_plain (any names)) (type_plain script 1)

  nullable_plain : Plain (both (both g.name (c.lone_type script)) (g.maybe (c.not_null_of script C)))
  nullable_plain = both_plain typed_plain (maybe_plain not_null_plain)

  check_plain : Plain (c.check_of script C)
  check_plain = valued_plain (c.check script) (both_plain (token_plain k.Constraint) (both_plain (one_plain (any names)) (both_plain (token_plain k.Check) rule_plain)))

  element_plain : Plain (c.element_of script C)
  element_plain = either_plain (valued_plain (c.column script) (both_plain nullable_plain (maybe_plain made_plain))) check_plain

  partition_plain : Plain (valued (c.named script) g.name)
  partition_plain = valued_plain (c.named script) (one_plain (any names))

  partitions_plain : Plain (c.partitions_of script C)
  partitions_plain = valued_plain c.partitions (both_plain (token_plain k.Partitioned) (both_plain (token_plain k.By) (both_plain (token_plain k.Open) (both_plain (commas_plain partition_plain) (token_plain k.Close)))))

  property_plain : Plain (c.property_of script C)
  property_plain = valued_plain (c.property script) (both_plain (one_plain (any is_text)) (both_plain (token_plain k.Equal) (one_plain (any is_text))))

  properties_plain : Plain (c.properties_of script C)
  properties_plain = valued_plain c.properties (both_plain (token_plain k.TblProperties) (both_plain (token_plain k.Open) (both_plain (commas_plain property_plain) (token_plain k.Close))))

  closed_plain : Plain (both (g.token k.Close) (g.maybe (c.partitions_of script C)))
  closed_plain = both_plain (token_plain k.Close) (maybe_plain partitions_plain)

  pub create_plain : Plain (c.create_of script C)
  create_plain = valued_plain (c.create script) (both_plain (token_plain k.Create) (both_plain (token_plain k.TableWord) (both_plain (one_plain (any is_table))
      (both_plain (token_plain k.Open) (both_plain (commas_plain element_plain) (both_plain closed_plain (maybe_plain properties_plain)))))))

-- ---- growth

module _ (script : List ℕ) {C C' : Lang Token Expr} (x : Grows C C') (l : Plain C') where
  rule_grows : Grows (c.rule_of script C) (c.rule_of script C')
  rule_grows = valued_grows (c.rule script) (both_grows (token_grows k.Open refl) (both_grows x (token_grows k.Close refl) l.local) (token_local k.Open))

  signed_grows : Grows (c.signed_of script C) (c.signed_of script C')
  signed_grows = valued_grows (c.signed script) (both_grows (maybe_grows (token_grows k.Minus refl)) (token_grows k.Whole refl) (maybe_local (token_plain k.Minus)))

  steps_grows : Grows (c.steps_of script C) (c.steps_of script C')
  steps_grows = valued_grows c.steps (both_grows (token_grows k.Open refl) (both_grows (token_grows k.Start refl) (both_grows (token_grows k.With refl) (both_grows signed_grows
      (both_grows (token_grows k.Increment refl) (both_grows (token_grows k.By refl) (both_grows signed_grows (token_grows k.Close refl) (signed_plain script l).local)
      (token_local k.By)) (token_local k.Increment)) (signed_plain script l).local) (token_local k.With)) (token_local k.Start)) (token_local k.Open))

  identity_grows : (explicit : Bool) → Grows (c.identity_of_kind script C explicit) (c.identity_of_kind script C' explicit)
  identity_grows explicit = valued_grows (c.identity explicit) (both_grows (token_grows k.Identity refl) (maybe_grows steps_grows) (token_local k.Identity))

  always_grows : Grows (c.always_of script C) (c.always_of script C')
  always_grows = valued_grows c.always (both_grows (token_grows k.Always refl) (both_grows (token_grows k.As refl)
      (either_grows (valued_grows c.computed rule_grows) (identity_grows false)) (token_local k.As)) (token_local k.Always))

  by_default_grows : Grows (c.by_default_of script C) (c.by_default_of script C')
  by_default_grows = valued_grows c.by_default (both_grows (token_grows k.By refl) (both_grows (token_grows k.Default refl) (both_grows (token_grows k.As refl)
      (identity_grows true) (token_local k.As)) (token_local k.Default)) (token_local k.By))

  made_grows : Grows (c.made_of script C) (c.made_of script C')
  made_grows = valued_grows c.made (both_grows (token_grows k.Generated refl) (either_grows always_grows by_default_grows) (token_local k.Generated))

  not_null_grows : Grows (c.not_null_of script C) (c.not_null_of script C')
  not_null_grows = both_grows (token_grows k.Not refl) (token_grows k.Null refl) (token_local k.Not)

  typed_grows : Grows (both g.name (c.lone_type script)) (both g.name (c.lone_type script))
  typed_grows = both_grows (class_grows names k.Name refl) (lone_type_grows script) (one_local (any names))

  column_grows : Grows (c.column_of script C) (c.column_of script C')
  column_grows = valued_grows (c.column script) (both_grows (both_grows typed_grows (maybe_grows not_null_grows) (typed_plain script l).local)
      (maybe_grows made_grows) (nullable_plain script l).local)

  check_grows : Grows (c.check_of script C) (c.check_of script C')
  check_grows = valued_grows (c.check script) (both_grows (token_grows k.Constraint refl) (both_grows (class_grows names k.Name refl) (both_grows (token_grows k.Check refl)
      rule_grows (token_local k.Check)) (one_local (any names))) (token_local k.Constraint))

  element_grows : Grows (c.element_of script C) (c.element_of script C')
  element_grows = either_grows column_grows check_grows

  partition_grows : Grows (valued (c.named script) g.name) (valued (c.named script) g.name)
  partition_grows = valued_grows (c.named script) (class_grows names k.Name refl)

  partitions_grows : Grows (c.partitions_of script C) (c.partitions_of script C')
  partitions_grows = valued_grows c.partitions (both_grows (token_grows k.Partitioned refl) (both_grows (token_grows k.By refl) (both_grows (token_grows k.Open refl)
      (both_grows (commas_grows partition_grows (partition_plain script l)) (token_grows k.Close refl) (commas_plain (partition_plain script l)).local)
      (token_local k.Open)) (token_local k.By)) (token_local k.Partitioned))

  property_grows : Grows (c.property_of script C) (c.property_of script C')
  property_grows = valued_grows (c.property script) (both_grows (class_grows is_text k.Text refl) (both_grows (token_grows k.Equal refl) (class_grows is_text k.Text refl)
      (token_local k.Equal)) (one_local (any is_text)))

  properties_grows : Grows (c.properties_of script C) (c.properties_of script C')
  properties_grows = valued_grows c.properties (both_grows (token_grows k.TblProperties refl) (both_grows (token_grows k.Open refl)
      (both_grows (commas_grows property_grows (property_plain script l)) (token_grows k.Close refl) (commas_plain (property_plain script l)).local)
      (token_local k.Open)) (token_local k.TblProperties))

  create_end_grows : Grows (c.create_end_of script C) (c.create_end_of script C')
  create_end_grows = both_grows (both_grows (token_grows k.Close refl) (maybe_grows partitions_grows) (token_local k.Close)) (maybe_grows properties_grows) (closed_plain script l).local

  pub create_grows : Grows (c.create_of script C) (c.create_of script C')
  create_grows = valued_grows (c.create script) (both_grows (token_grows k.Create refl) (both_grows (token_grows k.TableWord refl) (both_grows (class_grows is_table k.Table refl)
      (both_grows (token_grows k.Open refl) (both_grows (commas_grows element_grows (element_plain script l)) create_end_grows (commas_plain (element_plain script l)).local)
      (token_local k.Open)) (one_local (any is_table))) (token_local k.TableWord)) (token_local k.Create))

-- ---- what the script holds

-- the size of a number with its sign is the number without it
negated : (n : ℕ) → nat_abs (neg_ℤ (pos n)) ≡ n
negated zero = refl
negated (suc n) = refl

size_of : (minus : Option Token) (n : ℕ) → nat_abs (c.with_sign minus n) ≡ n
size_of None n = refl
size_of (Some t) n = negated n

-- what stands between two tokens is there
between_placed : (size : ℕ) (a b : Span) → IsPart size a → IsPart size b → IsPlaced size (c.between a b)
between_placed size a b x y = record { starts = x.within; ends = (placed size b y).starts }

module _ (script : List ℕ) {C : Lang Token Expr} (x : Keep script C (HoldsExpr script)) where
  rule : Keep script (c.rule_of script C) (HoldsRule script)
  rule = valued_keeps (both_keeps (token script k.Open) (both_keeps x (token script k.Close))) (c.rule script) (λ p h. record {
    expr = h.1.0;
    place = c.between (p.0).span (p.1.1).span;
    placed = between_placed (length script) (p.0).span (p.1.1).span h.0.0.part h.1.1.0.part;
    means = refl;
  })

  abbrev HoldsBehind : (Token → Made) → Type 0
  HoldsBehind f = (t : Token) → Stands script t → HoldsMade script (f t)

  signed : Keep script (c.signed_of script C) (HoldsSigned script)
  signed = valued_keeps (both_keeps (maybe_keeps (token script k.Minus)) (token script k.Whole)) (c.signed script)
      (λ p h. subst (HoldsVersion script) (sym (size_of p.0 (tree.version script p.1))) (version_held script p.1 h.1.0 h.1.1))

  steps : Keep script (c.steps_of script C) (λ p. HoldsSigned script p.0 × HoldsSigned script p.1)
  steps = valued_keeps (both_keeps (token script k.Open) (both_keeps (token script k.Start) (both_keeps (token script k.With) (both_keeps signed
      (both_keeps (token script k.Increment) (both_keeps (token script k.By) (both_keeps signed (token script k.Close)))))))) c.steps
      (λ p h. (h.1.1.1.0, h.1.1.1.1.1.1.0))

  identity_held : (explicit : Bool) (o : Option (ℤ × ℤ)) → IfSome o (λ p. HoldsSigned script p.0 × HoldsSigned script p.1) → HoldsBehind (c.identity_of explicit (unwrap_or o (pos 1, pos 1)))
  identity_held explicit None h t stands = record { part = stands.part; steps = inl refl }
  identity_held explicit (Some (start, step)) h t stands = record { part = stands.part; steps = inr h }

  identity : (explicit : Bool) → Keep script (c.identity_of_kind script C explicit) HoldsBehind
  identity explicit = valued_keeps (both_keeps (token script k.Identity) (maybe_keeps steps)) (c.identity explicit) (λ p h. identity_held explicit p.1 h.1)

  always : Keep script (c.always_of script C) HoldsBehind
  always = valued_keeps (both_keeps (token script k.Always) (both_keeps (token script k.As)
      (either_keeps (valued_keeps rule c.computed (λ p h t stands. h)) (identity false)))) c.always (λ p h. h.1.1)

  by_default : Keep script (c.by_default_of script C) HoldsBehind
  by_default = valued_keeps (both_keeps (token script k.By) (both_keeps (token script k.Default) (both_keeps (token script k.As) (identity true)))) c.by_default (λ p h. h.1.1.1)

  made : Keep script (c.made_of script C) (HoldsMade script)
  made = valued_keeps (both_keeps (token script k.Generated) (either_keeps always by_default)) c.made (λ p h. h.1 p.0 h.0.0)

  column : Keep script (c.column_of script C) (HoldsElement script)
  column = valued_keeps (both_keeps (both_keeps (both_keeps (class script names) (written script 1))
      (maybe_keeps (both_keeps (token script k.Not) (token script k.Null)))) (maybe_keeps made)) (c.column script)
      (λ p h. record { name = name_held script p.0.0.0 h.0.0.0.0 h.0.0.0.1; kind = h.0.0.1; made = h.1 })

  check : Keep script (c.check_of script C) (HoldsElement script)
  check = valued_keeps (both_keeps (token script k.Constraint) (both_keeps (class script names) (both_keeps (token script k.Check) rule))) (c.check script)
      (λ p h. record { part = h.0.0.part; name = name_held script p.1.0 h.1.0.0 h.1.0.1; rule = h.1.1.1 })

  partitions : Keep script (c.partitions_of script C) (AllByRecursion (HoldsName script))
  partitions = valued_keeps (both_keeps (token script k.Partitioned) (both_keeps (token script k.By) (both_keeps (token script k.Open)
      (both_keeps (commas script (valued_keeps (class script names) (c.named script) (λ t h. name_held script t h.0 h.1))) (token script k.Close))))) c.partitions (λ p h. h.1.1.1.0)

  property : Keep script (c.property_of script C) (HoldsProperty script)
  property = valued_keeps (both_keeps (class script is_text) (both_keeps (token script k.Equal) (class script is_text))) (c.property script)
      (λ p h. record { key = text_held script p.0 h.0.0 h.0.1; place = (p.1.1).span; value = text_held script p.1.1 h.1.1.0 h.1.1.1 })

  properties : Keep script (c.properties_of script C) (AllByRecursion (HoldsProperty script))
  properties = valued_keeps (both_keeps (token script k.TblProperties) (both_keeps (token script k.Open) (both_keeps (commas script property) (token script k.Close)))) c.properties (λ p h. h.1.1.0)

  -- a list that may be left out
  listed : {A : Type 0} (Q : A → Type 0) (o : Option (List A)) → IfSome o (AllByRecursion Q) → All Q (unwrap_or o [])
  listed Q None h = All-from_recursion Q [] tt
  listed Q (Some all) h = All-from_recursion Q all h

  pub create : Keep script (c.create_of script C) (HoldsStmt script)
  create = valued_keeps (both_keeps (token script k.Create) (both_keeps (token script k.TableWord) (both_keeps (class script is_table) (both_keeps (token script k.Open)
      (both_keeps (commas script (either_keeps column check)) (both_keeps (both_keeps (token script k.Close) (maybe_keeps partitions)) (maybe_keeps properties))))))) (c.create script)
      (λ p h. record {
        table = table_held script p.1.1.0 h.1.1.0.0 h.1.1.0.1;
        elements = All-from_recursion (HoldsElement script) p.1.1.1.1.0 h.1.1.1.1.0;
        partitions = listed (HoldsName script) p.1.1.1.1.1.0.1 h.1.1.1.1.1.0.1;
        properties = listed (HoldsProperty script) p.1.1.1.1.1.1 h.1.1.1.1.1.1;
      })
