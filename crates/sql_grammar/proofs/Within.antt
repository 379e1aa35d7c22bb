-- A sentence with so many brackets open at most is one where so many may be opened, and the other way.
use Rattle.std.proofs.Common.{◌≤◌, length, arith, ◌≡◌, ◌∙◌, ℕ, zero, suc, Bool, true, false, List, [], ◌∷◌, ◌⊎◌, inl, inr, refl, sym, subst}
use Rattle.std.specs.Prelude.{Some, None, not, ◌||◌}
use Rattle.token_lang.specs.Lang.{Lang, one, nothing, never, both, either, valued, reads_all, many}
use Rattle.sql_tree.specs.declared.token.Kind.{Kind}
use Rattle.sql_tree.specs.declared.token.Kind.TheVariants as k
use Rattle.sql_tree.specs.declared.token.Token.{Token}
use Rattle.sql_tree.specs.declared.tree.Expr.{Expr}
use Rattle.sql_tree.specs.declared.token.Span.{Span}
use Rattle.sql_tree.proofs.KindLaws.{at_each, every, kinds}
use Rattle.sql_tree.specs.Kinds.{is, any, names, names_alone, is_value, compares, multiplies, signs, is_truth, is_plain_type, is_text, dates}
use Rattle.sql_grammar.specs.Grammar as g
use Rattle.sql_grammar.specs.Tree as tree
use Rattle.sql_grammar.specs.Open.{left_behind, opens_at_most}

-- Where d may be opened before a sentence of L, it is one of M, and d' may be opened behind it; and the other way round.
record Within {A : Type 0} (d d' : ℕ) (L M : Lang Token A) : Type 0 where
  into : (ts : List Token) (a : A) (rest : List Token) → opens_at_most d ts ≡ true → L.reads ts a rest → M.reads ts a rest × (opens_at_most d' rest ≡ true)
  back : (ts : List Token) (a : A) (rest : List Token) → opens_at_most d' rest ≡ true → M.reads ts a rest → opens_at_most d ts ≡ true

-- a token that leaves d' of d
Leaves : ℕ → ℕ → Kind → Type 0
Leaves d d' kind = left_behind kind d ≡ Some d'

behind_one : (d d' : ℕ) (t : Token) (ts : List Token) → left_behind t.kind d ≡ Some d' → opens_at_most d (t ∷ ts) ≡ opens_at_most d' ts
behind_one d d' t ts h = rw (h, opens_at_most) refl

one_within : (is_one : Token → Bool) (d d' : ℕ) → ((t : Token) → is_one t ≡ true → left_behind t.kind d ≡ Some d') → Within d d' (one is_one) (one is_one)
one_within is_one d d' so = record {
  into = λ ts t rest h r. (r, sym (behind_one d d' t rest (so t r.1)) ∙ subst (λ (us : List Token). opens_at_most d us ≡ true) r.0 h);
  back = λ ts t rest h r. subst (λ (us : List Token). opens_at_most d us ≡ true) (sym r.0) (behind_one d d' t rest (so t r.1) ∙ h);
}

module _ {A : Type 0} {d d' : ℕ} {L M : Lang Token A} (x : Within d d' L M) where
  valued_within : {B : Type 0} (make : A → B) → Within d d' (valued make L) (valued make M)
  valued_within make = record {
    into = λ ts b rest h r. let n = x.into ts r.0 rest h r.1 in ((r.0, n.0, r.2), n.1);
    back = λ ts b rest h r. x.back ts r.0 rest h r.1;
  }

  both_within : {B : Type 0} {d'' : ℕ} {E F : Lang Token B} → Within d' d'' E F → Within d d'' (both L E) (both M F)
  both_within y = record {
    into = λ ts p rest h r.
        let n = x.into ts p.0 r.0 h r.1 in
        let m = y.into r.0 p.1 rest n.1 r.2 in
        ((r.0, n.0, m.0), m.1);
    back = λ ts p rest h r. x.back ts p.0 r.0 (y.back r.0 p.1 rest h r.2) r.1;
  }

  either_into : {E F : Lang Token A} → Within d d' E F → (ts : List Token) (a : A) (rest : List Token) → opens_at_most d ts ≡ true → L.reads ts a rest ⊎ E.reads ts a rest
      → (M.reads ts a rest ⊎ F.reads ts a rest) × (opens_at_most d' rest ≡ true)
  either_into y ts a rest h (inl r) = let n = x.into ts a rest h r in (inl n.0, n.1)
  either_into y ts a rest h (inr r) = let n = y.into ts a rest h r in (inr n.0, n.1)

  either_back : {E F : Lang Token A} → Within d d' E F → (ts : List Token) (a : A) (rest : List Token) → opens_at_most d' rest ≡ true → M.reads ts a rest ⊎ F.reads ts a rest → opens_at_most d ts ≡ true
  either_back y ts a rest h (inl r) = x.back ts a rest h r
  either_back y ts a rest h (inr r) = y.back ts a rest h r

  either_within : {E F : Lang Token A} → Within d d' E F → Within d d' (either L E) (either M F)
  either_within y = record { into = either_into y; back = either_back y }

nothing_within : (d : ℕ) → Within d d nothing nothing
nothing_within d = record {
  into = λ ts a rest h e. (e, subst (λ (us : List Token). opens_at_most d us ≡ true) e h);
  back = λ ts a rest h e. subst (λ (us : List Token). opens_at_most d us ≡ true) (sym e) h;
}

module _ {A : Type 0} {d : ℕ} {L M : Lang Token A} (x : Within d d L M) where
  many_into : (ts : List Token) (all : List A) (rest : List Token) → opens_at_most d ts ≡ true → reads_all L.reads ts all rest → reads_all M.reads ts all rest × (opens_at_most d rest ≡ true)
  many_into ts [] rest h e = (e, subst (λ (us : List Token). opens_at_most d us ≡ true) e h)
  many_into ts (a ∷ all) rest h r =
      let n = x.into ts a r.0 h r.1 in
      let m = many_into r.0 all rest n.1 r.2 in
      ((r.0, n.0, m.0), m.1)

  many_back : (ts : List Token) (all : List A) (rest : List Token) → opens_at_most d rest ≡ true → reads_all M.reads ts all rest → opens_at_most d ts ≡ true
  many_back ts [] rest h e = subst (λ (us : List Token). opens_at_most d us ≡ true) (sym e) h
  many_back ts (a ∷ all) rest h r = x.back ts a r.0 (many_back r.0 all rest h r.2) r.1

  many_within : Within d d (many L) (many M)
  many_within = record { into = many_into; back = many_back }

  maybe_within : Within d d (g.maybe L) (g.maybe M)
  maybe_within = either_within (valued_within x Some) (valued_within (nothing_within d) (λ _. None))

chain_within : {d : ℕ} {L M : Lang Token Expr} (operator : Token → Bool) → Within d d (one operator) (one operator) → Within d d L M → Within d d (g.chain operator L) (g.chain operator M)
chain_within operator o x = valued_within (both_within x (many_within (both_within o x))) tree.all_joined

signed_within : {d : ℕ} {L M : Lang Token Expr} (sign : Token → Bool) → Within d d (one sign) (one sign) → Within d d L M → Within d d (g.signed sign L) (g.signed sign M)
signed_within sign o x = valued_within (both_within (many_within o) x) tree.all_prefixed

-- ---- tokens

is_plain : Kind → Bool
is_plain k.Open = false
is_plain k.Case = false
is_plain k.Close = false
is_plain k.End = false
is_plain _ = true

plain_left : (d : ℕ) (kind : Kind) → is_plain kind ≡ true → left_behind kind d ≡ Some d
unfolding is_plain
plain_left d k.Open h = absurd (cc)
plain_left d k.Case h = absurd (cc)
plain_left d k.Close h = absurd (cc)
plain_left d k.End h = absurd (cc)
plain_left d _ h = refl

pub holds_then : (p q : Bool) → (not p || q) ≡ true → p ≡ true → q ≡ true
holds_then true q h e = h
holds_then false q h e = absurd (cc)

-- a token that opens and closes nothing, by a test of each kind
plain : (d : ℕ) (is_one : Token → Bool) → ((s : Span) → every kinds (λ kind. not (is_one (record { kind = kind; span = s })) || is_plain kind) ≡ true) → Within d d (one is_one) (one is_one)
plain d is_one so = one_within is_one d d (λ t h. plain_left d t.kind (holds_then (is_one t) (is_plain t.kind) (at_each (λ kind. not (is_one (record { kind = kind; span = t.span })) || is_plain kind) (so t.span) t.kind) h))

opens_one : (s : Span) (kind : Kind) → is k.Open (record { kind = kind; span = s }) ≡ true → (d : ℕ) → (left_behind kind (suc d) ≡ Some d) × (left_behind kind 0 ≡ None)
opens_one s k.Open h d = (refl, refl)
opens_one s _ h d = absurd (cc)

case_one : (s : Span) (kind : Kind) → is k.Case (record { kind = kind; span = s }) ≡ true → (d : ℕ) → (left_behind kind (suc d) ≡ Some d) × (left_behind kind 0 ≡ None)
case_one s k.Case h d = (refl, refl)
case_one s _ h d = absurd (cc)

close_one : (s : Span) (kind : Kind) → is k.Close (record { kind = kind; span = s }) ≡ true → (d : ℕ) → left_behind kind d ≡ Some (suc d)
close_one s k.Close h d = refl
close_one s _ h d = absurd (cc)

end_one : (s : Span) (kind : Kind) → is k.End (record { kind = kind; span = s }) ≡ true → (d : ℕ) → left_behind kind d ≡ Some (suc d)
end_one s k.End h d = refl
end_one s _ h d = absurd (cc)

close : (d : ℕ) → Within d (suc d) (g.token k.Close) (g.token k.Close)
close d = one_within (is k.Close) d (suc d) (λ t h. close_one t.span t.kind h d)

end : (d : ℕ) → Within d (suc d) (g.token k.End) (g.token k.End)
end d = one_within (is k.End) d (suc d) (λ t h. end_one t.span t.kind h d)

Opener : Kind → Type 0
Opener kind = (s : Span) (other : Kind) → is kind (record { kind = other; span = s }) ≡ true → (d : ℕ) → (left_behind other (suc d) ≡ Some d) × (left_behind other 0 ≡ None)

never_within : {A : Type 0} {d d' : ℕ} {M : Lang Token A} → ((ts : List Token) (a : A) (rest : List Token) → opens_at_most d' rest ≡ true → M.reads ts a rest → opens_at_most d ts ≡ true) → Within d d' never M
never_within so = record { into = λ ts a rest h none. absurd none; back = so }

-- a bracket that is opened, where one more may be
opening : (kind : Kind) → Opener kind → (n d : ℕ) → Within (suc d) d (g.opening n kind) (g.opening (suc d) kind)
unfolding g.opening Opener
opening kind opens zero d = let o = one_within (is kind) (suc d) d (λ t h. (opens t.span t.kind h d).0) in never_within o.back
opening kind opens (suc n) d = one_within (is kind) (suc d) d (λ t h. (opens t.span t.kind h d).0)

behind_none : (t : Token) (ts : List Token) → left_behind t.kind 0 ≡ None → opens_at_most 0 (t ∷ ts) ≡ false
behind_none t ts h = rw (h, opens_at_most) refl

shut_out : (kind : Kind) → Opener kind → (n : ℕ) (ts : List Token) (t : Token) (rest : List Token) → opens_at_most 0 ts ≡ true → (g.opening n kind).reads ts t rest → ⊥
unfolding g.opening Opener
shut_out kind opens zero ts t rest h r = r
shut_out kind opens (suc n) ts t rest h r =
    let f = behind_none t rest (opens t.span t.kind r.1 0).1 in
    let e : true ≡ false = sym (subst (λ (us : List Token). opens_at_most 0 us ≡ true) r.0 h) ∙ f in cc

no_opening : (kind : Kind) (ts : List Token) (t : Token) (rest : List Token) → (g.opening 0 kind).reads ts t rest → ⊥
unfolding g.opening
no_opening kind ts t rest r = r

-- .. and where none may be
shut : {A : Type 0} (kind : Kind) → Opener kind → (n d' : ℕ) (E F : Lang Token A) → Within 0 d' (both (g.opening n kind) E) (both (g.opening 0 kind) F)
shut kind opens n d' E F = record {
  into = λ ts p rest h r. absurd (shut_out kind opens n ts p.0 r.0 h r.1);
  back = λ ts p rest h r. absurd (no_opening kind ts p.0 r.0 r.1);
}

open_opener : Opener k.Open
unfolding Opener
open_opener = opens_one

case_opener : Opener k.Case
unfolding Opener
case_opener = case_one

-- ---- types

module _ (script : List ℕ) where
  decimal : (n d : ℕ) → Within d d (both (g.opening n k.Open) (both g.whole (both (g.token k.Comma) (both g.whole (g.token k.Close))))) (both (g.opening d k.Open) (both g.whole (both (g.token k.Comma) (both g.whole (g.token k.Close)))))
  unfolding is_plain
  decimal n zero = shut k.Open open_opener n 0 _ _
  decimal n (suc d) = both_within (opening k.Open open_opener n d) (both_within (plain d (is k.Whole) (λ s. refl)) (both_within (plain d (is k.Comma) (λ s. refl)) (both_within (plain d (is k.Whole) (λ s. refl)) (close d))))

  written : (n d : ℕ) → Within d d (g.written_type script n) (g.written_type script d)
  unfolding is_plain
  written n d = either_within (valued_within (plain d (any is_plain_type) (λ s. refl)) tree.plain_type)
      (valued_within (both_within (plain d (is k.DecimalWord) (λ s. refl)) (decimal n d)) (tree.decimal_type script))

  type_inside : (n d : ℕ) → Within d d (g.type_inside script n) (g.type_inside script (suc d))
  unfolding g.type_inside
  type_inside zero d = let w = written 0 d in never_within w.back
  type_inside (suc n) d = written n d

  -- ---- expressions, where what stands within one more bracket is within one fewer

  Inner : ℕ → ℕ → Type 0
  Inner n zero = Unit {0}
  Inner n (suc d) = Within d d (g.inside script n) (g.inside script (suc d))

  question : (d : ℕ) → Within d d g.question g.question
  unfolding is_plain
  question d = valued_within (both_within (plain d (is k.Is) (λ s. refl)) (both_within (maybe_within (plain d (is k.Not) (λ s. refl))) (plain d (any is_truth) (λ s. refl)))) tree.asked

  commas : {A : Type 0} {d : ℕ} {L M : Lang Token A} → Within d d L M → Within d d (g.commas L) (g.commas M)
  unfolding is_plain
  commas {d} x = valued_within (both_within x (many_within (valued_within (both_within (plain d (is k.Comma) (λ s. refl)) x) g.second))) g.list

  group : (n d : ℕ) → Inner n d → Within d d (g.group script n (g.inside script n)) (g.group script d (g.inside script d))
  unfolding Inner
  group n zero x = valued_within (shut k.Open open_opener n 0 _ _) tree.grouped
  group n (suc d) x = valued_within (both_within (opening k.Open open_opener n d) (both_within x (close d))) tree.grouped

  arguments : (n d : ℕ) → Inner n d → Within d d (g.arguments script n (g.inside script n)) (g.arguments script d (g.inside script d))
  unfolding Inner
  arguments n zero x = valued_within (shut k.Open open_opener n 0 _ _) (tree.called script)
  arguments n (suc d) x = valued_within (both_within (opening k.Open open_opener n d) (both_within (maybe_within (commas x)) (close d))) (tree.called script)

  branch : (n d : ℕ) → Within d d (g.inside script n) (g.inside script (suc d)) → Within d d (g.branch script n (g.inside script n)) (g.branch script (suc d) (g.inside script (suc d)))
  unfolding is_plain
  branch n d x = valued_within (both_within (plain d (is k.When) (λ s. refl)) (both_within x (both_within (plain d (is k.Then) (λ s. refl)) x))) tree.branched

  otherwise : (n d : ℕ) → Within d d (g.inside script n) (g.inside script (suc d)) → Within d d (g.otherwise script n (g.inside script n)) (g.otherwise script (suc d) (g.inside script (suc d)))
  unfolding is_plain
  otherwise n d x = valued_within (both_within (plain d (is k.Else) (λ s. refl)) x) g.second

  case : (n d : ℕ) → Inner n d → Within d d (g.case script n (g.inside script n)) (g.case script d (g.inside script d))
  unfolding Inner
  case n zero x = valued_within (shut k.Case case_opener n 0 _ _) tree.cased
  case n (suc d) x = valued_within (both_within (opening k.Case case_opener n d)
      (both_within (valued_within (both_within (branch n d x) (many_within (branch n d x))) g.list) (both_within (maybe_within (otherwise n d x)) (end d)))) tree.cased

  cast_rest : (n d : ℕ) → Inner n d → Within d d
      (both (g.opening n k.Open) (both (g.inside script n) (both (g.token k.As) (both (g.type_inside script n) (g.token k.Close)))))
      (both (g.opening d k.Open) (both (g.inside script d) (both (g.token k.As) (both (g.type_inside script d) (g.token k.Close)))))
  unfolding Inner is_plain
  cast_rest n zero x = shut k.Open open_opener n 0 _ _
  cast_rest n (suc d) x = both_within (opening k.Open open_opener n d) (both_within x (both_within (plain d (is k.As) (λ s. refl)) (both_within (type_inside n d) (close d))))

  items : (n d : ℕ) → Inner n d → Within d d
      (both (g.opening n k.Open) (both (g.commas (g.inside script n)) (g.token k.Close))) (both (g.opening d k.Open) (both (g.commas (g.inside script d)) (g.token k.Close)))
  unfolding Inner
  items n zero x = shut k.Open open_opener n 0 _ _
  items n (suc d) x = both_within (opening k.Open open_opener n d) (both_within (commas x) (close d))

  module _ (n d : ℕ) (x : Inner n d) where
    tail : Within d d (g.tail script n (g.inside script n)) (g.tail script d (g.inside script d))
    unfolding is_plain
    tail = either_within (valued_within (both_within (plain d (is k.Dot) (λ s. refl)) (plain d (any names) (λ s. refl))) (tree.qualified script)) (arguments n d x)

    dated : Within d d (g.dated script n (g.inside script n)) (g.dated script d (g.inside script d))
    unfolding is_plain
    dated = valued_within (both_within (plain d (any dates) (λ s. refl)) (maybe_within (either_within (valued_within (plain d (any is_text) (λ s. refl)) (tree.dated script)) tail))) (tree.named script)

    named : Within d d (g.named script n (g.inside script n)) (g.named script d (g.inside script d))
    unfolding is_plain
    named = valued_within (both_within (plain d (any names_alone) (λ s. refl)) (maybe_within tail)) (tree.named script)

    cast : Within d d (g.cast script n (g.inside script n)) (g.cast script d (g.inside script d))
    unfolding is_plain
    cast = valued_within (both_within (plain d (is k.Cast) (λ s. refl)) (cast_rest n d x)) tree.cast_to

    primary : Within d d (g.primary script n (g.inside script n)) (g.primary script d (g.inside script d))
    unfolding is_plain
    primary = either_within (valued_within (plain d (any is_value) (λ s. refl)) (tree.literal script)) (either_within dated (either_within (group n d x) (either_within named (either_within (case n d x) cast))))

    cat : Within d d (g.cat script n (g.inside script n)) (g.cat script d (g.inside script d))
    unfolding is_plain
    cat =
        let sign = plain d (any signs) (λ s. refl) in
        chain_within (is k.Concat) (plain d (is k.Concat) (λ s. refl)) (chain_within (any signs) sign (chain_within (any multiplies) (plain d (any multiplies) (λ s. refl)) (signed_within (any signs) sign primary)))

    range : Within d d (g.range script n (g.inside script n)) (g.range script d (g.inside script d))
    unfolding is_plain
    range = valued_within (both_within (maybe_within (plain d (is k.Not) (λ s. refl))) (either_within
        (valued_within (both_within (plain d (is k.Between) (λ s. refl)) (both_within cat (both_within (plain d (is k.And) (λ s. refl)) cat))) tree.between_bounds)
        (valued_within (both_within (plain d (is k.In) (λ s. refl)) (items n d x)) tree.among))) tree.maybe_not

    test : Within d d (g.test script n (g.inside script n)) (g.test script d (g.inside script d))
    unfolding is_plain
    test = valued_within (both_within cat (maybe_within (either_within (valued_within (both_within (plain d (any compares) (λ s. refl)) cat) tree.compared) (either_within (question d) range)))) tree.tested

    disjunction : Within d d (g.disjunction script n (g.inside script n)) (g.disjunction script d (g.inside script d))
    unfolding is_plain
    disjunction =
        let not = plain d (is k.Not) (λ s. refl) in
        chain_within (is k.Or) (plain d (is k.Or) (λ s. refl)) (chain_within (is k.And) (plain d (is k.And) (λ s. refl)) (signed_within (is k.Not) not test))

  self : (d : ℕ) → Within d d (g.expr script d) (g.expr script d)
  unfolding Inner g.inside
  self zero = disjunction 0 0 tt
  self (suc d) = disjunction (suc d) (suc d) (self d)

  inner : (n d : ℕ) → Inner n d
  unfolding Inner g.inside
  inner n zero = tt
  inner zero (suc d) = let w = self d in never_within w.back
  inner (suc n) (suc d) = disjunction n d (inner n d)

  -- with n brackets or with d
  expr : (n d : ℕ) → Within d d (g.expr script n) (g.expr script d)
  expr n d = disjunction n d (inner n d)

-- ---- expressions of the grammar

pub within_limits : (script : List ℕ) (ts : List Token) (x : Expr) → (g.any_expr script).reads ts x [] → length ts ≤ 1000 → opens_at_most 64 ts ≡ true → (g.expression script).reads ts x []
unfolding g.any_expr g.expression
within_limits script ts x r few fits = (((expr script r.0 64).into ts x [] fits r.1).0, omega arith)

pub limits_kept : (script : List ℕ) (ts : List Token) (x : Expr) → (g.expression script).reads ts x [] → (length ts ≤ 1000) × (opens_at_most 64 ts ≡ true)
unfolding g.expression
limits_kept script ts x r = (omega (arith, r.1), (self script 64).back ts x [] refl r.0)
