-- What comes of the parts of a form: their types, or the soonest of what is broken in them.
use Rattle.std.proofs.Common.{◌≡◌, ◌⊎◌, inl, inr, false, List, [], ◌∷◌, ◌++◌, refl, sym, ap, subst, ◌∙◌}
use Rattle.std.specs.Prelude.{Ok, Err}
use Rattle.std.specs.List.{Contains}
use Rattle.dm_types.specs.declared.value.DataType.{DataType}
use Rattle.sql_tree.specs.Spans.{Layer}
use Rattle.sql_tree.specs.declared.tree.Expr.{Expr, out-Expr}
use Rattle.sql_tree.specs.declared.tree.Expr.TheViews.{roll-Expr, out-roll-Expr}
use Rattle.typed_expr.specs.declared.broken.Broken.{Broken}
use Rattle.typed_expr.specs.declared.scope.ScopeColumn.{ScopeColumn}
use Rattle.typed_expr.specs.declared.tree.TypedExpr.{TypedExpr}
use Rattle.typed_expr.specs.Kinds.{kind_of}
use Rattle.typed_expr.specs.Judging.{Verdict, judged, parts_of}
use Rattle.typed_expr.specs.HasType.{HasType, formed, HaveTypes, none, more, Breaks, itself, within, BreakOne, first, later, IsSoonest}
use Rattle.typed_expr.specs.Comes.{Soonest, Comes}
use Rattle.typed_expr.specs.Rules.{Typing, both, all, comes_before, ◌>>=◌}
use Rattle.typed_expr.proofs.Soonest.{both_soonest}

-- what a form comes to is what its line of the tables says: a tree of the type, or the soonest of what is broken
abbrev pub Meets : Verdict → Typing TypedExpr → Type 0
Meets (Ok k) (Ok tree) = kind_of tree ≡ k
Meets (Err all) (Err b) = IsSoonest (Contains all) b
Meets verdict found = ⊥

-- ---- lists of parts

abbrev pub AreTyped : {A : Type 0} → List ScopeColumn → List Expr → (A → List DataType) → Typing A → Type 0
AreTyped scope xs kinds (Ok a) = HaveTypes scope xs (kinds a) × ((ks : List DataType) → HaveTypes scope xs ks → ks ≡ kinds a)
AreTyped scope xs kinds (Err b) = (ks : List DataType) → HaveTypes scope xs ks → ⊥

pub record PartsCome {A : Type 0} (scope : List ScopeColumn) (xs : List Expr) (kinds : A → List DataType) (found : Typing A) : Type 0 where
  pub typed : AreTyped scope xs kinds found
  pub soonest : Soonest (BreakOne scope xs) found

module _ (scope : List ScopeColumn) where
  have_append : {xs ys : List Expr} {ks ls : List DataType} → HaveTypes scope xs ks → HaveTypes scope ys ls → HaveTypes scope (xs ++ ys) (ks ++ ls)
  have_append none q = q
  have_append (more h p) q = more h (have_append p q)

  abbrev Parted : List Expr → List Expr → List DataType → Type 0
  Parted xs ys all = (ks : List DataType) × (ls : List DataType) × HaveTypes scope xs ks × HaveTypes scope ys ls × (all ≡ ks ++ ls)

  part_more : {x : Expr} {k : DataType} {xs ys : List Expr} {all : List DataType} → HasType scope x k → Parted xs ys all → Parted (x ∷ xs) ys (k ∷ all)
  part_more {k = k} h (ks, ls, p, q, e) = (k ∷ ks, ls, more h p, q, ap (λ z. k ∷ z) e)

  have_parts : (xs ys : List Expr) {all : List DataType} → HaveTypes scope (xs ++ ys) all → Parted xs ys all
  have_parts [] ys {all = all} h = ([], all, none, h, refl)
  have_parts (x ∷ xs) ys (more h p) = part_more h (have_parts xs ys p)

  one_left : {xs : List Expr} (ys : List Expr) {b : Broken} → BreakOne scope xs b → BreakOne scope (xs ++ ys) b
  one_left ys (first h) = first h
  one_left ys (later h) = later (one_left ys h)

  one_right : (xs : List Expr) {ys : List Expr} {b : Broken} → BreakOne scope ys b → BreakOne scope (xs ++ ys) b
  one_right [] h = h
  one_right (x ∷ xs) h = later (one_right xs h)

  one_later : {x : Expr} {xs ys : List Expr} {b : Broken} → BreakOne scope xs b ⊎ BreakOne scope ys b → BreakOne scope (x ∷ xs) b ⊎ BreakOne scope ys b
  one_later (inl h) = inl (later h)
  one_later (inr h) = inr h

  one_cases : (xs ys : List Expr) {b : Broken} → BreakOne scope (xs ++ ys) b → BreakOne scope xs b ⊎ BreakOne scope ys b
  one_cases [] ys h = inr h
  one_cases (x ∷ xs) ys (first h) = inl (first h)
  one_cases (x ∷ xs) ys (later h) = one_later (one_cases xs ys h)

  not_none : {b : Broken} → BreakOne scope [] b → ⊥
  not_none h = elim h [ ]

  module _ {A B : Type 0} (xs ys : List Expr) (f : A → List DataType) (g : B → List DataType) where
    both_typed : (s : Typing A) (t : Typing B) → AreTyped scope xs f s → AreTyped scope ys g t → AreTyped scope (xs ++ ys) (λ p. f p.0 ++ g p.1) (both s t)
    both_typed (Ok a) (Ok b) hs ht = (
      have_append hs.0 ht.0,
      λ ks h. let p = have_parts xs ys h in p.4 ∙ ap (λ z. z ++ p.1) (hs.1 p.0 p.2) ∙ ap (λ z. f a ++ z) (ht.1 p.1 p.3),
    )
    both_typed (Ok a) (Err e) hs ht = λ ks h. let p = have_parts xs ys h in ht p.1 p.3
    both_typed (Err d) (Ok b) hs ht = λ ks h. let p = have_parts xs ys h in hs p.0 p.2
    both_typed (Err d) (Err e) hs ht = λ ks h. let p = have_parts xs ys h in hs p.0 p.2

    pub both_come : (s : Typing A) (t : Typing B) → PartsCome scope xs f s → PartsCome scope ys g t → PartsCome scope (xs ++ ys) (λ p. f p.0 ++ g p.1) (both s t)
    both_come s t hs ht = record {
      typed = both_typed s t hs.typed ht.typed;
      soonest = both_soonest (BreakOne scope xs) (BreakOne scope ys) (BreakOne scope (xs ++ ys)) (λ b. one_cases xs ys) (λ b. one_left ys) (λ b. one_right xs) s t hs.soonest ht.soonest;
    }

  -- what is made of parts that came
  pub made_come : {A B : Type 0} (xs : List Expr) (f : A → List DataType) (g : B → List DataType) (h : A → B) (t : Typing A) → ((a : A) → f a ≡ g (h a)) → PartsCome scope xs f t → PartsCome scope xs g (t >>= λ a. Ok (h a))
  made_come xs f g h (Ok a) e p = record {
    typed = (subst (HaveTypes scope xs) (e a) p.typed.0, λ ks q. p.typed.1 ks q ∙ e a);
    soonest = p.soonest;
  }
  made_come xs f g h (Err b) e p = record { typed = p.typed; soonest = p.soonest }

  pub no_parts : {A : Type 0} (kinds : A → List DataType) (a : A) → [] ≡ kinds a → PartsCome scope [] kinds (Ok a)
  no_parts kinds a e = record {
    typed = (subst (HaveTypes scope []) e none, λ ks h. only h ∙ e);
    soonest = λ b h. not_none h;
  }
    where
      only : {ks : List DataType} → HaveTypes scope [] ks → ks ≡ []
      only none = refl

  one_of : {x : Expr} {b : Broken} → BreakOne scope (x ∷ []) b → Breaks scope x b
  one_of (first h) = h
  one_of (later h) = elim h [ ]

  abbrev kind_alone : TypedExpr → List DataType
  kind_alone tree = kind_of tree ∷ []

  pub one_part : (x : Expr) (t : Typing TypedExpr) → Comes scope x t → PartsCome scope (x ∷ []) kind_alone t
  one_part x (Ok tree) p = record {
    typed = (more p.typed.0 none, λ ks h. only h);
    soonest = λ b h. p.soonest b (one_of h);
  }
    where
      only : {ks : List DataType} → HaveTypes scope (x ∷ []) ks → ks ≡ kind_of tree ∷ []
      only (more h none) = ap (λ k. k ∷ []) (p.typed.1 _ h)
  one_part x (Err b) p = record {
    typed = λ ks h. never h;
    soonest = record { broke = first p.soonest.broke; least = λ c h. p.soonest.least c (one_of h) };
  }
    where
      never : {ks : List DataType} → HaveTypes scope (x ∷ []) ks → ⊥
      never (more h none) = p.typed _ h

  -- ---- a form over its parts

  abbrev Formed : Expr → DataType → Type 0
  Formed x k = (ks : List DataType) × HaveTypes scope (parts_of (out-Expr x)) ks × (judged scope (out-Expr x) ks ≡ Ok k)

  unform : {x : Expr} {k : DataType} → HasType scope x k → Formed x k
  unform (formed {kinds = ks} h e) = (ks, h, e)

  abbrev Broke : Expr → Broken → Type 0
  Broke x b = ((ks : List DataType) × (all : List Broken) × HaveTypes scope (parts_of (out-Expr x)) ks × (judged scope (out-Expr x) ks ≡ Err all) × Contains all b) ⊎ BreakOne scope (parts_of (out-Expr x)) b

  unbreak : {x : Expr} {b : Broken} → Breaks scope x b → Broke x b
  unbreak (itself {kinds = ks} {all = all} h e c) = inl (ks, all, h, e, c)
  unbreak (within h) = inr h

  module _ {A : Type 0} (x : Expr) (kinds : A → List DataType) where
    abbrev verdict_of : A → Verdict
    verdict_of a = judged scope (out-Expr x) (kinds a)

    over : (a : A) → AreTyped scope (parts_of (out-Expr x)) kinds (Ok a) → ((b : Broken) → BreakOne scope (parts_of (out-Expr x)) b → ⊥) → (v : Verdict) → verdict_of a ≡ v → (found : Typing TypedExpr) → Meets v found → Comes scope x found
    over a p q (Ok k) e (Ok tree) m = record {
      typed = (formed p.0 (e ∙ ap Ok (sym m)), λ j h. let u = unform h in let same : judged scope (out-Expr x) (kinds a) ≡ Ok j = subst (λ ks. judged scope (out-Expr x) ks ≡ Ok j) (p.1 u.0 u.1) u.2 in kind_is j (sym same ∙ e) ∙ sym m);
      soonest = λ b h. unbroken b (unbreak h);
    }
      where
        kind_is : (j : DataType) → ◌≡◌ {A = Verdict} (Ok j) (Ok k) → j ≡ k
        kind_is j f = cc

        unbroken : (b : Broken) → Broke x b → ⊥
        unbroken b (inl (ks, all, h, f, c)) = let same : judged scope (out-Expr x) (kinds a) ≡ Err all = subst (λ ks. judged scope (out-Expr x) ks ≡ Err all) (p.1 ks h) f in let no : ◌≡◌ {A = Verdict} (Ok k) (Err all) = sym e ∙ same in cc
        unbroken b (inr h) = q b h
    over a p q (Err all) e (Err b) m = record {
      typed = λ j h. let u = unform h in let same : judged scope (out-Expr x) (kinds a) ≡ Ok j = subst (λ ks. judged scope (out-Expr x) ks ≡ Ok j) (p.1 u.0 u.1) u.2 in untyped j (sym e ∙ same);
      soonest = record { broke = itself p.0 e m.broke; least = λ c h. least c (unbreak h) };
    }
      where
        untyped : (j : DataType) → ◌≡◌ {A = Verdict} (Err all) (Ok j) → ⊥
        untyped j f = cc

        all_is : (other : List Broken) → ◌≡◌ {A = Verdict} (Err other) (Err all) → other ≡ all
        all_is other f = cc

        least : (c : Broken) → Broke x c → comes_before c b ≡ false
        least c (inl (ks, other, h, f, d)) = let same : judged scope (out-Expr x) (kinds a) ≡ Err other = subst (λ ks. judged scope (out-Expr x) ks ≡ Err other) (p.1 ks h) f in m.least c (subst (λ z. Contains z c) (all_is other (sym same ∙ e)) d)
        least c (inr h) = absurd (q c h)
    over a p q (Ok k) e (Err b) m = absurd m
    over a p q (Err all) e (Ok tree) m = absurd m

    pub form_comes : (t : Typing A) (f : A → Typing TypedExpr) → PartsCome scope (parts_of (out-Expr x)) kinds t → ((a : A) → t ≡ Ok a → Meets (verdict_of a) (f a)) → Comes scope x (t >>= f)
    form_comes (Ok a) f p m = over a p.typed p.soonest (verdict_of a) refl (f a) (m a refl)
    form_comes (Err b) f p m = record {
      typed = λ k h. let u = unform h in p.typed u.0 u.1;
      soonest = record { broke = within p.soonest.broke; least = λ c h. least c (unbreak h) };
    }
      where
        least : (c : Broken) → Broke x c → comes_before c b ≡ false
        least c (inl (ks, all, h, e, d)) = absurd (p.typed ks h)
        least c (inr h) = p.soonest.least c h

  -- the same at an opened expression
  pub layer_comes : {A : Type 0} (layer : Layer) (kinds : A → List DataType) (t : Typing A) (f : A → Typing TypedExpr) → PartsCome scope (parts_of layer) kinds t → ((a : A) → t ≡ Ok a → Meets (judged scope layer (kinds a)) (f a)) → Comes scope (roll-Expr layer) (t >>= f)
  layer_comes layer kinds t f p m =
      let e = sym (out-roll-Expr layer) in
      form_comes (roll-Expr layer) kinds t f (subst (λ l. PartsCome scope (parts_of l) kinds t) e p) (λ a h. subst (λ l. Meets (judged scope l (kinds a)) (f a)) e (m a h))
