-- Trees in preorder, and their leaves as a function of the elements.
use Rattle.std.proofs.Common.{◌≡◌, ℕ, zero, suc, ◌+◌, ◌≤◌, List, [], ◌∷◌, ◌++◌, length, Bool, true, false, Option, Some, None, option_and_then, refl, sym, ap, ◌∙◌, subst, arith, append_assoc, length-append}
use Rattle.parquet_meta.specs.declared.elements.Element.{Element}
use Rattle.parquet_meta.specs.declared.metadata.LeafSchema.{LeafSchema}
use Rattle.parquet_meta.specs.Leaves.{count_of, own_leaves, joined, leaves_of, schema_leaves}
use Rattle.parquet_meta.specs.Trees.{AreInside, no_tree, tree_inside, AreTop, nothing, tree_at_top, IsSchema}
use Rattle.parquet_meta.proofs.Owed.{joined-nil, joined-joined}

-- ---- trees are read

-- an element that is entered
abbrev enter : Bool → Element → Element → (ℕ → Option (List LeafSchema)) → Option (List LeafSchema)
enter top owner e rest = option_and_then (λ children. option_and_then (λ own. joined own (rest children)) (own_leaves top owner e children)) (count_of e.children)

enter_known : (top : Bool) (owner e : Element) (rest : ℕ → Option (List LeafSchema)) (children : ℕ) (own : List LeafSchema) → count_of e.children ≡ Some children → own_leaves top owner e children ≡ Some own
    → enter top owner e rest ≡ joined own (rest children)
enter_known top owner e rest children own a b = ap (option_and_then (λ children. option_and_then (λ own. joined own (rest children)) (own_leaves top owner e children))) a ∙ ap (option_and_then (λ own. joined own (rest children))) b

inside_read : (owner : Element) (n : ℕ) (es : List Element) (ls : List LeafSchema) → AreInside owner n es ls → (m outside : ℕ) (rest : List Element)
    → leaves_of owner (n + m) outside (es ++ rest) ≡ joined ls (leaves_of owner m outside rest)
inside_read owner _ _ _ no_tree m outside rest =
    let sum : 0 + m ≡ m = omega arith in
    ap (λ k. leaves_of owner k outside rest) sum ∙ joined-nil (leaves_of owner m outside rest)
inside_read owner _ _ _ (tree_inside e children more inner others own below later a b in_e in_others) m outside rest =
    let sum : suc more + m ≡ suc (more + m) = omega arith in
    ap (λ k. leaves_of owner k outside (e ∷ ((inner ++ others) ++ rest))) sum
    ∙ enter_known false owner e (λ c. leaves_of owner (c + (more + m)) outside ((inner ++ others) ++ rest)) children own a b
    ∙ ap (λ xs. joined own (leaves_of owner (children + (more + m)) outside xs)) (append_assoc inner others rest)
    ∙ ap (joined own) (inside_read owner children inner below in_e (more + m) outside (others ++ rest) ∙ ap (joined below) (inside_read owner more others later in_others m outside rest)
    ∙ joined-joined below later (leaves_of owner m outside rest))
    ∙ joined-joined own (below ++ later) (leaves_of owner m outside rest)

top_read : (owner : Element) (n : ℕ) (es : List Element) (ls : List LeafSchema) → AreTop n es ls → leaves_of owner 0 n es ≡ Some ls
top_read owner _ _ _ nothing = refl
top_read owner _ _ _ (tree_at_top e children more inner others own below later a b in_e in_others) =
    let sum : children ≡ children + 0 = omega arith in
    enter_known true e e (λ c. leaves_of e c more (inner ++ others)) children own a b
    ∙ ap (λ k. joined own (leaves_of e k more (inner ++ others))) sum
    ∙ ap (joined own) (inside_read e children inner below in_e 0 more others ∙ ap (joined below) (top_read e more others later in_others))

pub schema_only : (elements : List Element) (ls : List LeafSchema) → IsSchema elements ls → schema_leaves elements ≡ Some ls
schema_only [] ls h = absurd h
schema_only (root ∷ es) ls h = ap (option_and_then (λ children. leaves_of root 0 children es)) h.1 ∙ top_read root h.0 es ls h.2

-- ---- what is read is trees

record Entered (top : Bool) (owner e : Element) (rest : ℕ → Option (List LeafSchema)) (ls : List LeafSchema) : Type 0 where
  children : ℕ
  own : List LeafSchema
  more : List LeafSchema
  counted : count_of e.children ≡ Some children
  owned : own_leaves top owner e children ≡ Some own
  left : rest children ≡ Some more
  all : ls ≡ own ++ more

entered : (top : Bool) (owner e : Element) (rest : ℕ → Option (List LeafSchema)) (ls : List LeafSchema) → enter top owner e rest ≡ Some ls → Entered top owner e rest ls
entered top owner e rest ls is = by_count (count_of e.children) refl is
  where
    by_rest : (children : ℕ) (own : List LeafSchema) (o : Option (List LeafSchema)) → count_of e.children ≡ Some children → own_leaves top owner e children ≡ Some own → rest children ≡ o → joined own o ≡ Some ls → Entered top owner e rest ls
    by_rest children own None a b c is = absurd cc
    by_rest children own (Some more) a b c is = let same : own ++ more ≡ ls = cc in record { children = children; own = own; more = more; counted = a; owned = b; left = c; all = sym same }

    by_own : (children : ℕ) (o : Option (List LeafSchema)) → count_of e.children ≡ Some children → own_leaves top owner e children ≡ o → option_and_then (λ own. joined own (rest children)) o ≡ Some ls → Entered top owner e rest ls
    by_own children None a b is = absurd cc
    by_own children (Some own) a b is = by_rest children own (rest children) a b refl is

    by_count : (o : Option ℕ) → count_of e.children ≡ o → option_and_then (λ children. option_and_then (λ own. joined own (rest children)) (own_leaves top owner e children)) o ≡ Some ls → Entered top owner e rest ls
    by_count None a is = absurd cc
    by_count (Some children) a is = by_own children (own_leaves top owner e children) a refl is

-- trees, and what follows them
record Split (owner : Element) (n m : ℕ) (es : List Element) (ls : List LeafSchema) : Type 0 where
  front : List Element
  back : List Element
  own : List LeafSchema
  more : List LeafSchema
  elements : es ≡ front ++ back
  leaves : ls ≡ own ++ more
  trees : AreInside owner n front own
  others : AreInside owner m back more

shift : {A : Type 0} (a b c d : List A) → a ++ (b ++ (c ++ d)) ≡ (a ++ (b ++ c)) ++ d
shift a b c d = sym (append_assoc a (b ++ c) d ∙ ap (λ xs. a ++ xs) (append_assoc b c d))

split : (owner : Element) (n m : ℕ) (es : List Element) (ls : List LeafSchema) → AreInside owner (n + m) es ls → Split owner n m es ls
split owner zero m es ls h =
    let sum : 0 + m ≡ m = omega arith in
    record { front = []; back = es; own = []; more = ls; elements = refl; leaves = refl; trees = no_tree; others = subst (λ (k : ℕ). AreInside owner k es ls) sum h }
split owner (suc n) m es ls h =
    let sum : suc n + m ≡ suc (n + m) = omega arith in
    one (split owner n m) es ls (subst (λ (k : ℕ). AreInside owner k es ls) sum h)
  where
    one : ((es : List Element) (ls : List LeafSchema) → AreInside owner (n + m) es ls → Split owner n m es ls) → (es : List Element) (ls : List LeafSchema) → AreInside owner (suc (n + m)) es ls → Split owner (suc n) m es ls
    one smaller _ _ (tree_inside e children _ inner others own below later a b in_e in_others) =
        let s = smaller others later in_others in
        record {
          front = e ∷ (inner ++ s.front);
          back = s.back;
          own = own ++ (below ++ s.own);
          more = s.more;
          elements = ap (λ xs. e ∷ (inner ++ xs)) s.elements ∙ ap (λ xs. e ∷ xs) (sym (append_assoc inner s.front s.back));
          leaves = ap (λ xs. own ++ (below ++ xs)) s.leaves ∙ shift own below s.own s.more;
          trees = tree_inside e children n inner s.front own below s.own a b in_e s.trees;
          others = s.others;
        }

-- trees inside, and then trees at the top
record Inside (owner : Element) (n outside : ℕ) (es : List Element) (ls : List LeafSchema) : Type 0 where
  front : List Element
  back : List Element
  own : List LeafSchema
  more : List LeafSchema
  elements : es ≡ front ++ back
  leaves : ls ≡ own ++ more
  trees : AreInside owner n front own
  left : leaves_of owner 0 outside back ≡ Some more

inside : (owner : Element) (n outside : ℕ) (es : List Element) (ls : List LeafSchema) → leaves_of owner n outside es ≡ Some ls → Inside owner n outside es ls
inside owner zero outside es ls is = record { front = []; back = es; own = []; more = ls; elements = refl; leaves = refl; trees = no_tree; left = is }
inside owner (suc n) outside [] ls is = absurd cc
inside owner (suc n) outside (e ∷ es) ls is =
    let x : Entered false owner e (λ c. leaves_of owner (c + n) outside es) ls = entered false owner e (λ c. leaves_of owner (c + n) outside es) ls is in
    let r = inside owner (x.children + n) outside es x.more x.left in
    let s = split owner x.children n r.front r.own r.trees in
    record {
      front = e ∷ (s.front ++ s.back);
      back = r.back;
      own = x.own ++ (s.own ++ s.more);
      more = r.more;
      elements = ap (λ xs. e ∷ xs) (r.elements ∙ ap (λ xs. xs ++ r.back) s.elements);
      leaves = x.all ∙ ap (λ xs. x.own ++ xs) (r.leaves ∙ ap (λ xs. xs ++ r.more) s.leaves) ∙ sym (append_assoc x.own (s.own ++ s.more) r.more);
      trees = tree_inside e x.children n s.front s.back x.own s.own s.more x.counted x.owned s.trees s.others;
      left = r.left;
    }

abbrev own_more : List LeafSchema → List LeafSchema → List LeafSchema → List LeafSchema
own_more a b c = a ++ (b ++ c)

top : (bound : ℕ) (owner : Element) (n : ℕ) (es : List Element) (ls : List LeafSchema) → length es ≤ bound → leaves_of owner 0 n es ≡ Some ls → AreTop n es ls
top bound owner zero [] ls small is = let none : [] ≡ ls = cc in subst (λ (xs : List LeafSchema). AreTop 0 [] xs) none nothing
top bound owner zero (e ∷ es) ls small is = absurd cc
top bound owner (suc n) [] ls small is = absurd cc
top zero owner (suc n) (e ∷ es) ls small is = absurd (omega arith)
top (suc bound) owner (suc n) (e ∷ es) ls small is =
    let x : Entered true e e (λ c. leaves_of e c n es) ls = entered true e e (λ c. leaves_of e c n es) ls is in
    let r = inside e x.children n es x.more x.left in
    let sizes : length es ≡ length r.front + length r.back = ap length r.elements ∙ length-append r.front r.back in
    let others : AreTop n r.back r.more = top bound e n r.back r.more (omega arith) r.left in
    let all : own_more x.own r.own r.more ≡ ls = sym (x.all ∙ ap (λ xs. x.own ++ xs) r.leaves) in
    let elements : e ∷ (r.front ++ r.back) ≡ e ∷ es = ap (λ xs. e ∷ xs) (sym r.elements) in
    subst (λ (xs : List LeafSchema). AreTop (suc n) (e ∷ es) xs) all (subst (λ (xs : List Element). AreTop (suc n) xs (own_more x.own r.own r.more)) elements
    (tree_at_top e x.children n r.front r.back x.own r.own r.more x.counted x.owned r.trees others))

pub schema_found : (elements : List Element) (ls : List LeafSchema) → schema_leaves elements ≡ Some ls → IsSchema elements ls
schema_found [] ls is = absurd cc
schema_found (root ∷ es) ls is = by_count (count_of root.children) refl is
  where
    by_count : (o : Option ℕ) → count_of root.children ≡ o → option_and_then (λ children. leaves_of root 0 children es) o ≡ Some ls → IsSchema (root ∷ es) ls
    by_count None a is = absurd cc
    by_count (Some children) a is = (children, a, top (length es) root children es ls (omega arith) is)
