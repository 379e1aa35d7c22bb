-- A type and its number.
use Rattle.std.proofs.Common.{◌≡◌, ℕ, ◌<◌, eqb, Bool, true, false, cond, Option, Some, None, refl, sym, ap, ◌∙◌, arith}
use Rattle.std.proofs.lemmas.Bool.{eqb-true}
use Rattle.thrift_compact.specs.Kinds.{kind_of, code_of, may_stand}
use Rattle.thrift_compact.specs.Values.{allowed}
use Rattle.thrift_compact.specs.declared.kind.Kind.{Kind}
use Rattle.thrift_compact.specs.declared.kind.Kind.TheVariants as kind

pub kind_of-code : (k : Kind) → kind_of (code_of k) ≡ Some k
unfolding kind_of
kind_of-code kind.True = refl
kind_of-code kind.False = refl
kind_of-code kind.I8 = refl
kind_of-code kind.I16 = refl
kind_of-code kind.I32 = refl
kind_of-code kind.I64 = refl
kind_of-code kind.Double = refl
kind_of-code kind.Binary = refl
kind_of-code kind.List = refl
kind_of-code kind.Set = refl
kind_of-code kind.Map = refl
kind_of-code kind.Struct = refl

pub record IsCode (c : ℕ) : Type 0 where
  pub low : 0 < c
  pub high : c < 13

pub code_range : (k : Kind) → IsCode (code_of k)
code_range kind.True = record { low = omega arith; high = omega arith }
code_range kind.False = record { low = omega arith; high = omega arith }
code_range kind.I8 = record { low = omega arith; high = omega arith }
code_range kind.I16 = record { low = omega arith; high = omega arith }
code_range kind.I32 = record { low = omega arith; high = omega arith }
code_range kind.I64 = record { low = omega arith; high = omega arith }
code_range kind.Double = record { low = omega arith; high = omega arith }
code_range kind.Binary = record { low = omega arith; high = omega arith }
code_range kind.List = record { low = omega arith; high = omega arith }
code_range kind.Set = record { low = omega arith; high = omega arith }
code_range kind.Map = record { low = omega arith; high = omega arith }
code_range kind.Struct = record { low = omega arith; high = omega arith }

-- one number more is looked at
peel : (c : ℕ) (each : Kind) (k : Kind) (rest : Option Kind) → (rest ≡ Some k → c ≡ code_of k) → (test : Bool) → eqb c (code_of each) ≡ test → cond test (Some each) rest ≡ Some k → c ≡ code_of k
peel c each k rest later true is found = let same : each ≡ k = cc in eqb-true c (code_of each) is ∙ ap code_of same
peel c each k rest later false is found = later found

pub code-kind_of : (c : ℕ) (k : Kind) → kind_of c ≡ Some k → c ≡ code_of k
unfolding kind_of
code-kind_of c k =
    peel c kind.True k _ (
    peel c kind.False k _ (
    peel c kind.I8 k _ (
    peel c kind.I16 k _ (
    peel c kind.I32 k _ (
    peel c kind.I64 k _ (
    peel c kind.Double k _ (
    peel c kind.Binary k _ (
    peel c kind.List k _ (peel c kind.Set k _ (peel c kind.Map k _ (peel c kind.Struct k None (λ e. absurd (cc)) _ refl) _ refl) _ refl) _ refl
    ) _ refl
    ) _ refl
    ) _ refl
    ) _ refl
    ) _ refl
    ) _ refl
    ) _ refl
    ) _ refl

-- ---- a type that may stand

pub record IsAllowed (left c : ℕ) (k : Kind) : Type 0 where
  pub code : c ≡ code_of k
  pub stands : may_stand left k ≡ true

allowed_by : (left c : ℕ) (k : Kind) (o : Option Kind) → kind_of c ≡ o → allowed left o ≡ Some k → IsAllowed left c k
allowed_by left c k None is found = absurd (cc)
allowed_by left c k (Some each) is found = by_test (may_stand left each) refl found
  where
    by_test : (test : Bool) → may_stand left each ≡ test → cond test (Some each) None ≡ Some k → IsAllowed left c k
    by_test false e found = absurd (cc)
    by_test true e found = let same : each ≡ k = cc in record { code = code-kind_of c k (is ∙ ap Some same); stands = ap (may_stand left) (sym same) ∙ e }

pub allowed_is : (left c : ℕ) (k : Kind) → allowed left (kind_of c) ≡ Some k → IsAllowed left c k
allowed_is left c k found = allowed_by left c k (kind_of c) refl found

pub is_allowed : (left c : ℕ) (k : Kind) → IsAllowed left c k → allowed left (kind_of c) ≡ Some k
is_allowed left c k is =
    let code : kind_of c ≡ Some k = ap kind_of is.code ∙ kind_of-code k in
    rw code (let stands : may_stand left k ≡ true = is.stands in rw stands refl)
