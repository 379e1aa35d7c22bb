-- What holds of a value that there may be.
use Rattle.std.proofs.Common.{◌≡◌, Option, Some, None, option_map, option_and_then, Bool, true, false, cond, refl}
use Rattle.std.specs.Prelude.{IfSome}

pub if_all : {A : Type 0} (P : A → Type 0) (o : Option A) → ((a : A) → P a) → IfSome o P
if_all P None k = tt
if_all P (Some a) k = k a

pub if_each : {A : Type 0} (P Q : A → Type 0) (o : Option A) → ((a : A) → P a → Q a) → IfSome o P → IfSome o Q
if_each P Q None k h = tt
if_each P Q (Some a) k h = k a h

pub if_known : {A : Type 0} (P : A → Type 0) (o : Option A) → ((a : A) → o ≡ Some a → P a) → IfSome o P
if_known P None k = tt
if_known P (Some a) k = k a refl

pub if_map_all : {A B : Type 0} (Q : B → Type 0) (f : A → B) (o : Option A) → ((a : A) → Q (f a)) → IfSome (option_map f o) Q
if_map_all Q f None k = tt
if_map_all Q f (Some a) k = k a

pub if_map : {A B : Type 0} (P : A → Type 0) (Q : B → Type 0) (f : A → B) (o : Option A) → ((a : A) → P a → Q (f a)) → IfSome o P → IfSome (option_map f o) Q
if_map P Q f None k h = tt
if_map P Q f (Some a) k h = k a h

pub if_then_all : {A B : Type 0} (Q : B → Type 0) (f : A → Option B) (o : Option A) → ((a : A) → IfSome (f a) Q) → IfSome (option_and_then f o) Q
if_then_all Q f None k = tt
if_then_all Q f (Some a) k = k a

pub if_then : {A B : Type 0} (P : A → Type 0) (Q : B → Type 0) (f : A → Option B) (o : Option A) → IfSome o P → ((a : A) → P a → IfSome (f a) Q) → IfSome (option_and_then f o) Q
if_then P Q f None h k = tt
if_then P Q f (Some a) h k = k a h

pub if_cond : {A : Type 0} (P : A → Type 0) (b : Bool) (x y : Option A) → IfSome x P → IfSome y P → IfSome (cond b x y) P
if_cond P true x y h k = h
if_cond P false x y h k = k
