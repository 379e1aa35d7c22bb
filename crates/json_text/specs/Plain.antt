-- Which JSON values are what their compact text reads as.
use Rattle.std.specs.Prelude.{◌≡◌, ⊤, ℕ, ◌-◌, ◌^◌, ◌<◌, pos, negsuc, List}
use Rattle.std.specs.Ordering.{nat_cmp}
use Rattle.std.specs.declared.cmp.Ordering.TheVariants.{Less}
use Rattle.std.specs.Cmp.Lexicographic.{slice_cmp}
use Rattle.serde_json.specs.Data.{Num, unsigned, negative, float, Data, null, boolean, number, string, array, object, Items, no_items, item, Members, no_members, member}

-- each name is above this one in byte order
abbrev pub IsAbove : List ℕ → Members → Type 0
IsAbove name no_members = ⊤
IsAbove name (member k d ms) = (slice_cmp nat_cmp name k ≡ Less) × IsAbove name ms

-- ---- in order: each object has its members in byte order of their names, each name once

abbrev mutual
  pub IsSorted : Data → Type 0
  IsSorted null = ⊤
  IsSorted (boolean b) = ⊤
  IsSorted (number x) = ⊤
  IsSorted (string s) = ⊤
  IsSorted (array ds) = AreSortedItems ds
  IsSorted (object ms) = AreSorted ms

  pub AreSortedItems : Items → Type 0
  AreSortedItems no_items = ⊤
  AreSortedItems (item d ds) = IsSorted d × AreSortedItems ds

  pub AreSorted : Members → Type 0
  AreSorted no_members = ⊤
  AreSorted (member k d ms) = IsSorted d × IsAbove k ms × AreSorted ms

-- ---- plain: no float, whole numbers in their range, objects in order, and nested at most n deep

abbrev pub IsPlainNumber : Num → Type 0
IsPlainNumber (unsigned n) = n < 2 ^ 64
IsPlainNumber (negative (pos n)) = ⊥
IsPlainNumber (negative (negsuc n)) = n < 2 ^ 63
IsPlainNumber (float x) = ⊥

abbrev mutual
  pub IsPlain : ℕ → Data → Type 0
  IsPlain n null = ⊤
  IsPlain n (boolean b) = ⊤
  IsPlain n (number x) = IsPlainNumber x
  IsPlain n (string s) = ⊤
  IsPlain n (array ds) = (0 < n) × ArePlainItems (n - 1) ds
  IsPlain n (object ms) = (0 < n) × ArePlain (n - 1) ms

  pub ArePlainItems : ℕ → Items → Type 0
  ArePlainItems n no_items = ⊤
  ArePlainItems n (item d ds) = IsPlain n d × ArePlainItems n ds

  pub ArePlain : ℕ → Members → Type 0
  ArePlain n no_members = ⊤
  ArePlain n (member k d ms) = IsPlain n d × IsAbove k ms × ArePlain n ms
