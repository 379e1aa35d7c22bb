-- Which bytes are a footer or begin with a page header.
use Rattle.std.proofs.Common.{◌≡◌, ℕ, List, [], ◌++◌, length, take, Bool, true, false, cond, eqb, eq-eqb, Option, Some, None, option_map, option_and_then, Result, Ok, Err, refl, sym, ap, ◌∙◌, subst, arith}
use Rattle.std.proofs.lemmas.List.{append-nil, take_all}
use Rattle.std.proofs.lemmas.Bool.{eqb-true}
use Rattle.thrift_compact.specs.Grammar.{IsStruct}
use Rattle.thrift_compact.specs.Reading.{read}
use Rattle.thrift_compact.specs.Places.{IsFront}
use Rattle.thrift_compact.specs.declared.tree.Field.{Field}
use Rattle.parquet_meta.specs.declared.headers.PageHeader.{PageHeader}
use Rattle.parquet_meta.specs.declared.metadata.Footer.{Footer}
use Rattle.parquet_meta.specs.Headers.{header_of}
use Rattle.parquet_meta.specs.Meaning.{footer_of, whole_footer, footer_in, front_header, page_header_in}

-- what the law of thrift_compact says of reading
pub record StructsAreRead : Type 0 where
  pub found : (bytes : List ℕ) (tree : List Field) (size : ℕ) → read bytes ≡ Ok (tree, size) → IsFront bytes tree size
  pub only : (front more : List ℕ) (tree : List Field) → IsStruct front tree → read (front ++ more) ≡ Ok (tree, length front)

abbrev sized : ℕ → PageHeader → Option (PageHeader × ℕ)
sized size header = Some (header, size)

module _ (law : StructsAreRead) where
  footer_by : (bytes : List ℕ) (footer : Footer) (r : Result (List Field × ℕ) ℕ) → read bytes ≡ r → whole_footer (length bytes) r ≡ Some footer → (tree : List Field) × IsStruct bytes tree × (footer_of tree ≡ Some footer)
  footer_by bytes footer (Err at) known is = absurd cc
  footer_by bytes footer (Ok p) known is = by_size (eqb p.1 (length bytes)) refl is
    where
      by_size : (b : Bool) → eqb p.1 (length bytes) ≡ b → cond b (footer_of p.0) None ≡ Some footer → (tree : List Field) × IsStruct bytes tree × (footer_of tree ≡ Some footer)
      by_size false size is = absurd cc
      by_size true size is =
          let front : IsFront bytes p.0 p.1 = law.found bytes p.0 p.1 known in
          let all : take p.1 bytes ≡ bytes = ap (λ k. take k bytes) (eqb-true p.1 (length bytes) size) ∙ take_all (length bytes) bytes (omega arith) in
          (p.0, subst (λ (b : List ℕ). IsStruct b p.0) all front.spelled, is)

  pub footer_found : (bytes : List ℕ) (footer : Footer) → footer_in bytes ≡ Some footer → (tree : List Field) × IsStruct bytes tree × (footer_of tree ≡ Some footer)
  unfolding footer_in
  footer_found bytes footer is = footer_by bytes footer (read bytes) refl is

  pub footer_only : (bytes : List ℕ) (tree : List Field) → IsStruct bytes tree → footer_in bytes ≡ footer_of tree
  unfolding footer_in
  footer_only bytes tree is =
      let known : read bytes ≡ Ok (tree, length bytes) = ap read (sym (append-nil bytes)) ∙ law.only bytes [] tree is in
      ap (whole_footer (length bytes)) known ∙ rw (eq-eqb (length bytes) (length bytes) refl) refl

  header_by : (bytes : List ℕ) (header : PageHeader) (size : ℕ) (r : Result (List Field × ℕ) ℕ) → read bytes ≡ r → front_header r ≡ Some (header, size) → (tree : List Field) × IsFront bytes tree size × (header_of tree ≡ Some header)
  header_by bytes header size (Err at) known is = absurd cc
  header_by bytes header size (Ok p) known is = by_header (header_of p.0) refl is
    where
      by_header : (o : Option PageHeader) → header_of p.0 ≡ o → option_and_then (sized p.1) o ≡ Some (header, size) → (tree : List Field) × IsFront bytes tree size × (header_of tree ≡ Some header)
      by_header None has is = absurd cc
      by_header (Some h) has is =
          let same : Some h ≡ Some header = ap (option_map (λ (q : PageHeader × ℕ). q.0)) is in
          let some : Some p.1 ≡ Some size = ap (option_map (λ (q : PageHeader × ℕ). q.1)) is in
          let sizes : p.1 ≡ size = cc in
          (p.0, subst (λ (k : ℕ). IsFront bytes p.0 k) sizes (law.found bytes p.0 p.1 known), has ∙ same)

  pub header_found : (bytes : List ℕ) (header : PageHeader) (size : ℕ) → page_header_in bytes ≡ Some (header, size) → (tree : List Field) × IsFront bytes tree size × (header_of tree ≡ Some header)
  unfolding page_header_in
  header_found bytes header size is = header_by bytes header size (read bytes) refl is

  with_size : (o : Option PageHeader) (size : ℕ) → option_and_then (sized size) o ≡ option_map (λ h. (h, size)) o
  with_size None size = refl
  with_size (Some h) size = refl

  pub header_only : (front more : List ℕ) (tree : List Field) → IsStruct front tree → page_header_in (front ++ more) ≡ option_map (λ h. (h, length front)) (header_of tree)
  unfolding page_header_in
  header_only front more tree is = ap front_header (law.only front more tree is) ∙ with_size (header_of tree) (length front)
