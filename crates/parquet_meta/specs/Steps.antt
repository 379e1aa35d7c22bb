-- What the steps of reading a schema and of building trees ensure; no public clause cites them.
use Rattle.std.specs.Prelude.{◌≡◌, ⊤, ℕ, pos, ◌++◌, Bool, List, IfSome, FitsSigned, Some, None, option_map, Result}
use Rattle.std.specs.Prelude.{Ok, Err}
use Rattle.std.specs.Int.{w32, w64}
use Rattle.std.specs.List.{AllByRecursion}
use Rattle.dm_types.specs.Then.{◌>>=◌}
use Rattle.parquet_meta.specs.declared.fault.MetaFault.{MetaFault}
use Rattle.parquet_meta.specs.declared.fault.MetaFault.TheVariants.{BadFooter, Memory}
use Rattle.parquet_meta.specs.declared.elements.Element.{Element}
use Rattle.parquet_meta.specs.declared.headers.PageHeader.{PageHeader}
use Rattle.parquet_meta.specs.declared.headers.PageV1.{PageV1}
use Rattle.parquet_meta.specs.declared.headers.DictionaryPage.{DictionaryPage}
use Rattle.parquet_meta.specs.declared.headers.PageV2.{PageV2}
use Rattle.parquet_meta.specs.declared.metadata.Logical.{Logical}
use Rattle.parquet_meta.specs.declared.metadata.Logical.TheVariants as logical
use Rattle.parquet_meta.specs.declared.metadata.LeafSchema.{LeafSchema}
use Rattle.parquet_meta.specs.declared.metadata.ChunkMeta.{ChunkMeta}
use Rattle.parquet_meta.specs.declared.metadata.RowGroup.{RowGroup}
use Rattle.parquet_meta.specs.declared.metadata.Footer.{Footer}
use Rattle.parquet_meta.specs.Leaves.{count_of, own_leaves}
use Rattle.parquet_meta.specs.Written.{told_length, repetition_by}

-- a call gave the number of children of an element, and added the leaf that it is
abbrev pub AddsOwn : Bool → Element → Element → List LeafSchema → List LeafSchema → Result ℕ MetaFault → Type 0
AddsOwn top owner e old new (Ok children) =
    (count_of e.children ≡ Some children)
    × (option_map (λ own. old ++ own) (own_leaves top owner e children) ≡ Some new)
AddsOwn top owner e old new (Err BadFooter) = (count_of e.children >>= own_leaves top owner e) ≡ None
AddsOwn top owner e old new (Err Memory) = ⊤

-- ---- the ranges that the types of the numbers have

pub record PageFits (p : PageV1) : Type 0 where
  pub values : FitsSigned w32 p.values
  pub encoding : FitsSigned w32 p.encoding
  pub definition : FitsSigned w32 p.definition
  pub repetition : FitsSigned w32 p.repetition

pub record DictionaryFits (p : DictionaryPage) : Type 0 where
  pub values : FitsSigned w32 p.values
  pub encoding : FitsSigned w32 p.encoding

pub record PageV2Fits (p : PageV2) : Type 0 where
  pub values : FitsSigned w32 p.values
  pub nulls : FitsSigned w32 p.nulls
  pub rows : FitsSigned w32 p.rows
  pub encoding : FitsSigned w32 p.encoding
  pub definition : FitsSigned w32 p.definition_bytes
  pub repetition : FitsSigned w32 p.repetition_bytes

pub record HeaderFits (h : PageHeader) : Type 0 where
  pub kind : FitsSigned w32 h.kind
  pub unpacked : FitsSigned w32 h.unpacked
  pub packed : FitsSigned w32 h.packed
  pub page : IfSome h.page PageFits
  pub dictionary : IfSome h.dictionary DictionaryFits
  pub page_v2 : IfSome h.page_v2 PageV2Fits

abbrev pub LogicalFits : Logical → Type 0
LogicalFits logical.Absent = ⊤
LogicalFits logical.Str = ⊤
LogicalFits (logical.Decimal scale) = FitsSigned w32 scale
LogicalFits logical.Date = ⊤
LogicalFits (logical.Timestamp unit) = ⊤
LogicalFits logical.Other = ⊤

pub record LeafFits (leaf : LeafSchema) : Type 0 where
  pub physical : FitsSigned w32 (pos leaf.physical)
  pub length : IfSome (told_length leaf.length) (FitsSigned w32)
  pub repetition : FitsSigned w32 (pos (repetition_by leaf.optional leaf.repeated))
  pub converted : IfSome leaf.annotation.converted (FitsSigned w32)
  pub scale : IfSome leaf.annotation.scale (FitsSigned w32)
  pub precision : IfSome leaf.annotation.precision (FitsSigned w32)
  pub field_id : IfSome leaf.field_id (FitsSigned w32)
  pub logical : LogicalFits leaf.annotation.logical

pub record ChunkFits (c : ChunkMeta) : Type 0 where
  pub physical : FitsSigned w32 c.physical
  pub codec : FitsSigned w32 c.codec
  pub values : FitsSigned w64 c.values
  pub unpacked : FitsSigned w64 c.unpacked
  pub packed : FitsSigned w64 c.packed
  pub page_at : FitsSigned w64 c.page_at
  pub dictionary_at : IfSome c.dictionary_at (FitsSigned w64)

pub record GroupFits (g : RowGroup) : Type 0 where
  pub chunks : AllByRecursion ChunkFits g.chunks
  pub bytes : FitsSigned w64 g.bytes
  pub rows : FitsSigned w64 g.rows

pub record FooterFits (f : Footer) : Type 0 where
  pub leaves : AllByRecursion LeafFits f.leaves
  pub rows : FitsSigned w64 f.rows
  pub groups : AllByRecursion GroupFits f.groups
