use Rattle.std.proofs.Common.{◌≡◌, ℕ, ◌<◌, ◌≤◌, ◌^◌, ◌++◌, List, length, ap, arith, ◌∙◌, length-append}
use Rattle.thrift_compact.specs.Written as w
use Rattle.thrift_compact.specs.declared.tree.Field.{Field}
use Rattle.thrift_compact.proofs.WrittenLaws.{written_is}
use Rattle.thrift_compact.proofs.StructLaws.{read_only}
use Rattle.thrift_compact.proofs.write.write_struct.Goals as goal

-- a vector has fewer than 2 ^ 63 bytes
room : (tree : List Field) (old new : List ℕ) (len cap : ℕ) → new ≡ old ++ w.struct tree → len ≡ length new → len ≤ cap → cap < 2 ^ 63 → length (w.struct tree) < 2 ^ 64
room tree old new len cap is size within small = omega (arith, ap length is ∙ length-append old (w.struct tree), size)

pub returns-in-Ok-clause-spelled : goal.returns-in-Ok-clause-spelled
returns-in-Ok-clause-spelled c =
    let out = c.write_fields.new.out in
    written_is c.args.tree.now c.requires (room c.args.tree.now c.args.out.now.items out.items out.len out.cap (rw c.as_slice.ensures at c.in-Ok.ensures.ok) out.ok.0 out.ok.1 out.small)

pub returns-in-Ok-clause-again : goal.returns-in-Ok-clause-again
returns-in-Ok-clause-again c = λ more.
    let out = c.write_fields.new.out in
    let spelled = written_is c.args.tree.now c.requires (room c.args.tree.now c.args.out.now.items out.items out.len out.cap (rw c.as_slice.ensures at c.in-Ok.ensures.ok) out.ok.0 out.ok.1 out.small) in
    read_only (w.struct c.args.tree.now) c.args.tree.now more spelled
