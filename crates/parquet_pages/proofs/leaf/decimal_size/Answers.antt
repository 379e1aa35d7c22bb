use Rattle.std.proofs.Common.{◌≡◌, ◌+◌, ◌-◌, sym, ◌∙◌, arith}
use Rattle.parquet_pages.specs.Stored.{has_room}
use Rattle.parquet_pages.proofs.leaf.decimal_size.Goals as goal
use Rattle.parquet_pages.proofs.Sizes.{first_passed, first_found, room_found, no_room, last_room}

pub returns-then-ten_to-bytes-clause-least : goal.returns-then-ten_to-bytes-clause-least
returns-then-ten_to-bytes-clause-least c =
    let bytes = c.loop-bytes.bytes in
    sym (c.loop-bytes.invariant ∙ first_found (has_room c.args.precision) bytes (17 - bytes) (16 - bytes) (room_found c.args.precision bytes c.ten_to.result (omega arith) (omega arith) c.ten_to.ensures c.if-ten_to-bytes.true) (omega arith))

pub loop-bytes-preserved : goal.loop-bytes-preserved
loop-bytes-preserved c =
    let bytes = c.loop-bytes.bytes in
    c.loop-bytes.invariant
    ∙ first_passed (has_room c.args.precision) bytes (17 - bytes) (16 - bytes) (bytes + 1) (17 - (bytes + 1)) (no_room c.args.precision bytes c.ten_to.result (omega arith) (omega arith) c.ten_to.ensures c.if-ten_to-bytes.false) (omega arith) (omega arith) (omega arith)

pub returns-clause-least : goal.returns-clause-least
returns-clause-least c =
    let bytes = c.loop-bytes.bytes in
    let end : bytes ≡ 16 = omega arith in
    let found = first_found (has_room c.args.precision) bytes (17 - bytes) (16 - bytes) (rw end (last_room c.args.precision c.requires)) (omega arith) in
    sym (c.loop-bytes.invariant ∙ found ∙ end)
