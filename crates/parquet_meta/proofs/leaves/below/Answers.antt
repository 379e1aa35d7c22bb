use Rattle.std.proofs.Common.{arith, ◌≡◌, ◌<◌, ◌-◌, ◌+◌, suc, length, drop, length-drop, rules}
use Rattle.parquet_meta.proofs.Owed.{too_many, inside_ok, inside_many, top_ok, top_many}
use Rattle.parquet_meta.proofs.leaves.below.Goals as goal
use Rattle.parquet_meta.proofs.leaves.below.Goals.{then-inside-gt0+in_ok-more+in-Some, else-inside-gt0+then-outside-gt0+in_ok-more-2+in-Some-owed}

pub returns-then-outside-elements : goal.returns-then-outside-elements
returns-then-outside-elements c = too_many c.args.root.now 0 c.args.children c.args.elements.now (omega arith)

pub returns-in_default : goal.returns-in_default
returns-in_default c =
    let es = c.args.elements.now in
    let i = c.loop-index.index in
    let inside : i < length es = omega arith in
    let less : c.loop-index.inside ≡ suc (c.loop-index.inside - 1) = omega arith in
    let none : length es - i - 1 < c.in_ok-more.more + (c.loop-index.inside - 1) + c.loop-index.outside = search (rules, c.in_default.ensures.none) in
    let many : length (drop (i + 1) es) < c.in_ok-more.more + (c.loop-index.inside - 1) + c.loop-index.outside = omega (arith, length-drop (i + 1) es) in
    inside_many es i c.index-elements-index.result (inside, c.index-elements-index.is) _ c.loop-index.owner.now c.loop-index.inside c.loop-index.outside c.loop-index.leaves c.loop-index.invariant.left
    (c.loop-index.inside - 1) c.in_ok-more.more c.add_own.new.leaves less c.in_ok-more.ensures many

pub returns-in_default-owed : goal.returns-in_default-owed
returns-in_default-owed c =
    let es = c.args.elements.now in
    let i = c.loop-index.index in
    let inside : i < length es = omega arith in
    let none : c.loop-index.inside ≡ 0 = omega arith in
    let less : c.loop-index.outside ≡ suc (c.loop-index.outside - 1) = omega arith in
    let past : length es - i - 1 < c.in_ok-more-2.more + 0 + (c.loop-index.outside - 1) = search (rules, c.in_default-owed.ensures.none) in
    let many : length (drop (i + 1) es) < c.in_ok-more-2.more + (c.loop-index.outside - 1) = omega (arith, length-drop (i + 1) es) in
    top_many es i c.index-elements-index.result (inside, c.index-elements-index.is) _ c.loop-index.owner.now c.loop-index.inside c.loop-index.outside c.loop-index.leaves c.loop-index.invariant.left
    (c.loop-index.outside - 1) c.in_ok-more-2.more c.add_own-then-outside-gt0.new.leaves none less c.in_ok-more-2.ensures many

pub loop-index-preserved : goal.loop-index-preserved
loop-index-preserved c =
    let es = c.args.elements.now in
    let i = c.loop-index.index in
    let inside : i < length es = omega arith in
    elim c.if-inside-gt0.branch [
      | then-inside-gt0+in_ok-more+in-Some w ↦
          let less : c.loop-index.inside ≡ suc (c.loop-index.inside - 1) = omega arith in
          let step = inside_ok es i c.index-elements-index.result (inside, c.index-elements-index.is) _ c.loop-index.owner.now c.loop-index.inside c.loop-index.outside c.loop-index.leaves c.loop-index.invariant.left
          (c.loop-index.inside - 1) w.in_ok-more.more w.in-Some.now w.add_own.new.leaves less w.in_ok-more.ensures w.in-Some.ensures.room.0 in
          record { left = rw (w.leaves-is, w.owner-is, w.inside-is, w.outside-is) step; room = omega (arith, w.in-Some.ensures.room.1) }
      | else-inside-gt0+then-outside-gt0+in_ok-more-2+in-Some-owed w ↦
          let none : c.loop-index.inside ≡ 0 = omega arith in
          let less : c.loop-index.outside ≡ suc (c.loop-index.outside - 1) = omega arith in
          let sum : w.in-Some-owed.now ≡ w.in_ok-more-2.more = omega (arith, w.in-Some-owed.ensures.room.0) in
          let step = top_ok es i c.index-elements-index.result (inside, c.index-elements-index.is) _ c.loop-index.owner.now c.loop-index.inside c.loop-index.outside c.loop-index.leaves c.loop-index.invariant.left
          (c.loop-index.outside - 1) w.in_ok-more-2.more w.in-Some-owed.now w.add_own-then-outside-gt0.new.leaves none less w.in_ok-more-2.ensures sum in
          record { left = rw (w.leaves-is, w.owner-is, w.inside-is, w.outside-is) step; room = omega (arith, w.in-Some-owed.ensures.room.1) }
    ]
