use Rattle.std.proofs.Common.{arith, refl, length-drop}
use Rattle.std.proofs.lemmas.List.{take_rest}
use Rattle.sql_lex.specs.Tokens.{tokens}
use Rattle.sql_lex.proofs.Scan.{turn_gap, turn_token}
use Rattle.sql_lex.proofs.lexer.read_tokens_of.Goals as goal

pub pieces-init : goal.pieces-init
unfolding tokens
pieces-init c = (rw c.new-tokens.ensures refl, omega arith)

pub pieces-preserved-then-blank-gt0 : goal.pieces-preserved-then-blank-gt0
pieces-preserved-then-blank-gt0 c =
    let e = rw (take_rest c.args.bytes.now c.pieces.at) at c.gap-blank.ensures.value in
    let w = rw (take_rest c.args.bytes.now c.pieces.at) at c.gap-blank.ensures.within in
    (turn_gap c.args.bytes.now c.pieces.tokens _ c.pieces.at c.pieces.before c.pieces.invariant.0 c.pieces-test.true c.gap-blank.result e c.if-blank-gt0.true w, omega (arith, length-drop c.pieces.at c.args.bytes.now))

pub pieces-preserved : goal.pieces-preserved
pieces-preserved c =
    let e = rw (take_rest c.args.bytes.now c.pieces.at) at c.token-piece.ensures.value in
    let w = rw (take_rest c.args.bytes.now c.pieces.at) at c.token-piece.ensures.within in
    let g = rw (take_rest c.args.bytes.now c.pieces.at) at c.gap-blank.ensures.value in
    let none = rw g at c.if-blank-gt0.false in (
      turn_token c.args.bytes.now c.pieces.tokens _ c.pieces.at c.pieces.before c.pieces.invariant.0 c.pieces-test.true c.token-piece.result c.push.new.self c.after-before.result e none w.0 w.1 c.in_ok-push.ensures.ok c.after-before.ensures,
      omega (arith, length-drop c.pieces.at c.args.bytes.now),
    )
