use Rattle.std.proofs.Common.{subst, sym}
use Rattle.std.specs.Prelude.{◌+◌}
use Rattle.ada_lexer.proofs.Unique.{splits-unique, split-has_no_fault}
use Rattle.ada_lexer.proofs.Slices.{splits-slices, splits-order}
use Rattle.ada_lexer.proofs.Steps.{IsReadTo, read_all, turn-sound, turn-fault, turn-nothing, error-only_split, error-only_fault}
use Rattle.ada_lexer.proofs.lexing.tokens.Goals as goal

-- the loop has come to the end: the tokens found are those of the text
pub returns-clause-split : goal.returns-clause-split
returns-clause-split c =
    read_all c.args.src.now c.loop-at.at c.loop-at.found.items c.loop-at-test.false c.loop-at.invariant

pub returns-clause-slices : goal.returns-clause-slices
returns-clause-slices c =
    splits-slices c.args.src.now c.loop-at.found.items (read_all c.args.src.now c.loop-at.at c.loop-at.found.items c.loop-at-test.false c.loop-at.invariant)

pub returns-clause-order : goal.returns-clause-order
returns-clause-order c =
    splits-order c.args.src.now c.loop-at.found.items (read_all c.args.src.now c.loop-at.at c.loop-at.found.items c.loop-at-test.false c.loop-at.invariant)

pub returns-clause-only_split : goal.returns-clause-only_split
returns-clause-only_split c wanted h =
    splits-unique c.args.src.now _ wanted (read_all c.args.src.now c.loop-at.at c.loop-at.found.items c.loop-at-test.false c.loop-at.invariant) h

pub returns-clause-only_fault : goal.returns-clause-only_fault
returns-clause-only_fault c fault h =
    split-has_no_fault c.args.src.now _ fault (read_all c.args.src.now c.loop-at.at c.loop-at.found.items c.loop-at-test.false c.loop-at.invariant) h

-- a sound piece more
pub loop-at-preserved : goal.loop-at-preserved
loop-at-preserved c =
    let src = c.args.src.now in
    let at = c.loop-at.at in
    let len = c.piece_len-len.result in
    let next = turn-sound src c.behind-rest.result.now c.front.result.now at len c.loop-at.found.items c.verdict_of-piece.result c.behind-rest.ensures c.piece_len-len.ensures c.if-len-eq0.false c.front.ensures c.verdict_of-piece.ensures c.in_default.ensures.sound c.loop-at.invariant in
    subst (IsReadTo src (at + len)) (sym c.in_default.ensures.added) next

-- no piece begins here
pub returns-then-len-eq0-clause-only_split : goal.returns-then-len-eq0-clause-only_split
returns-then-len-eq0-clause-only_split c =
    error-only_split c.args.src.now _ (λ ne. turn-nothing c.args.src.now c.behind-rest.result.now c.loop-at.at c.piece_len-len.result c.loop-at.found.items c.behind-rest.ensures c.piece_len-len.ensures c.if-len-eq0.true c.loop-at.invariant)

pub returns-then-len-eq0-clause-only_fault : goal.returns-then-len-eq0-clause-only_fault
returns-then-len-eq0-clause-only_fault c =
    error-only_fault c.args.src.now _ (λ ne. turn-nothing c.args.src.now c.behind-rest.result.now c.loop-at.at c.piece_len-len.result c.loop-at.found.items c.behind-rest.ensures c.piece_len-len.ensures c.if-len-eq0.true c.loop-at.invariant)

-- the piece here has a fault
pub returns-in-Err-clause-first_fault : goal.returns-in-Err-clause-first_fault
returns-in-Err-clause-first_fault c ne =
    turn-fault c.args.src.now c.behind-rest.result.now c.front.result.now c.loop-at.at c.piece_len-len.result c.loop-at.found.items c.verdict_of-piece.result c.in-Err.error c.behind-rest.ensures c.piece_len-len.ensures c.if-len-eq0.false c.front.ensures c.verdict_of-piece.ensures (c.in-Err.ensures.fault ne) c.loop-at.invariant

pub returns-in-Err-clause-only_split : goal.returns-in-Err-clause-only_split
returns-in-Err-clause-only_split c =
    error-only_split c.args.src.now c.in-Err.error (λ ne. turn-fault c.args.src.now c.behind-rest.result.now c.front.result.now c.loop-at.at c.piece_len-len.result c.loop-at.found.items c.verdict_of-piece.result c.in-Err.error c.behind-rest.ensures c.piece_len-len.ensures c.if-len-eq0.false c.front.ensures c.verdict_of-piece.ensures (c.in-Err.ensures.fault ne) c.loop-at.invariant)

pub returns-in-Err-clause-only_fault : goal.returns-in-Err-clause-only_fault
returns-in-Err-clause-only_fault c =
    error-only_fault c.args.src.now c.in-Err.error (λ ne. turn-fault c.args.src.now c.behind-rest.result.now c.front.result.now c.loop-at.at c.piece_len-len.result c.loop-at.found.items c.verdict_of-piece.result c.in-Err.error c.behind-rest.ensures c.piece_len-len.ensures c.if-len-eq0.false c.front.ensures c.verdict_of-piece.ensures (c.in-Err.ensures.fault ne) c.loop-at.invariant)
