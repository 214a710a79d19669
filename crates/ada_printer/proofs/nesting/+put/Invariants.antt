use Rattle.std.proofs.Common.{take, map}
use Rattle.ded_io.specs.Written.{each_text}
use Rattle.ada_tree.specs.PlainStmt.{plain_stmt, plain_alt, plain_arm, plain_case_arm, plain_handler}
use Rattle.ada_printer.specs.StmtText.{stmt_text, later_alt_text, later_arm_text, case_arm_text, handler_text}
use Rattle.ded_io.specs.pages.Pages.{Drew, over}
use Rattle.ada_printer.proofs.nesting.+put.Given as goal

abbrev pub invariant-put_stmts-loop-stmt : goal.invariant-put_stmts-loop-stmt
invariant-put_stmts-loop-stmt g l =
    Drew (over l.initial.page (g.K.Sink.told l.initial.out) (g.K.Sink.faults l.initial.out)) (over l.page (g.K.Sink.told l.out) (g.K.Sink.faults l.out))
    (each_text (stmt_text l.names l.level) (map plain_stmt (take l.stmt-index l.stmts)))

abbrev pub invariant-put_alts-loop-alt : goal.invariant-put_alts-loop-alt
invariant-put_alts-loop-alt g l =
    Drew (over l.initial.page (g.K.Sink.told l.initial.out) (g.K.Sink.faults l.initial.out)) (over l.page (g.K.Sink.told l.out) (g.K.Sink.faults l.out))
    (each_text (later_alt_text l.names l.level) (map plain_alt (take l.alt-index l.rest)))

abbrev pub invariant-put_arms-loop-arm : goal.invariant-put_arms-loop-arm
invariant-put_arms-loop-arm g l =
    Drew (over l.initial.page (g.K.Sink.told l.initial.out) (g.K.Sink.faults l.initial.out)) (over l.page (g.K.Sink.told l.out) (g.K.Sink.faults l.out))
    (each_text (later_arm_text l.names l.level) (map plain_arm (take l.arm-index l.rest)))

abbrev pub invariant-put_case_arms-loop-arm : goal.invariant-put_case_arms-loop-arm
invariant-put_case_arms-loop-arm g l =
    Drew (over l.initial.page (g.K.Sink.told l.initial.out) (g.K.Sink.faults l.initial.out)) (over l.page (g.K.Sink.told l.out) (g.K.Sink.faults l.out))
    (each_text (case_arm_text l.names l.level) (map plain_case_arm (take l.arm-index l.arms)))

abbrev pub invariant-put_handlers-loop-handler : goal.invariant-put_handlers-loop-handler
invariant-put_handlers-loop-handler g l =
    Drew (over l.initial.page (g.K.Sink.told l.initial.out) (g.K.Sink.faults l.initial.out)) (over l.page (g.K.Sink.told l.out) (g.K.Sink.faults l.out))
    (each_text (handler_text l.names l.level) (map plain_handler (take l.handler-index l.handlers)))
