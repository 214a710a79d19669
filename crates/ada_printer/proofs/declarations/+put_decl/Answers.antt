use Rattle.std.proofs.Common.{◌≡◌, sym, map, option_map, arith}
use Rattle.ada_tree.proofs.Rows.{rows}
use Rattle.ada_tree.specs.PlainExpr.{plain_expr, plain_subind, plain_drange}
use Rattle.ada_tree.specs.PlainStmt.{plain_body}
use Rattle.ada_tree.specs.PlainDecl.{DNumber, DObject, DEnumeration, DArray, DSubtype, DException, DIntIo, DPragma, DTask, DTaskBody, decls_of, plain_shape, plain_init, plain_task, plain_decl}
use Rattle.ada_printer.specs.DeclText.{decl_text}
use Rattle.ded_io.proofs.pages.Drawn.{drew_none}
use Rattle.ada_printer.proofs.Listed.{drew_seen_member, drew_seen_all}
use Rattle.ada_printer.proofs.Declared.{decl_there, task_body_there}
use Rattle.ada_printer.proofs.Rowed.{drew_as, decls_row}
use Rattle.ada_printer.proofs.declarations.+put_decl.Goals as goal

pub put_decl-returns-in-Number : goal.put_decl-returns-in-Number
put_decl-returns-in-Number g t c =
    let is : plain_decl c.args.decl.now ≡ DNumber c.in-Number.name (plain_expr c.in-Number.value) c.args.decl.now.span = grind (arith, rows) in
    decl_there c.args.names.now c.args.level _ _ _ _ _ is c.put_indent.ensures c.put_number_decl.ensures

pub put_decl-returns-in-Object : goal.put_decl-returns-in-Object
put_decl-returns-in-Object g t c =
    let is : plain_decl c.args.decl.now ≡ DObject c.deref.result.now c.in-Object.constant (plain_shape c.in-Object.shape) (option_map plain_init c.in-Object.init) c.args.decl.now.span = grind (arith, rows) in
    decl_there c.args.names.now c.args.level _ _ _ _ _ is c.put_indent.ensures c.put_object.ensures

pub put_decl-returns-in-Enumeration : goal.put_decl-returns-in-Enumeration
put_decl-returns-in-Enumeration g t c =
    let is : plain_decl c.args.decl.now ≡ DEnumeration c.in-Enumeration.name c.deref-in-Enumeration.result.now c.args.decl.now.span = grind (arith, rows) in
    decl_there c.args.names.now c.args.level _ _ _ _ _ is c.put_indent.ensures c.put_enumeration.ensures

pub put_decl-returns-in-Array : goal.put_decl-returns-in-Array
put_decl-returns-in-Array g t c =
    let is : plain_decl c.args.decl.now ≡ DArray c.in-Array.name (plain_drange c.in-Array.index) (plain_subind c.in-Array.part) c.args.decl.now.span = grind (arith, rows) in
    decl_there c.args.names.now c.args.level _ _ _ _ _ is c.put_indent.ensures c.put_array_decl.ensures

pub put_decl-returns-in-Subtype : goal.put_decl-returns-in-Subtype
put_decl-returns-in-Subtype g t c =
    let is : plain_decl c.args.decl.now ≡ DSubtype c.in-Subtype.name (plain_subind c.in-Subtype.base) c.args.decl.now.span = grind (arith, rows) in
    decl_there c.args.names.now c.args.level _ _ _ _ _ is c.put_indent.ensures c.put_subtype.ensures

pub put_decl-returns-in-Exception : goal.put_decl-returns-in-Exception
put_decl-returns-in-Exception g t c =
    let is : plain_decl c.args.decl.now ≡ DException c.deref-in-Exception.result.now c.args.decl.now.span = grind (arith, rows) in
    decl_there c.args.names.now c.args.level _ _ _ _ _ is c.put_indent.ensures c.put_exceptions.ensures

pub put_decl-returns-in-IntIo : goal.put_decl-returns-in-IntIo
put_decl-returns-in-IntIo g t c =
    let is : plain_decl c.args.decl.now ≡ DIntIo c.in-IntIo.name c.args.decl.now.span = grind (arith, rows) in
    decl_there c.args.names.now c.args.level _ _ _ _ _ is c.put_indent.ensures c.put_instance.ensures

pub put_decl-returns-in-Pragma : goal.put_decl-returns-in-Pragma
put_decl-returns-in-Pragma g t c =
    let is : plain_decl c.args.decl.now ≡ DPragma (plain_expr c.in-Pragma.value) c.args.decl.now.span = grind (arith, rows) in
    decl_there c.args.names.now c.args.level _ _ _ _ _ is c.put_indent.ensures c.put_pragma.ensures

pub put_decl-returns-in-Task : goal.put_decl-returns-in-Task
put_decl-returns-in-Task g t c =
    let is : plain_decl c.args.decl.now ≡ DTask (plain_task c.in-Task.task) c.args.decl.now.span = grind (arith, rows) in
    decl_there c.args.names.now c.args.level _ _ _ _ _ is c.put_indent.ensures c.put_task.ensures

pub put_decl-returns-in-TaskBody : goal.put_decl-returns-in-TaskBody
put_decl-returns-in-TaskBody g t c =
    let is : plain_decl c.args.decl.now ≡ DTaskBody c.in-TaskBody.name (decls_of (map plain_decl c.deref-in-TaskBody.result.now)) (plain_body c.in-TaskBody.body) c.args.decl.now.span = grind (arith, rows) in
    task_body_there c.args.names.now c.args.level _ _ _ _ _ _ _ _ _ _ _ c.deeper.ensures is c.put_indent.ensures c.put_task_body_line.ensures c.put_decls.ensures c.put_unit.ensures

pub put_decls-loop-decl-preserved : goal.put_decls-loop-decl-preserved
put_decls-loop-decl-preserved g t c =
    drew_seen_member _ _ plain_decl (decl_text c.args.names.now c.args.level) c.args.decls.now c.loop-decl.decl-index c.decl-item.result _ _ _ c.loop-decl-test.true c.decl-item.is c.loop-decl.invariant c.put_decl.ensures

pub put_decls-returns : goal.put_decls-returns
put_decls-returns g t c =
    drew_as _ _ _ _ (sym (decls_row c.args.names.now c.args.level (map plain_decl c.args.decls.now)))
    (drew_seen_all _ _ plain_decl (decl_text c.args.names.now c.args.level) c.args.decls.now _ _ _ c.loop-decl-test.false c.loop-decl.invariant)

pub put_decls-loop-decl-init : goal.put_decls-loop-decl-init
put_decls-loop-decl-init g t c = drew_none _
