use Rattle.std.proofs.Common.{◌≡◌, ◌∙◌, ◌||◌, ◌∷◌, true, sym, ap, map, option_map, arith}
use Rattle.ada_tree.specs.PlainExpr.{plain_expr, plain_subind, plain_drange}
use Rattle.ada_tree.specs.PlainStmt.{plain_body}
use Rattle.ada_tree.specs.PlainDecl.{DTaskBody, decl_at, decls_of, plain_decl, plain_shape, plain_init}
use Rattle.ada_tree.proofs.Rows.{rows}
use Rattle.ada_decl_rules.specs.duplicates.NamedSoFar.{with_declared}
use Rattle.ada_decl_rules.proofs.duplicates.Behind.{decl_is, number_behind, object_behind, enumeration_behind, array_behind, subtype_behind, exception_behind, pragma_behind}
use Rattle.common_lemmas.proofs.Results.{on_ok}
use Rattle.ada_decl_rules.proofs.duplicates.named_so_far.Notes.note.Goals as goal

pub returns-in-Number : goal.returns-in-Number
returns-in-Number c =
    on_ok c.note_name.result (λ q. decl_is c.args.self.now c.note_name.new.self c.args.of_tasks _ _ (ap (λ k. decl_at k c.args.decl.now.span) c.in-Number.is)
    (number_behind c.args.self.now c.note_name.new.self c.args.of_tasks c.in-Number.name (plain_expr c.in-Number.value) c.args.decl.now.span q)) c.note_name.ensures

pub returns-in-Object : goal.returns-in-Object
returns-in-Object c =
    on_ok c.note_main_objects.result (λ q. decl_is c.args.self.now c.note_main_objects.new.self c.args.of_tasks _ _ (ap (λ k. decl_at k c.args.decl.now.span) c.in-Object.is)
    (object_behind c.args.self.now c.note_main_objects.new.self c.args.of_tasks c.in-Object.names.items c.in-Object.constant (plain_shape c.in-Object.shape) (option_map plain_init c.in-Object.init) c.args.decl.now.span
    (q ∙ ap (with_declared (c.in-Object.constant || c.args.of_tasks) c.args.self.now) c.deref.ensures.value))) c.note_main_objects.ensures

pub returns-in-Enumeration : goal.returns-in-Enumeration
returns-in-Enumeration c =
    on_ok c.note_enumeration.result (λ q. decl_is c.args.self.now c.note_enumeration.new.self c.args.of_tasks _ _ (ap (λ k. decl_at k c.args.decl.now.span) c.in-Enumeration.is)
    (enumeration_behind c.args.self.now c.note_enumeration.new.self c.args.of_tasks c.in-Enumeration.name c.in-Enumeration.literals.items c.args.decl.now.span
    (q ∙ ap (λ l. with_declared true c.args.self.now (c.in-Enumeration.name ∷ l)) c.deref-in-Enumeration.ensures.value))) c.note_enumeration.ensures

pub returns-in-Array : goal.returns-in-Array
returns-in-Array c =
    on_ok c.note_name-in-Array.result (λ q. decl_is c.args.self.now c.note_name-in-Array.new.self c.args.of_tasks _ _ (ap (λ k. decl_at k c.args.decl.now.span) c.in-Array.is)
    (array_behind c.args.self.now c.note_name-in-Array.new.self c.args.of_tasks c.in-Array.name (plain_drange c.in-Array.index) (plain_subind c.in-Array.part) c.args.decl.now.span q)) c.note_name-in-Array.ensures

pub returns-in-Subtype : goal.returns-in-Subtype
returns-in-Subtype c =
    on_ok c.note_name-in-Subtype.result (λ q. decl_is c.args.self.now c.note_name-in-Subtype.new.self c.args.of_tasks _ _ (ap (λ k. decl_at k c.args.decl.now.span) c.in-Subtype.is)
    (subtype_behind c.args.self.now c.note_name-in-Subtype.new.self c.args.of_tasks c.in-Subtype.name (plain_subind c.in-Subtype.base) c.args.decl.now.span q)) c.note_name-in-Subtype.ensures

pub returns-in-Exception : goal.returns-in-Exception
returns-in-Exception c =
    on_ok c.note_names.result (λ q. decl_is c.args.self.now c.note_names.new.self c.args.of_tasks _ _ (ap (λ k. decl_at k c.args.decl.now.span) c.in-Exception.is)
    (exception_behind c.args.self.now c.note_names.new.self c.args.of_tasks c.in-Exception.names.items c.args.decl.now.span
    (q ∙ ap (with_declared true c.args.self.now) c.deref-in-Exception.ensures.value))) c.note_names.ensures

pub returns-in-Pragma : goal.returns-in-Pragma
returns-in-Pragma c =
    decl_is c.args.self.now c.args.self.now c.args.of_tasks _ _ (ap (λ k. decl_at k c.args.decl.now.span) c.in-Pragma.is)
    (pragma_behind c.args.self.now c.args.of_tasks (plain_expr c.in-Pragma.value) c.args.decl.now.span)

pub returns-in-TaskBody : goal.returns-in-TaskBody
returns-in-TaskBody c =
    let tree : plain_decl c.args.decl.now ≡ DTaskBody c.in-TaskBody.name (decls_of (map plain_decl c.in-TaskBody.objects.items)) (plain_body c.in-TaskBody.body) c.args.decl.now.span = grind (arith, rows) in
    on_ok c.note_task_body.result (λ q. decl_is c.args.self.now c.note_task_body.new.self c.args.of_tasks _ _
    (tree ∙ ap (λ l. DTaskBody c.in-TaskBody.name (decls_of (map plain_decl l)) (plain_body c.in-TaskBody.body) c.args.decl.now.span) (sym c.deref-in-TaskBody.ensures.value)) (q c.args.of_tasks c.args.decl.now.span)) c.note_task_body.ensures
