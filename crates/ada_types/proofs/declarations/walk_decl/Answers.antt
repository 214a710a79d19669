use Rattle.std.proofs.Common.{◌≡◌, ◌∷◌, ◌∙◌, [], sym, ap, arith, true, map, option_map}
use Rattle.ada_tree.specs.PlainStmt.{plain_body}
use Rattle.ada_tree.specs.PlainDecl.{DTaskBody, decls_of, plain_decl, plain_shape, plain_init}
use Rattle.ada_static_rules.specs.Scope.{AnException}
use Rattle.ada_static_rules.specs.Declaring.{with_names, after_object, after_enumeration, declared_object}
use Rattle.ada_static_rules.specs.Sites.{names_sites, object_sites}
use Rattle.ada_tree.proofs.Rows.{rows}
use Rattle.ada_static_rules.specs.RefusedFirst.{refused_first}
use Rattle.ada_types.specs.declared.walked_decls.WalkedDecl.{WalkedDecl}
use Rattle.ada_static_rules.proofs.Meeting.{names_met}
use Rattle.ada_types.proofs.TaskDecls.{instance_met}
use Rattle.ada_types.proofs.Following.{of_kind, of_plain}
use Rattle.common_lemmas.proofs.Results.{if_ok}
use Rattle.ada_types.proofs.declarations.walk_decl.Goals as goal

pub returns-in_ok-walked-in-Object : goal.returns-in_ok-walked-in-Object
returns-in_ok-walked-in-Object c =
    let scope = c.args.scope in
    let constant = c.in-Object.constant in
    let shape = plain_shape c.in-Object.shape in
    let init = option_map plain_init c.in-Object.init in
    of_kind scope c.args.decl.now _ _ c.in-Object.is record {
      scope_is = c.in_ok-walked-in-Object.ensures.scope ∙ ap (λ ws. after_object scope ws constant shape init) c.deref.ensures.value;
      refusal_is = c.in_ok-walked-in-Object.ensures.refusal ∙ ap (λ ws. refused_first (object_sites scope ws constant shape init (declared_object scope constant shape))) c.deref.ensures.value;
      of_tasks_is = c.in_ok-walked-in-Object.ensures.is_task;
    }

pub returns-in_ok-scope-in-Enumeration : goal.returns-in_ok-scope-in-Enumeration
returns-in_ok-scope-in-Enumeration c =
    let scope = c.args.scope in
    let name = c.in-Enumeration.name in
    of_kind scope c.args.decl.now _ _ c.in-Enumeration.is record {
      scope_is = ap (λ (w : WalkedDecl). w.scope) c.behind.ensures ∙ c.in_ok-scope-in-Enumeration.ensures ∙ ap (after_enumeration scope name) c.deref-in-Enumeration.ensures.value;
      refusal_is = ap (λ (w : WalkedDecl). w.refusal) c.behind.ensures ∙ names_met true scope (name ∷ c.in-Enumeration.literals.items);
      of_tasks_is = ap (λ (w : WalkedDecl). w.of_tasks) c.behind.ensures;
    }

pub returns-in-Array : goal.returns-in-Array
returns-in-Array c = if_ok c.walk_array_type.result (λ w h. of_kind c.args.scope c.args.decl.now _ w c.in-Array.is h) c.walk_array_type.ensures

pub returns-in-Subtype : goal.returns-in-Subtype
returns-in-Subtype c = if_ok c.walk_subtype.result (λ w h. of_kind c.args.scope c.args.decl.now _ w c.in-Subtype.is h) c.walk_subtype.ensures

pub returns-in_ok-declare_exceptions-in-Exception : goal.returns-in_ok-declare_exceptions-in-Exception
returns-in_ok-declare_exceptions-in-Exception c =
    let scope = c.args.scope in
    of_kind scope c.args.decl.now _ _ c.in-Exception.is record {
      scope_is = ap (λ (w : WalkedDecl). w.scope) c.behind-in-Exception.ensures ∙ c.in_ok-declare_exceptions-in-Exception.ensures ∙ ap (with_names AnException scope) c.deref-in-Exception.ensures.value;
      refusal_is = ap (λ (w : WalkedDecl). w.refusal) c.behind-in-Exception.ensures ∙ names_met true scope c.in-Exception.names.items;
      of_tasks_is = ap (λ (w : WalkedDecl). w.of_tasks) c.behind-in-Exception.ensures;
    }

pub returns-in_ok-declare_instance-in-IntIo : goal.returns-in_ok-declare_instance-in-IntIo
returns-in_ok-declare_instance-in-IntIo c =
    let scope = c.args.scope in
    let name = c.in-IntIo.name in
    of_kind scope c.args.decl.now _ _ c.in-IntIo.is record {
      scope_is = ap (λ (w : WalkedDecl). w.scope) c.behind-in-IntIo.ensures ∙ c.in_ok-declare_instance-in-IntIo.ensures;
      refusal_is = ap (λ (w : WalkedDecl). w.refusal) c.behind-in-IntIo.ensures ∙ instance_met scope name _ (names_sites true scope (name ∷ [])) (names_met true scope (name ∷ []));
      of_tasks_is = ap (λ (w : WalkedDecl). w.of_tasks) c.behind-in-IntIo.ensures;
    }

pub returns-in-TaskBody : goal.returns-in-TaskBody
returns-in-TaskBody c =
    let decl = c.args.decl.now in
    let tree : plain_decl decl ≡ DTaskBody c.in-TaskBody.name (decls_of (map plain_decl c.in-TaskBody.objects.items)) (plain_body c.in-TaskBody.body) decl.span = grind (arith, rows) in
    let same = tree ∙ ap (λ l. DTaskBody c.in-TaskBody.name (decls_of (map plain_decl l)) (plain_body c.in-TaskBody.body) decl.span) (sym c.deref-in-TaskBody.ensures.value) in
    if_ok c.walk_task_body.result (λ w h. of_plain c.args.scope decl _ w same h) c.walk_task_body.ensures
