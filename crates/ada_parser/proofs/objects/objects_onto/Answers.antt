use Rattle.std.proofs.Common.{sym, ◌∙◌, rules, map}
use Rattle.ada_expr_parser.specs.readers.Readers.{items, fronted}
use Rattle.ada_tree.specs.PlainDecl.{plain_decl}
use Rattle.ada_decl_parser.specs.inner.ReadingDeclarations.{object}
use Rattle.ada_parser.specs.inner.ReadingDeclarativeParts.{begins_object}
use Rattle.ada_expr_parser.specs.Gives.{Fails}
use Rattle.ada_phrase_parser.proofs.Lists.{grown, list_empty, list_over, list_fails, list_goes}
use Rattle.ada_parser.proofs.objects.objects_onto.Goals as goal

pub returns-in_default-clause-tree : goal.returns-in_default-clause-tree
returns-in_default-clause-tree c =
    list_empty (begins_object) (object c.args.depth) (map plain_decl c.objects.list.items) (map plain_decl c.args.list.now.items) c.objects.rest.now c.args.items.now c.objects.invariant c.in_default.len_below

pub returns-then-not-begins_object-clause-tree : goal.returns-then-not-begins_object-clause-tree
returns-then-not-begins_object-clause-tree c =
    list_over (begins_object) (object c.args.depth) (map plain_decl c.objects.list.items) (map plain_decl c.args.list.now.items) c.objects.rest.now c.args.items.now _ c.objects.invariant c.in-len1-up.len_at_least (sym c.begins_object.ensures ∙ c.if-not-begins_object.true)

pub returns-in_err-object-clause-tree : goal.returns-in_err-object-clause-tree
returns-in_err-object-clause-tree c =
    let fails : Fails c.in_err-object.field-0.0 (fronted (map plain_decl c.args.list.now.items) (items (begins_object) (object c.args.depth) c.args.items.now)) =
    list_fails (begins_object) (object c.args.depth) (map plain_decl c.objects.list.items) (map plain_decl c.args.list.now.items) c.objects.rest.now c.args.items.now _ c.in_err-object.field-0.0 c.objects.invariant c.in-len1-up.len_at_least (sym c.begins_object.ensures ∙ c.if-not-begins_object.false) c.in_err-object.ensures.tree in
    search (rules, fails)

pub objects-preserved : goal.objects-preserved
objects-preserved c =
    list_goes (begins_object) (object c.args.depth) (map plain_decl c.objects.list.items) (map plain_decl c.args.list.now.items) c.objects.rest.now c.args.items.now _
    (map plain_decl c.add.new.list.items) (plain_decl c.in_ok-object.object) c.in_ok-object.behind.now (grown plain_decl c.objects.list.items c.add.new.list.items c.in_ok-object.object c.in_ok-add.ensures.added) c.objects.invariant
    c.in-len1-up.len_at_least (sym c.begins_object.ensures ∙ c.if-not-begins_object.false) c.in_ok-object.ensures.tree c.in_ok-object.ensures.shorter
