use Rattle.std.proofs.Common.{◌≡◌, ◌∙◌, suc, ◌+◌, map, ap, rules, arith}
use Rattle.ada_expr_parser.specs.readers.Readers.{Found, pure, go_on}
use Rattle.ada_tree.specs.PlainStmt.{plain_body}
use Rattle.ada_tree.specs.PlainDecl.{plain_decl, decls_of, DTaskBody}
use Rattle.ada_tree.proofs.Rows.{rows}
use Rattle.ada_expr_parser.specs.Trees.{from_to}
use Rattle.ada_expr_parser.specs.Gives.{Fails}
use Rattle.ada_expr_parser.proofs.Steps.{fails_go_on}
use Rattle.ada_parser.specs.inner.ReadingDeclarativeParts.{unit_end}
use Rattle.ada_phrase_parser.specs.Views.{told}
use Rattle.ada_parser.proofs.EndSteps.{unit_end_is}
use Rattle.ada_parser.proofs.task_bodies.body_behind.Goals as goal

pub returns-in_err-body-clause-tree : goal.returns-in_err-body-clause-tree
returns-in_err-body-clause-tree c =
    let deeper : suc c.args.depth ≡ c.args.depth + 1 = omega arith in
    let fails : Fails c.in_err-body.field-0.0 (unit_end (told c.args.source.now) (suc c.args.depth) c.args.name (λ b close. DTaskBody c.args.name (decls_of (map plain_decl c.args.objects.items)) b (from_to c.args.lead close)) c.args.items.now) =
    rw (unit_end_is (told c.args.source.now) c.args.name (λ b close. DTaskBody c.args.name (decls_of (map plain_decl c.args.objects.items)) b (from_to c.args.lead close)) (suc c.args.depth) (c.args.depth + 1) c.args.items.now deeper) (fails_go_on _ _ (λ x. pure (DTaskBody c.args.name (decls_of (map plain_decl c.args.objects.items)) x.0 (from_to c.args.lead x.1))) c.in_err-body.ensures.tree) in
    search (rules, fails)

pub returns-clause-tree : goal.returns-clause-tree
returns-clause-tree c =
    let deeper : suc c.args.depth ≡ c.args.depth + 1 = omega arith in
    let tree : unit_end (told c.args.source.now) (suc c.args.depth) c.args.name (λ b close. DTaskBody c.args.name (decls_of (map plain_decl c.args.objects.items)) b (from_to c.args.lead close)) c.args.items.now
    ≡ Found (DTaskBody c.args.name (decls_of (map plain_decl c.args.objects.items)) (plain_body c.in_ok-body.body) (from_to c.args.lead c.in_ok-body.close)) c.in_ok-body.rest.now =
    unit_end_is (told c.args.source.now) c.args.name (λ b close. DTaskBody c.args.name (decls_of (map plain_decl c.args.objects.items)) b (from_to c.args.lead close)) (suc c.args.depth) (c.args.depth + 1) c.args.items.now deeper
    ∙ ap (λ r. go_on r (λ x. pure (DTaskBody c.args.name (decls_of (map plain_decl c.args.objects.items)) x.0 (from_to c.args.lead x.1)))) c.in_ok-body.ensures.tree in
    search (rules, rows, tree)
