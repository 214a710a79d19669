use Rattle.std.proofs.Common.{None, fold, map, sym, ap, ◌∙◌}
use Rattle.ada_tree.specs.PlainStmt.{plain_body}
use Rattle.ada_tree.specs.PlainDecl.{plain_decl}
use Rattle.syn_event.proofs.DeclLists.{listed_back}
use Rattle.normal_model.specs.Walk.{after_body}
use Rattle.collect_model.specs.FirstAbort.{abort_finder, with_decl}
use Rattle.collect_xform.proofs.aborts.first_abort.Goals as goal

pub returns : goal.returns
returns c =
    c.behind_body.ensures
    ∙ ap (λ found. after_body abort_finder (plain_body c.args.p.now.body) found)
    (c.behind_decls.ensures
    ∙ ap (λ ds. fold with_decl None (map plain_decl ds)) c.deref.ensures.value
    ∙ ap (λ ds. fold with_decl None ds) (sym (listed_back (map plain_decl c.args.p.now.decls.items))))
