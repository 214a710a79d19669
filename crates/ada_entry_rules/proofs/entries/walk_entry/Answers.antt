use Rattle.std.proofs.Common.{◌∙◌, ap, [], map}
use Rattle.ada_tree.specs.PlainStmt.{plain_formal}
use Rattle.ada_tree.specs.PlainDecl as decl
use Rattle.ada_static_rules.specs.Declaring.{formal_parts}
use Rattle.ada_static_rules.specs.Sites.{formals_sites}
use Rattle.ada_static_rules.specs.RefusedFirst.{refused_first}
use Rattle.ada_entry_rules.proofs.EntryDecls.{entry_met, entry_is}
use Rattle.ada_entry_rules.proofs.entries.walk_entry.Goals as goal

pub returns : goal.returns
returns c =
    let scope = c.args.scope.now in
    let entry = decl.plain_entry c.args.entry.now in
    record {
      part_is = entry_is scope entry _ _ c.walk_family-walked.ensures.family_is (c.in_ok-parts.ensures ∙ ap (λ xs. formal_parts scope (map plain_formal xs)) c.deref-2.ensures.value);
      refusal_is = c.first.ensures ∙ entry_met scope [] entry _ _ c.walk_family-walked.ensures.refusal_is (c.walk_formals-formals.ensures ∙ ap (λ xs. refused_first (formals_sites scope (map plain_formal xs))) c.deref.ensures.value);
    }
