use Rattle.std.proofs.Common.{List, map, sym, ap, ◌∙◌}
use Rattle.ada_tree.specs.declared.declarations.Decl.{Decl}
use Rattle.ada_tree.specs.PlainDecl.{decls_of, plain_decl}
use Rattle.ada_tree.specs.PlainProgram.{plain_program}
use Rattle.syn_event.specs.Numbering.{Numbering}
use Rattle.normal_form.proofs.Numbering.{numbers_are}
use Rattle.normal_form.proofs.numbers.normal_numbers.Goals as goal

pub returns : goal.returns
returns c =
    numbers_are (plain_program c.args.q.now) c.args.numbers.now (record { main = c.numbers.inside.main; tasks = c.in_ok-tasks.tasks.items; entries = c.in_ok-entries.entries.items }) (map plain_decl c.deref.result.now)
    (ap (λ (l : List Decl). decls_of (map plain_decl l)) (sym c.deref.ensures.value)) (ap (λ (n : Numbering). n.main) c.numbers.view_is) c.in_ok-tasks.ensures (c.in_ok-entries.ensures.items ∙ c.deref-2.ensures.value ∙ ap (λ (n : Numbering). n.entries) c.numbers.view_is)
