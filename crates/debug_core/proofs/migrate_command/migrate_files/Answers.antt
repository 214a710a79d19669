use Rattle.std.proofs.Common.{List, ℕ, inl, subst}
use Rattle.ada_tree.specs.PlainProgram.{PProgram, plain_program}
use Rattle.syn_event.specs.declared.numbering.Mode.TheVariants.{Original}
use Rattle.debug_outcome.specs.Coming.{Comes, Never}
use Rattle.debug_outcome.proofs.Comings.{comes_more}
use Rattle.debug_sequence.specs.MigrateOutcomes.{Migrates}
use Rattle.debug_core.specs.LegalTexts.{IsLegalText}
use Rattle.debug_core.specs.MigrateMeaning.{MigrateMeans}
use Rattle.debug_core.proofs.Originals.{text_is_upper, text_has_lists}
use Rattle.debug_core.proofs.migrate_command.migrate_files.Goals as goal

pub migrate-requires-clause-name : goal.migrate-requires-clause-name
migrate-requires-clause-name g c = text_is_upper _ (plain_program c.in-Ok.legal.program) c.in-Ok.legal.types c.in-Ok.legal.numbers c.in-Ok.ensures.program

pub migrate-requires-clause-tasks : goal.migrate-requires-clause-tasks
migrate-requires-clause-tasks g c = text_has_lists _ (plain_program c.in-Ok.legal.program) c.in-Ok.legal.types c.in-Ok.legal.numbers c.in-Ok.ensures.program

pub returns-in-Ok : goal.returns-in-Ok
returns-in-Ok g c =
    let p : PProgram = plain_program c.in-Ok.legal.program in
    let text : List ℕ = c.args.found.now.text.items in
    let lines : List ℕ = c.args.found.now.sequence.items in
    let legal : IsLegalText text Original p c.in-Ok.legal.types c.in-Ok.legal.numbers = subst (λ (t : List ℕ). IsLegalText t Original p c.in-Ok.legal.types c.in-Ok.legal.numbers) c.as_slice.ensures.value c.in-Ok.ensures.program in
    comes_more (Migrates p.names c.in-Ok.legal.numbers lines) (MigrateMeans text lines) Never Never (g.O.Sink.told c.args.out.now) (g.O.Sink.told c.migrate.new.out) (g.O.Sink.faults c.args.out.now) (g.O.Sink.faults c.migrate.new.out) c.migrate.result
    (λ o migrated. inl (record { program = p; types = c.in-Ok.legal.types; numbers = c.in-Ok.legal.numbers; is_legal = legal; migrated = migrated })) (λ o never. never)
    (subst (λ (l : List ℕ). Comes (Migrates p.names c.in-Ok.legal.numbers l) Never (g.O.Sink.told c.args.out.now) (g.O.Sink.told c.migrate.new.out) (g.O.Sink.faults c.args.out.now) (g.O.Sink.faults c.migrate.new.out) c.migrate.result)
    c.as_slice-in-Ok.ensures.value c.migrate.ensures)
