use Rattle.std.proofs.Common.{ap, map, sym, subst}
use Rattle.ada_tree.specs.PlainProgram.{plain_program}
use Rattle.syn_event.specs.declared.numbering.Mode.TheVariants.{Original}
use Rattle.syn_event.specs.Legal.{Legal}
use Rattle.normal_laws.specs.existence.Laws.{IsLegalOriginal}
use Rattle.debug_collect.proofs.loads.Collecting.{of_load, was_collected, was_not_refused}
use Rattle.debug_collect.proofs.loads.Original.{load_is_legal, load_is_original}
use Rattle.debug_collect.specs.loads.inner.Gathered.{Gathered}
use Rattle.debug_collect.proofs.loads.recording.collect_load.Goals as goal

pub write_recorded-requires-clause-legal : goal.write_recorded-requires-clause-legal
write_recorded-requires-clause-legal c = subst IsLegalOriginal (sym c.requires.is_load) (load_is_original c.args.n c.requires.few)

pub write_recorded-requires-clause-own : goal.write_recorded-requires-clause-own
write_recorded-requires-clause-own c =
    of_load c.args.n (plain_program c.args.program.now) c.args.types.now c.args.numbers.now c.requires (λ q t m. Legal q t m Original) (load_is_legal c.args.n c.requires.few)

pub returns-in-Ok : goal.returns-in-Ok
returns-in-Ok c =
    was_collected c.args.n (plain_program c.args.program.now) c.args.types.now c.args.numbers.now c.requires _ (ap (map (λ v. v.items)) c.new.ensures.items)
    c.new-choices.result c.new-choices.ensures c.most_turns.result c.most_turns.ensures record { file = c.write_recorded.new.out; status = c.in-Ok.status } c.new-file.result.bytes _ _
    (ap (λ (g : Gathered). g.bytes) c.new-file.ensures) c.in-Ok.ensures

pub unreachable-requires : goal.unreachable-requires
unreachable-requires c =
    was_not_refused c.args.n (plain_program c.args.program.now) c.args.types.now c.args.numbers.now c.requires _ (ap (map (λ v. v.items)) c.new.ensures.items)
    c.new-choices.result c.new-choices.ensures c.most_turns.result c.most_turns.ensures c.in-Err-Refused.field-0 c.in-Err-Refused.field-0-0 c.in-Err-Refused.field-0-is _ _ _ _ c.in-Err-Refused.ensures
