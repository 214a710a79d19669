use Rattle.std.proofs.Common.{List, ℕ, inl, subst}
use Rattle.ada_tree.specs.PlainProgram.{PProgram, plain_program}
use Rattle.syn_event.specs.declared.numbering.Mode.TheVariants.{Original}
use Rattle.debug_outcome.specs.Coming.{Comes, Never}
use Rattle.debug_outcome.proofs.Comings.{comes_more}
use Rattle.debug_collect.specs.replays.ReplayOutcomes.{ReplaysLines}
use Rattle.debug_core.specs.LegalTexts.{IsLegalText}
use Rattle.debug_core.specs.ReplayMeaning.{ReplayMeans}
use Rattle.debug_core.proofs.Originals.{read_is_original, text_is_upper}
use Rattle.debug_core.proofs.replay_command.replay_files.Goals as goal

pub write_replay-requires-clause-legal : goal.write_replay-requires-clause-legal
write_replay-requires-clause-legal g c =
    let p : PProgram = plain_program c.in-Ok.legal.program in
    let legal : IsLegalText c.args.found.now.text.items Original p c.in-Ok.legal.types c.in-Ok.legal.numbers = subst (λ (text : List ℕ). IsLegalText text Original p c.in-Ok.legal.types c.in-Ok.legal.numbers) c.as_slice.ensures.value c.in-Ok.ensures.program in
    read_is_original c.args.found.now.text.items p c.in-Ok.legal.types c.in-Ok.legal.numbers c.requires.0 legal

pub write_replay-requires-clause-own : goal.write_replay-requires-clause-own
write_replay-requires-clause-own g c =
    let p : PProgram = plain_program c.in-Ok.legal.program in
    let legal : IsLegalText _ Original p c.in-Ok.legal.types c.in-Ok.legal.numbers = c.in-Ok.ensures.program in
    legal.legal

pub write_replay-requires-clause-name : goal.write_replay-requires-clause-name
write_replay-requires-clause-name g c = text_is_upper _ (plain_program c.in-Ok.legal.program) c.in-Ok.legal.types c.in-Ok.legal.numbers c.in-Ok.ensures.program

pub returns-in-Ok : goal.returns-in-Ok
returns-in-Ok g c =
    let p : PProgram = plain_program c.in-Ok.legal.program in
    let legal : IsLegalText c.args.found.now.text.items Original p c.in-Ok.legal.types c.in-Ok.legal.numbers = subst (λ (text : List ℕ). IsLegalText text Original p c.in-Ok.legal.types c.in-Ok.legal.numbers) c.as_slice.ensures.value c.in-Ok.ensures.program in
    comes_more (ReplaysLines p c.in-Ok.legal.types c.in-Ok.legal.numbers c.args.found.now.sequence.items) (ReplayMeans c.args.found.now.text.items c.args.found.now.sequence.items) Never Never (g.O.Sink.told c.args.out.now) (g.O.Sink.told c.write_replay.new.out) (g.O.Sink.faults c.args.out.now) (g.O.Sink.faults c.write_replay.new.out) c.write_replay.result
    (λ o replayed. inl (record { program = p; types = c.in-Ok.legal.types; numbers = c.in-Ok.legal.numbers; is_legal = legal; replayed = replayed })) (λ o never. never)
    (subst (λ (lines : List ℕ). Comes (ReplaysLines p c.in-Ok.legal.types c.in-Ok.legal.numbers lines) Never (g.O.Sink.told c.args.out.now) (g.O.Sink.told c.write_replay.new.out) (g.O.Sink.faults c.args.out.now) (g.O.Sink.faults c.write_replay.new.out) c.write_replay.result)
    c.as_slice-in-Ok.ensures.value c.write_replay.ensures)
