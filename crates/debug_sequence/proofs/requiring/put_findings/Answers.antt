use Rattle.std.proofs.Common.{◌∙◌, None, get_or, refl}
use Rattle.std.proofs.lemmas.List.{get_or_default}
use Rattle.ded_io.proofs.Members.{wrote_member, wrote_member_stop}
use Rattle.ded_io.proofs.Writes.{wrote_none}
use Rattle.debug_sequence.specs.declared.requiring.Finding.{Finding}
use Rattle.debug_sequence.specs.RequireOutcomes.{finding_line}
use Rattle.debug_sequence.proofs.requiring.put_findings.Goals as goal

-- a finding that stands for none
abbrev no_finding : Finding
no_finding = record { number = 0; broken = None }

pub loop-finding-init : goal.loop-finding-init
loop-finding-init g c = (wrote_none _ _ _ _, refl)

pub loop-finding-preserved : goal.loop-finding-preserved
loop-finding-preserved g c =
    let finding : Finding = get_or c.args.findings.now c.loop-finding.finding-index no_finding in (
      wrote_member _ _ _ _ _ finding_line c.args.findings.now c.loop-finding.finding-index finding _ _ _ (g.K.Sink.told c.args.out.now) (g.K.Sink.told c.loop-finding.out)
          (g.K.Sink.told c.put_finding.new.out) (finding_line finding) c.loop-finding-test.true
          (get_or_default c.args.findings.now c.loop-finding.finding-index no_finding finding c.loop-finding-test.true) c.loop-finding.invariant.0 c.in-Ok.ensures.bytes refl,
      c.in-Ok.ensures.cause ∙ c.loop-finding.invariant.1,
    )

pub returns-in-Err-clause-bytes : goal.returns-in-Err-clause-bytes
returns-in-Err-clause-bytes g c =
    let finding : Finding = get_or c.args.findings.now c.loop-finding.finding-index no_finding in
    wrote_member_stop _ _ _ _ _ _ finding_line c.args.findings.now c.loop-finding.finding-index finding _ c.in-Err.error c.in-Err.error (g.K.Sink.told c.args.out.now) (g.K.Sink.told c.loop-finding.out)
    (g.K.Sink.told c.put_finding.new.out) (finding_line finding) c.loop-finding-test.true
    (get_or_default c.args.findings.now c.loop-finding.finding-index no_finding finding c.loop-finding-test.true) c.loop-finding.invariant.0 c.in-Err.ensures.bytes refl
