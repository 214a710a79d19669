use Rattle.std.proofs.Common.{ℕ, [], inl, refl}
use Rattle.debug_outcome.specs.Coming.{Never}
use Rattle.debug_outcome.proofs.Comings.{comes_more}
use Rattle.debug_outcome.specs.words.Words.{AsksLoad}
use Rattle.debug_collect.specs.loads.LoadOutcomes.{LoadMeans}
use Rattle.debug_core.specs.Answers.{CallsFor}
use Rattle.debug_core.proofs.top.carry_out.Goals as goal

pub returns-in-Check : goal.returns-in-Check
returns-in-Check g c = rw c.in-Check.is c.check_command.ensures

pub returns-in-Run : goal.returns-in-Run
returns-in-Run g c = rw c.in-Run.is c.run_command.ensures

pub returns-in-Judge : goal.returns-in-Judge
returns-in-Judge g c = rw c.in-Judge.is c.judge_command.ensures

pub returns-in-Replay : goal.returns-in-Replay
returns-in-Replay g c = rw c.in-Replay.is c.replay_command.ensures

pub returns-in-Require : goal.returns-in-Require
returns-in-Require g c = rw c.in-Require.is c.require_command.ensures

pub returns-in-Migrate : goal.returns-in-Migrate
returns-in-Migrate g c = rw c.in-Migrate.is c.migrate_command.ensures

pub returns-in-Variants : goal.returns-in-Variants
returns-in-Variants g c = rw c.in-Variants.is c.variants_command.ensures

pub returns-in-Continue : goal.returns-in-Continue
returns-in-Continue g c = rw c.in-Continue.is c.continue_command.ensures

pub returns-in-Collect : goal.returns-in-Collect
returns-in-Collect g c = rw c.in-Collect.is c.collect_command.ensures

pub returns-in-CollectRun : goal.returns-in-CollectRun
returns-in-CollectRun g c = rw c.in-CollectRun.is c.collect_run_command.ensures

pub write_load-requires : goal.write_load-requires
write_load-requires g c = c.requires c.in-Load.n c.in-Load.is

-- no file is loaded
pub returns-in-Load : goal.returns-in-Load
returns-in-Load g c = rw c.in-Load.is (record {
  loads = [];
  led = refl;
  is_so = comes_more (LoadMeans c.in-Load.n) (CallsFor (AsksLoad c.in-Load.n) (g.F.Files.told c.args.files.now) (g.F.Files.faults c.args.files.now) (g.F.Files.faults c.args.files.now) []) Never Never _ _ _ _ c.write_load.result
      (λ o means. inl (record { contents = []; loaded = record { are = tt; were = refl }; means = means })) (λ o never. never) c.write_load.ensures;
})
