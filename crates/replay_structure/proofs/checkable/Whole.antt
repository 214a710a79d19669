-- The normal form of a program that is prepared is as its replay text asks.
use Rattle.std.proofs.Common.{ℕ, ◌+◌, ◌*◌, ◌≤◌, length, subst, sym, arith}
use Rattle.ada_tree.specs.Attributes.{false_name}
use Rattle.ada_tree.specs.TypeTable.{TypeTable}
use Rattle.ada_static_rules.specs.Refusals.{types_in}
use Rattle.syn_event.specs.declared.numbering.Mode.TheVariants.{Original}
use Rattle.syn_event.specs.AllNumbers.{all_numbers}
use Rattle.syn_event.specs.CheckSites as check
use Rattle.syn_event.specs.Numbering.{Numbering, owner_of}
use Rattle.task_laws.specs.legal.sites.Met.{IsCheckMet}
use Rattle.task_laws.proofs.legal.sites.Meeting.{all_check_met}
use Rattle.normal_laws.proofs.structure.types.Normal.{normal_agrees}
use Rattle.replay_model.specs.ReplayTree.{script_of}
use Rattle.replay_structure.proofs.texts.Rooted.{replay_agrees}
use Rattle.replay_structure.proofs.placed.Scripted.{script-few}
use Rattle.replay_structure.proofs.checked.Whole.{replay_meets_checks}
use Rattle.replay_structure.specs.checkable.Prepared.{form_for}
use Rattle.replay_structure.specs.checkable.Laws.{NormalIsCheckable, ReplayTextMeets}
use Rattle.replay_structure.proofs.checkable.Form.{main-form, decls-form}
use Rattle.normal_laws.proofs.structure.numbers.Numbered.{normal-single}
use Rattle.replay_structure.proofs.checkable.Sorted.{normal-sorted}
use Rattle.replay_structure.proofs.checkable.KeptNames.{own-kept}
use Rattle.replay_structure.proofs.checkable.Ranges.{ranges-same}
use Rattle.replay_structure.proofs.checkable.Tasks.{normal-short, last-number}
use Rattle.common_lemmas.proofs.Lists.{all_first}

pub normal_is_checkable : NormalIsCheckable
normal_is_checkable p events h =
    let T : TypeTable = types_in p in
    let N : Numbering = all_numbers T p in
    let few : length (script_of N events) ≤ 3 * length events + length N.tasks + 1 = script-few (owner_of N) (length N.tasks) events in
    record {
      main = own-kept p T N p.name.name.0 h.main;
      declared = h.declared;
      named = h.named;
      truth = own-kept p T N false_name h.truth;
      untrue = h.untrue;
      sorted = normal-sorted p T N;
      single = normal-single p T N;
      form = main-form p T N h.checks;
      forms = decls-form p T N h.checks;
      ranges = ranges-same p T N _ _ (normal_agrees p T N h.ordered) (replay_agrees p T N events h.ordered h.own) h.own;
      few_tasks = h.few_tasks;
      few_entries = h.few_entries;
      few_numbers = subst (λ k. k ≤ 200) (sym (last-number p T N)) h.few_tasks;
      short =
          normal-short p T N h.own
          (all_first (IsCheckMet Original p.names) (check.decls_sites (check.around_program p) (check.body_names p.decls) p.decls) (check.body_sites (check.after_decls (check.around_program p) p.decls) 1 p.body) (check.counted_sites (check.around_program p) p) (all_check_met p Original h.checks).1);
      few_ops = omega (arith, few, h.few_events, h.few_numbered);
      joined = h.apart;
    }

pub replay_text_meets : ReplayTextMeets
replay_text_meets p events h m = replay_meets_checks (form_for p) (script_of (all_numbers (types_in p) p) events) (normal_is_checkable p events h) m
