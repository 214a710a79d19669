-- What stays in the collecting text meets the rules 13 to 23 there, where it does in the normal form, also deeper.
use Rattle.std.proofs.Common.{ℕ, ◌≤◌}
use Rattle.std.specs.List.{AllByRecursion}
use Rattle.ada_tree.specs.PlainStmt.{PCallee, PHead}
use Rattle.ada_tree.specs.PlainProgram.{PProgram}
use Rattle.ada_tree.specs.Every.{EveryCallee, EveryHead}
use Rattle.syn_event.specs.declared.numbering.Mode.TheVariants.{Any}
use Rattle.syn_event.specs.CheckScope.{CheckScope, CheckSite}
use Rattle.syn_event.specs.CheckSites as check
use Rattle.task_laws.specs.legal.sites.Met.{IsCheckMet}
use Rattle.normal_laws.proofs.structure.checked.Parts.{NamesStay, Stay, StayOut, StayIn}
use Rattle.normal_laws.proofs.structure.checked.Parts as parts
use Rattle.normal_laws.proofs.structure.checked.Kept.{Deeper, Beside}
use Rattle.normal_laws.proofs.structure.checked.Kept as kept
use Rattle.collect_model.specs.Names.{collect_names}
use Rattle.collect_structure.specs.Names.{kept_name, kept_names}
use Rattle.collect_structure.specs.checked.Around.{IsTelling}
use Rattle.collect_structure.proofs.checked.Names.{kept-text}
use Rattle.replay_structure.proofs.checked.Stays.{IsFormMet}

-- At a place of the text none of the rules refuses anything.

abbrev pub IsTextMet : PProgram → CheckSite → Type 0
IsTextMet q x = IsCheckMet Any (collect_names q) x

module _ (q : PProgram) (c d : CheckScope) where
  -- a kept name that is no shared variable in the normal form is none in the text
  abbrev pub UsesStay : Type 0
  UsesStay = kept.UsesStay (kept_name q) c d

  pub name-stays : NamesStay (kept_names q) (IsFormMet q) (IsTextMet q) c d
  name-stays w h m = kept.name-stays q.names (collect_names q) (kept_name q) (kept-text q) c d w h m

  pub stay : UsesStay → Stay (kept_names q) (IsFormMet q) (IsTextMet q) Deeper c d
  stay shown = kept.stay q.names (collect_names q) (kept_name q) (kept-text q) c d shown

  pub stay-out : UsesStay → StayOut (kept_names q) (IsFormMet q) (IsTextMet q) Deeper c d
  stay-out shown = kept.stay-out q.names (collect_names q) (kept_name q) (kept-text q) c d shown

  module _ (rel : IsTelling q c d) where
    beside : Beside (kept_name q) c d
    beside = record { meant = rel.meant; inside = rel.inside; entries = rel.entries; accepting = rel.accepting; in_handler = rel.in_handler }

    pub uses-stay : UsesStay
    uses-stay id s o h = kept.uses-stay q.names (collect_names q) (kept_name q) (kept-text q) c d beside id s o h

    pub stay-in : StayIn (kept_names q) (IsFormMet q) (IsTextMet q) Deeper c d
    stay-in = kept.stay-in q.names (collect_names q) (kept_name q) (kept-text q) c d beside rel.loops

    -- a task that is called or aborted
    pub callee-stays : (k n : ℕ) (x : PCallee) → Deeper k n → EveryCallee (kept_names q) k x →
        AllByRecursion (IsFormMet q) (check.callee_sites c k x) → AllByRecursion (IsTextMet q) (check.callee_sites d n x)
    callee-stays = parts.callee-stays (stay uses-stay) (kept.addressed-stays q.names (collect_names q) (kept_name q) (kept-text q) c d beside)

    pub head-stays : (k n : ℕ) (h : PHead) → Deeper k n → (k ≤ 100) × EveryHead (kept_names q) k h →
        AllByRecursion (IsFormMet q) (check.head_sites c k h) → AllByRecursion (IsTextMet q) (check.head_sites d n h)
    head-stays = parts.head-stays (stay uses-stay) (kept.accept-stays q.names (collect_names q) (kept_name q) (kept-text q) c d beside)
