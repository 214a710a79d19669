-- The tasks of a normal form are as the laws of one task ask.
use Rattle.std.proofs.Common.{sym, subst}
use Rattle.ada_tree.specs.PlainStmt.{PBody}
use Rattle.task_laws.specs.translation.Controls.{AreInside}
use Rattle.normal_laws.specs.runs.floors.NormalLists.{normal_lists}
use Rattle.normal_laws.specs.runs.floors.NormalFloors.{normal}
use Rattle.normal_laws.specs.runs.floors.Instances.{at_start, FormsAreAsked}
use Rattle.normal_laws.specs.runs.runs.Premises.{programs_of, unit_at, unit_before, objects_before, objects_after}
use Rattle.normal_laws.proofs.runs.floors.Carried.{normal_starts}

pub forms_are_asked : FormsAreAsked
forms_are_asked r form t less input =
    let added = form.added t in
    let inside = normal_starts (unit_at r t) added (unit_before r t).body (objects_before r t) (objects_after r t) t input (form.text t less) (form.begins t less) (form.objects t less) (form.there t less) in (
      added,
      record {
        types = form.programs.types;
        there = form.there t less;
        inside = subst (λ (its : PBody). AreInside (normal (normal_lists (unit_at r t)) added)
            (at_start (programs_of r).original t input (unit_before r t).body (objects_before r t))
            (at_start (programs_of r).made t input its (objects_after r t)))
            (sym (form.bodies t less)) inside;
      },
    )
