-- What is kept for the entry of a number is its formals.
use Rattle.std.specs.Prelude.{◌≡◌, ◌==◌, ℕ, [], Vec, find, unwrap_or, Option, Some, None, option_map, refl}
use Rattle.std.proofs.Common.{ap, ◌∙◌}
use Rattle.std.specs.HashMap.{HashMap}
use Rattle.std.specs.declared.alloc.Global.{Global}
use Rattle.ada_tree.specs.declared.naming.NameId.{NameId}
use Rattle.ada_tree.specs.TypeTable.{TypeTable}
use Rattle.ada_tree.specs.PlainDecl.{PEntry, PTask}
use Rattle.ada_tree.specs.PlainProgram.{PProgram}
use Rattle.syn_event.specs.declared.numbering.TaskInfo.{TaskInfo}
use Rattle.syn_event.specs.declared.numbering.EntryInfo.{EntryInfo}
use Rattle.syn_event.specs.Numbering.{task_at, entry_at}
use Rattle.task_model.specs.declared.parameters.FormalParameter.{FormalParameter}
use Rattle.task_model.specs.Setting.{Setting, parameters_of, unit_named, formals_of_entry, formals_in, formals_of_unit, formals_of_info, entry_parameters}
use Rattle.task_links.specs.inner.Made.{KeepsEntries, formals_declared_in, kept_for_task, kept_for_info, kept_for_entry}

among_is : (types : TypeTable) (o : Option PEntry) → unwrap_or (option_map (λ (e : PEntry). parameters_of types e.formals) o) [] ≡ parameters_of types (formals_of_entry o)
among_is types None = refl
among_is types (Some e) = refl

declared_is : (types : TypeTable) (o : Option PTask) (name : NameId) → unwrap_or (formals_declared_in types o name.0) [] ≡ parameters_of types (formals_in o name)
declared_is types None name = refl
declared_is types (Some t) name = among_is types (find (λ (e : PEntry). e.name.name.0 == name.0) t.entries)

task_is : {S : Type 0} (types : TypeTable) (p : PProgram) (formals : HashMap (ℕ × ℕ) (Vec FormalParameter Global) S) → KeepsEntries types p formals → (o : Option TaskInfo) (name : NameId)
    → kept_for_task formals o name ≡ parameters_of types (formals_of_unit p o name)
task_is types p formals keeps None name = refl
task_is types p formals keeps (Some info) name = ap (λ o. unwrap_or o []) (keeps (info.unit.0, name.0)) ∙ declared_is types (unit_named p info.unit) name

info_is : {S : Type 0} (g : Setting) (formals : HashMap (ℕ × ℕ) (Vec FormalParameter Global) S) → KeepsEntries g.types g.program formals → (o : Option EntryInfo)
    → kept_for_info formals g.numbers o ≡ parameters_of g.types (formals_of_info g o)
info_is g formals keeps None = refl
info_is g formals keeps (Some info) = task_is g.types g.program formals keeps (task_at g.numbers info.owner) info.name

pub kept_is : {S : Type 0} (g : Setting) (formals : HashMap (ℕ × ℕ) (Vec FormalParameter Global) S) → KeepsEntries g.types g.program formals → (e : ℕ)
    → kept_for_entry formals g.numbers e ≡ entry_parameters g e
kept_is g formals keeps e = info_is g formals keeps (entry_at g.numbers e)
