-- No formal of an entry has an empty subtype: its lower bound lies in it.
use Rattle.std.proofs.Common.{◌≡◌, ℕ, ℤ, int_le, true, ◌&&◌, ◌==◌, List, [], ◌∷◌, ◌++◌, map, find, Option, Some, None, refl, sym, subst, arith}
use Rattle.std.specs.List.{AllByRecursion}
use Rattle.std.proofs.lemmas.Int.{ints}
use Rattle.ada_tree.specs.declared.naming.NameId.{NameId}
use Rattle.ada_tree.specs.declared.naming.Word.{Word}
use Rattle.ada_tree.specs.declared.static_types.Mark.{Mark}
use Rattle.ada_tree.specs.TypeTable.{TypeTable}
use Rattle.ada_static_rules.specs.StaticValue.{mark_named}
use Rattle.ada_tree.specs.PlainStmt.{PFormal}
use Rattle.ada_tree.specs.PlainDecl.{PEntry, PTask}
use Rattle.ada_tree.specs.PlainProgram.{PProgram}
use Rattle.ada_static_rules.specs.Refusals.{MeetsTypeRules, types_in}
use Rattle.ada_tree.specs.WellPlaced.{IsWellPlaced}
use Rattle.syn_event.specs.declared.numbering.TaskInfo.{TaskInfo}
use Rattle.syn_event.specs.declared.numbering.EntryInfo.{EntryInfo}
use Rattle.syn_event.specs.Numbering.{Numbering, task_at, entry_at}
use Rattle.syn_event.specs.DeclaredTasks.{tasks_of}
use Rattle.ada_value.specs.Values.{position_of, value_at, lies_in, lower_bound, limits_of, limits_or, limits_named}
use Rattle.task_model.specs.declared.parameters.FormalParameter.{FormalParameter}
use Rattle.task_model.specs.Setting.{Setting, parameters_of, unit_named, formals_of_entry, formals_in, formals_of_unit, formals_of_info, entry_parameters}
use Rattle.task_laws.specs.invariants.Holding.{Fits, LowersFit}
use Rattle.task_laws.proofs.legal.rewritten_types.Lookups.{find-all}
use Rattle.normal_laws.proofs.existence.units.Full.{IsFullMark, IsFull, types-full}
use Rattle.common_lemmas.proofs.Truth.{both_true}

-- the name is that of a type or subtype whose lower bound is a value of it
pub record IsWorth (T : TypeTable) (id : NameId) : Type 0 where
  pub mark : Mark
  pub named : mark_named T id ≡ Some mark
  pub first : position_of (value_at T mark.kind mark.first) ≡ mark.first

abbrev pub FormalsWorth : TypeTable → List PFormal → Type 0
FormalsWorth T formals = AllByRecursion (λ (f : PFormal). IsWorth T f.mark.name) formals

abbrev pub TaskWorth : TypeTable → PTask → Type 0
TaskWorth T t = AllByRecursion (λ (e : PEntry). FormalsWorth T e.formals) t.entries

-- each formal of each task has such a mark
abbrev pub AreWorth : PProgram → Type 0
AreWorth p = AllByRecursion (TaskWorth (types_in p)) (tasks_of p)

same-le : (z : ℤ) → int_le z z ≡ true
same-le z = grind (arith, ints)

module _ (T : TypeTable) (full : IsFull T) where
  named-fits : (id : NameId) → IsWorth T id → Fits (limits_named T id) (lower_bound T (limits_named T id))
  named-fits id h =
      let m = h.mark in
      let whole : int_le m.first m.last ≡ true = find-all IsFullMark _ T.marks m full h.named in
      let fits : lies_in (limits_of m) (position_of (value_at T m.kind m.first)) ≡ true =
      subst (λ z. (int_le m.first z && int_le z m.last) ≡ true) (sym h.first) (both_true (int_le m.first m.first) (int_le m.first m.last) (same-le m.first) whole) in
      subst (λ o. Fits (limits_or o) (lower_bound T (limits_or o))) (sym h.named) fits

  row-fits : (f : PFormal) (ws : List Word) (rest : List FormalParameter) → IsWorth T f.mark.name → LowersFit T rest →
      LowersFit T (map (λ (w : Word). record { name = w.name; mode = f.mode; limits = limits_named T f.mark.name }) ws ++ rest)
  row-fits f [] rest h k = k
  row-fits f (w ∷ ws) rest h k = (named-fits f.mark.name h, row-fits f ws rest h k)

  formals-fit : (fs : List PFormal) → FormalsWorth T fs → LowersFit T (parameters_of T fs)
  formals-fit [] h = tt
  formals-fit (f ∷ fs) h = row-fits f f.names (parameters_of T fs) h.0 (formals-fit fs h.1)

  entry-fits : (t : PTask) (id : NameId) → TaskWorth T t → LowersFit T (parameters_of T (formals_of_entry (find (λ e. e.name.name.0 == id.0) t.entries)))
  entry-fits t id h = by_entry (find (λ (e : PEntry). e.name.name.0 == id.0) t.entries) refl
    where
      by_entry : (o : Option PEntry) → find (λ (e : PEntry). e.name.name.0 == id.0) t.entries ≡ o → LowersFit T (parameters_of T (formals_of_entry o))
      by_entry None e = tt
      by_entry (Some x) e = formals-fit x.formals (find-all (λ (y : PEntry). FormalsWorth T y.formals) (λ (y : PEntry). y.name.name.0 == id.0) t.entries x h e)

module _ (p : PProgram) (numbers : Numbering) (types : MeetsTypeRules p) (placed : IsWellPlaced p) (worth : AreWorth p) where
  abbrev T : TypeTable
  T = types_in p

  abbrev g : Setting
  g = record { program = p; types = T; numbers = numbers }

  unit-fits : (name id : NameId) → LowersFit T (parameters_of T (formals_in (unit_named p name) id))
  unit-fits name id = by_unit (unit_named p name) refl
    where
      by_unit : (o : Option PTask) → unit_named p name ≡ o → LowersFit T (parameters_of T (formals_in o id))
      by_unit None e = tt
      by_unit (Some t) e = entry-fits T (types-full p types placed) t id (find-all (TaskWorth T) (λ (t : PTask). t.name.name.0 == name.0) (tasks_of p) t worth e)

  info-fits : (o : Option TaskInfo) (id : NameId) → LowersFit T (parameters_of T (formals_of_unit p o id))
  info-fits None id = tt
  info-fits (Some info) id = unit-fits info.unit id

  -- The lower bound of each formal of each entry lies in its subtype.
  pub lowers : (e : ℕ) → LowersFit T (entry_parameters g e)
  lowers e = by_entry (entry_at numbers e)
    where
      by_entry : (o : Option EntryInfo) → LowersFit T (parameters_of T (formals_of_info g o))
      by_entry None = tt
      by_entry (Some info) = info-fits (task_at numbers info.owner) info.name
