-- The ranges that a legal program declares for families and for arrays of tasks are known, and a variable of one has just its indices.
use Rattle.std.proofs.Common.{◌≡◌, ℤ, ◌&&◌, List, [], ◌∷◌, find, Option, Some, None, IfSome, sym, ap, ◌∙◌, subst}
use Rattle.std.specs.Prelude.{int_le}
use Rattle.std.specs.List.{AllByRecursion}
use Rattle.ada_tree.specs.declared.naming.NameId.{NameId}
use Rattle.ada_tree.specs.declared.naming.Span.{Span}
use Rattle.ada_tree.specs.TypeTable.{TypeTable}
use Rattle.ada_tree.specs.PlainExpr.{PDrange}
use Rattle.ada_tree.specs.PlainDecl.{OPlain, OArray, PEntry, DNumber, DObject, DEnumeration, DArray, DSubtype, DException, DIntIo, DPragma, DTask, DTaskBody, PDecls, no_decl, decl_then}
use Rattle.ada_tree.specs.PlainProgram.{PProgram}
use Rattle.ada_static_rules.specs.Refusals.{types_in}
use Rattle.ada_tree.specs.Every.{EveryDrange}
use Rattle.ada_static_rules.specs.Scope.{Scope, Range, and_then}
use Rattle.ada_static_rules.specs.Declaring.{after_decl}
use Rattle.syn_event.specs.Extents.{Extent}
use Rattle.syn_event.specs.NamedTasks.{NamedTasks, task_names_of}
use Rattle.syn_event.specs.AllNumbers.{all_numbers}
use Rattle.ada_value.specs.Values.{lies_in}
use Rattle.normal_model.specs.Ranges.{subtype_of_range, array_range}
use Rattle.normal_model.specs.NormalTree.{normal_tree}
use Rattle.task_laws.specs.legal.rewritten_values.Values.{old_names}
use Rattle.normal_laws.specs.structure.types.Own.{own_name}
use Rattle.normal_laws.specs.runs.floors.Suited.{declared_limits, limits_of_form}
use Rattle.task_laws.specs.legal.types.Typed.{HasLimits}
use Rattle.task_laws.proofs.legal.types.TaskTypes.{IsRangeHere, AllRanges}
use Rattle.normal_laws.specs.existence.variable_types.Ready.{IsReady}
use Rattle.normal_laws.proofs.existence.variable_types.SubtypeForms.{range-form}
use Rattle.normal_laws.proofs.existence.variable_types.Subtypes.{array-own}
use Rattle.normal_laws.proofs.existence.seen_tasks.Parts.{IsExtent, IsRanged, FamilyRanged, EntryRanged, AreRanged, is_called}

-- ---- what is declared

range-known : (T : TypeTable) (s : Scope) (r : PDrange) → IsRangeHere T s r → IsRanged T s r
range-known T s r h = record {
  range = record { kind = h.limits.limits.kind; first = h.limits.limits.first; last = h.limits.limits.last };
  known = h.known;
  is = record { extent = h.limits.told; nonempty = h.limits.order };
}

family-known : (T : TypeTable) (s : Scope) (o : Option PDrange) → IfSome o (IsRangeHere T s) → FamilyRanged T s o
family-known T s (Some r) h = range-known T s r h
family-known T s None h = tt

entries-known : (T : TypeTable) (s : Scope) (es : List PEntry) → AllByRecursion (λ (e : PEntry). IfSome e.family (IsRangeHere T s)) es → AllByRecursion (EntryRanged T s) es
entries-known T s [] h = tt
entries-known T s (e ∷ es) h = (family-known T s e.family h.0, entries-known T s es h.1)

pub ranges-known : (T : TypeTable) (ds : PDecls) (s : Scope) → AllRanges T s ds → AreRanged T s ds
ranges-known T no_decl s h = tt
ranges-known T (decl_then (DTask t sp) rest) s h = (entries-known T s t.entries h.0, ranges-known T rest (after_decl s (DTask t sp)) h.1)
ranges-known T (decl_then (DObject ws constant (OArray r x) init sp) rest) s h = (range-known T s r h.0, ranges-known T rest (after_decl s (DObject ws constant (OArray r x) init sp)) h.1)
ranges-known T (decl_then (DObject ws constant (OPlain x) init sp) rest) s h = (tt, ranges-known T rest (after_decl s (DObject ws constant (OPlain x) init sp)) h.1)
ranges-known T (decl_then (DNumber w e sp) rest) s h = (tt, ranges-known T rest (after_decl s (DNumber w e sp)) h.1)
ranges-known T (decl_then (DEnumeration w ws sp) rest) s h = (tt, ranges-known T rest (after_decl s (DEnumeration w ws sp)) h.1)
ranges-known T (decl_then (DArray w r x sp) rest) s h = (tt, ranges-known T rest (after_decl s (DArray w r x sp)) h.1)
ranges-known T (decl_then (DSubtype w x sp) rest) s h = (tt, ranges-known T rest (after_decl s (DSubtype w x sp)) h.1)
ranges-known T (decl_then (DException ws sp) rest) s h = (tt, ranges-known T rest (after_decl s (DException ws sp)) h.1)
ranges-known T (decl_then (DIntIo w sp) rest) s h = (tt, ranges-known T rest (after_decl s (DIntIo w sp)) h.1)
ranges-known T (decl_then (DPragma e sp) rest) s h = (tt, ranges-known T rest (after_decl s (DPragma e sp)) h.1)
ranges-known T (decl_then (DTaskBody w objects its sp) rest) s h = (tt, ranges-known T rest (after_decl s (DTaskBody w objects its sp)) h.1)

-- ---- arrays of tasks

pub some-bounds : (e f : Extent) → Some e ≡ Some f → (e.first ≡ f.first) × (e.last ≡ f.last)
some-bounds e f q = (cc, cc)

module _ (p : PProgram) (ready : IsReady p) where
  abbrev T : TypeTable
  T = types_in p

  abbrev V : TypeTable
  V = types_in (normal_tree p T (all_numbers T p))

  -- the range of an array of tasks is static, and its names are the program's own
  pub row-limits : (id : NameId) (x : NamedTasks) (r : PDrange) → find (is_called id) (task_names_of p) ≡ Some x → x.index_range ≡ Some r → HasLimits T r × EveryDrange (old_names (own_name p)) 2 r
  row-limits id x r found row =
      let is : array_range p id ≡ Some r = ap (and_then (λ (y : NamedTasks). y.index_range)) found ∙ row in
      let own = array-own p ready id in
      (subst (λ o. IfSome o (HasLimits T)) is own.0, subst (λ o. IfSome o (EveryDrange (old_names (own_name p)) 2)) is own.1)

  pub row-same : (id : NameId) (x : NamedTasks) (r : PDrange) (range : Range) → find (is_called id) (task_names_of p) ≡ Some x → x.index_range ≡ Some r → IsExtent T r range → (sp : Span) (z : ℤ) →
      lies_in (declared_limits V (subtype_of_range T sp (Some r))) z ≡ (int_le range.first z && int_le z range.last)
  row-same id x r range found row ext sp z =
      let h = row-limits id x r found row in
      let form = range-form p ready.names ready.ordered ready.own T (all_numbers T p) sp r h.1 h.0 in
      let same = some-bounds (record { first = h.0.limits.first; last = h.0.limits.last }) (record { first = range.first; last = range.last }) (sym h.0.told ∙ ext.extent) in
      ap (λ o. lies_in (limits_of_form o) z) form.form ∙ ap (λ a. int_le a z && int_le z h.0.limits.last) same.0 ∙ ap (λ a. int_le range.first z && int_le z a) same.1
