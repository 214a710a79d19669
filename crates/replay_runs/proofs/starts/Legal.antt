-- The normal form of a legal program adds variables of types and subtypes of the program's own, so its replay texts start as it is said.
use Rattle.std.proofs.Common.{◌≡◌, ℕ, ◌+◌, true, List, [], ◌∷◌, map, unwrap_or, Option, Some, None, IfSome, refl, sym, ap, ◌∙◌, subst, arith}
use Rattle.std.specs.List.{AllByRecursion}
use Rattle.std.proofs.lemmas.Option.{none-some}
use Rattle.ada_tree.specs.declared.naming.NameId.{NameId}
use Rattle.ada_tree.specs.declared.naming.Span.{Span}
use Rattle.ada_tree.specs.declared.naming.Word.{Word}
use Rattle.ada_tree.specs.declared.static_types.Mark.{Mark}
use Rattle.ada_tree.specs.TypeTable.{TypeTable}
use Rattle.ada_tree.specs.PlainExpr.{PDrange, RGiven, RMarked}
use Rattle.ada_tree.specs.PlainStmt.{PFormal, PBody}
use Rattle.ada_tree.specs.PlainDecl.{PDecl, DNumber, DObject, DEnumeration, DArray, DSubtype, DException, DIntIo, DPragma, DTask, DTaskBody}
use Rattle.ada_tree.specs.PlainProgram.{PProgram}
use Rattle.ada_tree.specs.Every.{Rules, EveryDrange, EverySubind}
use Rattle.ada_static_rules.specs.Scope.{Scope, Thing, meaning, and_then}
use Rattle.ada_static_rules.specs.StaticValue.{mark_named}
use Rattle.ada_static_rules.specs.Refusals.{types_in}
use Rattle.syn_event.specs.declared.numbering.EntryInfo.{EntryInfo}
use Rattle.syn_event.specs.Numbering.{Numbering, entry_at}
use Rattle.syn_event.specs.AllNumbers.{all_numbers}
use Rattle.syn_event.specs.DeclaredTasks.{decl_list}
use Rattle.task_model.specs.Setting.{Setting, formals_of_info}
use Rattle.task_model.specs.Starting.{known_range}
use Rattle.normal_model.specs.Ranges.{marked, kind_of_range, kind_name, subtype_of_range, array_range, range_of_info, family_range}
use Rattle.normal_model.specs.Calls.{Slot, slots_of}
use Rattle.normal_model.specs.NormalTree.{first_running}
use Rattle.normal_model.specs.NormalStmts.{unit_variables}
use Rattle.task_laws.specs.legal.rewritten_types.Agreement.{IsScalar}
use Rattle.task_laws.specs.legal.rewritten_types.Laws.{behind}
use Rattle.task_laws.specs.legal.rewritten_types.Rewriting.{valued}
use Rattle.task_laws.proofs.legal.rewritten_types.Refused.{declared_once}
use Rattle.task_laws.proofs.legal.rewritten_types.Unmarked.{unvalued_has_no_mark}
use Rattle.task_laws.proofs.legal.rewritten_types.NamedKinds.{kinds_are_named}
use Rattle.task_laws.specs.legal.rewritten_values.Values.{old_names}
use Rattle.task_laws.specs.legal.types.Typed.{HasLimits}
use Rattle.normal_laws.specs.structure.types.Own.{own_name}
use Rattle.normal_laws.specs.structure.types.Laws.{setting_of}
use Rattle.normal_laws.proofs.structure.placed.Added.{AreSubtypes, AreVariablesFrom, unit-from}
use Rattle.normal_laws.specs.existence.variable_types.Ready.{IsReady}
use Rattle.normal_laws.proofs.existence.variable_types.SubtypeForms.{predefined-own, meant-own}
use Rattle.normal_laws.proofs.existence.variable_types.Numbers.{range-is}
use Rattle.normal_laws.proofs.existence.variable_types.Subtypes.{own_rule, entry-known, array-own, IsScalarFormal, formals-known}
use Rattle.normal_laws.proofs.legality.numbers.Numbered.{none_legal_is_ded}
use Rattle.normal_laws.proofs.legality.checks.Facts as facts
use Rattle.replay_runs.specs.starts.Laws.{HasOwnMark, HasOwnVariables, AddsOwnMarks}
use Rattle.replay_runs.specs.starts.Legal.{LegalIsAsked, LegalStarts, LegalHasFormals}
use Rattle.replay_runs.proofs.starts.Bodies.{legal_has_bodies}
use Rattle.replay_runs.proofs.starts.Programs.{texts_start}
use Rattle.replay_runs.proofs.starts.Formals.{formals_stay}
use Rattle.common_lemmas.proofs.Lists.{all_joined}

module _ (p : PProgram) (ready : IsReady p) where
  abbrev r : Rules
  r = old_names (own_name p)

  abbrev T : TypeTable
  T = types_in p

  abbrev numbers : Numbering
  numbers = all_numbers T p

  abbrev g : Setting
  g = setting_of p T numbers

  abbrev last : Scope
  last = behind p.name p.decls

  -- a name that means nothing names no type, so that of a type is the program's own
  type-own : (id : NameId) (m : Mark) → mark_named T id ≡ Some m → own_name p id.0 ≡ true
  type-own id m e = by_meaning (meaning last id) refl
    where
      by_meaning : (o : Option Thing) → meaning last id ≡ o → own_name p id.0 ≡ true
      by_meaning (Some x) f = meant-own p ready.names ready.ordered ready.own id x f
      by_meaning None f = absurd (none-some m (sym (unvalued_has_no_mark p.name p.decls (declared_once p ready.ordered.rules) id (ap valued f)) ∙ e))

  -- and so is that of a kind of values
  kind-own : (k : ℕ) → IsScalar T k → own_name p (kind_name T k).0 ≡ true
  kind-own k h =
      let named = kinds_are_named p.name p.decls (declared_once p ready.ordered.rules) k h in
      let same : kind_name T k ≡ named.id = ap (λ o. unwrap_or (and_then (λ (y : Mark). y.name) o) (record { 0 = 0 })) named.first ∙ ap (λ o. unwrap_or o (record { 0 = 0 })) named.name in
      ap (λ (i : NameId). own_name p i.0) same ∙ type-own named.id named.mark named.found

  -- the subtype of a variable for the values of a range
  range-own : (s : Span) (o : Option PDrange) → IfSome o (HasLimits T) → IfSome o (EveryDrange r 2) → EverySubind r 2 (subtype_of_range T s o)
  range-own s None l h = (predefined-own p ready.names 0 (omega arith), tt)
  range-own s (Some (RGiven b)) l h = (kind-own (kind_of_range T (RGiven b)) (subst (λ q. IsScalar T (known_range q).kind) (sym l.range) l.scalar), h)
  range-own s (Some (RMarked x)) l h = h

  entry-range : (o : Option EntryInfo) (e : ℕ) → entry_at numbers e ≡ o → IfSome (range_of_info g o) (HasLimits T) × IfSome (range_of_info g o) (EveryDrange r 2)
  entry-range None e f = (tt, tt)
  entry-range (Some info) e f =
      let h = entry-known p ready e info f in
      subst (λ o. IfSome o (HasLimits T) × IfSome o (EveryDrange r 2)) (sym (range-is p (own_rule p) info h)) (h.has.typed.family, h.has.own.2)

  slots-own : (fs : List PFormal) → AllByRecursion (IsScalarFormal p ready) fs → AllByRecursion (λ (x : Slot). EverySubind r 2 (marked x.mark)) (slots_of fs)
  slots-own [] h = tt
  slots-own (f ∷ fs) h = all_joined (λ (x : Slot). EverySubind r 2 (marked x.mark)) (map (λ w. record { mode = f.mode; mark = f.mark }) f.names) (slots_of fs) (each f.names) (slots-own fs h.1)
    where
      each : (ws : List Word) → AllByRecursion (λ (x : Slot). EverySubind r 2 (marked x.mark)) (map (λ w. record { mode = f.mode; mark = f.mark }) ws)
      each [] = tt
      each (w ∷ ws) = ((h.0.0, tt), each ws)

  -- the subtypes of all variables that the normal form adds
  subtypes : AreSubtypes g (EverySubind r 2)
  subtypes = record {
    integers = λ s. (predefined-own p ready.names 0 (omega arith), tt);
    truths = λ s. (predefined-own p ready.names 3 (omega arith), tt);
    arrays = λ s id. range-own s (array_range p id) (array-own p ready id).0 (array-own p ready id).1;
    families = λ s e. range-own s (family_range g e) (entry-range (entry_at numbers e) e refl).0 (entry-range (entry_at numbers e) e refl).1;
    formals = λ e. slots-own (formals_of_info g (entry_at numbers e)) (formals-known p ready (entry_at numbers e) e refl);
  }

  marks-own : (k : ℕ) (ds : List PDecl) → AreVariablesFrom g (EverySubind r 2) k ds → AllByRecursion (HasOwnMark p) ds
  marks-own k [] h = tt
  marks-own k (d ∷ ds) h = (subst (HasOwnMark p) (sym h.0.is) h.0.fits, marks-own (k + 1) ds h.1)

  unit-own : (task : ℕ) (b : PBody) → AllByRecursion (HasOwnMark p) (unit_variables (record { setting = g; task = task }) b)
  unit-own task b = marks-own 0 _ (unit-from g (EverySubind r 2) subtypes task b)

  bodies-own : (ds : List PDecl) → AllByRecursion (HasOwnVariables g) ds
  bodies-own [] = tt
  bodies-own (DTaskBody w objects its s ∷ ds) = (unit-own (first_running g w.name) its, bodies-own ds)
  bodies-own (DTask t s ∷ ds) = (tt, bodies-own ds)
  bodies-own (DNumber w e s ∷ ds) = (tt, bodies-own ds)
  bodies-own (DObject ws c x i s ∷ ds) = (tt, bodies-own ds)
  bodies-own (DEnumeration w ws s ∷ ds) = (tt, bodies-own ds)
  bodies-own (DArray w q x s ∷ ds) = (tt, bodies-own ds)
  bodies-own (DSubtype w x s ∷ ds) = (tt, bodies-own ds)
  bodies-own (DException ws s ∷ ds) = (tt, bodies-own ds)
  bodies-own (DIntIo w s ∷ ds) = (tt, bodies-own ds)
  bodies-own (DPragma e s ∷ ds) = (tt, bodies-own ds)

  pub adds-own : AddsOwnMarks g
  adds-own = record { main = unit-own 0 p.body; bodies = bodies-own (decl_list p.decls) }

pub legal_is_asked : LegalIsAsked
legal_is_asked p h = record { ordered = facts.ordered p h; own = (facts.olds p h).2; apart = none_legal_is_ded p _ _ h.legal h.placed; bodies = legal_has_bodies p h; marks = adds-own p (facts.ready p h) }

pub legal_starts : LegalStarts
legal_starts p events h = texts_start p events (facts.ordered p h) (facts.olds p h).2 (none_legal_is_ded p _ _ h.legal h.placed) (legal_has_bodies p h) (adds-own p (facts.ready p h))

pub legal_has_formals : LegalHasFormals
legal_has_formals p events far h = formals_stay p events far (facts.ordered p h) (facts.olds p h).2 (none_legal_is_ded p _ _ h.legal h.placed) h.names
