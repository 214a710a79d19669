-- Each variable that the normal form of a legal program adds is scalar: its subtype is that of a formal, of a family, of an array of tasks, BOOLEAN or INTEGER.
use Rattle.std.proofs.Common.{◌≡◌, ℕ, Bool, true, false, ◌==◌, List, [], ◌∷◌, ◌++◌, length, find, map, ◌+◌, IfSome, Option, Some, None, refl, sym, subst}
use Rattle.std.specs.List.{AllByRecursion}
use Rattle.std.proofs.lemmas.List.Elements.{recursion_from_All}
use Rattle.ada_tree.specs.declared.naming.NameId.{NameId}
use Rattle.ada_tree.specs.declared.naming.Span.{Span}
use Rattle.ada_tree.specs.declared.naming.Word.{Word}
use Rattle.ada_tree.specs.TypeTable.{TypeTable}
use Rattle.ada_tree.specs.PlainExpr.{PExpr, PSubind, PDrange}
use Rattle.ada_tree.specs.PlainStmt.{PCallee, PCall, PFormal, PHead, PStmt, SNull, SAssign, SDelay, SExit, SRaise, SAbort, SCall, SAccept, SWait, SConditional, STimed, SPut, SPutLine, SNewLine, SGet, SIf, SCase, SBlock, SLoop, PAlt, alternative, PAltKind, AAccept, ADelay, ATerminate, PBody}
use Rattle.ada_tree.specs.PlainDecl.{PShape, OPlain, OArray, PEntry, PTask, PDecl, DNumber, DObject, DEnumeration, DArray, DSubtype, DException, DIntIo, DPragma, DTask, DTaskBody, PDecls, no_decl, decl_then}
use Rattle.ada_tree.specs.PlainProgram.{PProgram}
use Rattle.ada_tree.specs.Every.{Rules, EveryDrange, EveryShape, EveryFormal, EveryEntry, EveryTask, EveryDecls}
use Rattle.ada_static_rules.specs.Scope.{and_then}
use Rattle.ada_static_rules.specs.Refusals.{types_in}
use Rattle.syn_event.specs.declared.numbering.EntryInfo.{EntryInfo}
use Rattle.syn_event.specs.Numbering.{Numbering, entry_at}
use Rattle.syn_event.specs.AllNumbers.{all_numbers}
use Rattle.syn_event.specs.DeclaredTasks.{decl_list, tasks_in, tasks_of}
use Rattle.syn_event.specs.NamedTasks.{NamedTasks, task_names_of_type, object_task_names, type_named, with_type, single_task_name, task_names_in, task_names_of}
use Rattle.ada_value.specs.declared.values.Limits.{Limits}
use Rattle.ada_value.specs.Values.{integer_limits, truth_limits, limits_named}
use Rattle.task_model.specs.Setting.{Setting, formals_of_info}
use Rattle.normal_model.specs.Ranges.{marked, subtype_of_range, array_range, range_of_info, family_range}
use Rattle.normal_model.specs.Making.{Kept, kept_subtypes, kept_if, moving}
use Rattle.normal_model.specs.Members.{callee_kept}
use Rattle.normal_model.specs.Calls.{Slot, entry_called, slots_of, slots_called, lists_called, actual_subtypes, indices_kept, call_subtypes, flag_subtypes, is_chosen, select_subtypes}
use Rattle.normal_model.specs.RewrittenUnit.{RewrittenUnit}
use Rattle.normal_model.specs.Waits.{accept_kept, head_of, kind_kept, guard_subtypes, alternative_subtypes}
use Rattle.normal_model.specs.Aborts.{abort_subtypes}
use Rattle.normal_model.specs.Variables.{variables_declared, more_variables, statement_variables}
use Rattle.normal_model.specs.NormalStmts.{normal_rewriter, unit_variables}
use Rattle.normal_model.specs.NormalTree.{normal_tree}
use Rattle.task_laws.proofs.legal.rewritten_types.Lookups.{find-all}
use Rattle.task_laws.specs.legal.rewritten_values.Values.{old_names}
use Rattle.normal_laws.specs.structure.types.Own.{own_name}
use Rattle.normal_laws.specs.structure.types.Laws.{setting_of}
use Rattle.normal_laws.proofs.structure.types.Walking.{body-keeps}
use Rattle.task_laws.specs.legal.types.Typed.{HasLimits, IsFirstTask, IsScalarName, IsTypedEntry, IsTypedPart, IsTypedTask}
use Rattle.task_laws.proofs.legal.types.TaskTypes.{part-units}
use Rattle.normal_laws.specs.existence.variable_types.Ready.{IsReady}
use Rattle.normal_laws.proofs.existence.variable_types.Numbers.{EntryRule, IsRuled, IsEntryOf, entry-of, formals-are, range-is}
use Rattle.normal_laws.proofs.existence.variable_types.SubtypeForms.{HasForm, truth-form, integer-form, mark-form, range-form}
use Rattle.common_lemmas.proofs.Lists.{all_joined, all_paired}

-- ---- tasks and parts, with names that are the program's own

pub tasks-every : (rules : Rules) (ds : PDecls) → EveryDecls rules ds → AllByRecursion (EveryTask rules) (tasks_in (decl_list ds))
tasks-every rules no_decl h = tt
tasks-every rules (decl_then (DTask t sp) rest) h = (h.0.1, tasks-every rules rest h.1)
tasks-every rules (decl_then (DNumber name e sp) rest) h = tasks-every rules rest h.1
tasks-every rules (decl_then (DObject ws constant shape init sp) rest) h = tasks-every rules rest h.1
tasks-every rules (decl_then (DEnumeration name ws sp) rest) h = tasks-every rules rest h.1
tasks-every rules (decl_then (DArray name index x sp) rest) h = tasks-every rules rest h.1
tasks-every rules (decl_then (DSubtype name x sp) rest) h = tasks-every rules rest h.1
tasks-every rules (decl_then (DException ws sp) rest) h = tasks-every rules rest h.1
tasks-every rules (decl_then (DIntIo name sp) rest) h = tasks-every rules rest h.1
tasks-every rules (decl_then (DPragma e sp) rest) h = tasks-every rules rest h.1
tasks-every rules (decl_then (DTaskBody w objects its sp) rest) h = tasks-every rules rest h.1

-- the range of an array of tasks, as it is declared
abbrev pub RangeEvery : Rules → NamedTasks → Type 0
RangeEvery rules x = IfSome x.index_range (EveryDrange rules 2)

type-rows : (rules : Rules) (o : Option PTask) (ws : List Word) (row : Option PDrange) → IfSome row (EveryDrange rules 2) → AllByRecursion (RangeEvery rules) (task_names_of_type o ws row)
type-rows rules None ws row h = tt
type-rows rules (Some t) [] row h = tt
type-rows rules (Some t) (w ∷ ws) row h = (h, type-rows rules (Some t) ws row h)

object-rows : (rules : Rules) (kinds : List PTask) (ws : List Word) (shape : PShape) → EveryShape rules shape → AllByRecursion (RangeEvery rules) (object_task_names kinds ws shape)
object-rows rules kinds ws (OPlain x) h = type-rows rules (type_named kinds x.mark.name) ws None tt
object-rows rules kinds ws (OArray index x) h = type-rows rules (type_named kinds x.mark.name) ws (Some index) h.0

single-rows : (rules : Rules) (b : Bool) (t : PTask) (sp : Span) → AllByRecursion (RangeEvery rules) (single_task_name b t sp)
single-rows rules true t sp = tt
single-rows rules false t sp = (tt, tt)

parts-every : (rules : Rules) (ds : PDecls) (kinds : List PTask) → EveryDecls rules ds → AllByRecursion (RangeEvery rules) (task_names_in kinds ds)
parts-every rules no_decl kinds h = tt
parts-every rules (decl_then (DTask t sp) rest) kinds h = all_joined (RangeEvery rules) (single_task_name t.of_kind t sp) _ (single-rows rules t.of_kind t sp) (parts-every rules rest (with_type kinds t.of_kind t) h.1)
parts-every rules (decl_then (DObject ws constant shape init sp) rest) kinds h = all_joined (RangeEvery rules) (object_task_names kinds ws shape) _ (object-rows rules kinds ws shape h.0.2) (parts-every rules rest kinds h.1)
parts-every rules (decl_then (DNumber name e sp) rest) kinds h = parts-every rules rest kinds h.1
parts-every rules (decl_then (DEnumeration name ws sp) rest) kinds h = parts-every rules rest kinds h.1
parts-every rules (decl_then (DArray name index x sp) rest) kinds h = parts-every rules rest kinds h.1
parts-every rules (decl_then (DSubtype name x sp) rest) kinds h = parts-every rules rest kinds h.1
parts-every rules (decl_then (DException ws sp) rest) kinds h = parts-every rules rest kinds h.1
parts-every rules (decl_then (DIntIo name sp) rest) kinds h = parts-every rules rest kinds h.1
parts-every rules (decl_then (DPragma e sp) rest) kinds h = parts-every rules rest kinds h.1
parts-every rules (decl_then (DTaskBody w objects its sp) rest) kinds h = parts-every rules rest kinds h.1

-- the entry has types, and names that are the program's own
pub record IsOwnEntry (p : PProgram) (e : PEntry) : Type 0 where
  pub typed : IsTypedEntry (types_in p) e
  pub own : EveryEntry (old_names (own_name p)) e

abbrev pub own_rule : PProgram → EntryRule
own_rule p t e = IsOwnEntry p e

entries-own : (p : PProgram) (es : List PEntry) → AllByRecursion (IsTypedEntry (types_in p)) es → AllByRecursion (EveryEntry (old_names (own_name p))) es → AllByRecursion (IsOwnEntry p) es
entries-own p [] h k = tt
entries-own p (e ∷ es) h k = (record { typed = h.0; own = k.0 }, entries-own p es h.1 k.1)

tasks-ruled : (p : PProgram) (ts : List PTask) → AllByRecursion (IsFirstTask (tasks_of p)) ts → AllByRecursion (IsTypedTask (types_in p)) ts → AllByRecursion (EveryTask (old_names (own_name p))) ts → AllByRecursion (IsRuled p (own_rule p)) ts
tasks-ruled p [] f h k = tt
tasks-ruled p (t ∷ ts) f h k = (
  record { first = f.0; entries = entries-own p t.entries h.0.entries (recursion_from_All _ t.entries k.0.1); found = h.0.found },
  tasks-ruled p ts f.1 h.1 k.1,
)

-- ---- what is known of a program

-- the subtype is scalar
abbrev pub IsScalarSubtype : TypeTable → PSubind → Type 0
IsScalarSubtype V x = (l : Limits) × HasForm V x l

module _ (p : PProgram) (ready : IsReady p) where
  abbrev T : TypeTable
  T = types_in p

  abbrev numbers : Numbering
  numbers = all_numbers T p

  abbrev g : Setting
  g = setting_of p T numbers

  abbrev V : TypeTable
  V = types_in (normal_tree p T numbers)

  parts-ruled : AllByRecursion (λ (x : NamedTasks). IsRuled p (own_rule p) x.unit) (task_names_of p)
  parts-ruled = part-units (IsRuled p (own_rule p)) p.decls [] tt (tasks-ruled p (tasks_of p) ready.tasks.found ready.tasks.tasks (tasks-every (old_names (own_name p)) p.decls ready.own.2))

  -- an entry in the numbers
  pub entry-known : (e : ℕ) (info : EntryInfo) → entry_at numbers e ≡ Some info → IsEntryOf p (own_rule p) numbers.tasks info
  entry-known e info f = entry-of p (own_rule p) parts-ruled e info f

  -- ---- ranges

  -- a range that is static, with names that are the program's own, if there is one
  abbrev pub IsOwnRange : Option PDrange → Type 0
  IsOwnRange o = IfSome o (HasLimits T) × IfSome o (EveryDrange (old_names (own_name p)) 2)

  pub own-subtype : (s : Span) (o : Option PDrange) → IsOwnRange o → IsScalarSubtype V (subtype_of_range T s o)
  own-subtype s None h = (integer_limits, integer-form (normal_tree p T numbers) s)
  own-subtype s (Some r) h = (h.0.limits, range-form p ready.names ready.ordered ready.own T numbers s r h.1 h.0)

  entry-range : (o : Option EntryInfo) (e : ℕ) → entry_at numbers e ≡ o → IsOwnRange (range_of_info g o)
  entry-range None e f = (tt, tt)
  entry-range (Some info) e f =
      let h = entry-known e info f in
      subst (λ o. IsOwnRange o) (sym (range-is p (own_rule p) info h)) (h.has.typed.family, h.has.own.2)

  family-subtype : (s : Span) (e : ℕ) → IsScalarSubtype V (subtype_of_range T s (family_range g e))
  family-subtype s e = own-subtype s (family_range g e) (entry-range (entry_at numbers e) e refl)

  pub array-own : (id : NameId) → IsOwnRange (array_range p id)
  array-own id = by_part (find (λ x. x.name.name.0 == id.0) (task_names_of p)) refl
    where
      all : AllByRecursion (λ (x : NamedTasks). IsTypedPart T x × RangeEvery (old_names (own_name p)) x) (task_names_of p)
      all = all_paired (IsTypedPart T) (RangeEvery (old_names (own_name p))) (task_names_of p) ready.tasks.parts (parts-every (old_names (own_name p)) p.decls [] ready.own.2)

      by_part : (o : Option NamedTasks) → find (λ x. x.name.name.0 == id.0) (task_names_of p) ≡ o → IsOwnRange (and_then (λ x. x.index_range) o)
      by_part (Some x) e = find-all (λ (y : NamedTasks). IsTypedPart T y × RangeEvery (old_names (own_name p)) y) (λ y. y.name.name.0 == id.0) (task_names_of p) x all e
      by_part None e = (tt, tt)

  array-subtype : (s : Span) (id : NameId) → IsScalarSubtype V (subtype_of_range T s (array_range p id))
  array-subtype s id = own-subtype s (array_range p id) (array-own id)

  -- ---- formals

  abbrev pub IsScalarFormal : PFormal → Type 0
  IsScalarFormal f = (own_name p f.mark.name.0 ≡ true) × IsScalarName T f.mark.name

  entry-formals : (fs : List PFormal) → AllByRecursion (λ f. IsScalarName T f.mark.name) fs → AllByRecursion (EveryFormal (old_names (own_name p))) fs → AllByRecursion IsScalarFormal fs
  entry-formals [] h k = tt
  entry-formals (f ∷ fs) h k = ((k.0.1, h.0), entry-formals fs h.1 k.1)

  -- the formals of an entry in the numbers
  pub formals-known : (o : Option EntryInfo) (e : ℕ) → entry_at numbers e ≡ o → AllByRecursion IsScalarFormal (formals_of_info g o)
  formals-known None e f = tt
  formals-known (Some info) e f =
      let h = entry-known e info f in
      subst (AllByRecursion IsScalarFormal) (sym (formals-are p (own_rule p) info h)) (entry-formals h.entry.formals h.has.typed.formals (recursion_from_All _ h.entry.formals h.has.own.3))

  abbrev AreScalar : List PSubind → Type 0
  AreScalar xs = AllByRecursion (IsScalarSubtype V) xs

  abbrev IsScalarSlot : Slot → Type 0
  IsScalarSlot x = IsScalarSubtype V (marked x.mark)

  slots-of : (fs : List PFormal) → AllByRecursion IsScalarFormal fs → AllByRecursion IsScalarSlot (slots_of fs)
  slots-of [] h = tt
  slots-of (f ∷ fs) h = all_joined IsScalarSlot (map (λ w. record { mode = f.mode; mark = f.mark }) f.names) (slots_of fs) (of-names f.names) (slots-of fs h.1)
    where
      of-names : (ws : List Word) → AllByRecursion IsScalarSlot (map (λ w. record { mode = f.mode; mark = f.mark }) ws)
      of-names [] = tt
      of-names (w ∷ ws) = ((limits_named T f.mark.name, mark-form p ready.names ready.ordered ready.own T numbers f.mark h.0.0 h.0.1), of-names ws)

  actuals-scalar : (xs : List Slot) (es : List PExpr) → AllByRecursion IsScalarSlot xs → AreScalar (actual_subtypes xs es)
  actuals-scalar [] es h = tt
  actuals-scalar (x ∷ xs) [] h = tt
  actuals-scalar (x ∷ xs) (e ∷ es) h = (h.0, actuals-scalar xs es h.1)

  -- ---- statements

  kept-scalar : (x : PSubind) (o : Option PExpr) → IsScalarSubtype V x → AreScalar (kept_subtypes (kept_if x o))
  kept-scalar x None h = tt
  kept-scalar x (Some e) h = (h, tt)

  kept-append : (xs ys : List Kept) → AreScalar (kept_subtypes xs) → AreScalar (kept_subtypes ys) → AreScalar (kept_subtypes (xs ++ ys))
  kept-append [] ys h k = k
  kept-append (x ∷ xs) ys h k = (h.0, kept-append xs ys h.1 k)

  callee-scalar : (s : Span) (c : PCallee) → AreScalar (kept_subtypes (callee_kept g s c))
  callee-scalar s c = kept-scalar _ (moving T c.index) (array-subtype s c.name.name)

  call-scalar : (s : Span) (c : PCall) → AreScalar (call_subtypes g s c)
  call-scalar s c =
      all_joined (IsScalarSubtype V) (kept_subtypes (indices_kept g s c)) (actual_subtypes (slots_called g c) (lists_called g c).actuals)
      (kept-append (callee_kept g s c.task) _ (callee-scalar s c.task) (kept-scalar _ (lists_called g c).index (family-subtype s (entry_called g c))))
      (actuals-scalar (slots_called g c) (lists_called g c).actuals (slots-of _ (formals-known (entry_at numbers (entry_called g c)) (entry_called g c) refl)))

  flag-scalar : (b : Bool) (s : Span) → AreScalar (flag_subtypes b s)
  flag-scalar true s = ((integer_limits, integer-form (normal_tree p T numbers) s), tt)
  flag-scalar false s = tt

  select-scalar : (s : Span) (c : PCall) → AreScalar (select_subtypes g s c)
  select-scalar s c = all_joined (IsScalarSubtype V) (call_subtypes g s c) (flag_subtypes (is_chosen g c) s) (call-scalar s c) (flag-scalar (is_chosen g c) s)

  aborts-scalar : (s : Span) (cs : List PCallee) → AreScalar (abort_subtypes g s cs)
  aborts-scalar s [] = tt
  aborts-scalar s (c ∷ cs) = all_joined (IsScalarSubtype V) (kept_subtypes (callee_kept g s c)) (abort_subtypes g s cs) (callee-scalar s c) (aborts-scalar s cs)

  module _ (task : ℕ) where
    abbrev u : RewrittenUnit
    u = record { setting = g; task = task }

    accept-scalar : (s : Span) (h : PHead) → AreScalar (kept_subtypes (accept_kept u s h))
    accept-scalar s h = kept-scalar _ (moving T h.index) (family-subtype s _)

    kind-scalar : (s : Span) (k : PAltKind) → AreScalar (kept_subtypes (kind_kept u s k))
    kind-scalar s (AAccept a l) = accept-scalar s (head_of a)
    kind-scalar s (ADelay d l) = tt
    kind-scalar s ATerminate = tt

    guard-scalar : (s : Span) (o : Option PExpr) → AreScalar (guard_subtypes s o)
    guard-scalar s None = tt
    guard-scalar s (Some e) = ((truth_limits, truth-form (normal_tree p T numbers) s), tt)

    alternative-scalar : (x : PAlt) → AreScalar (alternative_subtypes u x)
    alternative-scalar (alternative guard what s) = all_joined (IsScalarSubtype V) (guard_subtypes s guard) (kept_subtypes (kind_kept u s what)) (guard-scalar s guard) (kind-scalar s what)

    -- a declared variable of a scalar subtype
    abbrev pub IsScalarDecl : PDecl → Type 0
    IsScalarDecl (DObject ws constant (OPlain x) init s) = IsScalarSubtype V x
    IsScalarDecl _ = Prim.Unit {0}

    declared-scalar : (s : Span) (xs : List PSubind) (k : ℕ) → AreScalar xs → AllByRecursion IsScalarDecl (variables_declared g s xs k)
    declared-scalar s [] k h = tt
    declared-scalar s (x ∷ xs) k h = (h.0, declared-scalar s xs (k + 1) h.1)

    more-scalar : (s : Span) (xs : List PSubind) (vars : List PDecl) → AreScalar xs → AllByRecursion IsScalarDecl vars → AllByRecursion IsScalarDecl (more_variables u s xs vars)
    more-scalar s xs vars h k = all_joined IsScalarDecl vars (variables_declared g s xs (length vars)) k (declared-scalar s xs (length vars) h)

    statement-scalar : (vars : List PDecl) (x : PStmt) → AllByRecursion IsScalarDecl vars → AllByRecursion IsScalarDecl (statement_variables u vars x)
    statement-scalar vars (SCall c s) h = more-scalar s _ vars (call-scalar s c) h
    statement-scalar vars (SConditional c b o s) h = more-scalar s _ vars (select-scalar s c) h
    statement-scalar vars (STimed c b d a s) h = more-scalar s _ vars (select-scalar s c) h
    statement-scalar vars (SAccept a s) h = more-scalar s _ vars (accept-scalar s (head_of a)) h
    statement-scalar vars (SAbort cs s) h = more-scalar s _ vars (aborts-scalar s cs) h
    statement-scalar vars (SWait x o s) h = h
    statement-scalar vars (SNull s) h = h
    statement-scalar vars (SAssign x e s) h = h
    statement-scalar vars (SDelay d s) h = h
    statement-scalar vars (SExit w e s) h = h
    statement-scalar vars (SRaise w s) h = h
    statement-scalar vars (SPut ps s) h = h
    statement-scalar vars (SPutLine ps s) h = h
    statement-scalar vars (SNewLine s) h = h
    statement-scalar vars (SGet x s) h = h
    statement-scalar vars (SIf x o s) h = h
    statement-scalar vars (SCase e x o s) h = h
    statement-scalar vars (SBlock b s) h = h
    statement-scalar vars (SLoop w c l s) h = h

    -- the variables of a unit are scalar
    pub unit-scalar : (b : PBody) → AllByRecursion IsScalarDecl (unit_variables u b)
    unit-scalar b = body-keeps (normal_rewriter u) (normal_rewriter u) (λ v w. AllByRecursion IsScalarDecl v) (λ v w x h. statement-scalar v x h) (λ v w x h. more-scalar _ _ v (alternative-scalar x) h) b [] [] tt
