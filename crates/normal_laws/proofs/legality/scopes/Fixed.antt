-- What types, constants, literals and exceptions of a legal program mean they mean in its normal form too.
use Rattle.std.proofs.Common.{◌≡◌, ℕ, pos, ◌<◌, true, false, ◌==◌, List, [], ◌∷◌, slice_get, option_map, Option, Some, None, ◌⊎◌, inl, inr, refl, sym, ap, ◌∙◌, subst, true≢false, arith}
use Rattle.std.specs.List.{AllByRecursion}
use Rattle.common_lemmas.proofs.Lists.{all_weaker}
use Rattle.common_lemmas.proofs.Numbers.{unequal, lt_true}
use Rattle.common_lemmas.proofs.Options.{some_same, not_missing}
use Rattle.ada_tree.specs.declared.naming.NameId.{NameId}
use Rattle.ada_tree.specs.declared.static_types.Kind.TheVariants.{Enumeration}
use Rattle.ada_tree.specs.TypeTable.{TypeTable}
use Rattle.ada_tree.specs.PlainDecl.{PDecl, decls_of}
use Rattle.ada_tree.specs.PlainProgram.{PProgram}
use Rattle.ada_static_rules.specs.Refusals.{types_in}
use Rattle.ada_static_rules.specs.Scope.{Scope, Thing, TypeMark, TaskType, SingleTask, TaskObject, TaskArray, Variable, ConstantObject, Parameter, LoopParameter, Literal, AnException, MainProcedure, AnotherUnit, Unclear, EntryPart, meaning, kind_at}
use Rattle.ada_static_rules.specs.Declaring.{before_all, first_scope, after_decl, after_decls}
use Rattle.ada_static_rules.specs.RuleDuplicate.{is_predefined}
use Rattle.syn_event.specs.declared.numbering.TaskInfo.{TaskInfo}
use Rattle.syn_event.specs.NamedTasks.{task_names_of}
use Rattle.ada_value.specs.Values.{word, placed}
use Rattle.normal_model.specs.Names.{variable_name, task_name}
use Rattle.normal_model.specs.NormalTree.{tasks_beside, main_unit, main_variables}
use Rattle.task_laws.specs.legal.rewritten_types.Agreement.{literal_named}
use Rattle.task_laws.specs.legal.rewritten_types.Agreement as agreement
use Rattle.task_laws.proofs.legal.rewritten_types.Fresh.{first-here}
use Rattle.task_laws.proofs.legal.types.TypedValues.{IsOf}
use Rattle.task_laws.proofs.legal.types.GoodScopes.{names-kept}
use Rattle.task_laws.proofs.legal.types.GoodDeclarations.{literal-read}
use Rattle.task_laws.proofs.legal.types.MainScopes.{StandsWhole, main-stands, last-stands}
use Rattle.task_laws.proofs.legal.literals.Named.{AreFirst, first-decls, first-predefined}
use Rattle.normal_laws.proofs.structure.types.Variables.{unit-all}
use Rattle.normal_laws.specs.existence.Laws.{IsLegalOriginal}
use Rattle.task_laws.specs.legal.alike_scopes.Alike.{IsNoValue, no_thing, a_task_type, a_task, a_task_object, a_task_array, the_procedure, a_unit}
use Rattle.normal_laws.specs.legality.scopes.Plain.{plain_name}
use Rattle.normal_laws.proofs.legality.scopes.Later.{decls-kept}
use Rattle.normal_laws.proofs.legality.scopes.Kept.{IsKept, is_same, is_none}
use Rattle.normal_laws.proofs.legality.scopes.Seeing.{HasEntries, entries_in}
use Rattle.normal_laws.proofs.legality.scopes.Names.{variable-new}
use Rattle.normal_laws.proofs.legality.scopes.Plain.{predefined-plain, meant-old}
use Rattle.normal_laws.proofs.legality.scopes.Formed.{HasUnit, tasks-other}
use Rattle.normal_laws.proofs.legality.scopes.Main.{g, old, last, first, once, every, last-placed, units, varied, tasked}

-- ---- things

-- a type, an object, a literal or an exception
abbrev pub IsValue : Thing → Type 0
IsValue (TypeMark m) = Unit {0}
IsValue (Variable m) = Unit {0}
IsValue (ConstantObject m) = Unit {0}
IsValue (Literal k) = Unit {0}
IsValue AnException = Unit {0}
IsValue _ = ⊥

value-not : (a : Option Thing) (x : Thing) → IsNoValue a → a ≡ Some x → IsValue x → ⊥
value-not a x (no_thing e) f h = not_missing x (sym e ∙ f)
value-not a x (a_task_type es e) f h = subst IsValue (some_same (sym f ∙ e)) h
value-not a x (a_task es e) f h = subst IsValue (some_same (sym f ∙ e)) h
value-not a x (a_task_object es e) f h = subst IsValue (some_same (sym f ∙ e)) h
value-not a x (a_task_array range es e) f h = subst IsValue (some_same (sym f ∙ e)) h
value-not a x (the_procedure e) f h = subst IsValue (some_same (sym f ∙ e)) h
value-not a x (a_unit e) f h = subst IsValue (some_same (sym f ∙ e)) h

value-kept : (a b : Option Thing) (x : Thing) → IsKept a b → a ≡ Some x → IsValue x → b ≡ Some x
value-kept a b x (is_same e) f h = sym e ∙ f
value-kept a b x (is_none n m) f h = absurd (value-not a x n f h)

no-entries : (es : List EntryPart) (x : Thing) → HasEntries es x → IsValue x → ⊥
no-entries es (SingleTask xs) h v = v
no-entries es (TaskObject xs) h v = v
no-entries es (TaskArray range xs) h v = v
no-entries es (TypeMark m) h v = h
no-entries es (TaskType xs) h v = h
no-entries es (Variable m) h v = h
no-entries es (ConstantObject m) h v = h
no-entries es (Parameter mode m) h v = h
no-entries es (LoopParameter m) h v = h
no-entries es (Literal k) h v = h
no-entries es AnException h v = h
no-entries es MainProcedure h v = h
no-entries es AnotherUnit h v = h
no-entries es Unclear h v = h

-- what is such a thing is seen as no task
seen-apart : (o : Option Thing) (x : Thing) (es : List EntryPart) → o ≡ Some x → IsValue x → ((th : Thing) × (o ≡ Some th) × HasEntries es th) ⊎ (o ≡ None) → ⊥
seen-apart o x es e v (inl s) = no-entries es x (subst (HasEntries es) (some_same (sym s.1 ∙ e)) s.2) v
seen-apart o x es e v (inr n) = not_missing x (sym n ∙ e)

module _ (p : PProgram) (legal : IsLegalOriginal p) where
  -- ---- variables of main

  pub apart-variable : (id : NameId) → plain_name p id.0 ≡ true → (k : ℕ) → ((variable_name (g p legal) k).0 == id.0) ≡ false
  apart-variable id o k = unequal (variable_name (g p legal) k).0 id.0 (λ e. true≢false (sym o ∙ ap (plain_name p) (sym e) ∙ variable-new (g p legal) k))

  abbrev IsPassed : NameId → PDecl → Type 0
  IsPassed id d = (t : Scope) → meaning (after_decl t d) id ≡ meaning t id

  passed-list : (id : NameId) (xs : List PDecl) → AllByRecursion (IsPassed id) xs → (t : Scope) → meaning (after_decls t (decls_of xs)) id ≡ meaning t id
  passed-list id [] h t = refl
  passed-list id (d ∷ xs) h t = passed-list id xs h.1 (after_decl t d) ∙ h.0 t

  pub varied-means : (id : NameId) → ((k : ℕ) → ((variable_name (g p legal) k).0 == id.0) ≡ false) → meaning (varied p legal) id ≡ meaning (first p legal) id
  varied-means id apart =
      passed-list id (main_variables (g p legal))
      (unit-all (IsPassed id) (main_unit (g p legal)) (λ sp x k t. names-kept _ (record { name = variable_name (g p legal) k; span = sp } ∷ []) t id (apart k, tt)) p.body) (first p legal)

  -- ---- what stays

  -- What a type, an object, a literal or an exception of main means it means behind the tasks of the normal form.
  pub fixed-there : (id : NameId) (x : Thing) → plain_name p id.0 ≡ true → meaning (last p legal) id ≡ Some x → IsValue x → meaning (tasked p legal) id ≡ Some x
  fixed-there id x o e v =
      tasks-other (old p legal) (g p legal) (last p legal) (first p legal) (task_names_of p) (last-placed p legal) (tasks_beside (g p legal)) (units p legal) (varied p legal) id
      (all_weaker (HasUnit (old p legal) (g p legal) (last p legal) (first p legal) (task_names_of p)) _ (tasks_beside (g p legal)) (λ info h. apart info h) (units p legal))
      ∙ varied-means id (apart-variable id o)
      ∙ value-kept (meaning (last p legal) id) (meaning (first p legal) id) x ((last-placed p legal).beside.kept id) e v
    where
      apart : (info : TaskInfo) → HasUnit (old p legal) (g p legal) (last p legal) (first p legal) (task_names_of p) info → ((task_name (g p legal) info).0 == id.0) ≡ false
      apart info h = unequal (task_name (g p legal) info).0 id.0 same
        where
          same : (task_name (g p legal) info).0 ≡ id.0 → ⊥
          same q =
              let own : info.name.0 ≡ id.0 = sym (h.name (ap (plain_name p) q ∙ o)) ∙ q in
              let means : meaning (last p legal) info.name ≡ Some x = ap (λ n. meaning (last p legal) record { 0 = n }) own ∙ e in
              seen-apart (meaning (last p legal) info.name) x (entries_in (last p legal) h.unit) means v (h.seen (last p legal) (last-placed p legal))

  -- ---- names of the language

  -- what a predefined name means before all declarations it means behind them
  pub predefined-there : (k : ℕ) (x : Thing) → k < 18 → meaning before_all (record { 0 = k }) ≡ Some x → IsValue x → meaning (tasked p legal) (record { 0 = k }) ≡ Some x
  predefined-there k x l e v =
      fixed-there (record { 0 = k }) x (predefined-plain p legal.names k (omega (arith, l)))
      (decls-kept p.decls (first_scope p.name) (first-here p.name) (once p legal).1 (record { 0 = k }) x
      (names-kept MainProcedure (p.name ∷ []) before_all (record { 0 = k }) (unequal p.name.name.0 k (λ q. not-main q), tt) ∙ e)) v
    where
      not-main : p.name.name.0 ≡ k → ⊥
      not-main q = true≢false (sym (lt_true k 18 l) ∙ ap is_predefined (sym q) ∙ (once p legal).0.0)

  -- ---- literals

  -- the name of a literal means it
  pub literal-means : (k : ℕ) (ids : List NameId) → kind_at (types_in p) k ≡ Some (Enumeration ids) → (i : ℕ) (id : NameId) → slice_get ids i ≡ Some id → meaning (last p legal) id ≡ Some (Literal k)
  literal-means k ids e i id at = m.1 ∙ ap (λ j. Some (Literal j)) (sym m.2.kind ∙ (legal.small.kinds k (Enumeration ids) e).1)
    where
      T : TypeTable
      T = types_in p

      stands : StandsWhole T (last p legal)
      stands = last-stands p legal.legal.type_rules legal.placed legal.small

      among : AreFirst T
      among = first-decls T p.decls (first_scope p.name) (main-stands p legal.legal.type_rules legal.placed legal.small) (first-here p.name) (once p legal).1 first-predefined

      read : literal_named stands.stands.root id ≡ Some record { kind = k; position = i }
      read = sym (stands.whole.literals id) ∙ among k ids e i id at

      m : (j : ℕ) × (meaning (last p legal) id ≡ Some (Literal j)) × IsOf stands.stands.root j (placed (word k) (pos i))
      m = stands.stands.over.literals id (placed (word k) (pos i)) (literal-read stands.stands.root.kinds 0 id ∙ ap (option_map (λ (y : agreement.Literal). placed (word y.kind) (pos y.position))) read)

  pub literal-plain : (id : NameId) (x : Thing) → meaning (last p legal) id ≡ Some x → plain_name p id.0 ≡ true
  literal-plain id x e = meant-old (plain_name p) (λ k l. predefined-plain p legal.names k (omega (arith, l))) p.name p.decls (every p legal).0 (every p legal).2 id x e

  pub literal-there : (k : ℕ) (ids : List NameId) → kind_at (types_in p) k ≡ Some (Enumeration ids) → (i : ℕ) (id : NameId) → slice_get ids i ≡ Some id → meaning (tasked p legal) id ≡ Some (Literal k)
  literal-there k ids e i id at = let m = literal-means k ids e i id at in fixed-there id (Literal k) (literal-plain id (Literal k) m) m tt
