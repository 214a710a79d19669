-- What the objects of a body and the variables behind them leave as it is: names of tasks, of the language and of literals.
use Rattle.std.proofs.Common.{◌≡◌, ℕ, ℤ, Bool, true, false, ◌||◌, ◌&&◌, ◌==◌, List, [], ◌∷◌, ◌++◌, is_some, Option, Some, None, refl, sym, ap, ◌∙◌, subst, true≢false}
use Rattle.std.specs.List.{AllByRecursion}
use Rattle.std.proofs.lemmas.List.Elements.{recursion_from_All}
use Rattle.common_lemmas.proofs.Lists.{all_front, all_back, all_weaker}
use Rattle.common_lemmas.proofs.Truth.{clash}
use Rattle.ada_tree.specs.declared.naming.NameId.{NameId}
use Rattle.ada_tree.specs.declared.naming.Span.{Span}
use Rattle.ada_tree.specs.declared.naming.Word.{Word}
use Rattle.ada_tree.specs.PlainExpr.{PSubind}
use Rattle.ada_tree.specs.PlainDecl.{PShape, PInit, PDecl, DNumber, DObject, DEnumeration, DArray, DSubtype, DException, DIntIo, DPragma, DTask, DTaskBody, PDecls, no_decl, decl_then, decls_of}
use Rattle.ada_tree.specs.Every.{EveryWord, EveryDecl, EveryDecls}
use Rattle.ada_static_rules.specs.Scope.{Scope, Thing, TypeMark, TaskType, SingleTask, TaskObject, TaskArray, Variable, ConstantObject, Parameter, LoopParameter, Literal, AnException, MainProcedure, AnotherUnit, Unclear, EntryPart, meaning}
use Rattle.ada_static_rules.specs.StaticValue.{value_named, mark_named}
use Rattle.ada_static_rules.specs.Demand.{Site}
use Rattle.ada_static_rules.specs.Sites.{if_there, names_sites, shape_sites, init_sites, object_marking, is_task_object, own_object_sites, own_sites}
use Rattle.ada_static_rules.specs.Declaring.{with_names, with_types, with_constants, Declared, declared_object, after_object, after_own_object, after_objects}
use Rattle.ada_static_rules.specs.RuleDuplicate.{is_predefined}
use Rattle.syn_event.specs.declared.numbering.TaskInfo.{TaskInfo}
use Rattle.task_model.specs.Setting.{Setting}
use Rattle.normal_model.specs.Names.{variable_name, member_name, task_name}
use Rattle.normal_model.specs.Variables.{variable_declared}
use Rattle.normal_model.specs.NormalTree.{tasks_beside}
use Rattle.normal_laws.specs.structure.asked.Pieces.{IsAmong}
use Rattle.task_laws.proofs.legal.rewritten_types.Adding.{names-main}
use Rattle.task_laws.specs.legal.rewritten_values.Values.{old_names}
use Rattle.task_laws.specs.legal.sites.Met.{IsMet}
use Rattle.task_laws.proofs.legal.types.GoodScopes.{names-kept}
use Rattle.task_laws.proofs.legal.types.InnerScopes.{IsApartLocal, AreApart}
use Rattle.normal_laws.proofs.existence.seen_tasks.Scopes.{is_one_of, meaning-out, meaning-in, IsNoTask, inner-object}
use Rattle.normal_laws.specs.structure.typed.ScopeOf.{IsSeenWith, IsInnerName, IsInner}
use Rattle.normal_laws.proofs.structure.typed.Scopes.{differ, once-new}

module _ (g : Setting) (old : ℕ → Bool) where
  -- a name that an inner scope declares
  pub record IsLocal (id : NameId) : Type 0 where
    pub inner : IsInnerName g id
    pub mark : mark_named g.types id ≡ None
    pub mine : old id.0 ≡ true
    pub new : is_predefined id.0 ≡ false

  -- a name that no inner scope declares
  abbrev pub IsOuter : NameId → Type 0
  IsOuter id = (x : NameId) → IsLocal x → (x.0 == id.0) ≡ false

  pub outer-new : (id : NameId) → old id.0 ≡ false → IsOuter id
  outer-new id e x i = differ old x.0 id.0 true false i.mine e true≢false

  pub outer-task : (info : TaskInfo) → IsAmong info (tasks_beside g) → ((z : ℤ) → info.member ≡ Some z → old (task_name g info).0 ≡ false) → IsOuter (task_name g info)
  outer-task info among new x i = by_member info.member refl
    where
      by_member : (m : Option ℤ) → info.member ≡ m → (x.0 == (task_name g info).0) ≡ false
      by_member None e = ap (λ m. x.0 == (member_name g info.name m).0) e ∙ i.inner.tasks info among e
      by_member (Some z) e = differ old x.0 (task_name g info).0 true false i.mine (new z e) true≢false

  pub outer-predefined : (n : ℕ) → is_predefined n ≡ true → IsOuter (record { 0 = n })
  outer-predefined n e x i = differ is_predefined x.0 n false true i.new e clash

  pub outer-valued : (id : NameId) → is_some (value_named g.types id) ≡ true → IsOuter id
  outer-valued id e x i = differ (λ m. is_some (value_named g.types (record { 0 = m }))) x.0 id.0 false true (ap is_some i.inner.value) e clash

  pub outer-marked : (id : NameId) → is_some (mark_named g.types id) ≡ true → IsOuter id
  outer-marked id e x i = differ (λ m. is_some (mark_named g.types (record { 0 = m }))) x.0 id.0 false true (ap is_some i.mark) e clash

  -- ---- objects of a body

  -- the objects have such names
  abbrev pub AreLocal : PDecls → Type 0
  AreLocal no_decl = Unit {0}
  AreLocal (decl_then (DObject ws constant x init s) rest) = AllByRecursion (λ (w : Word). IsLocal w.name) ws × AreLocal rest
  AreLocal (decl_then _ rest) = AreLocal rest

  -- what a name means that is outer, behind them
  pub objects-stay : (ds : PDecls) (s : Scope) (id : NameId) → AreLocal ds → IsOuter id → meaning (after_objects s ds) id ≡ meaning s id
  objects-stay no_decl s id h o = refl
  objects-stay (decl_then (DObject ws c x i sp) rest) s id h o =
      objects-stay rest (after_object s ws c x i) id h.1 o ∙ names-kept _ ws (with_types _ s) id (all_weaker (λ (w : Word). IsLocal w.name) (λ (w : Word). (w.name.0 == id.0) ≡ false) ws (λ w k. o w.name k) h.0)
  objects-stay (decl_then (DNumber w e sp) rest) s id h o = objects-stay rest s id h o
  objects-stay (decl_then (DEnumeration w ws sp) rest) s id h o = objects-stay rest s id h o
  objects-stay (decl_then (DArray w q x sp) rest) s id h o = objects-stay rest s id h o
  objects-stay (decl_then (DSubtype w x sp) rest) s id h o = objects-stay rest s id h o
  objects-stay (decl_then (DException ws sp) rest) s id h o = objects-stay rest s id h o
  objects-stay (decl_then (DIntIo w sp) rest) s id h o = objects-stay rest s id h o
  objects-stay (decl_then (DPragma e sp) rest) s id h o = objects-stay rest s id h o
  objects-stay (decl_then (DTask u sp) rest) s id h o = objects-stay rest s id h o
  objects-stay (decl_then (DTaskBody w os its sp) rest) s id h o = objects-stay rest s id h o

  -- that they have such names, where nothing is refused
  words-local : (ws : List Word) (s : Scope) → AllByRecursion (λ (w : Word). old w.name.0 ≡ true) ws → AllByRecursion IsMet (names_sites false s ws) → AllByRecursion (λ (x : Site). IsInner g x.demand) (names_sites false s ws) → AreApart g.types (names_sites false s ws) → AllByRecursion (λ (w : Word). IsLocal w.name) ws
  words-local [] s o h k a = tt
  words-local (w ∷ ws) s o h k a = (record { inner = k.0; mark = a.0.mark; mine = o.0; new = once-new h.0.before s w h.0.once }, words-local ws _ o.1 h.1 k.1 a.1)

  object-local : (ws : List Word) (c : Bool) (x : PShape) (i : Option PInit) (sp : Span) (s : Scope) → s.in_main ≡ false → EveryDecl (old_names old) (DObject ws c x i sp) →
      AllByRecursion IsMet (own_object_sites s (DObject ws c x i sp)) → AllByRecursion (λ (y : Site). IsInner g y.demand) (own_object_sites s (DObject ws c x i sp)) → AreApart g.types (own_object_sites s (DObject ws c x i sp)) → AllByRecursion (λ (w : Word). IsLocal w.name) ws
  object-local ws c x i sp s main every met inner apart =
      words-local ws s (recursion_from_All (EveryWord (old_names old)) ws every.1.1)
      (subst (λ b. AllByRecursion IsMet (names_sites (b && fixed) s ws)) main (all_front IsMet first second (all_front IsMet (first ++ second) third met)))
      (subst (λ b. AllByRecursion Inner (names_sites (b && fixed) s ws)) main (all_front Inner first second (all_front Inner (first ++ second) third inner)))
      (subst (λ b. AreApart g.types (names_sites (b && fixed) s ws)) main (all_front Away first second (all_front Away (first ++ second) third apart)))
    where
      Inner : Site → Type 0
      Inner y = IsInner g y.demand

      Away : Site → Type 0
      Away y = IsApartLocal g.types y.demand

      d : Declared
      d = declared_object s c x

      fixed : Bool
      fixed = c || is_task_object d.thing

      first : List Site
      first = names_sites (s.in_main && fixed) s ws

      second : List Site
      second = shape_sites s c x i

      third : List Site
      third = if_there (init_sites s d.types (object_marking d)) i

  pub objects-local : (ds : PDecls) (s : Scope) → s.in_main ≡ false → EveryDecls (old_names old) ds → AllByRecursion IsMet (own_sites s ds) → AllByRecursion (λ (y : Site). IsInner g y.demand) (own_sites s ds) → AreApart g.types (own_sites s ds) → AreLocal ds
  objects-local no_decl s main every met inner apart = tt
  objects-local (decl_then (DObject ws c x i sp) rest) s main every met inner apart =
      let one = own_object_sites s (DObject ws c x i sp) in
      let more = own_sites (after_object s ws c x i) rest in (
        object-local ws c x i sp s main every.0 (all_front IsMet one more met) (all_front (λ (y : Site). IsInner g y.demand) one more inner) (all_front (λ (y : Site). IsApartLocal g.types y.demand) one more apart),
        objects-local rest (after_object s ws c x i) (names-main _ ws (with_types _ s) ∙ main) every.1 (all_back IsMet one more met) (all_back (λ (y : Site). IsInner g y.demand) one more inner) (all_back (λ (y : Site). IsApartLocal g.types y.demand) one more apart),
      )
  objects-local (decl_then (DNumber w e sp) rest) s main every met inner apart = objects-local rest s main every.1 met inner apart
  objects-local (decl_then (DEnumeration w ws sp) rest) s main every met inner apart = objects-local rest s main every.1 met inner apart
  objects-local (decl_then (DArray w q x sp) rest) s main every met inner apart = objects-local rest s main every.1 met inner apart
  objects-local (decl_then (DSubtype w x sp) rest) s main every met inner apart = objects-local rest s main every.1 met inner apart
  objects-local (decl_then (DException ws sp) rest) s main every met inner apart = objects-local rest s main every.1 met inner apart
  objects-local (decl_then (DIntIo w sp) rest) s main every met inner apart = objects-local rest s main every.1 met inner apart
  objects-local (decl_then (DPragma e sp) rest) s main every met inner apart = objects-local rest s main every.1 met inner apart
  objects-local (decl_then (DTask u sp) rest) s main every met inner apart = objects-local rest s main every.1 met inner apart
  objects-local (decl_then (DTaskBody w os its sp) rest) s main every met inner apart = objects-local rest s main every.1 met inner apart

  -- ---- variables

  -- what a name means that is no variable's, behind declarations of variables
  abbrev pub IsVariableDecl : NameId → PDecl → Type 0
  IsVariableDecl id d = (s : Scope) → meaning (after_own_object s d) id ≡ meaning s id

  pub variable-stays : (id : NameId) → ((k : ℕ) → ((variable_name g k).0 == id.0) ≡ false) → (sp : Span) (x : PSubind) (k : ℕ) → IsVariableDecl id (variable_declared g sp x k)
  variable-stays id apart sp x k s = names-kept _ (record { name = variable_name g k; span = sp } ∷ []) s id (apart k, tt)

  pub variables-stay : (id : NameId) (xs : List PDecl) → AllByRecursion (IsVariableDecl id) xs → (s : Scope) → meaning (after_objects s (decls_of xs)) id ≡ meaning s id
  variables-stay id [] h s = refl
  variables-stay id (d ∷ xs) h s = variables-stay id xs h.1 (after_own_object s d) ∙ h.0 s

-- ---- how a task is seen in a body

-- what is no task is seen as any
seen-so : (es : List EntryPart) (th : Thing) → IsNoTask th → IsSeenWith es (Some th)
seen-so es (TypeMark m) h = tt
seen-so es (Variable m) h = tt
seen-so es (ConstantObject m) h = tt
seen-so es (Parameter mode m) h = tt
seen-so es (LoopParameter m) h = tt
seen-so es (Literal k) h = tt
seen-so es (AnException) h = tt
seen-so es (AnotherUnit) h = tt
seen-so es (Unclear) h = tt
seen-so es (TaskType xs) h = absurd h
seen-so es (SingleTask xs) h = absurd h
seen-so es (TaskObject xs) h = absurd h
seen-so es (TaskArray range xs) h = absurd h
seen-so es (MainProcedure) h = absurd h

-- behind the objects of a body a task is seen as before it, or not at all
object-seen : (es : List EntryPart) (th : Thing) (ws : List Word) (s : Scope) (id : NameId) → IsNoTask th → IsSeenWith es (meaning s id) → IsSeenWith es (meaning (with_names th s ws) id)
object-seen es th ws s id free h = by_test (is_one_of ws id) refl
  where
    by_test : (b : Bool) → is_one_of ws id ≡ b → IsSeenWith es (meaning (with_names th s ws) id)
    by_test true e = subst (IsSeenWith es) (sym (meaning-in th ws s id e)) (seen-so es th free)
    by_test false e = subst (IsSeenWith es) (sym (meaning-out th ws s id e)) h

pub objects-seen : (es : List EntryPart) (ds : PDecls) (s : Scope) (id : NameId) → s.in_main ≡ false → IsSeenWith es (meaning s id) → IsSeenWith es (meaning (after_objects s ds) id)
objects-seen es no_decl s id main h = h
objects-seen es (decl_then (DObject ws c x i sp) rest) s id main h =
    objects-seen es rest (after_object s ws c x i) id (names-main _ ws (with_types _ s) ∙ main)
    (object-seen es (declared_object s c x).thing ws (with_types (with_constants s ws i (declared_object s c x)) s) id (inner-object s c x main) h)
objects-seen es (decl_then (DNumber w e sp) rest) s id main h = objects-seen es rest s id main h
objects-seen es (decl_then (DEnumeration w ws sp) rest) s id main h = objects-seen es rest s id main h
objects-seen es (decl_then (DArray w q x sp) rest) s id main h = objects-seen es rest s id main h
objects-seen es (decl_then (DSubtype w x sp) rest) s id main h = objects-seen es rest s id main h
objects-seen es (decl_then (DException ws sp) rest) s id main h = objects-seen es rest s id main h
objects-seen es (decl_then (DIntIo w sp) rest) s id main h = objects-seen es rest s id main h
objects-seen es (decl_then (DPragma e sp) rest) s id main h = objects-seen es rest s id main h
objects-seen es (decl_then (DTask u sp) rest) s id main h = objects-seen es rest s id main h
objects-seen es (decl_then (DTaskBody w os its sp) rest) s id main h = objects-seen es rest s id main h
