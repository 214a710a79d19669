-- What stands around the copy of a task's body in the normal form is as around the body in the program.
use Rattle.std.proofs.Common.{◌≡◌, ℕ, ◌<◌, ◌==◌, pos, Bool, true, false, if◌then◌else◌, List, [], slice_get, unwrap_or, Option, Some, None, is_some, option_map, refl, sym, ap, subst, ◌∙◌, true≢false, arith}
use Rattle.ada_tree.specs.declared.naming.NameId.{NameId}
use Rattle.ada_tree.specs.declared.naming.Span.{Span}
use Rattle.ada_tree.specs.declared.naming.Word.{Word}
use Rattle.ada_tree.specs.declared.static_types.Kind.{Kind}
use Rattle.ada_tree.specs.declared.static_types.Kind.TheVariants.{Enumeration}
use Rattle.ada_tree.specs.declared.static_types.Constant.{Constant}
use Rattle.ada_tree.specs.TypeTable.{TypeTable}
use Rattle.ada_tree.specs.Attributes.{false_name, true_name}
use Rattle.ada_tree.specs.PlainStmt.{PBody}
use Rattle.ada_tree.specs.PlainDecl.{PDecls}
use Rattle.ada_tree.specs.PlainProgram.{PProgram}
use Rattle.ada_static_rules.specs.StaticValue.{value_named, constant_named, literal_position, position_in, first_of_two}
use Rattle.ada_static_rules.specs.RuleDuplicate.{is_predefined}
use Rattle.syn_event.specs.declared.numbering.TaskInfo.{TaskInfo}
use Rattle.syn_event.specs.declared.meanings.Meant.{Meant}
use Rattle.syn_event.specs.declared.meanings.Meant.TheVariants.{MainProcedure, TaskType, TaskOf, Shared, Inner}
use Rattle.syn_event.specs.CheckScope.{CheckScope, meaning}
use Rattle.syn_event.specs.CheckSites as check
use Rattle.syn_event.specs.Extents.{fixed}
use Rattle.syn_event.specs.RuleAcceptPlace.{is_among, is_own_entry}
use Rattle.syn_event.specs.RuleSharedVariable.{shared_name}
use Rattle.task_model.specs.Setting.{Setting}
use Rattle.normal_model.specs.Names.{task_name}
use Rattle.normal_model.specs.Ranges.{word_at}
use Rattle.normal_model.specs.NormalTree.{tasks_beside}
use Rattle.normal_laws.specs.runs.forms.Normalisable.{numbers_of, setting_for, made_for}
use Rattle.normal_laws.specs.existence.Laws.{IsLegalOriginal}
use Rattle.normal_laws.specs.structure.asked.Pieces.{IsAmong, first_among, later_among}
use Rattle.normal_laws.specs.structure.checked.Around.{IsLiteralOf, is_false, is_true, is_enumerated, IsAround}
use Rattle.normal_laws.proofs.structure.checked.MainScopes.{IsFrameOf, decls-frame, decls-plain, name-free, normal-types}
use Rattle.common_lemmas.proofs.Lists.{not_empty, found_some}
use Rattle.normal_laws.proofs.structure.entries.Lists.{found-place}
use Rattle.common_lemmas.proofs.Numbers.{equal_self}
use Rattle.normal_laws.proofs.legality.checks.Bodies.{IsBodyAt}
use Rattle.normal_laws.proofs.legality.checks.Beside.{IsSharedName}
use Rattle.normal_laws.proofs.legality.checks.Units.{entry_names, copy-entries}
use Rattle.normal_laws.proofs.legality.checks.Later.{later-shared}
use Rattle.normal_laws.proofs.legality.checks.Fixed.{fixed-same}
use Rattle.normal_laws.proofs.legality.checks.Facts as facts
use Rattle.normal_laws.proofs.existence.units.Conforms.{objects-check-own}

-- ---- names

-- what is no shared variable is free to be used
pub not-shared : (o : Option Meant) (s : Span) → (o ≡ Some Shared → ⊥) → shared_name o s ≡ []
not-shared (Some Shared) s h = absurd (h refl)
not-shared (Some MainProcedure) s h = refl
not-shared (Some TaskType) s h = refl
not-shared (Some (TaskOf x)) s h = refl
not-shared (Some Inner) s h = refl
not-shared None s h = refl

-- ---- literals

-- a literal has a position
pub place-there : (ids : List NameId) (k : ℕ) (id : NameId) → slice_get ids k ≡ Some id → is_some (position_in id (Enumeration ids)) ≡ true
place-there ids k id e =
    let f = found_some (λ (x : NameId). x.0 == id.0) ids k id e (equal_self id.0) in
    let place = found-place (λ (x : NameId). x.0 == id.0) ids f.0 f.1 in
    ap (λ o. is_some o) place.2

pub kinds-there : (ids : List NameId) (id : NameId) (xs : List Kind) → IsAmong (Enumeration ids) xs → is_some (position_in id (Enumeration ids)) ≡ true → is_some (literal_position xs id) ≡ true
kinds-there ids id _ (first_among xs) e = by_place (position_in id (Enumeration ids)) e
  where
    by_place : (o : Option ℕ) → is_some o ≡ true → is_some (first_of_two o (literal_position xs id)) ≡ true
    by_place (Some k) f = refl
    by_place None f = absurd (true≢false (sym f))
kinds-there ids id _ (later_among x xs i) e = by_place (position_in id x) (kinds-there ids id xs i e)
  where
    by_place : (o : Option ℕ) → is_some (literal_position xs id) ≡ true → is_some (first_of_two o (literal_position xs id)) ≡ true
    by_place (Some k) f = refl
    by_place None f = f

-- and a name that has a position has a value
pub has-value : (T : TypeTable) (id : NameId) → is_some (literal_position T.kinds id) ≡ true → is_some (value_named T id) ≡ true
has-value T id h = by_tests (id.0 == false_name) (id.0 == true_name) (constant_named T id) (literal_position T.kinds id) h
  where
    by_tests : (a b : Bool) (c : Option Constant) (o : Option ℕ) → is_some o ≡ true → is_some (if a then Some (pos 0) else if b then Some (pos 1) else first_of_two (option_map (λ (x : Constant). x.value) c) (option_map (λ k. pos k) o)) ≡ true
    by_tests true b c o g = refl
    by_tests false true c o g = refl
    by_tests false false (Some x) o g = refl
    by_tests false false None (Some k) g = refl
    by_tests false false None None g = absurd (true≢false (sym g))

module _ (p : PProgram) (h : IsLegalOriginal p) where
  abbrev g : Setting
  g = setting_for p

  abbrev n : PProgram
  n = made_for p

  -- what stands around behind all declarations of the normal form
  abbrev pub whole : CheckScope
  whole = check.after_decls (check.first_around (facts.U p h) n.name) n.decls

  module _ (w : Word) (objects : PDecls) (its : PBody) (at : IsBodyAt p (facts.own p h) (facts.T p h) (facts.U p h) n.names (facts.agree p h) (facts.alike p h) (check.body_names p.decls) (facts.behind_firsts p h) w objects its) where
    -- an own name that is shared in the normal form
    shared-there : (id : NameId) → facts.own p h id.0 ≡ true → meaning whole id ≡ Some Shared → IsSharedName (facts.own p h) (facts.T p h) (facts.U p h) (facts.alike p h) at.scope at.around id
    shared-there id o e = at.shared id (later-shared p (facts.T p h) (numbers_of p) (check.first_around (facts.U p h) p.name) id o e)

    -- a name with a value is none
    pub values-free : (id : NameId) (s : Span) → is_some (value_named (facts.T p h) id) ≡ true → shared_name (meaning whole id) s ≡ []
    values-free id s v = not-shared (meaning whole id) s (λ e. true≢false (sym v ∙ ap (λ o. is_some o) (shared-there id (facts.valued-own p h id v) e).free))

    first-free : (k : ℕ) (s : Span) → k < 18 → is_predefined k ≡ true → shared_name (meaning whole (record { 0 = k })) s ≡ []
    first-free k s l e = not-shared (meaning whole (record { 0 = k })) s (λ q. true≢false (sym e ∙ (shared-there (record { 0 = k }) (facts.first-own p h k l) q).new))

    literals-free : (id : NameId) (s : Span) → IsLiteralOf g id → shared_name (meaning whole id) s ≡ []
    literals-free id s (is_false e) = subst (λ (x : NameId). shared_name (meaning whole x) s ≡ []) (sym e) (first-free false_name s (omega arith) refl)
    literals-free id s (is_true e) = subst (λ (x : NameId). shared_name (meaning whole x) s ≡ []) (sym e) (first-free true_name s (omega arith) refl)
    literals-free id s (is_enumerated ids k i e) = subst (λ (x : NameId). shared_name (meaning whole x) s ≡ []) (sym e) (go (slice_get ids k) refl)
      where
        go : (o : Option NameId) → slice_get ids k ≡ o → shared_name (meaning whole (unwrap_or o (record { 0 = 0 }))) s ≡ []
        go None f = first-free 0 s (omega arith) refl
        go (Some x) f = values-free x s (has-value (facts.T p h) x (kinds-there ids x (facts.T p h).kinds i (place-there ids k x f)))

    module _ (info : TaskInfo) (s : Span) (runs : IsAmong info (tasks_beside g)) (unit : info.unit.0 ≡ w.name.0) where
      abbrev copy : Word
      copy = word_at s (task_name g info)

      entries-same : (check.own_unit whole copy).entries ≡ entry_names at.seen.task
      entries-same =
          copy-entries p (facts.T p h) (facts.ordered p h) info at.seen.task (check.first_around (facts.U p h) n.name) s refl runs at.seen.seen.own.0.unit (unit ∙ sym at.seen.named) (facts.firsts p h) (facts.tell p h)

      own-same : (id : NameId) → is_own_entry (check.in_body whole copy).own id ≡ is_own_entry (check.in_body at.around w).own id
      own-same id =
          ap (λ es. is_among es id) entries-same ∙ sym (ap (λ o. is_own_entry o id) (sym (objects-check-own objects (check.in_body at.around w)) ∙ at.seen.seen.own.1))

      -- What stands around the copy, before its objects, is as around the body.
      pub body-around : IsAround g (facts.own p h) [] (check.in_body at.around w) (check.in_body whole copy)
      body-around = record {
        hidden = λ id v o q. not-shared (meaning whole id) v (λ e. let y = shared-there id o e in not_empty v [] (sym (ap (λ m. shared_name m v) y.shared) ∙ q));
        variables = λ k v l. absurd (omega (arith, l));
        literals = literals-free;
        tasks = λ x v i.
            name-free n.name.name.0 whole.names (task_name g x) v (decls-plain n.name.name.0 n.decls (check.first_around (facts.U p h) n.name) (normal-types n.name.name.0 g) (refl, tt)) (facts.apart p h x i);
        entries = own-same;
        accepting = e.accepting ∙ sym at.frame.accepting;
        loops = e.loops ∙ sym at.frame.loops;
        in_handler = e.in_handler ∙ sym at.frame.in_handler;
        types = at.frame.types;
        fixed = λ k x q. ap (λ V. fixed V x) e.types ∙ fixed-same (facts.own p h) (facts.T p h) (facts.U p h) (facts.alike p h) k x q ∙ sym (ap (λ V. fixed V x) at.frame.types);
      }
        where
          e : IsFrameOf (check.first_around (facts.U p h) n.name) whole
          e = decls-frame n.decls (check.first_around (facts.U p h) n.name)
