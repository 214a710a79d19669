-- The names of a replay text are such as the source can hold.
use Rattle.std.proofs.Common.{ℕ, ◌<◌, ◌==◌, Bool, true, false, cond, List, [], ◌∷◌, ◌++◌, flat_map, Option, Some, None, IfSome, find, unwrap_or, refl, arith}
use Rattle.syn_event.specs.DeclaredTasks.{tasks_of}
use Rattle.std.specs.List.{AllByRecursion}
use Rattle.ada_tree.specs.declared.naming.NameId.{NameId}
use Rattle.ada_tree.specs.declared.static_types.Mark.{Mark}
use Rattle.ada_static_rules.specs.Scope.{and_then}
use Rattle.ada_tree.specs.Lexical.{IsIdentifier}
use Rattle.task_model.specs.Setting.{Setting}
use Rattle.normal_model.specs.Names.{id_of}
use Rattle.normal_laws.proofs.structure.types.Names.{fold-begins}
use Rattle.normal_laws.specs.structure.placed.Placeable.{IsName}
use Rattle.normal_laws.proofs.structure.placed.Names.{begins-name, searched}
use Rattle.replay_model.specs.Names.{kind_text, argument_text, index_text, control_text, go_text, done_text, hold_text, idle_text, stop_text, rest_text, never_text, join_text, operations_text, tasks_text, kinds_text, arguments_text, indices_text, counter_text, double_text, added_texts, double_texts, replay_names}
use Rattle.replay_structure.specs.placed.Placeable.{IsReplayPlaceable}
use Rattle.replay_structure.proofs.placed.Tests.{AreAdded}

-- the name of a kind is that of its first mark, or INTEGER
pub mark-named : (names : List (List ℕ)) (k : ℕ) (ms : List Mark) → IsName names (record { 0 = 0 }) → AllByRecursion (λ m. IfSome m.name (IsName names)) ms → IsName names (unwrap_or (and_then (λ m. m.name) (find (λ m. m.kind == k) ms)) (record { 0 = 0 }))
mark-named names k [] first h = first
mark-named names k (m ∷ ms) first h = by_test (m.kind == k) (mark-named names k ms first h.1)
  where
    named : (o : Option NameId) → IfSome o (IsName names) → IsName names (unwrap_or o (record { 0 = 0 }))
    named None i = first
    named (Some id) i = i

    by_test : (b : Bool) → IsName names (unwrap_or (and_then (λ m. m.name) (find (λ m. m.kind == k) ms)) (record { 0 = 0 })) →
        IsName names (unwrap_or (and_then (λ m. m.name) (cond b (Some m) (find (λ m. m.kind == k) ms))) (record { 0 = 0 }))
    by_test true rest = named m.name h.0
    by_test false rest = rest

module _ (g : Setting) (h : IsReplayPlaceable g) where
  abbrev names : List (List ℕ)
  names = g.program.names

  abbrev pub names' : List (List ℕ)
  names' = replay_names g.program

  -- the names of the normal form stay
  pub old : (id : NameId) → IsName names id → IsName names' id
  old id i = begins-name names names' (fold-begins (added_texts ++ flat_map (double_texts names) (tasks_of g.program)) names) id i

  first : (k : ℕ) → k < 25 → IsName names' (record { 0 = k })
  first k l = old (record { 0 = k }) (h.first k l)

  there : (t : List ℕ) → IsIdentifier t → IsName names' (id_of names' t)
  there t i = searched names' t (first 0 (omega arith)) i

  pub are-added : AreAdded g names'
  are-added = record {
    first = first;
    kind_part = there kind_text (refl, omega arith, refl);
    argument_part = there argument_text (refl, omega arith, refl);
    index_part = there index_text (refl, omega arith, refl);
    control = there control_text (refl, omega arith, refl);
    go = there go_text (refl, omega arith, refl);
    done = there done_text (refl, omega arith, refl);
    hold = there hold_text (refl, omega arith, refl);
    idle = there idle_text (refl, omega arith, refl);
    stop = there stop_text (refl, omega arith, refl);
    rest = there rest_text (refl, omega arith, refl);
    never = there never_text (refl, omega arith, refl);
    join = there join_text (refl, omega arith, refl);
    operations = there operations_text (refl, omega arith, refl);
    tasks = there tasks_text (refl, omega arith, refl);
    permit_kinds = there kinds_text (refl, omega arith, refl);
    arguments = there arguments_text (refl, omega arith, refl);
    indices = there indices_text (refl, omega arith, refl);
    counter = there counter_text (refl, omega arith, refl);
    double = λ t i. there (double_text t) i;
    kinds = λ k. mark-named names' k g.types.marks (first 0 (omega arith)) (marks g.types.marks h.marks);
  }
    where
      named : (o : Option NameId) → IfSome o (IsName names) → IfSome o (IsName names')
      named None i = tt
      named (Some id) i = old id i

      marks : (ms : List Mark) → AllByRecursion (λ m. IfSome m.name (IsName names)) ms → AllByRecursion (λ m. IfSome m.name (IsName names')) ms
      marks [] i = tt
      marks (m ∷ ms) i = (named m.name i.0, marks ms i.1)
