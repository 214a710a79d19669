-- The declarations of a replay text meet the static rules 1 and 3 to 12: the variables of a permit, the controller, the idle task, and the tasks of
-- the normal form with doubles of their entries.
use Rattle.std.proofs.Common.{◌≡◌, ℕ, pos, int_lt, Bool, true, false, ◌&&◌, if◌then◌else◌, List, [], ◌∷◌, ◌++◌, map, flat_map, Option, Some, None, IfSome, refl, sym, ap, subst, ◌∙◌, arith}
use Rattle.std.specs.List.{AllByRecursion}
use Rattle.std.proofs.lemmas.Int.{ints}
use Rattle.std.proofs.lemmas.List.Elements.{recursion_from_All}
use Rattle.common_lemmas.proofs.Lists.{all_back, all_front, all_joined}
use Rattle.ada_tree.specs.declared.naming.Span.{Span}
use Rattle.ada_tree.specs.declared.naming.Word.{Word}
use Rattle.ada_tree.specs.PlainExpr.{EInteger, PDrange, PSubind}
use Rattle.ada_tree.specs.PlainDecl.{OPlain, PInit, IOne, PEntry, PPriority, PTask, DTask}
use Rattle.ada_tree.specs.PlainProgram.{PProgram}
use Rattle.ada_tree.specs.Every.{EveryDrange, EveryFormal, EveryEntry, EveryPriority, EveryTask}
use Rattle.ada_static_rules.specs.Scope.{Scope, Variable, ScalarMark, integer_kind, mark_at, marking_of, marking_of_mark}
use Rattle.ada_static_rules.specs.Declaring.{Declared, subind_made, of_made, plain_object, declared_object}
use Rattle.ada_static_rules.specs.Demand.{must_be_static, must_lie_in, initializes, for_scalar, Site}
use Rattle.ada_static_rules.specs.Sites.{site, if_there, names_sites, expr_of, static_of, drange_sites, formals_sites, entry_sites, entries_sites, shape_sites, scalar_init_sites, is_task_object, object_marking, init_sites, decl_sites}
use Rattle.normal_laws.specs.structure.checked.Around.{own_rules}
use Rattle.normal_model.specs.Ranges.{integer_subtype}
use Rattle.replay_model.specs.Names.{kind_text, argument_text, index_text, go_text, done_text, hold_text, stop_text, rest_text, never_text, join_text, added_word}
use Rattle.replay_model.specs.ReplayTree.{permit_declared, double_entry, more_entries}
use Rattle.replay_model.specs.Controlling.{added_entry, all_tasks, permit_formals, control_declared, idle_declared}
use Rattle.task_laws.specs.legal.alike_scopes.Alike.{Alike}
use Rattle.task_laws.specs.legal.alike_scopes.Laws.{IsMetBut}
use Rattle.normal_laws.specs.structure.typed.ScopeOf.{MeansInteger}
use Rattle.normal_laws.proofs.structure.typed.Places.{met-declares, met-static, met-in}
use Rattle.normal_laws.proofs.structure.typed.Variables.{AllMetBut, words-met}
use Rattle.normal_laws.proofs.structure.typed.Literals.{integer-marked}
use Rattle.normal_laws.proofs.structure.typed.Stays.{old-expr, old-drange, old-formals, static-stays, drange-stays, formals-stay}
use Rattle.replay_structure.specs.typed.Controller.{IsInteger}
use Rattle.replay_structure.proofs.typed.Calls.{number-met}
use Rattle.replay_structure.proofs.typed.Control.{integer-mark, all_values, integer-range}

-- ---- entries

-- what is asked of an entry but its name
abbrev pub IsMetEntry : Scope → PEntry → Type 0
IsMetEntry d e = AllMetBut (if_there (drange_sites true d) e.family ++ formals_sites d e.formals)

pub entries-met : (d : Scope) (es : List PEntry) (names : List ℕ) → AllByRecursion (IsMetEntry d) es → AllMetBut (entries_sites d names es)
entries-met d [] names h = tt
entries-met d (e ∷ es) names h =
    all_joined IsMetBut (entry_sites d names e) _
    (record { known = refl; matched = refl; static = refl; ranged = refl; variable = refl; readable = refl; counted = refl; chosen = refl; arrays = refl; texts = refl; exceptions = refl }, h.0)
    (entries-met d es (e.name.name.0 ∷ names) h.1)

pub entries-told : (c : Scope) (es : List PEntry) (names : List ℕ) → AllMetBut (entries_sites c names es) → AllByRecursion (IsMetEntry c) es
entries-told c [] names h = tt
entries-told c (e ∷ es) names h =
    ((all_front IsMetBut (entry_sites c names e) (entries_sites c (e.name.name.0 ∷ names) es) h).1, entries-told c es (e.name.name.0 ∷ names) (all_back IsMetBut (entry_sites c names e) (entries_sites c (e.name.name.0 ∷ names) es) h))

-- ---- tasks of the normal form

module _ (q : PProgram) (old : ℕ → Bool) (c d : Scope) (alike : Alike old c d) where
  same : (s : Site) → IsMetBut s → IsMetBut s
  same s m = m

  entry-stays : (e : PEntry) → EveryEntry (own_rules old) e → IsMetEntry c e → IsMetEntry d e
  entry-stays e h m =
      all_joined IsMetBut (if_there (drange_sites true d) e.family) (formals_sites d e.formals) (by_family e.family h.2 (all_front IsMetBut (if_there (drange_sites true c) e.family) (formals_sites c e.formals) m))
      (formals-stay IsMetBut same old c d alike.names e.formals (old-formals old e.formals (recursion_from_All (EveryFormal (own_rules old)) e.formals h.3))
      (all_back IsMetBut (if_there (drange_sites true c) e.family) (formals_sites c e.formals) m))
    where
      by_family : (o : Option PDrange) → IfSome o (EveryDrange (own_rules old) 2) → AllMetBut (if_there (drange_sites true c) o) → AllMetBut (if_there (drange_sites true d) o)
      by_family None i n = tt
      by_family (Some r) i n = drange-stays IsMetBut same old c d alike.names true r (old-drange old 2 r i) n

  entries-stay : (es : List PEntry) → AllByRecursion (EveryEntry (own_rules old)) es → AllByRecursion (IsMetEntry c) es → AllByRecursion (IsMetEntry d) es
  entries-stay [] h m = tt
  entries-stay (e ∷ es) h m = (entry-stays e h.0 m.0, entries-stay es h.1 m.1)

  doubles-met : (es : List PEntry) → AllByRecursion (IsMetEntry d) es → AllByRecursion (IsMetEntry d) (map (double_entry q) es)
  doubles-met [] m = tt
  doubles-met (e ∷ es) m = (m.0, doubles-met es m.1)

  priorities-stay : (ps : List PPriority) → AllByRecursion (EveryPriority (own_rules old)) ps → AllMetBut (flat_map (λ (p : PPriority). static_of c (Some integer_kind) p.value) ps) → AllMetBut (flat_map (λ (p : PPriority). static_of d (Some integer_kind) p.value) ps)
  priorities-stay [] h m = tt
  priorities-stay (p ∷ ps) h m =
      all_joined IsMetBut (static_of d (Some integer_kind) p.value) _
      (static-stays IsMetBut same old c d alike.names (Some integer_kind) p.value (old-expr old 2 p.value h.0.1) (all_front IsMetBut (static_of c (Some integer_kind) p.value) _ m))
      (priorities-stay ps h.1 (all_back IsMetBut (static_of c (Some integer_kind) p.value) (flat_map (λ (x : PPriority). static_of c (Some integer_kind) x.value) ps) m))

  -- a task with doubles of its entries, DED_NEVER and DED_JOIN
  pub doubled-met : (t : PTask) (s : Span) → EveryTask (own_rules old) t → AllMetBut (decl_sites c (DTask t s)) →
      AllMetBut (decl_sites d (DTask (record { name = t.name; of_kind = t.of_kind; entries = more_entries q t; priorities = t.priorities }) s))
  doubled-met t s h m =
      let front = all_front IsMetBut (names_sites true c (t.name ∷ []) ++ entries_sites c [] t.entries) (flat_map (λ (p : PPriority). static_of c (Some integer_kind) p.value) t.priorities) m in
      let back = all_back IsMetBut (names_sites true c (t.name ∷ []) ++ entries_sites c [] t.entries) (flat_map (λ (p : PPriority). static_of c (Some integer_kind) p.value) t.priorities) m in
      let told = entries-told c t.entries [] (all_back IsMetBut (names_sites true c (t.name ∷ [])) (entries_sites c [] t.entries) front) in
      let kept : AllByRecursion (IsMetEntry d) t.entries = entries-stay t.entries (recursion_from_All (EveryEntry (own_rules old)) t.entries h.1) told in
      let added : List PEntry = added_entry q t.name.span never_text None [] ∷ added_entry q t.name.span join_text None [] ∷ [] in
      let all : AllByRecursion (IsMetEntry d) (more_entries q t) =
      all_joined (IsMetEntry d) (t.entries ++ map (double_entry q) t.entries) added (all_joined (IsMetEntry d) t.entries (map (double_entry q) t.entries) kept (doubles-met t.entries kept)) (tt, (tt, tt)) in
      all_joined IsMetBut (names_sites true d (t.name ∷ []) ++ entries_sites d [] (more_entries q t)) (flat_map (λ (p : PPriority). static_of d (Some integer_kind) p.value) t.priorities)
      (all_joined IsMetBut (names_sites true d (t.name ∷ [])) (entries_sites d [] (more_entries q t)) (words-met true (t.name ∷ []) d) (entries-met d (more_entries q t) [] all))
      (priorities-stay t.priorities (recursion_from_All (EveryPriority (own_rules old)) t.priorities h.2) back)

-- ---- tasks that are added

module _ (q : PProgram) (d : Scope) (int : MeansInteger d) (s : Span) where
  not-below : (n : ℕ) → int_lt (pos n) (pos 0) ≡ false
  not-below n = grind (arith, ints)

  literal-static : (n : ℕ) → AllMetBut (static_of d (Some integer_kind) (EInteger n s))
  literal-static n = all_joined IsMetBut (expr_of d (Some integer_kind) (EInteger n s)) (site d (must_be_static (EInteger n s)) ∷ []) (number-met d n s integer_kind refl) (met-static d (EInteger n s) refl, tt)

  -- `(0 .. n)`
  tasks-range : (n : ℕ) → AllMetBut (if_there (drange_sites true d) (all_tasks s n))
  tasks-range n =
      let zero = number-met d 0 s integer_kind refl in
      let last = number-met d n s integer_kind refl in (
        zero.0,
        (
          zero.1.0,
          (
            met-static d (EInteger 0 s) refl,
            (
              last.0,
              (
                last.1.0,
                (
                  met-static d (EInteger n s) refl,
                  (
                    record {
                      known = refl;
                      matched = refl;
                      static = refl;
                      ranged = ap (λ b. if b then s ∷ [] else []) (not-below n);
                      variable = refl;
                      readable = refl;
                      counted = refl;
                      chosen = refl;
                      arrays = refl;
                      texts = refl;
                      exceptions = refl;
                    },
                    (record { known = refl; matched = refl; static = refl; ranged = refl; variable = refl; readable = refl; counted = refl; chosen = refl; arrays = refl; texts = refl; exceptions = refl }, tt),
                  ),
                ),
              ),
            ),
          ),
        ),
      )

  permit-formals : AllMetBut (formals_sites d (permit_formals q s))
  permit-formals = (met-declares _ false _, (met-declares _ false _, (met-declares _ false _, (integer-mark d int _ s, tt))))

  -- the controller
  pub control-declared : (n : ℕ) → AllMetBut (decl_sites d (control_declared q s n))
  control-declared n =
      let go : PEntry = added_entry q s go_text (all_tasks s n) (permit_formals q s) in
      let done : PEntry = added_entry q s done_text (all_tasks s n) [] in
      let hold : PEntry = added_entry q s hold_text None [] in
      let entries : List PEntry = go ∷ done ∷ hold ∷ [] in
      all_joined IsMetBut (names_sites true d (_ ∷ []) ++ entries_sites d [] entries) []
      (all_joined IsMetBut (names_sites true d (_ ∷ [])) (entries_sites d [] entries) (words-met true (_ ∷ []) d)
      (entries-met d entries [] (
        all_joined IsMetBut (if_there (drange_sites true d) (all_tasks s n)) (formals_sites d (permit_formals q s)) (tasks-range n) permit-formals,
        (all_joined IsMetBut (if_there (drange_sites true d) (all_tasks s n)) [] (tasks-range n) tt, (tt, tt)),
      )))
      tt

  -- the idle task
  pub idle-declared : AllMetBut (decl_sites d (idle_declared q s))
  idle-declared =
      let entries : List PEntry = added_entry q s stop_text None [] ∷ added_entry q s rest_text None [] ∷ [] in
      all_joined IsMetBut (names_sites true d (_ ∷ []) ++ entries_sites d [] entries) []
      (all_joined IsMetBut (names_sites true d (_ ∷ [])) (entries_sites d [] entries) (words-met true (_ ∷ []) d) (entries-met d entries [] (tt, (tt, tt))))
      tt

-- ---- the variables of a permit

module _ (q : PProgram) (d : Scope) (int : IsInteger d) (s : Span) where
  abbrev of_integer : PSubind
  of_integer = integer_subtype s

  abbrev nothing_yet : PInit
  nothing_yet = IOne (EInteger 0 s)

  abbrev words : List Word
  words = added_word q s kind_text ∷ added_word q s argument_text ∷ added_word q s index_text ∷ []

  -- the variables have the mark of INTEGER, and leave the types as they are
  pub permit-thing : declared_object d false (OPlain of_integer) ≡ record { types = d.types; thing = Variable int.its.place }
  permit-thing = ap (λ m. plain_object d false m of_integer) (integer-marked d int.its) ∙ ap (λ m. of_made false (subind_made d m None)) (integer-marked d int.its)

  its-marking : marking_of_mark d.types int.its.place (mark_at d.types int.its.place) ≡ ScalarMark int.its.place integer_kind
  its-marking = sym (ap (marking_of d.types) int.its.means) ∙ integer-marked d int.its

  nothing-met : AllMetBut (scalar_init_sites d (Some all_values) nothing_yet ++ site d (initializes for_scalar nothing_yet) ∷ [])
  nothing-met =
      all_joined IsMetBut (static_of d (Some integer_kind) (EInteger 0 s) ++ site d (must_lie_in (EInteger 0 s) (Some all_values)) ∷ []) (site d (initializes for_scalar nothing_yet) ∷ [])
      (all_joined IsMetBut (static_of d (Some integer_kind) (EInteger 0 s)) (site d (must_lie_in (EInteger 0 s) (Some all_values)) ∷ []) (literal-static q d int.its s 0) (met-in d (EInteger 0 s) (Some all_values) refl, tt))
      (record { known = refl; matched = refl; static = refl; ranged = refl; variable = refl; readable = refl; counted = refl; chosen = refl; arrays = refl; texts = refl; exceptions = refl }, tt)

  init-met : AllMetBut (init_sites d (declared_object d false (OPlain of_integer)).types (object_marking (declared_object d false (OPlain of_integer))) nothing_yet)
  init-met =
      subst (λ (x : Declared). AllMetBut (init_sites d x.types (object_marking x) nothing_yet)) (sym permit-thing)
      (subst (λ m. AllMetBut (init_sites d d.types m nothing_yet)) (sym its-marking)
      (subst (λ r. AllMetBut (scalar_init_sites d r nothing_yet ++ site d (initializes for_scalar nothing_yet) ∷ [])) (sym (integer-range d int)) nothing-met))

  -- `DED_K, DED_A, DED_I : INTEGER := 0;`, in main or in a body
  pub permit-met : AllMetBut (decl_sites d (permit_declared q s))
  permit-met =
      let x : Declared = declared_object d false (OPlain of_integer) in
      let names : List Site = names_sites (d.in_main && is_task_object x.thing) d words in
      let shape : List Site = shape_sites d false (OPlain of_integer) (Some nothing_yet) in
      all_joined IsMetBut (names ++ shape) (init_sites d x.types (object_marking x) nothing_yet)
      (all_joined IsMetBut names shape (words-met (d.in_main && is_task_object x.thing) words d) (integer-mark d int.its _ s, tt)) init-met
