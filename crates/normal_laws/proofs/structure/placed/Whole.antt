-- The normal form of a program is well placed: its declarations, its tasks, its bodies and main's.
use Rattle.std.proofs.Common.{◌≡◌, ℕ, ◌+◌, ◌≤◌, ◌<◌, ◌==◌, Bool, true, false, if◌then◌else◌, List, [], ◌∷◌, ◌++◌, length, map, flat_map, Option, Some, None, is_some, IfSome, refl, sym, subst, arith, append_assoc, drop}
use Rattle.std.specs.List.{AllByRecursion}
use Rattle.std.proofs.lemmas.List.Elements.{All-from_recursion}
use Rattle.ada_tree.specs.declared.naming.NameId.{NameId}
use Rattle.ada_tree.specs.declared.naming.Span.{Span}
use Rattle.ada_tree.specs.declared.naming.Word.{Word}
use Rattle.ada_tree.specs.declared.static_types.Mark.{Mark}
use Rattle.ada_tree.specs.PlainExpr.{PSubind}
use Rattle.ada_tree.specs.PlainStmt.{PBody}
use Rattle.ada_tree.specs.PlainDecl.{PShape, PInit, PTask, PDecl, DNumber, DObject, DEnumeration, DArray, DSubtype, DException, DIntIo, DPragma, DTask, DTaskBody, PDecls, no_decl, decl_then, decls_of}
use Rattle.ada_tree.specs.PlainProgram.{PProgram}
use Rattle.ada_tree.specs.Every.{Rules, EveryWord, EveryTask, EverySubind, EveryDecl, EveryDecls, EveryBody, EveryProgram}
use Rattle.ada_tree.specs.WellPlaced.{AreObjects, AreLater, BodiesLast, well_placed, IsWellPlaced}
use Rattle.syn_event.specs.declared.numbering.Mode.TheVariants.{Original}
use Rattle.syn_event.specs.declared.numbering.TaskInfo.{TaskInfo}
use Rattle.syn_event.specs.CheckScope.{CheckScope, CheckSite}
use Rattle.syn_event.specs.CheckSites as check
use Rattle.syn_event.specs.NamedTasks.{type_named, with_type}
use Rattle.syn_event.specs.DeclaredTasks.{decl_list}
use Rattle.task_laws.specs.legal.sites.Met.{IsCheckMet}
use Rattle.task_laws.proofs.legal.sites.Both.{together}
use Rattle.task_laws.proofs.legal.sites.Meeting.{all_check_met}
use Rattle.task_model.specs.Setting.{Setting}
use Rattle.normal_model.specs.Names.{variable_name, task_name}
use Rattle.normal_model.specs.Ranges.{word_at}
use Rattle.normal_model.specs.RewrittenUnit.{RewrittenUnit}
use Rattle.normal_model.specs.NormalStmts.{normal_body, unit_variables}
use Rattle.normal_model.specs.NormalTree.{decls_front, mark_of, unless_left, first_decls, tasks_beside, task_under, declared_under, task_declared, unit_for, running, body_copy, bodies_of, main_variables, variables_if, variables_of_body, greatest, variables_needed, normal_decls, normal_tree}
use Rattle.normal_model.proofs.VariablesLemmas.{begins-refl}
use Rattle.task_laws.specs.legal.asked.Asked.{AskedBody}
use Rattle.task_laws.specs.legal.asked.Kinds.{place_asks, check_asks, both}
use Rattle.task_laws.proofs.legal.asked.Placed.{placed_asked, asked_placed}
use Rattle.task_laws.proofs.legal.asked.Checked.{checked_asked}
use Rattle.task_laws.proofs.legal.asked.Together.{both_asked}
use Rattle.normal_laws.specs.structure.asked.Pieces.{IsAmong, first_among, later_among}
use Rattle.normal_laws.proofs.structure.asked.Walk.{body-keeps}
use Rattle.normal_laws.proofs.structure.types.Variables.{IsTaskOrBody, tasks-only, bodies-only}
use Rattle.normal_laws.specs.structure.placed.Placeable.{IsName, call_asks, MarksHaveNames, TakesCalls, IsPlaceable}
use Rattle.normal_laws.proofs.structure.placed.Made.{AreNamed, pieces, among}
use Rattle.normal_laws.proofs.structure.placed.Names.{made_names, old-named, are-named}
use Rattle.normal_laws.proofs.structure.placed.Added.{AreSubtypes, IsVariableAt, AreVariablesFrom, unit-from}
use Rattle.normal_laws.proofs.structure.placed.Subtypes.{subtypes-placed}
use Rattle.common_lemmas.proofs.Lists.{all_back, all_front, all_joined, all_kept, all_through}

-- ---- lists

-- what holds of each that is among a list
pub each-of : {A : Type 0} (P : A → Type 0) (xs : List A) → ((x : A) → IsAmong x xs → P x) → AllByRecursion P xs
each-of P [] h = tt
each-of P (x ∷ xs) h = (h x (first_among xs), each-of P xs (λ y i. h y (later_among x xs i)))

among-greatest : (n : ℕ) (ns : List ℕ) → IsAmong n ns → n ≤ greatest ns
among-greatest n ns (first_among ms) = omega arith
among-greatest n ns (later_among m ms i) = let h : n ≤ greatest ms = among-greatest n ms i in omega (arith, h)

pub among-mapped : {A B : Type 0} (f : A → B) (x : A) (xs : List A) → IsAmong x xs → IsAmong (f x) (map f xs)
among-mapped f x xs (first_among ys) = first_among (map f ys)
among-mapped f x xs (later_among y ys i) = later_among (f y) (map f ys) (among-mapped f x ys i)

all-but-first : {A : Type 0} (P : A → Type 0) (xs : List A) → AllByRecursion P xs → AllByRecursion P (drop 1 xs)
all-but-first P [] h = tt
all-but-first P (x ∷ xs) h = h.1

-- ---- declarations

module _ (r : Rules) where
  front-placed : (xs ys : PDecls) → EveryDecls r xs → EveryDecls r ys → EveryDecls r (decls_front xs ys)
  front-placed no_decl ys h i = i
  front-placed (decl_then d xs) ys h i = (h.0, front-placed xs ys h.1 i)

  list-placed : (ds : List PDecl) → AllByRecursion (EveryDecl r) ds → EveryDecls r (decls_of ds)
  list-placed [] h = tt
  list-placed (d ∷ ds) h = (h.0, list-placed ds h.1)

  placed-list : (ds : PDecls) → EveryDecls r ds → AllByRecursion (EveryDecl r) (decl_list ds)
  placed-list no_decl h = tt
  placed-list (decl_then d ds) h = (h.0, placed-list ds h.1)

  left-placed : (b : Bool) (d : PDecl) (rest : PDecls) → EveryDecl r d → EveryDecls r rest → EveryDecls r (unless_left b d rest)
  left-placed true d rest h i = i
  left-placed false d rest h i = (h, i)

  first-placed : (kinds : List PTask) (ds : PDecls) → EveryDecls r ds → EveryDecls r (first_decls kinds ds)
  first-placed kinds no_decl h = tt
  first-placed kinds (decl_then (DTask t s) rest) h = first-placed (with_type kinds t.of_kind t) rest h.1
  first-placed kinds (decl_then (DTaskBody w objects its s) rest) h = first-placed kinds rest h.1
  first-placed kinds (decl_then (DObject ws c x i s) rest) h = left-placed (is_some (type_named kinds (mark_of x))) (DObject ws c x i s) (first_decls kinds rest) h.0 (first-placed kinds rest h.1)
  first-placed kinds (decl_then (DNumber w e s) rest) h = (h.0, first-placed kinds rest h.1)
  first-placed kinds (decl_then (DEnumeration w ws s) rest) h = (h.0, first-placed kinds rest h.1)
  first-placed kinds (decl_then (DArray w q x s) rest) h = (h.0, first-placed kinds rest h.1)
  first-placed kinds (decl_then (DSubtype w x s) rest) h = (h.0, first-placed kinds rest h.1)
  first-placed kinds (decl_then (DException ws s) rest) h = (h.0, first-placed kinds rest h.1)
  first-placed kinds (decl_then (DIntIo w s) rest) h = (h.0, first-placed kinds rest h.1)
  first-placed kinds (decl_then (DPragma e s) rest) h = (h.0, first-placed kinds rest h.1)

-- ---- the order of declarations

objects-front : (xs ys : PDecls) → AreObjects xs → AreObjects ys → AreObjects (decls_front xs ys)
objects-front no_decl ys h i = i
objects-front (decl_then (DObject ws c x o s) xs) ys h i = objects-front xs ys h i
objects-front (decl_then (DNumber w e s) xs) ys h i = absurd h
objects-front (decl_then (DEnumeration w ws s) xs) ys h i = absurd h
objects-front (decl_then (DArray w q x s) xs) ys h i = absurd h
objects-front (decl_then (DSubtype w x s) xs) ys h i = absurd h
objects-front (decl_then (DException ws s) xs) ys h i = absurd h
objects-front (decl_then (DIntIo w s) xs) ys h i = absurd h
objects-front (decl_then (DPragma e s) xs) ys h i = absurd h
objects-front (decl_then (DTask t s) xs) ys h i = absurd h
objects-front (decl_then (DTaskBody w objects its s) xs) ys h i = absurd h

left-last : (b : Bool) (ws : List Word) (c : Bool) (x : PShape) (o : Option PInit) (s : Span) (rest ys : PDecls) → BodiesLast (decls_front rest ys) → BodiesLast (decls_front (unless_left b (DObject ws c x o s) rest) ys)
left-last true ws c x o s rest ys h = h
left-last false ws c x o s rest ys h = h

first-last : (kinds : List PTask) (ds ys : PDecls) → BodiesLast ys → BodiesLast (decls_front (first_decls kinds ds) ys)
first-last kinds no_decl ys h = h
first-last kinds (decl_then (DTask t s) rest) ys h = first-last (with_type kinds t.of_kind t) rest ys h
first-last kinds (decl_then (DTaskBody w objects its s) rest) ys h = first-last kinds rest ys h
first-last kinds (decl_then (DObject ws c x i s) rest) ys h = left-last (is_some (type_named kinds (mark_of x))) ws c x i s (first_decls kinds rest) ys (first-last kinds rest ys h)
first-last kinds (decl_then (DNumber w e s) rest) ys h = first-last kinds rest ys h
first-last kinds (decl_then (DEnumeration w ws s) rest) ys h = first-last kinds rest ys h
first-last kinds (decl_then (DArray w q x s) rest) ys h = first-last kinds rest ys h
first-last kinds (decl_then (DSubtype w x s) rest) ys h = first-last kinds rest ys h
first-last kinds (decl_then (DException ws s) rest) ys h = first-last kinds rest ys h
first-last kinds (decl_then (DIntIo w s) rest) ys h = first-last kinds rest ys h
first-last kinds (decl_then (DPragma e s) rest) ys h = first-last kinds rest ys h

later : (ds : List PDecl) → AllByRecursion IsTaskOrBody ds → AreLater (decls_of ds)
later [] h = tt
later (DTask t s ∷ ds) h = (tt, later ds h.1)
later (DTaskBody w objects its s ∷ ds) h = (tt, later ds h.1)
later (DNumber w e s ∷ ds) h = absurd h.0
later (DObject ws c x i s ∷ ds) h = absurd h.0
later (DEnumeration w ws s ∷ ds) h = absurd h.0
later (DArray w q x s ∷ ds) h = absurd h.0
later (DSubtype w x s ∷ ds) h = absurd h.0
later (DException ws s ∷ ds) h = absurd h.0
later (DIntIo w s ∷ ds) h = absurd h.0
later (DPragma e s ∷ ds) h = absurd h.0

tasks-last : (ds : List PDecl) → AllByRecursion IsTaskOrBody ds → BodiesLast (decls_of ds)
tasks-last [] h = tt
tasks-last (DTask t s ∷ ds) h = tasks-last ds h.1
tasks-last (DTaskBody w objects its s ∷ ds) h = later ds h.1
tasks-last (DNumber w e s ∷ ds) h = absurd h.0
tasks-last (DObject ws c x i s ∷ ds) h = absurd h.0
tasks-last (DEnumeration w ws s ∷ ds) h = absurd h.0
tasks-last (DArray w q x s ∷ ds) h = absurd h.0
tasks-last (DSubtype w x s ∷ ds) h = absurd h.0
tasks-last (DException ws s ∷ ds) h = absurd h.0
tasks-last (DIntIo w s ∷ ds) h = absurd h.0
tasks-last (DPragma e s ∷ ds) h = absurd h.0

-- What is well placed stays so with other names, where its names stay names.
pub placed-with : (names names' : List (List ℕ)) → ((id : NameId) → IsName names id → IsName names' id) → (p : PProgram) → EveryProgram (well_placed names) p → EveryProgram (well_placed names') p
placed-with names names' stays p h = together (well_placed names) (well_placed names) (well_placed names') (record {
  name = λ id i j. stays id i;
  integer = λ n i j. i;
  duration = λ n i j. i;
  words = λ t i j. i;
  unary = λ op e i j. i;
  binary = λ op x y i j. i;
  bounds = λ x y i j. i;
  parts = λ n k i j. i;
  handlers = λ hs i j. i;
  pragmas = λ n xs i j. i;
  object = λ c o i j. i;
  inner = λ ds i j. i;
  outer = λ ds i j. i;
  nested = λ k i j. i;
}) p h h

module _ (g : Setting) (h : IsPlaceable g) where
  abbrev p : PProgram
  p = g.program

  abbrev names' : List (List ℕ)
  names' = made_names g

  abbrev r : Rules
  r = well_placed names'

  known : AreNamed g names'
  known = are-named g h

  -- the program is well placed with the names of its normal form
  whole : EveryProgram r p
  whole = placed-with p.names names' (old-named g) p h.placed

  marks : MarksHaveNames names' g.types
  marks = go g.types.marks h.marks
    where
      name : (o : Option NameId) → IfSome o (IsName p.names) → IfSome o (IsName names')
      name None i = tt
      name (Some id) i = old-named g id i

      go : (ms : List Mark) → AllByRecursion (λ m. IfSome m.name (IsName p.names)) ms → AllByRecursion (λ m. IfSome m.name (IsName names')) ms
      go [] i = tt
      go (m ∷ ms) i = (name m.name i.0, go ms i.1)

  -- ---- the variables of a unit

  abbrev Fits : PSubind → Type 0
  Fits x = EverySubind r 2 x

  its-placed : AreSubtypes g Fits
  its-placed = subtypes-placed g names' marks known.first whole.2

  variable-decl : (k : ℕ) (d : PDecl) → k < variables_needed g → IsVariableAt g Fits k d → EveryDecl r d
  variable-decl k d l v =
      let one : AllByRecursion (EveryWord r) (word_at v.place (variable_name g k) ∷ []) = (known.variables k l, tt) in
      subst (EveryDecl r) (sym v.is) (omega arith, (omega arith, All-from_recursion (EveryWord r) (word_at v.place (variable_name g k) ∷ []) one), v.fits, tt, tt)

  variable-decls : (k : ℕ) (ds : List PDecl) → k + length ds ≤ variables_needed g → AreVariablesFrom g Fits k ds → AllByRecursion (EveryDecl r) ds
  variable-decls k [] l v = tt
  variable-decls k (d ∷ ds) l v = (variable-decl k d (omega (arith, l)) v.0, variable-decls (k + 1) ds (omega (arith, l)) v.1)

  unit-decls : (t : ℕ) (b : PBody) → length (unit_variables (record { setting = g; task = t }) b) ≤ variables_needed g → AllByRecursion (EveryDecl r) (unit_variables (record { setting = g; task = t }) b)
  unit-decls t b few = variable-decls 0 (unit_variables (record { setting = g; task = t }) b) (omega (arith, few)) (unit-from g Fits its-placed t b)

  variables-last : (k : ℕ) (ds : List PDecl) (ys : List PDecl) → AreVariablesFrom g Fits k ds → BodiesLast (decls_of ys) → BodiesLast (decls_of (ds ++ ys))
  variables-last k [] ys v i = i
  variables-last k (d ∷ ds) ys v i = subst (λ x. BodiesLast (decls_of (x ∷ (ds ++ ys)))) (sym v.0.is) (variables-last (k + 1) ds ys v.1 i)

  variables-objects : (k : ℕ) (ds : List PDecl) → AreVariablesFrom g Fits k ds → AreObjects (decls_of ds)
  variables-objects k [] v = tt
  variables-objects k (d ∷ ds) v = subst (λ x. AreObjects (decls_of (x ∷ ds))) (sym v.0.is) (variables-objects (k + 1) ds v.1)

  -- ---- tasks

  task-placed : (name : NameId) (t : PTask) → IsName names' name → EveryTask r t → EveryTask r (task_under name t)
  task-placed name t i j = (i, j.1, j.2, j.3)

  under-placed : (unit name : NameId) (d : PDecl) → IsName names' name → EveryDecl r d → AllByRecursion (EveryDecl r) (declared_under unit name d)
  under-placed unit name (DTask t s) i j = by_test (t.name.name.0 == unit.0)
    where
      by_test : (b : Bool) → AllByRecursion (EveryDecl r) (if b then DTask (task_under name t) s ∷ [] else [])
      by_test true = ((j.0, task-placed name t i j.1), tt)
      by_test false = tt
  under-placed unit name (DTaskBody w objects its s) i j = tt
  under-placed unit name (DNumber w e s) i j = tt
  under-placed unit name (DObject ws c x o s) i j = tt
  under-placed unit name (DEnumeration w ws s) i j = tt
  under-placed unit name (DArray w q x s) i j = tt
  under-placed unit name (DSubtype w x s) i j = tt
  under-placed unit name (DException ws s) i j = tt
  under-placed unit name (DIntIo w s) i j = tt
  under-placed unit name (DPragma e s) i j = tt

  beside-named : AllByRecursion (λ info. IsName names' (task_name g info)) (tasks_beside g)
  beside-named = all-but-first (λ info. IsName names' (task_name g info)) g.numbers.tasks known.tasks

  tasks-placed : AllByRecursion (EveryDecl r) (flat_map (task_declared g) (tasks_beside g))
  tasks-placed =
      all_through (λ (info : TaskInfo). IsName names' (task_name g info)) (EveryDecl r) (task_declared g)
      (λ info i. all_through (EveryDecl r) (EveryDecl r) (declared_under info.unit (task_name g info)) (λ d j. under-placed info.unit (task_name g info) d i j) (decl_list p.decls) (placed-list r p.decls whole.2))
      (tasks_beside g) beside-named

  -- ---- bodies

  abbrev M : CheckSite → Type 0
  M = IsCheckMet Original p.names

  -- a body of the program in the normal form
  body-placed : (t : ℕ) (b : PBody) (c : CheckScope) → length (unit_variables (record { setting = g; task = t }) b) ≤ variables_needed g → EveryBody r 1 b → AllByRecursion M (check.body_sites c 1 b) → AskedBody (call_asks g) tt 1 b →
      EveryBody r 1 (normal_body (record { setting = g; task = t }) b)
  body-placed t b c few i m calls =
      let u : RewrittenUnit = record { setting = g; task = t } in
      let vars : List PDecl = unit_variables u b in
      let checked : AskedBody (both (check_asks M) (call_asks g)) (c, tt) 1 b = both_asked (check_asks M) (call_asks g) c tt 1 b (checked_asked M c 1 b m) calls in
      let all : AskedBody (both (place_asks r) (both (check_asks M) (call_asks g))) (tt, (c, tt)) 1 b = both_asked (place_asks r) (both (check_asks M) (call_asks g)) tt (c, tt) 1 b (placed_asked r 1 b i) checked in
      asked_placed r 1 (normal_body u b)
      (body-keeps u vars (both (place_asks r) (both (check_asks M) (call_asks g))) (place_asks r) (λ x y. Prim.Unit {0}) (pieces u vars p.names names' known few) (tt, (c, tt)) tt 1 b tt all (begins-refl vars))

  runs-some : (vars : List PDecl) (info : TaskInfo) (xs : List TaskInfo) → IsAmong info xs → variables_if xs vars ≡ length vars
  runs-some vars info xs (first_among ys) = refl
  runs-some vars info xs (later_among y ys i) = refl

  copies-placed : (d : PDecl) (c : CheckScope) → IsAmong d (decl_list p.decls) → EveryDecl r d → TakesCalls g d → AllByRecursion M (check.decl_sites c (check.body_names p.decls) d) → AllByRecursion (EveryDecl r) (bodies_of g d)
  copies-placed (DTaskBody w objects its s) c i j calls m =
      copies-of (running g w.name) (λ info k. k)
    where
      u : RewrittenUnit
      u = unit_for g w.name

      vars : List PDecl
      vars = unit_variables u its

      few-of : (info : TaskInfo) → IsAmong info (running g w.name) → length vars ≤ variables_needed g
      few-of info k =
          let e : variables_of_body g (DTaskBody w objects its s) ≡ length vars = runs-some vars info (running g w.name) k in
          let l : variables_of_body g (DTaskBody w objects its s) ≤ variables_needed g =
          among-greatest (variables_of_body g (DTaskBody w objects its s)) (length (main_variables g) ∷ map (variables_of_body g) (decl_list p.decls))
          (later_among (length (main_variables g)) (map (variables_of_body g) (decl_list p.decls)) (among-mapped (variables_of_body g) (DTaskBody w objects its s) (decl_list p.decls) i)) in
          omega (arith, e, l)

      named : (info : TaskInfo) → IsAmong info (running g w.name) → IsName names' (task_name g info)
      named info k = among (λ y. IsName names' (task_name g y)) info (running g w.name) k (all_kept (λ y. IsName names' (task_name g y)) (λ y. y.unit.0 == w.name.0) (tasks_beside g) beside-named)

      one : (info : TaskInfo) → IsAmong info (running g w.name) → EveryDecl r (DTaskBody (word_at w.span (task_name g info)) (decls_front objects (decls_of vars)) (normal_body u its) s)
      one info k =
          let objs : AreObjects (decls_of vars) = variables-objects 0 vars (unit-from g Fits its-placed u.task its) in (
            j.0,
            named info k,
            objects-front objects (decls_of vars) j.2 objs,
            front-placed r objects (decls_of vars) j.3 (list-placed r vars (unit-decls u.task its (few-of info k))),
            body-placed u.task its (check.after_own (check.in_body c w) objects) (few-of info k) j.4
                (all_back M (check.own_sites (check.in_body c w) objects) (check.body_sites (check.after_own (check.in_body c w) objects) 1 its) m) (calls info k),
          )

      copies-of : (infos : List TaskInfo) → ((info : TaskInfo) → IsAmong info infos → IsAmong info (running g w.name)) →
          AllByRecursion (EveryDecl r) (map (body_copy g w objects vars (normal_body u its) (λ ds b name. DTaskBody name ds b s)) infos)
      copies-of [] all = tt
      copies-of (info ∷ infos) all = (one info (all info (first_among infos)), copies-of infos (λ y k. all y (later_among info infos k)))
  copies-placed (DTask t s) c i j calls m = tt
  copies-placed (DNumber w e s) c i j calls m = tt
  copies-placed (DObject ws o x q s) c i j calls m = tt
  copies-placed (DEnumeration w ws s) c i j calls m = tt
  copies-placed (DArray w q x s) c i j calls m = tt
  copies-placed (DSubtype w x s) c i j calls m = tt
  copies-placed (DException ws s) c i j calls m = tt
  copies-placed (DIntIo w s) c i j calls m = tt
  copies-placed (DPragma e s) c i j calls m = tt

  bodies-placed : (ds : PDecls) (c : CheckScope) → ((d : PDecl) → IsAmong d (decl_list ds) → IsAmong d (decl_list p.decls)) → EveryDecls r ds → AllByRecursion (TakesCalls g) (decl_list ds) →
      AllByRecursion M (check.decls_sites c (check.body_names p.decls) ds) → AllByRecursion (EveryDecl r) (flat_map (bodies_of g) (decl_list ds))
  bodies-placed no_decl c all i calls m = tt
  bodies-placed (decl_then d rest) c all i calls m =
      let here : List CheckSite = check.decl_sites c (check.body_names p.decls) d in
      let more : List CheckSite = check.decls_sites (check.after_decl c d) (check.body_names p.decls) rest in
      all_joined (EveryDecl r) (bodies_of g d) (flat_map (bodies_of g) (decl_list rest))
      (copies-placed d c (all d (first_among (decl_list rest))) i.0 calls.0 (all_front M here more m))
      (bodies-placed rest (check.after_decl c d) (λ y k. all y (later_among d (decl_list rest) k)) i.1 calls.1 (all_back M here more m))

  -- ---- the whole

  sites-met : AllByRecursion M (check.check_sites p)
  sites-met = all_check_met p Original h.checks

  abbrev around : CheckScope
  around = check.around_program p

  abbrev main : List CheckSite
  main = check.decls_sites around (check.body_names p.decls) p.decls

  abbrev its : List CheckSite
  its = check.body_sites (check.after_decls around p.decls) 1 p.body

  few-main : length (main_variables g) ≤ variables_needed g
  few-main = among-greatest (length (main_variables g)) (length (main_variables g) ∷ map (variables_of_body g) (decl_list p.decls)) (first_among (map (variables_of_body g) (decl_list p.decls)))

  abbrev added : List PDecl
  added = flat_map (task_declared g) (tasks_beside g) ++ flat_map (bodies_of g) (decl_list p.decls)

  two-met : AllByRecursion M (main ++ its)
  two-met = all_front M (main ++ its) (check.counted_sites around p) sites-met.1

  decls-placed : EveryDecls r (normal_decls g)
  decls-placed =
      front-placed r (first_decls [] p.decls) (decls_of (main_variables g ++ flat_map (task_declared g) (tasks_beside g) ++ flat_map (bodies_of g) (decl_list p.decls))) (first-placed r [] p.decls whole.2)
      (list-placed r (main_variables g ++ flat_map (task_declared g) (tasks_beside g) ++ flat_map (bodies_of g) (decl_list p.decls))
      (all_joined (EveryDecl r) (main_variables g ++ flat_map (task_declared g) (tasks_beside g)) (flat_map (bodies_of g) (decl_list p.decls))
      (all_joined (EveryDecl r) (main_variables g) (flat_map (task_declared g) (tasks_beside g)) (unit-decls 0 p.body few-main) tasks-placed)
      (bodies-placed p.decls around (λ d k. k) whole.2 h.room.bodies (all_front M main its two-met))))

  order-kept : BodiesLast (normal_decls g)
  order-kept =
      first-last [] p.decls (decls_of (main_variables g ++ flat_map (task_declared g) (tasks_beside g) ++ flat_map (bodies_of g) (decl_list p.decls)))
      (subst (λ ds. BodiesLast (decls_of ds)) (sym (append_assoc (main_variables g) (flat_map (task_declared g) (tasks_beside g)) (flat_map (bodies_of g) (decl_list p.decls))))
      (variables-last 0 (main_variables g) added (unit-from g Fits its-placed 0 p.body)
      (tasks-last added (all_joined IsTaskOrBody (flat_map (task_declared g) (tasks_beside g)) (flat_map (bodies_of g) (decl_list p.decls)) (tasks-only g) (bodies-only g)))))

  -- The normal form of the program is well placed.
  pub normal_is_placed : IsWellPlaced (normal_tree g.program g.types g.numbers)
  normal_is_placed = (whole.0, order-kept, decls-placed, body-placed 0 p.body (check.after_decls around p.decls) few-main whole.3 (all_back M main its two-met) h.room.calls)
