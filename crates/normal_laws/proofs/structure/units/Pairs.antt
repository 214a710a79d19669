-- A name that stands for tasks of a legal program stands for tasks of one unit.
use Rattle.std.proofs.Common.{◌≡◌, ℕ, ◌==◌, Bool, true, false, List, [], ◌∷◌, ◌++◌, map, flat_map, Option, Some, None, refl, sym, ◌∙◌, true≢false}
use Rattle.std.specs.List.{AllByRecursion}
use Rattle.std.proofs.lemmas.Bool.{or_left, or_right, eq-eqb}
use Rattle.ada_tree.specs.declared.naming.NameId.{NameId}
use Rattle.ada_tree.specs.declared.naming.Span.{Span}
use Rattle.ada_tree.specs.declared.naming.Word.{Word}
use Rattle.ada_tree.specs.TypeTable.{TypeTable}
use Rattle.ada_tree.specs.PlainExpr.{PDrange}
use Rattle.ada_tree.specs.PlainDecl.{PShape, OPlain, OArray, PTask, PDecl, DNumber, DObject, DEnumeration, DArray, DSubtype, DException, DIntIo, DPragma, DTask, DTaskBody, PDecls, no_decl, decl_then}
use Rattle.ada_static_rules.specs.Scope.{Scope, Thing, AnException}
use Rattle.ada_static_rules.specs.RuleDuplicate.{is_predefined, is_among}
use Rattle.ada_static_rules.specs.Declaring.{first_scope, with_name, with_names, after_decl}
use Rattle.syn_event.specs.declared.numbering.TaskInfo.{TaskInfo}
use Rattle.syn_event.specs.Extents.{extent}
use Rattle.syn_event.specs.NamedTasks.{NamedTasks, named_tasks, type_named, task_names_of_type, object_task_names, with_type, single_task_name, task_names_in, task_names_of, NumberedTask, numbered_task, indices, tasks_of_range, tasks_of_name, numbered_tasks}
use Rattle.syn_event.specs.AllNumbers.{info_of_task}
use Rattle.task_laws.specs.legal.rewritten_types.Rewriting.{IsUsed, IsUnused, DeclareOnce}
use Rattle.task_laws.proofs.legal.rewritten_types.Fresh.{other, used-more}
use Rattle.task_laws.proofs.legal.rewritten_types.Refused.{declared_once}
use Rattle.normal_laws.proofs.structure.types.Variables.{all-mapped}
use Rattle.normal_laws.specs.structure.units.Laws.{NamesTellUnits}
use Rattle.common_lemmas.proofs.Lists.{all_joined, all_weaker}

-- ---- used names

used-names : (thing : Thing) (ws : List Word) (s : Scope) (id : NameId) → IsUsed s id → IsUsed (with_names thing s ws) id
used-names thing [] s id h = h
used-names thing (w ∷ ws) s id h = used-names thing ws (with_name thing s w) id (used-more s w.name.0 id h)

-- what is used stays used
pub used-decl : (d : PDecl) (s : Scope) (id : NameId) → IsUsed s id → IsUsed (after_decl s d) id
used-decl (DNumber name e sp) s id h = used-more s name.name.0 id h
used-decl (DObject names c x i sp) s id h = used-names _ names _ id h
used-decl (DEnumeration name ws sp) s id h = used-names _ ws _ id (used-more s name.name.0 id h)
used-decl (DArray name r x sp) s id h = used-more s name.name.0 id h
used-decl (DSubtype name x sp) s id h = used-more s name.name.0 id h
used-decl (DException names sp) s id h = used-names _ names s id h
used-decl (DIntIo name sp) s id h = used-more s name.name.0 id h
used-decl (DPragma e sp) s id h = h
used-decl (DTask t sp) s id h = used-more s t.name.name.0 id h
used-decl (DTaskBody w objects its sp) s id h = h

-- a name is used behind its declaration
name-used : (thing : Thing) (w : Word) (s : Scope) → IsUsed (with_name thing s w) w.name
name-used thing w s = or_right (is_predefined w.name.0) _ (or_left (w.name.0 == w.name.0) (is_among s.here w.name.0) (eq-eqb w.name.0 w.name.0 refl))

names-used : (thing : Thing) (ws : List Word) (s : Scope) → AllByRecursion (λ (w : Word). IsUsed (with_names thing s ws) w.name) ws
names-used thing [] s = tt
names-used thing (w ∷ ws) s = (used-names thing ws (with_name thing s w) w.name (name-used thing w s), names-used thing ws (with_name thing s w))

-- ---- names for tasks

-- the names are others
abbrev AreOthers : NameId → List NamedTasks → Type 0
AreOthers id xs = AllByRecursion (λ (x : NamedTasks). (x.name.name.0 == id.0) ≡ false) xs

unused-other : (s : Scope) (w : Word) (id : NameId) → IsUsed s id → IsUnused s w → (w.name.0 == id.0) ≡ false
unused-other s w id h u = other s.here w.name.0 id.0 u.0 u.1 h

typed-others : (s : Scope) (o : Option PTask) (names : List Word) (row : Option PDrange) (id : NameId) → IsUsed s id → AllByRecursion (IsUnused s) names → AreOthers id (task_names_of_type o names row)
typed-others s (Some t) [] row id h u = tt
typed-others s (Some t) (w ∷ ws) row id h u = (unused-other s w id h u.0, typed-others s (Some t) ws row id h u.1)
typed-others s None names row id h u = tt

object-others : (s : Scope) (kinds : List PTask) (names : List Word) (shape : PShape) (id : NameId) → IsUsed s id → AllByRecursion (IsUnused s) names → AreOthers id (object_task_names kinds names shape)
object-others s kinds names (OPlain x) id h u = typed-others s (type_named kinds x.mark.name) names None id h u
object-others s kinds names (OArray index x) id h u = typed-others s (type_named kinds x.mark.name) names (Some index) id h u

single-others : (s : Scope) (b : Bool) (t : PTask) (sp : Span) (id : NameId) → IsUsed s id → IsUnused s t.name → AreOthers id (single_task_name b t sp)
single-others s true t sp id h u = tt
single-others s false t sp id h u = (unused-other s t.name id h u, tt)

-- a used name is none of those that are declared behind it
parts-others : (ds : PDecls) (kinds : List PTask) (s : Scope) (id : NameId) → IsUsed s id → DeclareOnce s ds → AreOthers id (task_names_in kinds ds)
parts-others no_decl kinds s id h once = tt
parts-others (decl_then (DTask t sp) rest) kinds s id h once =
    all_joined _ (single_task_name t.of_kind t sp) _ (single-others s t.of_kind t sp id h once.0.0) (parts-others rest (with_type kinds t.of_kind t) _ id (used-decl (DTask t sp) s id h) once.1)
parts-others (decl_then (DObject names c x i sp) rest) kinds s id h once =
    all_joined _ (object_task_names kinds names x) _ (object-others s kinds names x id h once.0) (parts-others rest kinds _ id (used-decl (DObject names c x i sp) s id h) once.1)
parts-others (decl_then (DTaskBody w objects its sp) rest) kinds s id h once = parts-others rest kinds _ id (used-decl (DTaskBody w objects its sp) s id h) once.1
parts-others (decl_then (DNumber name e sp) rest) kinds s id h once = parts-others rest kinds _ id (used-decl (DNumber name e sp) s id h) once.1
parts-others (decl_then (DEnumeration name ws sp) rest) kinds s id h once = parts-others rest kinds _ id (used-decl (DEnumeration name ws sp) s id h) once.1
parts-others (decl_then (DArray name r x sp) rest) kinds s id h once = parts-others rest kinds _ id (used-decl (DArray name r x sp) s id h) once.1
parts-others (decl_then (DSubtype name x sp) rest) kinds s id h once = parts-others rest kinds _ id (used-decl (DSubtype name x sp) s id h) once.1
parts-others (decl_then (DException names sp) rest) kinds s id h once = parts-others rest kinds _ id (used-decl (DException names sp) s id h) once.1
parts-others (decl_then (DIntIo w sp) rest) kinds s id h once = parts-others rest kinds _ id (used-decl (DIntIo w sp) s id h) once.1
parts-others (decl_then (DPragma e sp) rest) kinds s id h once = parts-others rest kinds _ id (used-decl (DPragma e sp) s id h) once.1

-- ---- pairs

-- names that are the same are of one unit
abbrev OneUnit : NamedTasks → NamedTasks → Type 0
OneUnit a b = a.name.name.0 ≡ b.name.name.0 → a.unit.name.name.0 ≡ b.unit.name.name.0

abbrev ArePairs : List NamedTasks → Type 0
ArePairs xs = AllByRecursion (λ a. AllByRecursion (OneUnit a) xs) xs

differ : (a b : NamedTasks) → (b.name.name.0 == a.name.name.0) ≡ false → OneUnit a b
differ a b e same = absurd (true≢false (sym (eq-eqb _ _ (sym same)) ∙ e))

differ-too : (a b : NamedTasks) → (b.name.name.0 == a.name.name.0) ≡ false → OneUnit b a
differ-too a b e same = absurd (true≢false (sym (eq-eqb _ _ same) ∙ e))

-- what is in no one's way
turned : (xs ys : List NamedTasks) → AllByRecursion (λ (a : NamedTasks). AreOthers a.name.name ys) xs → AllByRecursion (λ (b : NamedTasks). AllByRecursion (OneUnit b) xs) ys
turned [] ys h = all-true ys
  where
    all-true : (ys : List NamedTasks) → AllByRecursion (λ (b : NamedTasks). Unit {0}) ys
    all-true [] = tt
    all-true (y ∷ ys) = (tt, all-true ys)
turned (x ∷ xs) ys h = both ys h.0 (turned xs ys h.1)
  where
    both : (ys : List NamedTasks) → AreOthers x.name.name ys → AllByRecursion (λ (b : NamedTasks). AllByRecursion (OneUnit b) xs) ys → AllByRecursion (λ (b : NamedTasks). AllByRecursion (OneUnit b) (x ∷ xs)) ys
    both [] o k = tt
    both (y ∷ ys) o k = ((differ-too x y o.0, k.0), both ys o.1 k.1)

pairs-joined : (xs ys : List NamedTasks) → ArePairs xs → ArePairs ys → AllByRecursion (λ (a : NamedTasks). AreOthers a.name.name ys) xs → ArePairs (xs ++ ys)
pairs-joined xs ys p q h =
    all_joined _ xs ys
    (joined xs p h)
    (with-front ys q (turned xs ys h))
  where
    joined : (front : List NamedTasks) → AllByRecursion (λ a. AllByRecursion (OneUnit a) xs) front → AllByRecursion (λ (a : NamedTasks). AreOthers a.name.name ys) front → AllByRecursion (λ a. AllByRecursion (OneUnit a) (xs ++ ys)) front
    joined [] p h = tt
    joined (a ∷ front) p h = (all_joined (OneUnit a) xs ys p.0 (all_weaker _ (OneUnit a) ys (λ b e. differ a b e) h.0), joined front p.1 h.1)

    with-front : (bs : List NamedTasks) → AllByRecursion (λ b. AllByRecursion (OneUnit b) ys) bs → AllByRecursion (λ b. AllByRecursion (OneUnit b) xs) bs → AllByRecursion (λ b. AllByRecursion (OneUnit b) (xs ++ ys)) bs
    with-front [] q r = tt
    with-front (b ∷ bs) q r = (all_joined (OneUnit b) xs ys r.0 q.0, with-front bs q.1 r.1)

-- names of one declaration are of one unit
typed-pairs : (o : Option PTask) (names : List Word) (row : Option PDrange) → ArePairs (task_names_of_type o names row)
typed-pairs (Some t) names row = all-mapped _ (λ w. named_tasks w w.span t row) (λ w. all-mapped (OneUnit (named_tasks w w.span t row)) (λ v. named_tasks v v.span t row) (λ v e. refl) names) names
typed-pairs None names row = tt

object-pairs : (kinds : List PTask) (names : List Word) (shape : PShape) → ArePairs (object_task_names kinds names shape)
object-pairs kinds names (OPlain x) = typed-pairs (type_named kinds x.mark.name) names None
object-pairs kinds names (OArray index x) = typed-pairs (type_named kinds x.mark.name) names (Some index)

single-pairs : (b : Bool) (t : PTask) (sp : Span) → ArePairs (single_task_name b t sp)
single-pairs true t sp = tt
single-pairs false t sp = (((λ e. refl), tt), tt)

-- the names of a declaration are used behind it
typed-cross : (s : Scope) (rest : List NamedTasks) (o : Option PTask) (names : List Word) (row : Option PDrange) → AllByRecursion (λ (w : Word). AreOthers w.name rest) names →
    AllByRecursion (λ (a : NamedTasks). AreOthers a.name.name rest) (task_names_of_type o names row)
typed-cross s rest (Some t) [] row h = tt
typed-cross s rest (Some t) (w ∷ ws) row h = (h.0, typed-cross s rest (Some t) ws row h.1)
typed-cross s rest None names row h = tt

object-cross : (s : Scope) (rest : List NamedTasks) (kinds : List PTask) (names : List Word) (shape : PShape) → AllByRecursion (λ (w : Word). AreOthers w.name rest) names →
    AllByRecursion (λ (a : NamedTasks). AreOthers a.name.name rest) (object_task_names kinds names shape)
object-cross s rest kinds names (OPlain x) h = typed-cross s rest (type_named kinds x.mark.name) names None h
object-cross s rest kinds names (OArray index x) h = typed-cross s rest (type_named kinds x.mark.name) names (Some index) h

single-cross : (rest : List NamedTasks) (b : Bool) (t : PTask) (sp : Span) → AreOthers t.name.name rest → AllByRecursion (λ (a : NamedTasks). AreOthers a.name.name rest) (single_task_name b t sp)
single-cross rest true t sp h = tt
single-cross rest false t sp h = (h, tt)

parts-pairs : (ds : PDecls) (kinds : List PTask) (s : Scope) → DeclareOnce s ds → ArePairs (task_names_in kinds ds)
parts-pairs no_decl kinds s once = tt
parts-pairs (decl_then (DTask t sp) rest) kinds s once =
    pairs-joined (single_task_name t.of_kind t sp) (task_names_in (with_type kinds t.of_kind t) rest) (single-pairs t.of_kind t sp) (parts-pairs rest (with_type kinds t.of_kind t) (after_decl s (DTask t sp)) once.1)
    (single-cross (task_names_in (with_type kinds t.of_kind t) rest) t.of_kind t sp (parts-others rest (with_type kinds t.of_kind t) (after_decl s (DTask t sp)) t.name.name (name-used AnException t.name s) once.1))
parts-pairs (decl_then (DObject names c x i sp) rest) kinds s once =
    pairs-joined (object_task_names kinds names x) (task_names_in kinds rest) (object-pairs kinds names x) (parts-pairs rest kinds (after_decl s (DObject names c x i sp)) once.1)
    (object-cross s (task_names_in kinds rest) kinds names x
    (all_weaker _ _ names (λ w u. parts-others rest kinds (after_decl s (DObject names c x i sp)) w.name u once.1) (names-used _ names _)))
parts-pairs (decl_then (DTaskBody w objects its sp) rest) kinds s once = parts-pairs rest kinds _ once.1
parts-pairs (decl_then (DNumber name e sp) rest) kinds s once = parts-pairs rest kinds _ once.1
parts-pairs (decl_then (DEnumeration name ws sp) rest) kinds s once = parts-pairs rest kinds _ once.1
parts-pairs (decl_then (DArray name r x sp) rest) kinds s once = parts-pairs rest kinds _ once.1
parts-pairs (decl_then (DSubtype name x sp) rest) kinds s once = parts-pairs rest kinds _ once.1
parts-pairs (decl_then (DException names sp) rest) kinds s once = parts-pairs rest kinds _ once.1
parts-pairs (decl_then (DIntIo w sp) rest) kinds s once = parts-pairs rest kinds _ once.1
parts-pairs (decl_then (DPragma e sp) rest) kinds s once = parts-pairs rest kinds _ once.1

-- ---- tasks

-- what holds of the name and unit of each part holds of those of each task in the numbers
module _ (P : NameId → NameId → Type 0) (types : TypeTable) (names : List (List ℕ)) where
  row-infos : (x : NamedTasks) (row : Option PDrange) → P x.name.name x.unit.name.name → AllByRecursion (λ (y : NumberedTask). P y.name y.unit.name.name) (tasks_of_range types x row)
  row-infos x (Some r) h = all-mapped _ (λ i. numbered_task x (Some i)) (λ i. h) (indices (extent types r))
  row-infos x None h = (h, tt)

  part-numbered-tasks : (xs : List NamedTasks) → AllByRecursion (λ (x : NamedTasks). P x.name.name x.unit.name.name) xs → AllByRecursion (λ (y : NumberedTask). P y.name y.unit.name.name) (flat_map (tasks_of_name types) xs)
  part-numbered-tasks [] h = tt
  part-numbered-tasks (x ∷ xs) h = all_joined _ (tasks_of_name types x) _ (row-infos x x.index_range h.0) (part-numbered-tasks xs h.1)

  numbered-task-infos : (xs : List NumberedTask) → AllByRecursion (λ (y : NumberedTask). P y.name y.unit.name.name) xs → AllByRecursion (λ (i : TaskInfo). P i.name i.unit) (map (info_of_task names) xs)
  numbered-task-infos [] h = tt
  numbered-task-infos (x ∷ xs) h = (h.0, numbered-task-infos xs h.1)

  pub part-infos : (xs : List NamedTasks) → AllByRecursion (λ (x : NamedTasks). P x.name.name x.unit.name.name) xs → AllByRecursion (λ (i : TaskInfo). P i.name i.unit) (map (info_of_task names) (flat_map (tasks_of_name types) xs))
  part-infos xs h = numbered-task-infos (flat_map (tasks_of_name types) xs) (part-numbered-tasks xs h)

pub names_tell_units : NamesTellUnits
names_tell_units p types ordered =
    part-infos (λ id unit. AllByRecursion (λ (b : TaskInfo). id.0 ≡ b.name.0 → unit.0 ≡ b.unit.0) (map (info_of_task p.names) (numbered_tasks types p))) types p.names (task_names_of p)
    (all_weaker _ _ (task_names_of p) (λ a h. part-infos (λ id unit. a.name.name.0 ≡ id.0 → a.unit.name.name.0 ≡ unit.0) types p.names (task_names_of p) h) (parts-pairs p.decls [] (first_scope p.name) (declared_once p ordered.rules).1))
