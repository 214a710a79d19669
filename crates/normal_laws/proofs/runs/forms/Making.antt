-- What is made from a program is a normal form of it.
use Rattle.std.proofs.Common.{◌≡◌, ℕ, zero, suc, ◌+◌, ◌<◌, ◌^◌, ℤ, Bool, true, false, ◌==◌, if◌then◌else◌, List, [], ◌∷◌, length, drop, Option, Some, None, option_map, refl, sym, ap, subst, ◌∙◌, arith, slice_get}
use Rattle.std.specs.Prelude.{unwrap_or}
use Rattle.std.specs.List.{AllByRecursion}
use Rattle.std.proofs.lemmas.Bool.{ne_eqb}
use Rattle.std.proofs.lemmas.List.{append-nil}
use Rattle.std.proofs.lemmas.Option.{slice_get_within}
use Rattle.ada_tree.specs.declared.naming.NameId.{NameId}
use Rattle.ada_tree.specs.declared.naming.Span.{Span}
use Rattle.ada_tree.specs.TypeTable.{TypeTable}
use Rattle.ada_static_rules.specs.Refusals.{types_in}
use Rattle.ada_tree.specs.PlainExpr.{PSubind}
use Rattle.ada_tree.specs.PlainDecl.{OPlain, DNumber, DObject, DEnumeration, DArray, DSubtype, DException, DIntIo, DPragma, DTask, DTaskBody, PDecl, PDecls, no_decl, decl_then, decls_of}
use Rattle.ada_tree.specs.PlainProgram.{PProgram}
use Rattle.syn_event.specs.declared.numbering.TaskInfo.{TaskInfo}
use Rattle.syn_event.specs.declared.numbering.EntryInfo.{EntryInfo}
use Rattle.syn_event.specs.Numbering.{task_at, entry_at}
use Rattle.ada_value.specs.declared.values.Limits.{Limits}
use Rattle.ada_value.specs.Values.{integer_limits}
use Rattle.ada_value.specs.Variables.{Variables}
use Rattle.task_model.specs.Setting.{Setting, formals_of_info, formals_of_unit}
use Rattle.task_model.specs.Starting.{Unit, unit_among, unit_of_info, unit_of, objects_of}
use Rattle.normal_model.specs.Variables.{variable_declared}
use Rattle.normal_model.specs.NormalStmts.{normal_body, unit_variables}
use Rattle.normal_model.specs.NormalTree.{decls_front, tasks_beside, first_running}
use Rattle.normal_laws.specs.structure.types.Laws.{AreOwn}
use Rattle.normal_laws.proofs.structure.types.Normal.{normal_values, main_objects, body_objects}
use Rattle.normal_laws.proofs.structure.types.Names.{added_names_are_new}
use Rattle.normal_laws.specs.structure.units.Laws.{TellUnits, numbers_made, normal_unit, unit_made}
use Rattle.normal_laws.proofs.structure.units.Declared.{units_are_declared}
use Rattle.normal_laws.proofs.structure.units.Tasks.{tasks_keep_numbers, entries_keep_formals}
use Rattle.normal_laws.proofs.structure.units.Bodies.{units_are_rewritten}
use Rattle.task_laws.specs.translation.Translations.{Programs}
use Rattle.task_laws.specs.translation.Scopes.{AgreeOnTypes}
use Rattle.normal_laws.specs.runs.floors.Suited.{declared_limits, AreMade, rewritten_unit as unit_rewritten}
use Rattle.normal_laws.specs.runs.floors.NormalLists.{Begin}
use Rattle.normal_laws.specs.runs.floors.NormalFloors.{Extends}
use Rattle.normal_laws.specs.runs.floors.Preludes.{Added, AreThere}
use Rattle.normal_laws.specs.runs.floors.Declared.{AreDeclared}
use Rattle.normal_laws.specs.runs.runs.Premises.{Rewrite, programs_of, unit_at, unit_before, unit_after, objects_before, objects_after, IsNormalForm}
use Rattle.normal_laws.proofs.runs.runs.Imitating.{normal_forms_show_same, normal_forms_are_calm}
use Rattle.normal_laws.specs.runs.forms.Normalisable.{numbers_of, setting_for, made_for, first_for, first_task, variables_of, normal_rewrite, IsPlain, IsNormalisable}
use Rattle.normal_laws.specs.runs.forms.Laws.{MadeIsNormal, ProgramsShowSame, MadeIsCalm}
use Rattle.normal_laws.proofs.runs.forms.Names.{names-apart}
use Rattle.normal_laws.proofs.runs.forms.Numbered.{AreNumbered, unit-numbered}
use Rattle.normal_laws.proofs.runs.forms.Owners.{owned}
use Rattle.normal_laws.proofs.runs.forms.Starting.{Stand, plain-extends, variables-stand}
use Rattle.common_lemmas.proofs.Lists.{element_at}

-- ---- lists

same-length : {A B : Type 0} (f : B → A) (xs : List A) (ys : List B) → ((t : ℕ) → slice_get xs t ≡ option_map f (slice_get ys t)) → length xs ≡ length ys
same-length f [] [] h = refl
same-length f [] (y ∷ ys) h = absurd (let none : ⊥ = none-some (h 0) in none)
  where
    none-some : {A : Type 0} {a : A} → None ≡ Some a → ⊥
    none-some e = cc
same-length f (x ∷ xs) [] h = absurd (let none : ⊥ = some-none (h 0) in none)
  where
    some-none : {A : Type 0} {a : A} → Some a ≡ None → ⊥
    some-none e = cc
same-length f (x ∷ xs) (y ∷ ys) h = ap suc (same-length f xs ys (λ t. h (suc t)))

pub beside : {A : Type 0} (xs : List A) (t : ℕ) → slice_get xs (suc t) ≡ slice_get (drop 1 xs) t
beside [] t = refl
beside (x ∷ xs) t = refl

-- the subtype of a declared variable
abbrev limits_at : TypeTable → Option PDecl → Limits
limits_at types (Some (DObject names constant (OPlain x) init s)) = declared_limits types x
limits_at types _ = integer_limits

-- the objects of a body have names of the program
body-own : (p : PProgram) (ds : PDecls) → AreOwn p ds → (name : NameId) → AreOwn p (unit_among ds name).decls × ((unit_among ds name).in_main ≡ false)
body-own p no_decl h name = (tt, refl)
body-own p (decl_then (DTaskBody w objects its s) rest) h name = go (w.name.0 == name.0) (body-own p rest h.1 name)
  where
    go : (t : Bool) → AreOwn p (unit_among rest name).decls × ((unit_among rest name).in_main ≡ false) →
        AreOwn p (unwrap_or (if t then Some record { in_main = false; decls = objects; body = its } else None) (unit_among rest name)).decls
        × ((unwrap_or (if t then Some record { in_main = false; decls = objects; body = its } else None) (unit_among rest name)).in_main ≡ false)
    go true k = (h.0.3, refl)
    go false k = k
body-own p (decl_then (DTask x s) rest) h name = body-own p rest h.1 name
body-own p (decl_then (DNumber w e s) rest) h name = body-own p rest h.1 name
body-own p (decl_then (DObject ws c x i s) rest) h name = body-own p rest h.1 name
body-own p (decl_then (DEnumeration w ws s) rest) h name = body-own p rest h.1 name
body-own p (decl_then (DArray w r x s) rest) h name = body-own p rest h.1 name
body-own p (decl_then (DSubtype w x s) rest) h name = body-own p rest h.1 name
body-own p (decl_then (DException ws s) rest) h name = body-own p rest h.1 name
body-own p (decl_then (DIntIo w s) rest) h name = body-own p rest h.1 name
body-own p (decl_then (DPragma e s) rest) h name = body-own p rest h.1 name

module _ (p : PProgram) (inputs : List (List ℤ)) (can : IsNormalisable p inputs) where
  abbrev r : Rewrite
  r = normal_rewrite p inputs

  abbrev b : Programs
  b = programs_of r

  abbrev g : Setting
  g = setting_for p

  tell : TellUnits (setting_for p)
  tell = record { declared = units_are_declared p (types_in p) can.ordered; named = can.tell }

  abbrev U : TypeTable
  U = types_in (made_for p)

  types : AgreeOnTypes b
  types =
      let v = normal_values p (types_in p) (numbers_of p) can.ordered can.tokens in
      record {
        marks = v.marks;
        fixed = v.fixed;
        fixed_known = v.fixed_known;
        values = v.values;
        values_known = v.values_known;
        bases = v.bases;
        kinds = v.kinds;
        integers = v.integers;
        truths = v.truths;
        texts = v.images;
      }

  -- ---- numbers

  formals : (e : ℕ) → formals_of_info b.original (entry_at b.original.numbers e) ≡ formals_of_info b.made (entry_at b.original.numbers e)
  formals e = go (entry_at b.original.numbers e) refl
    where
      go : (o : Option EntryInfo) → entry_at b.original.numbers e ≡ o → formals_of_info b.original o ≡ formals_of_info b.made o
      go None q = refl
      go (Some info) q =
          let t = owned p e info q in
          ap (λ n. formals_of_unit p (task_at (numbers_of p) n) info.name) t.1
          ∙ ap (λ o. formals_of_unit p o info.name) (beside (numbers_of p).tasks t.0)
          ∙ sym (entries_keep_formals p (types_in p) (numbers_of p) tell t.0 info.name)
          ∙ sym (ap (λ n. formals_of_unit (made_for p) (task_at (numbers_made p (types_in p) (numbers_of p)) n) info.name) t.1)

  made : AreMade b
  made = record {
    types = types;
    statics = λ id h. h;
    entries = refl;
    formals = formals;
    marks = can.marks;
    families = can.families;
    truths = can.truths;
    integers = can.integers;
  }

  size : length r.made_numbers.tasks ≡ length r.numbers.tasks
  size = ap suc (same-length _ _ (tasks_beside g) (tasks_keep_numbers p (types_in p) (numbers_of p) tell))

  -- ---- variables

  added : (t : ℕ) → Added b b.original
  added t = record {
    count = length (variables_of p t);
    bounds = λ k. limits_at U (slice_get (variables_of p t) k);
    new = λ k l. added_names_are_new g k;
    apart = λ j k l m e. names-apart g j k (below j l) (below k m) e;
  }
    where
      below : (k : ℕ) → k < length (variables_of p t) → k + 1 < 2 ^ 64
      below k l = let f : length (variables_of p t) < 2 ^ 64 = can.few t in omega (arith, l, f)

  declared : (t : ℕ) → AreDeclared (unit_at r t) (added t)
  unfolding added
  declared t = record { count = refl; bounds = λ k s x e. ap (limits_at U) e }

  -- what the declarations say of them
  bounds-at : (t : ℕ) (k : ℕ) (s : Span) (x : PSubind) → slice_get (variables_of p t) k ≡ Some (variable_declared g s x k) → (k < (added t).count) × ((added t).bounds k ≡ declared_limits U x)
  unfolding added
  bounds-at t k s x e = (slice_get_within (variables_of p t) k (variable_declared g s x k) e, ap (limits_at U) e)

  numbered : (t : ℕ) → AreNumbered g (variables_of p t) 0
  numbered zero = unit-numbered (record { setting = g; task = 0 }) p.body
  numbered (suc t) = unit-numbered (record { setting = g; task = first_task p (suc t) }) (unit_of p (numbers_of p) (suc t)).body

  stand : (t : ℕ) (in_main : Bool) (V : Variables) → AllByRecursion (IsPlain b) V → Stand b (added t) U in_main V (objects_of U in_main (decls_of (variables_of p t)) V) (length (variables_of p t))
  stand t in_main V plain =
      let n : 0 + length (variables_of p t) ≡ length (variables_of p t) = omega arith in
      subst (Stand b (added t) U in_main V (objects_of U in_main (decls_of (variables_of p t)) V)) n
      (variables-stand b (added t) U in_main V (variables_of p t) (bounds-at t) (numbered t) (λ j. let e : j ≡ 0 + j = omega arith in ap (slice_get (variables_of p t)) e) (can.scalar t) V
      (record { extends = plain-extends b (added t) U in_main V plain; there = λ j l m. absurd (omega (arith, l)) }))

  -- ---- units

  -- a unit beside main: whose it is, and what it becomes
  record Beside (t : ℕ) : Type 0 where
    info : TaskInfo
    at : slice_get (tasks_beside g) t ≡ Some info
    before : unit_before r (suc t) ≡ unit_among p.decls info.unit
    after : unit_after r (suc t) ≡ normal_unit g info.unit (unit_before r (suc t))
    first : first_running g info.unit ≡ first_task p (suc t)

  beside-main : (t : ℕ) → suc t < length r.numbers.tasks → Beside t
  beside-main t l =
      let q = element_at r.numbers.tasks (suc t) l in
      let e : slice_get (tasks_beside g) t ≡ Some q.0 = sym (beside r.numbers.tasks t) ∙ q.1 in
      record {
        info = q.0;
        at = e;
        before = ap (λ c. if c then record { in_main = true; decls = p.decls; body = p.body } else unit_of_info p (task_at r.numbers (suc t))) (ne_eqb (suc t) 0 (λ h. omega (arith, h))) ∙ ap (unit_of_info p) q.1;
        after = units_are_rewritten p (types_in p) (numbers_of p) tell t ∙ ap (λ o. unit_made g o (unit_before r (suc t))) e;
        first = sym (ap (first_for g) e);
      }

  bodies : (t : ℕ) → t < length r.numbers.tasks → (unit_after r t).body ≡ normal_body (unit_rewritten (unit_at r t)) (unit_before r t).body
  bodies zero l = refl
  bodies (suc t) l =
      let u = beside-main t l in
      ap (λ (y : Unit). y.body) u.after ∙ ap (λ n. normal_body (record { setting = g; task = n }) (unit_before r (suc t)).body) u.first

  begins : (t : ℕ) → Begin (unit_variables (unit_rewritten (unit_at r t)) (unit_before r t).body) (r.vars t)
  begins zero = ([], sym (append-nil (variables_of p 0)))
  begins (suc t) = ([], sym (append-nil (variables_of p (suc t))))

  -- the task is main
  abbrev is_main : ℕ → Bool
  is_main zero = true
  is_main (suc t) = false

  objects-are : (t : ℕ) → t < length r.numbers.tasks → objects_after r t ≡ objects_of U (is_main t) (decls_of (variables_of p t)) (objects_before r t)
  objects-are zero l = main_objects p (types_in p) (numbers_of p) can.ordered can.own
  objects-are (suc t) l =
      let u = beside-main t l in
      let c = body-own p p.decls can.own u.info.unit in
      let own : AreOwn p (unit_before r (suc t)).decls = subst (λ (y : Unit). AreOwn p y.decls) (sym u.before) c.0 in
      let no_main : (unit_before r (suc t)).in_main ≡ false = ap (λ (y : Unit). y.in_main) u.before ∙ c.1 in
      ap (λ (y : Unit). objects_of U y.in_main y.decls []) u.after
      ∙ ap (λ n. objects_of U false (decls_front (unit_before r (suc t)).decls (decls_of (unit_variables (record { setting = g; task = n }) (unit_before r (suc t)).body))) []) u.first
      ∙ body_objects p (types_in p) (numbers_of p) can.ordered (unit_before r (suc t)).decls (variables_of p (suc t)) own
      ∙ ap (λ m. objects_of U false (decls_of (variables_of p (suc t))) (objects_of (types_in p) m (unit_before r (suc t)).decls [])) (sym no_main)

  objects : (t : ℕ) → t < length r.numbers.tasks → Extends b (objects_before r t) (objects_after r t)
  objects t l = subst (λ W. Extends b (objects_before r t) W) (sym (objects-are t l)) (stand t (is_main t) (objects_before r t) (can.plain t)).extends

  there : (t : ℕ) → t < length r.numbers.tasks → AreThere (added t) (objects_after r t)
  unfolding added
  there t l = subst (λ W. AreThere (added t) W) (sym (objects-are t l)) (λ j m. (stand t (is_main t) (objects_before r t) (can.plain t)).there j (below j m) m)
    where
      below : (j : ℕ) → j < (added t).count → j < length (variables_of p t)
      below j m = m

  pub made-is-normal : IsNormalForm r
  made-is-normal = record {
    inputs = refl;
    programs = made;
    well = can.well;
    size = size;
    added = added;
    declared = declared;
    text = can.text;
    begins = λ t l. begins t;
    bodies = bodies;
    objects = objects;
    there = there;
  }

pub made_is_normal : MadeIsNormal
made_is_normal p inputs can = made-is-normal p inputs can

pub programs_show_same : ProgramsShowSame
programs_show_same p inputs can = normal_forms_show_same (normal_rewrite p inputs) (made-is-normal p inputs can)

pub made_is_calm : MadeIsCalm
made_is_calm p inputs can = normal_forms_are_calm (normal_rewrite p inputs) (made-is-normal p inputs can)
