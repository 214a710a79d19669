-- The tasks that a call or an abort statement names, as a place sees them and in the numbers (9.5, 9.10).
use Rattle.std.proofs.Common.{◌≡◌, ℕ, ℤ, zero, suc, pos, negsuc, ◌+ℤ◌, ◌-ℤ◌, true, false, if◌then◌else◌, List, [], ◌∷◌, ◌++◌, map, unwrap_or, Option, Some, None, is_some, is_none, Result, Ok, Err, refl, sym, ap, ◌∙◌, subst, true≢false, arith}
use Rattle.std.specs.Prelude.{int_le}
use Rattle.std.specs.List.{AllByRecursion}
use Rattle.std.proofs.lemmas.Int.{ints}
use Rattle.ada_tree.specs.declared.naming.NameId.{NameId}
use Rattle.ada_tree.specs.declared.naming.Span.{Span}
use Rattle.ada_tree.specs.declared.naming.Word.{Word}
use Rattle.ada_tree.specs.TypeTable.{TypeTable}
use Rattle.ada_tree.specs.PlainExpr.{PExpr, PDrange}
use Rattle.ada_tree.specs.PlainStmt.{PCallee}
use Rattle.ada_tree.specs.PlainDecl.{PTask}
use Rattle.ada_tree.specs.PlainProgram.{PProgram}
use Rattle.ada_static_rules.specs.Scope.{Scope, Thing, TypeMark, TaskType, SingleTask, TaskObject, TaskArray, Variable, ConstantObject, Parameter, LoopParameter, Literal, AnException, MainProcedure, AnotherUnit, Unclear, EntryPart, Range, meaning, entry_named}
use Rattle.ada_static_rules.specs.Sites.{callee_sites}
use Rattle.ada_static_rules.specs.RuleUnknown.{missing, unknown_entry}
use Rattle.ada_static_rules.specs.RuleMismatch.{of_other_kind, no_task, misfit_member}
use Rattle.ada_static_rules.specs.RuleRangeBad.{out_of, member_range, member_out_of}
use Rattle.ada_static_rules.specs.RuleArgCount.{index_of_callee, called_entry}
use Rattle.syn_event.specs.declared.numbering.Mode.TheVariants as mode
use Rattle.syn_event.specs.CheckScope.{CheckScope}
use Rattle.syn_event.specs.CheckScope as check
use Rattle.syn_event.specs.CheckSites as sites
use Rattle.syn_event.specs.RuleMainEntry as main
use Rattle.syn_event.specs.Extents.{count_to}
use Rattle.syn_event.specs.NamedTasks.{NamedTasks, task_names_of, NumberedTask, numbered_task, numbers_on, indices, tasks_of_range, tasks_of_name}
use Rattle.ada_value.specs.Values.{and_then, position_of}
use Rattle.ada_value.specs.Evaluating.{evaluated}
use Rattle.ada_value.specs.declared.values.Value.{Value}
use Rattle.ada_value.specs.declared.values.Raised.{Raised}
use Rattle.task_model.specs.Setting.{member_named, task_meant, callee_task}
use Rattle.task_laws.specs.legal.sites.Met.{IsMet, IsCheckMet}
use Rattle.normal_laws.proofs.structure.entries.Entries.{numbers, g, IsTaskOf}
use Rattle.normal_laws.proofs.existence.seen_tasks.Parts.{IsExtent, Stands, IsTaskArray}
use Rattle.normal_laws.proofs.existence.seen_tasks.Bodies.{PlaceSeen}
use Rattle.normal_laws.proofs.existence.seen_tasks.Tasks.{PartsKnown, same-units, part-apart, IsFirst, first-task, member-there}
use Rattle.normal_laws.proofs.existence.statement_forms.Typed.{Typing}
use Rattle.normal_laws.proofs.existence.seen_tasks.Finding.{no-place}
use Rattle.common_lemmas.proofs.Options.{none_there}

pub some-not : (s : Span) (l : List Span) → s ∷ l ≡ [] → ⊥
some-not s l e = cc

no-front : (xs ys : List Span) → xs ++ ys ≡ [] → xs ≡ []
no-front [] ys e = refl
no-front (x ∷ xs) ys e = absurd (some-not x (xs ++ ys) e)

no-back : (xs ys : List Span) → xs ++ ys ≡ [] → ys ≡ []
no-back [] ys e = e
no-back (x ∷ xs) ys e = absurd (some-not x (xs ++ ys) e)

there-some : {A : Type 0} (o : Option A) → is_none o ≡ false → (x : A) × (o ≡ Some x)
there-some None e = absurd (true≢false e)
there-some (Some x) e = (x, refl)

module _ (p : PProgram) (T : TypeTable) where
  -- ---- what a place sees of a callee

  -- a task without index, or the member of an array, whose index is of the array's kind and, where it is static, in its range
  pub data CalleeForm (s : Scope) (x : PCallee) : Option PDrange → Type 0 where
    one_task : x.index ≡ None → CalleeForm s x None
    one_member : (r : PDrange) (range : Range) (e : PExpr) → IsExtent T r range → x.index ≡ Some e → of_other_kind s (Some range.kind) e ≡ [] → out_of s e (Some range) ≡ [] → CalleeForm s x (Some r)

  pub record CalleeKnown (s : Scope) (x : PCallee) : Type 0 where
    pub index_range : Option PDrange
    pub entries : List EntryPart
    pub stands : Stands p T (task_names_of p) x.name.name index_range entries
    pub called : (name : NameId) → called_entry (meaning s x.name.name) name ≡ entry_named entries name
    pub unknown : (w : Word) → unknown_entry (meaning s x.name.name) w ≡ missing (entry_named entries w.name) w
    pub form : CalleeForm s x index_range

  module _ (Typed : Scope → Type 0) (typing : Typing T Typed) where
    pub callee-known : (who : Option PTask) (s : Scope) (c : CheckScope) (n : ℕ) (x : PCallee) → Typed s → PlaceSeen p T who s c → AllByRecursion IsMet (callee_sites s x) →
        AllByRecursion (IsCheckMet mode.Original p.names) (sites.callee_sites c n x) → CalleeKnown s x
    callee-known who s c n x typed seen met checked = by_form (meaning s id) refl
      where
        id : NameId
        id = x.name.name

        seen-name : (if is_some (meaning s id) then [] else x.name.span ∷ []) ≡ []
        seen-name = met.0.known

        is-task : no_task (meaning s id) x.name ++ misfit_member s (meaning s id) x.index ≡ []
        is-task = met.0.matched

        counted : index_of_callee (meaning s id) x.index x.name.span ≡ []
        counted = met.0.counted

        inside : member_out_of s x.index (member_range (meaning s id)) ≡ []
        inside = met.0.ranged

        no-main : main.no_task (check.meaning c id) x.name.span ≡ []
        no-main = checked.0.main

        other : (th : Thing) → meaning s id ≡ Some th → (no_task (Some th) x.name ≡ x.name.span ∷ []) → CalleeKnown s x
        other th e q = absurd (some-not x.name.span [] (sym q ∙ no-front (no_task (Some th) x.name) _ (ap (λ o. no_task o x.name ++ misfit_member s o x.index) (sym e) ∙ is-task)))

        by_form : (o : Option Thing) → meaning s id ≡ o → CalleeKnown s x
        by_form None e = absurd (some-not x.name.span [] (ap (λ o. if is_some o then [] else x.name.span ∷ []) (sym e) ∙ seen-name))
        by_form (Some (SingleTask es)) e = record {
          index_range = None;
          entries = es;
          stands = seen.seen id (SingleTask es) e;
          called = λ name. ap (λ o. called_entry o name) e;
          unknown = λ w. ap (λ o. unknown_entry o w) e;
          form = one_task (none_there x.index (no-place (is_some x.index) x.name.span (ap (λ o. index_of_callee o x.index x.name.span) (sym e) ∙ counted)));
        }
        by_form (Some (TaskObject es)) e = record {
          index_range = None;
          entries = es;
          stands = seen.seen id (TaskObject es) e;
          called = λ name. ap (λ o. called_entry o name) e;
          unknown = λ w. ap (λ o. unknown_entry o w) e;
          form = one_task (none_there x.index (no-place (is_some x.index) x.name.span (ap (λ o. index_of_callee o x.index x.name.span) (sym e) ∙ counted)));
        }
        by_form (Some (TaskArray range es)) e =
            let index = there-some x.index (no-place (is_none x.index) x.name.span (ap (λ o. index_of_callee o x.index x.name.span) (sym e) ∙ counted)) in
            let row : IsTaskArray p T (task_names_of p) id range es = seen.seen id (TaskArray range es) e in
            record {
              index_range = Some row.range;
              entries = es;
              stands = row.stands;
              called = λ name. ap (λ o. called_entry o name) e;
              unknown = λ w. ap (λ o. unknown_entry o w) e;
              form = one_member row.range range index.0 row.extent index.1
                  (ap (misfit_member s (Some (TaskArray range es))) (sym index.1) ∙ ap (λ o. misfit_member s o x.index) (sym e)
                  ∙ no-back (no_task (meaning s id) x.name) (misfit_member s (meaning s id) x.index) is-task)
                  (ap (λ o. member_out_of s o (Some range)) (sym index.1) ∙ ap (λ o. member_out_of s x.index (member_range o)) (sym e) ∙ inside);
            }
        by_form (Some (TaskType es)) e = absurd (some-not x.name.span [] (ap (λ o. main.no_task o x.name.span) (sym (seen.pairs id (TaskType es) e)) ∙ no-main))
        by_form (Some MainProcedure) e = absurd (some-not x.name.span [] (ap (λ o. main.no_task o x.name.span) (sym (seen.pairs id MainProcedure e)) ∙ no-main))
        by_form (Some Unclear) e = absurd (typing.clear s id typed e)
        by_form (Some (TypeMark m)) e = other (TypeMark m) e refl
        by_form (Some (Variable m)) e = other (Variable m) e refl
        by_form (Some (ConstantObject m)) e = other (ConstantObject m) e refl
        by_form (Some (Parameter mode m)) e = other (Parameter mode m) e refl
        by_form (Some (LoopParameter m)) e = other (LoopParameter m) e refl
        by_form (Some (Literal k)) e = other (Literal k) e refl
        by_form (Some AnException) e = other AnException e refl
        by_form (Some AnotherUnit) e = other AnotherUnit e refl

  -- ---- in the numbers

  -- a range that is not empty has a first value
  some-size : (f l : ℤ) → int_le f l ≡ true → (m : ℕ) × (count_to ((l -ℤ f) +ℤ pos 1) ≡ suc m)
  some-size f l h = by_form ((l -ℤ f) +ℤ pos 1) refl
    where
      by_form : (z : ℤ) → (l -ℤ f) +ℤ pos 1 ≡ z → (m : ℕ) × (count_to z ≡ suc m)
      by_form (pos (suc m)) e = (m, refl)
      by_form (pos zero) e = let y : ⊥ = grind (arith, ints) in absurd y
      by_form (negsuc n) e = let y : ⊥ = grind (arith, ints) in absurd y

  -- the tasks of a part, of which there is a first one
  pub record HasTasks (part : NamedTasks) : Type 0 where
    pub first : NumberedTask
    pub more : List NumberedTask
    pub list : tasks_of_name T part ≡ first ∷ more
    pub unit : first.unit ≡ part.unit

  row-numbered-tasks : (x : NamedTasks) (r : PDrange) (range : Range) → IsExtent T r range → (y : NumberedTask) × (more : List NumberedTask) × (tasks_of_range T x (Some r) ≡ y ∷ more) × (y.unit ≡ x.unit)
  row-numbered-tasks x r range h =
      let m = some-size range.first range.last h.nonempty in (
        numbered_task x (Some range.first),
        map (λ i. numbered_task x (Some i)) (numbers_on (range.first +ℤ pos 1) m.0),
        ap (λ o. map (λ i. numbered_task x (Some i)) (indices o)) h.extent ∙ ap (λ n. map (λ i. numbered_task x (Some i)) (numbers_on range.first n)) m.1,
        refl,
      )

  module _ (s : Scope) (x : PCallee) (k : CalleeKnown s x) where
    pub callee-numbered-tasks : HasTasks k.stands.part
    callee-numbered-tasks = by_form k.index_range k.stands.index_range k.form
      where
        by_form : (o : Option PDrange) → k.stands.part.index_range ≡ o → CalleeForm s x o → HasTasks k.stands.part
        by_form None e (one_task q) = record { first = numbered_task k.stands.part None; more = []; list = ap (tasks_of_range T k.stands.part) e; unit = refl }
        by_form (Some _) e (one_member r range y ext q f h) =
            let z = row-numbered-tasks k.stands.part r range ext in
            record { first = z.0; more = z.1; list = ap (tasks_of_range T k.stands.part) e ∙ z.2; unit = z.3 }

    module _ (known : PartsKnown p T) where
      -- the first task of the name
      pub callee-first : IsFirst p T known x.name.name k.stands.part
      callee-first = first-task p T known x.name.name k.stands.part callee-numbered-tasks.first callee-numbered-tasks.more k.stands.found callee-numbered-tasks.list callee-numbered-tasks.unit

      -- a task that is meant is one of that unit
      pub record IsOneOf (t : ℕ) : Type 0 where
        pub numbered_task : NumberedTask
        pub is : IsTaskOf p T t numbered_task
        pub unit : numbered_task.unit ≡ k.stands.part.unit

      pub member-one : (z : ℤ) (t : ℕ) → member_named (numbers p T) x.name.name z ≡ Ok t → IsOneOf t
      member-one z t e =
          let m = member-there p T known x.name.name z t (part-apart p T known x.name.name k.stands.part k.stands.found) e in
          record { numbered_task = m.1.numbered_task; is = m.1.is; unit = same-units p T known t callee-first.number m.0 callee-first.info x.name.name m.1 callee-first.is ∙ callee-first.unit }

      pub first-one : IsOneOf callee-first.number
      first-one = record { numbered_task = callee-first.is.numbered_task; is = callee-first.is.is; unit = callee-first.unit }

      ok-same : (a c : ℕ) → and_then {A = ℕ} {B = ℕ} (Ok a) (λ n. Ok n) ≡ Ok c → a ≡ c
      ok-same a c e = cc

      raised-not : (y : Raised) (t : ℕ) → and_then {A = ℕ} {B = ℕ} (Err y) (λ n. Ok n) ≡ Ok t → ⊥
      raised-not y t e = cc

      pub named-one : (t : ℕ) → callee_task (g p T) [] x ≡ Ok t → IsOneOf t
      named-one t e = by_index x.index e
        where
          by_index : (o : Option PExpr) → task_meant (g p T) [] x.name.name o ≡ Ok t → IsOneOf t
          by_index None f = subst IsOneOf (sym (ap (λ o. unwrap_or o 0) callee-first.named) ∙ ok-same _ t f) first-one
          by_index (Some y) f = by_value (evaluated T [] y) f
            where
              by_value : (r : Result Value Raised) → and_then r (λ v. member_named (numbers p T) x.name.name (position_of v)) ≡ Ok t → IsOneOf t
              by_value (Ok v) q = member-one (position_of v) t q
              by_value (Err w) q = absurd (raised-not w t q)
