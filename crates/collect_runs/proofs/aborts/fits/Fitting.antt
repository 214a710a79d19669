-- Calls and aborts in the normal form of a legal program: whom they name, and that the actuals of a call are variables with the subtypes of the formals.
use Rattle.std.proofs.Common.{◌≡◌, ℕ, suc, ◌+◌, ◌<◌, Bool, true, false, List, [], ◌∷◌, ◌++◌, length, map, option_map, unwrap_or, Option, Some, None, refl, sym, ap, subst, ◌∙◌, arith}
use Rattle.std.specs.List.{AllByRecursion}
use Rattle.std.proofs.lemmas.Option.{slice_get_within}
use Rattle.ada_tree.specs.declared.naming.NameId.{NameId}
use Rattle.ada_tree.specs.declared.naming.Span.{Span}
use Rattle.ada_tree.specs.declared.naming.Word.{Word}
use Rattle.ada_tree.specs.TypeTable.{TypeTable}
use Rattle.ada_tree.specs.PlainExpr.{PExpr}
use Rattle.ada_tree.specs.PlainStmt.{PCallee, PArgs, PCall, PFormal, PStmt, SNull, SAssign, SDelay, SExit, SRaise, SAbort, SCall, SAccept, SWait, SConditional, STimed, SPut, SPutLine, SNewLine, SGet, SIf, SCase, SBlock, SLoop}
use Rattle.ada_tree.specs.PlainProgram.{PProgram}
use Rattle.ada_static_rules.specs.Refusals.{types_in}
use Rattle.ada_value.specs.Values.{limits_named}
use Rattle.ada_value.specs.Variables.{Object, object_named}
use Rattle.syn_event.specs.Numbering.{task_named, entry_at}
use Rattle.task_model.specs.declared.parameters.FormalParameter.{FormalParameter}
use Rattle.task_model.specs.Setting.{Setting, entry_of, is_family, parameters_of, formals_of_info, entry_parameters, lists_in, lists_of}
use Rattle.task_model.specs.Calls.{variable_of}
use Rattle.task_laws.specs.statements.Each.{Loops, InBody}
use Rattle.task_laws.specs.legal.asked.Asked.{Asks, AskedStmt}
use Rattle.task_laws.specs.legal.asked.Kinds.{no_asks}
use Rattle.normal_model.specs.Names.{variable_name}
use Rattle.normal_model.specs.Ranges.{marked}
use Rattle.normal_model.specs.Making.{variable}
use Rattle.normal_model.specs.Calls.{entry_called, lists_called, args_passed, lists_passed, call_to, call_subtypes, slots_of, slots_called, Slot, actual_number, actuals_passed, actual_subtypes}
use Rattle.normal_model.specs.RewrittenUnit.{RewrittenUnit}
use Rattle.normal_model.specs.NormalTree.{tasks_beside}
use Rattle.normal_model.specs.NormalStmts.{normal_body, unit_variables}
use Rattle.normal_model.proofs.VariablesLemmas.{Begins}
use Rattle.normal_laws.specs.structure.asked.Pieces.{IsVariable, AreVariables, IsTarget, Pieces}
use Rattle.normal_laws.proofs.structure.asked.CallVariables.{actuals-there}
use Rattle.normal_laws.proofs.structure.asked.Walk.{body-keeps}
use Rattle.normal_laws.proofs.structure.entries.Entries.{HasEntry}
use Rattle.normal_laws.specs.structure.typed.ScopeOf.{AreTasksOf}
use Rattle.normal_laws.specs.runs.floors.Suited.{declared_limits, AreMarked, none_marked, marked_then, HasLists, no_lists, plain_lists, family_lists, rewritten_unit}
use Rattle.normal_laws.specs.runs.floors.Preludes.{cell}
use Rattle.normal_laws.proofs.runs.calls.Formals.{marks-same}
use Rattle.normal_laws.specs.runs.runs.Premises.{Rewrite, programs_of, unit_at, unit_before, IsNormalForm}
use Rattle.normal_laws.specs.runs.forms.Normalisable.{numbers_of, setting_for, made_for, variables_of, first_task, normal_rewrite}
use Rattle.normal_laws.specs.existence.Laws.{IsLegalOriginal}
use Rattle.normal_laws.proofs.existence.Joined.{legal_is_normal}
use Rattle.normal_laws.proofs.existence.statements.Asked.{body-each}
use Rattle.task_laws.specs.translation.Translations.{Programs}
use Rattle.replay_structure.specs.legal.names.form_units.Inner.{inner_name}
use Rattle.replay_structure.proofs.legal.names.form_units.Entries.{place-of, named-number}
use Rattle.replay_runs.specs.starts.Laws.{form_in, start_before}
use Rattle.replay_runs.specs.starts.Formals.{form_setting}
use Rattle.replay_runs.proofs.controls.indices.Joined.{legal_variables_are_added}
use Rattle.replay_runs.proofs.controls.formed.Asked.{IsCallKnown, unit_asks}
use Rattle.replay_runs.proofs.controls.formed.Units.{units-asked}

-- ---- what holds of them

-- The callee is the name of a task of the normal form that is not main (9.5, 9.10).
pub record IsBeside (p : PProgram) (x : PCallee) : Type 0 where
  pub simple : x.index ≡ None
  pub task : ℕ
  pub named : task_named (form_in p).numbers x.name.name ≡ Some task
  pub beside : 0 < task
  pub within : task < length (numbers_of p).tasks

-- The actual is a variable of the unit of the task t that no loop and no accept declares, and it has the subtype of the formal (6.4.1).
pub record FitsActual (p : PProgram) (t : ℕ) (f : FormalParameter) (e : PExpr) : Type 0 where
  pub name : NameId
  pub variable : variable_of e ≡ Some name
  pub outer : inner_name p name.0 ≡ false
  pub object : Object
  pub there : object_named (start_before p t) name ≡ Some object
  pub limits : object.limits ≡ f.limits

-- so are actuals, in order
abbrev pub FitActuals : PProgram → ℕ → List FormalParameter → List PExpr → Type 0
FitActuals p t [] es = Unit {0}
FitActuals p t (f ∷ fs) [] = Unit {0}
FitActuals p t (f ∷ fs) (e ∷ es) = FitsActual p t f e × FitActuals p t fs es

-- the entry of the normal form that a call of this task names
abbrev pub entry_meant : PProgram → ℕ → PCall → ℕ
entry_meant p task c = entry_of (form_in p).numbers task c.entry.name

-- A call in the unit of the task t is of a task beside main, with such actuals.
pub record IsFitCall (p : PProgram) (t : ℕ) (c : PCall) : Type 0 where
  pub callee : IsBeside p c.task
  pub actuals :
      FitActuals p t (entry_parameters (form_setting p) (entry_meant p callee.task c))
      (lists_of (form_in p).numbers (entry_meant p callee.task c) c.args).actuals

-- The statement of the task t is so, itself and without the statements in it: an abort statement names tasks beside main, and a call is such. Nothing is
-- asked of other statements.
abbrev pub IsFit : PProgram → ℕ → Loops → PStmt → Type 0
IsFit p t loops (SAbort xs s) = AllByRecursion (IsBeside p) xs
IsFit p t loops (SCall c s) = IsFitCall p t c
IsFit p t loops (SConditional c more otherwise s) = IsFitCall p t c
IsFit p t loops (STimed c more duration after s) = IsFitCall p t c
IsFit p t loops _ = Unit {0}

-- ---- the statements that the normal form makes

module _ (p : PProgram) (h : IsLegalOriginal p) where
  abbrev T : TypeTable
  T = types_in p

  abbrev U : TypeTable
  U = types_in (made_for p)

  abbrev G : Setting
  G = setting_for p

  abbrev r : Rewrite
  r = normal_rewrite p []

  abbrev b : Programs
  b = programs_of r

  normal : IsNormalForm r
  normal = legal_is_normal p h []

  -- a name that takes the place of a callee is that of a task beside main
  task-beside : (x : PCallee) (w : Word) → AreTasksOf G x → IsTarget G x w → IsBeside p (record { name = w; index = None })
  task-beside x w m target =
      let it = m.targets w target in
      let at = place-of p h it.info it.among in
      record {
        simple = refl;
        task = suc at.0;
        named = ap (λ id. task_named (form_in p).numbers id) it.is ∙ named-number p h at.0 it.info it.among at.1;
        beside = omega arith;
        within = let inside = slice_get_within (tasks_beside G) at.0 it.info at.1 in omega (arith, inside);
      }

  -- the formals of an entry are the same by both tables
  parameters-same : (e : ℕ) → entry_parameters (form_setting p) e ≡ parameters_of T (formals_of_info G (entry_at (numbers_of p) e))
  parameters-same e =
      let made = normal.programs in
      sym (marks-same b made.types (made.marks e) ∙ ap (λ fs. parameters_of U fs) (made.formals e))

  module _ (t : ℕ) (l : t < length (numbers_of p).tasks) where
    -- a variable of a formal's mark fits the formal
    variable-fits : (f : FormalParameter) (w : Word) (s : Span) (k : ℕ) → f.limits ≡ declared_limits U (marked w) →
        IsVariable G (variables_of p t) s (marked w) k → FitsActual p t f (variable G s k)
    variable-fits f w s k limits is =
        let less : k < length (variables_of p t) = slice_get_within (variables_of p t) k _ is in
        let declared = normal.declared t in
        let there = normal.there t l k (subst (λ n. k < n) (sym declared.count) less) in
        record {
          name = variable_name G k;
          variable = refl;
          outer = (legal_variables_are_added p h t l k less).outer;
          object = cell there.1.name ((normal.added t).bounds k) there.0;
          there = there.1.found;
          limits = declared.bounds k s (marked w) is ∙ sym limits;
        }

    -- variables of the formals' marks fit the formals
    words-fit : (s : Span) (f : PFormal) → limits_named T f.mark.name ≡ declared_limits U (marked f.mark) →
        (ws : List Word) (fs : List FormalParameter) (xs : List Slot) →
        ((es : List PExpr) (k : ℕ) → AreVariables G (variables_of p t) s (actual_subtypes xs es) k → FitActuals p t fs (actuals_passed G s xs es k)) →
        (es : List PExpr) (k : ℕ) → AreVariables G (variables_of p t) s (actual_subtypes (map (λ w. record { mode = f.mode; mark = f.mark }) ws ++ xs) es) k →
        FitActuals p t (map (λ w. record { name = w.name; mode = f.mode; limits = limits_named T f.mark.name }) ws ++ fs)
        (actuals_passed G s (map (λ w. record { mode = f.mode; mark = f.mark }) ws ++ xs) es k)
    words-fit s f limits [] fs xs more es k v = more es k v
    words-fit s f limits (w ∷ ws) fs xs more [] k v = tt
    words-fit s f limits (w ∷ ws) fs xs more (e ∷ es) k v = (
      variable-fits (record { name = w.name; mode = f.mode; limits = limits_named T f.mark.name }) f.mark s k limits v.0,
      words-fit s f limits ws fs xs more es (k + 1) v.1,
    )

    -- so it is of all declarations of a formal part
    formals-fit : (s : Span) {fs : List PFormal} → AreMarked b fs → (es : List PExpr) (k : ℕ) →
        AreVariables G (variables_of p t) s (actual_subtypes (slots_of fs) es) k →
        FitActuals p t (parameters_of T fs) (actuals_passed G s (slots_of fs) es k)
    formals-fit s none_marked es k v = tt
    formals-fit s (marked_then f rest old limits more) es k v =
        words-fit s f limits f.names (parameters_of T rest) (slots_of rest) (λ ys n u. formals-fit s more ys n u) es k v

    -- no actuals fit all formals
    no-actuals : (fs : List FormalParameter) → FitActuals p t fs []
    no-actuals [] = tt
    no-actuals (f ∷ fs) = tt

    -- ---- calls

    module _ (s : Span) (x : PCall) (j : ℕ) (w : Word) (m : AreTasksOf G x.task) (i : IsCallKnown p h x) (target : IsTarget G x.task w)
        (v : AreVariables G (variables_of p t) s (call_subtypes G s x) j) where
      -- the task that takes the callee's place
      callee : IsBeside p (record { name = w; index = None })
      callee = task-beside x.task w m target

      abbrev e : ℕ
      e = entry_of (numbers_of p) callee.task x.entry.name

      -- which has the entry
      has : HasEntry p T callee.task x.entry.name i.declared
      unfolding callee task-beside
      has = let it = m.targets w target in let at = place-of p h it.info it.among in i.each at.0 it.info at.1 it.named

      -- the entry has the formals of that which is called
      formals-same : entry_parameters (form_setting p) e ≡ parameters_of T (formals_of_info G (entry_at (numbers_of p) (entry_called G x)))
      formals-same = parameters-same e ∙ ap (parameters_of T) (has.formals ∙ sym i.first.formals)

      abbrev Fit : List PExpr → Type 0
      Fit es = FitActuals p t (entry_parameters (form_setting p) e) es

      -- the variables in the places of the actuals fit the formals
      actuals-fit : (es : List PExpr) → (lists_called G x).actuals ≡ es → Fit (actuals_passed G s (slots_called G x) es (actual_number G s x j))
      actuals-fit es q =
          subst (λ fs. FitActuals p t fs (actuals_passed G s (slots_called G x) es (actual_number G s x j))) (sym formals-same)
          (formals-fit s (normal.programs.marks (entry_called G x)) es (actual_number G s x j)
          (subst (λ l. AreVariables G (variables_of p t) s (actual_subtypes (slots_called G x) l) (actual_number G s x j)) q
          (actuals-there G (variables_of p t) s x j v)))

      -- so do those in the second list of a family's call
      second-fit : (second : Option (List PExpr)) → (lists_called G x).actuals ≡ unwrap_or second [] →
          Fit (unwrap_or (option_map (λ es. actuals_passed G s (slots_called G x) es (actual_number G s x j)) second) [])
      second-fit None q = no-actuals (entry_parameters (form_setting p) e)
      second-fit (Some es) q = actuals-fit es q

      -- the actuals of the new call fit
      lists-fit : (fam : Bool) (args : Option PArgs) (index : Option PExpr) (actuals : List PExpr) → HasLists fam args index actuals →
          is_family (numbers_of p) (entry_called G x) ≡ fam → is_family (numbers_of p) e ≡ fam →
          x.args ≡ args → Fit (lists_of (numbers_of p) e (args_passed G s x j args)).actuals
      lists-fit _ _ _ _ no_lists called is q = no-actuals (entry_parameters (form_setting p) e)
      lists-fit _ _ _ _ (plain_lists args) called is q =
          subst (λ c. Fit (lists_in c (lists_passed (is_family (numbers_of p) (entry_called G x)) G s x j args)).actuals) (sym is)
          (subst (λ c. Fit (lists_in false (lists_passed c G s x j args)).actuals) (sym called)
          (actuals-fit args.first (ap (λ o. (lists_of (numbers_of p) (entry_called G x) o).actuals) q ∙ ap (λ c. (lists_in c args).actuals) called)))
      lists-fit _ _ _ _ (family_lists y second) called is q =
          let args : PArgs = record { first = y ∷ []; second = second } in
          subst (λ c. Fit (lists_in c (lists_passed (is_family (numbers_of p) (entry_called G x)) G s x j args)).actuals) (sym is)
          (subst (λ c. Fit (lists_in true (lists_passed c G s x j args)).actuals) (sym called)
          (second-fit second (ap (λ o. (lists_of (numbers_of p) (entry_called G x) o).actuals) q ∙ ap (λ c. (lists_in c args).actuals) called)))

      -- The new call fits.
      call-fits : IsFitCall p t (call_to G s x j w)
      call-fits = record {
        callee = callee;
        actuals =
            lists-fit (is_family (numbers_of p) (entry_called G x)) x.args i.call.index i.call.actuals i.call.lists refl
            (has.is_family ∙ sym i.first.is_family) refl;
      }

    -- ---- statements

    -- what is asked of the statements of the normal form
    abbrev fit_asks : Asks (Unit {0})
    fit_asks = record no_asks { callee = λ c k x. IsBeside p x; call = λ c k x. IsFitCall p t x }

    abbrev u : RewrittenUnit
    u = rewritten_unit (unit_at r t)

    -- each piece that the normal form makes is as asked
    pieces : Pieces u (variables_of p t) (unit_asks p h (first_task p t) t) fit_asks (λ c d. Unit {0})
    pieces = record {
      outer = λ c d k n s rel m le. tt;
      many = λ n m. tt;
      some = λ n. tt;
      duration = λ n m. tt;
      plain = λ c d k x i rel m. tt;
      condition = λ c d k e rel m. tt;
      selector = λ c d k e xs others s rel m. tt;
      choices = λ c d k e xs rel m. tt;
      loop = λ c d k w x rel m. tt;
      looping = λ c d k w x rel m. tt;
      delay = λ c d k guard f s rel m. tt;
      handlers = λ hs l m. tt;
      handler = λ c d k names ws rel m. tt;
      handling = λ c d rel. tt;
      null = λ c d k n s rel m le. tt;
      program_error = λ c d k n s rel m le. tt;
      callee_index = λ c d k n s x e j rel m f v le. tt;
      target = λ c d k n x w rel m i le. task-beside x w m i;
      chooses = λ c d k n s x e j rel m f v le. tt;
      chosen = λ c d k n s x e j info rel m f v i le. tt;
      called = λ c d k n s x j w rel m i o v le. call-fits s x j w m i o v;
      family_index = λ c d k n s x e j rel m i f v le. tt;
      actual_before = λ c d k n s x slot e j rel m i pair f v le. tt;
      actual_behind = λ c d k n s x slot e id j rel m i pair f q v le. tt;
      flag = λ c d k n s part j rel m small v le. tt;
      flag_test = λ c d k n s j rel m v le. tt;
      aborted = λ c d k n xs w rel m le. tt;
      no_abort = λ c d k rel m. tt;
      head = λ c d k x rel i f. tt;
      head_moved = λ c d k s x e j rel i f v. tt;
      accept_index = λ c d k n s x e j rel i f v le. tt;
      accepting = λ c d k s x j rel i. tt;
      guard = λ c d k n s e j rel m v le. tt;
      guard_test = λ c d k n s j rel m v le. tt;
      closed = λ c d k n x others s e es rel m w all few le. tt;
      wait = λ c d k x others s l rel m alts. tt;
    }

    -- a statement that is as asked is so
    each-fit : (x : PStmt) (c : Unit {0}) (k : ℕ) (loops : Loops) → AskedStmt fit_asks c k x → IsFit p t loops x
    each-fit (SAbort xs s) c k loops m = m.2
    each-fit (SCall x s) c k loops m = m.2
    each-fit (SConditional x l o s) c k loops m = m.3
    each-fit (STimed x l d o s) c k loops m = m.3
    each-fit (SAccept a s) c k loops m = tt
    each-fit (SWait x o s) c k loops m = tt
    each-fit (SNull s) c k loops m = tt
    each-fit (SAssign y e s) c k loops m = tt
    each-fit (SDelay d s) c k loops m = tt
    each-fit (SExit w e s) c k loops m = tt
    each-fit (SRaise w s) c k loops m = tt
    each-fit (SPut ps s) c k loops m = tt
    each-fit (SPutLine ps s) c k loops m = tt
    each-fit (SNewLine s) c k loops m = tt
    each-fit (SGet y s) c k loops m = tt
    each-fit (SIf x o s) c k loops m = tt
    each-fit (SCase e x o s) c k loops m = tt
    each-fit (SBlock y s) c k loops m = tt
    each-fit (SLoop w x l s) c k loops m = tt

    -- The body of the task in the normal form is so.
    pub made-fit : InBody (IsFit p t) [] (normal_body u (unit_before r t).body)
    made-fit =
        let begins = normal.begins t l in
        let its : Begins (unit_variables u (unit_before r t).body) (variables_of p t) = record { more = begins.0; joined = begins.1 } in
        body-each fit_asks (IsFit p t) each-fit (normal_body u (unit_before r t).body) tt 1 []
        (body-keeps u (variables_of p t) (unit_asks p h (first_task p t) t) fit_asks (λ c d. Unit {0}) pieces tt tt 1 (unit_before r t).body tt
        (units-asked p h t l) its)
