-- The statements that a normal form makes of those of a legal program are formed.
use Rattle.std.proofs.Common.{◌≡◌, ℕ, suc, ◌+◌, ◌-◌, ◌≤◌, ◌<◌, ◌==◌, ◌&&◌, Bool, true, false, if◌then◌else◌, is_some, List, [], ◌∷◌, length, slice_get, unwrap_or, Option, Some, None, Result, refl, sym, ap, ap₂, subst, ◌∙◌, true≢false, arith, option_map, inl, inr}
use Rattle.std.specs.Prelude.{fold, ◌⊎◌, IfSome}
use Rattle.std.specs.List.{AllByRecursion}
use Rattle.std.proofs.lemmas.Option.{none-some, slice_get_within}
use Rattle.ada_tree.specs.declared.naming.NameId.{NameId}
use Rattle.ada_tree.specs.declared.naming.Span.{Span}
use Rattle.ada_tree.specs.declared.naming.Word.{Word}
use Rattle.ada_tree.specs.Attributes.{attribute_of, is_bound}
use Rattle.ada_tree.specs.TypeTable.{TypeTable}
use Rattle.ada_tree.specs.Every.{alts_count}
use Rattle.ada_tree.specs.PlainExpr.{PExpr, EBinary}
use Rattle.ada_tree.specs.PlainStmt.{PCallee, PArgs, PCall, PHead, PStmt, SNull, SAssign, SDelay, SExit, SRaise, SAbort, SCall, SAccept, SWait, SConditional, STimed, SPut, SPutLine, SNewLine, SGet, SIf, SCase, SBlock, SLoop, accepting, PAlts, no_alt, alt_then, alternative, AAccept, ADelay, ATerminate}
use Rattle.ada_tree.specs.PlainDecl.{PDecl}
use Rattle.ada_tree.specs.PlainProgram.{PProgram}
use Rattle.ada_static_rules.specs.Refusals.{types_in}
use Rattle.ada_static_rules.specs.StaticValue.{is_static, keeps_static}
use Rattle.ada_value.specs.declared.values.Value.{Value}
use Rattle.ada_value.specs.declared.values.Raised.{Raised}
use Rattle.syn_event.specs.Numbering.{Numbering, task_named, entry_at, entry_named}
use Rattle.task_model.specs.Setting.{Setting, entry_of, is_family, lists_in, lists_of}
use Rattle.task_laws.specs.statements.Each.{Loops, InBody}
use Rattle.task_laws.proofs.legal.types.StaticWorth.{named-alike}
use Rattle.normal_laws.proofs.structure.entries.Entries.{HasEntry}
use Rattle.task_laws.specs.legal.rewritten_types.Agreement.{Agrees}
use Rattle.task_laws.specs.translation.Translations.{Programs}
use Rattle.task_laws.specs.translation.OldNames.{OldExpr, old_integer, old_name, old_index, old_attribute, old_attribute_of, old_paren, old_unary, old_binary}
use Rattle.task_laws.specs.translation.Scopes.{SeeAlike, no_object}
use Rattle.task_laws.proofs.translation.Results.{Both, both_ok, both_err}
use Rattle.task_laws.proofs.translation.Evaluating.{KnownValue, known_value, value-alike}
use Rattle.task_laws.specs.legal.asked.Asked.{Asks, AskedStmt, AskedAlts}
use Rattle.task_laws.specs.legal.asked.Kinds.{no_asks}
use Rattle.normal_model.specs.Making.{moving, index_left, kept_subtypes, kept_if, variable}
use Rattle.normal_model.specs.Ranges.{subtype_of_range, family_range, marked}
use Rattle.normal_model.specs.Members.{callee_kept}
use Rattle.normal_model.specs.Calls.{entry_called, lists_called, args_passed, lists_passed, call_to, call_subtypes, index_number, Slot, slots_called, actual_number, actuals_passed, actual_subtypes}
use Rattle.normal_model.specs.RewrittenUnit.{RewrittenUnit}
use Rattle.normal_model.specs.NormalTree.{tasks_beside}
use Rattle.normal_model.specs.Waits.{head_left, not_held}
use Rattle.normal_model.specs.Walk.{inside_alts}
use Rattle.normal_model.specs.NormalStmts.{normal_rewriter, normal_body, unit_variables}
use Rattle.normal_model.proofs.VariablesLemmas.{Begins}
use Rattle.normal_laws.specs.structure.types.Own.{own_name}
use Rattle.normal_laws.proofs.structure.types.Normal.{normal_agrees}
use Rattle.normal_laws.specs.runs.floors.Suited.{HasLists, no_lists, plain_lists, family_lists, rewritten_unit}
use Rattle.normal_laws.specs.runs.runs.Premises.{Rewrite, programs_of, unit_at, unit_before}
use Rattle.normal_laws.specs.runs.forms.Normalisable.{numbers_of, setting_for, made_for, variables_of, first_task, normal_rewrite}
use Rattle.replay_structure.proofs.legal.fits.Counted.{tasks-within, entries-within}
use Rattle.normal_laws.specs.structure.asked.Pieces.{IsVariable, AreVariables, IsTarget, Pieces, IsGuard}
use Rattle.normal_laws.proofs.structure.asked.CallVariables.{family-there, actuals-there}
use Rattle.normal_laws.proofs.structure.asked.Walk.{body-keeps}
use Rattle.normal_laws.specs.structure.typed.ScopeOf.{AreTasksOf}
use Rattle.normal_laws.specs.existence.Laws.{IsLegalOriginal}
use Rattle.normal_laws.proofs.existence.Joined.{legal_is_normal}
use Rattle.normal_laws.proofs.existence.units.Fields.{legal_is_ordered}
use Rattle.normal_laws.proofs.existence.statements.Asked.{body-each}
use Rattle.replay_structure.specs.typed.ScopeOf.{has_accept}
use Rattle.replay_structure.proofs.legal.names.form_units.Entries.{place-of, named-number}
use Rattle.replay_runs.specs.starts.Laws.{form_in}
use Rattle.replay_runs.specs.controls.permits.Laws.{FitsInteger}
use Rattle.replay_runs.specs.controls.formed.Laws.{NamesTask, NamesEntry, IsIndex, no_index, variable_index, static_index, IsCallFormed, IsHeadFormed, AreHeadsFormed, AbortsOne, IsFormed, IsAddedVariable, AreGuardsFormed}
use Rattle.replay_runs.proofs.controls.formed.Asked.{IsCallKnown, IsStaticIndex, IsHeadKnown, unit_asks, IsNoAdded}
use Rattle.ada_tree.specs.declared.expressions.BinaryOp.TheVariants.{And}
use Rattle.replay_runs.proofs.controls.formed.Units.{units-asked}

-- ---- guards

-- an expression is a variable of the normal form
abbrev IsVarying : Setting → PExpr → Type 0
IsVarying g e = (s : Span) × (k : ℕ) × (e ≡ variable g s k)

abbrev AreGuardsVariables : Setting → PAlts → Type 0
AreGuardsVariables g no_alt = Unit {0}
AreGuardsVariables g (alt_then (alternative guard what s) rest) = IfSome guard (IsVarying g) × AreGuardsVariables g rest

-- ---- numbers

-- no entry has the number 0
some-number : (numbers : Numbering) (o : Option ℕ) (x : _) → entry_at numbers (unwrap_or o 0) ≡ Some x → o ≡ Some (unwrap_or o 0)
some-number numbers (Some n) x e = refl
some-number numbers None x e = absurd (none-some x e)

-- a number at which an entry stands is none beyond them
at-within : (numbers : Numbering) (n : ℕ) (x : _) → entry_at numbers n ≡ Some x → n ≤ length numbers.entries
at-within numbers n x e = by_test (n == 0) e
  where
    by_test : (c : Bool) → (if c then None else slice_get numbers.entries (n - 1)) ≡ Some x → n ≤ length numbers.entries
    by_test true f = absurd (none-some x f)
    by_test false f = let w = slice_get_within numbers.entries (n - 1) x f in omega (arith, w)

-- values of known kinds that go together are the same
pub same-value : (b : Programs) {x y : Result Value Raised} → Both (KnownValue b) x y → x ≡ y
same-value b (both_ok v w (known_value z k)) = refl
same-value b (both_err e) = refl

module _ (p : PProgram) (h : IsLegalOriginal p) where
  abbrev T : TypeTable
  T = types_in p

  abbrev U : TypeTable
  U = types_in (made_for p)

  abbrev G : Setting
  G = setting_for p

  abbrev r : Rewrite
  r = normal_rewrite p []

  abbrev b : Programs
  b = programs_of r

  -- an entry that a task has is found by its name
  entry-named : (t : ℕ) (name : NameId) {e : _} → HasEntry p T t name e → NamesEntry p t name
  entry-named t name has =
      let found = some-number (numbers_of p) (entry_named (numbers_of p) t name) has.info has.at in
      record {
        entry = entry_of (numbers_of p) t name;
        found = found;
        fits = let w = at-within (numbers_of p) (entry_of (numbers_of p) t name) has.info has.at in let few = entries-within p h.legal.check_rules in omega (arith, w, few);
      }

  -- ---- callees

  task-named : (x : PCallee) (w : Word) → AreTasksOf G x → IsTarget G x w → NamesTask p (record { name = w; index = None })
  task-named x w m t =
      let it = m.targets w t in
      let at = place-of p h it.info it.among in
      record {
        simple = refl;
        task = suc at.0;
        named = ap (λ id. task_named (form_in p).numbers id) it.is ∙ named-number p h at.0 it.info it.among at.1;
        fits = let inside = slice_get_within (tasks_beside G) at.0 it.info at.1 in let few = tasks-within p h.legal.check_rules in omega (arith, inside, few);
      }

  -- ---- indices

  agrees : Agrees (own_name p) T U
  agrees = normal_agrees p T (numbers_of p) (legal_is_ordered p T (numbers_of p) h.legal h.placed)

  -- the same expressions of old names are static in the normal form
  static-there : {e : PExpr} → OldExpr b e → is_static T e ≡ is_static U e
  static-there (old_integer n s) = refl
  static-there (old_name id s o) = ap is_some (named-alike (own_name p) T U agrees id o)
  static-there (old_index w e s o k) = refl
  static-there (old_attribute m w s o) = ap (λ x. is_bound (attribute_of w.name) && is_some x) (agrees.marks m.name o)
  static-there (old_attribute_of m w e s o k) = ap₂ (λ x c. keeps_static (attribute_of w.name) && is_some x && c) (agrees.marks m.name o) (static-there k)
  static-there (old_paren e s k) = static-there k
  static-there (old_unary op e s k) = static-there k
  static-there (old_binary op l r s k j) = ap₂ (λ x y. x && y) (static-there k) (static-there j)

  -- without variables both see the same
  see-none : SeeAlike b [] []
  see-none = record { named = λ id o. no_object }

  index-there : (t n : ℕ) (e : PExpr) → IsStaticIndex p h n e → IsIndex p t n (Some e)
  index-there t n e k =
      static_index e k.value (sym (static-there k.old) ∙ k.static) (sym (same-value b (value-alike b (legal_is_normal p h []).programs.types see-none k.old)) ∙ k.worth) k.inside k.fits

  -- ---- calls

  module _ (t : ℕ) (s : Span) (x : PCall) (j : ℕ) (w : Word) (m : AreTasksOf G x.task) (i : IsCallKnown p h x) (target : IsTarget G x.task w) (v : AreVariables G (variables_of p t) s (call_subtypes G s x) j) where
    callee : NamesTask p (record { name = w; index = None })
    callee = task-named x.task w m target

    has : HasEntry p T callee.task x.entry.name i.declared
    unfolding callee task-named
    has = let it = m.targets w target in let at = place-of p h it.info it.among in i.each at.0 it.info at.1 it.named

    abbrev e : ℕ
    e = entry_of (numbers_of p) callee.task x.entry.name

    abbrev k : ℕ
    k = index_number G s x j

    -- the variable of a family's index is of the range of the entry
    family-variable : (y : PExpr) → (lists_called G x).index ≡ Some y → IsVariable G (variables_of p t) s (subtype_of_range T s (family_range G e)) k
    family-variable y q =
        subst (λ f. IsVariable G (variables_of p t) s (subtype_of_range T s f) k) (i.first.range ∙ sym has.range)
        (subst (λ o. AreVariables G (variables_of p t) s (kept_subtypes (kept_if (subtype_of_range T s (family_range G (entry_called G x))) o)) (j + length (callee_kept G s x.task))) q (family-there G (variables_of p t) s x j v)).0

    -- of a family the index of the new call is a variable, and else it has none
    index-passed : (fam : Bool) (args : Option PArgs) (index : Option PExpr) (actuals : List PExpr) → HasLists fam args index actuals → is_family (numbers_of p) (entry_called G x) ≡ fam → is_family (numbers_of p) e ≡ fam → x.args ≡ args →
        IsIndex p t e (lists_of (numbers_of p) e (args_passed G s x j args)).index
    index-passed _ _ _ _ no_lists called is q = no_index
    index-passed _ _ _ _ (plain_lists args) called is q = subst (λ c. IsIndex p t e (lists_in c (lists_passed (is_family (numbers_of p) (entry_called G x)) G s x j args)).index) (sym is) no_index
    index-passed _ _ _ _ (family_lists y second) called is q =
        let args : PArgs = record { first = y ∷ []; second = second } in
        subst (λ c. IsIndex p t e (lists_in c (lists_passed (is_family (numbers_of p) (entry_called G x)) G s x j args)).index) (sym is)
        (subst (λ c. IsIndex p t e (lists_in true (lists_passed c G s x j args)).index) (sym called)
        (variable_index s k (family-variable y (ap (λ o. (lists_of (numbers_of p) (entry_called G x) o).index) q ∙ ap (λ c. (lists_in c args).index) called))))

    -- an actual is a variable of its formal's mark
    passed : (slots : List Slot) (es : List PExpr) (n : ℕ) → AreVariables G (variables_of p t) s (actual_subtypes slots es) n → AllByRecursion (IsAddedVariable p t) (actuals_passed G s slots es n)
    passed [] es n q = tt
    passed (y ∷ ys) [] n q = tt
    passed (y ∷ ys) (d ∷ es) n q = ((s, n, marked y.mark, refl, q.0), passed ys es (n + 1) q.1)

    abbrev all_passed : List PExpr → Type 0
    all_passed es = (lists_called G x).actuals ≡ es → AllByRecursion (IsAddedVariable p t) (actuals_passed G s (slots_called G x) es (actual_number G s x j))

    actual-variables : (es : List PExpr) → all_passed es
    actual-variables es q = passed (slots_called G x) es (actual_number G s x j) (subst (λ l. AreVariables G (variables_of p t) s (actual_subtypes (slots_called G x) l) (actual_number G s x j)) q (actuals-there G (variables_of p t) s x j v))

    second-passed : (second : Option (List PExpr)) → (lists_called G x).actuals ≡ unwrap_or second [] →
        AllByRecursion (IsAddedVariable p t) (unwrap_or (option_map (λ es. actuals_passed G s (slots_called G x) es (actual_number G s x j)) second) [])
    second-passed None q = tt
    second-passed (Some es) q = actual-variables es q

    -- the actuals of the new call are variables
    actuals-passed : (fam : Bool) (args : Option PArgs) (index : Option PExpr) (actuals : List PExpr) → HasLists fam args index actuals → is_family (numbers_of p) (entry_called G x) ≡ fam → is_family (numbers_of p) e ≡ fam → x.args ≡ args →
        AllByRecursion (IsAddedVariable p t) (lists_of (numbers_of p) e (args_passed G s x j args)).actuals
    actuals-passed _ _ _ _ no_lists called is q = tt
    actuals-passed _ _ _ _ (plain_lists args) called is q =
        subst (λ c. AllByRecursion (IsAddedVariable p t) (lists_in c (lists_passed (is_family (numbers_of p) (entry_called G x)) G s x j args)).actuals) (sym is)
        (subst (λ c. AllByRecursion (IsAddedVariable p t) (lists_in false (lists_passed c G s x j args)).actuals) (sym called)
        (actual-variables args.first (ap (λ o. (lists_of (numbers_of p) (entry_called G x) o).actuals) q ∙ ap (λ c. (lists_in c args).actuals) called)))
    actuals-passed _ _ _ _ (family_lists y second) called is q =
        let args : PArgs = record { first = y ∷ []; second = second } in
        subst (λ c. AllByRecursion (IsAddedVariable p t) (lists_in c (lists_passed (is_family (numbers_of p) (entry_called G x)) G s x j args)).actuals) (sym is)
        (subst (λ c. AllByRecursion (IsAddedVariable p t) (lists_in true (lists_passed c G s x j args)).actuals) (sym called)
        (second-passed second (ap (λ o. (lists_of (numbers_of p) (entry_called G x) o).actuals) q ∙ ap (λ c. (lists_in c args).actuals) called)))

    call-formed : IsCallFormed p t (call_to G s x j w)
    unfolding entry-named
    call-formed = record {
      callee = callee;
      entry = entry-named callee.task x.entry.name has;
      index = index-passed (is_family (numbers_of p) (entry_called G x)) x.args i.call.index i.call.actuals i.call.lists refl (has.is_family ∙ sym i.first.is_family) refl;
      actuals = actuals-passed (is_family (numbers_of p) (entry_called G x)) x.args i.call.index i.call.actuals i.call.lists refl (has.is_family ∙ sym i.first.is_family) refl;
    }

  -- ---- accepts

  module _ (t : ℕ) (x : PHead) (i : IsHeadKnown p h (first_task p t) t x) where
    abbrev n : ℕ
    n = entry_of (numbers_of p) t x.entry.name

    head-stays : moving T x.index ≡ None → IsHeadFormed p t x
    unfolding entry-named
    head-stays m = record { beside = i.beside; entry = entry-named t x.entry.name i.has; index = by_index x.index refl }
      where
        by_index : (o : Option PExpr) → x.index ≡ o → IsIndex p t n o
        by_index None q = no_index
        by_index (Some e) q = index-there t n e (i.static e q m)

    head-moves : (s : Span) (e : PExpr) (j : ℕ) → moving T x.index ≡ Some e → IsVariable G (variables_of p t) s (subtype_of_range T s (family_range G (entry_of (numbers_of p) (first_task p t) x.entry.name))) j →
        IsHeadFormed p t (head_left (record { setting = G; task = first_task p t }) s x j)
    unfolding entry-named
    head-moves s e j m v = record {
      beside = i.beside;
      entry = entry-named t x.entry.name i.has;
      index = subst (λ o. IsIndex p t n (index_left G s j o x.index)) (sym m) (variable_index s j (subst (λ f. IsVariable G (variables_of p t) s (subtype_of_range T s f) j) i.head.range v));
    }

  -- ---- waits

  -- no test is a variable but one that the unit has
  none-held : (s : Span) (es : List PExpr) (e : PExpr) → IsNoAdded p h e → IsNoAdded p h (fold (λ test g. EBinary And test (not_held s g) s) e es)
  none-held s [] e m = m
  none-held s (g ∷ es) e m = none-held s es (EBinary And e (not_held s g) s) (λ z j q. cc)

  module _ (u : RewrittenUnit) where
    accepts-kept : (x : PAlts) (vars : List PDecl) → has_accept (inside_alts (normal_rewriter u) x vars) ≡ has_accept x
    accepts-kept no_alt vars = refl
    accepts-kept (alt_then (alternative g (AAccept a l) s) rest) vars = refl
    accepts-kept (alt_then (alternative g (ADelay d l) s) rest) vars = accepts-kept rest _
    accepts-kept (alt_then (alternative g ATerminate s) rest) vars = accepts-kept rest _

    -- each guard is a variable
    guards-vary : (x : PAlts) (vars : List PDecl) → AreGuardsVariables u.setting (inside_alts (normal_rewriter u) x vars)
    guards-vary no_alt vars = tt
    guards-vary (alt_then (alternative None k s) rest) vars = (tt, guards-vary rest _)
    guards-vary (alt_then (alternative (Some e) k s) rest) vars = ((s, length vars, refl), guards-vary rest _)

    alternatives-kept : (x : PAlts) (vars : List PDecl) → alts_count (inside_alts (normal_rewriter u) x vars) ≡ alts_count x
    alternatives-kept no_alt vars = refl
    alternatives-kept (alt_then (alternative g k s) rest) vars = ap (λ c. 1 + c) (alternatives-kept rest _)

  -- ---- statements

  module _ (t : ℕ) where
    -- what is asked of the statements of the normal form
    abbrev formed_asks : Asks (Unit {0})
    formed_asks = record no_asks {
      callee = λ c k x. NamesTask p x;
      call = λ c k x. IsCallFormed p t x;
      aborts = λ c k xs. length xs ≡ 1;
      head = λ c k x. IsHeadFormed p t x;
      condition = λ c k e. IsGuard G (variables_of p t) e ⊎ IsNoAdded p h e;
      wait = λ c k x others s. (has_accept x ≡ true) × FitsInteger (alts_count x) × AreGuardsVariables G x;
    }

    abbrev u : RewrittenUnit
    u = rewritten_unit (unit_at r t)

    pieces : Pieces u (variables_of p t) (unit_asks p h (first_task p t) t) formed_asks (λ c d. Unit {0})
    pieces = record {
      outer = λ c d k n s rel m le. tt;
      many = λ n m. tt;
      some = λ n. tt;
      duration = λ n m. tt;
      plain = λ c d k x i rel m. tt;
      condition = λ c d k e rel m. inr m;
      selector = λ c d k e xs others s rel m. tt;
      choices = λ c d k e xs rel m. tt;
      loop = λ c d k w x rel m. tt;
      looping = λ c d k w x rel m. tt;
      delay = λ c d k guard f s rel m. tt;
      handlers = λ hs l m. tt;
      handler = λ c d k names ws rel m. tt;
      handling = λ c d rel. tt;
      null = λ c d k n s rel m le. tt;
      program_error = λ c d k n s rel m le. tt;
      callee_index = λ c d k n s x e j rel m f v le. tt;
      target = λ c d k n x w rel m i le. task-named x w m i;
      chooses = λ c d k n s x e j rel m f v le. tt;
      chosen = λ c d k n s x e j info rel m f v i le. tt;
      called = λ c d k n s x j w rel m i o v le. call-formed t s x j w m i o v;
      family_index = λ c d k n s x e j rel m i f v le. tt;
      actual_before = λ c d k n s x slot e j rel m i pair f v le. tt;
      actual_behind = λ c d k n s x slot e id j rel m i pair f q v le. tt;
      flag = λ c d k n s part j rel m small v le. tt;
      flag_test = λ c d k n s j rel m v le. inr (λ z i q. cc);
      aborted = λ c d k n xs w rel m le. refl;
      no_abort = λ c d k rel m. absurd (let few : 1 ≤ 0 = m in omega (arith, few));
      head = λ c d k x rel i f. head-stays t x i f;
      head_moved = λ c d k s x e j rel i f v. head-moves t x i s e j f v;
      accept_index = λ c d k n s x e j rel i f v le. tt;
      accepting = λ c d k s x j rel i. tt;
      guard = λ c d k n s e j rel m v le. tt;
      guard_test = λ c d k n s j rel m v le. inl (s, j, refl, v);
      closed = λ c d k n x others s e es rel m w all few le. inr (none-held s es (not_held s e) (λ z i q. cc));
      wait = λ c d k x others s l rel m alts. (
        accepts-kept u x l ∙ m.0,
        let few : alts_count x ≤ 32 = m.1 in let same = alternatives-kept u x l in omega (arith, few, same),
        guards-vary u x l,
      );
    }

    -- ---- one by one

    aborts-one : (xs : List PCallee) → length xs ≡ 1 → AllByRecursion (NamesTask p) xs → AbortsOne p xs
    aborts-one [] e m = absurd (omega (arith, e))
    aborts-one (x ∷ []) e m = m.0
    aborts-one (x ∷ y ∷ xs) e m = absurd (omega (arith, e))

    heads-formed : (x : PAlts) (c : Unit {0}) (k : ℕ) → AskedAlts formed_asks c k x → AreHeadsFormed p t x
    heads-formed no_alt c k m = tt
    heads-formed (alt_then (alternative g (AAccept (accepting i o) l) s) rest) c k m = (m.2.0.0, heads-formed rest c k m.3)
    heads-formed (alt_then (alternative g (ADelay d l) s) rest) c k m = heads-formed rest c k m.3
    heads-formed (alt_then (alternative g ATerminate s) rest) c k m = heads-formed rest c k m.3

    guard-formed : (o : Option PExpr) → IfSome o (λ e. IsGuard G (variables_of p t) e ⊎ IsNoAdded p h e) → IfSome o (IsVarying G) → IfSome o (IsGuard G (variables_of p t))
    guard-formed None m w = tt
    guard-formed (Some e) (inl is) w = is
    guard-formed (Some e) (inr none) w = absurd (none w.0 w.1 w.2)

    guards-formed : (x : PAlts) (c : Unit {0}) (k : ℕ) → AskedAlts formed_asks c k x → AreGuardsVariables G x → AreGuardsFormed p t x
    guards-formed no_alt c k m w = tt
    guards-formed (alt_then (alternative g y s) rest) c k m w = (guard-formed g m.1 w.0, guards-formed rest c k m.3 w.1)

    -- main has no wait with an accept
    beside-main : (x : PAlts) → has_accept x ≡ true → AreHeadsFormed p t x → 1 ≤ t
    beside-main no_alt e m = absurd (true≢false (sym e))
    beside-main (alt_then (alternative g (AAccept a l) s) rest) e m = m.0.beside
    beside-main (alt_then (alternative g (ADelay d l) s) rest) e m = beside-main rest e m
    beside-main (alt_then (alternative g ATerminate s) rest) e m = beside-main rest e m

    each-formed : (x : PStmt) (c : Unit {0}) (k : ℕ) (loops : Loops) → AskedStmt formed_asks c k x → IsFormed p t loops x
    each-formed (SAbort xs s) c k loops m = aborts-one xs m.1 m.2
    each-formed (SCall x s) c k loops m = m.2
    each-formed (SConditional x l o s) c k loops m = m.3
    each-formed (STimed x l d o s) c k loops m = m.3
    each-formed (SAccept (accepting i o) s) c k loops m = m.0
    each-formed (SWait x o s) c k loops m = let heads = heads-formed x c (k + 1) m.3 in record { beside = beside-main x m.2.0 heads; accepts = m.2.0; heads = heads; guards = guards-formed x c (k + 1) m.3 m.2.2; few = m.2.1 }
    each-formed (SNull s) c k loops m = tt
    each-formed (SAssign y e s) c k loops m = tt
    each-formed (SDelay d s) c k loops m = tt
    each-formed (SExit w e s) c k loops m = tt
    each-formed (SRaise w s) c k loops m = tt
    each-formed (SPut ps s) c k loops m = tt
    each-formed (SPutLine ps s) c k loops m = tt
    each-formed (SNewLine s) c k loops m = tt
    each-formed (SGet y s) c k loops m = tt
    each-formed (SIf x o s) c k loops m = tt
    each-formed (SCase e x o s) c k loops m = tt
    each-formed (SBlock y s) c k loops m = tt
    each-formed (SLoop w x l s) c k loops m = tt

    -- The body of the task in the normal form is formed.
    pub made-formed : t < length (numbers_of p).tasks → InBody (IsFormed p t) [] (normal_body u (unit_before r t).body)
    made-formed l =
        let begins = (legal_is_normal p h []).begins t l in
        let its : Begins (unit_variables u (unit_before r t).body) (variables_of p t) = record { more = begins.0; joined = begins.1 } in
        body-each formed_asks (IsFormed p t) each-formed (normal_body u (unit_before r t).body) tt 1 []
        (body-keeps u (variables_of p t) (unit_asks p h (first_task p t) t) formed_asks (λ c d. Unit {0}) pieces tt tt 1 (unit_before r t).body tt (units-asked p h t l) its)
