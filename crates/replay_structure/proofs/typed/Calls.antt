-- The calls of a replay text: those that stay, those of doubles, and those of the controller and the idle task.
use Rattle.std.proofs.Common.{◌≡◌, ℕ, Bool, true, false, not, if◌then◌else◌, List, [], ◌∷◌, ◌++◌, length, flat_map, Option, Some, None, is_some, IfSome, refl, sym, ap, ap₂, subst, ◌∙◌}
use Rattle.std.specs.List.{AllByRecursion}
use Rattle.std.proofs.lemmas.List.Elements.{recursion_from_All}
use Rattle.common_lemmas.proofs.Lists.{all_back, all_front, all_joined}
use Rattle.ada_tree.specs.declared.naming.NameId.{NameId}
use Rattle.ada_tree.specs.declared.naming.Span.{Span}
use Rattle.ada_tree.specs.declared.naming.Word.{Word}
use Rattle.ada_tree.specs.declared.statements.ParMode.{ParMode}
use Rattle.ada_tree.specs.declared.statements.ParMode.TheVariants.{Take, Give, Both}
use Rattle.ada_tree.specs.PlainExpr.{PExpr, EInteger, EName, EIndex, EAttribute, EAttributeOf, EParen, EUnary, EBinary}
use Rattle.ada_tree.specs.PlainStmt.{PCallee, PArgs, PCall}
use Rattle.ada_tree.specs.PlainProgram.{PProgram}
use Rattle.ada_tree.specs.Every.{EveryExpr, EveryExprs, EveryArgs}
use Rattle.ada_static_rules.specs.Scope.{Scope, FormalPart, Family, single, family, unclear, EntryPart, SingleTask, integer_kind, meaning, entry_named}
use Rattle.ada_static_rules.specs.Demand.{calls, is_actual, must_be_of, Site}
use Rattle.ada_static_rules.specs.Sites.{site, if_there, expr_sites, expr_of, callee_sites, written_actual_sites, actual_sites, actuals_sites, args_sites}
use Rattle.ada_static_rules.specs.RuleUnknown.{missing, unknown_entry}
use Rattle.ada_static_rules.specs.RuleMismatch.{no_task, misfit_member}
use Rattle.ada_static_rules.specs.RuleArgCount.{at_place, index_of_callee, fits_call, wrong_call, called_entry}
use Rattle.task_model.specs.Setting.{Setting, is_family, first_expr, lists_in, lists_of}
use Rattle.normal_model.specs.Calls.{entry_called, lists_called}
use Rattle.normal_model.specs.RewrittenUnit.{RewrittenUnit}
use Rattle.normal_laws.specs.structure.asked.Pieces.{named}
use Rattle.normal_laws.specs.structure.checked.Around.{own_rules}
use Rattle.replay_model.specs.Names.{kind_text, argument_text, index_text, added_id}
use Rattle.replay_model.specs.Asking.{permit_part, member_number}
use Rattle.replay_model.specs.Calling.{double_call}
use Rattle.replay_structure.specs.asked.Pieces.{asks_permit, says_done, stops}
use Rattle.task_laws.specs.legal.alike_scopes.Alike.{Alike, IsSameTask}
use Rattle.task_laws.specs.legal.alike_scopes.Old.{IsOldExpr}
use Rattle.task_laws.specs.legal.alike_scopes.Laws.{IsMetBut}
use Rattle.task_laws.proofs.legal.alike_scopes.Calls.{called_is_same, tasks_refuse_same, calls_refuse_same}
use Rattle.normal_laws.proofs.structure.typed.Places.{met-callee, met-calls, met-of}
use Rattle.normal_laws.proofs.structure.typed.Variables.{AllMetBut, of-kind, actual-met}
use Rattle.normal_laws.proofs.structure.typed.Calls.{fits-told, entry-there, as_family}
use Rattle.normal_laws.proofs.structure.typed.Stays.{old-expr, stays, expr-stays, of-stays}
use Rattle.replay_structure.specs.typed.ScopeOf.{IsNumber, HasLists, IsFamilyOf, IsEntryOf, HasDoubles, IsScopeOf, IsSingle, permit_parts, double_id}
use Rattle.replay_structure.proofs.typed.Tests.{IsFit, fit-of, fit-met, literal-fit, number-variable, number-kind}
use Rattle.replay_structure.proofs.typed.Permits.{member-fit}

-- ---- what is known of the lists

-- their names are old
pub record AreOldArgs (old : ℕ → Bool) (args : PArgs) : Type 0 where
  pub first : AllByRecursion (IsOldExpr old) args.first
  pub second : IfSome args.second (AllByRecursion (IsOldExpr old))

old-all : (old : ℕ → Bool) (k : ℕ) (es : List PExpr) → AllByRecursion (EveryExpr (own_rules old) k) es → AllByRecursion (IsOldExpr old) es
old-all old k [] h = tt
old-all old k (e ∷ es) h = (old-expr old k e h.0, old-all old k es h.1)

pub old-args : (old : ℕ → Bool) (k : ℕ) (args : PArgs) → EveryArgs (own_rules old) k args → AreOldArgs old args
old-args old k args h = record {
  first = old-all old k args.first (recursion_from_All (EveryExpr (own_rules old) k) args.first h.0.1);
  second = go args.second h.1;
}
  where
    go : (o : Option (List PExpr)) → IfSome o (EveryExprs (own_rules old) k) → IfSome o (AllByRecursion (IsOldExpr old))
    go None i = tt
    go (Some es) i = old-all old k es (recursion_from_All (EveryExpr (own_rules old) k) es i.1)

-- ---- lists that stay

module _ (old : ℕ → Bool) (c d : Scope) (alike : Alike old c d) where
  same : (s : Site) → IsMetBut s → IsMetBut s
  same s m = m

  exprs-stay : (es : List PExpr) → AllByRecursion (IsOldExpr old) es → AllMetBut (flat_map (expr_sites c) es) → AllMetBut (flat_map (expr_sites d) es)
  exprs-stay [] o m = tt
  exprs-stay (e ∷ es) o m =
      all_joined IsMetBut (expr_sites d e) _ (expr-stays IsMetBut same old c d alike.names e o.0 (all_front IsMetBut (expr_sites c e) _ m))
      (exprs-stay es o.1 (all_back IsMetBut (expr_sites c e) (flat_map (expr_sites c) es) m))

  kinds-stay : (k : Option ℕ) (es : List PExpr) → AllByRecursion (IsOldExpr old) es → AllMetBut (flat_map (expr_of c k) es) → AllMetBut (flat_map (expr_of d k) es)
  kinds-stay k [] o m = tt
  kinds-stay k (e ∷ es) o m =
      all_joined IsMetBut (expr_of d k e) _ (of-stays IsMetBut same old c d alike.names k e o.0 (all_front IsMetBut (expr_of c k e) _ m))
      (kinds-stay k es o.1 (all_back IsMetBut (expr_of c k e) (flat_map (expr_of c k) es) m))

  is-actual : (mode : ParMode) (e : PExpr) → IsOldExpr old e → IsMetBut (site c (is_actual mode e)) → IsMetBut (site d (is_actual mode e))
  is-actual mode e o m = stays IsMetBut same old c d alike.names (is_actual mode e) o m

  whole-stays : (e : PExpr) → IsOldExpr old e → AllMetBut (expr_sites c e) → AllMetBut (expr_sites d e)
  whole-stays e o m = expr-stays IsMetBut same old c d alike.names e o m

  written-stays : (mode : ParMode) (e : PExpr) → IsOldExpr old e → AllMetBut (written_actual_sites c mode e) → AllMetBut (written_actual_sites d mode e)
  written-stays mode (EName id s) o m = (is-actual mode (EName id s) o m.0, tt)
  written-stays mode (EInteger n s) o m = (is-actual mode (EInteger n s) o m.0, whole-stays (EInteger n s) o m.1)
  written-stays mode (EIndex w e s) o m = (is-actual mode (EIndex w e s) o m.0, whole-stays (EIndex w e s) o m.1)
  written-stays mode (EAttribute y w s) o m = (is-actual mode (EAttribute y w s) o m.0, whole-stays (EAttribute y w s) o m.1)
  written-stays mode (EAttributeOf y w e s) o m = (is-actual mode (EAttributeOf y w e s) o m.0, whole-stays (EAttributeOf y w e s) o m.1)
  written-stays mode (EParen e s) o m = (is-actual mode (EParen e s) o m.0, whole-stays (EParen e s) o m.1)
  written-stays mode (EUnary op e s) o m = (is-actual mode (EUnary op e s) o m.0, whole-stays (EUnary op e s) o m.1)
  written-stays mode (EBinary op x y s) o m = (is-actual mode (EBinary op x y s) o m.0, whole-stays (EBinary op x y s) o m.1)

  actual-stays : (mode : ParMode) (e : PExpr) → IsOldExpr old e → AllMetBut (actual_sites c mode e) → AllMetBut (actual_sites d mode e)
  actual-stays Take e o m = whole-stays e o m
  actual-stays Give e o m = written-stays Give e o m
  actual-stays Both e o m = written-stays Both e o m

  actuals-stay : (fs : List FormalPart) (es : List PExpr) → AllByRecursion (IsOldExpr old) es → AllMetBut (actuals_sites c fs es) → AllMetBut (actuals_sites d fs es)
  actuals-stay fs [] o m = tt
  actuals-stay [] (e ∷ es) o m =
      all_joined IsMetBut (expr_sites d e) _ (whole-stays e o.0 (all_front IsMetBut (expr_sites c e) _ m)) (actuals-stay [] es o.1 (all_back IsMetBut (expr_sites c e) (actuals_sites c [] es) m))
  actuals-stay (f ∷ fs) (e ∷ es) o m =
      let behind = all_back IsMetBut (actual_sites c f.mode e) (site c (must_be_of e f.kind) ∷ actuals_sites c fs es) m in
      all_joined IsMetBut (actual_sites d f.mode e) _ (actual-stays f.mode e o.0 (all_front IsMetBut (actual_sites c f.mode e) _ m))
      (stays IsMetBut same old c d alike.names (must_be_of e f.kind) o.0 behind.0, actuals-stay fs es o.1 behind.1)

  second-exprs : (o : Option (List PExpr)) → IfSome o (AllByRecursion (IsOldExpr old)) → AllMetBut (if_there (flat_map (expr_sites c)) o) → AllMetBut (if_there (flat_map (expr_sites d)) o)
  second-exprs None i m = tt
  second-exprs (Some es) i m = exprs-stay es i m

  second-actuals : (fs : List FormalPart) (o : Option (List PExpr)) → IfSome o (AllByRecursion (IsOldExpr old)) → AllMetBut (if_there (actuals_sites c fs) o) → AllMetBut (if_there (actuals_sites d fs) o)
  second-actuals fs None i m = tt
  second-actuals fs (Some es) i m = actuals-stay fs es i m

  family-stays : (part : EntryPart) (fam : Family) (args : PArgs) → AreOldArgs old args → AllMetBut (args_sites c (Some (as_family part fam)) args) → AllMetBut (args_sites d (Some (as_family part fam)) args)
  family-stays part single args o m =
      all_joined IsMetBut (actuals_sites d part.formals args.first) _ (actuals-stay part.formals args.first o.first (all_front IsMetBut (actuals_sites c part.formals args.first) _ m))
      (second-exprs args.second o.second (all_back IsMetBut (actuals_sites c part.formals args.first) (if_there (flat_map (expr_sites c)) args.second) m))
  family-stays part (family range) args o m =
      all_joined IsMetBut (flat_map (expr_of d (Some range.kind)) args.first) _ (kinds-stay (Some range.kind) args.first o.first (all_front IsMetBut (flat_map (expr_of c (Some range.kind)) args.first) _ m))
      (second-actuals part.formals args.second o.second (all_back IsMetBut (flat_map (expr_of c (Some range.kind)) args.first) (if_there (actuals_sites c part.formals) args.second) m))
  family-stays part unclear args o m =
      all_joined IsMetBut (flat_map (expr_sites d) args.first) _ (exprs-stay args.first o.first (all_front IsMetBut (flat_map (expr_sites c) args.first) _ m))
      (second-exprs args.second o.second (all_back IsMetBut (flat_map (expr_sites c) args.first) (if_there (flat_map (expr_sites c)) args.second) m))

  -- the lists of an entry
  pub args-stay : (part : EntryPart) (o : Option PArgs) → IfSome o (AreOldArgs old) → AllMetBut (if_there (args_sites c (Some part)) o) → AllMetBut (if_there (args_sites d (Some part)) o)
  args-stay part None i m = tt
  args-stay part (Some args) i m = family-stays part part.family args i m

-- ---- entries by their lists

-- an entry with these members and formals; its name is told by no list
abbrev pub listed : Family → List FormalPart → EntryPart
listed members formals = record { name = record { 0 = 0 }; family = members; formals = formals }

lists-same : (d : Scope) (found : Option EntryPart) (members : Family) (formals : List FormalPart) (h : HasLists found members formals) (o : Option PArgs) →
    AllMetBut (if_there (args_sites d (Some (listed members formals))) o) → AllMetBut (if_there (args_sites d found) o)
lists-same d found members formals h o m =
    subst (λ q. AllMetBut (if_there (args_sites d q) o)) (sym h.is)
    (subst (λ x. AllMetBut (if_there (args_sites d (Some (record { name = h.its.name; family = x; formals = h.its.formals }))) o)) (sym h.members_are)
    (subst (λ x. AllMetBut (if_there (args_sites d (Some (record { name = h.its.name; family = members; formals = x }))) o)) (sym h.formals_are) (nameless o m)))
  where
    by_members : (x : Family) (args : PArgs) → AllMetBut (args_sites d (Some (listed x formals)) args) → AllMetBut (args_sites d (Some (record { name = h.its.name; family = x; formals = formals })) args)
    by_members single args i = i
    by_members (family range) args i = i
    by_members unclear args i = i

    nameless : (q : Option PArgs) → AllMetBut (if_there (args_sites d (Some (listed members formals))) q) → AllMetBut (if_there (args_sites d (Some (record { name = h.its.name; family = members; formals = formals }))) q)
    nameless None i = tt
    nameless (Some args) i = by_members members args i

-- ---- calls of single tasks

module _ (d : Scope) where
  -- a callee that means a single task
  pub single-met : (w : Word) (entries : List EntryPart) → meaning d w.name ≡ Some (SingleTask entries) → AllMetBut (callee_sites d (named w))
  single-met w entries h = (
    met-callee d (named w) record {
      known = ap (λ o. if is_some o then [] else w.span ∷ []) h;
      matched = ap (λ o. no_task o w ++ misfit_member d o None) h;
      ranged = refl;
      counted = ap (λ o. index_of_callee o None w.span) h;
    },
    tt,
  )

  -- a call of an entry of one with these members and formals
  pub listed-call : (x : PCall) (entries : List EntryPart) (members : Family) (formals : List FormalPart) → meaning d x.task.name.name ≡ Some (SingleTask entries) →
      HasLists (entry_named entries x.entry.name) members formals → fits_call members x.args (length formals) ≡ true → AllMetBut (if_there (args_sites d (Some (listed members formals))) x.args) →
      AllMetBut (site d (calls x) ∷ if_there (args_sites d (called_entry (meaning d x.task.name.name) x.entry.name)) x.args)
  listed-call x entries members formals h l f m =
      let entry : called_entry (meaning d x.task.name.name) x.entry.name ≡ entry_named entries x.entry.name = ap (λ o. called_entry o x.entry.name) h in
      let counted : wrong_call (called_entry (meaning d x.task.name.name) x.entry.name) x.args x.entry.span ≡ [] =
      (ap (λ o. wrong_call o x.args x.entry.span) (entry ∙ l.is)
      ∙ ap₂ (λ y z. at_place (not (fits_call y x.args (length z))) x.entry.span) l.members_are l.formals_are
      ∙ ap (λ b. at_place (not b) x.entry.span) f) in (
        met-calls d x (ap (λ o. unknown_entry o x.entry) h ∙ ap (λ o. missing o x.entry) l.is) counted,
        subst (λ o. AllMetBut (if_there (args_sites d o) x.args)) (sym entry) (lists-same d (entry_named entries x.entry.name) members formals l x.args m),
      )

  -- a number as an index of a family
  pub number-met : (n : ℕ) (s : Span) (k : ℕ) → k ≡ integer_kind → AllMetBut (expr_of d (Some k) (EInteger n s))
  number-met n s k e = fit-met d k (EInteger n s) (subst (λ j. IsFit d j (EInteger n s)) (sym e) (literal-fit d n s))

-- ---- calls of a unit

pub no-index : (d : Scope) (o : Option PExpr) (s : Span) → at_place (is_some o) s ≡ [] → AllMetBut (if_there (expr_sites d) o)
no-index d None s e = tt
no-index d (Some x) s e = cc

module _ (u : RewrittenUnit) (old inner : ℕ → Bool) (c d : Scope) (rel : IsScopeOf u old inner c d) where
  abbrev g : Setting
  g = u.setting

  abbrev q : PProgram
  q = u.setting.program

  same-task : (id : NameId) → old id.0 ≡ true → IsSingle (meaning c id) → IsSameTask old (meaning c id) (meaning d id)
  same-task id o h =
      let t : HasDoubles q old h.0 (meaning d id) = rel.tasks id h.0 o h.1 in
      record { left = h.0; right = t.more; left_means = h.1; right_means = t.means; entries = t.same }

  pub callee-stays : (x : PCallee) → old x.name.name.0 ≡ true → IsSingle (meaning c x.name.name) → AllMetBut (callee_sites c x) → AllMetBut (callee_sites d x)
  callee-stays x o h m = (
    tasks_refuse_same old c d x (same-task x.name.name o h) m.0,
    no-index d x.index x.name.span (sym (ap (λ o. index_of_callee o x.index x.name.span) h.1) ∙ m.0.counted),
  )

  module _ (x : PCall) (named-old : old x.task.name.name.0 ≡ true) (h : IsSingle (meaning c x.task.name.name)) (o : old x.entry.name.0 ≡ true) (os : IfSome x.args (AreOldArgs old))
      (m : AllMetBut (site c (calls x) ∷ if_there (args_sites c (called_entry (meaning c x.task.name.name) x.entry.name)) x.args)) where
    -- the entry that is called
    abbrev found : (part : EntryPart) × (entry_named h.0 x.entry.name ≡ Some part)
    found = entry-there (entry_named h.0 x.entry.name) x.entry (sym (ap (λ t. unknown_entry t x.entry) h.1) ∙ m.0.known)

    abbrev part : EntryPart
    part = found.0

    called-here : called_entry (meaning c x.task.name.name) x.entry.name ≡ Some part
    called-here = ap (λ t. called_entry t x.entry.name) h.1 ∙ found.1

    called-there : called_entry (meaning d x.task.name.name) x.entry.name ≡ Some part
    called-there = sym (called_is_same old (meaning c x.task.name.name) (meaning d x.task.name.name) x.entry.name (same-task x.task.name.name named-old h) o) ∙ called-here

    lists-there : AllMetBut (if_there (args_sites d (Some part)) x.args)
    lists-there = args-stay old c d rel.alike part x.args os (subst (λ p. AllMetBut (if_there (args_sites c p) x.args)) called-here m.1)

    pub call-stays : AllMetBut (site d (calls x) ∷ if_there (args_sites d (called_entry (meaning d x.task.name.name) x.entry.name)) x.args)
    call-stays = (
      calls_refuse_same old c d x (same-task x.task.name.name named-old h) o m.0,
      subst (λ p. AllMetBut (if_there (args_sites d p) x.args)) (sym called-there) lists-there,
    )

    fits : fits_call part.family x.args (length part.formals) ≡ true
    fits = fits-told (fits_call part.family x.args (length part.formals)) x.entry.span (sym (ap (λ p. wrong_call p x.args x.entry.span) called-here) ∙ m.0.counted)

    -- the call of the entry's double
    pub double-met :
        AllMetBut (site d (calls (double_call u x)) ∷ if_there (args_sites d (called_entry (meaning d x.task.name.name) (double_id q x.entry.name))) x.args)
    double-met =
        let t : HasDoubles q old h.0 (meaning d x.task.name.name) = rel.tasks x.task.name.name h.0 named-old h.1 in
        listed-call d (double_call u x) t.more part.family part.formals t.means (t.doubles x.entry.name part found.1) fits (nameless x.args lists-there)
      where
        by_members : (fam : Family) (args : PArgs) → AllMetBut (args_sites d (Some (as_family part fam)) args) → AllMetBut (args_sites d (Some (listed fam part.formals)) args)
        by_members single args i = i
        by_members (family range) args i = i
        by_members unclear args i = i

        nameless : (p : Option PArgs) → AllMetBut (if_there (args_sites d (Some part)) p) → AllMetBut (if_there (args_sites d (Some (listed part.family part.formals))) p)
        nameless None i = tt
        nameless (Some args) i = by_members part.family args i

    -- the index of the call as a number
    pub index-fit : (s : Span) → IsFit d integer_kind (member_number g s (entry_called g x) (lists_called g x).index)
    index-fit s = by_family part.family (rel.called x.task.name.name x.entry.name part called-here) x.args lists-there
      where
        e : ℕ
        e = entry_called g x

        first-fit : (k : ℕ) (es : List PExpr) → IsFamilyOf g inner d e k → AllMetBut (flat_map (expr_of d (Some k)) es) → IsFit d integer_kind (member_number g s e (first_expr es))
        first-fit k [] i n = literal-fit d 0 s
        first-fit k (y ∷ es) i n = member-fit g inner d s e k y i (fit-of d k y (all_front IsMetBut (expr_of d (Some k) y) _ n))

        by_family : (fam : Family) → IsEntryOf g inner d e fam → (p : Option PArgs) → AllMetBut (if_there (args_sites d (Some (as_family part fam))) p) → IsFit d integer_kind (member_number g s e (lists_of g.numbers e p).index)
        by_family fam i None n = literal-fit d 0 s
        by_family single i (Some args) n = subst (λ b. IsFit d integer_kind (member_number g s e (lists_in b args).index)) (sym i) (literal-fit d 0 s)
        by_family (family range) i (Some args) n = by_number (is_family g.numbers e)
          where
            by_number : (b : Bool) → IsFit d integer_kind (member_number g s e (lists_in b args).index)
            by_number false = literal-fit d 0 s
            by_number true = first-fit range.kind args.first i (all_front IsMetBut (flat_map (expr_of d (Some range.kind)) args.first) _ n)
        by_family unclear i (Some args) n = absurd i

  -- ---- the controller and the idle task

  module _ (s : Span) where
    -- an actual of mode out, which is a variable of the permit
    out-actual : (id : NameId) → IsNumber d id → IsMetBut (site d (is_actual Give (EName id s))) × IsMetBut (site d (must_be_of (EName id s) (Some integer_kind)))
    out-actual id v = (actual-met (number-variable d id s v) Give s, met-of d (EName id s) (Some integer_kind) (of-kind d (EName id s) integer_kind (number-kind d id s v)))

    pub asks-met : AllMetBut (site d (calls (asks_permit u s)) ∷ if_there (args_sites d (called_entry (meaning d (asks_permit u s).task.name.name) (asks_permit u s).entry.name)) (asks_permit u s).args)
    asks-met =
        let one = out-actual (added_id q kind_text) rel.kind in
        let two = out-actual (added_id q argument_text) rel.argument in
        let three = out-actual (added_id q index_text) rel.index in
        listed-call d (asks_permit u s) rel.control.entries (family rel.control.range) (permit_parts q) rel.control.means rel.control.go refl
        (all_joined IsMetBut (expr_of d (Some rel.control.range.kind) (EInteger u.task s) ++ [])
        (actuals_sites d (permit_parts q) (permit_part u s kind_text ∷ permit_part u s argument_text ∷ permit_part u s index_text ∷ []))
        (all_joined IsMetBut (expr_of d (Some rel.control.range.kind) (EInteger u.task s)) [] (number-met d u.task s rel.control.range.kind rel.control.numbers) tt)
        (one.0, (one.1, (two.0, (two.1, (three.0, (three.1, tt)))))))

    pub says-met : AllMetBut (site d (calls (says_done u s)) ∷ if_there (args_sites d (called_entry (meaning d (says_done u s).task.name.name) (says_done u s).entry.name)) (says_done u s).args)
    says-met =
        listed-call d (says_done u s) rel.control.entries (family rel.control.range) [] rel.control.means rel.control.done refl
        (all_joined IsMetBut (expr_of d (Some rel.control.range.kind) (EInteger u.task s) ++ []) []
        (all_joined IsMetBut (expr_of d (Some rel.control.range.kind) (EInteger u.task s)) [] (number-met d u.task s rel.control.range.kind rel.control.numbers) tt) tt)

    pub stops-met : AllMetBut (site d (calls (stops u s)) ∷ if_there (args_sites d (called_entry (meaning d (stops u s).task.name.name) (stops u s).entry.name)) (stops u s).args)
    stops-met = listed-call d (stops u s) rel.idle.entries single [] rel.idle.means rel.idle.stop refl tt
