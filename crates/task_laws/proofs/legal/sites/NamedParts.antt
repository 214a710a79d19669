-- The names in expressions, ranges, calls and texts: what holds of each name in scope, and of the predefined ones, holds of them.
use Rattle.std.proofs.Common.{◌≡◌, ℕ, ◌+◌, ◌<◌, Bool, true, false, ◌==◌, if◌then◌else◌, List, [], ◌∷◌, ◌++◌, map, flat_map, Option, Some, None, is_some, IfSome, All, refl, sym, ap, subst, ◌∙◌, arith}
use Rattle.std.specs.List.{AllByRecursion}
use Rattle.std.proofs.lemmas.Bool.{eqb-true}
use Rattle.std.proofs.lemmas.List.Elements.{All-from_recursion}
use Rattle.ada_tree.specs.declared.naming.NameId.{NameId}
use Rattle.ada_tree.specs.declared.naming.Span.{Span}
use Rattle.ada_tree.specs.declared.naming.Word.{Word}
use Rattle.ada_tree.specs.declared.statements.ParMode.{ParMode}
use Rattle.ada_tree.specs.declared.statements.ParMode.TheVariants.{Take, Give, Both}
use Rattle.ada_tree.specs.PlainExpr.{PExpr, EInteger, EName, EIndex, EAttribute, EAttributeOf, EParen, EUnary, EBinary, PBounds, PSubind, PDrange, RGiven, RMarked}
use Rattle.ada_tree.specs.PlainStmt.{PTarget, PCallee, PArgs, PCall, PFormal, PPart, PWords, PValue, PChoice}
use Rattle.ada_tree.specs.Every.{Rules, no_rules, EveryWord, EveryExpr, EveryBounds, EverySubind, EveryDrange, EveryTarget, EveryCallee, EveryExprs, EveryArgs, EveryCall, EveryFormal, EveryPart, EveryText, EveryChoice}
use Rattle.ada_tree.specs.Attributes.{Attribute, First, Last, Pos, Val, Succ, Pred, Image, attribute_of}
use Rattle.ada_static_rules.specs.ExprTypes.{nodes}
use Rattle.ada_static_rules.specs.Scope.{Scope, Range, Thing, SingleTask, TaskType, TaskObject, TaskArray, MainProcedure, Unclear, TypeMark, Variable, ConstantObject, Parameter, LoopParameter, Literal, AnException, AnotherUnit, Family, single, family, unclear, EntryPart, FormalPart, meaning, entry_named, marking, scalar_kind}
use Rattle.ada_static_rules.specs.Demand.{MarkUse, scalar_only, calls, node, must_not_be_empty, must_lie_in, is_written, Site}
use Rattle.ada_static_rules.specs.Sites.{site, if_there, expr_sites, part_nodes, expr_of, static_of, static_if, bounds_sites, constraint_sites, subind_sites, drange_sites, free_value_sites, formal_mark_sites, callee_sites, written_actual_sites, actual_sites, actuals_sites, free_args_sites, args_sites, call_sites, part_sites, plain_part_sites, target_sites, choice_sites}
use Rattle.ada_static_rules.specs.RuleUnknown.{no_attribute, missing, unknown_in_node, unknown_entry}
use Rattle.ada_static_rules.specs.RuleArgCount.{called_entry}
use Rattle.ada_static_rules.specs.RuleMismatch.{no_task}
use Rattle.syn_event.specs.CheckScope.{CheckScope}
use Rattle.syn_event.specs.RuleMainEntry.{main_entry, no_task as check_no_task}
use Rattle.syn_event.specs.CheckScope.{addresses as check_addresses}
use Rattle.task_laws.specs.legal.sites.Met.{IsMet, IsAddressed}
use Rattle.task_laws.proofs.legal.sites.Around.{test-holds, OwnPart, OwnSeen, OwnWord, Around, means, seen, entry-own}
use Rattle.common_lemmas.proofs.Lists.{all_back, all_front, back_empty, front_empty, not_empty}

-- ---- attributes

-- one step of the table of attributes
step : (n k : ℕ) (a rest : Attribute) (s : Span) → k < 25 → (no_attribute rest s ≡ [] → n < 25) → no_attribute (if n == k then a else rest) s ≡ [] → n < 25
step n k a rest s l more e = by_test (n == k) refl e
  where
    by_test : (b : Bool) → (n == k) ≡ b → no_attribute (if b then a else rest) s ≡ [] → n < 25
    by_test true f g = subst (λ j. j < 25) (sym (eqb-true n k f)) l
    by_test false f g = more g

pub attribute-first : (id : NameId) (s : Span) → no_attribute (attribute_of id) s ≡ [] → id.0 < 25
attribute-first id s =
    step id.0 18 First _ s (omega arith)
    (step id.0 19 Last _ s (omega arith)
    (step id.0 20 Pos _ s (omega arith)
    (step id.0 21 Val _ s (omega arith)
    (step id.0 22 Succ _ s (omega arith)
    (step id.0 23 Pred _ s (omega arith)
    (step id.0 24 Image _ s (omega arith) (λ e. absurd (not_empty s [] e))))))))

-- ---- places

-- nothing is refused at the place, nor in the declaration of what is called there
pub record IsFit (x : Site) : Type 0 where
  pub met : IsMet x
  pub clear : IsAddressed x.scope x.demand

if-some : {A : Type 0} (f : A → List Site) (o : Option A) (P : A → Type 0) → ((x : A) → AllByRecursion IsFit (f x) → P x) → AllByRecursion IsFit (if_there f o) → IfSome o P
if-some f (Some x) P g h = g x h
if-some f None P g h = tt

module _ (Own : ℕ → Type 0) (first : (k : ℕ) → k < 25 → Own k) where
  -- each name has what is asked
  abbrev pub Q : Rules
  Q = record no_rules { name = λ id. Own id.0 }

  module _ (s : Scope) (names : AllByRecursion (OwnSeen Own) s.names) where
    -- ---- expressions

    abbrev NodeMet : PExpr → Type 0
    NodeMet e = unknown_in_node s e ≡ []

    nodes-own : (k : ℕ) (e : PExpr) → AllByRecursion NodeMet (nodes e) → EveryExpr Q k e
    nodes-own k (EInteger n sp) h = (tt, tt)
    nodes-own k (EName id sp) h = (tt, seen Own s id sp names h.0)
    nodes-own k (EIndex w e sp) h = (tt, seen Own s w.name w.span names h.0, nodes-own (k + 1) e h.1)
    nodes-own k (EAttribute m w sp) h = (tt, seen Own s m.name m.span names (front_empty _ _ h.0), first w.name.0 (attribute-first w.name w.span (back_empty _ _ h.0)))
    nodes-own k (EAttributeOf m w e sp) h = (
      tt,
      seen Own s m.name m.span names (front_empty _ _ h.0),
      first w.name.0 (attribute-first w.name w.span (back_empty _ _ h.0)),
      nodes-own (k + 1) e h.1,
    )
    nodes-own k (EParen e sp) h = (tt, nodes-own (k + 1) e h.1)
    nodes-own k (EUnary op e sp) h = (tt, tt, nodes-own (k + 1) e h.1)
    nodes-own k (EBinary op l r sp) h = (tt, tt, nodes-own (k + 1) l (all_front NodeMet (nodes l) (nodes r) h.1), nodes-own (k + 1) r (all_back NodeMet (nodes l) (nodes r) h.1))

    node-places : (es : List PExpr) → AllByRecursion IsFit (map (λ n. site s (node false n)) es) → AllByRecursion NodeMet es
    node-places [] h = tt
    node-places (e ∷ es) h = (h.0.met.known, node-places es h.1)

    pub expr-own : (k : ℕ) (e : PExpr) → AllByRecursion IsFit (expr_sites s e) → EveryExpr Q k e
    expr-own k e h = nodes-own k e (node-places (nodes e) h.1)

    pub expr-of-own : (k : ℕ) (o : Option ℕ) (e : PExpr) → AllByRecursion IsFit (expr_of s o e) → EveryExpr Q k e
    expr-of-own k o e h = expr-own k e (all_front IsFit (expr_sites s e) _ h)

    pub static-of-own : (k : ℕ) (o : Option ℕ) (e : PExpr) → AllByRecursion IsFit (static_of s o e) → EveryExpr Q k e
    static-of-own k o e h = expr-of-own k o e (all_front IsFit (expr_of s o e) _ h)

    pub free-value-own : (k : ℕ) (e : PExpr) → AllByRecursion IsFit (free_value_sites s e) → EveryExpr Q k e
    free-value-own k e h = expr-own k e (all_front IsFit (expr_sites s e) _ h)

    pub exprs-own : (k : ℕ) (es : List PExpr) → AllByRecursion IsFit (flat_map (expr_sites s) es) → AllByRecursion (EveryExpr Q k) es
    exprs-own k [] h = tt
    exprs-own k (e ∷ es) h = (expr-own k e (all_front IsFit (expr_sites s e) _ h), exprs-own k es (all_back IsFit (expr_sites s e) _ h))

    exprs-of-own : (k : ℕ) (o : Option ℕ) (es : List PExpr) → AllByRecursion IsFit (flat_map (expr_of s o) es) → AllByRecursion (EveryExpr Q k) es
    exprs-of-own k o [] h = tt
    exprs-of-own k o (e ∷ es) h = (expr-of-own k o e (all_front IsFit (expr_of s o e) _ h), exprs-of-own k o es (all_back IsFit (expr_of s o e) _ h))

    pub maybe-expr : (k : ℕ) (o : Option PExpr) → AllByRecursion IsFit (if_there (expr_sites s) o) → IfSome o (EveryExpr Q k)
    maybe-expr k o h = if-some (expr_sites s) o (EveryExpr Q k) (expr-own k) h

    -- ---- ranges

    pub bounds-own : (static : Bool) (k : ℕ) (b : PBounds) → AllByRecursion IsFit (bounds_sites static s b) → EveryBounds Q k b
    bounds-own static k b h =
        let one = expr_sites s b.first in
        let two = static_if static s b.first in
        let three = expr_sites s b.last in
        let four = static_if static s b.last in
        let lower = all_front IsFit (one ++ two ++ three) four (all_front IsFit (one ++ two ++ three ++ four) (site s (must_not_be_empty b.first b.last) ∷ []) h) in
        (tt, expr-own k b.first (all_front IsFit one two (all_front IsFit (one ++ two) three lower)), expr-own k b.last (all_back IsFit (one ++ two) three lower))

    constraint-own : (static : Bool) (o : Option ℕ) (k : ℕ) (b : PBounds) → AllByRecursion IsFit (constraint_sites static s o b) → EveryBounds Q k b
    constraint-own static o k b h = bounds-own static k b (all_front IsFit (bounds_sites static s b) _ h)

    pub subind-own : (static : Bool) (allowed : MarkUse) (k : ℕ) (x : PSubind) → AllByRecursion IsFit (subind_sites static allowed s x) → EverySubind Q k x
    subind-own static allowed k x h = (
      seen Own s x.mark.name x.mark.span names h.0.met.known,
      if-some (constraint_sites static s (scalar_kind (marking s x.mark.name))) x.bounds (EveryBounds Q k) (constraint-own static _ k) h.1,
    )

    pub drange-own : (static : Bool) (k : ℕ) (x : PDrange) → AllByRecursion IsFit (drange_sites static s x) → EveryDrange Q k x
    drange-own static k (RGiven b) h = bounds-own static k b (all_front IsFit (bounds_sites static s b) _ h)
    drange-own static k (RMarked x) h = subind-own static scalar_only k x h

    -- ---- calls

    pub target-own : (k : ℕ) (t : PTarget) → AllByRecursion IsFit (target_sites s t) → EveryTarget Q k t
    target-own k t h = (seen Own s t.name.name t.name.span names h.0.met.known, maybe-expr k t.index h.1)

    pub callee-own : (k : ℕ) (c : PCallee) → AllByRecursion IsFit (callee_sites s c) → EveryCallee Q k c
    callee-own k c h = (seen Own s c.name.name c.name.span names h.0.met.known, maybe-expr k c.index h.1)

    written-own : (k : ℕ) (mode : ParMode) (e : PExpr) → AllByRecursion IsFit (written_actual_sites s mode e) → EveryExpr Q k e
    written-own k mode (EName id sp) h = (tt, seen Own s id sp names h.0.met.known)
    written-own k mode (EInteger n sp) h = expr-own k (EInteger n sp) h.1
    written-own k mode (EIndex w e sp) h = expr-own k (EIndex w e sp) h.1
    written-own k mode (EAttribute m w sp) h = expr-own k (EAttribute m w sp) h.1
    written-own k mode (EAttributeOf m w e sp) h = expr-own k (EAttributeOf m w e sp) h.1
    written-own k mode (EParen e sp) h = expr-own k (EParen e sp) h.1
    written-own k mode (EUnary op e sp) h = expr-own k (EUnary op e sp) h.1
    written-own k mode (EBinary op l r sp) h = expr-own k (EBinary op l r sp) h.1

    actual-own : (k : ℕ) (mode : ParMode) (e : PExpr) → AllByRecursion IsFit (actual_sites s mode e) → EveryExpr Q k e
    actual-own k Take e h = expr-own k e h
    actual-own k Give e h = written-own k Give e h
    actual-own k Both e h = written-own k Both e h

    actuals-own : (k : ℕ) (formals : List FormalPart) (es : List PExpr) → AllByRecursion IsFit (actuals_sites s formals es) → AllByRecursion (EveryExpr Q k) es
    actuals-own k formals [] h = tt
    actuals-own k [] (e ∷ es) h = (expr-own k e (all_front IsFit (expr_sites s e) _ h), actuals-own k [] es (all_back IsFit (expr_sites s e) _ h))
    actuals-own k (f ∷ fs) (e ∷ es) h =
        let more = all_back IsFit (actual_sites s f.mode e) _ h in
        (actual-own k f.mode e (all_front IsFit (actual_sites s f.mode e) _ h), actuals-own k fs es more.1)

    several : (k : ℕ) (es : List PExpr) → AllByRecursion (EveryExpr Q k) es → EveryExprs Q k es
    several k es h = (tt, All-from_recursion (EveryExpr Q k) es h)

    free-args-own : (k : ℕ) (args : PArgs) → AllByRecursion IsFit (free_args_sites s args) → EveryArgs Q k args
    free-args-own k args h = (
      several k args.first (exprs-own k args.first (all_front IsFit (flat_map (expr_sites s) args.first) _ h)),
      if-some (flat_map (expr_sites s)) args.second (EveryExprs Q k) (λ es g. several k es (exprs-own k es g)) (all_back IsFit (flat_map (expr_sites s) args.first) _ h),
    )

    args-own : (k : ℕ) (o : Option EntryPart) (args : PArgs) → AllByRecursion IsFit (args_sites s o args) → EveryArgs Q k args
    args-own k None args h = free-args-own k args h
    args-own k (Some entry) args h = by_family entry.family h
      where
        by_family : (f : Family) → AllByRecursion IsFit (args_sites s (Some (record entry { family = f })) args) → EveryArgs Q k args
        by_family single g = (
          several k args.first (actuals-own k entry.formals args.first (all_front IsFit (actuals_sites s entry.formals args.first) _ g)),
          if-some (flat_map (expr_sites s)) args.second (EveryExprs Q k) (λ es q. several k es (exprs-own k es q)) (all_back IsFit (actuals_sites s entry.formals args.first) _ g),
        )
        by_family (family range) g = (
          several k args.first (exprs-of-own k (Some range.kind) args.first (all_front IsFit (flat_map (expr_of s (Some range.kind)) args.first) _ g)),
          if-some (actuals_sites s entry.formals) args.second (EveryExprs Q k) (λ es q. several k es (actuals-own k entry.formals es q)) (all_back IsFit (flat_map (expr_of s (Some range.kind)) args.first) _ g),
        )
        by_family unclear g = free-args-own k args g

    -- an entry that is not missing
    there : (es : List EntryPart) (w : Word) → AllByRecursion (OwnPart Own) es → missing (entry_named es w.name) w ≡ [] → Own w.name.0
    there es w h e = entry-own Own es w.name h (by_entry (entry_named es w.name) e)
      where
        by_entry : (o : Option EntryPart) → missing o w ≡ [] → is_some o ≡ true
        by_entry None g = absurd (not_empty _ _ g)
        by_entry (Some x) g = refl

    -- the entry that is called: the callee is a task
    entry-called : (c : PCall) (o : Option Thing) → meaning s c.task.name.name ≡ o → (o ≡ Some Unclear → ⊥) → is_some o ≡ true → no_task o c.task.name ≡ [] →
        ((es : List EntryPart) → o ≡ Some (TaskType es) → ⊥) → (o ≡ Some MainProcedure → ⊥) → unknown_entry o c.entry ≡ [] → Own c.entry.name.0
    entry-called c None e clear some task type main entry = absurd (not_empty _ _ (sym (ap (λ (b : Bool). if b then c.entry ∷ [] else []) some)))
    entry-called c (Some (SingleTask es)) e clear some task type main entry = there es c.entry (means Own s c.task.name.name (SingleTask es) names e).1 entry
    entry-called c (Some (TaskObject es)) e clear some task type main entry = there es c.entry (means Own s c.task.name.name (TaskObject es) names e).1 entry
    entry-called c (Some (TaskArray r es)) e clear some task type main entry = there es c.entry (means Own s c.task.name.name (TaskArray r es) names e).1 entry
    entry-called c (Some (TaskType es)) e clear some task type main entry = absurd (type es refl)
    entry-called c (Some MainProcedure) e clear some task type main entry = absurd (main refl)
    entry-called c (Some Unclear) e clear some task type main entry = absurd (clear refl)
    entry-called c (Some (TypeMark m)) e clear some task type main entry = absurd (not_empty _ _ task)
    entry-called c (Some (Variable m)) e clear some task type main entry = absurd (not_empty _ _ task)
    entry-called c (Some (ConstantObject m)) e clear some task type main entry = absurd (not_empty _ _ task)
    entry-called c (Some (Parameter mode m)) e clear some task type main entry = absurd (not_empty _ _ task)
    entry-called c (Some (LoopParameter m)) e clear some task type main entry = absurd (not_empty _ _ task)
    entry-called c (Some (Literal k)) e clear some task type main entry = absurd (not_empty _ _ task)
    entry-called c (Some AnException) e clear some task type main entry = absurd (not_empty _ _ task)
    entry-called c (Some AnotherUnit) e clear some task type main entry = absurd (not_empty _ _ task)

    module _ (a : CheckScope) (around : Around Own s a) where
      -- an entry call, whose callee is neither main nor a task type
      pub call-own : (k : ℕ) (c : PCall) → main_entry a (check_addresses c.task.name) ≡ [] → AllByRecursion IsFit (call_sites s c) → EveryCall Q k c
      call-own k c e h = (
        callee-own k c.task front,
        entry-called c (meaning s c.task.name.name) refl front.0.clear (known (meaning s c.task.name.name) front.0.met.known) (front_empty _ _ front.0.met.matched) type main back.0.met.known,
        if-some (args_sites s (called_entry (meaning s c.task.name.name) c.entry.name)) c.args (EveryArgs Q k) (args-own k _) back.1,
      )
        where
          lists : List Site
          lists = if_there (args_sites s (called_entry (meaning s c.task.name.name) c.entry.name)) c.args

          front : AllByRecursion IsFit (callee_sites s c.task)
          front = all_front IsFit (callee_sites s c.task) (site s (calls c) ∷ lists) h

          back : AllByRecursion IsFit (site s (calls c) ∷ lists)
          back = all_back IsFit (callee_sites s c.task) (site s (calls c) ∷ lists) h

          known : (o : Option Thing) → (if is_some o then [] else c.task.name.span ∷ []) ≡ [] → is_some o ≡ true
          known o f = test-holds (is_some o) c.task.name.span f

          type : (es : List EntryPart) → meaning s c.task.name.name ≡ Some (TaskType es) → ⊥
          type es f = not_empty c.task.name.span [] (ap (λ o. check_no_task o c.task.name.span) (sym (around.types c.task.name.name es f)) ∙ e)

          main : meaning s c.task.name.name ≡ Some MainProcedure → ⊥
          main f = not_empty c.task.name.span [] (ap (λ o. check_no_task o c.task.name.span) (sym (around.main c.task.name.name f)) ∙ e)

    -- ---- texts

    part-places : (e : PExpr) → AllByRecursion IsFit (part_nodes s e) → AllByRecursion NodeMet (nodes e)
    part-places (EInteger n sp) h = (h.0.met.known, tt)
    part-places (EName id sp) h = (h.0.met.known, tt)
    part-places (EIndex w e sp) h = (h.0.met.known, node-places (nodes e) h.1)
    part-places (EAttribute m w sp) h = (h.0.met.known, tt)
    part-places (EAttributeOf m w e sp) h = (h.0.met.known, node-places (nodes e) h.1)
    part-places (EParen e sp) h = (h.0.met.known, node-places (nodes e) h.1)
    part-places (EUnary op e sp) h = (h.0.met.known, node-places (nodes e) h.1)
    part-places (EBinary op l r sp) h = (h.0.met.known, node-places (nodes l ++ nodes r) h.1)

    part-own : (k : ℕ) (alone : Bool) (x : PPart) → AllByRecursion IsFit (part_sites s alone x) → EveryPart Q k x
    part-own k alone (PWords t sp) h = tt
    part-own k alone (PValue e) h = nodes-own k e (part-places e (all_front IsFit (part_nodes s e) (site s (is_written alone e) ∷ plain_part_sites s alone e) h.1))

    parts-own : (k : ℕ) (alone : Bool) (ps : List PPart) → AllByRecursion IsFit (flat_map (part_sites s alone) ps) → AllByRecursion (EveryPart Q k) ps
    parts-own k alone [] h = tt
    parts-own k alone (x ∷ ps) h = (part-own k alone x (all_front IsFit (part_sites s alone x) _ h), parts-own k alone ps (all_back IsFit (part_sites s alone x) _ h))

    pub text-own : (k : ℕ) (alone : Bool) (ps : List PPart) → AllByRecursion IsFit (flat_map (part_sites s alone) ps) → EveryText Q k ps
    text-own k alone ps h = (tt, All-from_recursion (EveryPart Q k) ps (parts-own k alone ps h))

    -- ---- choices

    choice-own : (k : ℕ) (o : Option ℕ) (range : Option Range) (c : PChoice) → AllByRecursion IsFit (choice_sites s o range c) → EveryChoice Q k c
    choice-own k o range c h =
        let last = λ (e : PExpr). static_of s o e ++ (site s (must_lie_in e range) ∷ site s (must_not_be_empty c.first e) ∷ []) in (
          static-of-own k o c.first (all_front IsFit (static_of s o c.first) (site s (must_lie_in c.first range) ∷ if_there last c.last) h),
          if-some last c.last (λ l. Unit {0} × EveryExpr Q k l) (λ e g. (tt, static-of-own k o e (all_front IsFit (static_of s o e) _ g)))
              (all_back IsFit (static_of s o c.first) (site s (must_lie_in c.first range) ∷ if_there last c.last) h).1,
        )

    choices-list : (k : ℕ) (o : Option ℕ) (range : Option Range) (cs : List PChoice) → AllByRecursion IsFit (flat_map (choice_sites s o range) cs) → AllByRecursion (EveryChoice Q k) cs
    choices-list k o range [] h = tt
    choices-list k o range (c ∷ cs) h = (choice-own k o range c (all_front IsFit (choice_sites s o range c) _ h), choices-list k o range cs (all_back IsFit (choice_sites s o range c) _ h))

    pub choices-own : (k : ℕ) (o : Option ℕ) (range : Option Range) (cs : List PChoice) → AllByRecursion IsFit (flat_map (choice_sites s o range) cs) → All (EveryChoice Q k) cs
    choices-own k o range cs h = All-from_recursion (EveryChoice Q k) cs (choices-list k o range cs h)

    -- ---- formals

    formals-list : (formals : List PFormal) → AllByRecursion (OwnWord Own) (flat_map (λ f. f.names) formals) → AllByRecursion IsFit (formal_mark_sites s formals) → AllByRecursion (EveryFormal Q) formals
    formals-list [] w h = tt
    formals-list (f ∷ fs) w h = (
      ((tt, All-from_recursion (EveryWord Q) f.names (all_front (OwnWord Own) f.names _ w)), seen Own s f.mark.name f.mark.span names h.0.met.known),
      formals-list fs (all_back (OwnWord Own) f.names _ w) h.1,
    )

    pub formals-own : (formals : List PFormal) → AllByRecursion (OwnWord Own) (flat_map (λ f. f.names) formals) → AllByRecursion IsFit (formal_mark_sites s formals) → All (EveryFormal Q) formals
    formals-own formals w h = All-from_recursion (EveryFormal Q) formals (formals-list formals w h)
