-- A call with variables: the entry, the numbers of its lists, and each variable in them; and what is known of the lists of the program's call.
use Rattle.std.proofs.Common.{◌≡◌, ℕ, suc, ◌+◌, ◌==◌, Bool, true, false, not, ◌&&◌, List, [], ◌∷◌, length, flat_map, Option, Some, None, is_none, option_map, unwrap_or, IfSome, refl, sym, ap, subst, ◌∙◌, true≢false, eqb-true}
use Rattle.std.specs.List.{AllByRecursion}
use Rattle.common_lemmas.proofs.Truth.{and_left, and_right}
use Rattle.common_lemmas.proofs.Lists.{all_back, all_front, all_joined}
use Rattle.ada_tree.specs.declared.naming.Span.{Span}
use Rattle.ada_tree.specs.declared.naming.Word.{Word}
use Rattle.ada_tree.specs.declared.statements.ParMode.{ParMode}
use Rattle.ada_tree.specs.declared.statements.ParMode.TheVariants.{Take, Give, Both}
use Rattle.ada_tree.specs.TypeTable.{TypeTable}
use Rattle.ada_tree.specs.PlainExpr.{PExpr, PSubind}
use Rattle.ada_tree.specs.PlainStmt.{PArgs, PCall}
use Rattle.ada_tree.specs.PlainDecl.{PDecl}
use Rattle.ada_static_rules.specs.Scope.{Scope, Range, FormalPart, Family, single, family, unclear, EntryPart, meaning, entry_named}
use Rattle.ada_static_rules.specs.Demand.{calls, must_be_of, Site}
use Rattle.ada_static_rules.specs.Sites.{site, if_there, expr_sites, expr_of, actual_sites, actuals_sites, args_sites, callee_sites}
use Rattle.ada_static_rules.specs.RuleUnknown.{missing, unknown_entry}
use Rattle.ada_static_rules.specs.RuleArgCount.{at_place, fits_call, fits_single, fits_family, wrong_call, called_entry}
use Rattle.ada_value.specs.Values.{limits_named}
use Rattle.task_model.specs.Setting.{Setting, first_expr, Lists, lists_in, lists_of}
use Rattle.normal_model.specs.Names.{variable_name}
use Rattle.normal_model.specs.Ranges.{subtype_of_range, family_range}
use Rattle.normal_model.specs.Making.{variable, kept_subtypes, kept_if}
use Rattle.normal_model.specs.Calls.{Slot, slots_called, actuals_passed, actual_subtypes, entry_called, lists_called, lists_passed, args_passed, index_number, actual_number, call_subtypes, call_to}
use Rattle.normal_model.specs.RewrittenUnit.{RewrittenUnit}
use Rattle.normal_laws.specs.structure.asked.Pieces.{IsVariable, AreVariables, IsTarget, IsPair, first_pair, later_pair}
use Rattle.normal_laws.proofs.structure.asked.CallVariables.{family-there, actuals-there}
use Rattle.task_laws.specs.legal.alike_scopes.Laws.{IsMetBut}
use Rattle.normal_laws.specs.structure.typed.ScopeOf.{HasKnownKinds, IsVariableOf, IsRange, AreSlots, IsFamilyOf, IsEntryOf, IsScopeOf, IsPlaceOf, AreTasksOf}
use Rattle.normal_laws.proofs.structure.typed.Places.{met-of, met-calls}
use Rattle.normal_laws.proofs.structure.typed.Variables.{AllMetBut, of-kind, variable-kind, variable-met, actual-met}
use Rattle.normal_laws.proofs.structure.typed.Subtypes.{range-variable, mark-variable}
use Rattle.normal_laws.proofs.structure.typed.Callees.{IsTaskSeen, seen-entry, seen-missing, callee_entries, callee-seen, target-means}

-- ---- tests

first-of-three : (a b c : Bool) → (a && b && c) ≡ true → a ≡ true
first-of-three true b c e = refl
first-of-three false b c e = e

pub fits-told : (b : Bool) (s : Span) → at_place (not b) s ≡ [] → b ≡ true
fits-told true s e = refl
fits-told false s e = cc

fits-so : (b : Bool) (s : Span) → b ≡ true → at_place (not b) s ≡ []
fits-so b s e = ap (λ t. at_place (not t) s) e

pub entry-there : (o : Option EntryPart) (w : Word) → missing o w ≡ [] → (part : EntryPart) × (o ≡ Some part)
entry-there (Some part) w e = (part, refl)
entry-there None w e = cc

-- an entry with another family
abbrev pub as_family : EntryPart → Family → EntryPart
as_family part fam = record { name = part.name; family = fam; formals = part.formals }

slots-length : (T : TypeTable) (fs : List FormalPart) (xs : List Slot) → AreSlots T fs xs → length fs ≡ length xs
slots-length T [] [] h = refl
slots-length T (f ∷ fs) (x ∷ xs) h = ap suc (slots-length T fs xs h.2)
slots-length T [] (x ∷ xs) h = absurd h
slots-length T (f ∷ fs) [] h = absurd h

passed-length : (g : Setting) (s : Span) (xs : List Slot) (es : List PExpr) (k : ℕ) → length es ≡ length xs → length (actuals_passed g s xs es k) ≡ length es
passed-length g s [] [] k h = refl
passed-length g s [] (e ∷ es) k h = cc
passed-length g s (x ∷ xs) [] k h = refl
passed-length g s (x ∷ xs) (e ∷ es) k h = ap suc (passed-length g s xs es (k + 1) (suc-same (length es) (length xs) h))
  where
    suc-same : (m n : ℕ) → suc m ≡ suc n → m ≡ n
    suc-same m n e = cc

module _ (u : RewrittenUnit) (own : ℕ → Bool) (vars : List PDecl) (known : HasKnownKinds u.setting.types) (c d : Scope) (rel : IsScopeOf u own vars c d) where
  abbrev g : Setting
  g = u.setting

  abbrev P : Site → Type 0
  P = IsPlaceOf g

  -- ---- variables in lists

  variable-of : (s : Span) (x : PSubind) (k : ℕ) → IsVariable g vars s x k → IsVariableOf g.types d (variable_name g k) x
  variable-of s x k v = (rel.variables s x k v).0

  passed-actual : (s : Span) (f : FormalPart) (x : Slot) (k : ℕ) → f.mode ≡ x.mode → f.kind ≡ Some (limits_named g.types x.mark.name).kind → IsVariable g vars s (record { mark = x.mark; bounds = None }) k →
      AllMetBut (actual_sites d f.mode (variable g s k)) × IsMetBut (site d (must_be_of (variable g s k) f.kind))
  passed-actual s f x k m n v =
      let is = variable-of s (record { mark = x.mark; bounds = None }) k v in (
        by_mode f.mode is,
        subst (λ q. IsMetBut (site d (must_be_of (variable g s k) q))) (sym (n ∙ ap Some (sym (mark-variable g.types d (variable_name g k) x.mark is))))
            (met-of d (variable g s k) (Some is.mark.kind) (of-kind d (variable g s k) is.mark.kind (variable-kind is s))),
      )
    where
      by_mode : (mode : ParMode) → IsVariableOf g.types d (variable_name g k) (record { mark = x.mark; bounds = None }) → AllMetBut (actual_sites d mode (variable g s k))
      by_mode Take is = variable-met is s
      by_mode Give is = (actual-met is Give s, tt)
      by_mode Both is = (actual-met is Both s, tt)

  passed-actuals : (s : Span) (fs : List FormalPart) (xs : List Slot) (es : List PExpr) (k : ℕ) → AreSlots g.types fs xs → AreVariables g vars s (actual_subtypes xs es) k → AllMetBut (actuals_sites d fs (actuals_passed g s xs es k))
  passed-actuals s [] [] es k h v = tt
  passed-actuals s [] (x ∷ xs) es k h v = absurd h
  passed-actuals s (f ∷ fs) [] es k h v = absurd h
  passed-actuals s (f ∷ fs) (x ∷ xs) [] k h v = tt
  passed-actuals s (f ∷ fs) (x ∷ xs) (e ∷ es) k h v =
      let one = passed-actual s f x k h.0 h.1 v.0 in
      all_joined IsMetBut (actual_sites d f.mode (variable g s k)) _ one.0 (one.1, passed-actuals s fs xs es (k + 1) h.2 v.1)

  -- ---- a call

  module _ (x : PCall) (tasks : AreTasksOf g x.task) (m : AllByRecursion P (callee_sites c x.task))
      (i : AllByRecursion P (site c (calls x) ∷ if_there (args_sites c (called_entry (meaning c x.task.name.name) x.entry.name)) x.args)) where
    abbrev e : ℕ
    e = entry_called g x

    abbrev slots : List Slot
    slots = slots_called g x

    pub seen : IsTaskSeen (callee_entries u own vars c d rel x.task tasks m) (meaning c x.task.name.name)
    seen = callee-seen u own vars c d rel x.task tasks m

    abbrev pub found : (part : EntryPart) × (entry_named (callee_entries u own vars c d rel x.task tasks m) x.entry.name ≡ Some part)
    found = entry-there _ x.entry (sym (seen-missing _ (meaning c x.task.name.name) x.entry seen) ∙ i.0.0.known)

    abbrev pub part : EntryPart
    part = found.0

    part-called : called_entry (meaning c x.task.name.name) x.entry.name ≡ Some part
    part-called = seen-entry _ (meaning c x.task.name.name) x.entry.name seen ∙ found.1

    part-is : IsEntryOf g e part
    part-is = rel.called x.task.name.name x.entry.name part part-called

    abbrev n : ℕ
    n = length part.formals

    fits : fits_call part.family x.args n ≡ true
    fits = fits-told (fits_call part.family x.args n) x.entry.span (ap (λ o. wrong_call o x.args x.entry.span) (sym part-called) ∙ i.0.0.counted)

    args-asked : AllByRecursion P (if_there (args_sites c (Some part)) x.args)
    args-asked = subst (λ o. AllByRecursion P (if_there (args_sites c o) x.args)) part-called i.1

    -- ---- the lists of the program's call

    -- the index of a family is of the range's kind
    pub record IsIndexOf (y : PExpr) : Type 0 where
      pub range : Range
      pub declared : IsRange g.types (family_range g e) range
      pub asked : AllByRecursion P (expr_of c (Some range.kind) y)

    pub record AreListsOf (l : Lists) : Type 0 where
      pub index : IfSome l.index IsIndexOf
      pub actuals : AllByRecursion P (actuals_sites c part.formals l.actuals)

    first-index : (range : Range) → IsRange g.types (family_range g e) range → (es : List PExpr) → AllByRecursion P (flat_map (expr_of c (Some range.kind)) es) → IfSome (first_expr es) IsIndexOf
    first-index range h [] a = tt
    first-index range h (y ∷ es) a = record { range = range; declared = h; asked = all_front P (expr_of c (Some range.kind) y) _ a }

    second-asked : (o : Option (List PExpr)) → AllByRecursion P (if_there (actuals_sites c part.formals) o) → AllByRecursion P (actuals_sites c part.formals (unwrap_or o []))
    second-asked None a = tt
    second-asked (Some es) a = a

    lists-family : (fam : Family) → IsFamilyOf g e fam → (o : Option PArgs) → AllByRecursion P (if_there (args_sites c (Some (as_family part fam))) o) → AreListsOf (lists_of g.numbers e o)
    lists-family fam h None a = record { index = tt; actuals = tt }
    lists-family single h (Some args) a = subst (λ b. AreListsOf (lists_in b args)) (sym h) record { index = tt; actuals = all_front P (actuals_sites c part.formals args.first) _ a }
    lists-family (family range) h (Some args) a = subst (λ b. AreListsOf (lists_in b args)) (sym h.0) record {
      index = first-index range h.1 args.first (all_front P (flat_map (expr_of c (Some range.kind)) args.first) _ a);
      actuals = second-asked args.second (all_back P (flat_map (expr_of c (Some range.kind)) args.first) _ a);
    }
    lists-family unclear h (Some args) a = absurd h

    pub lists-asked : AreListsOf (lists_called g x)
    lists-asked = lists-family part.family part-is.family x.args args-asked

    -- the actual at a place, with its formal
    pub record IsActualOf (slot : Slot) (y : PExpr) : Type 0 where
      pub mode : ParMode
      pub kind : ℕ
      pub is : mode ≡ slot.mode
      pub marked : kind ≡ (limits_named g.types slot.mark.name).kind
      pub sites : AllByRecursion P (actual_sites c mode y)
      pub fits : P (site c (must_be_of y (Some kind)))

    pair-asked : (slot : Slot) (y : PExpr) (fs : List FormalPart) (xs : List Slot) (es : List PExpr) → AreSlots g.types fs xs → IsPair slot y xs es → AllByRecursion P (actuals_sites c fs es) → IsActualOf slot y
    pair-asked slot y [] xs es h (first_pair ys zs) a = absurd h
    pair-asked slot y [] xs es h (later_pair z w ys zs p) a = absurd h
    pair-asked slot y (f ∷ fs) xs es h (first_pair ys zs) a = record {
      mode = f.mode;
      kind = (limits_named g.types slot.mark.name).kind;
      is = h.0;
      marked = refl;
      sites = all_front P (actual_sites c f.mode y) _ a;
      fits = subst (λ o. P (site c (must_be_of y o))) h.1 (all_back P (actual_sites c f.mode y) (site c (must_be_of y f.kind) ∷ actuals_sites c fs zs) a).0;
    }
    pair-asked slot y (f ∷ fs) xs es h (later_pair z w ys zs p) a = pair-asked slot y fs ys zs h.2 p (all_back P (actual_sites c f.mode w) (site c (must_be_of w f.kind) ∷ actuals_sites c fs zs) a).1

    pub actual-asked : (slot : Slot) (y : PExpr) → IsPair slot y slots (lists_called g x).actuals → IsActualOf slot y
    actual-asked slot y p = pair-asked slot y part.formals slots (lists_called g x).actuals part-is.formals p lists-asked.actuals

    -- ---- the lists of the new call

    many : length part.formals ≡ length slots
    many = slots-length g.types part.formals slots part-is.formals

    same-many : (es : List PExpr) (k : ℕ) (s : Span) → (length es == n) ≡ true → (length (actuals_passed g s slots es k) == n) ≡ true
    same-many es k s h = ap (λ l. l == n) (passed-length g s slots es k (eqb-true (length es) n h ∙ many)) ∙ h

    single-fits : (s : Span) (k : ℕ) (args : PArgs) → fits_single (Some args) n ≡ true → fits_single (Some record { first = actuals_passed g s slots args.first k; second = args.second }) n ≡ true
    single-fits s k args h =
        let last = and_right (is_none args.second && not (n == 0)) (length args.first == n) (grouped (is_none args.second) (not (n == 0)) (length args.first == n) h) in
        ap (λ b. is_none args.second && not (n == 0) && b) (same-many args.first k s last ∙ sym last) ∙ h
      where
        grouped : (a b c : Bool) → (a && b && c) ≡ true → ((a && b) && c) ≡ true
        grouped true b c q = q
        grouped false b c q = q

    family-fits : (s : Span) (k : ℕ) (v : PExpr) (first : List PExpr) (second : Option (List PExpr)) → fits_family (Some record { first = first; second = second }) n ≡ true →
        fits_family (Some record { first = v ∷ []; second = option_map (λ es. actuals_passed g s slots es k) second }) n ≡ true
    family-fits s k v first None h = and_right (length first == 1) (n == 0) h
    family-fits s k v first (Some es) h =
        let both = and_right (length first == 1) (not (n == 0) && (length es == n)) h in
        let last = and_right (not (n == 0)) (length es == n) both in
        ap (λ b. not (n == 0) && b) (same-many es k s last ∙ sym last) ∙ both

    one-first : (s : Span) (j : ℕ) (es : List PExpr) → (length es == 1) ≡ true → AreVariables g vars s (kept_subtypes (kept_if (subtype_of_range g.types s (family_range g e)) (first_expr es))) j →
        IsVariable g vars s (subtype_of_range g.types s (family_range g e)) j
    one-first s j [] h v = cc
    one-first s j (y ∷ es) h v = v.0

    second-passed : (s : Span) (k : ℕ) (o : Option (List PExpr)) → AreVariables g vars s (actual_subtypes slots (unwrap_or o [])) k → AllMetBut (if_there (actuals_sites d part.formals) (option_map (λ es. actuals_passed g s slots es k) o))
    second-passed s k None v = tt
    second-passed s k (Some es) v = passed-actuals s part.formals slots es k part-is.formals v

    no-second : (o : Option (List PExpr)) → is_none o ≡ true → AllMetBut (if_there (flat_map (expr_sites d)) o)
    no-second None h = tt
    no-second (Some es) h = absurd (true≢false (sym h))

    abbrev IsPassed : Family → Option PArgs → Type 0
    IsPassed fam o = AllMetBut (if_there (args_sites d (Some (as_family part fam))) o) × (fits_call fam o n ≡ true)

    passed-family : (s : Span) (j : ℕ) (fam : Family) → IsFamilyOf g e fam → (o : Option PArgs) → fits_call fam o n ≡ true →
        AreVariables g vars s (kept_subtypes (kept_if (subtype_of_range g.types s (family_range g e)) (lists_of g.numbers e o).index)) (index_number g s x j) →
        AreVariables g vars s (actual_subtypes slots (lists_of g.numbers e o).actuals) (actual_number g s x j) → IsPassed fam (args_passed g s x j o)
    passed-family s j fam h None f v w = (tt, f)
    passed-family s j single h (Some args) f v w =
        subst (λ b. IsPassed single (Some (lists_passed b g s x j args))) (sym h) (
          all_joined IsMetBut (actuals_sites d part.formals (actuals_passed g s slots args.first (actual_number g s x j))) _
              (passed-actuals s part.formals slots args.first (actual_number g s x j) part-is.formals (subst (λ b. AreVariables g vars s (actual_subtypes slots (lists_in b args).actuals) (actual_number g s x j)) h w))
              (no-second args.second (first-of-three (is_none args.second) (not (n == 0)) (length args.first == n) f)),
          single-fits s (actual_number g s x j) args f,
        )
    passed-family s j (family range) h (Some args) f v w =
        let index = one-first s (index_number g s x j) args.first (one-index args.first args.second f)
        (subst (λ b. AreVariables g vars s (kept_subtypes (kept_if (subtype_of_range g.types s (family_range g e)) (lists_in b args).index)) (index_number g s x j)) h.0 v) in
        let is = variable-of s (subtype_of_range g.types s (family_range g e)) (index_number g s x j) index in
        let kind : is.mark.kind ≡ range.kind = ap (λ (r : Range). r.kind) (range-variable g.types known d (variable_name g (index_number g s x j)) s (family_range g e) range h.1 is) in
        let y : PExpr = variable g s (index_number g s x j) in
        let one : AllMetBut (expr_of d (Some range.kind) y) =
        subst (λ q. AllMetBut (expr_of d (Some q) y)) kind (all_joined IsMetBut (expr_sites d y) (site d (must_be_of y (Some is.mark.kind)) ∷ []) (variable-met is s) (met-of d y (Some is.mark.kind) (of-kind d y is.mark.kind (variable-kind is s)), tt)) in
        subst (λ b. IsPassed (family range) (Some (lists_passed b g s x j args))) (sym h.0) (
          all_joined IsMetBut (flat_map (expr_of d (Some range.kind)) (y ∷ [])) _ (all_joined IsMetBut (expr_of d (Some range.kind) y) [] one tt)
              (second-passed s (actual_number g s x j) args.second (subst (λ b. AreVariables g vars s (actual_subtypes slots (lists_in b args).actuals) (actual_number g s x j)) h.0 w)),
          family-fits s (actual_number g s x j) y args.first args.second f,
        )
      where
        one-index : (first : List PExpr) (second : Option (List PExpr)) → fits_family (Some record { first = first; second = second }) n ≡ true → (length first == 1) ≡ true
        one-index first None q = and_left (length first == 1) _ q
        one-index first (Some es) q = and_left (length first == 1) _ q
    passed-family s j unclear h (Some args) f v w = absurd h

    -- the call of a task that takes the callee's place
    pub call-met : (s : Span) (j : ℕ) (w : Word) → IsTarget g x.task w → AreVariables g vars s (call_subtypes g s x) j →
        AllMetBut (site d (calls (call_to g s x j w)) ∷ if_there (args_sites d (called_entry (meaning d w.name) x.entry.name)) (args_passed g s x j x.args))
    call-met s j w t v =
        let passed = passed-family s j part.family part-is.family x.args fits (family-there g vars s x j v) (actuals-there g vars s x j v) in
        let means = target-means u own vars c d rel x.task tasks m w t in
        let entry : called_entry (meaning d w.name) x.entry.name ≡ Some part = ap (λ o. called_entry o x.entry.name) means ∙ found.1 in (
          met-calls d (call_to g s x j w)
              (ap (λ o. unknown_entry o x.entry) means ∙ ap (λ o. missing o x.entry) found.1)
              (ap (λ o. wrong_call o (args_passed g s x j x.args) x.entry.span) entry ∙ fits-so (fits_call part.family (args_passed g s x j x.args) n) x.entry.span passed.1),
          subst (λ o. AllMetBut (if_there (args_sites d o) (args_passed g s x j x.args))) (sym entry) passed.0,
        )
