-- Entry calls have the lists of their entry, with variables where values come back (6.4.1, 9.5).
use Rattle.std.proofs.Common.{◌≡◌, ℕ, suc, Bool, true, false, ◌==◌, ◌&&◌, not, List, [], ◌∷◌, ◌++◌, length, map, flat_map, option_map, unwrap_or, Option, Some, None, is_some, is_none, refl, sym, ap, ◌∙◌, subst, true≢false, arith}
use Rattle.std.specs.List.{AllByRecursion}
use Rattle.std.proofs.lemmas.Option.{none-some}
use Rattle.std.proofs.lemmas.Bool.{and_parts, eqb-true, not-false}
use Rattle.ada_tree.specs.declared.naming.NameId.{NameId}
use Rattle.ada_tree.specs.declared.naming.Span.{Span}
use Rattle.ada_tree.specs.declared.naming.Word.{Word}
use Rattle.ada_tree.specs.declared.statements.ParMode.{ParMode}
use Rattle.ada_tree.specs.declared.statements.ParMode.TheVariants.{Take, Give, Both}
use Rattle.ada_tree.specs.TypeTable.{TypeTable}
use Rattle.ada_tree.specs.PlainExpr.{PExpr, EInteger, EName, EIndex, EAttribute, EAttributeOf, EParen, EUnary, EBinary, PDrange}
use Rattle.ada_tree.specs.PlainStmt.{PArgs, PCall, PFormal}
use Rattle.ada_tree.specs.PlainDecl.{PEntry}
use Rattle.ada_tree.specs.PlainProgram.{PProgram}
use Rattle.ada_static_rules.specs.Scope.{Scope, single, family, EntryPart, FormalPart, Range, meaning, marking, scalar_kind, entry_named}
use Rattle.ada_static_rules.specs.Demand.{calls, must_be_of}
use Rattle.ada_static_rules.specs.Sites.{site, if_there, expr_sites, expr_of, written_actual_sites, actual_sites, actuals_sites, args_sites, callee_sites, call_sites}
use Rattle.ada_static_rules.specs.Declaring.{formal_parts, family_of, entry_family, entry_part}
use Rattle.ada_static_rules.specs.RuleUnknown.{missing}
use Rattle.ada_static_rules.specs.RuleArgCount.{called_entry, wrong_call, fits_call}
use Rattle.syn_event.specs.Numbering.{task_named}
use Rattle.task_model.specs.Setting.{Setting}
use Rattle.normal_model.specs.Calls.{Slot, slots_of}
use Rattle.task_laws.specs.translation.Translations.{Programs, IsOld}
use Rattle.task_laws.specs.translation.OldNames.{OldExpr, old_name}
use Rattle.task_laws.specs.translation.OldTexts.{OldExprs, old_expr, OldList, old_list, OldArgs, old_args, OldCall}
use Rattle.normal_laws.specs.runs.floors.Suited.{IsMeant, is_named, is_member, IsCallee, HasLists, no_lists, plain_lists, family_lists, IsCopied, only_taken, given_back, both_ways, AreCopied, none_copied, copied_then, IsCall}
use Rattle.task_laws.specs.legal.sites.Met.{IsMet}
use Rattle.normal_laws.proofs.existence.seen_tasks.Finding.{no-place}
use Rattle.normal_laws.proofs.structure.entries.Entries.{entry_in, numbers, g, HasEntry, entry-there}
use Rattle.normal_laws.proofs.existence.seen_tasks.Parts.{FamilyRanged}
use Rattle.normal_laws.proofs.existence.seen_tasks.Tasks.{PartsKnown}
use Rattle.normal_laws.proofs.existence.statement_forms.Callees.{CalleeKnown, callee-first, IsOneOf, first-one, named-one, member-one, some-not}
use Rattle.normal_laws.proofs.existence.statement_forms.Typed.{Typing}
use Rattle.normal_laws.proofs.existence.statement_forms.OwnEntries.{EntryKnown, entry-known, entry-said}
use Rattle.common_lemmas.proofs.Lists.{all_back, all_front}

-- ---- formals one by one

-- of one mode each
abbrev AreModes : List Slot → List FormalPart → Type 0
AreModes [] [] = Unit {0}
AreModes (x ∷ xs) (f ∷ fs) = (x.mode ≡ f.mode) × AreModes xs fs
AreModes _ _ = ⊥

modes-joined : (xs ys : List Slot) (fs hs : List FormalPart) → AreModes xs fs → AreModes ys hs → AreModes (xs ++ ys) (fs ++ hs)
modes-joined [] ys [] hs h k = k
modes-joined (x ∷ xs) ys (f ∷ fs) hs h k = (h.0, modes-joined xs ys fs hs h.1 k)
modes-joined [] ys (f ∷ fs) hs h k = absurd h
modes-joined (x ∷ xs) ys [] hs h k = absurd h

modes-of : (around : Scope) (fs : List PFormal) → AreModes (slots_of fs) (formal_parts around fs)
modes-of around [] = tt
modes-of around (f ∷ fs) = modes-joined _ (slots_of fs) _ (formal_parts around fs) (one f.names) (modes-of around fs)
  where
    one : (ws : List Word) → AreModes (map (λ (w : Word). record { mode = f.mode; mark = f.mark }) ws)
        (map (λ (w : Word). record { name = w.name; mode = f.mode; mark = f.mark.name; kind = scalar_kind (marking around f.mark.name) }) ws)
    one [] = tt
    one (w ∷ ws) = (refl, one ws)

no-slots : (xs : List Slot) (fs : List FormalPart) → AreModes xs fs → length fs ≡ 0 → xs ≡ []
no-slots [] [] h e = refl
no-slots (x ∷ xs) (f ∷ fs) h e = absurd (omega (arith, e))
no-slots [] (f ∷ fs) h e = absurd h
no-slots (x ∷ xs) [] h e = absurd h

module _ (b : Programs) (s : Scope) where
  -- ---- actuals

  -- an actual that is written is a variable
  variable-of : (mode : ParMode) (e : PExpr) → AllByRecursion IsMet (written_actual_sites s mode e) → OldExpr b e → (id : NameId) × (sp : Span) × (e ≡ EName id sp) × IsOld b id
  variable-of mode (EName id sp) met (old_name _ _ h) = (id, sp, refl, h)
  variable-of mode (EInteger n sp) met old = absurd (some-not _ _ met.0.variable)
  variable-of mode (EIndex w e sp) met old = absurd (some-not _ _ met.0.variable)
  variable-of mode (EAttribute m w sp) met old = absurd (some-not _ _ met.0.variable)
  variable-of mode (EAttributeOf m w e sp) met old = absurd (some-not _ _ met.0.variable)
  variable-of mode (EParen e sp) met old = absurd (some-not _ _ met.0.variable)
  variable-of mode (EUnary op e sp) met old = absurd (some-not _ _ met.0.variable)
  variable-of mode (EBinary op l r sp) met old = absurd (some-not _ _ met.0.variable)

  actual-copied : (mode : ParMode) (e : PExpr) → AllByRecursion IsMet (actual_sites s mode e) → OldExpr b e → IsCopied b mode e
  actual-copied Take e met old = only_taken e
  actual-copied Give e met old = let v = variable-of Give e met old in subst (IsCopied b Give) (sym v.2) (given_back v.0 v.1 v.3)
  actual-copied Both e met old = let v = variable-of Both e met old in subst (IsCopied b Both) (sym v.2) (both_ways v.0 v.1 v.3)

  actuals-copied : (xs : List Slot) (fs : List FormalPart) (es : List PExpr) → AreModes xs fs → length es ≡ length fs → AllByRecursion IsMet (actuals_sites s fs es) → OldExprs b es → AreCopied b xs es
  actuals-copied [] [] [] h e met old = none_copied
  actuals-copied [] [] (y ∷ es) h e met old = absurd (omega (arith, e))
  actuals-copied (x ∷ xs) (f ∷ fs) [] h e met old = absurd (omega (arith, e))
  actuals-copied (x ∷ xs) (f ∷ fs) (y ∷ es) h e met (old_expr _ _ o rest) =
      let l : length es ≡ length fs = omega (arith, e) in
      copied_then x xs y es
      (subst (λ m. IsCopied b m y) (sym h.0) (actual-copied f.mode y (all_front IsMet (actual_sites s f.mode y) (site s (must_be_of y f.kind) ∷ actuals_sites s fs es) met) o))
      (actuals-copied xs fs es h.1 l (all_back IsMet (actual_sites s f.mode y) (site s (must_be_of y f.kind) ∷ actuals_sites s fs es) met).1 rest)
  actuals-copied [] (f ∷ fs) es h e met old = absurd h
  actuals-copied (x ∷ xs) [] es h e met old = absurd h

  -- ---- lists

  -- the index and the actuals of a call
  record ListsKnown (is_one : Bool) (args : Option PArgs) (xs : List Slot) : Type 0 where
    index : Option PExpr
    actuals : List PExpr
    lists : HasLists is_one args index actuals
    copies : AreCopied b xs actuals

  no-copies : (xs : List Slot) (fs : List FormalPart) → AreModes xs fs → length fs ≡ 0 → AreCopied b xs []
  no-copies xs fs h e = subst (λ l. AreCopied b l []) (sym (no-slots xs fs h e)) none_copied

  plain-known : (xs : List Slot) (fs : List FormalPart) (name : NameId) (args : Option PArgs) → AreModes xs fs → fits_call single args (length fs) ≡ true →
      AllByRecursion IsMet (if_there (args_sites s (Some (record { name = name; family = single; formals = fs }))) args) → OldArgs b args → ListsKnown false args xs
  plain-known xs fs name None h fit met old = record { index = None; actuals = []; lists = no_lists; copies = no-copies xs fs h (eqb-true (length fs) 0 fit) }
  plain-known xs fs name (Some args) h fit met (old_args _ first second) =
      let n = and_parts (is_none args.second && not (length fs == 0)) (length args.first == length fs) fit in
      record {
        index = None;
        actuals = args.first;
        lists = plain_lists args;
        copies = actuals-copied xs fs args.first h (eqb-true (length args.first) (length fs) n.1) (all_front IsMet (actuals_sites s fs args.first) (if_there (flat_map (expr_sites s)) args.second) met) first;
      }

  -- behind a family's index
  second-known : (xs : List Slot) (fs : List FormalPart) (name : NameId) (range : Range) (e : PExpr) (second : Option (List PExpr)) → AreModes xs fs →
      fits_call (family range) (Some (record { first = e ∷ []; second = second })) (length fs) ≡ true →
      AllByRecursion IsMet (if_there (actuals_sites s fs) second) → OldList b second → AreCopied b xs (unwrap_or second [])
  second-known xs fs name range e None h fit met old = no-copies xs fs h (eqb-true (length fs) 0 fit)
  second-known xs fs name range e (Some es) h fit met (old_list _ old) =
      let n = and_parts (not (length fs == 0)) (length es == length fs) fit in
      actuals-copied xs fs es h (eqb-true (length es) (length fs) n.1) met old

  family-known : (xs : List Slot) (fs : List FormalPart) (name : NameId) (range : Range) (args : Option PArgs) → AreModes xs fs → fits_call (family range) args (length fs) ≡ true →
      AllByRecursion IsMet (if_there (args_sites s (Some (record { name = name; family = family range; formals = fs }))) args) → OldArgs b args → ListsKnown true args xs
  family-known xs fs name range None h fit met old = absurd (true≢false (sym fit))
  family-known xs fs name range (Some args) h fit met (old_args _ first second) = by_first args.first refl
    where
      one-index : (e : PExpr) (rest : List PExpr) → (length (e ∷ rest) == 1) ≡ true → rest ≡ []
      one-index e [] q = refl
      one-index e (y ∷ rest) q = let l : suc (suc (length rest)) ≡ 1 = eqb-true (length (e ∷ y ∷ rest)) 1 q in absurd (omega (arith, l))

      by_first : (es : List PExpr) → args.first ≡ es → ListsKnown true (Some args) xs
      by_first [] q = let l : 0 ≡ 1 = eqb-true 0 1 (ap (λ (l : List PExpr). length l == 1) (sym q) ∙ (and_parts (length args.first == 1) _ fit).0) in absurd (omega (arith, l))
      by_first (e ∷ rest) q =
          let none : rest ≡ [] = one-index e rest (ap (λ (l : List PExpr). length l == 1) (sym q) ∙ (and_parts (length args.first == 1) _ fit).0) in
          let same : args.first ≡ e ∷ [] = q ∙ ap (λ l. e ∷ l) none in
          record {
            index = Some e;
            actuals = unwrap_or args.second [];
            lists = subst (λ l. HasLists true (Some (record { first = l; second = args.second })) (Some e) (unwrap_or args.second [])) (sym same) (family_lists e args.second);
            copies = second-known xs fs name range e args.second h (ap (λ l. fits_call (family range) (Some (record { first = l; second = args.second })) (length fs)) (sym same) ∙ fit)
                (all_back IsMet (flat_map (expr_of s (Some range.kind)) args.first) (if_there (actuals_sites s fs) args.second) met) second;
          }

-- ---- calls

module _ (p : PProgram) (T : TypeTable) (Typed : Scope → Type 0) (typing : Typing T Typed) (made : Setting) (is_old is_fixed is_known : ℕ → Bool) (known : PartsKnown p T) where
  abbrev b : Programs
  b = record { original = g p T; made = made; is_old = is_old; is_fixed = is_fixed; is_known = is_known }

  -- what is known of a call at a place
  module _ (s : Scope) (c : PCall) (k : CalleeKnown p T s c.task) (old : OldCall b c) (met : AllByRecursion IsMet (call_sites s c)) where
    behind : AllByRecursion IsMet (site s (calls c) ∷ if_there (args_sites s (called_entry (meaning s c.task.name.name) c.entry.name)) c.args)
    behind = all_back IsMet (callee_sites s c.task) (site s (calls c) ∷ if_there (args_sites s (called_entry (meaning s c.task.name.name) c.entry.name)) c.args) met

    -- the entry of that name
    there : (o : Option EntryPart) → missing o c.entry ≡ [] → (e : EntryPart) × (o ≡ Some e)
    there (Some e) h = (e, refl)
    there None h = absurd (some-not _ _ h)

    declared : (o : Option PEntry) (around : Scope) (x : EntryPart) → option_map (entry_part around) o ≡ Some x → (e : PEntry) × (o ≡ Some e)
    declared (Some e) around x h = (e, refl)
    declared None around x h = absurd (none-some x h)

    the-entry : EntryKnown p T Typed typing k.stands.part.unit k.entries c.entry.name
    the-entry =
        let own = k.stands.own in
        let x = there (entry_named k.entries c.entry.name) (sym (k.unknown c.entry) ∙ behind.0.known) in
        let e = declared (entry_in k.stands.part.unit c.entry.name) own.around x.0 (sym (entry-said p T Typed typing own.around k.stands.part.unit k.entries c.entry.name own.entries) ∙ x.1) in
        entry-known p T Typed typing k.stands.part.unit k.entries c.entry.name e.0 own e.1

    -- that of each task that is meant
    entry-of : (t : ℕ) → IsOneOf p T s c.task k known t → HasEntry p T t c.entry.name the-entry.entry
    entry-of t one = entry-there p T t one.numbered_task c.entry.name the-entry.entry one.is (ap (λ u. entry_in u c.entry.name) one.unit ∙ the-entry.declared)

    called : HasEntry p T (unwrap_or (task_named (numbers p T) c.task.name.name) 0) c.entry.name the-entry.entry
    called = subst (λ n. HasEntry p T n c.entry.name the-entry.entry) (sym (ap (λ o. unwrap_or o 0) (callee-first p T s c.task k known).named)) (entry-of (callee-first p T s c.task k known).number (first-one p T s c.task k known))

    abbrev part : EntryPart
    part = entry_part the-entry.around the-entry.entry

    is-called : called_entry (meaning s c.task.name.name) c.entry.name ≡ Some part
    is-called = k.called c.entry.name ∙ the-entry.said

    fits : fits_call (entry_family the-entry.around the-entry.entry.family) c.args (length part.formals) ≡ true
    fits = not-false _ (no-place (not (fits_call (entry_family the-entry.around the-entry.entry.family) c.args (length part.formals))) c.entry.span (ap (λ o. wrong_call o c.args c.entry.span) (sym is-called) ∙ behind.0.counted))

    args-met : AllByRecursion IsMet (if_there (args_sites s (Some part)) c.args)
    args-met = subst (λ o. AllByRecursion IsMet (if_there (args_sites s o) c.args)) is-called behind.1

    abbrev slots : List Slot
    slots = slots_of the-entry.entry.formals

    modes : AreModes slots part.formals
    modes = modes-of the-entry.around the-entry.entry.formals

    lists : ListsKnown b s (is_some the-entry.entry.family) c.args slots
    lists = by_family the-entry.entry.family refl the-entry.ranged
      where
        by_family : (o : Option PDrange) → the-entry.entry.family ≡ o → FamilyRanged T the-entry.around o → ListsKnown b s (is_some o) c.args slots
        by_family None q ranged =
            plain-known b s slots part.formals part.name c.args modes (ap (λ o. fits_call (entry_family the-entry.around o) c.args (length part.formals)) (sym q) ∙ fits)
            (subst (λ o. AllByRecursion IsMet (if_there (args_sites s (Some (record { name = part.name; family = entry_family the-entry.around o; formals = part.formals }))) c.args)) q args-met) old.args
        by_family (Some r) q ranged =
            let is : entry_family the-entry.around the-entry.entry.family ≡ family ranged.range = ap (entry_family the-entry.around) q ∙ ap family_of ranged.known in
            family-known b s slots part.formals part.name ranged.range c.args modes (ap (λ f. fits_call f c.args (length part.formals)) (sym is) ∙ fits)
            (subst (λ f. AllByRecursion IsMet (if_there (args_sites s (Some (record { name = part.name; family = f; formals = part.formals }))) c.args)) is args-met) old.args

    one-of : (t : ℕ) → IsMeant b c.task t → IsOneOf p T s c.task k known t
    one-of t (is_named e f) = named-one p T s c.task k known t f
    one-of t (is_member e z f q) = member-one p T s c.task k known z t q

    pub call-asked : IsCallee b c.task → IsCall b c
    call-asked callee = record {
      callee = callee;
      index = lists.index;
      actuals = lists.actuals;
      lists = subst (λ f. HasLists f c.args lists.index lists.actuals) (sym called.is_family) lists.lists;
      copies = subst (λ fs. AreCopied b (slots_of fs) lists.actuals) (sym called.formals) lists.copies;
      entries = λ t m. let h = entry-of t (one-of t m) in record { family = h.is_family ∙ sym called.is_family; range = h.range ∙ sym called.range; formals = h.formals ∙ sym called.formals };
    }
