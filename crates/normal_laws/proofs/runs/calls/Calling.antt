-- Calls: both calls come to the same, once what they evaluate is in its variables.
use Rattle.std.proofs.Common.{◌≡◌, ℕ, suc, ◌+◌, ◌≤◌, ℤ, pos, Bool, true, false, if◌then◌else◌, List, [], ◌∷◌, ◌++◌, length, map, Option, Some, None, option_map, Result, Ok, Err, refl, sym, ap, subst, ◌∙◌, arith, length-append}
use Rattle.std.specs.Prelude.{unwrap_or, is_ok}
use Rattle.std.proofs.lemmas.List.{append_assoc, map-append, length-map}
use Rattle.ada_tree.specs.declared.naming.Span.{Span}
use Rattle.ada_tree.specs.declared.naming.Word.{Word}
use Rattle.ada_tree.specs.declared.statements.ParMode.{ParMode}
use Rattle.ada_tree.specs.declared.statements.ParMode.TheVariants.{Take, Give, Both}
use Rattle.ada_tree.specs.PlainExpr.{PExpr, PSubind}
use Rattle.ada_tree.specs.PlainStmt.{PArgs, PCall, PStmts}
use Rattle.syn_event.specs.Numbering.{Numbering, task_named, entry_at}
use Rattle.ada_value.specs.declared.values.Value.{Value}
use Rattle.ada_value.specs.declared.values.Raised.{Raised}
use Rattle.ada_value.specs.declared.values.Raised.TheVariants as raised
use Rattle.ada_value.specs.declared.values.Limits.{Limits}
use Rattle.ada_value.specs.Values.{and_then, lies_in, position_of}
use Rattle.ada_value.specs.Variables.{Variables}
use Rattle.ada_value.specs.Evaluating.{evaluated}
use Rattle.task_model.specs.Setting.{Setting, member_named, task_meant, callee_task, entry_of, is_family, family_limits, index_in, parameters_of, formals_of_info, entry_parameters, Lists, lists_in, lists_of}
use Rattle.task_model.specs.Frames.{Around, PFrame, control, in_front}
use Rattle.task_model.specs.Tasks.{Task}
use Rattle.task_model.specs.Calls.{Called, called, called_with, openings}
use Rattle.normal_model.specs.Names.{task_name_at}
use Rattle.normal_model.specs.Ranges.{subtype_of_range, array_range, family_range}
use Rattle.normal_model.specs.Making.{kept_before, kept_subtypes, kept_if, moving, variable}
use Rattle.normal_model.specs.Members.{callee_kept, chosen}
use Rattle.normal_model.specs.Calls.{Slot, entry_called, lists_called, slots_called, actuals_before, actuals_passed, actual_subtypes, indices_kept, index_number, actual_number, call_before, lists_passed, args_passed, call_to, call_subtypes}
use Rattle.task_laws.specs.translation.Translations.{Programs, Translation, types_after}
use Rattle.task_laws.specs.translation.OldNames.{OldExpr, OldOption, old_none, old_some}
use Rattle.task_laws.specs.translation.OldTexts.{OldExprs, old_no_expr, old_expr, OldList, old_no_list, old_list, OldArgs, old_args, OldCall}
use Rattle.task_laws.specs.translation.Images.{IsSomething}
use Rattle.task_laws.specs.translation.Controls.{task_in, Under}
use Rattle.task_laws.specs.translation.Scopes.{SeeAlike}
use Rattle.task_laws.specs.translation.Floors.{IsTranslation}
use Rattle.task_laws.proofs.translation.Frames.{sees-alike}
use Rattle.normal_laws.specs.runs.floors.Suited.{declared_limits, SameRange, AreMade, IsMeant, HasLists, no_lists, plain_lists, family_lists, AreCopied, none_copied, copied_then, IsCall, is_named, is_member}
use Rattle.normal_laws.specs.runs.floors.Preludes.{Added, AreThere, Hold, hold_value, due_before, due_worth, OldDues, old_no_due, old_passed, old_due}
use Rattle.normal_laws.specs.runs.floors.inner.Actuals.{due_of, actual_dues, opening_values, AreSlots}
use Rattle.normal_laws.specs.runs.floors.Declared.{HaveSubtypes, subtype_then, dues_of}
use Rattle.normal_laws.proofs.runs.floors.Declared.{subtypes-fit, subtypes-first, subtypes-second, kept-dues, kept-length}
use Rattle.normal_laws.proofs.runs.floors.Actuals.{kept-due, actuals-due, due-append, openings-are, held-value, held-openings}
use Rattle.normal_laws.proofs.runs.floors.Static.{moving-is, callee-stays, entry-same, entry-named, family-same}
use Rattle.normal_laws.specs.runs.callees.inner.Callees.{the_chosen, chosen_with, MeetsCallee, meets_task, meets_raise}
use Rattle.normal_laws.specs.runs.calls.inner.Calls.{IsEntryCalled, MeetsCall, meets_call, meets_none}
use Rattle.normal_laws.proofs.runs.callees.Choosing.{one-due, then-then, callee-comes}
use Rattle.normal_laws.proofs.runs.calls.Formals.{formals-slots, marks-same}

-- ---- the lists of a call

pub lists-are : {f : Bool} {args : Option PArgs} {index : Option PExpr} {actuals : List PExpr} → HasLists f args index actuals → (numbers : Numbering) (e : ℕ) → is_family numbers e ≡ f →
    lists_of numbers e args ≡ record { index = index; actuals = actuals }
lists-are no_lists numbers e h = refl
lists-are (plain_lists args) numbers e h = ap (λ t. lists_in t args) h
lists-are (family_lists d second) numbers e h = ap (λ t. lists_in t (record { first = d ∷ []; second = second })) h

-- the index as it is passed
abbrev pub index_passed : Setting → Span → ℕ → Option PExpr → Option PExpr
index_passed g s k None = None
index_passed g s k (Some e) = Some (variable g s k)

pub passed-none : (g : Setting) (s : Span) (xs : List Slot) (k : ℕ) → actuals_passed g s xs [] k ≡ []
passed-none g s [] k = refl
passed-none g s (x ∷ xs) k = refl

pub passed-second : (g : Setting) (s : Span) (xs : List Slot) (k : ℕ) (second : Option (List PExpr)) →
    unwrap_or (option_map (λ es. actuals_passed g s xs es k) second) [] ≡ actuals_passed g s xs (unwrap_or second []) k
passed-second g s xs k None = sym (passed-none g s xs k)
passed-second g s xs k (Some es) = refl

pub lists-passed : (g : Setting) (s : Span) (c : PCall) (n : ℕ) {f : Bool} {args : Option PArgs} {index : Option PExpr} {actuals : List PExpr} → HasLists f args index actuals →
    is_family g.numbers (entry_called g c) ≡ f → (numbers : Numbering) (e : ℕ) → is_family numbers e ≡ f →
    lists_of numbers e (args_passed g s c n args) ≡ record { index = index_passed g s (index_number g s c n) index; actuals = actuals_passed g s (slots_called g c) actuals (actual_number g s c n) }
lists-passed g s c n no_lists k numbers e h = ap (λ l. record { index = None; actuals = l }) (sym (passed-none g s (slots_called g c) (actual_number g s c n)))
lists-passed g s c n (plain_lists args) k numbers e h =
    ap (λ t. lists_in t (lists_passed (is_family g.numbers (entry_called g c)) g s c n args)) h ∙ ap (λ t. lists_in false (lists_passed t g s c n args)) k
lists-passed g s c n (family_lists d second) k numbers e h =
    ap (λ t. lists_in t (lists_passed (is_family g.numbers (entry_called g c)) g s c n (record { first = d ∷ []; second = second }))) h
    ∙ ap (λ t. lists_in true (lists_passed t g s c n (record { first = d ∷ []; second = second }))) k
    ∙ ap (λ l. record { index = Some (variable g s (index_number g s c n)); actuals = l }) (passed-second g s (slots_called g c) (actual_number g s c n) second)

-- only a family has an index
family-has : {f : Bool} {args : Option PArgs} {index : Option PExpr} {actuals : List PExpr} → HasLists f args index actuals → (e : PExpr) → index ≡ Some e → f ≡ true
family-has no_lists e h = cc
family-has (plain_lists args) e h = cc
family-has (family_lists d second) e h = refl

-- the lists have old names
pub lists-old : (b : Programs) {f : Bool} {args : Option PArgs} {index : Option PExpr} {actuals : List PExpr} → HasLists f args index actuals → OldArgs b args → OldOption b index × OldExprs b actuals
lists-old b no_lists h = (old_none, old_no_expr)
lists-old b (plain_lists args) (old_args a first second) = (old_none, first)
lists-old b (family_lists d second) (old_args a (old_expr e rest old k) more) = (old_some d old, row more)
  where
    row : {o : Option (List PExpr)} → OldList b o → OldExprs b (unwrap_or o [])
    row old_no_list = old_no_expr
    row (old_list es h) = h

-- actuals of old names are due so
pub due-old : (b : Programs) (m : ParMode) (e : PExpr) (ds : List (Option PExpr)) → OldExpr b e → OldDues b ds → OldDues b (due_of m e ∷ ds)
due-old b Take e ds old h = old_due e ds old h
due-old b Give e ds old h = old_passed ds h
due-old b Both e ds old h = old_due e ds old h

pub dues-old : (b : Programs) (xs : List Slot) {es : List PExpr} → OldExprs b es → OldDues b (actual_dues xs es)
dues-old b [] h = old_no_due
dues-old b (x ∷ xs) old_no_expr = old_no_due
dues-old b (x ∷ xs) (old_expr e es old h) = due-old b x.mode e (actual_dues xs es) old (dues-old b xs h)

pub option-old : (b : Programs) {o : Option PExpr} → OldOption b o → {ds : List (Option PExpr)} → OldDues b ds → OldDues b (dues_of o ++ ds)
option-old b old_none h = h
option-old b (old_some e old) {ds} h = old_due e ds old h

dues-length : (b : Programs) {xs : List Slot} {es : List PExpr} → AreCopied b xs es → length (actual_dues xs es) ≡ length (actual_subtypes xs es)
dues-length b none_copied = refl
dues-length b (copied_then x xs e es h more) = ap suc (dues-length b more)

module _ (x : Translation) (laws : IsTranslation x) (made : AreMade x.text.programs) (added : Added x.text.programs x.text.programs.original) (s : Span) (c : PCall) (asked : IsCall x.text.programs c)
    (old : OldCall x.text.programs c) (n : ℕ) (subtypes : HaveSubtypes x.text.programs added (call_subtypes x.text.programs.original s c) n) where
  abbrev b : Programs
  b = x.text.programs

  abbrev g : Setting
  g = x.text.programs.original

  abbrev h : Setting
  h = x.text.programs.made

  abbrev mv : Option PExpr
  mv = moving g.types c.task.index

  abbrev ads : List (Option PExpr)
  ads = actual_dues (slots_called g c) asked.actuals

  abbrev index_subtype : PSubind
  index_subtype = subtype_of_range g.types s (family_range g (entry_called g c))

  lists-here : lists_called g c ≡ record { index = asked.index; actuals = asked.actuals }
  lists-here = lists-are asked.lists g.numbers (entry_called g c) refl

  kept-here : indices_kept g s c ≡ callee_kept g s c.task ++ kept_if index_subtype asked.index
  kept-here = ap (λ l. callee_kept g s c.task ++ kept_if index_subtype l.index) lists-here

  number-index : index_number g s c n ≡ n + length (dues_of mv)
  number-index = ap (λ l. n + l) (kept-length (subtype_of_range g.types s (array_range g.program c.task.name.name)) mv)

  number-actual : actual_number g s c n ≡ index_number g s c n + length (dues_of asked.index)
  number-actual =
      let a : length (indices_kept g s c) ≡ length (callee_kept g s c.task ++ kept_if index_subtype asked.index) = ap length kept-here in
      let d : length (callee_kept g s c.task ++ kept_if index_subtype asked.index) ≡ length (callee_kept g s c.task) + length (kept_if index_subtype asked.index) = length-append (callee_kept g s c.task) (kept_if index_subtype asked.index) in
      let e : length (kept_if index_subtype asked.index) ≡ length (dues_of asked.index) = kept-length index_subtype asked.index in
      omega arith

  -- ---- the subtypes of the variables

  abbrev callee_subtype : PSubind
  callee_subtype = subtype_of_range g.types s (array_range g.program c.task.name.name)

  abbrev first_subtypes : List PSubind
  first_subtypes = kept_subtypes (callee_kept g s c.task)

  abbrev index_subtypes : List PSubind
  index_subtypes = kept_subtypes (kept_if index_subtype asked.index)

  abbrev last_subtypes : List PSubind
  last_subtypes = actual_subtypes (slots_called g c) asked.actuals

  subtypes-here : call_subtypes g s c ≡ first_subtypes ++ (index_subtypes ++ last_subtypes)
  subtypes-here =
      ap (λ l. kept_subtypes (callee_kept g s c.task ++ kept_if index_subtype l.index) ++ actual_subtypes (slots_called g c) l.actuals) lists-here
      ∙ ap (λ l. l ++ last_subtypes) (map-append (λ k. k.subtype) (callee_kept g s c.task) (kept_if index_subtype asked.index))
      ∙ append_assoc first_subtypes index_subtypes last_subtypes

  all-subtypes : HaveSubtypes b added (first_subtypes ++ (index_subtypes ++ last_subtypes)) n
  all-subtypes = subst (λ l. HaveSubtypes b added l n) subtypes-here subtypes

  behind-callee : HaveSubtypes b added (index_subtypes ++ last_subtypes) (index_number g s c n)
  behind-callee =
      let e : length first_subtypes ≡ length (callee_kept g s c.task) = length-map (callee_kept g s c.task) (λ k. k.subtype) in
      subst (λ k. HaveSubtypes b added (index_subtypes ++ last_subtypes) (n + k)) e (subtypes-second b added first_subtypes (index_subtypes ++ last_subtypes) n all-subtypes)

  actual-there : HaveSubtypes b added last_subtypes (actual_number g s c n)
  actual-there =
      let e : length index_subtypes ≡ length (kept_if index_subtype asked.index) = length-map (kept_if index_subtype asked.index) (λ k. k.subtype) in
      let f : length (kept_if index_subtype asked.index) ≡ length (dues_of asked.index) = kept-length index_subtype asked.index in
      subst (λ k. HaveSubtypes b added last_subtypes k) (ap (λ k. index_number g s c n + k) (e ∙ f) ∙ sym number-actual)
      (subtypes-second b added index_subtypes last_subtypes (index_number g s c n) behind-callee)

  one-subtype : (y : PSubind) (q : Option PExpr) (k : ℕ) → HaveSubtypes b added (kept_subtypes (kept_if y q)) k → (e : PExpr) → q ≡ Some e → added.bounds k ≡ declared_limits (types_after b) y
  one-subtype y None k t e f = cc
  one-subtype y (Some d) k (subtype_then y1 ys k1 l eq more) e f = eq

  callee-bound : (e : PExpr) → mv ≡ Some e → (z : ℤ) → lies_in (added.bounds n) z ≡ is_ok (member_named g.numbers c.task.name.name z)
  callee-bound e f z =
      ap (λ l. lies_in l z) (one-subtype callee_subtype mv n (subtypes-first b added first_subtypes (index_subtypes ++ last_subtypes) n all-subtypes) e f) ∙ asked.callee.range e f s z

  index-bound : (d : PExpr) → asked.index ≡ Some d → added.bounds (index_number g s c n) ≡ declared_limits (types_after b) index_subtype
  index-bound d f = one-subtype index_subtype asked.index (index_number g s c n) (subtypes-first b added index_subtypes last_subtypes (index_number g s c n) behind-callee) d f

  dues-fit : n + length (dues_of mv ++ (dues_of asked.index ++ ads)) ≤ added.count
  dues-fit =
      let m : n + length (first_subtypes ++ (index_subtypes ++ last_subtypes)) ≤ added.count = subtypes-fit b added all-subtypes in
      let a1 : length (first_subtypes ++ (index_subtypes ++ last_subtypes)) ≡ length first_subtypes + length (index_subtypes ++ last_subtypes) = length-append first_subtypes (index_subtypes ++ last_subtypes) in
      let a2 : length (index_subtypes ++ last_subtypes) ≡ length index_subtypes + length last_subtypes = length-append index_subtypes last_subtypes in
      let a3 : length first_subtypes ≡ length (callee_kept g s c.task) = length-map (callee_kept g s c.task) (λ k. k.subtype) in
      let a4 : length (callee_kept g s c.task) ≡ length (dues_of mv) = kept-length callee_subtype mv in
      let a5 : length index_subtypes ≡ length (kept_if index_subtype asked.index) = length-map (kept_if index_subtype asked.index) (λ k. k.subtype) in
      let a6 : length (kept_if index_subtype asked.index) ≡ length (dues_of asked.index) = kept-length index_subtype asked.index in
      let a7 : length ads ≡ length last_subtypes = dues-length b asked.copies in
      let a8 : length (dues_of mv ++ (dues_of asked.index ++ ads)) ≡ length (dues_of mv) + length (dues_of asked.index ++ ads) = length-append (dues_of mv) (dues_of asked.index ++ ads) in
      let a9 : length (dues_of asked.index ++ ads) ≡ length (dues_of asked.index) + length ads = length-append (dues_of asked.index) ads in
      omega arith

  -- ---- what stands in front

  before-is : call_before g s c n ≡ due_before g s (dues_of mv ++ (dues_of asked.index ++ ads)) n
  before-is =
      ap (λ l. in_front (kept_before g s (indices_kept g s c) n) (actuals_before g s (slots_called g c) l.actuals (actual_number g s c n))) lists-here
      ∙ ap (λ r. in_front r (actuals_before g s (slots_called g c) asked.actuals (actual_number g s c n))) (kept-due g s (indices_kept g s c) n)
      ∙ ap (λ r. in_front (due_before g s (map (λ k. Some k.value) (indices_kept g s c)) n) r) (actuals-due g s (slots_called g c) asked.actuals (actual_number g s c n))
      ∙ ap (λ k. in_front (due_before g s (map (λ k. Some k.value) (indices_kept g s c)) n) (due_before g s ads (n + k))) (sym (length-map (indices_kept g s c) (λ k. Some k.value)))
      ∙ due-append g s (map (λ k. Some k.value) (indices_kept g s c)) ads n
      ∙ ap (λ l. due_before g s (l ++ ads) n)
      (ap (λ l. map (λ k. Some k.value) l) kept-here
      ∙ map-append (λ k. Some k.value) (callee_kept g s c.task) (kept_if index_subtype asked.index)
      ∙ ap (λ l. l ++ map (λ k. Some k.value) (kept_if index_subtype asked.index)) (kept-dues callee_subtype mv)
      ∙ ap (λ l. dues_of mv ++ l) (kept-dues index_subtype asked.index))
      ∙ ap (λ l. due_before g s l n) (append_assoc (dues_of mv) (dues_of asked.index) ads)

  -- ---- the entry that is called

  parameters-same : (e : ℕ) → entry_parameters g e ≡ entry_parameters h e
  parameters-same e =
      marks-same b made.types (made.marks e) ∙ ap (λ fs. parameters_of h.types fs) (made.formals e ∙ ap (λ q. formals_of_info h q) (sym (entry-same b made e)))

  entry-facts : (t : ℕ) → IsMeant b c.task t → IsEntryCalled b added s c n asked (entry_of g.numbers t c.entry.name)
  entry-facts t meant =
      let twins = asked.entries t meant in
      record {
        formals = parameters-same (entry_of g.numbers t c.entry.name);
        lists = lists-are asked.lists g.numbers (entry_of g.numbers t c.entry.name) twins.family;
        actuals = ap (λ l. l.actuals) (lists-passed g s c n asked.lists refl h.numbers (entry_of g.numbers t c.entry.name) (family-same b made (entry_of g.numbers t c.entry.name) ∙ twins.family));
        slots = subst (λ fs. AreSlots added.bounds (parameters_of g.types fs) (slots_called g c) (actual_number g s c n)) (sym twins.formals)
            (formals-slots b added (made.marks (entry_called g c)) asked.copies actual-there);
        range = λ d f z. made.families (entry_of g.numbers t c.entry.name) (twins.family ∙ family-has asked.lists d f) s z
            ∙ ap (λ q. lies_in (declared_limits (types_after b) (subtype_of_range g.types s q)) z) twins.range ∙ ap (λ l. lies_in l z) (sym (index-bound d f));
      }

  -- ---- what the call comes to, by what went to the variables

  abbrev lists_with : Option PExpr → List PExpr → Lists
  lists_with index actuals = record { index = index; actuals = actuals }

  abbrev call_at : ℕ → Option PExpr → List (Option Value) → Called
  call_at e None ws = record { entry = e; index = pos 0; values = opening_values g.types (entry_parameters g e) ws }
  call_at e (Some d) [] = record { entry = e; index = pos 0; values = [] }
  call_at e (Some d) (None ∷ ws) = record { entry = e; index = pos 0; values = [] }
  call_at e (Some d) (Some v ∷ ws) = record { entry = e; index = position_of v; values = opening_values g.types (entry_parameters g e) ws }

  entry-at : (e : ℕ) (q : Option PExpr) (ws : List (Option Value)) → (call_at e q ws).entry ≡ e
  entry-at e None ws = refl
  entry-at e (Some d) [] = refl
  entry-at e (Some d) (None ∷ ws) = refl
  entry-at e (Some d) (Some v ∷ ws) = refl

  abbrev opened_with : ℕ → ℤ → Result (List Value) Raised → Result Called Raised
  opened_with e z r = and_then r (λ vs. Ok (record { entry = e; index = z; values = vs }))

  opened-are : (e : ℕ) (z : ℤ) (V : Variables) (k : ℕ) → AreSlots added.bounds (entry_parameters g e) (slots_called g c) k →
      opened_with e z (openings g.types V (entry_parameters g e) asked.actuals)
      ≡ and_then (due_worth g.types V added.bounds ads k) (λ ws. Ok (record { entry = e; index = z; values = opening_values g.types (entry_parameters g e) ws }))
  opened-are e z V k slots =
      ap (opened_with e z) (openings-are g.types V added.bounds slots asked.actuals)
      ∙ then-then (due_worth g.types V added.bounds ads k) (λ ws. Ok (opening_values g.types (entry_parameters g e) ws)) (λ vs. Ok (record { entry = e; index = z; values = vs }))

  in-range : (l m : Limits) (v : Value) → SameRange l m → (t : Bool) → lies_in m (position_of v) ≡ t → index_in l (position_of v) ≡ (if t then Ok (position_of v) else Err raised.Constraint)
  in-range l m v same t e = ap (λ q. if q then Ok (position_of v) else Err raised.Constraint) (same (position_of v) ∙ e)

  -- the call of the original
  with-index : (e : ℕ) (V : Variables) (q : Option PExpr) (k : ℕ) → AreSlots added.bounds (entry_parameters g e) (slots_called g c) (k + length (dues_of q)) →
      ((d : PExpr) → q ≡ Some d → SameRange (family_limits (entry_at g.numbers e)) (added.bounds k)) →
      called_with g V e (lists_with q asked.actuals) ≡ and_then (due_worth g.types V added.bounds (dues_of q ++ ads) k) (λ ws. Ok (call_at e q ws))
  with-index e V None k slots range =
      let f : k + 0 ≡ k = omega arith in
      opened-are e (pos 0) V k (subst (λ m. AreSlots added.bounds (entry_parameters g e) (slots_called g c) m) f slots)
  with-index e V (Some d) k slots range =
      then-then (evaluated g.types V d) (λ v. index_in (family_limits (entry_at g.numbers e)) (position_of v)) (λ z. opened_with e z (openings g.types V (entry_parameters g e) asked.actuals))
      ∙ one-due (added.bounds k) (evaluated g.types V d) (λ v. and_then (index_in (family_limits (entry_at g.numbers e)) (position_of v)) (λ z. opened_with e z (openings g.types V (entry_parameters g e) asked.actuals)))
      (due_worth g.types V added.bounds ads (k + 1)) (call_at e (Some d))
      (λ v lies. ap (λ r. and_then r (λ z. opened_with e z (openings g.types V (entry_parameters g e) asked.actuals))) (in-range (family_limits (entry_at g.numbers e)) (added.bounds k) v (range d refl) true lies)
      ∙ opened-are e (position_of v) V (k + 1) slots)
      (λ v lies. ap (λ r. and_then r (λ z. opened_with e z (openings g.types V (entry_parameters g e) asked.actuals))) (in-range (family_limits (entry_at g.numbers e)) (added.bounds k) v (range d refl) false lies))

  -- the call of the normal form
  opened-held : (e : ℕ) (z : ℤ) (W : Variables) (k : ℕ) (ws : List (Option Value)) → AreSlots added.bounds (entry_parameters g e) (slots_called g c) k → Hold added W k ads ws →
      opened_with e z (openings h.types W (entry_parameters h e) (actuals_passed g s (slots_called g c) asked.actuals k))
      ≡ Ok (record { entry = e; index = z; values = opening_values g.types (entry_parameters g e) ws })
  opened-held e z W k ws slots hold =
      ap (λ fs. opened_with e z (openings h.types W fs (actuals_passed g s (slots_called g c) asked.actuals k))) (sym (parameters-same e))
      ∙ ap (opened_with e z) (held-openings b made.types g added slots asked.actuals s W ws hold)

  with-held : (e : ℕ) (W : Variables) (q : Option PExpr) (k m : ℕ) → m ≡ k + length (dues_of q) → AreSlots added.bounds (entry_parameters g e) (slots_called g c) m →
      ((d : PExpr) → q ≡ Some d → SameRange (family_limits (entry_at g.numbers e)) (added.bounds k)) → (ws : List (Option Value)) → Hold added W k (dues_of q ++ ads) ws →
      called_with h W e (lists_with (index_passed g s k q) (actuals_passed g s (slots_called g c) asked.actuals m)) ≡ Ok (call_at e q ws)
  with-held e W None k m f slots range ws hold =
      let f1 : k ≡ m = omega (arith, f) in
      opened-held e (pos 0) W m ws slots (subst (λ j. Hold added W j ads ws) f1 hold)
  with-held e W (Some d) k m f slots range ws (hold_value k1 e1 v ds vs cell lies hold) =
      ap (λ r. and_then (and_then r (λ a. index_in (family_limits (entry_at h.numbers e)) (position_of a))) (λ z. opened_with e z (openings h.types W (entry_parameters h e) (actuals_passed g s (slots_called g c) asked.actuals m))))
      (held-value b made.types g added s k W v cell)
      ∙ ap (λ q1. and_then (index_in (family_limits q1) (position_of v)) (λ z. opened_with e z (openings h.types W (entry_parameters h e) (actuals_passed g s (slots_called g c) asked.actuals m)))) (entry-same b made e)
      ∙ ap (λ r. and_then r (λ z. opened_with e z (openings h.types W (entry_parameters h e) (actuals_passed g s (slots_called g c) asked.actuals m))))
      (in-range (family_limits (entry_at g.numbers e)) (added.bounds k) v (range d refl) true lies)
      ∙ opened-held e (position_of v) W m vs slots (subst (λ j. Hold added W j ads vs) (sym f) hold)

  -- ---- the whole call

  -- a task to which the callee comes is one that it can come to
  meant-there : {V W : Variables} → SeeAlike b V W → (t : ℕ) → callee_task g V c.task ≡ Ok t → IsMeant b c.task t
  meant-there {V} see t e = go mv refl
    where
      at-index : (d : PExpr) → mv ≡ Some d → (r : Result Value Raised) → and_then r (λ v. member_named g.numbers c.task.name.name (position_of v)) ≡ Ok t → IsMeant b c.task t
      at-index d f (Ok v) k = is_member d (position_of v) f k
      at-index d f (Err a) k = absurd (let none : ⊥ = cc in none)

      go : (q : Option PExpr) → mv ≡ q → IsMeant b c.task t
      go None f = is_named f (sym (callee-stays b made see c.task old.member f) ∙ e)
      go (Some d) f = at-index d f (evaluated g.types V d) (sym (ap (λ q. task_meant g V c.task.name.name q) (moving-is b made c.task.index d f)) ∙ e)

  -- the call of the original, where the callee has come to a task
  called-by_task : {V W : Variables} → SeeAlike b V W → (t : ℕ) → callee_task g V c.task ≡ Ok t →
      called g V c ≡ and_then (due_worth g.types V added.bounds (dues_of asked.index ++ ads) (index_number g s c n)) (λ ws. Ok (call_at (entry_of g.numbers t c.entry.name) asked.index ws))
  called-by_task {V} see t e =
      let facts = entry-facts t (meant-there see t e) in
      ap (λ r. and_then r (λ owner. called_with g V (entry_of g.numbers owner c.entry.name) (lists_of g.numbers (entry_of g.numbers owner c.entry.name) c.args))) e
      ∙ ap (called_with g V (entry_of g.numbers t c.entry.name)) facts.lists
      ∙ with-index (entry_of g.numbers t c.entry.name) V asked.index (index_number g s c n)
      (subst (λ k. AreSlots added.bounds (entry_parameters g (entry_of g.numbers t c.entry.name)) (slots_called g c) k) number-actual facts.slots) facts.range

  called-raised : {V W : Variables} → SeeAlike b V W → (a : Raised) → chosen_with the_chosen (callee_task g V c.task) (due_worth g.types V added.bounds (dues_of asked.index ++ ads) (index_number g s c n)) ≡ Err a →
      called g V c ≡ Err a
  called-raised {V} see a e = go (callee_task g V c.task) refl e
    where
      values-raise : {X Y : Type 0} (r : Result X Raised) (f : X → Y) → and_then r (λ ws. Ok (f ws)) ≡ Err a → r ≡ Err a
      values-raise (Ok u) f k = cc
      values-raise (Err u) f k = cc

      go : (r : Result ℕ Raised) → callee_task g V c.task ≡ r → chosen_with the_chosen r (due_worth g.types V added.bounds (dues_of asked.index ++ ads) (index_number g s c n)) ≡ Err a → called g V c ≡ Err a
      go (Err d) f k = ap (λ r. and_then r (λ owner. called_with g V (entry_of g.numbers owner c.entry.name) (lists_of g.numbers (entry_of g.numbers owner c.entry.name) c.args))) (f ∙ ap (λ z. Err z) (err-is d k))
        where
          err-is : (d : Raised) → chosen_with the_chosen (Err d) (due_worth g.types V added.bounds (dues_of asked.index ++ ads) (index_number g s c n)) ≡ Err a → d ≡ a
          err-is d k = cc
      go (Ok t) f k =
          called-by_task see t f
          ∙ ap (λ r. and_then r (λ ws. Ok (call_at (entry_of g.numbers t c.entry.name) asked.index ws))) (values-raise _ (λ ws. the_chosen t ws) k)

  -- the call of the normal form, of the name of that task
  called-held : (t : ℕ) → IsMeant b c.task t → (w : Word) → w.name ≡ task_name_at g t → (W : Variables) (ws : List (Option Value)) → Hold added W (index_number g s c n) (dues_of asked.index ++ ads) ws →
      called h W (call_to g s c n w) ≡ Ok (call_at (entry_of g.numbers t c.entry.name) asked.index ws)
  called-held t meant w name W ws hold =
      let facts = entry-facts t meant in
      let e : ℕ = entry_of g.numbers t c.entry.name in
      ap (λ k. called_with h W (entry_of h.numbers k c.entry.name) (lists_of h.numbers (entry_of h.numbers k c.entry.name) (args_passed g s c n c.args)))
      (ap (λ q. unwrap_or (task_named h.numbers q) 0) name ∙ ap (λ q. unwrap_or q 0) (asked.callee.named t meant))
      ∙ ap (λ k. called_with h W k (lists_of h.numbers k (args_passed g s c n c.args))) (entry-named b made t c.entry.name)
      ∙ ap (called_with h W e) (lists-passed g s c n asked.lists refl h.numbers e (family-same b made e ∙ (asked.entries t meant).family))
      ∙ with-held e W asked.index (index_number g s c n) (actual_number g s c n) number-actual facts.slots facts.range ws hold

  pub call-comes : (m : ℕ) (i : List ℤ) (out : List ℕ) (p p' : Around) (o o' : List PFrame) (V W : Variables) (what : Word → PStmts) → ((w : Word) → IsSomething (what w)) → (behind : PStmts) → Under x p o V p' o' W → AreThere added W →
      MeetsCall x added m i out p o V p' o' (task_in h m i out (control (in_front (call_before g s c n) (in_front (chosen g s c.task n what) behind)) p' o' W)) s c n asked what behind
  call-comes m i out p p' o o' V W what rows behind u there =
      subst (λ r. MeetsCall x added m i out p o V p' o' (task_in h m i out (control (in_front r (in_front (chosen g s c.task n what) behind)) p' o' W)) s c n asked what behind) (sym before-is)
      (go (subst (λ k. MeetsCallee x added m i out p o V p' o' from c.task what behind k (dues_of asked.index ++ ads)) (sym number-index)
      (callee-comes x laws made added m i out p p' o o' s c.task what rows behind asked.callee old.member mv refl n callee-bound (dues_of asked.index ++ ads)
      (option-old b (lists-old b asked.lists old.args).0 (dues-old b (slots_called g c) (lists-old b asked.lists old.args).1)) dues-fit V W u there)))
    where
      from : Task
      from = task_in h m i out (control (in_front (due_before g s (dues_of mv ++ (dues_of asked.index ++ ads)) n) (in_front (chosen g s c.task n what) behind)) p' o' W)

      go : MeetsCallee x added m i out p o V p' o' from c.task what behind (index_number g s c n) (dues_of asked.index ++ ads) → MeetsCall x added m i out p o V p' o' from s c n asked what behind
      go (meets_task t w ws W1 of_task meant name due hold u1 still reach) =
          meets_call (call_at (entry_of g.numbers t c.entry.name) asked.index ws) w W1
          (called-by_task (sees-alike x laws u) t of_task ∙ ap (λ r. and_then r (λ us. Ok (call_at (entry_of g.numbers t c.entry.name) asked.index us))) due)
          (called-held t meant w name W1 ws hold)
          (subst (IsEntryCalled b added s c n asked) (sym (entry-at (entry_of g.numbers t c.entry.name) asked.index ws)) (entry-facts t meant)) u1 still reach
      go (meets_raise a r W1 e u1 reach steps stop) = meets_none a r W1 (called-raised (sees-alike x laws u) a e) u1 reach steps stop
