-- Calls of a normal form: both go through what stands in front of one, through the call and through what stands behind it alike.
use Rattle.std.proofs.Common.{◌≡◌, ℕ, suc, ◌+◌, ◌≤◌, ◌<◌, ℤ, List, [], ◌∷◌, ◌++◌, length, map, Option, Some, None, unwrap_or, Ok, refl, sym, ap, subst, ◌∙◌, arith}
use Rattle.std.specs.Prelude.{is_ok}
use Rattle.std.proofs.lemmas.List.{append_assoc, length-append, length-map, map-append}
use Rattle.ada_tree.specs.declared.naming.NameId.{NameId}
use Rattle.ada_tree.specs.declared.naming.Span.{Span}
use Rattle.ada_tree.specs.declared.naming.Word.{Word}
use Rattle.ada_tree.specs.declared.statements.ParMode.{ParMode}
use Rattle.ada_tree.specs.declared.statements.ParMode.TheVariants.{Take, Give, Both}
use Rattle.ada_tree.specs.PlainExpr.{PExpr, PSubind}
use Rattle.ada_tree.specs.PlainStmt.{PCall, SAssign, SCall}
use Rattle.ada_static_rules.specs.ExprTypes.{expr_place}
use Rattle.syn_event.specs.Numbering.{task_named, entry_at}
use Rattle.ada_value.specs.declared.values.Value.{Value}
use Rattle.ada_value.specs.Values.{and_then, lies_in, position_of}
use Rattle.ada_value.specs.Variables.{Variables, set_value}
use Rattle.ada_value.specs.Evaluating.{name_value, evaluated}
use Rattle.task_model.specs.Setting.{Setting, entry_of, is_family, family_limits, index_in, member_index, member_named, parameters_of, entry_parameters, formals_of_info, Lists, lists_of}
use Rattle.task_model.specs.Frames.{in_front}
use Rattle.task_model.specs.Steps as steps
use Rattle.task_model.specs.Calls.{Called, called, called_with, openings, Copies, copied_back, variable_of}
use Rattle.normal_model.specs.Names.{variable_name}
use Rattle.normal_model.specs.Ranges.{word_at, subtype_of_range, array_range, family_range}
use Rattle.normal_model.specs.Making.{one, variable, kept_before, kept_subtypes, kept_if, moving}
use Rattle.normal_model.specs.Members.{callee_kept, chosen}
use Rattle.normal_model.specs.Calls.{Slot, entry_called, slots_called, lists_called, indices_kept, index_number, actual_number, actuals_before, actuals_passed, actual_subtypes, actual_behind, copied_to, actuals_behind, args_passed, call_to, call_before, call_behind, call_subtypes, plain_image}
use Rattle.task_laws.specs.translation.Translations.{Programs, IsOld}
use Rattle.task_laws.specs.translation.OldNames.{OldExpr, OldOption, old_some}
use Rattle.task_laws.specs.translation.OldTexts.{OldCall}
use Rattle.normal_laws.specs.runs.floors.Suited.{declared_limits, AreMade, IsCopied, only_taken, given_back, both_ways, AreCopied, none_copied, copied_then, IsCall}
use Rattle.normal_laws.specs.runs.floors.Preludes.{due_before, OldDues}
use Rattle.normal_laws.specs.runs.floors.inner.Actuals.{actual_dues}
use Rattle.normal_laws.specs.runs.floors.Declared.{HaveSubtypes, subtype_then, dues_of}
use Rattle.normal_laws.proofs.runs.floors.Declared.{subtypes-fit, kept-dues, kept-length}
use Rattle.normal_laws.proofs.runs.floors.Actuals.{kept-due, actuals-due, due-append}
use Rattle.normal_laws.proofs.runs.floors.Static.{moving-is, entry-same, entry-named, family-same}
use Rattle.normal_laws.proofs.runs.calls.Calling.{lists-are, index_passed, dues-old, lists-old, option-old, lists-passed}
use Rattle.task_laws.proofs.invariants.Variables.{chain, ok_path}
use Rattle.collect_runs.specs.aborts.telling.Forms.{backs}
use Rattle.collect_runs.specs.aborts.likeness.Likeness.{Ground, Goal, form, with_these, Near, Always, Skipped, copies_in, PassesCall, Passes}
use Rattle.collect_runs.proofs.aborts.likeness.Near.{Agree, agree-stays}
use Rattle.collect_runs.proofs.aborts.likeness.Frames.{joined}
use Rattle.collect_runs.proofs.aborts.likeness.Values.{worth, meet-then, meet-set, assigns-same, always-skips}
use Rattle.collect_runs.proofs.aborts.likeness.Near.{set-old}
use Rattle.collect_runs.proofs.aborts.likeness.Preludes.{agree-stable, both-stable, assigns, AgreeDues, dues-skip, dues-pass}
use Rattle.collect_runs.proofs.aborts.likeness.Callees.{InRange, in-range, range-stable, Meant, ChosenReady, chosen-skip, chosen-pass}
use Rattle.collect_runs.proofs.aborts.likeness.Copying.{SameModes, formals-modes, openings-same, backs-near, lost-near, BackAgree, AgreeBack, backs-agree}

-- ---- lists

copied-length : (b : Programs) {xs : List Slot} {es : List PExpr} → AreCopied b xs es → length (actual_subtypes xs es) ≡ length es
copied-length b none_copied = refl
copied-length b (copied_then x xs e es h more) = ap suc (copied-length b more)

module _ (x : Ground) (made : AreMade x.programs) (s : Span) (c : PCall) (asked : IsCall x.programs c) (old : OldCall x.programs c) (n : ℕ) where
  abbrev b : Programs
  b = x.programs

  abbrev g : Setting
  g = x.programs.original

  abbrev h : Setting
  h = form x

  abbrev mv : Option PExpr
  mv = moving g.types c.task.index

  abbrev pub slots : List Slot
  slots = slots_called g c

  abbrev pub ads : List (Option PExpr)
  ads = actual_dues (slots_called g c) asked.actuals

  abbrev callee_subtype : PSubind
  callee_subtype = subtype_of_range g.types s (array_range g.program c.task.name.name)

  abbrev index_subtype : PSubind
  index_subtype = subtype_of_range g.types s (family_range g (entry_called g c))

  abbrev pub index_n : ℕ
  index_n = index_number g s c n

  abbrev pub actual_n : ℕ
  actual_n = actual_number g s c n

  lists-here : lists_called g c ≡ record { index = asked.index; actuals = asked.actuals }
  lists-here = lists-are asked.lists g.numbers (entry_called g c) refl

  kept-here : indices_kept g s c ≡ callee_kept g s c.task ++ kept_if index_subtype asked.index
  kept-here = ap (λ l. callee_kept g s c.task ++ kept_if index_subtype l.index) lists-here

  number-index : index_number g s c n ≡ n + length (dues_of mv)
  number-index = ap (λ l. n + l) (kept-length callee_subtype mv)

  number-actual : actual_number g s c n ≡ index_number g s c n + length (dues_of asked.index)
  number-actual =
      let a : length (indices_kept g s c) ≡ length (callee_kept g s c.task ++ kept_if index_subtype asked.index) = ap length kept-here in
      let d : length (callee_kept g s c.task ++ kept_if index_subtype asked.index) ≡ length (callee_kept g s c.task) + length (kept_if index_subtype asked.index) = length-append (callee_kept g s c.task) (kept_if index_subtype asked.index) in
      let e : length (kept_if index_subtype asked.index) ≡ length (dues_of asked.index) = kept-length index_subtype asked.index in
      omega arith

  before-is : call_before g s c n ≡ due_before g s (dues_of mv ++ (dues_of asked.index ++ ads)) n
  before-is =
      ap (λ l. in_front (kept_before g s (indices_kept g s c) n) (actuals_before g s (slots_called g c) l.actuals (actual_number g s c n))) lists-here
      ∙ ap (λ r. in_front r (actuals_before g s (slots_called g c) asked.actuals (actual_number g s c n))) (kept-due g s (indices_kept g s c) n)
      ∙ ap (λ r. in_front (due_before g s (map (λ k. Some k.value) (indices_kept g s c)) n) r) (actuals-due g s (slots_called g c) asked.actuals (actual_number g s c n))
      ∙ ap (λ k. in_front (due_before g s (map (λ k. Some k.value) (indices_kept g s c)) n) (due_before g s ads (n + k))) (sym (length-map (indices_kept g s c) (λ k. Some k.value)))
      ∙ due-append g s (map (λ k. Some k.value) (indices_kept g s c)) ads n
      ∙ ap (λ l. due_before g s (l ++ ads) n)
      (ap (λ l. map (λ k. Some k.value) l) kept-here
      ∙ map-append (λ k. Some k.value) (callee_kept g s c.task) (kept_if index_subtype asked.index)
      ∙ ap (λ l. l ++ map (λ k. Some k.value) (kept_if index_subtype asked.index)) (kept-dues callee_subtype mv)
      ∙ ap (λ l. dues_of mv ++ l) (kept-dues index_subtype asked.index))
      ∙ ap (λ l. due_before g s l n) (append_assoc (dues_of mv) (dues_of asked.index) ads)

  behind-is : call_behind g s c n ≡ actuals_behind g s slots asked.actuals actual_n
  behind-is = ap (λ l. actuals_behind g s slots l.actuals actual_n) lists-here

  -- ---- what is known in front of the call

  abbrev pub IndexAgree : Option PExpr → ℕ → Goal
  IndexAgree None k V W = Unit {0}
  IndexAgree (Some d) k V W = Agree x V W (variable_name g k)

  abbrev pub Ready : Goal
  Ready V W = IndexAgree asked.index index_n V W × AgreeDues x ads actual_n V W

  ready-of : (q : Option PExpr) (k m : ℕ) → m ≡ k + length (dues_of q) → (V W : Variables) → AgreeDues x (dues_of q ++ ads) k V W → IndexAgree q k V W × AgreeDues x ads m V W
  ready-of None k m e V W a = let f : k ≡ m = omega (arith, e) in (tt, subst (λ j. AgreeDues x ads j V W) f a)
  ready-of (Some d) k m e V W a = (a.0, subst (λ j. AgreeDues x ads j V W) (sym e) a.1)

  -- ---- the entry that is called

  abbrev pub entry_for : Word → ℕ
  entry_for w = entry_of h.numbers (unwrap_or (task_named h.numbers w.name) 0) c.entry.name

  pub record Entered (w : Word) : Type 0 where
    pub family : is_family h.numbers (entry_for w) ≡ is_family g.numbers (entry_called g c)
    pub modes : SameModes (entry_parameters h (entry_for w)) slots

  pub entered : (w : Word) → Meant x s c.task asked.callee n w → Entered w
  entered w m =
      let twins = asked.entries m.task m.meant in
      let is : entry_for w ≡ entry_of g.numbers m.task c.entry.name =
      ap (λ q. entry_of h.numbers (unwrap_or (task_named h.numbers q) 0) c.entry.name) m.name
      ∙ ap (λ q. entry_of h.numbers (unwrap_or q 0) c.entry.name) (asked.callee.named m.task m.meant)
      ∙ entry-named b made m.task c.entry.name in
      let formals : formals_of_info h (entry_at h.numbers (entry_for w)) ≡ formals_of_info g (entry_at g.numbers (entry_called g c)) =
      ap (λ e. formals_of_info h (entry_at h.numbers e)) is ∙ ap (λ q. formals_of_info h q) (entry-same b made (entry_of g.numbers m.task c.entry.name))
      ∙ sym (made.formals (entry_of g.numbers m.task c.entry.name)) ∙ twins.formals in
      record {
        family = ap (is_family h.numbers) is ∙ family-same b made (entry_of g.numbers m.task c.entry.name) ∙ twins.family;
        modes = subst (λ fs. SameModes (parameters_of h.types fs) slots) (sym formals) (formals-modes h.types (formals_of_info g (entry_at g.numbers (entry_called g c))));
      }

  -- ---- the call

  module _ (w : Word) (is : Entered w) (room : actual_n + length asked.actuals ≤ x.added.count) where
    abbrev entry_n : ℕ
    entry_n = entry_for w

    abbrev passed : List PExpr
    passed = actuals_passed g s slots asked.actuals actual_n

    lists-is : lists_of h.numbers entry_n (args_passed g s c n c.args) ≡ record { index = index_passed g s index_n asked.index; actuals = passed }
    lists-is = lists-passed g s c n asked.lists refl h.numbers entry_n is.family

    index-same : (V W : Variables) (q : Option PExpr) (k : ℕ) → IndexAgree q k V W → member_index h W entry_n (index_passed g s k q) ≡ member_index h V entry_n (index_passed g s k q)
    index-same V W None k a = refl
    index-same V W (Some d) k a = ap (λ o. index_in (family_limits (entry_at h.numbers entry_n)) (position_of (name_value h.types o (variable_name g k)))) a

    with-same : (V W : Variables) → Ready V W → called_with h W entry_n (record { index = index_passed g s index_n asked.index; actuals = passed }) ≡ called_with h V entry_n (record { index = index_passed g s index_n asked.index; actuals = passed })
    with-same V W r =
        ap (λ a. and_then a (λ i. and_then (openings h.types W (entry_parameters h entry_n) passed) (λ vs. Ok (record { entry = entry_n; index = i; values = vs })))) (index-same V W asked.index index_n r.0)
        ∙ ap (λ a. and_then (member_index h V entry_n (index_passed g s index_n asked.index)) (λ i. and_then a (λ vs. Ok (record { entry = entry_n; index = i; values = vs }))))
        (openings-same x s V W (entry_parameters h entry_n) slots asked.actuals actual_n is.modes r.1)

    pub same-call : (V W : Variables) → Ready V W → called h W (call_to g s c n w) ≡ called h V (call_to g s c n w)
    same-call V W r = ap (called_with h W entry_n) lists-is ∙ with-same V W r ∙ sym (ap (called_with h V entry_n) lists-is)

    entry-is : (V : Variables) (r : Called) → called h V (call_to g s c n w) ≡ Ok r → r.entry ≡ entry_n
    entry-is V r q =
        let l = lists_of h.numbers entry_n (args_passed g s c n c.args) in
        let a = chain (member_index h V entry_n l.index) (λ i. and_then (openings h.types V (entry_parameters h entry_n) l.actuals) (λ vs. Ok (record { entry = entry_n; index = i; values = vs }))) r q in
        let d = chain (openings h.types V (entry_parameters h entry_n) l.actuals) (λ vs. Ok (record { entry = entry_n; index = a.value; values = vs })) r a.rest in
        sym (ap (λ (k : Called). k.entry) (ok_path d.rest))

    abbrev back : Variables → List Value → Copies
    back U vs = copied_back (entry_parameters h entry_n) passed vs U

    copies-are : (V U : Variables) (r : Called) → called h V (call_to g s c n w) ≡ Ok r → (vs : List Value) → copies_in x U (call_to g s c n w) r vs ≡ back U vs
    copies-are V U r q vs =
        ap (λ k. copied_back (entry_parameters h k) (lists_of h.numbers k (args_passed g s c n c.args)).actuals vs U) (entry-is V r q) ∙ ap (λ l. copied_back (entry_parameters h entry_n) l.actuals vs U) lists-is

    pub word-passes : (K : Goal) → Skipped x K → (V W : Variables) → Near x V W → called h W (call_to g s c n w) ≡ called h V (call_to g s c n w) →
        ((A B : Variables) → Near x A B → AgreeBack x slots asked.actuals actual_n A B → K A B) → PassesCall x (call_to g s c n w) K V W
    word-passes K skip V W near same go = record {
      same = same;
      stopped = λ r q vs. ap (λ (a : Copies). a.stopped) (copies-are V W r q vs) ∙ (backs-near x s (entry_parameters h entry_n) slots asked.actuals actual_n vs V W near).stopped ∙ sym (ap (λ (a : Copies). a.stopped) (copies-are V V r q vs));
      near = λ r q vs. subst (λ (a : Copies). Near x a.vars (copies_in x W (call_to g s c n w) r vs).vars) (sym (copies-are V V r q vs))
          (subst (λ (a : Copies). Near x (back V vs).vars a.vars) (sym (copies-are V W r q vs)) (backs-near x s (entry_parameters h entry_n) slots asked.actuals actual_n vs V W near).near);
      lost = λ r q vs. subst (λ (a : Copies). Near x V a.vars) (sym (copies-are V W r q vs)) (lost-near x s (entry_parameters h entry_n) slots asked.actuals actual_n room vs V W near);
      goes = λ r q vs l stop.
          let stop' : (back V vs).stopped ≡ None = sym (ap (λ (a : Copies). a.stopped) (copies-are V V r q vs)) ∙ stop in
          let l' : length vs ≡ backs (entry_parameters h entry_n) = l ∙ ap (λ k. backs (entry_parameters h k)) (entry-is V r q) in
          subst (λ (a : Copies). K a.vars (copies_in x W (call_to g s c n w) r vs).vars) (sym (copies-are V V r q vs))
          (subst (λ (a : Copies). K (back V vs).vars a.vars) (sym (copies-are V W r q vs))
          (go _ _ (backs-near x s (entry_parameters h entry_n) slots asked.actuals actual_n vs V W near).near (backs-agree x s (entry_parameters h entry_n) slots asked.actuals actual_n is.modes vs V W near l' stop')));
      skipped = skip;
    }

  -- ---- behind the call

  behind-skip : (ys : List Slot) (es : List PExpr) (k : ℕ) (K : Goal) → Skipped x K → Skipped x (Passes x (actuals_behind g s ys es k) K)
  behind-skip [] es k K skip = skip
  behind-skip (y ∷ ys) [] k K skip = skip
  behind-skip (y ∷ ys) (e ∷ es) k K skip = go y.mode (behind-skip ys es (k + 1) K skip)
    where
      copies : (d : ParMode) (o : Option NameId) → Skipped x (Passes x (actuals_behind g s ys es (k + 1)) K) → Skipped x (Passes x (copied_to g s e o k) (Passes x (actuals_behind g s ys es (k + 1)) K))
      copies d None more U u = more U u
      copies d (Some id) more U u = ((λ cells. assigns-same x (Passes x (actuals_behind g s ys es (k + 1)) K) more (record { name = word_at (expr_place e) id; index = None }) (variable g s k) U u), more)

      go : (d : ParMode) → Skipped x (Passes x (actuals_behind g s ys es (k + 1)) K) → Skipped x (Passes x (in_front (actual_behind g s d e k) (actuals_behind g s ys es (k + 1))) K)
      go Take more U u = more U u
      go Give more U u = joined x (copied_to g s e (variable_of e) k) (actuals_behind g s ys es (k + 1)) K U U (copies Give (variable_of e) more U u)
      go Both more U u = joined x (copied_to g s e (variable_of e) k) (actuals_behind g s ys es (k + 1)) K U U (copies Both (variable_of e) more U u)

  pub back-stays : (id : NameId) (v : Value) (V W : Variables) → Near x V W → (ys : List Slot) (es : List PExpr) (k : ℕ) → AgreeBack x ys es k V W → AgreeBack x ys es k (set_value V id 0 v) (set_value W id 0 v)
  back-stays id v V W near [] es k a = tt
  back-stays id v V W near (y ∷ ys) [] k a = tt
  back-stays id v V W near (y ∷ ys) (e ∷ es) k a = (go y.mode a.0, back-stays id v V W near ys es (k + 1) a.1)
    where
      go : (d : ParMode) → BackAgree x d k V W → BackAgree x d k (set_value V id 0 v) (set_value W id 0 v)
      go Take m = tt
      go Give m = agree-stays x id v V W near (variable_name g k) m
      go Both m = agree-stays x id v V W near (variable_name g k) m

  -- the assignments to the actuals
  behind-pass : {ys : List Slot} {es : List PExpr} → AreCopied b ys es → (k : ℕ) (K : Goal) → Always x K → (V W : Variables) → Near x V W → AgreeBack x ys es k V W → Passes x (actuals_behind g s ys es k) K V W
  behind-pass none_copied k K all V W near a = all V W near
  behind-pass (copied_then y ys e es cp more) k K all V W near a =
      joined x (actual_behind g s y.mode e k) (actuals_behind g s ys es (k + 1)) K V W
      (go y.mode e cp a.0 (behind-skip ys es (k + 1) K (always-skips x K all)) (λ Va Wa n r. behind-pass more (k + 1) K all Va Wa n r))
    where
      assigned-back : (at : Span) (id : NameId) → IsOld b id → Agree x V W (variable_name g k) → Skipped x (Passes x (actuals_behind g s ys es (k + 1)) K) →
          ((Va Wa : Variables) → Near x Va Wa → AgreeBack x ys es (k + 1) Va Wa → Passes x (actuals_behind g s ys es (k + 1)) K Va Wa) →
          Passes x (one (SAssign (record { name = word_at at id; index = None }) (variable g s k) s)) (Passes x (actuals_behind g s ys es (k + 1)) K) V W
      assigned-back at id old q skip ih = (
        (λ cells d.
            meet-then x (Passes x (actuals_behind g s ys es (k + 1)) K) (evaluated h.types V (variable g s k)) (evaluated h.types W (variable g s k))
            (λ v. steps.stored (with_these x d V) (record { name = word_at at id; index = None }) 0 v) (λ v. steps.stored (with_these x d W) (record { name = word_at at id; index = None }) 0 v)
            (ap (λ o. Ok (name_value h.types o (variable_name g k))) q)
            (λ v r. meet-set x (Passes x (actuals_behind g s ys es (k + 1)) K) V W id 0 v near
            (λ u f. let n = set-old x id 0 u old V W near in (n, ih _ _ n (back-stays id u V W near ys es (k + 1) a.1))))),
        skip,
      )

      go : (d : ParMode) (e1 : PExpr) → IsCopied b d e1 → BackAgree x d k V W → Skipped x (Passes x (actuals_behind g s ys es (k + 1)) K) →
          ((Va Wa : Variables) → Near x Va Wa → AgreeBack x ys es (k + 1) Va Wa → Passes x (actuals_behind g s ys es (k + 1)) K Va Wa) →
          Passes x (actual_behind g s d e1 k) (Passes x (actuals_behind g s ys es (k + 1)) K) V W
      go _ _ (only_taken e1) q skip ih = ih V W near a.1
      go _ _ (given_back id sp old) q skip ih = assigned-back sp id old q skip ih
      go _ _ (both_ways id sp old) q skip ih = assigned-back sp id old q skip ih

  -- ---- in front of the call

  module _ (subtypes : HaveSubtypes x.programs x.added (call_subtypes x.programs.original s c) n) where
    pub room : actual_n + length asked.actuals ≤ x.added.count
    room =
        let m : n + length (call_subtypes g s c) ≤ x.added.count = subtypes-fit b x.added subtypes in
        let a1 : length (call_subtypes g s c) ≡ length (kept_subtypes (indices_kept g s c)) + length (actual_subtypes slots (lists_called g c).actuals) =
        length-append (kept_subtypes (indices_kept g s c)) (actual_subtypes slots (lists_called g c).actuals) in
        let a2 : length (kept_subtypes (indices_kept g s c)) ≡ length (indices_kept g s c) = length-map (indices_kept g s c) (λ k. k.subtype) in
        let a3 : length (actual_subtypes slots (lists_called g c).actuals) ≡ length asked.actuals = ap (λ (l : Lists). length (actual_subtypes slots l.actuals)) lists-here ∙ copied-length b asked.copies in
        omega arith

    first-there : (q : Option PExpr) → mv ≡ q → (e : PExpr) → q ≡ Some e → (n < x.added.count) × (x.added.bounds n ≡ declared_limits h.types callee_subtype)
    first-there None m e f = absurd (let none : ⊥ = cc in none)
    first-there (Some d) m e f =
        by (subst (λ q. HaveSubtypes b x.added (kept_subtypes (kept_if callee_subtype q ++ kept_if index_subtype (lists_called g c).index) ++ actual_subtypes slots (lists_called g c).actuals) n) m subtypes)
      where
        by : {xs : List PSubind} → HaveSubtypes b x.added (callee_subtype ∷ xs) n → (n < x.added.count) × (x.added.bounds n ≡ declared_limits h.types callee_subtype)
        by (subtype_then y ys k l eq more) = (l, eq)

    pub bound : (e : PExpr) → mv ≡ Some e → (z : ℤ) → lies_in (x.added.bounds n) z ≡ is_ok (member_named g.numbers c.task.name.name z)
    bound e m z = ap (λ l. lies_in l z) (first-there mv refl e m).1 ∙ asked.callee.range e m s z

    some-old : (e : PExpr) → OldOption b (Some e) → OldExpr b e
    some-old e (old_some d k) = k

    more-dues : OldDues b (dues_of asked.index ++ ads)
    more-dues = option-old b (lists-old b asked.lists old.args).0 (dues-old b slots (lists-old b asked.lists old.args).1)

    pub before-skip : (K : Goal) → Skipped x K → Skipped x (Passes x (call_before g s c n) K)
    before-skip K skip U u = subst (λ r. Passes x r K U U) (sym before-is) (dues-skip x s (dues_of mv ++ (dues_of asked.index ++ ads)) n K skip U u)

    pub before-pass : (K : Goal) → Skipped x K → ((V W : Variables) → Near x V W → ChosenReady x s c.task asked.callee n V W → Ready V W → K V W) → Always x (Passes x (call_before g s c n) K)
    before-pass K skip go V W near = subst (λ r. Passes x r K V W) (sym before-is) (by mv refl)
      where
        by : (q : Option PExpr) → mv ≡ q → Passes x (due_before g s (dues_of q ++ (dues_of asked.index ++ ads)) n) K V W
        by None m =
            let i : index_n ≡ n = number-index ∙ ap (λ q. n + length (dues_of q)) m ∙ (let z : n + 0 ≡ n = omega arith in z) in
            dues-pass x s more-dues n K (λ Va Wa. Unit {0}) (λ Va Wa id v k f a. tt) skip
            (λ Va Wa k f a. go Va Wa k (λ e q. absurd (let f : None ≡ Some e = sym m ∙ q in let none : ⊥ = cc in none)) (ready-of asked.index index_n actual_n number-actual Va Wa (subst (λ j. AgreeDues x (dues_of asked.index ++ ads) j Va Wa) (sym i) a)))
            V W near tt
        by (Some e) m =
            let i : index_n ≡ n + 1 = number-index ∙ ap (λ q. n + length (dues_of q)) m in
            assigns x s n e (due_before g s (dues_of asked.index ++ ads) (n + 1)) K (λ Va Wa. Unit {0}) (λ Va Wa v k f a. tt) (dues-skip x s (dues_of asked.index ++ ads) (n + 1) K skip) V W near
            (worth x V W near (some-old e (subst (OldOption b) (moving-is b made c.task.index e m) old.member))) tt
            (λ cells v q fits k f a.
            dues-pass x s more-dues (n + 1) K (λ Va Wa. InRange x n Va × Agree x Va Wa (variable_name g n)) (both-stable x (λ Va Wa. InRange x n Va) (λ Va Wa. Agree x Va Wa (variable_name g n)) (range-stable x n) (agree-stable x (variable_name g n))) skip
            (λ Vb Wb k2 f2 d. go Vb Wb k2 (λ e2 q2. f2) (ready-of asked.index index_n actual_n number-actual Vb Wb (subst (λ j. AgreeDues x (dues_of asked.index ++ ads) j Vb Wb) (sym i) d)))
            _ _ k (in-range x n V v (cells n (first-there mv refl e m).0) fits, a))

    -- ---- plain calls

    pub call-behind : (K : Goal) → Always x K → (V W : Variables) → Near x V W → AgreeBack x slots asked.actuals actual_n V W → Passes x (call_behind g s c n) K V W
    call-behind K all V W near a = subst (λ r. Passes x r K V W) (sym behind-is) (behind-pass asked.copies actual_n K all V W near a)

    pub call-behind-skip : (K : Goal) → Skipped x K → Skipped x (Passes x (call_behind g s c n) K)
    call-behind-skip K skip U u = subst (λ r. Passes x r K U U) (sym behind-is) (behind-skip slots asked.actuals actual_n K skip U u)

    pub plain-pass : (K : Goal) → Always x K → Always x (Passes x (plain_image g s c n) K)
    plain-pass K all V W near =
        joined x (call_before g s c n) (in_front (chosen g s c.task n (λ w. one (SCall (call_to g s c n w) s))) (call_behind g s c n)) K V W
        (before-pass (Passes x (in_front (chosen g s c.task n (λ w. one (SCall (call_to g s c n w) s))) (call_behind g s c n)) K)
        (λ U u. joined x (chosen g s c.task n (λ w. one (SCall (call_to g s c n w) s))) (call_behind g s c n) K U U (chosen-skip x s c.task asked.callee n (λ w. one (SCall (call_to g s c n w) s)) (Passes x (call_behind g s c n) K) behind-skips call-skips U u))
        (λ Va Wa k ready r. joined x (chosen g s c.task n (λ w. one (SCall (call_to g s c n w) s))) (call_behind g s c n) K Va Wa
        (chosen-pass x s c.task asked.callee n (λ w. one (SCall (call_to g s c n w) s)) (Passes x (call_behind g s c n) K) behind-skips call-skips bound Va Wa k ready
        (λ w m. ((λ cells. word-passes w (entered w m) room (Passes x (call_behind g s c n) K) behind-skips Va Wa k (same-call w (entered w m) room Va Wa r) (λ A B q a. call-behind K all A B q a)), behind-skips))))
        V W near)
      where
        behind-skips : Skipped x (Passes x (call_behind g s c n) K)
        behind-skips = call-behind-skip K (always-skips x K all)

        call-skips : (w : Word) → Meant x s c.task asked.callee n w → Skipped x (Passes x (one (SCall (call_to g s c n w) s)) (Passes x (call_behind g s c n) K))
        call-skips w m U u = ((λ cells. word-passes w (entered w m) room (Passes x (call_behind g s c n) K) behind-skips U U u refl (λ A B q a. call-behind K all A B q a)), behind-skips)
