-- A call of an entry: a task of the normal form and its image evaluate it to the same index and the same values, and so the image does with the entry's double.
use Rattle.std.proofs.Common.{◌≡◌, ℕ, ℤ, Bool, true, false, if◌then◌else◌, List, [], ◌∷◌, unwrap_or, Option, Some, None, Result, Ok, Err, refl, sym, ap, ap₂, ◌∙◌, subst, true≢false}
use Rattle.event_machine.specs.declared.CallForm.{CallForm}
use Rattle.event_machine.specs.declared.Event.{Event}
use Rattle.ada_tree.specs.declared.naming.NameId.{NameId}
use Rattle.ada_tree.specs.declared.statements.ParMode.{ParMode}
use Rattle.ada_tree.specs.declared.statements.ParMode.TheVariants.{Take, Give, Both as InOut}
use Rattle.ada_tree.specs.TypeTable.{TypeTable}
use Rattle.ada_tree.specs.PlainExpr.{PExpr}
use Rattle.ada_tree.specs.PlainStmt.{PArgs, PCall}
use Rattle.ada_tree.specs.PlainProgram.{PProgram}
use Rattle.ada_value.specs.declared.values.Limits.{Limits}
use Rattle.ada_value.specs.declared.values.Raised.{Raised}
use Rattle.ada_value.specs.declared.values.Raised.TheVariants as raised
use Rattle.ada_value.specs.declared.values.Value.{Value}
use Rattle.ada_value.specs.Values.{and_then, checked, lies_in, lower_bound, position_of}
use Rattle.ada_value.specs.Variables.{Object, Variables, checked_for, set_value}
use Rattle.syn_event.specs.declared.numbering.EntryInfo.{EntryInfo}
use Rattle.syn_event.specs.Numbering.{Numbering, entry_at}
use Rattle.task_model.specs.declared.parameters.FormalParameter.{FormalParameter}
use Rattle.task_model.specs.Setting.{Setting, callee_task, entry_of, is_family, is_family_in, family_limits, entry_parameters, Lists, first_expr, lists_in, lists_of}
use Rattle.task_model.specs.Frames.{Around, PFrame}
use Rattle.task_model.specs.Calls.{Called, called, called_with, opening, openings, Copies, copies_on, copied_one, copied_back, stored_back, variable_of}
use Rattle.task_model.specs.Stands.{call_stand, steps_at}
use Rattle.task_laws.specs.translation.Translations.{Programs, Translation, types_before, types_after, IsOld, IsKnown}
use Rattle.task_laws.specs.translation.Scopes.{AgreeOnTypes, SameObject, no_object, same_object, SeeAlike}
use Rattle.task_laws.specs.translation.OldNames.{OldExpr, old_integer, old_name, old_index, old_attribute, old_attribute_of, old_paren, old_unary, old_binary, OldOption, old_none, old_some}
use Rattle.task_laws.specs.translation.OldTexts.{OldExprs, old_no_expr, old_expr, OldList, old_no_list, old_list, OldArgs, old_no_args, old_args}
use Rattle.task_laws.specs.translation.Controls.{Under}
use Rattle.task_laws.specs.translation.Floors.{IsTranslation}
use Rattle.task_laws.proofs.translation.Results.{Both, both_ok, both_err, both_then}
use Rattle.task_laws.proofs.translation.Evaluating.{KnownValue, known_value, value-alike}
use Rattle.task_laws.proofs.translation.Frames.{sees-alike, set-alike}
use Rattle.normal_laws.specs.runs.floors.Meetings.{AreValues, no_value, value_then}
use Rattle.normal_laws.specs.existence.Laws.{IsLegalOriginal}
use Rattle.run_laws.specs.replaying.Copies.{Spots}
use Rattle.replay_model.specs.Calling.{double_call}
use Rattle.replay_structure.specs.spots.Places.{text_spots}
use Rattle.replay_structure.proofs.spots.Placed.{spots_are_there}
use Rattle.replay_runs.specs.starts.Laws.{form_in}
use Rattle.replay_runs.specs.starts.Formals.{form_setting, text_setting}
use Rattle.replay_runs.proofs.starts.Legal.{legal_has_formals}
use Rattle.replay_runs.proofs.found.Legal.{legal_doubles_are_found}
use Rattle.replay_runs.specs.controls.Asking.{unit_of_task}
use Rattle.replay_runs.specs.controls.formed.Laws.{IsCallFormed}
use Rattle.replay_runs.specs.controls.permits.Laws.{IndexIs}
use Rattle.replay_runs.specs.controls.translated.Laws.{form_and_text}
use Rattle.replay_runs.proofs.controls.meanings.Aborts.{callee_found}
use Rattle.replay_runs.proofs.controls.meanings.Parts.{task_stays}
use Rattle.replay_runs.proofs.controls.meanings.Indices.{checked_index, member_checked, by-checked}
use Rattle.replay_runs.proofs.controls.meanings.Accepting.{entry-there, order, named-there}

-- ---- the lists of a call

-- the index and the actuals have old names alone
pub record OldLists (b : Programs) (l : Lists) : Type 0 where
  pub index : OldOption b l.index
  pub actuals : OldExprs b l.actuals

first-old : {b : Programs} {es : List PExpr} → OldExprs b es → OldOption b (first_expr es)
first-old old_no_expr = old_none
first-old (old_expr e rest old more) = old_some e old

row-old : {b : Programs} {o : Option (List PExpr)} → OldList b o → OldExprs b (unwrap_or o [])
row-old old_no_list = old_no_expr
row-old (old_list es old) = old

pub lists_old : {b : Programs} (numbers : Numbering) (e : ℕ) {args : Option PArgs} → OldArgs b args → OldLists b (lists_of numbers e args)
lists_old numbers e old_no_args = record { index = old_none; actuals = old_no_expr }
lists_old {b} numbers e (old_args args first second) = go (is_family numbers e)
  where
    go : (c : Bool) → OldLists b (lists_in c args)
    go true = record { index = first-old first; actuals = row-old second }
    go false = record { index = old_none; actuals = first }

lists-same : (numbers more : Numbering) (e m : ℕ) (args : Option PArgs) → is_family numbers e ≡ is_family more m →
    lists_of numbers e args ≡ lists_of more m args
lists-same numbers more e m None same = refl
lists-same numbers more e m (Some args) same = ap (λ c. lists_in c args) same

-- ---- opening values

-- what came out
abbrev came-out : Result (List Value) Raised → List Value
came-out (Ok vs) = vs
came-out (Err x) = []

module _ (b : Programs) where
  -- the same values, of known kinds
  data KnownValues : List Value → List Value → Type 0 where
    known_values : (vs : List Value) → AreValues b vs → KnownValues vs vs

  -- what is checked against a subtype stays
  checked-alike : (limits : Limits) (v : Value) → IsKnown b v → Both (KnownValue b) (checked limits v) (checked limits v)
  checked-alike limits v known = go (lies_in limits (position_of v))
    where
      go : (c : Bool) → Both (KnownValue b) (if c then Ok v else Err raised.Constraint) (if c then Ok v else Err raised.Constraint)
      go true = both_ok v v (known_value v known)
      go false = both_err raised.Constraint

  known-checked : (limits : Limits) (v w : Value) → KnownValue b v w → Both (KnownValue b) (checked limits v) (checked limits w)
  known-checked limits v w (known_value x known) = checked-alike limits x known

  one-more : (v w : Value) → KnownValue b v w → (vs ws : List Value) → KnownValues vs ws → Both KnownValues (Ok (v ∷ vs)) (Ok (w ∷ ws))
  one-more v w (known_value x k) vs ws (known_values xs ks) = both_ok (x ∷ xs) (x ∷ xs) (known_values (x ∷ xs) (value_then x xs k ks))

  known-same : (v w : Value) → v ≡ w → IsKnown b v → Both (KnownValue b) (Ok v) (Ok w)
  known-same v w same known = subst (λ x. Both (KnownValue b) (Ok v) (Ok x)) same (both_ok v v (known_value v known))

  module _ (types : AgreeOnTypes b) {V W : Variables} (see : SeeAlike b V W) where
    lower-alike : (f : FormalParameter) → Both (KnownValue b) (Ok (lower_bound (types_before b) f.limits)) (Ok (lower_bound (types_after b) f.limits))
    lower-alike f = known-same _ _ (types.values f.limits.kind f.limits.first) (types.values_known f.limits.kind f.limits.first)

    opening-alike : (f : FormalParameter) (m : ParMode) {e : PExpr} → OldExpr b e →
        Both (KnownValue b) (opening (types_before b) V f m e) (opening (types_after b) W f m e)
    opening-alike f Take old = both_then (value-alike b types see old) (known-checked f.limits)
    opening-alike f Give old = lower-alike f
    opening-alike f InOut old = both_then (value-alike b types see old) (known-checked f.limits)

    openings-alike : (fs : List FormalParameter) {es : List PExpr} → OldExprs b es →
        Both KnownValues (openings (types_before b) V fs es) (openings (types_after b) W fs es)
    openings-alike [] old = both_ok [] [] (known_values [] no_value)
    openings-alike (f ∷ fs) old_no_expr = both_then (lower-alike f) (λ v w k. both_then (openings-alike fs old_no_expr) (one-more v w k))
    openings-alike (f ∷ fs) (old_expr e es old more) = both_then (opening-alike f f.mode old) (λ v w k. both_then (openings-alike fs more) (one-more v w k))

    -- the values with which the formals open, in both
    pub opens_alike : (fs : List FormalParameter) {es : List PExpr} → OldExprs b es → (vs : List Value) → openings (types_before b) V fs es ≡ Ok vs →
        (openings (types_after b) W fs es ≡ Ok vs) × AreValues b vs
    opens_alike fs {es} old vs = go (openings-alike fs old)
      where
        go : {r r' : Result (List Value) Raised} → Both KnownValues r r' → r ≡ Ok vs → (r' ≡ Ok vs) × AreValues b vs
        go (both_ok _ _ (known_values us ks)) same = (same, subst (AreValues b) (ap came-out same) ks)
        go (both_err x) same = cc

-- ---- a call whose index has a value

-- what it comes to, by the entry, its range, its formals, the lists and the position of the index
abbrev pub at_member : TypeTable → Variables → ℕ → Limits → List FormalParameter → Lists → ℤ → Result Called Raised
at_member T V e limits fs l z = and_then (checked_index limits l.index z) (λ i. and_then (openings T V fs l.actuals) (λ vs. Ok (record { entry = e; index = i; values = vs })))

called-member : (g : Setting) (V : Variables) (c : PCall) (k e : ℕ) (l : Lists) (limits : Limits) (fs : List FormalParameter) (z : ℤ) →
    callee_task g V c.task ≡ Ok k → entry_of g.numbers k c.entry.name ≡ e → lists_of g.numbers e c.args ≡ l →
    family_limits (entry_at g.numbers e) ≡ limits → entry_parameters g e ≡ fs → IndexIs g.types V l.index z → called g V c ≡ at_member g.types V e limits fs l z
called-member g V c k e l limits fs z callee entry lists range formals index =
    ap (λ r. and_then r (λ owner. called_with g V (entry_of g.numbers owner c.entry.name) (lists_of g.numbers (entry_of g.numbers owner c.entry.name) c.args))) callee
    ∙ ap (λ m. called_with g V m (lists_of g.numbers m c.args)) entry
    ∙ ap (λ a. called_with g V e a) lists
    ∙ ap (λ r. and_then r (λ i. and_then (openings g.types V (entry_parameters g e) l.actuals) (λ vs. Ok (record { entry = e; index = i; values = vs })))) (member_checked g V e l.index z index)
    ∙ ap (λ m. at_member g.types V e m (entry_parameters g e) l z) range
    ∙ ap (λ ps. at_member g.types V e limits ps l z) formals

-- what is known where it does not raise
pub record HasValues (T : TypeTable) (V : Variables) (limits : Limits) (fs : List FormalParameter) (l : Lists) (z : ℤ) : Type 0 where
  pub lies : checked_index limits l.index z ≡ Ok z
  pub values : List Value
  pub opens : openings T V fs l.actuals ≡ Ok values

module _ (T : TypeTable) (V : Variables) (e : ℕ) (limits : Limits) (fs : List FormalParameter) (l : Lists) (z : ℤ) where
  pub has_values : (form : CallForm) → steps_at (call_stand form (at_member T V e limits fs l z)) ≡ false → HasValues T V limits fs l z
  has_values form rests = by-checked limits l.index z (λ k. by_values k (openings T V fs l.actuals) refl)
      (λ k. absurd (true≢false (sym (ap (λ r. steps_at (call_stand form (and_then r (λ i. and_then (openings T V fs l.actuals) (λ vs. Ok (record { entry = e; index = i; values = vs })))))) k) ∙ rests)))
    where
      by_values : checked_index limits l.index z ≡ Ok z → (r : Result (List Value) Raised) → openings T V fs l.actuals ≡ r → HasValues T V limits fs l z
      by_values k (Ok vs) q = record { lies = k; values = vs; opens = q }
      by_values k (Err x) q = absurd (true≢false (sym
          (ap (λ r. steps_at (call_stand form (and_then r (λ i. and_then (openings T V fs l.actuals) (λ vs. Ok (record { entry = e; index = i; values = vs })))))) k
          ∙ ap (λ r. steps_at (call_stand form (and_then r (λ vs. Ok (record { entry = e; index = z; values = vs }))))) q)
          ∙ rests))

  pub member_is : (vs : List Value) → checked_index limits l.index z ≡ Ok z → openings T V fs l.actuals ≡ Ok vs →
      at_member T V e limits fs l z ≡ Ok (record { entry = e; index = z; values = vs })
  member_is vs lies opens =
      ap (λ r. and_then r (λ i. and_then (openings T V fs l.actuals) (λ us. Ok (record { entry = e; index = i; values = us })))) lies
      ∙ ap (λ r. and_then r (λ us. Ok (record { entry = e; index = z; values = us }))) opens

-- ---- in both programs

module _ (far : Spots) (p : PProgram) (events : List Event) (h : IsLegalOriginal p) (t : ℕ) (c : PCall) (formed : IsCallFormed p t c) where
  abbrev b : Programs
  b = form_and_text p events

  -- the entry, the lists, the formals and the range
  abbrev pub called_entry : ℕ
  called_entry = formed.entry.entry

  abbrev pub called_lists : Lists
  called_lists = lists_of (form_in p).numbers called_entry c.args

  abbrev pub called_formals : List FormalParameter
  called_formals = entry_parameters (form_setting p) called_entry

  abbrev pub called_limits : Limits
  called_limits = family_limits (entry_at (form_in p).numbers called_entry)

  here : (x : EntryInfo) × (entry_at (form_in p).numbers called_entry ≡ Some x)
  here = entry-there (form_in p).numbers formed.callee.task c.entry.name called_entry formed.entry.found

  -- an entry of the text has the same lists in a call, the same formals and the same range
  pub record Stands (m : ℕ) : Type 0 where
    pub lists : lists_of (text_setting p events).numbers m c.args ≡ called_lists
    pub range : family_limits (entry_at (text_setting p events).numbers m) ≡ called_limits
    pub formals : entry_parameters (text_setting p events) m ≡ called_formals

  stands-by : (m : ℕ) (x : EntryInfo) → entry_at (text_setting p events).numbers m ≡ Some x → x.family ≡ here.0.family → x.first ≡ here.0.first →
      x.last ≡ here.0.last → entry_parameters (text_setting p events) m ≡ called_formals → Stands m
  stands-by m x at family first last formals = record {
    lists = lists-same (text_setting p events).numbers (form_in p).numbers m called_entry c.args (ap is_family_in at ∙ family ∙ sym (ap is_family_in here.1));
    range = ap family_limits at ∙ ap₂ (λ (i j : ℤ). record { kind = 0; first = i; last = j }) first last ∙ sym (ap family_limits here.1);
    formals = formals;
  }

  pub original_stands : Stands ((text_spots far (form_in p)).original called_entry)
  original_stands =
      let there = (spots_are_there far (form_in p) (order far p events h t)).original called_entry here.0 here.1 in
      stands-by ((text_spots far (form_in p)).original called_entry) there.found there.at there.same.family there.same.first there.same.last
      ((legal_has_formals p events far h).original called_entry here.0 here.1)

  pub double_stands : Stands ((text_spots far (form_in p)).shadow called_entry)
  double_stands =
      let there = (spots_are_there far (form_in p) (order far p events h t)).shadow called_entry here.0 here.1 in
      stands-by ((text_spots far (form_in p)).shadow called_entry) there.found there.at there.same.family there.same.first there.same.last
      ((legal_has_formals p events far h).shadow called_entry here.0 here.1)

  pub called_before : (V : Variables) (z : ℤ) → IndexIs (types_before b) V called_lists.index z →
      called (form_setting p) V c ≡ at_member (types_before b) V called_entry called_limits called_formals called_lists z
  called_before V z index =
      called-member (form_setting p) V c formed.callee.task called_entry called_lists called_limits called_formals z
      (callee_found (form_setting p) V c.task formed.callee.task formed.callee.simple formed.callee.named)
      (ap (λ o. unwrap_or o 0) formed.entry.found) refl refl refl index

  callee-there : (W : Variables) → callee_task (text_setting p events) W c.task ≡ Ok formed.callee.task
  callee-there W = callee_found (text_setting p events) W c.task formed.callee.task formed.callee.simple (task_stays p c.task.name.name formed.callee.task formed.callee.named)

  pub called_original : (W : Variables) (z : ℤ) → IndexIs (types_after b) W called_lists.index z →
      called (text_setting p events) W c ≡ at_member (types_after b) W ((text_spots far (form_in p)).original called_entry) called_limits called_formals called_lists z
  called_original W z index =
      called-member (text_setting p events) W c formed.callee.task ((text_spots far (form_in p)).original called_entry) called_lists called_limits called_formals z
      (callee-there W)
      (named-there far p events h formed.callee.task c.entry.name called_entry formed.entry.found) original_stands.lists original_stands.range original_stands.formals index

  pub called_double : (W : Variables) (z : ℤ) → IndexIs (types_after b) W called_lists.index z →
      called (text_setting p events) W (double_call (unit_of_task p t) c) ≡
      at_member (types_after b) W ((text_spots far (form_in p)).shadow called_entry) called_limits called_formals called_lists z
  called_double W z index =
      called-member (text_setting p events) W (double_call (unit_of_task p t) c) formed.callee.task ((text_spots far (form_in p)).shadow called_entry) called_lists called_limits called_formals z
      (callee-there W)
      (ap (λ o. unwrap_or o 0) (legal_doubles_are_found far p h formed.callee.task c.entry.name called_entry formed.entry.found))
      double_stands.lists double_stands.range double_stands.formals index

-- ---- values that come back

-- the variable that an actual is has an old name
data OldVariable (b : Programs) : Option NameId → Type 0 where
  no_variable : OldVariable b None
  old_variable : (id : NameId) → IsOld b id → OldVariable b (Some id)

variable-old : {b : Programs} {e : PExpr} → OldExpr b e → OldVariable b (variable_of e)
variable-old (old_integer n s) = no_variable
variable-old (old_name id s old) = old_variable id old
variable-old (old_index w e s old j) = no_variable
variable-old (old_attribute m w s old) = no_variable
variable-old (old_attribute_of m w e s old j) = no_variable
variable-old (old_paren e s j) = no_variable
variable-old (old_unary op e s j) = no_variable
variable-old (old_binary op l r s j i) = no_variable

module _ (y : Translation) (laws : IsTranslation y) (q q' : Around) (o o' : List PFrame) where
  -- the variables go together, and copying has stopped with the same exception, or with none
  pub record CopiedAlike (before after : Copies) : Type 0 where
    pub under : Under y q o before.vars q' o' after.vars
    pub stopped : after.stopped ≡ before.stopped

  fits-alike : {x x' : Option Object} → SameObject y.text.programs x x' → (v : Value) → IsKnown y.text.programs v →
      Both (KnownValue y.text.programs) (checked_for x v) (checked_for x' v)
  fits-alike no_object v known = both_ok v v (known_value v known)
  fits-alike (same_object x has) v known = checked-alike y.text.programs x.limits v known

  one-stored : {x : Option NameId} → OldVariable y.text.programs x → (v : Value) → IsKnown y.text.programs v →
      (fs : List FormalParameter) (es : List PExpr) (vs : List Value) →
      ((V W : Variables) → Under y q o V q' o' W → CopiedAlike (copied_back fs es vs V) (copied_back fs es vs W)) → (V W : Variables) → Under y q o V q' o' W →
      CopiedAlike (copies_on (λ changed. copied_back fs es vs changed) V (stored_back V x v)) (copies_on (λ changed. copied_back fs es vs changed) W (stored_back W x v))
  one-stored no_variable v known fs es vs more V W u = more V W u
  one-stored (old_variable id old) v known fs es vs more V W u = go (fits-alike ((sees-alike y laws u).named id old) v known)
    where
      go : {r r' : Result Value Raised} → Both (KnownValue y.text.programs) r r' →
          CopiedAlike (copies_on (λ changed. copied_back fs es vs changed) V (and_then r (λ w. Ok (set_value V id 0 w)))) (copies_on (λ changed. copied_back fs es vs changed) W (and_then r' (λ w. Ok (set_value W id 0 w))))
      go (both_ok a a' (known_value w k)) = more (set_value V id 0 w) (set_value W id 0 w) (set-alike y laws id 0 w old k u)
      go (both_err x) = record { under = u; stopped = refl }

  -- one formal, by its mode
  one-alike : {e : PExpr} → OldExpr y.text.programs e → (m : ParMode) (fs : List FormalParameter) (es : List PExpr) {vs : List Value} →
      AreValues y.text.programs vs →
      ((ws : List Value) → AreValues y.text.programs ws → (V W : Variables) → Under y q o V q' o' W → CopiedAlike (copied_back fs es ws V) (copied_back fs es ws W)) → (V W : Variables) → Under y q o V q' o' W →
      CopiedAlike (copied_one (λ ws changed. copied_back fs es ws changed) m e vs V) (copied_one (λ ws changed. copied_back fs es ws changed) m e vs W)
  one-alike old Take fs es given more V W u = more _ given V W u
  one-alike old Give fs es no_value more V W u = record { under = u; stopped = refl }
  one-alike old Give fs es (value_then v vs k ks) more V W u = one-stored (variable-old old) v k fs es vs (λ V1 W1 u1. more vs ks V1 W1 u1) V W u
  one-alike old InOut fs es no_value more V W u = record { under = u; stopped = refl }
  one-alike old InOut fs es (value_then v vs k ks) more V W u = one-stored (variable-old old) v k fs es vs (λ V1 W1 u1. more vs ks V1 W1 u1) V W u

  pub copies_alike : (fs : List FormalParameter) {es : List PExpr} → OldExprs y.text.programs es → {vs : List Value} → AreValues y.text.programs vs →
      (V W : Variables) → Under y q o V q' o' W →
      CopiedAlike (copied_back fs es vs V) (copied_back fs es vs W)
  copies_alike [] old known V W u = record { under = u; stopped = refl }
  copies_alike (f ∷ fs) old_no_expr known V W u = record { under = u; stopped = refl }
  copies_alike (f ∷ fs) (old_expr e es old more) known V W u = one-alike old f.mode fs es known (λ ws given V1 W1 u1. copies_alike fs more given V1 W1 u1) V W u
