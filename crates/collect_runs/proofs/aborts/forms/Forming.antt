-- The tasks of a legal program evaluate calls and accepts alike in the normal form and in its collecting text with abort statements.
use Rattle.std.proofs.Common.{◌≡◌, ◌==◌, ◌+◌, ◌&&◌, arith, ℕ, ℤ, pos, Bool, true, false, List, [], ◌∷◌, ◌++◌, unwrap_or}
use Rattle.std.proofs.Common.{Option, Some, None, option_map, Result, Ok, Err, refl, sym, ap, subst, ◌∙◌, true≢false}
use Rattle.std.specs.List.{position}
use Rattle.std.proofs.lemmas.Option.{none-some}
use Rattle.event_machine.specs.declared.CallForm.{CallForm}
use Rattle.ada_tree.specs.declared.naming.NameId.{NameId}
use Rattle.ada_tree.specs.declared.naming.Span.{Span}
use Rattle.ada_tree.specs.PlainExpr.{PExpr}
use Rattle.ada_tree.specs.PlainStmt.{PArgs, PCall, PHead}
use Rattle.ada_tree.specs.PlainProgram.{PProgram}
use Rattle.ada_value.proofs.StaticLaws.{natural_integer}
use Rattle.ada_value.specs.declared.values.Value.{Value}
use Rattle.ada_value.specs.declared.values.Value.TheVariants.{Number}
use Rattle.ada_value.specs.declared.values.Raised.{Raised}
use Rattle.ada_value.specs.Values.{and_then, position_of}
use Rattle.ada_value.specs.Variables.{Variables}
use Rattle.ada_value.specs.Evaluating.{evaluated}
use Rattle.syn_event.specs.declared.numbering.TaskInfo.{TaskInfo}
use Rattle.syn_event.specs.declared.numbering.EntryInfo.{EntryInfo}
use Rattle.syn_event.specs.Numbering.{Numbering, task_named, entry_named, entry_at, owner_of}
use Rattle.task_model.specs.declared.parameters.FormalParameter.{FormalParameter}
use Rattle.task_model.specs.Setting.{Setting, entry_of, is_family, is_family_in, family_limits, index_in, member_index, parameters_of}
use Rattle.task_model.specs.Setting.{entry_parameters, Lists, lists_in, lists_of}
use Rattle.task_model.specs.Tasks.{Task, vars_of}
use Rattle.task_model.specs.Calls.{Called, called, called_with, openings, opened_objects, copied_back}
use Rattle.task_model.specs.Stands.{call_stand, steps_at}
use Rattle.task_laws.specs.translation.Translations.{Programs}
use Rattle.task_laws.specs.translation.Scopes.{SeeAlike}
use Rattle.task_laws.specs.statements.variables.Held.{AreInner}
use Rattle.task_laws.specs.translation.OldNames.{OldOption, old_none, old_some}
use Rattle.task_laws.specs.translation.OldTexts.{OldCall, OldHead}
use Rattle.task_laws.proofs.translation.Evaluating.{worth-same}
use Rattle.normal_laws.proofs.legality.checks.Facts as facts
use Rattle.replay_structure.proofs.spots.Ordered.{normal_is_in_order}
use Rattle.normal_laws.specs.existence.Laws.{IsLegalOriginal}
use Rattle.replay_structure.specs.legal.names.form_units.Inner.{inner_name}
use Rattle.replay_runs.specs.starts.Laws.{form_in}
use Rattle.replay_runs.specs.starts.Formals.{form_setting}
use Rattle.replay_runs.specs.controls.permits.Laws.{IndexIs}
use Rattle.replay_runs.specs.controls.formed.Laws.{IsCallFormed, IsHeadFormed}
use Rattle.replay_runs.specs.controls.meanings.Pairs.{IsOfForm}
use Rattle.replay_runs.proofs.controls.meanings.Aborts.{callee_found}
use Rattle.replay_runs.proofs.controls.meanings.Naming.{owner-below}
use Rattle.replay_runs.proofs.controls.meanings.Accepting.{entry-there}
use Rattle.replay_runs.proofs.controls.meanings.Called.{OldLists, lists_old, opens_alike}
use Rattle.collect_model.specs.Teller.{Teller}
use Rattle.collect_model.specs.Noting.{own_number}
use Rattle.collect_model.specs.Calling.{args_with, entry_called, member_called, call_telling}
use Rattle.collect_runs.specs.translation.Floors.{caller_parameter}
use Rattle.collect_runs.specs.telling.Texts.{Texts, teller, IsInteger, TellsMember, IsCallAlike, IsHeadAlike}
use Rattle.collect_runs.proofs.telling.Noting.{literal, taken}
use Rattle.collect_runs.proofs.forms.Members.{member-told}
use Rattle.collect_runs.specs.aborts.telling.Texts.{plain}
use Rattle.collect_runs.specs.aborts.starts.Texts.{abort_setting}
use Rattle.collect_runs.specs.aborts.forms.Texts.{names_added, texts_of}
use Rattle.collect_runs.specs.aborts.forms.Laws.{IsTold}
use Rattle.collect_runs.proofs.aborts.forms.Numbers.{entry-stays}
use Rattle.collect_runs.proofs.forms.Members.{index-of, index-after, index-inside}
use Rattle.collect_runs.proofs.forms.Forming.{found-front, lists-alike, member-worth}

-- ---- lists and members

-- with one more actual in front the lists of a call are the same but for that
lists-told : (numbers : Numbering) (e : ℕ) (own : PExpr) (args : Option PArgs) →
    lists_of numbers e (Some (args_with (is_family numbers e) own args)) ≡ record {
      index = (lists_of numbers e args).index;
      actuals = own ∷
          (lists_of numbers e args).actuals;
    }
lists-told numbers e own None = go (is_family numbers e)
  where
    go : (d : Bool) → lists_in d (args_with d own None) ≡ record { index = None; actuals = own ∷ [] }
    go true = refl
    go false = refl
lists-told numbers e own (Some args) = go (is_family numbers e)
  where
    go : (d : Bool) → lists_in d (args_with d own (Some args)) ≡ record { index = (lists_in d args).index; actuals = own ∷ (lists_in d args).actuals }
    go true = refl
    go false = refl

-- ---- a program

module _ (p : PProgram) (kept : ℕ → Bool) (h : IsLegalOriginal p) (text : IsTold p kept) where
  abbrev x : Texts
  x = plain (texts_of p kept)

  abbrev b : Programs
  b = (texts_of p kept).programs

  abbrev F : Setting
  F = form_setting p

  abbrev U : Setting
  U = abort_setting p

  -- a task and an entry of the normal form are found in the text
  task-there : (name : NameId) (k : ℕ) → task_named F.numbers name ≡ Some k → task_named U.numbers name ≡ Some k
  task-there name k e = found-front (λ (i : TaskInfo). i.name.0 == name.0) F.numbers.tasks _ k e

  entry-named-there : (t : ℕ) (name : NameId) (e : ℕ) → entry_named F.numbers t name ≡ Some e → entry_named U.numbers t name ≡ Some e
  entry-named-there t name e q = go (position (λ (i : EntryInfo). (i.owner == t) && (i.name.0 == name.0)) F.numbers.entries) refl q
    where
      go : (o : Option ℕ) → position (λ (i : EntryInfo). (i.owner == t) && (i.name.0 == name.0)) F.numbers.entries ≡ o → option_map
          (λ k. k + 1) o ≡ Some e → entry_named U.numbers t name ≡ Some e
      go None k j = absurd (none-some e j)
      go (Some n) k j = ap (option_map (λ k. k + 1)) (found-front (λ (i : EntryInfo). (i.owner == t) && (i.name.0 == name.0)) F.numbers.entries _ n k) ∙ j

  -- an entry of a task of the normal form is the same in the text
  same-entry : (t : ℕ) (name : NameId) (e : ℕ) → entry_named F.numbers t name ≡ Some e → entry_at U.numbers e ≡ entry_at F.numbers e
  same-entry t name e q = let i = entry-there F.numbers t name e q in entry-stays p h e i.0 i.1 ∙ sym i.1

  -- and its member is the same by an index that both see alike
  member-same : (e : ℕ) → entry_at U.numbers e ≡ entry_at F.numbers e → {V W : Variables} → SeeAlike b V W → {o : Option PExpr} → OldOption b o →
      member_index U W e o ≡ member_index F V e o
  member-same e same see old_none = refl
  member-same e same {V} {W} see (old_some d old) =
      ap (λ i. and_then (evaluated U.types W d) (λ v. index_in (family_limits i) (position_of v))) same
      ∙ ap (λ r. and_then r (λ v. index_in (family_limits (entry_at F.numbers e)) (position_of v))) (sym (worth-same b text.can.plainly.types see old))

  -- ---- calls

  module _ (t : ℕ) (fits : IsInteger t) (c : PCall) (formed : IsCallFormed p t c) (old : OldCall b c) (V W : Variables) (see : SeeAlike b V W) where
    abbrev k : ℕ
    k = formed.callee.task

    abbrev e : ℕ
    e = formed.entry.entry

    abbrev X : Teller
    X = teller x t

    abbrev lists : Lists
    lists = lists_of F.numbers e c.args

    abbrev fs : List FormalParameter
    fs = entry_parameters F e

    info : (i : EntryInfo) × (entry_at F.numbers e ≡ Some i)
    info = entry-there F.numbers k c.entry.name e formed.entry.found

    same : entry_at U.numbers e ≡ entry_at F.numbers e
    same = same-entry k c.entry.name e formed.entry.found

    old-lists : OldLists b lists
    old-lists = lists_old F.numbers e old.args

    abbrev outcome : Result ℤ Raised → Result (List Value) Raised → Result Called Raised
    outcome i r = and_then i (λ z. and_then r (λ vs. Ok record { entry = e; index = z; values = vs }))

    pub called-here : called F V c ≡ outcome (member_index F V e lists.index) (openings F.types V fs lists.actuals)
    called-here =
        ap (λ r. and_then r (λ o. called_with F V (entry_of F.numbers o c.entry.name) (lists_of F.numbers
        (entry_of F.numbers o c.entry.name) c.args))) (callee_found F V c.task k formed.callee.simple formed.callee.named)
        ∙ ap (λ m. called_with F V m (lists_of F.numbers m c.args)) (ap (λ o. unwrap_or o 0) formed.entry.found)

    entry-is : entry_called X c ≡ e
    entry-is = ap (λ o. entry_of F.numbers (unwrap_or o 0) c.entry.name) formed.callee.named ∙ ap (λ o. unwrap_or o 0) formed.entry.found

    -- the image's call, with its own number in front
    abbrev more : Span → Lists
    more s = record { index = lists.index; actuals = own_number X s ∷ lists.actuals }

    told-lists : (s : Span) → lists_of U.numbers e (call_telling X s c).args ≡ more s
    told-lists s =
        ap (λ n. lists_of U.numbers e (Some (args_with (is_family F.numbers n) (own_number X s) c.args))) entry-is
        ∙ ap (λ i. lists_of U.numbers e (Some (args_with (is_family_in i) (own_number X s) c.args))) (sym same)
        ∙ lists-told U.numbers e (own_number X s) c.args
        ∙ ap (λ (l : Lists). record { index = l.index; actuals = own_number X s ∷ l.actuals }) (lists-alike F.numbers U.numbers e c.args (ap is_family_in same))

    called-there : (s : Span) → called U W (call_telling X s c) ≡ outcome (member_index U W e lists.index) (openings U.types W (entry_parameters U e)
        (own_number X s ∷ lists.actuals))
    called-there s =
        ap (λ r. and_then r (λ o. called_with U W (entry_of U.numbers o c.entry.name) (lists_of U.numbers (entry_of U.numbers o c.entry.name)
        (call_telling X s c).args)))
        (callee_found U W c.task k formed.callee.simple (task-there c.task.name.name k formed.callee.named))
        ∙ ap (λ m. called_with U W m (lists_of U.numbers m (call_telling X s c).args)) (ap (λ o. unwrap_or o 0)
        (entry-named-there k c.entry.name e formed.entry.found))
        ∙ ap (λ l. called_with U W e l) (told-lists s)

    member-is : (s : Span) (z : ℤ) → IndexIs U.types W lists.index z → TellsMember U.types W (member_called X s c) z
    member-is s z is = subst (λ n. TellsMember U.types W (X.member n s (lists_of F.numbers n c.args).index) z) (sym entry-is) (member-told U.types W
        (form_in p) s e lists.index z is)

    owner-fits : IsInteger (owner_of F.numbers e)
    owner-fits =
        let l = owner-below F.numbers (normal_is_in_order p (facts.ordered p h)) e in
        natural_integer (owner_of F.numbers e) (omega (arith, l, text.few))

    pub call-alike : (z : ℤ) → IndexIs F.types V lists.index z → (i : Result ℤ Raised) → member_index F V e lists.index ≡ i → (r : Result (List Value) Raised) →
        openings F.types V fs lists.actuals ≡ r →
        (form : CallForm) → steps_at (call_stand form (outcome i r)) ≡ false → IsCallAlike x t c V W
    call-alike z is (Err a) j r q form rests = absurd (true≢false rests)
    call-alike z is (Ok y) j (Err a) q form rests = absurd (true≢false rests)
    call-alike z is (Ok y) j (Ok vs) q form rests =
        let o = opens_alike b text.can.plainly.types see fs old-lists.actuals vs q in
        let worth : z ≡ y = member-worth F V e lists.index z y is j in
        record {
          entry = e;
          index = y;
          values = vs;
          here = called-here ∙ ap (λ m. outcome m (openings F.types V fs lists.actuals)) j ∙ ap (outcome (Ok y)) q;
          there = λ s. called-there s ∙ ap (λ m. outcome m (openings U.types W (entry_parameters U e) (own_number X s ∷ lists.actuals)))
              (member-same e same see old-lists.index ∙ j)
              ∙ ap (λ gs. outcome (Ok y) (openings U.types W gs (own_number X s ∷ lists.actuals))) (text.formals e info.0 info.1)
              ∙ ap (outcome (Ok y)) (taken x text.can.plainly t W (names_added p).caller (own_number X s) (Number (pos t)) fs lists.actuals vs
              (literal U.types W t s fits) fits o.0);
          known = o.1;
          number = entry-is;
          member = λ s. member-is s y (index-after p (abort_setting p) kept h (names_added p).caller
              text.can.plainly.types text.can.plainly.names.caller see old-lists.index (subst (IndexIs F.types V lists.index) worth is));
          owner = refl;
          entry_fits = natural_integer e formed.entry.fits;
          owner_fits = owner-fits;
          copies = λ s us Z.
              ap (λ gs. copied_back gs (lists_of U.numbers e (call_telling X s c).args).actuals us Z) (text.formals e info.0 info.1)
              ∙ ap (λ (l : Lists). copied_back (caller_parameter (names_added p) U.types ∷ fs) l.actuals us Z) (told-lists s);
        }

  -- ---- accepts

  pub head-alike : (t : ℕ) (σ : Task) → IsOfForm p t σ → (d : PHead) → IsHeadFormed p t d → AreInner (inner_name p) d.formals → OldHead b d → (W : Variables) →
      SeeAlike b (vars_of σ) W → IsHeadAlike x t d (vars_of σ) W
  head-alike t σ is d formed inner old W see =
      let e = formed.entry.entry in
      let V : Variables = vars_of σ in
      let here : entry_of F.numbers t d.entry.name ≡ e = ap (λ o. unwrap_or o 0) formed.entry.found in
      let there : entry_of U.numbers t d.entry.name ≡ e = ap (λ o. unwrap_or o 0) (entry-named-there t d.entry.name e formed.entry.found) in
      let worth = index-of p (abort_setting p) kept h (names_added p).caller
      text.can.plainly.types text.can.plainly.names.caller t σ is see e old.index formed.index in
      record {
        entry = there ∙ sym here;
        number = refl;
        index = ap (λ n. member_index U W n d.index) there ∙ member-same e (same-entry t d.entry.name e formed.entry.found) see old.index ∙ sym (ap
            (λ n. member_index F V n d.index) here);
        entry_fits = subst IsInteger (sym here) (natural_integer e formed.entry.fits);
        told = λ z q own named vs s.
            let same : worth.0 ≡ z = member-worth F V (entry_of F.numbers t d.entry.name) d.index worth.0 z worth.1 q in
            member-told U.types (own ∷ (opened_objects U.types (parameters_of U.types d.formals) vs ++ W)) (form_in p) s
            (entry_of F.numbers t d.entry.name) d.index z
            (index-inside p (abort_setting p) kept h (names_added p).caller
            text.can.plainly.types text.can.plainly.names.caller t is.there see d.formals old.formals inner own named vs e old.index formed.index (subst
            (IndexIs F.types V d.index) same worth.1));
      }
