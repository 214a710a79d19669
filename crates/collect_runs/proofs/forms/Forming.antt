-- The tasks of a legal program evaluate calls and accepts alike in the normal form and in its collecting text.
use Rattle.std.proofs.Common.{◌≡◌, ◌==◌, ◌≤◌, ◌+◌, ◌&&◌, arith, ℕ, ℤ, pos, Bool, true, false, if◌then◌else◌, List, [], ◌∷◌, ◌++◌, length, unwrap_or, Option, Some, None, option_map, Result, Ok, Err, refl, sym, ap, subst, ◌∙◌, true≢false}
use Rattle.std.specs.List.{position}
use Rattle.ada_static_rules.proofs.found_twice.FirstOfTwo.{position_push}
use Rattle.std.proofs.lemmas.Option.{none-some}
use Rattle.common_lemmas.proofs.Options.{some_same}
use Rattle.event_machine.specs.declared.CallForm.{CallForm}
use Rattle.event_machine.specs.declared.CallForm.TheVariants as form_is
use Rattle.ada_tree.specs.declared.naming.NameId.{NameId}
use Rattle.ada_tree.specs.declared.naming.Span.{Span}
use Rattle.ada_tree.specs.Every.{alts_count}
use Rattle.ada_tree.specs.PlainExpr.{PExpr}
use Rattle.ada_tree.specs.PlainStmt.{PArgs, PCall, PHead, SNull, SAssign, SDelay, SExit, SRaise, SAbort, SCall, SAccept, SWait, SConditional, STimed, SPut, SPutLine, SNewLine, SGet, SIf, SCase, SBlock, SLoop, PStmts, no_stmt, stmt_then, PMaybe, accepting, PAlts, AAccept, ADelay, ATerminate}
use Rattle.ada_tree.specs.PlainProgram.{PProgram}
use Rattle.ada_static_rules.specs.StaticValue.{first_of_two}
use Rattle.ada_value.proofs.StaticLaws.{natural_integer}
use Rattle.ada_value.specs.declared.values.Value.{Value}
use Rattle.ada_value.specs.declared.values.Value.TheVariants.{Number}
use Rattle.ada_value.specs.declared.values.Raised.{Raised}
use Rattle.ada_value.specs.declared.values.Raised.TheVariants as raised
use Rattle.ada_value.specs.Values.{and_then, position_of, lies_in}
use Rattle.ada_value.specs.Variables.{Variables}
use Rattle.ada_value.specs.Evaluating.{evaluated}
use Rattle.syn_event.specs.declared.numbering.TaskInfo.{TaskInfo}
use Rattle.syn_event.specs.declared.numbering.EntryInfo.{EntryInfo}
use Rattle.syn_event.specs.Numbering.{Numbering, task_named, entry_named, entry_at, owner_of}
use Rattle.task_model.specs.declared.parameters.FormalParameter.{FormalParameter}
use Rattle.task_model.specs.Setting.{Setting, entry_of, is_family, is_family_in, family_limits, index_in, member_index, parameters_of, entry_parameters, Lists, lists_in, lists_of}
use Rattle.task_model.specs.Frames.{Control}
use Rattle.task_model.specs.Tasks.{Task, vars_of}
use Rattle.task_model.specs.Calls.{Called, called, called_with, call_in, openings, opened_objects, copied_back}
use Rattle.task_model.specs.Stands.{call_stand, stand_with, steps_at, can_step}
use Rattle.task_laws.specs.statements.Each.{Loops, InStmts}
use Rattle.task_laws.proofs.invariants.Variables.{ok_path}
use Rattle.task_laws.proofs.statements.Carried.{exits_are_in_loops}
use Rattle.task_laws.specs.translation.Translations.{Programs}
use Rattle.task_laws.specs.translation.Scopes.{SeeAlike}
use Rattle.task_laws.specs.statements.variables.Held.{AreInner, InAlternatives, DeclaresInner}
use Rattle.task_laws.specs.translation.OldNames.{OldOption, old_none, old_some}
use Rattle.task_laws.specs.translation.OldTexts.{OldCall, OldHead}
use Rattle.task_laws.proofs.translation.Evaluating.{worth-same}
use Rattle.task_laws.specs.translation.Controls.{task_in}
use Rattle.normal_laws.proofs.legality.checks.Facts as facts
use Rattle.replay_structure.proofs.spots.Ordered.{normal_is_in_order}
use Rattle.normal_laws.specs.existence.Laws.{IsLegalOriginal}
use Rattle.replay_structure.specs.legal.names.form_units.Inner.{inner_name}
use Rattle.replay_runs.specs.starts.Laws.{form_in}
use Rattle.replay_runs.specs.starts.Formals.{form_setting}
use Rattle.replay_runs.specs.controls.permits.Laws.{IndexIs}
use Rattle.replay_runs.specs.controls.formed.Laws.{IsCallFormed, IsHeadFormed, AreHeadsFormed, IsFormed}
use Rattle.replay_runs.specs.controls.meanings.Pairs.{IsOfForm}
use Rattle.replay_runs.proofs.controls.meanings.Pairs.{tasks_stay}
use Rattle.replay_runs.proofs.controls.meanings.Aborts.{callee_found}
use Rattle.replay_runs.proofs.controls.meanings.Naming.{owner-below}
use Rattle.replay_runs.proofs.controls.meanings.Accepting.{entry-there}
use Rattle.replay_runs.proofs.controls.meanings.Indices.{checked_index, member_checked}
use Rattle.replay_runs.proofs.controls.meanings.Called.{OldLists, lists_old, opens_alike}
use Rattle.collect_model.specs.Teller.{Teller}
use Rattle.collect_model.specs.Noting.{own_number}
use Rattle.collect_model.specs.Calling.{args_with, entry_called, member_called, call_telling}
use Rattle.collect_runs.specs.translation.Floors.{caller_parameter}
use Rattle.collect_runs.specs.telling.Texts.{Texts, teller, IsInteger, TellsMember, IsCallAlike, IsHeadAlike, HasHead, has_first, has_later, Accepts, at_accept, at_wait}
use Rattle.collect_runs.specs.telling.Forms.{Form, StaysSo}
use Rattle.collect_runs.proofs.telling.Noting.{literal, taken}
use Rattle.collect_runs.specs.starts.Texts.{text_setting, names_added, texts_of}
use Rattle.collect_runs.specs.forms.Laws.{IsTold}
use Rattle.collect_runs.proofs.forms.Formals.{entry-stays}
use Rattle.collect_runs.proofs.forms.Members.{member-told, index-of, index-after, index-inside}

-- ---- what is found in front of one more

pub found-front : {A : Type 0} (test : A → Bool) (xs : List A) (a : A) (k : ℕ) → position test xs ≡ Some k → position test (xs ++ a ∷ []) ≡ Some k
found-front test xs a k h = position_push test xs a ∙ ap (λ o. first_of_two o (if test a then Some (length xs) else None)) h

-- ---- calls and accepts of a row

module _ (p : PProgram) (t : ℕ) (loops : Loops) where
  -- the call at which a row begins is formed
  pub call-formed : (r : PStmts) → InStmts (IsFormed p t) loops r → (c : PCall) → call_in r ≡ Some c → IsCallFormed p t c
  call-formed no_stmt h c e = absurd (none-some c e)
  call-formed (stmt_then (SCall d s) r) h c e = subst (IsCallFormed p t) (some_same e) h.0.0
  call-formed (stmt_then (SConditional d l m s) r) h c e = subst (IsCallFormed p t) (some_same e) h.0.0
  call-formed (stmt_then (STimed d l n m s) r) h c e = subst (IsCallFormed p t) (some_same e) h.0.0
  call-formed (stmt_then (SNull s) r) h c e = absurd (none-some c e)
  call-formed (stmt_then (SAssign a b s) r) h c e = absurd (none-some c e)
  call-formed (stmt_then (SDelay d s) r) h c e = absurd (none-some c e)
  call-formed (stmt_then (SExit a b s) r) h c e = absurd (none-some c e)
  call-formed (stmt_then (SRaise a s) r) h c e = absurd (none-some c e)
  call-formed (stmt_then (SAbort a s) r) h c e = absurd (none-some c e)
  call-formed (stmt_then (SAccept a s) r) h c e = absurd (none-some c e)
  call-formed (stmt_then (SWait a b s) r) h c e = absurd (none-some c e)
  call-formed (stmt_then (SPut a s) r) h c e = absurd (none-some c e)
  call-formed (stmt_then (SPutLine a s) r) h c e = absurd (none-some c e)
  call-formed (stmt_then (SNewLine s) r) h c e = absurd (none-some c e)
  call-formed (stmt_then (SGet a s) r) h c e = absurd (none-some c e)
  call-formed (stmt_then (SIf a b s) r) h c e = absurd (none-some c e)
  call-formed (stmt_then (SCase a b d s) r) h c e = absurd (none-some c e)
  call-formed (stmt_then (SBlock a s) r) h c e = absurd (none-some c e)
  call-formed (stmt_then (SLoop a b l s) r) h c e = absurd (none-some c e)

  heads-formed : (h : PHead) {alts : PAlts} → HasHead h alts → AreHeadsFormed p t alts → InAlternatives (inner_name p) alts → IsHeadFormed p t h × AreInner (inner_name p) h.formals
  heads-formed h (has_first g o l s rest) f n = (f.0, n.0)
  heads-formed h (has_later g (AAccept (accepting d m) l) s rest at) f n = heads-formed h at f.1 n.1
  heads-formed h (has_later g (ADelay d l) s rest at) f n = heads-formed h at f n.1
  heads-formed h (has_later g ATerminate s rest at) f n = heads-formed h at f n.1

  -- the accepts at which a row begins are formed, and their formals have inner names
  pub head-formed : (h : PHead) {r : PStmts} → Accepts h r → InStmts (IsFormed p t) loops r → InStmts (DeclaresInner (inner_name p)) loops r → IsHeadFormed p t h × AreInner (inner_name p) h.formals
  head-formed h (at_accept o s rest) f n = (f.0.0, n.0.0)
  head-formed h (at_wait alts o s rest at) f n = heads-formed h at f.0.0.heads n.0.0

  -- where a task rests at a call it could be evaluated
  pub call-rests : (g : Setting) (n : ℕ) (i : List ℤ) (w : List ℕ) (a : Control) (c : PCall) → call_in a.top.rest ≡ Some c → can_step (task_in g n i w a) ≡ false → (form : CallForm) × (steps_at (call_stand form (called g a.vars c)) ≡ false)
  call-rests g n i w a c e rests = go a.top.rest e rests
    where
      go : (r : PStmts) → call_in r ≡ Some c → steps_at (stand_with (task_in g n i w a) r a.top.place) ≡ false → (form : CallForm) × (steps_at (call_stand form (called g a.vars c)) ≡ false)
      go (stmt_then (SCall d s) r) k h = (form_is.Plain, subst (λ u. steps_at (call_stand form_is.Plain (called g a.vars u)) ≡ false) (some_same k) h)
      go (stmt_then (SConditional d l m s) r) k h = (form_is.Conditional, subst (λ u. steps_at (call_stand form_is.Conditional (called g a.vars u)) ≡ false) (some_same k) h)
      go (stmt_then (STimed d l v m s) r) k h = (form_is.Timed, subst (λ u. steps_at (call_stand form_is.Timed (called g a.vars u)) ≡ false) (some_same k) h)
      go (stmt_then (SNull s) r) k h = absurd (none-some c k)
      go (stmt_then (SAssign x b s) r) k h = absurd (none-some c k)
      go (stmt_then (SDelay d s) r) k h = absurd (none-some c k)
      go (stmt_then (SExit x b s) r) k h = absurd (none-some c k)
      go (stmt_then (SRaise x s) r) k h = absurd (none-some c k)
      go (stmt_then (SAbort x s) r) k h = absurd (none-some c k)
      go (stmt_then (SAccept x s) r) k h = absurd (none-some c k)
      go (stmt_then (SWait x b s) r) k h = absurd (none-some c k)
      go (stmt_then (SPut x s) r) k h = absurd (none-some c k)
      go (stmt_then (SPutLine x s) r) k h = absurd (none-some c k)
      go (stmt_then (SNewLine s) r) k h = absurd (none-some c k)
      go (stmt_then (SGet x s) r) k h = absurd (none-some c k)
      go (stmt_then (SIf x b s) r) k h = absurd (none-some c k)
      go (stmt_then (SCase x b d s) r) k h = absurd (none-some c k)
      go (stmt_then (SBlock x s) r) k h = absurd (none-some c k)
      go (stmt_then (SLoop x b l s) r) k h = absurd (none-some c k)
      go no_stmt k h = absurd (none-some c k)

-- ---- lists and members

-- with one more actual in front the lists of a call are the same but for that
lists-told : (numbers : Numbering) (e : ℕ) (own : PExpr) (args : Option PArgs) →
    lists_of numbers e (Some (args_with (is_family numbers e) own args)) ≡ record { index = (lists_of numbers e args).index; actuals = own ∷ (lists_of numbers e args).actuals }
lists-told numbers e own None = go (is_family numbers e)
  where
    go : (d : Bool) → lists_in d (args_with d own None) ≡ record { index = None; actuals = own ∷ [] }
    go true = refl
    go false = refl
lists-told numbers e own (Some args) = go (is_family numbers e)
  where
    go : (d : Bool) → lists_in d (args_with d own (Some args)) ≡ record { index = (lists_in d args).index; actuals = own ∷ (lists_in d args).actuals }
    go true = refl
    go false = refl

-- a call is told by its lists alone, where it is a family's in both numberings or in none
pub lists-alike : (numbers more : Numbering) (e : ℕ) (args : Option PArgs) → is_family more e ≡ is_family numbers e → lists_of more e args ≡ lists_of numbers e args
lists-alike numbers more e None same = refl
lists-alike numbers more e (Some args) same = ap (λ d. lists_in d args) same

-- where the index is worth a member of the entry, that is its number
pub member-worth : (g : Setting) (V : Variables) (e : ℕ) (o : Option PExpr) (z y : ℤ) → IndexIs g.types V o z → member_index g V e o ≡ Ok y → z ≡ y
member-worth g V e o z y is worth = go o (sym (member_checked g V e o z is) ∙ worth)
  where
    by_test : (c : Bool) → (if c then Ok z else Err raised.Constraint) ≡ Ok y → z ≡ y
    by_test true q = ok_path q
    by_test false q = cc

    go : (o : Option PExpr) → checked_index (family_limits (entry_at g.numbers e)) o z ≡ Ok y → z ≡ y
    go None q = ok_path q
    go (Some d) q = by_test (lies_in (family_limits (entry_at g.numbers e)) z) q

-- ---- a program

module _ (p : PProgram) (kept : ℕ → Bool) (h : IsLegalOriginal p) (text : IsTold p kept) where
  abbrev x : Texts
  x = texts_of p kept

  abbrev b : Programs
  b = (texts_of p kept).programs

  abbrev F : Setting
  F = form_setting p

  abbrev U : Setting
  U = text_setting p

  -- a task and an entry of the normal form are found in the text
  task-there : (name : NameId) (k : ℕ) → task_named F.numbers name ≡ Some k → task_named U.numbers name ≡ Some k
  task-there name k e = found-front (λ (i : TaskInfo). i.name.0 == name.0) F.numbers.tasks _ k e

  entry-named-there : (t : ℕ) (name : NameId) (e : ℕ) → entry_named F.numbers t name ≡ Some e → entry_named U.numbers t name ≡ Some e
  entry-named-there t name e q = go (position (λ (i : EntryInfo). (i.owner == t) && (i.name.0 == name.0)) F.numbers.entries) refl q
    where
      go : (o : Option ℕ) → position (λ (i : EntryInfo). (i.owner == t) && (i.name.0 == name.0)) F.numbers.entries ≡ o → option_map (λ k. k + 1) o ≡ Some e → entry_named U.numbers t name ≡ Some e
      go None k j = absurd (none-some e j)
      go (Some n) k j = ap (option_map (λ k. k + 1)) (found-front (λ (i : EntryInfo). (i.owner == t) && (i.name.0 == name.0)) F.numbers.entries _ n k) ∙ j

  -- an entry of a task of the normal form is the same in the text
  same-entry : (t : ℕ) (name : NameId) (e : ℕ) → entry_named F.numbers t name ≡ Some e → entry_at U.numbers e ≡ entry_at F.numbers e
  same-entry t name e q = let i = entry-there F.numbers t name e q in entry-stays p h e i.0 i.1 ∙ sym i.1

  -- and its member is the same by an index that both see alike
  member-same : (e : ℕ) → entry_at U.numbers e ≡ entry_at F.numbers e → {V W : Variables} → SeeAlike b V W → {o : Option PExpr} → OldOption b o → member_index U W e o ≡ member_index F V e o
  member-same e same see old_none = refl
  member-same e same {V} {W} see (old_some d old) =
      ap (λ i. and_then (evaluated U.types W d) (λ v. index_in (family_limits i) (position_of v))) same
      ∙ ap (λ r. and_then r (λ v. index_in (family_limits (entry_at F.numbers e)) (position_of v))) (sym (worth-same b text.can.types see old))

  -- ---- calls

  module _ (t : ℕ) (fits : IsInteger t) (c : PCall) (formed : IsCallFormed p t c) (old : OldCall b c) (V W : Variables) (see : SeeAlike b V W) where
    abbrev k : ℕ
    k = formed.callee.task

    abbrev e : ℕ
    e = formed.entry.entry

    abbrev X : Teller
    X = teller x t

    abbrev lists : Lists
    lists = lists_of F.numbers e c.args

    abbrev fs : List FormalParameter
    fs = entry_parameters F e

    info : (i : EntryInfo) × (entry_at F.numbers e ≡ Some i)
    info = entry-there F.numbers k c.entry.name e formed.entry.found

    same : entry_at U.numbers e ≡ entry_at F.numbers e
    same = same-entry k c.entry.name e formed.entry.found

    old-lists : OldLists b lists
    old-lists = lists_old F.numbers e old.args

    abbrev outcome : Result ℤ Raised → Result (List Value) Raised → Result Called Raised
    outcome i r = and_then i (λ z. and_then r (λ vs. Ok record { entry = e; index = z; values = vs }))

    pub called-here : called F V c ≡ outcome (member_index F V e lists.index) (openings F.types V fs lists.actuals)
    called-here =
        ap (λ r. and_then r (λ o. called_with F V (entry_of F.numbers o c.entry.name) (lists_of F.numbers (entry_of F.numbers o c.entry.name) c.args))) (callee_found F V c.task k formed.callee.simple formed.callee.named)
        ∙ ap (λ m. called_with F V m (lists_of F.numbers m c.args)) (ap (λ o. unwrap_or o 0) formed.entry.found)

    entry-is : entry_called X c ≡ e
    entry-is = ap (λ o. entry_of F.numbers (unwrap_or o 0) c.entry.name) formed.callee.named ∙ ap (λ o. unwrap_or o 0) formed.entry.found

    -- the image's call, with its own number in front
    abbrev more : Span → Lists
    more s = record { index = lists.index; actuals = own_number X s ∷ lists.actuals }

    told-lists : (s : Span) → lists_of U.numbers e (call_telling X s c).args ≡ more s
    told-lists s =
        ap (λ n. lists_of U.numbers e (Some (args_with (is_family F.numbers n) (own_number X s) c.args))) entry-is
        ∙ ap (λ i. lists_of U.numbers e (Some (args_with (is_family_in i) (own_number X s) c.args))) (sym same)
        ∙ lists-told U.numbers e (own_number X s) c.args
        ∙ ap (λ (l : Lists). record { index = l.index; actuals = own_number X s ∷ l.actuals }) (lists-alike F.numbers U.numbers e c.args (ap is_family_in same))

    called-there : (s : Span) → called U W (call_telling X s c) ≡ outcome (member_index U W e lists.index) (openings U.types W (entry_parameters U e) (own_number X s ∷ lists.actuals))
    called-there s =
        ap (λ r. and_then r (λ o. called_with U W (entry_of U.numbers o c.entry.name) (lists_of U.numbers (entry_of U.numbers o c.entry.name) (call_telling X s c).args)))
        (callee_found U W c.task k formed.callee.simple (task-there c.task.name.name k formed.callee.named))
        ∙ ap (λ m. called_with U W m (lists_of U.numbers m (call_telling X s c).args)) (ap (λ o. unwrap_or o 0) (entry-named-there k c.entry.name e formed.entry.found))
        ∙ ap (λ l. called_with U W e l) (told-lists s)

    member-is : (s : Span) (z : ℤ) → IndexIs U.types W lists.index z → TellsMember U.types W (member_called X s c) z
    member-is s z is = subst (λ n. TellsMember U.types W (X.member n s (lists_of F.numbers n c.args).index) z) (sym entry-is) (member-told U.types W (form_in p) s e lists.index z is)

    owner-fits : IsInteger (owner_of F.numbers e)
    owner-fits =
        let l = owner-below F.numbers (normal_is_in_order p (facts.ordered p h)) e in
        natural_integer (owner_of F.numbers e) (omega (arith, l, text.few))

    pub call-alike : (z : ℤ) → IndexIs F.types V lists.index z → (i : Result ℤ Raised) → member_index F V e lists.index ≡ i → (r : Result (List Value) Raised) →
        openings F.types V fs lists.actuals ≡ r →
        (form : CallForm) → steps_at (call_stand form (outcome i r)) ≡ false → IsCallAlike x t c V W
    call-alike z is (Err a) j r q form rests = absurd (true≢false rests)
    call-alike z is (Ok y) j (Err a) q form rests = absurd (true≢false rests)
    call-alike z is (Ok y) j (Ok vs) q form rests =
        let o = opens_alike b text.can.types see fs old-lists.actuals vs q in
        let worth : z ≡ y = member-worth F V e lists.index z y is j in
        record {
          entry = e;
          index = y;
          values = vs;
          here = called-here ∙ ap (λ m. outcome m (openings F.types V fs lists.actuals)) j ∙ ap (outcome (Ok y)) q;
          there = λ s. called-there s ∙ ap (λ m. outcome m (openings U.types W (entry_parameters U e) (own_number X s ∷ lists.actuals))) (member-same e same see old-lists.index ∙ j)
              ∙ ap (λ gs. outcome (Ok y) (openings U.types W gs (own_number X s ∷ lists.actuals))) (text.formals e info.0 info.1)
              ∙ ap (outcome (Ok y)) (taken x text.can t W (names_added p).caller (own_number X s) (Number (pos t)) fs lists.actuals vs (literal U.types W t s fits) fits o.0);
          known = o.1;
          number = entry-is;
          member = λ s. member-is s y (index-after p (text_setting p) kept h (names_added p).caller
              text.can.types text.can.names.caller see old-lists.index (subst (IndexIs F.types V lists.index) worth is));
          owner = refl;
          entry_fits = natural_integer e formed.entry.fits;
          owner_fits = owner-fits;
          copies = λ s us Z.
              ap (λ gs. copied_back gs (lists_of U.numbers e (call_telling X s c).args).actuals us Z) (text.formals e info.0 info.1)
              ∙ ap (λ (l : Lists). copied_back (caller_parameter (names_added p) U.types ∷ fs) l.actuals us Z) (told-lists s);
        }

  -- ---- accepts

  pub head-alike : (t : ℕ) (σ : Task) → IsOfForm p t σ → (d : PHead) → IsHeadFormed p t d → AreInner (inner_name p) d.formals → OldHead b d → (W : Variables) →
      SeeAlike b (vars_of σ) W → IsHeadAlike x t d (vars_of σ) W
  head-alike t σ is d formed inner old W see =
      let e = formed.entry.entry in
      let V : Variables = vars_of σ in
      let here : entry_of F.numbers t d.entry.name ≡ e = ap (λ o. unwrap_or o 0) formed.entry.found in
      let there : entry_of U.numbers t d.entry.name ≡ e = ap (λ o. unwrap_or o 0) (entry-named-there t d.entry.name e formed.entry.found) in
      let worth = index-of p (text_setting p) kept h (names_added p).caller text.can.types text.can.names.caller t σ is see e old.index formed.index in
      record {
        entry = there ∙ sym here;
        number = refl;
        index = ap (λ n. member_index U W n d.index) there ∙ member-same e (same-entry t d.entry.name e formed.entry.found) see old.index ∙ sym (ap (λ n. member_index F V n d.index) here);
        entry_fits = subst IsInteger (sym here) (natural_integer e formed.entry.fits);
        told = λ z q own named vs s.
            let same : worth.0 ≡ z = member-worth F V (entry_of F.numbers t d.entry.name) d.index worth.0 z worth.1 q in
            member-told U.types (own ∷ (opened_objects U.types (parameters_of U.types d.formals) vs ++ W)) (form_in p) s (entry_of F.numbers t d.entry.name) d.index z
            (index-inside p (text_setting p) kept h (names_added p).caller
            text.can.types text.can.names.caller t is.there see d.formals old.formals inner own named vs e old.index formed.index (subst (IndexIs F.types V d.index) same worth.1));
      }

  -- ---- tasks

  pub stays : (t : ℕ) (σ : Task) → IsOfForm p t σ → StaysSo (IsOfForm p t) σ
  stays t σ own =
      let a = tasks_stay p t σ own in
      record { stepped = a.stepped; accepted = a.accepted; finished = a.finished; resumed = a.resumed; raised = a.raised; took_else = a.took_else; took_delay = a.took_delay }

  pub task-fits : (t : ℕ) (σ : Task) → IsOfForm p t σ → IsInteger t
  task-fits t σ own = natural_integer t (let l = own.there in omega (arith, l, text.few))

  pub waits-few : (t : ℕ) (loops : Loops) (r : PStmts) → InStmts (IsFormed p t) loops r → (alts : PAlts) (o : PMaybe) (s : Span) (rest : PStmts) → r ≡ stmt_then (SWait alts o s) rest → (n : ℕ) → n ≤ alts_count alts → IsInteger n
  waits-few t loops r f alts o s rest e n l =
      let g = subst (λ u. InStmts (IsFormed p t) loops u) e f in
      natural_integer n (let m = g.0.0.few in omega (arith, l, m))

  abbrev pub legal_form : Form (texts_of p kept)
  legal_form = record {
    IsSo = IsOfForm p;
    number = λ t σ own. own.number;
    fits = task-fits;
    left = λ t σ own. own.left;
    exits = λ t σ own. exits_are_in_loops σ own.exits;
    stays = stays;
    calls = λ t i w a own rests c e old W see.
        let formed = call-formed p t _ a.top.rest own.formed.rest c e in
        let r = call-rests p t [] F t i w a c e rests in
        let lists = lists_of F.numbers formed.entry.entry c.args in
        let index = index-of p (text_setting p) kept h (names_added p).caller
        text.can.types text.can.names.caller t (task_in F t i w a) own see formed.entry.entry (lists_old F.numbers formed.entry.entry old.args).index formed.index in
        call-alike t (task-fits t _ own) c formed old a.vars W see index.0 index.1 (member_index F a.vars formed.entry.entry lists.index) refl
        (openings F.types a.vars (entry_parameters F formed.entry.entry) lists.actuals) refl r.0
        (sym (ap (λ k. steps_at (call_stand r.0 k)) (called-here t (task-fits t _ own) c formed old a.vars W see)) ∙ r.1);
    heads = λ t i w a own rests d at old W see. let f = head-formed p t _ d at own.formed.rest own.variables.inner.rest in head-alike t (task_in F t i w a) own d f.0 f.1 old W see;
    delays = λ t i w a own alts o s rest e n l. waits-few t _ a.top.rest own.formed.rest alts o s rest e n l;
  }
