-- Calls in the normal form: where both tasks stand at theirs, and what then becomes of both.
use Rattle.std.proofs.Common.{◌≡◌, ℕ, suc, ◌+◌, ◌≤◌, ℤ, List, length, Option, Some, None, Ok, refl, sym, ap, subst, ◌∙◌, arith, length-append}
use Rattle.std.proofs.lemmas.List.{length-map}
use Rattle.ada_tree.specs.declared.naming.Span.{Span}
use Rattle.ada_tree.specs.declared.naming.Word.{Word}
use Rattle.ada_tree.specs.PlainExpr.{PExpr}
use Rattle.ada_tree.specs.PlainStmt.{PCall, PStmt, SCall, PStmts, no_stmt, stmt_then}
use Rattle.event_machine.specs.declared.CallForm.TheVariants.{Plain}
use Rattle.ada_value.specs.declared.values.Value.{Value}
use Rattle.ada_value.specs.Variables.{Variables}
use Rattle.task_model.specs.Setting.{Setting, entry_parameters}
use Rattle.task_model.specs.Frames.{Around, PFrame, control, in_front}
use Rattle.task_model.specs.Tasks.{Task, gone_to}
use Rattle.task_model.specs.Calls.{Called, called, opening_values}
use Rattle.task_model.specs.Stands.{call_stand}
use Rattle.task_model.specs.Rendezvous.{returned}
use Rattle.normal_model.specs.Making.{one, kept_subtypes}
use Rattle.normal_model.specs.Members.{chosen}
use Rattle.normal_model.specs.Calls.{entry_called, lists_called, slots_called, actuals_behind, actual_subtypes, indices_kept, actual_number, call_before, call_behind, call_to, call_subtypes, plain_image, flagged, part_taken}
use Rattle.normal_model.proofs.WalkLemmas.{in_front-joined}
use Rattle.task_laws.specs.translation.Translations.{Programs, Translation}
use Rattle.task_laws.specs.translation.OldTexts.{OldCall}
use Rattle.task_laws.specs.translation.Images.{something_there}
use Rattle.task_laws.specs.translation.Controls.{task_in, Under, Alike, are_around}
use Rattle.task_laws.specs.translation.Floors.{IsTranslation}
use Rattle.task_laws.proofs.translation.Frames.{sees-alike}
use Rattle.task_laws.proofs.translation.Locals.{go-there}
use Rattle.normal_laws.specs.runs.floors.Suited.{AreMade, AreCopied, none_copied, copied_then, IsCall}
use Rattle.normal_laws.specs.runs.floors.Preludes.{Reaches, reaches_here, Added, AreThere}
use Rattle.normal_laws.specs.runs.floors.Declared.{HaveSubtypes}
use Rattle.normal_laws.specs.runs.floors.inner.Met.{Catches, AreBack, CallMet, at_raise, at_call, Comes}
use Rattle.normal_laws.proofs.runs.floors.Declared.{subtypes-fit}
use Rattle.normal_laws.specs.runs.calls.inner.Calls.{IsEntryCalled, MeetsCall, meets_call, meets_none}
use Rattle.normal_laws.specs.runs.calls.inner.Returns.{HoldBack, HasCall, has_plain, gone_back}
use Rattle.normal_laws.proofs.runs.callees.Choosing.{reaches-behind}
use Rattle.normal_laws.proofs.runs.calls.Calling.{lists-are, call-comes}
use Rattle.normal_laws.proofs.runs.calls.CallForms.{Form, statement, form_of, other_of, has-call, stands-at, handed-at, other-at, form-met}
use Rattle.normal_laws.proofs.runs.calls.Returns.{copies}
use Rattle.normal_laws.proofs.runs.calls.Handing.{finals-fit, hand, copies_before, returned-before, returned-after}
use Rattle.normal_laws.proofs.runs.calls.Knowing.{called-known}

-- where the rows left of a task of the normal form come to others, its variables but those of the call may have changed
pub record Goes (x : Translation) (added : Added x.text.programs x.text.programs.original) (s : Span) (c : PCall) (n : ℕ) (asked : IsCall x.text.programs c) (r : Called) (values : List Value) (p : Around) (o : List PFrame) (V : Variables) (p' : Around) (o' : List PFrame)
    (from : Task) (m : ℕ) (i : List ℤ) (out : List ℕ) (goal : PStmts) : Type 0 where
  pub vars : Variables
  pub rest : PStmts
  pub under : Under x p o V p' o' vars
  pub hold : HoldBack added vars (entry_parameters x.text.programs.original r.entry) (slots_called x.text.programs.original c) asked.actuals values (actual_number x.text.programs.original s c n)
  pub reach : Reaches from (gone_to goal (task_in x.text.programs.made m i out (control rest p' o' vars)))

copied-length : (b : Programs) {xs : List _} {es : List PExpr} → AreCopied b xs es → length (actual_subtypes xs es) ≡ length es
copied-length b none_copied = refl
copied-length b (copied_then x xs e es h more) = ap suc (copied-length b more)

module _ (x : Translation) (laws : IsTranslation x) (made : AreMade x.text.programs) (added : Added x.text.programs x.text.programs.original) (s : Span) (c : PCall) (asked : IsCall x.text.programs c)
    (old : OldCall x.text.programs c) (n : ℕ) (subtypes : HaveSubtypes x.text.programs added (call_subtypes x.text.programs.original s c) n)
    (m : ℕ) (i : List ℤ) (out : List ℕ) (p p' : Around) (o o' : List PFrame) (V : Variables) where
  abbrev b : Programs
  b = x.text.programs

  abbrev g : Setting
  g = x.text.programs.original

  abbrev h : Setting
  h = x.text.programs.made

  abbrev left : PStmt → PStmts → Task
  left next q = task_in g m i out (control (stmt_then next q) p o V)

  abbrev right : PStmts → Variables → Task
  right r W = task_in h m i out (control r p' o' W)

  lists-there : lists_called g c ≡ record { index = asked.index; actuals = asked.actuals }
  lists-there = lists-are asked.lists g.numbers (entry_called g c) refl

  behind-is : call_behind g s c n ≡ actuals_behind g s (slots_called g c) asked.actuals (actual_number g s c n)
  behind-is = ap (λ l. actuals_behind g s (slots_called g c) l.actuals (actual_number g s c n)) lists-there

  -- the actuals' variables are behind the others of the call
  pub actuals-fit : actual_number g s c n + length asked.actuals ≤ n + length (call_subtypes g s c)
  actuals-fit =
      let a1 : length (call_subtypes g s c) ≡ length (kept_subtypes (indices_kept g s c)) + length (actual_subtypes (slots_called g c) (lists_called g c).actuals) =
      length-append (kept_subtypes (indices_kept g s c)) (actual_subtypes (slots_called g c) (lists_called g c).actuals) in
      let a2 : length (kept_subtypes (indices_kept g s c)) ≡ length (indices_kept g s c) = length-map (indices_kept g s c) (λ k. k.subtype) in
      let a3 : length (actual_subtypes (slots_called g c) (lists_called g c).actuals) ≡ length asked.actuals =
      ap (λ l. length (actual_subtypes (slots_called g c) l.actuals)) lists-there ∙ copied-length b asked.copies in
      omega arith

  -- a call returns: the values go to their variables, and from these to the actuals, before what stands behind the call
  pub returns-on : {next next' : PStmt} {l l' more : PStmts} (w : Word) → HasCall next c l → HasCall next' (call_to g s c n w) more → (q q' behind : PStmts) (W : Variables) (r : Called) →
      x.text.image l l' → x.text.image q q' → Under x p o V p' o' W → AreThere added W → called g V c ≡ Ok r → called h W (call_to g s c n w) ≡ Ok r → IsEntryCalled b added s c n asked r.entry →
      (values : List Value) → AreBack b (entry_parameters g r.entry) values →
      ((vars : Variables) → Under x p o V p' o' vars → AreThere added vars →
      HoldBack added vars (entry_parameters g r.entry) (slots_called g c) asked.actuals values (actual_number g s c n) →
      Goes x added s c n asked r values p o V p' o' (gone_to (in_front more behind) (right (stmt_then next' behind) vars)) m i out (in_front (call_behind g s c n) (in_front l' q'))) →
      Catches x (returned values (left next q)) (returned values (right (stmt_then next' behind) W))
  returns-on {next} {next'} {l} {l'} {more} w has has' q q' behind W r iml im u there e e' facts values back on =
      let fit : actual_number g s c n + length asked.actuals ≤ n + length (call_subtypes g s c) = actuals-fit in
      let all : n + length (call_subtypes g s c) ≤ added.count = subtypes-fit b added subtypes in
      let given = hand x laws g added s p p' o o' V (finals-fit b added facts.slots asked.copies (omega arith) back) W u there in
      let goes = on given.vars given.under given.there given.hold in
      let caught = copies x laws g added m i out p p' o o' s (stmt_then next q) goes.rest (in_front l q) (in_front l' q') (laws.images.joined l l' q q' iml im) goes.vars goes.hold V goes.vars goes.under (λ k j. refl) in
      subst (λ a. Catches x a (returned values (right (stmt_then next' behind) W))) (sym (returned-before b added s c n asked m i out p o V q values r facts has e))
      (subst (λ a. Catches x (gone_back (in_front l q) (left next q) (copies_before b added s c n asked m i out p o V q values r facts).vars (copies_before b added s c n asked m i out p o V q values r facts).stopped) a)
      (sym (returned-after b added s c n asked m i out p' o' W behind values r facts w has' e' given.vars given.copied))
      (record {
        reached = caught.reached;
        reach = reaches-behind goes.reach (subst (λ a. Reaches (gone_to (in_front a (in_front l' q')) (right goes.rest goes.vars)) caught.reached) (sym behind-is) caught.reach);
        after = caught.after;
      }))

  -- where nothing stands between the call and the assignments
  goes-on : (r : Called) (values : List Value) (next : PStmt) (more behind goal : PStmts) (vars : Variables) → in_front more behind ≡ goal → Under x p o V p' o' vars →
      HoldBack added vars (entry_parameters g r.entry) (slots_called g c) asked.actuals values (actual_number g s c n) →
      Goes x added s c n asked r values p o V p' o' (gone_to (in_front more behind) (right (stmt_then next behind) vars)) m i out goal
  goes-on r values next more behind goal vars e u hold = record {
    vars = vars;
    rest = stmt_then next behind;
    under = u;
    hold = hold;
    reach = subst (λ a. Reaches (gone_to (in_front more behind) (right (stmt_then next behind) vars)) (gone_to a (right (stmt_then next behind) vars))) e (reaches_here (gone_to (in_front more behind) (right (stmt_then next behind) vars)));
  }

  -- ---- plain calls

  plain-met : (q q' : PStmts) (r : Called) (w : Word) (W : Variables) → x.text.image q q' → Under x p o V p' o' W → AreThere added W → called g V c ≡ Ok r → called h W (call_to g s c n w) ≡ Ok r →
      IsEntryCalled b added s c n asked r.entry → CallMet x (left (SCall c s) q) (right (stmt_then (SCall (call_to g s c n w) s) (in_front (call_behind g s c n) q')) W)
  plain-met q q' r w W im u there e e' facts = record {
    form = Plain;
    result = r;
    stands = ap (call_stand Plain) e;
    stands_too = ap (call_stand Plain) e';
    handed = ap (λ a. opening_values (Some a)) e;
    handed_too = ap (λ a. opening_values (Some a)) e';
    known = called-known b made.types (sees-alike x laws u) c old r e;
    around = are_around m i out (stmt_then (SCall c s) q) (stmt_then (SCall (call_to g s c n w) s) (in_front (call_behind g s c n) q')) u;
    returns = λ values back. returns-on w (has_plain c s) (has_plain (call_to g s c n w) s) q q' (in_front (call_behind g s c n) q') W r laws.images.empty im u there e e' facts values back
        (λ vars u1 there1 hold. goes-on r values (SCall (call_to g s c n w) s) no_stmt (in_front (call_behind g s c n) q') (in_front (call_behind g s c n) q') vars refl u1 hold);
    otherwise = λ f. absurd (let none : ⊥ = cc in none);
    delayed = λ f. absurd (let none : ⊥ = cc in none);
  }

  pub plain-comes : (q q' : PStmts) (W : Variables) → x.text.image q q' → Under x p o V p' o' W → AreThere added W →
      Comes x (left (SCall c s) q) (right (in_front (plain_image g s c n) q') W)
  plain-comes q q' W im u there =
      subst (λ a. Comes x (left (SCall c s) q) (right a W)) (sym row)
      (go (call-comes x laws made added s c asked old n subtypes m i out p p' o o' V W what (λ w. something_there _ _) (in_front (call_behind g s c n) q') u there))
    where
      what : Word → PStmts
      what w = one (SCall (call_to g s c n w) s)

      row : in_front (plain_image g s c n) q' ≡ in_front (call_before g s c n) (in_front (chosen g s c.task n (λ w. one (SCall (call_to g s c n w) s))) (in_front (call_behind g s c n) q'))
      row = in_front-joined (call_before g s c n) (in_front (chosen g s c.task n (λ w. one (SCall (call_to g s c n w) s))) (call_behind g s c n)) q'
          ∙ ap (in_front (call_before g s c n)) (in_front-joined (chosen g s c.task n (λ w. one (SCall (call_to g s c n w) s))) (call_behind g s c n) q')

      from : Task
      from = right (in_front (call_before g s c n) (in_front (chosen g s c.task n (λ w. one (SCall (call_to g s c n w) s))) (in_front (call_behind g s c n) q'))) W

      go : MeetsCall x added m i out p o V p' o' from s c n asked (λ w. one (SCall (call_to g s c n w) s)) (in_front (call_behind g s c n) q') → Comes x (left (SCall c s) q) from
      go (meets_call r w W1 e e' facts u1 there1 reach) = record { reached = _; reach = reach; meets = at_call (plain-met q q' r w W1 im u1 there1 e e' facts) }
      go (meets_none a r W1 e u1 reach steps stop) =
          record { reached = _; reach = reach; meets = at_raise a (ap (call_stand Plain) e) (are_around m i out (stmt_then (SCall c s) q) r u1) steps stop }

  -- ---- conditional and timed calls of a known callee

  module _ (f : Form) (l l' other other' q q' : PStmts) (iml : x.text.image l l') (imo : x.text.image other other') (im : x.text.image q q') where
    abbrev old_stmt : PStmt
    old_stmt = statement s f c l other

    -- what stands behind the call in the image: the assignments to the actuals, and then the image of what stands behind it
    abbrev met : PStmts
    met = in_front (call_behind g s c n) l'

    -- the statement of a member's branch, and what stands behind it: of a known callee the parts stand in the statement
    abbrev pub what_of : Option PExpr → Word → PStmts
    what_of None w = one (statement s f (call_to g s c n w) met other')
    what_of (Some e) w = one (statement s f (call_to g s c n w) (flagged g s c n 1) (flagged g s c n 2))

    abbrev pub behind_of : Option PExpr → PStmts
    behind_of None = q'
    behind_of (Some e) = stmt_then (part_taken g s c n met other') q'

    -- the other part is entered
    pub entered-alike : (first : PStmts) (W : Variables) → Under x p o V p' o' W → Alike x (other_of f (left old_stmt q)) (gone_to (in_front other' q') (right first W))
    entered-alike first W u =
        subst (λ a. Alike x a (gone_to (in_front other' q') (right first W))) (sym (other-at s m i out f g c l other q p o V))
        (go-there x laws m i out (stmt_then old_stmt q) first (in_front other q) (in_front other' q') (laws.images.joined other other' q q' imo im) u)

    pub known-met : (r : Called) (w : Word) (W : Variables) → Under x p o V p' o' W → AreThere added W → called g V c ≡ Ok r → called h W (call_to g s c n w) ≡ Ok r →
        IsEntryCalled b added s c n asked r.entry → CallMet x (left old_stmt q) (right (stmt_then (statement s f (call_to g s c n w) met other') q') W)
    known-met r w W u there e e' facts =
        form-met x f r (stands-at s m i out f g c l other q p o V ∙ ap (call_stand (form_of f)) e) (stands-at s m i out f h (call_to g s c n w) met other' q' p' o' W ∙ ap (call_stand (form_of f)) e')
        (handed-at s m i out f g c l other q p o V ∙ ap (λ a. opening_values (Some a)) e) (handed-at s m i out f h (call_to g s c n w) met other' q' p' o' W ∙ ap (λ a. opening_values (Some a)) e')
        (called-known b made.types (sees-alike x laws u) c old r e)
        (are_around m i out (stmt_then old_stmt q) (stmt_then (statement s f (call_to g s c n w) met other') q') u)
        (λ values back. returns-on w (has-call s f c l other) (has-call s f (call_to g s c n w) met other') q q' q' W r iml im u there e e' facts values back
        (λ vars u1 there1 hold. goes-on r values (statement s f (call_to g s c n w) met other') met q' (in_front (call_behind g s c n) (in_front l' q')) vars (in_front-joined (call_behind g s c n) l' q') u1 hold))
        (record {
          reached = gone_to (in_front other' q') (right (stmt_then (statement s f (call_to g s c n w) met other') q') W);
          reach = subst (λ a. Reaches a (gone_to (in_front other' q') (right (stmt_then (statement s f (call_to g s c n w) met other') q') W)))
              (sym (other-at s m i out f h (call_to g s c n w) met other' q' p' o' W)) (reaches_here _);
          after = entered-alike (stmt_then (statement s f (call_to g s c n w) met other') q') W u;
        })
