-- Accepts and selective waits: both tasks stand at theirs with the same choices, or both raise the same.
use Rattle.std.proofs.Common.{◌≡◌, ℕ, ◌+◌, ℤ, Bool, true, false, ◌==◌, if◌then◌else◌, List, [], ◌∷◌, length, Option, Some, None, option_map, Result, Ok, refl, true≢false, sym, ap, subst, ◌∙◌}
use Rattle.std.specs.Prelude.{find}
use Rattle.std.specs.List.{list_any}
use Rattle.ada_tree.specs.declared.naming.Span.{Span}
use Rattle.ada_tree.specs.PlainExpr.{PExpr}
use Rattle.ada_tree.specs.PlainDecl.{PDecl}
use Rattle.ada_tree.specs.PlainStmt.{PHead, PStmt, SAccept, SWait, SRaise, PStmts, no_stmt, stmt_then, PMaybe, absent, present, accepting, alternative, PAltKind, AAccept, ADelay, ATerminate, PAlts}
use Rattle.event_machine.specs.declared.Choice.{Choice}
use Rattle.event_machine.specs.Offers.{is_else, is_delay}
use Rattle.ada_value.specs.declared.values.Value.{Value}
use Rattle.ada_value.specs.declared.values.Raised.{Raised}
use Rattle.ada_value.specs.declared.values.Raised.TheVariants as raised
use Rattle.ada_value.specs.Values.{and_then, is_true_value}
use Rattle.ada_value.specs.Variables.{Variables}
use Rattle.task_model.specs.Setting.{Setting, entry_of, member_index}
use Rattle.task_model.specs.Frames.{Around, PFrame, control, in_front}
use Rattle.task_model.specs.Tasks.{Task, entered, stmts_or_none, or_raised}
use Rattle.task_model.specs.Waits.{Open, Accepts, alternatives_open, choices_of, is_present, accepts_member, first_accepting, alternative_for, delays_with, delay_here, delay_part, delay_stmts}
use Rattle.task_model.specs.Stands.{choices_stand, wait_stand, stand_of, stepped}
use Rattle.task_model.specs.Rendezvous.{alternative_opened, took_else, took_delay}
use Rattle.normal_model.specs.Ranges.{word_at}
use Rattle.normal_model.specs.Making.{one, variable, kept_before, kept_subtypes}
use Rattle.normal_model.specs.Waits.{accept_kept, head_left, kind_left, behind_guard, guard_then, all_guards, closed_test, raised_unless}
use Rattle.normal_model.specs.Variables.{statement_variables}
use Rattle.normal_model.specs.Walk.{after_kind, after_alts, alts_leads, inside_maybe, inside_kind, inside_alts, image_of}
use Rattle.normal_model.specs.NormalStmts.{normal_rewriter}
use Rattle.normal_model.proofs.WalkLemmas.{in_front-joined}
use Rattle.normal_model.proofs.VariablesLemmas.{normal-adds, alts-begin, maybe-begins}
use Rattle.task_laws.specs.translation.Translations.{Translation}
use Rattle.task_laws.specs.translation.OldTexts.{OldHead, OldMaybe, old_absent, old_present, OldAlts, old_no_alt, old_alt, OldKind, old_accepts, old_delays, old_terminates}
use Rattle.task_laws.specs.translation.Images.{IsSomething, something_there}
use Rattle.task_laws.specs.translation.Controls.{task_in, Under, inside, Alike, alike, AreInside, are_inside, are_around}
use Rattle.task_laws.specs.translation.Floors.{IsTranslation}
use Rattle.task_laws.proofs.translation.Locals.{go-there}
use Rattle.normal_laws.specs.runs.floors.Suited.{AreMade, IsHead, HasAlternative, has_alternative, Rewritten, rewritten_unit, asked_of}
use Rattle.normal_laws.specs.runs.floors.NormalLists.{Begin, behind_stmt, Normal, normal_none, normal_lists}
use Rattle.normal_laws.specs.runs.floors.NormalFloors.{normal}
use Rattle.normal_laws.specs.runs.floors.Meetings.{none_named, AreValues, are_before}
use Rattle.normal_laws.specs.runs.floors.Preludes.{reaches_here, Added, AreThere}
use Rattle.normal_laws.specs.runs.floors.Declared.{AreDeclared}
use Rattle.normal_laws.specs.runs.floors.inner.Met.{Meets, at_raise, at_wait, Comes}
use Rattle.normal_laws.proofs.runs.floors.Rows.{part-begins, walked, normal-images}
use Rattle.normal_laws.proofs.runs.floors.Floors.{normal-translates}
use Rattle.normal_laws.proofs.runs.floors.Meetings.{body-opens, accept-opens}
use Rattle.normal_laws.proofs.runs.floors.Preludes.{reaches_to}
use Rattle.normal_laws.proofs.runs.floors.Declared.{begun-subtypes}
use Rattle.normal_laws.proofs.runs.floors.Static.{entry-named}
use Rattle.normal_laws.proofs.runs.callees.Choosing.{reaches-behind}
use Rattle.normal_laws.proofs.runs.waits.Indexes.{MeetsIndex, index_made, index_raises}
use Rattle.normal_laws.proofs.runs.waits.Alternatives.{accepts_alike, delays_alike, terminate_alike, MaybeOpen, none_open, some_open, OpensAlike, no_opens, open_more, row-behind, maybe-image, head-comes, AreTold, MeetsAlts, alts_made, alts_raise, alts-comes}
use Rattle.normal_laws.proofs.runs.waits.Choices.{choices-alike, find-alike, all_closed, truth-of, closed-told}
use Rattle.normal_laws.proofs.runs.waits.Offering.{no-choice, unguarded-opens, none-alike}

module _ (w : Rewritten) (made : AreMade w.programs) (added : Added w.programs w.programs.original) (declared : AreDeclared w added) (m : ℕ) (number : m ≡ w.number) (i : List ℤ) (out : List ℕ)
    (p p' : Around) (o o' : List PFrame) (V : Variables) where
  abbrev x : Translation
  x = normal (normal_lists w) added

  abbrev laws : IsTranslation x
  laws = normal-translates (normal_lists w) (normal-images w) made.types added

  abbrev g : Setting
  g = w.programs.original

  abbrev h : Setting
  h = w.programs.made

  abbrev left : PStmts → Task
  left r = task_in g m i out (control r p o V)

  abbrev right : PStmts → Variables → Task
  right r W = task_in h m i out (control r p' o' W)

  abbrev In : Variables → Type 0
  In W = Under x p o V p' o' W

  inside-alike : (σ κ : Task) → AreInside x σ κ → Alike x σ κ
  inside-alike σ κ (are_inside n j a r r' im u) = alike n j a (control r _ _ _) (control r' _ _ _) (inside r r' im u)

  -- ---- what is opened

  module _ (s s' : PStmt) (q q' : PStmts) (im : Normal w q q') where
    opened-alike : {ro ro' : Option Open} → MaybeOpen w ro ro' → (W : Variables) → In W → (caller : ℕ) (values : List Value) → AreValues w.programs values →
        Alike x (alternative_opened caller ro values (left (stmt_then s q))) (alternative_opened caller ro' values (right (stmt_then s' q') W))
    opened-alike none_open W u caller values known =
        inside-alike _ _ (body-opens (normal_lists w) (normal-images w) made.types added m i out s s' q q' no_stmt no_stmt no_stmt no_stmt caller none_named known normal_none normal_none im u)
    opened-alike (some_open op op' (accepts_alike e z t t' l l' d d' f old il id)) W u caller values known =
        inside-alike _ _ (accept-opens (normal_lists w) (normal-images w) made.types added (left (stmt_then s q)) (right (stmt_then s' q') W) (are_before m i out s s' q q' im u) caller e z t t' f old values known l l' d d' il id)
    opened-alike (some_open op op' (delays_alike k d l l' c)) W u caller values known =
        inside-alike _ _ (body-opens (normal_lists w) (normal-images w) made.types added m i out s s' q q' no_stmt no_stmt no_stmt no_stmt caller none_named known normal_none normal_none im u)
    opened-alike (some_open op op' terminate_alike) W u caller values known =
        inside-alike _ _ (body-opens (normal_lists w) (normal-images w) made.types added m i out s s' q q' no_stmt no_stmt no_stmt no_stmt caller none_named known normal_none normal_none im u)

    -- both stand before statements with the same choices, of which there are some
    choices-met : (W : Variables) → In W → (cs : List Choice) → (cs ≡ [] → ⊥) → stand_of (left (stmt_then s q)) ≡ choices_stand cs → stand_of (right (stmt_then s' q') W) ≡ choices_stand cs →
        ((e : ℕ) (z : ℤ) → MaybeOpen w (alternative_for (left (stmt_then s q)) e z) (alternative_for (right (stmt_then s' q') W) e z)) →
        (list_any is_else cs ≡ true → Alike x (took_else (left (stmt_then s q))) (took_else (right (stmt_then s' q') W))) →
        ((k : ℕ) → list_any (is_delay k) cs ≡ true → Alike x (took_delay k (left (stmt_then s q))) (took_delay k (right (stmt_then s' q') W))) → Meets x (left (stmt_then s q)) (right (stmt_then s' q') W)
    choices-met W u [] some a c opened other delayed = absurd (some refl)
    choices-met W u (d ∷ ds) some a c opened other delayed = at_wait (record {
      choices = d ∷ ds;
      stands = a;
      stands_too = c;
      around = are_around m i out (stmt_then s q) (stmt_then s' q') u;
      accepts = λ caller e z values known any. opened-alike (opened e z) W u caller values known;
      otherwise = other;
      delayed = delayed;
    })

  -- ---- accepts

  module _ (q : PHead) (a : PMaybe) (s : Span) (hd : OldHead w.programs q) (ask : IsHead w.programs w.first w.number q) (ma : OldMaybe (asked_of w) a) (vars : List PDecl)
      (begins : Begin (behind_stmt w (SAccept (accepting q a) s) vars) w.vars) (r r' : PStmts) (im : Normal w r r') where
    abbrev t1 : List PDecl
    t1 = statement_variables (rewritten_unit w) vars (SAccept (accepting q a) s)

    abbrev q' : PHead
    q' = head_left (rewritten_unit w) s q (length vars)

    abbrev a' : PMaybe
    a' = inside_maybe (normal_rewriter (rewritten_unit w)) a t1

    abbrev entry : ℕ
    entry = entry_of g.numbers m q.entry.name

    abbrev opens_by : ℕ → PHead → PMaybe → Result ℤ Raised → Result (List Open) Raised
    opens_by e c body z = and_then (and_then z (λ y. Ok (Accepts e y c (stmts_or_none body) no_stmt))) (λ op. Ok (op ∷ []))

    accept-met : (z : ℤ) (W : Variables) → In W → member_index g V entry q.index ≡ Ok z → member_index h W entry q'.index ≡ Ok z →
        Meets x (left (stmt_then (SAccept (accepting q a) s) r)) (right (stmt_then (SAccept (accepting q' a') s) r') W)
    accept-met z W u e e' =
        choices-met (SAccept (accepting q a) s) (SAccept (accepting q' a') s) r r' im W u (choices_of false (Accepts entry z q (stmts_or_none a) no_stmt ∷ [])) (λ f. absurd (let none : ⊥ = cc in none))
        (ap (λ y. wait_stand false (opens_by entry q a y)) e)
        (ap (λ y. wait_stand false (opens_by y q' a' (member_index h W y q'.index))) (entry-named w.programs made m q.entry.name) ∙ ap (λ y. wait_stand false (opens_by entry q' a' y)) e')
        (λ e1 z1. subst (λ y. MaybeOpen w y (alternative_for (right (stmt_then (SAccept (accepting q' a') s) r') W) e1 z1)) (sym (ap (λ y. first_accepting e1 z1 (opens_by entry q a y)) e))
        (subst (λ y. MaybeOpen w (find (accepts_member e1 z1) (Accepts entry z q (stmts_or_none a) no_stmt ∷ [])) y)
        (sym (ap (λ y. first_accepting e1 z1 (opens_by y q' a' (member_index h W y q'.index))) (entry-named w.programs made m q.entry.name) ∙ ap (λ y. first_accepting e1 z1 (opens_by entry q' a' y)) e'))
        (find-alike w e1 z1 (open_more _ _ [] [] (accepts_alike entry z q q' (stmts_or_none a) (stmts_or_none a') no_stmt no_stmt refl hd.formals
        (maybe-image w made added declared m number i out p p' o o' V r r' ma t1 begins) normal_none) no_opens))))
        (λ f. absurd (let none : ⊥ = cc in none)) (λ k f. absurd (let none : ⊥ = cc in none))

    pub accept-comes : (W : Variables) → In W → AreThere added W → Comes x (left (stmt_then (SAccept (accepting q a) s) r)) (right (in_front (image_of (normal_rewriter (rewritten_unit w)) (SAccept (accepting q a) s) vars) r') W)
    accept-comes W u still =
        subst (λ c. Comes x (left (stmt_then (SAccept (accepting q a) s) r)) (right c W)) (sym (in_front-joined (kept_before g s (accept_kept (rewritten_unit w) s q) (length vars)) (one (SAccept (accepting q' a') s)) r'))
        (go (head-comes w made added declared m number i out p p' o o' V r r' s (something_there (SAccept (accepting q' a') s) r') q hd ask (length vars)
        (begun-subtypes w added declared s (kept_subtypes (accept_kept (rewritten_unit w) s q)) vars (part-begins w (maybe-begins (normal_rewriter (rewritten_unit w)) (normal-adds (rewritten_unit w)) a t1) begins)) W u still))
      where
        from : Task
        from = right (in_front (kept_before g s (accept_kept (rewritten_unit w) s q) (length vars)) (stmt_then (SAccept (accepting q' a') s) r')) W

        go : {later : ℕ} → MeetsIndex x laws made added m i out p p' o o' V from (stmt_then (SAccept (accepting q' a') s) r') entry q.index q'.index (length vars) later W → Comes x (left (stmt_then (SAccept (accepting q a) s) r)) from
        go (index_made z W1 res again u1 still1 reach same) = record { reached = _; reach = reach; meets = accept-met z W1 u1 res (again W1 u1 (λ j m1. refl)) }
        go (index_raises e res stop) = record {
          reached = right stop.rest stop.vars;
          reach = stop.reach;
          meets = at_raise e (ap (λ y. wait_stand false (opens_by entry q a y)) res) (are_around m i out (stmt_then (SAccept (accepting q a) s) r) stop.rest stop.under) stop.stands stop.stop;
        }

  -- ---- selective waits

  -- the statements behind a delay
  delay-image : (s : Span) {what : PAltKind} → OldKind (asked_of w) what → (t : List PDecl) → Begin (after_kind (normal_rewriter (rewritten_unit w)) what t) w.vars → (n : ℕ) (it : Bool) {l l' : PStmts} → Normal w l l' →
      Normal w (delay_here (delay_part what) it l) (delay_here (delay_part (kind_left (rewritten_unit w) s (inside_kind (normal_rewriter (rewritten_unit w)) what t) n)) it l')
  delay-image s (old_accepts q a l hd ask ma ls) t begins n it im = im
  delay-image s (old_delays d l ls) t begins n true im = walked w ls t begins
  delay-image s (old_delays d l ls) t begins n false im = im
  delay-image s old_terminates t begins n it im = im

  delays-number : (s : Span) (what : PAltKind) (t : List PDecl) (n k : ℕ) → delays_with (kind_left (rewritten_unit w) s (inside_kind (normal_rewriter (rewritten_unit w)) what t) n) k ≡ delays_with what k
  delays-number s (AAccept (accepting q a) l) t n k = refl
  delays-number s (ADelay d l) t n k = refl
  delays-number s ATerminate t n k = refl

  delays-image : {alts : PAlts} → OldAlts (asked_of w) alts → (t : List PDecl) → Begin (after_alts (normal_rewriter (rewritten_unit w)) alts t) w.vars → (k d : ℕ) →
      Normal w (delay_stmts alts k d) (delay_stmts (inside_alts (normal_rewriter (rewritten_unit w)) alts t) k d)
  delays-image old_no_alt t begins k d = normal_none
  delays-image (old_alt guard what s rest og okind orest) t begins k d =
      let r = normal_rewriter (rewritten_unit w) in
      let t1 : List PDecl = r.entered_alternative t (alternative guard what s) in
      let t2 : List PDecl = after_kind r what t1 in
      subst (λ j. Normal w (delay_here (delay_part what) (d == k + 1) (delay_stmts rest (delays_with what k) d))
      (delay_here (delay_part (kind_left (rewritten_unit w) s (inside_kind r what t1) (behind_guard guard (length t)))) (d == k + 1) (delay_stmts (inside_alts r rest t2) j d)))
      (sym (delays-number s what t1 (behind_guard guard (length t)) k))
      (delay-image s okind t1 (part-begins w (alts-begin r (normal-adds (rewritten_unit w)) rest t2) begins) (behind_guard guard (length t)) (d == k + 1) (delays-image orest t2 begins (delays_with what k) d))

  module _ (alts : PAlts) (oth : PMaybe) (s : Span) (first : HasAlternative alts) (oa : OldAlts (asked_of w) alts) (om : OldMaybe (asked_of w) oth) (vars : List PDecl)
      (begins : Begin (behind_stmt w (SWait alts oth s) vars) w.vars) (q q' : PStmts) (im : Normal w q q') where
    abbrev alts' : PAlts
    alts' = inside_alts (normal_rewriter (rewritten_unit w)) alts vars

    abbrev oth' : PMaybe
    oth' = inside_maybe (normal_rewriter (rewritten_unit w)) oth (after_alts (normal_rewriter (rewritten_unit w)) alts vars)

    abbrev here : PStmts
    here = stmt_then (SWait alts oth s) q

    abbrev there : PStmts
    there = stmt_then (SWait alts' oth' s) q'

    alts-begun : Begin (after_alts (normal_rewriter (rewritten_unit w)) alts vars) w.vars
    alts-begun = part-begins w (maybe-begins (normal_rewriter (rewritten_unit w)) (normal-adds (rewritten_unit w)) oth _) begins

    other-image : Normal w (stmts_or_none oth) (stmts_or_none oth')
    other-image = maybe-image w made added declared m number i out p p' o o' V here there om (after_alts (normal_rewriter (rewritten_unit w)) alts vars) begins

    present-same : {c : PMaybe} → OldMaybe (asked_of w) c → (t : List PDecl) → is_present (inside_maybe (normal_rewriter (rewritten_unit w)) c t) ≡ is_present c
    present-same old_absent t = refl
    present-same (old_present l old) t = refl

    -- both stand at their waits, where one can go on there
    wait-met : (W : Variables) → In W → (os os' : List Open) → (choices_of (is_present oth) os ≡ [] → ⊥) → alternatives_open (left here) alts 0 ≡ Ok os → alternatives_open (right there W) alts' 0 ≡ Ok os' → OpensAlike w os os' → Meets x (left here) (right there W)
    wait-met W u os os' some e e' a =
        choices-met (SWait alts oth s) (SWait alts' oth' s) q q' im W u (choices_of (is_present oth) os) some (ap (λ y. wait_stand (is_present oth) y) e)
        (ap (λ y. wait_stand (is_present oth') y) e' ∙ ap (λ y. choices_stand (choices_of y os')) (present-same om (after_alts (normal_rewriter (rewritten_unit w)) alts vars)) ∙ ap choices_stand (sym (choices-alike w (is_present oth) a)))
        (λ e1 z1. subst (λ y. MaybeOpen w y (alternative_for (right there W) e1 z1)) (sym (ap (λ y. first_accepting e1 z1 y) e))
        (subst (λ y. MaybeOpen w (find (accepts_member e1 z1) os) y) (sym (ap (λ y. first_accepting e1 z1 y) e')) (find-alike w e1 z1 a)))
        (λ f. go-there x laws m i out here there (in_front (stmts_or_none oth) q) (in_front (stmts_or_none oth') q') (laws.images.joined _ _ q q' other-image im) u)
        (λ k f. go-there x laws m i out here there (in_front (delay_stmts alts 0 k) q) (in_front (delay_stmts alts' 0 k) q') (laws.images.joined _ _ q q' (delays-image oa vars alts-begun 0 k) im) u)

    -- without a test in front
    straight : (W : Variables) → In W → (os os' : List Open) → (choices_of (is_present oth) os ≡ [] → ⊥) → alternatives_open (left here) alts 0 ≡ Ok os → alternatives_open (right there W) alts' 0 ≡ Ok os' → OpensAlike w os os' → Comes x (left here) (right there W)
    straight W u os os' some e e' a = record { reached = right there W; reach = reaches_here (right there W); meets = wait-met W u os os' some e e' a }

    closed-none : (os : List Open) → all_closed os ≡ true → os ≡ []
    closed-none [] e = refl
    closed-none (op ∷ ops) e = cc

    not-all : (os : List Open) → all_closed os ≡ false → os ≡ [] → ⊥
    not-all [] e f = true≢false e
    not-all (op ∷ ops) e f = cc

    -- the test raises where all are closed
    tested : (e : PExpr) (es : List PExpr) → is_present oth ≡ false → (W : Variables) → In W → (os os' : List Open) → alternatives_open (left here) alts 0 ≡ Ok os → alternatives_open (right there W) alts' 0 ≡ Ok os' →
        OpensAlike w os os' → AreTold h W (e ∷ es) os → Comes x (left here) (right (in_front (raised_unless s (e ∷ es)) there) W)
    tested e es no_else W u os os' a a' pairs told = go (all_closed os) refl
      where
        from : Task
        from = right (in_front (raised_unless s (e ∷ es)) there) W

        raising : PStmts
        raising = one (SRaise (Some (word_at s (record { 0 = 8 }))) s)

        step : (t : Bool) → all_closed os ≡ t → stepped from ≡ or_raised (λ branch. entered (stmts_or_none branch) there from) from (if t then Ok (present raising) else Ok absent)
        step t f =
            ap (λ r. or_raised (λ branch. entered (stmts_or_none branch) there from) from (and_then (and_then r (λ y. Ok (is_true_value y))) (λ y. if y then Ok (present raising) else Ok absent))) (closed-told h W s told)
            ∙ ap (λ y. or_raised (λ branch. entered (stmts_or_none branch) there from) from (if y then Ok (present raising) else Ok absent)) (truth-of (all_closed os) ∙ f)

        go : (t : Bool) → all_closed os ≡ t → Comes x (left here) from
        go true f = record {
          reached = right (in_front raising there) W;
          reach = reaches_to refl (step true f) refl (reaches_here _);
          meets = at_raise raised.Program
              (ap (λ y. wait_stand (is_present oth) y) a ∙ ap (λ y. choices_stand (choices_of (is_present oth) y)) (closed-none os f) ∙ ap (λ y. choices_stand (choices_of y [])) no_else)
              (are_around m i out here (in_front raising there) u) refl refl;
        }
        go false f = record { reached = right there W; reach = reaches_to refl (step false f) refl (reaches_here _); meets = wait-met W u os os' (λ c. not-all os f (no-choice (is_present oth) os c).0) a a' pairs }

    -- where each alternative has a guard there is one, since there is an alternative
    some-guards : {xs : PAlts} → HasAlternative xs → all_guards (inside_alts (normal_rewriter (rewritten_unit w)) xs vars) ≡ Some [] → ⊥
    some-guards (has_alternative (alternative guard what sp) rest) e = go (option_map (λ d. variable g sp (length vars)) guard) (all_guards (inside_alts (normal_rewriter (rewritten_unit w)) rest _)) e
      where
        go : (d : Option PExpr) (gs : Option (List PExpr)) → guard_then d gs ≡ Some [] → ⊥
        go None gs h = cc
        go (Some d) None h = cc
        go (Some d) (Some gs) h = cc

    -- by whether a test stands in front
    closed-comes : (c' : PMaybe) → is_present c' ≡ is_present oth → (gs : Option (List PExpr)) → all_guards alts' ≡ gs → (W : Variables) → In W → (os os' : List Open) → alternatives_open (left here) alts 0 ≡ Ok os →
        alternatives_open (right there W) alts' 0 ≡ Ok os' → OpensAlike w os os' → ((es : List PExpr) → all_guards alts' ≡ Some es → AreTold h W es os) → Comes x (left here) (right (in_front (closed_test s c' gs) there) W)
    closed-comes (present l) f gs e W u os os' a a' pairs told = straight W u os os' (λ c. true≢false (f ∙ (no-choice (is_present oth) os c).1)) a a' pairs
    closed-comes absent f None e W u os os' a a' pairs told =
        straight W u os os' (λ c. unguarded-opens (right there W) alts' 0 e (a' ∙ ap (λ y. Ok y) (none-alike w pairs (no-choice (is_present oth) os c).0))) a a' pairs
    closed-comes absent f (Some []) e W u os os' a a' pairs told = absurd (some-guards first e)
    closed-comes absent f (Some (d ∷ ds)) e W u os os' a a' pairs told = tested d ds (sym f) W u os os' a a' pairs (told (d ∷ ds) e)

    pub wait-comes : (W : Variables) → In W → AreThere added W → Comes x (left here) (right (in_front (image_of (normal_rewriter (rewritten_unit w)) (SWait alts oth s) vars) q') W)
    wait-comes W u still =
        subst (λ c. Comes x (left here) (right c W)) (sym row)
        (go (alts-comes w made added declared m number i out p p' o o' V here there oa vars alts-begun 0 goal-row W u still))
      where
        test : PStmts
        test = closed_test s oth' (all_guards alts')

        goal-row : IsSomething (in_front test there)
        goal-row = row-behind w made added declared m number i out p p' o o' V here there test (something_there (SWait alts' oth' s) q')

        leads : PStmts
        leads = alts_leads (normal_rewriter (rewritten_unit w)) alts vars

        row : in_front (image_of (normal_rewriter (rewritten_unit w)) (SWait alts oth s) vars) q' ≡ in_front leads (in_front test there)
        row = in_front-joined leads (in_front test (one (SWait alts' oth' s))) q' ∙ ap (in_front leads) (in_front-joined test (one (SWait alts' oth' s)) q')

        go : {n later : ℕ} → MeetsAlts w made added declared m number i out p p' o o' V here there (right (in_front leads (in_front test there)) W) (in_front test there) alts alts' 0 n later W →
            Comes x (left here) (right (in_front leads (in_front test there)) W)
        go (alts_made os os' W1 res again pairs told u1 still1 reach same) =
            let c = closed-comes oth' (present-same om (after_alts (normal_rewriter (rewritten_unit w)) alts vars)) (all_guards alts') refl W1 u1 os os' res (again W1 u1 (λ j m1. refl)) pairs (λ es e. told es e W1 (λ j m1. refl)) in
            record { reached = c.reached; reach = reaches-behind reach c.reach; meets = c.meets }
        go (alts_raise e res stop) = record {
          reached = right stop.rest stop.vars;
          reach = stop.reach;
          meets = at_raise e (ap (λ y. wait_stand (is_present oth) y) res) (are_around m i out here stop.rest stop.under) stop.stands stop.stop;
        }
