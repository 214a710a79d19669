-- Where a task and its image are based both take the same local steps; and where both go on behind a statement, or an exception is raised in both, they come
-- to where they are based again.
use Rattle.std.proofs.Common.{true≢false, ◌≡◌, ℕ, ℤ, true, List, [], ◌∷◌, Option, Some, None, refl, sym, ap, ◌∙◌, subst}
use Rattle.ada_tree.specs.PlainStmt.{SNull, PStmts, no_stmt, stmt_then, PHandlers, handler_then}
use Rattle.ada_value.specs.declared.values.Raised.{Raised}
use Rattle.ada_value.specs.Variables.{Variables}
use Rattle.task_model.specs.Frames.{Around, OwnBody, Block, Handling, PFrame, Control, control, settled, handler_for, unit_with, raised_in}
use Rattle.task_model.specs.Tasks.{Task, vars_of, gone_to, raised_there}
use Rattle.task_model.specs.Stands.{Steps, stand_of, steps_at, can_step, stepped}
use Rattle.task_laws.specs.statements.Blocks.{HasLeftBlocks}
use Rattle.task_laws.proofs.statements.Blocks.{tasks_leave_blocks}
use Rattle.task_laws.specs.translation.Translations.{Translation}
use Rattle.task_laws.specs.translation.OldTexts.{only_names}
use Rattle.task_laws.specs.translation.Controls.{task_in, Under, on_floor, in_block, in_handler, in_endless, in_while, in_count, inside, behind, Alike, alike, IsAtLocal, at_statement, at_turn, are_inside, StepAlike}
use Rattle.task_laws.specs.translation.Floors.{AreClosed, IsTranslation}
use Rattle.task_laws.proofs.translation.Locals.{step-in-loops, go-there, raise-there}
use Rattle.normal_laws.specs.runs.floors.NormalFloors.{no_floor}
use Rattle.collect_runs.specs.translation.Floors.{ends_unit, unit_frame, unit_block, CollectFloor, main_body, plain_body, handled_body, taken_handler, accept_body as collect_body, AtTelling, unit_over, unit_left, body_over, body_left}
use Rattle.collect_runs.specs.telling.Meetings.{ComesTo}
use Rattle.collect_runs.proofs.telling.Standing.{is_plain}
use Rattle.collect_runs.specs.aborts.translation.Rows.{Telling, telling_none, telling_then, telling_rows}
use Rattle.collect_runs.specs.aborts.translation.Floors.{OpenPlace, innermost, BodyFloor, accept_body, floor_at, beyond_at, ArePlacesAdded, HasPlaces, KeepCallers}
use Rattle.collect_runs.proofs.aborts.translation.Carried.{translates, abort_is_closed}
use Rattle.collect_runs.specs.aborts.telling.Texts.{Texts, form, text, teller, unit_translation, CanTell}
use Rattle.collect_runs.specs.aborts.telling.Forms.{Form}
use Rattle.collect_runs.specs.aborts.telling.Meetings.{ArePaired, StandAlike, they_move, they_rest, they_try, IsBased}
use Rattle.collect_runs.proofs.aborts.telling.Keeping.{settled-vars, block-vars, raises, steps-keep}
use Rattle.collect_runs.proofs.aborts.telling.Holding.{callers-stay}
use Rattle.collect_runs.proofs.aborts.telling.Placing.{MeanSame, places-kept}
use Rattle.collect_runs.proofs.aborts.telling.Pairs.{comes}
use Rattle.replay_runs.proofs.controls.meanings.Pairs.{not-left, plain}

-- ---- exceptions on floors

-- a unit's handler, where it has one, begins with the variables of the unit
unit-vars : (h : Option PStmts) (e : Raised) (hs : PHandlers) (o : List PFrame) (V : Variables) → (unit_with h e hs o V).vars ≡ V
unit-vars None e hs o V = refl
unit-vars (Some l) e hs o V = refl

module _ (x : Texts) (can : CanTell x) (t : ℕ) where
  main-raised : (e : Raised) (hs : PHandlers) (taken : Option Raised) (V : Variables) → (raised_in e [] (OwnBody hs taken) V).vars ≡ V
  main-raised e hs None V = unit-vars (handler_for e hs) e hs [] V
  main-raised e hs (Some y) V = refl

  unit-raised : (e : Raised) {q q' : Around} {o o' : List PFrame} {V V' : Variables} →
      CollectFloor (telling_rows (only_names x.programs) (teller x t) 0 (x.places t)) (teller x t).teller no_floor q o V q' o' V' →
      (raised_in e o' q' V').vars ≡ V'
  unit-raised e (main_body hs hs' taken V V' main im ext there) = main-raised e hs' taken V'
  unit-raised e (plain_body s V V' task ext there) = refl
  unit-raised e (handled_body s h h' hs hs' V V' task im ext there) =
      block-vars (handler_for e (handler_then h' hs')) e (unit_block s ∷ unit_frame (teller x t).teller s ∷ []) V'
      (raised_in e (unit_frame (teller x t).teller s ∷ []) (Block (ends_unit s)) V') refl
  unit-raised e (taken_handler s hs a V V' task ext there) = refl
  unit-raised e (collect_body a) = absurd a.below

  body-raised : (e : Raised) (p : OpenPlace) (ps : List OpenPlace) {q q' : Around} {o o' : List PFrame} {V V' : Variables} →
      BodyFloor (unit_translation x t ps) (teller x t) p q o V q' o' V' →
      (raised_in e o' q' V').vars ≡ V'
  body-raised e p ps (accept_body a pending) = refl

  pub floor-raised : (ps : List OpenPlace) (e : Raised) (q q' : Around) (o o' : List PFrame) (V V' : Variables) →
      floor_at (only_names x.programs) (teller x t) (x.places t) ps q o V q' o' V' → (raised_in e o' q' V').vars ≡ V'
  floor-raised [] e q q' o o' V V' f = unit-raised e f
  floor-raised (p ∷ ps) e q q' o o' V V' f = body-raised e p ps f

  module _ (ps : List OpenPlace) where
    abbrev y : Translation
    y = unit_translation x t ps

    pub laws : IsTranslation (unit_translation x t ps)
    laws = translates (only_names x.programs) (teller x t) (x.places t) ps can.plainly.names can.plainly.types

    pub shut : AreClosed (unit_translation x t ps)
    shut = abort_is_closed x.programs (teller x t) (x.places t) ps

    -- ---- local steps

    -- at the end of a frame
    at-unit : {q q' : Around} {o o' : List PFrame} {V V' : Variables} →
        CollectFloor (telling_rows (only_names x.programs) (teller x t) 0 (x.places t)) (teller x t).teller no_floor q o V q' o' V' →
        (n : ℕ) (i : List ℤ) (w : List ℕ) →
        stand_of (task_in (form x) n i w (control no_stmt q o V)) ≡ Steps → ⊥
    at-unit (main_body hs hs' handling V V' main im ext there) n i w e = true≢false (sym (ap is_plain e))
    at-unit (plain_body s V V' task ext there) n i w e = true≢false (sym (ap is_plain e))
    at-unit (handled_body s h h' hs hs' V V' task im ext there) n i w e = true≢false (sym (ap is_plain e))
    at-unit (taken_handler s hs a V V' task ext there) n i w e = true≢false (sym (ap is_plain e))
    at-unit (collect_body a) n i w e = absurd a.below

  at-body : (p : OpenPlace) (ps : List OpenPlace) {q q' : Around} {o o' : List PFrame} {V V' : Variables} →
      BodyFloor (unit_translation x t ps) (teller x t) p q o V q' o' V' →
      (n : ℕ) (i : List ℤ) (w : List ℕ) → stand_of (task_in (form x) n i w (control no_stmt q o V)) ≡ Steps → ⊥
  at-body p ps (accept_body a pending) n i w e = true≢false (sym (ap is_plain e))

  at-end : (ps : List OpenPlace) (q q' : Around) (o o' : List PFrame) (V V' : Variables) →
      floor_at (only_names x.programs) (teller x t) (x.places t) ps q o V q' o' V' →
      (n : ℕ) (i : List ℤ) (w : List ℕ) → stand_of (task_in (form x) n i w (control no_stmt q o V)) ≡ Steps → ⊥
  at-end [] q q' o o' V V' f n i w e = at-unit [] f n i w e
  at-end (p ∷ ps) q q' o o' V V' f n i w e = at-body p ps f n i w e

  -- behind its statements a task has no local step
  at-telling : (n : ℕ) (i : List ℤ) (w : List ℕ) {c d : Control} → AtTelling (telling_rows (only_names x.programs) (teller x t) 0 (x.places t))
      (teller x t).teller no_floor c d →
      stand_of (task_in (form x) n i w c) ≡ Steps → ⊥
  at-telling n i w (unit_over s hs taken V V' task ext there) e = true≢false (sym (ap is_plain e))
  at-telling n i w (unit_left s hs taken a V V' task ext there) e = true≢false (sym (ap is_plain e))
  at-telling n i w (body_over a) e = absurd a.below
  at-telling n i w (body_left a b) e = absurd b.below

  at-beyond : (ps : List OpenPlace) (n : ℕ) (i : List ℤ) (w : List ℕ) (c d : Control) → beyond_at (only_names x.programs) (teller x t) (x.places t) ps c d →
      stand_of (task_in (form x) n i w c) ≡ Steps → ⊥
  at-beyond [] n i w c d b e = at-telling n i w b e
  at-beyond (p ∷ ps) n i w c d b e = elim b [ ]

  at-frame : (ps : List OpenPlace) (n : ℕ) (i : List ℤ) (w : List ℕ) {q q' : Around} {o o' : List PFrame} {V V' : Variables} →
      Under (unit_translation x t ps) q o V q' o' V' →
      HasLeftBlocks (task_in (form x) n i w (control no_stmt q o V)) → stand_of (task_in (form x) n i w (control no_stmt q o V)) ≡ Steps → IsAtLocal no_stmt q
  at-frame ps n i w (on_floor f) left e = absurd (at-end ps _ _ _ _ _ _ f n i w e)
  at-frame ps n i w (in_block {p = q} {o = o} {V = V} hs hs' r r' h im v) left e = absurd (not-left o r q V (Block hs) left)
  at-frame ps n i w (in_handler {p = q} {o = o} {V = V} a r r' im v) left e = absurd (not-left o r q V (Handling a) left)
  at-frame ps n i w (in_endless name l l' r r' h im v) left e = at_turn name _ l
  at-frame ps n i w (in_while name a l l' r r' old h im v) left e = at_turn name _ l
  at-frame ps n i w (in_count name backwards last l l' r r' b old known h im v) left e = at_turn name _ l

  at-local : (ps : List OpenPlace) (n : ℕ) (i : List ℤ) (w : List ℕ) {r r' : PStmts} →
      Telling (only_names x.programs) (teller x t) (innermost ps) (x.places t) r r' →
      {q q' : Around} {o o' : List PFrame} {V V' : Variables} → Under (unit_translation x t ps) q o V q' o' V' →
      HasLeftBlocks (task_in (form x) n i w (control r q o V)) → stand_of (task_in (form x) n i w (control r q o V)) ≡ Steps → IsAtLocal r q
  at-local ps n i w telling_none v left e = at-frame ps n i w v left e
  at-local ps n i w (telling_then s r r' k old from to im) {q} {q'} {o} {o'} {V} v left e =
      at_statement s r q (plain (task_in (form x) n i w (control (stmt_then s r) q o V)) s e)

  module _ (f : Form x) where
    -- each name of a place is an added one
    pub added : (σ : Task) → f.plainly.IsSo t σ → ArePlacesAdded x.programs x.main (x.places t)
    added σ own = can.places t (f.within t σ own)

    -- the same of what the unit is told
    pub added-there : (σ : Task) → f.plainly.IsSo t σ → ArePlacesAdded x.programs (teller x t) (x.places t)
    added-there σ own =
        let a = added σ own in
        record {
          taken = a.taken;
          refused = a.refused;
          taken_apart = a.taken_apart;
          refused_apart = a.refused_apart;
          taken_refused = a.taken_refused;
          answer_taken = a.answer_taken;
          answer_refused = a.answer_refused;
          part_taken = a.part_taken;
          part_refused = a.part_refused;
          caller_taken = a.caller_taken;
          caller_refused = a.caller_refused;
        }

    -- both take the step, and the names of places mean the same behind it
    step-alike : (ps : List OpenPlace) (σ κ : Task) → f.plainly.IsSo t σ → Alike (unit_translation x t ps) σ κ → stand_of σ ≡ Steps →
        StepAlike (unit_translation x t ps) σ κ × MeanSame x.programs (teller x t) (x.places t) (x.places t) (vars_of κ) (vars_of (stepped κ))
    step-alike ps σ κ own (alike n i w c d (inside r r' im v)) e =
        let at = at-local ps n i w im v (f.plainly.left t σ own) e in (
          step-in-loops (unit_translation x t ps) (laws ps) (shut ps) σ κ (are_inside n i w r r' im v) at (f.plainly.exits t σ own),
          record {
            taken = λ m is le. steps-keep (unit_translation x t ps) (laws ps) (shut ps) (floor-raised ps) (x.main.taken m) ((added σ own).taken m is) σ κ
                (are_inside n i w r r' im v) at (f.plainly.exits t σ own);
            refused = λ m is le.
                steps-keep (unit_translation x t ps) (laws ps) (shut ps) (floor-raised ps) (x.main.refused m) ((added σ own).refused m is) σ κ
                (are_inside n i w r r' im v) at (f.plainly.exits t σ own);
          },
        )
    step-alike ps σ κ own (alike n i w c d (behind c1 d1 b)) e = absurd (at-beyond ps n i w c1 d1 b e)

    paired-steps : (ps : List OpenPlace) (σ κ : Task) → ArePaired f t ps σ κ → stand_of σ ≡ Steps →
        (can_step κ ≡ true) × ArePaired f t ps (stepped σ) (stepped κ)
    paired-steps ps σ κ pair e =
        let s = step-alike ps σ κ pair.own pair.alike e in (
          s.0.steps_too,
          record {
            own = (f.plainly.stays t σ pair.own).stepped;
            alike = s.0.after;
            left = (tasks_leave_blocks κ pair.left).stepped;
            places = places-kept x.programs (teller x t) (x.places t) s.1 pair.places;
            keeps = callers-stay x.programs (teller x t) (x.places t) s.1 pair.keeps;
          },
        )

    stands-step : (ps : List OpenPlace) (σ κ : Task) → StandAlike f t ps σ κ → stand_of σ ≡ Steps →
        (can_step κ ≡ true) × ArePaired f t ps (stepped σ) (stepped κ)
    stands-step ps σ κ (they_move pair can') e = paired-steps ps σ κ pair e
    stands-step ps σ κ (they_rest pair rests serves null) e = absurd (true≢false (sym (ap steps_at e) ∙ rests))
    stands-step ps σ κ (they_try own rests at places keeps) e = absurd (true≢false (sym (ap steps_at e) ∙ rests))

    -- Where they are based both have the same local step, and come to where they are based again.
    pub steps : (σ κ : Task) → IsBased f t σ κ → stand_of σ ≡ Steps → (can_step κ ≡ true) × ComesTo (IsBased f t (stepped σ)) (stepped κ)
    steps σ κ based e =
        let g = f.like_goes t σ based.like based.is_like in
        let s = stands-step based.opened based.like κ based.stands (g.stands ∙ e) in (
          s.0,
          comes x f t (stepped σ) (stepped κ)
              (record { opened = based.opened; like = stepped based.like; is_like = g.stepped (ap steps_at e); paired = s.1 }),
        )

    -- ---- going on behind a statement, or as an exception is raised

    -- wherever it goes on a task stands at the end of no block
    gone-left : (i : List ℤ) (w : List ℕ) (r rest : PStmts) (q : Around) (o : List PFrame) (V : Variables) →
        HasLeftBlocks (gone_to rest (task_in (text x) t i w (control r q o V)))
    gone-left i w r rest q o V = (tasks_leave_blocks
        (task_in (text x) t i w (control (stmt_then (SNull (record { start = 0; end = 0 })) rest) q o V)) refl).stepped

    raised-left : (e : Raised) (i : List ℤ) (w : List ℕ) (r : PStmts) (q : Around) (o : List PFrame) (V : Variables) →
        HasLeftBlocks (raised_there e (task_in (text x) t i w (control r q o V)))
    raised-left e i w r q o V = settled-twice (raised_in e o q V)
      where
        settled-twice : (c : Control) → settled (settled c) ≡ settled c
        settled-twice c = gone-left i w no_stmt c.top.rest c.top.place c.outer c.vars

    -- A row and its image, beside each task that is like the one that goes on with the row.
    pub row-comes-like : (ps : List OpenPlace) (i : List ℤ) (w : List ℕ) (r0 r0' r r' : PStmts) {q q' : Around} {o o' : List PFrame} {V V' : Variables} →
        Telling (only_names x.programs) (teller x t) (innermost ps) (x.places t) r r' → Under (unit_translation x t ps) q o V q' o' V' →
        HasPlaces (teller x t) (x.places t) V' →
        KeepCallers (teller x t) (x.places t) V' ps → (σ : Task) → f.IsLike t σ (gone_to r (task_in (form x) t i w (control r0 q o V))) →
        ComesTo (IsBased f t σ) (gone_to r' (task_in (text x) t i w (control r0' q' o' V')))
    row-comes-like ps i w r0 r0' r r' {q} {q'} {o} {o'} {V} {V'} im v places keeps σ like =
        comes x f t σ _ (record {
          opened = ps;
          like = gone_to r (task_in (form x) t i w (control r0 q o V));
          is_like = like;
          paired = record {
            own = f.like_so t σ _ like;
            alike = go-there (unit_translation x t ps) (laws ps) t i w r0 r0' r r' im v;
            left = gone-left i w r0' r' q' o' V';
            places = subst (HasPlaces (teller x t) (x.places t)) (sym (settled-vars o' r' q' V')) places;
            keeps = subst (λ W. KeepCallers (teller x t) (x.places t) W ps) (sym (settled-vars o' r' q' V')) keeps;
          };
        })

    pub row-comes : (ps : List OpenPlace) (i : List ℤ) (w : List ℕ) (r0 r0' r r' : PStmts) {q q' : Around} {o o' : List PFrame} {V V' : Variables} →
        Telling (only_names x.programs) (teller x t) (innermost ps) (x.places t) r r' → Under (unit_translation x t ps) q o V q' o' V' →
        HasPlaces (teller x t) (x.places t) V' →
        KeepCallers (teller x t) (x.places t) V' ps → f.plainly.IsSo t (gone_to r (task_in (form x) t i w (control r0 q o V))) →
        ComesTo (IsBased f t (gone_to r (task_in (form x) t i w (control r0 q o V)))) (gone_to r' (task_in (text x) t i w (control r0' q' o' V')))
    row-comes ps i w r0 r0' r r' im v places keeps own = row-comes-like ps i w r0 r0' r r' im v places keeps _ (f.like_self t _ own)

    -- An exception, beside each task that is like the one in which it is raised.
    pub raise-comes-like : (ps : List OpenPlace) (e : Raised) (i : List ℤ) (w : List ℕ)
        (r r' : PStmts) {q q' : Around} {o o' : List PFrame} {V V' : Variables} →
        Under (unit_translation x t ps) q o V q' o' V' → HasPlaces (teller x t) (x.places t) V' → KeepCallers (teller x t) (x.places t) V' ps →
        (σ : Task) → f.IsLike t σ (raised_there e (task_in (form x) t i w (control r q o V))) →
        ComesTo (IsBased f t σ) (raised_there e (task_in (text x) t i w (control r' q' o' V')))
    raise-comes-like ps e i w r r' {q} {q'} {o} {o'} {V} {V'} v places keeps σ like =
        let own = f.like_so t σ _ like in
        let same : MeanSame x.programs (teller x t) (x.places t) (x.places t) V' (vars_of (raised_there e (task_in (text x) t i w (control r' q' o' V')))) = record {
          taken = λ m is le. raises (unit_translation x t ps) (laws ps) (shut ps) (floor-raised ps) (x.main.taken m) ((added _ own).taken m is) e t i w r' v;
          refused = λ m is le. raises (unit_translation x t ps) (laws ps) (shut ps) (floor-raised ps) (x.main.refused m) ((added _ own).refused m is) e t i w r' v;
        } in
        comes x f t σ _ (record {
          opened = ps;
          like = raised_there e (task_in (form x) t i w (control r q o V));
          is_like = like;
          paired = record {
            own = own;
            alike = raise-there (unit_translation x t ps) (laws ps) t i w r r' v e;
            left = raised-left e i w r' q' o' V';
            places = places-kept x.programs (teller x t) (x.places t) same places;
            keeps = callers-stay x.programs (teller x t) (x.places t) same keeps;
          };
        })

    pub raise-comes : (ps : List OpenPlace) (e : Raised) (i : List ℤ) (w : List ℕ) (r r' : PStmts) {q q' : Around} {o o' : List PFrame} {V V' : Variables} →
        Under (unit_translation x t ps) q o V q' o' V' → HasPlaces (teller x t) (x.places t) V' → KeepCallers (teller x t) (x.places t) V' ps →
        f.plainly.IsSo t (raised_there e (task_in (form x) t i w (control r q o V))) →
        ComesTo (IsBased f t (raised_there e (task_in (form x) t i w (control r q o V)))) (raised_there e (task_in (text x) t i w (control r' q' o' V')))
    raise-comes ps e i w r r' v places keeps own = raise-comes-like ps e i w r r' v places keeps _ (f.like_self t _ own)
