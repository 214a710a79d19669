-- The image of an accept or a selective wait comes to its try by two local steps: into its loop, and into its block.
use Rattle.std.proofs.Common.{◌≡◌, ℕ, ℤ, ◌+◌, ◌≤◌, false, List, refl, sym, subst}
use Rattle.ada_tree.specs.declared.naming.Span.{Span}
use Rattle.ada_tree.specs.PlainStmt.{SAccept, SWait, PStmts, stmt_then, PMaybe, PAccept, PAlts}
use Rattle.ada_value.specs.Variables.{Variables}
use Rattle.task_model.specs.Frames.{Around, PFrame, control, in_front}
use Rattle.task_model.specs.Stands.{can_step}
use Rattle.task_laws.specs.translation.OldTexts.{only_names, OldStmt}
use Rattle.task_laws.specs.translation.Controls.{task_in, Under}
use Rattle.normal_model.specs.Walk.{Rewriter, after_parts, after_alts, inside_alts, inside_maybe, image_of}
use Rattle.normal_laws.specs.runs.floors.Preludes.{reaches_here, reaches_by}
use Rattle.collect_runs.specs.telling.Meetings.{ComesTo}
use Rattle.collect_model.specs.aborts.Places.{with_place}
use Rattle.collect_model.specs.aborts.AbortStmts.{abort_rewriter}
use Rattle.collect_model.specs.aborts.Waiting.{wait_image}
use Rattle.collect_runs.specs.aborts.translation.Rows.{Telling}
use Rattle.collect_runs.specs.aborts.translation.Floors.{OpenPlace, innermost, HasPlaces, KeepCallers}
use Rattle.collect_runs.specs.aborts.telling.Texts.{Texts, form, text, teller, unit_translation}
use Rattle.collect_runs.specs.aborts.telling.Forms.{Form}
use Rattle.collect_runs.specs.aborts.telling.Meetings.{at_try, StandAlike, they_try}
use Rattle.collect_structure.proofs.aborts.asked.Kept.{no-leads}

module _ (x : Texts) (t : ℕ) (ps : List OpenPlace) (i : List ℤ) (w : List ℕ) (r r' : PStmts) (im : Telling (only_names x.programs) (teller x t) (innermost ps) (x.places t) r r')
    {q q' : Around} {o o' : List PFrame} {V W : Variables} (v : Under (unit_translation x t ps) q o V q' o' W) (n : ℕ) (from : innermost ps ≤ n)
    (f : Form x) (places : HasPlaces (teller x t) (x.places t) W) (keeps : KeepCallers (teller x t) (x.places t) W ps) where
  abbrev walk : Rewriter ℕ
  walk = abort_rewriter (teller x t)

  pub accept-tries : (a : PAccept) (s : Span) → OldStmt (only_names x.programs) (SAccept a s) → after_parts walk (SAccept a s) (with_place n (SAccept a s)) ≤ x.places t →
      f.plainly.IsSo t (task_in (form x) t i w (control (stmt_then (SAccept a s) r) q o V)) → can_step (task_in (form x) t i w (control (stmt_then (SAccept a s) r) q o V)) ≡ false →
      ComesTo (StandAlike f t ps (task_in (form x) t i w (control (stmt_then (SAccept a s) r) q o V))) (task_in (text x) t i w (control (in_front (image_of walk (SAccept a s) n) r') q' o' W))
  accept-tries a s old to own rests = record {
    reached = _;
    reach = reaches_by _ _ refl refl (reaches_by _ _ refl refl (reaches_here _));
    is = they_try own rests (at_try i w (SAccept a s) r r' n refl old from to im v) places keeps;
  }

  pub wait-tries : (alts : PAlts) (m : PMaybe) (s : Span) → OldStmt (only_names x.programs) (SWait alts m s) → after_parts walk (SWait alts m s) (with_place n (SWait alts m s)) ≤ x.places t →
      f.plainly.IsSo t (task_in (form x) t i w (control (stmt_then (SWait alts m s) r) q o V)) → can_step (task_in (form x) t i w (control (stmt_then (SWait alts m s) r) q o V)) ≡ false →
      ComesTo (StandAlike f t ps (task_in (form x) t i w (control (stmt_then (SWait alts m s) r) q o V)))
      (task_in (text x) t i w (control (in_front (image_of walk (SWait alts m s) n) r') q' o' W))
  wait-tries alts m s old to own rests =
      subst (λ l. ComesTo (StandAlike f t ps (task_in (form x) t i w (control (stmt_then (SWait alts m s) r) q o V)))
      (task_in (text x) t i w
      (control (in_front (in_front l (wait_image (teller x t) s (n + 1) (inside_alts walk alts (n + 1)) (inside_maybe walk m (after_alts walk alts (n + 1))))) r') q' o' W)))
      (sym (no-leads (teller x t) alts (n + 1)))
      (record {
        reached = _;
        reach = reaches_by _ _ refl refl (reaches_by _ _ refl refl (reaches_here _));
        is = they_try own rests (at_try i w (SWait alts m s) r r' n refl old from to im v) places keeps;
      })
