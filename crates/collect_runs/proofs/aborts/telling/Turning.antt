-- Behind an accept body the image tries again where the caller was refused, and else leaves its loop and comes to where it tells that the rendezvous is
-- over.
use Rattle.std.proofs.Common.{arith, ◌≡◌, ℕ, ◌≤◌, ℤ, pos, int_eq, Bool, true, false, not, List, ◌∷◌, Ok, refl, ap, ◌∙◌}
use Rattle.std.proofs.lemmas.Int.{ints}
use Rattle.ada_tree.specs.declared.naming.NameId.{NameId}
use Rattle.ada_tree.specs.declared.naming.Span.{Span}
use Rattle.ada_tree.specs.PlainExpr.{PExpr, EName}
use Rattle.ada_tree.specs.PlainStmt.{SExit, SIf, PStmts, no_stmt, stmt_then, absent, present}
use Rattle.std.specs.Prelude.{Some, None}
use Rattle.ada_value.specs.declared.values.Value.{Value}
use Rattle.ada_value.specs.declared.values.Value.TheVariants.{Number, Truth}
use Rattle.ada_value.specs.Values.{integer_limits, truth_limits}
use Rattle.ada_value.specs.Variables.{Variables, set_value}
use Rattle.task_model.specs.Frames.{Endless, Around, Block, Loop, PFrame, control, settled}
use Rattle.task_model.specs.Tasks.{Task}
use Rattle.task_laws.specs.translation.OldTexts.{only_names}
use Rattle.task_laws.specs.translation.Controls.{frame, task_in}
use Rattle.task_laws.proofs.translation.Frames.{add-alike}
use Rattle.normal_model.specs.Making.{one}
use Rattle.normal_laws.specs.runs.floors.Preludes.{IsCell}
use Rattle.normal_laws.proofs.runs.floors.Cells.{cell-set}
use Rattle.collect_model.specs.Calling.{part_is}
use Rattle.collect_runs.specs.translation.Floors.{HasVariables}
use Rattle.collect_runs.specs.telling.Meetings.{ComesTo}
use Rattle.collect_runs.proofs.telling.Noting.{later}
use Rattle.collect_runs.proofs.telling.Hearing.{cell-worth, part-goes, if-goes, parted}
use Rattle.collect_model.specs.aborts.AbortTeller.{AbortTeller}
use Rattle.collect_model.specs.aborts.Noting.{over}
use Rattle.collect_model.specs.aborts.Waiting.{branches}
use Rattle.collect_runs.specs.aborts.translation.Floors.{ArePlacesAdded, OpenPlace, innermost, ends_service, Behind, behind_accept, behind_wait}
use Rattle.collect_runs.specs.aborts.telling.Texts.{Texts, plain, text, teller, unit_translation, CanTell}
use Rattle.collect_runs.proofs.aborts.translation.Floors.{variables-there}
use Rattle.collect_runs.proofs.aborts.telling.Noting.{hearing}
use Rattle.collect_runs.proofs.aborts.telling.Moving.{laws}
use Rattle.collect_runs.proofs.aborts.telling.Holding.{Stays as StaysSo}
use Rattle.collect_runs.proofs.aborts.telling.Placing.{MeanSame, callers-kept, places-set, answer-set, part-set}
use Rattle.collect_runs.proofs.aborts.telling.Going.{branch-above, accept-branch, refused-worth, taken-worth, exit-leaves, exit-stays, branch-goes}

-- the number of an alternative is not 0
pub not-none : (j : ℕ) → 1 ≤ j → int_eq (pos j) (pos 0) ≡ false
not-none j le = grind (arith, ints)

module _ (x : Texts) (can : CanTell x) (t : ℕ) (added : ArePlacesAdded x.programs (teller x t) (x.places t)) (ps : List OpenPlace) where
  abbrev X : AbortTeller
  X = teller x t

  -- the image of a task in these frames, with what its variables say
  abbrev pub Stays : Around → List PFrame → Variables → Around → List PFrame → Variables → Type 0
  Stays q o V q' o' W = StaysSo x t ps q q' o o' V W

  module _ {q q' : Around} {o o' : List PFrame} {V : Variables} where
    -- it has the variables by which it hears the recorder
    pub has-variables : {W : Variables} → Stays q o V q' o' W → HasVariables x.main.teller.added W
    has-variables s = variables-there (only_names x.programs) (teller x t) (x.places t) can.plainly.names ps s.under

    -- it stays so as an added name is assigned to that no open place has
    pub stays-set : {W : Variables} → Stays q o V q' o' W → (id : NameId) (k : ℕ) (v : Value) → x.programs.is_old id.0 ≡ false →
        MeanSame x.programs (teller x t) (x.places t) (innermost ps) W (set_value W id k v) → Stays q o V q' o' (set_value W id k v)
    stays-set {W} s id k v fresh mean = record {
      under = add-alike (unit_translation x t ps) (laws x can t ps) id k v fresh s.under;
      places = places-set x.programs X (x.places t) W id k v s.places;
      keeps = callers-kept x.programs X (x.places t) ps (innermost ps) (omega arith) mean s.keeps;
    }

    pub stays-parted : {W : Variables} → Stays q o V q' o' W → (j : ℕ) → Stays q o V q' o' (parted (plain x) j W)
    stays-parted {W} s j =
        stays-set s x.main.teller.added.part 0 (Number (pos j)) can.plainly.names.part (part-set x.programs X (x.places t) added (innermost ps) W 0 (Number (pos j)))

    pub stays-heard : {W : Variables} → Stays q o V q' o' W → (b : Bool) → Stays q o V q' o' (hearing x b W)
    stays-heard {W} s b =
        stays-set s x.main.teller.added.answer 0 (Truth b) can.plainly.names.answer (answer-set x.programs X (x.places t) added (innermost ps) W 0 (Truth b))

    pub part-cell : {W : Variables} → Stays q o V q' o' W → (j : ℕ) → IsCell (parted (plain x) j W) x.main.teller.added.part integer_limits (Number (pos j))
    part-cell {W} s j = cell-set W x.main.teller.added.part integer_limits _ (Number (pos j)) (has-variables s).part.1

  module _ {q q' : Around} {o o' : List PFrame} {V : Variables} (i : List ℤ) (w : List ℕ) where
    -- ---- the caller was refused

    -- The loop turns.
    pub tries-on : {IsSo : Task → Type 0} (s : Span) (n : ℕ) (inner turn : PStmts) (test : PExpr) (after r' : PStmts) → Behind (teller x t) s n inner test after r' → (W : Variables) →
        Stays q o V q' o' W → IsCell W (x.main.refused n) truth_limits (Truth true) →
        ((U : Variables) → Stays q o V q' o' U → ComesTo IsSo (task_in (text x) t i w (settled (control turn (Loop None Endless turn) (frame after q' ∷ o') U)))) →
        ComesTo IsSo (task_in (text x) t i w
        (settled (control inner (Block (ends_service (teller x t) s n)) (frame (one (SExit None (Some test) s)) (Loop None Endless turn) ∷ frame after q' ∷ o') W)))
    tries-on s n _ turn _ _ r' (behind_accept r) W stays refused again =
        later (exit-stays x t i w s _ turn _ q' o' W (refused-worth x t i w X s n W true refused)) (again W stays)
    tries-on s n _ turn _ _ _ (behind_wait alts m j z l r fits is) W stays refused again =
        later (if-goes (plain x) t i w _ _ (EName (X.refused n) z) (part_is X.teller z 0) (present (part_is X.teller z j)) z no_stmt W true
        (cell-worth (text x).types W (X.refused n) truth_limits (Truth true) z refused))
        (later (part-goes (plain x) t i w _ _ 0 W z no_stmt refl (has-variables stays).part)
        (later (exit-stays x t i w s _ turn _ q' o' (parted (plain x) 0 W) (taken-worth x t i w X s 0 (parted (plain x) 0 W) (part-cell stays 0)))
        (again (parted (plain x) 0 W) (stays-parted stays 0))))

    -- ---- the rendezvous has been

    -- The loop is left, and the task comes to where it tells that the rendezvous is over.
    pub leaves-loop : {IsSo : Task → Type 0} (s : Span) (n : ℕ) (inner turn : PStmts) (test : PExpr) (after r' : PStmts) → Behind (teller x t) s n inner test after r' → (W : Variables) →
        Stays q o V q' o' W → IsCell W (x.main.refused n) truth_limits (Truth false) →
        ((z : Span) (U : Variables) → Stays q o V q' o' U → MeanSame x.programs (teller x t) (x.places t) (x.places t) W U →
        ComesTo IsSo (task_in (text x) t i w (control (stmt_then (over (teller x t) z n) r') q' o' U))) →
        ComesTo IsSo (task_in (text x) t i w
        (settled (control inner (Block (ends_service (teller x t) s n)) (frame (one (SExit None (Some test) s)) (Loop None Endless turn) ∷ frame after q' ∷ o') W)))
    leaves-loop s n _ turn _ _ r' (behind_accept r) W stays refused next =
        later (exit-leaves x t i w s _ turn _ q' o' W (refused-worth x t i w X s n W false refused)) (next s W stays (record { taken = λ m is l. refl; refused = λ m is l. refl }))
    leaves-loop s n _ turn _ _ _ (behind_wait alts m j z l r fits is) W stays refused next =
        later (if-goes (plain x) t i w _ _ (EName (X.refused n) z) (part_is X.teller z 0) (present (part_is X.teller z j)) z no_stmt W false
        (cell-worth (text x).types W (X.refused n) truth_limits (Truth false) z refused))
        (later (part-goes (plain x) t i w _ _ j W z no_stmt fits (has-variables stays).part)
        (later (exit-leaves x t i w s _ turn _ q' o' (parted (plain x) j W)
        (taken-worth x t i w X s j (parted (plain x) j W) (part-cell stays j) ∙ ap (λ (b : Bool). Ok (Truth (not b))) (not-none j (branch-above is))))
        (later (branch-goes x t i w (branches X s n alts m 1) s r (stmt_then (over X z n) l) q' o' (parted (plain x) j W)
        (accept-branch x t i w X (stmt_then (SIf (branches X s n alts m 1) absent s) r) q' o' (parted (plain x) j W) j (part-cell stays j) s n m 1 is fits))
        (next z (parted (plain x) j W) (stays-parted stays j) (part-set x.programs X (x.places t) added (x.places t) W 0 (Number (pos j)))))))
