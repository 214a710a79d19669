-- Each statement that does not synchronize, and each turn of a loop: a local step of a task is one of its image.
use Rattle.std.proofs.Common.{◌≡◌, ℕ, ℤ, pos, ◌+ℤ◌, ◌-ℤ◌, Bool, true, false, ◌&&◌, ◌||◌, if◌then◌else◌, List, [], ◌∷◌, ◌++◌, Option, Some, None, Result, Ok, Err, refl, ap, subst, ◌∙◌}
use Rattle.std.specs.Prelude.{unwrap_or}
use Rattle.ada_tree.specs.declared.naming.NameId.{NameId}
use Rattle.ada_tree.specs.declared.naming.Word.{Word}
use Rattle.ada_tree.specs.PlainExpr.{PExpr, PDrange}
use Rattle.ada_tree.specs.PlainStmt.{PTarget, PPart, PChoice, PScheme, PStmt, SNull, SAssign, SDelay, SExit, SRaise, SAbort, SPut, SPutLine, SNewLine, SGet, SIf, SCase, SBlock, SLoop, PStmts, no_stmt, stmt_then, PMaybe, present, PArms, PCaseArms, body}
use Rattle.ada_value.specs.declared.values.Value.{Value}
use Rattle.ada_value.specs.declared.values.Value.TheVariants.{Number}
use Rattle.ada_value.specs.declared.values.Raised.{Raised}
use Rattle.ada_value.specs.declared.values.Raised.TheVariants as raised
use Rattle.ada_value.specs.Values.{position_of, value_at, limits_of_kind, lies_in, is_empty_range, checked}
use Rattle.ada_value.specs.declared.values.Limits.{Limits}
use Rattle.ada_value.specs.Variables.{Object, Variables, value_there, component_place, checked_for, set_value}
use Rattle.ada_tree.specs.TypeTable.{TypeTable}
use Rattle.task_model.specs.Frames.{While, Counting, Around, Loop, PFrame, Control, control, settled, raised_named, exited_in}
use Rattle.task_model.specs.Tasks.{Task, rest_of, place_of, value_of, with_text, gone_to, stmts_or_none, entered, pushed, raised_there, or_raised}
use Rattle.task_model.specs.Steps as steps
use Rattle.task_laws.specs.translation.Translations.{Translation, types_before, types_after, IsOld, IsFree, IsKnown}
use Rattle.task_laws.specs.translation.OldNames.{OldExpr, OldOption, old_none, old_some, OldRange, old_given, old_marked, OldTarget, OldParts, old_no_part, OldChoices, old_no_choice, old_choice, OldScheme, old_endless, old_while, old_for}
use Rattle.task_laws.specs.translation.Scopes.{SameObject, no_object, same_object}
use Rattle.task_laws.specs.translation.Images.{ImageMaybe, image_absent, image_present, ImageArms, image_no_arm, image_arm, ImageCaseArms, image_no_case_arm, image_case_arm, ImageStmt, image_null, image_assign, image_delay, image_exit, image_raise, image_no_abort, image_put, image_put_line, image_new_line, image_get, image_if, image_case, image_block, image_loop, ImageList, image_list, IsEmpty, nothing_there}
use Rattle.task_laws.specs.translation.Controls.{frame, Under, on_floor, in_block, in_endless, in_while, in_count, Settle, task_in, Alike, alike, IsAtLocal, at_statement, at_turn, IsExit, is_exit, ExitsLoop, AreInside, are_inside, AreAround, are_around, StepAlike}
use Rattle.task_laws.specs.translation.Floors.{handled_around, AreExits, AreClosed, IsTranslation}
use Rattle.task_laws.proofs.translation.Results.{Both, both_ok, both_err, Equal, equal, both_then}
use Rattle.task_laws.proofs.translation.Evaluating.{KnownValue, known_value, KnownRange, known_range, value-alike, condition-alike, bounds-alike, narrowed-alike, parts-alike, worth-same, single, single-known}
use Rattle.task_laws.proofs.translation.Frames.{settle, raised-alike, exited-alike, exited-inside, handled-alike, sees-alike, set-alike}

module _ (x : Translation) (laws : IsTranslation x) where
  -- a task and its image, in frames
  abbrev left : ℕ → List ℤ → List ℕ → PStmts → Around → List PFrame → Variables → Task
  left n i w r p o V = task_in x.text.programs.original n i w (control r p o V)

  abbrev right : ℕ → List ℤ → List ℕ → PStmts → Around → List PFrame → Variables → Task
  right n i w r p o V = task_in x.text.programs.made n i w (control r p o V)

  pub of_settle : (n : ℕ) (i : List ℤ) (w : List ℕ) {c d : Control} → Settle x c d → Alike x (task_in x.text.programs.original n i w (settled c)) (task_in x.text.programs.made n i w (settled d))
  of_settle n i w {c} {d} h = alike n i w (settled c) (settled d) h.follows

  pub raise-there : (n : ℕ) (i : List ℤ) (w : List ℕ) (r r' : PStmts) {p p' : Around} {o o' : List PFrame} {V V' : Variables} → Under x p o V p' o' V' → (e : Raised) →
      Alike x (raised_there e (left n i w r p o V)) (raised_there e (right n i w r' p' o' V'))
  raise-there n i w r r' u e = of_settle n i w (raised-alike x laws e u)

  pub go-there : (n : ℕ) (i : List ℤ) (w : List ℕ) (r r' q q' : PStmts) {p p' : Around} {o o' : List PFrame} {V V' : Variables} → x.text.image q q' → Under x p o V p' o' V' →
      Alike x (gone_to q (left n i w r p o V)) (gone_to q' (right n i w r' p' o' V'))
  go-there n i w r r' q q' im u = of_settle n i w (settle x laws q q' im u)

  or-raise : (n : ℕ) (i : List ℤ) (w : List ℕ) (r r' : PStmts) {p p' : Around} {o o' : List PFrame} {V V' : Variables} → Under x p o V p' o' V' →
      {A B : Type 0} {R : A → B → Type 0} {f : A → Task} {f' : B → Task} {a : Result A Raised} {b : Result B Raised} → Both R a b →
      ((c : A) (d : B) → R c d → Alike x (f c) (f' d)) → Alike x (or_raised f (left n i w r p o V) a) (or_raised f' (right n i w r' p' o' V') b)
  or-raise n i w r r' u (both_ok c d h) k = k c d h
  or-raise n i w r r' u (both_err e) k = raise-there n i w r r' u e

  either-alike : (b : Bool) {σ κ σ' κ' : Task} → Alike x σ κ → Alike x σ' κ' → Alike x (if b then σ else σ') (if b then κ else κ')
  either-alike true h k = h
  either-alike false h k = k

  -- ---- targets

  same-place : (r : Result ℕ Raised) → Both Equal r r
  same-place (Ok k) = both_ok k k (equal k)
  same-place (Err e) = both_err e

  component-alike : {a b : Option Object} → SameObject x.text.programs a b → (v v' : Value) → KnownValue x.text.programs v v' → Both Equal (component_place a v) (component_place b v')
  component-alike no_object v v' (known_value u h) = both_err raised.Constraint
  component-alike (same_object o k) v v' (known_value u h) = same-place (component_place (Some o) u)

  aim-alike : (n : ℕ) (i : List ℤ) (w : List ℕ) (r r' : PStmts) {p p' : Around} {o o' : List PFrame} {V V' : Variables} → Under x p o V p' o' V' → {a b : Option Object} → SameObject x.text.programs a b →
      {index : Option PExpr} → OldOption x.text.programs index → Both Equal (steps.aim_at (left n i w r p o V) a index) (steps.aim_at (right n i w r' p' o' V') b index)
  aim-alike n i w r r' u same old_none = both_ok 0 0 (equal 0)
  aim-alike n i w r r' u same (old_some e h) = both_then (value-alike x.text.programs laws.types (sees-alike x laws u) h) (component-alike same)

  target-alike : (n : ℕ) (i : List ℤ) (w : List ℕ) (r r' : PStmts) {p p' : Around} {o o' : List PFrame} {V V' : Variables} → Under x p o V p' o' V' → {t : PTarget} → OldTarget x.text.programs t →
      Both Equal (steps.aim_of (left n i w r p o V) t) (steps.aim_of (right n i w r' p' o' V') t)
  target-alike n i w r r' u {t} h = aim-alike n i w r r' u ((sees-alike x laws u).named t.name.name h.name) h.index

  checked-alike : (l : Limits) (v : Value) → IsKnown x.text.programs v → Both (KnownValue x.text.programs) (checked l v) (checked l v)
  checked-alike l v h = go (lies_in l (position_of v))
    where
      go : (b : Bool) → Both (KnownValue x.text.programs) (if b then Ok v else Err raised.Constraint) (if b then Ok v else Err raised.Constraint)
      go true = both_ok v v (known_value v h)
      go false = both_err raised.Constraint

  checked_for-alike : {a b : Option Object} → SameObject x.text.programs a b → (v v' : Value) → KnownValue x.text.programs v v' → Both (KnownValue x.text.programs) (checked_for a v) (checked_for b v')
  checked_for-alike no_object v v' (known_value u h) = both_ok u u (known_value u h)
  checked_for-alike (same_object o k) v v' (known_value u h) = checked-alike o.limits u h

  stored-alike : (n : ℕ) (i : List ℤ) (w : List ℕ) (r r' : PStmts) {p p' : Around} {o o' : List PFrame} {V V' : Variables} → Under x p o V p' o' V' → (t : PTarget) → OldTarget x.text.programs t →
      (k k' : ℕ) → Equal k k' → (v v' : Value) → KnownValue x.text.programs v v' →
      Both (λ W W'. Under x p o W p' o' W') (steps.stored (left n i w r p o V) t k v) (steps.stored (right n i w r' p' o' V') t k' v')
  stored-alike n i w r r' {p} {p'} {o} {o'} {V} {V'} u t h k k' (equal j) v v' q = both_then (checked_for-alike ((sees-alike x laws u).named t.name.name h.name) v v' q) go
    where
      go : (c d : Value) → KnownValue x.text.programs c d → Both (λ W W'. Under x p o W p' o' W') (Ok (set_value V t.name.name j c)) (Ok (set_value V' t.name.name j d))
      go c d (known_value e known) = both_ok _ _ (set-alike x laws t.name.name j e h.name known u)

  -- ---- assignment and GET

  assign-alike : (n : ℕ) (i : List ℤ) (w : List ℕ) (s s' q q' : PStmts) {p p' : Around} {o o' : List PFrame} {V V' : Variables} → x.text.image q q' → Under x p o V p' o' V' →
      (t : PTarget) (e : PExpr) → OldTarget x.text.programs t → OldExpr x.text.programs e → Alike x (steps.assign_step t e q (left n i w s p o V)) (steps.assign_step t e q' (right n i w s' p' o' V'))
  assign-alike n i w s s' q q' im u t e ht he = or-raise n i w s s' u
      (both_then (target-alike n i w s s' u ht) (λ k k' hk. both_then (value-alike x.text.programs laws.types (sees-alike x laws u) he) (λ v v' hv. stored-alike n i w s s' u t ht k k' hk v v' hv)))
      (λ W W' h. go-there n i w s s' q q' im h)

  got-alike : (n : ℕ) (i : List ℤ) (w : List ℕ) (s s' q q' : PStmts) {p p' : Around} {o o' : List PFrame} {V V' : Variables} → x.text.image q q' → Under x p o V p' o' V' →
      (t : PTarget) → OldTarget x.text.programs t → (k k' : ℕ) → Equal k k' → (zs : List ℤ) → Alike x (steps.got t q (left n i w s p o V) k zs) (steps.got t q' (right n i w s' p' o' V') k' zs)
  got-alike n i w s s' q q' im u t ht k k' hk [] = raise-there n i w s s' u raised.End
  got-alike n i w s s' q q' im u t ht k k' hk (z ∷ rest) = or-raise n rest w s s' u
      (stored-alike n i w s s' u t ht k k' hk (Number z) (Number z) (known_value (Number z) laws.types.integers))
      (λ W W' h. go-there n rest w s s' q q' im h)

  -- ---- branches

  branch-alike : {a b : PMaybe} → ImageMaybe x.text a b → x.text.image (stmts_or_none a) (stmts_or_none b)
  branch-alike image_absent = laws.images.empty
  branch-alike (image_present l l' im) = im

  enter-alike : (n : ℕ) (i : List ℤ) (w : List ℕ) (s s' q q' : PStmts) {p p' : Around} {o o' : List PFrame} {V V' : Variables} → x.text.image q q' → Under x p o V p' o' V' →
      (a b : PMaybe) → ImageMaybe x.text a b → Alike x (entered (stmts_or_none a) q (left n i w s p o V)) (entered (stmts_or_none b) q' (right n i w s' p' o' V'))
  enter-alike n i w s s' q q' im u a b h = go-there n i w s s' _ _ (laws.images.joined _ _ _ _ (branch-alike h) im) u

  arms-alike : (n : ℕ) (i : List ℤ) (w : List ℕ) (s s' : PStmts) {p p' : Around} {o o' : List PFrame} {V V' : Variables} → Under x p o V p' o' V' →
      {arms arms' : PArms} → ImageArms x.text arms arms' → {c d : PMaybe} → ImageMaybe x.text c d → Both (ImageMaybe x.text) (steps.arm_taken (left n i w s p o V) arms c) (steps.arm_taken (right n i w s' p' o' V') arms' d)
  arms-alike n i w s s' u image_no_arm {c} {d} h = both_ok c d h
  arms-alike n i w s s' {p} {p'} {o} {o'} {V} {V'} u (image_arm e l l' rest rest' old im more) {c} {d} h =
      both_then (condition-alike x.text.programs laws.types (sees-alike x laws u) old) (λ a b q. go a b q (arms-alike n i w s s' u more h))
    where
      choose : (b : Bool) → Both (ImageMaybe x.text) (steps.arm_taken (left n i w s p o V) rest c) (steps.arm_taken (right n i w s' p' o' V') rest' d) →
          Both (ImageMaybe x.text) (if b then Ok (present l) else steps.arm_taken (left n i w s p o V) rest c) (if b then Ok (present l') else steps.arm_taken (right n i w s' p' o' V') rest' d)
      choose true k = both_ok _ _ (image_present l l' im)
      choose false k = k

      go : (a b : Bool) → Equal a b → Both (ImageMaybe x.text) (steps.arm_taken (left n i w s p o V) rest c) (steps.arm_taken (right n i w s' p' o' V') rest' d) →
          Both (ImageMaybe x.text) (if a then Ok (present l) else steps.arm_taken (left n i w s p o V) rest c) (if b then Ok (present l') else steps.arm_taken (right n i w s' p' o' V') rest' d)
      go a b (equal t) k = choose t k

  end-alike : (n : ℕ) (i : List ℤ) (w : List ℕ) (s s' : PStmts) {p p' : Around} {o o' : List PFrame} {V V' : Variables} → Under x p o V p' o' V' →
      {e : Option PExpr} → OldOption x.text.programs e → (v v' : Value) → KnownValue x.text.programs v v' → Both (KnownValue x.text.programs) (steps.choice_end (left n i w s p o V) e v) (steps.choice_end (right n i w s' p' o' V') e v')
  end-alike n i w s s' u old_none v v' h = both_ok v v' h
  end-alike n i w s s' u (old_some e he) v v' h = value-alike x.text.programs laws.types (sees-alike x laws u) he

  fits-alike : (n : ℕ) (i : List ℤ) (w : List ℕ) (s s' : PStmts) {p p' : Around} {o o' : List PFrame} {V V' : Variables} → Under x p o V p' o' V' → (v v' : Value) → KnownValue x.text.programs v v' →
      (c : PChoice) → OldExpr x.text.programs c.first → OldOption x.text.programs c.last → Both Equal (steps.choice_fits (left n i w s p o V) v c) (steps.choice_fits (right n i w s' p' o' V') v' c)
  fits-alike n i w s s' u v v' hv c h k = both_then (value-alike x.text.programs laws.types (sees-alike x laws u) h) (λ a a' ha. both_then (end-alike n i w s s' u k a a' ha) (λ b b' hb. go v v' hv a a' ha b b' hb))
    where
      go : (v v' : Value) → KnownValue x.text.programs v v' → (a a' : Value) → KnownValue x.text.programs a a' → (b b' : Value) → KnownValue x.text.programs b b' → Both Equal (Ok (steps.lies_between a b v)) (Ok (steps.lies_between a' b' v'))
      go v v' (known_value v1 h1) a a' (known_value a1 h2) b b' (known_value b1 h3) = both_ok _ _ (equal (steps.lies_between a1 b1 v1))

  choices-alike : (n : ℕ) (i : List ℤ) (w : List ℕ) (s s' : PStmts) {p p' : Around} {o o' : List PFrame} {V V' : Variables} → Under x p o V p' o' V' → (v v' : Value) → KnownValue x.text.programs v v' →
      {cs : List PChoice} → OldChoices x.text.programs cs → Both Equal (steps.choices_fit (left n i w s p o V) v cs) (steps.choices_fit (right n i w s' p' o' V') v' cs)
  choices-alike n i w s s' u v v' hv old_no_choice = both_ok false false (equal false)
  choices-alike n i w s s' {p} {p'} {o} {o'} {V} {V'} u v v' hv (old_choice c rest h k more) =
      both_then (fits-alike n i w s s' u v v' hv c h k) (λ a b q. go a b q (choices-alike n i w s s' u v v' hv more))
    where
      choose : (b : Bool) → Both Equal (steps.choices_fit (left n i w s p o V) v rest) (steps.choices_fit (right n i w s' p' o' V') v' rest) →
          Both Equal (if b then Ok true else steps.choices_fit (left n i w s p o V) v rest) (if b then Ok true else steps.choices_fit (right n i w s' p' o' V') v' rest)
      choose true j = both_ok true true (equal true)
      choose false j = j

      go : (a b : Bool) → Equal a b → Both Equal (steps.choices_fit (left n i w s p o V) v rest) (steps.choices_fit (right n i w s' p' o' V') v' rest) →
          Both Equal (if a then Ok true else steps.choices_fit (left n i w s p o V) v rest) (if b then Ok true else steps.choices_fit (right n i w s' p' o' V') v' rest)
      go a b (equal t) j = choose t j

  case-alike : (n : ℕ) (i : List ℤ) (w : List ℕ) (s s' : PStmts) {p p' : Around} {o o' : List PFrame} {V V' : Variables} → Under x p o V p' o' V' → (v v' : Value) → KnownValue x.text.programs v v' →
      {arms arms' : PCaseArms} → ImageCaseArms x.text arms arms' → {c d : PMaybe} → ImageMaybe x.text c d →
      Both (ImageMaybe x.text) (steps.case_taken (left n i w s p o V) v arms c) (steps.case_taken (right n i w s' p' o' V') v' arms' d)
  case-alike n i w s s' u v v' hv image_no_case_arm {c} {d} h = both_ok c d h
  case-alike n i w s s' {p} {p'} {o} {o'} {V} {V'} u v v' hv (image_case_arm cs l l' rest rest' old im more) {c} {d} h =
      both_then (choices-alike n i w s s' u v v' hv old) (λ a b q. go a b q (case-alike n i w s s' u v v' hv more h))
    where
      choose : (b : Bool) → Both (ImageMaybe x.text) (steps.case_taken (left n i w s p o V) v rest c) (steps.case_taken (right n i w s' p' o' V') v' rest' d) →
          Both (ImageMaybe x.text) (if b then Ok (present l) else steps.case_taken (left n i w s p o V) v rest c) (if b then Ok (present l') else steps.case_taken (right n i w s' p' o' V') v' rest' d)
      choose true k = both_ok _ _ (image_present l l' im)
      choose false k = k

      go : (a b : Bool) → Equal a b → Both (ImageMaybe x.text) (steps.case_taken (left n i w s p o V) v rest c) (steps.case_taken (right n i w s' p' o' V') v' rest' d) →
          Both (ImageMaybe x.text) (if a then Ok (present l) else steps.case_taken (left n i w s p o V) v rest c) (if b then Ok (present l') else steps.case_taken (right n i w s' p' o' V') v' rest' d)
      go a b (equal t) k = choose t k

  -- ---- texts

  put-alike : (n : ℕ) (i : List ℤ) (w : List ℕ) (s s' q q' : PStmts) {p p' : Around} {o o' : List PFrame} {V V' : Variables} → x.text.image q q' → Under x p o V p' o' V' →
      (ps : List PPart) → OldParts x.text.programs ps → (closing : List ℕ) → Alike x (steps.put_step ps closing q (left n i w s p o V)) (steps.put_step ps closing q' (right n i w s' p' o' V'))
  put-alike n i w s s' q q' {p} {p'} {o} {o'} {V} {V'} im u ps h closing = or-raise n i w s s' u (parts-alike x.text.programs laws.types (sees-alike x laws u) h) go
    where
      go : (a b : List ℕ) → Equal a b → Alike x (gone_to q (with_text (left n i w s p o V) (a ++ closing))) (gone_to q' (with_text (right n i w s' p' o' V') (b ++ closing)))
      go a b (equal t) = go-there n i (w ++ (t ++ closing)) s s' q q' im u

  -- ---- exits and exceptions

  -- where exits of that name lead, in frames that go together
  abbrev Leaves : Option Word → Around → List PFrame → Variables → Around → List PFrame → Variables → Type 0
  Leaves name p o V p' o' V' = Settle x (exited_in name o p V) (exited_in name o' p' V')

  test-alike : (n : ℕ) (i : List ℤ) (w : List ℕ) (s s' : PStmts) {p p' : Around} {o o' : List PFrame} {V V' : Variables} → Under x p o V p' o' V' → {e : Option PExpr} → OldOption x.text.programs e →
      Both Equal (steps.exit_test (left n i w s p o V) e) (steps.exit_test (right n i w s' p' o' V') e)
  test-alike n i w s s' u old_none = both_ok true true (equal true)
  test-alike n i w s s' u (old_some e h) = condition-alike x.text.programs laws.types (sees-alike x laws u) h

  exit-alike : (n : ℕ) (i : List ℤ) (w : List ℕ) (s s' q q' : PStmts) {p p' : Around} {o o' : List PFrame} {V V' : Variables} → x.text.image q q' → Under x p o V p' o' V' →
      (name : Option Word) → Leaves name p o V p' o' V' → {e : Option PExpr} → OldOption x.text.programs e → Alike x (steps.exit_step name e q (left n i w s p o V)) (steps.exit_step name e q' (right n i w s' p' o' V'))
  exit-alike n i w s s' q q' {p} {p'} {o} {o'} {V} {V'} im u name leaves h = or-raise n i w s s' u (test-alike n i w s s' u h) go
    where
      go : (a b : Bool) → Equal a b → Alike x (if a then steps.exited name (left n i w s p o V) else gone_to q (left n i w s p o V))
          (if b then steps.exited name (right n i w s' p' o' V') else gone_to q' (right n i w s' p' o' V'))
      go a b (equal t) = either-alike t (of_settle n i w leaves) (go-there n i w s s' q q' im u)

  raise-alike : (n : ℕ) (i : List ℤ) (w : List ℕ) (s s' : PStmts) {p p' : Around} {o o' : List PFrame} {V V' : Variables} → Under x p o V p' o' V' →
      (name : Option Word) → Alike x (steps.raise_step name (left n i w s p o V)) (steps.raise_step name (right n i w s' p' o' V'))
  raise-alike n i w s s' u (Some name) = raise-there n i w s s' u (raised_named name.name)
  raise-alike n i w s s' {p} {p'} {o} {o'} {V} {V'} u None =
      subst (λ e. Alike x (raised_there (unwrap_or (handled_around p o) raised.Program) (left n i w s p o V)) (raised_there (unwrap_or e raised.Program) (right n i w s' p' o' V')))
      (handled-alike x laws u) (raise-there n i w s s' u (unwrap_or (handled_around p o) raised.Program))

  -- ---- loops

  push-alike : (n : ℕ) (i : List ℤ) (w : List ℕ) (s s' q q' l l' : PStmts) {p p' a a' : Around} {o o' : List PFrame} (V V' : Variables) {W W' : Variables} → x.text.image l l' →
      Under x a (frame q p ∷ o) W a' (frame q' p' ∷ o') W' → Alike x (pushed l a W q (left n i w s p o V)) (pushed l' a' W' q' (right n i w s' p' o' V'))
  push-alike n i w s s' q q' l l' V V' im u = of_settle n i w (settle x laws l l' im u)

  -- a loop parameter
  abbrev counter : TypeTable → NameId → ℕ → ℤ → Object
  counter types name k z = single name (limits_of_kind types k) None (value_at types k z)

  counter-same : (name : NameId) (k : ℕ) (z : ℤ) → x.text.programs.is_known k ≡ true → counter (types_before x.text.programs) name k z ≡ counter (types_after x.text.programs) name k z
  counter-same name k z known =
      ap (λ l. single name l None (value_at (types_before x.text.programs) k z)) (laws.types.kinds k known)
      ∙ ap (λ v. single name (limits_of_kind (types_after x.text.programs) k) None v) (laws.types.values k z)

  range_checked-here : (mark r : Limits) → x.text.programs.is_known r.kind ≡ true → Both (KnownRange x.text.programs) (steps.range_checked mark r) (steps.range_checked mark r)
  range_checked-here mark r known = go (is_empty_range r || (lies_in mark r.first && lies_in mark r.last))
    where
      go : (b : Bool) → Both (KnownRange x.text.programs) (if b then Ok r else Err raised.Constraint) (if b then Ok r else Err raised.Constraint)
      go true = both_ok r r (known_range r known)
      go false = both_err raised.Constraint

  range_checked-alike : (mark mark' : Limits) → mark ≡ mark' → (r r' : Limits) → KnownRange x.text.programs r r' → Both (KnownRange x.text.programs) (steps.range_checked mark r) (steps.range_checked mark' r')
  range_checked-alike mark mark' e r r' (known_range q known) = subst (λ m. Both (KnownRange x.text.programs) (steps.range_checked mark q) (steps.range_checked m q)) e (range_checked-here mark q known)

  counted-alike : (n : ℕ) (i : List ℤ) (w : List ℕ) (s s' : PStmts) {p p' : Around} {o o' : List PFrame} {V V' : Variables} → Under x p o V p' o' V' → {range : PDrange} → OldRange x.text.programs range →
      Both (KnownRange x.text.programs) (steps.counted_range (left n i w s p o V) range) (steps.counted_range (right n i w s' p' o' V') range)
  counted-alike n i w s s' u (old_given b h k) = bounds-alike x.text.programs laws.types (sees-alike x laws u) b h k
  counted-alike n i w s s' u (old_marked m old known h) =
      both_then (narrowed-alike x.text.programs laws.types (sees-alike x laws u) _ _ (laws.types.marks m.mark.name old) known h)
      (range_checked-alike _ _ (laws.types.marks m.mark.name old))

  begun-alike : (n : ℕ) (i : List ℤ) (w : List ℕ) (s s' q q' l l' : PStmts) {p p' : Around} {o o' : List PFrame} {V V' : Variables} → x.text.image q q' → x.text.image l l' → Under x p o V p' o' V' →
      (name : Option Word) (c : Word) → IsOld x.text.programs c.name → IsFree x.text.programs c.name → (backwards : Bool) (r r' : Limits) → KnownRange x.text.programs r r' →
      Alike x (steps.counting_begun name c backwards l q (left n i w s p o V) r) (steps.counting_begun name c backwards l' q' (right n i w s' p' o' V') r')
  begun-alike n i w s s' q q' l l' {p} {p'} {o} {o'} {V} {V'} im iml u name c old free backwards r r' (known_range t known) =
      either-alike (is_empty_range t) (go-there n i w s s' q q' im u) (start (if backwards then t.first else t.last) (if backwards then t.last else t.first))
    where
      start : (last z : ℤ) → Alike x (pushed l (Loop name (Counting backwards last) l) (counter (types_before x.text.programs) c.name t.kind z ∷ V) q (left n i w s p o V))
          (pushed l' (Loop name (Counting backwards last) l') (counter (types_after x.text.programs) c.name t.kind z ∷ V') q' (right n i w s' p' o' V'))
      start last z =
          subst (λ b. Alike x (pushed l (Loop name (Counting backwards last) l) (counter (types_before x.text.programs) c.name t.kind z ∷ V) q (left n i w s p o V))
          (pushed l' (Loop name (Counting backwards last) l') (b ∷ V') q' (right n i w s' p' o' V'))) (counter-same c.name t.kind z known)
          (push-alike n i w s s' q q' l l' V V' iml
          (in_count name backwards last l l' q q' (counter (types_before x.text.programs) c.name t.kind z) old
          (single-known x.text.programs laws.types c.name (limits_of_kind (types_before x.text.programs) t.kind) None (value_at (types_before x.text.programs) t.kind z) free (laws.types.values_known t.kind z)) iml im u))

  loop-alike : (n : ℕ) (i : List ℤ) (w : List ℕ) (s s' q q' l l' : PStmts) {p p' : Around} {o o' : List PFrame} {V V' : Variables} → x.text.image q q' → x.text.image l l' → Under x p o V p' o' V' →
      (name : Option Word) {c : Option PScheme} → OldScheme x.text.programs c → Alike x (steps.loop_step name c l q (left n i w s p o V)) (steps.loop_step name c l' q' (right n i w s' p' o' V'))
  loop-alike n i w s s' q q' l l' {V = V} {V' = V'} im iml u name old_endless = push-alike n i w s s' q q' l l' V V' iml (in_endless name l l' q q' iml im u)
  loop-alike n i w s s' q q' l l' {p = p} {p' = p'} {o = o} {o' = o'} {V = V} {V' = V'} im iml u name (old_while e h) =
      or-raise n i w s s' u (condition-alike x.text.programs laws.types (sees-alike x laws u) h) go
    where
      go : (a b : Bool) → Equal a b → Alike x (if a then pushed l (Loop name (While e) l) V q (left n i w s p o V) else gone_to q (left n i w s p o V))
          (if b then pushed l' (Loop name (While e) l') V' q' (right n i w s' p' o' V') else gone_to q' (right n i w s' p' o' V'))
      go a b (equal t) = either-alike t (push-alike n i w s s' q q' l l' V V' iml (in_while name e l l' q q' h iml im u)) (go-there n i w s s' q q' im u)
  loop-alike n i w s s' q q' l l' im iml u name (old_for c backwards range old free h) =
      or-raise n i w s s' u (counted-alike n i w s s' u h) (begun-alike n i w s s' q q' l l' im iml u name c old free backwards)

  -- ---- statements

  row-alike : (n : ℕ) (i : List ℤ) (w : List ℕ) {p p' : Around} {o o' : List PFrame} {V V' : Variables} → Under x p o V p' o' V' → (q q' : PStmts) → x.text.image q q' → {s s' : PStmt} →
      ((name : Option Word) → IsExit name (stmt_then s q) → Leaves name p o V p' o' V') → ImageStmt x.text s s' →
      StepAlike x (left n i w (stmt_then s q) p o V) (right n i w (stmt_then s' q') p' o' V')
  row-alike n i w u q q' im leaves (image_null s) = record { steps = refl; steps_too = refl; after = go-there n i w (stmt_then (SNull s) q) (stmt_then (SNull s) q') q q' im u }
  row-alike n i w u q q' im leaves (image_assign t e s ht he) = record { steps = refl; steps_too = refl; after = assign-alike n i w (stmt_then (SAssign t e s) q) (stmt_then (SAssign t e s) q') q q' im u t e ht he }
  row-alike n i w u q q' im leaves (image_delay d s) = record { steps = refl; steps_too = refl; after = go-there n i w (stmt_then (SDelay d s) q) (stmt_then (SDelay d s) q') q q' im u }
  row-alike n i w u q q' im leaves (image_exit name test s h) = record { steps = refl; steps_too = refl; after = exit-alike n i w (stmt_then (SExit name test s) q) (stmt_then (SExit name test s) q') q q' im u name (leaves name (is_exit test s q)) h }
  row-alike n i w u q q' im leaves (image_raise name s) = record { steps = refl; steps_too = refl; after = raise-alike n i w (stmt_then (SRaise name s) q) (stmt_then (SRaise name s) q') u name }
  row-alike n i w u q q' im leaves (image_no_abort s) = record { steps = refl; steps_too = refl; after = go-there n i w (stmt_then (SAbort [] s) q) (stmt_then (SAbort [] s) q') q q' im u }
  row-alike n i w u q q' im leaves (image_put ps s h) = record { steps = refl; steps_too = refl; after = put-alike n i w (stmt_then (SPut ps s) q) (stmt_then (SPut ps s) q') q q' im u ps h [] }
  row-alike n i w u q q' im leaves (image_put_line ps s h) = record { steps = refl; steps_too = refl; after = put-alike n i w (stmt_then (SPutLine ps s) q) (stmt_then (SPutLine ps s) q') q q' im u ps h steps.line_end }
  row-alike n i w u q q' im leaves (image_new_line s) = record { steps = refl; steps_too = refl; after = put-alike n i w (stmt_then (SNewLine s) q) (stmt_then (SNewLine s) q') q q' im u [] old_no_part steps.line_end }
  row-alike n i w u q q' im leaves (image_get t s h) = record {
    steps = refl;
    steps_too = refl;
    after = or-raise n i w (stmt_then (SGet t s) q) (stmt_then (SGet t s) q') u (target-alike n i w (stmt_then (SGet t s) q) (stmt_then (SGet t s) q') u h) (λ k k' hk. got-alike n i w (stmt_then (SGet t s) q) (stmt_then (SGet t s) q') q q' im u t h k k' hk i);
  }
  row-alike n i w u q q' im leaves (image_if arms arms' c d s h k) = record {
    steps = refl;
    steps_too = refl;
    after = or-raise n i w (stmt_then (SIf arms c s) q) (stmt_then (SIf arms' d s) q') u (arms-alike n i w (stmt_then (SIf arms c s) q) (stmt_then (SIf arms' d s) q') u h k) (λ a b hb. enter-alike n i w (stmt_then (SIf arms c s) q) (stmt_then (SIf arms' d s) q') q q' im u a b hb);
  }
  row-alike n i w u q q' im leaves (image_case e arms arms' c d s old h k) = record {
    steps = refl;
    steps_too = refl;
    after = or-raise n i w (stmt_then (SCase e arms c s) q) (stmt_then (SCase e arms' d s) q') u (both_then (value-alike x.text.programs laws.types (sees-alike x laws u) old) (λ v v' hv. case-alike n i w (stmt_then (SCase e arms c s) q) (stmt_then (SCase e arms' d s) q') u v v' hv h k))
        (λ a b hb. enter-alike n i w (stmt_then (SCase e arms c s) q) (stmt_then (SCase e arms' d s) q') q q' im u a b hb);
  }
  row-alike n i w {V = V} {V' = V'} u q q' im leaves (image_block l l' hs hs' s iml h) = record {
    steps = refl;
    steps_too = refl;
    after = push-alike n i w (stmt_then (SBlock (body l hs) s) q) (stmt_then (SBlock (body l' hs') s) q') q q' l l' V V' iml (in_block hs hs' q q' h im u);
  }
  row-alike n i w u q q' im leaves (image_loop name c l l' s h iml) = record { steps = refl; steps_too = refl; after = loop-alike n i w (stmt_then (SLoop name c l s) q) (stmt_then (SLoop name c l' s) q') q q' l l' im iml u name h }

  -- ---- turns

  leave-alike : (n : ℕ) (i : List ℤ) (w : List ℕ) (r r' : PStmts) {p p' : Around} {o o' : List PFrame} {V V' : Variables} → x.text.image r r' → Under x p o V p' o' V' →
      Alike x (task_in x.text.programs.original n i w (settled (control r p o V))) (task_in x.text.programs.made n i w (settled (control r' p' o' V')))
  leave-alike n i w r r' im u = of_settle n i w (settle x laws r r' im u)

  -- the loop parameter one on
  next-same : (b : Object) (z : ℤ) → single b.name b.limits b.index (value_at (types_before x.text.programs) b.limits.kind z) ≡ single b.name b.limits b.index (value_at (types_after x.text.programs) b.limits.kind z)
  next-same b z = ap (λ v. single b.name b.limits b.index v) (laws.types.values b.limits.kind z)

  turn-alike : (n : ℕ) (i : List ℤ) (w : List ℕ) {p p' : Around} {o o' : List PFrame} {V V' : Variables} → IsAtLocal no_stmt p → Under x p o V p' o' V' →
      StepAlike x (left n i w no_stmt p o V) (right n i w no_stmt p' o' V')
  turn-alike n i w (at_turn name turns l) (on_floor f) = absurd (laws.floors.apart name turns l _ _ _ _ _ f)
  turn-alike n i w (at_turn name turns l) (in_endless name1 l1 l1' r r' h im u) = record {
    steps = refl;
    steps_too = refl;
    after = go-there n i w no_stmt no_stmt l1 l1' h (in_endless name1 l1 l1' r r' h im u);
  }
  turn-alike n i w (at_turn name turns l) (in_while {p = p} {p' = p'} {o = o} {o' = o'} {V = V} {V' = V'} name1 e l1 l1' r r' old h im u) = record {
    steps = refl;
    steps_too = refl;
    after = or-raise n i w no_stmt no_stmt (in_while name1 e l1 l1' r r' old h im u) (condition-alike x.text.programs laws.types (sees-alike x laws u) old) go;
  }
    where
      go : (a b : Bool) → Equal a b →
          Alike x (if a then gone_to l1 (left n i w no_stmt (Loop name1 (While e) l1) (frame r p ∷ o) V) else task_in x.text.programs.original n i w (settled (control r p o V)))
          (if b then gone_to l1' (right n i w no_stmt (Loop name1 (While e) l1') (frame r' p' ∷ o') V') else task_in x.text.programs.made n i w (settled (control r' p' o' V')))
      go a b (equal t) = either-alike t (go-there n i w no_stmt no_stmt l1 l1' h (in_while name1 e l1 l1' r r' old h im u)) (leave-alike n i w r r' im u)
  turn-alike n i w (at_turn name turns l) (in_count {p = p} {p' = p'} {o = o} {o' = o'} {V = V} {V' = V'} name1 backwards last l1 l1' r r' b old known h im u) = record {
    steps = refl;
    steps_too = refl;
    after = either-alike (steps.has_turn backwards last (position_of (value_there b 0)))
        (on (if backwards then position_of (value_there b 0) -ℤ pos 1 else position_of (value_there b 0) +ℤ pos 1))
        (leave-alike n i w r r' im u);
  }
    where
      on : (z : ℤ) → Alike x
          (task_in x.text.programs.original n i w (settled (control l1 (Loop name1 (Counting backwards last) l1) (frame r p ∷ o) (single b.name b.limits b.index (value_at (types_before x.text.programs) b.limits.kind z) ∷ V))))
          (task_in x.text.programs.made n i w (settled (control l1' (Loop name1 (Counting backwards last) l1') (frame r' p' ∷ o') (single b.name b.limits b.index (value_at (types_after x.text.programs) b.limits.kind z) ∷ V'))))
      on z = subst (λ c. Alike x
          (task_in x.text.programs.original n i w (settled (control l1 (Loop name1 (Counting backwards last) l1) (frame r p ∷ o) (single b.name b.limits b.index (value_at (types_before x.text.programs) b.limits.kind z) ∷ V))))
          (task_in x.text.programs.made n i w (settled (control l1' (Loop name1 (Counting backwards last) l1') (frame r' p' ∷ o') (c ∷ V')))))
          (next-same b z)
          (of_settle n i w (settle x laws l1 l1' h (in_count name1 backwards last l1 l1' r r' (single b.name b.limits b.index (value_at (types_before x.text.programs) b.limits.kind z)) old
          (single-known x.text.programs laws.types b.name b.limits b.index (value_at (types_before x.text.programs) b.limits.kind z) known.1 (laws.types.values_known b.limits.kind z)) h im u)))

  -- ---- the theorem

  at-row : (n : ℕ) (i : List ℤ) (w : List ℕ) {p p' : Around} {o o' : List PFrame} {V V' : Variables} → Under x p o V p' o' V' → (s : PStmt) (q : PStmts) {r' : PStmts} →
      ((name : Option Word) → IsExit name (stmt_then s q) → Leaves name p o V p' o' V') → ImageList x.text s q r' →
      StepAlike x (left n i w (stmt_then s q) p o V) (right n i w r' p' o' V')
  at-row n i w u s q leaves (image_list t t' rest rest' h im) = row-alike n i w u rest rest' im leaves h

  at-end : (n : ℕ) (i : List ℤ) (w : List ℕ) {r' : PStmts} {p p' : Around} {o o' : List PFrame} {V V' : Variables} → IsAtLocal no_stmt p → IsEmpty r' → Under x p o V p' o' V' →
      StepAlike x (left n i w no_stmt p o V) (right n i w r' p' o' V')
  at-end n i w at nothing_there u = turn-alike n i w at u

  at-local : (n : ℕ) (i : List ℤ) (w : List ℕ) {r r' : PStmts} {p p' : Around} {o o' : List PFrame} {V V' : Variables} → IsAtLocal r p → x.text.image r r' → Under x p o V p' o' V' →
      ((name : Option Word) → IsExit name r → Leaves name p o V p' o' V') → StepAlike x (left n i w r p o V) (right n i w r' p' o' V')
  at-local n i w {r' = r'} (at_statement s q p loc) im u leaves = at-row n i w u s q leaves (laws.images.local s q r' loc im)
  at-local n i w {r' = r'} (at_turn name turns l) im u leaves = at-end n i w (at_turn name turns l) (laws.images.nothing r' im) u

  pub step-alike : AreExits x → (σ κ : Task) → AreInside x σ κ → IsAtLocal (rest_of σ) (place_of σ) → StepAlike x σ κ
  step-alike exits σ κ (are_inside n i w r r' im u) at = at-local n i w at im u (λ name e. exited-alike x laws exits name u)

  -- the same where each exit leaves a loop
  pub step-in-loops : AreClosed x → (σ κ : Task) → AreInside x σ κ → IsAtLocal (rest_of σ) (place_of σ) → ExitsLoop σ → StepAlike x σ κ
  step-in-loops shut σ κ (are_inside n i w r r' im u) at stays = at-local n i w at im u (λ name e. exited-inside x laws shut name u (stays name e))

  pub raises-alike : (σ κ : Task) → AreAround x σ κ → (e : Raised) → Alike x (raised_there e σ) (raised_there e κ)
  raises-alike σ κ (are_around n i w r r' u) e = raise-there n i w r r' u e

  pub values-alike : (σ κ : Task) → AreAround x σ κ → (e : PExpr) → OldExpr x.text.programs e → value_of σ e ≡ value_of κ e
  values-alike σ κ (are_around n i w r r' u) e h = worth-same x.text.programs laws.types (sees-alike x laws u) h
