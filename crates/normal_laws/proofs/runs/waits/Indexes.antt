-- The index of an accept: one that is not static goes to its variable, and both come to the same member.
use Rattle.std.proofs.Common.{◌≡◌, ℕ, ◌+◌, ◌<◌, ◌≤◌, ℤ, pos, Bool, true, false, if◌then◌else◌, List, [], ◌∷◌, length, Option, Some, None, Ok, Err, refl, sym, ap, subst, ◌∙◌, arith}
use Rattle.ada_tree.specs.declared.naming.Span.{Span}
use Rattle.ada_tree.specs.PlainExpr.{PExpr}
use Rattle.ada_tree.specs.PlainStmt.{PStmts}
use Rattle.syn_event.specs.Numbering.{entry_at}
use Rattle.ada_value.specs.declared.values.Value.{Value}
use Rattle.ada_value.specs.declared.values.Raised.{Raised}
use Rattle.ada_value.specs.declared.values.Raised.TheVariants as raised
use Rattle.ada_value.specs.declared.values.Limits.{Limits}
use Rattle.ada_value.specs.Values.{and_then, lies_in, position_of}
use Rattle.ada_value.specs.Variables.{Variables, object_named}
use Rattle.ada_value.specs.Evaluating.{evaluated}
use Rattle.task_model.specs.Setting.{Setting, family_limits, index_in, member_index}
use Rattle.task_model.specs.Frames.{Around, PFrame, control, in_front}
use Rattle.task_model.specs.Tasks.{Task, raised_there}
use Rattle.task_model.specs.Stands.{Steps, stand_of, stepped}
use Rattle.normal_model.specs.Names.{variable_name}
use Rattle.normal_model.specs.Making.{moving, variable, index_left}
use Rattle.task_laws.specs.translation.Translations.{Programs, Translation, types_before, types_after}
use Rattle.task_laws.specs.translation.OldNames.{OldExpr, OldOption, old_none, old_some}
use Rattle.task_laws.specs.translation.Images.{IsSomething, something_there}
use Rattle.task_laws.specs.translation.Controls.{task_in, Under}
use Rattle.task_laws.specs.translation.Floors.{IsTranslation}
use Rattle.task_laws.proofs.translation.Evaluating.{worth-same}
use Rattle.task_laws.proofs.translation.Frames.{sees-alike}
use Rattle.normal_laws.specs.runs.floors.Suited.{SameRange, AreMade}
use Rattle.normal_laws.specs.runs.floors.Preludes.{Reaches, reaches_here, Added, AreThere, due_before, due_worth, OldDues, old_no_due, old_due, Hold, hold_value, Prelude, given, stopped}
use Rattle.normal_laws.specs.runs.floors.Declared.{dues_of}
use Rattle.normal_laws.proofs.runs.floors.Actuals.{held-value}
use Rattle.normal_laws.proofs.runs.floors.Cells.{cell-kept}
use Rattle.normal_laws.proofs.runs.floors.Preludes.{prelude}
use Rattle.normal_laws.proofs.runs.floors.Static.{moving-is, index-stays, entry-same}
use Rattle.normal_laws.proofs.runs.callees.Choosing.{one-due}

module _ (x : Translation) (laws : IsTranslation x) (made : AreMade x.text.programs) (added : Added x.text.programs x.text.programs.original) (m : ℕ) (i : List ℤ) (out : List ℕ) (p p' : Around) (o o' : List PFrame) (V : Variables) where
  abbrev b : Programs
  b = x.text.programs

  abbrev g : Setting
  g = x.text.programs.original

  abbrev h : Setting
  h = x.text.programs.made

  abbrev right : PStmts → Variables → Task
  right r W = task_in h m i out (control r p' o' W)

  -- the variables below a number are as they were
  abbrev pub SameBelow : ℕ → Variables → Variables → Type 0
  SameBelow k W W1 = (j : ℕ) → j < k → object_named W1 (variable_name g j) ≡ object_named W (variable_name g j)

  -- a step of a task of the normal form at a statement that does not synchronize, which raises an exception in the same frames
  pub record RaisesAt (from : Task) (a : Raised) : Type 0 where
    pub rest : PStmts
    pub vars : Variables
    pub under : Under x p o V p' o' vars
    pub reach : Reaches from (right rest vars)
    pub stands : stand_of (right rest vars) ≡ Steps
    pub stop : stepped (right rest vars) ≡ raised_there a (right rest vars)

  -- the values in front of any row
  pub values-made : (s : Span) {goal : PStmts} → IsSomething goal → (W : Variables) {ds : List (Option PExpr)} → OldDues b ds → (k : ℕ) → k + length ds ≤ added.count → Under x p o V p' o' W → AreThere added W →
      Prelude x added m i out p o V p' o' (right (in_front (due_before g s ds k) goal) W) goal k W ds
  values-made s (something_there t r) W old k l u there = prelude x laws g added m i out p p' o o' V s t r old k W l u there

  -- what becomes of the index of an accept of an entry: both come to the same member, also with the variables as they are later on
  pub data MeetsIndex (from : Task) (goal : PStmts) (e : ℕ) (index left : Option PExpr) (k later : ℕ) (W : Variables) : Type 0 where
    index_made : (z : ℤ) (W1 : Variables) → member_index g V e index ≡ Ok z → ((W2 : Variables) → Under x p o V p' o' W2 → SameBelow later W1 W2 → member_index h W2 e left ≡ Ok z) →
        Under x p o V p' o' W1 → AreThere added W1 → Reaches from (right goal W1) → SameBelow k W W1 → MeetsIndex from goal e index left k later W
    index_raises : (a : Raised) → member_index g V e index ≡ Err a → RaisesAt from a → MeetsIndex from goal e index left k later W

  index-old : (e : ℕ) {index : Option PExpr} → OldOption b index → (W : Variables) → Under x p o V p' o' W → member_index h W e index ≡ member_index g V e index
  index-old e old_none W u = refl
  index-old e (old_some d old) W u =
      ap (λ info. and_then (evaluated (types_after b) W d) (λ v. index_in (family_limits info) (position_of v))) (entry-same b made e)
      ∙ ap (λ r. and_then r (λ v. index_in (family_limits (entry_at g.numbers e)) (position_of v))) (sym (worth-same b made.types (sees-alike x laws u) old))

  in-limits : (l n : Limits) (v : Value) → SameRange l n → (t : Bool) → lies_in n (position_of v) ≡ t → index_in l (position_of v) ≡ (if t then Ok (position_of v) else Err raised.Constraint)
  in-limits l n v same t e = ap (λ q. if q then Ok (position_of v) else Err raised.Constraint) (same (position_of v) ∙ e)

  -- the position of the one value
  abbrev first_position : List (Option Value) → ℤ
  first_position [] = pos 0
  first_position (None ∷ vs) = pos 0
  first_position (Some v ∷ vs) = position_of v

  moved : (s : Span) {goal : PStmts} → IsSomething goal → (e : ℕ) (d : PExpr) → OldExpr b d → (k : ℕ) → SameRange (family_limits (entry_at g.numbers e)) (added.bounds k) → k < added.count → (W : Variables) →
      Under x p o V p' o' W → AreThere added W → MeetsIndex (right (in_front (due_before g s (Some d ∷ []) k) goal) W) goal e (Some d) (Some (variable g s k)) k (k + 1) W
  moved s {goal} row e d old k range l W u there = go (values-made s row W (old_due d [] old old_no_due) k (omega arith) u there)
    where
      index : member_index g V e (Some d) ≡ and_then (due_worth (types_before b) V added.bounds (Some d ∷ []) k) (λ ws. Ok (first_position ws))
      index = one-due (added.bounds k) (evaluated (types_before b) V d) (λ v. index_in (family_limits (entry_at g.numbers e)) (position_of v)) (Ok []) first_position
          (λ v lies. in-limits (family_limits (entry_at g.numbers e)) (added.bounds k) v range true lies) (λ v lies. in-limits (family_limits (entry_at g.numbers e)) (added.bounds k) v range false lies)

      held : (W1 : Variables) (ws : List (Option Value)) → Hold added W1 k (Some d ∷ []) ws → (W2 : Variables) → SameBelow (k + 1) W1 W2 → member_index h W2 e (Some (variable g s k)) ≡ Ok (first_position ws)
      held W1 ws (hold_value k1 d1 v ds vs cell lies more) W2 same =
          ap (λ r. and_then r (λ a. index_in (family_limits (entry_at h.numbers e)) (position_of a)))
          (held-value b made.types g added s k W2 v (cell-kept W1 W2 (variable_name g k) (added.bounds k) v (same k (omega arith)) cell))
          ∙ ap (λ info. index_in (family_limits info) (position_of v)) (entry-same b made e)
          ∙ in-limits (family_limits (entry_at g.numbers e)) (added.bounds k) v range true lies

      go : Prelude x added m i out p o V p' o' (right (in_front (due_before g s (Some d ∷ []) k) goal) W) goal k W (Some d ∷ []) →
          MeetsIndex (right (in_front (due_before g s (Some d ∷ []) k) goal) W) goal e (Some d) (Some (variable g s k)) k (k + 1) W
      go (given vs W1 res v reach still hold same) =
          index_made (first_position vs) W1 (index ∙ ap (λ a. and_then a (λ ws. Ok (first_position ws))) res) (λ W2 u2 below. held W1 vs hold W2 below) v still reach same
      go (stopped a r W1 res v reach steps stop still) =
          index_raises a (index ∙ ap (λ q. and_then q (λ ws. Ok (first_position ws))) res) (record { rest = r; vars = W1; under = v; reach = reach; stands = steps; stop = stop })

  some-old : (d : PExpr) → OldOption b (Some d) → OldExpr b d
  some-old d (old_some e old) = old

  pub index-comes : (s : Span) {goal : PStmts} → IsSomething goal → (e : ℕ) (index : Option PExpr) → OldOption b index → (mv : Option PExpr) → moving g.types index ≡ mv →
      (moving g.types index ≡ None → (z : ℤ) × (member_index g [] e index ≡ Ok z)) → (k : ℕ) → ((d : PExpr) → mv ≡ Some d → SameRange (family_limits (entry_at g.numbers e)) (added.bounds k)) →
      k + length (dues_of mv) ≤ added.count → (W : Variables) → Under x p o V p' o' W → AreThere added W →
      MeetsIndex (right (in_front (due_before g s (dues_of mv) k) goal) W) goal e index (index_left g s k mv index) k (k + length (dues_of mv)) W
  index-comes s {goal} row e index old None mv known k range l W u there =
      let z = known mv in
      let f : member_index g V e index ≡ Ok z.0 = index-stays b made e (sees-alike x laws u) old mv ∙ z.1 in
      index_made z.0 W f (λ W2 u2 same. index-old e old W2 u2 ∙ f) u there (reaches_here (right goal W)) (λ j m1. refl)
  index-comes s {goal} row e index old (Some d) mv known k range l W u there =
      let q : index ≡ Some d = moving-is b made index d mv in
      let c : OldExpr b d = some-old d (subst (OldOption b) q old) in
      subst (λ a. MeetsIndex (right (in_front (due_before g s (Some d ∷ []) k) goal) W) goal e a (Some (variable g s k)) k (k + 1) W) (sym q)
      (moved s row e d c k (range d refl) (omega arith) W u there)
