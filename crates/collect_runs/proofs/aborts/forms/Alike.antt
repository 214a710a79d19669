-- Tasks of a legal program's normal form are alike though a lost call has left other values in variables, where both go through the body of each unit alike.
use Rattle.std.proofs.Common.{◌≡◌, ◌≤◌, ◌<◌, ◌&&◌, not, arith, ℕ, zero, suc, Bool, true, false, List, [], ◌∷◌, length, Option, Some, refl, sym, ap, subst, ◌∙◌}
use Rattle.common_lemmas.proofs.Truth.{and_left}
use Rattle.ada_tree.specs.PlainProgram.{PProgram}
use Rattle.ada_value.specs.declared.values.Value.{Value}
use Rattle.ada_value.specs.Variables.{Object, Variables, object_named}
use Rattle.task_model.specs.Frames.{brought}
use Rattle.task_model.specs.Tasks.{Task, place_of, vars_of}
use Rattle.task_model.specs.Rendezvous.{finals_of}
use Rattle.task_model.specs.Steps.{block_stmts, block_handlers}
use Rattle.task_model.specs.Starting.{unit_of}
use Rattle.task_laws.specs.statements.variables.Held.{FirstInner, MeansKept, kept_variable}
use Rattle.task_laws.proofs.statements.variables.Carried.{names_mean_kept}
use Rattle.normal_model.specs.Names.{variable_name}
use Rattle.normal_laws.specs.runs.floors.NormalFloors.{Extends, extends_none, extends_old, extends_new}
use Rattle.normal_laws.specs.runs.floors.Preludes.{IsCell, cell}
use Rattle.normal_laws.specs.runs.runs.Premises.{programs_of}
use Rattle.normal_laws.specs.runs.forms.Normalisable.{numbers_of, setting_for, normal_rewrite}
use Rattle.normal_laws.specs.legality.scopes.Plain.{plain_name}
use Rattle.normal_laws.proofs.legality.scopes.Names.{plain-own}
use Rattle.normal_laws.specs.existence.Laws.{IsLegalOriginal}
use Rattle.normal_laws.proofs.existence.Joined.{legal_is_normal}
use Rattle.replay_structure.specs.legal.names.form_units.Inner.{inner_name}
use Rattle.replay_model.specs.ReplayTree.{last_task}
use Rattle.replay_runs.specs.starts.Laws.{form_in, start_before}
use Rattle.replay_runs.specs.controls.indices.Laws.{IsUnitVariable}
use Rattle.replay_runs.specs.controls.meanings.Pairs.{IsOfForm}
use Rattle.replay_runs.proofs.controls.Offers.{as-many-numbers}
use Rattle.replay_runs.proofs.controls.indices.Joined.{legal_variables_are_added}
use Rattle.collect_runs.specs.aborts.likeness.Likeness.{Ground, Near, IsThere, AreCells, Always, Passes, AreSafe, settled_here, IsSettled, is_settled, AreLike, the_same, FirstOld, IsSeen}
use Rattle.collect_runs.proofs.aborts.likeness.Settling.{settled-stays, settled-passed, lost-alike, lost-settled}
use Rattle.collect_runs.proofs.aborts.likeness.Going.{goes-alike}
use Rattle.collect_runs.proofs.aborts.likeness.Values.{near-always}
use Rattle.collect_runs.proofs.aborts.likeness.Rows.{rows, rows-handlers}
use Rattle.collect_runs.proofs.aborts.likeness.Waiting.{waits}
use Rattle.ada_tree.specs.PlainStmt.{PBody}
use Rattle.normal_model.specs.Walk.{after_body}
use Rattle.normal_model.specs.NormalStmts.{normal_rewriter, normal_body}
use Rattle.normal_model.proofs.VariablesLemmas.{handlers-begin, normal-adds}
use Rattle.task_laws.specs.translation.OldTexts.{OldBody, old_body}
use Rattle.normal_laws.specs.runs.floors.Suited.{rewritten_unit, asked_of}
use Rattle.normal_laws.specs.runs.floors.NormalLists.{Begin}
use Rattle.normal_laws.specs.runs.runs.Premises.{Rewrite, unit_at}
use Rattle.normal_laws.proofs.runs.floors.Rows.{part-begins}
use Rattle.collect_runs.specs.aborts.forms.Tasks.{HasLikeness}

-- variables that have old names of no constants, or added names, are near themselves
module _ (x : Ground) where
  self-near : (V W : Variables) → Extends x.programs V W → Near x W W
  self-near _ _ extends_none = tt
  self-near _ _ (extends_old o V W old known e) =
      (record { free = ap (λ (c : Bool). not (x.programs.is_old o.name.0 && c)) known.1 ∙ none (x.programs.is_old o.name.0); set = λ v. refl; old = λ h. refl }, self-near V W e)
    where
      none : (c : Bool) → not (c && false) ≡ true
      none true = refl
      none false = refl
  self-near _ _ (extends_new o V W new e) =
      (record { free = ap (λ (c : Bool). not (c && x.programs.is_fixed o.name.0)) new; set = λ v. refl; old = λ h. refl }, self-near V W e)

-- a list with one member
one-value : (vs : List Value) → length vs ≡ 1 → (v : Value) × (vs ≡ v ∷ [])
one-value [] e = let no : ⊥ = omega (arith, e) in absurd no
one-value (v ∷ []) e = (v, refl)
one-value (v ∷ w ∷ vs) e = let no : ⊥ = omega (arith, e) in absurd no

module _ (p : PProgram) (h : IsLegalOriginal p) where
  -- what the tasks of a unit are told against
  abbrev pub ground : ℕ → Ground
  ground t = record { programs = programs_of (normal_rewrite p []); number = t; added = (legal_is_normal p h []).added t }

  -- ---- what is asked of a task

  module _ (t : ℕ) (there : t ≤ last_task (form_in p).numbers) where
    below : t < length (numbers_of p).tasks
    below = let m = as-many-numbers p h in omega (arith, m, there)

    first-old : (n : ℕ) (V : Variables) → FirstInner (inner_name p) n V → FirstOld (ground t) n V
    first-old zero V k = tt
    first-old (suc n) [] k = tt
    first-old (suc n) (o ∷ V) k = (plain-own p o.name.0 (and_left (plain_name p o.name.0) _ k.0), first-old n V k.2)

    cells-there : (σ : Task) → IsOfForm p t σ → AreCells (ground t) (vars_of σ)
    cells-there σ own k less =
        by_object (object_named (vars_of σ) (variable_name (setting_for p) k)) refl
        (subst (λ o. MeansKept o (object_named (vars_of σ) (variable_name (setting_for p) k))) start.1.found
        (names_mean_kept (inner_name p) (start_before p t) σ (variable_name (setting_for p) k) added.outer own.variables.variables))
      where
        start : (v : Value) × IsCell (start_before p t) (variable_name (setting_for p) k) ((ground t).added.bounds k) v
        start = (legal_is_normal p h []).there t below k less

        added : IsUnitVariable p t (variable_name (setting_for p) k)
        added = legal_variables_are_added p h t below k (subst (λ n. k < n) ((legal_is_normal p h []).declared t).count less)

        by_object : (o : Option Object) → object_named (vars_of σ) (variable_name (setting_for p) k) ≡ o → MeansKept (Some (cell start.1.name ((ground t).added.bounds k) start.0)) o →
            IsThere (ground t) k (vars_of σ)
        by_object o e (kept_variable a q m) =
            let one = one-value q.values m.count in
            record { object = q; found = e; limits = m.limits; value = one.0; single = one.1 }

    seen : (σ : Task) → IsOfForm p t σ → IsSeen (ground t) σ
    seen σ own = record { cells = cells-there σ own; brought = first-old (brought (place_of σ)) (vars_of σ) own.variables.variables.0 }

  -- ---- all tasks

  -- both go through the body of a unit alike
  pub record UnitPasses (t : ℕ) : Type 0 where
    pub stmts : Always (ground t) (Passes (ground t) (block_stmts (unit_of (form_in p).program (form_in p).numbers t).body) (Near (ground t)))
    pub handlers : AreSafe (ground t) (block_handlers (unit_of (form_in p).program (form_in p).numbers t).body)

  pub alike : ((t : ℕ) → t ≤ last_task (form_in p).numbers → UnitPasses t) → HasLikeness p
  alike passes = record {
    IsSettled = λ t. IsSettled (ground t);
    starts = λ inputs t there.
        let near : Near (ground t) (start_before p t) (start_before p t) = self-near (ground t) _ _ ((legal_is_normal p h []).objects t (below t there)) in
        let u = passes t there in
        is_settled _ [] _ (settled_here _ _ [] (start_before p t) record { near = near; passes = u.stmts _ _ near; inside = u.handlers; outside = tt });
    stays = λ t σ own s. settled-stays (ground t) σ (seen t own.there σ own) s;
    passed = λ t σ own s. settled-passed (ground t) σ (seen t own.there σ own) s;
    IsLike = λ t. AreLike (ground t);
    like_self = λ t σ own s. the_same σ;
    like_goes = λ t σ τ own other s s' like. goes-alike (ground t) σ τ (seen t own.there σ own) like;
    lost = λ t σ m own s at none. lost-alike (ground t) σ (finals_of m) (seen t own.there σ own) s at;
    lost_settled = λ t σ m own s at none. lost-settled (ground t) σ (finals_of m) (seen t own.there σ own) s at;
  }

  -- ---- the body of each unit

  abbrev r : Rewrite
  r = normal_rewrite p []

  body-passes : (t : ℕ) {old : PBody} → OldBody (asked_of (unit_at r t)) old → Begin (after_body (normal_rewriter (rewritten_unit (unit_at r t))) old []) (r.vars t) →
      Always (ground t) (Passes (ground t) (block_stmts (normal_body (rewritten_unit (unit_at r t)) old)) (Near (ground t))) × AreSafe (ground t) (block_handlers (normal_body (rewritten_unit (unit_at r t)) old))
  body-passes t (old_body l hs a k) bg =
      let n = legal_is_normal p h [] in
      let by = waits (unit_at r t) (n.added t) (n.declared t) n.programs in (
        rows (unit_at r t) (n.added t) (n.declared t) n.programs by a [] (part-begins (unit_at r t) (handlers-begin (normal_rewriter (rewritten_unit (unit_at r t))) (normal-adds (rewritten_unit (unit_at r t))) hs _) bg)
            (Near (ground t)) (near-always (ground t)),
        rows-handlers (unit_at r t) (n.added t) (n.declared t) n.programs by k _ bg (Near (ground t)),
      )

  unit-passes : (t : ℕ) → t ≤ last_task (form_in p).numbers → UnitPasses t
  unit-passes t there =
      let n = legal_is_normal p h [] in
      let q = body-passes t (n.text t (below t there)) (n.begins t (below t there)) in
      record {
        stmts = subst (λ (b : PBody). Always (ground t) (Passes (ground t) (block_stmts b) (Near (ground t)))) (sym (n.bodies t (below t there))) q.0;
        handlers = subst (λ (b : PBody). AreSafe (ground t) (block_handlers b)) (sym (n.bodies t (below t there))) q.1;
      }

  -- So tasks of a legal program's normal form are alike though a lost call has left other values.
  pub legal_has_likeness : HasLikeness p
  legal_has_likeness = alike unit-passes
