-- The variables of a task's unit, with those of loops and accept bodies in front of them (3.2.1, 5.5, 6.4.1, 9.5).
use Rattle.std.specs.Prelude.{◌≡◌, ℕ, zero, suc, Bool, true, List, [], ◌∷◌, drop, length, Option, Some, None}
use Rattle.std.specs.List.{AllByRecursion}
use Rattle.ada_tree.specs.declared.naming.Word.{Word}
use Rattle.ada_static_rules.specs.Sites.{all_names}
use Rattle.ada_tree.specs.PlainStmt.{LFor, PFormal, PStmt, SAccept, SWait, SLoop, PAccept, accepting, alternative, PAltKind, AAccept, ADelay, ATerminate, PAlts, no_alt, alt_then}
use Rattle.ada_value.specs.Variables.{Object, Variables, value_there}
use Rattle.task_model.specs.Frames.{PFrame, Control, brought}
use Rattle.task_model.specs.Tasks.{Task}
use Rattle.task_laws.specs.invariants.Holding.{Fits}
use Rattle.task_laws.specs.statements.Each.{Loops}

-- ---- variables that are kept

-- the value is the same or lies in the subtype; of an array it is the first one
pub data KeepsValue (o p : Object) : Type 0 where
  same_value : value_there p 0 ≡ value_there o 0 → KeepsValue o p
  fitting_value : Fits o.limits (value_there p 0) → KeepsValue o p

-- the same variable with as many values, perhaps with other ones of its subtype
pub record IsKept (o p : Object) : Type 0 where
  pub name : p.name ≡ o.name
  pub limits : p.limits ≡ o.limits
  pub count : length p.values ≡ length o.values
  pub value : KeepsValue o p

-- each of these variables, in order
abbrev pub AreKept : Variables → Variables → Type 0
AreKept [] [] = Unit {0}
AreKept (o ∷ vars) (p ∷ others) = IsKept o p × AreKept vars others
AreKept vars others = ⊥

-- a name means no variable, or one that is kept
pub data MeansKept : Option Object → Option Object → Type 0 where
  no_variable : MeansKept None None
  kept_variable : (o p : Object) → IsKept o p → MeansKept (Some o) (Some p)

-- ---- names that loops and accepts declare

-- Which names they declare is told by a test on ids: each formal of a formal part has such a name.
abbrev pub AreInner : (ℕ → Bool) → List PFormal → Type 0
AreInner inner formals = AllByRecursion (λ (w : Word). inner w.name.0 ≡ true) (all_names formals)

-- those of an accept, of an alternative, and of all alternatives of a wait
abbrev pub InAccept : (ℕ → Bool) → PAccept → Type 0
InAccept inner (accepting head stmts) = AreInner inner head.formals

abbrev pub InKind : (ℕ → Bool) → PAltKind → Type 0
InKind inner (AAccept accept stmts) = InAccept inner accept
InKind inner (ADelay duration stmts) = Unit {0}
InKind inner ATerminate = Unit {0}

abbrev pub InAlternatives : (ℕ → Bool) → PAlts → Type 0
InAlternatives inner no_alt = Unit {0}
InAlternatives inner (alt_then (alternative guard what s) rest) = InKind inner what × InAlternatives inner rest

-- The statement declares such names alone: a loop parameter, and the formals of accepts. Nothing is asked of other statements.
abbrev pub DeclaresInner : (ℕ → Bool) → Loops → PStmt → Type 0
DeclaresInner inner loops (SLoop name (Some (LFor w backwards range)) stmts s) = inner w.name.0 ≡ true
DeclaresInner inner loops (SAccept accept s) = InAccept inner accept
DeclaresInner inner loops (SWait alts otherwise s) = InAlternatives inner alts
DeclaresInner inner loops _ = Unit {0}

-- ---- the variables of a task

-- the first n variables have such names, and one value each
abbrev pub FirstInner : (ℕ → Bool) → ℕ → Variables → Type 0
FirstInner inner zero vars = Unit {0}
FirstInner inner (suc n) [] = Unit {0}
FirstInner inner (suc n) (o ∷ vars) = (inner o.name.0 ≡ true) × (length o.values ≡ 1) × FirstInner inner n vars

module _ (inner : ℕ → Bool) (start : Variables) where
  -- of frames, the inner ones first: what they have brought has such names and one value each, and behind it the variables at the start are kept
  abbrev pub HeldIn : List PFrame → Variables → Type 0
  HeldIn [] vars = AreKept start vars
  HeldIn (part ∷ parts) vars = FirstInner inner (brought part.place) vars × HeldIn parts (drop (brought part.place) vars)

  -- of where a task stands
  abbrev pub HeldAt : Control → Type 0
  HeldAt c = FirstInner inner (brought c.top.place) c.vars × HeldIn c.outer (drop (brought c.top.place) c.vars)

  -- The variables of a task: in front those of loops and accept bodies, with such names and one value each, and behind them those with which it has started, kept.
  abbrev pub HoldsVariables : Task → Type 0
  HoldsVariables t = HeldAt t.control
