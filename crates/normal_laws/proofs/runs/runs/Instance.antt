-- The example is as the law asks.
use Rattle.std.proofs.Common.{◌≡◌, ℕ, zero, suc, Bool, ◌<◌, true, false, ◌==◌, if◌then◌else◌, [], Option, Some, refl, sym, ap, subst, arith, slice_get}
use Rattle.std.specs.Fmt.{digits}
use Rattle.ada_tree.specs.PlainDecl.{OPlain, PDecl, DObject}
use Rattle.ada_value.specs.declared.values.Limits.{Limits}
use Rattle.ada_value.specs.declared.values.Value.{Value}
use Rattle.ada_value.specs.declared.values.Value.TheVariants.{Number, Truth, Place}
use Rattle.ada_value.specs.Values.{integer_limits}
use Rattle.ada_value.specs.Texts.{image}
use Rattle.syn_event.specs.Numbering.{task_at}
use Rattle.task_model.specs.Setting.{parameters_of, formals_of_info, entry_parameters}
use Rattle.task_model.specs.Starting.{no_unit, unit_of_info, unit_of}
use Rattle.normal_model.specs.Names.{variable_name}
use Rattle.task_laws.specs.translation.Translations.{Programs, types_before, types_after}
use Rattle.task_laws.specs.translation.OldTexts.{OldBody}
use Rattle.task_laws.specs.translation.Scopes.{AgreeOnTypes}
use Rattle.normal_laws.specs.runs.floors.Suited.{declared_limits, AreMade, rewritten_unit as unit_rewritten, asked_of}
use Rattle.normal_model.specs.NormalStmts.{normal_body, unit_variables}
use Rattle.normal_laws.specs.runs.floors.NormalLists.{Begin}
use Rattle.normal_laws.specs.runs.floors.NormalFloors.{Extends, extends_none, extends_old, extends_new}
use Rattle.normal_laws.specs.runs.floors.Preludes.{Added, AreThere}
use Rattle.normal_laws.specs.runs.floors.Declared.{AreDeclared}
use Rattle.task_laws.specs.invariants.AcceptHeads.{InBody}
use Rattle.task_laws.specs.invariants.Holding.{LowersFit}
use Rattle.task_laws.specs.invariants.Worlds.{Conforms, IsWellMade}
use Rattle.normal_laws.specs.runs.runs.Premises.{programs_of, unit_at, unit_before, unit_after, objects_after, objects_before, IsNormalForm}
use Rattle.normal_laws.specs.runs.runs.Example.{example, numbers, before, after, setting, variables, rewrite, IsMet}
use Rattle.normal_laws.proofs.runs.runs.ExampleBodies.{entry-none, formals-same, marks, families, main-old, task-old}
use Rattle.common_lemmas.proofs.Numbers.{next_not_zero}

abbrev b : Programs
b = programs_of rewrite

abbrev old : ℕ → Bool
old = rewrite.is_old

-- ---- types

texts-same : (a : Value) → image before.program.names (types_before b) a ≡ image after.program.names (types_after b) a
unfolding digits
texts-same (Number z) = refl
texts-same (Truth t) = refl
texts-same (Place zero n) = refl
texts-same (Place (suc zero) n) = refl
texts-same (Place (suc (suc k)) n) = refl

types : AgreeOnTypes b
unfolding digits
types = record {
  marks = λ id old. refl;
  fixed = λ id old. refl;
  fixed_known = λ id old. refl;
  values = λ k z. refl;
  values_known = λ k z. refl;
  bases = λ k z. refl;
  kinds = λ k known. refl;
  integers = refl;
  truths = refl;
  texts = texts-same;
}

-- ---- entries

made : AreMade b
unfolding digits
made = record {
  types = types;
  statics = λ id h. h;
  entries = refl;
  formals = formals-same old (λ k. true) refl refl refl refl;
  marks = marks old (λ k. true) refl refl refl refl;
  families = families old (λ k. true) refl refl refl refl;
  truths = λ s z. refl;
  integers = λ s z. refl;
}

-- ---- the program is well made

-- no task beyond T runs a body
nothing-runs : (t : ℕ) → unit_of example numbers (suc (suc t)) ≡ no_unit
nothing-runs t = ap (λ q. if q then record { in_main = true; decls = example.decls; body = example.body } else unit_of_info example (task_at numbers (suc (suc t)))) (next_not_zero (suc t))

conforms : (t : ℕ) → InBody (Conforms setting t) (unit_of setting.program setting.numbers t).body
conforms zero = ((tt, tt), tt)
conforms (suc zero) = ((((((((refl, refl), tt), (tt, tt)), tt), (tt, tt)), tt), tt), tt)
conforms (suc (suc t)) = subst (λ u. InBody (Conforms setting (suc (suc t))) u.body) (sym (nothing-runs t)) (tt, tt)

lowers : (e : ℕ) → LowersFit setting.types (entry_parameters setting e)
lowers zero = tt
lowers (suc zero) = (refl, tt)
lowers (suc (suc e)) = subst (λ q. LowersFit setting.types (parameters_of setting.types (formals_of_info setting q))) (sym (entry-none e)) tt

pub well : IsWellMade setting
well = record { conforms = conforms; lowers = lowers }

-- ---- the variables

-- the subtype of a declared variable
abbrev limits_at : Option PDecl → Limits
limits_at (Some (DObject names constant (OPlain x) init s)) = declared_limits (types_after b) x
limits_at _ = integer_limits

added : (t : ℕ) → Added b b.original
unfolding digits
added zero = record {
  count = 2;
  bounds = λ k. limits_at (slice_get (variables 0) k);
  new = λ k l. new k l;
  apart = λ j k l m e. apart j k l m e;
}
  where
    new : (k : ℕ) → k < 2 → b.is_old (variable_name b.original k).0 ≡ false
    new zero l = refl
    new (suc zero) l = refl
    new (suc (suc k)) l = absurd (omega (arith, l))

    apart : (j k : ℕ) → j < 2 → k < 2 → (j == k) ≡ false → ((variable_name b.original j).0 == (variable_name b.original k).0) ≡ false
    apart zero zero l m e = e
    apart zero (suc zero) l m e = refl
    apart (suc zero) zero l m e = refl
    apart (suc zero) (suc zero) l m e = e
    apart (suc (suc j)) k l m e = absurd (omega (arith, l))
    apart j (suc (suc k)) l m e = absurd (omega (arith, m))
added (suc t) = record {
  count = 1;
  bounds = λ k. limits_at (slice_get (variables 1) k);
  new = λ k l. new k l;
  apart = λ j k l m e. apart j k l m e;
}
  where
    new : (k : ℕ) → k < 1 → b.is_old (variable_name b.original k).0 ≡ false
    new zero l = refl
    new (suc k) l = absurd (omega (arith, l))

    apart : (j k : ℕ) → j < 1 → k < 1 → (j == k) ≡ false → ((variable_name b.original j).0 == (variable_name b.original k).0) ≡ false
    apart zero zero l m e = e
    apart (suc j) k l m e = absurd (omega (arith, l))
    apart j (suc k) l m e = absurd (omega (arith, m))

declared : (t : ℕ) → AreDeclared (unit_at rewrite t) (added t)
unfolding added
declared zero = record { count = refl; bounds = λ k s x e. ap limits_at e }
declared (suc t) = record { count = refl; bounds = λ k s x e. ap limits_at e }

there : (t : ℕ) → t < 2 → AreThere (added t) (objects_after rewrite t)
unfolding digits added
there zero l = cells
  where
    cells : AreThere (added zero) (objects_after rewrite zero)
    cells zero m = (_, record { name = variable_name b.original 0; found = refl })
    cells (suc zero) m = (_, record { name = variable_name b.original 1; found = refl })
    cells (suc (suc k)) m = absurd (omega (arith, m))
there (suc zero) l = cells
  where
    cells : AreThere (added 1) (objects_after rewrite 1)
    cells zero m = (_, record { name = variable_name b.original 0; found = refl })
    cells (suc k) m = absurd (omega (arith, m))
there (suc (suc t)) l = absurd (omega (arith, l))

objects : (t : ℕ) → t < 2 → Extends b (objects_before rewrite t) (objects_after rewrite t)
unfolding digits
objects zero l = extends_new _ _ _ refl (extends_new _ _ _ refl (extends_old _ [] [] refl (λ k. refl, refl) extends_none))
objects (suc zero) l = extends_new _ _ _ refl extends_none
objects (suc (suc t)) l = absurd (omega (arith, l))

pub text : (t : ℕ) → t < 2 → OldBody (asked_of (unit_at rewrite t)) (unit_before rewrite t).body
text zero l = main-old old (λ k. true) refl refl refl refl
text (suc zero) l = task-old old (λ k. true) refl refl refl refl
text (suc (suc t)) l = absurd (omega (arith, l))

begins : (t : ℕ) → t < 2 → Begin (unit_variables (unit_rewritten (unit_at rewrite t)) (unit_before rewrite t).body) (variables t)
begins zero l = ([], refl)
begins (suc zero) l = ([], refl)
begins (suc (suc t)) l = absurd (omega (arith, l))

bodies : (t : ℕ) → t < 2 → (unit_after rewrite t).body ≡ normal_body (unit_rewritten (unit_at rewrite t)) (unit_before rewrite t).body
unfolding digits
bodies zero l = refl
bodies (suc zero) l = refl
bodies (suc (suc t)) l = absurd (omega (arith, l))

form : IsNormalForm rewrite
unfolding digits
form = record {
  inputs = refl;
  programs = made;
  well = well;
  size = refl;
  added = added;
  declared = declared;
  text = text;
  begins = begins;
  bodies = bodies;
  objects = objects;
  there = there;
}

pub is_met : IsMet
is_met = (form, refl, refl, refl)
