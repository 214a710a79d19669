-- What names mean in the accept body of the recorder.
use Rattle.std.proofs.Common.{◌≡◌, ℕ, ◌==◌, ◌≤◌, Bool, true, false, cond, [], ◌∷◌, ◌++◌, map, if◌then◌else◌, Option, Some, None, refl, ap, ◌∙◌}
use Rattle.std.specs.Prelude.{pos, Ok}
use Rattle.std.specs.List.{AllByRecursion}
use Rattle.common_lemmas.proofs.Numbers.{equal_self, unequal_turned}
use Rattle.ada_tree.specs.declared.naming.NameId.{NameId}
use Rattle.ada_tree.specs.declared.naming.Span.{Span}
use Rattle.ada_tree.specs.Attributes.{false_name, true_name}
use Rattle.ada_tree.specs.TypeTable.{TypeTable}
use Rattle.ada_tree.specs.PlainExpr.{EName}
use Rattle.ada_value.specs.declared.values.Value.{Value}
use Rattle.ada_value.specs.declared.values.Value.TheVariants.{Number, Truth}
use Rattle.ada_value.specs.Values.{and_then, truth_limits, checked}
use Rattle.ada_value.specs.Variables.{Object, Variables, object_named, component_place, set_value, with_value}
use Rattle.ada_value.specs.Evaluating.{evaluated, name_value, component_value}
use Rattle.table_law.specs.Controllers.{AreApart}
use Rattle.table_law.proofs.Found.{found}
use Rattle.run_laws.specs.collecting.Notes.{Book, flagged}
use Rattle.collect_model.specs.Recording.{truth, flag_of}
use Rattle.collect_runs.specs.recorder.Recorders.{Recorder, variable_names, IsRecorder}
use Rattle.collect_runs.specs.recorder.Telling.{Spelled}
use Rattle.collect_runs.specs.recorder.States.{flags_object, formal_object, kept, note_variables}
use Rattle.collect_runs.proofs.recorder.Flags.{flag-place, flag-read, flag-changed}

-- ---- names that are apart

-- a name that no variable has
pub absent-named : (vars : Variables) (id : NameId) → AllByRecursion (λ (y : NameId). (id.0 == y.0) ≡ false) (map (λ (o : Object). o.name) vars) → object_named vars id ≡ None
absent-named [] id differ = refl
absent-named (o ∷ vars) id differ = ap (λ (b : Bool). cond b (Some o) (object_named vars id)) (unequal_turned id.0 o.name.0 differ.0) ∙ absent-named vars id differ.1

-- what is so of all names is so of that at the seam
at-seam : (P : NameId → Type 0) (front : Variables) (o : Object) (rest : Variables) → AllByRecursion P (map (λ (v : Object). v.name) (front ++ o ∷ rest)) → P o.name
at-seam P [] o rest all = all.0
at-seam P (x ∷ front) o rest all = at-seam P front o rest all.1

-- a variable is assigned at a place, whatever stands around it
pub set-among : (front : Variables) (o : Object) (rest : Variables) (j : ℕ) (w : Value) → AreApart (map (λ (v : Object). v.name) (front ++ o ∷ rest)) →
    set_value (front ++ o ∷ rest) o.name j w ≡ front ++ with_value o j w ∷ rest
set-among [] o rest j w apart = ap (λ (b : Bool). if b then with_value o j w ∷ rest else o ∷ set_value rest o.name j w) (equal_self o.name.0)
set-among (x ∷ front) o rest j w apart =
    ap (λ (b : Bool). if b then with_value x j w ∷ front ++ o ∷ rest else x ∷ set_value (front ++ o ∷ rest) o.name j w)
    (at-seam (λ (y : NameId). (x.name.0 == y.0) ≡ false) front o rest apart.0)
    ∙ ap (λ (vs : Variables). x ∷ vs) (set-among front o rest j w apart.1)

-- TRUE and FALSE, where they are no variables
truth-where : (types : TypeTable) (vars : Variables) (s : Span) (b : Bool) → object_named vars (record { 0 = false_name }) ≡ None → object_named vars (record { 0 = true_name }) ≡ None →
    evaluated types vars (truth s b) ≡ Ok (Truth b)
truth-where types vars s true no_false no_true = ap (λ (o : Option Object). Ok (name_value types o (record { 0 = true_name }))) no_true
truth-where types vars s false no_false no_true = ap (λ (o : Option Object). Ok (name_value types o (record { 0 = false_name }))) no_false

pub truth-alone : (types : TypeTable) (s : Span) (b : Bool) → evaluated types [] (truth s b) ≡ Ok (Truth b)
truth-alone types s b = truth-where types [] s b refl refl

-- a truth value is one of BOOLEAN
pub truth-checked : (b : Bool) → checked truth_limits (Truth b) ≡ Ok (Truth b)
truth-checked true = refl
truth-checked false = refl

module _ (k : Recorder) (note : ℕ) (h : IsRecorder k note) (s : Spelled) (g : Value) (b : Book) where
  abbrev V : Variables
  V = note_variables k s g b

  apart : AreApart (variable_names k.names)
  apart = h.apart.1.1

  pub kind-named : object_named V k.names.kind ≡ Some (formal_object k k.names.kind 0 (Number (pos s.kind)))
  kind-named = found V 0 (formal_object k k.names.kind 0 (Number (pos s.kind))) apart refl

  pub subject-named : object_named V k.names.subject ≡ Some (formal_object k k.names.subject 0 (Number (pos s.subject)))
  subject-named = found V 1 (formal_object k k.names.subject 0 (Number (pos s.subject))) apart refl

  pub argument-named : object_named V k.names.argument ≡ Some (formal_object k k.names.argument 0 (Number (pos s.argument)))
  argument-named = found V 2 (formal_object k k.names.argument 0 (Number (pos s.argument))) apart refl

  pub index-named : object_named V k.names.index ≡ Some (formal_object k k.names.index 0 s.index)
  index-named = found V 3 (formal_object k k.names.index 0 s.index) apart refl

  pub owner-named : object_named V k.names.owner ≡ Some (formal_object k k.names.owner 0 (Number (pos s.owner)))
  owner-named = found V 4 (formal_object k k.names.owner 0 (Number (pos s.owner))) apart refl

  pub reply-named : object_named V k.names.reply ≡ Some (formal_object k k.names.reply 3 g)
  reply-named = found V 5 (formal_object k k.names.reply 3 g) apart refl

  pub met-named : object_named V k.names.met ≡ Some (flags_object k k.names.met b.met)
  met-named = found V 6 (flags_object k k.names.met b.met) apart refl

  pub gone-named : object_named V k.names.gone ≡ Some (flags_object k k.names.gone b.gone)
  gone-named = found V 7 (flags_object k k.names.gone b.gone) apart refl

  pub truth-is : (v : Bool) → evaluated k.setting.types V (truth k.span v) ≡ Ok (Truth v)
  truth-is v = truth-where k.setting.types V k.span v (absent-named V (record { 0 = false_name }) h.apart.0.1) (absent-named V (record { 0 = true_name }) h.apart.1.0)

  -- ---- flags

  -- the flag of the owner, and of the task that the note is about
  pub gone-read : s.owner ≤ k.last → evaluated k.setting.types V (flag_of k.span k.names.gone k.names.owner) ≡ Ok (Truth (b.gone s.owner))
  gone-read l =
      ap (λ (o : Option Object). component_value (object_named V k.names.gone) (name_value k.setting.types o k.names.owner)) owner-named
      ∙ ap (λ (o : Option Object). component_value o (Number (pos s.owner))) gone-named
      ∙ flag-read k k.names.gone b.gone s.owner l

  pub met-read : s.subject ≤ k.last → evaluated k.setting.types V (flag_of k.span k.names.met k.names.subject) ≡ Ok (Truth (b.met s.subject))
  met-read l =
      ap (λ (o : Option Object). component_value (object_named V k.names.met) (name_value k.setting.types o k.names.subject)) subject-named
      ∙ ap (λ (o : Option Object). component_value o (Number (pos s.subject))) met-named
      ∙ flag-read k k.names.met b.met s.subject l

  -- the place of the flag of the task that the note is about
  pub place-of : (name : NameId) (f : ℕ → Bool) → object_named V name ≡ Some (flags_object k name f) → s.subject ≤ k.last →
      and_then (evaluated k.setting.types V (EName k.names.subject k.span)) (λ v. component_place (object_named V name) v) ≡ Ok s.subject
  place-of name f named l =
      ap (λ (o : Option Object). component_place (object_named V name) (name_value k.setting.types o k.names.subject)) subject-named
      ∙ ap (λ (o : Option Object). component_place o (Number (pos s.subject))) named
      ∙ flag-place k name f s.subject l

  -- ---- what is kept is changed

  abbrev formals : Variables
  formals =
      formal_object k k.names.kind 0 (Number (pos s.kind)) ∷ formal_object k k.names.subject 0 (Number (pos s.subject)) ∷ formal_object k k.names.argument 0 (Number (pos s.argument))
      ∷ formal_object k k.names.index 0 s.index ∷ formal_object k k.names.owner 0 (Number (pos s.owner)) ∷ []

  pub reply-set : (v : Value) → set_value V k.names.reply 0 v ≡ note_variables k s v b
  reply-set v = set-among formals (formal_object k k.names.reply 3 g) (kept k b) 0 v apart

  pub met-set : s.subject ≤ k.last → (v : Bool) → set_value V k.names.met s.subject (Truth v) ≡ note_variables k s g (record { gone = b.gone; met = flagged b.met s.subject v; events = b.events })
  met-set l v =
      set-among (formals ++ formal_object k k.names.reply 3 g ∷ []) (flags_object k k.names.met b.met) (flags_object k k.names.gone b.gone ∷ []) s.subject (Truth v) apart
      ∙ ap (λ (o : Object). formals ++ formal_object k k.names.reply 3 g ∷ o ∷ flags_object k k.names.gone b.gone ∷ []) (flag-changed k k.names.met b.met s.subject l v)

  pub gone-set : s.subject ≤ k.last → (v : Bool) → set_value V k.names.gone s.subject (Truth v) ≡ note_variables k s g (record { gone = flagged b.gone s.subject v; met = b.met; events = b.events })
  gone-set l v =
      set-among (formals ++ formal_object k k.names.reply 3 g ∷ flags_object k k.names.met b.met ∷ []) (flags_object k k.names.gone b.gone) [] s.subject (Truth v) apart
      ∙ ap (λ (o : Object). formals ++ formal_object k k.names.reply 3 g ∷ flags_object k k.names.met b.met ∷ o ∷ []) (flag-changed k k.names.gone b.gone s.subject l v)
