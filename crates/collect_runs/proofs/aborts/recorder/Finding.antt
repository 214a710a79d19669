-- What names mean in the accept body of the recorder, and in its loop there.
use Rattle.std.proofs.Common.{◌≡◌, ℕ, ◌==◌, ◌≤◌, Bool, true, false, [], ◌∷◌, ◌++◌, Option, Some, None, refl, ap, ◌∙◌}
use Rattle.std.specs.Prelude.{pos, Ok}
use Rattle.std.specs.List.{AllByRecursion}
use Rattle.ada_tree.specs.declared.naming.NameId.{NameId}
use Rattle.ada_tree.specs.Attributes.{false_name, true_name}
use Rattle.ada_tree.specs.PlainExpr.{EName}
use Rattle.ada_value.specs.declared.values.Value.{Value}
use Rattle.ada_value.specs.declared.values.Value.TheVariants.{Number, Truth}
use Rattle.ada_value.specs.Values.{integer_limits}
use Rattle.ada_value.specs.Variables.{Object, Variables, object_named, set_value}
use Rattle.ada_value.specs.Evaluating.{evaluated, name_value}
use Rattle.table_law.specs.Controllers.{AreApart}
use Rattle.table_law.proofs.Found.{found, first-named, later-named as passed-one}
use Rattle.run_laws.specs.collecting.Notes.{flagged}
use Rattle.collect_model.specs.Recording.{truth}
use Rattle.collect_runs.specs.recorder.Telling.{Spelled}
use Rattle.collect_runs.proofs.recorder.Finding.{set-among, absent-named}
use Rattle.run_laws.specs.aborts.Notes.{Book, numbered_so}
use Rattle.collect_runs.specs.aborts.recorder.Recorders.{Recorder, names_of, last_of, variable_names, IsRecorder}
use Rattle.collect_runs.specs.aborts.recorder.States.{numbers_object, flags_object, formal_object, kept, note_variables}
use Rattle.collect_runs.proofs.aborts.recorder.Tables.{number-changed, flag-changed}
use Rattle.collect_runs.proofs.aborts.telling.Placing.{set-one}

-- ---- books

-- a book in which one thing is kept otherwise
abbrev pub with_gone : Book → (ℕ → Bool) → Book
with_gone b f = record { gone = f; met = b.met; acceptor = b.acceptor; events = b.events }

abbrev pub with_met : Book → (ℕ → ℕ) → Book
with_met b f = record { gone = b.gone; met = f; acceptor = b.acceptor; events = b.events }

abbrev pub with_acceptor : Book → (ℕ → ℕ) → Book
with_acceptor b f = record { gone = b.gone; met = b.met; acceptor = f; events = b.events }

-- ---- names that are apart

-- the loop parameter at a task
abbrev pub each_object : Recorder → ℕ → Object
each_object k u = record { name = k.teller.each; limits = integer_limits; index = None; values = Number (pos u) ∷ [] }

module _ (k : Recorder) (note : ℕ) (h : IsRecorder k note) (s : Spelled) (g : Value) (b : Book) where
  abbrev pub V : Variables
  V = note_variables k s g b

  apart : AreApart (variable_names k)
  apart = h.apart.1.1.1

  pub kind-named : object_named V (names_of k).kind ≡ Some (formal_object k (names_of k).kind 0 (Number (pos s.kind)))
  kind-named = found V 0 (formal_object k (names_of k).kind 0 (Number (pos s.kind))) apart refl

  pub subject-named : object_named V (names_of k).subject ≡ Some (formal_object k (names_of k).subject 0 (Number (pos s.subject)))
  subject-named = found V 1 (formal_object k (names_of k).subject 0 (Number (pos s.subject))) apart refl

  pub argument-named : object_named V (names_of k).argument ≡ Some (formal_object k (names_of k).argument 0 (Number (pos s.argument)))
  argument-named = found V 2 (formal_object k (names_of k).argument 0 (Number (pos s.argument))) apart refl

  pub index-named : object_named V (names_of k).index ≡ Some (formal_object k (names_of k).index 0 s.index)
  index-named = found V 3 (formal_object k (names_of k).index 0 s.index) apart refl

  pub owner-named : object_named V (names_of k).owner ≡ Some (formal_object k (names_of k).owner 0 (Number (pos s.owner)))
  owner-named = found V 4 (formal_object k (names_of k).owner 0 (Number (pos s.owner))) apart refl

  pub reply-named : object_named V (names_of k).reply ≡ Some (formal_object k (names_of k).reply 3 g)
  reply-named = found V 5 (formal_object k (names_of k).reply 3 g) apart refl

  pub acceptors-named : object_named V k.teller.acceptors ≡ Some (numbers_object k k.teller.acceptors b.acceptor)
  acceptors-named = found V 6 (numbers_object k k.teller.acceptors b.acceptor) apart refl

  pub met-named : object_named V (names_of k).met ≡ Some (numbers_object k (names_of k).met b.met)
  met-named = found V 7 (numbers_object k (names_of k).met b.met) apart refl

  pub gone-named : object_named V (names_of k).gone ≡ Some (flags_object k (names_of k).gone b.gone)
  gone-named = found V 8 (flags_object k (names_of k).gone b.gone) apart refl

  -- TRUE and FALSE are no variables
  pub truth-is : (v : Bool) → evaluated k.setting.types V (truth k.span v) ≡ Ok (Truth v)
  truth-is true =
      ap (λ (o : Option Object). Ok (name_value k.setting.types o (record { 0 = true_name }))) (absent-named V (record { 0 = true_name }) h.apart.1.0.1)
  truth-is false =
      ap (λ (o : Option Object). Ok (name_value k.setting.types o (record { 0 = false_name }))) (absent-named V (record { 0 = false_name }) h.apart.0.1.1)

  -- ---- values

  pub subject-is : evaluated k.setting.types V (EName (names_of k).subject k.span) ≡ Ok (Number (pos s.subject))
  subject-is = ap (λ (o : Option Object). Ok (name_value k.setting.types o (names_of k).subject)) subject-named

  pub argument-is : evaluated k.setting.types V (EName (names_of k).argument k.span) ≡ Ok (Number (pos s.argument))
  argument-is = ap (λ (o : Option Object). Ok (name_value k.setting.types o (names_of k).argument)) argument-named

  pub owner-is : evaluated k.setting.types V (EName (names_of k).owner k.span) ≡ Ok (Number (pos s.owner))
  owner-is = ap (λ (o : Option Object). Ok (name_value k.setting.types o (names_of k).owner)) owner-named

  pub index-is : evaluated k.setting.types V (EName (names_of k).index k.span) ≡ Ok s.index
  index-is = ap (λ (o : Option Object). Ok (name_value k.setting.types o (names_of k).index)) index-named

  pub kind-is : evaluated k.setting.types V (EName (names_of k).kind k.span) ≡ Ok (Number (pos s.kind))
  kind-is = ap (λ (o : Option Object). Ok (name_value k.setting.types o (names_of k).kind)) kind-named

  -- ---- what is kept is changed

  abbrev formals : Variables
  formals =
      formal_object k (names_of k).kind 0 (Number (pos s.kind)) ∷ formal_object k (names_of k).subject 0 (Number (pos s.subject))
      ∷ formal_object k (names_of k).argument 0 (Number (pos s.argument)) ∷ formal_object k (names_of k).index 0 s.index
      ∷ formal_object k (names_of k).owner 0 (Number (pos s.owner)) ∷ []

  abbrev callers_kept : Variables
  callers_kept = formals ++ formal_object k (names_of k).reply 3 g ∷ []

  abbrev acceptors_kept : Variables
  acceptors_kept = formals ++ formal_object k (names_of k).reply 3 g ∷ numbers_object k k.teller.acceptors b.acceptor ∷ []

  pub reply-set : (v : Value) → set_value V (names_of k).reply 0 v ≡ note_variables k s v b
  reply-set v = set-among formals (formal_object k (names_of k).reply 3 g) (kept k b) 0 v apart

  pub acceptor-set : (u n : ℕ) → u ≤ last_of k → set_value V k.teller.acceptors u (Number (pos n)) ≡ note_variables k s g (with_acceptor b (numbered_so b.acceptor u n))
  acceptor-set u n l =
      let behind : Variables = numbers_object k (names_of k).met b.met ∷ flags_object k (names_of k).gone b.gone ∷ [] in
      set-among callers_kept (numbers_object k k.teller.acceptors b.acceptor) behind u (Number (pos n)) apart
      ∙ ap (λ (o : Object). callers_kept ++ o ∷ behind) (number-changed k k.teller.acceptors b.acceptor u n l)

  pub met-set : (u n : ℕ) → u ≤ last_of k → set_value V (names_of k).met u (Number (pos n)) ≡ note_variables k s g (with_met b (numbered_so b.met u n))
  met-set u n l =
      let behind : Variables = flags_object k (names_of k).gone b.gone ∷ [] in
      set-among acceptors_kept (numbers_object k (names_of k).met b.met) behind u (Number (pos n)) apart
      ∙ ap (λ (o : Object). acceptors_kept ++ o ∷ behind) (number-changed k (names_of k).met b.met u n l)

  pub gone-set : (u : ℕ) (v : Bool) → u ≤ last_of k → set_value V (names_of k).gone u (Truth v) ≡ note_variables k s g (with_gone b (flagged b.gone u v))
  gone-set u v l =
      let before : Variables = acceptors_kept ++ numbers_object k (names_of k).met b.met ∷ [] in
      set-among before (flags_object k (names_of k).gone b.gone) [] u (Truth v) apart
      ∙ ap (λ (o : Object). before ++ o ∷ []) (flag-changed k (names_of k).gone b.gone u v l)

  -- ---- in the loop, whose parameter is at a task

  abbrev pub in_turn : ℕ → Variables
  in_turn u = each_object k u ∷ V

  other : AllByRecursion (λ (y : NameId). (k.teller.each.0 == y.0) ≡ false) (variable_names k)
  other = h.apart.1.1.0

  pub each-is : (u : ℕ) → evaluated k.setting.types (in_turn u) (EName k.teller.each k.span) ≡ Ok (Number (pos u))
  each-is u = ap (λ (o : Option Object). Ok (name_value k.setting.types o k.teller.each)) (first-named (each_object k u) V)

  pub turn-argument-is : (u : ℕ) → evaluated k.setting.types (in_turn u) (EName (names_of k).argument k.span) ≡ Ok (Number (pos s.argument))
  turn-argument-is u =
      ap (λ (o : Option Object). Ok (name_value k.setting.types o (names_of k).argument)) (passed-one (each_object k u) V (names_of k).argument other.1.1.0 ∙ argument-named)

  pub turn-acceptors-named : (u : ℕ) → object_named (in_turn u) k.teller.acceptors ≡ Some (numbers_object k k.teller.acceptors b.acceptor)
  turn-acceptors-named u = passed-one (each_object k u) V k.teller.acceptors other.1.1.1.1.1.1.0 ∙ acceptors-named

  pub turn-met-named : (u : ℕ) → object_named (in_turn u) (names_of k).met ≡ Some (numbers_object k (names_of k).met b.met)
  turn-met-named u = passed-one (each_object k u) V (names_of k).met other.1.1.1.1.1.1.1.0 ∙ met-named

  pub turn-met-set : (u n : ℕ) → u ≤ last_of k →
      set_value (in_turn u) (names_of k).met u (Number (pos n)) ≡ each_object k u ∷ note_variables k s g (with_met b (numbered_so b.met u n))
  turn-met-set u n l =
      set-one (each_object k u) V (names_of k).met u (Number (pos n)) other.1.1.1.1.1.1.1.0
      ∙ ap (λ (vs : Variables). each_object k u ∷ vs) (met-set u n l)
