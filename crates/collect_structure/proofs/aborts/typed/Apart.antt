-- The names that a text with abort statements adds differ from the predefined ones, from those of the normal form, and from each other, as the recorder's body and the variables of the places ask.
use Rattle.std.proofs.Common.{Bool, List, None, Option, Some, [], ap, arith, drop, eqb-true, false, get_or, length, nat_lt, refl, slice_get, subst, sym, take, true, unwrap_or, ℕ, ◌++◌, ◌<◌, ◌==◌, ◌^◌, ◌∙◌, ◌∷◌, ◌≡◌, ◌≤◌}
use Rattle.std.specs.Fmt.{decimal}
use Rattle.std.specs.List.{AllByRecursion, list_any}
use Rattle.std.specs.Str.{bytes_eq}
use Rattle.std.proofs.lemmas.Bool.{ltb-true, or_parts}
use Rattle.std.proofs.lemmas.Fmt.{decimal_injective}
use Rattle.std.proofs.lemmas.List.{take-append-drop}
use Rattle.std.proofs.lemmas.Option.{slice_get-get_or}
use Rattle.std.proofs.lemmas.Slice.Eq.{bytes_eq-Decides}
use Rattle.common_lemmas.proofs.Lists.{holds_at, texts_differ}
use Rattle.ada_tree.specs.NameList.{predefined}
use Rattle.ada_tree.specs.PlainProgram.{PProgram}
use Rattle.ada_tree.specs.TypeTable.{TypeTable}
use Rattle.ada_tree.specs.declared.naming.NameId.{NameId}
use Rattle.ada_static_rules.specs.RuleDuplicate.{is_predefined}
use Rattle.ada_static_rules.specs.StaticValue.{value_named}
use Rattle.syn_event.specs.DeclaredTasks.{text_of}
use Rattle.syn_event.specs.declared.numbering.TaskInfo.{TaskInfo}
use Rattle.task_model.specs.Setting.{Setting}
use Rattle.normal_model.proofs.VariablesLemmas.{Begins, begins-trans}
use Rattle.normal_model.specs.RewrittenUnit.{RewrittenUnit}
use Rattle.normal_laws.proofs.structure.numbers.Named.{Has, text-longer, text-there}
use Rattle.collect_model.specs.Names.{argument_text, caller_text, gone_text, index_text, kind_text, met_text, owner_text, reply_text, subject_text}
use Rattle.collect_model.specs.aborts.AbortTeller.{AbortTeller, names_told, told_in}
use Rattle.collect_model.specs.aborts.Names.{acceptors_text, each_text, refused_text, taken_text}
use Rattle.collect_model.specs.aborts.Places.{most_places}
use Rattle.collect_structure.proofs.aborts.texts.Named.{abort-begins, abort-has, abort-has-places, abort-has-recorded}
use Rattle.collect_structure.proofs.aborts.typed.Names.{same-added, two-apart}
use Rattle.collect_structure.specs.aborts.Names.{added_id}
use Rattle.collect_structure.specs.aborts.asked.Pieces.{IsPlace}
use Rattle.collect_structure.specs.aborts.typed.Recording.{AreApart, IsNone, formal_names}
use Rattle.collect_structure.specs.aborts.typed.Told.{AreNewPlaces, ArePlacesOuter}

-- ---- texts

none-each : {A : Type 0} (p : A → Bool) (xs : List A) → list_any p xs ≡ false → AllByRecursion (λ y. p y ≡ false) xs
none-each p [] h = tt
none-each p (y ∷ xs) h = let both = or_parts (p y) (list_any p xs) h in (both.0, none-each p xs both.1)

pub differ-by : (a b : List ℕ) → (a ≡ b → ⊥) → bytes_eq a b ≡ false
differ-by a b n = by_test (bytes_eq a b) refl
  where
    by_test : (t : Bool) → bytes_eq a b ≡ t → t ≡ false
    by_test false e = refl
    by_test true e = absurd (n ((bytes_eq-Decides a b).0 e))

pub behind-five : (a b c d e : ℕ) (xs ys : List ℕ) → a ∷ b ∷ c ∷ d ∷ e ∷ xs ≡ a ∷ b ∷ c ∷ d ∷ e ∷ ys → xs ≡ ys
behind-five a b c d e xs ys h = cc

-- ---- ids

module _ (q : PProgram) where
  -- a text that is there and is no predefined name
  pub not-predefined : take (length predefined) q.names ≡ predefined → (t : List ℕ) → Has (names_told q) t → list_any (bytes_eq t) predefined ≡ false → is_predefined (added_id q t).0 ≡ false
  not-predefined begins t h none = by_test (nat_lt (added_id q t).0 18) refl
    where
      front : Begins predefined q.names
      front = record {
        more = drop (length predefined) q.names;
        joined = sym (take-append-drop (length predefined) q.names) ∙ ap (λ ts. ts ++ drop (length predefined) q.names) begins;
      }

      by_test : (b : Bool) → nat_lt (added_id q t).0 18 ≡ b → b ≡ false
      by_test false e = refl
      by_test true e =
          let few : (added_id q t).0 < 18 = ltb-true (added_id q t).0 18 e in
          let within : (added_id q t).0 < 25 = omega (arith, few) in
          let u : List ℕ = get_or predefined (added_id q t).0 [] in
          let there : slice_get predefined (added_id q t).0 ≡ Some u = slice_get-get_or predefined (added_id q t).0 [] within in
          let same : t ≡ u = sym (text-there (names_told q) t h) ∙ text-longer predefined (names_told q) (added_id q t) (begins-trans front (abort-begins q)) within ∙ ap
          (λ (o : Option (List ℕ)). unwrap_or o []) there in
          absurd (texts_differ t u (holds_at (λ v. bytes_eq t v ≡ false) predefined (added_id q t).0 u there (none-each (bytes_eq t) predefined none)) same)

  -- a name of the normal form that has another text
  pub own-apart : (t : List ℕ) → Has (names_told q) t → (id : NameId) → id.0 < length q.names → bytes_eq t (text_of q.names id) ≡ false → ((added_id q t).0 == id.0) ≡ false
  own-apart t h id within n = by_test ((added_id q t).0 == id.0) refl
    where
      by_test : (b : Bool) → ((added_id q t).0 == id.0) ≡ b → b ≡ false
      by_test false e = refl
      by_test true e =
          let same : (added_id q t).0 ≡ id.0 = eqb-true (added_id q t).0 id.0 e in
          absurd (texts_differ t (text_of q.names id) n
          (sym (text-there (names_told q) t h) ∙ ap (λ m. text_of (names_told q) record { 0 = m }) same ∙ text-longer q.names (names_told q) id (abort-begins q) within))

-- ---- the recorder's body

module _ (g : Setting) (task : ℕ) (begins : take (length predefined) g.program.names ≡ predefined) where
  abbrev q : PProgram
  q = g.program

  abbrev u : RewrittenUnit
  u = record { setting = g; task = task }

  abbrev x : AbortTeller
  x = told_in u

  -- the texts of the names that the recorder's body declares
  abbrev pub body_texts : List (List ℕ)
  body_texts = gone_text ∷ met_text ∷ acceptors_text ∷ kind_text ∷ subject_text ∷ argument_text ∷ index_text ∷ owner_text ∷ reply_text ∷ []

  -- a task whose name is one of the normal form, with none of these texts
  abbrev pub IsFreeTask : TaskInfo → Type 0
  IsFreeTask info = (info.name.0 < length q.names) × AllByRecursion (λ t. bytes_eq t (text_of q.names info.name) ≡ false) body_texts

  acceptors-there : Has (names_told q) acceptors_text
  acceptors-there = abort-has-recorded q acceptors_text refl

  each-there : Has (names_told q) each_text
  each-there = abort-has-recorded q each_text refl

  task-free : (info : TaskInfo) → IsFreeTask info → IsNone (x.teller.added.gone ∷ x.teller.added.met ∷ x.acceptors ∷ formal_names x.teller.added) info.name
  task-free info h =
      let at = λ (t : List ℕ) (there : Has (names_told q) t) (n : bytes_eq t (text_of q.names info.name) ≡ false). own-apart q t there info.name h.0 n in
      let f = h.1 in (
        at gone_text (abort-has q gone_text refl) f.0,
        (
          at met_text (abort-has q met_text refl) f.1.0,
          (
            at acceptors_text acceptors-there f.1.1.0,
            (
              at kind_text (abort-has q kind_text refl) f.1.1.1.0,
              (
                at subject_text (abort-has q subject_text refl) f.1.1.1.1.0,
                (
                  at argument_text (abort-has q argument_text refl) f.1.1.1.1.1.0,
                  (
                    at index_text (abort-has q index_text refl) f.1.1.1.1.1.1.0,
                    (at owner_text (abort-has q owner_text refl) f.1.1.1.1.1.1.1.0, (at reply_text (abort-has q reply_text refl) f.1.1.1.1.1.1.1.1.0, tt)),
                  ),
                ),
              ),
            ),
          ),
        ),
      )

  tasks-free : (infos : List TaskInfo) → AllByRecursion IsFreeTask infos →
      AllByRecursion (λ (info : TaskInfo). IsNone (x.teller.added.gone ∷ x.teller.added.met ∷ x.acceptors ∷ formal_names x.teller.added) info.name) infos
  tasks-free [] h = tt
  tasks-free (info ∷ infos) h = (task-free info h.0, tasks-free infos h.1)

  -- a text of every collecting text, and DED_ACC
  acceptors-other : (t : List ℕ) → Has (names_told q) t → bytes_eq t acceptors_text ≡ false → ((added_id q t).0 == x.acceptors.0) ≡ false
  acceptors-other t h n = two-apart q t acceptors_text h acceptors-there n

  each-other : (t : List ℕ) → Has (names_told q) t → bytes_eq each_text t ≡ false → (x.each.0 == (added_id q t).0) ≡ false
  each-other t h n = two-apart q each_text t each-there h n

  -- The names of the recorder's body are apart, where the tasks are such ones.
  pub told-apart : AllByRecursion IsFreeTask (drop 1 g.numbers.tasks) → AreApart x
  told-apart tasks = record {
    predefined = not-predefined q begins acceptors_text acceptors-there refl;
    gone = two-apart q acceptors_text gone_text acceptors-there (abort-has q gone_text refl) refl;
    formals = (
      acceptors-other kind_text (abort-has q kind_text refl) refl,
      (
        acceptors-other subject_text (abort-has q subject_text refl) refl,
        (
          acceptors-other argument_text (abort-has q argument_text refl) refl,
          (
            acceptors-other index_text (abort-has q index_text refl) refl,
            (acceptors-other owner_text (abort-has q owner_text refl) refl, (acceptors-other reply_text (abort-has q reply_text refl) refl, tt)),
          ),
        ),
      ),
    );
    each = (each-other met_text (abort-has q met_text refl) refl, (each-other acceptors_text acceptors-there refl, (each-other argument_text (abort-has q argument_text refl) refl, tt)));
    tasks = tasks-free (drop 1 g.numbers.tasks) tasks;
  }

  -- ---- the variables of the places

  taken-there : (p : ℕ) → IsPlace (most_places q) p → Has (names_told q) (taken_text p)
  taken-there p i = (abort-has-places q p i.0 i.1).0

  refused-there : (p : ℕ) → IsPlace (most_places q) p → Has (names_told q) (refused_text p)
  refused-there p i = (abort-has-places q p i.0 i.1).1

  -- Those of the variables of the places are new, where none has a value in the table and the places can be counted.
  pub told-new : most_places q < 2 ^ 64 → (types : TypeTable) →
      ((p : ℕ) → IsPlace (most_places q) p → (value_named types (x.taken p) ≡ None) × (value_named types (x.refused p) ≡ None)) → AreNewPlaces x (most_places q) types
  told-new few types valueless = record {
    taken = λ p i. (not-predefined q begins (taken_text p) (taken-there p i) refl, (valueless p i).0);
    refused = λ p i. (not-predefined q begins (refused_text p) (refused-there p i) refl, (valueless p i).1);
    two_taken = λ p r i j n.
        two-apart q (taken_text p) (taken_text r) (taken-there p i) (taken-there r j)
        (differ-by (taken_text p) (taken_text r) (λ e. n (number p r i j (behind-five 68 69 68 95 81 (decimal p) (decimal r) e))));
    two_refused = λ p r i j n.
        two-apart q (refused_text p) (refused_text r) (refused-there p i) (refused-there r j)
        (differ-by (refused_text p) (refused_text r) (λ e. n (number p r i j (behind-five 68 69 68 95 82 (decimal p) (decimal r) e))));
    taken_apart = λ p r i j. two-apart q (taken_text p) (refused_text r) (taken-there p i) (refused-there r j) refl;
    refused_apart = λ p r i j. two-apart q (refused_text p) (taken_text r) (refused-there p i) (taken-there r j) refl;
  }
    where
      number : (p r : ℕ) → IsPlace (most_places q) p → IsPlace (most_places q) r → decimal p ≡ decimal r → p ≡ r
      number p r i j e = decimal_injective p r (below p i.1) (below r j.1) e
        where
          below : (m : ℕ) → m ≤ most_places q → m < 2 ^ 64
          below m l = omega (arith, l, few)

  -- Nothing hides them in the text, where no accept and no loop of the normal form does.
  pub told-outer : (inner : ℕ → Bool) → ((p : ℕ) → IsPlace (most_places q) p → (inner (x.taken p).0 ≡ false) × (inner (x.refused p).0 ≡ false)) → ArePlacesOuter q inner x (most_places q)
  told-outer inner shown = record {
    taken = λ p i. record {
      shown = (shown p i).0;
      caller =
          subst (λ (id : NameId). (id.0 == (x.taken p).0) ≡ false) (same-added q caller_text refl)
          (two-apart q caller_text (taken_text p) (abort-has q caller_text refl) (taken-there p i) refl);
    };
    refused = λ p i. record {
      shown = (shown p i).1;
      caller =
          subst (λ (id : NameId). (id.0 == (x.refused p).0) ≡ false) (same-added q caller_text refl)
          (two-apart q caller_text (refused_text p) (abort-has q caller_text refl) (refused-there p i) refl);
    };
  }
