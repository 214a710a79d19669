-- The tables of types of a normal form and of its collecting text with abort statements agree on names that stay, and the names that the text adds are none of
-- these.
use Rattle.std.proofs.Common.{◌≡◌, ℕ, zero, suc, ◌≤◌, ◌==◌, Bool, true, false, if◌then◌else◌, [], unwrap_or, Option, Some, None, refl, sym}
use Rattle.std.proofs.Common.{subst, ◌∙◌, true≢false, arith}
use Rattle.std.specs.Fmt.{decimal}
use Rattle.std.specs.List.{AllByRecursion}
use Rattle.std.proofs.lemmas.Bool.{ne_eqb}
use Rattle.common_lemmas.proofs.Numbers.{equal_self}
use Rattle.ada_tree.specs.declared.naming.NameId.{NameId}
use Rattle.ada_tree.specs.TypeTable.{TypeTable}
use Rattle.ada_tree.specs.PlainDecl.{PDecls, no_decl, decl_then, DNumber, DObject, DEnumeration, DArray, DSubtype, DException, DIntIo, DPragma, DTask}
use Rattle.ada_tree.specs.PlainDecl.{DTaskBody}
use Rattle.ada_tree.specs.PlainProgram.{PProgram}
use Rattle.ada_static_rules.specs.Refusals.{types_in}
use Rattle.syn_event.specs.declared.numbering.TaskInfo.{TaskInfo}
use Rattle.syn_event.specs.Numbering.{task_at}
use Rattle.syn_event.specs.DeclaredTasks.{decl_list}
use Rattle.syn_event.proofs.Weaker.{placed_tokens}
use Rattle.task_model.specs.Starting.{unit_among, unit_of_info}
use Rattle.task_laws.specs.translation.Scopes.{AgreeOnTypes}
use Rattle.task_laws.specs.legal.rewritten_types.Agreement.{Agrees}
use Rattle.task_laws.specs.legal.rewritten_types.Laws.{behind}
use Rattle.task_laws.specs.legal.rewritten_values.Values.{AgreeOnValues}
use Rattle.task_laws.proofs.legal.rewritten_types.Rooting.{rooted_agrees}
use Rattle.task_laws.proofs.legal.rewritten_values.Saying.{tables_agree_on_values}
use Rattle.task_laws.proofs.legal.rewritten_values.Named.{literals_are_named}
use Rattle.normal_model.specs.NormalTree.{first_decls, main_unit}
use Rattle.normal_laws.specs.runs.forms.Normalisable.{made_for, numbers_of}
use Rattle.normal_laws.specs.existence.Laws.{IsLegalOriginal}
use Rattle.normal_laws.proofs.structure.types.Normal.{normal_is_rooted}
use Rattle.normal_laws.proofs.structure.numbers.Named.{Has}
use Rattle.normal_laws.proofs.legality.checks.Facts as facts
use Rattle.replay_runs.specs.starts.Laws.{form_in}
use Rattle.collect_model.specs.Names.{answer_text, part_text, caller_text}
use Rattle.collect_runs.specs.translation.Floors.{AreNamesAdded}
use Rattle.collect_runs.proofs.forms.Tables as plain
use Rattle.collect_model.specs.aborts.Names.{taken_text, refused_text}
use Rattle.collect_model.specs.aborts.Places.{places_in, places_of, most_places}
use Rattle.collect_model.specs.aborts.AbortTeller.{names_told, told_in}
use Rattle.collect_structure.specs.aborts.Names.{kept_name}
use Rattle.collect_structure.proofs.aborts.scopes.Whole.{added-unkept}
use Rattle.collect_structure.proofs.aborts.texts.Named.{abort-begins, abort-has, abort-has-places, main-few, bodies-few}
use Rattle.collect_structure.proofs.aborts.typed.Names.{two-apart}
use Rattle.collect_runs.specs.aborts.starts.Texts.{abort_text}
use Rattle.collect_runs.specs.aborts.translation.Floors.{IsPlace, ArePlacesAdded}
use Rattle.collect_runs.specs.aborts.forms.Texts.{names_added, names_kept, texts_of}
use Rattle.collect_runs.proofs.aborts.forms.Numbers.{same_added}
use Rattle.collect_runs.proofs.aborts.forms.Keeping.{new-shut, keeps-normal, keeps-text}
use Rattle.collect_structure.proofs.aborts.typed.Apart.{differ-by, behind-five}

-- ---- the names that every collecting text adds

pub names_are_added : (p : PProgram) → AreNamesAdded (texts_of p (names_kept p)).programs (names_added p)
names_are_added p =
    let q : PProgram = made_for p in
    let k = plain.names_are_added p in
    subst (AreNamesAdded (texts_of p (names_kept p)).programs) (sym (same_added p))
    record {
      answer = new-shut q _ k.answer;
      part = new-shut q _ k.part;
      caller = new-shut q _ k.caller;
      caller_answer = k.caller_answer;
      caller_part = k.caller_part;
      answer_part = k.answer_part;
      part_answer = k.part_answer;
    }

-- ---- the names of places

-- no two places of a unit have one text
abbrev pub AreCounted : PProgram → Type 0
AreCounted q = (n m : ℕ) → n ≤ most_places q → m ≤ most_places q → decimal n ≡ decimal m → n ≡ m

-- no unit has more places
few-among : (q : PProgram) (most : ℕ) (ds : PDecls) (name : NameId) → AllByRecursion (λ d. places_of d ≤ most) (decl_list ds) → places_in
    (unit_among ds name).body ≤ most
few-among q most no_decl name h = omega arith
few-among q most (decl_then (DTaskBody w objects its s) ds) name h = by_test (w.name.0 == name.0) (few-among q most ds name h.1)
  where
    by_test : (c : Bool) → places_in (unit_among ds name).body ≤ most →
        places_in (unwrap_or (if c then Some record { in_main = false; decls = objects; body = its } else None) (unit_among ds name)).body ≤ most
    by_test true k = h.0
    by_test false k = k
few-among q most (decl_then (DTask t s) ds) name h = few-among q most ds name h.1
few-among q most (decl_then (DNumber w e s) ds) name h = few-among q most ds name h.1
few-among q most (decl_then (DObject ws c x i s) ds) name h = few-among q most ds name h.1
few-among q most (decl_then (DEnumeration w ws s) ds) name h = few-among q most ds name h.1
few-among q most (decl_then (DArray w r x s) ds) name h = few-among q most ds name h.1
few-among q most (decl_then (DSubtype w x s) ds) name h = few-among q most ds name h.1
few-among q most (decl_then (DException ws s) ds) name h = few-among q most ds name h.1
few-among q most (decl_then (DIntIo w s) ds) name h = few-among q most ds name h.1
few-among q most (decl_then (DPragma e s) ds) name h = few-among q most ds name h.1

few-info : (q : PProgram) (o : Option TaskInfo) → places_in (unit_of_info q o).body ≤ most_places q
few-info q None = omega arith
few-info q (Some info) = few-among q (most_places q) q.decls info.unit (bodies-few q)

pub few-places : (p : PProgram) (t : ℕ) → (texts_of p (names_kept p)).places t ≤ most_places (form_in p).program
few-places p zero = main-few (form_in p).program
few-places p (suc t) =
    let q : PProgram = (form_in p).program in
    subst (λ c. places_in (if c then record { in_main = true; decls = q.decls; body = q.body } else unit_of_info q (task_at (form_in p).numbers
    (suc t))).body ≤ most_places q)
    (sym (ne_eqb (suc t) 0 (λ e. omega (arith, e)))) (few-info q (task_at (form_in p).numbers (suc t)))

pub places_are_added : (p : PProgram) → AreCounted (form_in p).program → (last : ℕ) → last ≤ most_places (form_in p).program → ArePlacesAdded
    (texts_of p (names_kept p)).programs (told_in (main_unit (form_in p))) last
places_are_added p counted last few =
    record {
      taken = λ n i. added-unkept q (taken_text n) (taken-there n i) refl;
      refused = λ n i. added-unkept q (refused_text n) (refused-there n i) refl;
      taken_apart = λ n m i j other.
          two-apart q (taken_text n) (taken_text m) (taken-there n i) (taken-there m j)
          (differ-by (taken_text n) (taken_text m) (λ e. differ n m i j other (behind-five 68 69 68 95 81 (decimal n) (decimal m) e)));
      refused_apart = λ n m i j other.
          two-apart q (refused_text n) (refused_text m) (refused-there n i) (refused-there m j)
          (differ-by (refused_text n) (refused_text m) (λ e. differ n m i j other (behind-five 68 69 68 95 82 (decimal n) (decimal m) e)));
      taken_refused = λ n m i j. two-apart q (taken_text n) (refused_text m) (taken-there n i) (refused-there m j) refl;
      answer_taken = λ n i. two-apart q answer_text (taken_text n) (abort-has q answer_text refl) (taken-there n i) refl;
      answer_refused = λ n i. two-apart q answer_text (refused_text n) (abort-has q answer_text refl) (refused-there n i) refl;
      part_taken = λ n i. two-apart q part_text (taken_text n) (abort-has q part_text refl) (taken-there n i) refl;
      part_refused = λ n i. two-apart q part_text (refused_text n) (abort-has q part_text refl) (refused-there n i) refl;
      caller_taken = λ n i. two-apart q caller_text (taken_text n) (abort-has q caller_text refl) (taken-there n i) refl;
      caller_refused = λ n i. two-apart q caller_text (refused_text n) (abort-has q caller_text refl) (refused-there n i) refl;
    }
  where
    q : PProgram
    q = (form_in p).program

    within : (n : ℕ) → IsPlace last n → n ≤ most_places q
    within n i = omega (arith, i.1, few)

    taken-there : (n : ℕ) → IsPlace last n → Has (names_told q) (taken_text n)
    taken-there n i = (abort-has-places q n i.0 (within n i)).0

    refused-there : (n : ℕ) → IsPlace last n → Has (names_told q) (refused_text n)
    refused-there n i = (abort-has-places q n i.0 (within n i)).1

    differ : (n m : ℕ) → IsPlace last n → IsPlace last m → (n == m) ≡ false → decimal n ≡ decimal m → ⊥
    differ n m i j other e = true≢false (sym (equal n m (counted n m (within n i) (within m j) e)) ∙ other)
      where
        equal : (n m : ℕ) → n ≡ m → (n == m) ≡ true
        equal n m e = subst (λ k. (n == k) ≡ true) e (equal_self n)

-- ---- the tables

module _ (p : PProgram) (h : IsLegalOriginal p) where
  abbrev q : PProgram
  q = made_for p

  abbrev kept : ℕ → Bool
  kept = kept_name (made_for p)

  abbrev T : TypeTable
  T = types_in (made_for p)

  abbrev U : TypeTable
  U = types_in (abort_text p)

  abbrev root : TypeTable
  root = (behind p.name (first_decls [] p.decls)).types

  pub agrees : Agrees kept T U
  agrees =
      let r = normal_is_rooted p (types_in p) (numbers_of p) (facts.ordered p h) in
      rooted_agrees kept root T U record {
        sound = r.sound;
        whole = r.whole;
        left = keeps-normal p (types_in p) (numbers_of p) (facts.ordered p h) (facts.olds p h).2;
        right = keeps-text p (types_in p) (numbers_of p) (facts.ordered p h) (facts.olds p h).2;
      }

  pub values : AgreeOnValues kept T U q.names (abort_text p).names
  values =
      let begins = abort-begins q in
      subst (AgreeOnValues kept T U q.names) (sym begins.joined)
      (tables_agree_on_values kept T U q.names begins.more agrees (literals_are_named q (placed_tokens q (facts.placed p h))))

  pub types_agree : AgreeOnTypes (texts_of p (names_kept p)).programs
  types_agree = record {
    marks = values.marks;
    fixed = values.fixed;
    fixed_known = values.fixed_known;
    values = values.values;
    values_known = values.values_known;
    bases = values.bases;
    kinds = values.kinds;
    integers = values.integers;
    truths = values.truths;
    texts = values.images;
  }
