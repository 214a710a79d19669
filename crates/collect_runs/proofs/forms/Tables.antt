-- The tables of types of a normal form and of its collecting text agree on kept names, and the names that the text adds are none of these.
use Rattle.std.proofs.Common.{◌≡◌, ℕ, Bool, true, false, List, [], refl, sym, subst, ◌∙◌, true≢false}
use Rattle.common_lemmas.proofs.Lists.{texts_differ}
use Rattle.common_lemmas.proofs.Numbers.{equal_self}
use Rattle.ada_tree.specs.TypeTable.{TypeTable}
use Rattle.ada_tree.specs.PlainProgram.{PProgram}
use Rattle.ada_static_rules.specs.Refusals.{types_in}
use Rattle.task_laws.specs.translation.Scopes.{AgreeOnTypes}
use Rattle.task_laws.specs.legal.rewritten_values.Values.{AgreeOnValues}
use Rattle.normal_laws.specs.existence.Laws.{IsLegalOriginal}
use Rattle.collect_model.specs.Names.{answer_text, part_text, caller_text, added_texts}
use Rattle.collect_structure.specs.Names.{added_id, new_texts, kept_name}
use Rattle.collect_structure.proofs.checked.Names.{kept-other}
use Rattle.collect_structure.proofs.texts.Rooted.{ids-apart, collect-begins}
use Rattle.collect_structure.proofs.legal.Values.{keeps-normal, keeps-text}
use Rattle.collect_runs.specs.translation.Floors.{AreNamesAdded}
use Rattle.collect_runs.specs.starts.Texts.{text_for, names_added, texts_of}
use Rattle.normal_laws.specs.runs.forms.Normalisable.{made_for}
use Rattle.task_laws.specs.legal.rewritten_types.Laws.{behind}
use Rattle.normal_model.specs.NormalTree.{first_decls}
use Rattle.task_laws.specs.legal.rewritten_types.Agreement.{Agrees}
use Rattle.task_laws.proofs.legal.rewritten_types.Rooting.{rooted_agrees}
use Rattle.normal_laws.proofs.structure.types.Normal.{normal_is_rooted}
use Rattle.normal_laws.specs.runs.forms.Normalisable.{numbers_of}
use Rattle.task_laws.proofs.legal.rewritten_values.Saying.{tables_agree_on_values}
use Rattle.task_laws.proofs.legal.rewritten_values.Named.{literals_are_named}
use Rattle.syn_event.proofs.Weaker.{placed_tokens}
use Rattle.normal_laws.proofs.structure.numbers.Named.{Has}
use Rattle.normal_laws.proofs.legality.checks.Facts as facts

-- the names that stay, of a program
abbrev pub kept_for : PProgram → ℕ → Bool
kept_for p = kept_name (made_for p)

-- a name to which the text gives a meaning is none of these
new-name : (q : PProgram) (t : List ℕ) → Has added_texts t → Has new_texts t → kept_name q (added_id q t).0 ≡ false
new-name q t there meant = by_test (kept_name q (added_id q t).0) refl
  where
    by_test : (b : Bool) → kept_name q (added_id q t).0 ≡ b → b ≡ false
    by_test false e = refl
    by_test true e = absurd (true≢false (sym (equal_self (added_id q t).0) ∙ kept-other q (added_id q t) t e there meant))

pub names_are_added : (p : PProgram) → AreNamesAdded (texts_of p (kept_for p)).programs (names_added p)
names_are_added p =
    let q : PProgram = made_for p in
    record {
      answer = new-name q answer_text refl refl;
      part = new-name q part_text refl refl;
      caller = new-name q caller_text refl refl;
      caller_answer = ids-apart q caller_text answer_text refl refl (texts_differ caller_text answer_text refl);
      caller_part = ids-apart q caller_text part_text refl refl (texts_differ caller_text part_text refl);
      answer_part = ids-apart q answer_text part_text refl refl (texts_differ answer_text part_text refl);
      part_answer = ids-apart q part_text answer_text refl refl (texts_differ part_text answer_text refl);
    }

module _ (p : PProgram) (h : IsLegalOriginal p) where
  abbrev q : PProgram
  q = made_for p

  abbrev kept : ℕ → Bool
  kept = kept_name (made_for p)

  abbrev T : TypeTable
  T = types_in (made_for p)

  abbrev U : TypeTable
  U = types_in (text_for p)

  abbrev root : TypeTable
  root = (behind p.name (first_decls [] p.decls)).types

  pub agrees : Agrees kept T U
  agrees =
      let r = normal_is_rooted p (types_in p) (numbers_of p) (facts.ordered p h) in
      rooted_agrees kept root T U record {
        sound = r.sound;
        whole = r.whole;
        left = keeps-normal p (types_in p) (numbers_of p) (facts.ordered p h) (facts.olds p h).2;
        right = keeps-text p (types_in p) (numbers_of p) (facts.ordered p h) (facts.olds p h).2;
      }

  pub values : AgreeOnValues kept T U q.names (text_for p).names
  values =
      let begins = collect-begins q in
      subst (AgreeOnValues kept T U q.names) (sym begins.joined)
      (tables_agree_on_values kept T U q.names begins.more agrees (literals_are_named q (placed_tokens q (facts.placed p h))))

  pub types_agree : AgreeOnTypes (texts_of p (kept_for p)).programs
  types_agree = record {
    marks = values.marks;
    fixed = values.fixed;
    fixed_known = values.fixed_known;
    values = values.values;
    values_known = values.values_known;
    bases = values.bases;
    kinds = values.kinds;
    integers = values.integers;
    truths = values.truths;
    texts = values.images;
  }
