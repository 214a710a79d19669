-- No accept and no loop of a legal program declares a name that its replay text adds, or FALSE.
use Rattle.std.proofs.Common.{◌≡◌, ℕ, ◌<◌, Bool, true, false, not, ◌&&◌, nat_lt, List, length, is_none, refl, sym, ap, ◌∙◌}
use Rattle.std.proofs.lemmas.Bool.{ltb-true}
use Rattle.ada_tree.specs.Attributes.{false_name}
use Rattle.ada_tree.specs.PlainProgram.{PProgram}
use Rattle.ada_static_rules.specs.Refusals.{types_in}
use Rattle.ada_static_rules.specs.StaticValue.{mark_named}
use Rattle.syn_event.specs.RuleReservedName.{is_reserved}
use Rattle.syn_event.specs.DeclaredTasks.{text_of}
use Rattle.normal_model.proofs.VariablesLemmas.{Begins, begins-trans}
use Rattle.normal_laws.proofs.structure.numbers.Named.{Has, text-there, text-longer}
use Rattle.normal_laws.proofs.structure.numbers.TaskNames.{normal-begins}
use Rattle.normal_laws.specs.runs.forms.Normalisable.{numbers_of, made_for}
use Rattle.normal_laws.specs.legality.scopes.Plain.{plain_name}
use Rattle.replay_model.specs.Names.{kind_text, argument_text, index_text, control_text, idle_text, added_texts, replay_names, added_id}
use Rattle.replay_structure.proofs.texts.Rooted.{replay-begins, replay-has}
use Rattle.replay_structure.specs.typed.ScopeOf.{AreOuter}
use Rattle.replay_structure.specs.legal.names.form_units.Inner.{inner_name}

module _ (p : PProgram) where
  abbrev q : PProgram
  q = made_for p

  not-plain : (n : ℕ) → plain_name p n ≡ false → inner_name p n ≡ false
  not-plain n e = ap (λ (b : Bool). b && (not (nat_lt n 18) && is_none (mark_named (types_in p) record { 0 = n }))) e

  -- a text that is left to the rewriters has no plain name
  added-outer : (t : List ℕ) → Has added_texts t → is_reserved t ≡ true → inner_name p (added_id q t).0 ≡ false
  added-outer t h r = not-plain (added_id q t).0 (by_test (nat_lt (added_id q t).0 (length p.names)) refl)
    where
      begins : Begins p.names (replay_names q)
      begins = begins-trans (normal-begins p (types_in p) (numbers_of p)) (replay-begins q)

      same : (added_id q t).0 < length p.names → text_of p.names (added_id q t) ≡ t
      same l = sym (text-longer p.names (replay_names q) (added_id q t) begins l) ∙ text-there (replay_names q) t (replay-has q t h)

      by_test : (b : Bool) → nat_lt (added_id q t).0 (length p.names) ≡ b → (b && not (is_reserved (text_of p.names record { 0 = (added_id q t).0 }))) ≡ false
      by_test false e = refl
      by_test true e = ap (λ (b : Bool). not b) (ap is_reserved (same (ltb-true (added_id q t).0 (length p.names) e)) ∙ r)

  pub outer : AreOuter q (inner_name p)
  outer = record {
    kind = added-outer kind_text refl refl;
    argument = added-outer argument_text refl refl;
    index = added-outer index_text refl refl;
    control = added-outer control_text refl refl;
    idle = added-outer idle_text refl refl;
    falses = no-more (plain_name p false_name);
  }
    where
      no-more : (a : Bool) → (a && false) ≡ false
      no-more true = refl
      no-more false = refl
