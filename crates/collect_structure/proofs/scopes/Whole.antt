-- The scopes along the collecting text of each legal program are as told.
use Rattle.std.proofs.Common.{List, [], refl}
use Rattle.ada_tree.specs.PlainDecl.{PDecl}
use Rattle.ada_tree.specs.PlainProgram.{PProgram}
use Rattle.ada_static_rules.specs.Declaring.{first_scope}
use Rattle.syn_event.specs.DeclaredTasks.{decl_list}
use Rattle.normal_model.specs.NormalTree.{first_decls, main_variables}
use Rattle.normal_laws.proofs.structure.numbers.Listed.{first-plain}
use Rattle.normal_laws.specs.runs.forms.Normalisable.{setting_for, made_for}
use Rattle.normal_laws.specs.existence.Laws.{IsLegalOriginal}
use Rattle.replay_structure.specs.checkable.Prepared.{form_for}
use Rattle.replay_structure.proofs.legal.names.form_names.Whole.{legal_has_form_names}
use Rattle.replay_structure.proofs.legal.names.form_scopes.Joined.{form-parted}
use Rattle.replay_structure.proofs.legal.names.form_scopes.Unseen.{decls-none, first-none}
use Rattle.collect_model.specs.Names.{answer_text, part_text}
use Rattle.collect_structure.specs.Names.{added_id, kept_name}
use Rattle.collect_structure.specs.scopes.Inner.{inner_told}
use Rattle.collect_structure.specs.scopes.Text.{HasToldScopes}
use Rattle.collect_structure.specs.scopes.Form.{AreNamesNew, IsTellable}
use Rattle.collect_structure.proofs.legal.Bodies.{told-outer, main-has, main-asked-told, all-bodies-told}
use Rattle.collect_structure.proofs.scopes.Known.{names-new, language-known, self-kept, no-types, new-value, variables-told, tasks-told}
use Rattle.collect_structure.proofs.scopes.Told.{tellable-told}

module _ (p : PProgram) (legal : IsLegalOriginal p) where
  abbrev q : PProgram
  q = made_for p

  abbrev before : List PDecl
  before = decl_list (first_decls [] p.decls)

  abbrev vars : List PDecl
  vars = main_variables (setting_for p)

  -- The normal form of each legal program is as asked.
  pub legal_is_tellable : IsTellable (form_for p) (kept_name q) (inner_told p) before vars
  legal_is_tellable =
      let new : AreNamesNew (form_for p) (kept_name q) = names-new p legal in
      let names = legal_has_form_names p legal in
      let parted = form-parted p legal in
      record {
        names = new;
        outer = told-outer p;
        plain = names.plain;
        front = names.front;
        language = language-known p legal;
        self = self-kept p legal;
        answer = new-value p legal (added_id q answer_text) (new.added answer_text refl refl);
        part = new-value p legal (added_id q part_text) (new.added part_text refl refl);
        unseen = decls-none before (first-plain p.decls []) (first_scope p.name) (first-none p.name);
        no_types = no-types p legal;
        firsts_met = parted.firsts;
        variables = variables-told p legal;
        variables_met = parted.variables;
        tasks = tasks-told p legal;
        tasks_met = parted.tasks_met;
        bodies = all-bodies-told p legal;
        has = main-has p legal;
        asked = main-asked-told p legal;
      }

  pub legal_has_told_scopes : HasToldScopes (form_for p) before vars
  legal_has_told_scopes = tellable-told (form_for p) (kept_name q) (inner_told p) before vars legal_is_tellable
