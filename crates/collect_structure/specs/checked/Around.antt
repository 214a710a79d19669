-- What stands around the statements of a unit in a collecting text, beside what stands around them in the normal form, for the rules 13 to 23 (this project's rule).
use Rattle.std.specs.Prelude.{◌≡◌, ℕ, true, List, []}
use Rattle.ada_tree.specs.declared.naming.NameId.{NameId}
use Rattle.ada_tree.specs.declared.naming.Span.{Span}
use Rattle.ada_tree.specs.PlainExpr.{PExpr}
use Rattle.ada_tree.specs.PlainProgram.{PProgram}
use Rattle.ada_tree.specs.Every.{EveryExpr}
use Rattle.syn_event.specs.Extents.{fixed}
use Rattle.syn_event.specs.CheckScope.{CheckScope, meaning, uses, addresses}
use Rattle.syn_event.specs.RuleAcceptPlace.{is_own_entry}
use Rattle.syn_event.specs.RuleMainEntry.{main_entry}
use Rattle.syn_event.specs.RuleSharedVariable.{in_body_of, shared_variable}
use Rattle.normal_model.specs.Ranges.{word_at}
use Rattle.collect_model.specs.Names.{answer_text, part_text, recorder_text}
use Rattle.collect_structure.specs.Names.{added_id, kept_name, kept_names}

-- What stands around a place of a unit in a normal form, and around it in the collecting text.
pub record IsTelling (q : PProgram) (c d : CheckScope) : Type 0 where
  -- a kept name means the same, and both places are in bodies of tasks, or both are not
  pub meant : (id : NameId) → kept_name q id.0 ≡ true → meaning d id ≡ meaning c id
  pub inside : (spans : List Span) → in_body_of d.own spans ≡ in_body_of c.own spans
  -- an expression of kept names has the same static value
  pub values : (k : ℕ) (e : PExpr) → EveryExpr (kept_names q) k e → fixed d.types e ≡ fixed c.types e
  -- the two variables are the unit's own, and the recorder may be called
  pub answer : (s : Span) → shared_variable d (uses (added_id q answer_text) s) ≡ []
  pub part : (s : Span) → shared_variable d (uses (added_id q part_text) s) ≡ []
  pub recorder : (s : Span) → main_entry d (addresses (word_at s (added_id q recorder_text))) ≡ []
  -- the own task has its entries; the accepts, the loops and the handlers around
  pub entries : (id : NameId) → is_own_entry c.own id ≡ true → is_own_entry d.own id ≡ true
  pub accepting : d.accepting ≡ c.accepting
  pub loops : d.loops ≡ c.loops
  pub in_handler : c.in_handler ≡ true → d.in_handler ≡ true
