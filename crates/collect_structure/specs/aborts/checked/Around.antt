-- What stands around the statements of a unit in a collecting text of a program with abort statements, beside what stands around them in the normal form, for the rules 13 to 23 (this project's rule).
use Rattle.std.specs.Prelude.{◌≡◌, ℕ, ◌≤◌, true, List, []}
use Rattle.ada_tree.specs.declared.naming.NameId.{NameId}
use Rattle.ada_tree.specs.declared.naming.Span.{Span}
use Rattle.ada_tree.specs.PlainExpr.{PExpr}
use Rattle.ada_tree.specs.PlainProgram.{PProgram}
use Rattle.ada_tree.specs.Every.{Rules, no_rules, EveryExpr}
use Rattle.syn_event.specs.Extents.{fixed}
use Rattle.syn_event.specs.CheckScope.{CheckScope, meaning, uses, addresses}
use Rattle.syn_event.specs.RuleAcceptPlace.{is_own_entry}
use Rattle.syn_event.specs.RuleMainEntry.{main_entry}
use Rattle.syn_event.specs.RuleSharedVariable.{in_body_of, shared_variable}
use Rattle.normal_model.specs.Ranges.{word_at}
use Rattle.collect_model.specs.Names.{answer_text, part_text, recorder_text}
use Rattle.collect_structure.specs.Names as collect
use Rattle.collect_model.specs.aborts.AbortTeller.{AbortTeller}
use Rattle.collect_structure.specs.aborts.Names.{kept_name}
use Rattle.collect_structure.specs.aborts.asked.Pieces.{IsPlace}

-- ---- names

-- each name is a kept one, and no part stands deeper than 100
abbrev pub kept_names : PProgram → Rules
kept_names q = record no_rules { name = λ id. kept_name q id.0 ≡ true; nested = λ k. k ≤ 100 }

-- ---- what stands around

-- What stands around a place of a unit with so many places where calls are accepted, in a normal form and in its text; but not the loops.
pub record IsTelling (q : PProgram) (x : AbortTeller) (most : ℕ) (c d : CheckScope) : Type 0 where
  -- a kept name means the same, and both places are in bodies of tasks, or both are not
  pub meant : (id : NameId) → kept_name q id.0 ≡ true → meaning d id ≡ meaning c id
  pub inside : (spans : List Span) → in_body_of d.own spans ≡ in_body_of c.own spans
  -- an expression of kept names has the same static value
  pub values : (k : ℕ) (e : PExpr) → EveryExpr (kept_names q) k e → fixed d.types e ≡ fixed c.types e
  -- the two variables are the unit's own, and so are those of its places
  pub answer : (s : Span) → shared_variable d (uses (collect.added_id q answer_text) s) ≡ []
  pub part : (s : Span) → shared_variable d (uses (collect.added_id q part_text) s) ≡ []
  pub taken : (p : ℕ) → IsPlace most p → (s : Span) → shared_variable d (uses (x.taken p) s) ≡ []
  pub refused : (p : ℕ) → IsPlace most p → (s : Span) → shared_variable d (uses (x.refused p) s) ≡ []
  -- the recorder may be called
  pub recorder : (s : Span) → main_entry d (addresses (word_at s (collect.added_id q recorder_text))) ≡ []
  -- the own task has its entries; the accepts and the handlers around
  pub entries : (id : NameId) → is_own_entry c.own id ≡ true → is_own_entry d.own id ≡ true
  pub accepting : d.accepting ≡ c.accepting
  pub in_handler : c.in_handler ≡ true → d.in_handler ≡ true

-- So it is around a statement that stays, with the same loops: it is in none that the text adds.
abbrev pub IsStaying : PProgram → AbortTeller → ℕ → CheckScope → CheckScope → Type 0
IsStaying q x most c d = IsTelling q x most c d × (d.loops ≡ c.loops)
