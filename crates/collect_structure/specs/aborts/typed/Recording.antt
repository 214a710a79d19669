-- What can be used in the body of the recorder of a collecting text of a program with abort statements, for the static rules 1 and 3 to 12 (this project's rule).
use Rattle.std.specs.Prelude.{◌≡◌, ℕ, ℤ, ◌==◌, false, List, [], ◌∷◌, drop, Some}
use Rattle.std.specs.List.{AllByRecursion}
use Rattle.ada_tree.specs.declared.naming.NameId.{NameId}
use Rattle.ada_tree.specs.declared.naming.Span.{Span}
use Rattle.ada_tree.specs.declared.static_types.Kind.TheVariants.{Array}
use Rattle.ada_tree.specs.declared.static_types.Mark.{Mark}
use Rattle.ada_static_rules.specs.Scope.{Scope, Thing, Variable, AsScalar, integer_kind, kind_at, mark_at, meaning, reading, range_of_mark}
use Rattle.ada_static_rules.specs.RuleReadOut.{out_formal}
use Rattle.ada_static_rules.specs.RuleDuplicate.{is_predefined}
use Rattle.syn_event.specs.declared.numbering.TaskInfo.{TaskInfo}
use Rattle.collect_model.specs.declared.AddedNames.{AddedNames}
use Rattle.collect_structure.specs.typed.Recording.{integer_values}
use Rattle.collect_model.specs.aborts.AbortTeller.{AbortTeller}

-- the name means a variable of arrays of INTEGER, whose index is an INTEGER
pub record IsTable (d : Scope) (id : NameId) : Type 0 where
  pub place : ℕ
  pub mark : Mark
  pub part : ℕ
  pub first : ℤ
  pub last : ℤ
  pub means : meaning d id ≡ Some (Variable place)
  pub there : mark_at d.types place ≡ Some mark
  pub array : kind_at d.types mark.kind ≡ Some (Array integer_kind first last part)
  pub parts : range_of_mark d.types part ≡ Some integer_values

-- the name means an object of INTEGER that can be read: a formal of mode in, or the parameter of a loop
pub record IsRead (d : Scope) (id : NameId) : Type 0 where
  pub thing : Thing
  pub means : meaning d id ≡ Some thing
  pub read : reading d id ≡ AsScalar integer_kind
  pub seen : (s : Span) → out_formal (Some thing) s ≡ []

-- ---- names

-- the names of the formals of a note
abbrev pub formal_names : AddedNames → List NameId
formal_names n = n.kind ∷ n.subject ∷ n.argument ∷ n.index ∷ n.owner ∷ n.reply ∷ []

-- the name is none of these
abbrev pub IsNone : List NameId → NameId → Type 0
IsNone ids name = AllByRecursion (λ (id : NameId). (id.0 == name.0) ≡ false) ids

-- The recorder's further names mean nothing else where they are used, and no task has a name that is declared in the recorder's body.
pub record AreApart (x : AbortTeller) : Type 0 where
  pub predefined : is_predefined x.acceptors.0 ≡ false
  pub gone : (x.acceptors.0 == x.teller.added.gone.0) ≡ false
  pub formals : IsNone (formal_names x.teller.added) x.acceptors
  pub each : AllByRecursion (λ (id : NameId). (x.each.0 == id.0) ≡ false) (x.teller.added.met ∷ x.acceptors ∷ x.teller.added.argument ∷ [])
  pub tasks : AllByRecursion (λ (info : TaskInfo). IsNone (x.teller.added.gone ∷ x.teller.added.met ∷ x.acceptors ∷ formal_names x.teller.added) info.name) (drop 1 x.teller.numbers.tasks)
