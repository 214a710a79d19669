-- The laws of places.
use Rattle.std.specs.Prelude.{◌≡◌, ℕ, ◌<◌, Bool, true, false}
use Rattle.std.specs.List.{AllByRecursion}
use Rattle.ada_tree.specs.declared.naming.NameId.{NameId}
use Rattle.ada_tree.specs.PlainProgram.{PProgram}
use Rattle.ada_static_rules.specs.Refusals.{MeetsTypeRules}
use Rattle.ada_static_rules.specs.Sites.{sites}
use Rattle.ada_tree.specs.Every.{no_rules, EveryProgram}
use Rattle.ada_tree.specs.WellPlaced.{IsWellPlaced}
use Rattle.syn_event.specs.declared.numbering.Mode.{Mode}
use Rattle.syn_event.specs.CheckRefusals.{MeetsCheckRules}
use Rattle.syn_event.specs.CheckSites.{check_sites}
use Rattle.syn_event.specs.DeclaredTasks.{text_of}
use Rattle.syn_event.specs.RuleReservedName.{is_reserved}
use Rattle.syn_event.specs.declared.numbering.Mode.TheVariants.{Original}
use Rattle.task_laws.specs.legal.sites.Met.{IsMet, IsCheckMet, IsAddressed}

-- A program that meets the first twelve rules meets them at each of its places.
abbrev pub AllMet : Type 0
AllMet = (p : PProgram) → MeetsTypeRules p → AllByRecursion IsMet (sites p)

-- So it is with the rules 13 to 23.
abbrev pub AllCheckMet : Type 0
AllCheckMet = (p : PProgram) (m : Mode) → MeetsCheckRules p m → AllByRecursion (IsCheckMet m p.names) (check_sites p)

-- Each name in an original that meets the rules is a predefined one, an attribute's, or is declared: what holds of the first 25 names, and of each
-- name that is not reserved, holds of each name in it, where bodies declare objects alone and no callee has a declaration that is refused.
abbrev pub NamesAreDeclared : Type 0
NamesAreDeclared =
    (p : PProgram) → MeetsTypeRules p → MeetsCheckRules p Original → IsWellPlaced p → AllByRecursion (λ x. IsAddressed x.scope x.demand) (sites p) →
    (own : ℕ → Bool) → ((k : ℕ) → k < 25 → own k ≡ true) → ((id : NameId) → is_reserved (text_of p.names id) ≡ false → own id.0 ≡ true) → EveryProgram (record no_rules { name = λ id. own id.0 ≡ true }) p
