-- One turn of each loop over formals.
use Rattle.std.specs.Prelude.{◌≡◌, ◌<◌, ◌+◌, ℕ, List, [], ◌∷◌, ◌++◌, length, take, map}
use Rattle.std.proofs.Common.{sym, ap, ◌∙◌, get_or}
use Rattle.std.proofs.lemmas.List.{take_more, map-append, append_assoc, append-nil}
use Rattle.std.proofs.lemmas.Grind.{flat_map-append}
use Rattle.ada_tree.specs.declared.naming.Word.{Word}
use Rattle.ada_tree.specs.declared.statements.Formal.{Formal}
use Rattle.ada_tree.specs.declared.statements.ParMode.{ParMode}
use Rattle.ada_tree.specs.TypeTable.{TypeTable}
use Rattle.ada_tree.specs.PlainStmt.{PFormal, plain_formal}
use Rattle.ada_value.specs.declared.values.Limits.{Limits}
use Rattle.ada_value.specs.Values.{limits_named}
use Rattle.task_model.specs.declared.parameters.FormalParameter.{FormalParameter}
use Rattle.task_model.specs.Setting.{parameters_in, parameters_of}
use Rattle.task_links.specs.inner.Made.{parameter_named}

pub name_step : (mode : ParMode) (limits : Limits) (start so_far grown : List FormalParameter) (words : List Word) (i : ℕ) (d : Word) → i < length words
    → so_far ≡ start ++ map (parameter_named mode limits) (take i words)
    → grown ≡ so_far ++ parameter_named mode limits (get_or words i d) ∷ []
    → grown ≡ start ++ map (parameter_named mode limits) (take (i + 1) words)
name_step mode limits start so_far grown words i d h before grows =
    let made = parameter_named mode limits in
    grows
    ∙ ap (λ l. l ++ made (get_or words i d) ∷ []) before
    ∙ append_assoc start (map made (take i words)) (made (get_or words i d) ∷ [])
    ∙ ap (λ l. start ++ l) (sym (map-append made (take i words) (get_or words i d ∷ [])))
    ∙ ap (λ l. start ++ map made l) (sym (take_more words i d h))

all_of_one : (types : TypeTable) (f : PFormal) → parameters_of types (f ∷ []) ≡ parameters_in types f
all_of_one types f = append-nil (parameters_in types f)

pub formal_step : (types : TypeTable) (so_far grown : List FormalParameter) (formals : List Formal) (i : ℕ) (f : Formal) (words : List Word) (limits : Limits) → i < length formals → f ≡ get_or formals i f
    → words ≡ f.names.items → limits ≡ limits_named types f.mark.name
    → so_far ≡ parameters_of types (map plain_formal (take i formals))
    → grown ≡ so_far ++ map (parameter_named f.mode limits) words
    → grown ≡ parameters_of types (map plain_formal (take (i + 1) formals))
formal_step types so_far grown formals i f words limits h is names_are limits_are before grows =
    grows
    ∙ ap (λ l. l ++ map (parameter_named f.mode limits) words) before
    ∙ ap (λ l. parameters_of types (map plain_formal (take i formals)) ++ map (parameter_named f.mode l) words) limits_are
    ∙ ap (λ l. parameters_of types (map plain_formal (take i formals)) ++ map (parameter_named f.mode (limits_named types f.mark.name)) l) names_are
    ∙ ap (λ l. parameters_of types (map plain_formal (take i formals)) ++ l) (sym (all_of_one types (plain_formal f)))
    ∙ sym (flat_map-append (parameters_in types) (map plain_formal (take i formals)) (plain_formal f ∷ []))
    ∙ ap (parameters_of types) (sym (map-append plain_formal (take i formals) (f ∷ [])))
    ∙ ap (λ g. parameters_of types (map plain_formal (take i formals ++ g ∷ []))) is
    ∙ ap (λ l. parameters_of types (map plain_formal l)) (sym (take_more formals i f h))
