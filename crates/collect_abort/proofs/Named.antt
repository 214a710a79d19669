-- The names of a collecting text begin with those of the program.
use Rattle.std.proofs.Common.{◌≡◌, ℕ, zero, suc, List, [], ◌∷◌, length, take, fold, arith}
use Rattle.std.proofs.lemmas.List.{take_all}
use Rattle.ada_tree.specs.NameList.{interned}
use Rattle.ada_tree.specs.PlainProgram.{PProgram}
use Rattle.ada_tree.specs.TypeTable.{TypeTable}
use Rattle.syn_event.specs.Numbering.{Numbering}
use Rattle.task_model.specs.Setting.{Setting}
use Rattle.normal_model.specs.Names.{variable_text, with_members, with_variables, member_texts, normal_names}
use Rattle.normal_model.specs.NormalTree.{variables_needed}
use Rattle.replay_model.specs.ReplayTree.{normal_setting}
use Rattle.replay_asking.proofs.names.Places.{take-interned}
use Rattle.collect_model.specs.Names.{added_texts, with_added}
use Rattle.collect_model.specs.aborts.Names.{acceptors_text, each_text, taken_text, refused_text, with_places, with_recorded}
use Rattle.collect_model.specs.aborts.Places.{most_places}
use Rattle.collect_model.specs.aborts.AbortTree.{abort_tree}

-- names still begin with some where more are interned
begins-later : (ts us all : List (List ℕ)) → take (length ts) all ≡ ts → take (length ts) (fold interned all us) ≡ ts
begins-later ts [] all begins = begins
begins-later ts (u ∷ us) all begins = begins-later ts us (interned all u) (take-interned all ts u begins)

begins-variables : (ts all : List (List ℕ)) (n : ℕ) → take (length ts) all ≡ ts → take (length ts) (with_variables all n) ≡ ts
begins-variables ts all zero begins = begins
begins-variables ts all (suc n) begins = take-interned (with_variables all n) ts (variable_text n) (begins-variables ts all n begins)

begins-recorded : (ts all : List (List ℕ)) → take (length ts) all ≡ ts → take (length ts) (with_recorded all) ≡ ts
unfolding with_added with_recorded
begins-recorded ts all begins = begins-later ts (acceptors_text ∷ each_text ∷ []) (fold interned all added_texts) (begins-later ts added_texts all begins)

begins-places : (ts all : List (List ℕ)) (n : ℕ) → take (length ts) all ≡ ts → take (length ts) (with_places all n) ≡ ts
begins-places ts all zero begins = begins
begins-places ts all (suc n) begins =
    take-interned (interned (with_places all n) (taken_text (suc n))) ts (refused_text (suc n)) (take-interned (with_places all n) ts (taken_text (suc n)) (begins-places ts all n begins))

pub begins-collected : (p : PProgram) (types : TypeTable) (numbers : Numbering) → take (length p.names) (abort_tree p types numbers).names ≡ p.names
begins-collected p types numbers =
    let g : Setting = record { program = p; types = types; numbers = numbers } in
    begins-places p.names (with_recorded (normal_setting p types numbers).program.names) (most_places (normal_setting p types numbers).program)
    (begins-recorded p.names (normal_names g (variables_needed g))
    (begins-variables p.names (with_members g) (variables_needed g)
    (begins-later p.names (member_texts p.names numbers.tasks) p.names (take_all (length p.names) p.names (omega arith)))))
