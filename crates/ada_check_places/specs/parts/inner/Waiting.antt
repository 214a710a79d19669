-- Which alternatives a wait has, told one after the other.
use Rattle.std.specs.Prelude.{Bool, true, false, not, ◌||◌, ◌&&◌, List, [], ◌∷◌}
use Rattle.ada_tree.specs.PlainStmt.{PAltKind, AAccept, ADelay, ATerminate}
use Rattle.ada_check_places.specs.declared.parts.waits.Forms.{Forms}

abbrev pub with_kind : Forms → PAltKind → Forms
with_kind f (AAccept a l) = record f { accepts = true }
with_kind f (ADelay d l) = record f { delays = true }
with_kind f ATerminate = record f { terminates = true; again = f.terminates || f.again }

abbrev pub no_forms : Forms
no_forms = record { accepts = false; delays = false; terminates = false; again = false }

abbrev pub forms_behind : Forms → List PAltKind → Forms
forms_behind f [] = f
forms_behind f (x ∷ xs) = forms_behind (with_kind f x) xs

abbrev pub forms_in : List PAltKind → Forms
forms_in xs = forms_behind no_forms xs

abbrev pub wrong_form : Forms → Bool → Bool
wrong_form f has_else = not f.accepts || f.again || ((f.terminates && f.delays) || (has_else && (f.terminates || f.delays)))
