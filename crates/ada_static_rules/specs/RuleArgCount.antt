-- Rule ArgCount: a call has another number of actuals than its entry has formals; an index is missing or too much, behind an entry, a task, a scalar or an attribute; or the formals of an accept differ from those of its entry in names, modes or marks (6.4, 9.5, 3.5.5).
use Rattle.std.specs.Prelude.{ℕ, Bool, true, false, not, ◌&&◌, ◌==◌, if◌then◌else◌, List, [], ◌∷◌, length, map, flat_map, Option, Some, None, is_some, is_none}
use Rattle.ada_tree.specs.declared.naming.Span.{Span}
use Rattle.ada_tree.specs.declared.naming.NameId.{NameId}
use Rattle.ada_tree.specs.declared.statements.ParMode.{ParMode}
use Rattle.ada_tree.specs.declared.statements.ParMode.TheVariants.{Take, Give, Both}
use Rattle.ada_tree.specs.PlainExpr.{PExpr, EIndex, EAttribute, EAttributeOf}
use Rattle.ada_tree.specs.PlainStmt.{PArgs, PFormal, PHead, PTarget}
use Rattle.ada_tree.specs.Attributes.{attribute_of, is_bound, is_function}
use Rattle.ada_static_rules.specs.Scope.{Scope, Thing, SingleTask, TaskObject, TaskArray, Family, single, family, unclear, EntryPart, FormalPart, Reading, AsScalar, reading, meaning, entry_named}
use Rattle.ada_static_rules.specs.Demand.{Demand, node, writes, addresses, calls, accepts}

-- an index behind a scalar
abbrev pub index_on_scalar : Reading → Span → List Span
index_on_scalar (AsScalar k) s = s ∷ []
index_on_scalar _ s = []

-- this place, where the test holds, else none
abbrev pub at_place : Bool → Span → List Span
at_place test s = if test then s ∷ [] else []

-- the word in an expression after which an index or argument is missing or too much; its parts are looked at apart (3.5.5, 4.1.1)
abbrev pub arg_count_in_node : Scope → PExpr → List Span
arg_count_in_node scope (EIndex w e s) = index_on_scalar (reading scope w.name) w.span
arg_count_in_node scope (EAttribute m w s) = at_place (is_function (attribute_of w.name)) w.span
arg_count_in_node scope (EAttributeOf m w e s) = at_place (is_bound (attribute_of w.name)) w.span
arg_count_in_node scope _ = []

-- an index after a scalar that is written (4.1.1, 5.2)
abbrev pub index_of_target : Scope → PTarget → List Span
index_of_target scope t = if is_some t.index then index_on_scalar (reading scope t.name.name) t.name.span else []

-- an array of tasks has an index, a task has none
abbrev pub index_of_callee : Option Thing → Option PExpr → Span → List Span
index_of_callee (Some (TaskArray range entries)) index s = at_place (is_none index) s
index_of_callee (Some (SingleTask entries)) index s = at_place (is_some index) s
index_of_callee (Some (TaskObject entries)) index s = at_place (is_some index) s
index_of_callee _ index s = []

-- as many actuals as formals; no list stands for no actuals
abbrev pub are_as_many : Option (List PExpr) → ℕ → Bool
are_as_many (Some actuals) n = length actuals == n
are_as_many None n = n == 0

-- the lists behind a plain entry: the actuals alone
abbrev pub fits_single : Option PArgs → ℕ → Bool
fits_single (Some args) n = is_none args.second && not (n == 0) && (length args.first == n)
fits_single None n = n == 0

-- the lists behind a family: one index, and the actuals
abbrev pub fits_family : Option PArgs → ℕ → Bool
fits_family (Some args) n = (length args.first == 1) && fits_second args.second
  where
    fits_second : Option (List PExpr) → Bool
    fits_second (Some actuals) = not (n == 0) && (length actuals == n)
    fits_second None = n == 0
fits_family None n = false

-- the lists after an entry's name fit its family and its number of formals; where the family is unclear nothing is asked (6.4, 9.5)
abbrev pub fits_call : Family → Option PArgs → ℕ → Bool
fits_call single args n = fits_single args n
fits_call (family range) args n = fits_family args n
fits_call unclear args n = true

-- this place, where the lists of a call do not fit its entry; none where the entry is not known (6.4, 9.5)
abbrev pub wrong_call : Option EntryPart → Option PArgs → Span → List Span
wrong_call (Some entry) args s = at_place (not (fits_call entry.family args (length entry.formals))) s
wrong_call None args s = []

-- the formals of an accept one by one, each with its mode and its mark's name
pub record Written : Type 0 where
  pub name : NameId
  pub mode : ParMode
  pub mark : NameId

-- each name of these formals by itself, with its mode and its mark (6.1, 9.5)
abbrev pub written_formals : List PFormal → List Written
written_formals formals = flat_map (λ f. map (λ w. record { name = w.name; mode = f.mode; mark = f.mark.name }) f.names) formals

-- two modes are the same (6.1)
abbrev pub same_mode : ParMode → ParMode → Bool
same_mode Take Take = true
same_mode Give Give = true
same_mode Both Both = true
same_mode _ _ = false

-- the formals of an accept are those of its entry, one by one in name, mode and mark (9.5)
abbrev pub are_same : List Written → List FormalPart → Bool
are_same [] [] = true
are_same (w ∷ ws) (f ∷ fs) = (w.name.0 == f.name.0) && same_mode w.mode f.mode && (w.mark.0 == f.mark.0) && are_same ws fs
are_same _ _ = false

-- an index stands where the entry is a family
abbrev pub fits_accept : Family → Option PExpr → Bool
fits_accept single index = is_none index
fits_accept (family range) index = is_some index
fits_accept unclear index = true

-- the entry's name in an accept whose index or formals are not those of its entry (9.5)
abbrev pub wrong_accept : Option EntryPart → PHead → List Span
wrong_accept (Some entry) h = at_place (not (fits_accept entry.family h.index && are_same (written_formals h.formals) entry.formals)) h.entry.span
wrong_accept None h = []

-- the entry that a call names
abbrev pub called_entry : Option Thing → NameId → Option EntryPart
called_entry (Some (SingleTask entries)) id = entry_named entries id
called_entry (Some (TaskObject entries)) id = entry_named entries id
called_entry (Some (TaskArray range entries)) id = entry_named entries id
called_entry _ id = None

-- The names behind which an index or an actual is missing or too much, and accepts that differ from their entries.
abbrev pub arg_count : Scope → Demand → List Span
arg_count scope (node written e) = arg_count_in_node scope e
arg_count scope (writes t) = index_of_target scope t
arg_count scope (addresses c) = index_of_callee (meaning scope c.name.name) c.index c.name.span
arg_count scope (calls c) = wrong_call (called_entry (meaning scope c.task.name.name) c.entry.name) c.args c.entry.span
arg_count scope (accepts h) = wrong_accept (entry_named scope.own h.entry.name) h
arg_count scope _ = []
