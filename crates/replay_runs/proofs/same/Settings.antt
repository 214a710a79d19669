-- What a renaming of ids does to what names of tasks, entries and formals mean.
use Rattle.std.proofs.Common.{◌&&◌, ◌+◌, ◌-◌, ◌==◌, ◌∙◌, ◌∷◌, ◌≡◌, Bool, List, None, Ok, Option, Some, [], ap, false, find, map, ok_or, option_map, position, refl, true, unwrap_or, ℕ, ℤ}
use Rattle.std.proofs.lemmas.Option.{slice_get-map}
use Rattle.ada_tree.specs.PlainDecl.{DTask, PDecl, PDecls, PEntry, PTask, decl_then, no_decl}
use Rattle.ada_tree.specs.PlainExpr.{PExpr}
use Rattle.ada_tree.specs.PlainProgram.{PProgram}
use Rattle.ada_tree.specs.PlainStmt.{PArgs, PCallee, PFormal}
use Rattle.ada_tree.specs.TypeTable.{TypeTable}
use Rattle.ada_tree.specs.declared.naming.NameId.{NameId}
use Rattle.syn_event.specs.DeclaredTasks.{decl_list, tasks_in, tasks_of}
use Rattle.syn_event.specs.Numbering.{Numbering, entry_at, entry_named, task_at, task_named}
use Rattle.syn_event.specs.declared.numbering.EntryInfo.{EntryInfo}
use Rattle.syn_event.specs.declared.numbering.TaskInfo.{TaskInfo}
use Rattle.ada_value.specs.Evaluating.{evaluated}
use Rattle.ada_value.specs.Values.{lies_in, limits_named, position_of}
use Rattle.ada_value.specs.Variables.{Variables}
use Rattle.ada_value.specs.declared.values.Limits.{Limits}
use Rattle.task_model.specs.Setting.{Setting, callee_task, entry_of, entry_parameters, family_limits, first_expr, formals_in, formals_of_entry, formals_of_info, formals_of_unit, index_in, is_family, is_family_in, is_member, lists_in, lists_of, member_index, member_named, parameters_in, parameters_of, task_meant, unit_named}
use Rattle.replay_runs.proofs.same.Lists.{find_mapped, flat_mapped, if_like, map_twice, position_mapped, unwrapped}
use Rattle.replay_runs.proofs.same.Names.{evaluated_same, if_kept, kept, limits_named_same, then_kept}
use Rattle.replay_runs.specs.same.Renamed.{IsRenaming, renamed_args, renamed_callee, renamed_decl, renamed_decls, renamed_entry, renamed_expr, renamed_formal, renamed_id, renamed_program, renamed_task, renamed_types, renamed_word}
use Rattle.replay_runs.specs.same.inner.RenamedTasks.{names_for, renamed_entry_info, renamed_lists, renamed_numbers, renamed_parameter, renamed_setting, renamed_task_info}
use Rattle.replay_runs.specs.same.inner.RenamedValues.{renamed_vars}
use Rattle.ada_value.specs.declared.values.Raised.TheVariants as raised

-- an option that may be missing, with the exception that is raised then
or_constraint : (f : ℕ → ℕ) (r : IsRenaming f) {A : Type 0} (o : Option A) → ok_or o raised.Constraint ≡ kept f r (ok_or o raised.Constraint)
or_constraint f r None = refl
or_constraint f r (Some x) = refl

module _ (f : ℕ → ℕ) (r : IsRenaming f) where
  -- ---- tasks

  task_named_same : (numbers : Numbering) (name : NameId) → task_named (renamed_numbers f numbers) (renamed_id f name) ≡ task_named numbers name
  task_named_same numbers name = position_mapped (renamed_task_info f) (λ info. info.name.0 == f name.0) (λ info. info.name.0 == name.0) (λ info. r.same info.name.0 name.0) numbers.tasks

  member_same : (numbers : Numbering) (name : NameId) (i : ℤ) → member_named (renamed_numbers f numbers) (renamed_id f name) i ≡ kept f r (member_named numbers name i)
  member_same numbers name i =
      ap (λ o. ok_or o raised.Constraint) (position_mapped (renamed_task_info f) (λ info. (info.name.0 == f name.0) && is_member i info.member)
      (λ info. (info.name.0 == name.0) && is_member i info.member) (λ info. ap (λ b. b && is_member i info.member) (r.same info.name.0 name.0)) numbers.tasks)
      ∙ or_constraint f r (position (λ info. (info.name.0 == name.0) && is_member i info.member) numbers.tasks)

  module _ (names : List (List ℕ)) where
    meant_same : (g : Setting) (vars : Variables) (name : NameId) (o : Option PExpr) →
        task_meant (renamed_setting f names g) (renamed_vars f vars) (renamed_id f name) (option_map (renamed_expr f) o) ≡ kept f r (task_meant g vars name o)
    meant_same g vars name None = ap (λ o. Ok (unwrap_or o 0)) (task_named_same g.numbers name)
    meant_same g vars name (Some e) = then_kept f r (λ (n : ℕ). n) (evaluated g.types vars e) _ _ _ (evaluated_same f r g.types vars e) (λ v. member_same g.numbers name (position_of v))

    pub callee_same : (g : Setting) (vars : Variables) (x : PCallee) → callee_task (renamed_setting f names g) (renamed_vars f vars) (renamed_callee f x) ≡ kept f r (callee_task g vars x)
    callee_same g vars x = meant_same g vars x.name.name x.index

  -- ---- entries

  entry_named_same : (numbers : Numbering) (owner : ℕ) (name : NameId) → entry_named (renamed_numbers f numbers) owner (renamed_id f name) ≡ entry_named numbers owner name
  entry_named_same numbers owner name = ap (option_map (λ k. k + 1)) (position_mapped (renamed_entry_info f) (λ info. (info.owner == owner) && (info.name.0 == f name.0))
      (λ info. (info.owner == owner) && (info.name.0 == name.0)) (λ info. ap (λ b. (info.owner == owner) && b) (r.same info.name.0 name.0)) numbers.entries)

  pub entry_same : (numbers : Numbering) (task : ℕ) (name : NameId) → entry_of (renamed_numbers f numbers) task (renamed_id f name) ≡ entry_of numbers task name
  entry_same numbers task name = ap (λ o. unwrap_or o 0) (entry_named_same numbers task name)

  pub task_at_same : (numbers : Numbering) (t : ℕ) → task_at (renamed_numbers f numbers) t ≡ option_map (renamed_task_info f) (task_at numbers t)
  task_at_same numbers t = slice_get-map (renamed_task_info f) numbers.tasks t

  pub entry_at_same : (numbers : Numbering) (e : ℕ) → entry_at (renamed_numbers f numbers) e ≡ option_map (renamed_entry_info f) (entry_at numbers e)
  entry_at_same numbers e = if_like (option_map (renamed_entry_info f)) (e == 0) (e == 0) refl refl (slice_get-map (renamed_entry_info f) numbers.entries (e - 1))

  family_in_same : (o : Option EntryInfo) → is_family_in (option_map (renamed_entry_info f) o) ≡ is_family_in o
  family_in_same None = refl
  family_in_same (Some info) = refl

  pub family_same : (numbers : Numbering) (e : ℕ) → is_family (renamed_numbers f numbers) e ≡ is_family numbers e
  family_same numbers e = ap is_family_in (entry_at_same numbers e) ∙ family_in_same (entry_at numbers e)

  family_limits_same : (o : Option EntryInfo) → family_limits (option_map (renamed_entry_info f) o) ≡ family_limits o
  family_limits_same None = refl
  family_limits_same (Some info) = refl

  limits_same : (numbers : Numbering) (e : ℕ) → family_limits (entry_at (renamed_numbers f numbers) e) ≡ family_limits (entry_at numbers e)
  limits_same numbers e = ap family_limits (entry_at_same numbers e) ∙ family_limits_same (entry_at numbers e)

  index_in_kept : (limits : Limits) (i : ℤ) → index_in limits i ≡ kept f r (index_in limits i)
  index_in_kept limits i = if_kept f r (lies_in limits i) _ _ refl refl

  module _ (names : List (List ℕ)) where
    pub member_index_same : (g : Setting) (vars : Variables) (e : ℕ) (o : Option PExpr) →
        member_index (renamed_setting f names g) (renamed_vars f vars) e (option_map (renamed_expr f) o) ≡ kept f r (member_index g vars e o)
    member_index_same g vars e None = refl
    member_index_same g vars e (Some x) = then_kept f r (λ (z : ℤ). z) (evaluated g.types vars x) _ _ _ (evaluated_same f r g.types vars x)
        (λ v. ap (λ l. index_in l (position_of v)) (limits_same g.numbers e) ∙ index_in_kept (family_limits (entry_at g.numbers e)) (position_of v))

  -- ---- formals

  parameters_in_same : (types : TypeTable) (x : PFormal) → parameters_in (renamed_types f types) (renamed_formal f x) ≡ map (renamed_parameter f) (parameters_in types x)
  parameters_in_same types x = map_twice (renamed_word f) (λ w. record { name = w.name; mode = x.mode; limits = limits_named (renamed_types f types) (renamed_id f x.mark.name) })
      (λ w. record { name = w.name; mode = x.mode; limits = limits_named types x.mark.name }) (renamed_parameter f)
      (λ w i. record { name = renamed_id f w.name; mode = x.mode; limits = limits_named_same f r types x.mark.name i }) x.names

  pub parameters_same : (types : TypeTable) (formals : List PFormal) → parameters_of (renamed_types f types) (map (renamed_formal f) formals) ≡ map (renamed_parameter f) (parameters_of types formals)
  parameters_same types formals = flat_mapped (renamed_formal f) (parameters_in (renamed_types f types)) (parameters_in types) (renamed_parameter f) (parameters_in_same types) formals

  decl_list_same : (ds : PDecls) → decl_list (renamed_decls f ds) ≡ map (renamed_decl f) (decl_list ds)
  decl_list_same no_decl = refl
  decl_list_same (decl_then d rest) = ap (λ ds. renamed_decl f d ∷ ds) (decl_list_same rest)

  tasks_in_same : (ds : List PDecl) → tasks_in (map (renamed_decl f) ds) ≡ map (renamed_task f) (tasks_in ds)
  tasks_in_same [] = refl
  tasks_in_same (DTask x s ∷ rest) = ap (λ ts. renamed_task f x ∷ ts) (tasks_in_same rest)
  tasks_in_same (_ ∷ rest) = tasks_in_same rest

  pub tasks_same : (ds : PDecls) → tasks_in (decl_list (renamed_decls f ds)) ≡ map (renamed_task f) (tasks_in (decl_list ds))
  tasks_same ds = ap tasks_in (decl_list_same ds) ∙ tasks_in_same (decl_list ds)

  of_entry_same : (o : Option PEntry) → formals_of_entry (option_map (renamed_entry f) o) ≡ map (renamed_formal f) (formals_of_entry o)
  of_entry_same None = refl
  of_entry_same (Some e) = refl

  formals_in_same : (o : Option PTask) (name : NameId) → formals_in (option_map (renamed_task f) o) (renamed_id f name) ≡ map (renamed_formal f) (formals_in o name)
  formals_in_same None name = refl
  formals_in_same (Some t) name =
      ap formals_of_entry (find_mapped (renamed_entry f) (λ e. e.name.name.0 == f name.0) (λ e. e.name.name.0 == name.0) (λ e. r.same e.name.name.0 name.0) t.entries)
      ∙ of_entry_same (find (λ e. e.name.name.0 == name.0) t.entries)

  module _ (names : List (List ℕ)) where
    unit_named_same : (p : PProgram) (name : NameId) → unit_named (renamed_program f names p) (renamed_id f name) ≡ option_map (renamed_task f) (unit_named p name)
    unit_named_same p name = ap (find (λ t. t.name.name.0 == f name.0)) (tasks_same p.decls)
        ∙ find_mapped (renamed_task f) (λ t. t.name.name.0 == f name.0) (λ t. t.name.name.0 == name.0) (λ t. r.same t.name.name.0 name.0) (tasks_of p)

    of_unit_same : (p : PProgram) (o : Option TaskInfo) (name : NameId) →
        formals_of_unit (renamed_program f names p) (option_map (renamed_task_info f) o) (renamed_id f name) ≡ map (renamed_formal f) (formals_of_unit p o name)
    of_unit_same p None name = refl
    of_unit_same p (Some info) name = ap (λ o. formals_in o (renamed_id f name)) (unit_named_same p info.unit) ∙ formals_in_same (unit_named p info.unit) name

  module _ (names : List (List ℕ)) where
    of_info_same : (g : Setting) (o : Option EntryInfo) → formals_of_info (renamed_setting f names g) (option_map (renamed_entry_info f) o) ≡ map (renamed_formal f) (formals_of_info g o)
    of_info_same g None = refl
    of_info_same g (Some info) =
        ap (λ o. formals_of_unit (renamed_setting f names g).program o (renamed_id f info.name)) (task_at_same g.numbers info.owner)
        ∙ of_unit_same (names_for names g.program.names) g.program (task_at g.numbers info.owner) info.name

    pub entry_parameters_same : (g : Setting) (e : ℕ) → entry_parameters (renamed_setting f names g) e ≡ map (renamed_parameter f) (entry_parameters g e)
    entry_parameters_same g e =
        ap (parameters_of (renamed_types f g.types)) (ap (formals_of_info (renamed_setting f names g)) (entry_at_same g.numbers e) ∙ of_info_same g (entry_at g.numbers e))
        ∙ parameters_same g.types (formals_of_info g (entry_at g.numbers e))

  -- ---- the lists of a call

  first_expr_same : (es : List PExpr) → first_expr (map (renamed_expr f) es) ≡ option_map (renamed_expr f) (first_expr es)
  first_expr_same [] = refl
  first_expr_same (e ∷ rest) = refl

  lists_in_same : (b : Bool) (x : PArgs) → lists_in b (renamed_args f x) ≡ renamed_lists f (lists_in b x)
  lists_in_same true x = λ i. record { index = first_expr_same x.first i; actuals = unwrapped (map (renamed_expr f)) x.second [] i }
  lists_in_same false x = refl

  pub lists_same : (numbers : Numbering) (e : ℕ) (o : Option PArgs) → lists_of (renamed_numbers f numbers) e (option_map (renamed_args f) o) ≡ renamed_lists f (lists_of numbers e o)
  lists_same numbers e None = refl
  lists_same numbers e (Some x) = ap (λ b. lists_in b (renamed_args f x)) (family_same numbers e) ∙ lists_in_same (is_family numbers e) x
