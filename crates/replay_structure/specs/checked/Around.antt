-- What stands around the statements of a unit in a replay text, beside what stands around them in the normal form, for the rules 13 to 23; and what
-- is asked of the statements of a normal form beside these rules (this project's rule).
use Rattle.std.specs.Prelude.{◌≡◌, ℕ, ◌≤◌, Bool, true, false, not, ◌&&◌, nat_lt, List, [], ◌∷◌, length}
use Rattle.std.specs.List.{list_any}
use Rattle.std.specs.Str.{bytes_eq}
use Rattle.ada_tree.specs.declared.naming.NameId.{NameId}
use Rattle.ada_tree.specs.declared.naming.Span.{Span}
use Rattle.ada_tree.specs.Attributes.{false_name}
use Rattle.ada_tree.specs.PlainProgram.{PProgram}
use Rattle.ada_tree.specs.Every.{Rules, no_rules}
use Rattle.syn_event.specs.CheckScope.{CheckScope, meaning, uses, addresses}
use Rattle.syn_event.specs.RuleAcceptPlace.{is_among, is_own_entry}
use Rattle.syn_event.specs.RuleMainEntry.{main_entry}
use Rattle.syn_event.specs.RuleSharedVariable.{in_body_of, shared_variable}
use Rattle.syn_event.specs.DeclaredTasks.{text_of}
use Rattle.task_laws.specs.legal.asked.Asked.{Asks}
use Rattle.replay_model.specs.Names.{kind_text, argument_text, index_text, control_text, idle_text, never_text, added_id, added_word}

-- ---- names

-- the names to which a replay text gives a meaning, but for those of most of its entries
abbrev pub meant_texts : List (List ℕ)
meant_texts = kind_text ∷ argument_text ∷ index_text ∷ control_text ∷ idle_text ∷ never_text ∷ []

-- the id of a name of a normal form that is none of those
abbrev pub kept_name : PProgram → ℕ → Bool
kept_name q n = nat_lt n (length q.names) && not (list_any (bytes_eq (text_of q.names record { 0 = n })) meant_texts)

-- each name is a kept one, and no part stands deeper than 100
abbrev pub kept_names : PProgram → Rules
kept_names q = record no_rules { name = λ id. kept_name q id.0 ≡ true; nested = λ k. k ≤ 100 }

-- ---- nesting

-- What is asked of a normal form beside the rules: what stands in a statement itself is at most 50 deep, so that what is added to it by accepts in
-- accepts keeps within the limit, and an abort statement has at most one name.
abbrev pub form_asks : Asks (Unit {0})
form_asks = record {
  outer = λ c k s. k ≤ 50;
  many = λ n. Unit {0};
  duration = λ n. Unit {0};
  plain = λ c k x. k ≤ 50;
  callee = λ c k x. k ≤ 50;
  call = λ c k x. k ≤ 50;
  aborts = λ c k xs. length xs ≤ 1;
  condition = λ c k e. k ≤ 50;
  selector = λ c k e xs others s. k ≤ 50;
  choices = λ c k e xs. k ≤ 50;
  loop = λ c k w x. k ≤ 50;
  head = λ c k h. k ≤ 50;
  wait = λ c k x others s. k ≤ 50;
  delay = λ c k g s. k ≤ 50;
  handlers = λ hs. Unit {0};
  handler = λ c k names ws. Unit {0};
  accepting = λ c h. c;
  looping = λ c w x. c;
  handling = λ c. c;
}

-- ---- what stands around

-- What stands around a place of a unit in a normal form, and around it in the replay text.
pub record IsAsking (q : PProgram) (c d : CheckScope) : Type 0 where
  -- a kept name means the same, and both places are in bodies of tasks, or both are not
  pub meant : (id : NameId) → kept_name q id.0 ≡ true → meaning d id ≡ meaning c id
  pub inside : (spans : List Span) → in_body_of d.own spans ≡ in_body_of c.own spans
  -- the variables of the permit are the unit's own, and FALSE is no variable
  pub kind : (s : Span) → shared_variable d (uses (added_id q kind_text) s) ≡ []
  pub argument : (s : Span) → shared_variable d (uses (added_id q argument_text) s) ≡ []
  pub index : (s : Span) → shared_variable d (uses (added_id q index_text) s) ≡ []
  pub truth : (s : Span) → shared_variable d (uses (record { 0 = false_name }) s) ≡ []
  -- the controller and the idle task may be called
  pub control : (s : Span) → main_entry d (addresses (added_word q s control_text)) ≡ []
  pub idle : (s : Span) → main_entry d (addresses (added_word q s idle_text)) ≡ []
  -- the own task has its entries and, where it has some, DED_NEVER, which is accepted nowhere around
  pub entries : (id : NameId) → is_own_entry c.own id ≡ true → is_own_entry d.own id ≡ true
  pub never : (id : NameId) → is_own_entry c.own id ≡ true → is_own_entry d.own (added_id q never_text) ≡ true
  pub accepting : d.accepting ≡ c.accepting
  pub outside : is_among d.accepting (added_id q never_text) ≡ false
  -- the loops and the handlers around
  pub loops : d.loops ≡ c.loops
  pub in_handler : c.in_handler ≡ true → d.in_handler ≡ true
