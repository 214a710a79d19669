-- What the grammar, the first twelve static rules and the other static rules ask of a body, statement by statement; what asks nothing; and what two
-- ask together (this project's rule).
use Rattle.std.specs.Prelude.{List, [], ◌∷◌, ◌++◌, length, flat_map, IfSome, All}
use Rattle.std.specs.List.{AllByRecursion}
use Rattle.ada_tree.specs.PlainStmt.{PCallee}
use Rattle.ada_tree.specs.Every.{Rules, EveryWord, EveryExpr, EveryCallee, EveryArgs, EveryChoice, EveryScheme, EveryHead, EveryStmt}
use Rattle.ada_static_rules.specs.Scope.{Scope, meaning}
use Rattle.ada_static_rules.specs.ExprTypes.{kind_of}
use Rattle.ada_static_rules.specs.RuleArgCount.{called_entry}
use Rattle.ada_static_rules.specs.RuleChoiceBad.{selected_range}
use Rattle.ada_static_rules.specs.Declaring.{inner_scope, with_formals}
use Rattle.ada_static_rules.specs.Demand.{labels, calls, chooses, Site}
use Rattle.ada_static_rules.specs.Sites as typed
use Rattle.syn_event.specs.CheckScope.{CheckScope, CheckSite, declares, aborts_before, waits, counts}
use Rattle.syn_event.specs.declared.limits.What.TheVariants.{Nesting, Alternatives}
use Rattle.syn_event.specs.CheckSites as check
use Rattle.task_laws.specs.legal.asked.Asked.{Asks}

-- ---- what asks nothing

-- nothing is asked, and nothing stands around; what asks something of one form of statement alone is told by that
abbrev pub no_asks : Asks (Unit {0})
no_asks = record {
  outer = λ c k s. Unit {0};
  many = λ n. Unit {0};
  duration = λ n. Unit {0};
  plain = λ c k x. Unit {0};
  callee = λ c k x. Unit {0};
  call = λ c k x. Unit {0};
  aborts = λ c k xs. Unit {0};
  condition = λ c k e. Unit {0};
  selector = λ c k e xs others s. Unit {0};
  choices = λ c k e xs. Unit {0};
  loop = λ c k w x. Unit {0};
  head = λ c k h. Unit {0};
  wait = λ c k x others s. Unit {0};
  delay = λ c k e s. Unit {0};
  handlers = λ hs. Unit {0};
  handler = λ c k names ws. Unit {0};
  accepting = λ c h. c;
  looping = λ c w x. c;
  handling = λ c. c;
}

-- ---- what the grammar asks

-- these rules of every part; nothing stands around
abbrev pub place_asks : Rules → Asks (Unit {0})
place_asks r = record {
  outer = λ c k s. r.nested k;
  many = r.parts 1;
  duration = r.duration;
  plain = λ c k x. EveryStmt r k x;
  callee = λ c k x. EveryCallee r k x;
  call = λ c k x. EveryWord r x.entry × IfSome x.args (EveryArgs r k);
  aborts = λ c k xs. r.parts 1 (length xs);
  condition = λ c k e. EveryExpr r k e;
  selector = λ c k e xs others s. EveryExpr r k e;
  choices = λ c k e xs. r.parts 1 (length xs) × All (EveryChoice r k) xs;
  loop = λ c k w x. IfSome w (EveryWord r) × IfSome x (EveryScheme r k);
  head = λ c k h. r.nested k × EveryHead r k h;
  wait = λ c k x others s. Unit {0};
  delay = λ c k g s. r.nested k;
  handlers = r.handlers;
  handler = λ c k names ws. All (EveryWord r) ws;
  accepting = λ c h. c;
  looping = λ c w x. c;
  handling = λ c. c;
}

-- ---- what the first twelve rules ask

-- this of each place at which they ask something
abbrev pub type_asks : (Site → Type 0) → Asks Scope
type_asks P = record {
  outer = λ c k s. Unit {0};
  many = λ n. Unit {0};
  duration = λ n. Unit {0};
  plain = λ c k x. AllByRecursion P (typed.stmt_sites c x);
  callee = λ c k x. AllByRecursion P (typed.callee_sites c x);
  call = λ c k x. AllByRecursion P (typed.site c (calls x) ∷ typed.if_there (typed.args_sites c (called_entry (meaning c x.task.name.name) x.entry.name)) x.args);
  aborts = λ c k xs. Unit {0};
  condition = λ c k e. AllByRecursion P (typed.condition_sites c e);
  selector = λ c k e xs others s. AllByRecursion P (typed.site c (chooses e xs others s) ∷ typed.expr_sites c e);
  choices = λ c k e xs. AllByRecursion P (flat_map (typed.choice_sites c (kind_of c e) (selected_range c e)) xs);
  loop = λ c k w x. AllByRecursion P (typed.if_there (λ y. typed.site c (labels y) ∷ []) w ++ typed.if_there (typed.scheme_sites c) x);
  head = λ c k h. AllByRecursion P (typed.head_sites c h);
  wait = λ c k x others s. Unit {0};
  delay = λ c k g s. Unit {0};
  handlers = λ hs. Unit {0};
  handler = λ c k names ws. AllByRecursion P (typed.handler_names_sites c names ws);
  accepting = λ c h. with_formals (inner_scope c) h.formals;
  looping = λ c w x. typed.loop_scope c x;
  handling = λ c. c;
}

-- ---- what the rules 13 to 23 ask

-- the names of an abort statement, each with a further one behind it
abbrev pub before_sites : CheckScope → List PCallee → List CheckSite
before_sites c [] = []
before_sites c (x ∷ []) = []
before_sites c (x ∷ y ∷ rest) = check.site c (aborts_before x.name) ∷ before_sites c (y ∷ rest)

-- this of each place at which they ask something
abbrev pub check_asks : (CheckSite → Type 0) → Asks CheckScope
check_asks P = record {
  outer = λ c k s. P (check.site c (counts Nesting 0 k s));
  many = λ n. Unit {0};
  duration = λ n. Unit {0};
  plain = λ c k x. AllByRecursion P (check.stmt_sites c k x);
  callee = λ c k x. AllByRecursion P (check.callee_sites c k x);
  call = λ c k x. AllByRecursion P (check.if_there (check.args_sites c k) x.args);
  aborts = λ c k xs. AllByRecursion P (before_sites c xs);
  condition = λ c k e. AllByRecursion P (check.expr_sites c k e);
  selector = λ c k e xs others s. AllByRecursion P (check.expr_sites c k e);
  choices = λ c k e xs. AllByRecursion P (flat_map (check.choice_sites c k) xs);
  loop = λ c k w x. AllByRecursion P (check.if_there (λ y. check.site c (declares y) ∷ []) w ++ check.if_there (check.scheme_sites c k) x);
  head = λ c k h. AllByRecursion P (check.head_sites c k h);
  wait = λ c k x others s. AllByRecursion P (check.site c (waits x others s) ∷ check.numbered c Alternatives 0 (check.alt_places x));
  delay = λ c k g s. AllByRecursion P (check.delay_sites c k g s);
  handlers = λ hs. Unit {0};
  handler = λ c k names ws. Unit {0};
  accepting = check.in_accept;
  looping = check.in_loop;
  handling = check.handling;
}

-- ---- two together

abbrev pub both : {C D : Type 0} → Asks C → Asks D → Asks (C × D)
both a b = record {
  outer = λ c k s. a.outer c.0 k s × b.outer c.1 k s;
  many = λ n. a.many n × b.many n;
  duration = λ n. a.duration n × b.duration n;
  plain = λ c k x. a.plain c.0 k x × b.plain c.1 k x;
  callee = λ c k x. a.callee c.0 k x × b.callee c.1 k x;
  call = λ c k x. a.call c.0 k x × b.call c.1 k x;
  aborts = λ c k xs. a.aborts c.0 k xs × b.aborts c.1 k xs;
  condition = λ c k e. a.condition c.0 k e × b.condition c.1 k e;
  selector = λ c k e xs others s. a.selector c.0 k e xs others s × b.selector c.1 k e xs others s;
  choices = λ c k e xs. a.choices c.0 k e xs × b.choices c.1 k e xs;
  loop = λ c k w x. a.loop c.0 k w x × b.loop c.1 k w x;
  head = λ c k h. a.head c.0 k h × b.head c.1 k h;
  wait = λ c k x others s. a.wait c.0 k x others s × b.wait c.1 k x others s;
  delay = λ c k g s. a.delay c.0 k g s × b.delay c.1 k g s;
  handlers = λ hs. a.handlers hs × b.handlers hs;
  handler = λ c k names ws. a.handler c.0 k names ws × b.handler c.1 k names ws;
  accepting = λ c h. (a.accepting c.0 h, b.accepting c.1 h);
  looping = λ c w x. (a.looping c.0 w x, b.looping c.1 w x);
  handling = λ c. (a.handling c.0, b.handling c.1);
}
