use Rattle.std.proofs.Common.{◌≡◌, ◌-◌, ℕ, List, Option, ap, ◌∙◌, length, drop, reverse, arith}
use Rattle.ada_tree.specs.declared.naming.NameId.{NameId}
use Rattle.syn_event.specs.declared.meanings.Meant.{Meant}
use Rattle.syn_event.specs.CheckScope.{CheckScope}
use Rattle.ada_check_rules.proofs.scopes.Around.{left_names, popped}
use Rattle.ada_check_rules.proofs.scopes.check_scopes.CheckScopes.leave_accept.Goals as goal

pub returns : goal.returns
returns c = λ s is within.
    let now : CheckScope = c.args.self.now in
    let leaves : c.leave.new.self ≡ drop (length c.self.inside.names - c.args.outside.count) c.self.inside.names = c.leave.ensures ∙ ap (λ n. drop (n - c.args.outside.count) c.self.inside.names) c.len.ensures in
    let names = left_names s.names now.names within.0 c.self.inside.names c.leave.new.self c.args.outside.count is.count_is within.1 (ap (λ x. x.names) c.self.view_is) leaves in
    let accepting : reverse c.pop.new.self.items ≡ drop 1 now.accepting =
    popped c.self.inside.accepting.items c.pop.new.self.items c.pop.result c.pop.ensures.items (λ e. grind (arith, c.pop.ensures.cases, e)) ∙ ap (λ x. drop 1 x.accepting) c.self.view_is in
    let with : List (ℕ × Meant) → List NameId → List (Option NameId) → CheckScope → CheckScope = λ all a l x. record x { names = all; accepting = a; loops = l } in
    ap (with c.leave.new.self (reverse c.pop.new.self.items) (reverse c.args.outside.loops.items)) c.self.view_is
    ∙ ap (λ all. with all (reverse c.pop.new.self.items) (reverse c.args.outside.loops.items) now) names
    ∙ ap (λ a. with s.names a (reverse c.args.outside.loops.items) now) accepting
    ∙ ap (λ l. with s.names (drop 1 now.accepting) l now) is.loops_are
