-- The law as it is told, and that its premises are met.
use Rattle.std.proofs.Common.{not, ◌&&◌, refl, ap, ap₂, ◌∙◌}
use Rattle.std.proofs.lemmas.Bool.{and_parts}
use Rattle.event_machine.specs.States.{is_live}
use Rattle.run_laws.specs.imitation.Imitations.{local_at}
use Rattle.run_laws.specs.replaying.Told.{IsYes}
use Rattle.run_laws.specs.imitation.Told.{LawOfImitation, LawOfFineTasks, MetByAll, Meeting, original}
use Rattle.run_laws.proofs.imitation.Showing.{all_forth, all_back, all_fine}

module _ {L K V W : Type 0} where
  pub law_of_imitation : LawOfImitation L K V W
  law_of_imitation o q out meets fine at imitates opens = (
    all_back (original o) q out (Meeting meets) (IsYes fine) imitates at opens,
    all_forth (original o) q out (Meeting meets) (IsYes fine) imitates at opens,
  )

  pub law_of_fine_tasks : LawOfFineTasks L K V W
  law_of_fine_tasks o q out meets fine at imitates opens = all_fine (original o) q out (Meeting meets) (IsYes fine) imitates at opens

module _ {L V : Type 0} where
  pub met_by_all : MetByAll L V
  met_by_all o = record {
    imitates = record {
      rests = o.lawful.rests;
      output = λ k l h. ap o.out h;
      fine = λ w come t k h free. tt;
      steps = λ w come t k h can. (
        ap o.p.ops.can_step h ∙ (and_parts (is_live (w.tasks t).standing) (o.p.ops.can_step (local_at w t)) (and_parts (not w.ended) (is_live (w.tasks t).standing && o.p.ops.can_step (local_at w t)) can).1).1,
        (0, ap o.p.ops.stepped h),
      );
      offers = λ w come t k h free rests. (ap o.p.ops.can_step h ∙ rests, ap o.p.ops.offer h);
      callers = λ w come a k h can. ap o.p.ops.callers h;
      accepted = λ w come c e i j k g h can. (0, ap₂ (o.p.ops.accepted e i c) g h);
      finished = λ w come a k h can. (0, ap o.p.ops.finished h);
      resumed = λ w come a c outer j k has served g h can. (0, ap₂ o.p.ops.resumed h g);
      took_else = λ w come a k h can. (0, ap o.p.ops.took_else h);
      took_delay = λ w come a d k h can. (0, ap (o.p.ops.took_delay d) h);
      call_else = λ w come c e i k h can. (0, ap o.p.ops.took_else h);
      expired = λ w come c e i k h can. (0, ap (o.p.ops.took_delay 1) h);
      failed = λ w come c e i k h can. (0, ap o.p.ops.raised h);
      passed = λ w come t v k h can other. (0, ap o.p.ops.passed h);
      let_go = λ w come t v u k h served can. (0, ap o.p.ops.raised h);
    };
    opens = record {
      line = o.opens_so.line;
      ended = o.opens_so.ended;
      standing = o.opens_so.live;
      beyond = o.opens_so.beyond;
      tasks = λ t m. (0, refl);
    };
  }
