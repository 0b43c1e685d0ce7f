-- Each operation on a seat is a step.
use Rattle.std.proofs.Common.{get_or, refl, sym, ◌∙◌}
use Rattle.atomic_table.proofs.Lists.{set_else}
use Rattle.mc_shared.specs.Steps.{joined_view}
use Rattle.mc_executions.specs.Executions.{plays, cuts, joins}
use Rattle.mc_executions.specs.RunningSteps.{EachIsAStep}

pub each_is_a_step : EachIsAStep
each_is_a_step l = record {
  plays = λ p s seat slots place v held st leaves at allows rule fits mine small.
      let next = allows s rule fits mine small in (
        plays p (record {
          seat = seat;
          place = place;
          left = leaves (get_or s.words place 0);
          st = st;
          v = v;
          w = next.0;
          held = held;
          act = next.1;
          at = at;
          mine = mine;
          told = next.4;
          next = refl;
        }),
        next.3,
      );
  cuts = λ c s seat v splits rule mine. (cuts c (record { seat = seat; v = v; mine = mine; next = refl }), splits s rule mine);
  joins = λ s seat other v w lives joined rule mine apart yours. (
    joins (record {
      seat = seat;
      other = other;
      v = v;
      w = w;
      apart = apart;
      lives = lives;
      mine = mine;
      yours = sym (set_else s.views seat other (joined_view v w) apart) ∙ yours;
      next = refl;
    }),
    joined s rule mine apart yours,
  );
}
