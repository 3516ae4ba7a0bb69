-- What this crate has on the page of promises (specs/RoundsAndBounds), each line by citing its theorem.
use Rattle.plan_lengths.specs.RoundsAndBounds.{RoundsAndBounds}
use Rattle.plan_lengths.proofs.Longest as long
use Rattle.plan_lengths.proofs.RoundCosts as costs

pub rounds_and_bounds : RoundsAndBounds
rounds_and_bounds =
    record {
      shared_round_lem = costs.shared_round_lem;
      exclusive_round_lem = costs.exclusive_round_lem;
      length_rounds = costs.length_by_rounds;
      plan_bound = long.length_bound;
      bound_reached = long.bound_reached;
      longest-plan = long.longest-plan;
      longest-reached = long.longest-reached;
    }
