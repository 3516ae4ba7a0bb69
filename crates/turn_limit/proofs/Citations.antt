-- What this crate has on the page of promises (specs/WaitingComes), each line by citing its theorem.
use Rattle.turn_limit.specs.WaitingComes.{WaitingComes}
use Rattle.turn_limit.proofs.TurnLimit.{turns-sound, turn-limit, waits_then}
use Rattle.turn_limit.proofs.TurnLimitReached.{turn-limit-reached}
use Rattle.turn_limit.proofs.TurnsAnyOrder.{turns_any_order, turns_any_rule}

pub waiting_comes : WaitingComes
waiting_comes =
    record {
      turn-limit = turn-limit;
      waits_then = waits_then;
      turns-sound = turns-sound;
      turn-limit-reached = turn-limit-reached;
      turns_any_order = turns_any_order;
      turns_any_rule = turns_any_rule;
    }
