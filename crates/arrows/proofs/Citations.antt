-- What this crate has on the page of promises (specs/ArrowsTaken), each line by citing its theorem.
use Rattle.arrows.specs.ArrowsTaken.{ArrowsTaken}
use Rattle.arrows.proofs.EveryArrow.{every-arrow}
use Rattle.arrows.proofs.FigureExact.{figure_exact}

pub arrows_taken : ArrowsTaken
arrows_taken =
    record {
      every-arrow = every-arrow;
      figure_exact = figure_exact;
    }
