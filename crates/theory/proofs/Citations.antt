-- What this crate has on the page of promises (specs/TableEntries, specs/EachMove, specs/PlanCounted), each line by citing its theorem.
use Rattle.definitions.specs.Table.{table_of}
use Rattle.theory.specs.TableEntries.{TableEntries}
use Rattle.theory.specs.EachMove.{EachMove}
use Rattle.theory.specs.PlanCounted.{PlanCounted}
use Rattle.theory.proofs.Bytes.{byte_keeps}
use Rattle.theory.proofs.Discipline as discipline
use Rattle.theory.proofs.Figure1 as figure
use Rattle.theory.proofs.NodesSeen as seen
use Rattle.theory.proofs.OpenMovesExact as exact
use Rattle.theory.proofs.SameCount as count
use Rattle.theory.proofs.SoundKept as kept
use Rattle.theory.proofs.Storages as storages
use Rattle.theory.proofs.ExactRooms as rooms

pub table-entries : TableEntries
table-entries =
    record {
      refused-keeps = kept.refused-keeps;
      fresh-room = rooms.fresh_exactly;
      nodes-room = rooms.nodes_exactly;
      open_room = λ table thread. exact.open_short (table_of table) thread;
    }

pub each-move : EachMove
each-move =
    record {
      bytes-keep = byte_keeps;
      storage_reply = λ S. storages.reply-same S;
      storage_step = λ S. storages.table_step S;
      storage_history = λ S. storages.history-same S;
      fresh-sound = kept.fresh-table-sound;
      fresh_free = seen.fresh_free;
      sound-kept = kept.sound-kept;
      accepted-sound = kept.accepted-sound;
      exclusive_alone = seen.exclusive_alone;
      figure_1 = figure.figure_1;
      kept-quiet = seen.kept-quiet;
      discipline = discipline.discipline;
      disciplined = discipline.disciplined;
      mutex-turned = discipline.mutex-turned;
      reader-writes = discipline.reader-writes;
      reader_local = discipline.reader_local;
      reader_at_mutex = discipline.at_mutex_turned;
      open_paired = λ table thread. exact.open_paired (table_of table) thread;
      open_exact = λ table thread. exact.open_exact (table_of table) thread;
    }

pub plan-counted : PlanCounted
plan-counted =
    record {
      length-same = count.same_count;
      length_enough = count.enough;
      length-short = count.too_short;
      length-refused = count.refused_alike;
    }
