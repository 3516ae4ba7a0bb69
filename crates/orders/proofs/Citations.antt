-- What this crate has on the page of promises (specs/EveryOrder), each line by citing its theorem.
use mathlib.Core.Path.{sym}
use Rattle.orders.specs.EveryOrder.{EveryOrder}
use Rattle.orders.proofs.EveryOrder as orders

pub every_order : EveryOrder
every_order =
    record {
      safe = orders.safe;
      exact = orders.exact;
      planned = orders.planned;
      safe-from = orders.safe-from;
      checked = orders.checked;
      checked-count = orders.checked-count;
      checked-bad = orders.checked-bad;
      plan-entry = λ n bytes out events e room. let f = orders.plan-entry n bytes out events e room in record { reply = sym f.0; output = sym f.1 };
      plan_run = orders.plan_run;
      history-bytes = λ n least most h t few. let f = orders.from_list n least most h t few in (f.0, f.1);
      history-planned = λ n least most h t few out room. let f = (orders.from_list n least most h t few).2 out room in record { reply = sym f.0; output = sym f.1 };
      run-permitted = λ script. (orders.run-shown script).0;
    }
