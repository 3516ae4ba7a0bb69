-- What each phase says of a thread in it: one row a phase, as Table 1 of source document 000 has one line each. Everything that the rules ask of a phase by itself is a column of this table.
-- A number above the last phase has the row `no_row`: Free, no flag, no move.
use Rattle.std.specs.Prelude.{ℕ, Bool, true, false, List, [], ◌∷◌, get_or}
use Rattle.definitions.specs.Codes.{Free, ES, LOE, Shared, LS, EE, SAF, LOS, Exclusive, LE, OE, go, call_shared, call_exclusive, set_move, clear_move, relent, hold}
use Rattle.definitions.specs.Threads.{among}

pub record Row : Type 0 where
  -- "Phases and nodes (node codes 0 to 10 in this order): Free 0; phases 1 to 4 are ES; LOE 5; Shared 6; LS 7 and 8; EE 9; SAF 10 to 12; LOS 13; Exclusive 14; LE 15; OE 16 and 17."
  -- "phase 18, part of ES" (02 §1)
  pub node : ℕ
  -- "busy is 1 exactly in phases 2, 3, 5, 6, 7"
  pub busy : ℕ
  -- "at most one thread, the holder, is in 10 to 16": it holds the mutex; "The holder may now be in 18" (02 §1)
  pub holder : Bool
  -- phases 5 to 7: the reader has found its forbidden 0, and busy isn't lowered yet
  pub reader : Bool
  -- the moves that exist there: "The thread's phase has no such move." is refusal 6
  pub moves : List ℕ

abbrev row : ℕ → ℕ → Bool → Bool → List ℕ → Row
row node busy holder reader moves =
    record { node = node; busy = busy; holder = holder; reader = reader; moves = moves }

abbrev pub no_row : Row
no_row = row Free 0 false false []

-- by phase, with the line of Table 1 that the thread is at:       node, busy, holder, reader, moves
unfoldable pub rows : List Row
rows =
    -- 0: outside the lock
    row Free 0 false false (call_shared ∷ call_exclusive ∷ [])
    -- 1, enter_shared: p.busy := true
    ∷ row ES 0 false false (go ∷ [])
    -- 2: while p.forbidden
    ∷ row ES 1 false false (go ∷ [])
    -- 3: p.busy := false
    ∷ row ES 1 false false (go ∷ [])
    -- 4: if mutex.timed_lock(), which hold is; go is that its time ran out, then again from p.busy := true
    ∷ row ES 0 false false (go ∷ hold ∷ [])
    -- 5: enter_shared returns
    ∷ row LOE 1 false true (go ∷ [])
    -- 6: in the shared section
    ∷ row Shared 1 false true (go ∷ [])
    -- 7, leave_shared: p.busy := false
    ∷ row LS 1 false true (go ∷ [])
    -- 8: leave_shared returns
    ∷ row LS 0 false false (go ∷ [])
    -- 9, enter_exclusive: mutex.lock()
    ∷ row EE 0 false false (go ∷ [])
    -- 10: while some q.forbidden is false, select r; r.forbidden := true
    ∷ row SAF 0 true false (set_move ∷ [])
    -- 11: if r.busy, or sometimes
    ∷ row SAF 0 true false (go ∷ relent ∷ [])
    -- 12: r.forbidden := false
    ∷ row SAF 0 true false (go ∷ [])
    -- 13: enter_exclusive returns
    ∷ row LOS 0 true false (go ∷ [])
    -- 14: in the exclusive section
    ∷ row Exclusive 0 true false (go ∷ [])
    -- 15, leave_exclusive: while some q.forbidden is true, select r; usually r.forbidden := false, sometimes r.forbidden := true
    ∷ row LE 0 true false (set_move ∷ clear_move ∷ [])
    -- 16: mutex.unlock()
    ∷ row OE 0 true false (go ∷ [])
    -- 17: leave_exclusive returns
    ∷ row OE 0 false false (go ∷ [])
    -- 18, in enter_shared behind 4: mutex.unlock(), then again from p.busy := true
    ∷ row ES 0 true false (go ∷ [])
    ∷ []

abbrev pub row_of : ℕ → Row
row_of phase = get_or rows phase no_row

-- ---- the columns

abbrev pub node_of : ℕ → ℕ
node_of phase = (row_of phase).node

abbrev pub busy_in : ℕ → ℕ
busy_in phase = (row_of phase).busy

abbrev pub holds : ℕ → Bool
holds phase = (row_of phase).holder

abbrev pub reading : ℕ → Bool
reading phase = (row_of phase).reader

abbrev pub has_move : ℕ → ℕ → Bool
has_move mv phase = among mv (row_of phase).moves
