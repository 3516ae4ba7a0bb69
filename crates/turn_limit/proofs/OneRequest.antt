-- A request that the dispatcher may make, of any thread and with any target, to a sound table: it leads the mover to a phase behind its own (`request-next`),
-- and lowers the turns left (TurnsLeft) by exactly 1 (`request_lowers`).
-- Through a storage, what passes the tests 1 and 2 passes them again after any request (`step-passes`).
use Prim.Native.Nat.{ℕ, ◌+◌, ◌<◌}
use native.Mathlib.Omega.{arith}
use mathlib.Core.List.{List}
use mathlib.Core.Path.{◌≡◌, sym, subst, ap, ◌∙◌}
use lib.Dec.{T}
use Rattle.definitions.specs.Dispatch.{may_dispatch}
use Rattle.definitions.specs.Moves.{effect, step_reply, step, step_in}
use Rattle.definitions.specs.Sound.{sound}
use Rattle.definitions.specs.Table.{Table, applied, Storage, itself, byte_table}
use Rattle.definitions.specs.declared.Request.{Request}
use Rattle.dispatching.proofs.TurnKinds.{May, may_e, kind}
use Rattle.progress.proofs.Lowering.{Judged, lowers, keeps, judged_in}
use Rattle.progress.proofs.Measure.{measure}
use Rattle.theory.specs.Tables.{SoundBytes, Keeps}
use Rattle.basics.proofs.Replies.{leaves-yes}
use Rattle.theory.proofs.Soundness.{Sound, sound_e, sound_i}
use Rattle.theory.proofs.SoundSteps.{step-sound}
use Rattle.theory.proofs.Storages.{own-keeps, accepts_i, table_step, fits-step}
use Rattle.theory.proofs.Ways.{accepted_e}
use Rattle.theory.proofs.Writes.{applied-keeps}
use Rattle.turn_limit.proofs.NextPhases.{Next, next-phase}
use Rattle.turn_limit.proofs.Stops.{stopped, taking, stops_of}
use Rattle.turn_limit.proofs.TurnsLeft.{turns_left, stopped-most}
use Rattle.turn_limit.proofs.StopsKept.{balanced}

module _ (s : Table) (z : Sound s) (r : Request) (t : T (may_dispatch s r)) where
  -- the table that is left
  abbrev s' : Table
  s' = step s r

  may : May s r
  may = may_e s r t

  leaves : s' ≡ applied s (effect s r).writes
  unfolding step
  leaves = leaves-yes (applied s (effect s r).writes) s (step_reply s r) may.accepted

  pub request-fits : r.thread < s.threads
  request-fits = (accepted_e s r may.accepted).thread-fits

  pub request-threads : s'.threads ≡ s.threads
  request-threads = ap (λ (x : Table). x.threads) leaves ∙ applied-keeps s (effect s r).writes

  pub request-next : Next s r.thread s'.phase
  request-next = subst (λ (x : Table). Next s r.thread x.phase) (sym leaves) (next-phase s r (kind s z r may).is_ready_lem (accepted_e s r may.accepted))

  -- it is no call and no retry
  falls : measure s' + 1 ≡ measure s
  falls = by (subst (λ (x : Table). Judged s r (measure x)) (table_step itself own-keeps s r tt) (judged_in itself own-keeps s r (accepts_i itself s r tt may.accepted)))
    where
      by : Judged s r (measure s') → measure s' + 1 ≡ measure s
      by (lowers a e) = e
      by (keeps other e) = absurd (other (may.no_call, may.no_retry))

  pub request_lowers : turns_left s' + 1 ≡ turns_left s
  request_lowers =
      omega (
        arith,
        falls,
        balanced s z r.thread request-fits (kind s z r may).is_ready_lem s'.phase request-next,
        ap (λ (k : ℕ). stopped k (stops_of s')) request-threads,
        ap (λ (k : ℕ). taking k (stops_of s')) request-threads,
        stopped-most s z,
        stopped-most s' (sound_e s' (step-sound s r (sound_i s z))),
      )

-- what is stored passes the tests 1 and 2
pub record Passes {B : Type 0} (S : Storage B) (b : B) : Type 0 where
  pub fits : T (S.fits b)
  pub is_sound : T (sound (S.table b))

-- sound bytes do
pub bytes-pass : (table : List ℕ) → SoundBytes table → Passes byte_table table
bytes-pass table g = record { fits = g.is_sized; is_sound = g.is_sound }

-- such a request leads from s to s'
abbrev pub Made : Table → Table → Type 0
Made s s' = (r : Request) × T (may_dispatch s r) × (s' ≡ step s r)

module _ {B : Type 0} (S : Storage B) (kept : Keeps S) (b : B) (r : Request) (g : Passes S b) where
  pub step-passes : Passes S (step_in S b r)
  step-passes =
      record { fits = fits-step S kept b r g.fits; is_sound = subst (λ (x : Table). T (sound x)) (sym (table_step S kept b r g.fits)) (step-sound (S.table b) r g.is_sound) }

  pub made_by : (b' : B) → T (may_dispatch (S.table b) r) → b' ≡ step_in S b r → Passes S b' × Made (S.table b) (S.table b')
  made_by b' t e = (subst (Passes S) (sym e) step-passes, (r, t, ap S.table e ∙ table_step S kept b r g.fits))
