-- What the rules of the moves see of a table, whatever stores it, and how a move's writes show in what they decide.
-- `view_of` is what is seen, and `Follows` says that a decision is that of an effect: its head, its mover and its flag are what the effect's writes make of those seen.
use Rattle.std.specs.Prelude.{ℕ, ◌+◌, ◌-◌, Bool, ◌||◌, ◌≡◌, T, eqb}
use Rattle.definitions.specs.Answers.{outcome_answer, moved}
use Rattle.definitions.specs.Moves.{Effect, none_forbidden_but, effect, is_retry, accepts}
use Rattle.definitions.specs.Table.{Table}
use Rattle.definitions.specs.Threads.{every}
use Rattle.definitions.specs.declared.Request.{Request}
use Rattle.theory.specs.Statements.{subject_of}
use Rattle.theory.specs.Tables.{head_of, task_of, head_after, mover_after, flag_after}
use Rattle.views.specs.declared.Decided.{Decided}
use Rattle.views.specs.declared.Others.{Others}
use Rattle.views.specs.declared.View.{View}

-- ---- what is seen

-- every forbidden is 1 but for that of t
abbrev pub all_forbidden_but : ℕ → Table → Bool
all_forbidden_but t s = every s.threads (λ j. eqb j t || eqb (s.forbidden j) 1)

-- whether the other forbidden are all 1, or all 0, where k of n are 1 and the subject's is given
abbrev pub others_by : ℕ → ℕ → ℕ → Others
others_by n k forbidden = record { set = eqb k (n - 1 + forbidden); clear = eqb k forbidden }

-- by the mover i and the subject t
abbrev pub view_at : Table → ℕ → ℕ → View
view_at s i t =
    record {
      head = head_of s;
      mover = task_of s i;
      number = t;
      subject = task_of s t;
      others = record { set = all_forbidden_but t s; clear = none_forbidden_but t s };
    }

abbrev pub view_of : Table → Request → View
view_of s r = view_at s r.thread (subject_of s r)

-- ---- what is decided

-- the decision is what an effect of the definitions makes of what was seen, and shows, and says whether it is a retry
pub record Follows (e : Effect) (retry : Bool) (v : View) (d : Decided) : Type 0 where
  pub head : d.head ≡ head_after v.head e.writes
  pub mover : d.mover ≡ mover_after v.mover e.writes
  pub flag : d.forbidden ≡ flag_after v.subject.forbidden e.writes
  pub says : outcome_answer d.outcome ≡ moved e.shows retry

-- it does so for every table and accepted request that look like the view
abbrev pub Decides : View → ℕ → Decided → Type 0
Decides v mv d = (s : Table) (r : Request) → T (accepts s r) → r.mv ≡ mv → v ≡ view_of s r → Follows (effect s r) (is_retry s r) v d
