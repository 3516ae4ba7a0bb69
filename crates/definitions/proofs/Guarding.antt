-- Examples of Figure 1's guards and of the reader in LOE against the definitions: in which nodes a thread keeps an arrow from being taken, that a reader counts as one from LOE on,
-- and how many arrows without an event may follow one another.
-- Every line computes.
use Prim.Native.Nat.{ℕ}
use mathlib.Core.Bool.{Bool, true, false, cond, not, ◌&&◌, ◌||◌}
use mathlib.Core.List.{List, [], ◌∷◌}
use mathlib.Core.Path.{◌≡◌, refl}
use lib.Dec.{eqb}
use Rattle.definitions.specs.Answers.{Seen, shown, quiet, passes_all}
use Rattle.definitions.specs.Codes.{Free, ES, LOE, Shared, LS, EE, SAF, LOS, Exclusive, LE, OE}
use Rattle.definitions.specs.Nodes.{Arrow, arrows, any_in}
use Rattle.definitions.specs.Phases.{rows}
use Rattle.definitions.specs.Sound.{sound, phase_rule, flag_rule, busy_rule, holder_rule, mutex_rule, target_rule, open_rule, rule10, rule11, rule13, rule15, elsewhere_rule, table_tests}
use Rattle.definitions.specs.Table.{sized}
use Rattle.definitions.specs.Threads.{every, some, how_many, among, all_of}

-- an arrow from one node to another has its guard met, where the threads are in these nodes
abbrev met : List Arrow → ℕ → ℕ → List ℕ → Bool
met [] from to nodes = false
met (a ∷ rest) from to nodes = eqb a.from from && (eqb a.to to && not (any_in a.nobody_in nodes)) || met rest from to nodes

abbrev may_go : ℕ → ℕ → List ℕ → Bool
may_go = met arrows

-- the nodes to which arrows that show nothing lead from some nodes
abbrev is_quiet : Seen → Bool
is_quiet (shown e) = false
is_quiet quiet = true

abbrev silently : List Arrow → List ℕ → List ℕ
silently [] nodes = []
silently (a ∷ rest) nodes = cond (among a.from nodes && is_quiet a.shows) (a.to ∷ silently rest nodes) (silently rest nodes)

abbrev all_nodes : List ℕ
all_nodes = Free ∷ ES ∷ LOE ∷ Shared ∷ LS ∷ EE ∷ SAF ∷ LOS ∷ Exclusive ∷ LE ∷ OE ∷ []

-- a table passes the tests 1 and 2
abbrev passes : List ℕ → Bool
passes bytes = passes_all (table_tests bytes)

-- thread 0 with that busy and forbidden in LOE beside a writer, thread 1, in that phase with that forbidden; there is no target
abbrev beside : ℕ → ℕ → ℕ → ℕ → List ℕ
beside busy forbidden phase flag = 2 ∷ 1 ∷ 255 ∷ 5 ∷ busy ∷ forbidden ∷ phase ∷ 0 ∷ flag ∷ []

pub record GuardingExamples : Type 0 where
  -- "ES to LOE needs nobody in LOS or Exclusive": either keeps a reader out, and no other node does
  pub reader-LOS : may_go ES LOE (ES ∷ LOS ∷ []) ≡ false
  pub reader-Exclusive : may_go ES LOE (ES ∷ Exclusive ∷ []) ≡ false
  pub reader_others : may_go ES LOE (ES ∷ Free ∷ LOE ∷ Shared ∷ LS ∷ EE ∷ SAF ∷ LE ∷ OE ∷ []) ≡ true
  -- "EE to SAF nobody in SAF, LOS, Exclusive or LE": a second writer waits, behind a releasing one too
  pub second_SAF : may_go EE SAF (EE ∷ SAF ∷ []) ≡ false
  pub second_LOS : may_go EE SAF (EE ∷ LOS ∷ []) ≡ false
  pub second_Exclusive : may_go EE SAF (EE ∷ Exclusive ∷ []) ≡ false
  pub second_LE : may_go EE SAF (EE ∷ LE ∷ []) ≡ false
  pub second_others : may_go EE SAF (EE ∷ Free ∷ ES ∷ LOE ∷ Shared ∷ LS ∷ EE ∷ OE ∷ []) ≡ true
  -- "SAF to LOS nobody in LOE or Shared": a writer waits for readers until they leave
  pub writer-LOE : may_go SAF LOS (SAF ∷ LOE ∷ []) ≡ false
  pub writer-Shared : may_go SAF LOS (SAF ∷ Shared ∷ []) ≡ false
  pub writer_others : may_go SAF LOS (SAF ∷ Free ∷ ES ∷ LS ∷ EE ∷ LOS ∷ Exclusive ∷ LE ∷ OE ∷ []) ≡ true
  -- no three arrows that show nothing follow one another, and two of them lead to LOS
  pub silent_two : silently arrows (silently arrows all_nodes) ≡ LOS ∷ []
  pub silent_three : silently arrows (silently arrows (silently arrows all_nodes)) ≡ []
  -- "busy is 1 exactly in phases 2, 3, 5, 6, 7": the writer finds a reader in LOE busy
  pub busy_in_LOE : (passes (beside 1 0 10 0) ≡ true) × (passes (beside 0 0 10 0) ≡ false)
  -- "no thread with forbidden 1 is in 5 to 7" beside 10, "no thread is in 5 to 7" beside 13 and 14; beside 15 one may be
  pub reader_in_LOE : (passes (beside 1 0 10 1) ≡ true) × (passes (beside 1 1 10 0) ≡ false)
  pub none_in_LOE : (passes (beside 1 1 13 1) ≡ false) × (passes (beside 1 1 14 1) ≡ false) × (passes (beside 1 1 15 1) ≡ true)

pub guarding_examples : GuardingExamples
unfolding arrows any_in every some how_many among all_of passes_all sized rows sound phase_rule flag_rule busy_rule holder_rule mutex_rule target_rule open_rule rule10 rule11 rule13 rule15 elsewhere_rule
guarding_examples =
    record {
      reader-LOS = refl;
      reader-Exclusive = refl;
      reader_others = refl;
      second_SAF = refl;
      second_LOS = refl;
      second_Exclusive = refl;
      second_LE = refl;
      second_others = refl;
      writer-LOE = refl;
      writer-Shared = refl;
      writer_others = refl;
      silent_two = refl;
      silent_three = refl;
      busy_in_LOE = (refl, refl);
      reader_in_LOE = (refl, refl);
      none_in_LOE = (refl, refl, refl);
    }
