-- How long a plan can be. Four times its moves are at most 3N + 6 for each event and 3N + 2 for each thread (`plan_bound`, `length_bound`), and for every N that can't be made less
-- (`bound_reached`). So no history that the check passes has more than 4,575,100 moves, 13,725,300 bytes (`longest-plan`), and one has so many (`longest-reached`).
use Prim.Native.Nat.{ℕ, zero, suc, ◌+◌, ◌*◌, ◌≤◌}
use native.Mathlib.Nat.{mul-le-mul, mul-le-mul_right}
use native.Mathlib.Omega.{arith}
use mathlib.Core.List.{List, [], ◌∷◌}
use mathlib.Core.Logic.{⊎_elim}
use mathlib.Core.Path.{◌≡◌, refl, ap, ◌∙◌}
use lib.Dec.{T}
use lib.ListN.{length, get_or, get_or-eq_default}
use Rattle.definitions.specs.Answers.{accepted}
use Rattle.definitions.specs.Bounds.{most_threads}
use Rattle.definitions.specs.PlainLock.{Pair, pairs_of, at_start, places_after, permitted}
use Rattle.definitions.specs.Plan.{plan, bytes_of, plan_length_reply}
use Rattle.definitions.specs.Threads.{sum_of}
use Rattle.orders.specs.Histories.{history_bytes, AllBytes}
use Rattle.plan_lengths.specs.Rounds.{how_often, exclusive_round, begun_column, begun, by_rounds, longest, most_moves, most_plan_bytes}
use Rattle.basics.proofs.Tests.{below?}
use Rattle.orders.proofs.CheckReply.{passes_e}
use Rattle.orders.proofs.EveryOrder.{from_list, checked-count}
use Rattle.orders.proofs.HistoryBytes.{pairs-read}
use Rattle.theory.proofs.Lengths.{bytes-length}
use Rattle.plan_lengths.proofs.ByRounds.{below_at, by_rounds_lem}
use Rattle.plan_lengths.proofs.LongestHistory.{longest-permitted, longest-events, longest-moves}
use Rattle.plan_lengths.proofs.RoundCosts.{rounds}
use Rattle.theory.proofs.SameCount.{length_e, accepted_alike}

-- ---- the events of a history by its rounds

-- how many events a round has that has come to a place
unfoldable events_to : ℕ → ℕ
events_to place = get_or (0 ∷ 1 ∷ 2 ∷ 3 ∷ 0 ∷ 1 ∷ 2 ∷ 3 ∷ []) place 0

events_by_rounds : (n : ℕ) (h : List Pair) → T (permitted n h) → length h ≡ 4 * how_often 4 h + 4 * how_often 8 h + sum_of n (λ t. events_to (places_after at_start h t))
unfolding events_to
events_by_rounds n =
    by_rounds_lem length (λ e. 1) events_to 4 4 (record { none = refl; more = λ x h. omega arith; start = refl; calls = omega arith; goes = omega arith }) n

-- ---- moves against events

-- four times the moves of a round that isn't finished are at most 3N + 6 for each of its events, and so much more
abbrev excess : ℕ → ℕ
excess n = 3 * n + 2

place_bound : (n place : ℕ) → 1 ≤ n → 4 * begun n place ≤ exclusive_round n * events_to place + excess n
unfolding begun events_to
place_bound n place l =
    ⊎_elim (below_at 8 (λ k. 4 * begun n k ≤ exclusive_round n * events_to k + excess n) (omega arith) place)
    (λ m. let none : begun n place ≡ 0 = get_or-eq_default (begun_column n) 0 m in omega arith)
    (below? 8 place)

sum_bound : (n : ℕ) (f g : ℕ → ℕ) (a b c : ℕ) → ((j : ℕ) → a * f j ≤ b * g j + c) → a * sum_of n f ≤ b * sum_of n g + c * n
sum_bound zero f g a b c h = omega arith
sum_bound (suc n) f g a b c h = omega (arith, h n, sum_bound n f g a b c h)

pub plan_bound : (n : ℕ) (h : List Pair) → 1 ≤ n → T (permitted n h) → 4 * length (plan n h) ≤ (3 * n + 6) * length h + (3 * n + 2) * n
unfolding by_rounds
plan_bound n h l t =
    let p = places_after at_start h in
    let unfinished = sum_bound n (λ j. begun n (p j)) (λ j. events_to (p j)) 4 (exclusive_round n) (excess n) (λ j. place_bound n (p j) l) in
    let readers = mul-le-mul_right (how_often 4 h) l in
    rw (events_by_rounds n h t) (omega (arith, rounds n h t))

-- the same of what is answered
pub length_bound : (n : ℕ) (bytes : List ℕ) (k : ℕ) → plan_length_reply n bytes ≡ accepted k → 4 * k ≤ (3 * n + 6) * length (pairs_of bytes) + (3 * n + 2) * n
length_bound n bytes k e =
    let (tested, same) = length_e n bytes k e in
    let p = passes_e n bytes tested in
    omega (arith, plan_bound n (pairs_of bytes) p.least p.allowed)

-- histories as long as one likes come to the bound
pub bound_reached : (n times : ℕ) → 1 ≤ n
    → T (permitted n (longest n times)) × (4 * length (plan n (longest n times)) ≡ (3 * n + 6) * length (longest n times) + (3 * n + 2) * n)
bound_reached n times l = (longest-permitted n times l, rw (longest-moves n times, longest-events n times) (omega arith))

-- ---- the longest plan

-- For every N and all bytes.
pub longest-plan : (n : ℕ) (bytes : List ℕ) (k : ℕ) → plan_length_reply n bytes ≡ accepted k → (k ≤ most_moves) × (3 * k ≤ most_plan_bytes)
longest-plan n bytes k e =
    let p = passes_e n bytes (length_e n bytes k e).0 in
    let few = (checked-count n bytes (length (pairs_of bytes)) p).1 in
    let events = mul-le-mul {n₁ = 3 * n + 6} {n₂ = exclusive_round most_threads} (omega (arith, p.most)) few in
    let threads = mul-le-mul {n₁ = 3 * n + 2} {n₂ = excess most_threads} (omega (arith, p.most)) p.most in
    omega (arith, length_bound n bytes k e)

-- 7,350 rounds of thread 0, and then 200 that aren't finished, are 30,000 events.
pub longest-reached : (bytes : List ℕ) × AllBytes bytes × (plan_length_reply 200 bytes ≡ accepted most_moves) × (length (bytes_of (plan 200 (pairs_of bytes))) ≡ most_plan_bytes)
longest-reached =
    let h = longest 200 7_350 in
    let bytes = history_bytes h in
    let made = from_list 200 (omega arith) (omega arith) h (longest-permitted 200 7_350 (omega arith)) (omega (arith, longest-events 200 7_350)) in
    let moves : length (plan 200 (pairs_of bytes)) ≡ most_moves = ap (λ (l : List Pair). length (plan 200 l)) (pairs-read h) ∙ omega (arith, longest-moves 200 7_350) in
    (bytes, made.0, accepted_alike 200 bytes _ made.1 ∙ ap accepted moves, omega (arith, bytes-length (plan 200 (pairs_of bytes))))
