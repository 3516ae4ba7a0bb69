-- The share of each code is its event's (`share_right`).
use Rattle.std.proofs.Common.{◌≡◌, ℕ, ◌+◌, ◌*◌, ◌/◌, ◌%◌, ◌≤◌, List, map, get_or, sym, ap, ◌∙◌, ◌<◌, ◌⊎◌, inl, inr, arith, rules}
use Rattle.std.proofs.lemmas.List.Elements.{All-get_or}
use Rattle.std.proofs.Math.ListN.{get_or-map, get_or-eq_default}
use Rattle.shares.specs.Shares.{each, moves_by_shares, shares, share_of, ShareOf}
use Rattle.basics.proofs.Tests.{below?}
use Rattle.theory.proofs.PlanLengths.{event_lengths, moves_for, event-moves}

lengths : (n : ℕ) → map (moves_by_shares n) shares ≡ event_lengths n
lengths n =
    let six : 2 + 2 * n ≡ 2 * n + 2 = omega arith in
    let seven : 2 + 1 * n ≡ n + 2 = omega arith in
    let none : 0 * n ≡ 0 = omega arith in
    simp (none, six, seven)

none : (n : ℕ) → moves_by_shares n 0 ≡ 0
none n = omega arith

few : (code : ℕ) → (share_of code % each ≤ 3) × (share_of code / each ≤ 2)
unfolding share_of
few code = by (below? 9 code)
  where
    by : (code < 9) ⊎ (9 ≤ code) → (share_of code % each ≤ 3) × (share_of code / each ≤ 2)
    by (inl l) = All-get_or (λ s. (s % each ≤ 3) × (s / each ≤ 2)) shares code 0 l (search rules)
    by (inr l) = rw (get_or-eq_default shares 0 l) (omega arith, omega arith)

pub share_right : (code : ℕ) → ShareOf code (share_of code)
unfolding share_of moves_for
share_right code =
    record {
      whole = λ n thread. sym (get_or-map (moves_by_shares n) shares code 0)
          ∙ (ap (λ (l : List ℕ). get_or l code (moves_by_shares n 0)) (lengths n)
          ∙ (ap (get_or (event_lengths n) code) (none n) ∙ sym (event-moves n (record { thread = thread; event = code }))));
      once_most = (few code).0;
      each-most = (few code).1;
    }
