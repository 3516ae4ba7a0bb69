-- The number of a result of the code is that of the reply that it stands for.
use Prim.Native.Nat.{ℕ}
use mathlib.Core.Path.{◌≡◌, refl}
use Rattle.std.specs.Prelude.{Result, Ok, Err}
use Rattle.definitions.specs.Answers.{reply_by, reply_by_0}
use Rattle.definitions.specs.declared.Refusal.{Refusal}
use Rattle.definitions.specs.declared.Refused.{Refused}
use Rattle.answer_numbers.specs.Encoding.{encoded, value_of, reply_of, reply_of_0}

module _ {A B : Type 0} (value : B → ℕ) (f : A → B) where
  pub number_by : (r : Result A Refused) → encoded (λ a. value (f a)) (reply_of r) ≡ encoded value (reply_by f r)
  unfolding encoded
  number_by (Ok a) = refl
  number_by (Err e) = refl

  pub value_by : (r : Result A Refused) → value_of (λ a. value (f a)) (reply_of r) ≡ value_of value (reply_by f r)
  value_by (Ok a) = refl
  value_by (Err e) = refl

  -- where a refusal has no place of its own
  pub number_by_0 : (r : Result A Refusal) → encoded (λ a. value (f a)) (reply_of_0 r) ≡ encoded value (reply_by_0 f r)
  unfolding encoded
  number_by_0 (Ok a) = refl
  number_by_0 (Err e) = refl
