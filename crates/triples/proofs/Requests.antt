-- The bytes of requests are a text with a part for each request: its triple.
use Rattle.std.proofs.Common.{[], ◌∷◌, refl}
use Rattle.definitions.specs.Plan.{bytes_of}
use Rattle.definitions.specs.declared.Request.{Request}
use Rattle.text.proofs.Items.{ByItems}

pub by_requests : ByItems (λ (r : Request). bytes_of (r ∷ [])) bytes_of
unfolding bytes_of
by_requests = record { none = refl; more = λ r rs. refl }
