-- Going to a section does to a message what the model does.
use Rattle.std.proofs.Common.{◌≡◌, ◌<◌, ◌≤◌, ℕ, length, ap}
use Rattle.dns_name.specs.Spelling.{Spelling}
use Rattle.dns_builder.specs.Built.{Built, Draft, IsDraftOf}
use Rattle.dns_builder.specs.Steps.{going_to}
use Rattle.dns_builder.specs.Gone.{gone_back, gone_on}
use Rattle.dns_builder.proofs.GoesBack.{went_back}
use Rattle.dns_builder.proofs.GoesOn.{went_on}

pub goes_back : {s : Spelling} {draft : Draft} (count : ℕ) (new : Draft) → new ≡ gone_back count draft → count < length draft.starts → count ≤ 4
    → (built : Built) → IsDraftOf s built draft → IsDraftOf s (going_to count built) new
goes_back count new same begun few built is =
    went_back count new is begun few (ap (λ (d : Draft). d.page) same) (ap (λ (d : Draft). d.starts) same)

pub goes_on : {s : Spelling} {draft : Draft} (count : ℕ) (new : Draft) → new ≡ gone_on count draft → length draft.starts ≤ count
    → (built : Built) → IsDraftOf s built draft → IsDraftOf s (going_to count built) new
goes_on count new same begun built is =
    went_on count new is begun (ap (λ (d : Draft). d.page) same) (ap (λ (d : Draft). d.starts) same)
