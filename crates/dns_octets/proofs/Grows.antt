-- How octets grow, and what is remembered of them.
use Rattle.std.proofs.Common.{◌≡◌, ℕ, List, [], ◌++◌, sym, ◌∙◌, arith}
use Rattle.std.proofs.lemmas.List.{append-nil}
use Rattle.dns_octets.specs.Builder.{Known, GrowsTo}

-- octets after the old ones, and nothing new to remember
pub GrowsTo-append : (old : List ℕ) (known : Known) (new : List ℕ) (new_known : Known) (tail : List ℕ)
    → new ≡ old ++ tail → new_known ≡ known → GrowsTo old known new new_known
GrowsTo-append old known new new_known tail octets same =
    record { tail = tail; octets = octets; added = []; known = same ∙ sym (append-nil known); between = λ k d none. absurd (omega arith) }

-- nothing new at all
pub GrowsTo-same : (old : List ℕ) (known : Known) (new : List ℕ) (new_known : Known)
    → new ≡ old → new_known ≡ known → GrowsTo old known new new_known
GrowsTo-same old known new new_known octets same = GrowsTo-append old known new new_known [] (octets ∙ sym (append-nil old)) same

pub ruleset grows_rules = (GrowsTo-append, GrowsTo-same)
