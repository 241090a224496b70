-- Suffixes kept by their places alone (RFC 1035 4.1.4).
use Rattle.std.specs.Prelude.{◌≡◌, ℕ, List, [], ◌∷◌, map}
use Rattle.std.proofs.Common.{refl, sym, ◌∙◌, ap}
use Rattle.dns_octets.specs.Builder.{Standing, Known}
use Rattle.dns_label.specs.Labels.{labels_at}
use Rattle.dns_name.specs.Spelling.{static_spelling, remembered_form}
use Rattle.dns_name.specs.Remembered.{IsKnown, IsSound}
use Rattle.dns_name.specs.Remembered.IsKnown.{first, later}
use Rattle.dns_compression_laws.proofs.Remembered.{suffix_read}
use Rattle.dns_compress.specs.declared.spot.Spot.{Spot}

-- the suffix at a place
abbrev pub read_at : List ℕ → Spot → Standing
read_at octets spot =
    record { suffix = remembered_form static_spelling (labels_at octets spot.place); place = spot.place; stop = spot.stop }

abbrev pub read_all : List ℕ → List Spot → Known
read_all octets spots = map (read_at octets) spots

-- the place of a suffix
abbrev pub spot_of : Standing → Spot
spot_of standing = record { place = standing.place; stop = standing.stop }

abbrev pub spots_of : Known → List Spot
spots_of known = map spot_of known

each_read : (octets : List ℕ) (known : Known)
    → ((standing : Standing) → IsKnown standing known → remembered_form static_spelling (labels_at octets standing.place) ≡ standing.suffix)
    → read_all octets (spots_of known) ≡ known
each_read octets [] each = refl
each_read octets (standing ∷ known) each =
    ap (λ (l : List ℕ). record { suffix = l; place = standing.place; stop = standing.stop } ∷ read_all octets (spots_of known)) (each standing first)
    ∙ ap (λ (l : Known). standing ∷ l) (each_read octets known (λ next is. each next (later is)))

-- what is remembered is what is read from the octets
pub read_known : (known : Known) (octets : List ℕ) → ∥ IsSound static_spelling known octets ∥₁ → read_all octets (spots_of known) ≡ known
read_known known octets sound = each_read octets known (suffix_read static_spelling known octets sound)

pub spots_back : (octets : List ℕ) (spots : List Spot) → spots_of (read_all octets spots) ≡ spots
spots_back octets [] = refl
spots_back octets (spot ∷ spots) = ap (λ (l : List Spot). spot ∷ l) (spots_back octets spots)

-- and is read again from any octets that have it
pub read_again : (spots : List Spot) (old new : List ℕ) → ∥ IsSound static_spelling (read_all old spots) new ∥₁
    → read_all new spots ≡ read_all old spots
read_again spots old new sound = ap (read_all new) (sym (spots_back old spots)) ∙ read_known (read_all old spots) new sound
