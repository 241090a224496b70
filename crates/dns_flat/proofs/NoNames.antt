-- Labels taken off octets, and what follows them.
use Rattle.std.proofs.Common.{◌≡◌, ℕ, ◌<◌, List, [], ◌∷◌, ◌++◌, length, refl, sym, ◌∙◌, ap, subst, arith, append_assoc, append-nil}
use Rattle.dns_label.specs.Name.{labels_wire}
use Rattle.dns_label.specs.Split.{StartsWithLabel, NoLabel}
use Rattle.dns_label.specs.declared.label.SplitLabelError.{SplitLabelError}
use Rattle.dns_flat.specs.NoName.{StartsWithLabels, StopsAt}
use Rattle.dns_wire.proofs.Drafts.{labels_more}
use Rattle.dns_wire.proofs.Flat.{some_octets}
use Rattle.dns_wire.proofs.Wire.{labels_wire-append}

pub labels_here : (octets : List ℕ) → StartsWithLabels octets octets
labels_here octets = record { labels = []; each = tt; whole = refl }

pub labels_behind : (octets here text rest : List ℕ) → StartsWithLabels octets here → StartsWithLabel here text rest
    → (text ≡ [] → ⊥) → StartsWithLabels octets rest
labels_behind octets here text rest front at some = record {
  labels = front.labels ++ text ∷ [];
  each = labels_more front.labels text front.each (record { some = some_octets text some; short = at.short });
  whole = front.whole ∙ ap (λ l. labels_wire front.labels ++ l) (at.spelled ∙ ap (λ l. l ++ rest) (sym (append-nil (length text ∷ text))))
      ∙ sym (append_assoc (labels_wire front.labels) (labels_wire (text ∷ [])) rest)
      ∙ ap (λ l. l ++ rest) (sym (labels_wire-append front.labels (text ∷ [])));
}

pub stops_at : (octets here : List ℕ) (error reason : SplitLabelError) → StartsWithLabels octets here → NoLabel here error → error ≡ reason
    → StopsAt octets reason
stops_at octets here error reason front none is =
    let P : SplitLabelError → Type 0 = λ e. NoLabel here e in (here, front, subst P is none)

pub stops_within : (octets here : List ℕ) (error reason : SplitLabelError) → StartsWithLabels octets here → NoLabel here error → error ≡ reason
    → (length here ≡ 0 → ⊥) → (rest : List ℕ) × StartsWithLabels octets rest × NoLabel rest reason × (0 < length rest)
stops_within octets here error reason front none is some =
    let P : SplitLabelError → Type 0 = λ e. NoLabel here e in (here, front, subst P is none, omega (arith, some))

pub root_behind : (octets here text rest : List ℕ) → StartsWithLabels octets here → StartsWithLabel here text rest → text ≡ []
    → StartsWithLabels octets (0 ∷ rest)
root_behind octets here text rest front at none =
    let P : List ℕ → Type 0 = λ t. StartsWithLabel here t rest in
    let root = subst P none at in
    let Q : List ℕ → Type 0 = λ h. StartsWithLabels octets h in
    subst Q root.spelled front
