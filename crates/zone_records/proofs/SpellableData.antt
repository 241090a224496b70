-- Text can spell data, or cannot.
use Rattle.std.proofs.Common.{ℕ, List, inl, inr, slice_index}
use Rattle.std.proofs.lemmas.Bool.{cases_eq}
use Rattle.dns_rdata.specs.DataOctets.{IsSpellable}
use Rattle.dns_rdata.specs.Fields.{IsData}
use Rattle.dns_message.proofs.Spellable.{spellable_tag, spellable_unless_caa, tag_spellable}
use Rattle.zone_records.proofs.Decided.{Decided}

pub spellable_decided : (rtype : ℕ) (text : List ℕ) → IsData rtype text → Decided (IsSpellable rtype text)
spellable_decided rtype text is = elim (cases_eq rtype 257) [
  | inl caa ↦ elim (cases_eq (slice_index text 1) 0) [
    | inl none ↦ inr (λ spelled. spellable_tag rtype text is spelled caa none)
    | inr some ↦ inl (tag_spellable rtype text (λ _. some))
  ]
  | inr other ↦ inl (spellable_unless_caa rtype text other)
]
