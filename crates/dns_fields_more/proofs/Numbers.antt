-- Numbers that a parser goes over.
use Rattle.std.proofs.Common.{◌≡◌, ◌+◌, ◌<◌, ℕ, List, ◌++◌, ◌∙◌, length, drop, take, ap, sym, arith, length-append, length-drop}
use Rattle.std.proofs.lemmas.List.{take-append-drop, drop-drop}
use Rattle.dns_octets.specs.Parser.{GoesOn, octets_of, place_of, rest_of}
use Rattle.dns_octets.specs.declared.parser.Parser.{Parser}
use Rattle.dns_flat.proofs.Front.{goes_rest}
use Rattle.dns_fields.specs.Fields.{Field, Kind, field_octets}
use Rattle.dns_fields.specs.OctetsForm.{StartsWithField}
use Rattle.dns_fields.proofs.ReadFields.{IsFixed}

-- what the parser goes over is before what is left
pub gone_over : {old new : Parser} {size : ℕ} {written : List ℕ} → written ≡ take size (rest_of old) → GoesOn old new size
    → rest_of old ≡ written ++ rest_of new
gone_over {old} {new} {size} is goes =
    sym (take-append-drop size (rest_of old))
    ∙ (λ i. sym is i ++ (drop-drop size (place_of old) (octets_of old) ∙ goes_rest goes) i)

-- fewer octets than a field has are none
pub too_few : {its : Kind} {size : ℕ} (message : List ℕ) (place : ℕ) → IsFixed its size → length message < place + size
    → (field : Field) (rest : List ℕ) → StartsWithField (drop place message) its field rest → ⊥
too_few {size = size} message place fixed short field rest starts =
    omega (
      arith,
      fixed.some,
      fixed.long field starts.is_kind starts.is_field,
      ap (length {A = ℕ}) starts.written,
      length-append (field_octets field) rest,
      length-drop place message,
    )
