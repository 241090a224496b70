-- The octets of a header whose fields are set one after another.
use Rattle.std.proofs.Common.{◌≡◌, ℕ, Bool, true, false, List, [], ◌∷◌, ◌++◌, refl, ap, ◌∙◌}
use Rattle.std.specs.Prelude.{if◌then◌else◌}
use Rattle.std.specs.Int.{to_be_bytes, w16}
use Rattle.dns_header.specs.HeaderFields.{HeaderFields, fields_of, header_octets}

front : (id : ℕ) (recursion : Bool) → HeaderFields
front id recursion = record {
  id = id;
  qr = true;
  opcode = 0;
  aa = true;
  tc = false;
  rd = recursion;
  ra = false;
  z = false;
  ad = false;
  cd = false;
  rcode = 0;
}

octets_of_front : (id : ℕ) (recursion : Bool) → header_octets (front id recursion) ≡ to_be_bytes w16 id ++ (if recursion then 133 else 132) ∷ 0 ∷ []
unfolding front
octets_of_front id true = refl
octets_of_front id false = refl

pub front_octets : (id : ℕ) (recursion : Bool) (clear with_id with_qr with_aa header : List ℕ) → clear ≡ 0 ∷ 0 ∷ 0 ∷ 0 ∷ []
    → fields_of with_id ≡ record (fields_of clear) { id = id } → fields_of with_qr ≡ record (fields_of with_id) { qr = true }
    → fields_of with_aa ≡ record (fields_of with_qr) { aa = true } → fields_of header ≡ record (fields_of with_aa) { rd = recursion }
    → header ≡ header_octets (fields_of header) → header ≡ to_be_bytes w16 id ++ (if recursion then 133 else 132) ∷ 0 ∷ []
unfolding front
front_octets id recursion clear with_id with_qr with_aa header clear_is id_is qr_is aa_is rd_is is =
    let first : fields_of with_id ≡ record (fields_of (0 ∷ 0 ∷ 0 ∷ 0 ∷ [])) { id = id } =
    id_is ∙ ap (λ l. record (fields_of l) { id = id }) clear_is in
    let fields : fields_of header ≡ front id recursion =
    rd_is ∙ ap (λ (f : HeaderFields). record f { rd = recursion })
    (aa_is ∙ ap (λ (f : HeaderFields). record f { aa = true }) (qr_is ∙ ap (λ (f : HeaderFields). record f { qr = true }) first)) in
    is ∙ ap header_octets fields ∙ octets_of_front id recursion
