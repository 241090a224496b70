-- What follows a record's owner.
use Rattle.std.proofs.Common.{◌≡◌, ℕ, List, ◌++◌, length, append_assoc}
use Rattle.std.specs.Int.{to_be_bytes, w16, w32}
use Rattle.dns_label.specs.Name.{wire}
use Rattle.dns_message.specs.Record.{record_octets}
use Rattle.zone_records.specs.Record.{Record}

-- what follows a record's owner
abbrev pub behind_owner : Record → List ℕ → List ℕ
behind_owner r rest =
    to_be_bytes w16 r.rtype ++ (to_be_bytes w16 r.class ++ (to_be_bytes w32 r.ttl ++ (to_be_bytes w16 (length r.rdata) ++ (r.rdata ++ rest))))

regrouped : (a b c d e f g : List ℕ) → (a ++ (b ++ c ++ d) ++ (e ++ f)) ++ g ≡ a ++ (b ++ (c ++ (d ++ (e ++ (f ++ g)))))
regrouped a b c d e f g = simp append_assoc

pub record_regrouped : (r : Record) (rest : List ℕ) → record_octets r ++ rest ≡ wire r.owner ++ behind_owner r rest
record_regrouped r rest =
    regrouped (wire r.owner) (to_be_bytes w16 r.rtype) (to_be_bytes w16 r.class) (to_be_bytes w32 r.ttl)
    (to_be_bytes w16 (length r.rdata)) r.rdata rest
