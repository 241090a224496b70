-- The premises of the laws of sending, tried on a zone of two records: they hold, so its stream is a transfer.
use Rattle.std.proofs.Common.{ℕ, List, [], ◌∷◌, refl, arith, rules}
use Rattle.dns_label.specs.Name.{IsName}
use Rattle.dns_rdata.specs.Fields.{Field}
use Rattle.dns_rdata.specs.Fields.Field.{compressible, number32, ipv4}
use Rattle.dns_rdata.specs.Fields.IsData.{typed}
use Rattle.zone_records.specs.Records.{AreRecordsOf}
use Rattle.dns_message.proofs.Spellable.{spellable_unless_caa}
use Rattle.zone_send.specs.Sent.{IsQueryFor, IsSent, message, with_soa_again}
use Rattle.zone_core.specs.Frames.{frames}
use Rattle.zone_core.specs.Transfer.{IsTransfer}
use Rattle.zone_send.proofs.TriedZone.{soa, address, query, sizes}
use Rattle.zone_send.proofs.SentTransfers.{sent_is_transfer}

one_label : (octet : ℕ) → IsName ((octet ∷ []) ∷ [])
one_label octet = record { labels = (record { some = omega arith; short = omega arith }, tt); short = omega arith }

soa_row : List Field
soa_row = compressible ((98 ∷ []) ∷ []) ∷ compressible ((99 ∷ []) ∷ []) ∷ number32 1 ∷ number32 2 ∷ number32 3 ∷ number32 4 ∷ number32 5 ∷ []

are_records : AreRecordsOf 1 (soa ∷ address ∷ [])
unfolding soa_row
are_records = record {
  each = (
    record {
      sendable = record {
        lawful = record { owner = one_label 97; rtype = omega arith; class = omega arith; ttl = omega arith; rdata = omega arith };
        data_is = typed soa_row (record { kinds = refl; each = (one_label 98, (one_label 99, (omega arith, (omega arith, (omega arith, (omega arith, (omega arith, tt))))))); short = omega arith }) refl;
        class_is = refl;
        spellable = spellable_unless_caa 6 soa.rdata (λ caa. omega (arith, caa));
      };
      owner_octets = ((omega arith, tt), tt);
      data_octets = search rules;
    },
    (
      record {
        sendable = record {
          lawful = record { owner = one_label 97; rtype = omega arith; class = omega arith; ttl = omega arith; rdata = omega arith };
          data_is = typed (ipv4 (1 ∷ 2 ∷ 3 ∷ 4 ∷ []) ∷ []) (record { kinds = refl; each = (refl, tt); short = omega arith }) refl;
          class_is = refl;
          spellable = spellable_unless_caa 1 address.rdata (λ caa. omega (arith, caa));
        };
        owner_octets = ((omega arith, tt), tt);
        data_octets = (omega arith, (omega arith, (omega arith, (omega arith, tt))));
      },
      tt,
    ),
  );
  zone = (refl, (record { no_soa = λ is. absurd (omega (arith, is)); under = record { front = []; whole_is = refl } }, tt));
}

asks : IsQueryFor (soa ∷ address ∷ []) 1 query
asks = record { id = omega arith; name = one_label 97; class_fits = omega arith; asks = record { name = refl; class_is = refl } }

sent : IsSent (soa ∷ address ∷ []) query 512 (frames (message query (with_soa_again (soa ∷ address ∷ [])) ∷ []))
sent = record {
  groups = with_soa_again (soa ∷ address ∷ []) ∷ [];
  cut = record {
    fits = record { cut = record { nonempty = (tt, tt); joins = refl }; small = (omega (arith, sizes.3), tt) };
    full = (tt, tt);
  };
  framed = refl;
}

is_transfer : IsTransfer query (frames (message query (with_soa_again (soa ∷ address ∷ [])) ∷ [])) (soa ∷ address ∷ [])
is_transfer = (sent_is_transfer (soa ∷ address ∷ []) 1 query 512 _ (omega arith) are_records asks sent).transfer
