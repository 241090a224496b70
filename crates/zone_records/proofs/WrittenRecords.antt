-- A record that is written with every name in full is its octets.
use Rattle.std.proofs.Common.{◌≡◌, ◌<◌, ℕ, ◌+◌, ◌-◌, List, [], ◌∷◌, ◌++◌, length, take, drop, ◌∙◌, ap, arith, append_assoc, length-append}
use Rattle.std.specs.Int.{to_be_bytes, w16}
use Rattle.std.proofs.Math.Seq.{take-append_seam, drop-append_seam}
use Rattle.dns_label.specs.Name.{wire}
use Rattle.dns_name.specs.Page.{Page, Parts, with_octets, with_count, write}
use Rattle.dns_name.specs.Page.Parts.{End, Octets, Named, Counted}
use Rattle.dns_name.specs.RecordData.{page_of}
use Rattle.dns_name.specs.Spelling.{plain}
use Rattle.dns_name.proofs.Spelled.{plain_text, plain_known}
use Rattle.dns_message.specs.Head.{fixed_octets, after_length}
use Rattle.dns_message.specs.HeaderRecord.{RecordOf}
use Rattle.dns_message.specs.Written.{data_length, written_of}
use Rattle.dns_rdata.specs.Data.{Data, number_of, parts_of}
use Rattle.dns_rdata.specs.DataOctets.{data_octets}
use Rattle.dns_message.specs.Held.{record_of, written_parts_of}
use Rattle.dns_message.specs.Record.{IsRecord, record_octets}
use Rattle.zone_records.proofs.WrittenData.{data_written}

-- two octets that count the data after them
marked : (front data' : List ℕ) → with_count (length front) (page_of ((front ++ 0 ∷ 0 ∷ []) ++ data') [])
    ≡ page_of (front ++ after_length data') []
marked front data' =
    let mark : List ℕ = 0 ∷ 0 ∷ [] in
    let whole : List ℕ = (front ++ mark) ++ data' in
    let long : length front + 2 ≡ length (front ++ mark) = omega (arith, length-append front mark) in
    let count : length whole - (length front + 2) ≡ length data' =
    omega (arith, length-append (front ++ mark) data', length-append front mark) in
    let before : take (length front) whole ≡ front =
    ap (take (length front)) (append_assoc front mark data') ∙ take-append_seam front (mark ++ data') in
    let behind : drop (length front + 2) whole ≡ data' = ap (λ n. drop n whole) long ∙ drop-append_seam (front ++ mark) data' in
    λ i. page_of (before i ++ (to_be_bytes w16 (count i) ++ behind i)) []

-- what precedes the data
head_written : (old : List ℕ) (owner : List (List ℕ)) (fixed : List ℕ) (parts : Parts)
    → write plain (page_of old []) (Named owner (Octets fixed parts)) ≡ write plain (page_of ((old ++ wire owner) ++ fixed) []) parts
unfolding write
head_written old owner fixed parts = λ i.
    write plain (page_of ((old ++ plain_text (length old) owner i) ++ fixed) (plain_known (length old) owner i)) parts

-- data after the two octets that count it
counted_written : (front : List ℕ) (rdata : Data)
    → write plain (page_of front []) (Counted (parts_of rdata) End) ≡ page_of (front ++ after_length (data_octets rdata)) []
unfolding write
counted_written front rdata =
    ap (λ (p : Page). with_count (length front) p) (data_written (front ++ 0 ∷ 0 ∷ []) rdata) ∙ marked front (data_octets rdata)

pub record_written : (old : List ℕ) (rr : RecordOf (List (List ℕ)) Data)
    → write plain (page_of old []) (written_parts_of rr) ≡ page_of (old ++ record_octets (record_of rr)) []
record_written old rr =
    let owner : List ℕ = wire rr.owner in
    let fixed : List ℕ = fixed_octets (number_of rr.rdata) rr.class rr.ttl in
    let counted : List ℕ = after_length (data_octets rr.rdata) in
    head_written old rr.owner fixed (Counted (parts_of rr.rdata) End)
    ∙ counted_written ((old ++ owner) ++ fixed) rr.rdata
    ∙ ap (λ (l : List ℕ). page_of l [])
    (ap (λ l. l ++ counted) (append_assoc old owner fixed) ∙ append_assoc old (owner ++ fixed) counted)

-- the octets of a page alone
pub octets_written : (old new : List ℕ) (rr : RecordOf (List (List ℕ)) Data)
    → page_of new [] ≡ write plain (page_of old []) (written_parts_of rr) → new ≡ old ++ record_octets (record_of rr)
octets_written old new rr is = ap (λ (p : Page). p.octets) (is ∙ record_written old rr)

-- the data is as long as its octets
pub data_long : (old : List ℕ) (rr : RecordOf (List (List ℕ)) Data)
    → data_length plain (page_of old []) (written_of (λ labels. labels) number_of parts_of rr) ≡ length (record_of rr).rdata
unfolding write
data_long old rr =
    let fixed : List ℕ = fixed_octets (number_of rr.rdata) rr.class rr.ttl in
    let front : List ℕ = (old ++ wire rr.owner) ++ fixed in
    let mark : List ℕ = 0 ∷ 0 ∷ [] in
    let head : write plain (page_of old []) (Named rr.owner (Octets fixed End)) ≡ page_of front [] = head_written old rr.owner fixed End in
    let long : length (write plain (page_of (front ++ mark) []) (parts_of rr.rdata)).octets ≡ length ((front ++ mark) ++ data_octets rr.rdata) =
    ap (λ (p : Page). length p.octets) (data_written (front ++ mark) rr.rdata) in
    ap (λ (p : Page). length (write plain (with_octets p mark) (parts_of rr.rdata)).octets - (length p.octets + 2)) head
    ∙ omega (arith, long, length-append (front ++ mark) (data_octets rr.rdata), length-append front mark)

-- so the data of a lawful record is not too long
pub data_fits : (old : List ℕ) (rr : RecordOf (List (List ℕ)) Data) → IsRecord (record_of rr)
    → 65535 < data_length plain (page_of old []) (written_of (λ labels. labels) number_of parts_of rr) → ⊥
data_fits old rr lawful long = absurd (omega (arith, lawful.rdata, data_long old rr, long))
