-- The data of an SOA ends with five numbers (RFC 1035 3.3.13), and with the serial 0 it is an SOA's data too.
use Rattle.std.proofs.Common.{◌≡◌, ◌+◌, ◌-◌, ◌*◌, ◌≤◌, ◌<◌, ◌^◌, ℕ, Some, List, [], ◌∷◌, ◌++◌, length, map, take, drop, refl, sym, ap, ◌∙◌, subst, arith, append_assoc, length-append}
use Rattle.std.specs.List.{AllByRecursion}
use Rattle.std.proofs.Math.Seq.{take-append_seam, drop-append_seam}
use Rattle.dns_rdata.specs.Fields as fields
use Rattle.dns_rdata.specs.Fields.{Field, IsData, IsField, Kind, field_octets, kind_of, octets}
use Rattle.dns_rdata.specs.Fields.Kind.{Compressible, Number32}
use Rattle.dns_rdata.specs.Fields.Field.{number8, number16, number32, ipv4, ipv6, compressible, uncompressed, string, strings, tag, rest_text, rest16, rest64}
use Rattle.zone_records.specs.Zone.{soa_type}
use Rattle.zone_tool.specs.Selected.{without_serial}

-- there are the octets of five numbers, the first of which may be 0
pub record IsSoaData (data' : List ℕ) : Type 0 where
  pub long : 20 ≤ length data'
  pub zeroed : IsData soa_type (without_serial data')

four_octets : (field : Field) → kind_of field ≡ Number32 → length (field_octets field) ≡ 4
four_octets (number8 n) kind = absurd cc
four_octets (number16 n) kind = absurd cc
four_octets (number32 n) kind = refl
four_octets (ipv4 text) kind = absurd cc
four_octets (ipv6 text) kind = absurd cc
four_octets (compressible name) kind = absurd cc
four_octets (uncompressed name) kind = absurd cc
four_octets (string text) kind = absurd cc
four_octets (strings each) kind = absurd cc
four_octets (tag text) kind = absurd cc
four_octets (rest_text text) kind = absurd cc
four_octets (rest16 text) kind = absurd cc
four_octets (rest64 text) kind = absurd cc

-- fields that are all numbers
numbers_long : (row : List Field) (kinds : List Kind) → map kind_of row ≡ kinds → AllByRecursion (λ kind. kind ≡ Number32) kinds
    → length (octets row) ≡ 4 * length kinds
numbers_long [] [] same all = refl
numbers_long [] (kind ∷ kinds) same all = absurd cc
numbers_long (field ∷ row) [] same all = absurd cc
numbers_long (field ∷ row) (kind ∷ kinds) same all =
    let first : kind_of field ≡ kind = cc in
    let rest : map kind_of row ≡ kinds = cc in
    omega (arith, length-append {A = ℕ}, four_octets field (first ∙ all.0), numbers_long row kinds rest all.1)

abbrev no_serial : List ℕ
no_serial = 0 ∷ 0 ∷ 0 ∷ 0 ∷ []

zeroed_parts : (names serial others : List ℕ) → length serial ≡ 4 → length others ≡ 16
    → without_serial (names ++ (serial ++ others)) ≡ names ++ (no_serial ++ others)
zeroed_parts names serial others four sixteen =
    let whole = names ++ (serial ++ others) in
    let long : length whole ≡ length names + 20 = omega (arith, length-append {A = ℕ}) in
    let place : length whole - 16 ≡ length (names ++ serial) = omega (arith, length-append {A = ℕ}) in
    let front : take (length whole - 20) whole ≡ names =
    ap (λ n. take (n - 20) whole) long ∙ ap (λ n. take n whole) (omega arith) ∙ take-append_seam names (serial ++ others) in
    let back : drop (length whole - 16) whole ≡ others =
    ap (λ n. drop n whole) place ∙ ap (λ l. drop (length (names ++ serial)) l) (sym (append_assoc names serial others))
    ∙ drop-append_seam (names ++ serial) others in
    (λ i. (front i ++ no_serial) ++ back i) ∙ append_assoc names no_serial others

soa_row : (row : List Field)
    → map kind_of row ≡ Compressible ∷ Compressible ∷ Number32 ∷ Number32 ∷ Number32 ∷ Number32 ∷ Number32 ∷ []
    → AllByRecursion IsField row → length (octets row) < 2 ^ 16 → IsSoaData (octets row)
soa_row [] kinds each short = absurd cc
soa_row (a ∷ []) kinds each short = absurd cc
soa_row (a ∷ (b ∷ [])) kinds each short = absurd cc
soa_row (a ∷ (b ∷ (s ∷ row))) kinds each short =
    let first = field_octets a in
    let second = field_octets b in
    let serial = field_octets s in
    let others = octets row in
    let third : kind_of s ≡ Number32 = cc in
    let behind : map kind_of row ≡ Number32 ∷ Number32 ∷ Number32 ∷ Number32 ∷ [] = cc in
    let four = four_octets s third in
    let sixteen : length others ≡ 16 = numbers_long row _ behind (refl, (refl, (refl, (refl, tt)))) in
    let long : length (octets (a ∷ (b ∷ (s ∷ row)))) ≡ length first + length second + 20 =
    omega (arith, length-append {A = ℕ}, four, sixteen) in
    let long' : length (octets (a ∷ (b ∷ (number32 0 ∷ row)))) ≡ length first + length second + 20 =
    omega (arith, length-append {A = ℕ}, sixteen) in
    record {
      long = omega (arith, long);
      zeroed = fields.typed (a ∷ (b ∷ (number32 0 ∷ row)))
          (record {
            kinds = sym (ap Some (cc kinds));
            each = (each.0, (each.1.0, (omega arith, each.1.1.1)));
            short = omega (arith, long, long', short);
          })
          (ap without_serial (sym (append_assoc first second (serial ++ others))) ∙ zeroed_parts (first ++ second) serial others four sixteen
          ∙ append_assoc first second (no_serial ++ others));
    }

pub soa_data : (data' : List ℕ) → IsData soa_type data' → IsSoaData data'
soa_data data' (fields.typed row is are) =
    let same : map kind_of row ≡ Compressible ∷ Compressible ∷ Number32 ∷ Number32 ∷ Number32 ∷ Number32 ∷ Number32 ∷ [] = cc in
    subst IsSoaData (sym are) (soa_row row same is.each is.short)
soa_data data' (fields.unknown none short) = absurd cc
