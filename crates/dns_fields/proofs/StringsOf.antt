-- Octets that are strings, and the strings that they are.
use Rattle.std.proofs.Common.{◌≡◌, ◌≤◌, ◌<◌, ℕ, zero, suc, List, [], ◌∷◌, ◌++◌, length, take, drop, refl, sym, ◌∙◌, ap, subst, arith, length-append}
use Rattle.std.specs.List.{AllByRecursion, flat_map}
use Rattle.std.proofs.Math.Seq.{take-append_seam, drop-append_seam}
use Rattle.dns_name.proofs.Flat.{same_front}
use Rattle.dns_scan.specs.CharStr.{StartsWithString, string_wire}
use Rattle.dns_fields.specs.Fields.{IsString}
use Rattle.dns_fields.specs.Strings.{AreStringOctets, AreCut, first_strings, strings_of}

first_all : (count : ℕ) (each : List (List ℕ)) → length (flat_map string_wire each) ≤ count
    → first_strings count (flat_map string_wire each) ≡ each
first_all zero [] few = refl
first_all (suc count) [] few = refl
first_all zero (string ∷ each) few = absurd (omega arith)
first_all (suc count) (string ∷ each) few =
    let behind : List ℕ = flat_map string_wire each in
    let one : take (length string) (string ++ behind) ≡ string = take-append_seam string behind in
    let on : first_strings count behind ≡ each = first_all count each (omega (arith, length-append string behind)) in
    let others : first_strings count (drop (length string) (string ++ behind)) ≡ each = ap (first_strings count) (drop-append_seam string behind) ∙ on in
    λ i. one i ∷ others i

-- the octets of strings are cut into these
pub strings_of-written : (each : List (List ℕ)) → strings_of (flat_map string_wire each) ≡ each
strings_of-written each = first_all (length (flat_map string_wire each)) each (omega arith)

pub strings_one : (each others : List (List ℕ)) → flat_map string_wire each ≡ flat_map string_wire others → each ≡ others
strings_one each others same = sym (strings_of-written each) ∙ ap strings_of same ∙ strings_of-written others

-- strings make up octets: none may
pub record AreMade (octets : List ℕ) : Type 0 where
  pub each : List (List ℕ)
  pub short : AllByRecursion IsString each
  pub written : octets ≡ flat_map string_wire each

pub made_cut : (octets : List ℕ) → AreMade octets → AreCut octets
made_cut octets made =
    let is : strings_of octets ≡ made.each = ap strings_of made.written ∙ strings_of-written made.each in
    record {
      short = subst (λ (each : List (List ℕ)). AllByRecursion IsString each) (sym is) made.short;
      written = ap (flat_map string_wire) is ∙ sym made.written;
    }

pub cut_made : (octets : List ℕ) → AreCut octets → AreMade octets
cut_made octets cut = record { each = strings_of octets; short = cut.short; written = sym cut.written }

-- a string before others
pub made_more : (octets string behind : List ℕ) → StartsWithString octets string behind → AreMade behind → AreMade octets
made_more octets string behind starts made = record {
  each = string ∷ made.each;
  short = (starts.short, made.short);
  written = starts.spelled ∙ ap (λ l. string_wire string ++ l) made.written;
}

record Less (octets string behind : List ℕ) (each : List (List ℕ)) : Type 0 where
  others : List (List ℕ)
  is : each ≡ string ∷ others
  written : behind ≡ flat_map string_wire others
  short : AllByRecursion IsString others

less : (octets string behind : List ℕ) → StartsWithString octets string behind → (each : List (List ℕ)) → AllByRecursion IsString each
    → octets ≡ flat_map string_wire each → Less octets string behind each
less octets string behind starts [] short written = let bad : [] ≡ string_wire string ++ behind = sym written ∙ starts.spelled in absurd (cc)
less octets string behind starts (first ∷ others) short written =
    let same : string_wire first ++ flat_map string_wire others ≡ string_wire string ++ behind = sym written ∙ starts.spelled in
    let long : length first ≡ length string = cc in
    let tails : first ++ flat_map string_wire others ≡ string ++ behind = cc in
    let fronts = same_front first string (flat_map string_wire others) behind tails long in
    record { others = others; is = ap (λ l. l ∷ others) fronts.0; written = sym fronts.1; short = short.1 }

pub made_less : (octets string behind : List ℕ) → StartsWithString octets string behind → AreMade octets → AreMade behind
made_less octets string behind starts made =
    let on = less octets string behind starts made.each made.short made.written in
    record { each = on.others; short = on.short; written = on.written }

-- the strings that octets are cut into, the first of them taken
pub cut_first : (octets string behind : List ℕ) → StartsWithString octets string behind → AreCut octets
    → strings_of octets ≡ string ∷ strings_of behind
cut_first octets string behind starts cut =
    let on = less octets string behind starts (strings_of octets) cut.short (sym cut.written) in
    on.is ∙ ap (λ l. string ∷ l) (sym (strings_of-written on.others) ∙ ap strings_of (sym on.written))

pub cut_behind : (octets string behind : List ℕ) → StartsWithString octets string behind → AreCut octets → AreCut behind
cut_behind octets string behind starts cut = made_cut behind (made_less octets string behind starts (cut_made octets cut))

no_first : (octets : List ℕ) → ((string rest : List ℕ) → StartsWithString octets string rest → ⊥) → (each : List (List ℕ))
    → AllByRecursion IsString each → octets ≡ flat_map string_wire each → each ≡ []
no_first octets none [] short written = refl
no_first octets none (first ∷ others) short written =
    absurd (none first (flat_map string_wire others) (record { spelled = written; short = short.0 }))

-- if octets begin with no string there is none
pub cut_none : (octets : List ℕ) → ((string rest : List ℕ) → StartsWithString octets string rest → ⊥) → AreCut octets → strings_of octets ≡ []
cut_none octets none cut = no_first octets none (strings_of octets) cut.short (sym cut.written)

pub none_made : (octets : List ℕ) → ((string rest : List ℕ) → StartsWithString octets string rest → ⊥) → 0 < length octets → AreMade octets → ⊥
none_made octets none some made =
    let no = no_first octets none made.each made.short made.written in
    let bare : octets ≡ [] = made.written ∙ ap (flat_map string_wire) no in
    omega (arith, some, ap (length {A = ℕ}) bare)

pub nothing_made : AreMade []
nothing_made = record { each = []; short = tt; written = refl }

-- octets of one or more strings
pub strings_made : (octets : List ℕ) → AreStringOctets octets → AreMade octets
strings_made octets are = record { each = are.each; short = are.is_field.1; written = are.written }

pub strings_some : (octets : List ℕ) → AreStringOctets octets → octets ≡ [] → ⊥
strings_some octets are none = by are.each are.is_field.0 (sym none ∙ are.written)
  where
    by : (each : List (List ℕ)) → 0 < length each → [] ≡ flat_map string_wire each → ⊥
    by [] some is = omega arith
    by (first ∷ others) some is = cc

pub made_strings : (octets : List ℕ) → 0 < length octets → AreMade octets → AreStringOctets octets
made_strings octets some made = record { each = made.each; is_field = (by made.each made.written, made.short); written = made.written }
  where
    by : (each : List (List ℕ)) → octets ≡ flat_map string_wire each → 0 < length each
    by [] is = let bare : octets ≡ [] = is in absurd (omega (arith, some, ap (length {A = ℕ}) bare))
    by (first ∷ others) is = omega arith

pub strings_cut : (octets : List ℕ) → AreStringOctets octets → (0 < length (strings_of octets)) × AreCut octets
strings_cut octets are =
    let is : strings_of octets ≡ are.each = ap strings_of are.written ∙ strings_of-written are.each in
    let some : 0 < length are.each = are.is_field.0 in
    (omega (arith, some, ap (length {A = List ℕ}) is), made_cut octets (strings_made octets are))

pub strings_written : (octets : List ℕ) → AreStringOctets octets → octets ≡ flat_map string_wire (strings_of octets)
strings_written octets are = sym (strings_cut octets are).1.written
