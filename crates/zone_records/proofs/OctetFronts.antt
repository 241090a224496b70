-- Octets at the start of others.
use Rattle.std.proofs.Common.{◌≡◌, ℕ, ◌<◌, ◌≤◌, ◌^◌, suc, List, [], ◌∷◌, ◌++◌, length, get_or, take, drop, refl, sym, ◌∙◌, subst, arith, append_assoc, length-take-le}
use Rattle.std.specs.List.{AllByRecursion}
use Rattle.std.proofs.lemmas.List.{take-append-drop}
use Rattle.dns_label.specs.Name.{IsLabel, wire}
use Rattle.dns_octets.proofs.Fronts.{same_fronts}
use Rattle.zone_records.proofs.Each.{all_fronts}
pub use Rattle.zone_records.specs.Records.{AreOctets}

pub octets_behind : (text front rest : List ℕ) → text ≡ front ++ rest → AreOctets text → AreOctets rest
octets_behind text front rest is each =
    let P : List ℕ → Type 0 = λ text. AreOctets text in
    let both = all_fronts (λ octet. octet < 2 ^ 8) front rest (subst P is each) in both.1

pub octets_front : (text front rest : List ℕ) → text ≡ front ++ rest → AreOctets text → AreOctets front
octets_front text front rest is each =
    let P : List ℕ → Type 0 = λ text. AreOctets text in
    let both = all_fronts (λ octet. octet < 2 ^ 8) front rest (subst P is each) in both.0

-- the first `n` octets
pub record Front (text : List ℕ) (n : ℕ) : Type 0 where
  pub front : List ℕ
  pub rest : List ℕ
  pub at : text ≡ front ++ rest
  pub long : length front ≡ n

pub front_of : (text : List ℕ) (n : ℕ) → n ≤ length text → Front text n
front_of text n enough = record {
  front = take n text;
  rest = drop n text;
  at = sym (take-append-drop n text);
  long = length-take-le n text enough;
}

-- octets by their places
pub octets_by_place : (text : List ℕ) → ((i : ℕ) → get_or text i 0 < 256) → AreOctets text
octets_by_place [] small = tt
octets_by_place (x ∷ text) small = (small 0, octets_by_place text (λ i. small (suc i)))
