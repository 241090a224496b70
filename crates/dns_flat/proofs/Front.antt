-- A name at the start of octets; only the first 255 are read.
use Rattle.std.proofs.Common.{◌≡◌, ℕ, ◌+◌, ◌-◌, ◌<◌, ◌≤◌, List, [], ◌∷◌, ◌++◌, length, take, drop, sym, ◌∙◌, ap, subst, arith, append_assoc, length-append, length-drop, length-take, zero, suc}
use Rattle.std.proofs.Math.Seq.{take-append_seam, drop-append_seam}
use Rattle.std.proofs.lemmas.List.{take-append-drop, drop-drop, take_all}
use Rattle.dns_label.specs.Name.{IsName, wire}
use Rattle.dns_label.specs.Labels.{labels_at}
use Rattle.dns_octets.specs.Parser.{octets_of, place_of, rest_of, GoesOn}
use Rattle.dns_octets.specs.declared.parser.Parser.{Parser}
use Rattle.dns_wire.specs.Flat.{StartsWithName, IsWritten}
use Rattle.dns_wire.proofs.Flat.{flat-labels, flat-written}

-- a name at the start of the first 255 octets is at the start of all
pub front_on : (rest : List ℕ) (name : List (List ℕ)) (behind : List ℕ) → StartsWithName (take 255 rest) name behind
    → rest ≡ wire name ++ (behind ++ drop 255 rest)
front_on rest name behind here =
    sym (take-append-drop 255 rest) ∙ ap (λ l. l ++ drop 255 rest) here.whole ∙ append_assoc (wire name) behind (drop 255 rest)

pub front_short : (rest : List ℕ) (name : List (List ℕ)) (behind : List ℕ) → StartsWithName (take 255 rest) name behind
    → length (wire name) ≤ 255
front_short rest name behind here =
    omega (arith, length-take 255 rest, ap (length {A = ℕ}) here.whole, length-append (wire name) behind)

take_on : (n : ℕ) (a b : List ℕ) → length a ≤ n → take n (a ++ b) ≡ a ++ take (n - length a) b
take_on n [] b few = ap (λ k. take k b) (omega arith)
take_on zero (x ∷ a) b few = absurd (omega arith)
take_on (suc n) (x ∷ a) b few =
    ap (λ l. x ∷ l) (take_on n a b (omega arith) ∙ ap (λ k. a ++ take k b) (omega arith))

-- a name at the start of all is among the first 255 octets
pub front_back : (rest : List ℕ) (name : List (List ℕ)) (behind : List ℕ) → IsName name → rest ≡ wire name ++ behind
    → StartsWithName (take 255 rest) name (take (255 - length (wire name)) behind)
front_back rest name behind is_name is = record {
  labels = is_name.labels;
  whole = ap (λ l. take 255 l) is ∙ take_on 255 (wire name) behind is_name.short;
}

-- what is taken as the first name
pub record Taken (octets taken : List ℕ) (place len : ℕ) : Type 0 where
  pub is_name : IsName (labels_at taken 0)
  pub written : IsWritten taken
  pub whole : drop place octets ≡ wire (labels_at taken 0) ++ drop (place + len) octets
  pub long : len ≡ length (wire (labels_at taken 0))

-- as many octets as the name has
pub front_len : (octets front behind : List ℕ) (place len : ℕ) (name : List (List ℕ))
    → front ≡ take 255 (drop place octets) → StartsWithName front name behind → len ≡ length front - length behind
    → len ≡ length (wire name)
front_len octets front behind place len name is here long =
    omega (arith, ap (length {A = ℕ}) here.whole, length-append (wire name) behind)

at_front : (octets : List ℕ) {front behind : List ℕ} (place : ℕ) {name : List (List ℕ)}
    → front ≡ take 255 (drop place octets) → StartsWithName front name behind
    → StartsWithName (take 255 (drop place octets)) name behind
at_front octets {behind = behind} place {name = name} is here =
    let P : List ℕ → Type 0 = λ l. StartsWithName l name behind in subst P is here

pub front_taken : (octets front behind taken : List ℕ) (place len : ℕ) (name : List (List ℕ))
    → front ≡ take 255 (drop place octets) → StartsWithName front name behind → len ≡ length front - length behind
    → taken ≡ take len (drop place octets) → Taken octets taken place len
front_taken octets front behind taken place len name is here long got =
    let there = at_front octets place is here in
    let whole = front_on (drop place octets) name behind there in
    let is_name : IsName name = record { labels = here.labels; short = front_short (drop place octets) name behind there } in
    let size = front_len octets front behind place len name is here long in
    let rest = behind ++ drop 255 (drop place octets) in
    let wired : taken ≡ wire name =
    got ∙ ap (λ n. take n (drop place octets)) size ∙ ap (λ l. take (length (wire name)) l) whole ∙ take-append_seam (wire name) rest in
    let left : drop (place + len) octets ≡ rest =
    ap (λ n. drop n octets) (omega arith) ∙ sym (drop-drop len place octets) ∙ ap (λ n. drop n (drop place octets)) size
    ∙ ap (λ l. drop (length (wire name)) l) whole ∙ drop-append_seam (wire name) rest in
    let found = flat-labels taken name is_name wired in
    let written = flat-written taken name is_name wired in
    record {
      is_name = written.is_name;
      written = written;
      whole = whole ∙ ap (λ n. wire n ++ rest) (sym found) ∙ ap (λ l. wire (labels_at taken 0) ++ l) (sym left);
      long = size ∙ ap (λ n. length (wire n)) (sym found);
    }

pub front_within : (octets front behind : List ℕ) (place len : ℕ) (name : List (List ℕ))
    → front ≡ take 255 (drop place octets) → StartsWithName front name behind → len ≡ length front - length behind
    → place ≤ length octets → place + len ≤ length octets
front_within octets front behind place len name is here long within =
    let there = at_front octets place is here in
    let whole = front_on (drop place octets) name behind there in
    let size = front_len octets front behind place len name is here long in
    omega (arith, ap (length {A = ℕ}) whole, length-append (wire name) (behind ++ drop 255 (drop place octets)), length-drop place octets)

-- fewer than 255 octets are left
pub front_all : (octets : List ℕ) (place : ℕ) → length octets < place + 255
    → take (length octets - place) (drop place octets) ≡ take 255 (drop place octets)
front_all octets place few =
    take_all (length octets - place) (drop place octets) (omega (arith, length-drop place octets))
    ∙ sym (take_all 255 (drop place octets) (omega (arith, length-drop place octets)))

-- what is left after the parser has moved on
pub goes_rest : {old new : Parser} {count : ℕ} → GoesOn old new count → drop (place_of old + count) (octets_of old) ≡ rest_of new
goes_rest {old} {new} {count} goes =
    ap (λ (n : ℕ). drop n (octets_of old)) (sym goes.place) ∙ ap (λ o. drop (place_of new) o.now) (sym goes.octets)
