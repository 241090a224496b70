-- What a walked name is written as, and what is then remembered.
use Rattle.std.proofs.Common.{◌≡◌, ◌+◌, ℕ, zero, suc, Bool, true, false, Option, Some, None, List, [], ◌∷◌, ◌++◌, length, take, drop, refl, sym, ◌∙◌, ap, append_assoc}
use Rattle.std.specs.Prelude.{if◌then◌else◌, option_map, unwrap_or}
use Rattle.std.proofs.lemmas.List.{append-nil}
use Rattle.std.proofs.Math.Seq.{take-append_seam}
use Rattle.dns_octets.specs.Builder.{Known}
use Rattle.dns_label.specs.Name.{wire, labels_wire}
use Rattle.dns_name.specs.Spelling.{Spelling, Split, place_in, pointer_to, suffix_text, split_text, split_from, standings, if_near, name_text, known_after}
use Rattle.dns_compress.specs.Tables.{added}
use Rattle.dns_compress.specs.Walk.{cut_at, pointed_to, walked_text, IsWalked}

pub wire_cut : (count : ℕ) (name : List (List ℕ)) → labels_wire (take count name) ++ wire (drop count name) ≡ wire name
wire_cut zero name = refl
wire_cut (suc count) [] = refl
wire_cut (suc count) (label ∷ parent) =
    ap (λ (l : List ℕ). length label ∷ l)
    (append_assoc label (labels_wire (take count parent)) (wire (drop count parent)) ∙ ap (λ (l : List ℕ). label ++ l) (wire_cut count parent))

text_by : (front text : List ℕ) (target found : Option ℕ) → target ≡ found
    → front ++ unwrap_or (option_map pointer_to found) text ≡ walked_text (front ++ text) (length front) target
text_by front text target None is = rw is refl
text_by front text target (Some place) is = rw is (ap (λ (l : List ℕ). l ++ pointer_to place) (sym (take-append_seam front text)))

text_suffix : (s : Spelling) (known : Known) (front : List ℕ) (suffix : List (List ℕ)) (target : Option ℕ) → target ≡ pointed_to s known suffix
    → front ++ suffix_text s known suffix ≡ walked_text (front ++ wire suffix) (length front) target
text_suffix s known front [] target is = rw is refl
text_suffix s known front (label ∷ parent) target is =
    text_by front (wire (label ∷ parent)) target (place_in s known (wire (label ∷ parent))) is

module _ (s : Spelling) (known : Known) (count place : ℕ) (name : List (List ℕ)) (labels front : ℕ) (near : Bool) (target : Option ℕ)
    (is : IsWalked s known count place name labels front near target) (counts : count ≡ length known) where
  split_is : split_from s known (length known) place name ≡ cut_at labels name
  split_is = ap (λ n. split_from s known n place name) (sym counts) ∙ is.splits

  pub text_walked : name_text s known place name ≡ walked_text (wire name) front target
  unfolding name_text
  text_walked =
      ap (split_text s known) split_is
      ∙ text_suffix s known (labels_wire (take labels name)) (drop labels name) target is.leads
      ∙ ap (λ (l : List ℕ). walked_text l (length (labels_wire (take labels name))) target) (wire_cut labels name)
      ∙ ap (λ n. walked_text (wire name) n target) (sym is.long)

  after_walked : (stop : ℕ) → stop ≡ place + length (name_text s known place name)
      → known_after s known place name ≡ known ++ (if near then added s labels place stop name else [])
  unfolding known_after name_text
  after_walked stop ends =
      let long : place + length (split_text s known (cut_at labels name)) ≡ stop =
      ap (λ (split : Split). place + length (split_text s known split)) (sym split_is) ∙ sym ends in
      ap (λ (split : Split). known ++ if_near (standings s place (place + length (split_text s known split)) split.labels split.suffix)) split_is
      ∙ ap (λ n. known ++ if_near (added s labels place n name)) long
      ∙ ap (λ (b : Bool). known ++ (if b then added s labels place stop name else [])) (is.reached stop)

  pub near_walked : (stop : ℕ) → stop ≡ place + length (name_text s known place name) → near ≡ true
      → known_after s known place name ≡ known ++ added s labels place stop name
  near_walked stop ends all =
      after_walked stop ends ∙ ap (λ (b : Bool). known ++ (if b then added s labels place stop name else [])) all

  pub far_walked : near ≡ false → known_after s known place name ≡ known
  far_walked some =
      after_walked (place + length (name_text s known place name)) refl
      ∙ ap (λ (b : Bool). known ++ (if b then added s labels place (place + length (name_text s known place name)) name else [])) some
      ∙ append-nil known
