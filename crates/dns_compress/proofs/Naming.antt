-- A walked name is appended: the octets and what is remembered are those of the definitions.
use Rattle.std.proofs.Common.{◌≡◌, ◌≤◌, ◌<◌, ◌+◌, ℕ, Bool, true, false, Option, Some, None, List, [], ◌∷◌, ◌++◌, length, take, drop, sym, ◌∙◌, ap, arith, length-append, subst}
use Rattle.std.specs.Prelude.{Result, OnOk}
use Rattle.std.specs.Option.{ForSome}
use Rattle.dns_octets.specs.Builder.{Standing, Known, IsPast}
use Rattle.dns_label.specs.Name.{IsName, wire, labels_wire}
use Rattle.dns_name.specs.Spelling.{Spelling, split_from, name_text, known_after}
use Rattle.dns_name.specs.Remembered.{IsKnown, IsSound}
use Rattle.dns_name.proofs.Soundness.{merely-within}
use Rattle.dns_name.proofs.Spelled.{split_some}
use Rattle.dns_compress.specs.Tables.{added}
use Rattle.dns_compress.specs.Walk.{pointed_to, walked_text, IsWalked}
use Rattle.dns_compress.proofs.Sound.{sound_name, sound_of, found_near}
use Rattle.dns_compress.proofs.Texts.{wire_cut, text_walked, near_walked, far_walked}

-- the target of a pointer is near enough
target_near : {octets : List ℕ} (s : Spelling) (known : Known) (suffix : List (List ℕ)) (target : ℕ) → ∥ IsSound s known octets ∥₁
    → Some target ≡ pointed_to s known suffix → target < 16384
target_near s known [] target sound is = absurd (let e : Some target ≡ None = is in cc)
target_near s known (label ∷ parent) target sound is = found_near (wire (label ∷ parent)) target sound (sym is)

-- a pointer has room in the suffix that it stands for
target_long : (s : Spelling) (known : Known) (suffix : List (List ℕ)) (target : ℕ) → Some target ≡ pointed_to s known suffix → 2 ≤ length (wire suffix)
target_long s known [] target is = absurd (let e : Some target ≡ None = is in cc)
target_long s known (label ∷ parent) target is = omega (arith, length-append label (wire parent), wire_some parent)
  where
    wire_some : (name : List (List ℕ)) → 1 ≤ length (wire name)
    wire_some [] = omega arith
    wire_some (label ∷ parent) = omega arith

module _ (s : Spelling) (known : Known) (octets : List ℕ) (name : List (List ℕ)) (labels front : ℕ) (near : Bool) (target : Option ℕ)
    (walked : IsWalked s known (length known + 0) (length octets) name labels front near target) where
  counts : length known + 0 ≡ length known
  counts = omega arith

  pub leads_near : ∥ IsSound s known octets ∥₁ → ForSome target (λ place. place < 16384)
  leads_near sound place is = target_near s known (drop labels name) place sound (sym is ∙ walked.leads)

  pub leads_long : ForSome target (λ place. front + 2 ≤ length (wire name))
  leads_long = λ place is.
      let cut = ap (length {A = ℕ}) (wire_cut labels name) in
      omega (arith, target_long s known (drop labels name) place (sym is ∙ walked.leads), walked.long, cut, length-append (labels_wire (take labels name)) (wire (drop labels name)))

  pub text_is : (wires : List ℕ) → wires ≡ wire name → walked_text wires front target ≡ name_text s known (length octets) name
  text_is wires is =
      ap (λ (l : List ℕ). walked_text l front target) is
      ∙ sym (text_walked s known (length known + 0) (length octets) name labels front near target walked counts)

  module _ (wires new : List ℕ) (is : wires ≡ wire name) (appended : new ≡ octets ++ walked_text wires front target) where
    pub named : new ≡ octets ++ name_text s known (length octets) name
    named = appended ∙ ap (λ (l : List ℕ). octets ++ l) (text_is wires is)

    ends : (stop : ℕ) → stop ≡ length new → stop ≡ length octets + length (name_text s known (length octets) name)
    ends stop at = at ∙ ap (length {A = ℕ}) named ∙ length-append octets (name_text s known (length octets) name)

    module _ (place stop : ℕ) (begins : place ≡ length octets) (at : stop ≡ length new) where
      pub near_known : near ≡ true → known_after s known (length octets) name ≡ known ++ added s labels place stop name
      near_known all =
          near_walked s known (length known + 0) (length octets) name labels front near target walked counts stop (ends stop at) all
          ∙ ap (λ n. known ++ added s labels n stop name) (sym begins)

      pub sound_near : near ≡ true → IsName name → ∥ IsSound s known octets ∥₁ → ∥ IsSound s (known ++ added s labels place stop name) new ∥₁
      sound_near all is_name sound = sound_of (sym (near_known all)) (sound_name name new is_name named sound)

      pub longer : place < stop
      unfolding name_text
      longer =
          let split = split_from s known (length known) (length octets) name in
          omega (arith, ends stop at, begins, split_some s known split.labels split.suffix)

      -- what the table remembers of the new octets as they are seen, and what it then remembers
      module _ (known_of : List ℕ → Known) (seen : List ℕ) (seen_is : seen ≡ new) (kept : known_of new ≡ known) where
        same_known : known_of seen ≡ known
        same_known = ap known_of seen_is ∙ kept

        pub sound_seen : near ≡ true → IsName name → ∥ IsSound s known octets ∥₁
            → ∥ IsSound s (known_of seen ++ added s labels place stop name) seen ∥₁
        sound_seen all is_name sound =
            subst (λ (l : Known). ∥ IsSound s (l ++ added s labels place stop name) seen ∥₁) (sym same_known)
            (subst (λ l. ∥ IsSound s (known ++ added s labels place stop name) l ∥₁) (sym seen_is) (sound_near all is_name sound))

        pub order_seen : ∥ IsSound s known octets ∥₁ → (standing : Standing) → IsKnown standing (known_of seen) → standing.stop ≤ place
        order_seen sound standing there =
            let e = merely-within sound standing (subst (λ (l : Known). IsKnown standing l) same_known there) in
            omega (arith, begins)

        pub known_done : (new_of : List ℕ → Known) → near ≡ true → new_of seen ≡ known_of seen ++ added s labels place stop name
            → new_of new ≡ known_after s known (length octets) name
        known_done new_of all done =
            ap new_of (sym seen_is) ∙ done ∙ ap (λ (l : Known). l ++ added s labels place stop name) same_known ∙ sym (near_known all)

        pub sound_done : (new_of : List ℕ → Known) → near ≡ true → new_of seen ≡ known_of seen ++ added s labels place stop name
            → IsName name → ∥ IsSound s known octets ∥₁ → ∥ IsSound s (new_of new) new ∥₁
        sound_done new_of all done is_name sound = sound_of (known_done new_of all done) (sound_name name new is_name named sound)

    pub far_known : near ≡ false → known_after s known (length octets) name ≡ known
    far_known some = far_walked s known (length known + 0) (length octets) name labels front near target walked counts some

-- the same for an equal name
module _ (s : Spelling) (known : Known) (octets : List ℕ) {name other : List (List ℕ)} (same : name ≡ other) where
  pub text_of : {T E : Type 0} (result : Result T E) (new : List ℕ) → OnOk result (new ≡ octets ++ name_text s known (length octets) name)
      → OnOk result (new ≡ octets ++ name_text s known (length octets) other)
  text_of result new text = subst (λ (n : List (List ℕ)). OnOk result (new ≡ octets ++ name_text s known (length octets) n)) same text

  pub known_of_name : {T E : Type 0} (result : Result T E) (new : Known) → OnOk result (new ≡ known_after s known (length octets) name)
      → OnOk result (new ≡ known_after s known (length octets) other)
  known_of_name result new knows = subst (λ (n : List (List ℕ)). OnOk result (new ≡ known_after s known (length octets) n)) same knows

  pub past_of : (bound : Option ℕ) → IsPast bound (length (octets ++ name_text s known (length octets) name))
      → IsPast bound (length (octets ++ name_text s known (length octets) other))
  past_of bound past = subst (λ (n : List (List ℕ)). IsPast bound (length (octets ++ name_text s known (length octets) n))) same past
