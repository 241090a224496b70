-- What a spelling writes that does not fold is itself free: so the cost is attained.
use Rattle.std.proofs.Common.{◌≡◌, ℕ, ◌≤◌, ◌+◌, ◌/◌, ◌%◌, ◌⊎◌, inl, inr, Bool, true, false, Option, Some, None, List, [], ◌∷◌, ◌++◌, length, take, drop, refl, sym, ap, ◌∙◌, subst, arith, append_assoc, append-nil, length-append, length-take}
use Rattle.std.specs.Prelude.{if◌then◌else◌}
use Rattle.std.specs.List.{list_all}
use Rattle.std.specs.Int.{to_be_bytes, w16}
use Rattle.std.proofs.Math.Seq.{take-append_seam}
use Rattle.std.proofs.lemmas.List.{drop-take}
use Rattle.dns_octets.specs.Builder.{Standing, Known}
use Rattle.dns_label.specs.Name.{wire}
use Rattle.dns_label.proofs.Spelling.{drop_behind}
use Rattle.dns_name.specs.Spelling.{Spelling, remembered_form, is_same, place_in, may_stand, split_from, split_text, name_text, if_near, known_after, is_near}
use Rattle.dns_name.specs.Page.{Page, Parts}
use Rattle.dns_name.specs.Page.Parts.{End, Octets, Named, Counted}
use Rattle.dns_compression_laws.proofs.Tails.{tail, write_is}
use Rattle.dns_compression_laws.specs.Free.{Stand, IsOneOf, SpellsNameFreely, SpellsFreely, IsFree}
use Rattle.dns_compression_laws.specs.Free.IsOneOf.{first, later}
use Rattle.dns_compression_laws.specs.Free.SpellsNameFreely.{root, label, pointer}
use Rattle.dns_compression_laws.specs.Free.SpellsFreely.{nothing, octets, named, counted}
use Rattle.dns_name.specs.RecordData.{page_of}
use Rattle.dns_compression_laws.specs.Cost.{written}
use Rattle.dns_compression_laws.proofs.Sameness.{exact_form}
use Rattle.dns_compression_laws.proofs.Texts.{text_by, text_from, added_by, added_from, text_is, known_is}

one-append_left : {one : Stand} {a : List Stand} (b : List Stand) → IsOneOf one a → IsOneOf one (a ++ b)
one-append_left b first = first
one-append_left b (later is) = later (one-append_left b is)

one-append_right : {one : Stand} (a : List Stand) {b : List Stand} → IsOneOf one b → IsOneOf one (a ++ b)
one-append_right [] is = is
one-append_right (other ∷ a) is = later (one-append_right a is)

-- what is remembered is in the message
abbrev pub Stood : Spelling → Known → List Stand → Type 0
Stood s known before = (l : List ℕ) (p : List (List ℕ)) (place : ℕ) → place_in s known (wire (l ∷ p)) ≡ Some place
    → IsOneOf (record { label = l; parent = p; place = place }) before

-- a name's text is free
pub record IsFreeName (s : Spelling) (whole : List ℕ) (before : List Stand) (place : ℕ) (name : List (List ℕ)) (text : List ℕ) (added : Known) : Type 0 where
  pub own : List Stand
  pub spelled : SpellsNameFreely whole before place name own (place + length text)
  pub stood : Stood s added own

wire_free : (s : Spelling) (whole : List ℕ) (before : List Stand) (place : ℕ) (name : List (List ℕ)) (rest : List ℕ) → drop place whole ≡ wire name ++ rest
    → IsFreeName s whole before place name (wire name) []
wire_free s whole before place [] rest at = record { own = []; spelled = root rest at; stood = λ l p there e. absurd (let n : None ≡ Some there = e in cc) }
wire_free s whole before place (text ∷ name) rest at =
    let here : drop place whole ≡ length text ∷ text ++ (wire name ++ rest) = at ∙ append_assoc (length text ∷ text) (wire name) rest in
    let next : drop (place + 1 + length text) whole ≡ wire name ++ rest = drop_behind whole place _ (length text ∷ text) (wire name ++ rest) here (omega arith) in
    let on = wire_free s whole before (place + 1 + length text) name rest next in
    let own : List Stand = record { label = text; parent = name; place = place } ∷ on.own in
    let P : ℕ → Type 0 = λ n. SpellsNameFreely whole before place (text ∷ name) own n in
    record {
      own = own;
      spelled = subst P (omega (arith, length-append text (wire name))) (label text (wire name ++ rest) here on.spelled);
      stood = λ l p there e. absurd (let n : None ≡ Some there = e in cc);
    }

-- parts are free at the place of their octets
pub record AreFreeParts (s : Spelling) (whole : List ℕ) (before : List Stand) (place : ℕ) (parts : Parts) (text : Page) : Type 0 where
  pub after : List Stand
  pub spelled : SpellsFreely whole before place parts after (place + length text.octets)
  pub stood : Stood s text.known after

module _ (s : Spelling) (exact : s.folds ≡ false) where
  -- the first suffix added, and those after it
  stood_more : (text : List ℕ) (name : List (List ℕ)) (place stop : ℕ) (added : Known) (own : List Stand) → Stood s added own
      → Stood s (record { suffix = remembered_form s (text ∷ name); place = place; stop = stop } ∷ added) (record { label = text; parent = name; place = place } ∷ own)
  stood_more text name place stop added own on l p there e = by_test (is_same s (remembered_form s (text ∷ name)) (wire (l ∷ p))) refl
    where
      by_test : (test : Bool) → is_same s (remembered_form s (text ∷ name)) (wire (l ∷ p)) ≡ test
          → IsOneOf (record { label = l; parent = p; place = there }) (record { label = text; parent = name; place = place } ∷ own)
      by_test true is =
          let names : text ∷ name ≡ l ∷ p = exact_form s exact (text ∷ name) (l ∷ p) is in
          let labels : text ≡ l = cc in
          let parents : name ≡ p = cc in
          let found : Some place ≡ Some there = rw is at e in
          let places : place ≡ there = cc in
          let one : Stand = record { label = text; parent = name; place = place } in
          let same : one ≡ record { label = l; parent = p; place = there } = λ i. record { label = labels i; parent = parents i; place = places i } in
          let Q : Stand → Type 0 = λ r. IsOneOf r (one ∷ own) in
          subst Q same first
      by_test false is = later (on l p there (rw is at e))

  free_by : (whole : List ℕ) (before : List Stand) (place stop : ℕ) (text : List ℕ) (name : List (List ℕ)) (found : Option ℕ) (there : Bool) (behind rest : List ℕ) (added : Known)
      → ((target : ℕ) → found ≡ Some target → IsOneOf (record { label = text; parent = name; place = target }) before)
      → ((rest : List ℕ) → drop (place + 1 + length text) whole ≡ behind ++ rest → IsFreeName s whole before (place + 1 + length text) name behind added)
      → drop place whole ≡ text_by found there (wire (text ∷ name)) (length text ∷ text ++ behind) ++ rest
      → IsFreeName s whole before place (text ∷ name) (text_by found there (wire (text ∷ name)) (length text ∷ text ++ behind))
      (added_by found there (record { suffix = remembered_form s (text ∷ name); place = place; stop = stop }) added)
  free_by whole before place stop text name (Some target) there behind rest added goes on at = record {
    own = record { label = text; parent = name; place = place } ∷ [];
    spelled = pointer (192 + target / 256) (target % 256) rest (record { label = text; parent = name; place = target }) at (omega arith) (omega arith) (goes target refl);
    stood = λ l p there e. absurd (let n : None ≡ Some there = e in cc);
  }
  free_by whole before place stop text name None false behind rest added goes on at = wire_free s whole before place (text ∷ name) rest at
  free_by whole before place stop text name None true behind rest added goes on at =
      let here : drop place whole ≡ length text ∷ text ++ (behind ++ rest) = at ∙ append_assoc (length text ∷ text) behind rest in
      let next : drop (place + 1 + length text) whole ≡ behind ++ rest = drop_behind whole place _ (length text ∷ text) (behind ++ rest) here (omega arith) in
      let more = on rest next in
      let own : List Stand = record { label = text; parent = name; place = place } ∷ more.own in
      let P : ℕ → Type 0 = λ n. SpellsNameFreely whole before place (text ∷ name) own n in
      record {
        own = own;
        spelled = subst P (omega (arith, length-append text behind)) (label text (behind ++ rest) here more.spelled);
        stood = stood_more text name place stop added more.own more.stood;
      }

  pub name_free : (known : Known) (before : List Stand) → Stood s known before → (count place stop : ℕ) (name : List (List ℕ)) (whole rest : List ℕ)
      → drop place whole ≡ text_from s known count place name ++ rest
      → IsFreeName s whole before place name (text_from s known count place name) (added_from s known count place stop name)
  unfolding text_from added_from
  name_free known before stood count place stop [] whole rest at =
      record { own = []; spelled = root rest at; stood = λ l p there e. absurd (let n : None ≡ Some there = e in cc) }
  name_free known before stood count place stop (text ∷ name) whole rest at =
      free_by whole before place stop text name (place_in s known (wire (text ∷ name))) (may_stand s count place)
      (text_from s known (count + 1) (place + 1 + length text) name) rest (added_from s known (count + 1) (place + 1 + length text) stop name)
      (λ target e. stood text name target e)
      (λ more next. name_free known before stood (count + 1) (place + 1 + length text) stop name whole more next) at

  pub found_cases : (known more : Known) (x : List ℕ) (place : ℕ) → place_in s (known ++ more) x ≡ Some place
      → (place_in s known x ≡ Some place) ⊎ (place_in s more x ≡ Some place)
  found_cases [] more x place e = inr e
  found_cases (one ∷ known) more x place e = by_test (is_same s one.suffix x) refl (found_cases known more x place)
    where
      by_test : (test : Bool) → is_same s one.suffix x ≡ test
          → (place_in s (known ++ more) x ≡ Some place → (place_in s known x ≡ Some place) ⊎ (place_in s more x ≡ Some place))
          → (place_in s (one ∷ known) x ≡ Some place) ⊎ (place_in s more x ≡ Some place)
      by_test true is on = let found : Some one.place ≡ Some place = rw is at e in inl (rw is found)
      by_test false is on = let found : place_in s (known ++ more) x ≡ Some place = rw is at e in more_case (on found)
        where
          more_case : (place_in s known x ≡ Some place) ⊎ (place_in s more x ≡ Some place)
              → (place_in s (one ∷ known) x ≡ Some place) ⊎ (place_in s more x ≡ Some place)
          more_case (inl here) = inl (rw is here)
          more_case (inr there) = inr there

  near_stood : (added : Known) (own : List Stand) → Stood s added own → Stood s (if_near added) own
  near_stood added own on = by_test (list_all (λ (standing : Standing). is_near standing.place) added)
    where
      by_test : (test : Bool) → Stood s (if test then added else []) own
      by_test true l p there e = on l p there e
      by_test false l p there e = absurd (let n : None ≡ Some there = e in cc)

  stop_of : Known → ℕ → List (List ℕ) → ℕ
  stop_of known place name = place + length (split_text s known (split_from s known (length known) place name))

  stood_after : (known : Known) (before : List Stand) (place : ℕ) (name : List (List ℕ)) (own : List Stand) → Stood s known before
      → Stood s (added_from s known (length known) place (stop_of known place name) name) own
      → Stood s (known_after s known place name) (own ++ before)
  unfolding stop_of
  stood_after known before place name own on more =
      let added : Known = added_from s known (length known) place (stop_of known place name) name in
      let both : Stood s (known ++ if_near added) (own ++ before) = λ l p there e.
      elim (found_cases known (if_near added) (wire (l ∷ p)) there e) [
        | inl here ↦ one-append_right own (on l p there here)
        | inr new ↦ one-append_left before (near_stood added own more l p there new)
      ] in
      let P : Known → Type 0 = λ k. Stood s k (own ++ before) in
      subst P (sym (known_is s known place name)) both

  name_text_free : (known : Known) (before : List Stand) → Stood s known before → (place : ℕ) (name : List (List ℕ)) (whole rest : List ℕ)
      → drop place whole ≡ name_text s known place name ++ rest
      → IsFreeName s whole before place name (name_text s known place name) (added_from s known (length known) place (stop_of known place name) name)
  name_text_free known before on place name whole rest at =
      let is = text_is s known place name in
      let added : Known = added_from s known (length known) place (stop_of known place name) name in
      let P : List ℕ → Type 0 = λ l. IsFreeName s whole before place name l added in
      subst P (sym is) (name_free known before on (length known) place (stop_of known place name) name whole rest (at ∙ ap (λ (l : List ℕ). l ++ rest) is))

  pub parts_free : (known : Known) (before : List Stand) → Stood s known before → (place : ℕ) (parts : Parts) (whole rest : List ℕ)
      → drop place whole ≡ (tail s known place parts).octets ++ rest
      → place + length (tail s known place parts).octets ≤ length whole
      → AreFreeParts s whole before place parts (tail s known place parts)
  parts_free known before on place End whole rest at within =
      let P : ℕ → Type 0 = λ n. SpellsFreely whole before place End before n in
      record { after = before; spelled = subst P (omega arith) (nothing (omega arith)); stood = on }
  parts_free known before on place (Octets text parts) whole rest at within =
      let t : Page = tail s known (place + length text) parts in
      let here : drop place whole ≡ text ++ (t.octets ++ rest) = at ∙ append_assoc text t.octets rest in
      let long = length-append text t.octets in
      let more = parts_free known before on (place + length text) parts whole rest (drop_behind whole place _ text (t.octets ++ rest) here refl) (omega arith) in
      let P : ℕ → Type 0 = λ n. SpellsFreely whole before place (Octets text parts) more.after n in
      record { after = more.after; spelled = subst P (omega arith) (octets text (t.octets ++ rest) here more.spelled); stood = more.stood }
  parts_free known before on place (Named name parts) whole rest at within =
      let text : List ℕ = name_text s known place name in
      let t : Page = tail s (known_after s known place name) (place + length text) parts in
      let here : drop place whole ≡ text ++ (t.octets ++ rest) = at ∙ append_assoc text t.octets rest in
      let long = length-append text t.octets in
      let one = name_text_free known before on place name whole (t.octets ++ rest) here in
      let more = parts_free (known_after s known place name) (one.own ++ before) (stood_after known before place name one.own on one.stood)
      (place + length text) parts whole rest (drop_behind whole place _ text (t.octets ++ rest) here refl) (omega arith) in
      let P : ℕ → Type 0 = λ n. SpellsFreely whole before place (Named name parts) more.after n in
      record { after = more.after; spelled = subst P (omega arith) (named one.own (place + length text) one.spelled more.spelled); stood = more.stood }
  parts_free known before on place (Counted inner parts) whole rest at within =
      let t : Page = tail s known (place + 2) inner in
      let n : ℕ = length t.octets in
      let u : Page = tail s t.known (place + 2 + n) parts in
      let mark : List ℕ = to_be_bytes w16 n in
      let here : drop place whole ≡ mark ++ (t.octets ++ (u.octets ++ rest)) =
      at ∙ append_assoc (mark ++ t.octets) u.octets rest ∙ append_assoc mark t.octets (u.octets ++ rest) in
      let inside : drop (place + 2) whole ≡ t.octets ++ (u.octets ++ rest) = drop_behind whole place _ mark (t.octets ++ (u.octets ++ rest)) here refl in
      let long = length-append (mark ++ t.octets) u.octets in
      let cut : drop (place + 2) (take (place + 2 + n) whole) ≡ t.octets ++ [] =
      drop-take (place + 2) n whole ∙ ap (take n) inside ∙ take-append_seam t.octets (u.octets ++ rest) ∙ sym (append-nil t.octets) in
      let cut_long = length-take (place + 2 + n) whole in
      let own = parts_free known before on (place + 2) inner (take (place + 2 + n) whole) [] cut (omega arith) in
      let more = parts_free t.known own.after own.stood (place + 2 + n) parts whole rest
      (drop_behind whole (place + 2) _ t.octets (u.octets ++ rest) inside refl) (omega arith) in
      let P : ℕ → Type 0 = λ k. SpellsFreely whole before place (Counted inner parts) more.after k in
      record {
        after = more.after;
        spelled = subst P (omega arith) (counted {after = more.after} n (t.octets ++ (u.octets ++ rest)) own.after here (omega arith) own.spelled more.spelled);
        stood = more.stood;
      }

  -- What is written is free.
  pub own_is_free : (parts : Parts) → IsFree (written s parts) parts
  own_is_free parts =
      let whole : List ℕ = (tail s [] 0 parts).octets in
      let is : written s parts ≡ whole = ap (λ (p : Page). p.octets) (write_is s (page_of [] []) parts) in
      let free = parts_free [] [] (λ l p there e. absurd (let n : None ≡ Some there = e in cc)) 0 parts whole [] (sym (append-nil whole)) (omega arith) in
      let P : ℕ → Type 0 = λ n. SpellsFreely whole [] 0 parts free.after n in
      let Q : List ℕ → Type 0 = λ o. IsFree o parts in
      subst Q (sym is) (record { after = free.after; spelled = subst P (omega arith) free.spelled })
