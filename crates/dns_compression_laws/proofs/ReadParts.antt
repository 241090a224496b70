-- A reader returns the parts that were written, names as the spelling compares them.
use Rattle.std.proofs.Common.{◌≡◌, ℕ, ◌≤◌, ◌<◌, ◌+◌, ◌^◌, false, List, [], ◌∷◌, ◌++◌, length, take, drop, map, refl, sym, ap, ◌∙◌, subst, arith, append_assoc, append-nil, length-append}
use Rattle.std.specs.Prelude.{⊤}
use Rattle.std.specs.Int.{to_be_bytes, w16}
use Rattle.std.proofs.Math.Seq.{take-append_seam, drop-append_seam}
use Rattle.dns_octets.specs.Builder.{Known}
use Rattle.dns_label.specs.Name.{IsName}
use Rattle.dns_label.specs.Spelled.{DecodesName}
use Rattle.dns_name.specs.Spelling.{Spelling, folded, name_text, known_after}
use Rattle.dns_name.specs.Page.{Page, Parts, with_octets, with_name, write}
use Rattle.dns_name.specs.Page.Parts.{End, Octets, Named, Counted}
use Rattle.dns_name.specs.RecordData.{counted_length}
use Rattle.dns_name.specs.Remembered.{IsSound}
use Rattle.dns_name.specs.SpelledParts.{SpellsParts}
use Rattle.dns_name.specs.SpelledParts.SpellsParts.{nothing, octets as spells_octets, named as spells_named, counted as spells_counted}
use Rattle.dns_name.proofs.Soundness.{IsSound-append, IsSound-name}
use Rattle.dns_compression_laws.specs.Alike.{AreAlike, HaveNames, LengthsFit, SpellsAlike}
use Rattle.dns_compression_laws.specs.Alike.AreAlike.{end, octets as alike_octets, named as alike_named, counted as alike_counted}
use Rattle.dns_compression_laws.proofs.Standings.{name_read}
use Rattle.dns_compression_laws.proofs.Tails.{behind, tail, write_is}

-- each written length fits its two octets, stated for what the parts add
abbrev pub TailsFit : Spelling → Known → ℕ → Parts → Type 0
TailsFit s known place End = ⊤
TailsFit s known place (Octets text parts) = TailsFit s known (place + length text) parts
TailsFit s known place (Named name parts) = TailsFit s (known_after s known place name) (place + length (name_text s known place name)) parts
TailsFit s known place (Counted inner parts) =
    (length (tail s known (place + 2) inner).octets < 2 ^ 16) × TailsFit s known (place + 2) inner
    × TailsFit s (tail s known (place + 2) inner).known (place + 2 + length (tail s known (place + 2) inner).octets) parts

-- the page after some octets has a known length and known suffixes
module _ (s : Spelling) where
  at_page : (page : Page) (known : Known) (place : ℕ) (parts : Parts) → page.known ≡ known → length page.octets ≡ place
      → TailsFit s page.known (length page.octets) parts → TailsFit s known place parts
  at_page page known place parts knows long fits =
      subst (λ n. TailsFit s known n parts) long (subst (λ k. TailsFit s k (length page.octets) parts) knows fits)

  pub tails_fit : (page : Page) (parts : Parts) → LengthsFit s page parts → TailsFit s page.known (length page.octets) parts
  tails_fit page End fits = tt
  tails_fit page (Octets text parts) fits =
      at_page (with_octets page text) page.known (length page.octets + length text) parts refl (length-append page.octets text)
      (tails_fit (with_octets page text) parts fits)
  tails_fit page (Named name parts) fits =
      let text : List ℕ = name_text s page.known (length page.octets) name in
      at_page (with_name s page name) (known_after s page.known (length page.octets) name) (length page.octets + length text) parts refl
      (length-append page.octets text) (tails_fit (with_name s page name) parts fits)
  tails_fit page (Counted inner parts) fits =
      let o : List ℕ = page.octets in
      let t : Page = tail s page.known (length o + 2) inner in
      let inside : write s (with_octets page (0 ∷ 0 ∷ [])) inner ≡ behind (o ++ 0 ∷ 0 ∷ []) t =
      write_is s (with_octets page (0 ∷ 0 ∷ [])) inner
      ∙ ap (λ (n : ℕ). behind (o ++ 0 ∷ 0 ∷ []) (tail s page.known n inner)) (length-append o (0 ∷ 0 ∷ [])) in
      let count : counted_length s page inner ≡ length t.octets =
      omega (arith, ap (λ (p : Page). length p.octets) inside, length-append (o ++ 0 ∷ 0 ∷ []) t.octets, length-append o (0 ∷ 0 ∷ [])) in
      let whole : write s page (Counted inner End) ≡ behind o (tail s page.known (length o) (Counted inner End)) = write_is s page (Counted inner End) in
      let mark : List ℕ = to_be_bytes w16 (length t.octets) in (
        omega (arith, fits.0, count),
        at_page (with_octets page (0 ∷ 0 ∷ [])) page.known (length o + 2) inner refl (length-append o (0 ∷ 0 ∷ [])) (tails_fit (with_octets page (0 ∷ 0 ∷ [])) inner fits.1),
        at_page (write s page (Counted inner End)) t.known (length o + 2 + length t.octets) parts (ap (λ (p : Page). p.known) whole)
            (ap (λ (p : Page). length p.octets) whole ∙ length-append o ((mark ++ t.octets) ++ []) ∙ ap (λ (l : List ℕ). length o + length l) (append-nil (mark ++ t.octets))
            ∙ ap (λ n. length o + n) (length-append mark t.octets) ∙ omega arith)
            (tails_fit (write s page (Counted inner End)) parts fits.2),
      )

-- a name at the end of the octets
name_at : (s : Spelling) (known : Known) (octets : List ℕ) (place : ℕ) → place ≡ length octets → (name : List (List ℕ)) → IsSound s known octets → IsName name
    → IsSound s (known_after s known place name) (octets ++ name_text s known place name)
    × ((more : List ℕ) → (read : List (List ℕ)) × (map (folded s) name ≡ map (folded s) read)
    × DecodesName (octets ++ (name_text s known place name ++ more)) place read (place + length (name_text s known place name)))
name_at s known octets place is name sound is_name =
    let P : ℕ → Type 0 = λ n. IsSound s (known_after s known n name) (octets ++ name_text s known n name)
    × ((more : List ℕ) → (read : List (List ℕ)) × (map (folded s) name ≡ map (folded s) read)
    × DecodesName (octets ++ (name_text s known n name ++ more)) n read (n + length (name_text s known n name))) in
    subst P (sym is) (IsSound-name name is_name sound, λ more. name_read s known octets more name sound is_name)

-- octets joined one after another
joined : (front text more rest : List ℕ) → (front ++ text) ++ (more ++ rest) ≡ front ++ ((text ++ more) ++ rest)
joined front text more rest = append_assoc front text (more ++ rest) ∙ ap (λ l. front ++ l) (sym (append_assoc text more rest))

ends : (front text : List ℕ) (place : ℕ) → place ≡ length front → place + length text ≡ length (front ++ text)
ends front text place is = omega (arith, length-append front text)

found_at : (front text rest : List ℕ) (place : ℕ) → place ≡ length front → drop place (front ++ (text ++ rest)) ≡ text ++ rest
found_at front text rest place is = ap (λ n. drop n (front ++ (text ++ rest))) is ∙ drop-append_seam front (text ++ rest)

-- each suffix remembered after the parts is in the octets
parts_sound : (s : Spelling) (known : Known) (octets : List ℕ) (place : ℕ) → place ≡ length octets → (parts : Parts) → IsSound s known octets
    → HaveNames parts → IsSound s (tail s known place parts).known (octets ++ (tail s known place parts).octets)
parts_sound s known octets place is End sound names = IsSound-append [] sound
parts_sound s known octets place is (Octets text parts) sound names =
    let t : Page = tail s known (place + length text) parts in
    subst (λ l. IsSound s t.known l) (append_assoc octets text t.octets)
    (parts_sound s known (octets ++ text) (place + length text) (ends octets text place is) parts (IsSound-append text sound) names)
parts_sound s known octets place is (Named name parts) sound names =
    let text : List ℕ = name_text s known place name in
    let t : Page = tail s (known_after s known place name) (place + length text) parts in
    subst (λ l. IsSound s t.known l) (append_assoc octets text t.octets)
    (parts_sound s (known_after s known place name) (octets ++ text) (place + length text) (ends octets text place is) parts
    (name_at s known octets place is name sound names.0).0 names.1)
parts_sound s known octets place is (Counted inner parts) sound names =
    let t : Page = tail s known (place + 2) inner in
    let n : ℕ = length t.octets in
    let u : Page = tail s t.known (place + 2 + n) parts in
    let mark : List ℕ = to_be_bytes w16 n in
    let own = parts_sound s known (octets ++ mark) (place + 2) (ends octets mark place is) inner (IsSound-append mark sound) names.0 in
    let front : IsSound s t.known (octets ++ (mark ++ t.octets)) = subst (λ l. IsSound s t.known l) (append_assoc octets mark t.octets) own in
    subst (λ l. IsSound s u.known l) (append_assoc octets (mark ++ t.octets) u.octets)
    (parts_sound s t.known (octets ++ (mark ++ t.octets)) (place + 2 + n)
    (omega (arith, is, length-append octets (mark ++ t.octets), length-append mark t.octets)) parts front names.1)

-- the parts are read, whatever follows what they add
pub parts_read : (s : Spelling) (known : Known) (octets : List ℕ) (place : ℕ) → place ≡ length octets → (parts : Parts) → IsSound s known octets
    → HaveNames parts → TailsFit s known place parts → (more : List ℕ)
    → SpellsAlike s (octets ++ ((tail s known place parts).octets ++ more)) place parts (place + length (tail s known place parts).octets)
parts_read s known octets place is End sound names fits more = record {
  read = End;
  alike = end;
  spelled = subst (λ n. SpellsParts (octets ++ more) place End n) (omega arith) (nothing (omega (arith, is, length-append octets more)));
}
parts_read s known octets place is (Octets text parts) sound names fits more =
    let t : Page = tail s known (place + length text) parts in
    let found = parts_read s known (octets ++ text) (place + length text) (ends octets text place is) parts (IsSound-append text sound) names fits more in
    let message : List ℕ = octets ++ ((text ++ t.octets) ++ more) in
    let at : drop place message ≡ text ++ (t.octets ++ more) =
    ap (λ l. drop place (octets ++ l)) (append_assoc text t.octets more) ∙ found_at octets text (t.octets ++ more) place is in
    record {
      read = Octets text found.read;
      alike = alike_octets text found.alike;
      spelled = subst (λ n. SpellsParts message place (Octets text found.read) n) (omega (arith, length-append text t.octets))
          (spells_octets (t.octets ++ more) at
          (subst (λ m. SpellsParts m (place + length text) found.read (place + length text + length t.octets)) (joined octets text t.octets more) found.spelled));
    }
parts_read s known octets place is (Named name parts) sound names fits more =
    let text : List ℕ = name_text s known place name in
    let t : Page = tail s (known_after s known place name) (place + length text) parts in
    let one = name_at s known octets place is name sound names.0 in
    let found = parts_read s (known_after s known place name) (octets ++ text) (place + length text) (ends octets text place is) parts one.0 names.1 fits more in
    let own = one.1 (t.octets ++ more) in
    let message : List ℕ = octets ++ ((text ++ t.octets) ++ more) in
    record {
      read = Named own.0 found.read;
      alike = alike_named own.1 found.alike;
      spelled = subst (λ n. SpellsParts message place (Named own.0 found.read) n) (omega (arith, length-append text t.octets))
          (spells_named (place + length text)
          (subst (λ l. DecodesName (octets ++ l) place own.0 (place + length text)) (sym (append_assoc text t.octets more)) own.2)
          (subst (λ m. SpellsParts m (place + length text) found.read (place + length text + length t.octets)) (joined octets text t.octets more) found.spelled));
    }
parts_read s known octets place is (Counted inner parts) sound names fits more =
    let t : Page = tail s known (place + 2) inner in
    let n : ℕ = length t.octets in
    let u : Page = tail s t.known (place + 2 + n) parts in
    let mark : List ℕ = to_be_bytes w16 n in
    let begun : IsSound s known (octets ++ mark) = IsSound-append mark sound in
    let here : place + 2 ≡ length (octets ++ mark) = ends octets mark place is in
    let inside = parts_read s known (octets ++ mark) (place + 2) here inner begun names.0 fits.1 [] in
    let front : IsSound s t.known (octets ++ (mark ++ t.octets)) =
    subst (λ l. IsSound s t.known l) (append_assoc octets mark t.octets) (parts_sound s known (octets ++ mark) (place + 2) here inner begun names.0) in
    let found = parts_read s t.known (octets ++ (mark ++ t.octets)) (place + 2 + n)
    (omega (arith, is, length-append octets (mark ++ t.octets), length-append mark t.octets)) parts front names.1 fits.2 more in
    let message : List ℕ = octets ++ (((mark ++ t.octets) ++ u.octets) ++ more) in
    let whole : (octets ++ (mark ++ t.octets)) ++ (u.octets ++ more) ≡ message = joined octets (mark ++ t.octets) u.octets more in
    let at : drop place message ≡ mark ++ (t.octets ++ (u.octets ++ more)) =
    ap (λ l. drop place (octets ++ l)) (append_assoc (mark ++ t.octets) u.octets more ∙ append_assoc mark t.octets (u.octets ++ more))
    ∙ found_at octets mark (t.octets ++ (u.octets ++ more)) place is in
    let cut_is : (octets ++ mark) ++ (t.octets ++ []) ≡ octets ++ (mark ++ t.octets) =
    ap (λ l. (octets ++ mark) ++ l) (append-nil t.octets) ∙ append_assoc octets mark t.octets in
    let cut_long : length (octets ++ (mark ++ t.octets)) ≡ place + 2 + n = omega (arith, is, length-append octets (mark ++ t.octets), length-append mark t.octets) in
    let cut : octets ++ (mark ++ t.octets) ≡ take (place + 2 + n) message =
    sym (take-append_seam (octets ++ (mark ++ t.octets)) (u.octets ++ more)) ∙ ap (λ k. take k ((octets ++ (mark ++ t.octets)) ++ (u.octets ++ more))) cut_long
    ∙ ap (take (place + 2 + n)) whole in
    let within : place + 2 + n ≤ length message =
    omega (arith, cut_long, ap (length {A = ℕ}) whole, length-append (octets ++ (mark ++ t.octets)) (u.octets ++ more)) in
    let long : place + 2 + n + length u.octets ≡ place + length ((mark ++ t.octets) ++ u.octets) =
    omega (arith, length-append (mark ++ t.octets) u.octets, length-append mark t.octets) in
    record {
      read = Counted inside.read found.read;
      alike = alike_counted inside.alike found.alike;
      spelled = subst (λ k. SpellsParts message place (Counted inside.read found.read) k) long
          (spells_counted n (t.octets ++ (u.octets ++ more)) at fits.0 within
          (subst (λ m. SpellsParts m (place + 2) inside.read (place + 2 + n)) (cut_is ∙ cut) inside.spelled)
          (subst (λ m. SpellsParts m (place + 2 + n) found.read (place + 2 + n + length u.octets)) whole found.spelled));
    }

module _ (s : Spelling) (page : Page) (parts : Parts) where
  is : write s page parts ≡ behind page.octets (tail s page.known (length page.octets) parts)
  is = write_is s page parts

  pub written_read : (more : List ℕ) → IsSound s page.known page.octets → HaveNames parts → LengthsFit s page parts
      → SpellsAlike s ((write s page parts).octets ++ more) (length page.octets) parts (length (write s page parts).octets)
  written_read more sound names fits =
      let t : Page = tail s page.known (length page.octets) parts in
      let found = parts_read s page.known page.octets (length page.octets) refl parts sound names (tails_fit s page parts fits) more in
      let octets_are : (write s page parts).octets ≡ page.octets ++ t.octets = ap (λ (p : Page). p.octets) is in
      subst (λ m. SpellsAlike s m (length page.octets) parts (length (write s page parts).octets))
      (sym (append_assoc page.octets t.octets more) ∙ sym (ap (λ l. l ++ more) octets_are))
      (subst (λ n. SpellsAlike s (page.octets ++ (t.octets ++ more)) (length page.octets) parts n)
      (sym (length-append page.octets t.octets) ∙ sym (ap (length {A = ℕ}) octets_are)) found)

  pub written_sound : IsSound s page.known page.octets → HaveNames parts → IsSound s (write s page parts).known (write s page parts).octets
  written_sound sound names =
      let t : Page = tail s page.known (length page.octets) parts in
      let kept : IsSound s t.known (page.octets ++ t.octets) = parts_sound s page.known page.octets (length page.octets) refl parts sound names in
      subst (λ (p : Page). IsSound s p.known p.octets) (sym is) kept

-- parts that are alike if nothing is folded

exact_names : (s : Spelling) (name other : List (List ℕ)) → s.folds ≡ false → map (folded s) name ≡ map (folded s) other → name ≡ other
exact_names s name other exact same = sym (unfolded name) ∙ same ∙ unfolded other
  where
    unfolded : (name : List (List ℕ)) → map (folded s) name ≡ name
    unfolded [] = refl
    unfolded (label ∷ parent) =
        let here : folded s label ≡ label = rw exact refl in
        ap (λ (l : List ℕ). l ∷ map (folded s) parent) here ∙ ap (λ (n : List (List ℕ)). label ∷ n) (unfolded parent)

pub exact_parts : (s : Spelling) (parts read : Parts) → s.folds ≡ false → AreAlike s parts read → parts ≡ read
exact_parts s _ _ exact end = refl
exact_parts s _ _ exact (alike_octets text alike) = ap (Octets text) (exact_parts s _ _ exact alike)
exact_parts s _ _ exact (alike_named {name} {other} {parts} {others} same alike) =
    ap (λ n. Named n parts) (exact_names s name other exact same) ∙ ap (Named other) (exact_parts s parts others exact alike)
exact_parts s _ _ exact (alike_counted {inner} {inside} {parts} {others} within alike) =
    ap (λ p. Counted p parts) (exact_parts s inner inside exact within) ∙ ap (Counted inside) (exact_parts s parts others exact alike)
