-- What is written depends on how many octets are before it and on what is remembered, but not on the octets.
use Rattle.std.proofs.Common.{◌≡◌, ◌+◌, ◌-◌, ℕ, List, [], ◌∷◌, ◌++◌, length, refl, sym, ◌∙◌, ap, arith, length-append, append_assoc}
use Rattle.std.proofs.lemmas.List.{append-nil}
use Rattle.std.specs.Int.{to_be_bytes, w16}
use Rattle.dns_octets.specs.Builder.{Known}
use Rattle.dns_name.specs.Spelling.{Spelling, name_text, known_after}
use Rattle.dns_name.specs.Remembered.{patched}
use Rattle.dns_name.specs.Page.{Page, Parts, with_octets, with_name, with_count, write}
use Rattle.dns_name.specs.Page.Parts.{End, Octets, Named, Counted}
use Rattle.dns_name.specs.RecordData.{page_of}
use Rattle.dns_builder.proofs.Patches.{patched_behind}
use Rattle.dns_builder.specs.Built.{write_all, starts_behind}

-- two pages have the same octets after two fronts, and remember the same
pub record SameBehind (front other : List ℕ) (page twin : Page) : Type 0 where
  pub tail : List ℕ
  pub octets : page.octets ≡ front ++ tail
  pub twin_octets : twin.octets ≡ other ++ tail
  pub known : twin.known ≡ page.known

pub same_length : {front other : List ℕ} {page twin : Page} → length front ≡ length other → SameBehind front other page twin
    → length twin.octets ≡ length page.octets
same_length {front} {other} long same =
    omega (arith, ap (length {A = ℕ}) same.octets, ap (length {A = ℕ}) same.twin_octets, length-append front same.tail, length-append other same.tail)

pub same_octets : {front other : List ℕ} {page twin : Page} (more : List ℕ) → SameBehind front other page twin
    → SameBehind front other (with_octets page more) (with_octets twin more)
same_octets {front} {other} more same = record {
  tail = same.tail ++ more;
  octets = ap (λ l. l ++ more) same.octets ∙ append_assoc front same.tail more;
  twin_octets = ap (λ l. l ++ more) same.twin_octets ∙ append_assoc other same.tail more;
  known = same.known;
}

pub same_name : {front other : List ℕ} {page twin : Page} (s : Spelling) (name : List (List ℕ)) → length front ≡ length other
    → SameBehind front other page twin → SameBehind front other (with_name s page name) (with_name s twin name)
same_name {front} {other} {page} {twin} s name long same =
    let place : length twin.octets ≡ length page.octets = same_length long same in
    let text : name_text s twin.known (length twin.octets) name ≡ name_text s page.known (length page.octets) name =
    ap (λ (k : Known). name_text s k (length twin.octets) name) same.known ∙ ap (λ n. name_text s page.known n name) place in
    let written : List ℕ = name_text s page.known (length page.octets) name in
    record {
      tail = same.tail ++ written;
      octets = ap (λ l. l ++ written) same.octets ∙ append_assoc front same.tail written;
      twin_octets = ap (λ l. twin.octets ++ l) text ∙ ap (λ l. l ++ written) same.twin_octets ∙ append_assoc other same.tail written;
      known = ap (λ (k : Known). known_after s k (length twin.octets) name) same.known
          ∙ ap (λ n. known_after s page.known n name) place;
    }

same_count : {front other : List ℕ} {page twin : Page} (place : ℕ) → length front ≡ length other → SameBehind front other page twin
    → SameBehind front other (with_count (length front + place) page) (with_count (length other + place) twin)
same_count {front} {other} {page} {twin} place long same =
    let over : List ℕ = to_be_bytes w16 (length page.octets - (length front + place + 2)) in
    let twin_over : to_be_bytes w16 (length twin.octets - (length other + place + 2)) ≡ over =
    ap (λ n. to_be_bytes w16 n) (omega (arith, same_length long same)) in
    record {
      tail = patched same.tail place over;
      octets = ap (λ l. patched l (length front + place) over) same.octets ∙ patched_behind front same.tail place over;
      twin_octets = ap (λ l. patched twin.octets (length other + place) l) twin_over
          ∙ ap (λ l. patched l (length other + place) over) same.twin_octets ∙ patched_behind other same.tail place over;
      known = same.known;
    }

-- parts after the two octets that count them
same_counted : {front other : List ℕ} {page twin counted twin_counted : Page} → length front ≡ length other → SameBehind front other page twin
    → SameBehind front other counted twin_counted
    → SameBehind front other (with_count (length page.octets) counted) (with_count (length twin.octets) twin_counted)
same_counted {front} {other} {page} {twin} long same inner =
    rw (ap (length {A = ℕ}) same.octets ∙ length-append front same.tail, ap (length {A = ℕ}) same.twin_octets ∙ length-append other same.tail)
    (same_count (length same.tail) long inner)

pub same_write : (s : Spelling) (parts : Parts) {front other : List ℕ} {page twin : Page} → length front ≡ length other
    → SameBehind front other page twin → SameBehind front other (write s page parts) (write s twin parts)
unfolding write
same_write s End long same = same
same_write s (Octets more parts) long same = same_write s parts long (same_octets more same)
same_write s (Named name parts) long same = same_write s parts long (same_name s name long same)
same_write s (Counted inner parts) long same =
    same_write s parts long (same_counted long same (same_write s inner long (same_octets (0 ∷ 0 ∷ []) same)))

pub same_all : (s : Spelling) (items : List Parts) {front other : List ℕ} {page twin : Page} → length front ≡ length other
    → SameBehind front other page twin → SameBehind front other (write_all s page items) (write_all s twin items)
same_all s [] long same = same
same_all s (item ∷ items) long same = same_all s items long (same_write s item long same)

-- sections begin at the same places
pub same_starts : (s : Spelling) (sections : List (List Parts)) {front other : List ℕ} {page twin : Page} → length front ≡ length other
    → SameBehind front other page twin → starts_behind s twin sections ≡ starts_behind s page sections
same_starts s [] long same = refl
same_starts s (items ∷ sections) {page = page} {twin = twin} long same =
    ap (λ n. n ∷ starts_behind s (write_all s twin items) sections) (same_length long same)
    ∙ ap (λ (l : List ℕ). length page.octets ∷ l) (same_starts s sections long (same_all s items long same))

-- nothing follows the fronts
pub same_none : (front other : List ℕ) → SameBehind front other (page_of front []) (page_of other [])
same_none front other = record {
  tail = [];
  octets = sym (append-nil front);
  twin_octets = sym (append-nil other);
  known = refl;
}
