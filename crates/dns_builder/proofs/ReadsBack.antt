-- The octets of a message that is built spell its items.
use Rattle.std.proofs.Common.{◌≡◌, ◌<◌, ◌^◌, ℕ, zero, suc, List, [], ◌∷◌, ◌++◌, length, take, refl, sym, ◌∙◌, ap, subst, arith, length-append, append_assoc}
use Rattle.std.proofs.lemmas.List.{append-nil, take_all, take-append-le}
use Rattle.dns_name.specs.Spelling.{Spelling}
use Rattle.dns_name.specs.Page.{Page, Parts, with_octets, with_name, write}
use Rattle.dns_name.specs.Page.Parts.{End, Octets, Named, Counted}
use Rattle.dns_name.specs.RecordData.{page_of, counted_length}
use Rattle.dns_name.specs.Remembered.{IsSound, sound_none}
use Rattle.dns_compress.specs.Alike.{HaveNames, LengthsFit, SpellsAlike}
use Rattle.dns_compress.proofs.ReadParts.{written_read, written_sound}
use Rattle.dns_header.specs.Head.{fixed_octets}
use Rattle.dns_header.specs.Written.{Written, parts_of, data_length}
use Rattle.dns_builder.specs.Built.{Built, Draft, IsDraftOf, header_octets, counts_octets, built_page, write_all}
use Rattle.dns_builder.specs.Steps.{with_item, with_header, going_to, sections_to}
use Rattle.dns_builder.specs.ReadBack.{SpellsItems, SpellsSections, ReadsBack, AreReadableAfter, IsReadable}
use Rattle.dns_builder.proofs.Grown.{IsGrown, all_grows}
use Rattle.dns_builder.proofs.SameBehind.{SameBehind, same_length, same_octets, same_name, same_write, same_none}
use Rattle.dns_builder.proofs.Sections.{items_of, write_all-append, items_onto}

-- more octets after a front that has grown
after_front : (front tail more whole : List ℕ) → whole ≡ front ++ tail → front ++ (tail ++ more) ≡ whole ++ more
after_front front tail more whole is = sym (append_assoc front tail more) ∙ sym (ap (λ l. l ++ more) is)

module _ (s : Spelling) where
  sound_all : (page : Page) (items : List Parts) → IsSound s page.known page.octets → AreReadableAfter s page items
      → IsSound s (write_all s page items).known (write_all s page items).octets
  sound_all page [] sound readable = sound
  sound_all page (item ∷ items) sound readable =
      sound_all (write s page item) items (written_sound s page item sound readable.0) readable.2

  items_spelled : (page : Page) (items : List Parts) (more : List ℕ) → IsSound s page.known page.octets → AreReadableAfter s page items
      → SpellsItems s ((write_all s page items).octets ++ more) (length page.octets) items (length (write_all s page items).octets)
  items_spelled page [] more sound readable = SpellsItems.none
  items_spelled page (item ∷ items) more sound readable =
      let next : Page = write s page item in
      let grows : IsGrown next (write_all s next items) = all_grows s next items in
      SpellsItems.more
      (subst (λ l. SpellsAlike s l (length page.octets) item (length next.octets)) (after_front _ grows.tail more _ grows.octets)
      (written_read s page item (grows.tail ++ more) sound readable.0 readable.1))
      (items_spelled next items more (written_sound s page item sound readable.0) readable.2)

  -- items that start with those of one section
  readable_first : (page : Page) (items others : List Parts) → AreReadableAfter s page (items ++ others) → AreReadableAfter s page items
  readable_first page [] others readable = tt
  readable_first page (item ∷ items) others readable =
      (readable.0, readable.1, readable_first (write s page item) items others readable.2)

  readable_rest : (page : Page) (items others : List Parts) → AreReadableAfter s page (items ++ others)
      → AreReadableAfter s (write_all s page items) others
  readable_rest page [] others readable = readable
  readable_rest page (item ∷ items) others readable = readable_rest (write s page item) items others readable.2

  readable_both : (page : Page) (items others : List Parts) → AreReadableAfter s page items → AreReadableAfter s (write_all s page items) others
      → AreReadableAfter s page (items ++ others)
  readable_both page [] others readable more = more
  readable_both page (item ∷ items) others readable more =
      (readable.0, readable.1, readable_both (write s page item) items others readable.2 more)

  sections_spelled : (page : Page) (sections : List (List Parts)) (more : List ℕ) → IsSound s page.known page.octets
      → AreReadableAfter s page (items_of sections)
      → SpellsSections s ((write_all s page (items_of sections)).octets ++ more) (length page.octets) sections
      (length (write_all s page (items_of sections)).octets)
  sections_spelled page [] more sound readable = SpellsSections.none
  sections_spelled page (items ∷ sections) more sound readable =
      let next : Page = write_all s page items in
      let last : Page = write_all s next (items_of sections) in
      let grows : IsGrown next last = all_grows s next (items_of sections) in
      let first = readable_first page items (items_of sections) readable in
      subst (λ (p : Page). SpellsSections s (p.octets ++ more) (length page.octets) (items ∷ sections) (length p.octets))
      (sym (write_all-append s page items (items_of sections)))
      (SpellsSections.more
      (subst (λ l. SpellsItems s l (length page.octets) items (length next.octets)) (after_front _ grows.tail more _ grows.octets)
      (items_spelled page items (grows.tail ++ more) sound first))
      (sections_spelled next sections more (sound_all page items sound first) (readable_rest page items (items_of sections) readable)))

  pub read_back : (built : Built) (draft : Draft) → IsDraftOf s built draft → IsReadable s built → ReadsBack s built draft.page.octets
  read_back built draft is readable =
      let front : Page = page_of (header_octets built) [] in
      let whole : Page = built_page s built in
      let grows : IsGrown front whole = all_grows s front (items_of built.sections) in
      let twelve : length (header_octets built) ≡ 12 = omega (arith, is.header, length-append built.header (counts_octets built.sections)) in
      let spelled = sections_spelled front built.sections [] (sound_none s (header_octets built)) readable.items in
      subst (λ (p : Page). ReadsBack s built p.octets) (sym is.page) (record {
        header = ap (take 12) grows.octets ∙ take-append-le 12 (header_octets built) grows.tail (omega arith)
            ∙ take_all 12 (header_octets built) (omega arith);
        sections = subst (λ n. SpellsSections s whole.octets n built.sections (length whole.octets)) twelve
            (subst (λ l. SpellsSections s l (length (header_octets built)) built.sections (length whole.octets)) (append-nil whole.octets) spelled);
      })

  -- the same after another header
  fits_on : (parts : Parts) {front other : List ℕ} {page twin : Page} → length front ≡ length other → SameBehind front other page twin
      → LengthsFit s page parts → LengthsFit s twin parts
  fits_on End long same fits = tt
  fits_on (Octets text parts) long same fits = fits_on parts long (same_octets text same) fits
  fits_on (Named name parts) long same fits = fits_on parts long (same_name s name long same) fits
  fits_on (Counted inner parts) {page = page} {twin = twin} long same fits =
      let marked = same_octets (0 ∷ 0 ∷ []) same in
      let before : length twin.octets ≡ length page.octets = same_length long same in
      let after : length (write s (with_octets twin (0 ∷ 0 ∷ [])) inner).octets ≡ length (write s (with_octets page (0 ∷ 0 ∷ [])) inner).octets =
      same_length long (same_write s inner long marked) in
      let counts : counted_length s twin inner ≡ counted_length s page inner = omega (arith, before, after) in
      (omega (arith, counts, fits.0), fits_on inner long marked fits.1, fits_on parts long (same_write s (Counted inner End) long same) fits.2)

  readable_on : (items : List Parts) {front other : List ℕ} {page twin : Page} → length front ≡ length other → SameBehind front other page twin
      → AreReadableAfter s page items → AreReadableAfter s twin items
  readable_on [] long same readable = tt
  readable_on (item ∷ items) long same readable =
      (readable.0, fits_on item long same readable.1, readable_on items long (same_write s item long same) readable.2)

  headed_on : (built other : Built) (items : List Parts) → length other.header ≡ length built.header
      → AreReadableAfter s (page_of (header_octets built) []) items → AreReadableAfter s (page_of (header_octets other) []) items
  headed_on built other items long readable =
      readable_on items
      (omega (arith, long, length-append built.header (counts_octets built.sections), length-append other.header (counts_octets other.sections)))
      (same_none (header_octets built) (header_octets other)) readable

  pub readable_with_header : (built : Built) (header : List ℕ) → length header ≡ length built.header → IsReadable s built
      → IsReadable s (with_header built header)
  readable_with_header built header long readable =
      record { items = headed_on built (with_header built header) (items_of built.sections) long readable.items }

  pub readable_with_item : (built : Built) (draft : Draft) (item : Parts) → IsDraftOf s built draft → IsReadable s built → HaveNames item
      → LengthsFit s draft.page item → IsReadable s (with_item built item)
  readable_with_item built draft item is readable names fits =
      record { items = headed_on built (with_item built item) (items_of (with_item built item).sections) refl (by_sections built.sections refl) }
    where
      front : Page
      front = page_of (header_octets built) []

      by_sections : (sections : List (List Parts)) → built.sections ≡ sections
          → AreReadableAfter s front (items_of (with_item (record { header = built.header; sections = sections }) item).sections)
      by_sections [] are = tt
      by_sections (items ∷ sections) are =
          let old : AreReadableAfter s front (items_of (items ∷ sections)) =
          subst (λ (l : List (List Parts)). AreReadableAfter s front (items_of l)) are readable.items in
          let page : draft.page ≡ write_all s front (items_of (items ∷ sections)) =
          is.page ∙ ap (λ (l : List (List Parts)). write_all s front (items_of l)) are in
          let new : AreReadableAfter s (write_all s front (items_of (items ∷ sections))) (item ∷ []) =
          (names, subst (λ (p : Page). LengthsFit s p item) page fits, tt) in
          subst (AreReadableAfter s front) (sym (items_onto items sections item))
          (readable_both front (items_of (items ∷ sections)) (item ∷ []) old new)

  readable_to : (count : ℕ) (page : Page) (sections : List (List Parts)) → AreReadableAfter s page (items_of sections)
      → AreReadableAfter s page (items_of (sections_to count sections))
  readable_to zero page sections readable = tt
  readable_to (suc count) page [] readable = readable_to count page [] tt
  readable_to (suc count) page (items ∷ sections) readable =
      readable_both page items (items_of (sections_to count sections)) (readable_first page items (items_of sections) readable)
      (readable_to count (write_all s page items) sections (readable_rest page items (items_of sections) readable))

  pub readable_going : (count : ℕ) (built : Built) → IsReadable s built → IsReadable s (going_to count built)
  readable_going count built readable = record {
    items = headed_on built (going_to count built) (items_of (sections_to count built.sections)) refl
        (readable_to count (page_of (header_octets built) []) built.sections readable.items);
  }

  -- a record whose data is not too long
  record_fits : (page : Page) (w : Written) → (65535 < data_length s page w → ⊥) → ((page : Page) → LengthsFit s page w.rdata)
      → LengthsFit s page (parts_of w)
  unfolding write
  record_fits page w short fit =
      let front : Page = with_octets (with_name s page w.owner) (fixed_octets w.rtype w.class w.ttl) in
      let counted : counted_length s front w.rdata < 2 ^ 16 = omega (arith, short) in
      (counted, fit (with_octets front (0 ∷ 0 ∷ [])), tt)

  pub readable_with_record : (built : Built) (draft : Draft) (w : Written) → IsDraftOf s built draft → IsReadable s built
      → (65535 < data_length s draft.page w → ⊥) → HaveNames (parts_of w) → ((page : Page) → LengthsFit s page w.rdata)
      → IsReadable s (with_item built (parts_of w))
  readable_with_record built draft w is readable short names fit =
      readable_with_item built draft (parts_of w) is readable names (record_fits draft.page w short fit)
