-- Lists of items whose texts have no comma and no backslash: how they are read item by item.
use Rattle.std.proofs.Common.{◌≡◌, ◌≢◌, ℕ, List, [], ◌∷◌, ◌++◌, refl, sym, ◌∙◌, ap, subst, append-nil, append_assoc, arith, length-append}
use Rattle.std.specs.Prelude.{◌+◌, ◌≤◌, suc, length, Option, None, Some, IfSome, IfNone, option_map, unwrap_or}
use Rattle.std.specs.List.{AllZip, concat, flat_map}
use Rattle.dns_field_texts.specs.Cut.{IsWithout}
use Rattle.dns_service_parameters.specs.ServiceText.{SpellsEach, item_octet, list_text}
use Rattle.dns_field_texts.proofs.LocationNumerals.{front_one, without_it}

-- the text of an item is written as it is
pub record IsBareItem (text : List ℕ) : Type 0 where
  pub whole : IsWithout 44 text
  pub same : flat_map item_octet text ≡ text

-- fewer octets are left
pub shrinks : {B : Type 0} (now : B → List ℕ) (left : Option B) (items : B) (item : List ℕ) (rest : Option B) → left ≡ Some items
    → IfSome rest (λ behind. now items ≡ item ++ 44 ∷ now behind)
    → suc (unwrap_or (option_map (λ x. length (now x) + 1) rest) 0) ≤ unwrap_or (option_map (λ x. length (now x) + 1) left) 0
shrinks now left items item None is some =
    subst (λ l. suc 0 ≤ unwrap_or (option_map (λ x. length (now x) + 1) l) 0) (sym is) (omega arith)
shrinks now left items item (Some behind) is some =
    subst (λ l. suc (length (now behind) + 1) ≤ unwrap_or (option_map (λ x. length (now x) + 1) l) 0) (sym is)
    (omega (arith, ap (length {A = ℕ}) some, length-append item (44 ∷ now behind)))

-- one item more is appended
concat_last : (done : List (List ℕ)) (octets : List ℕ) → concat (done ++ octets ∷ []) ≡ concat done ++ octets
concat_last [] octets = append-nil octets
concat_last (first ∷ done) octets = ap (λ (l : List ℕ). first ++ l) (concat_last done octets) ∙ sym (append_assoc first (concat done) octets)

pub appended_more : (old value new given octets : List ℕ) (done : List (List ℕ)) → value ≡ old ++ concat done → new ≡ value ++ given → given ≡ octets
    → new ≡ old ++ concat (done ++ octets ∷ [])
appended_more old value new given octets done before behind same =
    behind ∙ ap (λ (l : List ℕ). l ++ given) before ∙ append_assoc old (concat done) given ∙ ap (λ (l : List ℕ). old ++ (concat done ++ l)) same
    ∙ ap (λ (l : List ℕ). old ++ l) (sym (concat_last done octets))

module _ {A : Type 0} (Item : List ℕ → A → Type 0) (bare : (text : List ℕ) (a : A) → Item text a → IsBareItem text) where
  -- one item or more
  pub record SpellsSome (text : List ℕ) (each : List A) : Type 0 where
    pub spells : SpellsEach Item text each
    pub some : each ≢ []

  -- the items that are left
  abbrev pub Reads : Option (List ℕ) → List A → Type 0
  Reads None each = each ≡ []
  Reads (Some text) each = SpellsSome text each

  pub last_item : (text : List ℕ) (a : A) → Item text a → SpellsSome text (a ∷ [])
  last_item text a item = record { spells = (text ∷ [], sym (bare text a item).same, (item, tt)); some = λ none. cc }

  pub next_item : (text item rest : List ℕ) (a : A) (each : List A) → text ≡ item ++ 44 ∷ rest → Item item a → SpellsSome rest each
      → SpellsSome text (a ∷ each)
  next_item text item rest a [] written is others = absurd (others.some refl)
  next_item text item rest a (b ∷ each) written is others = by others.spells.0 others.spells.1 others.spells.2
    where
      by : (items : List (List ℕ)) → rest ≡ list_text items → AllZip Item items (b ∷ each) → SpellsSome text (a ∷ b ∷ each)
      by [] same zip = absurd zip
      by (next ∷ items) same zip = record {
        spells = (
          item ∷ next ∷ items,
          written ∙ ap (λ (l : List ℕ). item ++ 44 ∷ l) same ∙ ap (λ (l : List ℕ). l ++ 44 ∷ list_text (next ∷ items)) (sym (bare item a is).same),
          (is, zip),
        );
        some = λ none. cc;
      }

  -- what an item is followed by
  pub record Followed (item rest : List ℕ) (each : List A) : Type 0 where
    pub first : A
    pub others : List A
    pub is : Item item first
    pub behind : SpellsSome rest others
    pub whole : each ≡ first ∷ others

  pub followed : (text item rest : List ℕ) (each : List A) → IsWithout 44 item → text ≡ item ++ 44 ∷ rest → SpellsSome text each → Followed item rest each
  followed text item rest each clear written reads = by each reads.spells.0 reads.spells.1 reads.spells.2 reads.some refl
    where
      by : (found : List A) (items : List (List ℕ)) → text ≡ list_text items → AllZip Item items found → found ≢ [] → each ≡ found → Followed item rest each
      by [] items same zip some is = absurd (some refl)
      by (a ∷ found) [] same zip some is = absurd zip
      by (a ∷ []) (one ∷ []) same zip some is =
          absurd (without_it 44 item rest (subst (IsWithout 44) (sym (bare one a zip.0).same ∙ (sym same ∙ written)) (bare one a zip.0).whole))
      by (a ∷ b ∷ found) (one ∷ []) same zip some is = absurd zip.1
      by (a ∷ []) (one ∷ next ∷ items) same zip some is = absurd zip.1
      by (a ∷ b ∷ found) (one ∷ next ∷ items) same zip some is =
          let cut = front_one 44 one item (list_text (next ∷ items)) rest (bare one a zip.0).whole clear
          (ap (λ (l : List ℕ). l ++ 44 ∷ list_text (next ∷ items)) (sym (bare one a zip.0).same) ∙ (sym same ∙ written)) in
          record {
            first = a;
            others = b ∷ found;
            is = subst (λ (l : List ℕ). Item l a) cut.0 zip.0;
            behind = record { spells = (next ∷ items, sym cut.1, zip.1); some = λ none. cc };
            whole = is;
          }

  pub alone : (text : List ℕ) (each : List A) → IsWithout 44 text → SpellsSome text each → (a : A) × Item text a × (each ≡ a ∷ [])
  alone text each clear reads = by each reads.spells.0 reads.spells.1 reads.spells.2 reads.some refl
    where
      by : (found : List A) (items : List (List ℕ)) → text ≡ list_text items → AllZip Item items found → found ≢ [] → each ≡ found
          → (a : A) × Item text a × (each ≡ a ∷ [])
      by [] items same zip some is = absurd (some refl)
      by (a ∷ found) [] same zip some is = absurd zip
      by (a ∷ []) (one ∷ []) same zip some is =
          (a, subst (λ (l : List ℕ). Item l a) (sym (same ∙ (bare one a zip.0).same)) zip.0, is)
      by (a ∷ b ∷ found) (one ∷ []) same zip some is = absurd zip.1
      by (a ∷ []) (one ∷ next ∷ items) same zip some is = absurd zip.1
      by (a ∷ b ∷ found) (one ∷ next ∷ items) same zip some is =
          absurd (without_it 44 (flat_map item_octet one) (list_text (next ∷ items)) (subst (IsWithout 44) same clear))

  -- a list as far as it is read
  pub record Listing (text : List ℕ) (left : Option (List ℕ)) (done : List A) : Type 0 where
    pub ahead : (each : List A) → Reads left each → SpellsSome text (done ++ each)
    pub back : (each : List A) → SpellsSome text each → (rest : List A) × Reads left rest

  pub listing_begun : (text : List ℕ) → Listing text (Some text) []
  listing_begun text = record { ahead = λ each reads. reads; back = λ each reads. (each, reads) }

  pub listing_last : (text items : List ℕ) (done : List A) (a : A) → Listing text (Some items) done → Item items a
      → Listing text None (done ++ a ∷ [])
  listing_last text items done a so_far is = record {
    ahead = λ each none.
        subst (SpellsSome text) (sym (ap (λ (l : List A). (done ++ a ∷ []) ++ l) none ∙ append-nil (done ++ a ∷ [])))
        (so_far.ahead (a ∷ []) (last_item items a is));
    back = λ each reads. ([], refl);
  }

  pub listing_more : (text items item rest : List ℕ) (done : List A) (a : A) → Listing text (Some items) done → IsWithout 44 item
      → items ≡ item ++ 44 ∷ rest → Item item a → Listing text (Some rest) (done ++ a ∷ [])
  listing_more text items item rest done a so_far clear written is = record {
    ahead = λ each reads.
        subst (SpellsSome text) (sym (append_assoc done (a ∷ []) each)) (so_far.ahead (a ∷ each) (next_item items item rest a each written is reads));
    back = λ each reads.
        let before = so_far.back each reads in
        let cut = followed items item rest before.0 clear written before.1 in (cut.others, cut.behind);
  }

  pub listing_end : (text : List ℕ) (done : List A) → Listing text None done → SpellsSome text done
  listing_end text done so_far = subst (SpellsSome text) (append-nil done) (so_far.ahead [] refl)

  -- no list, if its next item is none
  pub no_more : (text items item rest : List ℕ) (done : List A) → Listing text (Some items) done → IsWithout 44 item → items ≡ item ++ 44 ∷ rest
      → ((a : A) → Item item a → ⊥) → (each : List A) → SpellsSome text each → ⊥
  no_more text items item rest done so_far clear written none each reads =
      let before = so_far.back each reads in
      let cut = followed items item rest before.0 clear written before.1 in none cut.first cut.is

  pub no_last : (text items : List ℕ) (done : List A) → Listing text (Some items) done → IsWithout 44 items → ((a : A) → Item items a → ⊥)
      → (each : List A) → SpellsSome text each → ⊥
  no_last text items done so_far clear none each reads =
      let before = so_far.back each reads in
      let one = alone items before.0 clear before.1 in none one.0 one.1

  -- one item more, and what `split_first` says of it
  pub listing_step : {B : Type 0} (now : B → List ℕ) (text items item : List ℕ) (rest : Option B) (done : List A) (a : A)
      → Listing text (Some items) done → IsWithout 44 item → IfSome rest (λ behind. items ≡ item ++ 44 ∷ now behind) → IfNone rest (items ≡ item)
      → Item item a → Listing text (option_map now rest) (done ++ a ∷ [])
  listing_step now text items item None done a so_far clear some none is =
      listing_last text items done a so_far (subst (λ (l : List ℕ). Item l a) (sym none) is)
  listing_step now text items item (Some behind) done a so_far clear some none is =
      listing_more text items item (now behind) done a so_far clear some is

  pub no_step : {B : Type 0} (now : B → List ℕ) (text items item : List ℕ) (rest : Option B) (done : List A)
      → Listing text (Some items) done → IsWithout 44 item → IfSome rest (λ behind. items ≡ item ++ 44 ∷ now behind) → IfNone rest (items ≡ item)
      → ((a : A) → Item item a → ⊥) → (each : List A) → SpellsSome text each → ⊥
  no_step now text items item None done so_far clear some none not_one =
      no_last text items done so_far (subst (IsWithout 44) (sym none) clear) (λ a is. not_one a (subst (λ (l : List ℕ). Item l a) none is))
  no_step now text items item (Some behind) done so_far clear some none not_one =
      no_more text items item (now behind) done so_far clear some not_one
