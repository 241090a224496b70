-- Rewriting a row part by part.
use Rattle.std.proofs.Common.{◌≡◌, ◌⊎◌, ◌+◌, ◌-◌, ◌*◌, ◌<◌, ◌≤◌, ℕ, Bool, true, false, List, [], ◌∷◌, ◌++◌, length, take, drop, if◌then◌else◌, Some, None, inl, inr, refl, sym, ◌∙◌, ap, subst, arith, append_assoc, append-nil, length-append, length-drop}
use Rattle.std.proofs.lemmas.Bool.{cases_order, eq-eqb, le-ltb, lt-ltb, ne_eqb}
use Rattle.std.proofs.lemmas.List.{drop-drop, length-map, take-append-drop}
use Rattle.std.proofs.lemmas.List.Concat.{flat_map-append}
use Rattle.std.proofs.Math.Seq.{take-append_seam}
use Rattle.std.specs.List.{flat_map}
use Rattle.dns_scan.specs.Token.{Token}
use Rattle.dns_text.specs.Tokens.{Next, Row}
use Rattle.dns_entry_scanner.specs.TokenEnd.{between}
use Rattle.dns_entry_scanner.proofs.Steps.{one_next}
use Rattle.zone_general.specs.Parts.{AreParts, Part, part_octets, row_octets, token_octets, tokens_of}
use Rattle.zone_general.specs.Rewritten.{data_octets, gaps_of, kept, spaced}
use Rattle.zone_general.specs.WrittenPart.{written_none, written_part}
use Rattle.zone_general.proofs.RowParts.{cut_row, parts_end, parts_next}

-- what is written for tokens of data so far
abbrev pub begun : List Part → List ℕ → List ℕ
begun [] text = []
begun (part ∷ others) text = data_octets (part ∷ others) text

-- the parts so far, from the type on
pub record FromType (place : ℕ) (word text : List ℕ) (parts : List Part) (new : List ℕ) : Type 0 where
  pub front : List Part
  pub type_part : Part
  pub data_parts : List Part
  pub count : length front ≡ place
  pub are : parts ≡ front ++ type_part ∷ data_parts
  pub written : new ≡ flat_map part_octets front ++ (type_part.gap ++ (word ++ begun data_parts text))

-- what is written for the parts so far
pub data Written (place : ℕ) (word text : List ℕ) (parts : List Part) (new : List ℕ) : Type 0 where
  before : length parts ≤ place → new ≡ flat_map part_octets parts → Written place word text parts new
  with_type : FromType place word text parts new → Written place word text parts new

-- what is written for one part
pub written_before : (index place : ℕ) (word text gap token : List ℕ) → index < place → written_part index place word text gap token ≡ gap ++ token
written_before index place word text gap token less = rw (lt-ltb index place less) refl

pub written_type : (index place : ℕ) (word text gap token : List ℕ) → index ≡ place → written_part index place word text gap token ≡ gap ++ word
written_type index place word text gap token same = rw (le-ltb index place (omega arith), eq-eqb index place same) refl

written_data : (index place : ℕ) (word text gap token : List ℕ) → index ≡ place + 1 → written_part index place word text gap token ≡ spaced gap ++ text
written_data index place word text gap token same =
    rw (le-ltb index place (omega arith), ne_eqb index place (λ e. omega arith), eq-eqb index (place + 1) same) refl

written_behind : (index place : ℕ) (word text gap token : List ℕ) → place + 1 < index → written_part index place word text gap token ≡ kept gap
written_behind index place word text gap token more =
    rw (le-ltb index place (omega arith), ne_eqb index place (λ e. omega arith), ne_eqb index (place + 1) (λ e. omega arith)) refl

gaps_more : (parts : List Part) (part : Part) → gaps_of (parts ++ part ∷ []) ≡ gaps_of parts ++ kept part.gap
gaps_more parts part = flat_map-append (λ (p : Part). kept p.gap) parts (part ∷ []) ∙ ap (λ l. gaps_of parts ++ l) (append-nil (kept part.gap))

-- one more token of data
begun_more : (parts : List Part) (part : Part) (index place : ℕ) (word text : List ℕ) → index ≡ place + 1 + length parts
    → begun (parts ++ part ∷ []) text ≡ begun parts text ++ written_part index place word text part.gap (token_octets part.token)
begun_more [] part index place word text is =
    let same : index ≡ place + 1 = omega (arith, is) in
    ap (λ l. spaced part.gap ++ l) (append-nil text) ∙ sym (written_data index place word text part.gap (token_octets part.token) same)
begun_more (first ∷ parts) part index place word text is =
    let more : place + 1 < index = omega (arith, is) in
    ap (λ l. spaced first.gap ++ (text ++ l)) (gaps_more parts part)
    ∙ sym (ap (λ l. (spaced first.gap ++ (text ++ gaps_of parts)) ++ l) (written_behind index place word text part.gap (token_octets part.token) more)
    ∙ simp append_assoc)

-- one more part before the type, or the type's
more_before : (place : ℕ) (word text : List ℕ) (parts : List Part) (new : List ℕ) (part : Part) → length parts ≤ place
    → new ≡ flat_map part_octets parts → (length parts ≡ place) ⊎ ((length parts < place) ⊎ (place < length parts))
    → Written place word text (parts ++ part ∷ []) (new ++ written_part (length parts) place word text part.gap (token_octets part.token))
more_before place word text parts new part few is (inl same) = with_type (record {
  front = parts;
  type_part = part;
  data_parts = [];
  count = same;
  are = refl;
  written =
      ap (λ l. l ++ written_part (length parts) place word text part.gap (token_octets part.token)) is
      ∙ ap (λ l. flat_map part_octets parts ++ l) (written_type (length parts) place word text part.gap (token_octets part.token) same)
      ∙ ap (λ l. flat_map part_octets parts ++ (part.gap ++ l)) (sym (append-nil word));
})
more_before place word text parts new part few is (inr (inl less)) =
    let octets : flat_map part_octets (parts ++ part ∷ []) ≡ flat_map part_octets parts ++ part_octets part =
    flat_map-append part_octets parts (part ∷ []) ∙ ap (λ l. flat_map part_octets parts ++ l) (append-nil (part_octets part)) in
    before (omega (arith, less, length-append parts (part ∷ [])))
    (ap (λ l. l ++ written_part (length parts) place word text part.gap (token_octets part.token)) is
    ∙ ap (λ l. flat_map part_octets parts ++ l) (written_before (length parts) place word text part.gap (token_octets part.token) less)
    ∙ sym octets)
more_before place word text parts new part few is (inr (inr many)) = absurd (omega (arith, few, many))

-- one more part
pub written_more : {place : ℕ} {word text : List ℕ} {parts : List Part} {new : List ℕ} (part : Part) → Written place word text parts new
    → Written place word text (parts ++ part ∷ [])
    (new ++ written_part (length parts) place word text part.gap (token_octets part.token))
written_more {place} {word} {text} {parts} {new} part (with_type from) =
    let all : length parts ≡ place + 1 + length from.data_parts =
    omega (arith, ap (length {A = Part}) from.are, length-append from.front (from.type_part ∷ from.data_parts), from.count) in
    let octets = written_part (length parts) place word text part.gap (token_octets part.token) in
    let front = flat_map part_octets from.front in
    let apart : (front ++ (from.type_part.gap ++ (word ++ begun from.data_parts text))) ++ octets
    ≡ front ++ (from.type_part.gap ++ (word ++ (begun from.data_parts text ++ octets))) = simp append_assoc in
    with_type (record {
      front = from.front;
      type_part = from.type_part;
      data_parts = from.data_parts ++ part ∷ [];
      count = from.count;
      are = ap (λ l. l ++ part ∷ []) from.are ∙ append_assoc from.front (from.type_part ∷ from.data_parts) (part ∷ []);
      written =
          ap (λ l. l ++ octets) from.written ∙ apart
          ∙ ap (λ l. front ++ (from.type_part.gap ++ (word ++ l)))
          (sym (begun_more from.data_parts part (length parts) place word text all));
    })
written_more {place} {word} {text} {parts} {new} part (before few is) =
    more_before place word text parts new part few is (cases_order (length parts) place)

-- The row so far: the parts that were gone over, those that are left, and what was appended.
pub record Gone (octets rest : List ℕ) (tokens : List Token) (place : ℕ) (word text : List ℕ) (inside : Bool) (left : List ℕ) (index : ℕ)
    (old now : List ℕ) : Type 0 where
  pub front : List Part
  pub others : List Part
  pub last : List ℕ
  pub are : AreParts false (front ++ others) last
  pub others_are : AreParts inside others last
  pub tokens_are : tokens_of (front ++ others) ≡ tokens
  pub octets_are : octets ≡ row_octets (front ++ others) last
  pub left_is : left ≡ row_octets others last ++ rest
  pub count : index ≡ length front
  pub new : List ℕ
  pub written : Written place word text front new
  pub appended : now ≡ old ++ new

pub same_front : (a b rest : List ℕ) → a ++ rest ≡ b ++ rest → a ≡ b
same_front a b rest same =
    let len : length a ≡ length b = omega (arith, ap (length {A = ℕ}) same, length-append a rest, length-append b rest) in
    sym (take-append_seam a rest) ∙ ap (take (length a)) same ∙ ap (λ n. take n (b ++ rest)) len ∙ take-append_seam b rest

-- the text of the row, and what follows it
pub split_between : (text : List ℕ) (place next : ℕ) → place ≤ next → drop place text ≡ between place next text ++ drop next text
split_between text place next order =
    let whole : take (next - place) (drop place text) ++ drop (next - place) (drop place text) ≡ drop place text =
    take-append-drop (next - place) (drop place text) in
    let sum : place + (next - place) ≡ next = omega (arith, order) in
    sym whole ∙ ap (λ l. between place next text ++ l) (drop-drop (next - place) place text ∙ ap (λ n. drop n text) sum)

pub gone_none : {octets rest left : List ℕ} {tokens : List Token} (place : ℕ) (word text old : List ℕ) → Row false left tokens rest
    → left ≡ octets ++ rest → Gone octets rest tokens place word text false left 0 old old
gone_none {octets} {rest} place word text old row split =
    let cut = cut_row row in record {
      front = [];
      others = cut.parts;
      last = cut.last;
      are = cut.are;
      others_are = cut.are;
      tokens_are = cut.tokens_are;
      octets_are = same_front octets (row_octets cut.parts cut.last) rest (sym split ∙ cut.whole);
      left_is = cut.whole;
      count = refl;
      new = [];
      written = before (omega arith) refl;
      appended = sym (append-nil old);
    }

-- the next token
pub record GoneNext (octets rest : List ℕ) (tokens : List Token) (place : ℕ) (word text : List ℕ) (left : List ℕ) (index : ℕ) (old now : List ℕ)
    (found : Token) (out : Bool) (behind : List ℕ) : Type 0 where
  pub gap : List ℕ
  pub is : left ≡ gap ++ (token_octets found ++ behind)
  pub few : index < length tokens
  pub on : (after : List ℕ) → after ≡ now ++ written_part index place word text gap (token_octets found)
      → Gone octets rest tokens place word text out behind (index + 1) old after

module _ {octets rest left old now : List ℕ} {tokens : List Token} {place index : ℕ} {word text : List ℕ} {inside : Bool}
    (gone : Gone octets rest tokens place word text inside left index old now) where
  -- what is left, if these are the parts that are
  left_at : (others : List Part) → gone.others ≡ others → left ≡ row_octets others gone.last ++ rest
  left_at others is = gone.left_is ∙ ap (λ l. row_octets l gone.last ++ rest) is

  are_at : (others : List Part) → gone.others ≡ others → AreParts inside others gone.last
  are_at others is = subst (λ (l : List Part). AreParts inside l gone.last) is gone.others_are

  end_at : gone.others ≡ [] → Next inside left None false rest
  end_at none = subst (λ (l : List ℕ). Next inside l None false rest) (sym (left_at [] none)) (parts_end (are_at [] none) rest)

  record PartAt (part : Part) (others : List Part) : Type 0 where
    pub out : Bool
    pub next : Next inside left (Some part.token) out (row_octets others gone.last ++ rest)
    pub are : AreParts out others gone.last

  part_at : (part : Part) (others : List Part) → gone.others ≡ part ∷ others → PartAt part others
  part_at part others is =
      let first = parts_next (are_at (part ∷ others) is) rest in record {
        out = first.out;
        next =
            subst (λ (l : List ℕ). Next inside l (Some part.token) first.out (row_octets others gone.last ++ rest))
            (sym (left_at (part ∷ others) is)) first.next;
        are = first.are;
      }

  gone_on : (part : Part) (others : List Part) → gone.others ≡ part ∷ others → (out : Bool) → AreParts out others gone.last → (after : List ℕ)
      → after ≡ now ++ written_part index place word text part.gap (token_octets part.token)
      → Gone octets rest tokens place word text out (row_octets others gone.last ++ rest) (index + 1) old after
  gone_on part others some out others_are after is =
      let parts : gone.front ++ gone.others ≡ (gone.front ++ part ∷ []) ++ others =
      ap (λ l. gone.front ++ l) some ∙ sym (append_assoc gone.front (part ∷ []) others) in
      let octets_of = λ (count : ℕ). written_part count place word text part.gap (token_octets part.token) in record {
        front = gone.front ++ part ∷ [];
        others = others;
        last = gone.last;
        are = subst (λ (l : List Part). AreParts false l gone.last) parts gone.are;
        others_are = others_are;
        tokens_are = ap tokens_of (sym parts) ∙ gone.tokens_are;
        octets_are = gone.octets_are ∙ ap (λ l. row_octets l gone.last) parts;
        left_is = refl;
        count = omega (arith, gone.count, length-append gone.front (part ∷ []));
        new = gone.new ++ octets_of (length gone.front);
        written = written_more part gone.written;
        appended =
            is ∙ ap (λ l. l ++ octets_of index) gone.appended ∙ append_assoc old gone.new (octets_of index)
            ∙ ap (λ n. old ++ (gone.new ++ octets_of n)) gone.count;
      }

  next_at : (others : List Part) → gone.others ≡ others → (found : Token) (out : Bool) (behind : List ℕ) → Next inside left (Some found) out behind
      → GoneNext octets rest tokens place word text left index old now found out behind
  next_at [] none found out behind next = let bad = (one_next (end_at none) (Some found) out behind next).founds in cc
  next_at (part ∷ others) some found out behind next =
      let first = part_at part others some in
      let same = one_next first.next (Some found) out behind next in
      let token : part.token ≡ found = let f = same.founds in cc in
      let apart : row_octets (part ∷ others) gone.last ++ rest ≡ part.gap ++ (token_octets part.token ++ (row_octets others gone.last ++ rest)) =
      simp append_assoc in
      let count : length tokens ≡ length gone.front + length (part ∷ others) =
      ap (length {A = Token}) (sym gone.tokens_are) ∙ length-map (gone.front ++ gone.others) (λ (p : Part). p.token)
      ∙ length-append gone.front gone.others ∙ ap (λ (l : List Part). length gone.front + length l) some in record {
        gap = part.gap;
        is =
            left_at (part ∷ others) some ∙ apart ∙ ap (λ t. part.gap ++ (token_octets t ++ (row_octets others gone.last ++ rest))) token
            ∙ ap (λ l. part.gap ++ (token_octets found ++ l)) same.rests;
        few = omega (arith, gone.count, count);
        on = λ after is.
            subst (λ (b : Bool). Gone octets rest tokens place word text b behind (index + 1) old after) same.outs
            (subst (λ (l : List ℕ). Gone octets rest tokens place word text first.out l (index + 1) old after) same.rests
            (gone_on part others some first.out first.are after
            (is ∙ ap (λ t. now ++ written_part index place word text part.gap (token_octets t)) (sym token))));
      }

  pub gone_next : {found : Token} {out : Bool} {behind : List ℕ} → Next inside left (Some found) out behind
      → GoneNext octets rest tokens place word text left index old now found out behind
  gone_next {found} {out} {behind} next = next_at gone.others refl found out behind next

-- The octets of a row with another word for its type and another text for its data.
pub record RewrittenTo (octets : List ℕ) (tokens : List Token) (place : ℕ) (word text new : List ℕ) : Type 0 where
  pub front_parts : List Part
  pub type_part : Part
  pub data_parts : List Part
  pub last : List ℕ
  pub are : AreParts false (front_parts ++ type_part ∷ data_parts) last
  pub place_is : length front_parts ≡ place
  pub tokens_are : tokens_of (front_parts ++ type_part ∷ data_parts) ≡ tokens
  pub written : octets ≡ row_octets (front_parts ++ type_part ∷ data_parts) last
  pub rewritten : new ≡ flat_map part_octets front_parts ++ (type_part.gap ++ (word ++ (data_octets data_parts text ++ last)))

begun_all : (parts : List Part) (index place : ℕ) (text : List ℕ) → index ≡ place + 1 + length parts
    → begun parts text ++ written_none index place text ≡ data_octets parts text
begun_all [] index place text is = ap (λ (b : Bool). if b then 32 ∷ text else []) (eq-eqb index (place + 1) (omega (arith, is)))
begun_all (part ∷ parts) index place text is =
    ap (λ (b : Bool). data_octets (part ∷ parts) text ++ (if b then 32 ∷ text else [])) (ne_eqb index (place + 1) (λ e. omega (arith, is, e)))
    ∙ append-nil (data_octets (part ∷ parts) text)

-- the row at its end
pub record GoneAll (octets rest : List ℕ) (tokens : List Token) (place : ℕ) (word text left : List ℕ) (index : ℕ) (old now : List ℕ)
    : Type 0 where
  pub whole : index ≡ length tokens
  pub last : List ℕ
  pub left_is : left ≡ last ++ rest
  pub new : List ℕ
  pub is : RewrittenTo octets tokens place word text new
  pub appended : (now ++ written_none index place text) ++ last ≡ old ++ new

module _ {octets rest left old now : List ℕ} {tokens : List Token} {place index : ℕ} {word text : List ℕ} {inside : Bool}
    (gone : Gone octets rest tokens place word text inside left index old now) where
  end_of : (new : List ℕ) → gone.others ≡ [] → index ≡ length tokens → place < length tokens → Written place word text gone.front new → gone.new ≡ new
      → GoneAll octets rest tokens place word text left index old now
  end_of new none all within (before few is) same =
      absurd (omega (arith, few, gone.count, all, within))
  end_of new none all within (with_type from) same =
      let none_octets = written_none index place text in
      let parts : gone.front ++ gone.others ≡ from.front ++ from.type_part ∷ from.data_parts =
      ap (λ l. gone.front ++ l) none ∙ append-nil gone.front ∙ from.are in
      let count : index ≡ place + 1 + length from.data_parts =
      omega (arith, gone.count, ap (length {A = Part}) from.are, length-append from.front (from.type_part ∷ from.data_parts), from.count) in
      let front = flat_map part_octets from.front in
      let made = front ++ (from.type_part.gap ++ (word ++ (data_octets from.data_parts text ++ gone.last))) in
      let apart : (front ++ (from.type_part.gap ++ (word ++ begun from.data_parts text))) ++ (none_octets ++ gone.last)
      ≡ front ++ (from.type_part.gap ++ (word ++ ((begun from.data_parts text ++ none_octets) ++ gone.last))) = simp append_assoc in
      let more : new ++ (none_octets ++ gone.last) ≡ made =
      ap (λ l. l ++ (none_octets ++ gone.last)) from.written ∙ apart
      ∙ ap (λ l. front ++ (from.type_part.gap ++ (word ++ (l ++ gone.last)))) (begun_all from.data_parts index place text count) in
      let all_appended : (now ++ none_octets) ++ gone.last ≡ old ++ (gone.new ++ (none_octets ++ gone.last)) =
      ap (λ l. (l ++ none_octets) ++ gone.last) gone.appended ∙ simp append_assoc in record {
        whole = all;
        last = gone.last;
        left_is = gone.left_is ∙ ap (λ l. row_octets l gone.last ++ rest) none;
        new = made;
        is = record {
          front_parts = from.front;
          type_part = from.type_part;
          data_parts = from.data_parts;
          last = gone.last;
          are = subst (λ (l : List Part). AreParts false l gone.last) parts gone.are;
          place_is = from.count;
          tokens_are = ap tokens_of (sym parts) ∙ gone.tokens_are;
          written = gone.octets_are ∙ ap (λ l. row_octets l gone.last) parts;
          rewritten = refl;
        };
        appended = all_appended ∙ ap (λ l. old ++ (l ++ (none_octets ++ gone.last))) same ∙ ap (λ l. old ++ l) more;
      }

  none_left : (others : List Part) → gone.others ≡ others → length tokens ≤ index → gone.others ≡ []
  none_left [] is all = is
  none_left (part ∷ others) is all =
      let count : length tokens ≡ length gone.front + length (part ∷ others) =
      ap (length {A = Token}) (sym gone.tokens_are) ∙ length-map (gone.front ++ gone.others) (λ (p : Part). p.token)
      ∙ length-append gone.front gone.others ∙ ap (λ (l : List Part). length gone.front + length l) is in
      absurd (omega (arith, count, all, gone.count))

  pub gone_all : place < length tokens → length tokens ≤ index → GoneAll octets rest tokens place word text left index old now
  gone_all within all =
      let none = none_left gone.others refl all in
      let count : length tokens ≡ length gone.front =
      ap (length {A = Token}) (sym gone.tokens_are) ∙ length-map (gone.front ++ gone.others) (λ (p : Part). p.token)
      ∙ ap (λ (l : List Part). length (gone.front ++ l)) none ∙ ap (length {A = Part}) (append-nil gone.front) in
      end_of gone.new none (omega (arith, gone.count, count)) within gone.written refl

-- the octets from a place to the next row
pub last_at : (text last : List ℕ) (behind next : ℕ) → behind ≤ length text → next ≤ length text → drop behind text ≡ last ++ drop next text
    → (behind ≤ next) × (between behind next text ≡ last)
last_at text last behind next within within' at =
    let whole : length text - behind ≡ length last + (length text - next) =
    sym (length-drop behind text) ∙ ap (length {A = ℕ}) at ∙ length-append last (drop next text) ∙ ap (λ n. length last + n) (length-drop next text) in
    let len : next - behind ≡ length last = omega (arith, whole, within, within') in (
      omega (arith, whole, within, within'),
      ap (λ n. take n (drop behind text)) len ∙ ap (take (length last)) at ∙ take-append_seam last (drop next text),
    )

pub length-token_octets : (found : Token) → length (token_octets found) ≡ length found.text + 2 * (if found.quoted then 1 else 0)
length-token_octets found = by found.quoted found.text
  where
    by : (is_quoted : Bool) (text : List ℕ)
        → length (if is_quoted then 34 ∷ (text ++ 34 ∷ []) else text) ≡ length text + 2 * (if is_quoted then 1 else 0)
    by true text = omega (arith, length-append text (34 ∷ []))
    by false text = omega arith
