-- Hexadecimal digits that are read in twos, an octet for each two.
use Rattle.std.proofs.Common.{◌≡◌, ◌+◌, ◌-◌, ◌*◌, ◌^◌, ◌<◌, ◌≤◌, ◌⊎◌, inl, inr, ℕ, List, [], ◌∷◌, ◌++◌, refl, sym, ◌∙◌, ap, subst, arith, append_assoc, append-nil, drop, take, get_or, length}
use Rattle.std.specs.Char.{digit_value}
use Rattle.std.proofs.lemmas.Bool.{cases_lt}
use Rattle.std.proofs.lemmas.List.{take-append-drop, take_all}
use Rattle.dns_scan.specs.Bits.{bits}
use Rattle.dns_scan.specs.Decoding.{HasRead, NoneIs, Progress, progress_of}
use Rattle.dns_scan.specs.Encodings.{Decodes16}
use Rattle.dns_scan.specs.declared.encoding.base.Base.TheVariants.{Sixteen}
use Rattle.dns_scan_data.specs.Appended.{GoesOn}
use Rattle.dns_scan_data.specs.AppendedHex.{AppendsPairs, BeginsWithNoPair, SpellsPairs}
use Rattle.dns_scan.proofs.BitLists.{bits_join, length-bits}
use Rattle.dns_scan.proofs.Decoded.{no_character, not_whole, read_more, read_none, whole_decodes}
use Rattle.dns_scan.proofs.Encodings.{decodes_one}

-- these octets are whole, and these bits wait for others
abbrev at : List ℕ → List ℕ → Progress
at octets waiting = progress_of octets (record { waiting = waiting; pads = 0 })

-- whole octets were read
abbrev pub Read : List ℕ → List ℕ → Type 0
Read octets read = HasRead Sixteen (at octets []) read

pub nothing_read : Read [] []
nothing_read = read_none Sixteen (at [] []) refl

module _ (octets read : List ℕ) (so_far : Read octets read) where
  one_read : (first : ℕ) → digit_value first < 16 → HasRead Sixteen (at octets (bits 4 (digit_value first))) (read ++ first ∷ [])
  one_read first few =
      read_more Sixteen (at octets []) (at octets (bits 4 (digit_value first))) read first (digit_value first) [] so_far refl refl refl refl few
      (sym (append-nil octets)) refl (omega (arith, length-bits 4 (digit_value first))) tt

  -- two digits more
  pub two_read : (first second octet : ℕ) → digit_value first < 16 → digit_value second < 16 → octet ≡ 16 * digit_value first + digit_value second
      → Read (octets ++ octet ∷ []) (read ++ first ∷ second ∷ [])
  two_read first second octet few less is =
      let turned : octet ≡ digit_value first * 2 ^ 4 + digit_value second = omega (arith, is) in
      let joined : bits 4 (digit_value first) ++ bits 4 (digit_value second) ≡ bits 8 octet =
      sym (ap (bits 8) turned ∙ bits_join 4 4 (digit_value first) (digit_value second) less) in
      let both = read_more Sixteen (at octets (bits 4 (digit_value first))) (at (octets ++ octet ∷ []) []) (read ++ first ∷ []) second (digit_value second)
      (octet ∷ []) (one_read first few) refl refl refl refl less refl
      (joined ∙ sym (append-nil (bits 8 octet)) ∙ sym (append-nil (bits 8 octet ++ []))) (omega arith) (omega (arith, is, few, less), tt) in
      subst (λ (l : List ℕ). Read (octets ++ octet ∷ []) l) (append_assoc read (first ∷ []) (second ∷ [])) both

  module _ (text left : List ℕ) (whole : read ++ left ≡ text) where
    moved : (rest : List ℕ) → left ≡ rest → NoneIs Sixteen (read ++ rest) → NoneIs Sixteen text
    moved rest is none = subst (NoneIs Sixteen) (ap (λ (l : List ℕ). read ++ l) (sym is) ∙ whole) none

    -- nothing is left
    pub all_read : left ≡ [] → Decodes16 text octets
    all_read none =
        let same : read ≡ text = sym (append-nil read) ∙ ap (λ (l : List ℕ). read ++ l) (sym none) ∙ whole in
        whole_decodes Sixteen (at octets []) text (subst (Read octets) same so_far) (omega arith)

    -- the first octet is no digit
    pub no_first : (first : ℕ) (behind : List ℕ) → left ≡ first ∷ behind → (digit_value first < 16 → ⊥) → NoneIs Sixteen text
    no_first first behind is none =
        moved (first ∷ behind) is (λ new. no_character Sixteen (at octets []) first none (λ same pad. cc) read behind new so_far)

    -- the second is none
    pub no_second : (first second : ℕ) (behind : List ℕ) → left ≡ first ∷ second ∷ behind → digit_value first < 16 → (digit_value second < 16 → ⊥)
        → NoneIs Sixteen text
    no_second first second behind is few none =
        moved (first ∷ second ∷ behind) is
        (subst (NoneIs Sixteen) (append_assoc read (first ∷ []) (second ∷ behind))
        (λ new. no_character Sixteen (at octets (bits 4 (digit_value first))) second none (λ same pad. cc) (read ++ first ∷ []) behind new (one_read first few)))

    -- a digit stands alone
    pub no_half : (first : ℕ) → left ≡ first ∷ [] → digit_value first < 16 → NoneIs Sixteen text
    no_half first is few =
        moved (first ∷ []) is
        (not_whole Sixteen (at octets (bits 4 (digit_value first))) (read ++ first ∷ []) (one_read first few)
        (λ little. omega (arith, little, length-bits 4 (digit_value first))))

    -- what is left after two
    pub still_whole : (first second : ℕ) (behind : List ℕ) → left ≡ first ∷ second ∷ behind → (read ++ first ∷ second ∷ []) ++ behind ≡ text
    still_whole first second behind is =
        append_assoc read (first ∷ second ∷ []) behind ∙ ap (λ (l : List ℕ). read ++ l) (sym is) ∙ whole

-- digits in twos, one after another
pub spells_more : (digits octets behind new : List ℕ) → SpellsPairs digits octets → SpellsPairs behind new → SpellsPairs (digits ++ behind) (octets ++ new)
spells_more [] octets behind new is more = subst (λ (l : List ℕ). SpellsPairs behind (l ++ new)) (sym is) more
spells_more (_ ∷ []) octets behind new is more = absurd is
spells_more (high ∷ low ∷ digits) octets behind new is more =
    (is.0 ++ new, is.1, is.2, ap (λ (l : List ℕ). l ++ new) is.3, spells_more digits is.0 behind new is.4 more)

pub pairs_read : (octets read digits new : List ℕ) → Read octets read → SpellsPairs digits new → Read (octets ++ new) (read ++ digits)
pairs_read octets read [] new so_far is =
    subst (λ (l : List ℕ). Read (octets ++ l) (read ++ [])) (sym is)
    (subst (λ (l : List ℕ). Read l (read ++ [])) (sym (append-nil octets)) (subst (λ (l : List ℕ). Read octets l) (sym (append-nil read)) so_far))
pairs_read octets read (_ ∷ []) new so_far is = absurd is
pairs_read octets read (high ∷ low ∷ digits) new so_far is =
    let octet = 16 * digit_value high + digit_value low in
    let two = two_read octets read so_far high low octet is.1 is.2 refl in
    let all = pairs_read (octets ++ octet ∷ []) (read ++ high ∷ low ∷ []) digits is.0 two is.4 in
    let text = subst (λ (l : List ℕ). Read ((octets ++ octet ∷ []) ++ is.0) l) (append_assoc read (high ∷ low ∷ []) digits) all in
    subst (λ (l : List ℕ). Read (octets ++ l) (read ++ high ∷ low ∷ digits)) (sym is.3)
    (subst (λ (l : List ℕ). Read l (read ++ high ∷ low ∷ digits)) (append_assoc octets (octet ∷ []) is.0) text)

-- a list by its front and what follows
pub front_and_back : (n : ℕ) (whole front behind : List ℕ) → front ≡ take n whole → behind ≡ drop n whole → whole ≡ front ++ behind
front_and_back n whole front behind is left =
    sym (take-append-drop n whole) ∙ ap (λ (l : List ℕ). l ++ drop n whole) (sym is) ∙ ap (λ (l : List ℕ). front ++ l) (sym left)

-- no text that such digits and this one after them make is one of octets
abbrev pub NoneBehind : List ℕ → Type 0
NoneBehind text = (front octets : List ℕ) → SpellsPairs front octets → NoneIs Sixteen (front ++ text)

pub no_pair : (text : List ℕ) → (text ≡ [] → ⊥) → BeginsWithNoPair text → NoneBehind text
no_pair [] some none front octets is = absurd (some refl)
no_pair (first ∷ []) some none front octets is =
    let so_far = pairs_read [] [] front octets nothing_read is in
    let text = front ++ first ∷ [] in elim (cases_lt (digit_value first) 16) [
      | inl few ↦ no_half octets front so_far text (first ∷ []) refl first refl few
      | inr over ↦ no_first octets front so_far text (first ∷ []) refl first [] refl (λ few. omega (arith, few, over))
    ]
no_pair (first ∷ second ∷ behind) some none front octets is =
    let so_far = pairs_read [] [] front octets nothing_read is in
    let left = first ∷ second ∷ behind in elim (cases_lt (digit_value first) 16) [
      | inl few ↦ no_second octets front so_far (front ++ left) left refl first second behind refl few (none first second behind refl few)
      | inr over ↦ no_first octets front so_far (front ++ left) left refl first (second ∷ behind) refl (λ few. omega (arith, few, over))
    ]

-- a text is digits in pairs, or it is no such end
pairs_or_none : (text : List ℕ) → ((octets : List ℕ) × SpellsPairs text octets) ⊎ NoneBehind text
pairs_or_none [] = inl ([], refl)
pairs_or_none (first ∷ []) = inr (no_pair (first ∷ []) (λ none. cc) (λ high low behind same few less. cc))
pairs_or_none (first ∷ second ∷ behind) =
    let octet = 16 * digit_value first + digit_value second in elim (cases_lt (digit_value first) 16) [
      | inl few ↦ elim (cases_lt (digit_value second) 16) [
        | inl less ↦ elim (pairs_or_none behind) [
          | inl more ↦ inl (octet ∷ more.0, (more.0, few, less, refl, more.1))
          | inr none ↦
              inr (λ front octets is.
              subst (NoneIs Sixteen) (append_assoc front (first ∷ second ∷ []) behind)
              (none (front ++ first ∷ second ∷ []) (octets ++ octet ∷ [])
              (spells_more front octets (first ∷ second ∷ []) (octet ∷ []) is ([], few, less, refl, refl))))
        ]
        | inr over ↦
            inr (λ front octets is.
            no_second octets front (pairs_read [] [] front octets nothing_read is) (front ++ first ∷ second ∷ behind) (first ∷ second ∷ behind) refl
            first second behind refl few (λ less. omega (arith, less, over)))
      ]
      | inr over ↦
          inr (λ front octets is.
          no_first octets front (pairs_read [] [] front octets nothing_read is) (front ++ first ∷ second ∷ behind) (first ∷ second ∷ behind) refl
          first (second ∷ behind) refl (λ few. omega (arith, few, over)))
    ]

pub pairs_decode : (digits octets : List ℕ) → SpellsPairs digits octets → Decodes16 digits octets
pairs_decode digits octets is =
    all_read octets digits (pairs_read [] [] digits octets nothing_read is) digits [] (append-nil digits) refl

-- what is behind such digits
pub decodes_behind : (front octets left more : List ℕ) → SpellsPairs front octets → Decodes16 left more → Decodes16 (front ++ left) (octets ++ more)
decodes_behind front octets left more is decodes = elim (pairs_or_none left) [
  | inl all ↦
      let same : more ≡ all.0 = decodes_one Sixteen left all.0 more (pairs_decode left all.0 all.1) decodes in
      subst (λ (l : List ℕ). Decodes16 (front ++ left) (octets ++ l)) (sym same)
      (pairs_decode (front ++ left) (octets ++ all.0) (spells_more front octets left all.0 is all.1))
  | inr none ↦ absurd (none [] [] refl more decodes)
]

pub none_behind : (front octets left : List ℕ) → SpellsPairs front octets → NoneIs Sixteen left → NoneIs Sixteen (front ++ left)
none_behind front octets left is none = elim (pairs_or_none left) [
  | inl all ↦ absurd (none all.0 (pairs_decode left all.0 all.1))
  | inr others ↦ others front octets is
]

-- a text that digits in pairs begin
pub pairs_none : (text old : List ℕ) → AppendsPairs text text old old
pairs_none text old = record { digits = []; octets = []; is = refl; spells = refl; behind = sym (append-nil old) }

pub pairs_more : {text left old now new : List ℕ} (digits behind octets : List ℕ) → AppendsPairs text left old now → left ≡ digits ++ behind
    → SpellsPairs digits octets → new ≡ now ++ octets → AppendsPairs text behind old new
pairs_more {old = old} digits behind octets so is spells appended = record {
  digits = so.digits ++ digits;
  octets = so.octets ++ octets;
  is = so.is ∙ ap (λ (l : List ℕ). so.digits ++ l) is ∙ sym (append_assoc so.digits digits behind);
  spells = spells_more so.digits so.octets digits octets so.spells spells;
  behind = appended ∙ ap (λ (l : List ℕ). l ++ octets) so.behind ∙ append_assoc old so.octets octets;
}

pub pairs_go : {text left old new : List ℕ} → AppendsPairs text left old new → GoesOn old new
pairs_go so = record { more = so.octets; is = so.behind }

-- if nothing is left of it
pub pairs_all : {text left old new : List ℕ} (so : AppendsPairs text left old new) → left ≡ [] → SpellsPairs text so.octets
pairs_all so none =
    subst (λ (l : List ℕ). SpellsPairs l so.octets) (sym (so.is ∙ ap (λ (l : List ℕ). so.digits ++ l) none ∙ append-nil so.digits)) so.spells

-- if something is
pub pairs_wrong : {text left old new : List ℕ} → AppendsPairs text left old new → (left ≡ [] → ⊥) → BeginsWithNoPair left → NoneIs Sixteen text
pairs_wrong {left = left} so some none =
    subst (NoneIs Sixteen) (sym so.is) (no_pair left some none so.digits so.octets so.spells)

-- the first two of octets, and the others
pub two_first : (text : List ℕ) → 2 ≤ length text → text ≡ (get_or text 0 0 ∷ get_or text 1 0 ∷ []) ++ take (length text - 2) (drop 2 text)
two_first [] some = absurd (omega arith)
two_first (a ∷ []) some = absurd (omega arith)
two_first (a ∷ b ∷ text) some = ap (λ (l : List ℕ). a ∷ b ∷ l) (sym (take_all (length (a ∷ b ∷ text) - 2) text (omega arith)))

-- they are no digits
pub two_wrong : (text : List ℕ) → 2 ≤ length text → (digit_value (get_or text 0 0) < 16 → digit_value (get_or text 1 0) < 16 → ⊥) → BeginsWithNoPair text
two_wrong [] some none high low behind same few less = absurd (omega arith)
two_wrong (a ∷ []) some none high low behind same few less = absurd (omega arith)
two_wrong (a ∷ b ∷ text) some none high low behind same few less =
    let first : high ≡ a = cc in
    let second : low ≡ b = cc in
    none (subst (λ (n : ℕ). digit_value n < 16) first few) (subst (λ (n : ℕ). digit_value n < 16) second less)

-- there are fewer
pub too_few : (text : List ℕ) → length text < 2 → BeginsWithNoPair text
too_few text few high low behind same one also = omega (arith, few, ap (length {A = ℕ}) same)
