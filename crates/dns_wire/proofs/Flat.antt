-- Names that are written out: one label after another is taken off the front.
use Rattle.std.proofs.Common.{◌≡◌, ℕ, ◌+◌, ◌<◌, ◌≤◌, List, [], ◌∷◌, ◌++◌, length, take, drop, refl, sym, ◌∙◌, ap, subst, arith, append_assoc, append-nil, length-append, inl, inr}
use Rattle.std.specs.Prelude.{Result, Ok, Err, OnErr}
use Rattle.std.proofs.Math.Seq.{take-append_seam, drop-append_seam}
use Rattle.dns_label.specs.Name.{IsName, wire}
use Rattle.dns_label.specs.Spelled.{DecodesName}
use Rattle.dns_label.specs.Split.{StartsWithLabel, NoLabel}
use Rattle.dns_label.specs.declared.label.SplitLabelError.{SplitLabelError}
use Rattle.dns_label.specs.declared.label.SplitLabelError.TheVariants.{Pointer, BadType, ShortInput}
use Rattle.dns_label.specs.declared.label.LabelTypeError.TheVariants.{Undefined, Extended}
use Rattle.dns_label.specs.Labels.{labels_at}
use Rattle.dns_label.proofs.Spelling.{labels_at-reads, spelled-written, spelled_end}
use Rattle.dns_wire.specs.Flat.{IsWritten, StartsWithName}

-- if a name can be taken off the rest, one can be taken off the octets, and the same octets are left; and the other way
-- round
pub record Leads (octets rest : List ℕ) : Type 0 where
  pub on : (name : List (List ℕ)) (behind : List ℕ) → StartsWithName rest name behind
      → (whole : List (List ℕ)) × StartsWithName octets whole behind
  pub back : (whole : List (List ℕ)) (behind : List ℕ) → StartsWithName octets whole behind
      → (name : List (List ℕ)) × StartsWithName rest name behind

pub leads_here : (octets : List ℕ) → Leads octets octets
leads_here octets = record { on = λ name behind here. (name, here); back = λ whole behind here. (whole, here) }

-- what begins with a label begins with nothing else
pub no_label_no_front : (octets text behind : List ℕ) (error : SplitLabelError) → NoLabel octets error
    → StartsWithLabel octets text behind → ⊥
no_label_no_front octets text behind (Pointer place) none front =
    let a = none.spelled in let b = front.spelled in let long : length text ≡ none.first = cc in absurd (omega (arith, none.both_bits, front.short))
no_label_no_front octets text behind (BadType Undefined) none front =
    let a = none.spelled in let b = front.spelled in let long : length text ≡ none.first = cc in absurd (omega (arith, none.from, front.short))
no_label_no_front octets text behind (BadType Extended) none front =
    let a = none.spelled in let b = front.spelled in let long : length text ≡ none.first = cc in absurd (omega (arith, none.from, front.short))
no_label_no_front [] text behind ShortInput none front = let b = front.spelled in cc
no_label_no_front (first ∷ rest) text behind ShortInput (inl none) front =
    let b = front.spelled in let long : length text ≡ first = cc in let all : rest ≡ text ++ behind = cc in
    absurd (omega (arith, none.0, none.1, ap (length {A = ℕ}) all, length-append text behind))
no_label_no_front (first ∷ rest) text behind ShortInput (inr none) front =
    let b = front.spelled in let long : length text ≡ first = cc in absurd (omega (arith, none.0, front.short))

-- the first label is the first one of the name
pub label_on : (octets text rest : List ℕ) (name : List (List ℕ)) (behind : List ℕ) → StartsWithLabel octets text rest
    → 0 < length text → StartsWithName rest name behind → StartsWithName octets (text ∷ name) behind
label_on octets text rest name behind front some here = record {
  labels = (record { some = some; short = front.short }, here.labels);
  whole = front.spelled ∙ ap (λ l. length text ∷ text ++ l) here.whole ∙ sym (append_assoc (length text ∷ text) (wire name) behind);
}

pub same_front : (a b x y : List ℕ) → a ++ x ≡ b ++ y → length a ≡ length b → (a ≡ b) × (x ≡ y)
same_front a b x y same long =
    let front : a ≡ b = sym (take-append_seam a x) ∙ ap (λ l. take (length a) l) same ∙ ap (λ n. take n (b ++ y)) long ∙ take-append_seam b y in
    let behind : x ≡ y = sym (drop-append_seam a x) ∙ ap (λ l. drop (length a) l) same ∙ ap (λ n. drop n (b ++ y)) long ∙ drop-append_seam b y in
    (front, behind)

pub label_back : (octets text rest : List ℕ) (whole : List (List ℕ)) (behind : List ℕ) → StartsWithLabel octets text rest
    → 0 < length text → StartsWithName octets whole behind → (name : List (List ℕ)) × StartsWithName rest name behind
label_back octets text rest [] behind front some here =
    let at = front.spelled in let whole = here.whole in
    let none : length text ≡ 0 = cc in absurd (omega arith)
label_back octets text rest (first ∷ name) behind front some here =
    let at = front.spelled in
    let whole : octets ≡ length first ∷ first ++ (wire name ++ behind) = here.whole ∙ append_assoc (length first ∷ first) (wire name) behind in
    let long : length text ≡ length first = cc in
    let same : text ++ rest ≡ first ++ (wire name ++ behind) = cc in
    (name, record { labels = here.labels.1; whole = (same_front text first rest (wire name ++ behind) same long).1 })

-- the root's label is a name
pub root_front : (octets rest : List ℕ) → StartsWithLabel octets [] rest → StartsWithName octets [] rest
root_front octets rest front = record { labels = tt; whole = front.spelled }

-- a name begins with a label
pub name_front : (octets : List ℕ) (name : List (List ℕ)) (rest : List ℕ) → StartsWithName octets name rest
    → (text behind : List ℕ) × StartsWithLabel octets text behind
name_front octets [] rest here = ([], rest, record { spelled = here.whole; short = omega arith })
name_front octets (first ∷ name) rest here = (
  first,
  wire name ++ rest,
  record {
    spelled = here.whole ∙ append_assoc (length first ∷ first) (wire name) rest;
    short = here.labels.0.short;
  },
)

-- if no label can be split off, the octets begin with no name
pub no_label_no_name : (octets : List ℕ) (error : SplitLabelError) → NoLabel octets error
    → (name : List (List ℕ)) (rest : List ℕ) → StartsWithName octets name rest → ⊥
no_label_no_name octets error none name rest here =
    let front = name_front octets name rest here in no_label_no_front octets front.0 front.1 error none front.2

pub some_octets : (text : List ℕ) → (text ≡ [] → ⊥) → 0 < length text
some_octets [] none = absurd (none refl)
some_octets (octet ∷ text) none = omega arith

pub leads-label : (octets here text rest : List ℕ) → Leads octets here → StartsWithLabel here text rest → (text ≡ [] → ⊥)
    → Leads octets rest
leads-label octets here text rest leads front none = let some = some_octets text none in record {
  on = λ name behind at. leads.on (text ∷ name) behind (label_on here text rest name behind front some at);
  back = λ whole behind at.
      let front' = leads.back whole behind at in label_back here text rest front'.0 behind front some front'.1;
}

-- at the root's label the name ends
pub leads-root : (octets here text rest : List ℕ) → Leads octets here → StartsWithLabel here text rest → text ≡ []
    → (name : List (List ℕ)) × StartsWithName octets name rest
leads-root octets here text rest leads front none =
    let P : List ℕ → Type 0 = λ t. StartsWithLabel here t rest in
    leads.on [] rest (root_front here rest (subst P none front))

-- if no label can be split off, there is no name
pub leads-none : (octets here : List ℕ) (error : SplitLabelError) → Leads octets here → NoLabel here error
    → (name : List (List ℕ)) (rest : List ℕ) → StartsWithName octets name rest → ⊥
leads-none octets here error leads none name rest at =
    let front = leads.back name rest at in no_label_no_name here error none front.0 rest front.1

-- a name that takes up all the octets is found in them
pub written-whole : (octets : List ℕ) (name : List (List ℕ)) → length octets ≤ 255 → StartsWithName octets name []
    → IsWritten octets
written-whole octets name few here =
    let is : octets ≡ wire name = here.whole ∙ append-nil (wire name) in
    let is_name : IsName name = record { labels = here.labels; short = subst (λ (l : List ℕ). length l ≤ 255) is few } in
    let reads : DecodesName octets 0 name (0 + length (wire name)) =
    record { spelled = spelled-written octets 255 0 name [] here.whole here.labels; is_name = is_name } in
    let found = sym (labels_at-reads reads) in
    let P : List (List ℕ) → Type 0 = λ n. IsName n in
    record { is_name = subst P found is_name; whole = is ∙ ap wire found }

-- a name, and nothing after it
pub whole_front : (octets : List ℕ) (name : List (List ℕ)) → IsName name → octets ≡ wire name → StartsWithName octets name []
whole_front octets name is_name is = record { labels = is_name.labels; whole = is ∙ sym (append-nil (wire name)) }

-- what follows the name is determined
pub same_rest : (octets : List ℕ) (name other : List (List ℕ)) (rest behind : List ℕ) → StartsWithName octets name rest
    → StartsWithName octets other behind → rest ≡ behind
same_rest octets name other rest behind here there =
    let end = spelled_end octets (spelled-written octets 0 0 name rest here.whole here.labels)
    (spelled-written octets 0 0 other behind there.whole there.labels) refl in
    let long : length (wire name) ≡ length (wire other) = omega arith in
    (same_front (wire name) (wire other) rest behind (sym here.whole ∙ there.whole) long).1

-- a name in its wire form is read
pub flat-reads : (octets : List ℕ) (name : List (List ℕ)) → IsName name → octets ≡ wire name
    → DecodesName octets 0 name (0 + length (wire name))
flat-reads octets name is_name is =
    record { spelled = spelled-written octets 255 0 name [] (whole_front octets name is_name is).whole is_name.labels; is_name = is_name }

pub flat-labels : (octets : List ℕ) (name : List (List ℕ)) → IsName name → octets ≡ wire name → labels_at octets 0 ≡ name
flat-labels octets name is_name is = labels_at-reads (flat-reads octets name is_name is)

pub flat-written : (octets : List ℕ) (name : List (List ℕ)) → IsName name → octets ≡ wire name → IsWritten octets
flat-written octets name is_name is =
    let found = sym (flat-labels octets name is_name is) in
    let P : List (List ℕ) → Type 0 = λ n. IsName n in
    record { is_name = subst P found is_name; whole = is ∙ ap wire found }

-- what holds in any case holds on an error
pub always_on_err : {T E P : Type 0} (result : Result T E) → P → OnErr result P
always_on_err (Ok value) always = tt
always_on_err (Err error) always = always
