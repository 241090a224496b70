-- The walk over the heads of a name.
use Rattle.std.proofs.Common.{◌≡◌, ℕ, ◌+◌, ◌<◌, ◌≤◌, suc, List, [], ◌∷◌, ◌++◌, length, drop, sym, ◌∙◌, ap, subst, arith, append_assoc}
use Rattle.std.specs.Prelude.{Option, Some, unwrap_or}
use Rattle.dns_label.specs.Name.{wire, labels_wire}
use Rattle.dns_label.specs.Spelled.{EncodesName, DecodesName}
use Rattle.dns_label.specs.Spelled.EncodesName.{root, label, pointer}
use Rattle.dns_label.specs.Split.{StartsWithLabel, StartsWithPointer}
use Rattle.dns_wire.proofs.Wire.{length-wire_is, length-wire-append, length-labels_wire_more}
use Rattle.dns_wire.proofs.Heads.{spelled-labels, spelled-label, spelled-pointer}

-- what is left of a name that begins with these labels
pub record Comes (message : List ℕ) (left place : ℕ) (front whole : List (List ℕ)) : Type 0 where
  pub name : List (List ℕ)
  pub after : ℕ
  pub spelled : EncodesName message left place name after
  pub whole_is : whole ≡ front ++ name

-- what is spelled at the start is these labels and then what is spelled at the place with `left` pointers still to
-- follow
pub record Walks (message : List ℕ) (start place len left : ℕ) (behind : Option ℕ) : Type 0 where
  pub front : List (List ℕ)
  pub on : (name : List (List ℕ)) (after : ℕ) → EncodesName message left place name after
      → EncodesName message 255 start (front ++ name) (unwrap_or behind after)
  pub back : (whole : List (List ℕ)) (end : ℕ) → EncodesName message 255 start whole end → Comes message left place front whole
  pub long : length (labels_wire front) ≡ len

pub walks-label : {message : List ℕ} {start place len left : ℕ} {behind : Option ℕ} (text rest : List ℕ) (place' len' : ℕ)
    → Walks message start place len left behind → StartsWithLabel (drop place message) text rest → 0 < length text
    → place' ≡ place + 1 + length text → len' ≡ len + 1 + length text
    → Walks message start place' len' left behind
walks-label {message} {start} {place} {len} {left} {behind} text rest place' len' walks at some is long =
    let P : ℕ → Type 0 = λ p. Walks message start p len' left behind in
    subst P (sym is) (record {
      front = walks.front ++ text ∷ [];
      on = λ name after here.
          let Q : List (List ℕ) → Type 0 = λ n. EncodesName message 255 start n (unwrap_or behind after) in
          subst Q (sym (append_assoc walks.front (text ∷ []) name))
          (walks.on (text ∷ name) after (label rest at.spelled (record { some = some; short = at.short }) here));
      back = λ whole end here.
          let comes = walks.back whole end here in
          let more = spelled-label text rest comes.spelled at some in
          record {
            name = more.parent;
            after = comes.after;
            spelled = more.spelled;
            whole_is = comes.whole_is ∙ ap (λ n. walks.front ++ n) more.whole_is ∙ sym (append_assoc walks.front (text ∷ []) more.parent);
          };
      long = omega (arith, walks.long, length-labels_wire_more walks.front text);
    })

pub walks-pointer : {message : List ℕ} {start place len left : ℕ} {behind : Option ℕ} (target left' : ℕ)
    → Walks message start place len left behind → StartsWithPointer (drop place message) target → target < place
    → left ≡ suc left' → Walks message start target len left' (Some (unwrap_or behind (place + 2)))
walks-pointer {message} {start} {place} {len} {left} {behind} target left' walks at less more = record {
  front = walks.front;
  on = λ name after here.
      let P : ℕ → Type 0 = λ n. EncodesName message left' n name after in
      let Q : ℕ → Type 0 = λ n. EncodesName message n place name (place + 2) in
      walks.on name (place + 2)
      (subst Q (sym more) (pointer at.first at.second after at.rest at.spelled at.both_bits (omega (arith, at.is)) (subst P at.is here)));
  back = λ whole end here.
      let comes = walks.back whole end here in
      let led = spelled-pointer target comes.spelled at in
      let same : led.left ≡ left' = omega (arith, led.pointers_is) in
      let P : ℕ → Type 0 = λ n. EncodesName message n target comes.name led.after in
      record { name = comes.name; after = led.after; spelled = subst P same led.spelled; whole_is = comes.whole_is };
  long = walks.long;
}

-- at the root's label the name is read
pub record Found (message : List ℕ) (start next len : ℕ) : Type 0 where
  pub name : List (List ℕ)
  pub reads : DecodesName message start name next
  pub long : len ≡ length (wire name)

pub walks-root : {message : List ℕ} {start place len left : ℕ} {behind : Option ℕ} (text rest : List ℕ) (next len' : ℕ)
    → Walks message start place len left behind → StartsWithLabel (drop place message) text rest → text ≡ []
    → next ≡ unwrap_or behind (place + 1) → len' ≡ len + 1 → len' ≤ 255 → Found message start next len'
walks-root {message} {start} {place} {len} {left} {behind} text rest next len' walks at none is long few =
    let R : List ℕ → Type 0 = λ t. StartsWithLabel (drop place message) t rest in
    let here = subst R none at in
    let all = walks.on [] (place + 1) (root rest here.spelled) in
    let P : ℕ → Type 0 = λ n. EncodesName message 255 start (walks.front ++ []) n in
    let wide : len' ≡ length (wire (walks.front ++ [])) = omega (arith, walks.long, length-wire-append walks.front []) in
    record {
      name = walks.front ++ [];
      reads = record {
        spelled = subst P (sym is) all;
        is_name = record { labels = spelled-labels all; short = omega arith };
      };
      long = wide;
    }

-- if nothing is spelled at the place, no name is read at the start
pub walks-none : {message : List ℕ} {start place len left : ℕ} {behind : Option ℕ} → Walks message start place len left behind
    → ((name : List (List ℕ)) (after : ℕ) → EncodesName message left place name after → ⊥)
    → (name : List (List ℕ)) (next : ℕ) → DecodesName message start name next → ⊥
walks-none walks none name next reads =
    let comes = walks.back name next reads.spelled in none comes.name comes.after comes.spelled

-- with the labels before it and this label, a name would be too long
pub walks-long : {message : List ℕ} {start place len left : ℕ} {behind : Option ℕ} (text rest : List ℕ)
    → Walks message start place len left behind → StartsWithLabel (drop place message) text rest → 0 < length text
    → 254 < len + (length text + 1)
    → (name : List (List ℕ)) (next : ℕ) → DecodesName message start name next → ⊥
walks-long text rest walks at some long name next reads =
    let comes = walks.back name next reads.spelled in
    let behind = spelled-label text rest comes.spelled at some in
    omega (
      arith,
      walks.long,
      reads.is_name.short,
      ap (λ (n : List (List ℕ)). length (wire n)) comes.whole_is,
      length-wire-append walks.front comes.name,
      ap (λ (n : List (List ℕ)). length (wire n)) behind.whole_is,
      length-wire-append (text ∷ []) behind.parent,
      length-labels_wire_more [] text,
      length-wire_is behind.parent,
    )

-- a pointer that does not go back
pub walks-forward : {message : List ℕ} {start place len left : ℕ} {behind : Option ℕ} (target : ℕ)
    → Walks message start place len left behind → StartsWithPointer (drop place message) target → place ≤ target
    → (name : List (List ℕ)) (next : ℕ) → DecodesName message start name next → ⊥
walks-forward target walks at forward =
    walks-none walks (λ name after spelled. let led = spelled-pointer target spelled at in omega (arith, led.back))

-- a pointer too many
pub walks-spent : {message : List ℕ} {start place len left : ℕ} {behind : Option ℕ} (target : ℕ)
    → Walks message start place len left behind → StartsWithPointer (drop place message) target → left ≡ 0
    → (name : List (List ℕ)) (next : ℕ) → DecodesName message start name next → ⊥
walks-spent target walks at spent =
    walks-none walks (λ name after spelled. let led = spelled-pointer target spelled at in omega (arith, led.pointers_is))
