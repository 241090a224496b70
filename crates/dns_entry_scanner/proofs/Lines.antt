-- Lines of a text, and the line feeds that end them.
use Rattle.std.proofs.Common.{◌≡◌, ◌+◌, ◌%◌, ◌<◌, ◌≤◌, ◌==◌, ◌∙◌, ℕ, suc, Bool, true, false, cond, if◌then◌else◌, List, [], ◌∷◌, ◌++◌, map, nat_eq, length, take, drop, refl, sym, subst, ap, arith, length-append}
use Rattle.std.proofs.lemmas.List.{drop-drop, drop_all, take-append-drop}
use Rattle.dns_text.specs.Tokens.{from_feed}
use Rattle.dns_entry_scanner.specs.Lines.{behind_line, line_behind}
use lib.Lanes.{fold_l, sel_l, top, zip2}
use lib.ListN.{replicate}

behind_by : (octet : ℕ) (text : List ℕ) (feed : Bool) → behind_line text ≡ drop 1 (from_feed text)
    → (if feed then text else behind_line text) ≡ drop 1 (if feed then octet ∷ text else from_feed text)
behind_by octet text true same = refl
behind_by octet text false same = same

behind_feed : (text : List ℕ) → behind_line text ≡ drop 1 (from_feed text)
behind_feed [] = refl
behind_feed (octet ∷ text) = behind_by octet text (octet == 10) (behind_feed text)

-- the line's end, and the place behind it
pub line_passed : (text : List ℕ) (place end : ℕ) → drop end text ≡ from_feed (drop place text) → drop (end + 1) text ≡ behind_line (drop place text)
line_passed text place end is = sym (behind_feed (drop place text) ∙ ap (drop {A = ℕ} 1) (sym is) ∙ drop-drop 1 end text)

pub line_ended : (text : List ℕ) (place end : ℕ) → drop end text ≡ from_feed (drop place text) → length text ≤ end → drop end text ≡ behind_line (drop place text)
line_ended text place end is last =
    let none = drop_all end text last in none ∙ sym (behind_feed (drop place text) ∙ ap (drop {A = ℕ} 1) (sym is ∙ none))

-- a block in front of others
pub block_front : (size : ℕ) (text block behind : List ℕ) → block ≡ take size text → behind ≡ drop size text → text ≡ block ++ behind
block_front size text block behind is left = sym (take-append-drop size text) ∙ ap (λ l. l ++ drop size text) (sym is) ∙ ap (λ l. block ++ l) (sym left)

-- the line feeds of a vector: a one in each lane that is one
abbrev mark : ℕ → ℕ → ℕ
mark octet feed = cond (nat_eq octet feed) 255 0

abbrev pub ones : ℕ → List ℕ → List ℕ
ones size octets = sel_l (map (top 7) (zip2 mark octets (replicate size 10))) (replicate size 1) (replicate size 0)

abbrev pub added : ℕ → ℕ → ℕ
added sum lane = (sum + lane) % 256

abbrev Counted : List ℕ → List ℕ → ℕ → Type 0
Counted octets behind sum = line_behind (octets ++ behind) + sum ≡ fold_l added sum (ones (length octets) octets) + line_behind behind

feeds_by : (octets behind : List ℕ) (sum : ℕ) (feed : Bool) → sum + suc (length octets) < 256 → ((sum : ℕ) → sum + length octets < 256 → Counted octets behind sum)
    → (if feed then suc (line_behind (octets ++ behind)) else line_behind (octets ++ behind)) + sum
    ≡ fold_l added (added sum (cond (top 7 (cond feed 255 0)) 1 0)) (ones (length octets) octets) + line_behind behind
feeds_by octets behind sum true few others =
    let same : (sum + 1) % 256 ≡ sum + 1 = omega (arith, few) in
    subst (λ n. suc (line_behind (octets ++ behind)) + sum ≡ fold_l added n (ones (length octets) octets) + line_behind behind) (sym same)
    (omega (arith, others (sum + 1) (omega (arith, few))))
feeds_by octets behind sum false few others =
    let same : (sum + 0) % 256 ≡ sum = omega (arith, few) in
    subst (λ n. line_behind (octets ++ behind) + sum ≡ fold_l added n (ones (length octets) octets) + line_behind behind) (sym same)
    (others sum (omega (arith, few)))

feeds_counted : (octets behind : List ℕ) (sum : ℕ) → sum + length octets < 256 → Counted octets behind sum
feeds_counted [] behind sum few = omega arith
feeds_counted (octet ∷ octets) behind sum few =
    feeds_by octets behind sum (octet == 10) few (λ sum few. feeds_counted octets behind sum few)

pub block_feeds : (octets : List ℕ) → length octets ≡ 64 → (behind : List ℕ)
    → line_behind (octets ++ behind) ≡ fold_l added 0 (ones 64 octets) + line_behind behind
block_feeds octets long behind =
    let is = subst (λ n. line_behind (octets ++ behind) + 0 ≡ fold_l added 0 (ones n octets) + line_behind behind) long
    (feeds_counted octets behind 0 (omega (arith, long))) in omega (arith, is)

lines_few_by : (octets : List ℕ) (feed : Bool) → line_behind octets ≤ length octets + 1
    → (if feed then suc (line_behind octets) else line_behind octets) ≤ suc (length octets) + 1
lines_few_by octets true few = omega (arith, few)
lines_few_by octets false few = omega (arith, few)

lines_few : (octets : List ℕ) → line_behind octets ≤ length octets + 1
lines_few [] = omega arith
lines_few (octet ∷ octets) = lines_few_by octets (octet == 10) (lines_few octets)

-- no more than one for each octet
pub feeds_few : (octets : List ℕ) (feeds : ℕ) → line_behind (octets ++ []) ≡ feeds + line_behind [] → feeds ≤ length octets
feeds_few octets feeds is = omega (arith, is, lines_few (octets ++ []), length-append {A = ℕ} octets [])
