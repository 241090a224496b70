-- Lines that are counted on from a mark.
use Rattle.std.proofs.Common.{◌≡◌, ◌≤◌, ◌+◌, ◌-◌, ◌==◌, ◌++◌, ◌∙◌, ℕ, suc, Bool, true, false, if◌then◌else◌, List, [], ◌∷◌, length, take, drop, sym, ap, arith, length-append}
use Rattle.std.proofs.Math.Seq.{take-add}
use Rattle.std.proofs.lemmas.List.{take-append-le}
use Rattle.dns_entry_scanner.specs.LineMark.{MarksLine}
use Rattle.dns_entry_scanner.specs.Lines.{line_at, line_behind}
use Rattle.dns_entry_scanner.specs.declared.line_mark.LineMark.{LineMark}

step : (feed : Bool) (whole left right : ℕ) → whole + 1 ≡ left + right
    → (if feed then suc whole else whole) + 1 ≡ (if feed then suc left else left) + right
step true whole left right is = omega (arith, is)
step false whole left right is = omega (arith, is)

lines-append : (front back : List ℕ) → line_behind (front ++ back) + 1 ≡ line_behind front + line_behind back
lines-append [] back = omega arith
lines-append (octet ∷ front) back =
    step (octet == 10) (line_behind (front ++ back)) (line_behind front) (line_behind back) (lines-append front back)

few : (feed : Bool) (line len : ℕ) → line ≤ len + 1 → (if feed then suc line else line) ≤ suc len + 1
few true line len most = omega (arith, most)
few false line len most = omega (arith, most)

pub lines-few : (octets : List ℕ) → line_behind octets ≤ length octets + 1
lines-few [] = omega arith
lines-few (octet ∷ octets) = few (octet == 10) (line_behind octets) (length octets) (lines-few octets)

some : (feed : Bool) (line : ℕ) → 1 ≤ line → 1 ≤ (if feed then suc line else line)
some true line least = omega arith
some false line least = least

pub lines-some : (octets : List ℕ) → 1 ≤ line_behind octets
lines-some [] = omega arith
lines-some (octet ∷ octets) = some (octet == 10) (line_behind octets) (lines-some octets)

-- the lines of a place and of the octets behind it
pub lines-on : (text : List ℕ) (place end : ℕ) → place ≤ end
    → line_at text end + 1 ≡ line_at text place + line_behind (take (end - place) (drop place text))
lines-on text place end behind =
    let whole : place + (end - place) ≡ end = omega (arith, behind) in
    let cut : take end text ≡ take place text ++ take (end - place) (drop place text) =
    ap (λ n. take n text) (sym whole) ∙ take-add place (end - place) text in
    ap (λ l. line_behind l + 1) cut ∙ lines-append (take place text) (take (end - place) (drop place text))

-- a longer text has the mark too
pub marks-longer : (text more : List ℕ) (mark : LineMark) → MarksLine text mark → MarksLine (text ++ more) mark
marks-longer text more mark marks = (
  omega (arith, marks.0, length-append text more),
  marks.1 ∙ ap line_behind (sym (take-append-le mark.place text more marks.0)),
)
