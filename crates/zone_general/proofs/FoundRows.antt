-- Rows that were found in a text.
use Rattle.std.proofs.Common.{◌≡◌, ◌+◌, ◌-◌, ◌<◌, ◌≤◌, ◌++◌, ◌∙◌, ℕ, false, List, [], ◌∷◌, length, take, drop, refl, subst, sym, ap, arith, append-nil, length-append, length-drop}
use Rattle.std.proofs.Math.Seq.{take-append_seam}
use Rattle.dns_text.specs.Rows.{is_led}
use Rattle.dns_text.specs.Tokens.{Row}
use Rattle.zone_general.proofs.RowParts.{row_alone}
use Rattle.zone_general.specs.Rewritten.{AreRow}
use Rattle.zone_general.specs.Seen.{IsFound, octets_in, row_in, tokens_in}
use Rattle.zone_general.specs.declared.found_row.FoundRow.{FoundRow}

led_front : (octets rest : List ℕ) → 0 < length octets → is_led (octets ++ rest) ≡ is_led octets
led_front [] rest some = absurd (omega arith)
led_front (octet ∷ octets) rest some = refl

-- the octets of a row, and the text behind them
pub record FoundOctets (row : FoundRow) : Type 0 where
  pub are : AreRow (octets_in row) (row_in row)
  pub behind : drop row.place row.text.now ≡ octets_in row ++ drop row.next row.text.now

pub found_row : (row : FoundRow) → IsFound row → FoundOctets row
found_row row is =
    let text = row.text.now in
    let front = drop row.place text in
    let rest = drop row.next text in
    let alone = row_alone is.row in
    let before : row.place < row.next = is.behind in
    let within : row.next ≤ length text = is.within in
    let whole : length front ≡ length alone.octets + length rest = ap (length {A = ℕ}) alone.whole ∙ length-append alone.octets rest in
    let first : length front ≡ length text - row.place = length-drop row.place text in
    let last : length rest ≡ length text - row.next = length-drop row.next text in
    let long : row.next - row.place ≡ length alone.octets = omega arith in
    let some : 0 < length alone.octets = omega arith in
    let same : octets_in row ≡ alone.octets =
    ap (λ (n : ℕ). take n front) long ∙ ap (take (length alone.octets)) alone.whole ∙ take-append_seam alone.octets rest in
    let one : Row false alone.octets (tokens_in row) [] =
    subst (λ (l : List ℕ). Row false l (tokens_in row) []) (append-nil alone.octets) (alone.is []) in
    let led : row.blank_led ≡ is_led alone.octets = is.leads ∙ ap is_led alone.whole ∙ led_front alone.octets rest some in record {
      are = record {
        is = subst (λ (l : List ℕ). Row false l (tokens_in row) []) (sym same) one;
        led = led ∙ ap is_led (sym same);
      };
      behind = alone.whole ∙ ap (λ (l : List ℕ). l ++ rest) (sym same);
    }
