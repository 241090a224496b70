-- Octets that are copied as a chunk and cut, and written as two parts which overlap.
use Rattle.std.proofs.Common.{◌≡◌, ◌+◌, ◌-◌, ◌≤◌, ℕ, List, ◌++◌, length, take, drop, refl, sym, ◌∙◌, ap, arith, append_assoc}
use Rattle.std.proofs.Math.Seq.{drop-append-add, take-append-add}
use Rattle.std.proofs.lemmas.List.{drop-drop, length-drop, length-take-le, take-append-le, take-take}
use lib.ListN.{take-append-drop}
use Rattle.dns_name.specs.Remembered.{patched}
use Rattle.dns_entry_scanner.specs.AppendedName.{HasBehind}
use Rattle.dns_entry_scanner.proofs.RoomBehind.{has_longer}

-- a text and what a longer one has behind it, of which more was copied
pub has_cut : (old text from middle new : List ℕ) (most count whole room : ℕ) → text ≡ take (length text) from → middle ≡ old ++ take most from
    → new ≡ take count middle → whole ≡ length text + room → whole ≤ most → most ≤ length from → count ≡ length old + whole
    → HasBehind room (old ++ text) new
has_cut old text from middle new most count whole room begins copied cut is less within counted =
    let all : new ≡ old ++ take whole from =
    cut ∙ ap (λ n. take n middle) counted ∙ ap (take (length old + whole)) copied ∙ take-append-add old (take most from) whole
    ∙ ap (λ l. old ++ l) (take-take whole most from less) in
    has_longer old text from new whole room begins is (omega (arith, less, within)) all

-- the first octets are written, and then the last ones, from one on that was written or follows them
pub over_ends : (octets over last middle new : List ℕ) (place count behind : ℕ) → middle ≡ patched octets place (take count over)
    → new ≡ patched middle (place + behind) last → last ≡ drop behind over → behind ≤ count → count ≤ length over
    → place + length over ≤ length octets → new ≡ patched octets place over
over_ends octets over last middle new place count behind first second is overlap most within =
    let front = take place octets in
    let part = take count over in
    let rest = drop (place + length part) octets in
    let place_is : length front ≡ place = length-take-le place octets (omega (arith, within)) in
    let part_is : length part ≡ count = length-take-le count over most in
    let last_is : length last ≡ length over - behind = ap (length {A = ℕ}) is ∙ length-drop behind over in
    let before : take (place + behind) middle ≡ front ++ take behind over =
    ap (take (place + behind)) first ∙ ap (λ n. take (n + behind) (front ++ (part ++ rest))) (sym place_is)
    ∙ take-append-add front (part ++ rest) behind
    ∙ ap (λ l. front ++ l) (take-append-le behind part rest (omega (arith, part_is, overlap)) ∙ take-take behind count over overlap) in
    let left : place + behind + length last ≡ length front + (length part + (length over - count)) =
    omega (arith, place_is, part_is, last_is, overlap, most) in
    let end : place + length part + (length over - count) ≡ place + length over = omega (arith, part_is, most) in
    let after : drop (place + behind + length last) middle ≡ drop (place + length over) octets =
    ap (drop (place + behind + length last)) first ∙ ap (λ n. drop n (front ++ (part ++ rest))) left
    ∙ drop-append-add front (part ++ rest) (length part + (length over - count)) ∙ drop-append-add part rest (length over - count)
    ∙ drop-drop (length over - count) (place + length part) octets ∙ ap (λ n. drop n octets) end in
    second ∙ (λ i. before i ++ (is i ++ after i)) ∙ append_assoc front (take behind over) (drop behind over ++ drop (place + length over) octets)
    ∙ ap (λ l. front ++ l) (sym (append_assoc (take behind over) (drop behind over) (drop (place + length over) octets))
    ∙ ap (λ l. l ++ drop (place + length over) octets) (take-append-drop behind over))
