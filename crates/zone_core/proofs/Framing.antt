-- A stream splits in one way into whole messages, each after its length, and less than a whole one.
use Rattle.std.proofs.Common.{◌≡◌, ℕ, ◌<◌, List, [], ◌∷◌, ◌++◌, length, refl, sym, ap, ◌∙◌, subst, arith, append_assoc, append-nil, length-append}
use Rattle.std.specs.Int.{to_be_bytes, from_be_bytes, w16}
use Rattle.std.specs.List.{AllByRecursion, push}
use Rattle.std.proofs.lemmas.List.Concat.{flat_map-append}
use Rattle.std.proofs.lemmas.Nat.{from_be_bytes-to_be_bytes_2}
use Rattle.dns_octets.proofs.Fronts.{same_fronts, same_number16}
use Rattle.zone_core.specs.Frames.{frame, frames, IsFramable, IsPartial, Splits}

-- first messages of two streams that are equal
pub same_message : (m n more rest : List ℕ) → IsFramable m → IsFramable n → frame m ++ more ≡ frame n ++ rest
    → (m ≡ n) × (more ≡ rest)
same_message m n more rest small small' e =
    let lengths : to_be_bytes w16 (length m) ≡ to_be_bytes w16 (length n) = cc in
    same_fronts m n more rest (same_number16 (length m) (length n) small small' lengths) cc

-- a whole frame is not less than one
pub whole_is_not_partial : (rest m more : List ℕ) → IsPartial rest → IsFramable m → rest ≡ frame m ++ more → ⊥
whole_is_not_partial rest m more partial small e =
    let P : List ℕ → Type 0 = λ octets. IsPartial octets in
    let short : length (m ++ more) < from_be_bytes w16 (to_be_bytes w16 (length m)) = subst P e partial in
    omega (arith, short, length-append m more, from_be_bytes-to_be_bytes_2 (length m) small)

frames_one : (messages others : List (List ℕ)) (rest rest' : List ℕ) → AllByRecursion IsFramable messages
    → AllByRecursion IsFramable others → IsPartial rest → IsPartial rest' → frames messages ++ rest ≡ frames others ++ rest'
    → (messages ≡ others) × (rest ≡ rest')
frames_one [] [] rest rest' each each' partial partial' e = (refl, e)
frames_one [] (n ∷ others) rest rest' each each' partial partial' e =
    absurd (whole_is_not_partial rest n (frames others ++ rest') partial each'.0 (e ∙ append_assoc (frame n) (frames others) rest'))
frames_one (m ∷ messages) [] rest rest' each each' partial partial' e =
    absurd (whole_is_not_partial rest' m (frames messages ++ rest) partial' each.0 (sym e ∙ append_assoc (frame m) (frames messages) rest))
frames_one (m ∷ messages) (n ∷ others) rest rest' each each' partial partial' e =
    let here : frame m ++ (frames messages ++ rest) ≡ frame n ++ (frames others ++ rest') =
    sym (append_assoc (frame m) (frames messages) rest) ∙ e ∙ append_assoc (frame n) (frames others) rest' in
    let first = same_message m n (frames messages ++ rest) (frames others ++ rest') each.0 each'.0 here in
    let behind = frames_one messages others rest rest' each.1 each'.1 partial partial' first.1 in
    (cc (first.0, behind.0), behind.1)

-- A stream splits in one way.
pub splits_one : (stream : List ℕ) (messages others : List (List ℕ)) (rest rest' : List ℕ) → Splits stream messages rest
    → Splits stream others rest' → (messages ≡ others) × (rest ≡ rest')
splits_one stream messages others rest rest' a b =
    frames_one messages others rest rest' a.each b.each a.partial b.partial (sym a.whole ∙ b.whole)

-- frames with one more
pub frames_push : (messages : List (List ℕ)) (message : List ℕ) → frames messages ++ frame message ≡ frames (push messages message)
frames_push messages message =
    ap (λ l. frames messages ++ l) (sym (append-nil (frame message))) ∙ sym (flat_map-append frame messages (message ∷ []))

-- whole frames determine the list of messages
pub whole_frames_one : (messages others : List (List ℕ)) → AllByRecursion IsFramable messages
    → AllByRecursion IsFramable others → frames messages ≡ frames others → messages ≡ others
whole_frames_one messages others each each' e =
    let one = frames_one messages others [] [] each each' tt tt (append-nil (frames messages) ∙ e ∙ sym (append-nil (frames others))) in
    one.0
