use Rattle.std.proofs.Common.{◌≡◌, ◌+◌, ◌∷◌, ◌++◌, ◌↔◌, [], List, ℕ, length, refl, ◌∙◌, take, get_or, sym, subst, arith, add-one}
use Rattle.std.specs.List.{Contains}
use Rattle.std.proofs.Math.Seq.{take-suc}
use Rattle.std.proofs.lemmas.List.{take_all}
use Rattle.std.proofs.lemmas.Option.{get_or_from_slice_get, slice_get_read}
use Rattle.dns_field_texts.specs.Windows.{HasAlso}
use Rattle.dns_field_texts.proofs.ScannedTypes.{also_pushed, bitmap_on_ok}
use Rattle.dns_field_texts.proofs.bitmap.append_types.Goals as goal

pub loop-rtype-preserved : goal.loop-rtype-preserved
loop-rtype-preserved c = λ type.
    let index = c.loop-rtype.rtype-index in
    let types = c.args.types.now in
    let taken : take (index + 1) types ≡ take index types ++ get_or types index 0 ∷ [] = rw add-one (take-suc types index 0 c.loop-rtype-test.true) in
    let its : c.to_int.result ≡ get_or types index 0 =
    c.to_int.ensures
    ∙ sym (get_or_from_slice_get types index c.rtype-item.result 0 (slice_get_read types (length types) index c.rtype-item.result refl c.loop-rtype-test.true c.rtype-item.is)) in
    let P : List ℕ → Type 0 = λ l. Contains c.insert.new.self type ↔ Contains l type in
    subst P (sym taken)
    (also_pushed c.loop-rtype.set c.insert.new.self (take index types) (get_or types index 0)
    (subst (λ (n : ℕ). HasAlso c.loop-rtype.set c.insert.new.self n) its c.in_ok-insert.ensures.ok) c.loop-rtype.invariant type)

pub returns-clause-ok : goal.returns-clause-ok
returns-clause-ok c =
    let types = c.args.types.now in
    let all : take c.loop-rtype.rtype-index types ≡ types = take_all c.loop-rtype.rtype-index types (omega arith) in
    let P : List ℕ → Type 0 = λ l. (type : ℕ) → Contains c.loop-rtype.set type ↔ Contains l type in
    bitmap_on_ok c.append_to.result types c.loop-rtype.set c.args.octets.now.items c.append_to.new.octets.items (subst P all c.loop-rtype.invariant)
    c.append_to.ensures.ok
