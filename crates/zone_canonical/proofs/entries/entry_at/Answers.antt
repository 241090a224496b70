use Rattle.std.proofs.Common.{◌≡◌, Some, sym, ap, ◌∙◌}
use Rattle.zone_canonical.specs.Form.{form_of}
use Rattle.zone_canonical.specs.Keyed.{keyed, with_key}
use Rattle.zone_canonical.specs.OwnerKey.{key_of}
use Rattle.zone_canonical.proofs.entries.entry_at.Goals as goal

pub new-requires : goal.new-requires
new-requires c = c.requires.has c.record_at-record.result c.record_at-record.ensures

pub returns : goal.returns
returns c = λ r found.
    let both : Some c.record_at-record.result ≡ Some r = sym c.record_at-record.ensures ∙ found in
    let same : c.record_at-record.result ≡ r = cc in
    let key = c.owner_key.ensures ∙ ap (key_of c.args.apex.now) c.owner.ensures.owner in
    c.new.ensures ∙ ap (λ k. with_key k (form_of c.record_at-record.result)) key ∙ ap (keyed c.args.apex.now) same
