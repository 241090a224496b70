use Rattle.std.proofs.Common.{[], ◌∷◌, refl, rules}
use Rattle.dns_rdata.specs.Fields.{Compressible, Number16, Uncompressed}
use Rattle.zone_canonical.proofs.NamesForms.{ends_in_names}
use Rattle.zone_canonical.proofs.form.names_at.Goals as goal

pub returns-in-NS : goal.returns-in-NS
returns-in-NS c = ends_in_names c.args.rtype 2 0 (Compressible ∷ []) (search rules) refl refl

pub returns-in-NS-2 : goal.returns-in-NS-2
returns-in-NS-2 c = ends_in_names c.args.rtype 5 0 (Compressible ∷ []) (search rules) refl refl

pub returns-in-NS-3 : goal.returns-in-NS-3
returns-in-NS-3 c = ends_in_names c.args.rtype 12 0 (Compressible ∷ []) (search rules) refl refl

pub returns-in-NS-4 : goal.returns-in-NS-4
returns-in-NS-4 c = ends_in_names c.args.rtype 17 0 (Uncompressed ∷ Uncompressed ∷ []) (search rules) refl refl

pub returns-in-MX : goal.returns-in-MX
returns-in-MX c = ends_in_names c.args.rtype 15 2 (Number16 ∷ Compressible ∷ []) (search rules) refl refl

pub returns-in-SRV : goal.returns-in-SRV
returns-in-SRV c = ends_in_names c.args.rtype 33 6 (Number16 ∷ Number16 ∷ Number16 ∷ Uncompressed ∷ []) (search rules) refl refl
