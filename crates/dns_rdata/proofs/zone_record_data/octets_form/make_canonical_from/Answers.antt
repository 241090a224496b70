use Rattle.std.proofs.Common.{◌++◌, sym, subst}
use Rattle.dns_fields.specs.OctetsForm.{IsCanonicalData}
use Rattle.dns_rdata.proofs.zone_record_data.octets_form.make_canonical_from.Goals as goal

pub returns : goal.returns
returns c canonical is =
    let made = c.make_canonical_data.ensures canonical (subst (λ l. IsCanonicalData c.args.rtype l canonical) (sym c.split_at_mut-behind.ensures.back) is) in
    λ i. c.split_at_mut-behind.ensures.front i ++ made i
