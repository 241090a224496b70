use Rattle.std.proofs.Common.{◌≡◌, rules}
use Rattle.std.specs.Prelude.{Err}
use Rattle.dns_octets.specs.declared.error.AppendError.TheVariants.{ShortBuf}
use Rattle.dns_name.proofs.Growth.{GrowsTo-trans}
use Rattle.dns_header.proofs.Questions.{written, past_name, past_four}
use Rattle.dns_header.proofs.question.compose.append_parts.Goals as goal

pub returns-in_err-append_compressed_name-clause-short : goal.returns-in_err-append_compressed_name-clause-short
returns-in_err-append_compressed_name-clause-short g c is =
    let refused : c.append_compressed_name.result ≡ Err ShortBuf = search rules in
    past_name _ _ _ _ _ _ (c.append_compressed_name.ensures.short refused)

pub returns-in_err-append_slice-clause-short : goal.returns-in_err-append_slice-clause-short
returns-in_err-append_slice-clause-short g c is =
    let refused : c.append_slice.result ≡ Err ShortBuf = search rules in
    past_four _ _ _ _ _ _ _ _ _ c.append_compressed_name.ensures.same_bound c.in_ok-append_compressed_name.ensures.ok c.four_octets.ensures
    (c.append_slice.ensures.short refused)

pub returns-in_err-append_slice-clause-stays : goal.returns-in_err-append_slice-clause-stays
returns-in_err-append_slice-clause-stays g c =
    g.met.Target.OctetsBuilder.stays_on _ _ _ c.append_compressed_name.ensures.stays c.append_slice.ensures.stays

pub returns-clause-ok : goal.returns-clause-ok
returns-clause-ok g c =
    written _ _ _ _ _ _ _ _ _ _ c.in_ok-append_compressed_name.ensures.ok c.in_ok-append_compressed_name.ensures.known
    c.in_ok-append_slice.ensures.ok c.four_octets.ensures c.append_slice.ensures.known

pub returns-clause-grows : goal.returns-clause-grows
returns-clause-grows g c = GrowsTo-trans c.append_compressed_name.ensures.grows c.append_slice.ensures.grows

pub returns-clause-stays : goal.returns-clause-stays
returns-clause-stays g c =
    g.met.Target.OctetsBuilder.stays_on _ _ _ c.append_compressed_name.ensures.stays c.append_slice.ensures.stays
