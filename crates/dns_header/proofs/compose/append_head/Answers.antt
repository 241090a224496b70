use Rattle.std.proofs.Common.{◌≡◌, rules}
use Rattle.std.specs.Prelude.{Err}
use Rattle.dns_octets.specs.declared.error.AppendError.TheVariants.{ShortBuf}
use Rattle.dns_name.proofs.Growth.{GrowsTo-trans}
use Rattle.dns_header.proofs.Composing.{on_ok, front-is, past_name, past_slice}
use Rattle.dns_header.proofs.compose.append_head.Goals as goal

pub returns-in_err-append_compressed_name-clause-short : goal.returns-in_err-append_compressed_name-clause-short
returns-in_err-append_compressed_name-clause-short g c is =
    let refused : c.append_compressed_name.result ≡ Err ShortBuf = search rules in
    past_name _ _ _ _ _ _ (c.append_compressed_name.ensures.short refused)

pub returns-clause-ok : goal.returns-clause-ok
returns-clause-ok g c =
    on_ok c.append_slice.result
    (λ is. front-is _ _ _ _ _ c.in_ok-append_compressed_name.ensures.ok c.in_ok-append_compressed_name.ensures.known is c.append_slice.ensures.known)
    c.append_slice.ensures.ok

pub returns-clause-grows : goal.returns-clause-grows
returns-clause-grows g c = GrowsTo-trans c.append_compressed_name.ensures.grows c.append_slice.ensures.grows

pub returns-clause-short : goal.returns-clause-short
returns-clause-short g c is =
    past_slice _ _ _ _ _ _ _ c.in_ok-append_compressed_name.ensures.ok c.append_compressed_name.ensures.same_bound (c.append_slice.ensures.short is)
