use Rattle.std.proofs.Common.{◌∙◌, ℕ, length, ap, arith}
use Rattle.std.proofs.lemmas.Bool.{false≢true}
use Rattle.dns_wire.proofs.Flat.{always_on_err}
use Rattle.dns_compress.proofs.SpotsFound.{reads_within, reads_at, read_one}
use Rattle.dns_compress.proofs.static_table.name_at.Goals as goal

pub returns-in_err-seek-clause-err : goal.returns-in_err-seek-clause-err
returns-in_err-seek-clause-err c =
    always_on_err c.from_residual.result
    (λ name next reads. false≢true (c.in_err-seek.ensures.enough.1
    (omega (arith, reads_within reads, ap (length {A = ℕ}) c.from_ref-parser.ensures.octets))))

pub returns-in_err-name-clause-err : goal.returns-in_err-name-clause-err
returns-in_err-name-clause-err c =
    always_on_err c.from_residual-in_err-name.result
    (λ name next reads. c.in_err-name.ensures.err name next
    (reads_at (ap (λ octets. octets.now) c.in_ok-seek.ensures.ok.0 ∙ c.from_ref-parser.ensures.octets) c.in_ok-seek.ensures.ok.1 reads))

pub returns-clause-ok : goal.returns-clause-ok
returns-clause-ok c = λ name next reads.
    read_one (ap (λ octets. octets.now) c.in_ok-seek.ensures.ok.0 ∙ c.from_ref-parser.ensures.octets) c.in_ok-seek.ensures.ok.1
    c.in_ok-name.ensures.ok reads
