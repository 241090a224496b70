use Rattle.std.proofs.Common.{ℕ, subst, sym}
use Rattle.dns_field_texts.specs.LocationParts.{IsPart}
use Rattle.dns_field_texts.proofs.LocationScans.{lost}
use Rattle.dns_field_texts.proofs.location.scan.scan_numeral.Goals as goal

pub returns-in-None-clause-err : goal.returns-in-None-clause-err
returns-in-None-clause-err g c = λ short value left takes.
    lost (IsPart c.args.places c.args.most value) c.in_ok-peek_text.ensures.ok.1
    (λ part. c.in-None.ensures.none value (subst (λ (n : ℕ). IsPart c.args.places n value c.in_ok-peek_text.field-0.now) (sym c.from.ensures) part)) takes
