use Rattle.std.proofs.Common.{◌≡◌, ◌+◌, ◌<◌, ◌≤◌, ◌∙◌, ℕ, length, refl, ap, arith, rules}
use Rattle.dns_octets.specs.declared.error.ParseError.TheVariants.{ShortInput}
use Rattle.dns_octets.specs.Parser.{octets_of, place_of}
use Rattle.dns_octets.specs.Numbers.{number_at}
use Rattle.dns_header.specs.SkipsRecord.SkipIsCut.{behind_owner, in_data}
use Rattle.dns_header.proofs.Heads.{on_err, told_of}
use Rattle.dns_header.proofs.Skips.{skips_short, skips_cut}
use Rattle.dns_header.proofs.parsed_record.ParsedRecord.skip.Goals as goal

pub returns-in_err-advance-clause-err : goal.returns-in_err-advance-clause-err
returns-in_err-advance-clause-err c =
    let short : length (octets_of c.args.parser.now) < place_of c.skip.new.parser + 10 = search rules in
    on_err c.from_residual-in_err-advance.result (skips_short c.in_ok-skip.ensures.ok short)

pub returns-in_err-advance-clause-short : goal.returns-in_err-advance-clause-short
returns-in_err-advance-clause-short c =
    let short : length (octets_of c.args.parser.now) < place_of c.skip.new.parser + 10 = search rules in
    told_of c.from_residual-in_err-advance.result ShortInput c.from_residual-in_err-advance.ensures.1
    (λ same. behind_owner _ c.in_ok-skip.ensures.ok short, λ cut. refl)

pub returns-in_err-len-clause-err : goal.returns-in_err-len-clause-err
returns-in_err-len-clause-err c =
    let short : length (octets_of c.args.parser.now) < place_of c.skip.new.parser + 10 = search rules in
    on_err c.from_residual-in_err-len.result (skips_short c.in_ok-skip.ensures.ok short)

pub returns-in_err-len-clause-short : goal.returns-in_err-len-clause-short
returns-in_err-len-clause-short c =
    let short : length (octets_of c.args.parser.now) < place_of c.skip.new.parser + 10 = search rules in
    told_of c.from_residual-in_err-len.result ShortInput c.from_residual-in_err-len.ensures.1
    (λ same. behind_owner _ c.in_ok-skip.ensures.ok short, λ cut. refl)

pub returns-in_err-advance-2-clause-err : goal.returns-in_err-advance-2-clause-err
returns-in_err-advance-2-clause-err c =
    let message = octets_of c.args.parser.now in
    let behind = place_of c.skip.new.parser in
    let number : c.in_ok-len.len ≡ number_at message (behind + 8) = search rules in
    let short : length message < behind + 10 + c.in_ok-len.len = search rules in
    on_err c.from_residual-in_err-advance-2.result (skips_cut c.in_ok-skip.ensures.ok (omega (arith, short, number)))

pub returns-in_err-advance-2-clause-short : goal.returns-in_err-advance-2-clause-short
returns-in_err-advance-2-clause-short c =
    let message = octets_of c.args.parser.now in
    let behind = place_of c.skip.new.parser in
    let number : c.in_ok-len.len ≡ number_at message (behind + 8) = search rules in
    let short : length message < behind + 10 + c.in_ok-len.len = search rules in
    let whole : behind + 10 ≤ length message = search rules in
    told_of c.from_residual-in_err-advance-2.result ShortInput c.from_residual-in_err-advance-2.ensures.1
    (λ same. in_data _ c.in_ok-skip.ensures.ok whole (omega (arith, short, number)), λ cut. refl)

pub returns-clause-ok : goal.returns-clause-ok
returns-clause-ok c =
    let message = octets_of c.args.parser.now in
    let behind = place_of c.skip.new.parser in
    let number : c.in_ok-len.len ≡ number_at message (behind + 8) = search rules in
    let next : place_of c.advance-2.new.self ≡ behind + 10 + c.in_ok-len.len = search rules in
    let whole : behind + 10 ≤ length message = search rules in
    let within : place_of c.advance-2.new.self ≤ length message = search rules in
    record {
      behind = behind;
      owner = c.in_ok-skip.ensures.ok;
      whole = whole;
      ends = next ∙ ap (λ n. behind + 10 + n) number;
      within = within;
    }
