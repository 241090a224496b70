use Rattle.std.proofs.Common.{rules, false}
use Rattle.std.specs.Prelude.{◌||◌, codes}
use Rattle.std.specs.Fmt.{HasWritten}
use Rattle.dns_header.specs.FlagWords.{word_text}
use Rattle.dns_header.proofs.FlagTexts.{flags_put}
use Rattle.dns_header.proofs.header.flags.FlagsDisplay.fmt.Goals as goal

pub returns-clause-writes : goal.returns-clause-writes
returns-clause-writes g c plain is_ok =
    let W = g.W.Write.write_str_gives in
    let f = c.args.self.now in
    let w1 : HasWritten W c.args.f.now (word_text false f.qr (codes "QR")) c.write_word.new.f = search rules in
    let w2 : HasWritten W c.write_word.new.f (word_text f.qr f.aa (codes "AA")) c.write_word-2.new.f = let here = w1 in search rules in
    let w3 : HasWritten W c.write_word-2.new.f (word_text (f.qr || f.aa) f.tc (codes "TC")) c.write_word-3.new.f = let here = w2 in search rules in
    let w4 : HasWritten W c.write_word-3.new.f (word_text ((f.qr || f.aa) || f.tc) f.rd (codes "RD")) c.write_word-4.new.f = let here = w3 in search rules in
    let w5 : HasWritten W c.write_word-4.new.f (word_text (((f.qr || f.aa) || f.tc) || f.rd) f.ra (codes "RA")) c.write_word-5.new.f = let here = w4 in search rules in
    let w6 : HasWritten W c.write_word-5.new.f (word_text ((((f.qr || f.aa) || f.tc) || f.rd) || f.ra) f.ad (codes "AD")) c.write_word-6.new.f = let here = w5 in search rules in
    let w7 : HasWritten W c.write_word-6.new.f (word_text (((((f.qr || f.aa) || f.tc) || f.rd) || f.ra) || f.ad) f.cd (codes "CD")) c.write_word-7.new.f = let here = w6 in search rules in
    flags_put W f _ _ _ _ _ _ _ _ w1 w2 w3 w4 w5 w6 w7
