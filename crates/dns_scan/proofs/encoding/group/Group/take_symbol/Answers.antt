use Rattle.std.proofs.Common.{ℕ, [], ◌∷◌, ◌++◌, sym, ◌∙◌, subst}
use Rattle.std.specs.Prelude.{Option}
use Rattle.dns_scan.specs.Decoding.{HasRead, progress_of, octet_in}
use Rattle.dns_scan.proofs.Deciphered.{deciphered_more, escaped_none, refused_none}
use Rattle.dns_scan.proofs.encoding.group.Group.take_symbol.Goals as goal

pub returns-in_default-clause-err : goal.returns-in_default-clause-err
returns-in_default-clause-err g c = λ short. escaped_none c.args.base c.args.self.now c.args.symbol c.in_default.not-Char

pub returns-in-Ok-Some-clause-ok : goal.returns-in-Ok-Some-clause-ok
returns-in-Ok-Some-clause-ok g c = λ symbols octets has.
    deciphered_more c.args.base c.args.self.now c.take.new.self symbols octets (c.in-Ok-Some.octet ∷ []) c.args.symbol c.in-Char.character c.in-Char.is has
    (λ given text read.
    let P : Option ℕ → Type 0 = λ o. HasRead c.args.base (progress_of (given ++ octet_in o) c.take.new.self) (text ++ c.in-Char.character ∷ []) in
    subst P c.in-Ok-Some.field-0-is (c.in-Ok-Some.ensures.ok given text read))

pub returns-in-Ok-None-clause-ok : goal.returns-in-Ok-None-clause-ok
returns-in-Ok-None-clause-ok g c = λ symbols octets has.
    deciphered_more c.args.base c.args.self.now c.take.new.self symbols octets [] c.args.symbol c.in-Char.character c.in-Char.is has
    (λ given text read.
    let P : Option ℕ → Type 0 = λ o. HasRead c.args.base (progress_of (given ++ octet_in o) c.take.new.self) (text ++ c.in-Char.character ∷ []) in
    subst P c.in-Ok-None.field-0-is (c.in-Ok-None.ensures.ok given text read))

pub returns-in-Err-clause-err : goal.returns-in-Err-clause-err
returns-in-Err-clause-err g c = λ short.
    refused_none c.args.base c.args.self.now c.args.symbol c.in-Char.character c.in-Err.error c.in-Char.is c.in-Err.ensures.why
    (sym c.scan_error.ensures.short ∙ short)
