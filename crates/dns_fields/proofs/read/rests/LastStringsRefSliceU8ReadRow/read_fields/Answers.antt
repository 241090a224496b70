use Rattle.std.proofs.Common.{ℕ, List, inl, refl, sym, ◌∙◌, subst}
use Rattle.dns_octets.specs.Parser.{octets_of, place_of}
use Rattle.dns_fields.specs.Strings.{AreStringOctets}
use Rattle.dns_fields.proofs.CutFields.{row_whole}
use Rattle.dns_fields.proofs.ReadEach.{strings_sole, none_read}
use Rattle.dns_fields.proofs.ReadStrings.{all_read}
use Rattle.dns_fields.proofs.read.rests.LastStringsRefSliceU8ReadRow.read_fields.Goals as goal

pub returns-in-Some-clause-ok : goal.returns-in-Some-clause-ok
returns-in-Some-clause-ok c = record {
  each = (c.in-Some.ensures.field, tt);
  spelled = all_read (sym c.in-Some.ensures.some ∙ c.peek_all-octets.ensures) c.args.parser.now.within;
}

pub returns-in-Some-clause-sole : goal.returns-in-Some-clause-sole
returns-in-Some-clause-sole c =
    strings_sole (octets_of c.args.parser.now) _ (place_of c.args.parser.now) (sym c.in-Some.ensures.some ∙ c.peek_all-octets.ensures)

pub returns-in-None-clause-err : goal.returns-in-None-clause-err
returns-in-None-clause-err c =
    none_read _ _
    (λ are.
    let bad = c.in-None.ensures.are.1 (subst (λ (l : List ℕ). AreStringOctets l) (sym c.peek_all-octets.ensures) are) in
    absurd (cc))

pub returns-in-Some-clause-short : goal.returns-in-Some-clause-short
returns-in-Some-clause-short c = row_whole (λ none. none _ refl (returns-in-Some-clause-ok c))

pub returns-in-None-clause-short : goal.returns-in-None-clause-short
returns-in-None-clause-short c = (λ short. inl (returns-in-None-clause-err c), λ cut. refl)
