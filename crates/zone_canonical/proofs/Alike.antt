-- Lists of records that are alike have the same canonical octets, and no others do.
use Rattle.std.proofs.Common.{◌≡◌, ℕ, List, [], ◌∷◌, sym, ap, ◌∙◌, subst}
use Rattle.std.specs.List.{AllByRecursion, AllZip, Contains, flat_map}
use Rattle.zone_records.specs.MessageRecord.{IsRecord, record_octets}
use Rattle.zone_records.specs.Record.{Record}
use Rattle.zone_canonical.specs.Canonical.{IsCanonicalOf, IsCanonical, IsFormOfOne, HaveFormOf, HasCanonicalForm, AreAlike, AreAmong}
use Rattle.zone_canonical.specs.CanonicalLaws.{canonical_total}
use Rattle.zone_canonical.proofs.Ascending.{all_in, same_elements}
use Rattle.zone_canonical.proofs.Forms.{one_form}
use Rattle.zone_canonical.proofs.LawfulForms.{form_lawful}
use Rattle.zone_canonical.proofs.SameOctets.{same_records}
use Rattle.zone_canonical.proofs.SortedForms.{itself, all_weaker}

-- one of the others is like the record
abbrev pub LikeOne : List Record → Record → Type 0
LikeOne others r = (other : Record) × Contains others other × AreAlike r other

-- a form of one list is a form of another that has a record like each of the first
forms_within : (records others : List Record) (octets other_octets : List ℕ) → AreAmong records others
    → (is : IsCanonical records octets) → (is' : IsCanonical others other_octets) → (form : Record) → Contains is.forms form → Contains is'.forms form
forms_within records others octets other_octets among is is' form has =
    let of_one = all_in (IsFormOfOne records) is.forms form is.only has in
    let r : Record = of_one.0 in
    let like = all_in (LikeOne others) records r among of_one.1 in
    let other : Record = like.0 in
    let found = all_in (HaveFormOf is'.forms) others other is'.all like.1 in
    let same : form ≡ found.0 =
    one_form r form like.2.0 of_one.2 like.2.1 ∙ one_form other like.2.0 found.0 like.2.2 found.2 in
    subst (Contains is'.forms) (sym same) found.1

forms_one : (records others : List Record) (octets other_octets : List ℕ) → AreAmong records others → AreAmong others records
    → (is : IsCanonical records octets) → (is' : IsCanonical others other_octets) → is.forms ≡ is'.forms
forms_one records others octets other_octets among among' is is' =
    same_elements canonical_total is.forms is'.forms is.ascend is'.ascend
    (forms_within records others octets other_octets among is is')
    (forms_within others records other_octets octets among' is' is)

pub among_same : (records others : List Record) (octets other_octets : List ℕ) → AreAmong records others → AreAmong others records
    → IsCanonical records octets → IsCanonical others other_octets → octets ≡ other_octets
among_same records others octets other_octets among among' is is' =
    is.written ∙ ap (flat_map record_octets) (forms_one records others octets other_octets among among' is is') ∙ sym is'.written

-- each record of a list with forms is in that list
like_itself : (whole records forms : List Record) → AllByRecursion (Contains whole) records → AllByRecursion (HaveFormOf forms) records
    → AllByRecursion (LikeOne whole) records
like_itself whole [] forms within all = tt
like_itself whole (r ∷ records) forms within all =
    ((r, within.0, (all.0.0, all.0.2, all.0.2)), like_itself whole records forms within.1 all.1)

pub one_canonical : (records : List Record) (octets other_octets : List ℕ) → IsCanonical records octets → IsCanonical records other_octets
    → octets ≡ other_octets
one_canonical records octets other_octets is is' =
    let among = like_itself records records is.forms (itself records) is.all in
    among_same records records octets other_octets among among is is'

-- the forms are records
forms_lawful : (records : List Record) (octets : List ℕ) → AllByRecursion HasCanonicalForm records → (is : IsCanonical records octets)
    → AllByRecursion IsRecord is.forms
forms_lawful records octets each is =
    all_weaker (IsFormOfOne records) IsRecord
    (λ form of_one. form_lawful of_one.0 form (all_in HasCanonicalForm records of_one.0 each of_one.1).lawful of_one.2) is.forms is.only

among_by_forms : (records others : List Record) (octets other_octets : List ℕ) (is : IsCanonical records octets)
    → (is' : IsCanonical others other_octets) → is.forms ≡ is'.forms → AreAmong records others
among_by_forms records others octets other_octets is is' same =
    all_weaker (HaveFormOf is.forms) (LikeOne others)
    (λ r has. let of_one = all_in (IsFormOfOne others) is'.forms has.0 is'.only (subst (λ l. Contains l has.0) same has.1) in
    (of_one.0, of_one.1, (has.0, has.2, of_one.2))) records is.all

pub same_among : (records others : List Record) (octets other_octets : List ℕ) → AllByRecursion HasCanonicalForm records
    → AllByRecursion HasCanonicalForm others → IsCanonical records octets → IsCanonical others other_octets → octets ≡ other_octets
    → AreAmong records others × AreAmong others records
same_among records others octets other_octets each each' is is' e =
    let same = same_records is.forms is'.forms (forms_lawful records octets each is) (forms_lawful others other_octets each' is')
    (sym is.written ∙ e ∙ is'.written) in
    (among_by_forms records others octets other_octets is is' same, among_by_forms others records other_octets octets is' is (sym same))

-- record by record
zip_among : (whole records others : List Record) → AllByRecursion (Contains whole) others → AllZip AreAlike records others
    → AllByRecursion (LikeOne whole) records
zip_among whole [] [] within zip = tt
zip_among whole [] (other ∷ others) within zip = absurd zip
zip_among whole (r ∷ records) [] within zip = absurd zip
zip_among whole (r ∷ records) (other ∷ others) within zip = ((other, within.0, zip.0), zip_among whole records others within.1 zip.1)

zip_all : (forms records others : List Record) → AllZip AreAlike records others → AllByRecursion (HaveFormOf forms) records
    → AllByRecursion (HaveFormOf forms) others
zip_all forms [] [] zip all = tt
zip_all forms [] (other ∷ others) zip all = absurd zip
zip_all forms (r ∷ records) [] zip all = absurd zip
zip_all forms (r ∷ records) (other ∷ others) zip all =
    let same : zip.0.0 ≡ all.0.0 = one_form r zip.0.0 all.0.0 zip.0.1 all.0.2 in
    ((all.0.0, all.0.1, subst (IsCanonicalOf other) same zip.0.2), zip_all forms records others zip.1 all.1)

zip_back : (records others : List Record) → AllZip AreAlike records others → AllZip AreAlike others records
zip_back [] [] zip = tt
zip_back [] (other ∷ others) zip = absurd zip
zip_back (r ∷ records) [] zip = absurd zip
zip_back (r ∷ records) (other ∷ others) zip = ((zip.0.0, zip.0.2, zip.0.1), zip_back records others zip.1)

alike_into : (records others : List Record) (octets : List ℕ) → AllZip AreAlike records others → IsCanonical records octets
    → IsCanonical others octets
alike_into records others octets zip is =
    let among = zip_among others records others (itself others) zip in
    record {
      forms = is.forms;
      ascend = is.ascend;
      only = all_weaker (IsFormOfOne records) (IsFormOfOne others)
          (λ form of_one. let like = all_in (LikeOne others) records of_one.0 among of_one.1 in
          (like.0, like.1, subst (IsCanonicalOf like.0) (one_form of_one.0 like.2.0 form like.2.1 of_one.2) like.2.2)) is.forms is.only;
      all = zip_all is.forms records others zip is.all;
      written = is.written;
    }

pub alike_same : (records others : List Record) (octets : List ℕ) → AllZip AreAlike records others
    → (IsCanonical records octets → IsCanonical others octets) × (IsCanonical others octets → IsCanonical records octets)
alike_same records others octets zip =
    (alike_into records others octets zip, alike_into others records octets (zip_back records others zip))
