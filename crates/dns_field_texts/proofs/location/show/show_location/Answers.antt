use Rattle.std.proofs.Common.{sym, ◌∙◌, subst}
use Rattle.std.specs.Prelude.{OnOk, map}
use Rattle.dns_text.specs.Document.Piece.{Token}
use Rattle.dns_text.specs.Writing.{Adds}
use Rattle.dns_field_texts.specs.Location.{Location}
use Rattle.dns_field_texts.specs.LocationParts.{location_of}
use Rattle.dns_field_texts.specs.LocationText.{location_words}
use Rattle.dns_field_texts.proofs.LocationParts.{location_one}
use Rattle.dns_field_texts.proofs.location.show.show_location.Goals as goal

pub returns-in-Some : goal.returns-in-Some
returns-in-Some g c = λ location is written.
    let found = c.in-Some.ensures.some in
    let same = location_one (location_of c.in-Some.place) location found.0 is (sym found.1 ∙ written) in
    subst (λ (l : Location). OnOk c.show_place.result (Adds g.F.Formatter.writes c.args.formatter.now (map Token (location_words l)) c.show_place.new.formatter))
    same c.show_place.ensures
