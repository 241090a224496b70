use Rattle.std.proofs.Common.{true, ◌≡◌, refl, rules}
use Rattle.dns_text.specs.Document.Layout.{Multiline}
use Rattle.dns_text.specs.Layout.{layout_of}
use Rattle.dns_text.proofs.Places.{shows_mark}
use Rattle.dns_text.proofs.writer.Writer.show_mark.Goals as goal

pub returns : goal.returns
returns g c =
    let is : layout_of c.args.self.now.kind ≡ Multiline = search rules in
    shows_mark _ c.args.self.now c.write_str.new.self c.write_str-2.new.self c.args.gap.now c.args.mark.now is
    (c.in_ok-write_str.ensures.ok (refl {a = true})) (c.in_ok-write_str-2.ensures.ok (refl {a = true}))
