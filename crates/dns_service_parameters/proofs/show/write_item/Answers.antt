use Rattle.std.proofs.Common.{◌≡◌, ◌<◌, ◌^◌, ℕ, get_or, length, sym, ◌∙◌, ap, subst, arith}
use Rattle.std.specs.Fmt.{HasWritten}
use Rattle.std.specs.List.{flat_map}
use Rattle.std.specs.Net.Addr.{ipv4_octets, ipv6_segments, segments_of}
use Rattle.std.specs.Net.Text.{hex_groups_addr, hex_groups_text, ipv4_text}
use Rattle.dns_scan.specs.StringText.{unquoted_text}
use Rattle.dns_service_parameters.specs.declared.form.Form.{Form}
use Rattle.dns_service_parameters.specs.ServiceShown.{IsItem, item_text}
use Rattle.dns_service_parameters.specs.ServiceText.{item_octet, key_text}
use Rattle.dns_service_parameters.proofs.ServiceShown.{bare_both, ipv4_bare, ipv6_bare, key_bare}
use Rattle.dns_service_parameters.proofs.show.write_item.Goals as goal

pub returns-in-Keys : goal.returns-in-Keys
returns-in-Keys g c = λ plain ok.
    let key = c.first_number.result in
    let shown = λ (form : Form). unquoted_text (flat_map item_octet (item_text form c.args.item.now)) in
    let bare : unquoted_text (flat_map item_octet (key_text key)) ≡ key_text key = bare_both (key_text key) (key_bare key (omega (arith, c.first_number.type_inv))) in
    let text : key_text key ≡ shown c.args.form =
    sym bare ∙ ap (λ n. unquoted_text (flat_map item_octet (key_text n))) c.first_number.ensures ∙ ap shown (sym c.in-Keys.is) in
    subst (λ l. HasWritten g.W.Write.write_str_gives c.args.f.now l c.write_key.new.f) text (c.write_key.ensures plain ok)

pub returns-in-Ipv4s : goal.returns-in-Ipv4s
returns-in-Ipv4s g c = λ plain ok.
    let octets = c.args.item.now in
    let shown = λ (form : Form). unquoted_text (flat_map item_octet (item_text form octets)) in
    let size : length octets ≡ 4 = subst (λ form. IsItem form octets) c.in-Ipv4s.is c.requires in
    let small : (k : ℕ) → get_or octets k 0 < 2 ^ 8 = λ k. omega (arith, c.type_inv.item k) in
    let text : ipv4_text (ipv4_octets c.ipv4_of.result) ≡ shown c.args.form =
    ap ipv4_text (c.ipv4_of.ensures size) ∙ sym (bare_both (ipv4_text octets) (ipv4_bare octets small)) ∙ ap shown (sym c.in-Ipv4s.is) in
    subst (λ l. HasWritten g.W.Write.write_str_gives c.args.f.now l c.write.new.self) text (c.write.ensures.writes plain ok)

pub returns-in-Ipv6s : goal.returns-in-Ipv6s
returns-in-Ipv6s g c = λ plain ok.
    let octets = c.args.item.now in
    let shown = λ (form : Form). unquoted_text (flat_map item_octet (item_text form octets)) in
    let size : length octets ≡ 16 = subst (λ form. IsItem form octets) c.in-Ipv6s.is c.requires in
    let small : (k : ℕ) → get_or octets k 0 < 2 ^ 8 = λ k. omega (arith, c.type_inv.item k) in
    let text : hex_groups_text (ipv6_segments (hex_groups_addr c.hex_groups.result)) ≡ shown c.args.form =
    ap (λ a. hex_groups_text (ipv6_segments a)) c.hex_groups.ensures ∙ ap hex_groups_text (c.ipv6_of.ensures size)
    ∙ sym (bare_both (hex_groups_text (segments_of octets)) (ipv6_bare octets size small)) ∙ ap shown (sym c.in-Ipv6s.is) in
    subst (λ l. HasWritten g.W.Write.write_str_gives c.args.f.now l c.write-in-Ipv6s.new.self) text (c.write-in-Ipv6s.ensures.writes plain ok)
