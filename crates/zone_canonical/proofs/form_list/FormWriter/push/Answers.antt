use Rattle.std.proofs.Common.{◌≡◌, [], ◌∷◌, ◌++◌, length, ap, ◌∙◌, rules}
use Rattle.std.proofs.lemmas.Result.{on_ok_weaker}
use Rattle.zone_records.proofs.StoredRecords.{stored_more}
use Rattle.zone_canonical.proofs.form_list.FormWriter.push.Goals as goal

pub returns : goal.returns
returns c =
    let place : c.len.result ≡ length c.args.self.now.octets.items = search rules in
    on_ok_weaker c.append_to.result
    (λ written forms held. stored_more c.args.self.now.octets.items c.args.self.now.places.items c.append_to.new.octets.items c.push.new.self.items
    forms c.args.entry.now.form held c.append_to.ensures.known written
    (c.in_ok-push.ensures.items ∙ ap (λ n. c.args.self.now.places.items ++ n ∷ []) place))
    c.append_to.ensures.octets
