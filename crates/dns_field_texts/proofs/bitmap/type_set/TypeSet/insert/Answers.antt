use Rattle.dns_field_texts.proofs.bitmap.type_set.TypeSet.insert.Goals as goal

pub returns : goal.returns
returns c = record { ok = rw (← c.self.view_is) c.insert_bit.ensures.ok }
