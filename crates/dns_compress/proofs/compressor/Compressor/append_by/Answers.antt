use Rattle.std.proofs.Common.{◌∙◌, ◌++◌, ℕ, List, length, ap, sym, subst, rules}
use Rattle.std.proofs.lemmas.Bool.{not-true, not-false}
use Rattle.dns_octets.specs.Builder.{IsPast}
use Rattle.dns_compress.proofs.Sound.{sound_of, sound_append, sound_either}
use Rattle.dns_compress.proofs.Naming.{text_is, named, longer, far_known, sound_seen, order_seen, known_done, sound_done}
use Rattle.dns_compress.proofs.compressor.Compressor.append_by.Goals as goal

pub returns-in_err-append_walked-clause-short : goal.returns-in_err-append_walked-clause-short
returns-in_err-append_walked-clause-short g c = λ is.
    let old : List ℕ = g.Target.Octets.list c.args.self.now.target in
    subst (λ (l : List ℕ). IsPast (g.Target.OctetsBuilder.bound c.args.self.now.target) (length (old ++ l)))
    (text_is _ _ old c.args.name.now _ _ _ _ c.walk-walk.ensures.walked _ c.as_slice.ensures.octets)
    (c.append_walked.ensures.short (search rules))

pub invariant_of-self-then-not-walk : goal.invariant_of-self-then-not-walk
invariant_of-self-then-not-walk g c =
    let still = sound_either c.append_walked.result _ _ c.append_walked.ensures.ok c.append_walked.ensures.err c.args.self.now.sound in
    record {
      plain = c.append_walked.ensures.known;
      sound = sound_of (g.met.T.Table.steady c.args.self.now.table _ _ c.args.self.now.sound still) still;
    }

pub returns-then-not-walk-clause-ok : goal.returns-then-not-walk-clause-ok
returns-then-not-walk-clause-ok g c =
    named _ _ _ c.args.name.now _ _ _ _ c.walk-walk.ensures.walked _ _ c.as_slice.ensures.octets c.in_ok-append_walked.ensures.ok

pub returns-then-not-walk-clause-known : goal.returns-then-not-walk-clause-known
returns-then-not-walk-clause-known g c =
    g.met.T.Table.steady c.args.self.now.table _ _ c.args.self.now.sound
    (sound_append _ _ c.in_ok-append_walked.ensures.ok c.args.self.now.sound)
    ∙ sym (far_known _ _ _ c.args.name.now _ _ _ _ c.walk-walk.ensures.walked _ _ c.as_slice.ensures.octets c.in_ok-append_walked.ensures.ok
    (not-true c.walk-walk.result.near c.if-not-walk.true))

pub returns-in_err-append_walked-2-clause-short : goal.returns-in_err-append_walked-2-clause-short
returns-in_err-append_walked-2-clause-short g c = λ is.
    let old : List ℕ = g.Target.Octets.list c.args.self.now.target in
    subst (λ (l : List ℕ). IsPast (g.Target.OctetsBuilder.bound c.args.self.now.target) (length (old ++ l)))
    (text_is _ _ old c.args.name.now _ _ _ _ c.walk-walk.ensures.walked _ c.as_slice-2.ensures.octets)
    (c.append_walked-2.ensures.short (search rules))

pub remember-requires-clause-sound : goal.remember-requires-clause-sound
remember-requires-clause-sound g c =
    sound_seen _ _ _ c.args.name.now _ _ _ _ c.walk-walk.ensures.walked _ _ c.as_slice-2.ensures.octets c.in_ok-append_walked-2.ensures.ok
    (length c.octets-place.result.now) (length c.octets-octets.result.now) (ap (length {A = ℕ}) c.octets-place.ensures) (ap (length {A = ℕ}) c.octets-octets.ensures)
    (g.T.Table.known c.reserve.new.self) c.octets-octets.result.now c.octets-octets.ensures
    (c.reserve.ensures.same _
    ∙ g.met.T.Table.steady c.args.self.now.table _ _ c.args.self.now.sound
    (sound_append _ _ c.in_ok-append_walked-2.ensures.ok c.args.self.now.sound))
    (not-false c.walk-walk.result.near c.if-not-walk.false) c.walk-walk.ensures.name c.args.self.now.sound

pub remember-requires-clause-order : goal.remember-requires-clause-order
remember-requires-clause-order g c =
    order_seen _ _ _ c.args.name.now _ _ _ _ c.walk-walk.ensures.walked _ _ c.as_slice-2.ensures.octets c.in_ok-append_walked-2.ensures.ok
    (length c.octets-place.result.now) (length c.octets-octets.result.now) (ap (length {A = ℕ}) c.octets-place.ensures) (ap (length {A = ℕ}) c.octets-octets.ensures)
    (g.T.Table.known c.reserve.new.self) c.octets-octets.result.now c.octets-octets.ensures
    (c.reserve.ensures.same _
    ∙ g.met.T.Table.steady c.args.self.now.table _ _ c.args.self.now.sound
    (sound_append _ _ c.in_ok-append_walked-2.ensures.ok c.args.self.now.sound))
    c.args.self.now.sound

pub remember-requires-clause-behind : goal.remember-requires-clause-behind
remember-requires-clause-behind g c =
    longer _ _ _ c.args.name.now _ _ _ _ c.walk-walk.ensures.walked _ _ c.as_slice-2.ensures.octets c.in_ok-append_walked-2.ensures.ok
    (length c.octets-place.result.now) (length c.octets-octets.result.now) (ap (length {A = ℕ}) c.octets-place.ensures) (ap (length {A = ℕ}) c.octets-octets.ensures)

pub invariant_of-self-2 : goal.invariant_of-self-2
invariant_of-self-2 g c = record {
  plain = c.append_walked-2.ensures.known;
  sound = sound_done _ _ _ c.args.name.now _ _ _ _ c.walk-walk.ensures.walked _ _ c.as_slice-2.ensures.octets c.in_ok-append_walked-2.ensures.ok
      (length c.octets-place.result.now) (length c.octets-octets.result.now) (ap (length {A = ℕ}) c.octets-place.ensures) (ap (length {A = ℕ}) c.octets-octets.ensures)
      (g.T.Table.known c.reserve.new.self) c.octets-octets.result.now c.octets-octets.ensures
      (c.reserve.ensures.same _
      ∙ g.met.T.Table.steady c.args.self.now.table _ _ c.args.self.now.sound
      (sound_append _ _ c.in_ok-append_walked-2.ensures.ok c.args.self.now.sound))
      (g.T.Table.known c.remember.new.self) (not-false c.walk-walk.result.near c.if-not-walk.false) c.remember.ensures c.walk-walk.ensures.name c.args.self.now.sound;
}

pub returns-clause-ok : goal.returns-clause-ok
returns-clause-ok g c =
    named _ _ _ c.args.name.now _ _ _ _ c.walk-walk.ensures.walked _ _ c.as_slice-2.ensures.octets c.in_ok-append_walked-2.ensures.ok

pub returns-clause-known : goal.returns-clause-known
returns-clause-known g c =
    known_done _ _ _ c.args.name.now _ _ _ _ c.walk-walk.ensures.walked _ _ c.as_slice-2.ensures.octets c.in_ok-append_walked-2.ensures.ok
    (length c.octets-place.result.now) (length c.octets-octets.result.now) (ap (length {A = ℕ}) c.octets-place.ensures) (ap (length {A = ℕ}) c.octets-octets.ensures)
    (g.T.Table.known c.reserve.new.self) c.octets-octets.result.now c.octets-octets.ensures
    (c.reserve.ensures.same _
    ∙ g.met.T.Table.steady c.args.self.now.table _ _ c.args.self.now.sound
    (sound_append _ _ c.in_ok-append_walked-2.ensures.ok c.args.self.now.sound))
    (g.T.Table.known c.remember.new.self) (not-false c.walk-walk.result.near c.if-not-walk.false) c.remember.ensures
