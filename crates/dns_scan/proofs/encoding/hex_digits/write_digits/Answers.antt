use Rattle.std.proofs.Common.{◌∙◌, ◌-◌, ℕ, List, ap, arith, length, take}
use Rattle.std.proofs.lemmas.List.{take_rest}
use Rattle.dns_name.specs.UnknownText.{hex_of}
use Rattle.dns_scan.proofs.HexLanes.{last_written, piece_written}
use Rattle.dns_scan.proofs.encoding.hex_digits.write_digits.Goals as goal

pub loop-at-preserved : goal.loop-at-preserved
loop-at-preserved c =
    let long = c.told-digits in
    let before = c.loop-at.invariant in (
      omega arith,
      piece_written c.loop-at.digits c.args.octets.now c.copy_from_slice.new.self c.loop-at.at _ (omega arith) (omega arith) before.1
          (c.copy_from_slice.ensures.after ∙ c.sixteen_digits.ensures
          ∙ ap (λ (l : List ℕ). hex_of (take 16 l)) (take_rest c.args.octets.now c.loop-at.at)),
    )

pub returns : goal.returns
returns c =
    let long = c.told-digits in
    let before = c.loop-at.invariant in
    last_written c.loop-at.digits c.args.octets.now c.copy_from_slice-2.new.self c.loop-at.at _ before.0 (omega arith) (omega arith) (omega arith) before.1
    (c.copy_from_slice-2.ensures.after ∙ c.sixteen_digits-2.ensures
    ∙ ap (λ (l : List ℕ). hex_of (take 16 l)) (take_rest c.args.octets.now (length c.args.octets.now - 16)))
