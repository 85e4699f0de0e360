use mathlib.Core.Path.{refl}
use Rattle.octets.proofs.Splices.{write_splices}
use Rattle.rules.specs.Images.{flag_octets}
use Rattle.images.proofs.put.put_flags.Goals as goal

pub returns : goal.returns
unfolding flag_octets
returns c =
    let s = c.args.s in
    write_splices _ 40 8 _ (flag_octets s) (rw (c.phase_number.ensures, c.bit_of-4.ensures.0, c.bit_of-3.ensures.0, c.link_number.ensures, c.force_number.ensures, c.bit_of-2.ensures.0, c.bit_of.ensures.0) at c.copy_from_slice.ensures.after) refl
