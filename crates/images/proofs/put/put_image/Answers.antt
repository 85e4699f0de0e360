use native.Mathlib.Omega.{arith}
use mathlib.Core.Path.{◌≡◌, refl}
use lib.ListN.{length}
use Rattle.octets.specs.BigEndian.{octets32}
use Rattle.rules.specs.Written.{scenes_octets}
use Rattle.rules.specs.Images.{flag_octets, moment_octets, image}
use Rattle.rules.proofs.Laws.Written.{scenes_length}
use Rattle.images.proofs.Parts.{five_parts}
use Rattle.images.proofs.put.put_image.Goals as goal

-- each part right after the one before, until the buffer is full
pub returns : goal.returns
unfolding image flag_octets moment_octets octets32
returns c =
    let a = c.args in
    let table : length (scenes_octets a.s.scenes) ≡ 16 = rw (scenes_length a.s.scenes) (omega (arith, c.put_scenes.ensures.1)) in
    five_parts a.buf.now _ _ _ _ _ _ _ _ _ _ (omega arith) refl refl table refl refl
    c.put_times.ensures c.put_modes.ensures c.put_scenes.ensures.0 c.put_flags.ensures c.put_moments.ensures
