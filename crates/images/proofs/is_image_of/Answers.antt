use mathlib.Core.Path.{sym, ap, ◌∙◌}
use Rattle.rules.specs.Soundness.{sound}
use Rattle.images.proofs.Tests.{known_by_tests}
use Rattle.images.proofs.is_image_of.Goals as goal

pub returns-then-is_plain : goal.returns-then-is_plain
returns-then-is_plain c =
    let plain = sym c.is_plain.ensures ∙ c.if-is_plain.true in
    c.is_sound.ensures ∙ ap sound c.requires ∙ rw plain at (known_by_tests c.args.octets.now c.fits-octets c.told-octets)

pub returns-else-is_plain : goal.returns-else-is_plain
returns-else-is_plain c =
    let other = sym c.is_plain.ensures ∙ c.if-is_plain.false in
    c.if-is_plain.false ∙ rw other at (known_by_tests c.args.octets.now c.fits-octets c.told-octets)
