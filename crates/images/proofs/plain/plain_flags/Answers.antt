use Prim.Native.Nat.{◌+◌, ◌*◌}
use mathlib.Core.Path.{refl}
use lib.Dec.{leb}
use borrow.Author.Rules.{rules}
use borrow.Author.Tests.{tests}
use Rattle.octets.specs.BigEndian.{octet}
use Rattle.std.proofs.lemmas.Iterator.{YieldsList-from_range}
use Rattle.std.proofs.lemmas.Iterator.Search.{all_from_yields_List}
use Rattle.images.specs.Plain.{plain_flags}
use Rattle.images.proofs.plain.plain_flags.Goals as goal

pub returns : goal.returns
unfolding plain_flags
returns c =
    let octets = c.args.octets.now in
    all_from_yields_List (λ n. leb (octet octets (25 + 2 * n)) 3) _ _ c.all.result c.all.ensures.ran (YieldsList-from_range 0 8 8 refl refl) (λ x b q k. search (rules, tests))
